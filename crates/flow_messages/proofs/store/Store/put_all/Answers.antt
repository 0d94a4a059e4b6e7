use Rattle.std.proofs.Common.{length, refl, ap, ◌∙◌, arith, length-append}
use Rattle.flow_messages.specs.Columns.{column_messages, content}
use Rattle.flow_messages.specs.Contents.{item_messages}
use Rattle.flow_messages.proofs.Contents.{ends_not, length-content, open_put, put_items}
use Rattle.flow_messages.proofs.SideBySide.{messages-open}
use Rattle.flow_messages.proofs.store.Store.put_all.Goals as goal

pub put_all-requires-clause-room : goal.put_all-requires-clause-room
put_all-requires-clause-room c =
    let s = c.args.self.now in
    omega (arith, s.reserved, c.requires.room, length-content s.column s.ends)

pub invariant_of-self : goal.invariant_of-self
invariant_of-self c =
    let s = c.args.self.now in
    let items = item_messages c.args.items in
    let free = ends_not s.column s.ends c.requires.open in
    let new = c.put_all.ensures in
    record {
      counts = omega (
        arith,
        s.counts,
        ap length (put_items s.column c.put_all.new.self s.ends free items new.messages),
        length-append (content s.column s.ends) items,
        c.len.ensures,
      );
      bound = omega (arith, s.counts, c.requires.room, c.len.ensures);
      of_kind = new.kind ∙ s.of_kind;
      items = rw new.messages (open_put (column_messages s.column) items s.items (messages-open c.args.items));
      reserved = omega (arith, s.reserved, new.reserved);
    }

pub returns : goal.returns
returns c =
    let s = c.args.self.now in
    let free = ends_not s.column s.ends c.requires.open in
    record { content = put_items s.column c.put_all.new.self s.ends free (item_messages c.args.items) c.put_all.ensures.messages; kind = refl; capacity = refl }
