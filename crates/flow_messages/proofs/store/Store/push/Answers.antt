use Rattle.std.proofs.Common.{◌≡◌, true, false, [], ◌∷◌, ◌++◌, length, refl, sym, ap, ◌∙◌, rules, arith, length-append}
use Rattle.flow_messages.specs.declared.message.Msg.TheVariants.{End as EndMsg}
use Rattle.flow_messages.specs.Columns.{column_messages, content}
use Rattle.flow_messages.specs.Signals.{is_stop, signal_of}
use Rattle.flow_messages.proofs.Columns.{end_is, not_end}
use Rattle.flow_messages.proofs.Contents.{ends_not, length-content, open_put, put_end, put_items}
use Rattle.flow_messages.proofs.store.Store.push.Goals as goal

-- the end

pub invariant_of-self : goal.invariant_of-self
invariant_of-self c =
    let s = c.args.self.now in
    let free = ends_not s.column s.ends c.requires.open in
    record {
      counts = omega (arith, s.counts, ap length (put_end s.column s.ends free), length-append (content s.column s.ends) (EndMsg ∷ []));
      bound = omega (arith, s.counts, c.requires.room);
      of_kind = s.of_kind;
      items = s.items;
      reserved = s.reserved;
    }

pub returns-then-is_end : goal.returns-then-is_end
returns-then-is_end c =
    let s = c.args.self.now in
    let free = ends_not s.column s.ends c.requires.open in
    let stops : is_stop (signal_of c.args.message) ≡ true = search rules in
    record {
      content = put_end s.column s.ends free ∙ ap (λ m. content s.column s.ends ++ m ∷ []) (sym (end_is c.args.message stops));
      kind = refl;
      capacity = refl;
    }

-- an item

pub push-requires-clause-room : goal.push-requires-clause-room
push-requires-clause-room c =
    let s = c.args.self.now in
    omega (arith, s.reserved, c.requires.room, length-content s.column s.ends)

pub invariant_of-self-2 : goal.invariant_of-self-2
invariant_of-self-2 c =
    let s = c.args.self.now in
    let one = c.args.message ∷ [] in
    let free = ends_not s.column s.ends c.requires.open in
    let goes : is_stop (signal_of c.args.message) ≡ false = search rules in
    let new = c.push.ensures in
    record {
      counts = omega (arith, s.counts, ap length (put_items s.column c.push.new.self s.ends free one new.messages), length-append (content s.column s.ends) one);
      bound = omega (arith, s.counts, c.requires.room);
      of_kind = new.kind ∙ s.of_kind;
      items = rw new.messages (open_put (column_messages s.column) one s.items (not_end c.args.message goes));
      reserved = omega (arith, s.reserved, new.reserved);
    }

pub returns : goal.returns
returns c =
    let s = c.args.self.now in
    let free = ends_not s.column s.ends c.requires.open in
    record { content = put_items s.column c.push.new.self s.ends free (c.args.message ∷ []) c.push.ensures.messages; kind = refl; capacity = refl }
