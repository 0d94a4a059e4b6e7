use Rattle.std.proofs.Common.{◌≡◌, false, length, sym, ap, ◌∙◌, arith, length-append}
use Rattle.flow_messages.specs.Columns.{column_messages}
use Rattle.flow_messages.specs.Signals.{has_end}
use Rattle.flow_messages.specs.Stores.{content_of}
use Rattle.flow_messages.proofs.Contents.{content-open, length-content, may_follow, moved_behind, open_put}
use Rattle.flow_messages.proofs.Signals.{ended-nil}
use Rattle.flow_messages.proofs.store.Store.append.Goals as goal

pub append-requires-clause-room : goal.append-requires-clause-room
append-requires-clause-room c =
    let s = c.args.self.now in
    let o = c.args.other.now in
    omega (arith, c.requires.room, s.reserved, length-content s.column s.ends, length-content o.column o.ends)

pub invariant_of-self : goal.invariant_of-self
invariant_of-self c =
    let s = c.args.self.now in
    let o = c.args.other.now in
    let new = c.append.ensures.moved in
    let free : s.ends ≡ false = may_follow s.column s.ends (content_of o) c.requires.ends (omega (arith, o.counts, c.if-other-eq0.false)) in
    let all = moved_behind s.column o.column c.append.new.self s.ends o.ends free new.messages in
    record {
      counts = omega (arith, s.counts, o.counts, ap length all, length-append (content_of s) (content_of o));
      bound = omega (arith, s.counts, o.counts, c.requires.room);
      of_kind = new.kind ∙ s.of_kind;
      items = rw new.messages (open_put (column_messages s.column) (column_messages o.column) s.items o.items);
      reserved = omega (arith, s.reserved, new.reserved);
    }

pub invariant_of-other : goal.invariant_of-other
invariant_of-other c =
    let o = c.args.other.now in
    let new = c.append.ensures.emptied in
    record {
      counts = sym (ap length (content-open c.append.new.other ∙ new.messages));
      bound = omega arith;
      of_kind = new.kind ∙ o.of_kind;
      items = ap has_end new.messages ∙ ended-nil;
      reserved = omega (arith, o.reserved, new.reserved);
    }

pub returns-clause-moved : goal.returns-clause-moved
returns-clause-moved c =
    let s = c.args.self.now in
    let o = c.args.other.now in
    let free : s.ends ≡ false = may_follow s.column s.ends (content_of o) c.requires.ends (omega (arith, o.counts, c.if-other-eq0.false)) in
    moved_behind s.column o.column c.append.new.self s.ends o.ends free c.append.ensures.moved.messages
