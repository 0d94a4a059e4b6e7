use Rattle.std.proofs.Common.{◌≡◌, ◌-◌, length, refl, ap, ◌∙◌, arith, length-drop}
use Rattle.flow_messages.specs.Columns.{column_messages, content}
use Rattle.flow_messages.proofs.Contents.{content-open, length-content, open_drop, skip_items, skip_whole, all_gone, some_left}
use Rattle.flow_messages.proofs.store.Store.skip.Goals as goal

-- the end is the last of them

pub overflow_sub-count : goal.overflow_sub-count
overflow_sub-count c =
    let s = c.args.self.now in
    let gone = all_gone s.ends _ c.if-all.true in
    omega (arith, s.counts, length-content s.column s.ends, gone.0, gone.1)

pub skip-requires : goal.skip-requires
skip-requires c =
    let s = c.args.self.now in
    let gone = all_gone s.ends _ c.if-all.true in
    omega (arith, s.counts, length-content s.column s.ends, c.requires.there, gone.0, gone.1)

pub invariant_of-self : goal.invariant_of-self
invariant_of-self c =
    let s = c.args.self.now in
    let gone = all_gone s.ends _ c.if-all.true in
    let long = length-content s.column s.ends in
    let items = column_messages s.column in
    let none : length (column_messages c.skip.new.self) ≡ 0 =
    omega (arith, ap length c.skip.ensures.messages, length-drop (c.args.count - 1) items, s.counts, long, c.requires.there, gone.0, gone.1) in
    record {
      counts = omega (arith, gone.1, ap length (content-open c.skip.new.self), none);
      bound = omega (arith, s.bound);
      of_kind = c.skip.ensures.kind ∙ s.of_kind;
      items = rw c.skip.ensures.messages (open_drop (c.args.count - 1) items s.items);
      reserved = omega (arith, s.reserved, c.skip.ensures.reserved);
    }

pub returns-then-all : goal.returns-then-all
returns-then-all c =
    let s = c.args.self.now in
    let gone = all_gone s.ends _ c.if-all.true in
    let long = length-content s.column s.ends in
    let items = column_messages s.column in
    let none : length (column_messages c.skip.new.self) ≡ 0 =
    omega (arith, ap length c.skip.ensures.messages, length-drop (c.args.count - 1) items, s.counts, long, c.requires.there, gone.0, gone.1) in
    record {
      content = skip_whole s.column c.skip.new.self s.ends c.args.count (omega (arith, s.counts, gone.1)) none;
      kind = refl;
      capacity = refl;
    }

-- some are left

pub skip-requires-2 : goal.skip-requires-2
skip-requires-2 c =
    let s = c.args.self.now in
    some_left s.ends s.held c.args.count (length (column_messages s.column)) c.if-all.false (s.counts ∙ length-content s.column s.ends) (omega (arith, s.counts, c.requires.there))

pub invariant_of-self-2 : goal.invariant_of-self-2
invariant_of-self-2 c =
    let s = c.args.self.now in
    let items = column_messages s.column in
    let low = some_left s.ends s.held c.args.count (length items) c.if-all.false (s.counts ∙ length-content s.column s.ends) (omega (arith, s.counts, c.requires.there)) in
    record {
      counts = omega (
        arith,
        s.counts,
        ap length (skip_items s.column c.skip-2.new.self s.ends c.args.count low c.skip-2.ensures.messages),
        length-drop c.args.count (content s.column s.ends),
      );
      bound = omega (arith, s.bound);
      of_kind = c.skip-2.ensures.kind ∙ s.of_kind;
      items = rw c.skip-2.ensures.messages (open_drop c.args.count items s.items);
      reserved = omega (arith, s.reserved, c.skip-2.ensures.reserved);
    }

pub returns : goal.returns
returns c =
    let s = c.args.self.now in
    let items = column_messages s.column in
    let low = some_left s.ends s.held c.args.count (length items) c.if-all.false (s.counts ∙ length-content s.column s.ends) (omega (arith, s.counts, c.requires.there)) in
    record {
      content = skip_items s.column c.skip-2.new.self s.ends c.args.count low c.skip-2.ensures.messages;
      kind = refl;
      capacity = refl;
    }
