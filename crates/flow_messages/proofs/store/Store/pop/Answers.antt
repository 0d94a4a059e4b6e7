use Rattle.std.proofs.Common.{◌≡◌, ℕ, ◌<◌, ◌≤◌, true, false, [], ◌∷◌, ◌++◌, length, refl, sym, ap, ◌∙◌, rules, arith}
use Rattle.flow_messages.specs.declared.message.Msg.TheVariants.{End as EndMsg}
use Rattle.flow_messages.specs.declared.store.Store.{Store}
use Rattle.flow_messages.specs.Columns.{column_messages, content, ending}
use Rattle.flow_messages.proofs.Contents.{count_ending, empty_of, length-content, nothing_in, open_tail, put_end, take_item}
use Rattle.flow_messages.proofs.Tables.{given, if_some, never_none}
use Rattle.flow_messages.proofs.store.Store.pop.Goals as goal

-- an item is there where more is held than the end
some_there : (s : Store) (n : ℕ) → n ≡ length (ending s.ends) → n < s.held → column_messages s.column ≡ [] → ⊥
some_there s n is more none = omega (arith, more, s.counts, length-content s.column s.ends, ap length none)

none_there : (s : Store) (n : ℕ) → n ≡ length (ending s.ends) → s.held ≤ n → column_messages s.column ≡ []
none_there s n is less = empty_of (column_messages s.column) (omega (arith, less, s.counts, length-content s.column s.ends))

-- an item

pub invariant_of-self : goal.invariant_of-self
invariant_of-self c =
    let s = c.args.self.now in
    let item = given c.take.result c.take.ensures.some c.take.ensures.none
    (λ none. some_there s c.from.result (count_ending s.ends c.from.result c.from.ensures) (omega (arith, c.if-self-from.true)) none.before) in
    let took = item.1 in
    record {
      counts = omega (arith, s.counts, ap length (take_item s.column c.take.new.self s.ends item.0 took.first));
      bound = omega (arith, s.bound);
      of_kind = took.kind ∙ s.of_kind;
      items = open_tail item.0 (column_messages c.take.new.self) (column_messages s.column) took.first s.items;
      reserved = omega (arith, s.reserved, took.reserved);
    }

pub returns-then-self-from-clause-some : goal.returns-then-self-from-clause-some
returns-then-self-from-clause-some c =
    let s = c.args.self.now in
    if_some _ _ c.take.result (λ m took. take_item s.column c.take.new.self s.ends m took.first) c.take.ensures.some

pub returns-then-self-from-clause-none : goal.returns-then-self-from-clause-none
returns-then-self-from-clause-none c =
    let s = c.args.self.now in
    never_none _ c.take.result c.take.ensures.none
    (λ none. some_there s c.from.result (count_ending s.ends c.from.result c.from.ensures) (omega (arith, c.if-self-from.true)) none.before)

-- the end

pub invariant_of-self-2 : goal.invariant_of-self-2
invariant_of-self-2 c =
    let s = c.args.self.now in
    let none = none_there s c.from.result (count_ending s.ends c.from.result c.from.ensures) (omega (arith, c.if-self-from.false)) in
    record {
      counts = sym (ap length (nothing_in s.column false refl none));
      bound = omega arith;
      of_kind = s.of_kind;
      items = s.items;
      reserved = s.reserved;
    }

pub returns-clause-some : goal.returns-clause-some
returns-clause-some c =
    let s = c.args.self.now in
    let none = none_there s c.from.result (count_ending s.ends c.from.result c.from.ensures) (omega (arith, c.if-self-from.false)) in
    let last : s.ends ≡ true = search rules in
    ap (content s.column) last ∙ put_end s.column false refl ∙ ap (λ l. l ++ EndMsg ∷ []) (nothing_in s.column false refl none)
    ∙ ap (λ l. EndMsg ∷ l) (sym (nothing_in s.column false refl none))
