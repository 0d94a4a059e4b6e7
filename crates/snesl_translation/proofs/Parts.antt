-- `part` at whole lists of instances.
use Rattle.std.specs.Prelude.{◌≡◌, ℕ, zero, suc, ◌+◌, ◌≤◌, Bool, true, false, ◌&&◌, ◌==◌, List, [], ◌∷◌, ◌++◌, map, length, sum, Option, Some, None, option_map, refl}
use Rattle.std.specs.List.{slice_get}
use Rattle.std.proofs.Common.{arith, sym, ap, ◌∙◌, subst, length-append}
use Rattle.std.proofs.Math.Path.{ap₂}
use Rattle.std.proofs.lemmas.Bool.{eqb-true, eq-eqb}
use Rattle.std.proofs.lemmas.List.Sums.{sum_by-cons}
use Rattle.snesl_data.specs.declared.dialect.Dialect.{Dialect}
use Rattle.snesl_data.specs.Types.{Ty, bool, pair, seq}
use Rattle.snesl_data.specs.Values.{Value, a_bool, list_of, values_of}
use Rattle.snesl_grammar.specs.declared.tree.operator.Builtin.TheVariants.{Part}
use Rattle.flow_messages.specs.Cells.{Cell, flag}
use Rattle.flow_base.specs.Columns.{Columns}
use Rattle.flow_base.specs.Flags.{flags, concatenation, lengths}
use Rattle.flow_values.specs.Shapes.{is_a, cell_for, elements_of}
use Rattle.flow_nodes.specs.functions.Lists.{bind, only_if, each, same_lists, front, cut}
use Rattle.flow_nodes.specs.functions.Decoded.{one_in_segment, numbers, a_seq_of}
use Rattle.flow_nodes.specs.functions.Made.{part_flags_made}
use Rattle.flow_nodes.proofs.OfFunctions.Options.{bind_gives, map_gives, some_same, front_back, cut_forth, cut_back, map_map, map_joined}
use Rattle.flow_nodes.proofs.OfFunctions.Mapped.{map_some_map}
use Rattle.flow_nodes.proofs.OfFunctions.Decoding.{numbers_forth}
use Rattle.flow_nodes.proofs.OfFunctions.ValueDecoding.{list_values, elements_made}
use Rattle.snesl_evaluation.specs.Answer.{Answer, gives, faults, go, go_all}
use Rattle.snesl_evaluation.specs.Builtins.{truth_at, into_first, parts_answer, applied}
use Rattle.flow_nodes.specs.plans.Plans.{Operation, part_flags, made_by, streams_at}
use Rattle.snesl_translation.specs.Wires.{Wires, segments, stream_of, first_wires, second_wires, item_wires}
use Rattle.snesl_translation.specs.Makings.{done, stepped}
use Rattle.snesl_translation.specs.Translation.{call_streams}
use Rattle.snesl_translation.specs.Carrying.{Carries, Goes}
use Rattle.snesl_translation.proofs.Running.{bind_same}
use Rattle.snesl_translation.proofs.Carrying.{fresh, streams_joined, stream_carries, flags_carry, items_carry, carried_on, stepped_stops, first_stops}
use Rattle.snesl_translation.proofs.Doing.{Does, then_does, done_does}
use Rattle.snesl_translation.proofs.Instances.{each_map, map_each}
use Rattle.snesl_translation.proofs.Twins.{Agrees, agree_map, all_agree}
use Rattle.snesl_translation.proofs.Views.{all_from, both_from, bool_from, seq_from, cells_of_truths}
use Rattle.snesl_translation.proofs.Grouping.{grouped_carry}
use Rattle.snesl_translation.proofs.Groups.{lengths_inside, lengths_joined, lengths_lengths, joined_length, joined_append, nested}

-- the parts that flags make of values
abbrev parts_of : List Value × List Bool → Option (List (List Value))
parts_of q = bind (numbers (map flag q.1)) (λ ns. cut ns q.0)

-- an item before those of the first part
first_with : Value → List (List Value) → Option (List (List Value))
first_with v [] = None
first_with v (part ∷ parts) = Some ((v ∷ part) ∷ parts)

agree_first : (at : ℕ) (v : Value) (a : Answer (List (List Value))) (o : Option (List (List Value))) → Agrees a o → Agrees (go a (into_first at v)) (bind o (first_with v))
unfolding first_with
agree_first at v (gives []) o h = ap (λ o. bind o (first_with v)) h
agree_first at v (gives (part ∷ parts)) o h = ap (λ o. bind o (first_with v)) h
agree_first at v (faults kind place) o h = ap (λ o. bind o (first_with v)) h

none_more : (o : Option (List ℕ)) → bind (bind o one_in_segment) (λ ns. cut {A = Value} ns []) ≡ None
none_more None = refl
none_more (Some []) = refl
none_more (Some (n ∷ ns)) = refl

no_part : (o : Option (List ℕ)) (vs : List Value) → option_map (λ parts. [] ∷ parts) (bind o (λ ns. cut ns vs)) ≡ bind (option_map (λ ns. zero ∷ ns) o) (λ ns. cut ns vs)
no_part None vs = refl
no_part (Some ns) vs = refl

-- an item more
abbrev at_front : Value → List Value × List Value → List Value × List Value
at_front v p = (v ∷ p.0, p.1)

cut_with : (v : Value) (ns : List ℕ) (o : Option (List Value × List Value)) →
    bind (option_map (at_front v) o) (λ p. option_map (λ groups. p.0 ∷ groups) (cut ns p.1)) ≡ bind (bind o (λ p. option_map (λ groups. p.0 ∷ groups) (cut ns p.1))) (first_with v)
unfolding first_with
cut_with v ns None = refl
cut_with v ns (Some p) = go_on (cut ns p.1)
  where
    go_on : (q : Option (List (List Value))) → option_map (λ groups. (v ∷ p.0) ∷ groups) q ≡ bind (option_map (λ groups. p.0 ∷ groups) q) (first_with v)
    go_on None = refl
    go_on (Some groups) = refl

first_more : (v : Value) (o : Option (List ℕ)) (vs : List Value) → bind (bind o one_in_segment) (λ ns. cut ns (v ∷ vs)) ≡ bind (bind o (λ ns. cut ns vs)) (first_with v)
unfolding first_with
first_more v None vs = refl
first_more v (Some []) [] = refl
first_more v (Some []) (w ∷ vs) = refl
first_more v (Some (n ∷ ns)) vs = cut_with v ns (front n vs)

-- what is read as parts is what the flags make
parts_agree : (at : ℕ) (bs : List Bool) (vs : List Value) → Agrees (parts_answer at vs bs) (parts_of (vs, bs))
parts_agree at [] [] = refl
parts_agree at [] (v ∷ vs) = refl
parts_agree at (true ∷ bs) [] =
    subst (Agrees (parts_answer at [] (true ∷ bs))) (no_part (numbers (map flag bs)) []) (agree_map (λ parts. [] ∷ parts) (parts_answer at [] bs) (parts_of ([], bs)) (parts_agree at bs []))
parts_agree at (true ∷ bs) (v ∷ vs) =
    subst (Agrees (parts_answer at (v ∷ vs) (true ∷ bs))) (no_part (numbers (map flag bs)) (v ∷ vs))
    (agree_map (λ parts. [] ∷ parts) (parts_answer at (v ∷ vs) bs) (parts_of (v ∷ vs, bs)) (parts_agree at bs (v ∷ vs)))
parts_agree at (false ∷ bs) [] = none_more (numbers (map flag bs))
parts_agree at (false ∷ bs) (v ∷ vs) =
    subst (Agrees (parts_answer at (v ∷ vs) (false ∷ bs))) (sym (first_more v (numbers (map flag bs)) vs)) (agree_first at v (parts_answer at vs bs) (parts_of (vs, bs)) (parts_agree at bs vs))

-- where the lengths add up to that of the list, it is cut

front_there : (n : ℕ) (vs : List Value) → n ≤ length vs → (p : List Value × List Value) × (front n vs ≡ Some p)
front_there zero vs le = (([], vs), refl)
front_there (suc n) [] le = absurd (omega (arith))
front_there (suc n) (v ∷ vs) le = let g = front_there n vs (omega (arith)) in (at_front v g.0, ap (option_map (at_front v)) g.1)

cut_after : (n : ℕ) (ns : List ℕ) (vs : List Value) (p : List Value × List Value) (groups : List (List Value)) → front n vs ≡ Some p → cut ns p.1 ≡ Some groups → cut (n ∷ ns) vs ≡ Some (p.0 ∷ groups)
cut_after n ns vs p groups e f = ap (λ o. bind o (λ p. option_map (λ groups. p.0 ∷ groups) (cut ns p.1))) e ∙ ap (option_map (λ groups. p.0 ∷ groups)) f

cut_there : (ns : List ℕ) (vs : List Value) → sum ns ≡ length vs → (groups : List (List Value)) × (cut ns vs ≡ Some groups)
cut_there [] [] e = ([], refl)
cut_there [] (v ∷ vs) e = absurd (omega (arith))
cut_there (n ∷ ns) vs e =
    let all : n + sum ns ≡ length vs = sym (sum_by-cons (λ x. x) n ns) ∙ e in
    let f = front_there n vs (omega (arith)) in
    let b = front_back n vs f.0 f.1 in
    let sizes : length vs ≡ length f.0.0 + length f.0.1 = ap length b.1 ∙ length-append f.0.0 f.0.1 in
    let first : n ≡ length f.0.0 = b.0 in
    let g = cut_there ns f.0.1 (omega (arith)) in
    (f.0.0 ∷ g.0, cut_after n ns vs f.0 g.0 f.1 g.1)

cut_fits : (ns : List ℕ) (vs : List Value) → only_if (sum ns == length vs) ns ≡ option_map lengths (cut ns vs)
cut_fits ns vs = go_on (sum ns == length vs) (cut ns vs) refl refl
  where
    go_on : (b : Bool) (o : Option (List (List Value))) → sum ns == length vs ≡ b → cut ns vs ≡ o → only_if b ns ≡ option_map lengths o
    go_on true None e f = let g = cut_there ns vs (eqb-true (sum ns) (length vs) e) in let no : None ≡ Some g.0 = sym f ∙ g.1 in absurd (cc)
    go_on true (Some groups) e f = ap Some (cut_back ns vs groups f).0
    go_on false None e f = refl
    go_on false (Some groups) e f =
        let c = cut_back ns vs groups f in
        let same : sum ns ≡ length vs = ap sum c.0 ∙ joined_length groups ∙ ap length (sym c.1) in
        let no : true ≡ false = sym (eq-eqb (sum ns) (length vs) same) ∙ e in
        absurd (cc)

fit_both : (b c : Bool) (ns : List ℕ) (parts : List (List ℕ)) (o : Option (List (List Value))) (p : Option (List (List (List Value)))) → only_if b ns ≡ option_map lengths o
    → only_if c parts ≡ option_map (map (λ l. lengths l)) p → only_if (b && c) (ns ∷ parts) ≡ option_map (map (λ l. lengths l)) (bind o (λ y. option_map (λ ys. y ∷ ys) p))
fit_both true true ns parts (Some g) (Some gs) h k = ap₂ (λ n ns. Some (n ∷ ns)) (some_same ns (lengths g) h) (some_same parts (map (λ l. lengths l) gs) k)
fit_both true false ns parts (Some g) None h k = refl
fit_both false c ns parts None p h k = refl
fit_both true true ns parts None p h k = absurd (cc)
fit_both true true ns parts (Some g) None h k = absurd (cc)
fit_both true false ns parts None p h k = absurd (cc)
fit_both true false ns parts (Some g) (Some gs) h k = absurd (cc)
fit_both false c ns parts (Some g) p h k = absurd (cc)

-- the numbers of all flags, where they fit the values
abbrev fitting : List ℕ → Option (List (List ℕ)) → Option (List (List ℕ))
fitting ms o = bind o (λ parts. only_if (same_lists ◌==◌ (map sum parts) ms) parts)

nothing_fits : (q : Option (List (List Value))) (p : Option (List (List (List Value)))) → p ≡ None → None ≡ option_map (map (λ l. lengths l)) (bind q (λ y. option_map (λ ys. y ∷ ys) p))
nothing_fits None p e = refl
nothing_fits (Some g) p e = sym (ap (λ p. option_map (map (λ l. lengths l)) (option_map (λ ys. g ∷ ys) p)) e)

fit_more : (ms : List ℕ) (vs : List Value) (o : Option (List ℕ)) (r : Option (List (List ℕ))) (p : Option (List (List (List Value)))) → fitting ms r ≡ option_map (map (λ l. lengths l)) p
    → fitting (length vs ∷ ms) (bind o (λ y. option_map (λ ys. y ∷ ys) r)) ≡ option_map (map (λ l. lengths l)) (bind (bind o (λ ns. cut ns vs)) (λ y. option_map (λ ys. y ∷ ys) p))
fit_more ms vs None r p h = refl
fit_more ms vs (Some ns) None (Some gs) h = absurd (cc)
fit_more ms vs (Some ns) None None h = nothing_fits (cut ns vs) None refl
fit_more ms vs (Some ns) (Some parts) p h = fit_both (sum ns == length vs) (same_lists ◌==◌ (map sum parts) ms) ns parts (cut ns vs) p (cut_fits ns vs) h

all_fit : (qs : List (List Value × List Bool)) →
    fitting (lengths (map (λ q. q.0) qs)) (each (λ bs. numbers (map flag bs)) (map (λ q. q.1) qs)) ≡ option_map (map (λ l. lengths l)) (each parts_of qs)
all_fit [] = refl
all_fit (q ∷ qs) = fit_more (lengths (map (λ q. q.0) qs)) q.0 (numbers (map flag q.1)) (each (λ bs. numbers (map flag bs)) (map (λ q. q.1) qs)) (each parts_of qs) (all_fit qs)

-- how many parts, and how many elements they have
abbrev part_columns : List (List ℕ) → Columns
part_columns parts = flags (lengths parts) ∷ flags (concatenation parts) ∷ []

only_columns : (ms : List ℕ) (o : Option (List (List ℕ))) → bind o (λ parts. only_if (same_lists ◌==◌ (map sum parts) ms) (part_columns parts)) ≡ option_map part_columns (fitting ms o)
only_columns ms None = refl
only_columns ms (Some parts) = go_on (same_lists ◌==◌ (map sum parts) ms)
  where
    go_on : (b : Bool) → only_if b (part_columns parts) ≡ option_map part_columns (only_if b parts)
    go_on true = refl
    go_on false = refl

parts_made : (qs : List (List Value × List Bool)) →
    part_flags_made (flags (lengths (map (λ q. q.1) qs)) ∷ map flag (concatenation (map (λ q. q.1) qs)) ∷ flags (lengths (map (λ q. q.0) qs)) ∷ [])
    ≡ option_map (λ pss. part_columns (map (λ l. lengths l) pss)) (each parts_of qs)
parts_made qs =
    ap (λ o. bind o (λ ns. bind (cut ns b) rest)) (numbers_forth (lengths bss))
    ∙ ap (λ o. bind o rest) (ap₂ cut (sym (lengths_inside flag bss)) (map_joined flag bss) ∙ cut_forth (map (map flag) bss))
    ∙ ap (λ o. bind o last) (each_map numbers (map flag) bss)
    ∙ bind_same (each (λ bs. numbers (map flag bs)) bss) last (λ parts. only_if (same_lists ◌==◌ (map sum parts) ms) (part_columns parts))
    (λ parts. ap (λ o. bind o (λ ms. only_if (same_lists ◌==◌ (map sum parts) ms) (part_columns parts))) (numbers_forth ms))
    ∙ only_columns ms (each (λ bs. numbers (map flag bs)) bss)
    ∙ ap (option_map part_columns) (all_fit qs)
    ∙ map_some_map part_columns (map (λ l. lengths l)) (each parts_of qs)
  where
    bss : List (List Bool)
    bss = map (λ q. q.1) qs

    ms : List ℕ
    ms = lengths (map (λ q. q.0) qs)

    b : List Cell
    b = map flag (concatenation bss)

    last : List (List ℕ) → Option Columns
    last parts = bind (numbers (flags ms)) (λ ms. only_if (same_lists ◌==◌ (map sum parts) ms) (part_columns parts))

    rest : List (List Cell) → Option Columns
    rest pieces = bind (each numbers pieces) last

-- all parts have all the values
parts_joined : (qs : List (List Value × List Bool)) (pss : List (List (List Value))) → each parts_of qs ≡ Some pss → concatenation (map (λ q. q.0) qs) ≡ concatenation (concatenation pss)
parts_joined [] pss e = ap (λ l. concatenation (concatenation l)) (some_same [] pss e)
parts_joined (q ∷ qs) pss e =
    let one = bind_gives (parts_of q) (λ y. option_map (λ ys. y ∷ ys) (each parts_of qs)) e in
    let others = map_gives (λ ys. one.0 ∷ ys) (each parts_of qs) one.2 in
    let cuts = bind_gives (numbers (map flag q.1)) (λ ns. cut ns q.0) one.1 in
    ap₂ (λ a b. a ++ b) (cut_back cuts.0 q.0 one.0 cuts.2).1 (parts_joined qs others.0 others.1) ∙ sym (joined_append one.0 (concatenation others.0))
    ∙ ap (λ l. concatenation (concatenation l)) (sym others.2)

-- values and flags as arguments

abbrev truth_sequence : List Bool → Value
truth_sequence bs = a_seq_of (map a_bool bs)

abbrev part_arguments : List Value × List Bool → Value × Value
part_arguments q = (a_seq_of q.0, truth_sequence q.1)

truths_from : (v : Value) → is_a (seq bool) v ≡ true → (bs : List Bool) × (v ≡ truth_sequence bs)
truths_from v is =
    let s = seq_from bool v is in
    let all = all_from bool a_bool bool_from s.0 (subst (λ v. is_a (seq bool) v ≡ true) s.1 is) in
    (all.0, s.1 ∙ ap a_seq_of all.1)

truths_read : (at : ℕ) (bs : List Bool) → go_all (truth_at at) (list_of (values_of (map a_bool bs))) ≡ gives bs
truths_read at [] = refl
truths_read at (b ∷ bs) = ap (λ a. go a (λ ys. gives (b ∷ ys))) (truths_read at bs)

part_agrees : (dialect : Dialect) (at : ℕ) (q : List Value × List Bool) → Agrees (applied dialect at Part (a_seq_of q.0 ∷ truth_sequence q.1 ∷ [])) (option_map nested (parts_of q))
part_agrees dialect at q =
    let same : applied dialect at Part (a_seq_of q.0 ∷ truth_sequence q.1 ∷ []) ≡ go (parts_answer at q.0 q.1) (λ parts. gives (nested parts)) =
    ap₂ (λ (l : List Value) (a : Answer (List Bool)). go a (λ bs. go (parts_answer at l bs) (λ parts. gives (nested parts)))) (list_values q.0) (truths_read at q.1) in
    subst (λ a. Agrees a (option_map nested (parts_of q))) (sym same) (agree_map nested (parts_answer at q.0 q.1) (parts_of q) (parts_agree at q.1 q.0))

-- two streams of flags

-- the column that is there
abbrev alone : Option (List Cell) → Option Columns
alone o = bind o (λ x. Some (x ∷ []))

both_apart : (n m : ℕ) (streams : Columns) (c d : List Cell) → streams_at (n ∷ m ∷ []) streams ≡ Some (c ∷ d ∷ []) →
    (streams_at (n ∷ []) streams ≡ Some (c ∷ [])) × (streams_at (m ∷ []) streams ≡ Some (d ∷ []))
both_apart n m streams c d e = go_on (slice_get streams n) (slice_get streams m) e
  where
    go_on : (o p : Option (List Cell)) → bind o (λ x. option_map (λ xs. x ∷ xs) (alone p)) ≡ Some (c ∷ d ∷ []) → (alone o ≡ Some (c ∷ [])) × (alone p ≡ Some (d ∷ []))
    go_on None p e = absurd (cc)
    go_on (Some x) None e = absurd (cc)
    go_on (Some x) (Some y) e =
        let first : x ≡ c = cc in
        let second : y ≡ d = cc in
        (ap (λ x. Some (x ∷ [])) first, ap (λ y. Some (y ∷ [])) second)

abbrev TwoColumns : List Cell → List Cell → Columns → Wires → Type 0
TwoColumns c d streams w = (streams_at (stream_of (first_wires w) ∷ []) streams ≡ Some (c ∷ [])) × (streams_at (stream_of (second_wires w) ∷ []) streams ≡ Some (d ∷ []))

two_written : (streams : Columns) (at : ℕ) (operation : Operation) (reads : List ℕ) (read : Columns) (c d : List Cell) → streams_at reads streams
    ≡ Some read → made_by operation read ≡ Some (c ∷ d ∷ [])
    → Does streams (stepped at operation reads (pair bool bool) (length streams)) (TwoColumns c d)
two_written streams at operation reads read c d there made = (
  c ∷ d ∷ [],
  ap (λ o. bind o (λ read. bind (made_by operation read) (λ written. Some (streams ++ written)))) there
      ∙ ap (λ o. bind o (λ written. Some (streams ++ written))) made,
  omega (arith, length-append streams (c ∷ d ∷ [])),
  both_apart (length streams) (length streams + 1) (streams ++ (c ∷ d ∷ [])) c d (fresh (pair bool bool) streams (c ∷ d ∷ []) refl),
)

module _ (dialect : Dialect) (at : ℕ) (streams : Columns) where
  part_either : (u v : Wires) (t : Ty) (qs : List (List Value × List Bool)) (a : Answer (List Value)) (o : Option (List (List (List Value))))
      → streams_at (stream_of v ∷ stream_of (item_wires v) ∷ stream_of u ∷ []) streams
      ≡ Some (flags (lengths (map (λ q. q.1) qs)) ∷ map flag (concatenation (map (λ q. q.1) qs)) ∷ flags (lengths (map (λ q. q.0) qs)) ∷ [])
      → Carries streams (item_wires u) t (concatenation (map (λ q. q.0) qs)) → each parts_of qs ≡ o → Agrees a (option_map (map nested) o)
      → Goes streams (seq (seq t)) (call_streams dialect at Part (u ∷ v ∷ []) (length streams)) a
  part_either u v t qs (gives vs) (Some pss) there c e h =
      let reads = stream_of v ∷ stream_of (item_wires v) ∷ stream_of u ∷ [] in
      let step = stepped at part_flags reads (pair bool bool) (length streams) in
      let sizes = map (λ l. lengths l) pss in
      let read = flags (lengths (map (λ q. q.1) qs)) ∷ map flag (concatenation (map (λ q. q.1) qs)) ∷ flags (lengths (map (λ q. q.0) qs)) ∷ [] in
      let wrote = two_written streams at part_flags reads read (flags (lengths sizes)) (flags (concatenation sizes)) there
      (parts_made qs ∙ ap (option_map (λ pss. part_columns (map (λ l. lengths l) pss))) e) in
      let on = streams ++ wrote.0 in
      let first = stream_of (first_wires step.given) in
      let second = stream_of (second_wires step.given) in
      let items : Carries on (item_wires u) t (concatenation (concatenation pss)) =
      carried_on streams wrote.0 (item_wires u) t (concatenation (concatenation pss)) (subst (Carries streams (item_wires u) t) (parts_joined qs pss e) c) in
      let inner : Carries on (segments second (item_wires u)) (seq t) (map a_seq_of (concatenation pss)) =
      grouped_carry on second (item_wires u) t (concatenation pss) (wrote.3.1 ∙ ap (λ ns. Some (flags ns ∷ [])) (sym (lengths_joined pss))) items in
      let outer : Carries on (segments first (segments second (item_wires u))) (seq (seq t)) (map a_seq_of (map (map a_seq_of) pss)) =
      grouped_carry on first (segments second (item_wires u)) (seq t) (map (map a_seq_of) pss)
      (wrote.3.0 ∙ ap (λ ns. Some (flags ns ∷ [])) (sym (lengths_lengths pss) ∙ sym (lengths_inside a_seq_of pss)))
      (subst (Carries on (segments second (item_wires u)) (seq t)) (map_joined a_seq_of pss) inner) in
      let carried : Carries on (segments first (segments second (item_wires u))) (seq (seq t)) vs =
      subst (Carries on (segments first (segments second (item_wires u))) (seq (seq t))) (map_map a_seq_of (map a_seq_of) pss ∙ some_same (map nested pss) vs h) outer in
      let Holds : Columns → Wires → Type 0 = λ l w. Carries l w (seq (seq t)) vs in
      then_does step (λ h k. done (segments (stream_of (first_wires h)) (segments (stream_of (second_wires h)) (item_wires u))) k) streams
      (TwoColumns (flags (lengths sizes)) (flags (concatenation sizes))) Holds wrote
      (done_does (segments first (segments second (item_wires u))) on Holds carried)
  part_either u v t qs (gives vs) None there c e h = absurd (cc)
  part_either u v t qs (faults kind place) (Some pss) there c e h = absurd (cc)
  part_either u v t qs (faults kind place) None there c e h =
      let reads = stream_of v ∷ stream_of (item_wires v) ∷ stream_of u ∷ [] in
      let read = flags (lengths (map (λ q. q.1) qs)) ∷ map flag (concatenation (map (λ q. q.1) qs)) ∷ flags (lengths (map (λ q. q.0) qs)) ∷ [] in
      first_stops (stepped at part_flags reads (pair bool bool) (length streams)) (λ h k. done (segments (stream_of (first_wires h)) (segments (stream_of (second_wires h)) (item_wires u))) k) streams
      (stepped_stops streams at part_flags reads (pair bool bool) (length streams) read there (parts_made qs ∙ ap (option_map (λ pss. part_columns (map (λ l. lengths l) pss))) e))

  -- The first parts of the pairs in the parts that the second parts tell.
  pub part_goes : (u v : Wires) (t : Ty) (ps : List (Value × Value)) → Carries streams u (seq t) (map (λ p. p.0) ps) → Carries streams v (seq bool) (map (λ p. p.1) ps)
      → Goes streams (seq (seq t)) (call_streams dialect at Part (u ∷ v ∷ []) (length streams)) (go_all (λ p. applied dialect at Part (p.0 ∷ p.1 ∷ [])) ps)
  part_goes u v t ps cu cv =
      let all = both_from (seq t) (seq bool) a_seq_of truth_sequence (seq_from t) truths_from ps cu.are cv.are in
      let qs = all.0 in
      let vss = map (λ q. q.0) qs in
      let bss = map (λ q. q.1) qs in
      let f = λ (p : Value × Value). applied dialect at Part (p.0 ∷ p.1 ∷ []) in
      let left : map (λ p. p.0) ps ≡ map a_seq_of vss = ap (map (λ p. p.0)) all.1 ∙ map_map (λ p. p.0) part_arguments qs ∙ sym (map_map a_seq_of (λ q. q.0) qs) in
      let right : map (λ p. p.1) ps ≡ map a_seq_of (map (map a_bool) bss) =
      ap (map (λ p. p.1)) all.1 ∙ map_map (λ p. p.1) part_arguments qs ∙ sym (map_map truth_sequence (λ q. q.1) qs) ∙ sym (map_map a_seq_of (map a_bool) bss) in
      let values : map elements_of (map (λ p. p.0) ps) ≡ vss = ap (map elements_of) left ∙ elements_made vss in
      let truths : map elements_of (map (λ p. p.1) ps) ≡ map (map a_bool) bss = ap (map elements_of) right ∙ elements_made (map (map a_bool) bss) in
      let u_flags : streams_at (stream_of u ∷ []) streams ≡ Some (flags (lengths vss) ∷ []) = flags_carry streams u t (map (λ p. p.0) ps) cu ∙ ap (λ gs. Some (flags (lengths gs) ∷ [])) values in
      let u_items : Carries streams (item_wires u) t (concatenation vss) = subst (λ gs. Carries streams (item_wires u) t (concatenation gs)) values (items_carry streams u t (map (λ p. p.0) ps) cu) in
      let v_flags : streams_at (stream_of v ∷ []) streams ≡ Some (flags (lengths bss) ∷ []) =
      flags_carry streams v bool (map (λ p. p.1) ps) cv ∙ ap (λ gs. Some (flags (lengths gs) ∷ [])) truths ∙ ap (λ ns. Some (flags ns ∷ [])) (lengths_inside a_bool bss) in
      let v_items : streams_at (stream_of (item_wires v) ∷ []) streams ≡ Some (map flag (concatenation bss) ∷ []) =
      stream_carries streams (item_wires v) bool (concatenation (map elements_of (map (λ p. p.1) ps))) tt (items_carry streams v bool (map (λ p. p.1) ps) cv)
      ∙ ap (λ cs. Some (cs ∷ [])) (ap (λ gs. map cell_for (concatenation gs)) truths ∙ ap (map cell_for) (sym (map_joined a_bool bss)) ∙ cells_of_truths (concatenation bss)) in
      let there = streams_joined (stream_of v ∷ []) (stream_of (item_wires v) ∷ stream_of u ∷ []) streams (flags (lengths bss) ∷ []) (map flag (concatenation bss) ∷ flags (lengths vss) ∷ []) v_flags
      (streams_joined (stream_of (item_wires v) ∷ []) (stream_of u ∷ []) streams (map flag (concatenation bss) ∷ []) (flags (lengths vss) ∷ []) v_items u_flags) in
      part_either u v t qs (go_all f ps) (each parts_of qs) there u_items refl
      (subst (λ ps. Agrees (go_all f ps) (option_map (map nested) (each parts_of qs))) (sym all.1)
      (subst (λ o. Agrees (go_all f (map part_arguments qs)) o) (map_each parts_of nested qs) (all_agree part_arguments f (λ q. option_map nested (parts_of q)) (part_agrees dialect at) qs)))
