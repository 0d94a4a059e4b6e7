-- Steps of Tab along slices: a flag and a scalar for each of many elements, and the flag that ends them.
use Rattle.std.proofs.Common.{◌≡◌, ℕ, ℤ, suc, ◌+◌, ◌*◌, ◌<◌, ◌≤◌, Bool, true, false, cond, List, [], ◌∷◌, ◌++◌, length, map, take, get_or, Ok, Err}
use Rattle.std.proofs.Common.{refl, sym, ◌∙◌, ap, subst, arith, append-nil, append_assoc}
use Rattle.std.specs.Prelude.{replicate}
use Rattle.std.proofs.lemmas.List.{length-map, length-take-le, map-append, take-replicate, take-take, take_more}
use Rattle.std.proofs.lemmas.List.Elements.{All-nil, All-cons}
use mathlib.Core.List.{IsPrefix}
use Rattle.snesl_data.specs.declared.fault.FaultKind.TheVariants.{Shape}
use Rattle.snesl_data.specs.Types.{Ty, int, bool, pair, vec, seq, is_concrete}
use Rattle.snesl_data.specs.Values.{Value, an_int, a_bool, a_pair, a_vec, a_seq, values_of}
use Rattle.flow_messages.specs.Blocks.{flag_signals, int_signals, item_signals}
use Rattle.flow_messages.specs.Cells.{flag}
use Rattle.flow_messages.specs.Signals.{Signal, carry}
use Rattle.flow_base.specs.Along.{MovesAlong}
use Rattle.flow_base.specs.Flags.{F, T}
use Rattle.flow_base.specs.declared.slices.Moved.{Moved}
use Rattle.flow_messages.specs.declared.items.Items.{Items}
use Rattle.flow_base.specs.declared.slices.Written.{Written}
use Rattle.flow_base.proofs.Along.{Single, flags_shown, flags_within, ints_shown, single_first, single_none, single_ran, single_second, single_then}
use Rattle.flow_values.specs.Shapes.{is_a, all_are, cell_for}
use Rattle.flow_values.specs.TabBlocks.{AddsScalars, AreScalars, AwaitsFlag, is_scalar, scalar_signals}
use Rattle.flow_values.specs.TabMachine.{TabState, start, at_flag, at_item, at_end, tab_machine}
use Rattle.flow_values.specs.laws.Kinds.{both_true, and_true}

-- a scalar of a type is of it, and the type is concrete
scalar_is : (ty : Ty) (v : Value) → is_scalar ty v ≡ true → is_a ty v ≡ true
scalar_is int (an_int n) is = refl
scalar_is bool (a_bool b) is = refl
scalar_is int (a_bool b) is = absurd (cc)
scalar_is int (a_pair a b) is = absurd (cc)
scalar_is int (a_vec vs) is = absurd (cc)
scalar_is int (a_seq vs) is = absurd (cc)
scalar_is bool (an_int n) is = absurd (cc)
scalar_is bool (a_pair a b) is = absurd (cc)
scalar_is bool (a_vec vs) is = absurd (cc)
scalar_is bool (a_seq vs) is = absurd (cc)
scalar_is (pair first second) v is = absurd (cc)
scalar_is (vec item) v is = absurd (cc)
scalar_is (seq item) v is = absurd (cc)

scalar_concrete : (ty : Ty) (v : Value) → is_scalar ty v ≡ true → is_concrete ty ≡ true
scalar_concrete int v is = refl
scalar_concrete bool v is = refl
scalar_concrete (pair first second) v is = absurd (cc)
scalar_concrete (vec item) v is = absurd (cc)
scalar_concrete (seq item) v is = absurd (cc)

-- the first of scalars, and those after it
first_is : (ty : Ty) (v : Value) (vs : List Value) → AreScalars ty (v ∷ vs) → is_scalar ty v ≡ true
first_is ty v vs are = are 0 v (omega arith)

rest_are : (ty : Ty) (v : Value) (vs : List Value) → AreScalars ty (v ∷ vs) → AreScalars ty vs
rest_are ty v vs are = λ k d within. are (suc k) d (omega (arith, within))

-- with scalars of their type behind them elements stay of it
pub scalars_are : (ty : Ty) (es vs : List Value) → AreScalars ty vs → all_are ty (values_of es) ≡ true → all_are ty (values_of (es ++ vs)) ≡ true
scalars_are ty [] [] scalars are = refl
scalars_are ty [] (v ∷ vs) scalars are =
    and_true (is_a ty v) (all_are ty (values_of vs)) (scalar_is ty v (first_is ty v vs scalars)) (scalars_are ty [] vs (rest_are ty v vs scalars) refl)
scalars_are ty (e ∷ es) vs scalars are =
    let both = both_true (is_a ty e) (all_are ty (values_of es)) are in
    and_true (is_a ty e) (all_are ty (values_of (es ++ vs))) both.0 (scalars_are ty es vs scalars both.1)

-- integers and truth values as scalars
ints_are : (ns : List ℤ) → AreScalars int (map an_int ns)
ints_are [] = All-nil (λ v. is_scalar int v ≡ true)
ints_are (n ∷ ns) = All-cons (λ v. is_scalar int v ≡ true) (an_int n) (map an_int ns) refl (ints_are ns)

truths_are : (bs : List Bool) → AreScalars bool (map a_bool bs)
truths_are [] = All-nil (λ v. is_scalar bool v ≡ true)
truths_are (b ∷ bs) = All-cons (λ v. is_scalar bool v ≡ true) (a_bool b) (map a_bool bs) refl (truths_are bs)

ints_carried : (ns : List ℤ) → int_signals ns ≡ scalar_signals (map an_int ns)
ints_carried [] = refl
ints_carried (n ∷ ns) = ap (λ l. carry (cell_for (an_int n)) ∷ l) (ints_carried ns)

truths_carried : (bs : List Bool) → flag_signals bs ≡ scalar_signals (map a_bool bs)
truths_carried [] = refl
truths_carried (b ∷ bs) = ap (λ l. carry (cell_for (a_bool b)) ∷ l) (truths_carried bs)

-- the first of those that are shown were added
pub ints_added : (shown : Items) (ns : List ℤ) (whole k : ℕ) (old new : List Value) →
    IsPrefix (int_signals ns) (item_signals shown) → whole ≤ length ns → k ≤ length (take whole ns) → new ≡ old ++ map an_int (take k (take whole ns)) →
    AddsScalars int (take k (item_signals shown)) old new
ints_added shown ns whole k old new seen small within is =
    let few : k ≤ whole = omega (arith, within, length-take-le whole ns small) in
    record {
      scalars = map an_int (take k ns);
      are = ints_are (take k ns);
      carried = sym (ints_shown shown ns k seen (omega (arith, few, small))) ∙ ints_carried (take k ns);
      behind = is ∙ ap (λ l. old ++ map an_int l) (take-take k whole ns few);
    }

pub truths_added : (shown : Items) (bs : List Bool) (whole k : ℕ) (old new : List Value) →
    IsPrefix (flag_signals bs) (item_signals shown) → whole ≤ length bs → k ≤ length (take whole bs) → new ≡ old ++ map a_bool (take k (take whole bs)) →
    AddsScalars bool (take k (item_signals shown)) old new
truths_added shown bs whole k old new seen small within is =
    let few : k ≤ whole = omega (arith, within, length-take-le whole bs small) in
    record {
      scalars = map a_bool (take k bs);
      are = truths_are (take k bs);
      carried = sym (flags_shown shown bs k seen (omega (arith, few, small))) ∙ truths_carried (take k bs);
      behind = is ∙ ap (λ l. old ++ map a_bool l) (take-take k whole bs few);
    }

-- no message, no element more
pub nothing_added : (ty : Ty) (ms : List Signal) (n : ℕ) (old new : List Value) → n ≡ 0 → AddsScalars ty (take n ms) old new → new ≡ old
nothing_added ty ms n old new none adds =
    let no_scalars = empty adds.scalars (sym adds.carried ∙ ap (λ k. take k ms) none) in
    adds.behind ∙ ap (λ l. old ++ l) no_scalars ∙ append-nil old
  where
    empty : (vs : List Value) → scalar_signals vs ≡ [] → vs ≡ []
    empty [] e = refl
    empty (v ∷ vs) e = absurd (cc)

-- Steps that read these flags and these scalars, and write nothing.
abbrev Reading : Ty → TabState → TabState → List Signal → List Signal → ℕ → Type 0
Reading ty s t flags scalars n = Single tab_machine ty s t flags scalars [] n

-- the item of a scalar
scalar_item : (ty : Ty) (es : List Value) (v : Value) → is_scalar ty v ≡ true → Reading ty (at_item es []) (at_flag (es ++ v ∷ [])) [] (carry (cell_for v) ∷ []) 1
scalar_item int es (an_int n) is = single_second tab_machine int (at_item es []) (at_flag (es ++ an_int n ∷ [])) (cell_for (an_int n)) refl refl
scalar_item bool es (a_bool b) is = single_second tab_machine bool (at_item es []) (at_flag (es ++ a_bool b ∷ [])) (cell_for (a_bool b)) refl refl
scalar_item int es (a_bool b) is = absurd (cc)
scalar_item int es (a_pair a b) is = absurd (cc)
scalar_item int es (a_vec vs) is = absurd (cc)
scalar_item int es (a_seq vs) is = absurd (cc)
scalar_item bool es (an_int n) is = absurd (cc)
scalar_item bool es (a_pair a b) is = absurd (cc)
scalar_item bool es (a_vec vs) is = absurd (cc)
scalar_item bool es (a_seq vs) is = absurd (cc)
scalar_item (pair first second) es v is = absurd (cc)
scalar_item (vec item) es v is = absurd (cc)
scalar_item (seq item) es v is = absurd (cc)

-- the flags of so many elements
abbrev element_flags : ℕ → List Signal
element_flags n = flag_signals (replicate n false)

module _ (ty : Ty) where
  -- the flag of an element, and the one that ends the elements
  element_flag : (s : TabState) (es : List Value) → AwaitsFlag s es → is_concrete ty ≡ true → Reading ty s (at_item es []) (element_flags 1) [] 1
  element_flag start es due concrete =
      let leads = ap (λ b. cond b (Ok (at_item [] [])) (Err Shape)) concrete in
      let step = single_first tab_machine ty start (at_item [] []) F refl leads in
      subst (λ l. Reading ty start (at_item l []) (element_flags 1) [] 1) (sym due) step
  element_flag (at_flag got) es due concrete =
      let leads = ap (λ b. cond b (Ok (at_item got [])) (Err Shape)) concrete in
      let step = single_first tab_machine ty (at_flag got) (at_item got []) F refl leads in
      subst (λ l. Reading ty (at_flag got) (at_item l []) (element_flags 1) [] 1) (sym due) step
  element_flag (at_item es got) fs due concrete = absurd due
  element_flag (at_end es) fs due concrete = absurd due

  end_flag : (es : List Value) → is_concrete ty ≡ true → Reading ty (at_flag es) (at_end es) (carry T ∷ []) [] 1
  end_flag es concrete = single_first tab_machine ty (at_flag es) (at_end es) T refl (ap (λ b. cond b (Ok (at_end es)) (Err Shape)) concrete)

  -- an element: its flag, and its scalar
  element : (s : TabState) (es : List Value) (v : Value) → AwaitsFlag s es → is_scalar ty v ≡ true → Reading ty s (at_flag (es ++ v ∷ [])) (element_flags 1) (scalar_signals (v ∷ [])) 2
  element s es v due is =
      single_then tab_machine ty (element_flags 1) [] [] [] (scalar_signals (v ∷ [])) [] (element_flag s es due (scalar_concrete ty v is)) (scalar_item ty es v is)

  -- an element, and others
  and_others : (s : TabState) (es : List Value) (v : Value) (vs : List Value) → Reading ty s (at_flag (es ++ v ∷ [])) (element_flags 1) (scalar_signals (v ∷ [])) 2 →
      Reading ty (at_flag (es ++ v ∷ [])) (at_flag ((es ++ v ∷ []) ++ vs)) (element_flags (length vs)) (scalar_signals vs) (2 * length vs) →
      Reading ty s (at_flag (es ++ v ∷ vs)) (element_flags (length (v ∷ vs))) (scalar_signals (v ∷ vs)) (2 * length (v ∷ vs))
  and_others s es v vs one others =
      let flags = element_flags (length (v ∷ vs)) in
      let scalars = scalar_signals (v ∷ vs) in
      let all = single_then tab_machine ty (element_flags 1) (scalar_signals (v ∷ [])) [] (element_flags (length vs)) (scalar_signals vs) [] one others in
      let count : 2 + 2 * length vs ≡ 2 * length (v ∷ vs) = omega arith in
      let counted = subst (Reading ty s (at_flag ((es ++ v ∷ []) ++ vs)) flags scalars) count all in
      subst (λ l. Reading ty s (at_flag l) flags scalars (2 * length (v ∷ vs))) (append_assoc es (v ∷ []) vs) counted

  elements : (es vs : List Value) → AreScalars ty vs → Reading ty (at_flag es) (at_flag (es ++ vs)) (element_flags (length vs)) (scalar_signals vs) (2 * length vs)
  elements es [] are = subst (λ l. Reading ty (at_flag es) (at_flag l) [] [] 0) (sym (append-nil es)) (single_none tab_machine ty (at_flag es))
  elements es (v ∷ vs) are = and_others (at_flag es) es v vs (element (at_flag es) es v refl (first_is ty v vs are)) (elements (es ++ v ∷ []) vs (rest_are ty v vs are))

  -- one element and more, from where a flag comes next
  some_elements : (s : TabState) (es : List Value) (v : Value) (vs : List Value) → AwaitsFlag s es → AreScalars ty (v ∷ vs) →
      Reading ty s (at_flag (es ++ v ∷ vs)) (element_flags (length (v ∷ vs))) (scalar_signals (v ∷ vs)) (2 * length (v ∷ vs))
  some_elements s es v vs due are = and_others s es v vs (element s es v due (first_is ty v vs are)) (elements (es ++ v ∷ []) vs (rest_are ty v vs are))

-- so many of the first flags stand for elements, and so many elements are shown that were added
pub record Ahead (flags : List Bool) (first second : Items) (ahead added : ℕ) : Type 0 where
  pub seen : IsPrefix (flag_signals flags) (item_signals first)
  pub in_flags : ahead ≤ length flags
  pub elements : take ahead flags ≡ replicate ahead false
  pub few : added ≤ ahead
  pub there : added ≤ length (item_signals second)
  pub some : 0 < added

-- how far it moved: it writes nothing
abbrev pub moved_by : ℕ → ℕ → ℕ → Moved
moved_by first second steps = record { first = first; second = second; units = 0; flags = 0; ints = 0; steps = steps }

-- What it made of what was shown: a flag and a scalar for each of so many elements.
module _ (ty : Ty) (s : TabState) (es new : List Value) (first second : Items) (bs : List Bool) (ahead added : ℕ) (due : AwaitsFlag s es) (shown : Ahead bs first second ahead added) where
  flags_are : element_flags added ≡ flag_signals (take added bs)
  flags_are = ap flag_signals (sym (take-replicate added ahead false shown.few) ∙ ap (take added) (sym shown.elements) ∙ take-take added ahead bs shown.few)

  counted : (vs : List Value) → take added (item_signals second) ≡ scalar_signals vs → length vs ≡ added
  counted vs carried = sym (length-map vs (λ v. carry (cell_for v))) ∙ sym (ap length carried) ∙ length-take-le added (item_signals second) shown.there

  -- steps that read these elements, and the type of which they are
  abbrev Read : Type 0
  Read = Reading ty s (at_flag new) (flag_signals (take added bs)) (take added (item_signals second)) (2 * added) × (is_concrete ty ≡ true)

  read : AddsScalars ty (take added (item_signals second)) es new → Read
  read adds = go adds.scalars adds.are adds.carried adds.behind
    where
      go : (vs : List Value) → AreScalars ty vs → take added (item_signals second) ≡ scalar_signals vs → new ≡ es ++ vs → Read
      go [] are carried behind = absurd (omega (arith, shown.some, counted [] carried))
      go (v ∷ vs) are carried behind =
          let size = counted (v ∷ vs) carried in
          let scalars = scalar_signals (v ∷ vs) in
          let made = subst (λ l. Reading ty s (at_flag l) (element_flags (length (v ∷ vs))) scalars (2 * length (v ∷ vs))) (sym behind) (some_elements ty s es v vs due are) in
          let of_size = subst (λ n. Reading ty s (at_flag new) (element_flags n) scalars (2 * n)) size made in
          let of_flags = subst (λ l. Reading ty s (at_flag new) l scalars (2 * added)) flags_are of_size in
          let of_scalars = subst (λ l. Reading ty s (at_flag new) (flag_signals (take added bs)) l (2 * added)) (sym carried) of_flags in
          (of_scalars, scalar_concrete ty v (first_is ty v vs are))

  module _ (adds : AddsScalars ty (take added (item_signals second)) es new) (space most : ℕ) (block : Written) where
    -- it went on to this state, and moved so far
    abbrev Went : TabState → Moved → Type 0
    Went t moved = MovesAlong tab_machine (ty, s) (ty, t) first second space most block moved

    -- the elements alone
    alone : 2 * added ≤ most → Went (at_flag new) (moved_by added added (2 * added))
    alone may =
        let moved = moved_by added added (2 * added) in
        let within : added ≤ length bs = omega (arith, shown.few, shown.in_flags) in
        let flags = flags_shown first bs added shown.seen within in
        record {
          within = record {
            first = omega (arith, within, flags_within first bs shown.seen);
            second = shown.there;
            units = omega arith;
            flags = omega arith;
            ints = omega arith;
            steps = may;
          };
          ran = single_ran tab_machine ty (flag_signals (take added bs)) (take added (item_signals second)) [] (read adds).0 first second block moved refl flags refl refl refl;
        }

    -- and the flag that ends them
    with_end : 2 * added < most → added < length bs → get_or bs added false ≡ true → Went (at_end new) (moved_by (added + 1) added (2 * added + 1))
    with_end may within ends =
        let moved = moved_by (added + 1) added (2 * added + 1) in
        let fs = flag_signals (take added bs) in
        let xs = take added (item_signals second) in
        let ran = single_then tab_machine ty fs xs [] (carry T ∷ []) [] [] (read adds).0 (end_flag ty new (read adds).1) in
        let one_more : take (added + 1) bs ≡ take added bs ++ true ∷ [] = take_more bs added false within ∙ ap (λ b. take added bs ++ b ∷ []) ends in
        let all : fs ++ carry T ∷ [] ≡ flag_signals (take (added + 1) bs) = sym (ap flag_signals one_more ∙ map-append (λ b. carry (flag b)) (take added bs) (true ∷ [])) in
        let flags = all ∙ flags_shown first bs (added + 1) shown.seen (omega (arith, within)) in
        record {
          within = record {
            first = omega (arith, within, flags_within first bs shown.seen);
            second = shown.there;
            units = omega arith;
            flags = omega arith;
            ints = omega arith;
            steps = omega (arith, may);
          };
          ran = single_ran tab_machine ty (fs ++ carry T ∷ []) (xs ++ []) [] ran first second block moved refl flags (append-nil xs) refl refl;
        }

    -- the same with how many flags end them: none, or one
    pub elements_moved : (end : ℕ) → end ≡ 0 → 2 * added ≤ most → Went (at_flag new) (moved_by (added + end) added (2 * added + end))
    elements_moved end none may =
        let flags : added ≡ added + end = omega (arith, none) in
        let steps : 2 * added ≡ 2 * added + end = omega (arith, none) in
        subst (λ n. Went (at_flag new) (moved_by n added (2 * added + end))) flags (subst (λ k. Went (at_flag new) (moved_by added added k)) steps (alone may))

    pub end_moved : (end : ℕ) → end ≡ 1 → 2 * added < most → added < length bs → get_or bs added false ≡ true → Went (at_end new) (moved_by (added + end) added (2 * added + end))
    end_moved end one may within ends = subst (λ n. Went (at_end new) (moved_by (added + n) added (2 * added + n))) (sym one) (with_end may within ends)
