-- Items that fit their places make a value.
use Rattle.std.specs.Prelude.{◌≡◌, ℕ, zero, suc, ◌+◌, ◌-◌, ◌<◌, ◌≤◌, Bool, if◌then◌else◌, true, false, List, [], ◌∷◌, ◌++◌, Some, None, Result, Ok, Err, cond, nat_lt, length, map, take, drop, refl}
use Rattle.std.specs.List.{slice_get}
use Rattle.std.specs.Result.{IsErrAnd}
use Rattle.std.proofs.Common.{inl, inr, arith, get_or, sym, ◌∙◌, ap, subst, append_assoc, length-append, append-nil}
use Rattle.std.proofs.lemmas.List.{length-map, map-append, length-take-le, take-append-drop}
use Rattle.std.proofs.lemmas.Option.{slice_get_within, slice_get-get_or}
use Rattle.std.proofs.lemmas.Bool.{cases_lt}
use Rattle.std.proofs.lemmas.Bool.Decides.{nat_tests}
use Rattle.snesl_data.specs.declared.fault.FaultKind.TheVariants.{Shape}
use Rattle.snesl_data.specs.Types.{Ty, int, bool, pair, vec, seq}
use Rattle.snesl_data.specs.Values.{Value, an_int, a_bool, a_pair}
use Rattle.flow_messages.specs.declared.message.Item.{Item}
use Rattle.flow_messages.specs.declared.message.Kind.{Kind}
use Rattle.flow_messages.specs.Cells.{Cell, flag, int as int_cell, datum, unit, cell_of, is_of}
use Rattle.flow_base.specs.Workers.{Takes}
use Rattle.flow_base.specs.declared.worker.Stop.{Stop}
use Rattle.flow_base.specs.declared.worker.Stop.TheVariants.{Faulted, OutOfMemory}
use Rattle.flow_values.specs.Shapes.{kinds_of, kind_at}
use Rattle.flow_values.specs.Flats.{width}
use Rattle.flow_values.specs.Parts.{built, and_then, with_first, part_fits, PartsFit}
use Rattle.flow_values.specs.laws.PartFits.{part_kind, in_first, in_second, get_left, get_right}
use Rattle.flow_base.specs.Machines.{state_after_read, with_parameters}
use Rattle.flow_values.specs.TabMachine.{TabState, MakesDatum, at_flag, at_item, with_element, grown, item_given, item_port, tab_move}

-- one more item that fits after those that do
pub parts_more : (ty : Ty) (got : List Cell) (x : Cell) → PartsFit ty got → part_fits ty (length got) x ≡ true → PartsFit ty (got ++ x ∷ [])
parts_more ty got x fit next = record { each = at }
  where
    at : (k : ℕ) (y : Cell) → slice_get (got ++ x ∷ []) k ≡ Some y → part_fits ty k y ≡ true
    at k y e = elim (cases_lt k (length got)) [
      | inl lt ↦ fit.each k y (sym (get_left got (x ∷ []) k lt) ∙ e)
      | inr le ↦
          let within = slice_get_within (got ++ x ∷ []) k y e in
          let size = length-append got (x ∷ []) in
          let last : k ≡ length got = omega (arith, le, within, size) in
          let place : k ≡ length got + 0 = omega (arith, last) in
          let there : slice_get (got ++ x ∷ []) k ≡ Some x = ap (slice_get (got ++ x ∷ [])) place ∙ get_right got (x ∷ []) 0 in
          let both : Some x ≡ Some y = sym there ∙ e in
          let same : x ≡ y = cc in
          subst (λ z. part_fits ty k z ≡ true) same (subst (λ n. part_fits ty n x ≡ true) (sym last) next)
    ]

-- the place after the items in memory
pub fits_after : (ty : Ty) (items : List Item) (x : Item) (n : ℕ) → n ≡ length items → true ≡ part_fits ty n (cell_of x) → part_fits ty (length (map cell_of items)) (cell_of x) ≡ true
fits_after ty items x n all fits = ap (λ k. part_fits ty k (cell_of x)) (length-map items cell_of ∙ sym all) ∙ sym fits

-- all fit where it may have been added
pub parts_pushed : (ty : Ty) (old new : List Item) (x : Item) (pushed : Bool) → PartsFit ty (map cell_of old) →
    part_fits ty (length (map cell_of old)) (cell_of x) ≡ true → new ≡ if pushed then (old ++ x ∷ []) else old → PartsFit ty (map cell_of new)
parts_pushed ty old new x true fit next is =
    subst (λ l. PartsFit ty l) (sym (ap (map cell_of) is ∙ map-append cell_of old (x ∷ []))) (parts_more ty (map cell_of old) (cell_of x) fit next)
parts_pushed ty old new x false fit next is = subst (λ l. PartsFit ty (map cell_of l)) (sym is) fit

-- no item fits after the last place
fits_within : (ty : Ty) (k : ℕ) (x : Cell) → part_fits ty k x ≡ true → k < width ty
fits_within int zero x e = omega arith
fits_within int (suc k) x e = absurd (cc)
fits_within bool zero x e = omega arith
fits_within bool (suc k) x e = absurd (cc)
fits_within (vec item) zero x e = omega arith
fits_within (vec item) (suc k) x e = absurd (cc)
fits_within (pair first second) k x e =
    let size = length-append (kinds_of first) (kinds_of second) in
    elim (cases_lt k (width first)) [
      | inl lt ↦ omega (arith, lt, size)
      | inr le ↦ let h = fits_within second (k - width first) x (sym (in_second first second k x le) ∙ e) in omega (arith, le, size, h)
    ]
fits_within (seq item) k x e = absurd (cc)

parts_size : (ty : Ty) (got : List Cell) → PartsFit ty got → width ty ≤ length got → length got ≡ width ty
parts_size ty got fit le = elim (cases_lt (width ty) (length got)) [
  | inl lt ↦
      let x = get_or got (width ty) unit in
      let h = fits_within ty (width ty) x (fit.each (width ty) x (slice_get-get_or got (width ty) unit lt)) in
      absurd (omega (arith, h))
  | inr ge ↦ omega (arith, le, ge)
]

split_at : (n : ℕ) (xs : List Cell) → n ≤ length xs → (a : List Cell) × (b : List Cell) × (xs ≡ a ++ b) × (length a ≡ n)
split_at n xs le = (take n xs, drop n xs, sym (take-append-drop n xs), length-take-le n xs le)

-- so many items that fit make a value
made : (ty : Ty) (xs rest : List Cell) → length xs ≡ width ty → ((k : ℕ) (x : Cell) → slice_get xs k ≡ Some x → part_fits ty k x ≡ true) → (v : Value) × (built ty (xs ++ rest) ≡ Some (v, rest))
made int [] rest size fit = absurd (omega arith)
made int (int_cell n ∷ []) rest size fit = (an_int n, refl)
made int (x ∷ []) rest size fit = let never = fit 0 x refl in absurd (cc)
made int (x ∷ y ∷ xs) rest size fit = absurd (omega arith)
made bool [] rest size fit = absurd (omega arith)
made bool (flag b ∷ []) rest size fit = (a_bool b, refl)
made bool (x ∷ []) rest size fit = let never = fit 0 x refl in absurd (cc)
made bool (x ∷ y ∷ xs) rest size fit = absurd (omega arith)
made (vec item) [] rest size fit = absurd (omega arith)
made (vec item) (datum v ∷ []) rest size fit = (v, ap (λ b. cond b (Some (v, rest)) None) (fit 0 (datum v) refl))
made (vec item) (x ∷ []) rest size fit = let never = fit 0 x refl in absurd (cc)
made (vec item) (x ∷ y ∷ xs) rest size fit = absurd (omega arith)
made (pair first second) xs rest size fit =
    let all = length-append (kinds_of first) (kinds_of second) in
    let s = split_at (width first) xs (omega (arith, size, all)) in
    let sizes : length xs ≡ length s.0 + length s.1 = ap length s.2 ∙ length-append s.0 s.1 in
    let short = s.3 in
    let of_first = made first s.0 (s.1 ++ rest) s.3 (λ k x e.
    let within = slice_get_within s.0 k x e in
    let lt : k < width first = omega (arith, within, short) in
    sym (in_first first second k x lt) ∙ fit k x (ap (λ l. slice_get l k) s.2 ∙ get_left s.0 s.1 k within ∙ e)) in
    let of_second = made second s.1 rest (omega (arith, size, all, sizes, short)) (λ k x e.
    let j : length s.0 + k - width first ≡ k = omega (arith, short) in
    let le : width first ≤ length s.0 + k = omega (arith, short) in
    ap (λ n. part_fits second n x) (sym j) ∙ sym (in_second first second (length s.0 + k) x le) ∙ fit (length s.0 + k) x (ap (λ l. slice_get l (length s.0 + k)) s.2 ∙ get_right s.0 s.1 k ∙ e)) in (
      a_pair of_first.0 of_second.0,
      ap (λ l. built (pair first second) (l ++ rest)) s.2
          ∙ ap (built (pair first second)) (append_assoc s.0 s.1 rest)
          ∙ ap (and_then (built second)) of_first.1
          ∙ ap (with_first of_first.0) of_second.1,
    )
made (seq item) [] rest size fit = absurd (omega arith)
made (seq item) (x ∷ xs) rest size fit = let never = fit 0 x refl in absurd (cc)

-- where all items of an element are there and fit, they make it
pub parts_made : (ty : Ty) (got : List Cell) → PartsFit ty got → width ty ≤ length got → (v : Value) × (built ty got ≡ Some (v, []))
parts_made ty got fit le =
    let h = made ty got [] (parts_size ty got fit le) fit.each in
    (h.0, ap (built ty) (sym (append-nil got)) ∙ h.1)

-- so nothing but memory is missing there
module _ (ty : Ty) (es : List Value) (got : List Cell) (fit : PartsFit ty got) (le : width ty ≤ length got) (old new : Ty × TabState) (same : new ≡ old) where
  grows : (v : Value) × (grown ty es got ≡ Ok (at_flag (es ++ v ∷ [])))
  grows =
      let outside : nat_lt (length got) (width ty) ≡ false = grind (arith, nat_tests, le) in
      let h = parts_made ty got fit le in
      (h.0, ap (λ b. cond b (Ok (at_item es got)) (with_element es (built ty got))) outside ∙ ap (with_element es) h.1)

  pub refused_grows : Takes (with_parameters ty (grown ty es got)) old (Err OutOfMemory) new
  refused_grows = subst (λ r. Takes (with_parameters ty r) old (Err OutOfMemory) new) (sym grows.1) same

  pub stopped_grows : (e : Stop) (items : List Item) → MakesDatum (built ty got) (Err e) items → Takes (with_parameters ty (grown ty es got)) old (Err e) new
  stopped_grows OutOfMemory items h = refused_grows
  stopped_grows (Faulted kind) items h =
      let made = parts_made ty got fit le in
      absurd (subst (λ r. MakesDatum r (Err (Faulted kind)) items) made.1 h)

  -- the same of what a `?` passes on
  pub refused_answer : (r : Result (Unit {0}) Stop) → IsErrAnd r (λ e. e ≡ OutOfMemory) → Takes (with_parameters ty (grown ty es got)) old r new
  refused_answer (Ok u) h = absurd h
  refused_answer (Err e) h = subst (λ e. Takes (with_parameters ty (grown ty es got)) old (Err e) new) (sym h) refused_grows

  pub stopped_answer : (r : Result (Unit {0}) Stop) (e : Stop) (items : List Item) → MakesDatum (built ty got) (Err e) items → IsErrAnd r (λ d. d ≡ e)
      → Takes (with_parameters ty (grown ty es got)) old r new
  stopped_answer (Ok u) e items h is = absurd is
  stopped_answer (Err d) e items h is = subst (λ d. Takes (with_parameters ty (grown ty es got)) old (Err d) new) (sym is) (stopped_grows e items h)

-- as many items as the element has edges, beside that of the flags, are all of them
pub all_there : (ty : Ty) (items : List Item) (kinds : List Kind) (i k : ℕ) → i ≡ length items → k ≡ length kinds → kinds ≡ kinds_of (seq ty) → k - 1 ≤ i → width ty ≤ length (map cell_of items)
all_there ty items kinds i k items_are kinds_are same le =
    let size = length-map items cell_of in
    let edges : length kinds ≡ suc (width ty) = ap length same in
    omega (arith, le, size, edges, items_are, kinds_are)

-- where the next item fits as well, it leads on, with the memory for it
pub refused_item : (ty : Ty) (es : List Value) (got : List Cell) (x : Cell) → PartsFit ty got → part_fits ty (length got) x ≡ true →
    (old new : Ty × TabState) → new ≡ old → Takes (with_parameters ty (item_given ty es got x)) old (Err OutOfMemory) new
refused_item ty es got x fit next old new same =
    let lt = fits_within ty (length got) x next in
    let inside : nat_lt (length got) (width ty) ≡ true = grind (arith, nat_tests, lt) in
    let led : item_given ty es got x ≡ grown ty es (got ++ x ∷ []) =
    ap (λ b. cond b (cond (part_fits ty (length got) x) (grown ty es (got ++ x ∷ [])) (Err Shape)) (Err Shape)) inside
    ∙ ap (λ b. cond b (grown ty es (got ++ x ∷ [])) (Err Shape)) next in
    subst (λ r. Takes (with_parameters ty r) old (Err OutOfMemory) new) (sym led) (elim (cases_lt (length (got ++ x ∷ [])) (width ty)) [
      | inl more ↦
          let further : nat_lt (length (got ++ x ∷ [])) (width ty) ≡ true = grind (arith, nat_tests, more) in
          subst (λ b. Takes (with_parameters ty (cond b (Ok (at_item es (got ++ x ∷ []))) (with_element es (built ty (got ++ x ∷ []))))) old (Err OutOfMemory) new) (sym further) same
      | inr le ↦ refused_grows ty es (got ++ x ∷ []) (parts_more ty got x fit next) le old new same
    ])

-- an item of another kind than its edge's does not fit, so the test of its kind changes nothing
refused : (ty : Ty) (es : List Value) (got : List Cell) (x : Cell) (inside : Bool) → is_of (kind_at (kinds_of (seq ty)) (cond inside (suc (length got)) 0)) x ≡ false →
    cond inside (cond (part_fits ty (length got) x) (grown ty es (got ++ x ∷ [])) (Err Shape)) (Err Shape) ≡ Err Shape
refused ty es got x true e = ap (λ b. cond b (grown ty es (got ++ x ∷ [])) (Err Shape)) (part_kind ty (length got) x e)
refused ty es got x false e = refl

pub item_taken : (ty : Ty) (es : List Value) (got : List Cell) (x : Cell) → item_given ty es got x ≡ state_after_read (tab_move ty (at_item es got)) x
item_taken ty es got x = go (is_of (kind_at (kinds_of (seq ty)) (item_port ty got)) x) refl
  where
    go : (b : Bool) → is_of (kind_at (kinds_of (seq ty)) (item_port ty got)) x ≡ b → item_given ty es got x ≡ cond b (item_given ty es got x) (Err Shape)
    go true e = refl
    go false e = refused ty es got x (nat_lt (length got) (width ty)) e
