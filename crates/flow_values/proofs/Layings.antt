-- What is due where a vector is written element by element.
use Rattle.std.proofs.Common.{◌≡◌, ℕ, zero, suc, ◌+◌, ◌<◌, ◌≤◌, Bool, true, cond, List, [], ◌∷◌, ◌++◌, length, drop, map, get_or, nat_lt, Option}
use Rattle.std.proofs.Common.{Some, None, Result, Ok, Err, OnOk, is_ok, refl, sym, ap, ◌∙◌, subst, append_assoc, arith}
use Rattle.std.specs.List.{slice_get}
use Rattle.std.specs.Option.{IsSome}
use Rattle.std.proofs.lemmas.Option.{slice_get-get_or}
use Rattle.snesl_data.specs.declared.datum.Elements.{Elements}
use Rattle.snesl_data.specs.Types.{Ty, seq}
use Rattle.snesl_data.specs.Values.{Value, entries}
use Rattle.flow_base.specs.declared.worker.Ask.TheVariants.{Give}
use Rattle.flow_base.specs.Flags.{F, T}
use Rattle.flow_base.specs.Machines.{ask_of, written_cell, state_after_write}
use Rattle.flow_base.specs.Workers.{IsWriting}
use Rattle.flow_base.specs.Segments.{concatenation_by}
use Rattle.flow_values.specs.Flats.{width}
use Rattle.flow_values.specs.declared.dues.Due.{Due}
use Rattle.flow_values.specs.Dues.{DueCell, due, due_cell, element_dues, dues_of, segment_dues}
use Rattle.flow_values.specs.SeqMachine.{seq_move, seq_takes_memory, left_dues}

-- where there is an element at a place, it is the first of those from there on
first_left : (l : List Value) (i : ℕ) (d : Value) → Some d ≡ slice_get l i → drop i l ≡ d ∷ drop (i + 1) l
first_left [] i d e = absurd (cc)
first_left (x ∷ l) zero d e = let same : x ≡ d = cc in ap (λ v. v ∷ l) same
first_left (x ∷ l) (suc i) d e =
    let next : suc (i + 1) ≡ suc i + 1 = omega arith in
    first_left l i d e ∙ ap (λ n. d ∷ drop n (x ∷ l)) next

none_left : (l : List Value) (i : ℕ) → length l ≤ i → drop i l ≡ []
none_left [] zero le = refl
none_left [] (suc i) le = refl
none_left (x ∷ l) zero le = absurd (omega arith)
none_left (x ∷ l) (suc i) le = none_left l i (omega arith)

some_left : (l : List Value) (i : ℕ) → i < length l → (d : Value) × (Some d ≡ slice_get l i)
some_left [] i lt = absurd (omega arith)
some_left (x ∷ l) i lt = (get_or (x ∷ l) i x, sym (slice_get-get_or (x ∷ l) i x lt))

-- none is missing within
pub no_gap : (l : List Value) (i : ℕ) → i < length l → None ≡ slice_get l i → ⊥
no_gap l i lt e = let there = some_left l i lt in let never : None ≡ Some there.0 = e ∙ sym there.1 in absurd (cc)

-- what is due of a sequence whose first element is this
segment-first : (item : Ty) (d : Value) (ds : List Value) → segment_dues item 0 (d ∷ ds) ≡ due 0 F ∷ (dues_of item 1 d ++ segment_dues item 0 ds)
segment-first item d ds = ap (λ l. due 0 F ∷ l) (append_assoc (dues_of item 1 d) (concatenation_by (element_dues 0 (λ e. dues_of item 1 e)) ds) (due 0 T ∷ []))

-- the first output, however many there are
first_output : (b : Bool) → ◌≡◌ {A = ℕ} (cond b 0 0) 0
first_output true = refl
first_output _ = refl

-- a flag is written where nothing is due of an element
pub asks_flag : (item : Ty) (ds : List Value) → ask_of (seq_move item (segment_dues item 0 ds)) ≡ Give 0
asks_flag item [] = ap Give (first_output (nat_lt 0 (width (seq item))))
asks_flag item (d ∷ ds) = ap Give (first_output (nat_lt 0 (width (seq item))))

-- the same where a vector is held
pub asks_for_flag : (item : Ty) (dues : List Due) (size : ℕ) (held : Option Elements) (e : Elements) (begun : ℕ) → size ≡ length dues → (0 < size → ⊥) → held ≡ Some e
    → Give 0 ≡ ask_of (seq_move item (map due_cell dues ++ left_dues item held begun))
asks_for_flag item [] size held e begun sized none is = sym (ap (λ h. ask_of (seq_move item (left_dues item h begun))) is ∙ asks_flag item (drop begun (entries e)))
asks_for_flag item (d ∷ dues) size held e begun sized none is = absurd (none (omega arith))

-- what a call ensures that ends well
pub on_ok : {E P : Type 0} (r : Result (Unit {0}) E) → is_ok r ≡ true → OnOk r P → P
on_ok (Ok u) well holds = holds
on_ok (Err e) well holds = absurd (cc)

-- where something is written and nothing is due of an element, a vector is held
pub holds_vector : (item : Ty) (old : List DueCell) (held : Option Elements) (begun : ℕ) → old ≡ [] → IsWriting (ask_of (seq_move item (old ++ left_dues item held begun))) → IsSome held
holds_vector item old (Some e) begun none writes = refl
holds_vector item old None begun none writes = absurd (subst (λ l. IsWriting (ask_of (seq_move item (l ++ left_dues item None begun)))) none writes)

-- a state with its parameter
abbrev pub paired : Ty → List DueCell → Ty × List DueCell
paired item ds = (item, ds)

-- nothing is due of the element that was begun last, and a vector is held
module _ (item : Ty) (old : List DueCell) (held : Option Elements) (e : Elements) (place : ℕ) (none : old ≡ []) (is : held ≡ Some e) where
  abbrev state : List DueCell
  state = old ++ left_dues item held place

  left : segment_dues item 0 (drop place (entries e)) ≡ state
  left = sym (ap (λ l. l ++ left_dues item held place) none ∙ ap (λ h. left_dues item h place) is)

  -- the last flag, after which nothing is due
  pub last_flag : length (entries e) ≤ place → (T ≡ written_cell (seq_move item state)) × (paired item (old ++ left_dues item None place) ≡ paired item (state_after_write state (seq_move item state)))
  last_flag past =
      let all : due 0 T ∷ [] ≡ state = sym (ap (segment_dues item 0) (none_left (entries e) place past)) ∙ left in (
        ap (λ ds. written_cell (seq_move item ds)) all,
        ap (λ ds. paired item (ds ++ left_dues item None place)) none ∙ ap (λ ds. paired item (state_after_write ds (seq_move item ds))) all,
      )

  laid : (d : Value) → Some d ≡ slice_get (entries e) place → due 0 F ∷ (dues_of item 1 d ++ left_dues item (Some e) (place + 1)) ≡ state
  laid d at = sym (ap (segment_dues item 0) (first_left (entries e) place d at) ∙ segment-first item d (drop (place + 1) (entries e))) ∙ left

  -- the flag before an element, which is due after it
  pub flag_before : (d : Value) (new : List DueCell) → Some d ≡ slice_get (entries e) place → new ≡ old ++ dues_of item 1 d
      → (F ≡ written_cell (seq_move item state)) × (paired item (new ++ left_dues item held (place + 1)) ≡ paired item (state_after_write state (seq_move item state)))
  flag_before d new at added =
      let all = laid d at in (
        ap (λ ds. written_cell (seq_move item ds)) all,
        ap (λ ds. paired item (ds ++ left_dues item held (place + 1))) (added ∙ ap (λ l. l ++ dues_of item 1 d) none)
            ∙ ap (λ h. paired item (dues_of item 1 d ++ left_dues item h (place + 1))) is
            ∙ ap (λ ds. paired item (state_after_write ds (seq_move item ds))) all,
      )

  -- memory may be refused before an element
  pub may_be_refused : place < length (entries e) → true ≡ seq_takes_memory state
  may_be_refused lt = let there = some_left (entries e) place lt in ap seq_takes_memory (laid there.0 there.1)
