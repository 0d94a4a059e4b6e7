-- What an item leads to, whether it is a vector of such elements or not.
use Rattle.std.proofs.Common.{◌≡◌, ℕ, ℤ, [], ◌∷◌, ◌++◌, List, Ok, Err, Option, Some, None, true, false, refl, sym, ap, ◌∙◌, subst, cond, drop}
use Rattle.snesl_data.specs.declared.datum.Elements.{Elements}
use Rattle.snesl_data.specs.declared.fault.FaultKind.TheVariants.{Shape}
use Rattle.snesl_data.specs.Types.{Ty, seq}
use Rattle.snesl_data.specs.Values.{Value, Values, a_vec, list_of, elements_of, entries}
use Rattle.flow_messages.specs.Cells.{Cell, unit, flag, int, datum}
use Rattle.flow_base.specs.Workers.{IsReading, Takes}
use Rattle.flow_values.specs.Shapes.{is_a, all_are}
use Rattle.flow_values.specs.Dues.{DueCell, dues_of, segment_dues}
use Rattle.flow_base.specs.Machines.{ask_of, state_after_read, with_parameters}
use Rattle.flow_values.specs.SeqMachine.{seq_move, left_dues}
use Rattle.flow_values.proofs.Layings.{asks_flag}
use Rattle.flow_values.specs.Rows.{element_at}
use Rattle.flow_values.specs.IndexMachine.{index_move, held, writing}
use Rattle.flow_values.specs.laws.Index.{element_is}

-- no vector of such elements
abbrev pub NoVector : Ty → Cell → Type 0
NoVector item x = (vs : Values) → x ≡ datum (a_vec vs) → all_are item vs ≡ false

-- anything else is refused
pub seq_refuses : (item : Ty) (dues : List DueCell) (x : Cell) → NoVector item x → with_parameters item (state_after_read (seq_move item dues) x) ≡ Err Shape
seq_refuses item [] (datum (a_vec vs)) none = ap (λ b. with_parameters item (cond b (Ok (dues_of (seq item) 0 (a_vec vs))) (Err Shape))) (none vs refl)
seq_refuses item [] (datum _) none = refl
seq_refuses item [] unit none = refl
seq_refuses item [] (flag b) none = refl
seq_refuses item [] (int n) none = refl
seq_refuses item (d ∷ ds) x none = refl

pub index_refuses : (item : Ty) (dues : List DueCell) (x : Cell) → NoVector item x → with_parameters item (state_after_read (index_move item (writing dues)) x) ≡ Err Shape
index_refuses item [] (datum (a_vec vs)) none = ap (λ b. with_parameters item (cond b (Ok (held vs)) (Err Shape))) (none vs refl)
index_refuses item [] (datum _) none = refl
index_refuses item [] unit none = refl
index_refuses item [] (flag b) none = refl
index_refuses item [] (int n) none = refl
index_refuses item (d ∷ ds) x none = refl

-- a vector of such elements is taken where one may begin
pub seq_takes : (item : Ty) (old : List DueCell) (kept : Option Elements) (begun : ℕ) (all : Elements) (x : Cell) →
    IsReading (ask_of (seq_move item (old ++ left_dues item kept begun))) → x ≡ datum (a_vec (elements_of all)) → all_are item (elements_of all)
    ≡ true →
    Takes (with_parameters item (state_after_read (seq_move item (old ++ left_dues item kept begun)) x)) (item, old ++ left_dues item kept begun)
    (Ok (tt {0})) (item, old ++ left_dues item (Some all) 0)
seq_takes item [] None begun all x reading is e =
    let vs = elements_of all in
    let leads : with_parameters item (state_after_read (seq_move item []) x) ≡ Ok (item, segment_dues item 0 (list_of vs)) =
    ap (λ x. with_parameters item (state_after_read (seq_move item []) x)) is
    ∙ ap (λ b. with_parameters item (cond b (Ok (dues_of (seq item) 0 (a_vec vs))) (Err Shape))) e in
    subst (λ r. Takes r (item, []) (Ok (tt {0})) (item, segment_dues item 0 (list_of vs))) (sym leads) refl
seq_takes item [] (Some other) begun all x reading is e = absurd (subst IsReading (asks_flag item (drop begun (entries other))) reading)
seq_takes item (d ∷ ds) kept begun all x reading is e = absurd reading

pub index_takes : (item : Ty) (dues : List DueCell) (x : Cell) (vs : Values) → IsReading (ask_of (index_move item (writing dues))) → x ≡ datum (a_vec vs) → all_are item vs ≡ true →
    with_parameters item (state_after_read (index_move item (writing dues)) x) ≡ Ok (item, held vs)
index_takes item [] x vs reading is e = ap (λ x. with_parameters item (state_after_read (index_move item (writing [])) x)) is ∙ ap (λ b. with_parameters item (cond b (Ok (held vs)) (Err Shape))) e
index_takes item (d ∷ ds) x vs reading is e = absurd reading

-- the same vector is as much of the type
pub same_vector : (item : Ty) (us vs : Values) → datum (a_vec us) ≡ datum (a_vec vs) → all_are item us ≡ false → all_are item vs ≡ false
same_vector item us vs e not = let same : us ≡ vs = cc in ap (all_are item) (sym same) ∙ not

-- an element that was found in a vector that is held is of the type
pub held_element : (item : Ty) (vs : Values) (z : ℤ) (e : Value) → Some e ≡ element_at vs z → all_are item vs ≡ true → is_a item e ≡ true
held_element item vs z e found are = element_is item vs z e (sym found) are
