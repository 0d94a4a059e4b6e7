-- What Seq keeps to: its table, and its row as the runs of the table.
use Rattle.std.specs.Prelude.{◌≡◌, suc, Bool, true, false, cond, List, [], ◌∷◌, map, Ok, Err, refl}
use Rattle.std.proofs.Common.{arith, sym, ap, subst}
use Rattle.snesl_data.specs.declared.dialect.Dialect.{Dialect}
use Rattle.snesl_data.specs.declared.fault.FaultKind.TheVariants.{Shape}
use Rattle.snesl_data.specs.Types.{Ty, vec, seq}
use Rattle.snesl_data.specs.Values.{Value, Values, a_vec, values_of}
use Rattle.flow_messages.specs.Cells.{Cell, unit, flag, int, datum, is_of}
use Rattle.flow_messages.specs.declared.message.Kind.TheVariants.{Vec as VecKind}
use Rattle.flow_base.specs.Lists.{Lists}
use Rattle.flow_base.specs.Ranges.{CellInRange}
use Rattle.flow_base.specs.Columns.{Columns, columns, push_column, nothing}
use Rattle.flow_base.specs.Machines.{OnNext, OfNext, Run, Runs, SoundAt, MachineLaws}
use Rattle.flow_base.specs.MachineRuns.{Then, reading, writing, run_is}
use Rattle.flow_values.specs.Shapes.{all_are, kinds_of}
use Rattle.flow_values.specs.Flats.{◌⊕◌, width, spread_all}
use Rattle.flow_values.specs.laws.Kinds.{both_true, and_true}
use Rattle.flow_values.specs.Dues.{DueCell, dues_of, due_items_at, DuesOfKind, DuesInRange}
use Rattle.flow_values.specs.laws.Dues.{is_output, items_are}
use Rattle.flow_values.specs.Rows.{SeqRow}
use Rattle.flow_values.specs.SeqMachine.{seq_given, seq_move, seq_machine}
use Rattle.flow_values.specs.laws.DueFits.{vector_of_kind, value_in_range}
use Rattle.flow_values.specs.laws.Edges.{at_due, push_due, none_at, on_edges}

kept : (item : Ty) (x : Cell) → is_of VecKind x ≡ true → OfNext (seq_given item x) (λ ds. DuesOfKind (kinds_of (seq item)) ds)
kept item (datum (a_vec vs)) e = go (all_are item vs) refl
  where
    go : (b : Bool) → all_are item vs ≡ b → OfNext (cond b (Ok (dues_of (seq item) 0 (a_vec vs))) (Err Shape)) (λ ds. DuesOfKind (kinds_of (seq item)) ds)
    go true are = vector_of_kind item vs are
    go false are = tt
kept item _ e = tt

module _ (dialect : Dialect) where
  ranged : (item : Ty) (x : Cell) → is_of VecKind x ≡ true → CellInRange dialect x → OfNext (seq_given item x) (DuesInRange dialect)
  ranged item (datum (a_vec vs)) e h = go (all_are item vs)
    where
      go : (b : Bool) → OfNext (cond b (Ok (dues_of (seq item) 0 (a_vec vs))) (Err Shape)) (DuesInRange dialect)
      go true = value_in_range dialect (seq item) 0 (a_vec vs) h
      go false = tt
  ranged item _ e h = tt

sound : (item : Ty) (ds : List DueCell) → SoundAt seq_machine item ds (seq_move item ds)
sound item [] = (refl, (omega arith, refl, λ _. kept item, λ dialect _ _. ranged dialect item))
sound item (d ∷ ds) = (is_output (width item) d.port, omega arith, λ h. h, λ _ _ h. h)

module _ (item : Ty) where
  -- what is written: the items that are due, and then the elements of these vectors
  abbrev written : List DueCell → List Value → Columns
  written ds vectors = columns (width (seq item)) (due_items_at (width (seq item)) ds ⊕ spread_all (seq item) 0 vectors)

  -- what a vector of such items puts on the edges is due for it
  laid : (vs : Values) (vectors : List Value) → written (dues_of (seq item) 0 (a_vec vs)) vectors ≡ written [] (a_vec vs ∷ vectors)
  laid vs vectors = ap (λ l. columns (width (seq item)) (l ⊕ spread_all (seq item) 0 vectors)) (items_are (seq item) (width (seq item)) 0 (a_vec vs) (omega arith))

  writes : (ds : List DueCell) (i : Columns) (vectors : List Value) → Runs seq_machine item [] i (written [] vectors) → Runs seq_machine item ds i (written ds vectors)
  writes [] i vectors r = r
  writes (d ∷ ds) i vectors r =
      let k = writes ds i vectors r in
      (suc k.0, at_due (width (seq item)) d ds (spread_all (seq item) 0 vectors) (is_output (width item) d.port) (λ x c. (x ≡ d.cell) × Run seq_machine item k.0 ds i c) (refl, k.1))

  runs : (vectors : List Value) → all_are (vec item) (values_of vectors) ≡ true → Runs seq_machine item [] (map datum vectors ∷ []) (written [] vectors)
  runs [] are = (0, (refl, none_at (width (seq item))))
  runs (a_vec vs ∷ vectors) are =
      let both = both_true (all_are item vs) (all_are (vec item) (values_of vectors)) are in
      let k = writes (dues_of (seq item) 0 (a_vec vs)) (map datum vectors ∷ []) vectors (runs vectors both.1) in
      let there : Run seq_machine item k.0 (dues_of (seq item) 0 (a_vec vs)) (map datum vectors ∷ []) (written [] (a_vec vs ∷ vectors)) =
      subst (λ c. Run seq_machine item k.0 (dues_of (seq item) 0 (a_vec vs)) (map datum vectors ∷ []) c) (laid vs vectors) k.1 in
      let next : (b : Bool) → b ≡ true →
      OnNext (cond b (Ok (dues_of (seq item) 0 (a_vec vs))) (Err Shape))
      (λ ds. Run seq_machine item k.0 ds (map datum vectors ∷ []) (written [] (a_vec vs ∷ vectors))) =
      λ b e. subst (λ b. OnNext (cond b (Ok (dues_of (seq item) 0 (a_vec vs))) (Err Shape))
      (λ ds. Run seq_machine item k.0 ds (map datum vectors ∷ []) (written [] (a_vec vs ∷ vectors)))) (sym e) there in
      (suc k.0, next (all_are item vs) both.0)
  runs (_ ∷ vectors) are = absurd (cc)

  -- what a run reads and writes
  data Owes : List DueCell → Columns → Columns → Type 0 where
    owed : (ds : List DueCell) (vectors : List Value) → all_are (vec item) (values_of vectors) ≡ true → Owes ds (map datum vectors ∷ []) (written ds vectors)

  begun : (vs : Values) (i o : Columns) (b : Bool) → all_are item vs ≡ b →
      OnNext (cond b (Ok (dues_of (seq item) 0 (a_vec vs))) (Err Shape)) (λ ds. Owes ds i o) → Owes [] (push_column 0 (datum (a_vec vs)) i) o
  begun vs _ _ true is (owed _ vectors are) =
      subst (λ c. Owes [] (map datum (a_vec vs ∷ vectors) ∷ []) c) (sym (laid vs vectors))
      (owed [] (a_vec vs ∷ vectors) (and_true (all_are item vs) (all_are (vec item) (values_of vectors)) is are))
  begun vs _ _ false is h = absurd h

  earlier : (ds : List DueCell) (x : Cell) (i o : Columns) → Then (λ next. Owes next i o) (seq_move item ds) x → Owes ds (reading (seq_move item ds) x i) (writing (seq_move item ds) o)
  earlier [] (datum (a_vec vs)) i o h = begun vs i o (all_are item vs) refl h
  earlier [] (datum _) _ _ h = absurd h
  earlier [] unit _ _ h = absurd h
  earlier [] (flag b) _ _ h = absurd h
  earlier [] (int n) _ _ h = absurd h
  earlier (d ∷ ds) x _ _ (owed _ vectors are) =
      subst (λ c. Owes (d ∷ ds) (map datum vectors ∷ []) c)
      (sym (push_due (width (seq item)) d ds (spread_all (seq item) 0 vectors) (is_output (width item) d.port))) (owed (d ∷ ds) vectors are)

  row_of : (v : List Cell) (o : Lists Cell) (c : Columns) → c ≡ columns (width (seq item)) o → Owes [] (v ∷ []) c → SeqRow item v o
  row_of _ o _ e (owed _ vectors are) = record { vectors = vectors; v_is = refl; of_type = are; edges_are = (on_edges (seq item) (width (seq item)) o vectors).1 (sym e) }

pub seq_laws : MachineLaws seq_machine
seq_laws = record {
  sound = sound;
  begins_at_start = λ _. refl;
  starts_of_kind = λ _. tt;
  rows = λ item i o. (
    λ row. subst (λ v. Runs seq_machine item [] (v ∷ []) (columns (width (seq item)) o)) (sym row.v_is)
        (subst (λ c. Runs seq_machine item [] (map datum row.vectors ∷ []) c) (sym ((on_edges (seq item) (width (seq item)) o row.vectors).0 row.edges_are)) (runs item row.vectors row.of_type)),
    λ r.
        let none : Owes item [] ([] ∷ []) (nothing (width (seq item))) = subst (λ c. Owes item [] ([] ∷ []) c) (none_at (width (seq item))) (owed [] [] refl) in
        row_of item (i 0) o (columns (width (seq item)) o) refl (run_is seq_machine item (Owes item) (sound item) none (earlier item) [] (columns 1 i) (columns (width (seq item)) o) r),
  );
}
