-- What Index keeps to: its table, and its row as the runs of the table.
use Rattle.std.specs.Prelude.{◌≡◌, ℕ, zero, suc, ◌<◌, ℤ, pos, negsuc, Bool, true, false, cond, List, [], ◌∷◌, Option, Some, None, map, Ok, Err, refl}
use Rattle.std.specs.List.{slice_get}
use Rattle.std.proofs.Common.{arith, sym, ◌∙◌, ap, subst}
use Rattle.snesl_data.specs.declared.dialect.Dialect.{Dialect}
use Rattle.snesl_data.specs.declared.fault.FaultKind.TheVariants.{Shape}
use Rattle.snesl_data.specs.Types.{Ty}
use Rattle.snesl_data.specs.Values.{Value, Values, a_vec, no_values, more_values, list_of}
use Rattle.flow_messages.specs.Cells.{Cell, unit, flag, int, datum, is_of}
use Rattle.flow_messages.specs.declared.message.Kind.TheVariants.{Vec as VecKind}
use Rattle.flow_base.specs.Lists.{Lists}
use Rattle.flow_base.specs.Ranges.{CellInRange, InRange, AllInRange}
use Rattle.flow_base.specs.Columns.{Columns, columns, push_column, nothing}
use Rattle.flow_base.specs.Machines.{OnNext, OfNext, Run, Runs, SoundAt, MachineLaws}
use Rattle.flow_base.specs.MachineRuns.{Then, reading, writing as wrote, run_is}
use Rattle.flow_values.specs.Shapes.{is_a, all_are}
use Rattle.flow_values.specs.Flats.{◌⊕◌, width, spread_all}
use Rattle.flow_values.specs.laws.Kinds.{both_true}
use Rattle.flow_values.specs.Dues.{DueCell, dues_of, output_of, due_items_at}
use Rattle.flow_values.specs.laws.Dues.{has_edge, is_output, items_are}
use Rattle.flow_values.specs.Rows.{element_at, Picked, IndexRow}
use Rattle.flow_values.specs.IndexMachine.{IndexState, held, writing, vector_given, element_given, index_move, index_of_kind, index_in_range, index_machine}
use Rattle.flow_values.specs.laws.DueFits.{value_of_kind, value_in_range}
use Rattle.flow_values.specs.laws.Edges.{at_due, push_due, none_at, on_edges}

-- there is such an output
in_type : (item : Ty) (p : ℕ) → output_of (width item) p < width item
in_type item p = let h = has_edge item in subst (λ n. output_of n p < n) (sym h.1) (is_output h.0 p)

place_is : (item : Ty) (vs : Values) (n : ℕ) (e : Value) → slice_get (list_of vs) n ≡ Some e → all_are item vs ≡ true → is_a item e ≡ true
place_is item no_values n e found are = absurd (cc)
place_is item (more_values v vs) zero e found are =
    let same : v ≡ e = cc in
    sym (ap (is_a item) same) ∙ (both_true (is_a item v) (all_are item vs) are).0
place_is item (more_values v vs) (suc n) e found are = place_is item vs n e found (both_true (is_a item v) (all_are item vs) are).1

-- an element of a vector of such items is one
pub element_is : (item : Ty) (vs : Values) (n : ℤ) (e : Value) → element_at vs n ≡ Some e → all_are item vs ≡ true → is_a item e ≡ true
element_is item vs (pos n) e found are = place_is item vs n e found are
element_is item vs (negsuc n) e found are = absurd (cc)

kept : (item : Ty) (x : Cell) → is_of VecKind x ≡ true → OfNext (vector_given item x) (index_of_kind item)
kept item (datum (a_vec vs)) e = go (all_are item vs) refl
  where
    go : (b : Bool) → all_are item vs ≡ b → OfNext (cond b (Ok (held vs)) (Err Shape)) (index_of_kind item)
    go true are = are
    go false are = tt
kept item _ e = tt

kept_element : (item : Ty) (vs : Values) (n : ℤ) (found : Option Value) → element_at vs n ≡ found → all_are item vs ≡ true → OfNext (element_given item found) (index_of_kind item)
kept_element item vs n (Some e) found are = value_of_kind item e (element_is item vs n e found are)
kept_element item vs n None found are = tt

module _ (dialect : Dialect) where
  place_in_range : (vs : Values) (n : ℕ) (e : Value) → slice_get (list_of vs) n ≡ Some e → AllInRange dialect vs → InRange dialect e
  place_in_range no_values n e found fits = absurd (cc)
  place_in_range (more_values v vs) zero e found fits = let same : v ≡ e = cc in subst (InRange dialect) same fits.0
  place_in_range (more_values v vs) (suc n) e found fits = place_in_range vs n e found fits.1

  element_in_range : (vs : Values) (n : ℤ) (e : Value) → element_at vs n ≡ Some e → AllInRange dialect vs → InRange dialect e
  element_in_range vs (pos n) e found fits = place_in_range vs n e found fits
  element_in_range vs (negsuc n) e found fits = absurd (cc)

  ranged : (item : Ty) (x : Cell) → is_of VecKind x ≡ true → CellInRange dialect x → OfNext (vector_given item x) (index_in_range dialect)
  ranged item (datum (a_vec vs)) e h = go (all_are item vs)
    where
      go : (b : Bool) → OfNext (cond b (Ok (held vs)) (Err Shape)) (index_in_range dialect)
      go true = h
      go false = tt
  ranged item _ e h = tt

  ranged_element : (item : Ty) (vs : Values) (n : ℤ) (found : Option Value) → element_at vs n ≡ found → AllInRange dialect vs → OfNext (element_given item found) (index_in_range dialect)
  ranged_element item vs n (Some e) found fits = value_in_range dialect item 0 e (element_in_range vs n e found fits)
  ranged_element item vs n None found fits = tt

sound : (item : Ty) (s : IndexState) → SoundAt index_machine item s (index_move item s)
sound item (writing []) = (refl, (omega arith, refl, λ _. kept item, λ dialect _ _. ranged dialect item))
sound item (held vs) = (omega arith, refl, λ are n. kept_element item vs n (element_at vs n) refl are, λ dialect are fits n _. ranged_element dialect item vs n (element_at vs n) refl fits)
sound item (writing (d ∷ ds)) = (in_type item d.port, omega arith, λ h. h, λ _ _ h. h)

module _ (item : Ty) where
  abbrev vectors : List (Picked item) → List Cell
  vectors xs = map (λ x. datum (a_vec x.vector)) xs

  abbrev indices : List (Picked item) → List Cell
  indices xs = map (λ x. int x.index) xs

  abbrev elements : List (Picked item) → List Value
  elements xs = map (λ x. x.element) xs

  -- what is written: the items that are due, and then these elements
  abbrev written : List DueCell → List Value → Columns
  written ds es = columns (width item) (due_items_at (width item) ds ⊕ spread_all item 0 es)

  -- what an element puts on the edges is due for it
  laid : (e : Value) (es : List Value) → written (dues_of item 0 e) es ≡ written [] (e ∷ es)
  laid e es = ap (λ l. columns (width item) (l ⊕ spread_all item 0 es)) (items_are item (width item) 0 e (omega arith))

  abbrev Does : IndexState → List Cell → List Cell → Columns → Type 0
  Does s v i o = Runs index_machine item s (v ∷ i ∷ []) o

  writes : (ds : List DueCell) (v i : List Cell) (es : List Value) → Does (writing []) v i (written [] es) → Does (writing ds) v i (written ds es)
  writes [] v i es r = r
  writes (d ∷ ds) v i es r =
      let k = writes ds v i es r in
      (suc k.0, at_due (width item) d ds (spread_all item 0 es) (in_type item d.port) (λ x c. (x ≡ d.cell) × Run index_machine item k.0 (writing ds) (v ∷ i ∷ []) c) (refl, k.1))

  -- an instance, and then a run, is a run
  one : (x : Picked item) (v i : List Cell) (es : List Value) → Does (writing []) v i (written [] es) → Does (writing []) (datum (a_vec x.vector) ∷ v) (int x.index ∷ i) (written [] (x.element ∷ es))
  one x v i es r =
      let k = writes (dues_of item 0 x.element) v i es r in
      let there : OnNext (element_given item (Some x.element)) (λ s. Run index_machine item k.0 s (v ∷ i ∷ []) (written [] (x.element ∷ es))) =
      subst (λ c. Run index_machine item k.0 (writing (dues_of item 0 x.element)) (v ∷ i ∷ []) c) (laid x.element es) k.1 in
      let held_run : Run index_machine item (suc k.0) (held x.vector) (v ∷ (int x.index ∷ i) ∷ []) (written [] (x.element ∷ es)) =
      subst (λ e. OnNext (element_given item e) (λ s. Run index_machine item k.0 s (v ∷ i ∷ []) (written [] (x.element ∷ es)))) (sym x.found) there
      in (
        suc (suc k.0),
        subst
            (λ b. OnNext (cond b (Ok (held x.vector)) (Err Shape))
            (λ s. Run index_machine item (suc k.0) s (v ∷ (int x.index ∷ i) ∷ []) (written [] (x.element ∷ es)))) (sym x.of_type) held_run,
      )

  runs : (xs : List (Picked item)) → Does (writing []) (vectors xs) (indices xs) (written [] (elements xs))
  runs [] = (0, (refl, none_at (width item)))
  runs (x ∷ xs) = one x (vectors xs) (indices xs) (elements xs) (runs xs)

  -- what a run reads and writes
  data Owes : IndexState → Columns → Columns → Type 0 where
    owed : (ds : List DueCell) (xs : List (Picked item)) → Owes (writing ds) (vectors xs ∷ indices xs ∷ []) (written ds (elements xs))
    holds : (vs : Values) (n : ℤ) (e : Value) (xs : List (Picked item)) → element_at vs n ≡ Some e → Owes (held vs) (vectors xs ∷ (int n ∷ indices xs) ∷ []) (written [] (e ∷ elements xs))

  begun : (vs : Values) (i o : Columns) (b : Bool) → all_are item vs ≡ b → OnNext (cond b (Ok (held vs)) (Err Shape)) (λ s. Owes s i o) → Owes (writing []) (push_column 0 (datum (a_vec vs)) i) o
  begun vs _ _ true are (holds _ n e xs found) = owed [] (record { vector = vs; index = n; element = e; of_type = are; found = found } ∷ xs)
  begun vs _ _ false are h = absurd h

  picked : (vs : Values) (n : ℤ) (e : Value) (i o : Columns) → element_at vs n ≡ Some e → Owes (writing (dues_of item 0 e)) i o → Owes (held vs) (push_column 1 (int n) i) o
  picked vs n e _ _ found (owed _ xs) = subst (λ c. Owes (held vs) (vectors xs ∷ (int n ∷ indices xs) ∷ []) c) (sym (laid e (elements xs))) (holds vs n e xs found)

  found_at : (vs : Values) (n : ℤ) (i o : Columns) (r : Option Value) → element_at vs n ≡ r → OnNext (element_given item r) (λ s. Owes s i o) → Owes (held vs) (push_column 1 (int n) i) o
  found_at vs n i o (Some e) found h = picked vs n e i o found h
  found_at vs n i o None found h = absurd h

  earlier : (s : IndexState) (x : Cell) (i o : Columns) → Then (λ next. Owes next i o) (index_move item s) x → Owes s (reading (index_move item s) x i) (wrote (index_move item s) o)
  earlier (writing []) (datum (a_vec vs)) i o h = begun vs i o (all_are item vs) refl h
  earlier (writing []) (datum _) _ _ h = absurd h
  earlier (writing []) unit _ _ h = absurd h
  earlier (writing []) (flag b) _ _ h = absurd h
  earlier (writing []) (int n) _ _ h = absurd h
  earlier (held vs) (int n) i o h = found_at vs n i o (element_at vs n) refl h
  earlier (held vs) _ _ _ h = absurd h
  earlier (writing (d ∷ ds)) x _ _ (owed _ xs) =
      subst (λ c. Owes (writing (d ∷ ds)) (vectors xs ∷ indices xs ∷ []) c)
      (sym (push_due (width item) d ds (spread_all item 0 (elements xs)) (in_type item d.port))) (owed (d ∷ ds) xs)

  row_of : (v i : List Cell) (o : Lists Cell) (c : Columns) → c ≡ columns (width item) o → Owes (writing []) (v ∷ i ∷ []) c → IndexRow item v i o
  row_of _ _ o _ e (owed _ xs) = record { all = xs; v_is = refl; i_is = refl; edges_are = (on_edges item (width item) o (elements xs)).1 (sym e) }

pub index_laws : MachineLaws index_machine
index_laws = record {
  sound = sound;
  begins_at_start = λ _. refl;
  starts_of_kind = λ _. tt;
  rows = λ item i o. (
    λ row. subst (λ v. Does item (writing []) v (i 1) (columns (width item) o)) (sym row.v_is) (subst (λ l. Does item (writing []) (vectors item row.all) l (columns (width item) o)) (sym row.i_is)
        (subst (λ c. Does item (writing []) (vectors item row.all) (indices item row.all) c) (sym ((on_edges item (width item) o (elements item row.all)).0 row.edges_are)) (runs item row.all))),
    λ r.
        let none : Owes item (writing []) ([] ∷ [] ∷ []) (nothing (width item)) = subst (λ c. Owes item (writing []) ([] ∷ [] ∷ []) c) (none_at (width item)) (owed [] []) in
        row_of item (i 0) (i 1) o (columns (width item) o) refl (run_is index_machine item (Owes item) (sound item) none (earlier item) (writing []) (columns 2 i) (columns (width item) o) r),
  );
}
