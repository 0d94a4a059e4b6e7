-- What Tab keeps to: its table, and its row as the runs of the table.
use Rattle.std.specs.Prelude.{◌≡◌, ℕ, zero, suc, ◌+◌, ◌<◌, Bool, true, false, List, [], ◌∷◌, ◌++◌, Some, None, cond, nat_lt, length, map, Result, Ok, Err, refl}
use Rattle.std.proofs.Common.{arith, sym, ◌∙◌, ap, subst, append_assoc, append-nil, length-append}
use Rattle.std.proofs.lemmas.Bool.Decides.{nat_tests}
use Rattle.snesl_data.specs.declared.dialect.Dialect.{Dialect}
use Rattle.snesl_data.specs.declared.fault.FaultKind.{FaultKind}
use Rattle.snesl_data.specs.declared.fault.FaultKind.TheVariants.{Shape}
use Rattle.snesl_data.specs.Types.{Ty, int, bool, pair, vec, seq, is_concrete}
use Rattle.snesl_data.specs.Values.{Value, Values, an_int, a_bool, a_pair, a_vec, a_seq, no_values, more_values, list_of, values_of}
use Rattle.flow_messages.specs.Cells.{Cell, flag, datum, is_of}
use Rattle.flow_base.specs.Lists.{Lists, push}
use Rattle.flow_base.specs.Flags.{F, T}
use Rattle.flow_base.specs.Ranges.{InRange, AllInRange, CellInRange}
use Rattle.flow_base.specs.Columns.{Columns, columns, push_column, At}
use Rattle.flow_base.specs.Machines.{state_after_item, on_kind, OnNext, OfNext, OfRange, Run, Runs, SoundAt, MachineLaws}
use Rattle.flow_base.specs.MachineRuns.{Then, reading, writing, run_is, leads_on, led_on}
use Rattle.flow_values.specs.Shapes.{is_a, all_are, kinds_of, cell_for, first_of, second_of, kind_at}
use Rattle.flow_values.specs.Flats.{only_at, ◌⊕◌, width, spread, spread_all}
use Rattle.flow_values.specs.laws.Sides.{sides_assoc, push_is}
use Rattle.flow_values.specs.laws.Kinds.{both_true, and_true}
use Rattle.flow_values.specs.laws.PrintSteps.{segment, none_is, more_is}
use Rattle.flow_values.specs.Parts.{parts, Built, built, part_fits}
use Rattle.flow_values.specs.laws.Parts.{in_row, built-parts, built-is, parts-length, spread-parts}
use Rattle.flow_values.specs.laws.PartFits.{part_kind, part_is}
use Rattle.flow_values.specs.Rows.{AreTabs, TabRow}
use Rattle.flow_values.specs.TabMachine.{TabState, start, at_flag, at_item, at_end, flag_taking, with_element, grown, item_given, item_port}
use Rattle.flow_values.specs.TabMachine.{vector_cell, tab_move, CellsInRange, tab_in_range, tab_machine}
use Rattle.flow_values.specs.laws.Edges.{at_pushed, push_columns, none_at, on_edges}

-- Ranges.

module _ (dialect : Dialect) where
  all_in_range : (es : List Value) (e : Value) → AllInRange dialect (values_of es) → InRange dialect e → AllInRange dialect (values_of (es ++ e ∷ []))
  all_in_range [] e h g = (g, tt)
  all_in_range (x ∷ es) e h g = (h.0, all_in_range es e h.1 g)

  cells_in_range : (xs : List Cell) (x : Cell) → CellsInRange dialect xs → CellInRange dialect x → CellsInRange dialect (xs ++ x ∷ [])
  cells_in_range [] x h g = (g, tt)
  cells_in_range (y ∷ xs) x h g = (h.0, cells_in_range xs x h.1 g)

  both_in_range : (xs ys : List Cell) → CellsInRange dialect (xs ++ ys) → CellsInRange dialect xs × CellsInRange dialect ys
  both_in_range [] ys h = (tt, h)
  both_in_range (x ∷ xs) ys h = let both = both_in_range xs ys h.1 in ((h.0, both.0), both.1)

  -- a value whose items lie in the range does
  parts_in_range : (ty : Ty) (v : Value) → is_a ty v ≡ true → CellsInRange dialect (parts ty v) → InRange dialect v
  parts_in_range int (an_int n) is h = h.0
  parts_in_range int _ is h = absurd (cc)
  parts_in_range bool (a_bool b) is h = tt
  parts_in_range bool _ is h = absurd (cc)
  parts_in_range (vec item) (a_vec vs) is h = h.0
  parts_in_range (vec item) _ is h = absurd (cc)
  parts_in_range (seq item) (a_seq vs) is h = h.0
  parts_in_range (seq item) _ is h = absurd (cc)
  parts_in_range (pair first second) (a_pair a b) is h =
      let are = both_true (is_a first a) (is_a second b) is in
      let both = both_in_range (parts first a) (parts second b) h in
      (parts_in_range first a are.0 both.0, parts_in_range second b are.1 both.1)
  parts_in_range (pair first second) _ is h = absurd (cc)

  ranged_flag : (ty : Ty) (es : List Value) → AllInRange dialect (values_of es) → OfRange dialect (tab_in_range dialect) (flag_taking ty es)
  ranged_flag ty es h = go (is_concrete ty)
    where
      go : (c : Bool) → OfNext (cond c (Ok (at_item es [])) (Err Shape)) (tab_in_range dialect) × OfNext (cond c (Ok (at_end es)) (Err Shape)) (tab_in_range dialect)
      go true = ((h, tt), h)
      go false = (tt, tt)

  ranged_closed : (ty : Ty) (es : List Value) (got : List Cell) (made : Built) → built ty got ≡ made → AllInRange dialect (values_of es) →
      CellsInRange dialect got → OfNext (with_element es made) (tab_in_range dialect)
  ranged_closed ty es got (Some (e, [])) made h g =
      let are = built-is ty got e [] made in
      all_in_range es e h (parts_in_range ty e are.0 (subst (CellsInRange dialect) (are.1 ∙ append-nil (parts ty e)) g))
  ranged_closed ty es got (Some (e, y ∷ ys)) made h g = tt
  ranged_closed ty es got None made h g = tt

  ranged_item : (ty : Ty) (es : List Value) (got : List Cell) (x : Cell) → AllInRange dialect (values_of es) → CellsInRange dialect got →
      CellInRange dialect x → OfNext (item_given ty es got x) (tab_in_range dialect)
  ranged_item ty es got x h g r = go (nat_lt (length got) (width ty)) (part_fits ty (length got) x) (nat_lt (length all) (width ty))
    where
      all : List Cell
      all = got ++ x ∷ []

      go : (inside fits more : Bool) → OfNext (cond inside (cond fits (cond more (Ok (at_item es all)) (with_element es (built ty all))) (Err Shape)) (Err Shape)) (tab_in_range dialect)
      go true true true = (h, cells_in_range got x g r)
      go true true false = ranged_closed ty es all (built ty all) refl h (cells_in_range got x g r)
      go true false more = tt
      go false fits more = tt

-- The table.

always : (r : Result TabState FaultKind) → OfNext r (λ _. Unit {0})
always (Ok s) = tt
always (Err kind) = tt

item_below : (ty : Ty) (got : List Cell) (inside : Bool) → nat_lt (length got) (width ty) ≡ inside → cond inside (suc (length got)) 0 < width (seq ty)
item_below ty got true e = let below : length got < width ty = grind (arith, nat_tests, e) in omega (arith, below)
item_below ty got false e = omega arith

sound : (ty : Ty) (s : TabState) → SoundAt tab_machine ty s (tab_move ty s)
sound ty start = (refl, (omega arith, refl, λ _. (always _, always _), λ dialect _ _. ranged_flag dialect ty [] tt))
sound ty (at_flag es) = (omega arith, refl, λ _. (always _, always _), λ dialect _ h. ranged_flag dialect ty es h)
sound ty (at_item es got) = (item_below ty got (nat_lt (length got) (width ty)) refl, refl, λ _ x _. always _, λ dialect _ h x _ r. ranged_item dialect ty es got x h.0 h.1 r)
sound ty (at_end es) = (omega arith, omega arith, λ _. (refl, tt), λ _ _ h. (h, tt))

values_listed : (vs : Values) → values_of (list_of vs) ≡ vs
values_listed no_values = refl
values_listed (more_values v vs) = ap (λ l. more_values v l) (values_listed vs)

-- the first of the items in a row
row_first : (p : ℕ) (x : Cell) (xs : List Cell) (l : Lists Cell) → in_row p (x ∷ xs) ⊕ l ≡ push p x (in_row (p + 1) xs ⊕ l)
row_first p x xs l = sides_assoc (only_at p (x ∷ [])) (in_row (p + 1) xs) l ∙ push_is p x (in_row (p + 1) xs ⊕ l)

-- a value has a first item
parts_full : (ty : Ty) (v : Value) → (x : Cell) × (xs : List Cell) × (parts ty v ≡ x ∷ xs)
parts_full int v = (cell_for v, [], refl)
parts_full bool v = (cell_for v, [], refl)
parts_full (vec item) v = (cell_for v, [], refl)
parts_full (seq item) v = (cell_for v, [], refl)
parts_full (pair first second) v =
    let h = parts_full first (first_of v) in
    (h.0, h.1 ++ parts second (second_of v), ap (λ l. l ++ parts second (second_of v)) h.2)

-- what fits is of the kind of its edge
fits_kind : (ty : Ty) (k : ℕ) (x : Cell) → part_fits ty k x ≡ true → is_of (kind_at (kinds_of ty) k) x ≡ true
fits_kind ty k x fits = go (is_of (kind_at (kinds_of ty) k) x) refl
  where
    go : (b : Bool) → is_of (kind_at (kinds_of ty) k) x ≡ b → is_of (kind_at (kinds_of ty) k) x ≡ true
    go true e = e
    go false e = let never : true ≡ false = sym fits ∙ part_kind ty k x e in absurd (cc)

module _ (ty : Ty) where
  -- the columns of the edges that come in
  abbrev edges : Lists Cell → Columns
  edges l = columns (width (seq ty)) l

  abbrev Does : TabState → Lists Cell → List Cell → Type 0
  Does s l o = Runs tab_machine ty s (edges l) (o ∷ [])

  some_port : 0 < width (seq ty)
  some_port = omega arith

  place : (got : List Cell) (x : Cell) → suc (length got) + 1 ≡ suc (length (got ++ x ∷ []))
  place got x = let size = length-append got (x ∷ []) in omega (arith, size)

  -- the items of an element, and its segment after

  -- an item that leads on, and then a run, is a run
  item_run : (es : List Value) (got : List Cell) (x : Cell) (s : TabState) (l : Lists Cell) (o : List Cell) → length got < width ty →
      part_fits ty (length got) x ≡ true → item_given ty es got x ≡ Ok s → Does s l o → Does (at_item es got) (push (suc (length got)) x l) o
  item_run es got x s l o lt fits given r =
      let inside : nat_lt (length got) (width ty) ≡ true = grind (arith, nat_tests, lt) in
      let here : Cell → Columns → Type 0 = λ y c. OnNext (state_after_item (on_kind (kind_at (kinds_of ty) (length got)) (item_given ty es got)) y) (λ s. Run tab_machine ty r.0 s c (o ∷ [])) in
      let next : here x (edges l) =
      leads_on (kind_at (kinds_of ty) (length got)) (item_given ty es got) x (λ s. Run tab_machine ty r.0 s (edges l) (o ∷ []))
      (fits_kind ty (length got) x fits) (subst (λ n. OnNext n (λ s. Run tab_machine ty r.0 s (edges l) (o ∷ []))) (sym given) r.1) in (
        suc r.0,
        subst (λ b. At (cond b (suc (length got)) 0) (edges (push (suc (length got)) x l))
            (λ y c. OnNext (state_after_item (on_kind (kind_at (kinds_of (seq ty)) (cond b (suc (length got)) 0)) (item_given ty es got)) y)
            (λ s. Run tab_machine ty r.0 s c (o ∷ [])))) (sym inside)
            (at_pushed (width (seq ty)) (suc (length got)) x l here (omega (arith, lt)) next),
      )

  -- where an item leads that is the next of a value
  leads : (es : List Value) (got : List Cell) (x : Cell) (more : Bool) → length got < width ty → part_fits ty (length got) x ≡ true →
      nat_lt (length (got ++ x ∷ [])) (width ty) ≡ more → item_given ty es got x
      ≡ cond more (Ok (at_item es (got ++ x ∷ []))) (with_element es (built ty (got ++ x ∷ [])))
  leads es got x more lt fits e =
      let inside : nat_lt (length got) (width ty) ≡ true = grind (arith, nat_tests, lt) in
      ap (λ b. cond b (cond (part_fits ty (length got) x) (grown ty es (got ++ x ∷ [])) (Err Shape)) (Err Shape)) inside
      ∙ ap (λ b. cond b (grown ty es (got ++ x ∷ [])) (Err Shape)) fits
      ∙ ap (λ b. cond b (Ok (at_item es (got ++ x ∷ []))) (with_element es (built ty (got ++ x ∷ [])))) e

  -- the items of an element, and then a run, are a run
  element_run : (e : Value) (x : Cell) (cells got : List Cell) (es : List Value) (l : Lists Cell) (o : List Cell) → is_concrete ty ≡ true → is_a ty e
      ≡ true → parts ty e ≡ got ++ x ∷ cells → Does (at_flag (es ++ e ∷ [])) l o → Does (at_item es got) (in_row (suc (length got)) (x ∷ cells) ⊕ l) o
  element_run e x [] got es l o c is are r =
      let size = length-append got (x ∷ []) in
      let whole : length got + 1 ≡ width ty = sym size ∙ sym (ap length are) ∙ parts-length ty e c in
      let outside : nat_lt (length (got ++ x ∷ [])) (width ty) ≡ false = let full : width ty ≡ length (got ++ x ∷ []) = omega (arith, size, whole) in grind (arith, nat_tests, full) in
      let made : built ty (got ++ x ∷ []) ≡ Some (e, []) = ap (built ty) (sym are ∙ sym (append-nil (parts ty e))) ∙ built-parts ty e [] c is in
      let fits = part_is ty e got x [] c is are in
      subst (λ m. Does (at_item es got) m o) (sym (row_first (suc (length got)) x [] l))
      (item_run es got x (at_flag (es ++ e ∷ [])) l o (omega (arith, whole)) fits (leads es got x false (omega (arith, whole)) fits outside ∙ ap (with_element es) made) r)
  element_run e x (y ∷ cells) got es l o c is are r =
      let size = length-append got (x ∷ []) in
      let whole : length got + suc (suc (length cells)) ≡ width ty = sym (length-append got (x ∷ y ∷ cells)) ∙ sym (ap length are) ∙ parts-length ty e c in
      let inside : nat_lt (length (got ++ x ∷ [])) (width ty) ≡ true = let less : length (got ++ x ∷ []) < width ty = omega (arith, size, whole) in grind (arith, nat_tests, less) in
      let fits = part_is ty e got x (y ∷ cells) c is are in
      let others = element_run e y cells (got ++ x ∷ []) es l o c is (are ∙ sym (append_assoc got (x ∷ []) (y ∷ cells))) r in
      subst (λ m. Does (at_item es got) m o) (sym (row_first (suc (length got)) x (y ∷ cells) l))
      (item_run es got x (at_item es (got ++ x ∷ [])) (in_row (suc (length got) + 1) (y ∷ cells) ⊕ l) o (omega (arith, whole)) fits (leads es got x true (omega (arith, whole)) fits inside)
      (subst (λ p. Does (at_item es (got ++ x ∷ [])) (in_row p (y ∷ cells) ⊕ l) o) (sym (place got x)) others))

  -- a segment, and then a run, are a run
  segment_run : (vs : Values) (es : List Value) (l : Lists Cell) (o : List Cell) → is_concrete ty ≡ true → all_are ty vs ≡ true → Does start l o →
      Does (at_flag es) (segment ty 0 vs ⊕ l) (vector_cell (es ++ list_of vs) ∷ o)
  segment_run no_values es l o c are r =
      let out = vector_cell (es ++ []) ∷ o in
      let written : Run tab_machine ty (suc r.0) (at_end es) (edges l) (out ∷ []) = (ap vector_cell (append-nil es), r.1) in
      let next = subst (λ b. OnNext (cond b (Ok (at_end es)) (Err Shape)) (λ s. Run tab_machine ty (suc r.0) s (edges l) (out ∷ []))) (sym c) written in
      subst (λ m. Does (at_flag es) m out) (sym (none_is ty 0 l)) (
        suc (suc r.0),
        at_pushed (width (seq ty)) 0 T l
            (λ x c. OnNext (state_after_item (flag_taking ty es) x) (λ s. Run tab_machine ty (suc r.0) s c (out ∷ []))) some_port next,
      )
  segment_run (more_values v vs) es l o c are r =
      let both = both_true (is_a ty v) (all_are ty vs) are in
      let out = vector_cell (es ++ v ∷ list_of vs) ∷ o in
      let later = segment ty 0 vs ⊕ l in
      let others : Does (at_flag (es ++ v ∷ [])) later out =
      subst (λ k. Does (at_flag (es ++ v ∷ [])) later (vector_cell k ∷ o)) (append_assoc es (v ∷ []) (list_of vs))
      (segment_run vs (es ++ v ∷ []) l o c both.1 r) in
      let full = parts_full ty v in
      let row = spread-parts ty 1 v c ∙ ap (in_row 1) full.2 in
      let k : Does (at_item es []) (spread ty 1 v ⊕ later) out = subst (λ m. Does (at_item es []) (m ⊕ later) out) (sym row) (element_run v full.0 full.1 [] es later out c both.0 full.2 others) in
      let next = subst (λ b. OnNext (cond b (Ok (at_item es [])) (Err Shape)) (λ s. Run tab_machine ty k.0 s (edges (spread ty 1 v ⊕ later)) (out ∷ []))) (sym c) k.1 in
      subst (λ m. Does (at_flag es) m out) (sym (more_is ty 0 v vs l)) (
        suc k.0,
        at_pushed (width (seq ty)) 0 F (spread ty 1 v ⊕ later)
            (λ x c. OnNext (state_after_item (flag_taking ty es) x) (λ s. Run tab_machine ty k.0 s c (out ∷ []))) some_port next,
      )

  -- an instance begins with a flag
  begins_run : (l : Lists Cell) (o : List Cell) → Does (at_flag []) l o → Does start l o
  begins_run l o (zero, r) = absurd r
  begins_run l o (suc n, r) = (suc n, r)

  abbrev all_edges : List Value → Lists Cell
  all_edges vectors = spread_all (seq ty) 0 vectors

  runs : (vectors : List Value) → AreTabs ty vectors → Does start (all_edges vectors) (map datum vectors)
  runs [] are = (0, (none_at (width (seq ty)), refl))
  runs (a_vec vs ∷ vectors) are =
      let r = begins_run (segment ty 0 vs ⊕ all_edges vectors) (vector_cell (list_of vs) ∷ map datum vectors)
      (segment_run vs [] (all_edges vectors) (map datum vectors) are.0 are.1 (runs vectors are.2)) in
      subst (λ v. Does start (all_edges (a_vec vs ∷ vectors)) (datum (a_vec v) ∷ map datum vectors)) (values_listed vs) r
  runs (_ ∷ vectors) are = let never = are.1 in absurd (cc)

  -- What a run reads and writes: further sequences and vectors, after these elements; there are further ones, or a next
  -- element has these of its items left.
  data Owes : TabState → Columns → Columns → Type 0 where
    started : (vectors : List Value) → AreTabs ty vectors → Owes start (edges (all_edges vectors)) (map datum vectors ∷ [])
    flagged : (es : List Value) (vs : Values) (vectors : List Value) → is_concrete ty ≡ true → all_are ty vs ≡ true → AreTabs ty vectors →
        Owes (at_flag es) (edges (segment ty 0 vs ⊕ all_edges vectors)) ((vector_cell (es ++ list_of vs) ∷ map datum vectors) ∷ [])
    itemed : (es : List Value) (got : List Cell) (e : Value) (cells : List Cell) (vs : Values) (vectors : List Value) → is_concrete ty ≡ true →
        is_a ty e ≡ true → all_are ty vs ≡ true → AreTabs ty vectors → parts ty e ≡ got ++ cells →
        Owes (at_item es got) (edges (in_row (suc (length got)) cells ⊕ (segment ty 0 vs ⊕ all_edges vectors))) ((vector_cell ((es ++ e ∷ []) ++ list_of vs) ∷ map datum vectors) ∷ [])
    ended : (es : List Value) (vectors : List Value) → AreTabs ty vectors → Owes (at_end es) (edges (all_edges vectors)) ((vector_cell es ∷ map datum vectors) ∷ [])

  -- the same of other columns
  owes_as : (s : TabState) (p : ℕ) (x : Cell) (l m : Lists Cell) (es fs : List Value) (o : List Cell) → p < width (seq ty) → l ≡ push p x m → es ≡ fs
      → Owes s (edges l) ((vector_cell es ∷ o) ∷ []) → Owes s (push_column p x (edges m)) ((vector_cell fs ∷ o) ∷ [])
  owes_as s p x l m es fs o lt e f h =
      subst (λ k. Owes s k ((vector_cell fs ∷ o) ∷ [])) (ap edges e ∙ sym (push_columns (width (seq ty)) p x m lt))
      (subst (λ k. Owes s (edges l) ((vector_cell k ∷ o) ∷ [])) f h)

  to_end : (es : List Value) (i o : Columns) → is_concrete ty ≡ true → Owes (at_end es) i o → Owes (at_flag es) (push_column 0 T i) o
  to_end es _ _ c (ended _ vectors tabs) =
      owes_as (at_flag es) 0 T (segment ty 0 no_values ⊕ all_edges vectors) (all_edges vectors) (es ++ []) es (map datum vectors) some_port
      (none_is ty 0 (all_edges vectors)) (append-nil es) (flagged es no_values vectors c refl tabs)

  to_item : (es : List Value) (i o : Columns) → Owes (at_item es []) i o → Owes (at_flag es) (push_column 0 F i) o
  to_item es _ _ (itemed _ _ e cells vs vectors c is are tabs parts_are) =
      let later = segment ty 0 vs ⊕ all_edges vectors in
      let row = more_is ty 0 e vs (all_edges vectors) ∙ ap (λ l. push 0 F (l ⊕ later)) (spread-parts ty 1 e c ∙ ap (in_row 1) parts_are) in
      owes_as (at_flag es) 0 F (segment ty 0 (more_values e vs) ⊕ all_edges vectors) (in_row 1 cells ⊕ later) (es ++ e ∷ list_of vs)
      ((es ++ e ∷ []) ++ list_of vs) (map datum vectors) some_port row (sym (append_assoc es (e ∷ []) (list_of vs)))
      (flagged es (more_values e vs) vectors c (and_true (is_a ty e) (all_are ty vs) is are) tabs)

  flag_earlier : (es : List Value) (x : Cell) (i o : Columns) → OnNext (state_after_item (flag_taking ty es) x) (λ s. Owes s i o) → Owes (at_flag es) (push_column 0 x i) o
  flag_earlier es (flag false) i o h = go (is_concrete ty) refl h
    where
      go : (c : Bool) → is_concrete ty ≡ c → OnNext (cond c (Ok (at_item es [])) (Err Shape)) (λ s. Owes s i o) → Owes (at_flag es) (push_column 0 F i) o
      go true e h = to_item es i o h
      go false e h = absurd h
  flag_earlier es (flag true) i o h = go (is_concrete ty) refl h
    where
      go : (c : Bool) → is_concrete ty ≡ c → OnNext (cond c (Ok (at_end es)) (Err Shape)) (λ s. Owes s i o) → Owes (at_flag es) (push_column 0 T i) o
      go true e h = to_end es i o e h
      go false e h = absurd h
  flag_earlier es _ i o h = absurd h

  opened : (i o : Columns) → Owes (at_flag []) i o → Owes start i o
  opened _ _ (flagged _ vs vectors c are tabs) =
      subst (λ v. Owes start (edges (all_edges (a_vec vs ∷ vectors))) ((datum (a_vec v) ∷ map datum vectors) ∷ [])) (sym (values_listed vs))
      (started (a_vec vs ∷ vectors) (c, are, tabs))

  module _ (es : List Value) (got : List Cell) (x : Cell) (lt : suc (length got) < width (seq ty)) where
    to_more : (i o : Columns) → Owes (at_item es (got ++ x ∷ [])) i o → Owes (at_item es got) (push_column (suc (length got)) x i) o
    to_more _ _ (itemed _ _ e cells vs vectors c is are tabs parts_are) =
        let later = segment ty 0 vs ⊕ all_edges vectors in
        let written = (es ++ e ∷ []) ++ list_of vs in
        owes_as (at_item es got) (suc (length got)) x (in_row (suc (length got)) (x ∷ cells) ⊕ later) (in_row (suc (length (got ++ x ∷ []))) cells ⊕ later) written written (map datum vectors) lt
        (row_first (suc (length got)) x cells later ∙ ap (λ p. push (suc (length got)) x (in_row p cells ⊕ later)) (place got x)) refl
        (itemed es got e (x ∷ cells) vs vectors c is are tabs (parts_are ∙ append_assoc got (x ∷ []) cells))

    to_last : (e : Value) (i o : Columns) → is_a ty e ≡ true → parts ty e ≡ got ++ x ∷ [] → Owes (at_flag (es ++ e ∷ [])) i o → Owes (at_item es got) (push_column (suc (length got)) x i) o
    to_last e _ _ is parts_are (flagged _ vs vectors c are tabs) =
        let later = segment ty 0 vs ⊕ all_edges vectors in
        let written = (es ++ e ∷ []) ++ list_of vs in
        owes_as (at_item es got) (suc (length got)) x (in_row (suc (length got)) (x ∷ []) ⊕ later) later written written (map datum vectors) lt (row_first (suc (length got)) x [] later) refl
        (itemed es got e (x ∷ []) vs vectors c is are tabs parts_are)

    to_made : (made : Built) (i o : Columns) → built ty (got ++ x ∷ []) ≡ made → OnNext (with_element es made) (λ s. Owes s i o) → Owes (at_item es got) (push_column (suc (length got)) x i) o
    to_made (Some (e, [])) i o made h = let are = built-is ty (got ++ x ∷ []) e [] made in to_last e i o are.0 (sym (append-nil (parts ty e)) ∙ sym are.1) h
    to_made (Some (e, y ∷ ys)) i o made h = absurd h
    to_made None i o made h = absurd h

  item_earlier : (es : List Value) (got : List Cell) (x : Cell) (inside fits more : Bool) (i o : Columns) → nat_lt (length got) (width ty) ≡ inside →
      OnNext (cond inside (cond fits (cond more (Ok (at_item es (got ++ x ∷ []))) (with_element es (built ty (got ++ x ∷ [])))) (Err Shape))
      (Err Shape)) (λ s. Owes s i o) → Owes (at_item es got) (push_column (cond inside (suc (length got)) 0) x i) o
  item_earlier es got x true true true i o e h = to_more es got x (item_below ty got true e) i o h
  item_earlier es got x true true false i o e h = to_made es got x (item_below ty got true e) (built ty (got ++ x ∷ [])) i o refl h
  item_earlier es got x true false more i o e h = absurd h
  item_earlier es got x false fits more i o e h = absurd h

  earlier : (s : TabState) (x : Cell) (i o : Columns) → Then (λ next. Owes next i o) (tab_move ty s) x → Owes s (reading (tab_move ty s) x i) (writing (tab_move ty s) o)
  earlier start x i o h = opened (push_column 0 x i) o (flag_earlier [] x i o h)
  earlier (at_flag es) x i o h = flag_earlier es x i o h
  earlier (at_item es got) x i o h =
      let led = led_on (kind_at (kinds_of (seq ty)) (item_port ty got)) (item_given ty es got) x (λ s. Owes s i o) h in
      item_earlier es got x (nat_lt (length got) (width ty)) (part_fits ty (length got) x) (nat_lt (length (got ++ x ∷ [])) (width ty)) i o refl led.1
  earlier (at_end es) x _ _ (started vectors tabs) = ended es vectors tabs

  row_of : (i : Lists Cell) (v : List Cell) (c : Columns) → c ≡ edges i → Owes start c (v ∷ []) → TabRow ty i v
  row_of i _ _ e (started vectors tabs) = record { vectors = vectors; v_is = refl; of_type = tabs; edges_are = (on_edges (seq ty) (width (seq ty)) i vectors).1 (sym e) }

pub tab_laws : MachineLaws tab_machine
tab_laws = record {
  sound = sound;
  begins_at_start = λ _. refl;
  starts_of_kind = λ _. tt;
  rows = λ ty i o. (
    λ row. subst (λ v. Does ty start i v) (sym row.v_is)
        (subst (λ c. Runs tab_machine ty start c (map datum row.vectors ∷ []))
        (sym ((on_edges (seq ty) (width (seq ty)) i row.vectors).0 row.edges_are)) (runs ty row.vectors row.of_type)),
    λ r.
        let none = subst (λ c. Owes ty start c ([] ∷ [])) (none_at (width (seq ty))) (started [] tt) in
        row_of ty i (o 0) (edges ty i) refl (run_is tab_machine ty (Owes ty) (sound ty) none (earlier ty) start (edges ty i) (columns 1 o) r),
  );
}
