-- The rows of the nodes over scalars as functions.
use Rattle.std.specs.Prelude.{◌≡◌, ℕ, zero, suc, ℤ, pos, negsuc, Bool, true, false, List, [], ◌∷◌, map, length, replicate, Option, Some, Result, Ok, Err, if◌then◌else◌, refl}
use Rattle.std.specs.List.{All}
use Rattle.std.specs.Result.{result_ok}
use Rattle.std.proofs.Common.{sym, ◌∙◌, ap, subst, map-id}
use Rattle.std.proofs.Math.Path.{ap₂}
use Rattle.std.proofs.lemmas.List.Elements.{All-nil, All-cons, All-head, All-tail}
use Rattle.snesl_data.specs.declared.dialect.Dialect.{Dialect}
use Rattle.snesl_data.specs.declared.fault.FaultKind.{FaultKind}
use Rattle.snesl_data.specs.declared.fault.FaultKind.TheVariants.{Overflow}
use Rattle.snesl_data.specs.Integers.{is_integer, IsInteger}
use Rattle.snesl_data.specs.operators.Operators.{ranged, unary_value, binary_value}
use Rattle.snesl_data.specs.operators.Reductions.{reduction_of, scan_of}
use Rattle.snesl_data.specs.declared.operators.scalar.Scalar.{Scalar}
use Rattle.snesl_data.specs.declared.operators.operator.UnaryOperator.{UnaryOperator}
use Rattle.snesl_data.specs.declared.operators.operator.BinaryOperator.{BinaryOperator}
use Rattle.snesl_data.specs.declared.operators.operator.Reduction.{Reduction}
use Rattle.flow_messages.specs.Cells.{Cell, int}
use Rattle.flow_messages.specs.declared.message.Kind.{Kind}
use Rattle.flow_base.specs.Ports.{each_port}
use Rattle.flow_base.specs.Flags.{flags, concatenation, lengths}
use Rattle.flow_base.specs.Ranges.{AllOf}
use Rattle.flow_base.specs.Columns.{Columns, columns, columns_same, column_is}
use Rattle.flow_folds.specs.Scalars.{cell_of_scalar, scalar_in}
use Rattle.flow_folds.specs.ScalarCells.{scalar_in-cell}
use Rattle.flow_scalar.specs.Rows.{SourceRow, const_reads, const_writes, ConstRow, UnaryCase, unary_reads, unary_writes, UnaryRow, BinaryCase}
use Rattle.flow_scalar.specs.Rows.{binary_reads, binary_writes, BinaryRow, ForkRow, SinkRow, iota_reads, iota_writes, IotaRow, units_of_reads}
use Rattle.flow_scalar.specs.Rows.{units_of_writes, UnitsOfRow}
use Rattle.flow_folds.specs.Rows.{Scanned, scan_add_reads, scan_add_writes, ScanAddRow, Reduced, reduce_reads, reduce_writes, ReduceRow, LengthRow}
use Rattle.flow_nodes.specs.functions.Lists.{each, paired, cut}
use Rattle.flow_nodes.specs.functions.Decoded.{numbers, integer_in, integers, scalars, truths, units, items_of_kind}
use Rattle.flow_nodes.specs.functions.Made.{scalar_cells, integer_cells, source_made, const_made, unary_made, binary_made, fork_made, sink_made, natural}
use Rattle.flow_nodes.specs.functions.Made.{iota_made, units_of_made, scan_add_made, reduce_made, length_made}
use Rattle.flow_nodes.specs.functions.RowsAreFunctions.{IsFunction}
use Rattle.flow_nodes.proofs.OfFunctions.Options.{bind_gives, map_gives, ok_gives, some_same, each_forth, each_back, paired_map, paired_back, cut_forth, cut_back, lengths_map, map_map, map_joined}
use Rattle.flow_nodes.proofs.OfFunctions.Decoding.{numbers_forth, numbers_back, truths_forth, truths_back, integers_forth, integers_back, scalars_forth}
use Rattle.flow_nodes.proofs.OfFunctions.Decoding.{scalars_back, units_forth, units_back, items_forth, items_back}
use Rattle.flow_nodes.proofs.OfFunctions.FlagRows.{function_of}
use Rattle.flow_nodes.proofs.OfFunctions.SegmentRows.{one_column, same_column}

-- Source

pub source_row : (cells : List Cell) → IsFunction (SourceRow cells) (source_made cells) 0 1
source_row cells i o = (λ h. ap (λ l. Some (l ∷ [])) (sym h), λ e. sym (one_column cells (o 0) e))

-- Const

const_forth : (k : Scalar) (n : ℕ) → const_made k (const_reads n) ≡ Some (const_writes k n)
const_forth k n = rw (units_forth n) refl

const_back : (k : Scalar) (u : List Cell) (o : Columns) → const_made k (u ∷ []) ≡ Some o → (n : ℕ) × (u ∷ [] ≡ const_reads n) × (o ≡ const_writes k n)
const_back k u o e = let s0 = map_gives _ (units u) e in (s0.0, ap (λ l. l ∷ []) (units_back u s0.0 s0.1), s0.2)

pub const_row : (k : Scalar) → IsFunction (ConstRow k) (const_made k) 1 1
const_row k = function_of const_reads (const_writes k) (const_made k) 1 1 (const_forth k) (λ i. const_back k (i 0))

-- Unary

module _ (dialect : Dialect) (op : UnaryOperator) where
  abbrev unary_at : Scalar → Option Scalar
  unary_at k = result_ok (unary_value dialect op k)

  unary_forth : (xs : List (UnaryCase dialect op)) → unary_made dialect op (unary_reads dialect op xs) ≡ Some (unary_writes dialect op xs)
  unary_forth xs = rw (
    each_forth scalar_in (λ x. cell_of_scalar x.0) (λ x. x.0) (λ x. scalar_in-cell x.0) xs,
    each_forth unary_at (λ x. x.0) (λ x. x.1) (λ x. ap result_ok x.2) xs,
  ) (ap (λ l. Some (l ∷ [])) (map_map cell_of_scalar (λ x. x.1) xs))

  unary_back : (a : List Cell) (o : Columns) → unary_made dialect op (a ∷ []) ≡ Some o → (xs : List (UnaryCase dialect op)) × (a ∷ [] ≡ unary_reads dialect op xs) × (o ≡ unary_writes dialect op xs)
  unary_back a o e =
      let s0 = map_gives _ _ e in
      let s1 = bind_gives (scalars a) _ s0.1 in
      let g = each_back {Z = UnaryCase dialect op} unary_at (λ x. x.0) (λ x. x.1) (λ k v e. ((k, v, ok_gives (unary_value dialect op k) e), refl, refl)) s1.0 s0.0 s1.2 in (
        g.0,
        ap (λ l. l ∷ []) (scalars_back a s1.0 s1.1 ∙ ap scalar_cells g.1 ∙ map_map cell_of_scalar (λ x. x.0) g.0),
        s0.2
            ∙ ap (λ l. l ∷ []) (ap scalar_cells g.2 ∙ map_map cell_of_scalar (λ x. x.1) g.0),
      )

  pub unary_row : IsFunction (UnaryRow dialect op) (unary_made dialect op) 1 1
  unary_row = function_of (unary_reads dialect op) (unary_writes dialect op) (unary_made dialect op) 1 1 unary_forth (λ i. unary_back (i 0))

-- Binary

module _ (dialect : Dialect) (op : BinaryOperator) where
  abbrev binary_at : Scalar × Scalar → Option Scalar
  binary_at p = result_ok (binary_value dialect op p.0 p.1)

  binary_forth : (xs : List (BinaryCase dialect op)) → binary_made dialect op (binary_reads dialect op xs) ≡ Some (binary_writes dialect op xs)
  binary_forth xs = rw (
    each_forth scalar_in (λ x. cell_of_scalar x.0) (λ x. x.0) (λ x. scalar_in-cell x.0) xs,
    each_forth scalar_in (λ x. cell_of_scalar x.1) (λ x. x.1) (λ x. scalar_in-cell x.1) xs,
    paired_map (λ x. x.0) (λ x. x.1) xs,
    each_forth binary_at (λ x. (x.0, x.1)) (λ x. x.2) (λ x. ap result_ok x.3) xs,
  ) (ap (λ l. Some (l ∷ [])) (map_map cell_of_scalar (λ x. x.2) xs))

  binary_back : (a b : List Cell) (o : Columns) → binary_made dialect op (a ∷ b ∷ []) ≡ Some o → (xs : List (BinaryCase dialect op))
      × (a ∷ b ∷ [] ≡ binary_reads dialect op xs) × (o ≡ binary_writes dialect op xs)
  binary_back a b o e =
      let s0 = map_gives _ _ e in
      let s1 = bind_gives (scalars a) _ s0.1 in
      let s2 = bind_gives (scalars b) _ s1.2 in
      let s3 = bind_gives (paired s1.0 s2.0) _ s2.2 in
      let p = paired_back s1.0 s2.0 s3.0 s3.1 in
      let g = each_back {Z = BinaryCase dialect op} binary_at (λ x. (x.0, x.1)) (λ x. x.2) (λ p v e. ((p.0, p.1, v, ok_gives (binary_value dialect op p.0 p.1) e), refl, refl)) s3.0 s0.0 s3.2 in
      let left : s1.0 ≡ map (λ x. x.0) g.0 = p.0 ∙ ap (map (λ p. p.0)) g.1 ∙ map_map (λ p. p.0) (λ x. (x.0, x.1)) g.0 in
      let right : s2.0 ≡ map (λ x. x.1) g.0 = p.1 ∙ ap (map (λ p. p.1)) g.1 ∙ map_map (λ p. p.1) (λ x. (x.0, x.1)) g.0 in (
        g.0,
        ap₂ (λ a b. a ∷ b ∷ []) (scalars_back a s1.0 s1.1 ∙ ap scalar_cells left ∙ map_map cell_of_scalar (λ x. x.0) g.0)
            (scalars_back b s2.0 s2.1 ∙ ap scalar_cells right ∙ map_map cell_of_scalar (λ x. x.1) g.0),
        s0.2 ∙ ap (λ l. l ∷ []) (ap scalar_cells g.2 ∙ map_map cell_of_scalar (λ x. x.2) g.0),
      )

  pub binary_row : IsFunction (BinaryRow dialect op) (binary_made dialect op) 2 1
  binary_row = function_of (binary_reads dialect op) (binary_writes dialect op) (binary_made dialect op) 2 1 binary_forth (λ i. binary_back (i 0) (i 1))

-- Fork

columns_of_one : (n : ℕ) (a : List Cell) → columns n (λ _. a) ≡ replicate n a
columns_of_one zero a = refl
columns_of_one (suc n) a = ap (λ l. a ∷ l) (columns_of_one n a)

pub fork_row : (kind : Kind) (outputs : ℕ) → IsFunction (ForkRow kind outputs) (fork_made kind outputs) 1 outputs
fork_row kind outputs i o = (
  λ h. rw (items_forth kind (i 0) h.0) (ap Some (sym (columns_same outputs o (λ _. i 0) h.1 ∙ columns_of_one outputs (i 0)))),
  λ e.
      let g = map_gives (λ xs. replicate outputs xs) (items_of_kind kind (i 0)) e in
      let k = items_back kind (i 0) g.0 g.1 in
      let all : columns outputs o ≡ columns outputs (λ _. i 0) = g.2 ∙ ap (replicate outputs) (sym k.0) ∙ sym (columns_of_one outputs (i 0)) in
      (subst (AllOf kind) (sym k.0) k.1, λ q lt. sym (column_is outputs o q lt) ∙ ap (λ cs. each_port cs q) all ∙ column_is outputs (λ _. i 0) q lt),
)

-- Sink

pub sink_row : (kind : Kind) → IsFunction (λ i _. SinkRow kind (i 0)) (sink_made kind) 1 0
sink_row kind i o = (
  λ h. rw (items_forth kind (i 0) h) refl,
  λ e.
      let g = map_gives (λ xs. []) (items_of_kind kind (i 0)) e in
      let k = items_back kind (i 0) g.0 g.1 in
      subst (AllOf kind) (sym k.0) k.1,
)

-- Iota

each_natural : (ns : List ℕ) → each natural (map pos ns) ≡ Some ns
each_natural ns = each_forth natural pos (λ n. n) (λ n. refl) ns ∙ ap Some (map-id ns)

natural_is : (m : ℤ) (n : ℕ) → natural m ≡ Some n → (k : ℕ) × (m ≡ pos k) × (n ≡ k)
natural_is (pos k) n e = (k, refl, sym (some_same k n e))
natural_is (negsuc k) n e = absurd (cc)

iota_forth : (ns : List ℕ) → iota_made (iota_reads ns) ≡ Some (iota_writes ns)
iota_forth ns = rw (each_forth integer_in (λ n. int (pos n)) pos (λ n. refl) ns, each_natural ns) refl

iota_back : (a : List Cell) (o : Columns) → iota_made (a ∷ []) ≡ Some o → (ns : List ℕ) × (a ∷ [] ≡ iota_reads ns) × (o ≡ iota_writes ns)
iota_back a o e =
    let s0 = map_gives _ _ e in
    let s1 = bind_gives (integers a) _ s0.1 in
    let g = each_back natural pos (λ n. n) natural_is s1.0 s0.0 s1.2 in
    let same : s0.0 ≡ g.0 = g.2 ∙ map-id g.0 in
    (g.0, ap (λ l. l ∷ []) (integers_back a s1.0 s1.1 ∙ ap (map int) g.1 ∙ map_map int pos g.0), s0.2 ∙ ap iota_writes same)

pub iota_row : IsFunction IotaRow iota_made 1 2
iota_row = function_of iota_reads iota_writes iota_made 1 2 iota_forth (λ i. iota_back (i 0))

-- UnitsOf

units_of_forth : (bs : List Bool) → units_of_made (units_of_reads bs) ≡ Some (units_of_writes bs)
units_of_forth bs = rw (truths_forth bs) refl

units_of_back : (f : List Cell) (o : Columns) → units_of_made (f ∷ []) ≡ Some o → (bs : List Bool) × (f ∷ [] ≡ units_of_reads bs) × (o ≡ units_of_writes bs)
units_of_back f o e = let s0 = map_gives _ (truths f) e in (s0.0, ap (λ l. l ∷ []) (truths_back f s0.0 s0.1), s0.2)

pub units_of_row : IsFunction UnitsOfRow units_of_made 1 1
units_of_row = function_of units_of_reads units_of_writes units_of_made 1 1 units_of_forth (λ i. units_of_back (i 0))

-- groups of what is encoded cell by cell

encoded_groups : {A Z : Type 0} (encode : A → Cell) (l : Z → List A) (zs : List Z) → concatenation (map (λ z. map encode (l z)) zs) ≡ map encode (concatenation (map l zs))
encoded_groups encode l zs = ap concatenation (sym (map_map (map encode) l zs)) ∙ sym (map_joined encode (map l zs))

cut_groups : {A Z : Type 0} (l : Z → List A) (zs : List Z) → cut (map (λ z. length (l z)) zs) (concatenation (map l zs)) ≡ Some (map l zs)
cut_groups l zs = ap (λ ns. cut ns (concatenation (map l zs))) (sym (lengths_map l zs)) ∙ cut_forth (map l zs)

-- ScanAdd

module _ (dialect : Dialect) where
  abbrev scan_at : List ℤ → Option (List ℤ)
  scan_at group = result_ok (scan_of dialect group)

  scan_add_forth : (gs : List (Scanned dialect)) → scan_add_made dialect (scan_add_reads dialect gs) ≡ Some (scan_add_writes dialect gs)
  scan_add_forth gs = rw (
    encoded_groups int (λ g. g.0) gs,
    numbers_forth (map (λ g. length g.0) gs),
    integers_forth (concatenation (map (λ g. g.0) gs)),
    cut_groups (λ g. g.0) gs,
    each_forth scan_at (λ g. g.0) (λ g. g.1) (λ g. ap result_ok g.2) gs,
  )
      (ap (λ ls. Some (concatenation ls ∷ [])) (map_map integer_cells (λ g. g.1) gs))

  scan_add_back : (f a : List Cell) (o : Columns) → scan_add_made dialect (f ∷ a ∷ []) ≡ Some o → (gs : List (Scanned dialect))
      × (f ∷ a ∷ [] ≡ scan_add_reads dialect gs) × (o ≡ scan_add_writes dialect gs)
  scan_add_back f a o e =
      let s0 = map_gives _ _ e in
      let s1 = bind_gives (numbers f) _ s0.1 in
      let s2 = bind_gives (integers a) _ s1.2 in
      let s3 = bind_gives (cut s1.0 s2.0) _ s2.2 in
      let c = cut_back s1.0 s2.0 s3.0 s3.1 in
      let g = each_back {Z = Scanned dialect} scan_at (λ g. g.0) (λ g. g.1) (λ xs sums e. ((xs, sums, ok_gives (scan_of dialect xs) e), refl, refl)) s3.0 s0.0 s3.2 in (
        g.0,
        ap₂ (λ f a. f ∷ a ∷ []) (numbers_back f s1.0 s1.1 ∙ ap flags (c.0 ∙ ap lengths g.1 ∙ lengths_map (λ g. g.0) g.0))
            (integers_back a s2.0 s2.1 ∙ ap integer_cells (c.1 ∙ ap concatenation g.1) ∙ sym (encoded_groups int (λ g. g.0) g.0)),
        s0.2 ∙ ap (λ ls. concatenation ls ∷ []) (ap (map integer_cells) g.2 ∙ map_map integer_cells (λ g. g.1) g.0),
      )

  pub scan_add_row : IsFunction (ScanAddRow dialect) (scan_add_made dialect) 2 1
  scan_add_row = function_of (scan_add_reads dialect) (scan_add_writes dialect) (scan_add_made dialect) 2 1 scan_add_forth (λ i. scan_add_back (i 0) (i 1))

-- Reduce

module _ (dialect : Dialect) (reduction : Reduction) where
  abbrev reduce_at : List Scalar → Option Scalar
  reduce_at group = result_ok (reduction_of dialect reduction group)

  reduce_forth : (gs : List (Reduced dialect reduction)) → reduce_made dialect reduction (reduce_reads dialect reduction gs) ≡ Some (reduce_writes dialect reduction gs)
  reduce_forth gs = rw (
    encoded_groups cell_of_scalar (λ g. g.0) gs,
    numbers_forth (map (λ g. length g.0) gs),
    scalars_forth (concatenation (map (λ g. g.0) gs)),
    cut_groups (λ g. g.0) gs,
    each_forth reduce_at (λ g. g.0) (λ g. g.1) (λ g. ap result_ok g.2) gs,
  )
      (ap (λ l. Some (l ∷ [])) (map_map cell_of_scalar (λ g. g.1) gs))

  reduce_back : (f a : List Cell) (o : Columns) → reduce_made dialect reduction (f ∷ a ∷ []) ≡ Some o → (gs : List (Reduced dialect reduction))
      × (f ∷ a ∷ [] ≡ reduce_reads dialect reduction gs) × (o ≡ reduce_writes dialect reduction gs)
  reduce_back f a o e =
      let s0 = map_gives _ _ e in
      let s1 = bind_gives (numbers f) _ s0.1 in
      let s2 = bind_gives (scalars a) _ s1.2 in
      let s3 = bind_gives (cut s1.0 s2.0) _ s2.2 in
      let c = cut_back s1.0 s2.0 s3.0 s3.1 in
      let g = each_back {Z = Reduced dialect reduction} reduce_at (λ g. g.0) (λ g. g.1) (λ xs k e. ((xs, k, ok_gives (reduction_of dialect reduction xs) e), refl, refl)) s3.0 s0.0 s3.2 in (
        g.0,
        ap₂ (λ f a. f ∷ a ∷ []) (numbers_back f s1.0 s1.1 ∙ ap flags (c.0 ∙ ap lengths g.1 ∙ lengths_map (λ g. g.0) g.0))
            (scalars_back a s2.0 s2.1 ∙ ap scalar_cells (c.1 ∙ ap concatenation g.1) ∙ sym (encoded_groups cell_of_scalar (λ g. g.0) g.0)),
        s0.2 ∙ ap (λ l. l ∷ []) (ap scalar_cells g.2 ∙ map_map cell_of_scalar (λ g. g.1) g.0),
      )

  pub reduce_row : IsFunction (ReduceRow dialect reduction) (reduce_made dialect reduction) 2 1
  reduce_row = function_of (reduce_reads dialect reduction) (reduce_writes dialect reduction) (reduce_made dialect reduction) 2 1 reduce_forth (λ i. reduce_back (i 0) (i 1))

-- Length

module _ (dialect : Dialect) where
  abbrev ranged_at : ℕ → Option ℤ
  ranged_at n = result_ok (ranged dialect (pos n))

  -- a number in the range
  abbrev InRange : Type 0
  InRange = (n : ℕ) × IsInteger dialect (pos n)

  ranged_forth : (x : InRange) → ranged_at x.0 ≡ Some (pos x.0)
  ranged_forth x = rw x.1 refl

  abbrev ranged_if : Bool → ℤ → Result ℤ FaultKind
  ranged_if b n = if b then Ok n else Err Overflow

  ranged_back : (n : ℕ) (m : ℤ) → ranged_at n ≡ Some m → (x : InRange) × (n ≡ x.0) × (m ≡ pos x.0)
  ranged_back n m e = go (is_integer dialect (pos n)) refl e
    where
      go : (b : Bool) → is_integer dialect (pos n) ≡ b → result_ok (ranged_if b (pos n)) ≡ Some m → (x : InRange) × (n ≡ x.0) × (m ≡ pos x.0)
      go true is e = ((n, is), refl, sym (some_same (pos n) m e))
      go false is e = absurd (cc)

  in_range : (ns : List ℕ) → All (λ n. IsInteger dialect (pos n)) ns → (xs : List InRange) × (ns ≡ map (λ x. x.0) xs)
  in_range [] h = ([], refl)
  in_range (n ∷ ns) h =
      let g = in_range ns (All-tail (λ n. IsInteger dialect (pos n)) n ns h) in
      ((n, All-head (λ n. IsInteger dialect (pos n)) n ns h) ∷ g.0, ap (λ l. n ∷ l) g.1)

  all_in_range : (xs : List InRange) → All (λ n. IsInteger dialect (pos n)) (map (λ x. x.0) xs)
  all_in_range [] = All-nil (λ n. IsInteger dialect (pos n))
  all_in_range (x ∷ xs) = All-cons (λ n. IsInteger dialect (pos n)) x.0 (map (λ x. x.0) xs) x.1 (all_in_range xs)

  length_from : (f r : List Cell) → LengthRow dialect f r → length_made dialect (f ∷ []) ≡ Some (r ∷ [])
  length_from f r row =
      let g = in_range row.ns row.in_range in
      let each_is : each ranged_at row.ns ≡ Some (map pos row.ns) = ap (each ranged_at) g.1
      ∙ each_forth ranged_at (λ x. x.0) (λ x. pos x.0) ranged_forth g.0 ∙ ap Some (sym (map_map pos (λ x. x.0) g.0) ∙ ap (map pos) (sym g.1)) in
      ap (λ f. length_made dialect (f ∷ [])) row.f_is
      ∙ rw (numbers_forth row.ns, each_is) (ap (λ r. Some (r ∷ [])) (map_map int pos row.ns ∙ sym row.r_is))

  length_to : (f r : List Cell) → length_made dialect (f ∷ []) ≡ Some (r ∷ []) → LengthRow dialect f r
  length_to f r e =
      let s0 = map_gives _ _ e in
      let s1 = bind_gives (numbers f) _ s0.1 in
      let g = each_back {Z = InRange} ranged_at (λ x. x.0) (λ x. pos x.0) ranged_back s1.0 s0.0 s1.2 in
      record {
        ns = map (λ x. x.0) g.0;
        f_is = numbers_back f s1.0 s1.1 ∙ ap flags g.1;
        in_range = all_in_range g.0;
        r_is = same_column r (integer_cells s0.0) s0.2 ∙ ap integer_cells g.2 ∙ map_map int (λ x. pos x.0) g.0 ∙ sym (map_map (λ n. int (pos n)) (λ x. x.0) g.0);
      }

  pub length_row : IsFunction (λ i o. LengthRow dialect (i 0) (o 0)) (length_made dialect) 1 1
  length_row i o = (length_from (i 0) (o 0), length_to (i 0) (o 0))
