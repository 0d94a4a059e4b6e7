-- The values of inputs, one after another.
use Rattle.std.proofs.Common.{◌≡◌, ℕ, zero, suc, true, List, [], ◌∷◌, ◌++◌, take, Some, refl, sym, ap, subst, ◌∙◌, append_assoc, append-nil}
use Rattle.std.specs.List.{slice_get}
use Rattle.snesl_data.specs.declared.dialect.Dialect.{Dialect}
use Rattle.snesl_data.specs.Types.{Ty, int, bool, pair, vec, seq}
use Rattle.snesl_data.specs.Values.{Value, Values, an_int, a_bool, a_pair, a_vec, a_seq, no_values, more_values, HasType, AllHaveType}
use Rattle.snesl_values.specs.Inputs.{InputDeclaration, Environment, FitDeclarations}
use Rattle.flow_values.specs.Shapes.{is_a, all_are, kinds_of}
use Rattle.flow_values.specs.laws.Kinds.{and_true}
use Rattle.flow_nodes.specs.functions.Made.{columns_of_values}
use Rattle.snesl_translation.specs.Programs.{columns_of}
use Rattle.snesl_flatten.specs.Sources.{all_kinds}

-- a value of a type is so by its shape
mutual
  pub typed_is : (dialect : Dialect) (t : Ty) (v : Value) → HasType dialect v t → is_a t v ≡ true
  typed_is dialect int (an_int n) h = refl
  typed_is dialect bool (a_bool b) h = refl
  typed_is dialect (pair first second) (a_pair a b) h = and_true (is_a first a) (is_a second b) (typed_is dialect first a h.0) (typed_is dialect second b h.1)
  typed_is dialect (vec item) (a_vec vs) h = typed_are dialect item vs h
  typed_is dialect (seq item) (a_seq vs) h = typed_are dialect item vs h
  typed_is dialect _ _ h = absurd h

  typed_are : (dialect : Dialect) (item : Ty) (vs : Values) → AllHaveType dialect vs item → all_are item vs ≡ true
  typed_are dialect item no_values h = refl
  typed_are dialect item (more_values v vs) h = and_true (is_a item v) (all_are item vs) (typed_is dialect item v h.0) (typed_are dialect item vs h.1)

-- each declared input has a value of its type
pub fit_at : (dialect : Dialect) (ds : List InputDeclaration) (es : Environment) (i : ℕ) (d : InputDeclaration) → FitDeclarations dialect ds es → slice_get ds i ≡ Some d
    → (e : List ℕ × Value) × (slice_get es i ≡ Some e) × (is_a d.1 e.1 ≡ true)
fit_at dialect [] es i d fits there = absurd (cc)
fit_at dialect (x ∷ ds) [] i d fits there = absurd fits
fit_at dialect (x ∷ ds) (e ∷ es) zero d fits there =
    let same : x ≡ d = cc in
    (e, refl, subst (λ (y : InputDeclaration). is_a y.1 e.1 ≡ true) same (typed_is dialect x.1 e.1 fits.1))
fit_at dialect (x ∷ ds) (e ∷ es) (suc i) d fits there = fit_at dialect ds es i d fits.2 there

-- the columns of some inputs and one more
pub columns_more : (ds : List InputDeclaration) (es : Environment) (i : ℕ) (d : InputDeclaration) (e : List ℕ × Value) → slice_get ds i ≡ Some d → slice_get es i ≡ Some e
    → columns_of (take (suc i) ds) (take (suc i) es) ≡ columns_of (take i ds) (take i es) ++ columns_of_values d.1 (e.1 ∷ [])
columns_more [] es i d e there value = absurd (cc)
columns_more (x ∷ ds) [] i d e there value = absurd (cc)
columns_more (x ∷ ds) (y ∷ es) zero d e there value =
    let same : x ≡ d = cc in
    let one : y ≡ e = cc in
    append-nil (columns_of_values x.1 (y.1 ∷ [])) ∙ (λ i. columns_of_values (same i).1 ((one i).1 ∷ []))
columns_more (x ∷ ds) (y ∷ es) (suc i) d e there value =
    ap (λ l. columns_of_values x.1 (y.1 ∷ []) ++ l) (columns_more ds es i d e there value)
    ∙ sym (append_assoc (columns_of_values x.1 (y.1 ∷ [])) (columns_of (take i ds) (take i es)) (columns_of_values d.1 (e.1 ∷ [])))

pub kinds_more : (ds : List InputDeclaration) (i : ℕ) (d : InputDeclaration) → slice_get ds i ≡ Some d → all_kinds (take (suc i) ds) ≡ all_kinds (take i ds) ++ kinds_of d.1
kinds_more [] i d there = absurd (cc)
kinds_more (x ∷ ds) zero d there = let same : x ≡ d = cc in append-nil (kinds_of x.1) ∙ ap (λ (y : InputDeclaration). kinds_of y.1) same
kinds_more (x ∷ ds) (suc i) d there = ap (λ l. kinds_of x.1 ++ l) (kinds_more ds i d there) ∙ sym (append_assoc (kinds_of x.1) (all_kinds (take i ds)) (kinds_of d.1))
