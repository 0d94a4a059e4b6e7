-- What values of a type come of, and what they put on their edges.
use Rattle.std.specs.Prelude.{◌≡◌, ℤ, Bool, true, List, [], ◌∷◌, map, Option, Some, None, option_map, refl}
use Rattle.std.proofs.Common.{sym, ap, ◌∙◌, subst}
use Rattle.std.proofs.Math.Path.{ap₂}
use Rattle.snesl_data.specs.Types.{Ty, int, bool, pair, vec, seq}
use Rattle.snesl_data.specs.Values.{Value, an_int, a_bool, a_pair, a_vec, a_seq, list_of, values_of}
use Rattle.snesl_data.specs.operators.Operators.{type_of}
use Rattle.snesl_data.specs.declared.operators.scalar.Scalar.{Scalar}
use Rattle.snesl_data.specs.declared.operators.scalar.Scalar.TheVariants.{Int, Bool as Truth}
use Rattle.snesl_data.specs.declared.operators.scalar.ScalarType.{ScalarType}
use Rattle.snesl_data.specs.declared.operators.scalar.ScalarType.TheVariants.{Int as IntType, Bool as BoolType}
use Rattle.flow_messages.specs.Cells.{flag, int as int_cell, datum}
use Rattle.flow_base.specs.Flags.{flags, concatenation, lengths}
use Rattle.flow_values.specs.Shapes.{is_a, cell_for}
use Rattle.flow_nodes.specs.functions.Decoded.{a_pair_of, a_seq_of}
use Rattle.flow_nodes.specs.functions.Made.{one, scalar_cells, integer_cells, columns_of_values}
use Rattle.flow_nodes.proofs.OfFunctions.Edges.{laid_seq}
use Rattle.flow_nodes.proofs.OfFunctions.ValueDecoding.{AllAre, values_list, all_split, all_apart, elements_made}
use Rattle.snesl_evaluation.specs.Builtins.{scalar_value}
use Rattle.snesl_translation.specs.Wires.{IsSingle}

-- all that are of a type come of something, where each does
pub all_from : {Z : Type 0} (t : Ty) (make : Z → Value) → ((v : Value) → is_a t v ≡ true → (z : Z) × (v ≡ make z)) → (vs : List Value) → AllAre t vs → (zs : List Z) × (vs ≡ map make zs)
all_from t make h [] are = ([], refl)
all_from t make h (v ∷ vs) are =
    let s = all_split t v vs are in
    let one = h v s.0 in
    let others = all_from t make h vs s.1 in
    (one.0 ∷ others.0, ap₂ (λ v vs. v ∷ vs) one.1 others.1)

-- the same of pairs, part by part
pub both_from : {Y Z : Type 0} (s t : Ty) (make : Y → Value) (other : Z → Value) → ((v : Value) → is_a s v ≡ true → (y : Y) × (v ≡ make y)) → ((v : Value) → is_a t v ≡ true → (z : Z) × (v ≡ other z))
    → (ps : List (Value × Value)) → AllAre s (map (λ p. p.0) ps) → AllAre t (map (λ p. p.1) ps) → (qs : List (Y × Z)) × (ps ≡ map (λ q. (make q.0, other q.1)) qs)
both_from s t make other h g [] left right = ([], refl)
both_from s t make other h g ((v, w) ∷ ps) left right =
    let l = all_split s v (map (λ p. p.0) ps) left in
    let r = all_split t w (map (λ p. p.1) ps) right in
    let first = h v l.0 in
    let second = g w r.0 in
    let others = both_from s t make other h g ps l.1 r.1 in
    ((first.0, second.0) ∷ others.0, ap₂ (λ p ps. p ∷ ps) (ap₂ (λ v w. (v, w)) first.1 second.1) others.1)

-- the same of groups
pub groups_from : {Z : Type 0} (t : Ty) (make : Z → Value) → ((v : Value) → is_a t v ≡ true → (z : Z) × (v ≡ make z)) → (gs : List (List Value)) → AllAre t (concatenation gs)
    → (zss : List (List Z)) × (gs ≡ map (map make) zss)
groups_from t make h [] are = ([], refl)
groups_from t make h (g ∷ gs) are =
    let s = all_apart t g (concatenation gs) are in
    let one = all_from t make h g s.0 in
    let others = groups_from t make h gs s.1 in
    (one.0 ∷ others.0, ap₂ (λ g gs. g ∷ gs) one.1 others.1)

-- the vector of these elements
abbrev pub a_vec_of : List Value → Value
a_vec_of vs = a_vec (values_of vs)

pub int_from : (v : Value) → is_a int v ≡ true → (n : ℤ) × (v ≡ an_int n)
int_from (an_int n) is = (n, refl)
int_from _ is = absurd (cc)

pub bool_from : (v : Value) → is_a bool v ≡ true → (b : Bool) × (v ≡ a_bool b)
bool_from (a_bool b) is = (b, refl)
bool_from _ is = absurd (cc)

pub vec_from : (item : Ty) (v : Value) → is_a (vec item) v ≡ true → (vs : List Value) × (v ≡ a_vec_of vs)
vec_from item (a_vec vs) is = (list_of vs, ap a_vec (sym (values_list vs)))
vec_from item _ is = absurd (cc)

pub pair_from : (first second : Ty) (v : Value) → is_a (pair first second) v ≡ true → (p : Value × Value) × (v ≡ a_pair_of p)
pair_from first second (a_pair a b) is = ((a, b), refl)
pair_from first second _ is = absurd (cc)

pub seq_from : (item : Ty) (v : Value) → is_a (seq item) v ≡ true → (vs : List Value) × (v ≡ a_seq_of vs)
seq_from item (a_seq vs) is = (list_of vs, ap a_seq (sym (values_list vs)))
seq_from item _ is = absurd (cc)

-- scalars

-- the type of their values
abbrev pub type_as : ScalarType → Ty
type_as IntType = int
type_as BoolType = bool

pub single_as : (t : ScalarType) → IsSingle (type_as t)
single_as IntType = tt
single_as BoolType = tt

pub scalar_from : (t : ScalarType) (v : Value) → is_a (type_as t) v ≡ true → (k : Scalar) × (v ≡ scalar_value k)
scalar_from IntType (an_int n) is = (Int n, refl)
scalar_from BoolType (a_bool b) is = (Truth b, refl)
scalar_from _ _ is = absurd (cc)

pub scalar_as : (t : ScalarType) (k : Scalar) → type_of k ≡ t → is_a (type_as t) (scalar_value k) ≡ true
scalar_as t (Int n) e = subst (λ t. is_a (type_as t) (an_int n) ≡ true) e refl
scalar_as t (Truth b) e = subst (λ t. is_a (type_as t) (a_bool b) ≡ true) e refl

-- cells

pub cells_of_scalars : (ks : List Scalar) → map cell_for (map scalar_value ks) ≡ scalar_cells ks
cells_of_scalars [] = refl
cells_of_scalars (Int n ∷ ks) = ap (λ l. int_cell n ∷ l) (cells_of_scalars ks)
cells_of_scalars (Truth b ∷ ks) = ap (λ l. flag b ∷ l) (cells_of_scalars ks)

pub cells_of_integers : (ns : List ℤ) → map cell_for (map an_int ns) ≡ integer_cells ns
cells_of_integers [] = refl
cells_of_integers (n ∷ ns) = ap (λ l. int_cell n ∷ l) (cells_of_integers ns)

pub cells_of_truths : (bs : List Bool) → map cell_for (map a_bool bs) ≡ map flag bs
cells_of_truths [] = refl
cells_of_truths (b ∷ bs) = ap (λ l. flag b ∷ l) (cells_of_truths bs)

pub cells_of_vectors : (gs : List (List Value)) → map cell_for (map a_vec_of gs) ≡ map datum (map a_vec_of gs)
cells_of_vectors [] = refl
cells_of_vectors (g ∷ gs) = ap (λ l. datum (a_vec_of g) ∷ l) (cells_of_vectors gs)

-- what a node makes of scalars is what their values put there
pub one_scalars : (t : ScalarType) (o : Option (List Scalar)) → one scalar_cells o ≡ option_map (λ ks. columns_of_values (type_as t) (map scalar_value ks)) o
one_scalars t None = refl
one_scalars IntType (Some ks) = ap (λ cs. Some (cs ∷ [])) (sym (cells_of_scalars ks))
one_scalars BoolType (Some ks) = ap (λ cs. Some (cs ∷ [])) (sym (cells_of_scalars ks))

pub one_integers : (o : Option (List ℤ)) → one integer_cells o ≡ option_map (λ ns. columns_of_values int (map an_int ns)) o
one_integers None = refl
one_integers (Some ns) = ap (λ cs. Some (cs ∷ [])) (sym (cells_of_integers ns))

pub laid_groups : (item : Ty) (gs : List (List Value)) → columns_of_values (seq item) (map a_seq_of gs) ≡ flags (lengths gs) ∷ columns_of_values item (concatenation gs)
laid_groups item gs = laid_seq item (map a_seq_of gs) ∙ ap (λ gs. flags (lengths gs) ∷ columns_of_values item (concatenation gs)) (elements_made gs)
