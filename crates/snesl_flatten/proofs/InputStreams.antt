-- What the values of some inputs put on edges, and of one more.
use Rattle.std.proofs.Common.{◌≡◌, ℕ, suc, ◌<◌, ◌≤◌, true, List, [], ◌∷◌, ◌++◌, length, take, get_or, Vec, Option, Some, None, refl, sym, ap, subst, ◌∙◌, arith}
use Rattle.std.proofs.Math.Path.{ap₂}
use Rattle.std.proofs.lemmas.List.{take_all}
use Rattle.std.proofs.lemmas.Option.{slice_get-map, slice_get-get_or}
use Rattle.std.specs.Global.{Global}
use Rattle.std.specs.List.{slice_get}
use Rattle.std.specs.Option.{option_map, IsSome}
use Rattle.snesl_data.specs.declared.dialect.Dialect.{Dialect}
use Rattle.snesl_data.specs.declared.ty.Ty.{Ty as TyTree}
use Rattle.snesl_data.specs.Values.{Value}
use Rattle.snesl_values.specs.Inputs.{InputDeclaration, Environment, FitDeclarations, declared, declaration_of}
use Rattle.flow_messages.specs.declared.message.Kind.{Kind}
use Rattle.flow_base.specs.Columns.{Columns}
use Rattle.flow_values.specs.Shapes.{is_a, kinds_of}
use Rattle.flow_nodes.specs.functions.Made.{columns_of_values}
use Rattle.snesl_translation.specs.Programs.{columns_of}
use Rattle.snesl_flatten.specs.Sources.{all_kinds}
use Rattle.snesl_flatten.proofs.InputValues.{fit_at, columns_more, kinds_more}

-- the value of an entry
abbrev pub value_at : Environment → ℕ → Option Value
value_at es i = option_map (λ e. e.1) (slice_get es i)

-- there is something in what becomes something
pub is_there : {A B : Type 0} (f : A → B) (o : Option A) (b : B) → option_map f o ≡ Some b → IsSome o
is_there f None b is = absurd (cc)
is_there f (Some a) b is = refl

-- the declaration that is one of these
pub declared_at : (ds : List (Vec ℕ Global × TyTree)) (i : ℕ) (d : Vec ℕ Global × TyTree) → i < length ds → d ≡ get_or ds i d → slice_get (declared ds) i ≡ Some (declaration_of d)
declared_at ds i d lt is = slice_get-map declaration_of ds i ∙ ap (option_map declaration_of) (slice_get-get_or ds i d lt ∙ ap Some (sym is))

module _ (dialect : Dialect) (ds : List InputDeclaration) (es : Environment) (fits : FitDeclarations dialect ds es) (i : ℕ) (d : InputDeclaration) (there : slice_get ds i ≡ Some d) where
  -- a declared input has a value
  pub has_value : (v : Value) × (value_at es i ≡ Some v)
  has_value = let g = fit_at dialect ds es i d fits there in (g.0.1, ap (option_map (λ e. e.1)) g.1)

  module _ (v : Value) (is : value_at es i ≡ Some v) where
    value_is : let g = fit_at dialect ds es i d fits there in g.0.1 ≡ v
    value_is =
        let g = fit_at dialect ds es i d fits there in
        let one : Some g.0.1 ≡ Some v = ap (option_map (λ e. e.1)) (sym g.1) ∙ is in
        cc

    -- of its type
    pub value_typed : is_a d.1 v ≡ true
    value_typed = subst (λ v. is_a d.1 v ≡ true) value_is (fit_at dialect ds es i d fits there).2

    -- its columns after those of the inputs before it
    pub cells_added : (columns : Columns) → columns ≡ columns_of (take i ds) (take i es) → columns ++ columns_of_values d.1 (v ∷ []) ≡ columns_of (take (suc i) ds) (take (suc i) es)
    cells_added columns so_far =
        let g = fit_at dialect ds es i d fits there in
        ap₂ (λ a b. a ++ b) so_far (ap (λ v. columns_of_values d.1 (v ∷ [])) (sym value_is))
        ∙ sym (columns_more ds es i d g.0 there g.1)

pub kinds_added : (ds : List InputDeclaration) (i : ℕ) (d : InputDeclaration) → slice_get ds i ≡ Some d → (kinds : List Kind) → kinds
    ≡ all_kinds (take i ds) → kinds ++ kinds_of d.1 ≡ all_kinds (take (suc i) ds)
kinds_added ds i d there kinds so_far = ap (λ l. l ++ kinds_of d.1) so_far ∙ sym (kinds_more ds i d there)

-- there are as many values as declarations
fits_length : (dialect : Dialect) (ds : List InputDeclaration) (es : Environment) → FitDeclarations dialect ds es → length es ≡ length ds
fits_length dialect [] [] fits = refl
fits_length dialect [] (e ∷ es) fits = absurd fits
fits_length dialect (d ∷ ds) [] fits = absurd fits
fits_length dialect (d ∷ ds) (e ∷ es) fits = ap suc (fits_length dialect ds es fits.2)

-- where all inputs were gone through
pub columns_all : (dialect : Dialect) (ds : List InputDeclaration) (es : Environment) (n : ℕ) → FitDeclarations dialect ds es → length ds ≤ n → columns_of (take n ds) (take n es) ≡ columns_of ds es
columns_all dialect ds es n fits le =
    ap₂ columns_of (take_all n ds le) (take_all n es (omega (arith, fits_length dialect ds es fits)))
