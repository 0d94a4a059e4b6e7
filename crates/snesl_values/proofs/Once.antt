-- Facts about values that have at most one proof.
use Rattle.std.proofs.Common.{List, [], ◌∷◌}
use Rattle.std.proofs.Math.Bool.{Bool-set}
use Rattle.std.proofs.Props.{props}
use Rattle.snesl_data.specs.declared.dialect.Dialect.{Dialect}
use Rattle.snesl_data.specs.Types.{Ty, int, bool, pair, vec, seq}
use Rattle.snesl_data.specs.Values.{Value, an_int, a_bool, a_pair, a_vec, a_seq, Values, no_values, more_values, HasType, AllHaveType}
use Rattle.snesl_values.specs.Declarations.{InputDeclaration, Environment, FitDeclarations}

mutual
  pub HasType-prop : (dialect : Dialect) → (v : Value) (t : Ty) → IsProp (HasType dialect v t)
  HasType-prop dialect (an_int n) int = hlevel Bool-set
  HasType-prop dialect (a_bool b) bool = hlevel
  HasType-prop dialect (a_pair a b) (pair first second) = hlevel (HasType-prop dialect a first, HasType-prop dialect b second)
  HasType-prop dialect (a_vec vs) (vec item) = AllHaveType-prop dialect vs item
  HasType-prop dialect (a_seq vs) (seq item) = AllHaveType-prop dialect vs item
  HasType-prop dialect _ _ = hlevel

  AllHaveType-prop : (dialect : Dialect) → (vs : Values) (t : Ty) → IsProp (AllHaveType dialect vs t)
  AllHaveType-prop dialect no_values item = hlevel
  AllHaveType-prop dialect (more_values v vs) item = hlevel (HasType-prop dialect v item, AllHaveType-prop dialect vs item)

pub Fits-prop : (dialect : Dialect) → (ds : List InputDeclaration) (es : Environment) → IsProp (FitDeclarations dialect ds es)
Fits-prop dialect [] [] = hlevel
Fits-prop dialect (d ∷ ds) (e ∷ es) = hlevel (props, HasType-prop dialect e.1 d.1, Fits-prop dialect ds es)
Fits-prop dialect _ _ = hlevel
