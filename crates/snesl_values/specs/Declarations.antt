-- Declared inputs and their values.
use Rattle.std.specs.Prelude.{◌≡◌, ℕ, List, [], ◌∷◌, map, Vec}
use Rattle.std.specs.Global.{Global}
use Rattle.snesl_data.specs.declared.dialect.Dialect.{Dialect}
use Rattle.snesl_data.specs.declared.ty.Ty.{Ty as TyTree}
use Rattle.snesl_data.specs.Types.{Ty, ty_of}
use Rattle.snesl_data.specs.Values.{Value, HasType}

-- a declared name and its type
abbrev pub InputDeclaration : Type 0
InputDeclaration = List ℕ × Ty

-- the values of the declared inputs, each beside its name
abbrev pub Environment : Type 0
Environment = List (List ℕ × Value)

-- the names are the declared ones in order, and each value has its declared type in the dialect
abbrev pub FitDeclarations : Dialect → List InputDeclaration → Environment → Type 0
FitDeclarations dialect [] [] = Unit {0}
FitDeclarations dialect (declaration ∷ declarations) (entry ∷ environment) =
    (entry.0 ≡ declaration.0) × HasType dialect entry.1 declaration.1 × FitDeclarations dialect declarations environment
FitDeclarations dialect _ _ = ⊥

-- the declaration that a name and a type are
abbrev pub declaration_of : (Vec ℕ Global × TyTree) → InputDeclaration
declaration_of pair = (pair.0.items, ty_of pair.1)

-- the same for all of them
abbrev pub declared : List (Vec ℕ Global × TyTree) → List InputDeclaration
declared = map declaration_of
