-- Types.
use Rattle.std.specs.Prelude.{Bool, true, false, ◌&&◌}
use Rattle.snesl_data.specs.declared.ty.Ty.{Ty as TyTree}
use Rattle.snesl_data.specs.declared.ty.Ty.TheVariants.{Int, Bool as BoolTy, Pair', Vec', Seq'}

-- a type
pub data Ty : Type 0 where
  int : Ty
  bool : Ty
  pair : (first second : Ty) → Ty
  vec : (item : Ty) → Ty
  seq : (item : Ty) → Ty

-- the type that the program's tree holds
abbrev pub ty_of : TyTree → Ty
ty_of Int = int
ty_of BoolTy = bool
ty_of (Pair' p first q second) = pair (ty_of first) (ty_of second)
ty_of (Vec' p item) = vec (ty_of item)
ty_of (Seq' p item) = seq (ty_of item)

-- no sequence occurs in it
abbrev pub is_concrete : Ty → Bool
is_concrete int = true
is_concrete bool = true
is_concrete (pair first second) = is_concrete first && is_concrete second
is_concrete (vec item) = is_concrete item
is_concrete (seq item) = false

-- whether two types are the same
abbrev pub is_same : Ty → Ty → Bool
is_same int int = true
is_same bool bool = true
is_same (pair first second) (pair other another) = is_same first other && is_same second another
is_same (vec item) (vec other) = is_same item other
is_same (seq item) (seq other) = is_same item other
is_same _ _ = false
