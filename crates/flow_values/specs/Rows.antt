-- The rows: what each transducer reads and writes, in whole instances.
use Rattle.std.specs.Prelude.{◌≡◌, ℕ, ◌<◌, ℤ, pos, negsuc, true, List, [], ◌∷◌, Option, Some, None, map}
use Rattle.std.specs.List.{slice_get}
use Rattle.snesl_data.specs.Types.{Ty, vec, seq, is_concrete}
use Rattle.snesl_data.specs.Values.{Value, Values, a_vec, list_of, values_of}
use Rattle.flow_messages.specs.Cells.{Cell, int, datum}
use Rattle.flow_base.specs.Lists.{Lists}
use Rattle.flow_values.specs.Shapes.{is_a, all_are}
use Rattle.flow_values.specs.Flats.{width, flat, Outputs}

-- Print

-- what comes in is one value of the type
pub record PrintRow (ty : Ty) (ins : Lists Cell) : Type 0 where
  pub value : Value
  pub is_one : is_a ty value ≡ true
  pub edges_are : (p : ℕ) → p < width ty → ins p ≡ flat ty 0 (value ∷ []) p

-- Tab

-- each is a vector of elements of the type, which is concrete
abbrev pub AreTabs : Ty → List Value → Type 0
AreTabs ty [] = Unit {0}
AreTabs ty (v ∷ vs) = (is_concrete ty ≡ true) × (is_a (vec ty) v ≡ true) × AreTabs ty vs

-- what goes out are vectors of such elements, and on the edges that come in are the same elements, a sequence for each
-- vector: flags of the lengths of the vectors, and then the edges of all their elements, joined
pub record TabRow (ty : Ty) (ins : Lists Cell) (v : List Cell) : Type 0 where
  pub vectors : List Value
  pub v_is : v ≡ map datum vectors
  pub of_type : AreTabs ty vectors
  pub edges_are : Outputs (width (seq ty)) ins (flat (seq ty) 0 vectors)

-- Seq

-- what comes in are vectors of such items, and on the edges that go out are the same elements, a sequence for each
-- vector: flags of the lengths of the vectors, and then the edges of all their elements, joined
pub record SeqRow (item : Ty) (v : List Cell) (outs : Lists Cell) : Type 0 where
  pub vectors : List Value
  pub v_is : v ≡ map datum vectors
  pub of_type : all_are (vec item) (values_of vectors) ≡ true
  pub edges_are : Outputs (width (seq item)) outs (flat (seq item) 0 vectors)

-- Index

-- the element at this index, counted from 0, where there is one
abbrev pub element_at : Values → ℤ → Option Value
element_at vs (pos n) = slice_get (list_of vs) n
element_at vs (negsuc n) = None

-- one instance: a vector of such items, an index within it, and the element there
pub record Picked (item : Ty) : Type 0 where
  pub vector : Values
  pub index : ℤ
  pub element : Value
  pub of_type : all_are item vector ≡ true
  pub found : element_at vector index ≡ Some element

-- what comes in are vectors of such items, and an index for each; on the edges that go out are the elements
pub record IndexRow (item : Ty) (v i : List Cell) (outs : Lists Cell) : Type 0 where
  pub all : List (Picked item)
  pub v_is : v ≡ map (λ x. datum (a_vec x.vector)) all
  pub i_is : i ≡ map (λ x. int x.index) all
  pub edges_are : Outputs (width item) outs (flat item 0 (map (λ x. x.element) all))
