-- What values put on the edges of their type.
use Rattle.std.specs.Prelude.{◌≡◌, ℕ, ◌<◌, ◌+◌, ◌==◌, List, [], ◌∷◌, ◌++◌, length, map, cond}
use Rattle.snesl_data.specs.Types.{Ty, pair, seq}
use Rattle.snesl_data.specs.Values.{Value}
use Rattle.flow_messages.specs.Cells.{Cell}
use Rattle.flow_base.specs.Lists.{Lists}
use Rattle.flow_base.specs.Flags.{T, elements, flags, concatenation, lengths}
use Rattle.flow_base.specs.Segments.{concatenation_by}
use Rattle.flow_values.specs.Shapes.{kinds_of, cell_for, first_of, second_of, elements_of}

-- nothing at any port
abbrev pub no_cells : {A : Type 0} → Lists A
no_cells _ = []

-- the list at this port, and nothing at others
abbrev pub only_at : {A : Type 0} → ℕ → List A → Lists A
only_at p list q = cond (q == p) list []

infixl 40 ◌⊕◌
-- at each port first the one list, then the other
abbrev pub ◌⊕◌ : {A : Type 0} → Lists A → Lists A → Lists A
(xs ⊕ ys) q = xs q ++ ys q

-- how many edges the type has
abbrev pub width : Ty → ℕ
width ty = length (kinds_of ty)

-- What values of the type are on its edges, the first of which is port p. Of a scalar type or a vector type the values are
-- one list of items; of pairs there are the lists of both parts; of sequences the flags of their lengths, and then the
-- lists of all their elements, joined.
abbrev pub flat : Ty → ℕ → List Value → Lists Cell
flat (pair first second) p vs = flat first p (map first_of vs) ⊕ flat second (p + width first) (map second_of vs)
flat (seq item) p vs = only_at p (flags (lengths (map elements_of vs))) ⊕ flat item (p + 1) (concatenation (map elements_of vs))
flat _ p vs = only_at p (map cell_for vs)

-- what a value of the type puts on its edges, the first of which is port p: a scalar or a vector one item, a pair what
-- its parts put there, and a sequence a segment of flags, and then what each element puts on the edges after
abbrev pub spread : Ty → ℕ → Value → Lists Cell
spread (pair first second) p v = spread first p (first_of v) ⊕ spread second (p + width first) (second_of v)
spread (seq item) p v = only_at p (elements (length (elements_of v)) (T ∷ [])) ⊕ (λ q. concatenation_by (λ e. spread item (p + 1) e q) (elements_of v))
spread _ p v = only_at p (cell_for v ∷ [])

-- what values of the type put there, one after another
abbrev pub spread_all : Ty → ℕ → List Value → Lists Cell
spread_all item p vs q = concatenation_by (λ e. spread item p e q) vs

-- these lists are at so many ports
abbrev pub Outputs : ℕ → Lists Cell → Lists Cell → Type 0
Outputs ports o lists = (q : ℕ) → q < ports → o q ≡ lists q
