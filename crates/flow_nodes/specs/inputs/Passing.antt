-- What a scanner passes over that counts brackets.
use Rattle.std.specs.Prelude.{◌≡◌, ℕ, ℤ, ◌+◌, ◌-◌, ◌==◌, ◌&&◌, Bool, not, IsTrue, List, Option, Some, None, cond}
use Rattle.snesl_values.specs.declared.marks.Bracket.{Bracket}
use Rattle.snesl_values.specs.declared.marks.Mark.{Mark}
use Rattle.snesl_values.specs.declared.marks.Mark.TheVariants.{Truth, Number, Open, Close, Comma, Other}
use Rattle.flow_nodes.specs.declared.inputs.turns.Component.{Component}
use Rattle.flow_nodes.specs.declared.inputs.turns.Leaf.{Leaf}
use Rattle.flow_nodes.specs.declared.inputs.turns.Mode.{Mode}
use Rattle.flow_nodes.specs.inputs.Turns.{turn, state, writes_nothing}
use Rattle.flow_nodes.specs.inputs.Left.{left}

-- how a mode passes over values, with so many brackets open
pub record Passes (way : List Component) (leaf : Leaf) (level : ℕ) (mode : ℕ → Mode) : Type 0 where
  pub opens : (depth place : ℕ) (b : Bracket) → turn way leaf (state level (mode depth)) (Open b) place ≡ writes_nothing level (mode (depth + 1))
  pub closes : (depth place : ℕ) (b : Bracket) → turn way leaf (state level (mode (depth + 1))) (Close b) place ≡ writes_nothing level (mode depth)
  pub parts : (depth place : ℕ) → turn way leaf (state level (mode (depth + 1))) Comma place ≡ writes_nothing level (mode (depth + 1))
  pub truths : (depth place : ℕ) (b : Bool) → turn way leaf (state level (mode depth)) (Truth b) place ≡ writes_nothing level (mode depth)
  pub numbers : (depth place : ℕ) (n : ℤ) → turn way leaf (state level (mode depth)) (Number n) place ≡ writes_nothing level (mode depth)
  pub others : (depth place : ℕ) → turn way leaf (state level (mode depth)) Other place ≡ writes_nothing level (mode depth)
  pub anywhere : (depth place other : ℕ) (mark : Mark) → turn way leaf (state level (mode depth)) mark place ≡ turn way leaf (state level (mode depth)) mark other

-- and at this depth what parts items
abbrev pub PassesParts : List Component → Leaf → ℕ → (ℕ → Mode) → ℕ → Type 0
PassesParts way leaf level mode depth = (place : ℕ) → turn way leaf (state level (mode depth)) Comma place ≡ writes_nothing level (mode depth)

-- the depth after a byte of this mark, if a scanner passes over it: all but what closes the brackets in which it stands, and, unless
-- it passes over commas, a comma outside the brackets that it counts
abbrev pub depth_after : Mark → ℕ → Bool → Option ℕ
depth_after (Open b) depth commas = Some (depth + 1)
depth_after (Close b) depth commas = cond (depth == 0) None (Some (depth - 1))
depth_after Comma depth commas = cond (depth == 0 && not commas) None (Some depth)
depth_after mark depth commas = Some depth

-- from one offset and depth on the same is left to write as from another, in each mode that passes over values
abbrev pub SameLeft : List ℕ → Bool → ℕ → ℕ → ℕ → ℕ → Type 0
SameLeft text commas at depth later deeper =
    (way : List Component) (leaf : Leaf) (level : ℕ) (mode : ℕ → Mode) → Passes way leaf level mode → (IsTrue commas → PassesParts way leaf level mode 0)
    → left text way leaf at (state level (mode depth)) ≡ left text way leaf later (state level (mode deeper))
