-- The next element of a sequence.
use Rattle.std.proofs.Common.{◌≡◌, ℕ, ℤ, ◌+◌, ◌≤◌, ◌<◌, false, List, ◌∷◌, length, Some, None, ◌∙◌, ap, subst, sym, arith}
use Rattle.std.specs.List.{slice_get}
use Rattle.snesl_values.specs.InputTokens.{next_lexeme, next_at}
use Rattle.snesl_values.specs.declared.marks.Found.{Found}
use Rattle.snesl_values.specs.declared.marks.Mark.TheVariants.{Number, Comma}
use Rattle.snesl_values.specs.Marks.{found_from}
use Rattle.flow_nodes.specs.declared.inputs.turns.Component.{Component}
use Rattle.flow_nodes.specs.declared.inputs.turns.Component.TheVariants.{Elements}
use Rattle.flow_nodes.specs.declared.inputs.turns.Leaf.{Leaf}
use Rattle.flow_nodes.specs.declared.inputs.turns.Leaf.TheVariants.{Ints}
use Rattle.flow_nodes.specs.declared.inputs.turns.Mode.TheVariants.{Value, Behind, Counting}
use Rattle.flow_nodes.specs.declared.inputs.turns.State.{State}
use Rattle.flow_nodes.specs.declared.inputs.turns.Piece.TheVariants.{Flag, Int}
use Rattle.flow_nodes.specs.inputs.Turns.{state, turn_after_value, at_value, at_leaf, made}
use Rattle.flow_nodes.specs.inputs.Left.{left}
use Rattle.flow_nodes.proofs.OfInputs.Lefts.{after_turn, left_found}

-- a comma and an integer, where an element comes next
two_tokens : (text : List ℕ) (way : List Component) (at level : ℕ) (n : ℤ) (f : Found) → at + 1 ≤ length text → made way level ≡ Some Elements → slice_get way level ≡ None
    → Some (record { mark = Comma; end = at + 1 }) ≡ found_from (next_at text at) (next_lexeme text at) → Some f ≡ found_from (next_at text (at + 1)) (next_lexeme text (at + 1)) → f.mark ≡ Number n
    → left text way Ints at (state level Behind) ≡ Int n ∷ left text way Ints f.end (state level Behind)
two_tokens text way at level n f within elements last comma number is =
    left_found text way Ints at (state level Behind) (record { mark = Comma; end = at + 1 }) (omega (arith, within)) comma
    ∙ ap (λ o. after_turn text way Ints (turn_after_value o level Comma) (at + 1)) elements
    ∙ left_found text way Ints (at + 1) (state level Value) f within number
    ∙ ap (λ o. after_turn text way Ints (at_value o Ints level f.mark (at + 1)) f.end) last
    ∙ ap (λ m. after_turn text way Ints (at_leaf Ints level m (at + 1)) f.end) is

pub element_left : (text : List ℕ) (way : List Component) (leaf : Leaf) (at : ℕ) (s : State) (n : ℤ) (f : Found) → leaf ≡ Ints → s.mode ≡ Behind →
    at + 1 ≤ length text → made way s.level ≡ Some Elements → slice_get way s.level ≡ None
    → Some (record { mark = Comma; end = at + 1 }) ≡ found_from (next_at text at) (next_lexeme text at) → Some f ≡ found_from (next_at text (at + 1)) (next_lexeme text (at + 1)) → f.mark ≡ Number n
    → left text way leaf at s ≡ Int n ∷ left text way leaf f.end s
element_left text way leaf at s n f ints mode within elements last comma number is =
    subst (λ l. left text way l at s ≡ Int n ∷ left text way l f.end s) (sym ints)
    (subst (λ m. left text way Ints at (state s.level m) ≡ Int n ∷ left text way Ints f.end (state s.level m)) (sym mode)
    (two_tokens text way at s.level n f within elements last comma number is))

-- a comma, where an element ends whose flag is written
pub flag_left : (text : List ℕ) (way : List Component) (leaf : Leaf) (at level : ℕ) → at < length text → Some (record { mark = Comma; end = at + 1 })
    ≡ found_from (next_at text at) (next_lexeme text at)
    → left text way leaf at (state level (Counting 0)) ≡ Flag false ∷ left text way leaf (at + 1) (state level (Counting 0))
flag_left text way leaf at level within comma = left_found text way leaf at (state level (Counting 0)) (record { mark = Comma; end = at + 1 }) (omega (arith, within)) comma
