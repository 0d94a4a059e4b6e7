-- Which part of a program is at fault where types clash at an offset.
use Rattle.std.specs.Prelude.{◌≡◌, ◌⊎◌, ℕ, List, ◌∷◌, Option, Some, MatchOption}
use Rattle.snesl_grammar.specs.declared.tree.span.Span.{Span}
use Rattle.snesl_grammar.specs.tree.Tree.{Tree, Trees, Binders, Condition, binding, each, none, both}
use Rattle.snesl_grammar.specs.tree.Tree.{binder, always, only_where, offset, DeclarationTree, declares_input, declares_function, ProgramTree}
use Rattle.snesl_types.specs.Clashes.{Clash, seen_parts}
use Rattle.snesl_advice.specs.culprits.Offsets.{first_offset}
use Rattle.snesl_advice.specs.culprits.Faults.{at_fault}

-- a condition as a part
abbrev pub condition_parts : Condition → Trees
condition_parts always = none
condition_parts (only_where cond) = both cond none

-- the parts of a form, but for what binders go over
abbrev pub form_parts : Tree → Trees
form_parts (binding at place value within) = both value (both within none)
form_parts (each at within binders cond) = both within (condition_parts cond)
form_parts tree = seen_parts tree

-- the form stands at the offset, and its part is at fault
abbrev pub IsOwnCulprit : ℕ → Clash → (tree part : Tree) → Type 0
IsOwnCulprit at clash tree part = (offset tree ≡ at) × (at_fault clash tree ≡ Some part)

module _ (at : ℕ) (clash : Clash) (part : Tree) where
  mutual
    -- the part is at fault in a form at the offset, which is the expression or lies within it
    pub data IsCulprit : Tree → Type 0 where
      of_itself : {tree : Tree} → IsOwnCulprit at clash tree part → IsCulprit tree
      of_part : {tree : Tree} → IsAmong (form_parts tree) → IsCulprit tree
      of_binder : {start : ℕ} {within : Tree} {binders : Binders} {cond : Condition} → IsBound binders → IsCulprit (each start within binders cond)

    -- in one of these
    pub data IsAmong : Trees → Type 0 where
      of_first : {first : Tree} {others : Trees} → IsCulprit first → IsAmong (both first others)
      of_later : {first : Tree} {others : Trees} → IsAmong others → IsAmong (both first others)

    -- a binder whose name stands at the offset goes over the part, or it lies in what one goes over
    pub data IsBound : Binders → Type 0 where
      of_name : {place : Span} {others : Binders} → place.at ≡ at → IsBound (binder place part others)
      of_source : {place : Span} {over : Tree} {others : Binders} → IsCulprit over → IsBound (binder place over others)
      of_other : {place : Span} {over : Tree} {others : Binders} → IsBound others → IsBound (binder place over others)

-- it is so in what the form is made of
abbrev pub IsInside : ℕ → Clash → (tree part : Tree) → Type 0
IsInside at clash (each start within binders cond) part = IsAmong at clash part (both within (condition_parts cond)) ⊎ IsBound at clash part binders
IsInside at clash tree part = IsAmong at clash part (form_parts tree)

-- it is the body of a function whose name stands at the offset, or lies in it
abbrev pub IsOfFunction : ℕ → Clash → Span → (within part : Tree) → Type 0
IsOfFunction at clash place within part = ((place.at ≡ at) × (part ≡ within)) ⊎ IsCulprit at clash part within

-- it is so in a declaration
abbrev pub IsOfDeclaration : ℕ → Clash → DeclarationTree → (part : Tree) → Type 0
IsOfDeclaration at clash (declares_input declared) part = ⊥
IsOfDeclaration at clash (declares_function place written result within) part = IsOfFunction at clash place within part

-- in one of these declarations
pub data IsDeclared (at : ℕ) (clash : Clash) (part : Tree) : List DeclarationTree → Type 0 where
  of_one : {first : DeclarationTree} {others : List DeclarationTree} → IsOfDeclaration at clash first part → IsDeclared at clash part (first ∷ others)
  of_later_one : {first : DeclarationTree} {others : List DeclarationTree} → IsDeclared at clash part others → IsDeclared at clash part (first ∷ others)

-- it is so in a program
abbrev pub IsCulpritOf : ProgramTree → ℕ → Clash → Tree → Type 0
IsCulpritOf program at clash part = IsDeclared at clash part program.declarations ⊎ IsCulprit at clash part program.expression

-- it is the first offset of such a part, or there is none
abbrev pub BeginsOne : (Tree → Type 0) → Option ℕ → Type 0
BeginsOne P found = MatchOption found ((part : Tree) → ¬ P part) (λ place. (part : Tree) × P part × (place ≡ first_offset part))
