-- Which names may stand where the name at an offset of a program does.
use Rattle.std.specs.Prelude.{ℕ, ◌==◌, ◌++◌, if◌then◌else◌, List, [], ◌∷◌, Option, Some, None, map, option_map}
use Rattle.std.specs.Option.{option_or}
use Rattle.snesl_grammar.specs.declared.tree.span.Span.{Span}
use Rattle.snesl_grammar.specs.tree.Tree.{Tree, Trees, Binders, Condition, integer, truth, name, binary, prefix, call, apply, group, pair, binding, choice}
use Rattle.snesl_grammar.specs.tree.Tree.{literal, filter, each, none, both, none_bound, binder, always, only_where, TypedName, DeclarationTree}
use Rattle.snesl_grammar.specs.tree.Tree.{declares_input, declares_function, ProgramTree}

-- the names that may stand there: of values, innermost first, or of functions
pub data CandidateNames : Type 0 where
  values : List Span → CandidateNames
  functions : List Span → CandidateNames

-- further candidates are the names of values that are bound around the expression
abbrev pub around : List Span → CandidateNames → CandidateNames
around places (values inner) = values (inner ++ places)
around places (functions inner) = functions inner

-- the names of binders
abbrev pub bound_by : Binders → List Span
bound_by none_bound = []
bound_by (binder place source others) = place ∷ bound_by others

-- In an expression stands the name at the offset: then the names that the expression binds around it. In `let x = e in b` that is `x` in
-- `b`, and in `{e : x in s | c}` the binders in `e` and in `c`.
abbrev mutual
  pub candidates_in : ℕ → Tree → Option CandidateNames
  candidates_in at (integer start value) = None
  candidates_in at (truth start value) = None
  candidates_in at (name place) = if place.at == at then Some (values []) else None
  candidates_in at (binary start operator left right) = option_or (candidates_in at left) (candidates_in at right)
  candidates_in at (prefix start operator operand) = candidates_in at operand
  candidates_in at (call start function arguments) = candidates_among at arguments
  candidates_in at (apply function arguments) =
      option_or (if function.at == at then Some (functions []) else None) (candidates_among at arguments)
  candidates_in at (group start inner) = candidates_in at inner
  candidates_in at (pair start first second) = option_or (candidates_in at first) (candidates_in at second)
  candidates_in at (binding start place value body) =
      option_or (candidates_in at value) (option_map (around (place ∷ [])) (candidates_in at body))
  candidates_in at (choice start cond positive negative) =
      option_or (candidates_in at cond) (option_or (candidates_in at positive) (candidates_in at negative))
  candidates_in at (literal start items) = candidates_among at items
  candidates_in at (filter start item cond) = option_or (candidates_in at item) (candidates_in at cond)
  candidates_in at (each start body binders cond) =
      option_or (option_map (around (bound_by binders)) (option_or (candidates_in at body) (candidates_in_condition at cond)))
      (candidates_in_sources at binders)

  -- in the first of these that has it
  pub candidates_among : ℕ → Trees → Option CandidateNames
  candidates_among at none = None
  candidates_among at (both first others) = option_or (candidates_in at first) (candidates_among at others)

  pub candidates_in_condition : ℕ → Condition → Option CandidateNames
  candidates_in_condition at always = None
  candidates_in_condition at (only_where cond) = candidates_in at cond

  -- in what these binders go over, which sees none of them
  pub candidates_in_sources : ℕ → Binders → Option CandidateNames
  candidates_in_sources at none_bound = None
  candidates_in_sources at (binder place source others) = option_or (candidates_in at source) (candidates_in_sources at others)

-- beyond an expression: further names of values, or of functions
abbrev pub enclosed : (places declared : List Span) → CandidateNames → CandidateNames
enclosed places declared (values inner) = values (inner ++ places)
enclosed places declared (functions inner) = functions (inner ++ declared)

-- the names of inputs or parameters
abbrev pub places_of : List TypedName → List Span
places_of typed = map (λ one. one.place) typed

-- the names of the inputs among declarations
abbrev pub inputs_among : List DeclarationTree → List Span
inputs_among [] = []
inputs_among (declares_input declared ∷ others) = declared.place ∷ inputs_among others
inputs_among (declares_function place parameters result body ∷ others) = inputs_among others

-- and of the functions
abbrev pub functions_among : List DeclarationTree → List Span
functions_among [] = []
functions_among (declares_input declared ∷ others) = functions_among others
functions_among (declares_function place parameters result body ∷ others) = place ∷ functions_among others

-- the body of a function sees its parameters, no inputs, and the functions before it
abbrev pub candidates_in_declaration : ℕ → (earlier : List DeclarationTree) → DeclarationTree → Option CandidateNames
candidates_in_declaration at earlier (declares_input declared) = None
candidates_in_declaration at earlier (declares_function place parameters result body) =
    option_map (enclosed (places_of parameters) (functions_among earlier)) (candidates_in at body)

-- in the first function that has it
abbrev pub candidates_in_bodies : ℕ → (earlier declarations : List DeclarationTree) → Option CandidateNames
candidates_in_bodies at earlier [] = None
candidates_in_bodies at earlier (first ∷ others) =
    option_or (candidates_in_declaration at earlier first) (candidates_in_bodies at (earlier ++ first ∷ []) others)

-- in a program; its last expression sees the inputs and all functions
abbrev pub candidates_at : ProgramTree → ℕ → Option CandidateNames
candidates_at program at =
    let declarations = program.declarations in
    option_or (candidates_in_bodies at [] declarations)
    (option_map (enclosed (inputs_among declarations) (functions_among declarations)) (candidates_in at program.expression))
