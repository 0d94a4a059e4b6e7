-- The names that the program's data hold, and where they are found.
use Rattle.std.specs.Prelude.{◌≡◌, ℕ, List, [], Option, map, option_map, Box}
use Rattle.std.specs.Global.{Global}
use Rattle.std.specs.Option.{option_and_then, option_or}
use Rattle.snesl_grammar.specs.declared.tree.declaration.Declaration.{Declaration}
use Rattle.snesl_grammar.specs.declared.tree.declaration.Typing.{Typing}
use Rattle.snesl_grammar.specs.declared.tree.expr.Binder.{Binder}
use Rattle.snesl_grammar.specs.declared.tree.expr.Expr.{Expr}
use Rattle.snesl_grammar.specs.declared.tree.span.Span.{Span}
use Rattle.snesl_grammar.specs.tree.View.{binders_of, declaration_of, tree_of, typed_of}
use Rattle.snesl_advice.specs.declared.reach.names.Candidates.{Candidates}
use Rattle.snesl_advice.specs.declared.reach.names.Candidates.TheVariants.{Values, Functions}
use Rattle.snesl_advice.specs.reach.Candidates.{CandidateNames, values, functions, around, bound_by, candidates_in, candidates_in_bodies}
use Rattle.snesl_advice.specs.reach.Candidates.{candidates_in_declaration, candidates_in_sources, enclosed, functions_among, inputs_among, places_of}

abbrev pub names_of : Candidates → CandidateNames
names_of (Values names) = values names.items
names_of (Functions names) = functions names.items

-- what was found are these names, or nothing where there are none
abbrev pub FindsNames : Option CandidateNames → Option Candidates → Type 0
FindsNames names = λ found. option_map names_of found ≡ names

-- the names of parameters, of inputs and of functions
abbrev pub parameter_places : List Typing → List Span
parameter_places parameters = places_of (map typed_of parameters)

abbrev pub input_places : List Declaration → List Span
input_places declarations = inputs_among (map declaration_of declarations)

abbrev pub function_places : List Declaration → List Span
function_places declarations = functions_among (map declaration_of declarations)

-- what was found, with names that are bound around it
abbrev pub widened : List Span → Option Candidates → Option CandidateNames
widened places found = option_map (around places) (option_map names_of found)

-- in the body of a function of these parameters, after these declarations
abbrev pub within_function : List Typing → List Declaration → Option Candidates → Option CandidateNames
within_function parameters earlier found = option_map (enclosed (parameter_places parameters) (function_places earlier)) (option_map names_of found)

-- in the last expression of a program
abbrev pub within_program : List Declaration → Option Candidates → Option CandidateNames
within_program declarations found = option_map (enclosed (input_places declarations) (function_places declarations)) (option_map names_of found)

-- in a declaration after these
abbrev pub declaration_candidates : ℕ → List Declaration → Declaration → Option CandidateNames
declaration_candidates at earlier declaration = candidates_in_declaration at (map declaration_of earlier) (declaration_of declaration)

-- in the bodies of these declarations
abbrev pub body_candidates : ℕ → List Declaration → Option CandidateNames
body_candidates at declarations = candidates_in_bodies at [] (map declaration_of declarations)

-- in one of two expressions
abbrev pub candidates_in_two : ℕ → Expr → Expr → Option CandidateNames
candidates_in_two at first second = option_or (candidates_in at (tree_of first)) (candidates_in at (tree_of second))

-- in a condition, where there is one
abbrev pub candidates_in_condition : ℕ → Option (Box Expr Global) → Option CandidateNames
candidates_in_condition at condition = option_and_then (λ one. candidates_in at (tree_of one.value)) condition

-- within a comprehension of these binders, or in what they go over
abbrev pub candidates_in_row : ℕ → List Binder → Option Candidates → Option CandidateNames
candidates_in_row at binders within = option_or (widened (bound_by (binders_of binders)) within) (candidates_in_sources at (binders_of binders))
