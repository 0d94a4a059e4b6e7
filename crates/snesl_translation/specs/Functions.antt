-- The translation of calls: the body of a function is translated anew for each call, over the streams of the arguments.
use Rattle.std.specs.Prelude.{ℕ, List, [], ◌∷◌, if◌then◌else◌}
use Rattle.std.specs.Str.{bytes_eq}
use Rattle.snesl_data.specs.declared.dialect.Dialect.{Dialect}
use Rattle.snesl_grammar.specs.tree.Spelling.{spelling}
use Rattle.snesl_grammar.specs.tree.Tree.{TypedName, DeclarationTree, declares_input, declares_function}
use Rattle.snesl_translation.specs.Wires.{Wires, Bound}
use Rattle.snesl_translation.specs.Makings.{done}
use Rattle.snesl_translation.specs.Translation.{Bodies, nowhere, tr}

-- what the parameters of a function stand for
abbrev pub parameters_bound : List ℕ → List TypedName → List Wires → Bound
parameters_bound text (parameter ∷ parameters) (u ∷ us) = (spelling text parameter.place, u) ∷ parameters_bound text parameters us
parameters_bound text _ _ = []

-- no function is declared
abbrev pub no_bodies : Bodies
no_bodies at bytes arguments control next = done nowhere next

module _ (dialect : Dialect) (text : List ℕ) where
  -- these bodies and that of one more declaration; a function hides earlier ones of its name
  abbrev pub with_body : Bodies → DeclarationTree → Bodies
  with_body bodies (declares_input declared) at bytes arguments control next = bodies at bytes arguments control next
  with_body bodies (declares_function place parameters result body) at bytes arguments control next =
      if bytes_eq bytes (spelling text place)
      then tr dialect text bodies body (parameters_bound text parameters arguments) control next
      else bodies at bytes arguments control next

  -- these bodies and those of declarations in order: each sees those before it
  abbrev pub bodies_after : Bodies → List DeclarationTree → Bodies
  bodies_after bodies [] = bodies
  bodies_after bodies (declaration ∷ others) = bodies_after (with_body bodies declaration) others

  -- the bodies of declared functions
  abbrev pub bodies_of : List DeclarationTree → Bodies
  bodies_of declarations = bodies_after no_bodies declarations
