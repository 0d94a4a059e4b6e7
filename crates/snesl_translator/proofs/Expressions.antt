-- The steps of an expression where the translator stands.
use Rattle.std.specs.Prelude.{ℕ}
use Rattle.snesl_data.specs.declared.dialect.Dialect.{Dialect}
use Rattle.snesl_grammar.specs.tree.Tree.{Tree}
use Rattle.snesl_translation.specs.Wires.{Wires}
use Rattle.snesl_translation.specs.Makings.{Making}
use Rattle.snesl_translation.specs.Translation.{tr}
use Rattle.snesl_translator.specs.scopes.Scopes.{bound_of}
use Rattle.snesl_translator.specs.declared.scopes.scope.Scope.{Scope}
use Rattle.snesl_translator.specs.declared.translator.ProgramContext.{ProgramContext}
use Rattle.snesl_translator.specs.Translated.{bodies_in}

-- the steps of an expression, from a stream's number on
abbrev pub tr_in : Dialect → ProgramContext → Scope → Tree → (control next : ℕ) → Making Wires
tr_in dialect context scope tree control next = tr dialect context.text.now (bodies_in dialect context) tree (bound_of scope) control next
