use Rattle.std.proofs.Common.{◌≡◌, drop}
use Rattle.snesl_grammar.specs.tree.View.{binders_of}
use Rattle.snesl_translator.specs.scopes.Scopes.{binds}
use Rattle.snesl_translator.proofs.scopes.free_names.binds.Given as goal

abbrev pub invariant-loop-binder : goal.invariant-loop-binder
invariant-loop-binder l = binds l.text l.name (binders_of l.binders) ≡ binds l.text l.name (binders_of (drop l.binder-index l.binders))
