use Rattle.std.proofs.Common.{◌≡◌, drop}
use Rattle.snesl_grammar.specs.tree.View.{trees_of, binders_of}
use Rattle.snesl_translation.specs.FreeNames.{free_of_all, free_of_sources, is_among}
use Rattle.snesl_translator.proofs.scopes.free_names.+free_names.Given as goal

abbrev pub invariant-is_free_in_any-loop-expr : goal.invariant-is_free_in_any-loop-expr
invariant-is_free_in_any-loop-expr l =
    is_among l.name (free_of_all l.text (trees_of l.all)) ≡ is_among l.name (free_of_all l.text (trees_of (drop l.expr-index l.all)))

abbrev pub invariant-is_free_in_sources-loop-binder : goal.invariant-is_free_in_sources-loop-binder
invariant-is_free_in_sources-loop-binder l =
    is_among l.name (free_of_sources l.text (binders_of l.binders)) ≡ is_among l.name (free_of_sources l.text (binders_of (drop l.binder-index l.binders)))
