use Rattle.std.proofs.Common.{◌≡◌, ◌+◌, ◌≤◌, drop}
use Rattle.snesl_grammar.specs.tree.View.{trees_of, binders_of}
use Rattle.snesl_types.specs.Sizes.{size_of_all, size_of_binders}
use Rattle.snesl_types.specs.Names.{sizes_in}
use Rattle.snesl_types.specs.Verdicts.{capped}
use Rattle.snesl_types.proofs.sizes.+sizes.Given as goal

abbrev pub invariant-size_of_all-loop-expr : goal.invariant-size_of_all-loop-expr
invariant-size_of_all-loop-expr l = record {
  within : l.total ≤ 65537;
  sum : capped (size_of_all l.text (sizes_in l.text l.functions) (trees_of l.all))
      ≡ capped (l.total + size_of_all l.text (sizes_in l.text l.functions) (trees_of (drop l.expr-index l.all)));
}

abbrev pub invariant-size_of_binders-loop-binder : goal.invariant-size_of_binders-loop-binder
invariant-size_of_binders-loop-binder l = record {
  within : l.total ≤ 65537;
  sum : capped (size_of_binders l.text (sizes_in l.text l.functions) (binders_of l.binders))
      ≡ capped (l.total + size_of_binders l.text (sizes_in l.text l.functions) (binders_of (drop l.binder-index l.binders)));
}
