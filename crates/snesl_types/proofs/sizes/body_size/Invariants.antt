use Rattle.std.proofs.Common.{◌≡◌, drop}
use Rattle.snesl_grammar.specs.tree.Spelling.{spelling}
use Rattle.snesl_types.specs.Sizes.{body_size}
use Rattle.snesl_types.specs.Names.{sizes_in}
use Rattle.snesl_types.proofs.sizes.body_size.Given as goal

abbrev pub invariant-loop-function : goal.invariant-loop-function
invariant-loop-function l =
    body_size (spelling l.text l.name) (sizes_in l.text l.functions)
    ≡ body_size (spelling l.text l.name) (sizes_in l.text (drop l.function-index l.functions))
