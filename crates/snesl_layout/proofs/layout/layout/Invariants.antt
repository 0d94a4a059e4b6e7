use Rattle.std.proofs.Common.{◌≡◌, ◌++◌, drop}
use Rattle.snesl_layout.specs.Layout.{layout_from}
use Rattle.snesl_layout.specs.Lines.{start}
use Rattle.snesl_layout.proofs.layout.layout.Given as goal

-- the bytes so far, and those of the tokens from this one on, are those of all
abbrev pub invariant-loop-i : goal.invariant-loop-i
invariant-loop-i l = l.out.items ++ layout_from l.text l.state (drop l.i l.tokens) ≡ layout_from l.text start l.tokens
