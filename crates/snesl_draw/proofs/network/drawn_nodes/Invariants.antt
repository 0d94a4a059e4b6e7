use Rattle.std.proofs.Common.{◌≡◌, vec_len}
use Rattle.snesl_draw.proofs.network.drawn_nodes.Given as goal

abbrev pub invariant-loop-number : goal.invariant-loop-number
invariant-loop-number l = vec_len l.nodes ≡ l.number
