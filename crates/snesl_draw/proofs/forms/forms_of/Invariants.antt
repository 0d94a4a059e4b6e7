use Rattle.std.proofs.Common.{◌≡◌, [], fold, take}
use Rattle.snesl_draw.specs.Forms.{one_more_form}
use Rattle.snesl_draw.proofs.forms.forms_of.Given as goal

abbrev pub invariant-loop-node : goal.invariant-loop-node
invariant-loop-node l = l.forms.items ≡ fold (one_more_form l.program) [] (take l.node-index l.nodes)
