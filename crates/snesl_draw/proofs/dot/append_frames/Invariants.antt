use Rattle.std.proofs.Common.{◌≡◌, ◌++◌, flat_map, take}
use Rattle.snesl_draw.specs.Texts.{frame}
use Rattle.snesl_draw.proofs.dot.append_frames.Given as goal

abbrev pub invariant-loop-form : goal.invariant-loop-form
invariant-loop-form l = l.text.items ≡ l.initial.text.items ++ flat_map (frame l.program l.nodes) (take l.form-index l.forms)
