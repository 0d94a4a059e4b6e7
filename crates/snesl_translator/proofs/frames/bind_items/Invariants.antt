use Rattle.std.proofs.Common.{◌≡◌, map, take}
use Rattle.snesl_translation.specs.Wires.{item_wires}
use Rattle.snesl_translator.specs.steps.Views.{bindings_of, wires_of}
use Rattle.snesl_translator.proofs.frames.bind_items.Given as goal

abbrev pub invariant-loop-source : goal.invariant-loop-source
invariant-loop-source l = bindings_of l.frame.items ≡ map (λ source. (source.name.now, item_wires (wires_of source.wires))) (take l.source-index l.sources)
