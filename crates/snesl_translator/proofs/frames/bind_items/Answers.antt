use Rattle.std.proofs.Common.{map, ap, ◌∙◌, take_all}
use Rattle.snesl_translation.specs.Wires.{item_wires}
use Rattle.snesl_translator.specs.steps.Views.{wires_of}
use Rattle.snesl_translator.specs.declared.steps.wires.Binding.{Binding}
use Rattle.snesl_translator.proofs.Bindings.{items_mapped}
use Rattle.snesl_translator.proofs.frames.bind_items.Goals as goal

pub returns : goal.returns
returns c =
    c.loop-source.invariant
    ∙ ap (map (λ (source : Binding). (source.name.now, item_wires (wires_of source.wires)))) (take_all c.loop-source.source-index c.args.sources.now c.loop-source-test.false)
    ∙ items_mapped c.args.sources.now
