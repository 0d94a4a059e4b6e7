-- What the laws see of a source over a text: the same as of any source.
use Rattle.std.specs.Arc.{arc_value}
use Rattle.flow_scalar.specs.Streams.{Items}
use Rattle.flow_scalar.specs.SourceBehaviour.{SourceState}
use Rattle.flow_nodes.specs.declared.inputs.source.TextSource.{TextSource}
use Rattle.flow_nodes.specs.inputs.Items.{items_from, text_state}

-- all items that it writes
abbrev pub items_in : TextSource → Items
items_in source = items_from (arc_value source.text).items source.way.items source.leaf source.place

-- these, and how many of them it has written
abbrev pub text_source_state : TextSource → SourceState
text_source_state source =
    text_state (arc_value source.text).items source.way.items source.leaf source.place source.at source.state source.ended
