-- How Tab goes on, as it stands in memory.
use Rattle.std.specs.Prelude.{List, Result, map}
use Rattle.snesl_data.specs.Builders.{built_in}
use Rattle.snesl_data.specs.Types.{Ty as ElementType, ty_of}
use Rattle.snesl_data.specs.Values.{Value}
use Rattle.snesl_data.specs.declared.fault.FaultKind.{FaultKind}
use Rattle.snesl_data.specs.declared.ty.Ty.{Ty}
use Rattle.flow_base.specs.Machines.{state_after_item, with_parameters}
use Rattle.flow_base.specs.Workers.{Takes}
use Rattle.flow_base.specs.declared.worker.Stop.{Stop}
use Rattle.flow_messages.specs.Cells.{cell_of}
use Rattle.flow_messages.specs.declared.message.Item.{Item}
use Rattle.flow_values.specs.TabMachine.{TabState, flag_taking, grown, item_given, tab_state}
use Rattle.flow_values.specs.declared.tab.Tab.{Tab}

-- how far its instance is
abbrev pub tab_stage : Tab → TabState
tab_stage n = tab_state n.stage (built_in n.elements) (map cell_of n.items.items)

abbrev pub tab_view : Tab → ElementType × TabState
tab_view n = (ty_of n.element, tab_stage n)

-- where an item leads that should be a flag, after these elements
abbrev pub flag_leads : Ty → List Value → Item → Result TabState FaultKind
flag_leads element es item = state_after_item (flag_taking (ty_of element) es) (cell_of item)

-- the element was added that the items make, where they are all there
abbrev pub TabCloses : Tab → Result (Unit {0}) Stop → Tab → Type 0
TabCloses old result new =
    Takes (with_parameters (ty_of old.element) (grown (ty_of old.element) (built_in old.elements) (map cell_of old.items.items))) (tab_view old) result (tab_view new)

-- the next item of an element was taken
abbrev pub TabTakesItem : Tab → Item → Result (Unit {0}) Stop → Tab → Type 0
TabTakesItem old item result new =
    Takes (with_parameters (ty_of old.element) (item_given (ty_of old.element) (built_in old.elements) (map cell_of old.items.items) (cell_of item))) (tab_view old) result (tab_view new)
