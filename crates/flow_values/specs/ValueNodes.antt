-- The transducers over values of a type, each with its states.
use Rattle.std.specs.Prelude.{◌++◌, map}
use Rattle.snesl_data.specs.Types.{ty_of}
use Rattle.snesl_data.specs.Builders.{built_in}
use Rattle.flow_messages.specs.Cells.{cell_of}
use Rattle.flow_base.specs.Members.{NodeOf, node_of}
use Rattle.flow_base.specs.declared.node.Node.{Node}
use Rattle.flow_values.specs.Dues.{due_cell}
use Rattle.flow_values.specs.Aheads.{state_in}
use Rattle.flow_values.specs.PrintMachine.{PrintState, print_behaviour}
use Rattle.flow_values.specs.TabMachine.{tab_state, tab_machine}
use Rattle.flow_values.specs.SeqMachine.{left_dues, seq_machine}
use Rattle.flow_values.specs.IndexMachine.{index_state, index_machine}
use Rattle.flow_values.specs.declared.print.Print.{Print}
use Rattle.flow_values.specs.declared.tab.Tab.{Tab}
use Rattle.flow_values.specs.declared.seq.Seq.{Seq}
use Rattle.flow_values.specs.declared.index.Index.{Index}

abbrev pub print_node : NodeOf Print
print_node = record { State = PrintState; state = λ n. state_in (ty_of n.ty) n.pending.items n.text.items n.closing n.stuck n.at; behaviour = print_behaviour }

abbrev pub tab_node : NodeOf (Node Tab)
tab_node = node_of (λ n. (ty_of n.element, tab_state n.stage (built_in n.elements) (map cell_of n.items.items))) tab_machine

abbrev pub seq_node : NodeOf (Node Seq)
seq_node = node_of (λ n. (ty_of n.element, map due_cell n.dues.items ++ left_dues (ty_of n.element) n.vector n.begun)) seq_machine

abbrev pub index_node : NodeOf (Node Index)
index_node = node_of (λ n. (ty_of n.element, index_state n.held n.dues.items)) index_machine
