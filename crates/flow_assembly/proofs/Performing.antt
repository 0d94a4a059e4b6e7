-- A transducer in the state in which that of an operation opens does what the operation says.
use Rattle.std.specs.Prelude.{◌≡◌, ℕ, zero, suc, ◌-◌, ◌<◌, List, [], ◌∷◌, length, replicate, Some, refl}
use Rattle.std.specs.List.{slice_get}
use Rattle.std.proofs.Common.{sym, ap, subst, arith}
use Rattle.std.proofs.lemmas.List.{length-replicate}
use Rattle.flow_messages.specs.declared.message.Kind.{Kind}
use Rattle.flow_base.specs.Nodes.{opened}
use Rattle.flow_scalar.specs.ForkMachine.{ForkPorts, fork_ports, fork_machine}
use Rattle.flow_values.specs.Shapes.{kind_at}
use Rattle.flow_nodes.specs.functions.RowsAreFunctions.{RowsAreFunctions, IsFunction}
use Rattle.flow_nodes.specs.StreamNodes.{NodeKind, member, node_behaviour, a_fork}
use Rattle.flow_nodes.specs.plans.Plans.{Operation, source, fork, made_by}
use Rattle.flow_nodes.specs.plans.Ports.{kinds_read, kinds_written}
use Rattle.flow_nodes.specs.plans.Layouts.{Performs}
use Rattle.flow_assembly.specs.Openings.{IsOpening, IsUsable}

-- each kind of the list is the one that the function says of its port
abbrev AreAt : List Kind → (ℕ → Kind) → Type 0
AreAt [] f = Unit {0}
AreAt (kind ∷ kinds) f = (kind ≡ f 0) × AreAt kinds (λ p. f (suc p))

at_port : (kinds : List Kind) (f : ℕ → Kind) → AreAt kinds f → (p : ℕ) → p < length kinds → slice_get kinds p ≡ Some (f p)
at_port [] f are p lt = absurd (omega arith)
at_port (kind ∷ kinds) f are zero lt = ap Some are.0
at_port (kind ∷ kinds) f are (suc p) lt = at_port kinds (λ q. f (suc q)) are.1 p (omega arith)

all_at : (kinds : List Kind) → AreAt kinds (kind_at kinds)
all_at [] = tt
all_at (kind ∷ kinds) = (refl, all_at kinds)

copies_at : (n : ℕ) (kind : Kind) → AreAt (replicate n kind) (λ _. kind)
copies_at zero kind = tt
copies_at (suc n) kind = (refl, copies_at n kind)

abbrev State : Type 0
State = (t : NodeKind) × (member t).State

-- a fork with one output and so many others
abbrev fork_of : Kind → ℕ → ForkPorts
fork_of kind others = record { kind = kind; others = others }

fork_performs : RowsAreFunctions → (at : ℕ) (kind : Kind) (others : ℕ)
    → Performs node_behaviour (fork kind (suc others)) (a_fork, opened (fork_of kind others, fork_machine.start) at)
fork_performs rows at kind others = record {
  opened = refl;
  inputs = refl;
  outputs = sym (length-replicate (suc others) kind);
  kinds_in = at_port (kind ∷ []) (λ _. kind) (refl, tt);
  kinds_out = λ q lt. at_port (replicate (suc others) kind) (λ _. kind) (copies_at (suc others) kind) q (subst (λ n. q < n) (sym (length-replicate (suc others) kind)) lt);
  row = rows.fork_row kind (suc others);
}

-- a transducer that opens in state o, with the ports and the row of the operation there
performs_from : (operation : Operation) (o s : State) → s ≡ o → node_behaviour.opening o ≡ o
    → node_behaviour.inputs o ≡ length (kinds_read operation) → node_behaviour.outputs o ≡ length (kinds_written operation)
    → AreAt (kinds_read operation) (node_behaviour.kind_in o) → AreAt (kinds_written operation) (node_behaviour.kind_out o)
    → IsFunction (node_behaviour.row o) (made_by operation) (node_behaviour.inputs o) (node_behaviour.outputs o) → Performs node_behaviour operation s
performs_from operation o s is opens inputs outputs reads writes row = subst (Performs node_behaviour operation) (sym is) (record {
  opened = opens;
  inputs = inputs;
  outputs = outputs;
  kinds_in = λ p lt. at_port (kinds_read operation) (node_behaviour.kind_in o) reads p (subst (λ n. p < n) inputs lt);
  kinds_out = λ q lt. at_port (kinds_written operation) (node_behaviour.kind_out o) writes q (subst (λ n. q < n) outputs lt);
  row = row;
})

module _ (rows : RowsAreFunctions) (at : ℕ) where
  -- the last clause stands for each of the other operations
  pub performs : (operation : Operation) (s : State) → IsUsable operation → IsOpening at operation s → Performs node_behaviour operation s
  performs (source kind cells) s usable (items, is, of_kind, of_cells) =
      let here : Performs node_behaviour (source items.kind items.cells) s = subst (Performs node_behaviour (source items.kind items.cells)) (sym is) (record {
        opened = refl;
        inputs = refl;
        outputs = refl;
        kinds_in = at_port [] (λ _. items.kind) tt;
        kinds_out = at_port (items.kind ∷ []) (λ _. items.kind) (refl, tt);
        row = rows.source_row items.cells;
      }) in
      subst (λ k. Performs node_behaviour (source k cells) s) of_kind (subst (λ c. Performs node_behaviour (source items.kind c) s) of_cells here)
  performs (fork kind outputs) s usable opens =
      let all : suc (outputs - 1) ≡ outputs = omega arith in
      subst (Performs node_behaviour (fork kind outputs)) (sym opens)
      (subst (λ n. Performs node_behaviour (fork kind n) (a_fork, opened (fork_ports kind outputs, fork_machine.start) at)) all (fork_performs rows at kind (outputs - 1)))
  performs operation s usable opens = performs_from operation _ s opens refl refl refl (search all_at) (search all_at) (
      search (
        rows.const_row,
        rows.unary_row,
        rows.binary_row,
        rows.iota_row,
        rows.units_of_row,
        rows.scan_add_row,
        rows.reduce_row,
        rows.length_row,
        rows.dist_row,
        rows.pack_row,
        rows.pack_groups_row,
        rows.flag_of_bool_row,
        rows.same_flags_row,
        rows.concat_flags_row,
        rows.part_flags_row,
        rows.the_check_row,
        rows.append_flags_row,
        rows.interleave_row,
        rows.interleave_groups_row,
        rows.print_row,
        rows.tab_row,
        rows.seq_row,
        rows.index_row,
        rows.sink_row,
      ))
