use Rattle.std.proofs.Common.{◌≡◌, ℕ, Some, [], length, length-set, set, refl, sym, ◌∙◌, ap, subst, arith}
use Rattle.flow_networks.specs.declared.wiring.Ports.{Ports}
use Rattle.flow_networks.specs.Tables.{IsWiring, count_at}
use Rattle.flow_networks.proofs.Wirings.{wiring_with_edge, counts_ins, counts_outs, count_is, map_set_back}
use Rattle.flow_networks.proofs.wiring.Wiring.add_edge.Goals as goal

pub set_output-requires : goal.set_output-requires
set_output-requires c =
    let r = c.requires in
    omega (arith, count_is (λ n. n.outputs.items) c.args.self.now.ports.items c.args.edge.writer c.index_mut.result.now (omega (arith, r.forward, r.reader)) c.index_mut.ensures.value)

pub set_input-requires : goal.set_input-requires
set_input-requires c =
    let r = c.requires in
    let ports = c.args.self.now.ports.items in
    let half = set ports c.args.edge.writer c.set_output.new.self in
    omega (
      arith,
      r.input,
      count_is (λ n. n.inputs.items) half c.args.edge.reader c.index_mut-2.result.now (omega (arith, length-set ports c.args.edge.writer c.set_output.new.self, r.reader)) c.index_mut-2.ensures.value,
      ap (λ t. count_at t c.args.edge.reader)
          (map_set_back (λ (n : Ports). n.inputs.items) ports c.args.edge.writer c.index_mut.result.now c.set_output.new.self []
          (omega (arith, r.forward, r.reader)) c.index_mut.ensures.value c.set_output.ensures.inputs),
    )

pub invariant_of-self-2 : goal.invariant_of-self-2
invariant_of-self-2 c =
    let wiring = c.args.self.now in
    let r = c.requires in
    let w : Ports = c.index_mut.result.now in
    let v : Ports = c.index_mut-2.result.now in
    let count : c.len-number.result ≡ length wiring.edges.items = omega (arith, wiring.edges.ok.0) in
    record {
      wired = subst (λ edges. IsWiring (set (set wiring.ports.items c.args.edge.writer c.set_output.new.self) c.args.edge.reader c.set_input.new.self) edges) (sym c.in_ok-push.ensures.items)
          (wiring_with_edge wiring.ports.items wiring.edges.items c.args.edge w c.set_output.new.self v c.set_input.new.self r.forward r.reader
          c.index_mut.ensures.value (c.set_output.ensures.outputs ∙ ap (λ (n : ℕ). set w.outputs.items c.args.edge.writer_port (Some n)) count) c.set_output.ensures.inputs
          c.index_mut-2.ensures.value (c.set_input.ensures.inputs ∙ ap (λ (n : ℕ). set v.inputs.items c.args.edge.reader_port (Some n)) count) c.set_input.ensures.outputs
          wiring.wired r.output r.input r.free_output r.free_input);
    }

pub returns-clause-inputs : goal.returns-clause-inputs
returns-clause-inputs c =
    let wiring = c.args.self.now in
    let r = c.requires in
    let w : Ports = c.index_mut.result.now in
    let v : Ports = c.index_mut-2.result.now in
    let count : c.len-number.result ≡ length wiring.edges.items = omega (arith, wiring.edges.ok.0) in
    counts_ins wiring.ports.items wiring.edges.items c.args.edge w c.set_output.new.self v c.set_input.new.self r.forward r.reader
    c.index_mut.ensures.value (c.set_output.ensures.outputs ∙ ap (λ (n : ℕ). set w.outputs.items c.args.edge.writer_port (Some n)) count) c.set_output.ensures.inputs
    c.index_mut-2.ensures.value (c.set_input.ensures.inputs ∙ ap (λ (n : ℕ). set v.inputs.items c.args.edge.reader_port (Some n)) count) c.set_input.ensures.outputs

pub returns-clause-outputs : goal.returns-clause-outputs
returns-clause-outputs c =
    let wiring = c.args.self.now in
    let r = c.requires in
    let w : Ports = c.index_mut.result.now in
    let v : Ports = c.index_mut-2.result.now in
    let count : c.len-number.result ≡ length wiring.edges.items = omega (arith, wiring.edges.ok.0) in
    counts_outs wiring.ports.items wiring.edges.items c.args.edge w c.set_output.new.self v c.set_input.new.self r.forward r.reader
    c.index_mut.ensures.value (c.set_output.ensures.outputs ∙ ap (λ (n : ℕ). set w.outputs.items c.args.edge.writer_port (Some n)) count) c.set_output.ensures.inputs
    c.index_mut-2.ensures.value (c.set_input.ensures.inputs ∙ ap (λ (n : ℕ). set v.inputs.items c.args.edge.reader_port (Some n)) count) c.set_input.ensures.outputs

pub returns-in_err-push-clause-inputs : goal.returns-in_err-push-clause-inputs
returns-in_err-push-clause-inputs c = refl

pub returns-in_err-push-clause-outputs : goal.returns-in_err-push-clause-outputs
returns-in_err-push-clause-outputs c = refl
