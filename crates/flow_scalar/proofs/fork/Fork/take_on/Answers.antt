use Rattle.std.proofs.Common.{◌≡◌, ◌<◌, Ok, length, refl, sym, ◌∙◌, ap, subst, arith}
use Rattle.flow_messages.specs.Cells.{cell_of}
use Rattle.flow_messages.specs.Signals.{carry}
use Rattle.flow_base.specs.Machines.{on_kind}
use Rattle.flow_base.specs.Nodes.{NodeState, behaviour_of, node_state}
use Rattle.flow_base.specs.Visits.{Went}
use Rattle.flow_base.specs.declared.node.Phase.TheVariants.{Working}
use Rattle.flow_base.proofs.Kernels.{went_none, went_read, leads_on}
use Rattle.flow_scalar.specs.ForkMachine.{ForkPorts, ForkState, fork_ports, fork_state, idle, holding, fork_machine}
use Rattle.flow_scalar.proofs.Leading.{nothing}
use Rattle.flow_scalar.proofs.ForkBlocks.{fork_view}
use Rattle.flow_scalar.proofs.fork.Fork.take_on.Goals as goal

-- it made no step
pub returns-then-most-eq0-clause-went : goal.returns-then-most-eq0-clause-went
returns-then-most-eq0-clause-went g c =
    λ at. went_none (behaviour_of fork_machine) c.args.inputs.now c.args.outputs.now (node_state (fork_view c.args.self.now) Working at)
    (g.E.Ends.view c.args.ends.now)

pub returns-in_default-clause-went : goal.returns-in_default-clause-went
returns-in_default-clause-went g c =
    λ at. went_none (behaviour_of fork_machine) c.args.inputs.now c.args.outputs.now (node_state (fork_view c.args.self.now) Working at)
    (g.E.Ends.view c.args.ends.now)

pub returns-clause-ends : goal.returns-clause-ends
returns-clause-ends g c = (c.take_front.ensures.taken (carry (cell_of c.in-Some.item)) c.in-Some.ensures.first).ends

pub returns-clause-went : goal.returns-clause-went
returns-clause-went g c =
    let b = behaviour_of fork_machine in
    let ins = c.args.inputs.now in
    let outs = c.args.outputs.now in
    let view = g.E.Ends.view in
    let n = c.args.self.now in
    let p : ForkPorts = fork_ports n.kind n.outputs in
    let a = view c.args.ends.now in
    let w = view c.take_front.new.ends in
    let x = carry (cell_of c.in-Some.item) in
    let taken = c.take_front.ensures.taken x c.in-Some.ensures.first in
    let reads : 0 < length ins = omega (arith, c.requires.wired.each_input) in
    let none = nothing n.held (sym c.is_some.ensures ∙ c.if-is_some.false) in
    λ at.
    let on : ForkState → NodeState (ForkPorts × ForkState) = λ s. node_state (p, s) Working at in
    let s = node_state (fork_view n) Working at in
    let at_start : on idle ≡ s = ap (λ o. on (fork_state n.outputs n.next o)) (sym none) in
    let held = holding (cell_of c.in-Some.item) p.others in
    let began = subst (λ k. Went ins outs b s a k a 0) (sym at_start) (went_none b ins outs s a) in
    went_read b ins outs began 0 x (on held) w reads refl taken (leads_on fork_machine p idle held at (on_kind n.kind (λ y. Ok (holding y p.others))) x (λ y. refl) (c.in-Some.ensures.leads p.others))
