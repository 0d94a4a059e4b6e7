use Rattle.std.proofs.Common.{◌≡◌, ◌+◌, ℕ, length, Option, Some, None, MatchOption, add-one, arith, sym, ◌∙◌, ap, subst}
use Rattle.snesl_data.specs.declared.fault.Fault.{Fault}
use Rattle.kahn.specs.declared.want.Want.{Want}
use Rattle.kahn.specs.declared.want.Want.TheVariants.{Faulted}
use Rattle.kahn.specs.Configurations.{NoneFaulted}
use Rattle.kahn.specs.Outcomes.{NamesFault}
use Rattle.kahn.proofs.Outcomes.{NamesBelow, NoneBelow, none_still, named_still, named_newly, named_next, names_from}
use Rattle.flow_drives.specs.Resteds.{rested_states, rested_edges}
use Rattle.flow_networks.specs.Networks.{state_at, network_of, configuration_of}
use Rattle.flow_drives.proofs.outcome.standing_fault.Goals as goal
use Rattle.flow_drives.proofs.outcome.standing_fault.Goals.{in-Faulted+in-None, in-Faulted+in-Some, in_default}

-- what is known of the first n nodes
abbrev Stands : (ℕ → Want) → ℕ → Option Fault → Type 0
Stands want n standing = MatchOption standing (NoneBelow want n) (λ fault. NamesBelow want n fault)

still : (want : ℕ → Want) (n : ℕ) (standing : Option Fault) → ((f : Fault) → want n ≡ Faulted f → ⊥) → Stands want n standing → Stands want (n + 1) standing
still want n None none before = rw (add-one n) (none_still want n none before)
still want n (Some f) none before = rw (add-one n) (named_still want n f none before)

pub loop-node-preserved : goal.loop-node-preserved
loop-node-preserved g c =
    let b = g.T.Transducer.behaviour in
    let n = c.loop-node.node in
    let states = rested_states c.args.rested.now in
    let want : ℕ → Want = λ k. b.process.want (state_at b states k) in
    let here : want n ≡ c.want.result = ap b.process.want (sym c.node.ensures) ∙ sym c.want.ensures in
    elim c.match-want.branch [
      | in-Faulted+in-None w ↦
          let none : NoneBelow want n = rw w.in-None.is at c.loop-node.invariant in
          rw (w.standing-is, add-one n) (named_newly want n w.in-Faulted.fault (here ∙ w.in-Faulted.is) none)
      | in-Faulted+in-Some w ↦
          let below : NamesBelow want n w.in-Some.other = rw w.in-Some.is at c.loop-node.invariant in
          rw (w.standing-is, add-one n) (named_next want n w.in-Some.other w.in-Faulted.fault w.named.result (here ∙ w.in-Faulted.is) below w.named.ensures)
      | in_default w ↦ rw w.standing-is (still want n c.loop-node.standing (λ f is. w.in_default.not-Faulted f (sym here ∙ is)) c.loop-node.invariant)
    ]

-- what is known of all nodes
all_known : {State Message : Type 0} (P : Rattle.kahn.specs.Processes.Process State Message) (net : Rattle.kahn.specs.Networks.Network State)
    (c : Rattle.kahn.specs.Configurations.Configuration State Message) (standing : Option Fault) → Stands (λ k. P.want (c.state k)) net.nodes standing
    → MatchOption standing (NoneFaulted P net c) (λ fault. NamesFault P net c fault)
all_known P net c None none = λ k inside f is. none k f inside is
all_known P net c (Some f) below = names_from P net 0 c f below

pub returns : goal.returns
returns g c view =
    let b = g.T.Transducer.behaviour in
    let states = rested_states c.args.rested.now in
    let count : c.loop-node.node ≡ length states = omega (arith, c.loop-node-test.false, c.nodes-node-end.ensures, c.loop-node.auto.node-end) in
    all_known b.process (network_of b states (rested_edges c.args.rested.now)) (configuration_of b states view) c.loop-node.standing
    (subst (λ n. Stands (λ k. b.process.want (state_at b states k)) n c.loop-node.standing) count c.loop-node.invariant)
