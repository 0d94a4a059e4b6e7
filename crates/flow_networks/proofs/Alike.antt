-- Where two maximal runs of one network end is alike.
use Rattle.std.proofs.Common.{◌≡◌, ℕ, List, length, Some, sym, ◌∙◌, ap, subst, arith, ext_get_or}
use Rattle.kahn.specs.declared.outcome.Outcome.{Outcome}
use Rattle.kahn.specs.declared.outcome.Outcome.TheVariants.{Value, Fault as Failed, Stalled}
use Rattle.kahn.specs.Networks.{Network}
use Rattle.kahn.specs.Configurations.{Configuration, start}
use Rattle.kahn.specs.Outcomes.{HasOutcome}
use Rattle.kahn.proofs.Conclusions.{runs_end_alike}
use Rattle.kahn.proofs.Outcomes.{same_outcome}
use Rattle.flow_messages.specs.Ends.{View}
use Rattle.flow_messages.specs.Signals.{Signal}
use Rattle.flow_base.specs.Transducers.{Behaviour}
use Rattle.flow_networks.specs.declared.edge.Edge.{Edge}
use Rattle.flow_networks.specs.Laws.{IsNetwork}
use Rattle.flow_networks.specs.Networks.{network_of, configuration_of}
use Rattle.flow_networks.specs.Alike.{AreAlike}
use Rattle.flow_networks.specs.MaximalRuns.{EndsMaximalRun, ComesOut}

module _ {S : Type 0} (b : Behaviour S) (capacity : ℕ) (edges : List Edge) (states : List S) where
  abbrev net : Network S
  net = network_of b states edges

  -- how nodes came out does not depend on the states in which they opened
  outcome_of : (now : List S) (view : View) → length now ≡ length states → (o : Outcome) → ComesOut b now edges capacity view o → HasOutcome b.process net capacity (configuration_of b now view) o
  outcome_of now view many Value ended = λ k inside. ended k (omega (arith, many, inside))
  outcome_of now view many (Failed f) names = record {
    stands = (names.stands.0, omega (arith, many, names.stands.1), names.stands.2);
    first = λ g has. names.first g (has.0, omega (arith, many, has.1), has.2);
  }
  outcome_of now view many (Stalled e) (fine, least) = (λ k inside. fine k (omega (arith, many, inside)), least)

  module _ (network : IsNetwork b states edges) (one other : List S) (view more : View) (many : length one ≡ length states) (as_many : length other ≡ length states)
      (run : EndsMaximalRun b capacity states edges one view) (again : EndsMaximalRun b capacity states edges other more) where
    one_end : configuration_of b one view ≡ configuration_of b other more
    one_end = runs_end_alike b.process net network.wired (Some capacity) run.0 again.0 (start net) (configuration_of b one view) (configuration_of b other more) run.1 again.1

    pub rest_alike : AreAlike b capacity edges one other view more
    rest_alike = record {
      states = ext_get_or b.sample one other (many ∙ sym as_many) (λ k inside. ap (λ (c : Configuration S Signal). c.state k) one_end);
      sent = λ e. ap (λ (c : Configuration S Signal). c.sent e) one_end;
      received = λ e. ap (λ (c : Configuration S Signal). c.received e) one_end;
      outcome = λ o p came comes. same_outcome b.process net capacity (configuration_of b other more) network.wired o p
          (subst (λ c. HasOutcome b.process net capacity c o) one_end (outcome_of one view many o came)) (outcome_of other more as_many p comes);
    }
