-- The theorems, put together.
use Rattle.std.proofs.lemmas.Bool.{cases_lt}
use Rattle.std.proofs.Common.{ℕ, ◌+◌, ◌≤◌, Some, None, List, [], ◌∷◌, length, refl, ap, arith, length-append, ◌≡◌, ◌<◌, ◌⊎◌, inl, inr, sym, ◌∙◌, subst, append-nil}
use Rattle.snesl_data.specs.declared.fault.Fault.{Fault}
use Rattle.kahn.specs.declared.want.Want.TheVariants.{Faulted}
use Rattle.kahn.specs.declared.outcome.Outcome.{Outcome}
use Rattle.kahn.specs.Basics.{Begins}
use Rattle.kahn.specs.Outcomes.{HasOutcome}
use Rattle.kahn.proofs.Outcomes.{some_outcome, same_outcome}
use Rattle.kahn.specs.Processes.{reads, writes, Process, Event, Settles, IsLawfulProcess, Does}
use Rattle.kahn.specs.Networks.{Network, IsWired, AllLawful}
use Rattle.kahn.specs.Configurations.{Configuration, start, moved, IsSound}
use Rattle.kahn.specs.Runs.{Maximal}
use Rattle.kahn.specs.Traffic.{WholeTraffic, Rises, Completes, IsTraffic}
use Rattle.kahn.specs.RunTheorems.{RunsAreSound, StepsKeepSound, RunsFit, EndIsLast, StepsMove, RunsEndAlike, AllRunsGoOn}
use Rattle.kahn.specs.RestTheorems.{EndsOrStalls, OneOutcome, RunsComeOutAlike, AllReceived, NeverStalls}
use Rattle.kahn.specs.TrafficTheorems.{OneTraffic, AllTraffic, EpochsEnd}
use Rattle.kahn.specs.ProcessTheorems.{FollowsWhole, FollowsLists}
use Rattle.kahn.proofs.Steps.{sound_start, sound_run, sound_next, fits_run}
use Rattle.kahn.proofs.Search.{total_twice}
use Rattle.kahn.proofs.Ends.{sent_end_last, received_all}
use Rattle.kahn.proofs.Prefix.{node_follows}
use Rattle.kahn.proofs.Rest.{stalled_or_ended}
use Rattle.kahn.proofs.Traffic.{complete_sent, complete_received, complete_fine, complete_same, complete_ends, moved_next, moved_most}
use Rattle.kahn.proofs.Finite.{all_events}
use Rattle.kahn.proofs.Confluence.{goes_on, one_end}

module _ {State Message : Type 0} (P : Process State Message) (net : Network State) where
  pub runs_fit : RunsFit P net
  runs_fit capacity events c run = fits_run P net capacity events (start net) c run (λ e inside. omega arith)

  pub steps_move : StepsMove P net
  steps_move limit c a can = moved_next P net limit c a can

  rises_most : (n : ℕ) → ((c : Configuration State Message) → IsSound P net c → moved net c ≤ n) →
      (c : Configuration State Message) (more : List (Configuration State Message)) → Rises P net c more → length more + moved net c ≤ n
  rises_most n most c [] sound = omega (arith, most c sound)
  rises_most n most c (d ∷ more) (less, rises) = omega (arith, rises_most n most d more rises)

  pub epochs_end : EpochsEnd P net
  epochs_end whole c more rises = omega (arith, rises_most (moved net whole.end) whole.most c more rises, whole.twice)

module _ {State Message : Type 0} (P : Process State Message) (net : Network State) (wired : IsWired net) where
  pub runs_are_sound : RunsAreSound P net
  runs_are_sound limit events c run = sound_run P net wired limit events (start net) c (sound_start P net) run

  pub steps_keep_sound : StepsKeepSound P net
  steps_keep_sound limit c a sound can = sound_next P net wired limit c a sound can

  pub runs_end_alike : RunsEndAlike P net
  runs_end_alike limit one two c d e m n = one_end P net wired limit one two c d e m.run m.rest n.run n.rest

  pub all_runs_go_on : AllRunsGoOn P net
  all_runs_go_on limit done more c d r m run = goes_on P net wired limit done more c d r m.run m.rest run

  pub runs_come_out_alike : RunsComeOutAlike P net
  runs_come_out_alike capacity one two c d e m n o q has_o has_q =
      let same : d ≡ e = one_end P net wired (Some capacity) one two c d e m.run m.rest n.run n.rest in
      same_outcome P net capacity e wired o q (subst (λ x. HasOutcome P net capacity x o) same has_o) has_q

  module _ (lawful : AllLawful P net) where
    pub end_is_last : EndIsLast P net
    end_is_last c sound e inside before after is = sent_end_last P net wired lawful c sound e inside before after is

    pub ends_or_stalls : EndsOrStalls P net
    ends_or_stalls capacity c sound rest fine = stalled_or_ended P net capacity c wired lawful sound rest fine

    pub one_outcome : OneOutcome P net
    one_outcome capacity c sound rest =
        let some : (o : Outcome) × HasOutcome P net capacity c o = some_outcome P net capacity c wired lawful sound rest in
        (some.0, some.1, λ other has. same_outcome P net capacity c wired other some.0 has some.1)

    pub one_traffic : OneTraffic P net
    one_traffic traffic (z, all) c sound = (
      (λ e inside. (complete_sent P net wired lawful _ all c sound e inside, complete_received P net wired lawful _ all c sound e inside)),
      complete_fine P net wired lawful _ all c sound,
    )

    pub same_traffic : AllTraffic P net
    same_traffic traffic (z, all) c all_c e inside = complete_same P net wired lawful _ c all all_c e inside

    pub all_received : AllReceived P net
    all_received c all e inside = received_all P net wired lawful c all.sound e inside (all.ended (net.reader e) (wired.inside e inside))

    pub never_stalls : NeverStalls P net
    never_stalls traffic (z, all) capacity short c sound rest = complete_ends P net wired lawful _ c capacity all short sound rest

    pub whole_traffic : Settles P → WholeTraffic P net
    whole_traffic settles =
        let all : (events : List (Event Message)) × (end : Configuration State Message) × Maximal P net None events (start net) end =
        all_events P net wired settles (start net) (λ e inside. ([], refl)) in
        let sound : IsSound P net all.1 = runs_are_sound None all.0 all.1 all.2.run in
        record {
          events = all.0;
          end = all.1;
          maximal = all.2;
          most = λ c sound_c. moved_most P net wired lawful all.1 c sound all.2.rest sound_c;
          twice = total_twice (λ e. length (all.1.sent e) + length (all.1.received e)) (λ e. length (all.1.sent e)) net.edges
              (λ e inside. let (rest, is) = sound.flows e inside in omega (arith, ap length is, length-append (all.1.received e) rest));
        }

pub follows_whole : {State Message : Type 0} (P : Process State Message) (opening : State) (inputs outputs : ℕ) → IsLawfulProcess P opening inputs outputs → FollowsWhole P opening inputs
follows_whole P opening inputs outputs lawful = node_follows P opening inputs outputs lawful

pub follows_lists : {State Message : Type 0} (P : Process State Message) (opening : State) (inputs outputs : ℕ) → IsLawfulProcess P opening inputs outputs → FollowsLists P opening inputs
follows_lists P opening inputs outputs lawful read written run h s does begins =
    let whole : ((p : ℕ) → Begins (writes p h) (writes p run.history)) × ((f : Fault) → P.want s ≡ Faulted f → ⊥) =
    node_follows P opening inputs outputs lawful run.history run.end run.does run.ended h s does (λ p inside. subst (λ l. Begins (reads p h) l) (sym (run.reads_all p inside)) (begins p inside)) in
    (λ p. subst (λ l. Begins (writes p h) l) (run.writes_all p) (whole.0 p), whole.1)

module _ {State Message : Type 0} (P : Process State Message) (net : Network State) (traffic : ℕ → List Message) (each : (k : ℕ) → k < net.nodes → Completes P net traffic k) where
  -- the state in which the node ends
  end_of : (k : ℕ) → (k < net.nodes) ⊎ (net.nodes ≤ k) → State
  end_of k (inl inside) = (each k inside).end
  end_of k (inr past) = net.opening k

  done_at : (k : ℕ) (d : (k < net.nodes) ⊎ (net.nodes ≤ k)) → k < net.nodes → Completes P net traffic k
  done_at k (inl inside) l = each k inside
  done_at k (inr past) l = absurd (omega arith)

  end_is : (k : ℕ) (d : (k < net.nodes) ⊎ (net.nodes ≤ k)) (l : k < net.nodes) → (done_at k d l).end ≡ end_of k d
  unfolding end_of done_at
  end_is k (inl inside) l = refl
  end_is k (inr past) l = absurd (omega arith)

  pub carries_from_nodes : IsTraffic P net traffic
  carries_from_nodes =
      let z : ℕ → State = λ k. end_of k (cases_lt k net.nodes) in (
        z,
        record {
          sound = record {
            reached = λ k inside.
                let r : Completes P net traffic k = done_at k (cases_lt k net.nodes) inside in
                record { history = r.history; does = subst (λ s. Does P (net.opening k) r.history s) (end_is k (cases_lt k net.nodes) inside) r.does; received = r.received; sent = r.sent };
            flows = λ e inside. ([], append-nil (traffic e));
          };
          ended = λ k inside. ap P.want (sym (end_is k (cases_lt k net.nodes) inside)) ∙ (done_at k (cases_lt k net.nodes) inside).ended;
        },
      )
