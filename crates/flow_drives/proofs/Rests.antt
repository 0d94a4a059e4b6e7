-- Graphs at rest: how they come out.
use Rattle.std.proofs.Common.{◌≡◌, ℕ, ◌<◌, ◌≤◌, ◌⊎◌, inl, inr, List, length, Some, refl, sym, subst}
use Rattle.std.proofs.lemmas.Bool.{cases_lt}
use mathlib.Core.Logic.{∥∥₁_elim}
use Rattle.kahn.specs.declared.want.Want.{Want}
use Rattle.kahn.specs.declared.want.Want.TheVariants.{Read, Write, Ended, Faulted}
use Rattle.kahn.specs.Processes.{Writes}
use Rattle.kahn.specs.Networks.{Network, IsWired, AllLawful}
use Rattle.kahn.specs.Configurations.{Configuration, start, held, IsSound, NoneFaulted, AllEnded, IsLeastBlocked}
use Rattle.kahn.proofs.Rest.{stalled_or_ended}
use Rattle.kahn.proofs.Steps.{sound_start, sound_run}
use Rattle.flow_messages.specs.Ends.{View}
use Rattle.flow_messages.specs.Signals.{Signal}
use Rattle.flow_base.specs.Transducers.{Behaviour}
use Rattle.flow_networks.specs.declared.edge.Edge.{Edge}
use Rattle.flow_networks.specs.Networks.{network_of, configuration_of}
use Rattle.flow_networks.specs.Shapes.{IsSameNetwork}
use Rattle.flow_drives.specs.Drives.{EndsMaximalRun, IsSoundAt, RestsAt, WantsToWrite, IsFirstToWrite}

-- where a maximal run ends is sound, and no node can step
module _ {S : Type 0} (b : Behaviour S) (capacity : ℕ) (states : List S) (edges : List Edge) (states' : List S) (edges' : List Edge) (view : View)
    (same : IsSameNetwork b states edges states' edges') (run : EndsMaximalRun b capacity states edges states' view) where
  pub run_sound : IsWired (network_of b states edges) → IsSoundAt b states' edges' view
  run_sound wired =
      let net : Network S = network_of b states edges in
      let c : Configuration S Signal = configuration_of b states' view in
      ∣ subst (λ n. IsSound b.process n c) (sym same.network) (sound_run b.process net wired (Some capacity) run.0 (start net) c (sound_start b.process net) run.1.run) ∣₁

  pub run_rests : RestsAt b states' edges' capacity view
  run_rests a can = run.1.rest a (subst (λ n. Rattle.kahn.specs.Runs.Can b.process n (Some capacity) (configuration_of b states' view) a) same.network can)

is_ended : (w : Want) → (w ≡ Ended) ⊎ (w ≡ Ended → ⊥)
is_ended Ended = inl refl
is_ended (Read p) = inr (λ h. cc)
is_ended (Write q) = inr (λ h. cc)
is_ended (Faulted fault) = inr (λ h. cc)

module _ {S : Type 0} (b : Behaviour S) (states : List S) (edges : List Edge) (capacity : ℕ) (view : View)
    (rest : RestsAt b states edges capacity view) (fine : NoneFaulted b.process (network_of b states edges) (configuration_of b states view)) where
  abbrev net : Network S
  net = network_of b states edges

  abbrev c : Configuration S Signal
  c = configuration_of b states view

  -- at rest a writer that waits has a full edge
  full : (e : ℕ) → e < length edges → WantsToWrite b states edges e → capacity ≤ held c e
  full e inside wants = go (cases_lt (held c e) capacity)
    where
      go : (held c e < capacity) ⊎ (capacity ≤ held c e) → capacity ≤ held c e
      go (inl room) = absurd (rest (Writes e (b.process.written (c.state (net.writer e)))) (inside, wants, refl, room))
      go (inr no_room) = no_room

  pub first_stalls : (e : ℕ) → IsFirstToWrite b states edges e → IsLeastBlocked b.process net capacity c e
  first_stalls e (inside, wants, first) = (inside, (wants, full e inside wants), λ f before blocked. first f before blocked.0)

  pub none_ends : IsWired net → AllLawful b.process net → IsSoundAt b states edges view → ((e : ℕ) → e < length edges → WantsToWrite b states edges e → ⊥) → AllEnded b.process net c
  none_ends wired lawful sound none k inside = go (is_ended (b.process.want (c.state k)))
    where
      ends : IsSound b.process net c → b.process.want (c.state k) ≡ Ended
      ends s = at (stalled_or_ended b.process net capacity c wired lawful s rest fine)
        where
          at : AllEnded b.process net c ⊎ ((e : ℕ) × IsLeastBlocked b.process net capacity c e) → b.process.want (c.state k) ≡ Ended
          at (inl ended) = ended k inside
          at (inr (e, least)) = absurd (none e least.0 least.1.0)

      go : (b.process.want (c.state k) ≡ Ended) ⊎ (b.process.want (c.state k) ≡ Ended → ⊥) → b.process.want (c.state k) ≡ Ended
      go (inl is) = is
      go (inr not) = absurd (∥∥₁_elim sound (λ x y. absurd x) (λ s. not (ends s)))
