-- What all sound configurations of one network share.
use Rattle.std.proofs.Common.{◌≡◌, ℕ, suc, ◌+◌, ◌<◌, ◌≤◌, Option, Some, None, List, [], ◌∷◌, ◌++◌, length, ◌⊎◌, sym, ◌∙◌, ap, inl, inr, arith, append-nil, length-append}
use Rattle.std.proofs.lemmas.List.{length_push}
use Rattle.kahn.specs.declared.want.Want.TheVariants.{Read, Write, Ended}
use Rattle.kahn.specs.Basics.{updated, Begins}
use Rattle.kahn.specs.Processes.{Process, Event, Reads, Writes}
use Rattle.kahn.specs.Networks.{Network, IsWired, AllLawful}
use Rattle.kahn.specs.Configurations.{Configuration, IsSound, NoneFaulted, AllEnded, IsLeastBlocked, IsComplete, moved}
use Rattle.kahn.specs.Runs.{Can, next, Run, AtRest}
use Rattle.kahn.proofs.Basics.{updated_same, updated_other}
use Rattle.kahn.proofs.Search.{total_falls, total_less}
use Rattle.kahn.proofs.Prefix.{sent_begins, received_begins, fine_below, more_sent}
use Rattle.kahn.proofs.Rest.{stalled_or_ended}

begins_length : {X : Type 0} (xs ys : List X) → Begins xs ys → length xs ≤ length ys
begins_length xs ys (rest, e) = omega (arith, ap length e, length-append xs rest)

pub begins_both : {X : Type 0} (xs ys : List X) → Begins xs ys → Begins ys xs → xs ≡ ys
begins_both {X} xs ys (rest, e) back = go rest e
  where
    go : (rest : List X) → xs ++ rest ≡ ys → xs ≡ ys
    go [] e = sym (append-nil xs) ∙ e
    go (x ∷ more) e = absurd (omega (arith, ap length e, length-append xs (x ∷ more), begins_length ys xs back))

module _ {State Message : Type 0} (P : Process State Message) (net : Network State) where
  pub ended_rests : (limit : Option ℕ) (c : Configuration State Message) → IsWired net → AllEnded P net c → AtRest P net limit c
  ended_rests limit c wired ended (Reads e m) (inside, wants, some) = absurd (let a : Ended ≡ Read (net.reader_port e) = sym (ended (net.reader e) (wired.inside e inside)) ∙ wants in cc)
  ended_rests limit c wired ended (Writes e m) (inside, wants, is, room) =
      let first : net.writer e < net.reader e = wired.forward e inside in
      let last : net.reader e < net.nodes = wired.inside e inside in
      absurd (let a : Ended ≡ Write (net.writer_port e) = sym (ended (net.writer e) (omega arith)) ∙ wants in cc)

  -- each step moves one message
  pub moved_next : (limit : Option ℕ) (c : Configuration State Message) (a : Event Message) → Can P net limit c a → moved net (next P net c a) ≡ suc (moved net c)
  moved_next limit c (Reads e m) (inside, wants, some) =
      total_falls (λ f. length (c.sent f) + length (updated c.received e (c.received e ++ m ∷ []) f)) (λ f. length (c.sent f) + length (c.received f)) net.edges e inside
      (rw (updated_same c.received e (c.received e ++ m ∷ []), length_push (c.received e) m) (omega arith))
      (λ j l ne. rw (updated_other c.received e j (c.received e ++ m ∷ []) ne))
  moved_next limit c (Writes e m) (inside, wants, is, room) =
      total_falls (λ f. length (updated c.sent e (c.sent e ++ m ∷ []) f) + length (c.received f)) (λ f. length (c.sent f) + length (c.received f)) net.edges e inside
      (rw (updated_same c.sent e (c.sent e ++ m ∷ []), length_push (c.sent e) m) (omega arith))
      (λ j l ne. rw (updated_other c.sent e j (c.sent e ++ m ∷ []) ne))

  pub moved_run : (limit : Option ℕ) (events : List (Event Message)) (c d : Configuration State Message) → Run P net limit events c d → moved net d ≡ length events + moved net c
  moved_run limit [] c d same = omega (arith, ap (λ x. moved net x) same)
  moved_run limit (a ∷ more) c d (can, run) = omega (arith, moved_run limit more (next P net c a) d run, moved_next limit c a can)

  module _ (wired : IsWired net) (lawful : AllLawful P net) where
    -- no sound configuration moved more messages than one that rests where nothing bounds the edges
    pub moved_most : (r c : Configuration State Message) → IsSound P net r → AtRest P net None r → IsSound P net c → moved net c ≤ moved net r
    moved_most r c sound_r rest_r sound =
        total_less (λ e. length (c.sent e) + length (c.received e)) (λ e. length (r.sent e) + length (r.received e)) net.edges
        (λ e inside. omega (
          arith,
          begins_length (c.sent e) (r.sent e) (sent_begins P net wired lawful r sound_r rest_r c sound e inside),
          begins_length (c.received e) (r.received e) (received_begins P net wired lawful r sound_r rest_r c sound e inside),
        ))

    -- the traffic of a network whose nodes can all end
    module _ (r : Configuration State Message) (all : IsComplete P net r) where
      rest_r : AtRest P net None r
      rest_r = ended_rests None r wired all.ended

      pub complete_sent : (c : Configuration State Message) → IsSound P net c → (e : ℕ) → e < net.edges → Begins (c.sent e) (r.sent e)
      complete_sent c sound = sent_begins P net wired lawful r all.sound rest_r c sound

      pub complete_received : (c : Configuration State Message) → IsSound P net c → (e : ℕ) → e < net.edges → Begins (c.received e) (r.received e)
      complete_received c sound = received_begins P net wired lawful r all.sound rest_r c sound

      pub complete_fine : (c : Configuration State Message) → IsSound P net c → NoneFaulted P net c
      complete_fine c sound = fine_below P net wired lawful r all.sound rest_r c sound all.ended

    pub complete_same : (r c : Configuration State Message) → IsComplete P net r → IsComplete P net c → (e : ℕ) → e < net.edges → (c.sent e ≡ r.sent e) × (c.received e ≡ r.received e)
    complete_same r c all_r all_c e inside = (
      begins_both (c.sent e) (r.sent e) (complete_sent r all_r c all_c.sound e inside) (complete_sent c all_c r all_r.sound e inside),
      begins_both (c.received e) (r.received e) (complete_received r all_r c all_c.sound e inside) (complete_received c all_c r all_r.sound e inside),
    )

    -- where the lists are no longer than the capacity, no run stalls
    pub complete_ends : (r c : Configuration State Message) (capacity : ℕ) → IsComplete P net r →
        ((e : ℕ) → e < net.edges → length (r.sent e) ≤ capacity) → IsSound P net c → AtRest P net (Some capacity) c → AllEnded P net c
    complete_ends r c capacity all short sound rest = go (stalled_or_ended P net capacity c wired lawful sound rest (complete_fine r all c sound))
      where
        go : AllEnded P net c ⊎ ((e : ℕ) × IsLeastBlocked P net capacity c e) → AllEnded P net c
        go (inl ended) = ended
        go (inr (e, (inside, (wants, full), least))) =
            absurd (omega (arith, short e inside, more_sent P net wired lawful r all.sound (rest_r r all) c sound all.ended e inside wants))
