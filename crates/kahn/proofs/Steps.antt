-- What a step keeps.
use Rattle.std.proofs.Common.{◌≡◌, ℕ, ◌-◌, ◌<◌, ◌≤◌, Option, Some, List, [], ◌∷◌, ◌++◌, length, ◌⊎◌, refl, sym, ◌∙◌, ap, subst, inl, inr, arith}
use Rattle.std.proofs.lemmas.Bool.{cases_eq}
use Rattle.std.proofs.lemmas.List.{length_push}
use Rattle.kahn.specs.Basics.{updated, Begins}
use Rattle.kahn.specs.Processes.{Process, Event, Reads, Writes, Does, reads, writes}
use Rattle.kahn.specs.Networks.{Network, IsWired}
use Rattle.kahn.specs.Configurations.{Configuration, held, Flows, IsReached, IsSound, start}
use Rattle.kahn.specs.Runs.{Can, next, Run}
use Rattle.kahn.proofs.Basics.{updated_at, updated_other, begins_more}
use Rattle.kahn.proofs.History.{reads_push, reads_push_other, reads_push_write, writes_push, writes_push_other, writes_push_read, does_then}

module _ {State Message : Type 0} (P : Process State Message) (net : Network State) where
  pub flows_next : (limit : Option ℕ) (c : Configuration State Message) (a : Event Message) → Flows net c → Can P net limit c a → Flows net (next P net c a)
  flows_next limit c (Reads e m) flows (inside, wants, some) f inside_f = go (cases_eq f e)
    where
      go : ((f ≡ e) ⊎ (f ≡ e → ⊥)) → Begins (updated c.received e (c.received e ++ m ∷ []) f) (c.sent f)
      go (inl h) = rw (updated_at c.received e f (c.received e ++ m ∷ []) h, h) some
      go (inr h) = rw (updated_other c.received e f (c.received e ++ m ∷ []) h) (flows f inside_f)
  flows_next limit c (Writes e m) flows (inside, wants, is, room) f inside_f = go (cases_eq f e)
    where
      go : ((f ≡ e) ⊎ (f ≡ e → ⊥)) → Begins (c.received f) (updated c.sent e (c.sent e ++ m ∷ []) f)
      go (inl h) = rw (updated_at c.sent e f (c.sent e ++ m ∷ []) h, ← h) (begins_more (c.received f) (c.sent f) (m ∷ []) (flows f inside_f))
      go (inr h) = rw (updated_other c.sent e f (c.sent e ++ m ∷ []) h) (flows f inside_f)

  module _ (wired : IsWired net) (limit : Option ℕ) (c : Configuration State Message) where
    reached_reads : (e : ℕ) (m : Message) → Can P net limit c (Reads e m) → (k : ℕ) → IsReached P net c k → ((k ≡ net.reader e) ⊎ (k ≡ net.reader e → ⊥)) → IsReached P net (next P net c (Reads e m)) k
    reached_reads e m (inside, wants, some) k was (inl at) =
        record {
          history = was.history ++ Reads (net.reader_port e) m ∷ [];
          does = does_then P (net.opening k) (c.state k) _ was.history (Reads (net.reader_port e) m ∷ []) was.does
              (ap (λ x. P.want (c.state x)) at ∙ wants, ap (λ x. P.read (c.state x) m) at ∙ sym (updated_at c.state (net.reader e) k (P.read (c.state (net.reader e)) m) at));
          received = λ f inside_f reader_f. in_edge f inside_f reader_f (cases_eq f e);
          sent = λ f inside_f writer_f. was.sent f inside_f writer_f ∙ sym (writes_push_read (net.writer_port f) (net.reader_port e) m was.history);
        }
      where
        in_edge : (f : ℕ) → f < net.edges → net.reader f ≡ k → ((f ≡ e) ⊎ (f ≡ e → ⊥)) → updated c.received e (c.received e ++ m ∷ []) f
            ≡ reads (net.reader_port f) (was.history ++ Reads (net.reader_port e) m ∷ [])
        in_edge f inside_f reader_f (inl same) =
            updated_at c.received e f (c.received e ++ m ∷ []) same
            ∙ ap (λ x. c.received x ++ m ∷ []) (sym same)
            ∙ ap (λ l. l ++ m ∷ []) (was.received f inside_f reader_f)
            ∙ sym (reads_push (net.reader_port f) (net.reader_port e) m was.history (ap net.reader_port same))
        in_edge f inside_f reader_f (inr other) =
            updated_other c.received e f (c.received e ++ m ∷ []) other
            ∙ was.received f inside_f reader_f
            ∙ sym (reads_push_other (net.reader_port f) (net.reader_port e) m was.history (λ h. other (wired.one_in f e inside_f inside (reader_f ∙ at) h)))
    reached_reads e m (inside, wants, some) k was (inr apart) =
        record {
          history = was.history;
          does = subst (λ s. Does P (net.opening k) was.history s) (sym (updated_other c.state (net.reader e) k (P.read (c.state (net.reader e)) m) apart)) was.does;
          received = λ f inside_f reader_f. updated_other c.received e f (c.received e ++ m ∷ []) (λ h. apart (sym reader_f ∙ ap net.reader h)) ∙ was.received f inside_f reader_f;
          sent = was.sent;
        }

    reached_writes : (e : ℕ) (m : Message) → Can P net limit c (Writes e m) → (k : ℕ) → IsReached P net c k →
        ((k ≡ net.writer e) ⊎ (k ≡ net.writer e → ⊥)) → IsReached P net (next P net c (Writes e m)) k
    reached_writes e m (inside, wants, is, room) k was (inl at) =
        record {
          history = was.history ++ Writes (net.writer_port e) m ∷ [];
          does = does_then P (net.opening k) (c.state k) _ was.history (Writes (net.writer_port e) m ∷ []) was.does (
            ap (λ x. P.want (c.state x)) at ∙ wants,
            ap (λ x. P.written (c.state x)) at ∙ is,
            ap (λ x. P.wrote (c.state x)) at
                ∙ sym (updated_at c.state (net.writer e) k (P.wrote (c.state (net.writer e))) at),
          );
          received = λ f inside_f reader_f. was.received f inside_f reader_f ∙ sym (reads_push_write (net.reader_port f) (net.writer_port e) m was.history);
          sent = λ f inside_f writer_f. out_edge f inside_f writer_f (cases_eq f e);
        }
      where
        out_edge : (f : ℕ) → f < net.edges → net.writer f ≡ k → ((f ≡ e) ⊎ (f ≡ e → ⊥)) → updated c.sent e (c.sent e ++ m ∷ []) f
            ≡ writes (net.writer_port f) (was.history ++ Writes (net.writer_port e) m ∷ [])
        out_edge f inside_f writer_f (inl same) =
            updated_at c.sent e f (c.sent e ++ m ∷ []) same
            ∙ ap (λ x. c.sent x ++ m ∷ []) (sym same)
            ∙ ap (λ l. l ++ m ∷ []) (was.sent f inside_f writer_f)
            ∙ sym (writes_push (net.writer_port f) (net.writer_port e) m was.history (ap net.writer_port same))
        out_edge f inside_f writer_f (inr other) =
            updated_other c.sent e f (c.sent e ++ m ∷ []) other
            ∙ was.sent f inside_f writer_f
            ∙ sym (writes_push_other (net.writer_port f) (net.writer_port e) m was.history (λ h. other (wired.one_out f e inside_f inside (writer_f ∙ at) h)))
    reached_writes e m (inside, wants, is, room) k was (inr apart) =
        record {
          history = was.history;
          does = subst (λ s. Does P (net.opening k) was.history s) (sym (updated_other c.state (net.writer e) k (P.wrote (c.state (net.writer e))) apart)) was.does;
          received = was.received;
          sent = λ f inside_f writer_f. updated_other c.sent e f (c.sent e ++ m ∷ []) (λ h. apart (sym writer_f ∙ ap net.writer h)) ∙ was.sent f inside_f writer_f;
        }

    pub sound_next : (a : Event Message) → IsSound P net c → Can P net limit c a → IsSound P net (next P net c a)
    sound_next (Reads e m) sound can =
        record { reached = λ k inside. reached_reads e m can k (sound.reached k inside) (cases_eq k (net.reader e)); flows = flows_next limit c (Reads e m) sound.flows can }
    sound_next (Writes e m) sound can =
        record { reached = λ k inside. reached_writes e m can k (sound.reached k inside) (cases_eq k (net.writer e)); flows = flows_next limit c (Writes e m) sound.flows can }

  -- the nodes before any step
  pub sound_start : IsSound P net (start net)
  sound_start =
      record {
        reached = λ k inside. record { history = []; does = refl; received = λ e l h. refl; sent = λ e l h. refl };
        flows = λ e l. ([], refl);
      }

  pub sound_run : IsWired net → (limit : Option ℕ) (events : List (Event Message)) (c d : Configuration State Message) → IsSound P net c → Run P net limit events c d → IsSound P net d
  sound_run wired limit [] c d sound same = subst (λ x. IsSound P net x) same sound
  sound_run wired limit (a ∷ more) c d sound (can, run) = sound_run wired limit more (next P net c a) d (sound_next wired limit c a sound can) run

  -- no edge holds more than the capacity
  pub fits_next : (capacity : ℕ) (c : Configuration State Message) (a : Event Message) → Can P net (Some capacity) c a →
      ((e : ℕ) → e < net.edges → held c e ≤ capacity) → (e : ℕ) → e < net.edges → held (next P net c a) e ≤ capacity
  fits_next capacity c (Reads e m) can fits f inside_f = go (cases_eq f e)
    where
      go : ((f ≡ e) ⊎ (f ≡ e → ⊥)) → length (c.sent f) - length (updated c.received e (c.received e ++ m ∷ []) f) ≤ capacity
      go (inl h) = rw (updated_at c.received e f (c.received e ++ m ∷ []) h, length_push (c.received e) m, ← h) (omega (arith, fits f inside_f))
      go (inr h) = rw (updated_other c.received e f (c.received e ++ m ∷ []) h) (fits f inside_f)
  fits_next capacity c (Writes e m) (inside, wants, is, room) fits f inside_f = go (cases_eq f e)
    where
      go : ((f ≡ e) ⊎ (f ≡ e → ⊥)) → length (updated c.sent e (c.sent e ++ m ∷ []) f) - length (c.received f) ≤ capacity
      go (inl h) = rw (updated_at c.sent e f (c.sent e ++ m ∷ []) h, length_push (c.sent e) m, h) (omega arith)
      go (inr h) = rw (updated_other c.sent e f (c.sent e ++ m ∷ []) h) (fits f inside_f)

  pub fits_run : (capacity : ℕ) (events : List (Event Message)) (c d : Configuration State Message) → Run P net (Some capacity) events c d →
      ((e : ℕ) → e < net.edges → held c e ≤ capacity) → (e : ℕ) → e < net.edges → held d e ≤ capacity
  fits_run capacity [] c d same fits = λ e inside. omega (arith, fits e inside, ap (λ x. held x e) same)
  fits_run capacity (a ∷ more) c d (can, run) fits = fits_run capacity more (next P net c a) d run (fits_next capacity c a can fits)
