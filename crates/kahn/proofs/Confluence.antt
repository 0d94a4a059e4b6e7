-- Steps of two nodes commute, so that all maximal runs end alike.
use Rattle.std.proofs.Common.{◌≡◌, ℕ, suc, ◌+◌, ◌-◌, ◌≤◌, Option, Some, None, List, [], ◌∷◌, ◌++◌, length, ◌⊎◌, refl, sym, ◌∙◌, ap, subst, inl, inr, arith}
use Rattle.std.proofs.lemmas.Bool.{cases_eq}
use Rattle.std.proofs.lemmas.List.{length_push}
use Rattle.kahn.specs.Basics.{updated, Begins}
use Rattle.kahn.specs.Processes.{Process, Event, Reads, Writes}
use Rattle.kahn.specs.Networks.{Network, IsWired, actor}
use Rattle.kahn.specs.Configurations.{Configuration, held}
use Rattle.kahn.specs.Runs.{Can, next, Run, AtRest, HasRoom}
use Rattle.kahn.proofs.Basics.{updated_at, updated_other, updated_swap, begins_one, begins_more}

room_less : (limit : Option ℕ) (a b : ℕ) → b ≤ a → HasRoom limit a → HasRoom limit b
room_less None a b le h = tt
room_less (Some n) a b le h = omega arith

module _ {State Message : Type 0} (P : Process State Message) (net : Network State) where
  module _ (wired : IsWired net) (limit : Option ℕ) (c : Configuration State Message) where
    -- a node can do one event at most
    pub one_event : (a b : Event Message) → Can P net limit c a → Can P net limit c b → actor net a ≡ actor net b → a ≡ b
    one_event (Reads e m) (Reads f n) (inside_e, want_e, some_e) (inside_f, want_f, some_f) same =
        let nodes : net.reader e ≡ net.reader f = same in
        let ports : net.reader_port e ≡ net.reader_port f = cc in
        let edges : e ≡ f = wired.one_in e f inside_e inside_f nodes ports in
        let some : Begins (c.received f ++ m ∷ []) (c.sent f) = subst (λ x. Begins (c.received x ++ m ∷ []) (c.sent x)) edges some_e in
        let messages : m ≡ n = begins_one (c.received f) m n (c.sent f) some some_f in
        cc
    one_event (Reads e m) (Writes f n) (inside_e, want_e, some_e) (inside_f, want_f, is_f, room_f) same =
        let nodes : net.reader e ≡ net.writer f = same in
        cc
    one_event (Writes e m) (Reads f n) (inside_e, want_e, is_e, room_e) (inside_f, want_f, some_f) same =
        let nodes : net.writer e ≡ net.reader f = same in
        cc
    one_event (Writes e m) (Writes f n) (inside_e, want_e, is_e, room_e) (inside_f, want_f, is_f, room_f) same =
        let nodes : net.writer e ≡ net.writer f = same in
        let ports : net.writer_port e ≡ net.writer_port f = cc in
        let edges : e ≡ f = wired.one_out e f inside_e inside_f nodes ports in
        cc

  module _ (c : Configuration State Message) where
    pub commute : (a b : Event Message) → (actor net a ≡ actor net b → ⊥) → next P net (next P net c a) b ≡ next P net (next P net c b) a
    commute (Reads e m) (Reads f n) apart =
        λ i. record {
          state = updated_swap c.state (net.reader e) (net.reader f) (λ s. P.read s m) (λ s. P.read s n) apart i;
          sent = c.sent;
          received = updated_swap c.received e f (λ l. l ++ m ∷ []) (λ l. l ++ n ∷ []) (λ h. apart (ap net.reader h)) i;
        }
    commute (Reads e m) (Writes f n) apart =
        λ i. record {
          state = updated_swap c.state (net.reader e) (net.writer f) (λ s. P.read s m) P.wrote apart i;
          sent = updated c.sent f (c.sent f ++ n ∷ []);
          received = updated c.received e (c.received e ++ m ∷ []);
        }
    commute (Writes e m) (Reads f n) apart =
        λ i. record {
          state = updated_swap c.state (net.writer e) (net.reader f) P.wrote (λ s. P.read s n) apart i;
          sent = updated c.sent e (c.sent e ++ m ∷ []);
          received = updated c.received f (c.received f ++ n ∷ []);
        }
    commute (Writes e m) (Writes f n) apart =
        λ i. record {
          state = updated_swap c.state (net.writer e) (net.writer f) P.wrote P.wrote apart i;
          sent = updated_swap c.sent e f (λ l. l ++ m ∷ []) (λ l. l ++ n ∷ []) (λ h. apart (ap net.writer h)) i;
          received = c.received;
        }

    module _ (limit : Option ℕ) where
      -- a step of one node leaves another node's event as it is
      pub stays : (a b : Event Message) → Can P net limit c b → (actor net a ≡ actor net b → ⊥) → Can P net limit (next P net c a) b
      stays (Reads e m) (Reads f n) (inside, wants, some) apart =
          let s : updated c.state (net.reader e) (P.read (c.state (net.reader e)) m) (net.reader f) ≡ c.state (net.reader f) =
          updated_other c.state (net.reader e) (net.reader f) _ (λ h. apart (sym h)) in
          let r : updated c.received e (c.received e ++ m ∷ []) f ≡ c.received f = updated_other c.received e f _ (λ h. apart (ap net.reader (sym h))) in
          (inside, ap P.want s ∙ wants, subst (λ l. Begins (l ++ n ∷ []) (c.sent f)) (sym r) some)
      stays (Reads e m) (Writes f n) (inside, wants, is, room) apart =
          let s : updated c.state (net.reader e) (P.read (c.state (net.reader e)) m) (net.writer f) ≡ c.state (net.writer f) =
          updated_other c.state (net.reader e) (net.writer f) _ (λ h. apart (sym h)) in
          (inside, ap P.want s ∙ wants, ap P.written s ∙ is, room_less limit (held c f) _ (fewer f (cases_eq f e)) room)
        where
          fewer : (f : ℕ) → ((f ≡ e) ⊎ (f ≡ e → ⊥)) → length (c.sent f) - length (updated c.received e (c.received e ++ m ∷ []) f) ≤ held c f
          fewer f (inl h) = rw (updated_at c.received e f (c.received e ++ m ∷ []) h, length_push (c.received e) m, h) (omega arith)
          fewer f (inr h) = rw (updated_other c.received e f (c.received e ++ m ∷ []) h) (omega arith)
      stays (Writes e m) (Reads f n) (inside, wants, some) apart =
          let s : updated c.state (net.writer e) (P.wrote (c.state (net.writer e))) (net.reader f) ≡ c.state (net.reader f) =
          updated_other c.state (net.writer e) (net.reader f) _ (λ h. apart (sym h)) in
          (inside, ap P.want s ∙ wants, more f some (cases_eq f e))
        where
          more : (f : ℕ) → Begins (c.received f ++ n ∷ []) (c.sent f) → ((f ≡ e) ⊎ (f ≡ e → ⊥)) → Begins (c.received f ++ n ∷ []) (updated c.sent e (c.sent e ++ m ∷ []) f)
          more f some (inl h) = rw (updated_at c.sent e f (c.sent e ++ m ∷ []) h, ← h) (begins_more (c.received f ++ n ∷ []) (c.sent f) (m ∷ []) some)
          more f some (inr h) = rw (updated_other c.sent e f (c.sent e ++ m ∷ []) h) some
      stays (Writes e m) (Writes f n) (inside, wants, is, room) apart =
          let s : updated c.state (net.writer e) (P.wrote (c.state (net.writer e))) (net.writer f) ≡ c.state (net.writer f) =
          updated_other c.state (net.writer e) (net.writer f) _ (λ h. apart (sym h)) in
          let r : updated c.sent e (c.sent e ++ m ∷ []) f ≡ c.sent f = updated_other c.sent e f _ (λ h. apart (ap net.writer (sym h))) in
          (inside, ap P.want s ∙ wants, ap P.written s ∙ is, subst (λ l. HasRoom limit (length l - length (c.received f))) (sym r) room)

  module _ (wired : IsWired net) (limit : Option ℕ) where
    -- an event that may come now may be moved to the front of a run that ends at rest
    pub sooner : (more : List (Event Message)) (c r : Configuration State Message) (a : Event Message) → Run P net limit more c r →
        AtRest P net limit r → Can P net limit c a → (left : List (Event Message)) × Run P net limit left (next P net c a) r
        × (length more ≡ suc (length left))
    sooner [] c r a same rest can = absurd (rest a (subst (λ x. Can P net limit x a) same can))
    sooner (b ∷ more) c r a (can_b, run) rest can_a = go (λ can. sooner more (next P net c b) r a run rest can) (cases_eq (actor net a) (actor net b))
      where
        go : (Can P net limit (next P net c b) a → (left : List (Event Message)) × Run P net limit left (next P net (next P net c b) a) r
            × (length more ≡ suc (length left))) → ((actor net a ≡ actor net b) ⊎ (actor net a ≡ actor net b → ⊥)) → (left : List (Event Message))
            × Run P net limit left (next P net c a) r × (suc (length more) ≡ suc (length left))
        go later (inl same) = (more, subst (λ x. Run P net limit more (next P net c x) r) (one_event wired limit c b a can_b can_a (sym same)) run, refl)
        go later (inr apart) =
            let ih : (left : List (Event Message)) × Run P net limit left (next P net (next P net c b) a) r × (length more ≡ suc (length left)) =
            later (stays c limit b a can_a (λ h. apart (sym h))) in
            (b ∷ ih.0, (stays c limit a b can_b apart, subst (λ x. Run P net limit ih.0 x r) (sym (commute c a b apart)) ih.1), ap suc ih.2)

    -- a run that ends at rest bounds each other run from there, which can go on to the same end
    pub goes_on : (done more : List (Event Message)) (c d r : Configuration State Message) → Run P net limit more c r → AtRest P net limit r →
        Run P net limit done c d → (left : List (Event Message)) × Run P net limit left d r × (length more ≡ length done + length left)
    goes_on [] more c d r run rest same = (more, subst (λ x. Run P net limit more x r) same run, omega arith)
    goes_on (a ∷ done) more c d r run rest (can, did) =
        let first : (left : List (Event Message)) × Run P net limit left (next P net c a) r × (length more ≡ suc (length left)) = sooner more c r a run rest can in
        let then : (left : List (Event Message)) × Run P net limit left d r × (length first.0 ≡ length done + length left) = goes_on done first.0 (next P net c a) d r first.1 rest did in
        (then.0, then.1, omega (arith, first.2, then.2))

    pub one_end : (one two : List (Event Message)) (c d e : Configuration State Message) → Run P net limit one c d → AtRest P net limit d → Run P net limit two c e → AtRest P net limit e → d ≡ e
    one_end one two c d e run_d rest_d run_e rest_e =
        let left : (left : List (Event Message)) × Run P net limit left d e × (length two ≡ length one + length left) = goes_on one two c d e run_e rest_e run_d in
        none left.0 left.1
      where
        none : (left : List (Event Message)) → Run P net limit left d e → d ≡ e
        none [] same = same
        none (a ∷ more) (can, run) = absurd (rest_d a can)
