-- Every run ends: the events of a network from a configuration on are finitely many, even where
-- nothing bounds the edges.
use Rattle.std.proofs.Common.{◌≡◌, ℕ, zero, suc, ◌+◌, ◌<◌, ◌≤◌, Option, None, List, [], ◌∷◌, ◌++◌, length, ◌⊎◌, refl, sym, ◌∙◌, ap, subst, inl, inr}
use Rattle.std.proofs.Common.{arith, eqb, cond, append_assoc, length-append, eq-eqb, ne_eqb}
use Rattle.std.proofs.lemmas.Bool.{cases_eq}
use Rattle.std.proofs.lemmas.List.{length_push}
use Rattle.kahn.specs.declared.want.Want.{Want}
use Rattle.kahn.specs.declared.want.Want.TheVariants.{Read, Write, Ended, Faulted}
use Rattle.kahn.specs.Basics.{updated, Begins, total}
use Rattle.kahn.specs.Processes.{Process, Event, Reads, Writes, Settles}
use Rattle.kahn.specs.Networks.{Network, IsWired, actor}
use Rattle.kahn.specs.Configurations.{Configuration, held, Flows}
use Rattle.kahn.specs.Runs.{Can, next, Run, AtRest, Maximal}
use Rattle.kahn.proofs.Basics.{updated_same, updated_at, updated_other}
use Rattle.kahn.proofs.Search.{search_below, total_same, total_falls}
use Rattle.kahn.proofs.Steps.{flows_next}
use Rattle.kahn.proofs.Confluence.{goes_on}

pub is_read : (w : Want) (p : ℕ) → (w ≡ Read p) ⊎ (w ≡ Read p → ⊥)
is_read (Read q) p = go (cases_eq q p)
  where
    go : ((q ≡ p) ⊎ (q ≡ p → ⊥)) → (Read q ≡ Read p) ⊎ (Read q ≡ Read p → ⊥)
    go (inl e) = inl (ap Read e)
    go (inr ne) = inr (λ h. ne cc)
is_read (Write q) p = inr (λ h. cc)
is_read Ended p = inr (λ h. cc)
is_read (Faulted f) p = inr (λ h. cc)

pub is_write : (w : Want) (p : ℕ) → (w ≡ Write p) ⊎ (w ≡ Write p → ⊥)
is_write (Write q) p = go (cases_eq q p)
  where
    go : ((q ≡ p) ⊎ (q ≡ p → ⊥)) → (Write q ≡ Write p) ⊎ (Write q ≡ Write p → ⊥)
    go (inl e) = inl (ap Write e)
    go (inr ne) = inr (λ h. ne cc)
is_write (Read q) p = inr (λ h. cc)
is_write Ended p = inr (λ h. cc)
is_write (Faulted f) p = inr (λ h. cc)

module _ {State Message : Type 0} (P : Process State Message) (net : Network State) where
  pub run_then : (limit : Option ℕ) (one two : List (Event Message)) (c d e : Configuration State Message) → Run P net limit one c d → Run P net limit two d e → Run P net limit (one ++ two) c e
  run_then limit [] two c d e same run = subst (λ x. Run P net limit two x e) (sym same) run
  run_then limit (a ∷ one) two c d e (can, run) after = (can, run_then limit one two (next P net c a) d e run after)

  module _ (c : Configuration State Message) (flows : Flows net c) (k : ℕ) where
    abbrev CanRead : ℕ → Type 0
    CanRead e = (net.reader e ≡ k) × (m : Message) × Can P net None c (Reads e m)

    abbrev CanWrite : ℕ → Type 0
    CanWrite e = (net.writer e ≡ k) × (m : Message) × Can P net None c (Writes e m)

    decide_read : (e : ℕ) → e < net.edges → CanRead e ⊎ (CanRead e → ⊥)
    decide_read e inside = go (cases_eq (net.reader e) k) (is_read (P.want (c.state (net.reader e))) (net.reader_port e)) (flows e inside).0 (flows e inside).1
      where
        none : (m : Message) → c.received e ++ [] ≡ c.sent e → Begins (c.received e ++ m ∷ []) (c.sent e) → ⊥
        none m same (rest, more) = absurd (omega (arith, ap length same, ap length more, length-append (c.received e) [], length-append (c.received e ++ m ∷ []) rest, length_push (c.received e) m))

        go : ((net.reader e ≡ k) ⊎ (net.reader e ≡ k → ⊥)) →
            (P.want (c.state (net.reader e)) ≡ Read (net.reader_port e)) ⊎ (P.want (c.state (net.reader e)) ≡ Read (net.reader_port e) → ⊥) →
            (rest : List Message) → c.received e ++ rest ≡ c.sent e → CanRead e ⊎ (CanRead e → ⊥)
        go (inr ne) wants rest same = inr (λ h. ne h.0)
        go (inl at) (inr other) rest same = inr (λ h. other h.2.1)
        go (inl at) (inl wants) [] same = inr (λ h. none h.1 same h.2.2)
        go (inl at) (inl wants) (m ∷ rest) same = inl (at, m, (inside, wants, (rest, append_assoc (c.received e) (m ∷ []) rest ∙ same)))

    decide_write : (e : ℕ) → e < net.edges → CanWrite e ⊎ (CanWrite e → ⊥)
    decide_write e inside = go (cases_eq (net.writer e) k) (is_write (P.want (c.state (net.writer e))) (net.writer_port e))
      where
        go : ((net.writer e ≡ k) ⊎ (net.writer e ≡ k → ⊥)) →
            (P.want (c.state (net.writer e)) ≡ Write (net.writer_port e)) ⊎ (P.want (c.state (net.writer e)) ≡ Write (net.writer_port e) → ⊥) →
            CanWrite e ⊎ (CanWrite e → ⊥)
        go (inr ne) wants = inr (λ h. ne h.0)
        go (inl at) (inr other) = inr (λ h. other h.2.1)
        go (inl at) (inl wants) = inl (at, P.written (c.state (net.writer e)), (inside, wants, refl, tt))

    -- the node can do an event, or none
    pub decide : ((a : Event Message) × (actor net a ≡ k) × Can P net None c a) ⊎ ((a : Event Message) → actor net a ≡ k → Can P net None c a → ⊥)
    decide = go (search_below CanRead net.edges decide_read) (search_below CanWrite net.edges decide_write)
      where
        go : ((e : ℕ) × (e < net.edges) × CanRead e × ((j : ℕ) → j < e → CanRead j → ⊥)) ⊎ ((e : ℕ) → e < net.edges → CanRead e → ⊥) →
            ((e : ℕ) × (e < net.edges) × CanWrite e × ((j : ℕ) → j < e → CanWrite j → ⊥)) ⊎ ((e : ℕ) → e < net.edges → CanWrite e → ⊥) →
            ((a : Event Message) × (actor net a ≡ k) × Can P net None c a) ⊎ ((a : Event Message) → actor net a ≡ k → Can P net None c a → ⊥)
        go (inl (e, inside, (at, m, can), least)) writes = inl (Reads e m, at, can)
        go (inr no_read) (inl (e, inside, (at, m, can), least)) = inl (Writes e m, at, can)
        go (inr no_read) (inr no_write) = inr neither
          where
            neither : (a : Event Message) → actor net a ≡ k → Can P net None c a → ⊥
            neither (Reads e m) at can = no_read e can.0 (at, m, can)
            neither (Writes e m) at can = no_write e can.0 (at, m, can)

  -- how many messages wait at the node's input ports
  abbrev waiting : ℕ → Configuration State Message → ℕ → ℕ
  waiting k c e = cond (eqb (net.reader e) k) (held c e) 0

  abbrev pending : ℕ → Configuration State Message → ℕ
  pending k c = total (waiting k c) net.edges

  module _ (wired : IsWired net) where
    pending_read : (k : ℕ) (c : Configuration State Message) (e : ℕ) (m : Message) → net.reader e ≡ k → Can P net None c (Reads e m) → pending k c ≡ suc (pending k (next P net c (Reads e m)))
    pending_read k c e m at (inside, wants, some) =
        total_falls (waiting k c) (waiting k (next P net c (Reads e m))) net.edges e inside
        (rw (eq-eqb (net.reader e) k at, updated_same c.received e (c.received e ++ m ∷ []))
        (omega (arith, ap length some.1, length-append (c.received e ++ m ∷ []) some.0, length_push (c.received e) m)))
        (λ j l ne. rw (updated_other c.received e j (c.received e ++ m ∷ []) ne))

    pending_write : (k : ℕ) (c : Configuration State Message) (e : ℕ) (m : Message) → net.writer e ≡ k → Can P net None c (Writes e m) → pending k c ≡ pending k (next P net c (Writes e m))
    pending_write k c e m at (inside, wants, is, room) =
        total_same (waiting k c) (waiting k (next P net c (Writes e m))) net.edges (λ j l. go j (cases_eq j e))
      where
        go : (j : ℕ) → ((j ≡ e) ⊎ (j ≡ e → ⊥)) → waiting k c j ≡ waiting k (next P net c (Writes e m)) j
        go j (inl h) = let before : net.writer e < net.reader e = wired.forward e inside in rw (h, ne_eqb (net.reader e) k (λ x. omega arith))
        go j (inr ne) = rw (updated_other c.sent e j (c.sent e ++ m ∷ []) ne)

    -- what a node does gives nothing to the nodes of smaller numbers
    quiet : (c : Configuration State Message) (a b : Event Message) → actor net a < actor net b → Can P net None c b → Can P net None (next P net c b) a → Can P net None c a
    quiet c (Reads e m) (Reads f n) before can_b (inside, wants, some) =
        let s : updated c.state (net.reader f) (P.read (c.state (net.reader f)) n) (net.reader e) ≡ c.state (net.reader e) = updated_other c.state (net.reader f) (net.reader e) _ (λ h. omega arith) in
        let r : updated c.received f (c.received f ++ n ∷ []) e ≡ c.received e = updated_other c.received f e _ (λ h. absurd (omega (arith, ap net.reader h))) in
        (inside, ap P.want (sym s) ∙ wants, subst (λ l. Begins (l ++ m ∷ []) (c.sent e)) r some)
    quiet c (Reads e m) (Writes f n) before can_b (inside, wants, some) =
        let s : updated c.state (net.writer f) (P.wrote (c.state (net.writer f))) (net.reader e) ≡ c.state (net.reader e) = updated_other c.state (net.writer f) (net.reader e) _ (λ h. omega arith) in
        let r : updated c.sent f (c.sent f ++ n ∷ []) e ≡ c.sent e = updated_other c.sent f e _ (λ h. absurd (omega (arith, ap net.reader h, wired.forward f can_b.0))) in
        (inside, ap P.want (sym s) ∙ wants, subst (λ l. Begins (c.received e ++ m ∷ []) l) r some)
    quiet c (Writes e m) (Reads f n) before can_b (inside, wants, is, room) =
        let s : updated c.state (net.reader f) (P.read (c.state (net.reader f)) n) (net.writer e) ≡ c.state (net.writer e) = updated_other c.state (net.reader f) (net.writer e) _ (λ h. omega arith) in
        (inside, ap P.want (sym s) ∙ wants, ap P.written (sym s) ∙ is, tt)
    quiet c (Writes e m) (Writes f n) before can_b (inside, wants, is, room) =
        let s : updated c.state (net.writer f) (P.wrote (c.state (net.writer f))) (net.writer e) ≡ c.state (net.writer e) = updated_other c.state (net.writer f) (net.writer e) _ (λ h. omega arith) in
        (inside, ap P.want (sym s) ∙ wants, ap P.written (sym s) ∙ is, tt)

    -- where the node is done with all that waits for it
    pub record Drained (k : ℕ) (c : Configuration State Message) : Type 0 where
      pub more : List (Event Message)
      pub end : Configuration State Message
      pub run : Run P net None more c end
      pub flows : Flows net end
      pub done : (a : Event Message) → actor net a ≡ k → Can P net None end a → ⊥
      pub kept : (a : Event Message) → actor net a < k → Can P net None end a → Can P net None c a

    drained_more : (k : ℕ) (c : Configuration State Message) (a : Event Message) → actor net a ≡ k → Can P net None c a → Drained k (next P net c a) → Drained k c
    drained_more k c a at can r =
        record {
          more = a ∷ r.more;
          end = r.end;
          run = (can, r.run);
          flows = r.flows;
          done = r.done;
          kept = λ b before can_b. quiet c b a (omega arith) can (r.kept b before can_b);
        }

    module _ (settles : Settles P) (k : ℕ) where
      drain_at : (h : ℕ) → ((c : Configuration State Message) → Flows net c → pending k c < h → Drained k c) →
          (b : ℕ) (c : Configuration State Message) → Flows net c → pending k c ≤ h → P.debt (c.state k) < b → Drained k c
      drain_at h later zero c flows waits owes = absurd (omega arith)
      drain_at h later (suc b) c flows waits owes = go (decide c flows k) (λ d. drain_at h later b d)
        where
          go : ((a : Event Message) × (actor net a ≡ k) × Can P net None c a) ⊎ ((a : Event Message) → actor net a ≡ k → Can P net None c a → ⊥) →
              ((d : Configuration State Message) → Flows net d → pending k d ≤ h → P.debt (d.state k) < b → Drained k d) → Drained k c
          go (inr none) less = record { more = []; end = c; run = refl; flows = flows; done = none; kept = λ a before can. can }
          go (inl (Reads e m, at, can)) less =
              drained_more k c (Reads e m) at can (later (next P net c (Reads e m)) (flows_next P net None c (Reads e m) flows can) (omega (arith, pending_read k c e m at can)))
          go (inl (Writes e m, at, can)) less =
              drained_more k c (Writes e m) at can
              (less (next P net c (Writes e m)) (flows_next P net None c (Writes e m) flows can) (omega (arith, pending_write k c e m at can))
              (rw (updated_at c.state (net.writer e) k (P.wrote (c.state (net.writer e))) (sym at))
              (omega (arith, settles (c.state (net.writer e)) (net.writer_port e) can.1, ap (λ x. P.debt (c.state x)) at))))

      drain_below : (h : ℕ) (c : Configuration State Message) → Flows net c → pending k c < h → Drained k c
      drain_below zero c flows waits = absurd (omega arith)
      drain_below (suc h) c flows waits = drain_at h (drain_below h) (suc (P.debt (c.state k))) c flows (omega arith) (omega arith)

      pub drain : (c : Configuration State Message) → Flows net c → Drained k c
      drain c flows = drain_below (suc (pending k c)) c flows (omega arith)

    -- a run after which the nodes below k can do nothing
    pub record Settled (k : ℕ) (c : Configuration State Message) : Type 0 where
      pub more : List (Event Message)
      pub end : Configuration State Message
      pub run : Run P net None more c end
      pub flows : Flows net end
      pub done : (a : Event Message) → actor net a < k → Can P net None end a → ⊥

    pub settle : Settles P → (k : ℕ) (c : Configuration State Message) → Flows net c → Settled k c
    settle settles zero c flows = record { more = []; end = c; run = refl; flows = flows; done = λ a before can. absurd (omega arith) }
    settle settles (suc k) c flows =
        let below : Settled k c = settle settles k c flows in
        let here : Drained k below.end = drain settles k below.end below.flows in
        record {
          more = below.more ++ here.more;
          end = here.end;
          run = run_then None below.more here.more c below.end here.end below.run here.run;
          flows = here.flows;
          done = λ a before can. go below.end here.end a before can here.kept here.done below.done (cases_eq (actor net a) k);
        }
      where
        go : (d e : Configuration State Message) (a : Event Message) → actor net a < suc k → Can P net None e a →
            ((b : Event Message) → actor net b < k → Can P net None e b → Can P net None d b) →
            ((b : Event Message) → actor net b ≡ k → Can P net None e b → ⊥) → ((b : Event Message) → actor net b < k → Can P net None d b → ⊥) →
            ((actor net a ≡ k) ⊎ (actor net a ≡ k → ⊥)) → ⊥
        go d e a before can kept here below (inl at) = here a at can
        go d e a before can kept here below (inr ne) = below a (omega arith) (kept a (omega arith) can)

    -- where no node can step, edges not being bounded
    pub all_done : (c : Configuration State Message) → ((a : Event Message) → actor net a < net.nodes → Can P net None c a → ⊥) → AtRest P net None c
    all_done c done (Reads e m) can = done (Reads e m) (wired.inside e can.0) can
    all_done c done (Writes e m) can = done (Writes e m) (let a : net.writer e < net.reader e = wired.forward e can.0 in let b : net.reader e < net.nodes = wired.inside e can.0 in omega arith) can

  -- a step where edges are bounded is a step where they are not
  pub unbounded : (limit : Option ℕ) (c : Configuration State Message) (a : Event Message) → Can P net limit c a → Can P net None c a
  unbounded limit c (Reads e m) can = can
  unbounded limit c (Writes e m) (inside, wants, is, room) = (inside, wants, is, tt)

  pub unbounded_run : (limit : Option ℕ) (events : List (Event Message)) (c d : Configuration State Message) → Run P net limit events c d → Run P net None events c d
  unbounded_run limit [] c d same = same
  unbounded_run limit (a ∷ more) c d (can, run) = (unbounded limit c a can, unbounded_run limit more (next P net c a) d run)

  module _ (wired : IsWired net) (settles : Settles P) where
    -- how many events are still to come at most, where edges are not bounded
    pub all_events : (c : Configuration State Message) → Flows net c → (events : List (Event Message)) × (end : Configuration State Message) × Maximal P net None events c end
    all_events c flows =
        let all : Settled wired net.nodes c = settle wired settles net.nodes c flows in
        (all.more, all.end, record { run = all.run; rest = all_done wired all.end all.done })

    -- no run from c has more events
    unfoldable pub most_events : (c : Configuration State Message) → Flows net c → ℕ
    most_events c flows = length (all_events c flows).0

    pub run_most : (limit : Option ℕ) (events : List (Event Message)) (c d : Configuration State Message) (flows : Flows net c) → Run P net limit events c d → length events ≤ most_events c flows
    unfolding most_events
    run_most limit events c d flows run =
        let all : (more : List (Event Message)) × (end : Configuration State Message) × Maximal P net None more c end = all_events c flows in
        let then : (left : List (Event Message)) × Run P net None left d all.1 × (length all.0 ≡ length events + length left) =
        goes_on P net wired None events all.0 c d all.1 all.2.run all.2.rest (unbounded_run limit events c d run) in
        omega (arith, then.2)

    pub left_of : (c : Configuration State Message) → Flows net c → ℕ
    left_of c flows = length (all_events c flows).0

    -- each run is at most that long, and leaves just so many
    pub falls_by : (limit : Option ℕ) (events : List (Event Message)) (c d : Configuration State Message) (flows : Flows net c)
        (flows_d : Flows net d) → Run P net limit events c d → left_of c flows ≡ length events + left_of d flows_d
    unfolding left_of
    falls_by limit events c d flows flows_d run =
        let all_c : (more : List (Event Message)) × (end : Configuration State Message) × Maximal P net None more c end = all_events c flows in
        let all_d : (more : List (Event Message)) × (end : Configuration State Message) × Maximal P net None more d end = all_events d flows_d in
        let then : (left : List (Event Message)) × Run P net None left d all_c.1 × (length all_c.0 ≡ length events + length left) =
        goes_on P net wired None events all_c.0 c d all_c.1 all_c.2.run all_c.2.rest (unbounded_run limit events c d run) in
        let same : length then.0 ≡ length all_d.0 = lengths d then.0 all_c.1 then.1 all_c.2.rest all_d.0 all_d.1 all_d.2.run all_d.2.rest in
        omega (arith, then.2, same)
      where
        lengths : (d : Configuration State Message) (one : List (Event Message)) (e : Configuration State Message) → Run P net None one d e →
            AtRest P net None e → (two : List (Event Message)) (f : Configuration State Message) → Run P net None two d f → AtRest P net None f →
            length one ≡ length two
        lengths d one e run_e rest_e two f run_f rest_f =
            let a : (left : List (Event Message)) × Run P net None left e f × (length two ≡ length one + length left) = goes_on P net wired None one two d e f run_f rest_f run_e in
            let b : (left : List (Event Message)) × Run P net None left f e × (length one ≡ length two + length left) = goes_on P net wired None two one d f e run_e rest_e run_f in
            omega (arith, a.2, b.2)
