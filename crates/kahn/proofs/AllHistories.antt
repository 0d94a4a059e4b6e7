-- The own histories of all nodes together are one run of the network: the nodes make them one after another, in
-- the order of their numbers.
use Rattle.std.proofs.Common.{◌≡◌, ℕ, zero, suc, ◌+◌, ◌-◌, ◌<◌, ◌≤◌, Bool, true, false, ◌&&◌, cond, eqb, ltb, Option, List, [], ◌++◌, length, ◌⊎◌}
use Rattle.std.proofs.Common.{refl, sym, ◌∙◌, ap, ap₂, subst, inl, inr, arith, append-nil, lt-ltb}
use Rattle.std.proofs.lemmas.Bool.{cases_lt, cases_order, cond-true, cond-false, le-ltb, ltb-true, eqb-true}
use Rattle.kahn.specs.Basics.{Begins, total, updated}
use Rattle.kahn.specs.Processes.{Process, Event, Does, reads, writes}
use Rattle.kahn.specs.Networks.{Network, IsWired, AllLawful}
use Rattle.kahn.specs.Configurations.{Configuration, moved}
use Rattle.kahn.specs.Runs.{Run, Reaches}
use Rattle.kahn.specs.HistoryTheorems.{MayHold, on_edges, after_history, after_histories, IsOwnRun, AllHistoriesAreOneRun}
use Rattle.kahn.proofs.Basics.{updated_at, updated_other, begins_more, begins_trans}
use Rattle.kahn.proofs.Finite.{run_then}
use Rattle.kahn.proofs.Histories.{extended_same, histories_are_runs}

module _ {X : Type 0} (f g : ℕ → X) where
  -- g below n, and f from n on
  abbrev joined : ℕ → ℕ → X
  joined n k = cond (ltb k n) (g k) (f k)

  joined_below : (n k : ℕ) → k < n → joined n k ≡ g k
  joined_below n k below = cond-true (ltb k n) (g k) (f k) (lt-ltb k n below)

  joined_above : (n k : ℕ) → n ≤ k → joined n k ≡ f k
  joined_above n k above = cond-false (ltb k n) (g k) (f k) (le-ltb k n above)

  -- one number more at which it is g
  joined_next : (n : ℕ) → updated (joined n) n (g n) ≡ joined (suc n)
  joined_next n = λ i k. each k (cases_order k n) i
    where
      each : (k : ℕ) → ((k ≡ n) ⊎ ((k < n) ⊎ (n < k))) → updated (joined n) n (g n) k ≡ joined (suc n) k
      each k (inl same) = updated_at (joined n) n k (g n) same ∙ ap g (sym same) ∙ sym (joined_below (suc n) k (omega arith))
      each k (inr (inl below)) = updated_other (joined n) n k (g n) (λ same. omega arith) ∙ joined_below n k below ∙ sym (joined_below (suc n) k (omega arith))
      each k (inr (inr above)) = updated_other (joined n) n k (g n) (λ same. omega arith) ∙ joined_above n k (omega arith) ∙ sym (joined_above (suc n) k (omega arith))

module _ {X : Type 0} where
  -- a list that gets nothing more is the same
  same_list : (b : Bool) (xs ys : List X) → ys ≡ [] → cond b (xs ++ ys) xs ≡ xs
  same_list true xs ys none = ap (λ l. xs ++ l) none ∙ append-nil xs
  same_list false xs ys none = refl

  -- a beginning stays one of a list that grows
  still_begins : (b : Bool) (xs zs more : List X) → Begins xs zs → Begins xs (cond b (zs ++ more) zs)
  still_begins true xs zs more begins = begins_more xs zs more begins
  still_begins false xs zs more begins = begins

  -- the first part of a beginning is one
  begins_first : (xs more zs : List X) → Begins (xs ++ more) zs → Begins xs zs
  begins_first xs more zs begins = begins_trans xs (xs ++ more) zs (more, refl) begins

-- what an end of an edge that is mine gets later is what it gets at once, if it got nothing before
later : {X Y : Type 0} (inside mine : Bool) (xs : List Y) (of : X → List Y) (h g : X) → (mine ≡ true → of h ≡ []) →
    cond (inside && mine) (cond inside (xs ++ of h) xs ++ of g) (cond inside (xs ++ of h) xs) ≡ cond inside (xs ++ of (cond mine g h)) xs
later true true xs of h g none = ap (λ l. l ++ of g) (ap (λ l. xs ++ l) (none refl) ∙ append-nil xs)
later true false xs of h g none = refl
later false mine xs of h g none = refl

module _ {State Message : Type 0} (net : Network State) (c : Configuration State Message) where
  -- nodes that make their histories, and then node n, which made none, are these nodes and n at once
  and_then : (h : ℕ → List (Event Message)) (t : ℕ → State) (n : ℕ) (g : List (Event Message)) (s : State) → h n ≡ [] →
      after_history net (after_histories net c h t) n g s ≡ after_histories net c (updated h n g) (updated t n s)
  and_then h t n g s none = λ i. record {
    state = updated t n s;
    sent = λ e. later (ltb e net.edges) (eqb (net.writer e) n) (c.sent e) (writes (net.writer_port e)) (h (net.writer e)) g (λ at. ap (writes (net.writer_port e)) (empty (net.writer e) at)) i;
    received = λ e. later (ltb e net.edges) (eqb (net.reader e) n) (c.received e) (reads (net.reader_port e)) (h (net.reader e)) g (λ at. ap (reads (net.reader_port e)) (empty (net.reader e) at)) i;
  }
    where
      empty : (k : ℕ) → eqb k n ≡ true → h k ≡ []
      empty k at = ap h (eqb-true k n at) ∙ none

  module _ (h : ℕ → List (Event Message)) (t : ℕ → State) where
    -- after the nodes below n made their histories
    abbrev so_far : ℕ → Configuration State Message
    so_far n = after_histories net c (joined (λ k. []) h n) (joined c.state t n)

    next_is : (n : ℕ) → after_history net (so_far n) n (h n) (t n) ≡ so_far (suc n)
    next_is n =
        and_then (joined (λ k. []) h n) (joined c.state t n) n (h n) (t n) (joined_above (λ k. []) h n n (omega arith))
        ∙ ap₂ (λ g s. after_histories net c g s) (joined_next (λ k. []) h n) (joined_next c.state t n)

    -- the nodes from n on wrote and read nothing yet
    sent_is : (n e : ℕ) → n ≤ net.writer e → (so_far n).sent e ≡ c.sent e
    sent_is n e above = same_list (ltb e net.edges) (c.sent e) _ (ap (writes (net.writer_port e)) (joined_above (λ k. []) h n (net.writer e) above))

    received_is : (n e : ℕ) → n ≤ net.reader e → (so_far n).received e ≡ c.received e
    received_is n e above = same_list (ltb e net.edges) (c.received e) _ (ap (reads (net.reader_port e)) (joined_above (λ k. []) h n (net.reader e) above))

    -- before any node and after all of them
    at_first : c ≡ so_far 0
    at_first = λ i. record {
      state = λ k. sym (joined_above c.state t 0 k (omega arith)) i;
      sent = λ e. sym (sent_is 0 e (omega arith)) i;
      received = λ e. sym (received_is 0 e (omega arith)) i;
    }

    at_last : IsWired net → ((k : ℕ) → net.nodes ≤ k → t k ≡ c.state k) → so_far net.nodes ≡ after_histories net c h t
    at_last wired others = λ i. record {
      state = λ k. state k (cases_lt k net.nodes) i;
      sent = extended_same (λ e. ltb e net.edges) c.sent c.sent _ _
          (λ e inside. ap (λ g. c.sent e ++ writes (net.writer_port e) g) (made (net.writer e) (writer_inside e (ltb-true e net.edges inside))))
          (λ e outside. refl) i;
      received = extended_same (λ e. ltb e net.edges) c.received c.received _ _
          (λ e inside. ap (λ g. c.received e ++ reads (net.reader_port e) g) (made (net.reader e) (wired.inside e (ltb-true e net.edges inside))))
          (λ e outside. refl) i;
    }
      where
        made : (k : ℕ) → k < net.nodes → joined (λ j. []) h net.nodes k ≡ h k
        made k node = joined_below (λ j. []) h net.nodes k node

        writer_inside : (e : ℕ) → e < net.edges → net.writer e < net.nodes
        writer_inside e inside = omega (arith, wired.forward e inside, wired.inside e inside)

        state : (k : ℕ) → ((k < net.nodes) ⊎ (net.nodes ≤ k)) → joined c.state t net.nodes k ≡ t k
        state k (inl node) = joined_below c.state t net.nodes k node
        state k (inr other) = joined_above c.state t net.nodes k other ∙ sym (others k other)

module _ {State Message : Type 0} (P : Process State Message) (net : Network State) (wired : IsWired net) (lawful : AllLawful P net)
    (limit : Option ℕ) (c : Configuration State Message) (before h : ℕ → List (Event Message)) (t : ℕ → State) where
  module _ (from : (k : ℕ) → k < net.nodes → Does P (net.opening k) (before k) (c.state k))
      (does : (k : ℕ) → k < net.nodes → Does P (c.state k) (h k) (t k))
      (had : (e : ℕ) → e < net.edges → Begins (c.received e ++ reads (net.reader_port e) (h (net.reader e))) (c.sent e))
      (room : (e : ℕ) → e < net.edges → MayHold limit (length (c.sent e ++ writes (net.writer_port e) (h (net.writer e))) - length (c.received e)))
    where
      -- what node n reads had been sent to it, also after the nodes below n
      has_sent : (n e : ℕ) → e < net.edges → net.reader e ≡ n → Begins ((so_far net c h t n).received e ++ reads (net.reader_port e) (h n)) ((so_far net c h t n).sent e)
      has_sent n e inside at =
          let still : (so_far net c h t n).received e ≡ c.received e = received_is net c h t n e (omega arith) in
          let begins : Begins (c.received e ++ reads (net.reader_port e) (h n)) (c.sent e) = subst (λ k. Begins (c.received e ++ reads (net.reader_port e) (h k)) (c.sent e)) at (had e inside) in
          still_begins (ltb e net.edges) _ (c.sent e) _ (subst (λ l. Begins (l ++ reads (net.reader_port e) (h n)) (c.sent e)) (sym still) begins)

      -- what it writes finds room, also after the nodes below n: none of them is at an edge from n
      finds_room : (n e : ℕ) → e < net.edges → net.writer e ≡ n → Begins ((so_far net c h t n).received e) ((so_far net c h t n).sent e)
          × MayHold limit (length ((so_far net c h t n).sent e ++ writes (net.writer_port e) (h n)) - length ((so_far net c h t n).received e))
      finds_room n e inside at =
          let forward : net.writer e < net.reader e = wired.forward e inside in
          let sent : (so_far net c h t n).sent e ≡ c.sent e = sent_is net c h t n e (omega arith) in
          let received : (so_far net c h t n).received e ≡ c.received e = received_is net c h t n e (omega arith) in
          let fits : MayHold limit (length (c.sent e ++ writes (net.writer_port e) (h n)) - length (c.received e)) =
          subst (λ k. MayHold limit (length (c.sent e ++ writes (net.writer_port e) (h k)) - length (c.received e))) at (room e inside) in (
            still_begins (ltb e net.edges) _ (c.sent e) _ (subst (λ l. Begins l (c.sent e)) (sym received) (begins_first (c.received e) _ (c.sent e) (had e inside))),
            subst (λ l. MayHold limit (length (l ++ writes (net.writer_port e) (h n)) - length ((so_far net c h t n).received e))) (sym sent)
                (subst (λ l. MayHold limit (length (c.sent e ++ writes (net.writer_port e) (h n)) - length l)) (sym received) fits),
          )

      -- node n makes its history after the nodes below n
      own_run : (n : ℕ) → n < net.nodes → IsOwnRun P net limit (so_far net c h t n) n (h n) (t n)
      own_run n node =
          let still : c.state n ≡ (so_far net c h t n).state n = sym (joined_above c.state t n n (omega arith)) in
          histories_are_runs P net wired lawful limit (so_far net c h t n) n (before n) (h n) (t n) node
          (subst (λ s. Does P (net.opening n) (before n) s) still (from n node))
          (subst (λ s. Does P s (h n) (t n)) still (does n node))
          (has_sent n) (finds_room n)

      -- the nodes below n, one after another
      run_so_far : (n : ℕ) → n ≤ net.nodes → Reaches P net limit c (so_far net c h t n) × (moved net (so_far net c h t n) ≡ moved net c + total (λ k. length (h k)) n)
      run_so_far zero inside = (([], at_first net c h t), omega (arith, ap (λ d. moved net d) (at_first net c h t)))
      run_so_far (suc n) inside =
          let ((events, run), count) = run_so_far n (omega arith) in
          let own : IsOwnRun P net limit (so_far net c h t n) n (h n) (t n) = own_run n (omega arith) in
          let all : Run P net limit (events ++ on_edges net n (h n)) c (after_history net (so_far net c h t n) n (h n) (t n)) =
          run_then P net limit events (on_edges net n (h n)) c (so_far net c h t n) _ run own.run in (
            (events ++ on_edges net n (h n), subst (λ d. Run P net limit (events ++ on_edges net n (h n)) c d) (next_is net c h t n) all),
            omega (arith, count, own.moved, ap (λ d. moved net d) (next_is net c h t n)),
          )

module _ {State Message : Type 0} (P : Process State Message) (net : Network State) where
  pub all_histories_are_one_run : IsWired net → AllLawful P net → AllHistoriesAreOneRun P net
  all_histories_are_one_run wired lawful limit c before h t from does others had room =
      let all : Reaches P net limit c (so_far net c h t net.nodes)
      × (moved net (so_far net c h t net.nodes) ≡ moved net c + total (λ k. length (h k)) net.nodes) =
      run_so_far P net wired lawful limit c before h t from does had room net.nodes (omega arith) in
      subst (λ d. Reaches P net limit c d × (moved net d ≡ moved net c + total (λ k. length (h k)) net.nodes)) (at_last net c h t wired others) all
