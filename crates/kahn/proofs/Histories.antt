-- The own history of one node is a run of the network.
use Rattle.std.proofs.Common.{◌≡◌, ℕ, suc, ◌-◌, ◌<◌, ◌≤◌, Bool, true, false, cond, eqb, ltb, Option, Some, None, List, [], ◌∷◌, ◌++◌, length, ◌⊎◌}
use Rattle.std.proofs.Common.{refl, sym, ◌∙◌, ap, subst, inl, inr, arith, append-nil, append_assoc, length-append, eq-eqb, ne_eqb, lt-ltb}
use Rattle.std.proofs.lemmas.Bool.{cases_eq, and_from, and_parts, ltb-true, eqb-true}
use Rattle.kahn.specs.declared.want.Want.TheVariants.{Read, Write}
use Rattle.kahn.specs.Basics.{updated, Begins}
use Rattle.kahn.specs.Processes.{Process, Event, Reads, Writes, Does, reads, writes}
use Rattle.kahn.specs.Networks.{Network, IsWired, AllLawful, AllBy}
use Rattle.kahn.specs.Configurations.{Configuration}
use Rattle.kahn.specs.Runs.{Can, next, Run, HasRoom}
use Rattle.kahn.specs.HistoryTheorems.{MayHold, extended, goes_in, comes_out, on_edges, after_history, HistoriesAreRuns}
use Rattle.kahn.proofs.Basics.{updated_at, updated_other, begins_more}
use Rattle.kahn.proofs.History.{does_then}
use Rattle.kahn.proofs.Traffic.{moved_run}

-- where it may hold what was sent after one more, there was room for that one
room_for : (limit : Option ℕ) (sent received after : ℕ) → received ≤ sent → suc sent ≤ after → MayHold limit (after - received) → HasRoom limit (sent - received)
room_for None sent received after had more fits = tt
room_for (Some capacity) sent received after had more fits = omega arith

-- a function that changes twice at one number
updated_twice : {X : Type 0} (f : ℕ → X) (k i : ℕ) (x y : X) → i ≡ k → updated (updated f i x) k y ≡ updated f k y
updated_twice f k i x y at = λ t j. each j t
  where
    each : (j : ℕ) → updated (updated f i x) k y j ≡ updated f k y j
    each j = go (cases_eq j k)
      where
        go : ((j ≡ k) ⊎ (j ≡ k → ⊥)) → updated (updated f i x) k y j ≡ updated f k y j
        go (inl same) = updated_at (updated f i x) k j y same ∙ sym (updated_at f k j y same)
        go (inr other) = updated_other (updated f i x) k j y other ∙ updated_other f i j x (λ h. other (h ∙ at)) ∙ sym (updated_other f k j y other)

updated_none : {X : Type 0} (f : ℕ → X) (k : ℕ) (x : X) → f k ≡ x → f ≡ updated f k x
updated_none f k x is = λ t j. each j t
  where
    each : (j : ℕ) → f j ≡ updated f k x j
    each j = go (cases_eq j k)
      where
        go : ((j ≡ k) ⊎ (j ≡ k → ⊥)) → f j ≡ updated f k x j
        go (inl same) = ap f same ∙ is ∙ sym (updated_at f k j x same)
        go (inr other) = sym (updated_other f k j x other)

module _ {Message : Type 0} where
  -- one message and then the rest, or the rest at once
  grown : (lists : ℕ → List Message) (e f : ℕ) (m : Message) (p q : ℕ) (rest : List Message) → (f ≡ e → q ≡ p) → (q ≡ p → f ≡ e) →
      updated lists e (lists e ++ m ∷ []) f ++ rest ≡ lists f ++ cond (eqb q p) (m ∷ rest) rest
  grown lists e f m p q rest to from = go (cases_eq f e)
    where
      go : ((f ≡ e) ⊎ (f ≡ e → ⊥)) → updated lists e (lists e ++ m ∷ []) f ++ rest ≡ lists f ++ cond (eqb q p) (m ∷ rest) rest
      go (inl same) = rw (updated_at lists e f (lists e ++ m ∷ []) same, eq-eqb q p (to same), same) (append_assoc (lists e) (m ∷ []) rest)
      go (inr other) = rw (updated_other lists e f (lists e ++ m ∷ []) other, ne_eqb q p (λ h. other (from h)))

  extended_none : (own : ℕ → Bool) (lists : ℕ → List Message) → lists ≡ extended own lists (λ e. [])
  extended_none own lists = λ t e. each e (own e) t
    where
      each : (e : ℕ) (b : Bool) → lists e ≡ cond b (lists e ++ []) (lists e)
      each e true = sym (append-nil (lists e))
      each e false = refl

  -- lists that agree at my own edges once they are extended, and elsewhere as they are
  pub extended_same : (own : ℕ → Bool) (lists lists' more more' : ℕ → List Message) →
      ((e : ℕ) → own e ≡ true → lists e ++ more e ≡ lists' e ++ more' e) → ((e : ℕ) → own e ≡ false → lists e ≡ lists' e) → extended own lists more
      ≡ extended own lists' more'
  extended_same own lists lists' more more' mine others = λ t e. each e (own e) (mine e) (others e) t
    where
      each : (e : ℕ) (b : Bool) → (b ≡ true → lists e ++ more e ≡ lists' e ++ more' e) → (b ≡ false → lists e ≡ lists' e) →
          cond b (lists e ++ more e) (lists e) ≡ cond b (lists' e ++ more' e) (lists' e)
      each e true here away = here refl
      each e false here away = away refl

module _ {State Message : Type 0} (P : Process State Message) (net : Network State) (wired : IsWired net) (k : ℕ) where
  -- what is known of an edge that goes to the node, or comes from it
  at_in : (e : ℕ) → goes_in net k e ≡ true → (e < net.edges) × (net.reader e ≡ k)
  at_in e mine = let both : (ltb e net.edges ≡ true) × (eqb (net.reader e) k ≡ true) = and_parts _ _ mine in (ltb-true e net.edges both.0, eqb-true (net.reader e) k both.1)

  at_out : (e : ℕ) → comes_out net k e ≡ true → (e < net.edges) × (net.writer e ≡ k)
  at_out e mine = let both : (ltb e net.edges ≡ true) × (eqb (net.writer e) k ≡ true) = and_parts _ _ mine in (ltb-true e net.edges both.0, eqb-true (net.writer e) k both.1)

  away_in : (e f : ℕ) → f < net.edges → net.reader f ≡ k → goes_in net k e ≡ false → e ≡ f → ⊥
  away_in e f inside at away same =
      absurd (let a : goes_in net k e ≡ true = and_from _ _ (lt-ltb e net.edges (omega arith)) (eq-eqb (net.reader e) k (ap net.reader same ∙ at)) in
      let b : true ≡ false = sym a ∙ away in cc)

  away_out : (e f : ℕ) → f < net.edges → net.writer f ≡ k → comes_out net k e ≡ false → e ≡ f → ⊥
  away_out e f inside at away same =
      absurd (let a : comes_out net k e ≡ true = and_from _ _ (lt-ltb e net.edges (omega arith)) (eq-eqb (net.writer e) k (ap net.writer same ∙ at)) in
      let b : true ≡ false = sym a ∙ away in cc)

  -- no edge goes to the node and comes from it
  apart : (e f : ℕ) → f < net.edges → net.reader e ≡ k → net.writer f ≡ k → f ≡ e → ⊥
  apart e f inside to from same = let a : net.writer f < net.reader f = wired.forward f inside in absurd (omega (arith, ap net.reader same))

  -- what it reads had been sent to it
  abbrev HasSent : Configuration State Message → List (Event Message) → Type 0
  HasSent c h = (e : ℕ) → e < net.edges → net.reader e ≡ k → Begins (c.received e ++ reads (net.reader_port e) h) (c.sent e)

  -- what it writes finds room
  abbrev FindsRoom : Option ℕ → Configuration State Message → List (Event Message) → Type 0
  FindsRoom limit c h = (e : ℕ) → e < net.edges → net.writer e ≡ k → Begins (c.received e) (c.sent e) × MayHold limit (length (c.sent e ++ writes (net.writer_port e) h) - length (c.received e))

  module _ (limit : Option ℕ) (c : Configuration State Message) (e : ℕ) (inside : e < net.edges) (m : Message) (h : List (Event Message)) (t : State) where
    -- a read at the edge, and the rest of the history
    module _ (p : ℕ) (at : net.reader e ≡ k) (port : net.reader_port e ≡ p) where
      read_grown : (f : ℕ) → f < net.edges → net.reader f ≡ k → updated c.received e (c.received e ++ m ∷ []) f ++ reads (net.reader_port f) h
          ≡ c.received f ++ reads (net.reader_port f) (Reads p m ∷ h)
      read_grown f inside_f at_f =
          grown c.received e f m p (net.reader_port f) (reads (net.reader_port f) h) (λ same. ap net.reader_port same ∙ port)
          (λ same. wired.one_in f e inside_f inside (at_f ∙ sym at) (same ∙ sym port))

      read_sent : HasSent c (Reads p m ∷ h) → HasSent (next P net c (Reads e m)) h
      read_sent sent f inside_f at_f = subst (λ l. Begins l (c.sent f)) (sym (read_grown f inside_f at_f)) (sent f inside_f at_f)

      read_room : FindsRoom limit c (Reads p m ∷ h) → FindsRoom limit (next P net c (Reads e m)) h
      read_room room f inside_f at_f = rw (updated_other c.received e f (c.received e ++ m ∷ []) (apart e f inside_f at at_f)) (room f inside_f at_f)

      read_after : after_history net (next P net c (Reads e m)) k h t ≡ after_history net c k (Reads p m ∷ h) t
      read_after = λ i. record {
        state = updated_twice c.state k (net.reader e) (P.read (c.state (net.reader e)) m) t at i;
        sent = extended (comes_out net k) c.sent (λ f. writes (net.writer_port f) h);
        received = extended_same (goes_in net k) (updated c.received e (c.received e ++ m ∷ [])) c.received (λ f. reads (net.reader_port f) h) (λ f. reads (net.reader_port f) (Reads p m ∷ h))
            (λ f mine. read_grown f (at_in f mine).0 (at_in f mine).1)
            (λ f away. updated_other c.received e f (c.received e ++ m ∷ []) (away_in f e inside at away)) i;
      }

      read_can : P.want (c.state k) ≡ Read p → HasSent c (Reads p m ∷ h) → Can P net limit c (Reads e m)
      read_can wants sent =
          let whole : Begins (c.received e ++ m ∷ reads (net.reader_port e) h) (c.sent e) =
          subst (λ b. Begins (c.received e ++ cond b (m ∷ reads (net.reader_port e) h) (reads (net.reader_port e) h)) (c.sent e))
          (eq-eqb (net.reader_port e) p port) (sent e inside at) in
          let more : List Message = reads (net.reader_port e) h in (
            inside,
            ap (λ x. P.want (c.state x)) at ∙ wants ∙ ap Read (sym port),
            (more ++ whole.0, append_assoc (c.received e) (m ∷ []) (more ++ whole.0) ∙ sym (append_assoc (c.received e) (m ∷ more) whole.0) ∙ whole.1),
          )

    -- a write to the edge, and the rest of the history
    module _ (q : ℕ) (at : net.writer e ≡ k) (port : net.writer_port e ≡ q) where
      write_grown : (f : ℕ) → f < net.edges → net.writer f ≡ k → updated c.sent e (c.sent e ++ m ∷ []) f ++ writes (net.writer_port f) h ≡ c.sent f ++ writes (net.writer_port f) (Writes q m ∷ h)
      write_grown f inside_f at_f =
          grown c.sent e f m q (net.writer_port f) (writes (net.writer_port f) h) (λ same. ap net.writer_port same ∙ port)
          (λ same. wired.one_out f e inside_f inside (at_f ∙ sym at) (same ∙ sym port))

      write_sent : HasSent c (Writes q m ∷ h) → HasSent (next P net c (Writes e m)) h
      write_sent sent f inside_f at_f = rw (updated_other c.sent e f (c.sent e ++ m ∷ []) (λ same. apart f e inside at_f at (sym same))) (sent f inside_f at_f)

      still_begins : (f : ℕ) → Begins (c.received f) (c.sent f) → Begins (c.received f) (updated c.sent e (c.sent e ++ m ∷ []) f)
      still_begins f some = go (cases_eq f e)
        where
          go : ((f ≡ e) ⊎ (f ≡ e → ⊥)) → Begins (c.received f) (updated c.sent e (c.sent e ++ m ∷ []) f)
          go (inl same) = rw (updated_at c.sent e f (c.sent e ++ m ∷ []) same, ← same) (begins_more (c.received f) (c.sent f) (m ∷ []) some)
          go (inr other) = rw (updated_other c.sent e f (c.sent e ++ m ∷ []) other) some

      write_room : FindsRoom limit c (Writes q m ∷ h) → FindsRoom limit (next P net c (Writes e m)) h
      write_room room f inside_f at_f = (
        still_begins f (room f inside_f at_f).0,
        subst (λ l. MayHold limit (length l - length (c.received f))) (sym (write_grown f inside_f at_f)) (room f inside_f at_f).1,
      )

      write_after : after_history net (next P net c (Writes e m)) k h t ≡ after_history net c k (Writes q m ∷ h) t
      write_after = λ i. record {
        state = updated_twice c.state k (net.writer e) (P.wrote (c.state (net.writer e))) t at i;
        sent = extended_same (comes_out net k) (updated c.sent e (c.sent e ++ m ∷ [])) c.sent (λ f. writes (net.writer_port f) h) (λ f. writes (net.writer_port f) (Writes q m ∷ h))
            (λ f mine. write_grown f (at_out f mine).0 (at_out f mine).1)
            (λ f away. updated_other c.sent e f (c.sent e ++ m ∷ []) (away_out f e inside at away)) i;
        received = extended (goes_in net k) c.received (λ f. reads (net.reader_port f) h);
      }

      write_can : P.want (c.state k) ≡ Write q → P.written (c.state k) ≡ m → FindsRoom limit c (Writes q m ∷ h) → Can P net limit c (Writes e m)
      write_can wants is room =
          let (some, fits) = room e inside at in
          let whole : MayHold limit (length (c.sent e ++ m ∷ writes (net.writer_port e) h) - length (c.received e)) =
          subst (λ b. MayHold limit
          (length (c.sent e ++ cond b (m ∷ writes (net.writer_port e) h) (writes (net.writer_port e) h)) - length (c.received e)))
          (eq-eqb (net.writer_port e) q port) fits in (
            inside,
            ap (λ x. P.want (c.state x)) at ∙ wants ∙ ap Write (sym port),
            ap (λ x. P.written (c.state x)) at ∙ is,
            room_for limit (length (c.sent e)) (length (c.received e)) (length (c.sent e ++ m ∷ writes (net.writer_port e) h))
                (omega (arith, ap length some.1, length-append (c.received e) some.0))
                (omega (arith, length-append (c.sent e) (m ∷ writes (net.writer_port e) h)))
                whole,
          )

  module _ (lawful : AllLawful P net) (limit : Option ℕ) (node : k < net.nodes) where
    run_of : (h : List (Event Message)) (c : Configuration State Message) (before : List (Event Message)) (t : State) →
        Does P (net.opening k) before (c.state k) → Does P (c.state k) h t → HasSent c h → FindsRoom limit c h →
        Run P net limit (on_edges net k h) c (after_history net c k h t)
    run_of [] c before t from same sent room = λ i. record {
      state = updated_none c.state k t same i;
      sent = extended_none (comes_out net k) c.sent i;
      received = extended_none (goes_in net k) c.received i;
    }
    run_of (Reads p m ∷ h) c before t from (wants, does) sent room =
        let (inside, at, port) = wired.in_edge k p node ((lawful k node).in_port before (c.state k) p from wants) in
        let e : ℕ = net.in_edge k p in
        let d : Configuration State Message = next P net c (Reads e m) in
        let is : d.state k ≡ P.read (c.state k) m = updated_at c.state (net.reader e) k (P.read (c.state (net.reader e)) m) (sym at) ∙ ap (λ x. P.read (c.state x) m) at in (
          read_can limit c e inside m h t p at port wants sent,
          subst (λ r. Run P net limit (on_edges net k h) d r) (read_after limit c e inside m h t p at port)
              (run_of h d (before ++ Reads p m ∷ []) t
              (does_then P (net.opening k) (c.state k) (d.state k) before (Reads p m ∷ []) from (wants, sym is))
              (subst (λ s. Does P s h t) (sym is) does)
              (read_sent limit c e inside m h t p at port sent)
              (read_room limit c e inside m h t p at port room)),
        )
    run_of (Writes q m ∷ h) c before t from (wants, made, does) sent room =
        let (inside, at, port) = wired.out_edge k q node ((lawful k node).out_port before (c.state k) q from wants) in
        let e : ℕ = net.out_edge k q in
        let d : Configuration State Message = next P net c (Writes e m) in
        let is : d.state k ≡ P.wrote (c.state k) = updated_at c.state (net.writer e) k (P.wrote (c.state (net.writer e))) (sym at) ∙ ap (λ x. P.wrote (c.state x)) at in (
          write_can limit c e inside m h t q at port wants made room,
          subst (λ r. Run P net limit (on_edges net k h) d r) (write_after limit c e inside m h t q at port)
              (run_of h d (before ++ Writes q m ∷ []) t
              (does_then P (net.opening k) (c.state k) (d.state k) before (Writes q m ∷ []) from (wants, made, sym is))
              (subst (λ s. Does P s h t) (sym is) does)
              (write_sent limit c e inside m h t q at port sent)
              (write_room limit c e inside m h t q at port room)),
        )

    own_of : (h before : List (Event Message)) (s t : State) → Does P (net.opening k) before s → Does P s h t → AllBy net (λ n. n ≡ k) (on_edges net k h)
    own_of [] before s t from does = tt
    own_of (Reads p m ∷ h) before s t from (wants, does) = (
      (wired.in_edge k p node ((lawful k node).in_port before s p from wants)).1,
      own_of h (before ++ Reads p m ∷ []) (P.read s m) t (does_then P (net.opening k) s (P.read s m) before (Reads p m ∷ []) from (wants, refl)) does,
    )
    own_of (Writes q m ∷ h) before s t from (wants, made, does) = (
      (wired.out_edge k q node ((lawful k node).out_port before s q from wants)).1,
      own_of h (before ++ Writes q m ∷ []) (P.wrote s) t (does_then P (net.opening k) s (P.wrote s) before (Writes q m ∷ []) from (wants, made, refl)) does,
    )

  count_of : (h : List (Event Message)) → length (on_edges net k h) ≡ length h
  count_of [] = refl
  count_of (Reads p m ∷ h) = ap suc (count_of h)
  count_of (Writes q m ∷ h) = ap suc (count_of h)

module _ {State Message : Type 0} (P : Process State Message) (net : Network State) where
  pub histories_are_runs : IsWired net → AllLawful P net → HistoriesAreRuns P net
  histories_are_runs wired lawful limit c k before h t node from does sent room =
      let run : Run P net limit (on_edges net k h) c (after_history net c k h t) = run_of P net wired k lawful limit node h c before t from does sent room in
      record {
        own = own_of P net wired k lawful limit node h before (c.state k) t from does;
        count = count_of P net wired k h;
        run = run;
        moved = omega (arith, moved_run P net limit (on_edges net k h) c (after_history net c k h t) run, count_of P net wired k h);
      }
