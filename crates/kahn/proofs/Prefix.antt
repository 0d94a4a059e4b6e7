-- Whatever the schedule, each node does a beginning of what it does where nothing bounds the edges.
use Rattle.std.proofs.Common.{append-nil, ◌≡◌, ℕ, zero, suc, ◌<◌, None, List, [], ◌∷◌, ◌++◌, length, ◌⊎◌, refl, sym, ◌∙◌, ap, subst, inl, inr, arith, append_assoc, length-append, eq-eqb, ne_eqb}
use Rattle.std.proofs.lemmas.Bool.{cases_eq}
use Rattle.kahn.specs.declared.want.Want.TheVariants.{Read, Write, Ended, Faulted}
use Rattle.snesl_data.specs.declared.fault.Fault.{Fault}
use Rattle.kahn.specs.Basics.{Begins}
use Rattle.kahn.specs.Processes.{IsLawfulProcess, Process, Event, Reads, Writes, Does, reads, writes}
use Rattle.kahn.specs.Networks.{Network, IsWired, AllLawful}
use Rattle.kahn.specs.Configurations.{Configuration, IsSound, NoneFaulted, AllEnded}
use Rattle.kahn.specs.Runs.{AtRest}
use Rattle.kahn.proofs.Basics.{begins_trans}
use Rattle.kahn.proofs.History.{reads_append, writes_append}

module _ {Message : Type 0} (p q : ℕ) (m : Message) (h : List (Event Message)) where
  pub reads_first : p ≡ q → reads p (Reads q m ∷ h) ≡ m ∷ reads p h
  reads_first e = rw (eq-eqb p q e)

  pub writes_first : p ≡ q → writes p (Writes q m ∷ h) ≡ m ∷ writes p h
  writes_first e = rw (eq-eqb p q e)

  pub writes_later : (p ≡ q → ⊥) → writes p (Writes q m ∷ h) ≡ writes p h
  writes_later ne = rw (ne_eqb p q ne)

  pub reads_later : (p ≡ q → ⊥) → reads p (Reads q m ∷ h) ≡ reads p h
  reads_later ne = rw (ne_eqb p q ne)

module _ {State Message : Type 0} (P : Process State Message) (z : State) (no_write : (p : ℕ) → P.want z ≡ Write p → ⊥) (Port : ℕ → Type 0) where
  -- what both histories read at the port begins one list, which g read whole where z waits for more
  abbrev Agree : ℕ → List (Event Message) → List (Event Message) → Type 0
  Agree p h g = (x y : List Message) × (reads p h ++ x ≡ reads p g ++ y) × (P.want z ≡ Read p → y ≡ [])

  agree_next : (p q : ℕ) (m n : Message) (h g : List (Event Message)) (r : ℕ) → p ≡ q → Agree r (Reads p m ∷ h) (Reads q n ∷ g) → Agree r h g
  agree_next p q m n h g r pq (x, y, same, stuck) = (x, y, go (cases_eq r p), stuck)
    where
      go : ((r ≡ p) ⊎ (r ≡ p → ⊥)) → reads r h ++ x ≡ reads r g ++ y
      go (inl rp) =
          let a : m ∷ (reads r h ++ x) ≡ n ∷ (reads r g ++ y) = ap (λ l. l ++ x) (sym (reads_first r p m h rp)) ∙ same ∙ ap (λ l. l ++ y) (reads_first r q n g (rp ∙ pq)) in
          cc
      go (inr ne) = ap (λ l. l ++ x) (sym (reads_later r p m h ne)) ∙ same ∙ ap (λ l. l ++ y) (reads_later r q n g (λ e. ne (e ∙ sym pq)))

  follows : (s t : State) (h g : List (Event Message)) → ((a : List (Event Message)) (u : State) (p : ℕ) → Does P s a u → P.want u ≡ Read p → Port p)
      → Does P s h t → Does P s g z → ((p : ℕ) → Port p → Agree p h g) → (rest : List (Event Message)) × (h ++ rest ≡ g) × Does P t rest z
  follows s t [] g ports does does_g agree = (g, refl, subst (λ u. Does P u g z) does does_g)
  follows s t (Reads p m ∷ h) [] ports (wants, does) same_z agree =
      let (x, y, same, stuck) = agree p (ports [] s p refl wants) in
      let none : y ≡ [] = stuck (ap P.want (sym same_z) ∙ wants) in
      let a : m ∷ (reads p h ++ x) ≡ y = ap (λ l. l ++ x) (sym (reads_first p p m h refl)) ∙ same in
      cc
  follows s t (Reads p m ∷ h) (Reads q n ∷ g) ports (wants, does) (wants_g, does_g) agree =
      let (x, y, same, stuck) = agree p (ports [] s p refl wants) in
      let pq : p ≡ q = cc in
      let a : m ∷ (reads p h ++ x) ≡ n ∷ (reads p g ++ y) = ap (λ l. l ++ x) (sym (reads_first p p m h refl)) ∙ same ∙ ap (λ l. l ++ y) (reads_first p q n g pq) in
      let mn : m ≡ n = cc in
      let ih : (rest : List (Event Message)) × (h ++ rest ≡ g) × Does P t rest z =
      follows (P.read s m) t h g (λ b u r d w. ports (Reads p m ∷ b) u r (wants, d) w) does (subst (λ v. Does P (P.read s v) g z) (sym mn) does_g)
      (λ r port. agree_next p q m n h g r pq (agree r port)) in
      (ih.0, (let e : h ++ ih.0 ≡ g = ih.1 in cc), ih.2)
  follows s t (Reads p m ∷ h) (Writes q n ∷ g) ports (wants, does) (wants_g, is, does_g) agree = absurd (let a : Read p ≡ Write q = sym wants ∙ wants_g in cc)
  follows s t (Writes p m ∷ h) [] ports (wants, is, does) same_z agree = absurd (no_write p (ap P.want (sym same_z) ∙ wants))
  follows s t (Writes p m ∷ h) (Reads q n ∷ g) ports (wants, is, does) (wants_g, does_g) agree = absurd (let a : Write p ≡ Read q = sym wants ∙ wants_g in cc)
  follows s t (Writes p m ∷ h) (Writes q n ∷ g) ports (wants, is, does) (wants_g, is_g, does_g) agree =
      let ih : (rest : List (Event Message)) × (h ++ rest ≡ g) × Does P t rest z = follows (P.wrote s) t h g (λ b u r d w. ports (Writes p m ∷ b) u r (wants, is, d) w) does does_g agree in
      (ih.0, (let e : h ++ ih.0 ≡ g = ih.1 in cc), ih.2)

-- What one process does on beginnings of what a complete run of it reads.
pub node_follows : {State Message : Type 0} (P : Process State Message) (opening : State) (inputs outputs : ℕ) →
    IsLawfulProcess P opening inputs outputs → (g : List (Event Message)) (z : State) → Does P opening g z → P.want z ≡ Ended →
    (h : List (Event Message)) (s : State) → Does P opening h s → ((p : ℕ) → p < inputs → Begins (reads p h) (reads p g)) →
    ((p : ℕ) → Begins (writes p h) (writes p g)) × ((f : Fault) → P.want s ≡ Faulted f → ⊥)
node_follows {Message = Message} P opening inputs outputs lawful g z whole ended h s does reads_of =
    let (rest, same, after) = follows P z (λ p w. absurd (let x : Ended ≡ Write p = sym ended ∙ w in cc)) (λ p. p < inputs) opening s h g (λ a u p d w. lawful.in_port a u p d w) does whole
    (λ p l. ((reads_of p l).0, [], (reads_of p l).1 ∙ sym (append-nil (reads p g)), λ w. absurd (let x : Ended ≡ Read p = sym ended ∙ w in cc))) in
    ((λ p. (writes p rest, writes_append p h rest ∙ ap (λ x. writes p x) same)), λ f is. go rest after f is)
  where
    go : (rest : List (Event Message)) → Does P s rest z → (f : Fault) → P.want s ≡ Faulted f → ⊥
    go [] same f is = absurd (let a : Ended ≡ Faulted f = sym ended ∙ ap P.want (sym same) ∙ is in cc)
    go (Reads p m ∷ more) (wants, does) f is = absurd (let a : Read p ≡ Faulted f = sym wants ∙ is in cc)
    go (Writes p m ∷ more) (wants, is_m, does) f is = absurd (let a : Write p ≡ Faulted f = sym wants ∙ is in cc)

module _ {State Message : Type 0} (P : Process State Message) (net : Network State) (wired : IsWired net) (lawful : AllLawful P net)
    (r : Configuration State Message) (sound_r : IsSound P net r) (rest_r : AtRest P net None r) where
  module _ (c : Configuration State Message) (sound : IsSound P net c) where
    -- what the node has still to do
    abbrev Goes : (k : ℕ) → k < net.nodes → Type 0
    Goes k inside = (more : List (Event Message)) × ((sound.reached k inside).history ++ more ≡ (sound_r.reached k inside).history) × Does P (c.state k) more (r.state k)

    sent_by : (e : ℕ) → e < net.edges → (inside : net.writer e < net.nodes) → Goes (net.writer e) inside → Begins (c.sent e) (r.sent e)
    sent_by e inside_e inside (more, same, does) = (
      writes (net.writer_port e) more,
      ap (λ l. l ++ writes (net.writer_port e) more) ((sound.reached (net.writer e) inside).sent e inside_e refl)
          ∙ writes_append (net.writer_port e) (sound.reached (net.writer e) inside).history more
          ∙ ap (λ h. writes (net.writer_port e) h) same
          ∙ sym ((sound_r.reached (net.writer e) inside).sent e inside_e refl),
    )

    goes_next : (k : ℕ) (inside : k < net.nodes) → ((j : ℕ) → j < k → (inside_j : j < net.nodes) → Goes j inside_j) → Goes k inside
    goes_next k inside before =
        follows P (r.state k) no_write (λ p. p < net.inputs k) (net.opening k) (c.state k) (sound.reached k inside).history (sound_r.reached k inside).history
        (lawful k inside).in_port (sound.reached k inside).does (sound_r.reached k inside).does (λ p in_p. agree p (net.in_edge k p) (wired.in_edge k p inside in_p))
      where
        no_write : (p : ℕ) → P.want (r.state k) ≡ Write p → ⊥
        no_write p wants =
            let e = net.out_edge k p in
            let (inside_e, at, port) = wired.out_edge k p inside ((lawful k inside).out_port (sound_r.reached k inside).history (r.state k) p (sound_r.reached k inside).does wants) in
            rest_r (Writes e (P.written (r.state (net.writer e)))) (inside_e, ap (λ x. P.want (r.state x)) at ∙ wants ∙ ap Write (sym port), refl, tt)

        drained : (e p : ℕ) → e < net.edges → net.reader e ≡ k → net.reader_port e ≡ p → P.want (r.state k) ≡ Read p → (y : List Message) → r.received e ++ y ≡ r.sent e → y ≡ []
        drained e p inside_e at port wants [] same = refl
        drained e p inside_e at port wants (m ∷ more) same =
            absurd (rest_r (Reads e m) (inside_e, ap (λ x. P.want (r.state x)) at ∙ wants ∙ ap Read (sym port), (more, append_assoc (r.received e) (m ∷ []) more ∙ same)))

        agree : (p e : ℕ) → (e < net.edges) × (net.reader e ≡ k) × (net.reader_port e ≡ p) → (x y : List Message)
            × (reads p (sound.reached k inside).history ++ x ≡ reads p (sound_r.reached k inside).history ++ y) × (P.want (r.state k) ≡ Read p → y ≡ [])
        agree p e (inside_e, at, port) =
            let first : net.writer e < net.reader e = wired.forward e inside_e in
            let inside_w : net.writer e < net.nodes = omega arith in
            let x : Begins (c.received e) (r.sent e) =
            begins_trans (c.received e) (c.sent e) (r.sent e) (sound.flows e inside_e)
            (sent_by e inside_e inside_w (before (net.writer e) (omega arith) inside_w)) in
            let y : Begins (r.received e) (r.sent e) = sound_r.flows e inside_e in (
              x.0,
              y.0,
              ap (λ l. l ++ x.0) (ap (λ q. reads q (sound.reached k inside).history) (sym port) ∙ sym ((sound.reached k inside).received e inside_e at))
                  ∙ x.1 ∙ sym y.1
                  ∙ ap (λ l. l ++ y.0) ((sound_r.reached k inside).received e inside_e at ∙ ap (λ q. reads q (sound_r.reached k inside).history) port),
              λ wants. drained e p inside_e at port wants y.0 y.1,
            )

    goes_below : (n k : ℕ) → k < n → (inside : k < net.nodes) → Goes k inside
    goes_below zero k l inside = absurd (omega arith)
    goes_below (suc n) k l inside = goes_next k inside (λ j before inside_j. goes_below n j (omega arith) inside_j)

    -- each node does a beginning of what it does in r
    pub goes : (k : ℕ) (inside : k < net.nodes) → Goes k inside
    goes k inside = goes_below (suc k) k (omega arith) inside

    inside_writer : (e : ℕ) → e < net.edges → net.writer e < net.nodes
    inside_writer e inside_e = let a : net.writer e < net.reader e = wired.forward e inside_e in let b : net.reader e < net.nodes = wired.inside e inside_e in omega arith

    pub sent_begins : (e : ℕ) → e < net.edges → Begins (c.sent e) (r.sent e)
    sent_begins e inside_e = sent_by e inside_e (inside_writer e inside_e) (goes (net.writer e) (inside_writer e inside_e))

    pub received_begins : (e : ℕ) → e < net.edges → Begins (c.received e) (r.received e)
    received_begins e inside_e =
        let inside : net.reader e < net.nodes = wired.inside e inside_e in
        let (more, same, does) = goes (net.reader e) inside in (
          reads (net.reader_port e) more,
          ap (λ l. l ++ reads (net.reader_port e) more) ((sound.reached (net.reader e) inside).received e inside_e refl)
              ∙ reads_append (net.reader_port e) (sound.reached (net.reader e) inside).history more
              ∙ ap (λ h. reads (net.reader_port e) h) same
              ∙ sym ((sound_r.reached (net.reader e) inside).received e inside_e refl),
        )

    -- where each node of r has ended, none has faulted
    pub fine_below : AllEnded P net r → NoneFaulted P net c
    fine_below ended k inside f is = go (goes k inside).0 (goes k inside).2
      where
        go : (more : List (Event Message)) → Does P (c.state k) more (r.state k) → ⊥
        go [] same = absurd (let a : Ended ≡ Faulted f = sym (ended k inside) ∙ ap P.want (sym same) ∙ is in cc)
        go (Reads p m ∷ more) (wants, does) = absurd (let a : Read p ≡ Faulted f = sym wants ∙ is in cc)
        go (Writes p m ∷ more) (wants, is_m, does) = absurd (let a : Write p ≡ Faulted f = sym wants ∙ is in cc)

    -- where each node of r has ended, a node that waits to write has not yet sent all
    pub more_sent : AllEnded P net r → (e : ℕ) → e < net.edges → P.want (c.state (net.writer e)) ≡ Write (net.writer_port e) → length (c.sent e) < length (r.sent e)
    unfolding sent_by
    more_sent ended e inside_e wants = go (goes (net.writer e) inside).0 (goes (net.writer e) inside).2 (sent_by e inside_e inside (goes (net.writer e) inside)).1
      where
        inside : net.writer e < net.nodes
        inside = inside_writer e inside_e

        go : (more : List (Event Message)) → Does P (c.state (net.writer e)) more (r.state (net.writer e)) → c.sent e
            ++ writes (net.writer_port e) more ≡ r.sent e → length (c.sent e) < length (r.sent e)
        go [] same sent = absurd (let a : Ended ≡ Write (net.writer_port e) = sym (ended (net.writer e) inside) ∙ ap P.want (sym same) ∙ wants in cc)
        go (Reads p m ∷ more) (wants_p, does) sent = absurd (let a : Read p ≡ Write (net.writer_port e) = sym wants_p ∙ wants in cc)
        go (Writes p m ∷ more) (wants_p, is_m, does) sent =
            let port : net.writer_port e ≡ p = cc in
            let first : writes (net.writer_port e) (Writes p m ∷ more) ≡ m ∷ writes (net.writer_port e) more = writes_first (net.writer_port e) p m more port in
            omega (arith, ap length sent, ap length first, length-append (c.sent e) (writes (net.writer_port e) (Writes p m ∷ more)))
