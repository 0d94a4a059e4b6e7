-- What the code shows of one turn of a node.
use Rattle.std.proofs.Common.{◌≡◌, ℕ, zero, suc, ◌+◌, ◌-◌, ◌<◌, ◌≤◌, Option, Bool, true, false, List, [], ◌∷◌, ◌++◌, length, get_or, set, ◌⊎◌, refl}
use Rattle.std.proofs.Common.{sym, ◌∙◌, ap, subst, inl, inr, arith, length-append, get_or-set_other, get_or-set_same}
use Rattle.std.proofs.lemmas.Bool.{cases_eq}
use Rattle.std.proofs.lemmas.List.{length_push}
use Rattle.kahn.specs.declared.want.Want.TheVariants.{Read, Write}
use Rattle.kahn.specs.Basics.{updated, Begins, total}
use Rattle.kahn.specs.Processes.{Process, Event, Reads, Writes, Settles}
use Rattle.kahn.specs.Networks.{Network, IsWired, actor}
use Rattle.kahn.specs.Configurations.{Configuration, held, moved, start}
use Rattle.kahn.specs.Runs.{Can, HasRoom, AtRest, Reaches}
use Rattle.kahn.specs.Turns.{Turn, IsSwept}
use Rattle.kahn.proofs.Finite.{run_then, most_events, run_most}
use Rattle.kahn.proofs.Traffic.{moved_run}
use Rattle.kahn.proofs.Basics.{updated_at, updated_other}

-- a list with another element, as a function
pub set_updated : {X : Type 0} (xs : List X) (k : ℕ) (x d : X) → k < length xs → (λ (j : ℕ). get_or (set xs k x) j d) ≡ updated (λ j. get_or xs j d) k x
set_updated xs k x d inside = λ i j. each j i
  where
    each : (j : ℕ) → get_or (set xs k x) j d ≡ updated (λ i. get_or xs i d) k x j
    each j = go (cases_eq j k)
      where
        go : ((j ≡ k) ⊎ (j ≡ k → ⊥)) → get_or (set xs k x) j d ≡ updated (λ i. get_or xs i d) k x j
        go (inl e) = ap (λ i. get_or (set xs k x) i d) e ∙ get_or-set_same xs k x d inside ∙ sym (updated_at (λ i. get_or xs i d) k j x e)
        go (inr ne) = get_or-set_other xs k j x d ne ∙ sym (updated_other (λ i. get_or xs i d) k j x ne)

module _ {State Message : Type 0} (P : Process State Message) (net : Network State) (wired : IsWired net) (limit : Option ℕ) (c : Configuration State Message) (k e : ℕ) (inside : e < net.edges) where
  -- a node that wants to read from an edge that holds nothing
  pub nothing_held : net.reader e ≡ k → P.want (c.state k) ≡ Read (net.reader_port e) → c.received e ≡ c.sent e → (a : Event Message) → actor net a ≡ k → Can P net limit c a → ⊥
  nothing_held at wants none (Reads f m) does (inside_f, wants_f, some) =
      let s : P.want (c.state (net.reader f)) ≡ P.want (c.state k) = ap (λ x. P.want (c.state x)) does in
      let port : net.reader_port f ≡ net.reader_port e = cc in
      let same : f ≡ e = wired.one_in f e inside_f inside (does ∙ sym at) port in
      absurd (omega (
        arith,
        ap (λ x. length (c.received x)) same,
        ap (λ x. length (c.sent x)) same,
        ap length none,
        ap length some.1,
        length-append (c.received f ++ m ∷ []) some.0,
        length_push (c.received f) m,
      ))
  nothing_held at wants none (Writes f m) does (inside_f, wants_f, is, room) =
      absurd (let a : Write (net.writer_port f) ≡ Read (net.reader_port e) = sym wants_f ∙ ap (λ x. P.want (c.state x)) does ∙ wants in cc)

  -- a node that wants to write to an edge with no room
  pub no_room : net.writer e ≡ k → P.want (c.state k) ≡ Write (net.writer_port e) → (HasRoom limit (held c e) → ⊥) → (a : Event Message) → actor net a ≡ k → Can P net limit c a → ⊥
  no_room at wants full (Reads f m) does (inside_f, wants_f, some) =
      absurd (let a : Read (net.reader_port f) ≡ Write (net.writer_port e) = sym wants_f ∙ ap (λ x. P.want (c.state x)) does ∙ wants in cc)
  no_room at wants full (Writes f m) does (inside_f, wants_f, is, room) =
      let s : P.want (c.state (net.writer f)) ≡ P.want (c.state k) = ap (λ x. P.want (c.state x)) does in
      let port : net.writer_port f ≡ net.writer_port e = cc in
      let same : f ≡ e = wired.one_out f e inside_f inside (does ∙ sym at) port in
      full (subst (λ x. HasRoom limit (held c x)) same room)

  pub did_read : (m : Message) (d : Configuration State Message) → net.reader e ≡ k → P.want (c.state k) ≡ Read (net.reader_port e) →
      Begins (c.received e ++ m ∷ []) (c.sent e) → d.state ≡ updated c.state k (P.read (c.state k) m) → d.sent ≡ c.sent → d.received
      ≡ updated c.received e (c.received e ++ m ∷ []) → Turn P net limit k c d true
  did_read m d at wants some state sent received = (
    Reads e m,
    at,
    (inside, ap (λ x. P.want (c.state x)) at ∙ wants, some),
    λ i. record {
      state = (state ∙ ap (λ x. updated c.state x (P.read (c.state x) m)) (sym at)) i;
      sent = sent i;
      received = received i;
    },
  )

  pub did_write : (m : Message) (d : Configuration State Message) → net.writer e ≡ k → P.want (c.state k) ≡ Write (net.writer_port e) →
      P.written (c.state k) ≡ m → HasRoom limit (held c e) → d.state ≡ updated c.state k (P.wrote (c.state k)) → d.sent
      ≡ updated c.sent e (c.sent e ++ m ∷ []) → d.received ≡ c.received → Turn P net limit k c d true
  did_write m d at wants is room state sent received = (
    Writes e m,
    at,
    (inside, ap (λ x. P.want (c.state x)) at ∙ wants, ap (λ x. P.written (c.state x)) at ∙ is, room),
    λ i. record {
      state = (state ∙ ap (λ x. updated c.state x (P.wrote (c.state x))) (sym at)) i;
      sent = sent i;
      received = received i;
    },
  )

module _ {State Message : Type 0} (P : Process State Message) (net : Network State) (limit : Option ℕ) where
  pub reaches_then : (c d e : Configuration State Message) → Reaches P net limit c d → Reaches P net limit d e → Reaches P net limit c e
  reaches_then c d e (one, run) (two, after) = (one ++ two, run_then P net limit one two c d e run after)

  pub swept_none : (c : Configuration State Message) → IsSwept P net limit 0 c c false
  swept_none c = record { reaches = ([], refl); calm = λ h. (refl, λ a before can. absurd (omega arith)); busy = λ h. cc }

  pub swept_step : (k : ℕ) (c d e : Configuration State Message) (any : Bool) → IsSwept P net limit k c d any → Turn P net limit k d e true → IsSwept P net limit (k + 1) c e true
  swept_step k c d e any s (a, at, can, is) =
      let to : Reaches P net limit d e = (a ∷ [], (can, sym is)) in
      record {
        reaches = reaches_then c d e s.reaches to;
        calm = λ h. cc;
        busy = λ h. omega (arith, moved_run P net limit s.reaches.0 c d s.reaches.1, moved_run P net limit to.0 d e to.1);
      }

  pub swept_pass : (k : ℕ) (c d e : Configuration State Message) (any : Bool) → IsSwept P net limit k c d any → Turn P net limit k d e false → IsSwept P net limit (k + 1) c e any
  swept_pass k c d e any s (is, none) =
      record {
        reaches = subst (λ x. Reaches P net limit c x) (sym is) s.reaches;
        calm = λ h. (is ∙ (s.calm h).0, λ a before can. go a before (subst (λ x. Can P net limit x a) is can) ((s.calm h).1 a) (cases_eq (actor net a) k));
        busy = λ h. rw is (s.busy h);
      }
    where
      go : (a : Event Message) → actor net a < k + 1 → Can P net limit d a → (actor net a < k → Can P net limit d a → ⊥) → ((actor net a ≡ k) ⊎ (actor net a ≡ k → ⊥)) → ⊥
      go a before can below (inl at) = none a at can
      go a before can below (inr ne) = below (omega arith) can

  pub swept_rest : IsWired net → (k : ℕ) (c d : Configuration State Message) → net.nodes ≤ k → IsSwept P net limit k c d false → AtRest P net limit d
  swept_rest wired k c d all s (Reads e m) can = (s.calm refl).1 (Reads e m) (let a : net.reader e < net.nodes = wired.inside e can.0 in omega arith) can
  swept_rest wired k c d all s (Writes e m) can =
      (s.calm refl).1 (Writes e m)
      (let a : net.writer e < net.reader e = wired.forward e can.0 in let b : net.reader e < net.nodes = wired.inside e can.0 in omega arith) can

  -- what is left of the whole traffic falls in a pass that made a step
  pub swept_falls : (wired : IsWired net) (settles : Settles P) (k : ℕ) (c d : Configuration State Message) → Reaches P net limit (start net) c →
      IsSwept P net limit k c d true →
      most_events P net wired settles (start net) (λ e inside. ([], refl)) - moved net d < most_events P net wired settles (start net)
      (λ e inside. ([], refl)) - moved net c
  swept_falls wired settles k c d from s =
      let all : Reaches P net limit (start net) d = reaches_then (start net) c d from s.reaches in
      omega (arith, s.busy refl, moved_run P net limit all.0 (start net) d all.1, moved_start net.edges, run_most P net wired settles limit all.0 (start net) d (λ e inside. ([], refl)) all.1)
    where
      moved_start : (n : ℕ) → total (λ e. length {A = Message} [] + length {A = Message} []) n ≡ 0
      moved_start zero = refl
      moved_start (suc n) = omega (arith, moved_start n)
