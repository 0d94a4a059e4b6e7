-- One step more of a visit, and its end.
use Rattle.std.proofs.Common.{◌≡◌, ◌≢◌, ℕ, zero, suc, ◌+◌, ◌<◌, ◌≤◌, Bool, true, false, cond, eqb, ◌||◌, List, [], ◌∷◌, ◌++◌, length, refl, sym, ◌∙◌}
use Rattle.std.proofs.Common.{ap, subst, arith, append-nil, append_assoc, length-append, ne_eqb, Result, Ok, Err, OnOk, OnErr, IfErr, IsOk, IsErrAnd}
use Rattle.std.specs.Prelude.{IfOk, IsErr}
use Rattle.std.proofs.Common.{IsTrue, ◌↔◌, inl, inr}
use Rattle.std.proofs.lemmas.List.Elements.{All-get_or, All-weaker}
use Rattle.std.proofs.lemmas.Bool.{cases_Bool, or_parts}
use Rattle.kahn.specs.declared.want.Want.TheVariants.{Read, Write}
use Rattle.kahn.specs.Basics.{Begins}
use Rattle.kahn.specs.Processes.{Event, Reads, Writes, Does}
use Rattle.kahn.proofs.History.{does_then}
use Rattle.flow_messages.specs.Signals.{Signal, signal_of, ended}
use Rattle.flow_messages.specs.Ends.{View, SameEnds, LookedForRoom, LookedForMessages, Put, Taken}
use Rattle.flow_messages.specs.Kinds.{FitsEdge, TakesKind}
use Rattle.flow_messages.proofs.Fitting.{kind_fits, fits_still, takes_still}
use Rattle.flow_messages.specs.declared.ends.Refused.{Refused}
use Rattle.flow_messages.specs.declared.ends.Why.TheVariants.{Closed}
use Rattle.flow_messages.specs.declared.message.Msg.{Msg}
use Rattle.flow_base.specs.Transducers.{Behaviour, BehaviourLaws}
use Rattle.flow_base.specs.Visits.{read_from, sent_after, longer, Wrote, edge_of, IsNone, Carried, SparesOthers, LeavesAlone, IsStuck, Visited, BrokeOff, IsReached, IsPlaced}
use Rattle.flow_base.proofs.Carried.{looked_coming, looked_room, same_ends_refl, same_ends_then, prefix_same, prefix_then, read_append, sent_append}
use Rattle.flow_base.proofs.Carried.{taken_received, taken_room, put_wrote, wrote_looked}
use Rattle.flow_base.proofs.Reached.{opening_does, reached_does, opening_read, opening_wrote, reached_read, reached_wrote, written_fits, wants_input, wants_output}

pub not_nil : {X : Type 0} (h : List X) (x : X) → h ++ x ∷ [] ≡ [] → ⊥
not_nil [] x e = absurd (cc)
not_nil (y ∷ h) x e = absurd (cc)

at_most_one : (b : Bool) (m : Signal) → length (cond b (m ∷ []) []) ≤ 1
at_most_one true m = omega arith
at_most_one false m = omega arith

-- an edge that is at no port is not the edge at this port
pub not_at : (edges : List ℕ) (e p : ℕ) → IsNone edges e → p < length edges → e ≢ edge_of edges p
not_at edges e p none l = All-get_or (λ f. e ≢ f) edges p 0 l none

-- memory was refused only where some may be taken
pub starves_err : {X E : Type 0} (takes : Bool) (r : Result X E) (x : E) → r ≡ Err x → (takes ≡ false → IsOk r) → takes ≡ true
starves_err true r x is sure = refl
starves_err false r x is sure = absurd (let no = subst IsOk is (sure refl) in cc)

-- the answer that there is no room
pub no_room : (r : Bool) (n : ℕ) → IsTrue r ↔ (0 < n) → r ≡ false → n ≡ 0
no_room true n iff is = absurd (cc)
no_room false zero iff is = refl
no_room false (suc n) iff is = absurd (let no = iff.1 (omega arith) in cc)

pub on_err : {X E P : Type 0} (r : Result X E) → P → OnErr r P
on_err (Ok x) p = tt
on_err (Err x) p = p

pub no_ok : {X E : Type 0} (P : X → Type 0) (r : Result X E) → IsErr r → IfOk r P
no_ok P (Ok x) is = absurd (cc)
no_ok P (Err e) is = tt

-- of two histories one has a step
pub either_some : {X : Type 0} (any more : Bool) (h g : List X) → (any ≡ true → h ≡ [] → ⊥) → (more ≡ true → g ≡ [] → ⊥) → (any || more) ≡ true → h ++ g ≡ [] → ⊥
either_some any more (x ∷ h) g p q is none = absurd (cc)
either_some true more [] g p q is none = p refl refl
either_some false more [] g p q is none = q is none

pub left_alone : (inputs outputs : List ℕ) (a v w : View) → LeavesAlone inputs outputs a v → LeavesAlone inputs outputs v w → LeavesAlone inputs outputs a w
left_alone inputs outputs a v w h g = record {
  traffic = record {
    sent = λ e. g.traffic.sent e ∙ h.traffic.sent e;
    received = λ e. g.traffic.received e ∙ h.traffic.received e;
  };
  more_coming = λ e. prefix_then (a.coming e) (v.coming e) (w.coming e) (h.more_coming e) (g.more_coming e);
  more_room = λ e. omega (arith, h.more_room e, g.more_room e);
  coming = λ e none. g.coming e none ∙ h.coming e none;
  room = λ e none. g.room e none ∙ h.room e none;
}

module _ {S : Type 0} (b : Behaviour S) (inputs outputs : List ℕ) (s : S) (a : View) where
  -- From s to t it made some steps, or none; `any` says which. No step could have disturbed the other ends.
  pub record Made (t : S) (v : View) (any : Bool) : Type 0 where
    pub ends : SameEnds a v
    pub reached : IsReached b t
    pub opening : b.opening t ≡ b.opening s
    pub history : List (Event Signal)
    pub does : Does b.process s history t
    pub carried : Carried inputs outputs history a v
    pub spares : SparesOthers inputs outputs a v
    pub some : any ≡ true → history ≡ [] → ⊥
    pub none : any ≡ false → history ≡ []
    pub calm : any ≡ false → LeavesAlone inputs outputs a v

module _ {S : Type 0} {b : Behaviour S} (laws : BehaviourLaws b) {inputs outputs : List ℕ} {s : S} {a : View} (placed : IsPlaced b inputs outputs s a) where
  pub made_none : Made b inputs outputs s a s a false
  unfolding read_from sent_after
  made_none = record {
    ends = same_ends_refl a;
    reached = placed.reached;
    opening = refl;
    history = [];
    does = refl;
    carried = record { received = λ e. sym (append-nil (a.received e)); sent = λ e. refl };
    spares = record { coming = λ e none. prefix_same (a.coming e) (a.coming e) refl; room = λ e none. omega arith };
    some = λ h. cc;
    none = λ h. refl;
    calm = λ h. record {
      traffic = record { sent = λ k. refl; received = λ k. refl };
      more_coming = λ e. prefix_same (a.coming e) (a.coming e) refl;
      more_room = λ e. omega arith;
      coming = λ e none. refl;
      room = λ e none. refl;
    };
  }

  module _ {t : S} {v : View} {any : Bool} (made : Made b inputs outputs s a t v any) where
    -- the edges at the ports are those that they were, and their ends are there
    pub placed_on : IsPlaced b inputs outputs t v
    placed_on = record {
      reached = made.reached;
      each_input = placed.each_input ∙ sym (laws.same_inputs s) ∙ ap b.inputs (sym made.opening) ∙ laws.same_inputs t;
      each_output = placed.each_output ∙ sym (laws.same_outputs s) ∙ ap b.outputs (sym made.opening) ∙ laws.same_outputs t;
      reads = All-weaker (λ e. a.reads e ≡ true) (λ e. v.reads e ≡ true) (λ e is. made.ends.reads e ∙ is) inputs placed.reads;
      writes = All-weaker (λ e. a.writes e ≡ true) (λ e. v.writes e ≡ true) (λ e is. made.ends.writes e ∙ is) outputs placed.writes;
      kinds = λ q l. takes_still a v (edge_of outputs q) (b.kind_out t q) made.ends
          (subst (TakesKind (a.kind (edge_of outputs q)))
          (sym (laws.same_kinds_out s q) ∙ ap (λ o. b.kind_out o q) (sym made.opening) ∙ laws.same_kinds_out t q) (placed.kinds q l));
    }

    -- a port that is wanted has its edge, and the end is there
    pub input_there : (p : ℕ) → b.process.want t ≡ Read p → p < length inputs
    input_there p wants = subst (λ n. p < n) (sym placed_on.each_input) (wants_input b laws t p wants made.reached)

    pub output_there : (q : ℕ) → b.process.want t ≡ Write q → q < length outputs
    output_there q wants = subst (λ n. q < n) (sym placed_on.each_output) (wants_output b laws t q wants made.reached)

    -- what it writes may be put on the edge of its port
    pub put_fits : (q : ℕ) (w : View) → SameEnds v w → b.process.want t ≡ Write q → FitsEdge (w.kind (edge_of outputs q)) (b.process.written t)
    put_fits q w same wants =
        fits_still v w (edge_of outputs q) (b.process.written t) same
        (kind_fits (v.kind (edge_of outputs q)) (b.kind_out t q) (b.process.written t) (placed_on.kinds q (output_there q wants))
        (written_fits b laws t q wants made.reached))

    pub reads_at : (p : ℕ) → p < length inputs → v.reads (edge_of inputs p) ≡ true
    reads_at p l = All-get_or (λ e. v.reads e ≡ true) inputs p 0 l placed_on.reads

    pub writes_at : (q : ℕ) → q < length outputs → v.writes (edge_of outputs q) ≡ true
    writes_at q l = All-get_or (λ e. v.writes e ≡ true) outputs q 0 l placed_on.writes

    -- it read a message
    pub made_read : (p : ℕ) (m : Signal) (t' : S) (w : View) → b.process.want t ≡ Read p → Taken v (edge_of inputs p) m w → t' ≡ b.process.read t m → Made b inputs outputs s a t' w true
    unfolding read_from sent_after
    made_read p m t' w wants taken is =
        let f = edge_of inputs p in
        let edge = edge_of inputs in
        let h = made.history in
        record {
          ends = same_ends_then a v w made.ends taken.ends;
          reached = reached_read b laws t t' p m wants is made.reached;
          opening = opening_read b laws t t' p m wants is ∙ made.opening;
          history = h ++ Reads p m ∷ [];
          does = does_then b.process s t t' h (Reads p m ∷ []) made.does (wants, sym is);
          carried = record {
            received = λ e. taken_received v w f e m taken ∙ ap (λ l. l ++ cond (eqb e f) (m ∷ []) []) (made.carried.received e)
                ∙ append_assoc (a.received e) (read_from edge e h) (cond (eqb e f) (m ∷ []) [])
                ∙ ap (λ l. a.received e ++ l) (read_append edge e h (Reads p m ∷ []));
            sent = λ e. taken.sent e ∙ made.carried.sent e ∙ sym (sent_append (edge_of outputs) e (a.sent e) h (Reads p m ∷ []));
          };
          spares = record {
            coming = λ e none. prefix_then (a.coming e) (v.coming e) (w.coming e) (made.spares.coming e none)
                (prefix_same (v.coming e) (w.coming e) (taken.coming e (not_at inputs e p none (input_there p wants))));
            room = λ e none. omega (arith, made.spares.room e none, taken_room v w f e m taken);
          };
          some = λ h. not_nil made.history (Reads p m);
          none = λ h. cc;
          calm = λ h. cc;
        }

    -- it wrote a message
    pub made_write : (q : ℕ) (m : Signal) (t' : S) (w : View) → b.process.want t ≡ Write q → m ≡ b.process.written t → Wrote v (edge_of outputs q) m w
        → t' ≡ b.process.wrote t → Made b inputs outputs s a t' w true
    unfolding read_from sent_after
    made_write q m t' w wants told wrote is =
        let f = edge_of outputs q in
        let edge = edge_of inputs in
        let h = made.history in
        record {
          ends = same_ends_then a v w made.ends wrote.ends;
          reached = reached_wrote b laws t t' q wants is made.reached;
          opening = opening_wrote b laws t t' q wants is ∙ made.opening;
          history = h ++ Writes q m ∷ [];
          does = does_then b.process s t t' h (Writes q m ∷ []) made.does (wants, sym told, sym is);
          carried = record {
            received = λ e. wrote.received e ∙ made.carried.received e ∙ ap (λ l. a.received e ++ l) (sym (append-nil (read_from edge e h)) ∙ read_append edge e h (Writes q m ∷ []));
            sent = λ e. wrote.sent e ∙ ap (λ l. cond (eqb e f) (longer l m) l) (made.carried.sent e) ∙ sym (sent_append (edge_of outputs) e (a.sent e) h (Writes q m ∷ []));
          };
          spares = record {
            coming = λ e none. prefix_then (a.coming e) (v.coming e) (w.coming e) (made.spares.coming e none) (wrote.coming e);
            room = λ e none. omega (arith, made.spares.room e none, wrote.room e (not_at outputs e q none (output_there q wants)));
          };
          some = λ h. not_nil made.history (Writes q m);
          none = λ h. cc;
          calm = λ h. cc;
        }

    -- it looked for room, and put a message
    pub made_put : (q : ℕ) (message : Msg) (t' : S) (u w : View) (r : Result (Unit {0}) Refused) → b.process.want t ≡ Write q → signal_of message ≡ b.process.written t → t' ≡ b.process.wrote t →
        LookedForRoom v (edge_of outputs q) u → 0 < u.room (edge_of outputs q) → OnOk r (Put u (edge_of outputs q) (signal_of message) w) →
        IfErr r (λ x. (x.message ≡ message) × LookedForRoom u (edge_of outputs q) w) →
        IsErrAnd r (λ x. x.why ≡ Closed) ↔ (ended (u.sent (edge_of outputs q)) ≡ true) →
        (ended (u.sent (edge_of outputs q)) ≡ false → 0 < u.room (edge_of outputs q) → IsOk r) → Made b inputs outputs s a t' w true
    made_put q message t' u w r wants told is looked certain ok refused closed succeeds =
        let m = signal_of message in
        made_write q m t' w wants told (put_wrote v u w (edge_of outputs q) m message looked r certain ok refused closed succeeds) is

    -- it looked for room, and wrote a message where that was certain
    pub made_wrote : (q : ℕ) (m : Signal) (t' : S) (u w : View) → b.process.want t ≡ Write q → m ≡ b.process.written t → t' ≡ b.process.wrote t →
        LookedForRoom v (edge_of outputs q) u → Wrote u (edge_of outputs q) m w → Made b inputs outputs s a t' w true
    made_wrote q m t' u w wants told is looked wrote = made_write q m t' w wants told (wrote_looked v u w (edge_of outputs q) m looked wrote) is

    -- it looked for a message
    pub made_looked : (p : ℕ) (w : View) → b.process.want t ≡ Read p → LookedForMessages v (edge_of inputs p) w → Made b inputs outputs s a t w any
    made_looked p w wants looked =
        let other : (e : ℕ) → IsNone inputs e → w.coming e ≡ v.coming e = λ e none. looked.coming e (not_at inputs e p none (input_there p wants)) in
        record {
          ends = same_ends_then a v w made.ends looked.ends;
          reached = made.reached;
          opening = made.opening;
          history = made.history;
          does = made.does;
          carried = record {
            received = λ e. looked.traffic.received e ∙ made.carried.received e;
            sent = λ e. looked.traffic.sent e ∙ made.carried.sent e;
          };
          spares = record {
            coming = λ e none. prefix_then (a.coming e) (v.coming e) (w.coming e) (made.spares.coming e none) (prefix_same (v.coming e) (w.coming e) (other e none));
            room = λ e none. omega (arith, made.spares.room e none, looked.room e);
          };
          some = made.some;
          none = made.none;
          calm = λ h. left_alone inputs outputs a v w (made.calm h) (record {
            traffic = looked.traffic;
            more_coming = λ e. looked_coming v w (edge_of inputs p) e looked;
            more_room = λ e. omega (arith, looked.room e);
            coming = other;
            room = λ e none. looked.room e;
          });
        }

    -- it looked for room
    pub made_room : (q : ℕ) (w : View) → b.process.want t ≡ Write q → LookedForRoom v (edge_of outputs q) w → Made b inputs outputs s a t w any
    made_room q w wants looked =
        let other : (e : ℕ) → IsNone outputs e → w.room e ≡ v.room e = λ e none. looked.room e (not_at outputs e q none (output_there q wants)) in
        record {
          ends = same_ends_then a v w made.ends looked.ends;
          reached = made.reached;
          opening = made.opening;
          history = made.history;
          does = made.does;
          carried = record {
            received = λ e. looked.traffic.received e ∙ made.carried.received e;
            sent = λ e. looked.traffic.sent e ∙ made.carried.sent e;
          };
          spares = record {
            coming = λ e none. prefix_then (a.coming e) (v.coming e) (w.coming e) (made.spares.coming e none) (prefix_same (v.coming e) (w.coming e) (looked.coming e));
            room = λ e none. omega (arith, made.spares.room e none, other e none);
          };
          some = made.some;
          none = made.none;
          calm = λ h. left_alone inputs outputs a v w (made.calm h) (record {
            traffic = looked.traffic;
            more_coming = λ e. prefix_same (v.coming e) (w.coming e) (looked.coming e);
            more_room = λ e. looked_room v w (edge_of outputs q) e looked;
            coming = λ e none. looked.coming e;
            room = other;
          });
        }

    -- where it made no step it is in the state in which it was
    pub unmoved : any ≡ false → s ≡ t
    unmoved h = subst (λ l. Does b.process s l t) (made.none h) made.does

    pub moved : (s ≡ t → ⊥) → any ≡ true
    moved other = elim (cases_Bool any) [ inl is ↦ is | inr none ↦ absurd (other (unmoved none)) ]

    -- the visit ends
    pub visited : (any ≡ false → IsStuck inputs outputs v (b.process.want t)) → Visited inputs outputs b s a t v any
    visited stuck = record {
      history = made.history;
      does = made.does;
      carried = made.carried;
      spares = made.spares;
      some = made.some;
      none = made.none;
      calm = made.calm;
      stuck = λ h. subst (λ x. IsStuck inputs outputs v (b.process.want x)) (sym (unmoved h)) (stuck h);
    }

    -- memory was refused before a message was written
    pub broke_off : (t' : S) → t' ≡ t → b.takes_memory t ≡ true → BrokeOff inputs outputs b s a t' v
    broke_off t' is starves = record {
      history = made.history;
      does = subst (λ x. Does b.process s made.history x) (sym is) made.does;
      starves = ap b.takes_memory is ∙ starves;
      received = λ e. ([], append-nil (a.received e ++ read_from (edge_of inputs) e made.history) ∙ sym (made.carried.received e));
      lost = λ e. omega (arith, ap length (made.carried.received e));
      lost_edge = 0;
      kept = λ e ne. made.carried.received e;
      others = λ e none. made.carried.received e;
      sent = made.carried.sent;
    }

    -- memory was refused for the message that was read
    pub broke_reading : (p : ℕ) (m : Signal) (t' : S) (w : View) → b.process.want t ≡ Read p → Taken v (edge_of inputs p) m w → t' ≡ t → b.takes_memory t ≡ true → BrokeOff inputs outputs b s a t' w
    broke_reading p m t' w wants taken is starves =
        let f = edge_of inputs p in
        let before : ℕ → List Signal = λ e. a.received e ++ read_from (edge_of inputs) e made.history in
        let now : (e : ℕ) → w.received e ≡ before e ++ cond (eqb e f) (m ∷ []) [] = λ e. taken_received v w f e m taken ∙ ap (λ l. l ++ cond (eqb e f) (m ∷ []) []) (made.carried.received e) in
        let other : (e : ℕ) → e ≢ f → w.received e ≡ before e = λ e ne. now e ∙ ap (λ x. before e ++ cond x (m ∷ []) []) (ne_eqb e f ne) ∙ append-nil (before e) in
        record {
          history = made.history;
          does = subst (λ x. Does b.process s made.history x) (sym is) made.does;
          starves = ap b.takes_memory is ∙ starves;
          received = λ e. (cond (eqb e f) (m ∷ []) [], sym (now e));
          lost = λ e. omega (arith, ap length (now e) ∙ length-append (before e) (cond (eqb e f) (m ∷ []) []), at_most_one (eqb e f) m);
          lost_edge = f;
          kept = other;
          others = λ e none. other e (not_at inputs e p none (input_there p wants));
          sent = λ e. taken.sent e ∙ made.carried.sent e;
        }

    -- what the events of both took from the edges, and what they put there
    received_on : (h : List (Event Signal)) (e : ℕ) → v.received e ++ read_from (edge_of inputs) e h ≡ a.received e ++ read_from (edge_of inputs) e (made.history ++ h)
    received_on h e =
        let edge = edge_of inputs in
        let g = made.history in
        ap (λ l. l ++ read_from edge e h) (made.carried.received e) ∙ append_assoc (a.received e) (read_from edge e g) (read_from edge e h) ∙ ap (λ l. a.received e ++ l) (read_append edge e g h)

    sent_on : (h : List (Event Signal)) (e : ℕ) → sent_after (edge_of outputs) e (v.sent e) h ≡ sent_after (edge_of outputs) e (a.sent e) (made.history ++ h)
    sent_on h e = ap (λ l. sent_after (edge_of outputs) e l h) (made.carried.sent e) ∙ sym (sent_append (edge_of outputs) e (a.sent e) made.history h)

    -- it made another visit
    module _ {more : Bool} {u : S} {w : View} (ends : SameEnds v w) (next : Visited inputs outputs b t v u w more) where
      pub made_visit : Made b inputs outputs s a u w (any || more)
      made_visit = record {
        ends = same_ends_then a v w made.ends ends;
        reached = reached_does b laws next.history t u next.does made.reached;
        opening = opening_does b laws next.history t u next.does ∙ made.opening;
        history = made.history ++ next.history;
        does = does_then b.process s t u made.history next.history made.does next.does;
        carried = record {
          received = λ e. next.carried.received e ∙ received_on next.history e;
          sent = λ e. next.carried.sent e ∙ sent_on next.history e;
        };
        spares = record {
          coming = λ e none. prefix_then (a.coming e) (v.coming e) (w.coming e) (made.spares.coming e none) (next.spares.coming e none);
          room = λ e none. omega (arith, made.spares.room e none, next.spares.room e none);
        };
        some = either_some any more made.history next.history made.some next.some;
        none = λ is. let (first, second) = or_parts any more is in ap (λ l. l ++ next.history) (made.none first) ∙ next.none second;
        calm = λ is. let (first, second) = or_parts any more is in left_alone inputs outputs a v w (made.calm first) (next.calm second);
      }

      pub visited_on : Visited inputs outputs b s a u w (any || more)
      visited_on = record {
        history = made_visit.history;
        does = made_visit.does;
        carried = made_visit.carried;
        spares = made_visit.spares;
        some = made_visit.some;
        none = made_visit.none;
        calm = made_visit.calm;
        stuck = λ is. let (first, second) = or_parts any more is in subst (λ x. IsStuck inputs outputs w (b.process.want x)) (sym (unmoved first)) (next.stuck second);
      }

    -- it made another visit, until memory was refused
    pub broke_on : {u : S} {w : View} → BrokeOff inputs outputs b t v u w → BrokeOff inputs outputs b s a u w
    broke_on {u} {w} next = record {
      history = made.history ++ next.history;
      does = does_then b.process s t u made.history next.history made.does next.does;
      starves = next.starves;
      received = λ e. subst (λ l. Begins l (w.received e)) (received_on next.history e) (next.received e);
      lost = λ e. subst (λ l. length (w.received e) ≤ length l + 1) (received_on next.history e) (next.lost e);
      lost_edge = next.lost_edge;
      kept = λ e ne. next.kept e ne ∙ received_on next.history e;
      others = λ e none. next.others e none ∙ received_on next.history e;
      sent = λ e. next.sent e ∙ sent_on next.history e;
    }

  -- a visit is what it made
  pub made_first : {t : S} {v : View} {any : Bool} → SameEnds a v → Visited inputs outputs b s a t v any → Made b inputs outputs s a t v any
  made_first ends first = made_visit made_none ends first
