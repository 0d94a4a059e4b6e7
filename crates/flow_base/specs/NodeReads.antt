-- A worker as a transducer keeps its promises where the worker reads.
use Rattle.std.specs.Prelude.{◌≡◌, ℕ, ◌<◌, [], ◌∷◌, Bool, true, false, cond, nat_lt, Result, Ok, Err, refl, ◌↔◌}
use Rattle.std.proofs.Common.{sym, ◌∙◌, ap, subst}
use Rattle.snesl_data.specs.declared.dialect.Dialect.{Dialect}
use Rattle.snesl_data.specs.declared.fault.FaultKind.{FaultKind}
use Rattle.snesl_data.specs.declared.fault.FaultKind.TheVariants.{Shape}
use Rattle.flow_messages.specs.Cells.{Cell, is_of}
use Rattle.flow_messages.specs.Signals.{Signal, carry, stop}
use Rattle.flow_base.specs.Lists.{Lists, push, with_port, HasFirst}
use Rattle.flow_base.specs.Ports.{at_port, put_back, nothing_at, NothingAt-from}
use Rattle.flow_base.specs.Ranges.{CellInRange, SignalInRange}
use Rattle.flow_base.specs.Machines.{Taking, Move, begins, takes, Machine, ask_of, state_after_read, OfNext, SoundRead}
use Rattle.flow_base.specs.Bodies.{Body, BodyAfter, take_read, begin_read, begin_stop, begin_none, take_full, other_kind, of_kind_there, in_range_there}
use Rattle.flow_base.specs.Promises.{KeepsRead}
use Rattle.flow_base.specs.Nodes.{NodeState, node_state, opened, behaviour_of, want_in, went_on, at_end, node_after_read}
use Rattle.flow_base.specs.ClosedLists.{AreClosed, closed_full, carried, stopped, closed_rest, closed_more, ends_less, ends_more, ends_closed, closed_ends}
use Rattle.flow_base.specs.NodePromises.{Remains, owes_in, over_in, promise_of, closing_owes}
use Rattle.flow_base.specs.declared.node.Phase.TheVariants.{Working, Closing, Ending}

module _ {P S : Type 0} (m : Machine P S) (p : P) (s : S) (at : ℕ) where
  abbrev here : NodeState (P × S)
  here = node_state (p, s) Working at

  abbrev Owes : NodeState (P × S) → Lists Signal → Lists Signal → Type 0
  Owes n i o = owes_in m n.phase n.worker i o

  -- where an item leads
  moved_forth : (r : Result S FaultKind) (i o : Lists Signal) (ins outs : Lists Cell) → BodyAfter m p r ins outs → AreClosed (m.inputs p) i ins →
      AreClosed (m.outputs p) o outs → Owes (went_on m here r) i o
  moved_forth (Ok next) i o ins outs body ci co = record { ins = ins; outs = outs; body = body; closed_ins = ci; closed_outs = co }
  moved_forth (Err kind) i o ins outs body ci co = absurd body

  moved_back : (r : Result S FaultKind) (i o : Lists Signal) → Owes (went_on m here r) i o → (ins : Lists Cell) × (outs : Lists Cell)
      × BodyAfter m p r ins outs × AreClosed (m.inputs p) i ins × AreClosed (m.outputs p) o outs
  moved_back (Ok next) i o h = (h.ins, h.outs, h.body, h.closed_ins, h.closed_outs)
  moved_back (Err kind) i o h = absurd h

  moved_opening : (r : Result S FaultKind) → (behaviour_of m).opening (went_on m here r) ≡ opened (p, m.start) at
  moved_opening (Ok next) = refl
  moved_opening (Err kind) = refl

  moved_of_kind : (r : Result S FaultKind) → m.of_kind p s → OfNext r (m.of_kind p) → (behaviour_of m).of_kind (went_on m here r)
  moved_of_kind (Ok next) held after = after
  moved_of_kind (Err kind) held after = held

  moved_in_range : (dialect : Dialect) (r : Result S FaultKind) → m.in_range dialect p s → OfNext r (m.in_range dialect p) → (behaviour_of m).in_range dialect (went_on m here r)
  moved_in_range dialect (Ok next) own after = after
  moved_in_range dialect (Err kind) own after = own

  -- What is known of a move that reads port q.
  record ReadsBy (v : Move S) (q : ℕ) : Type 0 where
    port : q < m.inputs p
    steps : (x : Cell) (i o : Lists Cell) → Body m p v (push q x i) o ↔ BodyAfter m p (state_after_read v x) i o
    kinds : (x : Cell) → is_of (m.kind_in p q) x ≡ false → state_after_read v x ≡ Err Shape
    of_kind : (x : Cell) → m.of_kind p s → OfNext (state_after_read v x) (m.of_kind p)
    in_range : (dialect : Dialect) (x : Cell) → m.of_kind p s → m.in_range dialect p s → CellInRange dialect x → OfNext (state_after_read v x) (m.in_range dialect p)

  module _ (v : Move S) (q : ℕ) (law : ReadsBy v q) where
    item_forth : (x : Cell) (i o : Lists Signal) → Remains m p v (push q (carry x) i) o → Owes (went_on m here (state_after_read v x)) i o
    item_forth x i o h =
        let front = carried x (i q) (h.ins q) (sym (at_port q (carry x ∷ i q) i) ∙ h.closed_ins q law.port) in
        let less = with_port q front.0 h.ins in
        let body : Body m p v (push q x less) h.outs = subst (λ l. Body m p v l h.outs) (sym (put_back q x front.0 h.ins front.1)) h.body in
        moved_forth (state_after_read v x) i o less h.outs ((law.steps x less h.outs).0 body) (closed_rest (m.inputs p) q (carry x) i h.ins front.0 front.2 h.closed_ins) h.closed_outs

    item_back : (x : Cell) (i o : Lists Signal) → Owes (went_on m here (state_after_read v x)) i o → Remains m p v (push q (carry x) i) o
    item_back x i o h =
        let g = moved_back (state_after_read v x) i o h in
        record {
          ins = push q x g.0;
          outs = g.1;
          body = (law.steps x g.0 g.1).1 g.2;
          closed_ins = closed_more (m.inputs p) q x i g.0 law.port g.3;
          closed_outs = g.4;
        }

    -- the node after an end
    abbrev AtEnd : NodeState (P × S)
    AtEnd = at_end m (ask_of v) here

    -- what is known of a read while the worker works, but for what the end leads to
    reading : m.move p s ≡ v
        → ((i o : Lists Signal) → Remains m p v (push q stop i) o ↔ Owes AtEnd i o)
        → (AtEnd.worker ≡ (p, s))
        → ((behaviour_of m).opening AtEnd ≡ opened (p, m.start) at)
        → (over_in AtEnd.phase q ≡ true)
        → KeepsRead (behaviour_of m) (promise_of m) here q
    reading e end_steps end_worker end_stays end_passed = record {
      port = law.port;
      full = λ i o h. closed_full (i q) (h.ins q) (h.closed_ins q law.port);
      steps = message;
      stays = opening;
      open_yet = refl;
      ends = ap (λ w. over_in (at_end m (ask_of w) here).phase q) e ∙ end_passed;
      still_in = λ message k h. absurd (cc);
      still_out = λ message k h. absurd (cc);
      kinds = λ x other. ap (λ r. want_in m (went_on m here r).phase (went_on m here r)) (ap (λ w. state_after_read w x) e ∙ law.kinds x other);
      of_kind = of_kind;
      in_range = in_range;
    }
      where
        message : (x : Signal) (i o : Lists Signal) → Remains m p (m.move p s) (push q x i) o ↔ Owes (node_after_read m Working here x) i o
        message (carry x) i o = subst (λ w. Remains m p w (push q (carry x) i) o ↔ Owes (went_on m here (state_after_read w x)) i o) (sym e) (λ h. item_forth x i o h, λ h. item_back x i o h)
        message stop i o = subst (λ w. Remains m p w (push q stop i) o ↔ Owes (at_end m (ask_of w) here) i o) (sym e) (end_steps i o)

        opening : (x : Signal) → (behaviour_of m).opening (node_after_read m Working here x) ≡ opened (p, m.start) at
        opening (carry x) = moved_opening (state_after_read (m.move p s) x)
        opening stop = ap (λ w. (behaviour_of m).opening (at_end m (ask_of w) here)) e ∙ end_stays

        worker_at_end : (at_end m (ask_of (m.move p s)) here).worker ≡ (p, s)
        worker_at_end = ap (λ w. (at_end m (ask_of w) here).worker) e ∙ end_worker

        of_kind : (x : Signal) → m.of_kind p s → (behaviour_of m).of_kind (node_after_read m Working here x)
        of_kind (carry x) held = moved_of_kind (state_after_read (m.move p s) x) held (subst (λ w. OfNext (state_after_read w x) (m.of_kind p)) (sym e) (law.of_kind x held))
        of_kind stop held = subst (λ w. m.of_kind w.0 w.1) (sym worker_at_end) held

        in_range : (dialect : Dialect) (x : Signal) → m.of_kind p s → m.in_range dialect p s → SignalInRange dialect x → (behaviour_of m).in_range dialect (node_after_read m Working here x)
        in_range dialect (carry x) held own range =
            moved_in_range dialect (state_after_read (m.move p s) x) own
            (subst (λ w. OfNext (state_after_read w x) (m.in_range dialect p)) (sym e) (law.in_range dialect x held own range))
        in_range dialect stop held own range = subst (λ w. m.in_range dialect w.0 w.1) (sym worker_at_end) own

  -- a read within an instance
  pub take_keeps : (q : ℕ) (t : Taking S) → m.move p s ≡ takes q t → SoundRead m p s q t → KeepsRead (behaviour_of m) (promise_of m) (node_state (p, s) Working at) q
  take_keeps q t e law = reading (takes q t) q reads e (λ i o. (λ h. absurd (never i o h), λ h. absurd h)) refl refl refl
    where
      reads : ReadsBy (takes q t) q
      reads = record {
        port = law.0;
        steps = λ x i o. take_read m p q t x i o law.0;
        kinds = λ x e. other_kind t x (ap (λ k. is_of k x) (sym law.1) ∙ e);
        of_kind = λ x held. of_kind_there (m.of_kind p) t x (law.2 held);
        in_range = λ dialect x held own range. in_range_there dialect (m.in_range dialect p) t x (law.3 dialect held own) range;
      }

      never : (i o : Lists Signal) → Remains m p (takes q t) (push q stop i) o → ⊥
      never i o h =
          let ended = stopped (i q) (h.ins q) (sym (at_port q (stop ∷ i q) i) ∙ h.closed_ins q law.0) in
          subst (λ l. HasFirst l) ended.0 (take_full m p q t h.ins h.outs law.0 h.body)

  -- a read between two instances
  pub begin_keeps : (t : Taking S) → m.move p s ≡ begins t → SoundRead m p s 0 t → KeepsRead (behaviour_of m) (promise_of m) (node_state (p, s) Working at) 0
  begin_keeps t e law = reading (begins t) 0 reads e (λ i o. (λ h. forth i o h, λ h. back i o h)) refl refl (passed (nat_lt 1 (m.inputs p)))
    where
      reads : ReadsBy (begins t) 0
      reads = record {
        port = law.0;
        steps = λ x i o. begin_read m p t x i o law.0;
        kinds = λ x e. other_kind t x (ap (λ k. is_of k x) (sym law.1) ∙ e);
        of_kind = λ x held. of_kind_there (m.of_kind p) t x (law.2 held);
        in_range = λ dialect x held own range. in_range_there dialect (m.in_range dialect p) t x (law.3 dialect held own) range;
      }

      passed : (b : Bool) → over_in (cond b (Closing 1) (Ending 0)) 0 ≡ true
      passed true = refl
      passed false = refl

      forth : (i o : Lists Signal) → Remains m p (begins t) (push 0 stop i) o → owes_in m (cond (nat_lt 1 (m.inputs p)) (Closing 1) (Ending 0)) (p, s) i o
      forth i o h =
          let ended = stopped (i 0) (h.ins 0) (sym (at_port 0 (stop ∷ i 0) i) ∙ h.closed_ins 0 law.0) in
          let nothing = begin_stop m p t h.ins h.outs law.0 ended.0 h.body in
          let ins = closed_ends (m.inputs p) (push 0 stop i) h.ins h.closed_ins (nothing_at (m.inputs p) h.ins nothing.0) in
          let outs = closed_ends (m.outputs p) o h.outs h.closed_outs (nothing_at (m.outputs p) h.outs nothing.1) in
          (closing_owes m (nat_lt 1 (m.inputs p)) (p, s) 1 i o refl).0 (ends_less 0 (m.inputs p) i law.0 ins, outs)

      back : (i o : Lists Signal) → owes_in m (cond (nat_lt 1 (m.inputs p)) (Closing 1) (Ending 0)) (p, s) i o → Remains m p (begins t) (push 0 stop i) o
      back i o h =
          let g = (closing_owes m (nat_lt 1 (m.inputs p)) (p, s) 1 i o refl).1 h in
          record {
            ins = λ _. [];
            outs = λ _. [];
            body = begin_none m p t (λ _. []) (λ _. []) (NothingAt-from (m.inputs p) (λ _. []) (λ p lt. refl)) (NothingAt-from (m.outputs p) (λ _. []) (λ p lt. refl));
            closed_ins = ends_closed (m.inputs p) (push 0 stop i) (ends_more 0 (m.inputs p) i law.0 g.0);
            closed_outs = ends_closed (m.outputs p) o g.1;
          }
