-- A worker as a transducer keeps its promises where the worker writes.
use Rattle.std.specs.Prelude.{◌≡◌, ℕ, ◌<◌, List, ◌∷◌, true, refl, ◌↔◌}
use Rattle.std.proofs.Common.{sym, ◌∙◌, ap, subst}
use Rattle.flow_messages.specs.Cells.{Cell, is_of}
use Rattle.flow_messages.specs.Signals.{Signal, carry}
use Rattle.flow_base.specs.Lists.{Lists, push, with_port, First}
use Rattle.flow_base.specs.Ports.{at_port, put_back, take_away, first_of_list, First-from}
use Rattle.flow_base.specs.Ranges.{CellInRange}
use Rattle.flow_base.specs.Machines.{Move, gives, Machine, written_cell, state_after_write, SoundAt}
use Rattle.flow_base.specs.Bodies.{Body, give_write}
use Rattle.flow_base.specs.Transducers.{closed}
use Rattle.flow_base.specs.Promises.{KeepsWrite}
use Rattle.flow_base.specs.Nodes.{node_state, behaviour_of}
use Rattle.flow_base.specs.ClosedLists.{closed_port, closed_more}
use Rattle.flow_base.specs.NodePromises.{Remains, promise_of}
use Rattle.flow_base.specs.declared.node.Phase.TheVariants.{Working}

module _ {P S : Type 0} (m : Machine P S) (p : P) (s : S) where
  -- what is left after a write by this move: what was written, the others at its port, and the others at each
  abbrev After : Move S → ℕ → Lists Signal → Lists Signal → Signal → List Signal → Type 0
  After v q i o x r = (x ≡ carry (written_cell v)) × Remains m p (m.move p (state_after_write s v)) i (with_port q r o)

  -- what is left to the worker after it wrote c
  abbrev Wrote : ℕ → Cell → S → Lists Cell → Lists Cell → Cell → List Cell → Type 0
  Wrote q c next i o x r = (x ≡ c) × Body m p (m.move p next) i (with_port q r o)

  -- a write within an instance
  pub give_keeps : (q : ℕ) (c : Cell) (next : S) (at : ℕ) → m.move p s ≡ gives q c next → SoundAt m p s (gives q c next) → KeepsWrite (behaviour_of m) (promise_of m) (node_state (p, s) Working at) q
  give_keeps q c next at e law = record {
    port = law.0;
    steps = λ i o. subst (λ v. Remains m p v i o ↔ First (o q) (After v q i o)) (sym e) (λ h. forth i o h, λ h. back i o h);
    falls = subst (λ v. m.debt p (state_after_write s v) < m.debt p s) (sym e) law.1;
    stays = refl;
    open_yet = refl;
    ends = λ h. absurd (cc);
    still_in = λ k h. absurd (cc);
    still_out = λ k h. absurd (cc);
    of_kind = λ held. subst (λ v. (is_of (m.kind_out p q) (written_cell v) ≡ true) × m.of_kind p (state_after_write s v)) (sym e) (law.2 held);
    in_range = λ dialect held own. subst (λ v. CellInRange dialect (written_cell v) × m.in_range dialect p (state_after_write s v)) (sym e) (law.3 dialect held own);
  }
    where
      forth : (i o : Lists Signal) → Remains m p (gives q c next) i o → First (o q) (After (gives q c next) q i o)
      forth i o h =
          let first = first_of_list (h.outs q) (Wrote q c next h.ins h.outs) ((give_write m p q c next h.ins h.outs law.0).0 h.body) in
          let filled : o q ≡ carry first.0 ∷ closed first.1 = h.closed_outs q law.0 ∙ ap closed first.2 in
          First-from (o q) (carry first.0) (closed first.1) (After (gives q c next) q i o) filled (
            ap carry first.3.0,
            record {
              ins = h.ins;
              outs = with_port q first.1 h.outs;
              body = first.3.1;
              closed_ins = h.closed_ins;
              closed_outs = closed_port (m.outputs p) q o h.outs first.1 h.closed_outs;
            },
          )

      back : (i o : Lists Signal) → First (o q) (After (gives q c next) q i o) → Remains m p (gives q c next) i o
      back i o h =
          let first = first_of_list (o q) (After (gives q c next) q i o) h in
          let g = first.3.1 in
          let less = with_port q first.1 o in
          let more = push q c g.outs in
          let body : Body m p (m.move p next) g.ins (with_port q (g.outs q) more) = subst (λ l. Body m p (m.move p next) g.ins l) (sym (take_away q c g.outs)) g.body in
          let whole : push q (carry c) less ≡ o = put_back q (carry c) first.1 o (first.2 ∙ ap (λ x. x ∷ first.1) first.3.0) in
          record {
            ins = g.ins;
            outs = more;
            body = (give_write m p q c next g.ins more law.0).1 (First-from (more q) c (g.outs q) (Wrote q c next g.ins more) (at_port q (c ∷ g.outs q) g.outs) (refl, body));
            closed_ins = g.closed_ins;
            closed_outs = subst (λ l. (k : ℕ) → k < m.outputs p → l k ≡ closed (more k)) whole (closed_more (m.outputs p) q c less g.outs law.0 g.closed_outs);
          }
