-- What a pocket gives is of the kind of its edge, and comes after no end.
use Rattle.std.proofs.Common.{◌≡◌, suc, false, List, [], ◌∷◌, ◌++◌, sym, ap, ◌∙◌, subst, arith}
use Rattle.std.specs.Prelude.{Some}
use Rattle.std.specs.List.{All}
use Rattle.flow_messages.specs.declared.message.Kind.{Kind}
use Rattle.flow_messages.specs.declared.message.Msg.{Msg}
use Rattle.flow_messages.specs.Kinds.{FitsEdge}
use Rattle.flow_messages.specs.Signals.{signals, signal_of, ended, orderly}
use Rattle.flow_messages.specs.Stores.{content_of}
use Rattle.flow_words.specs.declared.ring.WordReader.{WordReader}
use Rattle.flow_words.specs.Edge.{received, reader_kind, HoldsItsEnd, HoldsKind, SameReader}
use Rattle.flow_words.proofs.InTurn.{open_before, ended_later}
use Rattle.flow_words.proofs.OfKind.{came_fits}
use Rattle.flow_edges.specs.declared.lanes.pocket.Pocket.{Pocket}
use Rattle.flow_edges.specs.lanes.Taken.{taken_from}

-- each of all is of the kind
fits_among : (k : Kind) (before : List Msg) (m : Msg) (after : List Msg) → All (λ x. FitsEdge (Some k) (signal_of x)) (before ++ m ∷ after) → FitsEdge (Some k) (signal_of m)
fits_among k [] m after all = all 0 m (omega arith)
fits_among k (x ∷ before) m after all = fits_among k before m after (λ i d low. all (suc i) d (omega (arith, low)))

module _ (p : Pocket) (m : Msg) (after : List Msg) (first : content_of p.inbox.store ≡ m ∷ after) where
  whole : taken_from p ++ m ∷ after ≡ received p.edge
  whole = ap (λ l. taken_from p ++ l) (sym first) ∙ p.inbox.fifo ∙ sym p.arrived ∙ p.all

  -- what a pocket gives comes after no end
  pub given_open : ended (signals (taken_from p)) ≡ false
  given_open = open_before (taken_from p) m after (ap (λ (ms : List Msg). orderly (signals ms)) whole ∙ p.edge.orderly)

  -- and is of its kind
  pub given_fits : FitsEdge (Some (reader_kind p.edge)) (signal_of m)
  given_fits = fits_among (reader_kind p.edge) (taken_from p) m after (subst (All (λ x. FitsEdge (Some (reader_kind p.edge)) (signal_of x))) (sym whole) (came_fits p.edge.ring))

-- The inbox of a pocket goes on with what comes over its edge, also after a look.
module _ (p : Pocket) (r : WordReader) (same : SameReader p.edge r) (looked : received r ≡ received p.edge) where
  pub holds_kind : HoldsKind r p.inbox
  holds_kind = p.kind ∙ sym (ap (λ w. w.0) same)

  pub holds_its_end : HoldsItsEnd r p.inbox
  holds_its_end ends = ended_later (taken_from p) (content_of p.inbox.store) (received r) (p.inbox.fifo ∙ sym p.arrived ∙ p.all ∙ sym looked) ends
