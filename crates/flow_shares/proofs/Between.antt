-- Lists that only grow: where nothing was put or taken from first to last, nothing was in between.
use Rattle.std.proofs.Common.{◌≡◌, ◌≢◌, ℕ, suc, ◌<◌, ◌≤◌, List, [], ◌∷◌, ◌++◌, length, get_or, ◌⊎◌, inl, inr, sym, ◌∙◌, ap, subst, arith, append-nil, append_assoc, length-append}
use Rattle.std.specs.List.{All}
use Rattle.std.proofs.lemmas.Bool.{cases_eq}
use Rattle.std.proofs.lemmas.List.Elements.{All-nil, All-cons}
use Rattle.kahn.specs.Basics.{Begins}
use Rattle.kahn.specs.Processes.{reads, writes}
use Rattle.flow_messages.specs.Ends.{View, SameTraffic}
use Rattle.flow_base.specs.declared.transducer.Transducer.{Ghosts}
use Rattle.flow_base.specs.Visits.{edge_of, IsNone}
use Rattle.flow_networks.specs.declared.placed.Placed.{Placed}
use Rattle.flow_shares.specs.Shares.{inputs_of, outputs_of, Grows, HaveMoved, HaveMovedAndLost}

-- an edge is none of these, or is at a port
find_port : (e : ℕ) (edges : List ℕ) → IsNone edges e ⊎ ((p : ℕ) × (p < length edges) × (e ≡ edge_of edges p))
find_port e [] = inl (All-nil (λ f. e ≢ f))
find_port e (f ∷ edges) = go (cases_eq e f) (find_port e edges)
  where
    go : (e ≡ f) ⊎ (e ≡ f → ⊥) → IsNone edges e ⊎ ((p : ℕ) × (p < length edges) × (e ≡ edge_of edges p)) → IsNone (f ∷ edges) e ⊎ ((p : ℕ) × (p < length (f ∷ edges)) × (e ≡ edge_of (f ∷ edges) p))
    go (inl same) rest = inr (0, omega arith, same)
    go (inr other) (inl none) = inl (All-cons (λ g. e ≢ g) f edges other none)
    go (inr other) (inr (p, inside, is)) = inr (suc p, omega (arith, inside), is)

-- an edge is at no port of these nodes, or is at one
pub find_node : {X : Type 0} (edges : X → List ℕ) (e : ℕ) (nodes : List X) →
    All (λ node. IsNone (edges node) e) nodes ⊎
    ((k p : ℕ) × (d : X) × (k < length nodes) × (p < length (edges (get_or nodes k d))) × (e ≡ edge_of (edges (get_or nodes k d)) p))
find_node edges e [] = inl (All-nil (λ node. IsNone (edges node) e))
find_node {X} edges e (node ∷ nodes) = go (find_port e (edges node)) (find_node edges e nodes)
  where
    go : IsNone (edges node) e ⊎ ((p : ℕ) × (p < length (edges node)) × (e ≡ edge_of (edges node) p))
        → All (λ node. IsNone (edges node) e) nodes ⊎ ((k p : ℕ) × (d : X) × (k < length nodes) × (p < length (edges (get_or nodes k d))) × (e ≡ edge_of (edges (get_or nodes k d)) p))
        → All (λ node. IsNone (edges node) e) (node ∷ nodes) ⊎
        ((k p : ℕ) × (d : X) × (k < length (node ∷ nodes)) × (p < length (edges (get_or (node ∷ nodes) k d)))
        × (e ≡ edge_of (edges (get_or (node ∷ nodes) k d)) p))
    go (inr (p, inside, is)) rest = inr (0, p, node, omega arith, inside, is)
    go (inl none) (inl nones) = inl (All-cons (λ n. IsNone (edges n) e) node nodes none nones)
    go (inl none) (inr (k, p, d, l, inside, is)) = inr (suc k, p, d, omega (arith, l), inside, is)

pub moved_grows : {X : Type 0} {t : Ghosts X} (nodes later : List (Placed X t)) (a v : View) → HaveMoved nodes later a v → Grows a v
moved_grows {X} {t} nodes later a v moved = record {
  received = λ e. elim (find_node inputs_of e nodes) [
    | inl none ↦ ([], append-nil (a.received e) ∙ sym (moved.other_received e none))
    | inr (k, p, d, l, port, is) ↦ subst (λ f. Begins (a.received f) (v.received f)) (sym is) (reads p (moved.history k), sym (moved.received k p d l port))
  ];
  sent = λ e. elim (find_node outputs_of e nodes) [
    | inl none ↦ ([], append-nil (a.sent e) ∙ sym (moved.other_sent e none))
    | inr (k, q, d, l, port, is) ↦ subst (λ f. Begins (a.sent f) (v.sent f)) (sym is) (writes q (moved.history k), sym (moved.sent k q d l port))
  ];
}

-- and so they do where memory was refused, and one message may be lost
pub lost_grows : {X : Type 0} {t : Ghosts X} (nodes later : List (Placed X t)) (a v : View) → HaveMovedAndLost nodes later a v → Grows a v
lost_grows {X} {t} nodes later a v moved = record {
  received = λ e. elim (find_node inputs_of e nodes) [
    | inl none ↦ ([], append-nil (a.received e) ∙ sym (moved.other_received e none))
    | inr (k, p, d, l, port, is) ↦ (
        let f = edge_of (inputs_of (get_or nodes k d)) p in
        let came = (moved.received k p d l port).0 in
        subst (λ f. Begins (a.received f) (v.received f)) (sym is) (reads p (moved.history k) ++ came.0, sym (append_assoc (a.received f) (reads p (moved.history k)) came.0) ∙ came.1)
        )
  ];
  sent = λ e. elim (find_node outputs_of e nodes) [
    | inl none ↦ ([], append-nil (a.sent e) ∙ sym (moved.other_sent e none))
    | inr (k, p, d, l, port, is) ↦ subst (λ f. Begins (a.sent f) (v.sent f)) (sym is) (writes p (moved.history k), sym (moved.sent k p d l port))
  ];
}

pub begins_length : {X : Type 0} (xs ys : List X) → Begins xs ys → length xs ≤ length ys
begins_length xs ys (rest, is) = omega (arith, ap length is, length-append xs rest)

-- a list that is no longer than its beginning
pub no_more : {X : Type 0} (xs ys : List X) → Begins xs ys → length ys ≤ length xs → ys ≡ xs
no_more xs ys ([], is) short = sym is ∙ append-nil xs
no_more xs ys (x ∷ rest, is) short = absurd (omega (arith, short, ap length is, length-append xs (x ∷ rest)))

module _ {X : Type 0} (xs ys zs : List X) (h : Begins xs ys) (g : Begins ys zs) (same : zs ≡ xs) where
  pub first_same : ys ≡ xs
  first_same = no_more xs ys h (omega (arith, begins_length ys zs g, ap length same))

  pub second_same : zs ≡ ys
  second_same = no_more ys zs g (omega (arith, begins_length xs ys h, ap length same))

module _ (a v w : View) (h : Grows a v) (g : Grows v w) (same : SameTraffic a w) where
  pub same_first : SameTraffic a v
  same_first = record {
    sent = λ e. first_same (a.sent e) (v.sent e) (w.sent e) (h.sent e) (g.sent e) (same.sent e);
    received = λ e. first_same (a.received e) (v.received e) (w.received e) (h.received e) (g.received e) (same.received e);
  }

  pub same_second : SameTraffic v w
  same_second = record {
    sent = λ e. second_same (a.sent e) (v.sent e) (w.sent e) (h.sent e) (g.sent e) (same.sent e);
    received = λ e. second_same (a.received e) (v.received e) (w.received e) (h.received e) (g.received e) (same.received e);
  }
