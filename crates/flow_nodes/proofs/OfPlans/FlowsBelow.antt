-- Flows on the edges that come from the first nodes, as far as streams are there.
use Rattle.std.specs.Prelude.{◌≡◌, ℕ, suc, ◌<◌, List, [], ◌∷◌, ◌++◌, length, Some}
use Rattle.std.specs.List.{slice_get}
use Rattle.std.proofs.Common.{inl, inr, sym, ◌∙◌, ap, subst, arith, append_assoc, append-nil}
use Rattle.std.proofs.lemmas.List.{length_push}
use Rattle.flow_messages.specs.Cells.{Cell}
use Rattle.flow_base.specs.Columns.{Columns}
use Rattle.flow_base.specs.Ports.{ports}
use Rattle.flow_base.specs.Transducers.{Behaviour}
use Rattle.flow_nodes.specs.functions.Lists.{bind}
use Rattle.flow_nodes.proofs.OfFunctions.Options.{bind_gives}
use Rattle.flow_networks.specs.declared.edge.Edge.{Edge}
use Rattle.flow_networks.specs.Edges.{edge_at, in_edge}
use Rattle.flow_nodes.specs.plans.Plans.{Step}
use Rattle.flow_nodes.specs.plans.Layouts.{Placed, layout}
use Rattle.flow_nodes.proofs.OfPlans.Places.{get_left, get_right, replicate_place}
use Rattle.flow_nodes.proofs.OfPlans.Behind.{IsCopy, AreCopies}
use Rattle.flow_nodes.proofs.OfPlans.Nodes.{IsPlanned, stream_on, stream_in, stream_out, port_out, edge_to, writer_before}

-- the edge carries the stream that it joins
abbrev pub IsCarried : List Step → List Edge → (ℕ → List Cell) → Columns → ℕ → Type 0
IsCarried plan edges bodies streams e = bind (stream_on plan edges e) (slice_get streams) ≡ Some (bodies e)

-- so do all edges from nodes of smaller numbers
abbrev pub AreCarriedBelow : List Step → List Edge → (ℕ → List Cell) → Columns → ℕ → Type 0
AreCarriedBelow plan edges bodies streams k = (e : ℕ) → e < length edges → (edge_at edges e).writer < k → IsCarried plan edges bodies streams e

module _ (plan : List Step) (edges : List Edge) (bodies : ℕ → List Cell) where
  -- with those from one node more
  pub carried_next : (streams : Columns) (k : ℕ) → AreCarriedBelow plan edges bodies streams k
      → ((e : ℕ) → e < length edges → (edge_at edges e).writer ≡ k → IsCarried plan edges bodies streams e) → AreCarriedBelow plan edges bodies streams (suc k)
  carried_next streams k below here e inside lt = elim (ports (edge_at edges e).writer k) [
    | inl is ↦ here e inside is
    | inr other ↦ below e inside (omega (arith, lt, other))
  ]

  -- with streams more
  pub carried_more : (streams more : Columns) (k : ℕ) → AreCarriedBelow plan edges bodies streams k → AreCarriedBelow plan edges bodies (streams ++ more) k
  carried_more streams more k below e inside lt =
      let g = bind_gives (stream_on plan edges e) (slice_get streams) (below e inside lt) in
      ap (λ o. bind o (slice_get (streams ++ more))) g.1 ∙ get_left streams more g.0 (bodies e) g.2

module _ {S : Type 0} {b : Behaviour S} {plan : List Step} {states : List S} {edges : List Edge} (given : IsPlanned b plan states edges) where
  -- the streams that a node reads are those that its edges carry
  pub read_at : (bodies : ℕ → List Cell) (streams : Columns) (k : ℕ) (placed : Placed) (there : slice_get (layout plan) k ≡ Some placed) → AreCarriedBelow plan edges bodies streams k
      → (p : ℕ) → p < length placed.reads → bind (slice_get placed.reads p) (slice_get streams) ≡ Some (bodies (in_edge edges k p))
  read_at bodies streams k placed there below p lt =
      ap (λ o. bind o (slice_get streams)) (sym (stream_in given k placed there p lt)) ∙ below (in_edge edges k p) (edge_to given k placed there p lt).0 (writer_before given k placed there p lt)

  -- what comes to a copy is what its edges are to carry
  module _ (bodies : ℕ → List Cell) (streams : Columns) (k : ℕ) (placed : Placed) (there : slice_get (layout plan) k ≡ Some placed)
      (copy : IsCopy placed) (below : AreCarriedBelow plan edges bodies streams k) where
    pub one_read : 0 < length placed.reads
    one_read = omega (arith, ap length copy.reads)

    came : slice_get streams copy.stream ≡ Some (bodies (in_edge edges k 0))
    came = ap (λ l. bind (slice_get l 0) (slice_get streams)) (sym copy.reads) ∙ read_at bodies streams k placed there below 0 one_read

    pub copied : (e : ℕ) → e < length edges → (edge_at edges e).writer ≡ k → bind (stream_on plan edges e) (slice_get streams) ≡ Some (bodies (in_edge edges k 0))
    copied e inside is =
        let q = (edge_at edges e).writer_port in
        let port : q < copy.count = omega (arith, port_out given k placed there e inside is, copy.kinds_written) in
        ap (λ o. bind o (slice_get streams)) (stream_out given k placed there e is ∙ ap (λ l. slice_get l q) copy.writes ∙ replicate_place copy.count copy.stream q port) ∙ came

  -- where what holds below a copy holds after it, it holds after all copies that stand in a row
  pub after_all : (Holds : ℕ → Type 0) → ((k : ℕ) (placed : Placed) → slice_get (layout plan) k ≡ Some placed → IsCopy placed → Holds k → Holds (suc k))
      → (before copies rest : List Placed) → AreCopies copies → layout plan ≡ before ++ (copies ++ rest) → Holds (length before) → Holds (length (before ++ copies))
  after_all Holds next before [] rest all is holds = subst (λ (l : List Placed). Holds (length l)) (sym (append-nil before)) holds
  after_all Holds next before (placed ∷ copies) rest all is holds =
      let there : slice_get (layout plan) (length before) ≡ Some placed = ap (λ l. slice_get l (length before)) is ∙ get_right before (placed ∷ (copies ++ rest)) (length before) 0 (omega arith) in
      let more = before ++ placed ∷ [] in
      let long : suc (length before) ≡ length more = omega (arith, length_push before placed) in
      let first : Holds (length more) = subst Holds long (next (length before) placed there all.0 holds) in
      subst (λ (l : List Placed). Holds (length l)) (append_assoc before (placed ∷ []) copies)
      (after_all Holds next more copies rest all.1 (is ∙ sym (append_assoc before (placed ∷ []) (copies ++ rest))) first)
