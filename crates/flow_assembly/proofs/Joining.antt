-- One more edge, and one more node, in a network that is being built.
use Rattle.std.specs.Prelude.{◌≡◌, ℕ, suc, ◌+◌, ◌<◌, ◌≤◌, ◌^◌, ◌==◌, ◌&&◌, ◌⊎◌, List, [], ◌∷◌, ◌++◌, length, map, drop, Some, refl}
use Rattle.std.specs.List.{slice_get}
use Rattle.std.proofs.Common.{sym, ◌∙◌, ap, subst, arith, inl, inr, set, get_or-set_same, get_or-set_other, append-nil}
use Rattle.std.proofs.lemmas.Bool.{cases_eq, cases_lt}
use Rattle.std.proofs.lemmas.List.{length_push, length-set, get_or_append_left, get_or_past, get_or-map, length-map}
use Rattle.std.proofs.lemmas.Option.{slice_get_within}
use Rattle.std.proofs.Math.Seq.{get_or-append_seam}
use Rattle.flow_messages.specs.declared.message.Kind.{Kind}
use Rattle.flow_nodes.specs.functions.Lists.{bind}
use Rattle.flow_messages.specs.declared.message.Kind.TheVariants.{Unit as UnitKind}
use Rattle.flow_networks.specs.declared.edge.Edge.{Edge}
use Rattle.flow_networks.specs.Edges.{edge_at, out_edge, IsTakenIn, IsTakenOut}
use Rattle.flow_networks.specs.Networks.{state_at, outputs_at, inputs_at, kind_from, kind_to, MayJoin, IsJoined}
use Rattle.flow_nodes.specs.StreamNodes.{NodeKind, member, node_behaviour}
use Rattle.flow_nodes.specs.plans.Ports.{kinds_read, kinds_written}
use Rattle.flow_nodes.specs.plans.Layouts.{Placed, outputs_from, stream_from, stream_to, Performs}
use Rattle.flow_assembly.specs.declared.network.Port.{Port}
use Rattle.flow_assembly.specs.Openings.{IsOpening, OpeningsPerform}
use Rattle.flow_assembly.specs.Joined.{supplier, edge_from, port_after, at_stream, run_of, ComesBefore, IsJoinedTo}
use Rattle.flow_assembly.proofs.Pushes.{each_push, found_stays, found_last, none_stays, none_found, both_are, not_both}
use Rattle.flow_assembly.proofs.Ordering.{Supplies, order_relabelled, order_joined, order_passed}
use Rattle.flow_assembly.proofs.Fitting.{FitsKinds, bound, each_at, each_length, some_same, stands_at}

abbrev State : Type 0
State = (t : NodeKind) × (member t).State

abbrev no_edge : Edge
no_edge = record { writer = 0; writer_port = 0; reader = 0; reader_port = 0 }

abbrev no_port : Port
no_port = record { node = 0; port = 0 }

not_before : (k q r p : ℕ) → ComesBefore k q r p → k ≡ r → q ≡ p → ⊥
not_before k q r p (inl lt) same too = omega arith
not_before k q r p (inr (at, lt)) same too = omega arith

-- what comes before the next port is this one, or comes before it
before_next : (k q r p : ℕ) → ComesBefore k q r (p + 1) → ComesBefore k q r p ⊎ ((k ≡ r) × (q ≡ p))
before_next k q r p (inl lt) = inl (inl lt)
before_next k q r p (inr (at, lt)) = elim (cases_lt q p) [ inl less ↦ inl (inr (at, less)) | inr more ↦ inr (at, omega arith) ]

before_more : (k q r p : ℕ) → ComesBefore k q r p → ComesBefore k q r (p + 1)
before_more k q r p (inl lt) = inl lt
before_more k q r p (inr (at, lt)) = inr (at, omega arith)

-- the output port is among the next n of this supplier
abbrev pub IsAmong : (k q : ℕ) → Port → ℕ → Type 0
IsAmong k q from n = (k ≡ from.node) × (from.port ≤ q) × (q < from.port + n)

module _ (nodes : List Placed) (left : ℕ → ℕ) (supply : List Port) (r p : ℕ) (states : List State) (edges : List Edge) (is : IsJoinedTo nodes left supply r p states edges) where
  module _ (kinds : List Kind) (perform : OpeningsPerform) (fit : (k : ℕ) (placed : Placed) → slice_get nodes k ≡ Some placed → FitsKinds kinds placed) where
    pub performs_at : (k : ℕ) (placed : Placed) → k < length states → slice_get nodes k ≡ Some placed → Performs node_behaviour placed.operation (state_at node_behaviour states k)
    performs_at k placed lt at = perform placed.at placed.operation (state_at node_behaviour states k) (fit k placed at).usable (is.opens k placed lt at)

    -- a port with a stream is there, and of the stream's kind
    port_out : (k q s : ℕ) → k < length states → stream_from nodes k q ≡ Some s → (q < outputs_at node_behaviour states k) × (Some (kind_from node_behaviour states k q) ≡ slice_get kinds s)
    port_out k q s lt from =
        let found = bound (slice_get nodes k) (λ placed. slice_get placed.writes q) s from in
        let does : Performs node_behaviour found.0.operation (state_at node_behaviour states k) = performs_at k found.0 lt found.1 in
        let writes = (fit k found.0 found.1).writes in
        let many = each_length (slice_get kinds) found.0.writes (kinds_written found.0.operation) writes in
        let inside : q < length found.0.writes = slice_get_within found.0.writes q s found.2 in
        let there : q < node_behaviour.outputs (state_at node_behaviour states k) = omega (arith, does.outputs, many, inside) in
        let outputs = get_or-map node_behaviour.outputs states k node_behaviour.sample 0 lt in
        let kind = get_or-map (λ s. node_behaviour.kind_out s q) states k node_behaviour.sample UnitKind lt in (
          subst (λ n. q < n) (sym outputs) there,
          ap Some kind ∙ sym (does.kinds_out q there) ∙ each_at (slice_get kinds) found.0.writes (kinds_written found.0.operation) writes q s found.2,
        )

    port_in : (k q s : ℕ) → k < length states → stream_to nodes k q ≡ Some s → (q < inputs_at node_behaviour states k) × (Some (kind_to node_behaviour states k q) ≡ slice_get kinds s)
    port_in k q s lt to =
        let found = bound (slice_get nodes k) (λ placed. slice_get placed.reads q) s to in
        let does : Performs node_behaviour found.0.operation (state_at node_behaviour states k) = performs_at k found.0 lt found.1 in
        let reads = (fit k found.0 found.1).reads in
        let many = each_length (slice_get kinds) found.0.reads (kinds_read found.0.operation) reads in
        let inside : q < length found.0.reads = slice_get_within found.0.reads q s found.2 in
        let there : q < node_behaviour.inputs (state_at node_behaviour states k) = omega (arith, does.inputs, many, inside) in
        let inputs = get_or-map node_behaviour.inputs states k node_behaviour.sample 0 lt in
        let kind = get_or-map (λ s. node_behaviour.kind_in s q) states k node_behaviour.sample UnitKind lt in (
          subst (λ n. q < n) (sym inputs) there,
          ap Some kind ∙ sym (does.kinds_in q there) ∙ each_at (slice_get kinds) found.0.reads (kinds_read found.0.operation) reads q s found.2,
        )

    -- the supplier of a stream that has uses left may be joined to the port that comes next, where this reads the stream
    pub may_join : (s : ℕ) → s < length supply → 0 < left s → r < length states → stream_to nodes r p ≡ Some s → MayJoin node_behaviour states edges (edge_from (supplier supply s) r p)
    may_join s known uses there to =
        let from = supplier supply s in
        let before : from.node < r = is.node s known uses in
        let stream : stream_from nodes from.node (from.port + 0) ≡ Some s = is.stream s 0 known uses in
        let here : stream_from nodes from.node from.port ≡ Some s = subst (λ q. stream_from nodes from.node q ≡ Some s) (omega arith) stream in
        let out = port_out from.node from.port s (omega arith) here in
        let inp = port_in r p s there to in
        record {
          forward = before;
          node = there;
          output = out.0;
          input = inp.0;
          free_output = subst (λ q. length edges ≤ out_edge edges from.node q) (omega arith) (is.free s 0 known uses);
          free_input = none_found (λ edge. (edge.reader == r) && (edge.reader_port == p)) edges no_edge
              (λ e l. not_both (edge_at edges e).reader (edge_at edges e).reader_port r p
              (not_before (edge_at edges e).reader (edge_at edges e).reader_port r p (is.readers e l)));
          kinds = some_same (out.1 ∙ sym inp.1);
        }

  -- Joined
  module _ (left' : ℕ → ℕ) (s : ℕ) (there : s < length supply) (to : stream_to nodes r p ≡ Some s) (one : left s ≡ left' s + 1) (others : (t : ℕ) → (t ≡ s → ⊥) → left t ≡ left' t) where
    abbrev from : Port
    from = supplier supply s

    abbrev edge : Edge
    edge = edge_from from r p

    abbrev supply' : List Port
    supply' = set supply s (port_after from)

    abbrev edges' : List Edge
    edges' = edges ++ edge ∷ []

    uses : 0 < left s
    uses = omega arith

    from_is : stream_from nodes from.node from.port ≡ Some s
    from_is = subst (λ q. stream_from nodes from.node q ≡ Some s) (omega arith) (is.stream s 0 there uses)

    each_stream : (Q : ℕ → Port → ℕ → Type 0) → Q s (port_after from) (left' s) → ((t : ℕ) → (t ≡ s → ⊥) → Q t (supplier supply t) (left t)) → (t : ℕ) → Q t (supplier supply' t) (left' t)
    each_stream Q here other t = elim (cases_eq t s) [
      | inl same ↦ subst (λ u. Q u (supplier supply' u) (left' u)) (sym same) (subst (λ w. Q s w (left' s)) (sym (get_or-set_same supply s (port_after from) no_port there)) here)
      | inr ne ↦ subst (λ w. Q t w (left' t)) (sym (get_or-set_other supply s t (port_after from) no_port ne)) (subst (λ n. Q t (supplier supply t) n) (others t ne) (other t ne))
    ]

    shorter : (t : ℕ) → t < length supply' → t < length supply
    shorter t lt = omega (arith, length-set supply s (port_after from))

    written_here : (k q : ℕ) → k < r → stream_from nodes k q ≡ Some s → IsTakenOut edges' k q ⊎ IsAmong k q (port_after from) (left' s)
    written_here k q lt is_from = elim (is.written k q s lt is_from) [
      | inl taken ↦ inl (found_stays (λ e. (e.writer == k) && (e.writer_port == q)) edges edge taken)
      | inr at ↦ elim (cases_eq q from.port) [
        | inl same ↦ inl (found_last (λ e. (e.writer == k) && (e.writer_port == q)) edges edge (both_are from.node from.port k q (sym at.0) (sym same)))
        | inr ne ↦ inr (at.0, omega (arith, at.1), omega (arith, at.2, one))
      ]
    ]

    written_other : (t : ℕ) → (t ≡ s → ⊥) → (k q : ℕ) → k < r → stream_from nodes k q ≡ Some t → IsTakenOut edges' k q ⊎ IsAmong k q (supplier supply t) (left t)
    written_other t ne k q lt is_from = elim (is.written k q t lt is_from) [
      | inl taken ↦ inl (found_stays (λ e. (e.writer == k) && (e.writer_port == q)) edges edge taken)
      | inr at ↦ inr at
    ]

    free_here : (i : ℕ) → i < left' s → length edges' ≤ out_edge edges' from.node (from.port + 1 + i)
    free_here i lt =
        none_stays (λ e. (e.writer == from.node) && (e.writer_port == from.port + 1 + i)) edges edge
        (subst (λ q. length edges ≤ out_edge edges from.node q) (omega arith) (is.free s (i + 1) there (omega arith)))
        (not_both from.node from.port from.node (from.port + 1 + i) (λ same too. omega arith))

    free_other : (t : ℕ) → (t ≡ s → ⊥) → (i : ℕ) → t < length supply' → i < left t → length edges' ≤ out_edge edges' (supplier supply t).node ((supplier supply t).port + i)
    free_other t ne i lt uses =
        let at = supplier supply t in
        none_stays (λ e. (e.writer == at.node) && (e.writer_port == at.port + i)) edges edge (is.free t i (shorter t lt) uses)
        (not_both from.node from.port at.node (at.port + i) (λ same too.
        let e : Some t ≡ Some s = sym (is.stream t i (shorter t lt) uses) ∙ sym (ap (λ k. stream_from nodes k (at.port + i)) same) ∙ sym (ap (λ q. stream_from nodes from.node q) too) ∙ from_is in
        ne (some_same e)))

    pub joined : IsJoinedTo nodes left' supply' r (p + 1) states edges'
    joined = record {
      opens = is.opens;
      joins = each_push (λ e. stream_from nodes e.writer e.writer_port ≡ stream_to nodes e.reader e.reader_port) edges edge no_edge is.joins (from_is ∙ sym to);
      readers = each_push (λ e. ComesBefore e.reader e.reader_port r (p + 1)) edges edge no_edge
          (λ e l. before_more (edge_at edges e).reader (edge_at edges e).reader_port r p (is.readers e l)) (inr (refl, omega arith));
      writers = each_push (λ e. e.writer < r) edges edge no_edge is.writers (is.node s there uses);
      read = λ k q t before is_to. elim (before_next k q r p before) [
        | inl earlier ↦ found_stays (λ e. (e.reader == k) && (e.reader_port == q)) edges edge (is.read k q t earlier is_to)
        | inr here ↦ found_last (λ e. (e.reader == k) && (e.reader_port == q)) edges edge (both_are r p k q (sym here.0) (sym here.1))
      ];
      written = λ k q t. each_stream (λ t from n. k < r → stream_from nodes k q ≡ Some t → IsTakenOut edges' k q ⊎ IsAmong k q from n) (written_here k q) (λ t ne. written_other t ne k q) t;
      known = λ k q t lt is_from. omega (arith, length-set supply s (port_after from), is.known k q t lt is_from);
      node = each_stream (λ t from n. t < length supply' → 0 < n → from.node < r) (λ lt more. is.node s there uses) (λ t ne lt more. is.node t (shorter t lt) more);
      stream = λ t i. each_stream (λ t from n. t < length supply' → i < n → stream_from nodes from.node (from.port + i) ≡ Some t)
          (λ lt more. subst (λ q. stream_from nodes from.node q ≡ Some s) (omega arith) (is.stream s (i + 1) there (omega arith)))
          (λ t ne lt more. is.stream t i (shorter t lt) more) t;
      free = λ t i. each_stream (λ t from n. t < length supply' → i < n → length edges' ≤ out_edge edges' from.node (from.port + i)) (λ lt. free_here i) (λ t ne. free_other t ne i) t;
      fits = each_stream (λ t from n. t < length supply' → from.port + n < 2 ^ 64) (λ lt. omega (arith, is.fits s there)) (λ t ne lt. is.fits t (shorter t lt));
      order =
          order_joined nodes left supply r p edges is.order left' s there to one others supply' (length-set supply s (port_after from))
          (get_or-set_same supply s (port_after from) no_port there) (λ t ne. get_or-set_other supply s t (port_after from) no_port ne);
    }

  -- Passed
  -- What holds of a stream that gets its supplier from node r: it had no use left.
  pub record IsFresh (left' : ℕ → ℕ) (supply' : List Port) (t : ℕ) : Type 0 where
    pub no_use : t < length supply → left t ≡ 0
    pub node : (supplier supply' t).node ≡ r
    pub stream : (i : ℕ) → i < left' t → stream_from nodes r ((supplier supply' t).port + i) ≡ Some t
    pub fits : (supplier supply' t).port + left' t < 2 ^ 64

  -- the others have the suppliers and the uses that they had
  pub record IsSame (left' : ℕ → ℕ) (supply' : List Port) (t : ℕ) : Type 0 where
    pub there : t < length supply
    pub same_supplier : supplier supply' t ≡ supplier supply t
    pub same_left : left' t ≡ left t

  module _ (left' : ℕ → ℕ) (supply' : List Port) (all : (q s : ℕ) → stream_to nodes r q ≡ Some s → q < p) (longer : length supply ≤ length supply')
      (kept : (t : ℕ) → t < length supply' → IsSame left' supply' t ⊎ IsFresh left' supply' t)
      (covers : (q t : ℕ) → stream_from nodes r q ≡ Some t → (t < length supply') × IsFresh left' supply' t × IsAmong r q (supplier supply' t) (left' t)) where
    before_all : (k q s : ℕ) → ComesBefore k q (suc r) 0 → stream_to nodes k q ≡ Some s → ComesBefore k q r p
    before_all k q s (inr (at, lt)) is_to = absurd (omega arith)
    before_all k q s (inl lt) is_to = elim (cases_lt k r) [
      | inl less ↦ inl less
      | inr more ↦ let same : k ≡ r = omega arith in inr (same, all q s (subst (λ j. stream_to nodes j q ≡ Some s) same is_to))
    ]

    in_front : (k q : ℕ) → ComesBefore k q r p → ComesBefore k q (suc r) 0
    in_front k q (inl lt) = inl (omega arith)
    in_front k q (inr (at, lt)) = inl (omega arith)

    written_before : (k q t : ℕ) → k < r → stream_from nodes k q ≡ Some t → IsTakenOut edges k q ⊎ IsAmong k q (supplier supply' t) (left' t)
    written_before k q t lt is_from = elim (is.written k q t lt is_from) [
      | inl taken ↦ inl taken
      | inr at ↦ elim (kept t (omega (arith, is.known k q t lt is_from))) [
        | inl same ↦ inr (subst (λ n. IsAmong k q (supplier supply' t) n) (sym same.same_left) (subst (λ w. IsAmong k q w (left t)) (sym same.same_supplier) at))
        | inr fresh ↦ absurd (omega (arith, at.1, at.2, fresh.no_use (is.known k q t lt is_from)))
      ]
    ]

    written_all : (k q t : ℕ) → k < suc r → stream_from nodes k q ≡ Some t → IsTakenOut edges k q ⊎ IsAmong k q (supplier supply' t) (left' t)
    written_all k q t lt is_from = elim (cases_lt k r) [
      | inl less ↦ written_before k q t less is_from
      | inr more ↦ let same : k ≡ r = omega arith in inr (subst (λ j. IsAmong j q (supplier supply' t) (left' t)) (sym same) (covers q t (subst (λ j. stream_from nodes j q ≡ Some t) same is_from)).2)
    ]

    known_all : (k q t : ℕ) → k < suc r → stream_from nodes k q ≡ Some t → t < length supply'
    known_all k q t lt is_from = elim (cases_lt k r) [
      | inl less ↦ omega (arith, is.known k q t less is_from)
      | inr more ↦ let same : k ≡ r = omega arith in (covers q t (subst (λ j. stream_from nodes j q ≡ Some t) same is_from)).0
    ]

    node_all : (t : ℕ) → t < length supply' → 0 < left' t → (supplier supply' t).node < suc r
    node_all t lt uses = elim (kept t lt) [
      | inl same ↦ let before = is.node t same.there (omega (arith, same.same_left)) in let e = ap (λ w. w.node) same.same_supplier in omega arith
      | inr fresh ↦ omega (arith, fresh.node)
    ]

    stream_all : (t i : ℕ) → t < length supply' → i < left' t → stream_from nodes (supplier supply' t).node ((supplier supply' t).port + i) ≡ Some t
    stream_all t i lt uses = elim (kept t lt) [
      | inl same ↦ subst (λ w. stream_from nodes w.node (w.port + i) ≡ Some t) (sym same.same_supplier) (is.stream t i same.there (omega (arith, same.same_left)))
      | inr fresh ↦ subst (λ k. stream_from nodes k ((supplier supply' t).port + i) ≡ Some t) (sym fresh.node) (fresh.stream i uses)
    ]

    free_all : (t i : ℕ) → t < length supply' → i < left' t → length edges ≤ out_edge edges (supplier supply' t).node ((supplier supply' t).port + i)
    free_all t i lt uses = elim (kept t lt) [
      | inl same ↦ subst (λ w. length edges ≤ out_edge edges w.node (w.port + i)) (sym same.same_supplier) (is.free t i same.there (omega (arith, same.same_left)))
      | inr fresh ↦
          let at = supplier supply' t in
          none_found (λ e. (e.writer == at.node) && (e.writer_port == at.port + i)) edges no_edge
          (λ e l. not_both (edge_at edges e).writer (edge_at edges e).writer_port at.node (at.port + i) (λ same too. omega (arith, is.writers e l, fresh.node)))
    ]

    fits_all : (t : ℕ) → t < length supply' → (supplier supply' t).port + left' t < 2 ^ 64
    fits_all t lt = elim (kept t lt) [
      | inl same ↦ let e = ap (λ w. w.port) same.same_supplier in omega (arith, same.same_left, is.fits t same.there)
      | inr fresh ↦ fresh.fits
    ]

    -- a stream that node r does not write
    not_written : (t : ℕ) → IsSame left' supply' t → (q : ℕ) → stream_from nodes r q ≡ Some t → ⊥
    not_written t same q is_from =
        let among = (covers q t is_from).2 in
        let before = is.node t same.there (omega (arith, same.same_left, among.1, among.2)) in
        let e = ap (λ w. w.node) same.same_supplier in
        omega (arith, among.0)

    ports_fresh : (t : ℕ) → IsFresh left' supply' t → run_of t (record { node = r; port = (supplier supply' t).port }) (left' t) ≡ run_of t (supplier supply' t) (left' t)
    ports_fresh t fresh = ap (λ k. run_of t (record { node = k; port = (supplier supply' t).port }) (left' t)) (sym fresh.node)

    only_fresh : (t q : ℕ) → stream_from nodes r q ≡ Some t → ((supplier supply' t).port ≤ q) × (q < (supplier supply' t).port + left' t)
    only_fresh t q is_from = let among = (covers q t is_from).2 in (among.1, among.2)

    supplies : (t : ℕ) → t < length supply' → Supplies nodes left supply r p edges is.order left' supply' t
    supplies t lt = elim (kept t lt) [
      | inl same ↦ record {
        before = run_of t (supplier supply t) (left t);
        was = is.order.supplied t same.there;
        count = 0;
        port = 0;
        all = λ i less. absurd (omega arith);
        only = λ q is_from. absurd (not_written t same q is_from);
        now = append-nil (run_of t (supplier supply t) (left t)) ∙ ap (λ n. run_of t (supplier supply t) n) (sym same.same_left) ∙ ap (λ w. run_of t w (left' t)) (sym same.same_supplier);
      }
      | inr fresh ↦ record {
        before = [];
        was = elim (cases_lt t (length supply)) [
          | inl less ↦ is.order.supplied t less ∙ ap (λ n. run_of t (supplier supply t) n ++ at_stream t (outputs_from r (drop r nodes))) (fresh.no_use less)
          | inr more ↦ is.order.to_come t more
        ];
        count = left' t;
        port = (supplier supply' t).port;
        all = fresh.stream;
        only = only_fresh t;
        now = ports_fresh t fresh;
      }
    ]

    pub passed : IsJoinedTo nodes left' supply' (suc r) 0 states edges
    passed = record {
      opens = is.opens;
      joins = is.joins;
      readers = λ e l. in_front (edge_at edges e).reader (edge_at edges e).reader_port (is.readers e l);
      writers = λ e l. omega (arith, is.writers e l);
      read = λ k q s before is_to. is.read k q s (before_all k q s before is_to) is_to;
      written = written_all;
      known = known_all;
      node = node_all;
      stream = stream_all;
      free = free_all;
      fits = fits_all;
      order = order_passed nodes left supply r p edges is.order left' supply' all longer supplies (λ q t is_from. (covers q t is_from).0);
    }

module _ (nodes : List Placed) (left left' : ℕ → ℕ) (supply : List Port) (r p : ℕ) (states : List State) (edges : List Edge) (is : IsJoinedTo nodes left supply r p states edges) where
  -- the same uses, said in another way
  pub relabelled : ((t : ℕ) → t < length supply → left t ≡ left' t) → IsJoinedTo nodes left' supply r p states edges
  relabelled same = record {
    opens = is.opens;
    joins = is.joins;
    readers = is.readers;
    writers = is.writers;
    read = is.read;
    written = λ k q t lt is_from. subst (λ n. IsTakenOut edges k q ⊎ IsAmong k q (supplier supply t) n) (same t (is.known k q t lt is_from)) (is.written k q t lt is_from);
    known = is.known;
    node = λ t lt uses. is.node t lt (omega (arith, same t lt));
    stream = λ t i lt uses. is.stream t i lt (omega (arith, same t lt));
    free = λ t i lt uses. is.free t i lt (omega (arith, same t lt));
    fits = λ t lt. omega (arith, same t lt, is.fits t lt);
    order = order_relabelled nodes left supply r p edges is.order left' same;
  }

module _ (nodes : List Placed) (left : ℕ → ℕ) (supply : List Port) (states : List State) (edges : List Edge) (is : IsJoinedTo nodes left supply (length states) 0 states edges) where
  -- one more node, of which no port has its edge
  pub added : (placed : Placed) (s : State) → slice_get nodes (length states) ≡ Some placed → IsOpening placed.at placed.operation s
      → IsJoinedTo nodes left supply (length states) 0 (states ++ s ∷ []) edges
  added placed s at opens = record {
    opens = λ k other lt is_at. elim (cases_lt k (length states)) [
      | inl less ↦ subst (λ u. IsOpening other.at other.operation u) (sym (get_or_append_left states (s ∷ []) node_behaviour.sample k less)) (is.opens k other less is_at)
      | inr more ↦
          let last : k ≡ length states = omega (arith, length_push states s) in
          let same : placed ≡ other = some_same (sym at ∙ ap (slice_get nodes) (sym last) ∙ is_at) in
          let state : state_at node_behaviour (states ++ s ∷ []) k ≡ s = ap (state_at node_behaviour (states ++ s ∷ [])) last ∙ get_or-append_seam states s [] node_behaviour.sample in
          subst (λ u. IsOpening other.at other.operation u) (sym state) (subst (λ w. IsOpening w.at w.operation s) same opens)
    ];
    joins = is.joins;
    readers = is.readers;
    writers = is.writers;
    read = is.read;
    written = is.written;
    known = is.known;
    node = is.node;
    stream = is.stream;
    free = is.free;
    fits = is.fits;
    order = is.order;
  }

-- Finished
module _ (nodes : List Placed) (left : ℕ → ℕ) (supply : List Port) (states : List State) (edges : List Edge) (is : IsJoinedTo nodes left supply (length states) 0 states edges)
    (kinds : List Kind) (perform : OpeningsPerform) (fit : (k : ℕ) (placed : Placed) → slice_get nodes k ≡ Some placed → FitsKinds kinds placed)
    (all : length states ≡ length nodes) (none : (t : ℕ) → left t ≡ 0) where
  input_joined : (k p : ℕ) → k < length states → p < inputs_at node_behaviour states k → IsTakenIn edges k p
  input_joined k p lt inside =
      let node = stands_at nodes k (omega arith) in
      let does = performs_at nodes left supply (length states) 0 states edges is kinds perform fit k node.0 lt node.1 in
      let count = get_or-map node_behaviour.inputs states k node_behaviour.sample 0 lt in
      let many = each_length (slice_get kinds) node.0.reads (kinds_read node.0.operation) (fit k node.0 node.1).reads in
      let stream = stands_at node.0.reads p (omega (arith, inside, count, does.inputs, many)) in
      is.read k p stream.0 (inl lt) (ap (λ o. bind o (λ placed. slice_get placed.reads p)) node.1 ∙ stream.1)

  output_joined : (k q : ℕ) → k < length states → q < outputs_at node_behaviour states k → IsTakenOut edges k q
  output_joined k q lt inside =
      let node = stands_at nodes k (omega arith) in
      let does = performs_at nodes left supply (length states) 0 states edges is kinds perform fit k node.0 lt node.1 in
      let count = get_or-map node_behaviour.outputs states k node_behaviour.sample 0 lt in
      let many = each_length (slice_get kinds) node.0.writes (kinds_written node.0.operation) (fit k node.0 node.1).writes in
      let stream = stands_at node.0.writes q (omega (arith, inside, count, does.outputs, many)) in
      elim (is.written k q stream.0 lt (ap (λ o. bind o (λ placed. slice_get placed.writes q)) node.1 ∙ stream.1)) [
        | inl taken ↦ taken
        | inr at ↦ absurd (omega (arith, at.1, at.2, none stream.0))
      ]

  pub finished : IsJoined node_behaviour states edges
  finished = record {
    inputs = λ k p inside. elim (cases_lt k (length states)) [
      | inl lt ↦ input_joined k p lt inside
      | inr more ↦ absurd (omega (arith, inside, get_or_past (map node_behaviour.inputs states) k 0 (omega (arith, length-map states node_behaviour.inputs))))
    ];
    outputs = λ k q inside. elim (cases_lt k (length states)) [
      | inl lt ↦ output_joined k q lt inside
      | inr more ↦ absurd (omega (arith, inside, get_or_past (map node_behaviour.outputs states) k 0 (omega (arith, length-map states node_behaviour.outputs))))
    ];
  }
