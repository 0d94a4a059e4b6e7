-- The edges of a network that is being built are those that it is to have, in their order.
use Rattle.std.specs.Prelude.{◌≡◌, ℕ, zero, suc, ◌+◌, ◌<◌, ◌≤◌, ◌==◌, Bool, true, false, List, [], ◌∷◌, ◌++◌, length, drop, Some, if◌then◌else◌, refl}
use Rattle.std.specs.List.{slice_get}
use Rattle.std.proofs.Common.{sym, ◌∙◌, ap, subst, arith, inl, inr, append_assoc, append-nil}
use Rattle.std.proofs.lemmas.Bool.{cases_eq, cases_lt}
use Rattle.std.proofs.lemmas.Bool.Decides.{nat_tests}
use Rattle.std.proofs.lemmas.Option.{slice_get_within}
use Rattle.std.proofs.Math.ListN.{drop_of_length-le}
use Rattle.flow_networks.specs.declared.edge.Edge.{Edge}
use Rattle.flow_nodes.specs.functions.Lists.{bind}
use Rattle.flow_nodes.specs.plans.Layouts.{Placed, StreamPort, ports_from, inputs_from, outputs_from, first_at, without_first, edge_between, edges_from, edges_between, stream_from, stream_to}
use Rattle.flow_assembly.specs.declared.network.Port.{Port}
use Rattle.flow_assembly.specs.Joined.{supplier, edge_from, port_after, at_stream, run_of, inputs_after, IsInOrder}
use Rattle.flow_assembly.proofs.Fitting.{bound, stands_at, some_same}
use Rattle.flow_assembly.proofs.Limiting.{drop_at}

-- The ports of a stream, and the first of them

first_is : (s : ℕ) (other : StreamPort) (ports : List StreamPort) (x : StreamPort) (xs : List StreamPort) → at_stream s ports ≡ x ∷ xs → first_at s other ports ≡ x
first_is s other [] x xs e = absurd (cc)
first_is s other (port ∷ ports) x xs e = by_test (port.stream == s) (first_is s other ports x xs) e
  where
    by_test : (b : Bool) → (at_stream s ports ≡ x ∷ xs → first_at s other ports ≡ x)
        → (if b then port ∷ at_stream s ports else at_stream s ports) ≡ x ∷ xs → (if b then port else first_at s other ports) ≡ x
    by_test true later e = cc
    by_test false later e = later e

others_left : (s : ℕ) (ports : List StreamPort) (x : StreamPort) (xs : List StreamPort) → at_stream s ports ≡ x ∷ xs → at_stream s (without_first s ports) ≡ xs
others_left s [] x xs e = absurd (cc)
others_left s (port ∷ ports) x xs e = by_test (port.stream == s) refl (others_left s ports x xs) e
  where
    by_test : (b : Bool) → (port.stream == s) ≡ b → (at_stream s ports ≡ x ∷ xs → at_stream s (without_first s ports) ≡ xs)
        → (if b then port ∷ at_stream s ports else at_stream s ports) ≡ x ∷ xs → at_stream s (if b then ports else port ∷ without_first s ports) ≡ xs
    by_test true is later e = cc
    by_test false is later e =
        let rest = without_first s ports in
        ap (λ b. if b then port ∷ at_stream s rest else at_stream s rest) is ∙ later e

others_stay : (s t : ℕ) → (t ≡ s → ⊥) → (ports : List StreamPort) → at_stream t (without_first s ports) ≡ at_stream t ports
others_stay s t ne [] = refl
others_stay s t ne (port ∷ ports) = by_test (port.stream == s) refl (others_stay s t ne ports)
  where
    by_test : (b : Bool) → (port.stream == s) ≡ b → at_stream t (without_first s ports) ≡ at_stream t ports
        → at_stream t (if b then ports else port ∷ without_first s ports) ≡ (if port.stream == t then port ∷ at_stream t ports else at_stream t ports)
    by_test true is later =
        let no : (port.stream == t) ≡ false = grind (arith, nat_tests) in
        sym (ap (λ b. if b then port ∷ at_stream t ports else at_stream t ports) no)
    by_test false is later = ap (λ l. if port.stream == t then port ∷ l else l) later

at_both : (s : ℕ) (xs ys : List StreamPort) → at_stream s (xs ++ ys) ≡ at_stream s xs ++ at_stream s ys
at_both s [] ys = refl
at_both s (x ∷ xs) ys = by_test (x.stream == s) (at_both s xs ys)
  where
    by_test : (b : Bool) → at_stream s (xs ++ ys) ≡ at_stream s xs ++ at_stream s ys
        → (if b then x ∷ at_stream s (xs ++ ys) else at_stream s (xs ++ ys)) ≡ (if b then x ∷ at_stream s xs else at_stream s xs) ++ at_stream s ys
    by_test true later = ap (λ l. x ∷ l) later
    by_test false later = later

abbrev port_at : (k q : ℕ) → Port
port_at k q = record { node = k; port = q }

-- where a stream is at so many ports of one node from one on, the first of which is port p, these are the ports at which it is
abbrev IsRun : (t k : ℕ) → List ℕ → Type 0
IsRun t k ws =
    (p first n : ℕ) → ((i : ℕ) → i < n → slice_get ws (first + i) ≡ Some t) → ((q : ℕ) → slice_get ws q ≡ Some t → (first ≤ q) × (q < first + n))
    → at_stream t (ports_from k p ws) ≡ run_of t (port_at k (p + first)) n

module _ (t k w : ℕ) (ws : List ℕ) (others : IsRun t k ws) where
  -- the first of them is there
  run_here : (p first n : ℕ) → w ≡ t → first ≡ 0 → 0 < n → ((i : ℕ) → i < n → slice_get (w ∷ ws) (first + i) ≡ Some t) → ((q : ℕ) → slice_get (w ∷ ws) q ≡ Some t → (first ≤ q) × (q < first + n))
      → (record { node = k; port = p; stream = w }) ∷ at_stream t (ports_from k (suc p) ws) ≡ run_of t (port_at k (p + first)) n
  run_here p first zero same none more there only = absurd (omega arith)
  run_here p first (suc n) same none more there only =
      let later = others (suc p) 0 n
      (λ i lt. let e : first + suc i ≡ suc (0 + i) = omega arith in subst (λ j. slice_get (w ∷ ws) j ≡ Some t) e (there (suc i) (omega arith)))
      (λ q at. let o = only (suc q) at in (omega arith, omega (arith, o.1, none))) in
      let e : p + first ≡ p = omega arith in
      let f : suc p + 0 ≡ p + 1 = omega arith in
      ap (λ s. (let port : StreamPort = record { node = k; port = p; stream = s } in port) ∷ at_stream t (ports_from k (suc p) ws)) same
      ∙ ap (λ l. (let port : StreamPort = record { node = k; port = p; stream = t } in port) ∷ l) (later ∙ ap (λ q. run_of t (port_at k q) n) f)
      ∙ ap (λ q. run_of t (port_at k q) (suc n)) (sym e)

  -- it is not there
  run_later : (p first n : ℕ) → (w ≡ t → ⊥) → ((i : ℕ) → i < n → slice_get (w ∷ ws) (first + i) ≡ Some t) → ((q : ℕ) → slice_get (w ∷ ws) q ≡ Some t → (first ≤ q) × (q < first + n))
      → at_stream t (ports_from k (suc p) ws) ≡ run_of t (port_at k (p + first)) n
  run_later p first zero ne there only =
      others (suc p) 0 0 (λ i lt. absurd (omega arith)) (λ q at. let o = only (suc q) at in absurd (omega (arith, o.0, o.1)))
  run_later p zero (suc n) ne there only = absurd (ne (some_same (there zero (omega arith))))
  run_later p (suc first) (suc n) ne there only =
      let f : suc p + first ≡ p + suc first = omega arith in
      others (suc p) first (suc n)
      (λ i lt. let e : suc first + i ≡ suc (first + i) = omega arith in subst (λ j. slice_get (w ∷ ws) j ≡ Some t) e (there i lt))
      (λ q at. let o = only (suc q) at in (omega (arith, o.0), omega (arith, o.1)))
      ∙ ap (λ q. run_of t (port_at k q) (suc n)) f

ports_run : (t k : ℕ) (ws : List ℕ) → IsRun t k ws
ports_run t k [] p first zero there only = refl
ports_run t k [] p first (suc n) there only = let no : slice_get [] (first + zero) ≡ Some t = there zero (omega arith) in absurd (cc)
ports_run t k (w ∷ ws) p first n there only = elim (cases_eq w t) [
  | inl same ↦
      let at = only zero (ap Some same) in
      let yes : (w == t) ≡ true = grind (arith, nat_tests) in
      ap (λ b. if b then (let port : StreamPort = record { node = k; port = p; stream = w } in port) ∷ at_stream t (ports_from k (suc p) ws) else at_stream t (ports_from k (suc p) ws)) yes
      ∙ run_here t k w ws (ports_run t k ws) p first n same (omega (arith, at.0)) (omega (arith, at.0, at.1)) there only
  | inr ne ↦
      let no : (w == t) ≡ false = grind (arith, nat_tests) in
      ap (λ b. if b then (let port : StreamPort = record { node = k; port = p; stream = w } in port) ∷ at_stream t (ports_from k (suc p) ws) else at_stream t (ports_from k (suc p) ws)) no
      ∙ run_later t k w ws (ports_run t k ws) p first n ne there only
]

-- The ports of nodes

-- those of a first node, where a stream is at so many of its output ports from one on
outputs_run : (nodes : List Placed) (r t first n : ℕ) → ((i : ℕ) → i < n → stream_from nodes r (first + i) ≡ Some t)
    → ((q : ℕ) → stream_from nodes r q ≡ Some t → (first ≤ q) × (q < first + n))
    → at_stream t (outputs_from r (drop r nodes)) ≡ run_of t (port_at r first) n ++ at_stream t (outputs_from (suc r) (drop (suc r) nodes))
outputs_run nodes r t first n there only = elim (cases_lt r (length nodes)) [
  | inl lt ↦
      let node = stands_at nodes r lt in
      let at : (q : ℕ) → stream_from nodes r q ≡ slice_get node.0.writes q = λ q. ap (λ o. bind o (λ (w : Placed). slice_get w.writes q)) node.1 in
      ap (λ l. at_stream t (outputs_from r l)) (drop_at nodes r node.0 node.1)
      ∙ at_both t (ports_from r zero node.0.writes) (outputs_from (suc r) (drop (suc r) nodes))
      ∙ ap (λ l. l ++ at_stream t (outputs_from (suc r) (drop (suc r) nodes)))
      (ports_run t r node.0.writes zero first n (λ i less. sym (at (first + i)) ∙ there i less) (λ q is. only q (at q ∙ is))
      ∙ (let e : zero + first ≡ first = omega arith in ap (λ q. run_of t (port_at r q) n) e))
  | inr past ↦
      let none = drop_of_length-le nodes past in
      let later = drop_of_length-le nodes (let le : length nodes ≤ suc r = omega arith in le) in
      ap (λ l. at_stream t (outputs_from r l)) none
      ∙ no_run n there past
      ∙ ap (λ l. run_of t (port_at r first) n ++ at_stream t (outputs_from (suc r) l)) (sym later)
]
  where
    no_run : (n : ℕ) → ((i : ℕ) → i < n → stream_from nodes r (first + i) ≡ Some t) → length nodes ≤ r → [] ≡ run_of t (port_at r first) n ++ []
    no_run zero there past = refl
    no_run (suc n) there past =
        let found = bound (slice_get nodes r) (λ (w : Placed). slice_get w.writes (first + zero)) t (there zero (omega arith)) in
        absurd (omega (arith, slice_get_within nodes r found.0 found.1))

pub from_start : (k : ℕ) (nodes : List Placed) → inputs_from k nodes ≡ inputs_after k 0 nodes
from_start k [] = refl
from_start k (placed ∷ nodes) = refl

-- one input port, and those after it
next_input : (nodes : List Placed) (r p s : ℕ) → stream_to nodes r p ≡ Some s
    → inputs_after r p (drop r nodes) ≡ (record { node = r; port = p; stream = s }) ∷ inputs_after r (p + 1) (drop r nodes)
next_input nodes r p s to =
    let found = bound (slice_get nodes r) (λ (w : Placed). slice_get w.reads p) s to in
    let e : suc p ≡ p + 1 = omega arith in
    ap (inputs_after r p) (drop_at nodes r found.0 found.1)
    ∙ ap (λ l. ports_from r p l ++ inputs_from (suc r) (drop (suc r) nodes)) (drop_at found.0.reads p s found.2)
    ∙ ap (λ q. (record { node = r; port = p; stream = s }) ∷ (ports_from r q (drop q found.0.reads) ++ inputs_from (suc r) (drop (suc r) nodes))) e
    ∙ ap (λ l. (record { node = r; port = p; stream = s }) ∷ inputs_after r (p + 1) l) (sym (drop_at nodes r found.0 found.1))

-- where a node has no more of them, those of the next node come
no_more_inputs : (nodes : List Placed) (r p : ℕ) → ((q s : ℕ) → stream_to nodes r q ≡ Some s → q < p)
    → inputs_after r p (drop r nodes) ≡ inputs_after (suc r) 0 (drop (suc r) nodes)
no_more_inputs nodes r p all = elim (cases_lt r (length nodes)) [
  | inl lt ↦
      let node = stands_at nodes r lt in
      let few : length node.0.reads ≤ p = elim (cases_lt p (length node.0.reads)) [
        | inl less ↦
            let stream = stands_at node.0.reads p less in
            absurd (omega (arith, all p stream.0 (ap (λ o. bind o (λ (w : Placed). slice_get w.reads p)) node.1 ∙ stream.1)))
        | inr le ↦ le
      ] in
      ap (inputs_after r p) (drop_at nodes r node.0 node.1)
      ∙ ap (λ l. ports_from r p l ++ inputs_from (suc r) (drop (suc r) nodes)) (drop_of_length-le node.0.reads few)
      ∙ from_start (suc r) (drop (suc r) nodes)
  | inr past ↦
      let later = drop_of_length-le nodes (let le : length nodes ≤ suc r = omega arith in le) in
      ap (inputs_after r p) (drop_of_length-le nodes past) ∙ ap (inputs_after (suc r) 0) (sym later)
]

-- The order

pub nothing_ordered : (nodes : List Placed) (left : ℕ → ℕ) → IsInOrder nodes left [] 0 0 []
nothing_ordered nodes left = record {
  ports_left = outputs_from 0 nodes;
  edges_are = ap (λ l. edges_from l (outputs_from 0 nodes)) (sym (from_start 0 nodes));
  supplied = λ s lt. absurd (omega arith);
  to_come = λ s le. refl;
}

module _ (nodes : List Placed) (left : ℕ → ℕ) (supply : List Port) (r p : ℕ) (edges : List Edge) (is : IsInOrder nodes left supply r p edges) where
  abbrev to_come_at : ℕ → List StreamPort
  to_come_at t = at_stream t (outputs_from r (drop r nodes))

  -- the same uses, said in another way
  pub order_relabelled : (left' : ℕ → ℕ) → ((t : ℕ) → t < length supply → left t ≡ left' t) → IsInOrder nodes left' supply r p edges
  order_relabelled left' same = record {
    ports_left = is.ports_left;
    edges_are = is.edges_are;
    supplied = λ t lt. is.supplied t lt ∙ ap (λ n. run_of t (supplier supply t) n ++ to_come_at t) (same t lt);
    to_come = is.to_come;
  }

  -- one more edge, from the supplier of the stream at port p of node r
  pub order_joined : (left' : ℕ → ℕ) (s : ℕ) → s < length supply → stream_to nodes r p ≡ Some s → left s ≡ left' s + 1 → ((t : ℕ) → (t ≡ s → ⊥) → left t ≡ left' t)
      → (supply' : List Port) → length supply' ≡ length supply → supplier supply' s ≡ port_after (supplier supply s) → ((t : ℕ) → (t ≡ s → ⊥) → supplier supply' t ≡ supplier supply t)
      → IsInOrder nodes left' supply' r (p + 1) (edges ++ edge_from (supplier supply s) r p ∷ [])
  order_joined left' s there to one others supply' long here same = record {
    ports_left = without_first s is.ports_left;
    edges_are =
        append_assoc edges (edge_from from r p ∷ []) (edges_from rest (without_first s is.ports_left))
        ∙ ap (λ x. edges ++ edge_between x input ∷ edges_from rest (without_first s is.ports_left)) (sym first)
        ∙ ap (λ l. edges ++ edges_from l is.ports_left) (sym (next_input nodes r p s to))
        ∙ is.edges_are;
    supplied = λ t lt. elim (cases_eq t s) [
      | inl at ↦
          subst (λ u. at_stream u (without_first s is.ports_left) ≡ run_of u (supplier supply' u) (left' u) ++ to_come_at u) (sym at)
          (others_left s is.ports_left output (run_of s (port_after from) (left' s) ++ to_come_at s) starts ∙ ap (λ w. run_of s w (left' s) ++ to_come_at s) (sym here))
      | inr ne ↦
          others_stay s t ne is.ports_left ∙ is.supplied t (omega arith)
          ∙ ap (λ n. run_of t (supplier supply t) n ++ to_come_at t) (others t ne) ∙ ap (λ w. run_of t w (left' t) ++ to_come_at t) (sym (same t ne))
    ];
    to_come = λ t le. others_stay s t (λ at. omega arith) is.ports_left ∙ is.to_come t (omega arith);
  }
    where
      from : Port
      from = supplier supply s

      input : StreamPort
      input = record { node = r; port = p; stream = s }

      output : StreamPort
      output = record { node = from.node; port = from.port; stream = s }

      rest : List StreamPort
      rest = inputs_after r (p + 1) (drop r nodes)

      starts : at_stream s is.ports_left ≡ output ∷ (run_of s (port_after from) (left' s) ++ to_come_at s)
      starts = is.supplied s there ∙ (let e : left s ≡ suc (left' s) = omega arith in ap (λ n. run_of s from n ++ to_come_at s) e)

      first : first_at s input is.ports_left ≡ output
      first = first_is s input is.ports_left output (run_of s (port_after from) (left' s) ++ to_come_at s) starts

  -- How a stream is supplied once node r is passed: as before, with no output of the node, or by the first of its outputs at
  -- the node, where it had no use left.
  pub record Supplies (left' : ℕ → ℕ) (supply' : List Port) (t : ℕ) : Type 0 where
    pub before : List StreamPort
    pub was : at_stream t is.ports_left ≡ before ++ to_come_at t
    pub count : ℕ
    pub port : ℕ
    pub all : (i : ℕ) → i < count → stream_from nodes r (port + i) ≡ Some t
    pub only : (q : ℕ) → stream_from nodes r q ≡ Some t → (port ≤ q) × (q < port + count)
    pub now : before ++ run_of t (port_at r port) count ≡ run_of t (supplier supply' t) (left' t)

  pub order_passed : (left' : ℕ → ℕ) (supply' : List Port) → ((q s : ℕ) → stream_to nodes r q ≡ Some s → q < p) → length supply ≤ length supply'
      → ((t : ℕ) → t < length supply' → Supplies left' supply' t) → ((q t : ℕ) → stream_from nodes r q ≡ Some t → t < length supply') → IsInOrder nodes left' supply' (suc r) 0 edges
  order_passed left' supply' all longer supplies known = record {
    ports_left = is.ports_left;
    edges_are = ap (λ l. edges ++ edges_from l is.ports_left) (sym (no_more_inputs nodes r p all)) ∙ is.edges_are;
    supplied = λ t lt.
        let s = supplies t lt in
        s.was ∙ ap (λ l. s.before ++ l) (outputs_run nodes r t s.port s.count s.all s.only)
        ∙ sym (append_assoc s.before (run_of t (port_at r s.port) s.count) (at_stream t (outputs_from (suc r) (drop (suc r) nodes))))
        ∙ ap (λ l. l ++ at_stream t (outputs_from (suc r) (drop (suc r) nodes))) s.now;
    to_come = λ t le.
        is.to_come t (omega arith)
        ∙ outputs_run nodes r t 0 0 (λ i lt. absurd (omega arith)) (λ q from. absurd (omega (arith, known q t from)));
  }

-- once the last node is passed the edges are those that there are to be
pub all_ordered : (nodes : List Placed) (left : ℕ → ℕ) (supply : List Port) (r : ℕ) (edges : List Edge) → IsInOrder nodes left supply r 0 edges → length nodes ≤ r
    → edges ≡ edges_between nodes
all_ordered nodes left supply r edges is past =
    sym (append-nil edges) ∙ ap (λ l. edges ++ edges_from (inputs_after r 0 l) is.ports_left) (sym (drop_of_length-le nodes past)) ∙ is.edges_are
