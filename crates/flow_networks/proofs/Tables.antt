-- Tables of the edges at ports: what they say of the edges, and a node or an edge more.
use Rattle.std.proofs.Common.{◌≡◌, ◌==◌, ◌&&◌, ℕ, ◌<◌, ◌≤◌, Bool, true, false, List, [], ◌∷◌, ◌++◌, length, get_or, set, Option, Some, None, ◌⊎◌, inl}
use Rattle.std.proofs.Common.{inr, refl, sym, ◌∙◌, ap, arith, get_or-set_same, get_or-set_other}
use Rattle.std.specs.List.{position_or_len}
use Rattle.std.proofs.lemmas.Bool.{cases_eq, cases_Bool, cases_lt}
use Rattle.std.proofs.lemmas.Bool.Decides.{nat_tests}
use Rattle.std.proofs.lemmas.List.{get_or_past, get_or_push, get_or_append_left, length_push, get_or_default}
use Rattle.std.proofs.lemmas.List.Sums.{position_or_len_is, passes_at_first}
use Rattle.flow_networks.specs.declared.edge.Edge.{Edge}
use Rattle.flow_networks.specs.Edges.{edge_at}
use Rattle.flow_networks.specs.Tables.{row_at, entry_at, IsTableOf}

both : (a b c d : ℕ) → ((a == b) && (c == d)) ≡ true → (a ≡ b) × (c ≡ d)
both a b c d h = (grind (arith, nat_tests), grind (arith, nat_tests))

both_are : (a b c d : ℕ) → a ≡ b → c ≡ d → ((a == b) && (c == d)) ≡ true
both_are a b c d e f = grind (arith, nat_tests)

pub row_inside : (table : List (List (Option ℕ))) (k p e : ℕ) → entry_at table k p ≡ Some e → p < length (row_at table k)
row_inside table k p e h = go (cases_lt p (length (row_at table k)))
  where
    go : (p < length (row_at table k)) ⊎ (length (row_at table k) ≤ p) → p < length (row_at table k)
    go (inl l) = l
    go (inr past) = absurd (let x : entry_at table k p ≡ None = get_or_past (row_at table k) p None past in cc)

pub node_inside : (table : List (List (Option ℕ))) (k p : ℕ) → p < length (row_at table k) → k < length table
node_inside table k p h = go (cases_lt k (length table))
  where
    go : (k < length table) ⊎ (length table ≤ k) → k < length table
    go (inl l) = l
    go (inr past) = absurd (let x : row_at table k ≡ [] = get_or_past table k [] past in omega (arith, ap length x))

pub cases_entry : (o : Option ℕ) → (o ≡ None) ⊎ ((e : ℕ) × (o ≡ Some e))
cases_entry None = inl refl
cases_entry (Some e) = inr (e, refl)

module _ (node port : Edge → ℕ) where
  -- whether the edge has this node and this port
  abbrev pub at_port : ℕ → ℕ → Edge → Bool
  at_port k p edge = (node edge == k) && (port edge == p)

  module _ (table : List (List (Option ℕ))) (edges : List Edge) (is : IsTableOf node port table edges) where
    module _ (k p : ℕ) where
      found : (f : ℕ) → f < length edges → at_port k p (edge_at edges f) ≡ true → entry_at table k p ≡ Some f
      found f l h =
          let same : (node (edge_at edges f) ≡ k) × (port (edge_at edges f) ≡ p) = both _ _ _ _ h in
          ap (λ i. entry_at table i p) (sym same.0) ∙ ap (λ i. entry_at table (node (edge_at edges f)) i) (sym same.1) ∙ is.stands f l

      not_found : (f : ℕ) (d : Edge) → f < length edges → (entry_at table k p ≡ Some f → ⊥) → at_port k p (get_or edges f d) ≡ false
      not_found f d l no_entry = go (cases_Bool (at_port k p (edge_at edges f)))
        where
          same : get_or edges f d ≡ edge_at edges f
          same = get_or_default edges f _ _ l

          go : ((at_port k p (edge_at edges f) ≡ true) ⊎ (at_port k p (edge_at edges f) ≡ false)) → at_port k p (get_or edges f d) ≡ false
          go (inl t) = absurd (no_entry (found f l t))
          go (inr no_match) = ap (at_port k p) same ∙ no_match

      -- the first edge at a port is the one in the table
      pub number_is : (e : ℕ) → entry_at table k p ≡ Some e → position_or_len (at_port k p) edges ≡ e
      number_is e h = position_or_len_is (at_port k p) edges e (edge_at edges e) (omega (arith, is.there k p e h)) before here
        where
          here : e < length edges → at_port k p (get_or edges e (edge_at edges e)) ≡ true
          here l = ap (at_port k p) (get_or_default edges e _ _ l) ∙ both_are (node (edge_at edges e)) k (port (edge_at edges e)) p (is.of_node k p e h) (is.of_port k p e h)

          before : (f : ℕ) → f < e → at_port k p (get_or edges f (edge_at edges e)) ≡ false
          before f l = not_found f (edge_at edges e) (omega (arith, is.there k p e h)) (λ other. let x : Some f ≡ Some e = sym other ∙ h in let y : f ≡ e = cc in omega arith)

      -- and where the table has none, no edge is at the port
      pub number_none : entry_at table k p ≡ None → position_or_len (at_port k p) edges ≡ length edges
      number_none h = position_or_len_is (at_port k p) edges (length edges) (edge_at edges 0) (omega arith) (λ f l. not_found f (edge_at edges 0) l (λ other. absurd (cc))) (λ l. absurd (omega arith))

      pub entry_is : position_or_len (at_port k p) edges < length edges → entry_at table k p ≡ Some (position_or_len (at_port k p) edges)
      entry_is h = found (position_or_len (at_port k p) edges) h (passes_at_first (at_port k p) edges (record { writer = 0; writer_port = 0; reader = 0; reader_port = 0 }) h)

      pub entry_none : length edges ≤ position_or_len (at_port k p) edges → entry_at table k p ≡ None
      entry_none h = go (cases_entry (entry_at table k p))
        where
          go : ((entry_at table k p ≡ None) ⊎ ((e : ℕ) × (entry_at table k p ≡ Some e))) → entry_at table k p ≡ None
          go (inl none) = none
          go (inr (e, some)) = absurd (omega (arith, number_is e some, is.there k p e some))

    module _ (row : List (Option ℕ)) (empty : (p : ℕ) → get_or row p None ≡ None) where
      entry_more : (k p : ℕ) → entry_at (table ++ row ∷ []) k p ≡ entry_at table k p
      entry_more k p = go (cases_lt k (length table)) (cases_eq k (length table))
        where
          go : ((k < length table) ⊎ (length table ≤ k)) → ((k ≡ length table) ⊎ (k ≡ length table → ⊥)) → entry_at (table ++ row ∷ []) k p ≡ entry_at table k p
          go (inl l) _ = ap (λ (r : List (Option ℕ)). get_or r p None) (get_or_append_left table (row ∷ []) [] k l)
          go (inr past) (inl e) =
              ap (λ (r : List (Option ℕ)). get_or r p None) (get_or_push table row [] k (sym e)) ∙ empty p
              ∙ sym (ap (λ (r : List (Option ℕ)). get_or r p None) (get_or_past table k [] past))
          go (inr past) (inr other) =
              ap (λ (r : List (Option ℕ)). get_or r p None) (get_or_past (table ++ row ∷ []) k [] (omega (arith, length_push table row)) ∙ sym (get_or_past table k [] past))

      -- a node more, with no edges
      pub with_row : IsTableOf node port (table ++ row ∷ []) edges
      with_row = record {
        stands = λ e l. entry_more (node (edge_at edges e)) (port (edge_at edges e)) ∙ is.stands e l;
        there = λ k p e h. is.there k p e (sym (entry_more k p) ∙ h);
        of_node = λ k p e h. is.of_node k p e (sym (entry_more k p) ∙ h);
        of_port = λ k p e h. is.of_port k p e (sym (entry_more k p) ∙ h);
      }

    module _ (x : Edge) (inside : port x < length (row_at table (node x))) (free : entry_at table (node x) (port x) ≡ None) where
      abbrev pub larger : List (List (Option ℕ))
      larger = set table (node x) (set (row_at table (node x)) (port x) (Some (length edges)))

      abbrev pub all : List Edge
      all = edges ++ x ∷ []

      entry_here : entry_at larger (node x) (port x) ≡ Some (length edges)
      entry_here =
          ap (λ (r : List (Option ℕ)). get_or r (port x) None)
          (get_or-set_same table (node x) (set (row_at table (node x)) (port x) (Some (length edges))) []
          (node_inside table (node x) (port x) inside))
          ∙ get_or-set_same (row_at table (node x)) (port x) (Some (length edges)) None inside

      entry_other : (k p : ℕ) → ((k ≡ node x) × (p ≡ port x) → ⊥) → entry_at larger k p ≡ entry_at table k p
      entry_other k p other = go (cases_eq k (node x))
        where
          go : ((k ≡ node x) ⊎ (k ≡ node x → ⊥)) → entry_at larger k p ≡ entry_at table k p
          go (inr ne) = ap (λ (r : List (Option ℕ)). get_or r p None) (get_or-set_other table (node x) k _ [] ne)
          go (inl e) =
              ap (λ i. entry_at larger i p) e
              ∙ ap (λ (r : List (Option ℕ)). get_or r p None)
              (get_or-set_same table (node x) (set (row_at table (node x)) (port x) (Some (length edges))) []
              (node_inside table (node x) (port x) inside))
              ∙ get_or-set_other (row_at table (node x)) (port x) p (Some (length edges)) None (λ q. other (e, q))
              ∙ ap (λ i. entry_at table i p) (sym e)

      old_edge : (e : ℕ) → e < length edges → edge_at all e ≡ edge_at edges e
      old_edge e l = get_or_append_left edges (x ∷ []) _ e l

      new_edge : (e : ℕ) → e ≡ length edges → edge_at all e ≡ x
      new_edge e h = get_or_push edges x _ e (sym h)

      here_or_not : (k p : ℕ) → ((k ≡ node x) × (p ≡ port x)) ⊎ ((k ≡ node x) × (p ≡ port x) → ⊥)
      here_or_not k p = go (cases_eq k (node x)) (cases_eq p (port x))
        where
          go : ((k ≡ node x) ⊎ (k ≡ node x → ⊥)) → ((p ≡ port x) ⊎ (p ≡ port x → ⊥)) → ((k ≡ node x) × (p ≡ port x)) ⊎ ((k ≡ node x) × (p ≡ port x) → ⊥)
          go (inl a) (inl b) = inl (a, b)
          go (inl a) (inr b) = inr (λ h. b h.1)
          go (inr a) _ = inr (λ h. a h.0)

      -- what the larger table says at a port
      says : (k p e : ℕ) → entry_at larger k p ≡ Some e → ((k ≡ node x) × (p ≡ port x) × (e ≡ length edges)) ⊎ (entry_at table k p ≡ Some e)
      says k p e h = go (here_or_not k p)
        where
          go : ((k ≡ node x) × (p ≡ port x)) ⊎ ((k ≡ node x) × (p ≡ port x) → ⊥) → ((k ≡ node x) × (p ≡ port x) × (e ≡ length edges)) ⊎ (entry_at table k p ≡ Some e)
          go (inl (a, b)) =
              let s : Some (length edges) ≡ Some e = sym entry_here ∙ ap (λ i. entry_at larger i (port x)) (sym a) ∙ ap (λ i. entry_at larger k i) (sym b) ∙ h in
              let n : e ≡ length edges = cc in
              inl (a, b, n)
          go (inr other) = inr (sym (entry_other k p other) ∙ h)

      -- an edge more, at a port that was free
      pub with_entry : IsTableOf node port larger all
      with_entry = record { stands = stands; there = there; of_node = of_node; of_port = of_port }
        where
          stands : (e : ℕ) → e < length all → entry_at larger (node (edge_at all e)) (port (edge_at all e)) ≡ Some e
          stands e l = go (cases_eq e (length edges))
            where
              go : ((e ≡ length edges) ⊎ (e ≡ length edges → ⊥)) → entry_at larger (node (edge_at all e)) (port (edge_at all e)) ≡ Some e
              go (inl h) = ap (λ (y : Edge). entry_at larger (node y) (port y)) (new_edge e h) ∙ entry_here ∙ ap Some (sym h)
              go (inr ne) =
                  let old : e < length edges = omega (arith, length_push edges x) in
                  ap (λ (y : Edge). entry_at larger (node y) (port y)) (old_edge e old)
                  ∙ entry_other (node (edge_at edges e)) (port (edge_at edges e))
                  (λ h. let none : entry_at table (node (edge_at edges e)) (port (edge_at edges e)) ≡ None =
                  ap (λ i. entry_at table i (port (edge_at edges e))) h.0 ∙ ap (λ i. entry_at table (node x) i) h.1 ∙ free in
                  let some : entry_at table (node (edge_at edges e)) (port (edge_at edges e)) ≡ Some e = is.stands e old in absurd (cc))
                  ∙ is.stands e old

          there : (k p e : ℕ) → entry_at larger k p ≡ Some e → e < length all
          there k p e h = elim (says k p e h) [ inl s ↦ omega (arith, s.2, length_push edges x) | inr s ↦ omega (arith, is.there k p e s, length_push edges x) ]

          of_node : (k p e : ℕ) → entry_at larger k p ≡ Some e → node (edge_at all e) ≡ k
          of_node k p e h = elim (says k p e h) [ inl s ↦ ap node (new_edge e s.2) ∙ sym s.0 | inr s ↦ ap node (old_edge e (is.there k p e s)) ∙ is.of_node k p e s ]

          of_port : (k p e : ℕ) → entry_at larger k p ≡ Some e → port (edge_at all e) ≡ p
          of_port k p e h = elim (says k p e h) [ inl s ↦ ap port (new_edge e s.2) ∙ sym s.1 | inr s ↦ ap port (old_edge e (is.there k p e s)) ∙ is.of_port k p e s ]

-- nothing is joined where there are no nodes
no_entry : (k p : ℕ) → entry_at [] k p ≡ None
no_entry k p = refl

pub empty_table : (node port : Edge → ℕ) → IsTableOf node port [] []
empty_table node port = record {
  stands = λ e l. absurd (omega arith);
  there = λ k p e h. absurd (let n : entry_at [] k p ≡ None = refl in cc);
  of_node = λ k p e h. absurd (let n : entry_at [] k p ≡ None = refl in cc);
  of_port = λ k p e h. absurd (let n : entry_at [] k p ≡ None = refl in cc);
}
