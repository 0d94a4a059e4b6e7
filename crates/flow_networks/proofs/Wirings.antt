-- A wiring with a node or an edge more.
use Rattle.std.proofs.Common.{◌≡◌, ℕ, zero, suc, ◌<◌, ◌≤◌, ◌↔◌, Bool, true, false, if◌then◌else◌, IsSome, IsTrue, List, [], ◌∷◌, ◌++◌, length, get_or}
use Rattle.std.proofs.Common.{set, map, replicate, Option, Some, None, refl, sym, ◌∙◌, ap, subst, arith, length-set, ◌⊎◌, inl, inr}
use Rattle.std.proofs.lemmas.Bool.{cases_eq, cases_lt}
use Rattle.std.proofs.lemmas.List.{get_or-map, map-set, set-get_or, get_or_append_left, get_or_push, length_push, length-map, length-replicate}
use Rattle.std.proofs.lemmas.List.{get_or-replicate, get_or_past, map-append, get_or_default}
use Rattle.std.specs.List.{All, position_or_len}
use Rattle.std.proofs.lemmas.List.Elements.{All-map}
use Rattle.flow_networks.specs.declared.edge.Edge.{Edge}
use Rattle.flow_networks.specs.declared.wiring.Ports.{Ports}
use Rattle.flow_networks.specs.Edges.{edge_at, in_edge, out_edge, IsTakenIn, IsTakenOut}
use Rattle.flow_networks.specs.Tables.{ins, outs, row_at, entry_at, count_at, IsTableOf, IsWiring, HasAllEdges, IsFull}
use Rattle.flow_networks.proofs.Tables.{at_port, with_row, with_entry, entry_none, entry_is, number_is, number_none, node_inside}

-- a row is as long as the table counts
pub row_length : (table : List (List (Option ℕ))) (k : ℕ) → length (row_at table k) ≡ count_at table k
row_length [] k = refl
row_length (t ∷ ts) zero = refl
row_length (t ∷ ts) (suc k) = row_length ts k

-- One side of the ports: what a node has there, and the node and the port of an edge there.
pub record Side : Type 0 where
  pub of : Ports → List (Option ℕ)
  pub node : Edge → ℕ
  pub port : Edge → ℕ

abbrev pub input_side : Side
input_side = record { of = λ node. node.inputs.items; node = λ edge. edge.reader; port = λ edge. edge.reader_port }

abbrev pub output_side : Side
output_side = record { of = λ node. node.outputs.items; node = λ edge. edge.writer; port = λ edge. edge.writer_port }

-- the ports of one node, which f reads, and the table of all
module _ (f : Ports → List (Option ℕ)) (ports : List Ports) (k : ℕ) (x : Ports) (inside : k < length ports) (is : x ≡ get_or ports k x) where
  pub row_is : f x ≡ row_at (map f ports) k
  row_is = ap f is ∙ sym (get_or-map f ports k x [] inside)

  pub count_is : length (f x) ≡ count_at (map f ports) k
  count_is = ap length row_is ∙ row_length (map f ports) k

-- a node that has ports is there
pub node_there : (f : Ports → List (Option ℕ)) (ports : List Ports) (k p : ℕ) → p < count_at (map f ports) k → k < length ports
node_there f ports k p h = omega (arith, node_inside (map f ports) k p (omega (arith, row_length (map f ports) k)), length-map ports f)

-- a list whose one element is put back as it was, as f sees it
pub map_set_back : {X Y : Type 0} (f : X → Y) (xs : List X) (k : ℕ) (x y : X) (d : Y) → k < length xs → x ≡ get_or xs k x → f y ≡ f x → map f (set xs k y) ≡ map f xs
map_set_back f xs k x y d inside is same =
    map-set f xs k y ∙ ap (set (map f xs) k) (same ∙ ap f is ∙ sym (get_or-map f xs k x d inside)) ∙ set-get_or (map f xs) k d

abbrev nothing : Option ℕ
nothing = None

none_free : (n p : ℕ) → get_or (replicate n nothing) p None ≡ None
none_free n p = go (cases_lt p n)
  where
    go : (p < n) ⊎ (n ≤ p) → get_or (replicate n nothing) p None ≡ None
    go (inl l) = get_or-replicate n p nothing None l
    go (inr past) = get_or_past (replicate n nothing) p None (omega (arith, length-replicate n nothing))

-- a side with a node more, whose ports are free
side_with_node : (side : Side) (ports : List Ports) (edges : List Edge) (node : Ports) (n : ℕ) →
    IsTableOf side.node side.port (map side.of ports) edges → side.of node ≡ replicate n None →
    IsTableOf side.node side.port (map side.of (ports ++ node ∷ [])) edges
side_with_node side ports edges node n is free =
    subst (λ t. IsTableOf side.node side.port t edges) (sym (map-append side.of ports (node ∷ [])))
    (with_row side.node side.port (map side.of ports) edges is (side.of node) (λ p. ap (λ (r : List (Option ℕ)). get_or r p None) free ∙ none_free n p))

pub wiring_with_node : (ports : List Ports) (edges : List Edge) (node : Ports) (inputs outputs : ℕ) → IsWiring ports edges → node.inputs.items
    ≡ replicate inputs None → node.outputs.items ≡ replicate outputs None → IsWiring (ports ++ node ∷ []) edges
wiring_with_node ports edges node inputs outputs wired i o =
    record { forward = wired.forward; ins = side_with_node input_side ports edges node inputs wired.ins i; outs = side_with_node output_side ports edges node outputs wired.outs o }

-- and after a push that may be refused
pub wiring_after_push : (ports after : List Ports) (edges : List Edge) (node : Ports) (inputs outputs : ℕ) (pushed : Bool) → after
    ≡ (if pushed then ports ++ node ∷ [] else ports) → IsWiring ports edges → node.inputs.items ≡ replicate inputs None → node.outputs.items
    ≡ replicate outputs None → IsWiring after edges
wiring_after_push ports after edges node inputs outputs true is wired i o = subst (λ ps. IsWiring ps edges) (sym is) (wiring_with_node ports edges node inputs outputs wired i o)
wiring_after_push ports after edges node inputs outputs false is wired i o = subst (λ ps. IsWiring ps edges) (sym is) wired

-- the writer's ports are one edge further, and then the reader's
module _ (ports : List Ports) (edges : List Edge) (x : Edge) (w w' r r' : Ports) (forward : x.writer < x.reader) (inside : x.reader < length ports)
    (w_is : w ≡ get_or ports x.writer w) (w_outs : w'.outputs.items ≡ set w.outputs.items x.writer_port (Some (length edges))) (w_ins : w'.inputs.items ≡ w.inputs.items)
    (r_is : r ≡ get_or (set ports x.writer w') x.reader r) (r_ins : r'.inputs.items ≡ set r.inputs.items x.reader_port (Some (length edges))) (r_outs : r'.outputs.items ≡ r.outputs.items) where
  abbrev half : List Ports
  half = set ports x.writer w'

  abbrev pub both_ends : List Ports
  both_ends = set half x.reader r'

  half_inside : x.reader < length half
  half_inside = omega (arith, length-set ports x.writer w')

  half_ins : ins half ≡ ins ports
  half_ins = map_set_back (λ (n : Ports). n.inputs.items) ports x.writer w w' [] (omega arith) w_is w_ins

  half_outs : outs half ≡ set (outs ports) x.writer (set (row_at (outs ports) x.writer) x.writer_port (Some (length edges)))
  half_outs =
      map-set (λ (n : Ports). n.outputs.items) ports x.writer w'
      ∙ ap (set (outs ports) x.writer)
      (w_outs ∙ ap (λ row. set row x.writer_port (Some (length edges)))
      (ap (λ (n : Ports). n.outputs.items) w_is ∙ sym (get_or-map (λ (n : Ports). n.outputs.items) ports x.writer w [] (omega arith))))

  pub both_outs : outs both_ends ≡ set (outs ports) x.writer (set (row_at (outs ports) x.writer) x.writer_port (Some (length edges)))
  both_outs = map_set_back (λ (n : Ports). n.outputs.items) half x.reader r r' [] half_inside r_is r_outs ∙ half_outs

  pub both_ins : ins both_ends ≡ set (ins ports) x.reader (set (row_at (ins ports) x.reader) x.reader_port (Some (length edges)))
  both_ins =
      map-set (λ (n : Ports). n.inputs.items) half x.reader r'
      ∙ ap (set (ins half) x.reader)
      (r_ins ∙ ap (λ row. set row x.reader_port (Some (length edges)))
      (ap (λ (n : Ports). n.inputs.items) r_is ∙ sym (get_or-map (λ (n : Ports). n.inputs.items) half x.reader r [] half_inside)))
      ∙ ap (λ t. set t x.reader (set (row_at t x.reader) x.reader_port (Some (length edges)))) half_ins

  -- as many ports as before
  counts : (table : List (List (Option ℕ))) (k p : ℕ) (entry : Option ℕ) → map length (set table k (set (row_at table k) p entry)) ≡ map length table
  counts table k p entry =
      map-set length table k (set (row_at table k) p entry) ∙ ap (set (map length table) k) (length-set (row_at table k) p entry ∙ row_length table k) ∙ set-get_or (map length table) k 0

  pub counts_ins : map length (ins both_ends) ≡ map length (ins ports)
  counts_ins = ap (map length) both_ins ∙ counts (ins ports) x.reader x.reader_port (Some (length edges))

  pub counts_outs : map length (outs both_ends) ≡ map length (outs ports)
  counts_outs = ap (map length) both_outs ∙ counts (outs ports) x.writer x.writer_port (Some (length edges))

  -- a side with the edge more, at a port that was free
  side_with_edge : (side : Side) → IsTableOf side.node side.port (map side.of ports) edges → map side.of both_ends
      ≡ set (map side.of ports) (side.node x) (set (row_at (map side.of ports) (side.node x)) (side.port x) (Some (length edges)))
      → side.port x < count_at (map side.of ports) (side.node x) →
      length edges ≤ position_or_len (at_port side.node side.port (side.node x) (side.port x)) edges →
      IsTableOf side.node side.port (map side.of both_ends) (edges ++ x ∷ [])
  side_with_edge side is both port free =
      subst (λ t. IsTableOf side.node side.port t (edges ++ x ∷ [])) (sym both)
      (with_entry side.node side.port (map side.of ports) edges is x (omega (arith, port, row_length (map side.of ports) (side.node x)))
      (entry_none side.node side.port (map side.of ports) edges is (side.node x) (side.port x) free))

  pub wiring_with_edge : IsWiring ports edges → x.writer_port < count_at (outs ports) x.writer → x.reader_port < count_at (ins ports) x.reader →
      length edges ≤ out_edge edges x.writer x.writer_port → length edges ≤ in_edge edges x.reader x.reader_port → IsWiring both_ends (edges ++ x ∷ [])
  wiring_with_edge wired o i free_o free_i = record {
    forward = λ e l. go e l (cases_eq e (length edges));
    ins = side_with_edge input_side wired.ins both_ins i free_i;
    outs = side_with_edge output_side wired.outs both_outs o free_o;
  }
    where
      go : (e : ℕ) → e < length (edges ++ x ∷ []) → ((e ≡ length edges) ⊎ (e ≡ length edges → ⊥)) → (edge_at (edges ++ x ∷ []) e).writer < (edge_at (edges ++ x ∷ []) e).reader
      go e l (inl h) = subst (λ (y : Edge). y.writer < y.reader) (sym (get_or_push edges x _ e (sym h))) forward
      go e l (inr ne) =
          let old : e < length edges = omega (arith, length_push edges x) in
          subst (λ (y : Edge). y.writer < y.reader) (sym (get_or_append_left edges (x ∷ []) _ e old)) (wired.forward e old)

is_some_of : (o : Option ℕ) (e : ℕ) → o ≡ Some e → IsSome o
is_some_of None e h = absurd (cc)
is_some_of (Some x) e h = refl

-- what a table says of one side
module _ (side : Side) (ports : List Ports) (edges : List Edge) (is : IsTableOf side.node side.port (map side.of ports) edges) where
  -- the number of the edge at port p of node k
  abbrev number : ℕ → ℕ → ℕ
  number k p = position_or_len (at_port side.node side.port k p) edges

  pub table_some : (k p : ℕ) → number k p < length edges → entry_at (map side.of ports) k p ≡ Some (number k p)
  table_some = entry_is side.node side.port (map side.of ports) edges is

  pub some_table : (k p e : ℕ) → entry_at (map side.of ports) k p ≡ Some e → (number k p ≡ e) × (number k p < length edges)
  some_table k p e h = let same = number_is side.node side.port (map side.of ports) edges is k p e h in (same, omega (arith, same, is.there k p e h))

  module _ (k : ℕ) (x : Ports) (inside : k < length ports) (here : x ≡ get_or ports k x) where
    -- the table has what the node has
    node_entry : (p : ℕ) → get_or (side.of x) p None ≡ entry_at (map side.of ports) k p
    node_entry p = ap (λ (r : List (Option ℕ)). get_or r p None) (row_is side.of ports k x inside here)

    -- a port of the node that is free
    pub free_is : (p : ℕ) (r : Bool) → IsTrue r ↔ ((p < length (side.of x)) × (get_or (side.of x) p None ≡ None)) → IsTrue r ↔ ((p < count_at (map side.of ports) k) × (length edges ≤ number k p))
    free_is p r test =
        let count = count_is side.of ports k x inside here in (
          λ t. let h = test.0 t in (omega (arith, count, h.0), omega (arith, number_none side.node side.port (map side.of ports) edges is k p (sym (node_entry p) ∙ h.1))),
          λ free. test.1 (omega (arith, count, free.0), node_entry p ∙ entry_none side.node side.port (map side.of ports) edges is k p free.1),
        )

-- all ports of all nodes
module _ (ports : List Ports) (edges : List Edge) (wired : IsWiring ports edges) where
  -- all ports of all nodes have their edges
  pub all_is_full : All HasAllEdges ports → IsFull ports edges
  all_is_full all = record { inputs = inputs; outputs = outputs }
    where
      some_entry : (o : Option ℕ) → IsSome o → (e : ℕ) × (o ≡ Some e)
      some_entry None h = absurd (cc)
      some_entry (Some e) h = (e, refl)

      at : (f : Ports → List (Option ℕ)) → All (λ node. All IsSome (f node)) ports → (k p : ℕ) → p < count_at (map f ports) k → (e : ℕ) × (entry_at (map f ports) k p ≡ Some e)
      at f each k p h =
          let rows : All (All IsSome) (map f ports) = All-map (All IsSome) f ports each in
          some_entry (entry_at (map f ports) k p) (rows k [] (omega (arith, node_there f ports k p h, length-map ports f)) p None (omega (arith, row_length (map f ports) k)))

      inputs : (k p : ℕ) → p < count_at (ins ports) k → IsTakenIn edges k p
      inputs k p h = let e = at input_side.of (λ j d l. (all j d l).inputs) k p h in (some_table input_side ports edges wired.ins k p e.0 e.1).1

      outputs : (k q : ℕ) → q < count_at (outs ports) k → IsTakenOut edges k q
      outputs k q h = let e = at output_side.of (λ j d l. (all j d l).outputs) k q h in (some_table output_side ports edges wired.outs k q e.0 e.1).1

  pub full_is_all : IsFull ports edges → All HasAllEdges ports
  full_is_all full k d l = record {
    inputs = at input_side.of (λ p h. (in_edge edges k p, table_some input_side ports edges wired.ins k p (full.inputs k p h)));
    outputs = at output_side.of (λ q h. (out_edge edges k q, table_some output_side ports edges wired.outs k q (full.outputs k q h)));
  }
    where
      at : (f : Ports → List (Option ℕ)) → ((p : ℕ) → p < count_at (map f ports) k → (e : ℕ) × (entry_at (map f ports) k p ≡ Some e)) → All IsSome (f (get_or ports k d))
      at f each p o within =
          let x = get_or ports k d in
          let here : x ≡ get_or ports k x = get_or_default ports k d x l in
          let e = each p (omega (arith, count_is f ports k x l here)) in
          is_some_of (get_or (f x) p o) e.0 (get_or_default (f x) p o None within ∙ ap (λ (r : List (Option ℕ)). get_or r p None) (row_is f ports k x l here) ∙ e.1)
