-- What is put after a stream: a Sink, nothing, or a Fork.
use Rattle.std.specs.Prelude.{◌≡◌, ℕ, zero, suc, ◌+◌, ◌<◌, ◌≤◌, ◌^◌, ◌==◌, ◌⊎◌, List, [], ◌∷◌, ◌++◌, length, drop, replicate, Some, refl, if◌then◌else◌}
use Rattle.std.specs.List.{slice_get}
use Rattle.std.proofs.Common.{sym, ◌∙◌, ap, subst, arith, inl, inr, set, get_or-set_same, get_or-set_other}
use Rattle.std.proofs.lemmas.Bool.{cases_eq, cases_lt}
use Rattle.std.proofs.lemmas.Bool.Decides.{nat_tests}
use Rattle.std.proofs.lemmas.List.{length_push, length-set}
use Rattle.flow_messages.specs.declared.message.Kind.{Kind}
use Rattle.flow_networks.specs.declared.edge.Edge.{Edge}
use Rattle.flow_networks.specs.Limits.{most_nodes, most_edges}
use Rattle.flow_networks.specs.Networks.{MayJoin}
use Rattle.flow_nodes.specs.StreamNodes.{NodeKind, member, node_behaviour}
use Rattle.flow_nodes.specs.functions.Lists.{bind}
use Rattle.flow_nodes.specs.plans.Plans.{Step, fork, sink}
use Rattle.flow_nodes.specs.plans.Ports.{AreWired, kinds_after}
use Rattle.flow_nodes.specs.plans.Layouts.{Placed, uses, places_after, layout, stream_from, stream_to}
use Rattle.flow_assembly.specs.declared.network.Port.{Port}
use Rattle.flow_assembly.specs.Openings.{IsOpening, OpeningsPerform}
use Rattle.flow_assembly.specs.Joined.{supplier, edge_from, port_after, IsJoinedTo}
use Rattle.flow_assembly.specs.declared.counted_steps.CountedSteps.{CountedSteps}
use Rattle.flow_assembly.specs.Ready.{plan_of, left_before, AreNextInLayout, IsPutTo, KeepsLimits, IsTooBig}
use Rattle.flow_assembly.proofs.Fitting.{FitsKinds, some_same}
use Rattle.flow_assembly.proofs.Laying.{layout_fits, steps_usable}
use Rattle.flow_assembly.proofs.Limiting.{node_within, edge_within, too_many_nodes, too_many_after}
use Rattle.flow_assembly.proofs.Joining.{added, may_join, joined, passed, relabelled, IsAmong, IsFresh}

abbrev State : Type 0
State = (t : NodeKind) × (member t).State

abbrev no_port : Port
no_port = record { node = 0; port = 0 }

-- how many uses are left before and after the streams that are done
pub left_done : (steps : List Step) (s t : ℕ) → t < s → left_before steps s t ≡ uses t steps
left_done steps s t lt = grind (arith, nat_tests)

pub left_to_come : (steps : List Step) (s t : ℕ) → s ≤ t → left_before steps s t ≡ 1
left_to_come steps s t le = grind (arith, nat_tests)

left_same : (steps : List Step) (s t : ℕ) → (t ≡ s → ⊥) → left_before steps s t ≡ left_before steps (s + 1) t
left_same steps s t ne = elim (cases_lt t s) [
  | inl lt ↦ left_done steps s t lt ∙ sym (left_done steps (s + 1) t (omega arith))
  | inr le ↦ left_to_come steps s t le ∙ sym (left_to_come steps (s + 1) t (omega arith))
]

-- the same, but none of this stream
abbrev pub left_without : List Step → (s t : ℕ) → ℕ
left_without steps s t = if t == s then 0 else left_before steps (s + 1) t

without_here : (steps : List Step) (s : ℕ) → left_without steps s s ≡ 0
without_here steps s = grind (arith, nat_tests)

without_other : (steps : List Step) (s t : ℕ) → (t ≡ s → ⊥) → left_without steps s t ≡ left_before steps (s + 1) t
without_other steps s t ne = grind (arith, nat_tests)

-- the places of copies
replicate_at : (n s i : ℕ) → i < n → slice_get (replicate n s) i ≡ Some s
replicate_at zero s i lt = absurd (omega arith)
replicate_at (suc n) s zero lt = refl
replicate_at (suc n) s (suc i) lt = replicate_at n s i (omega arith)

replicate_is : (n s q t : ℕ) → slice_get (replicate n s) q ≡ Some t → (q < n) × (s ≡ t)
replicate_is zero s q t e = absurd (cc)
replicate_is (suc n) s zero t e = (omega arith, some_same e)
replicate_is (suc n) s (suc q) t e = let r = replicate_is n s q t e in (omega (arith, r.0), r.1)

module _ (nodes : List Placed) (steps : List Step) (s : ℕ) (supply : List Port) (states : List State) (edges : List Edge)
    (is : IsJoinedTo nodes (left_before steps s) supply (length states) 0 states edges) (there : s < length supply) where
  -- a stream with one use
  pub put_none : uses s steps ≡ 1 → IsJoinedTo nodes (left_before steps (s + 1)) supply (length states) 0 states edges
  put_none one = relabelled nodes (left_before steps s) (left_before steps (s + 1)) supply (length states) 0 states edges is (λ t lt. elim (cases_eq t s) [
    | inl same ↦ left_to_come steps s t (omega arith) ∙ sym (left_done steps (s + 1) t (omega arith) ∙ ap (λ u. uses u steps) same ∙ one)
    | inr ne ↦ left_same steps s t ne
  ])

  module _ (placed : Placed) (state : State) (at : slice_get nodes (length states) ≡ Some placed) (opens : IsOpening placed.at placed.operation state) (one_read : placed.reads ≡ s ∷ []) where
    more : IsJoinedTo nodes (left_before steps s) supply (length states) 0 (states ++ state ∷ []) edges
    more = added nodes (left_before steps s) supply states edges is placed state at opens

    reads_at : (q : ℕ) → stream_to nodes (length states) q ≡ slice_get (s ∷ []) q
    reads_at q = ap (λ o. bind o (λ w. slice_get w.reads q)) at ∙ ap (λ l. slice_get l q) one_read

    writes_at : (q : ℕ) → stream_from nodes (length states) q ≡ slice_get placed.writes q
    writes_at q = ap (λ o. bind o (λ w. slice_get w.writes q)) at

    -- its input may be joined
    pub put_may : (kinds : List Kind) → OpeningsPerform → ((k : ℕ) (other : Placed) → slice_get nodes k ≡ Some other → FitsKinds kinds other)
        → MayJoin node_behaviour (states ++ state ∷ []) edges (edge_from (supplier supply s) (length states) 0)
    put_may kinds perform fit =
        may_join nodes (left_before steps s) supply (length states) 0 (states ++ state ∷ []) edges more kinds perform fit s there
        (omega (arith, left_to_come steps s s (omega arith))) (omega (arith, length_push states state)) (reads_at 0)

    abbrev pub supply' : List Port
    supply' = set supply s (port_after (supplier supply s))

    abbrev pub edges' : List Edge
    edges' = edges ++ edge_from (supplier supply s) (length states) 0 ∷ []

    joined_now : IsJoinedTo nodes (left_without steps s) supply' (length states) (0 + 1) (states ++ state ∷ []) edges'
    joined_now =
        joined nodes (left_before steps s) supply (length states) 0 (states ++ state ∷ []) edges more (left_without steps s) s there (reads_at 0)
        (omega (arith, left_to_come steps s s (omega arith), without_here steps s)) (λ t ne. left_same steps s t ne ∙ sym (without_other steps s t ne))

    only : (q t : ℕ) → slice_get (s ∷ []) q ≡ Some t → q < 0 + 1
    only zero t e = omega arith
    only (suc q) t e = absurd (cc)

    one_port : (q t : ℕ) → stream_to nodes (length states) q ≡ Some t → q < 0 + 1
    one_port q t to = only q t (sym (reads_at q) ∙ to)

    longer : length supply' ≡ length supply
    longer = length-set supply s (port_after (supplier supply s))

    -- a Sink after a stream with no use
    pub put_sink : uses s steps ≡ 0 → placed.writes ≡ [] → IsJoinedTo nodes (left_before steps (s + 1)) supply' (suc (length states)) 0 (states ++ state ∷ []) edges'
    put_sink none no_writes =
        passed nodes (left_without steps s) supply' (length states) (0 + 1) (states ++ state ∷ []) edges' joined_now (left_before steps (s + 1)) supply' one_port (omega arith)
        (λ t lt. inl (record {
          there = lt;
          same_supplier = refl;
          same_left = elim (cases_eq t s) [
            | inl same ↦ ap (left_before steps (s + 1)) same ∙ left_done steps (s + 1) s (omega arith) ∙ none ∙ sym (ap (left_without steps s) same ∙ without_here steps s)
            | inr ne ↦ sym (without_other steps s t ne)
          ];
        }))
        (λ q t from. absurd (let e : slice_get [] q ≡ Some t = ap (λ l. slice_get l q) (sym no_writes) ∙ sym (writes_at q) ∙ from in cc))

    -- a Fork after a stream with several
    module _ (n : ℕ) (many : uses s steps ≡ n) (fits : n < 2 ^ 64) (copies : placed.writes ≡ replicate n s) where
      abbrev pub forked : List Port
      forked = set supply' s (record { node = length states; port = 0 })

      forked_here : supplier forked s ≡ (record { node = length states; port = 0 })
      forked_here = get_or-set_same supply' s (record { node = length states; port = 0 }) no_port (omega (arith, longer))

      copy_at : (i : ℕ) → i < n → stream_from nodes (length states) i ≡ Some s
      copy_at i lt = writes_at i ∙ ap (λ l. slice_get l i) copies ∙ replicate_at n s i lt

      uses_here : left_before steps (s + 1) s ≡ n
      uses_here = left_done steps (s + 1) s (omega arith) ∙ many

      fresh : IsFresh nodes (left_without steps s) supply' (length states) (0 + 1) (states ++ state ∷ []) edges' joined_now (left_before steps (s + 1)) forked s
      fresh = record {
        no_use = λ lt. without_here steps s;
        node = ap (λ w. w.node) forked_here;
        stream = λ i lt. let e : i ≡ (supplier forked s).port + i = omega (arith, ap (λ w. w.port) forked_here) in
            subst (λ q. stream_from nodes (length states) q ≡ Some s) e (copy_at i (omega (arith, uses_here)));
        fits = omega (arith, uses_here, ap (λ w. w.port) forked_here);
      }

      pub put_fork : IsJoinedTo nodes (left_before steps (s + 1)) forked (suc (length states)) 0 (states ++ state ∷ []) edges'
      put_fork =
          passed nodes (left_without steps s) supply' (length states) (0 + 1) (states ++ state ∷ []) edges' joined_now (left_before steps (s + 1)) forked one_port
          (omega (arith, length-set supply' s (record { node = length states; port = 0 })))
          (λ t lt. elim (cases_eq t s) [
            | inl same ↦ inr (subst (IsFresh nodes (left_without steps s) supply' (length states) (0 + 1) (states ++ state ∷ []) edges' joined_now (left_before steps (s + 1)) forked) (sym same) fresh)
            | inr ne ↦ inl (record {
              there = omega (arith, length-set supply' s (record { node = length states; port = 0 }));
              same_supplier =
                  get_or-set_other supply' s t (record { node = length states; port = 0 }) no_port ne;
              same_left = sym (without_other steps s t ne);
            })
          ])
          (λ q t from.
          let found = replicate_is n s q t (ap (λ l. slice_get l q) (sym copies) ∙ sym (writes_at q) ∙ from) in
          subst (λ u. (u < length forked)
          × IsFresh nodes (left_without steps s) supply' (length states) (0 + 1) (states ++ state ∷ []) edges' joined_now
          (left_before steps (s + 1)) forked u × IsAmong (length states) q (supplier forked u) (left_before steps (s + 1) u))
          found.1 (
            omega (arith, longer, length-set supply' s (record { node = length states; port = 0 })),
            fresh,
            (sym (ap (λ w. w.node) forked_here), omega (arith, ap (λ w. w.port) forked_here), omega (arith, found.0, uses_here, ap (λ w. w.port) forked_here)),
          ))

-- What comes next after a stream

pub sink_next : (plan : List Step) (states : List State) (at s : ℕ) (kind : Kind) → AreNextInLayout plan states (places_after at s kind (uses s plan)) → uses s plan ≡ 0
    → slice_get (layout plan) (length states) ≡ Some (record { at = at; operation = sink kind; reads = s ∷ []; writes = [] })
sink_next plan states at s kind next none =
    let first = next 0 (record { at = at; operation = sink kind; reads = s ∷ []; writes = [] }) (ap (λ n. slice_get (places_after at s kind n) 0) none) in
    let e : length states + 0 ≡ length states = omega arith in
    ap (slice_get (layout plan)) (sym e) ∙ first

fork_after : (at s : ℕ) (kind : Kind) (n : ℕ) → 2 ≤ n → slice_get (places_after at s kind n) 0 ≡ Some (record { at = at; operation = fork kind n; reads = s ∷ []; writes = replicate n s })
fork_after at s kind zero le = absurd (omega arith)
fork_after at s kind (suc zero) le = absurd (omega arith)
fork_after at s kind (suc (suc n)) le = refl

pub fork_next : (plan : List Step) (states : List State) (at s : ℕ) (kind : Kind) (n : ℕ) → AreNextInLayout plan states (places_after at s kind (uses s plan)) → uses s plan ≡ n → 2 ≤ n
    → slice_get (layout plan) (length states) ≡ Some (record { at = at; operation = fork kind n; reads = s ∷ []; writes = replicate n s })
fork_next plan states at s kind n next many le =
    let first = next 0 (record { at = at; operation = fork kind n; reads = s ∷ []; writes = replicate n s }) (ap (λ m. slice_get (places_after at s kind m) 0) many ∙ fork_after at s kind n le) in
    let e : length states + 0 ≡ length states = omega arith in
    ap (slice_get (layout plan)) (sym e) ∙ first

pub one_after : (at s : ℕ) (kind : Kind) (n : ℕ) → 2 ≤ n → length (places_after at s kind n) ≡ 1
one_after at s kind zero le = absurd (omega arith)
one_after at s kind (suc zero) le = absurd (omega arith)
one_after at s kind (suc (suc n)) le = refl

-- All of it

module _ (plan : List Step) (found : List ℕ) (at s : ℕ) (kind : Kind) (supply : List Port) (states : List State) (edges : List Edge)
    (is : IsPutTo plan s supply found states edges) (there : s < length supply) (later : uses s plan ≡ uses s (drop (length found) plan))
    (next : AreNextInLayout plan states (places_after at s kind (uses s plan))) where
  abbrev steps : List Step
  steps = drop (length found) plan

  within_more : (placed : Placed) (state : State) (edge : Edge) → slice_get (layout plan) (length states) ≡ Some placed → placed.reads ≡ s ∷ [] →
      (length states ≡ most_nodes → ⊥) → (length edges ≡ most_edges → ⊥)
      → KeepsLimits plan (states ++ state ∷ []) (edges ++ edge ∷ []) 0
  within_more placed state edge is_at one_read room room_for_edge =
      edge_within plan (states ++ state ∷ []) edges 0 edge
      (subst (λ l. KeepsLimits plan (states ++ state ∷ []) edges (length l)) one_read (node_within plan states edges placed state is.within is_at room)) room_for_edge

  at_length : (left : ℕ → ℕ) (supply' : List Port) (state : State) (edges' : List Edge) → IsJoinedTo (layout plan) left supply' (suc (length states)) 0 (states ++ state ∷ []) edges'
      → IsJoinedTo (layout plan) left supply' (length (states ++ state ∷ [])) 0 (states ++ state ∷ []) edges'
  at_length left supply' state edges' joined =
      let e : suc (length states) ≡ length (states ++ state ∷ []) = omega (arith, length_push states state) in
      subst (λ r. IsJoinedTo (layout plan) left supply' r 0 (states ++ state ∷ []) edges') e joined

  pub none_put : uses s plan ≡ 1 → IsPutTo plan (s + 1) supply found states edges
  none_put one = record { within = is.within; joined = put_none (layout plan) steps s supply states edges is.joined there (sym later ∙ one) }

  module _ (state : State) (room : length states ≡ most_nodes → ⊥) (room_for_edge : length edges ≡ most_edges → ⊥) where
    abbrev pub edges_put : List Edge
    edges_put = edges ++ edge_from (supplier supply s) (length states) 0 ∷ []

    abbrev pub supply_put : List Port
    supply_put = set supply s (port_after (supplier supply s))

    pub sink_put : IsOpening at (sink kind) state → uses s plan ≡ 0 → IsPutTo plan (s + 1) supply_put found (states ++ state ∷ []) edges_put
    sink_put opens none =
        let placed : Placed = record { at = at; operation = sink kind; reads = s ∷ []; writes = [] } in
        let is_at = sink_next plan states at s kind next none in
        record {
          within = within_more placed state (edge_from (supplier supply s) (length states) 0) is_at refl room room_for_edge;
          joined = at_length (left_before steps (s + 1)) supply_put state edges_put
              (put_sink (layout plan) steps s supply states edges is.joined there placed state is_at opens refl (sym later ∙ none) refl);
        }

    pub fork_put : (n : ℕ) → IsOpening at (fork kind n) state → uses s plan ≡ n → 2 ≤ n → n < 2 ^ 64
        → IsPutTo plan (s + 1) (set supply_put s (record { node = length states; port = 0 })) found (states ++ state ∷ []) edges_put
    fork_put n opens many le fits =
        let placed : Placed = record { at = at; operation = fork kind n; reads = s ∷ []; writes = replicate n s } in
        let is_at = fork_next plan states at s kind n next many le in
        record {
          within = within_more placed state (edge_from (supplier supply s) (length states) 0) is_at refl room room_for_edge;
          joined = at_length (left_before steps (s + 1)) (set supply_put s (record { node = length states; port = 0 })) state edges_put
              (put_fork (layout plan) steps s supply states edges is.joined there placed state is_at opens refl n (sym later ∙ many) fits refl);
        }

  -- where a limit is met the network of the plan is over it
  pub sink_big : uses s plan ≡ 0 → (length states ≡ most_nodes) ⊎ (length edges ≡ most_edges) → IsTooBig plan
  sink_big none (inl full) = too_many_nodes plan states edges (record { at = at; operation = sink kind; reads = s ∷ []; writes = [] }) (sink_next plan states at s kind next none) full
  sink_big none (inr full) = too_many_after plan states edges (record { at = at; operation = sink kind; reads = s ∷ []; writes = [] }) s is.within (sink_next plan states at s kind next none) refl full

  pub fork_big : (n : ℕ) → uses s plan ≡ n → 2 ≤ n → (length states ≡ most_nodes) ⊎ (length edges ≡ most_edges) → IsTooBig plan
  fork_big n many le (inl full) =
      too_many_nodes plan states edges (record { at = at; operation = fork kind n; reads = s ∷ []; writes = replicate n s })
      (fork_next plan states at s kind n next many le) full
  fork_big n many le (inr full) =
      too_many_after plan states edges (record { at = at; operation = fork kind n; reads = s ∷ []; writes = replicate n s }) s is.within
      (fork_next plan states at s kind n next many le) refl full

-- the same network, said in another way
pub put_same : (plan : List Step) (s : ℕ) (supply supply' : List Port) (found found' : List ℕ) (states states' : List State) (edges edges' : List Edge)
    → supply' ≡ supply → found' ≡ found → states' ≡ states → edges' ≡ edges → IsPutTo plan s supply found states edges → IsPutTo plan s supply' found' states' edges'
put_same plan s supply newer found found' states states' edges newest one two three four is =
    subst (λ x. IsPutTo plan s x found' states' newest) (sym one) (subst (λ x. IsPutTo plan s supply x states' newest) (sym two)
    (subst (λ x. IsPutTo plan s supply found x newest) (sym three) (subst (λ x. IsPutTo plan s supply found states x) (sym four) is)))

-- the kinds of the streams at the ports of the network of a program's plan
pub plan_fits : (plan : CountedSteps) → AreWired [] (plan_of plan) → (k : ℕ) (placed : Placed) → slice_get (layout (plan_of plan)) k ≡ Some placed → FitsKinds (kinds_after [] (plan_of plan)) placed
plan_fits plan wired = layout_fits (plan_of plan) [] (plan_of plan) (steps_usable plan.dialect plan.steps.items) wired
