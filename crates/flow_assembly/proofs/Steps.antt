-- One step of a plan that is built so far.
use Rattle.std.specs.Prelude.{◌≡◌, ℕ, zero, suc, ◌+◌, ◌-◌, ◌<◌, ◌≤◌, ◌^◌, ◌⊎◌, List, [], ◌∷◌, ◌++◌, length, take, drop, Some, option_map, refl}
use Rattle.std.specs.List.{slice_get}
use Rattle.std.proofs.Common.{sym, ◌∙◌, ap, subst, arith, inl, inr, append_assoc}
use Rattle.std.proofs.lemmas.Bool.{cases_lt}
use Rattle.std.proofs.lemmas.Bool.Decides.{nat_tests}
use Rattle.std.proofs.lemmas.List.{length_push, length-append, length-drop, get_or_append_left, get_or-append-add}
use Rattle.std.proofs.lemmas.List.FromFn.{get_or-map-range_with_len, length-map-range_with_len}
use Rattle.std.proofs.lemmas.Option.{slice_get_within}
use Rattle.std.proofs.Math.Seq.{drop-append_seam}
use Rattle.flow_messages.specs.declared.message.Kind.{Kind}
use Rattle.flow_networks.specs.declared.edge.Edge.{Edge}
use Rattle.flow_networks.specs.Limits.{most_nodes}
use Rattle.flow_nodes.specs.StreamNodes.{NodeKind, member, node_behaviour}
use Rattle.flow_nodes.specs.functions.Lists.{bind, each}
use Rattle.flow_nodes.specs.plans.Plans.{Step}
use Rattle.flow_nodes.specs.plans.Ports.{kinds_read, kinds_written, AreWired, kinds_after}
use Rattle.flow_nodes.specs.plans.Layouts.{Placed, times, uses, numbered, all_after, layout, layout_from, places_from, stream_from, stream_to, Performs}
use Rattle.flow_assembly.specs.declared.network.Port.{Port}
use Rattle.flow_assembly.specs.Openings.{IsOpening}
use Rattle.flow_assembly.specs.Joined.{supplier, IsJoinedTo}
use Rattle.flow_assembly.specs.Ready.{left_before, ports_of, AreNextInLayout, IsPutTo, KeepsLimits, IsBuiltTo, WritesKinds}
use Rattle.flow_assembly.proofs.Fitting.{bound, changed, some_same, each_at, each_length, stands_at}
use Rattle.flow_assembly.proofs.Laying.{get_front}
use Rattle.flow_assembly.proofs.Limiting.{node_within}
use Rattle.flow_assembly.proofs.Putting.{left_done, left_to_come}
use Rattle.flow_assembly.proofs.Joining.{added, passed, relabelled, IsAmong, IsSame, IsFresh}

abbrev State : Type 0
State = (t : NodeKind) × (member t).State

abbrev no_port : Port
no_port = record { node = 0; port = 0 }

-- Lists from a place on

dropped_none : {A : Type 0} (n : ℕ) → drop {A = A} n [] ≡ []
dropped_none zero = refl
dropped_none (suc n) = refl

nothing : {A : Type 0} (n : ℕ) (x : A) (ys : List A) → drop n [] ≡ x ∷ ys → ⊥
nothing n x ys e = let f : [] ≡ x ∷ ys = sym (dropped_none n) ∙ e in cc

head_of : {A : Type 0} (xs : List A) (n : ℕ) (x : A) (ys : List A) → drop n xs ≡ x ∷ ys → slice_get xs n ≡ Some x
head_of [] n x ys e = absurd (nothing n x ys e)
head_of (y ∷ xs) zero x ys e = ap (λ l. slice_get l 0) e
head_of (y ∷ xs) (suc n) x ys e = head_of xs n x ys e

drop_further : {A : Type 0} (xs : List A) (n m : ℕ) → drop (n + m) xs ≡ drop m (drop n xs)
drop_further xs zero m = let e : zero + m ≡ m = omega arith in ap (λ k. drop k xs) e
drop_further [] (suc n) m = dropped_none (suc n + m) ∙ sym (dropped_none m)
drop_further (x ∷ xs) (suc n) m = let e : suc n + m ≡ suc (n + m) = omega arith in ap (λ k. drop k (x ∷ xs)) e ∙ drop_further xs n m

get_dropped : {A : Type 0} (xs : List A) (n k : ℕ) → slice_get (drop n xs) k ≡ slice_get xs (n + k)
get_dropped xs zero k = let e : k ≡ zero + k = omega arith in ap (slice_get xs) e
get_dropped [] (suc n) k = refl
get_dropped (x ∷ xs) (suc n) k = let e : suc (n + k) ≡ suc n + k = omega arith in get_dropped xs n k ∙ ap (slice_get (x ∷ xs)) e

-- lists with the same at each place
same_places : {A : Type 0} (xs ys : List A) → length xs ≡ length ys → ((q : ℕ) → q < length xs → slice_get xs q ≡ slice_get ys q) → xs ≡ ys
same_places [] [] e at = refl
same_places [] (y ∷ ys) e at = absurd (omega arith)
same_places (x ∷ xs) [] e at = absurd (omega arith)
same_places (x ∷ xs) (y ∷ ys) e at =
    let one : x ≡ y = some_same (at zero (omega arith)) in
    let rest = same_places xs ys (omega arith) (λ q lt. at (suc q) (omega arith)) in
    ap (λ z. z ∷ xs) one ∙ ap (λ l. y ∷ l) rest

pub same_kinds : (op : Step) (s : State) (kinds : List Kind) → Performs node_behaviour op.operation s → WritesKinds s kinds → kinds ≡ kinds_written op.operation
same_kinds op s kinds does writes =
    same_places kinds (kinds_written op.operation) (writes.outputs ∙ does.outputs)
    (λ q lt. writes.kinds_out q (omega (arith, writes.outputs)) ∙ sym (does.kinds_out q (omega (arith, writes.outputs))))

-- Wired plans

wired_at : (ks : List Kind) (steps : List Step) (i : ℕ) (step : Step) (later : List Step) → AreWired ks steps → drop i steps ≡ step ∷ later
    → each (slice_get (kinds_after ks (take i steps))) step.reads ≡ Some (kinds_read step.operation)
wired_at ks [] i step later wired e = absurd (nothing i step later e)
wired_at ks (s ∷ steps) zero step later wired e =
    let same : s ≡ step = some_same (ap (λ l. slice_get l 0) e) in
    subst (λ x. each (slice_get ks) x.reads ≡ Some (kinds_read x.operation)) same wired.0
wired_at ks (s ∷ steps) (suc i) step later wired e = wired_at (ks ++ kinds_written s.operation) steps i step later wired.1 e

kinds_suc : (ks : List Kind) (steps : List Step) (i : ℕ) (step : Step) (later : List Step) → drop i steps ≡ step ∷ later
    → kinds_after ks (take (suc i) steps) ≡ kinds_after ks (take i steps) ++ kinds_written step.operation
kinds_suc ks [] i step later e = absurd (nothing i step later e)
kinds_suc ks (s ∷ steps) zero step later e = let same : s ≡ step = some_same (ap (λ l. slice_get l 0) e) in ap (λ x. ks ++ kinds_written x.operation) same
kinds_suc ks (s ∷ steps) (suc i) step later e = kinds_suc (ks ++ kinds_written s.operation) steps i step later e

pub kinds_next : (ks : List Kind) (steps : List Step) (i : ℕ) (step : Step) (later : List Step) → drop i steps ≡ step ∷ later
    → kinds_after ks (take (i + 1) steps) ≡ kinds_after ks (take i steps) ++ kinds_written step.operation
kinds_next ks steps i step later e = let n : i + 1 ≡ suc i = omega arith in ap (λ m. kinds_after ks (take m steps)) n ∙ kinds_suc ks steps i step later e

-- how many streams there are before a step that reads them
unread : (s : ℕ) (ks : List Kind) (ts : List ℕ) (read : List Kind) → length ks ≤ s → each (slice_get ks) ts ≡ Some read → times s ts ≡ 0
unread s ks [] read le e = refl
unread s ks (t ∷ ts) read le e =
    let there = bound (slice_get ks t) (λ y. option_map (λ ys. y ∷ ys) (each (slice_get ks) ts)) read e in
    let rest = changed (each (slice_get ks) ts) (λ ys. there.0 ∷ ys) read there.2 in
    let none = unread s ks ts rest.0 le rest.1 in
    let other : s ≡ t → ⊥ = λ same. omega (arith, slice_get_within ks t there.0 there.1, same) in
    grind (arith, nat_tests)

fewer : (ks : List Kind) (steps : List Step) → length ks ≤ length (kinds_after ks steps)
fewer ks [] = omega arith
fewer ks (step ∷ steps) = omega (arith, fewer (ks ++ kinds_written step.operation) steps, length-append ks (kinds_written step.operation))

pub later_uses : (ks : List Kind) (steps : List Step) (i s : ℕ) → AreWired ks steps → length (kinds_after ks (take i steps)) ≤ s → uses s steps ≡ uses s (drop i steps)
later_uses ks [] i s wired le = ap (uses s) (sym (dropped_none i))
later_uses ks (step ∷ steps) zero s wired le = refl
later_uses ks (step ∷ steps) (suc i) s wired le =
    let kinds = ks ++ kinds_written step.operation in
    let few : length kinds ≤ length (kinds_after kinds (take i steps)) = fewer kinds (take i steps) in
    let none = unread s ks step.reads (kinds_read step.operation) (omega (arith, le, few, length-append ks (kinds_written step.operation))) wired.0 in
    omega (arith, none, later_uses kinds steps i s wired.1 le)

-- the numbers from one on
numbered_at : (s : ℕ) (kinds : List Kind) (q : ℕ) → q < length kinds → slice_get (numbered s kinds) q ≡ Some (s + q)
numbered_at s [] q lt = absurd (omega arith)
numbered_at s (k ∷ kinds) zero lt = let e : s ≡ s + zero = omega arith in ap Some e
numbered_at s (k ∷ kinds) (suc q) lt = let e : suc s + q ≡ s + suc q = omega arith in numbered_at (suc s) kinds q (omega arith) ∙ ap Some e

numbered_length : (s : ℕ) (kinds : List Kind) → length (numbered s kinds) ≡ length kinds
numbered_length s [] = refl
numbered_length s (k ∷ kinds) = ap suc (numbered_length (suc s) kinds)

-- so many outputs
pub ports_length : (node outputs : ℕ) → length (ports_of node outputs) ≡ outputs
ports_length node outputs = length-map-range_with_len (λ q. (let port : Port = record { node = node; port = q } in port)) 0 outputs

-- The step

module _ (plan : List Step) (i : ℕ) (step : Step) (now : drop i plan ≡ step ∷ drop (i + 1) plan) (wired : AreWired [] plan)
    (supply : List Port) (found : List ℕ) (states : List State) (edges : List Edge) (built : IsBuiltTo plan i supply found states edges) where
  abbrev pub kinds : List Kind
  kinds = kinds_written step.operation

  abbrev pub placed : Placed
  placed = record { at = step.at; operation = step.operation; reads = step.reads; writes = numbered (length supply) kinds }

  abbrev pub all_put : List Placed
  all_put = all_after plan step.at (length supply) kinds

  abbrev to_come : List Placed
  to_come = layout_from plan (length supply + length kinds) (drop (i + 1) plan)

  laid : drop (length states) (layout plan) ≡ placed ∷ (all_put ++ to_come)
  laid = built.nodes ∙ ap (layout_from plan (length supply)) now

  pub placed_at : slice_get (layout plan) (length states) ≡ Some placed
  placed_at = head_of (layout plan) (length states) placed (all_put ++ to_come) laid

  laid_after : drop (length states + 1) (layout plan) ≡ all_put ++ to_come
  laid_after = drop_further (layout plan) (length states) 1 ∙ ap (drop 1) laid

  reads_here : (q : ℕ) → stream_to (layout plan) (length states) q ≡ slice_get step.reads q
  reads_here q = ap (λ o. bind o (λ (p : Placed). slice_get p.reads q)) placed_at

  writes_here : (q : ℕ) → stream_from (layout plan) (length states) q ≡ slice_get (numbered (length supply) kinds) q
  writes_here q = ap (λ o. bind o (λ (p : Placed). slice_get p.writes q)) placed_at

  pub step_reads : (node : ℕ) (reads : List ℕ) → node ≡ length states → reads ≡ step.reads → (q : ℕ) → stream_to (layout plan) node q ≡ slice_get reads q
  step_reads node reads at same q = ap (λ k. stream_to (layout plan) k q) at ∙ reads_here q ∙ ap (λ l. slice_get l q) (sym same)

  read_now : each (slice_get (kinds_after [] (take i plan))) step.reads ≡ Some (kinds_read step.operation)
  read_now = wired_at [] plan i step (drop (i + 1) plan) wired now

  there : (q s : ℕ) → slice_get step.reads q ≡ Some s → s < length supply
  there q s at =
      let ks = kinds_after [] (take i plan) in
      let inside : q < length step.reads = slice_get_within step.reads q s at in
      let many = each_length (slice_get ks) step.reads (kinds_read step.operation) read_now in
      let kind = stands_at (kinds_read step.operation) q (omega (arith, inside, many)) in
      let is : slice_get ks s ≡ Some kind.0 = sym (each_at (slice_get ks) step.reads (kinds_read step.operation) read_now q s at) ∙ kind.1 in
      omega (arith, slice_get_within ks s kind.0 is, built.streams)

  pub step_there : (reads : List ℕ) → reads ≡ step.reads → (q s : ℕ) → slice_get reads q ≡ Some s → s < length supply
  step_there reads same q s at = there q s (ap (λ l. slice_get l q) (sym same) ∙ at)

  -- how many numbers there are of steps
  pub step_found : (node : ℕ) (found2 : List ℕ) → found2 ≡ found ++ node ∷ [] → length found2 ≡ i + 1
  step_found node found2 same = ap length same ∙ length_push found node ∙ ap (λ m. m + 1) built.steps

  pub step_within : (state : State) (reads : List ℕ) (states2 : List State) (edges2 : List Edge) → reads ≡ step.reads → states2 ≡ states ++ state ∷ []
      → edges2 ≡ edges → (length states ≡ most_nodes → ⊥)
      → KeepsLimits plan states2 edges2 (length reads)
  step_within state reads states2 edges2 same one two room =
      subst (λ x. KeepsLimits plan states2 edges2 (length x)) (sym same)
      (subst (λ x. KeepsLimits plan x edges2 (length step.reads)) (sym one)
      (subst (λ x. KeepsLimits plan (states ++ state ∷ []) x (length step.reads)) (sym two)
      (node_within plan states edges placed state built.within placed_at room)))

  pub step_joined : (state : State) (node : ℕ) (reads found2 : List ℕ) (states2 : List State) (edges2 : List Edge) → IsOpening step.at step.operation state → node ≡ length states
      → reads ≡ step.reads → found2 ≡ found ++ node ∷ []
      → states2 ≡ states ++ state ∷ [] → edges2 ≡ edges → IsJoinedTo (layout plan) (λ t. times t reads + uses t (drop (length found2) plan)) supply node 0 states2 edges2
  step_joined state node reads found2 states2 edges2 opens at same longer one two =
      let start = added (layout plan) (λ t. uses t (drop i plan)) supply states edges built.joined placed state placed_at opens in
      let count : length found2 ≡ i + 1 = step_found node found2 longer in
      subst (λ x. IsJoinedTo (layout plan) (λ t. times t reads + uses t (drop (length found2) plan)) supply x 0 states2 edges2) (sym at)
      (subst (λ x. IsJoinedTo (layout plan) (λ t. times t reads + uses t (drop (length found2) plan)) supply (length states) 0 x edges2) (sym one)
      (subst (λ x. IsJoinedTo (layout plan) (λ t. times t reads + uses t (drop (length found2) plan)) supply (length states) 0 (states ++ state ∷ []) x) (sym two)
      (relabelled (layout plan) (λ t. uses t (drop i plan)) (λ t. times t reads + uses t (drop (length found2) plan)) supply (length states) 0 (states ++ state ∷ []) edges start
      (λ t lt. ap (uses t) now ∙ ap (λ l. times t l + uses t (drop (i + 1) plan)) (sym same) ∙ ap (λ m. times t reads + uses t (drop m plan)) (sym count)))))

  pub step_later : (found2 : List ℕ) → length found2 ≡ i + 1 → (first s : ℕ) → first ≡ length supply → first ≤ s → uses s plan ≡ uses s (drop (length found2) plan)
  step_later found2 count first s is le =
      let ks = kinds_after [] (take i plan) in
      let before = later_uses [] plan i s wired (omega (arith, built.streams, is, le)) in
      let here : uses s (drop i plan) ≡ times s step.reads + uses s (drop (i + 1) plan) = ap (uses s) now in
      let none = unread s ks step.reads (kinds_read step.operation) (omega (arith, built.streams, is, le)) read_now in
      let same : uses s (drop (length found2) plan) ≡ uses s (drop (i + 1) plan) = ap (λ m. uses s (drop m plan)) count in
      omega (arith, before, here, none, same)

  pub step_next : (states2 : List State) (first : ℕ) (kinds2 : List Kind) → length states2 ≡ length states + 1 → first ≡ length supply → kinds2 ≡ kinds
      → AreNextInLayout plan states2 (all_after plan step.at first kinds2)
  step_next states2 first kinds2 count is same k other at =
      let here : slice_get all_put k ≡ Some other = ap (λ l. slice_get (all_after plan step.at (length supply) l) k) (sym same)
      ∙ ap (λ s. slice_get (all_after plan step.at s kinds2) k) (sym is) ∙ at in
      ap (λ m. slice_get (layout plan) (m + k)) count ∙ sym (get_dropped (layout plan) (length states + 1) k) ∙ ap (λ l. slice_get l k) laid_after ∙ get_front all_put to_come k other here

  -- the streams that the step writes have its outputs as their suppliers
  module _ (node outputs : ℕ) (supply3 supply4 : List Port) (found2 : List ℕ) (states3 : List State) (edges3 : List Edge) (reads : List ℕ)
      (at : node ≡ length states) (many : outputs ≡ length kinds) (fits : outputs < 2 ^ 64)
      (same_reads : reads ≡ step.reads) (same_streams : length supply3 ≡ length supply) (longer : supply4 ≡ supply3 ++ ports_of node outputs)
      (is : IsJoinedTo (layout plan) (λ t. uses t (drop (length found2) plan)) supply3 node (length reads) states3 edges3) where
    abbrev steps : List Step
    steps = drop (length found2) plan

    abbrev left2 : ℕ → ℕ
    left2 = left_before steps (length supply)

    abbrev supplied : List Port
    supplied = supply3 ++ ports_of node outputs

    count : length supplied ≡ length supply + outputs
    count = omega (arith, length-append supply3 (ports_of node outputs), length-map-range_with_len (λ q. (let port : Port = record { node = node; port = q } in port)) 0 outputs, same_streams)

    supplied_at : (q : ℕ) → q < outputs → supplier supplied (length supply + q) ≡ (record { node = node; port = q })
    supplied_at q lt =
        ap (λ m. supplier supplied (m + q)) (sym same_streams) ∙ get_or-append-add supply3 (ports_of node outputs) q no_port
        ∙ get_or-map-range_with_len (λ q. (let port : Port = record { node = node; port = q } in port)) 0 outputs q q no_port lt (omega arith)

    writes_at : (q : ℕ) → q < outputs → stream_from (layout plan) node q ≡ Some (length supply + q)
    writes_at q lt = ap (λ k. stream_from (layout plan) k q) at ∙ writes_here q ∙ numbered_at (length supply) kinds q (omega (arith, many))

    fresh : (q : ℕ) → q < outputs → IsFresh (layout plan) (λ t. uses t steps) supply3 node (length reads) states3 edges3 is left2 supplied (length supply + q)
    fresh q lt =
        let one : left2 (length supply + q) ≡ 1 = left_to_come steps (length supply) (length supply + q) (omega arith) in
        let port : (supplier supplied (length supply + q)).port ≡ q = ap (λ w. w.port) (supplied_at q lt) in
        record {
          no_use = λ less. absurd (omega (arith, same_streams));
          node = ap (λ w. w.node) (supplied_at q lt);
          stream = λ j less. let e : q ≡ (supplier supplied (length supply + q)).port + j = omega (arith, one, port) in
              subst (λ p. stream_from (layout plan) node p ≡ Some (length supply + q)) e (writes_at q lt);
          fits = omega (arith, one, port);
        }

    kept : (t : ℕ) → t < length supplied → IsSame (layout plan) (λ t. uses t steps) supply3 node (length reads) states3 edges3 is left2 supplied t
        ⊎ IsFresh (layout plan) (λ t. uses t steps) supply3 node (length reads) states3 edges3 is left2 supplied t
    kept t lt = elim (cases_lt t (length supply)) [
      | inl less ↦ inl (record {
        there = omega (arith, same_streams);
        same_supplier =
            get_or_append_left supply3 (ports_of node outputs) no_port t (omega (arith, same_streams));
        same_left =
            left_done steps (length supply) t less;
      })
      | inr more ↦
          let e : length supply + (t - length supply) ≡ t = omega arith in
          inr (subst (IsFresh (layout plan) (λ t. uses t steps) supply3 node (length reads) states3 edges3 is left2 supplied) e (fresh (t - length supply) (omega (arith, count))))
    ]

    covers : (q t : ℕ) → stream_from (layout plan) node q ≡ Some t
        → (t < length supplied) × IsFresh (layout plan) (λ t. uses t steps) supply3 node (length reads) states3 edges3 is left2 supplied t × IsAmong node q (supplier supplied t) (left2 t)
    covers q t from =
        let found : slice_get (numbered (length supply) kinds) q ≡ Some t = sym (writes_here q) ∙ ap (λ k. stream_from (layout plan) k q) (sym at) ∙ from in
        let lt : q < outputs = omega (arith, slice_get_within (numbered (length supply) kinds) q t found, numbered_length (length supply) kinds, many) in
        let e : length supply + q ≡ t = some_same (sym (writes_at q lt) ∙ from) in
        let one : left2 (length supply + q) ≡ 1 = left_to_come steps (length supply) (length supply + q) (omega arith) in
        let port : (supplier supplied (length supply + q)).port ≡ q = ap (λ w. w.port) (supplied_at q lt) in
        subst (λ u. (u < length supplied) × IsFresh (layout plan) (λ t. uses t steps) supply3 node (length reads) states3 edges3 is left2 supplied u × IsAmong node q (supplier supplied u) (left2 u)) e
        (omega (arith, count, lt), fresh q lt, (sym (ap (λ w. w.node) (supplied_at q lt)), omega (arith, port), omega (arith, one, port)))

    all_read : (q s : ℕ) → stream_to (layout plan) node q ≡ Some s → q < length reads
    all_read q s to = slice_get_within reads q s (sym (step_reads node reads at same_reads q) ∙ to)

    pub step_put : (states4 : List State) (edges4 : List Edge) (found4 : List ℕ) (first : ℕ) → first ≡ length supply → states4 ≡ states3 → edges4
        ≡ edges3 → found4 ≡ found2 → length states3 ≡ node + 1 → KeepsLimits plan states3 edges3 0
        → IsPutTo plan first supply4 found4 states4 edges4
    step_put states4 edges4 found4 first here one two three last within =
        subst (λ x. IsPutTo plan x supply4 found4 states4 edges4) (sym here)
        (subst (λ x. IsPutTo plan (length supply) x found4 states4 edges4) (sym longer)
        (subst (λ x. IsPutTo plan (length supply) supplied x states4 edges4) (sym three)
        (subst (λ x. IsPutTo plan (length supply) supplied found2 x edges4) (sym one) (subst (λ x. IsPutTo plan (length supply) supplied found2 states3 x) (sym two) (record {
          within = within;
          joined =
              let e : suc node ≡ length states3 = omega (arith, last) in
              subst (λ r. IsJoinedTo (layout plan) left2 supplied r 0 states3 edges3) e
              (passed (layout plan) (λ t. uses t steps) supply3 node (length reads) states3 edges3 is left2 supplied all_read (omega (arith, count, same_streams)) kept covers);
        })))))

    pub step_inside : (first : ℕ) → first ≡ length supply → first + outputs ≤ length supply4
    step_inside first here = omega (arith, here, ap length longer, count)

  -- and with what stands after its streams it is built
  pub step_built : (node : ℕ) (kinds2 : List Kind) (first : ℕ) (supply5 : List Port) (found5 : List ℕ) (states5 : List State) (edges5 : List Edge) →
      node ≡ length states → kinds2 ≡ kinds → first ≡ length supply
      → IsPutTo plan (first + length kinds2) supply5 found5 states5 edges5 → length states5
      ≡ length states + 1 + length (all_after plan step.at first kinds2) → length supply5 ≡ length supply + length kinds
      → found5 ≡ found ++ node ∷ [] → IsBuiltTo plan (i + 1) supply5 found5 states5 edges5
  step_built node kinds2 first supply5 found5 states5 edges5 at same here put many streams longer =
      let count : length found5 ≡ i + 1 = step_found node found5 longer in
      let after_same : all_after plan step.at first kinds2 ≡ all_put = ap (λ s. all_after plan step.at s kinds2) here ∙ ap (all_after plan step.at (length supply)) same in
      let nodes5 : length states5 ≡ (length states + 1) + length all_put = many ∙ ap (λ l. length states + 1 + length l) after_same in
      let places5 : suc (length states + length all_put) ≡ length states5 = omega (arith, nodes5) in
      record {
        inside = omega (arith, built.inside, nodes5, length-drop (length states) (layout plan), ap length laid, length-append all_put to_come);
        nodes = ap (λ m. drop m (layout plan)) nodes5 ∙ drop_further (layout plan) (length states + 1) (length all_put) ∙ ap (drop (length all_put)) laid_after ∙ drop-append_seam all_put to_come
            ∙ ap (λ s. layout_from plan s (drop (i + 1) plan)) (sym streams);
        streams = omega (arith, streams, ap length (kinds_next [] plan i step (drop (i + 1) plan) now), length-append (kinds_after [] (take i plan)) kinds, built.streams);
        steps = count;
        places = ap (λ l. l ++ places_from plan (length states5) (length supply5) (drop (i + 1) plan)) longer
            ∙ append_assoc found (node ∷ []) (places_from plan (length states5) (length supply5) (drop (i + 1) plan))
            ∙ ap (λ k. found ++ k ∷ places_from plan (length states5) (length supply5) (drop (i + 1) plan)) at
            ∙ ap (λ m. found ++ length states ∷ places_from plan m (length supply5) (drop (i + 1) plan)) (sym places5)
            ∙ ap (λ s. found ++ length states ∷ places_from plan (suc (length states + length all_put)) s (drop (i + 1) plan)) streams
            ∙ ap (λ l. found ++ places_from plan (length states) (length supply) l) (sym now) ∙ built.places;
        within = put.within;
        joined = relabelled (layout plan) (left_before (drop (length found5) plan) (first + length kinds2)) (λ s. uses s (drop (i + 1) plan)) supply5 (length states5) 0 states5 edges5 put.joined
            (λ t lt. left_done (drop (length found5) plan) (first + length kinds2) t (omega (arith, here, ap length same, streams)) ∙ ap (λ m. uses t (drop m plan)) count);
      }
