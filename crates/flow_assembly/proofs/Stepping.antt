-- One step of a plan in its network: its reads, its streams, and what stands after them.
use Rattle.std.specs.Prelude.{◌≡◌, ℕ, zero, suc, ◌+◌, ◌<◌, ◌≤◌, List, [], ◌∷◌, ◌++◌, length, drop, Some, refl}
use Rattle.std.specs.List.{slice_get}
use Rattle.std.proofs.Common.{sym, ◌∙◌, ap, subst, arith, get_or, set}
use Rattle.std.proofs.Math.ListN.{drop_of_length-le}
use Rattle.std.proofs.lemmas.Bool.Decides.{nat_tests}
use Rattle.std.proofs.lemmas.List.{length-append}
use Rattle.std.proofs.Math.Seq.{drop-cons}
use Rattle.flow_messages.specs.declared.message.Kind.{Kind}
use Rattle.flow_networks.specs.declared.edge.Edge.{Edge}
use Rattle.flow_networks.specs.Limits.{most_edges}
use Rattle.flow_networks.specs.Networks.{MayJoin}
use Rattle.flow_nodes.specs.StreamNodes.{NodeKind, member, node_behaviour}
use Rattle.flow_nodes.specs.plans.Plans.{Step}
use Rattle.flow_nodes.specs.plans.Layouts.{Placed, times, uses, places_after, all_after, layout, stream_to}
use Rattle.flow_assembly.specs.declared.network.Port.{Port}
use Rattle.flow_assembly.specs.Openings.{OpeningsPerform}
use Rattle.flow_assembly.specs.Joined.{supplier, edge_from, port_after, IsJoinedTo}
use Rattle.flow_assembly.specs.Ready.{AreNextInLayout, KeepsLimits}
use Rattle.flow_assembly.proofs.Fitting.{FitsKinds}
use Rattle.flow_assembly.proofs.Laying.{get_front, get_back}
use Rattle.flow_assembly.proofs.Limiting.{edge_within}
use Rattle.flow_assembly.proofs.Joining.{may_join, joined, relabelled}

abbrev State : Type 0
State = (t : NodeKind) × (member t).State

-- Reads

first : (s : ℕ) (ts : List ℕ) → times s (s ∷ ts) ≡ times s ts + 1
first s ts = grind (arith, nat_tests)

not_first : (t s : ℕ) (ts : List ℕ) → (t ≡ s → ⊥) → times t (s ∷ ts) ≡ times t ts
not_first t s ts ne = grind (arith, nat_tests)

module _ (reads : List ℕ) (p : ℕ) (lt : p < length reads) where
  here : drop p reads ≡ get_or reads p 0 ∷ drop (p + 1) reads
  here = let e : suc p ≡ p + 1 = omega arith in drop-cons reads p 0 lt ∙ ap (λ n. get_or reads p 0 ∷ drop n reads) e

  pub read_one : times (get_or reads p 0) (drop p reads) ≡ times (get_or reads p 0) (drop (p + 1) reads) + 1
  read_one = ap (times (get_or reads p 0)) here ∙ first (get_or reads p 0) (drop (p + 1) reads)

  pub read_others : (t : ℕ) → (t ≡ get_or reads p 0 → ⊥) → times t (drop p reads) ≡ times t (drop (p + 1) reads)
  read_others t ne = ap (times t) here ∙ not_first t (get_or reads p 0) (drop (p + 1) reads) ne

  pub read_length : length (drop p reads) ≡ suc (length (drop (p + 1) reads))
  read_length = ap length here

module _ (plan : List Step) (rest : ℕ → ℕ) (reads : List ℕ) (p node : ℕ) (supply : List Port) (states : List State) (edges : List Edge) (lt : p < length reads)
    (is : IsJoinedTo (layout plan) (λ s. times s (drop p reads) + rest s) supply node p states edges) (there : get_or reads p 0 < length supply)
    (to : stream_to (layout plan) node p ≡ Some (get_or reads p 0)) where
  pub read_may : (kinds : List Kind) → OpeningsPerform → ((k : ℕ) (other : Placed) → slice_get (layout plan) k ≡ Some other → FitsKinds kinds other) → node < length states
      → MayJoin node_behaviour states edges (edge_from (supplier supply (get_or reads p 0)) node p)
  read_may kinds perform fit inside =
      may_join (layout plan) (λ s. times s (drop p reads) + rest s) supply node p states edges is kinds perform fit (get_or reads p 0) there (omega (arith, read_one reads p lt)) inside to

  pub read_on : (supply2 : List Port) (states2 : List State) (edges2 : List Edge)
      → supply2 ≡ set supply (get_or reads p 0) (port_after (supplier supply (get_or reads p 0))) → states2 ≡ states → edges2 ≡ edges ++ edge_from (supplier supply (get_or reads p 0)) node p ∷ []
      → IsJoinedTo (layout plan) (λ s. times s (drop (p + 1) reads) + rest s) supply2 node (p + 1) states2 edges2
  read_on supply2 states2 edges2 one two three =
      subst (λ x. IsJoinedTo (layout plan) (λ s. times s (drop (p + 1) reads) + rest s) x node (p + 1) states2 edges2) (sym one)
      (subst (λ x. IsJoinedTo (layout plan) (λ s. times s (drop (p + 1) reads) + rest s)
      (set supply (get_or reads p 0) (port_after (supplier supply (get_or reads p 0)))) node (p + 1) x edges2) (sym two)
      (subst (λ x. IsJoinedTo (layout plan) (λ s. times s (drop (p + 1) reads) + rest s)
      (set supply (get_or reads p 0) (port_after (supplier supply (get_or reads p 0)))) node (p + 1) states x) (sym three)
      (joined (layout plan) (λ s. times s (drop p reads) + rest s) supply node p states edges is (λ s. times s (drop (p + 1) reads) + rest s) (get_or reads p 0) there to
      (omega (arith, read_one reads p lt)) (λ t ne. ap (λ n. n + rest t) (read_others reads p lt t ne)))))

-- all are read
module _ (plan : List Step) (reads : List ℕ) (p : ℕ) (states : List State) (edges : List Edge) (le : length reads ≤ p) where
  pub read_all : (rest : ℕ → ℕ) (node : ℕ) (supply : List Port) → p ≤ length reads → IsJoinedTo (layout plan) (λ s. times s (drop p reads) + rest s) supply node p states edges
      → IsJoinedTo (layout plan) rest supply node (length reads) states edges
  read_all rest node supply ge is =
      let same : p ≡ length reads = omega arith in
      let none : drop p reads ≡ [] = drop_of_length-le reads le in
      subst (λ q. IsJoinedTo (layout plan) rest supply node q states edges) same
      (relabelled (layout plan) (λ s. times s (drop p reads) + rest s) rest supply node p states edges is (λ t lt. omega (arith, ap (times t) none)))

  pub all_within : KeepsLimits plan states edges (length (drop p reads)) → KeepsLimits plan states edges 0
  all_within = subst (λ l. KeepsLimits plan states edges (length l)) (drop_of_length-le reads le)

pub read_within : (plan : List Step) (reads : List ℕ) (p : ℕ) (states states2 : List State) (edges edges2 : List Edge) (edge : Edge) →
    p < length reads → KeepsLimits plan states edges (length (drop p reads)) → (length edges ≡ most_edges → ⊥)
    → states2 ≡ states → edges2 ≡ edges ++ edge ∷ [] → KeepsLimits plan states2 edges2 (length (drop (p + 1) reads))
read_within plan reads p states states2 edges edges2 edge lt within room one two =
    subst (λ x. KeepsLimits plan x edges2 (length (drop (p + 1) reads))) (sym one) (subst (λ x. KeepsLimits plan states x (length (drop (p + 1) reads))) (sym two)
    (edge_within plan states edges (length (drop (p + 1) reads)) edge (subst (KeepsLimits plan states edges) (read_length reads p lt) within) room))

-- What comes next

module _ (plan : List Step) (at first_stream q : ℕ) (kinds : List Kind) (kind : Kind) (lt : q < length kinds) (is : get_or kinds q kind ≡ kind) where
  all_now : all_after plan at (first_stream + q) (drop q kinds) ≡ places_after at (first_stream + q) kind (uses (first_stream + q) plan)
      ++ all_after plan at (first_stream + (q + 1)) (drop (q + 1) kinds)
  all_now =
      let e : suc q ≡ q + 1 = omega arith in
      let f : suc (first_stream + q) ≡ first_stream + (q + 1) = omega arith in
      ap (all_after plan at (first_stream + q)) (drop-cons kinds q kind lt ∙ ap (λ k. k ∷ drop (suc q) kinds) is ∙ ap (λ n. kind ∷ drop n kinds) e)
      ∙ ap (λ n. places_after at (first_stream + q) kind (uses (first_stream + q) plan) ++ all_after plan at n (drop (q + 1) kinds)) f

  pub first_next : (states : List State) → AreNextInLayout plan states (all_after plan at (first_stream + q) (drop q kinds))
      → AreNextInLayout plan states (places_after at (first_stream + q) kind (uses (first_stream + q) plan))
  first_next states next k placed at_k =
      next k placed (ap (λ l. slice_get l k) all_now
      ∙ get_front (places_after at (first_stream + q) kind (uses (first_stream + q) plan))
      (all_after plan at (first_stream + (q + 1)) (drop (q + 1) kinds)) k placed at_k)

  pub later_next : (states states2 : List State) → AreNextInLayout plan states (all_after plan at (first_stream + q) (drop q kinds))
      → length states2 ≡ length states + length (places_after at (first_stream + q) kind (uses (first_stream + q) plan))
      → AreNextInLayout plan states2 (all_after plan at (first_stream + (q + 1)) (drop (q + 1) kinds))
  later_next states states2 next longer k placed at_k =
      let front = places_after at (first_stream + q) kind (uses (first_stream + q) plan) in
      let e : length states + (length front + k) ≡ length states2 + k = omega (arith, longer) in
      subst (λ n. slice_get (layout plan) n ≡ Some placed) e
      (next (length front + k) placed (ap (λ l. slice_get l (length front + k)) all_now ∙ get_back front (all_after plan at (first_stream + (q + 1)) (drop (q + 1) kinds)) k placed at_k))

  pub count_next : length (all_after plan at (first_stream + q) (drop q kinds))
      ≡ length (places_after at (first_stream + q) kind (uses (first_stream + q) plan)) + length
      (all_after plan at (first_stream + (q + 1)) (drop (q + 1) kinds))
  count_next = ap length all_now ∙ length-append (places_after at (first_stream + q) kind (uses (first_stream + q) plan)) (all_after plan at (first_stream + (q + 1)) (drop (q + 1) kinds))

-- what stands inside a list does not hang on what stands for other places
pub same_default : {A : Type 0} (xs : List A) (k : ℕ) (d e : A) → k < length xs → get_or xs k e ≡ get_or xs k d
same_default [] k d e lt = absurd (omega arith)
same_default (x ∷ xs) zero d e lt = refl
same_default (x ∷ xs) (suc k) d e lt = same_default xs k d e (omega arith)
