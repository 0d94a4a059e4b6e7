-- The limits of a graph while the network of a plan is built.
use Rattle.std.specs.Prelude.{◌≡◌, ℕ, zero, suc, ◌+◌, ◌<◌, ◌≤◌, List, [], ◌∷◌, ◌++◌, length, drop, Some}
use Rattle.std.specs.List.{slice_get}
use Rattle.std.proofs.Common.{ap, arith, inl, inr}
use Rattle.std.proofs.lemmas.Bool.Decides.{nat_tests}
use Rattle.std.proofs.lemmas.List.{length_push}
use Rattle.std.proofs.lemmas.Option.{slice_get_within}
use Rattle.flow_networks.specs.declared.edge.Edge.{Edge}
use Rattle.flow_networks.specs.Limits.{most_nodes, most_edges}
use Rattle.flow_nodes.specs.StreamNodes.{NodeKind, member}
use Rattle.flow_nodes.specs.plans.Plans.{Step}
use Rattle.flow_nodes.specs.plans.Ports.{kinds_written}
use Rattle.flow_nodes.specs.plans.Layouts.{Placed, times, uses, layout, layout_from, all_after, edges_needed}
use Rattle.flow_assembly.specs.Ready.{IsTooBig, KeepsLimits}
use Rattle.flow_assembly.proofs.Fitting.{some_same}

abbrev State : Type 0
State = (t : NodeKind) × (member t).State

-- a list from one of its places on
pub drop_at : {A : Type 0} (xs : List A) (n : ℕ) (x : A) → slice_get xs n ≡ Some x → drop n xs ≡ x ∷ drop (suc n) xs
drop_at [] n x at = absurd (cc)
drop_at (y ∷ xs) zero x at = ap (λ z. z ∷ xs) (some_same at)
drop_at (y ∷ xs) (suc n) x at = drop_at xs n x at

module _ (plan : List Step) (states : List State) (edges : List Edge) where
  pub node_within : (placed : Placed) (s : State) → KeepsLimits plan states edges 0 → slice_get (layout plan) (length states) ≡ Some placed → (length states ≡ most_nodes → ⊥)
      → KeepsLimits plan (states ++ s ∷ []) edges (length placed.reads)
  node_within placed s within at room =
      let longer = length_push states s in
      let next = drop_at (layout plan) (length states) placed at in
      let count : edges_needed (drop (length states) (layout plan)) ≡ length placed.reads + edges_needed (drop (suc (length states)) (layout plan)) = ap edges_needed next in
      let same : length (states ++ s ∷ []) ≡ suc (length states) = omega arith in
      let rest : edges_needed (drop (length (states ++ s ∷ [])) (layout plan)) ≡ edges_needed (drop (suc (length states)) (layout plan)) = ap (λ n. edges_needed (drop n (layout plan))) same in
      record { few_nodes = omega (arith, within.few_nodes, room, longer); few_edges = within.few_edges; all_edges = omega (arith, within.all_edges, count, rest) }

  pub edge_within : (due : ℕ) (edge : Edge) → KeepsLimits plan states edges (suc due) → (length edges ≡ most_edges → ⊥) → KeepsLimits plan states (edges ++ edge ∷ []) due
  edge_within due edge within room =
      let longer = length_push edges edge in
      record { few_nodes = within.few_nodes; few_edges = omega (arith, within.few_edges, room, longer); all_edges = omega (arith, within.all_edges, longer) }

  pub too_many_nodes : (placed : Placed) → slice_get (layout plan) (length states) ≡ Some placed → length states ≡ most_nodes → IsTooBig plan
  too_many_nodes placed at full = inl (omega (arith, slice_get_within (layout plan) (length states) placed at))

  -- the last edge is refused where one is due at the node to come
  pub too_many_after : (placed : Placed) (s : ℕ) → KeepsLimits plan states edges 0 → slice_get (layout plan) (length states) ≡ Some placed →
      placed.reads ≡ s ∷ [] → length edges ≡ most_edges → IsTooBig plan
  too_many_after placed s within at one_read full =
      let count : edges_needed (drop (length states) (layout plan)) ≡ length placed.reads + edges_needed (drop (suc (length states)) (layout plan)) =
      ap edges_needed (drop_at (layout plan) (length states) placed at) in
      let one : length placed.reads ≡ 1 = ap length one_read in
      inr (omega (arith, within.all_edges, count, one))

  pub too_many_edges : (due : ℕ) → KeepsLimits plan states edges (suc due) → length edges ≡ most_edges → IsTooBig plan
  too_many_edges due within full = inr (omega (arith, within.all_edges))

-- The edges of a network are at least as many as the uses of a stream

times_few : (s : ℕ) (ts : List ℕ) → times s ts ≤ length ts
times_few s [] = omega arith
times_few s (t ∷ ts) = let few = times_few s ts in grind (arith, nat_tests)

pub needed_both : (xs ys : List Placed) → edges_needed (xs ++ ys) ≡ edges_needed xs + edges_needed ys
needed_both [] ys = omega arith
needed_both (x ∷ xs) ys = omega (arith, needed_both xs ys)

uses_few : (plan : List Step) (s t : ℕ) (steps : List Step) → uses s steps ≤ edges_needed (layout_from plan t steps)
uses_few plan s t [] = omega arith
uses_few plan s t (step ∷ steps) =
    let kinds = kinds_written step.operation in
    omega (arith, times_few s step.reads, uses_few plan s (t + length kinds) steps, needed_both (all_after plan step.at t kinds) (layout_from plan (t + length kinds) steps))

pub too_many_uses : (plan : List Step) (s : ℕ) → most_edges < uses s plan → IsTooBig plan
too_many_uses plan s many = inr (omega (arith, uses_few plan s 0 plan))
