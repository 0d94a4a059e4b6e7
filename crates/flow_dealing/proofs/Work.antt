-- The work of the nodes at edges, as more is added.
use Rattle.std.proofs.Common.{◌≡◌, ℕ, ◌+◌, ◌<◌, ◌≤◌, ◌⊎◌, inl, inr, List, slice_index, subst, arith}
use Rattle.std.proofs.lemmas.Bool.{cases_lt}
use Rattle.flow_networks.specs.declared.edge.Edge.{Edge}
use Rattle.flow_networks.specs.Edges.{edge_at}
use Rattle.flow_dealing.specs.Weights.{HaveWork}

module _ (counts : List ℕ) (edges : List Edge) (work work' : List ℕ) (grows : (k : ℕ) → slice_index work k ≤ slice_index work' k) where
  -- what has work keeps it
  pub keeps_work : (e : ℕ) → HaveWork counts edges work e → HaveWork counts edges work' e
  keeps_work e has =
      let writer = grows (edge_at edges e).writer in
      let reader = grows (edge_at edges e).reader in
      record {
        some_written = omega (arith, has.some_written, writer);
        some_read = omega (arith, has.some_read, reader);
        written = omega (arith, has.written, writer);
        read = omega (arith, has.read, reader);
      }

  -- one edge more
  pub more_work : (n : ℕ) → ((e : ℕ) → e < n → HaveWork counts edges work e) → HaveWork counts edges work' n → (e : ℕ) → e < n + 1 → HaveWork counts edges work' e
  more_work n all own e inside = cases (cases_lt e n) where
    cases : (e < n) ⊎ (n ≤ e) → HaveWork counts edges work' e
    cases (inl less) = keeps_work e (all e less)
    cases (inr more) = let last : n ≡ e = omega (arith, more, inside) in subst (HaveWork counts edges work') last own

-- the nodes that an edge joins have work, where these have it
pub have_work : (counts : List ℕ) (edges : List Edge) (work : List ℕ) (e : ℕ) (edge : Edge) → edge ≡ edge_at edges e
    → 0 < slice_index work edge.writer → 0 < slice_index work edge.reader
    → slice_index counts e ≤ slice_index work edge.writer → slice_index counts e ≤ slice_index work edge.reader → HaveWork counts edges work e
have_work counts edges work e edge is some_written some_read written read = record {
  some_written = subst (λ (at : Edge). 0 < slice_index work at.writer) is some_written;
  some_read = subst (λ (at : Edge). 0 < slice_index work at.reader) is some_read;
  written = subst (λ (at : Edge). slice_index counts e ≤ slice_index work at.writer) is written;
  read = subst (λ (at : Edge). slice_index counts e ≤ slice_index work at.reader) is read;
}
