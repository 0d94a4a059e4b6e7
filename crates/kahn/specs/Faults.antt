-- Which fault is named where several nodes have faulted.
use Rattle.std.specs.Prelude.{◌≡◌, ℕ, ◌<◌, ◌≤◌, ◌⊎◌, List, All, Contains}
use Rattle.snesl_data.specs.declared.fault.Fault.{Fault}
use Rattle.snesl_data.specs.declared.fault.FaultKind.{FaultKind}
use Rattle.snesl_data.specs.declared.fault.FaultKind.TheVariants.{Shape}
use Rattle.snesl_data.specs.Faults.{number_of_fault}

-- a stream that lost step is mostly the trace of a fault elsewhere: Shape ranks after each other kind
abbrev pub rank_of : FaultKind → ℕ
rank_of Shape = 1
rank_of _ = 0

-- the offset of f is the lesser, or offsets are the same and the number of f is no greater
abbrev pub ComesFirst : Fault → Fault → Type 0
ComesFirst f g = (f.at < g.at) ⊎ ((f.at ≡ g.at) × (number_of_fault f.kind ≤ number_of_fault g.kind))

-- where both f and g stand f is named: its kind ranks before that of g, or they rank alike and f comes first
abbrev pub IsNamedBefore : Fault → Fault → Type 0
IsNamedBefore f g = (rank_of f.kind < rank_of g.kind) ⊎ ((rank_of f.kind ≡ rank_of g.kind) × ComesFirst f g)

-- f is the one of these faults that is named
pub record IsNamedOf (faults : List Fault) (f : Fault) : Type 0 where
  pub stands : Contains faults f
  pub first : All (λ g. IsNamedBefore f g) faults

-- of a list of faults no two are named
abbrev pub OneIsNamed : Type 0
OneIsNamed = (faults : List Fault) (f g : Fault) → IsNamedOf faults f → IsNamedOf faults g → f ≡ g
