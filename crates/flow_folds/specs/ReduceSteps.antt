-- How Reduce goes along blocks, as it stands in memory.
use Rattle.std.specs.Prelude.{◌≡◌, ℕ, ℤ, Bool, List, [], take, Option, Some, Ok}
use Rattle.snesl_data.specs.declared.dialect.Dialect.{Dialect}
use Rattle.snesl_data.specs.declared.operators.operator.Reduction.TheVariants.{Sum, Max}
use Rattle.snesl_data.specs.declared.operators.scalar.Scalar.{Scalar}
use Rattle.snesl_data.specs.declared.operators.scalar.Scalar.TheVariants.{Int}
use Rattle.flow_folds.specs.ReduceBlocks.{AwaitsFlag, Reduces, SumsOfSegments, reduction_of_ints}
use Rattle.flow_folds.specs.declared.reduce.Reached.{Reached}
use Rattle.flow_folds.specs.declared.reduce.Reduce.{Reduce}
use Rattle.flow_folds.specs.declared.reduce.Stage.{Stage}

-- after so much the integers add up to the other, and no sum leaves the range
abbrev pub AddsUpTo : Dialect → ℤ → List ℤ → ℤ → Type 0
AddsUpTo dialect total ns reached = reduction_of_ints dialect Sum (Some (Int total)) ns ≡ Ok (Some (Int reached))

-- this is the greatest of the integers and of what came before them
abbrev pub IsGreatest : Dialect → ℤ → List ℤ → ℤ → Type 0
IsGreatest dialect before ns greatest = reduction_of_ints dialect Max (Some (Int before)) ns ≡ Ok (Some (Int greatest))

-- the first so many flags and elements, after so much, end segments with the first so many sums; then what came since adds up to the last
abbrev pub SumsFirst : ℤ → List Bool → List ℤ → List ℤ → ℕ × ℕ × ℕ × ℤ → Type 0
SumsFirst total flags elements sums r = SumsOfSegments total (take r.0 flags) (take r.1 elements) (take r.2 sums) r.3

-- what is so far and these elements reduce to the other
abbrev pub ReducesTo : Reduce → Option Scalar → List ℤ → Option Scalar → Type 0
ReducesTo n so_far elements reached = reduction_of_ints n.dialect n.reduction so_far elements ≡ Ok reached

-- the first so many elements, each after its flag, lead from one stage to the other
abbrev pub ElementsReduce : Reduce → Stage → List Bool → List ℤ → ℕ × Stage → Type 0
ElementsReduce n stage flags elements r = Reduces (n.dialect, n.reduction) stage (take r.0 flags) (take r.0 elements) [] r.1

-- a flag comes next, and this is the sum so far
abbrev pub HoldsSum : Reduce → ℤ → Type 0
HoldsSum n total = AwaitsFlag n.reduction n.stage (Some (Int total))

-- the first so many flags and elements lead as far, and write the first so many values
abbrev pub ReducesFirst : Reduce → List Bool → List ℤ → List ℤ → Reached → Type 0
ReducesFirst n flags elements values r =
    Reduces (n.dialect, n.reduction) n.stage (take r.flags flags) (take r.elements elements) (take r.values values) r.stage

-- the same, and the worker is then there
abbrev pub ReducesOn : Reduce → List Bool → List ℤ → List ℤ → ℕ × ℕ × ℕ → Reduce → Type 0
ReducesOn old flags elements values r new =
    Reduces (old.dialect, old.reduction) old.stage (take r.0 flags) (take r.1 elements) (take r.2 values) new.stage
