-- What Reduce makes of blocks of flags and integers.
use Rattle.std.specs.Prelude.{◌≡◌, ◌*◌, ℤ, eqb, cond, Bool, true, false, List, [], ◌∷◌, length, Option, Some, Result, Ok}
use Rattle.snesl_data.specs.declared.dialect.Dialect.{Dialect}
use Rattle.snesl_data.specs.declared.fault.FaultKind.{FaultKind}
use Rattle.snesl_data.specs.operators.Reductions.{and_then, reduced_nothing, reduced_more}
use Rattle.snesl_data.specs.declared.operators.operator.Reduction.{Reduction}
use Rattle.snesl_data.specs.declared.operators.operator.Reduction.TheVariants.{Sum}
use Rattle.snesl_data.specs.declared.operators.scalar.Scalar.{Scalar}
use Rattle.snesl_data.specs.declared.operators.scalar.Scalar.TheVariants.{Int}
use Rattle.flow_messages.specs.Blocks.{flag_signals, int_signals}
use Rattle.flow_base.specs.Along.{RunsAlong}
use Rattle.flow_folds.specs.ReduceMachine.{reduce_machine}
use Rattle.flow_folds.specs.declared.reduce.Stage.{Stage}
use Rattle.flow_folds.specs.declared.reduce.Stage.TheVariants.{Start, Flag}

-- what the elements so far and these integers after them reduce to
abbrev pub reduction_of_ints : Dialect → Reduction → Option Scalar → List ℤ → Result (Option Scalar) FaultKind
reduction_of_ints dialect reduction so_far [] = Ok so_far
reduction_of_ints dialect reduction so_far (x ∷ xs) = and_then (reduced_more dialect reduction so_far (Int x)) (λ more. reduction_of_ints dialect reduction more xs)

-- a flag comes at this stage, and this is what the elements so far reduce to
abbrev pub AwaitsFlag : Reduction → Stage → Option Scalar → Type 0
AwaitsFlag reduction Start so_far = reduced_nothing reduction ≡ so_far
AwaitsFlag reduction (Flag held) so_far = held ≡ so_far
AwaitsFlag reduction _ so_far = ⊥

-- the machine goes from one stage to the other, reads just these flags and elements and writes just these values: two steps for each flag
abbrev pub Reduces : Dialect × Reduction → Stage → List Bool → List ℤ → List ℤ → Stage → Type 0
Reduces p s flags elements values t = RunsAlong reduce_machine (p, s) (p, t) (flag_signals flags) (int_signals elements) (λ q. cond (eqb q 0) (int_signals values) []) (2 * length flags)

-- where these flags lead, each with the element that it stands for or the value that it ends, where the elements since the last end add up to this
abbrev pub stage_of_sum : Stage → ℤ → List Bool → Stage
stage_of_sum s total [] = s
stage_of_sum s total (true ∷ flags) = stage_of_sum Start total flags
stage_of_sum s total (false ∷ flags) = stage_of_sum (Flag (Some (Int total))) total flags

-- in each dialect, after so much: along these flags and elements the segments that end have these sums, and what came since adds up to the other
abbrev pub SumsOfSegments : ℤ → List Bool → List ℤ → List ℤ → ℤ → Type 0
SumsOfSegments total flags elements sums more = (dialect : Dialect) (s : Stage) → AwaitsFlag Sum s (Some (Int total)) →
    Reduces (dialect, Sum) s flags elements sums (stage_of_sum s more flags) × AwaitsFlag Sum (stage_of_sum s more flags) (Some (Int more))
