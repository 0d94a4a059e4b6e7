-- The plan of a typed program is wired, and its network has a node for each step at least.
use Rattle.std.proofs.Common.{◌≡◌, ℕ, ◌+◌, ◌≤◌, Bool, true, false, List, [], ◌∷◌, ◌++◌, length, Result, Ok, Err, refl, sym, subst, ◌∙◌, arith, length-append}
use Rattle.std.proofs.Math.Logic.{∥∥₁_elim}
use Rattle.std.proofs.Props.{props}
use Rattle.std.specs.Result.{IsErr, IsErrAnd}
use mathlib.Core.HLevel.{hedberg}
use denote.Enum.Bare.{sameb}
use Rattle.snesl_data.specs.declared.refusal.Refusal.{Refusal}
use Rattle.snesl_types.specs.declared.typed.TypedProgram.{TypedProgram}
use Rattle.snesl_types.specs.Typed.{typed_inputs, typed_text, typed_tree, typed_ty}
use Rattle.flow_messages.specs.declared.message.Kind.{Kind}
use Rattle.flow_messages.specs.contracts.message.Kind.{the_type}
use Rattle.flow_networks.proofs.KindTests.{same_kind}
use Rattle.flow_nodes.specs.plans.Plans.{Step}
use Rattle.flow_nodes.specs.plans.Ports.{AreWired, kinds_written}
use Rattle.flow_nodes.specs.plans.Layouts.{all_after, layout_from, layout}
use Rattle.snesl_translation.specs.Programs.{unset_cells}
use Rattle.snesl_translation.specs.wiring.Wirings.{PlansAreWired}
use Rattle.snesl_flatten.specs.Networks.{program_steps}

kind_discrete : Discrete Kind
kind_discrete a b = go (sameb the_type a b) refl
  where
    go : (r : Bool) → r ≡ sameb the_type a b → Dec (a ≡ b)
    go true e = yes ((same_kind a b true e).0 refl)
    go false e = no (λ s. let two : false ≡ true = (same_kind a b false e).1 s in absurd (cc))

Kind-set : IsSet Kind
Kind-set = hedberg kind_discrete

AreWired-prop : (kinds : List Kind) (steps : List Step) → IsProp (AreWired kinds steps)
AreWired-prop kinds [] = hlevel
AreWired-prop kinds (step ∷ steps) = hlevel (props, Kind-set, AreWired-prop (kinds ++ kinds_written step.operation) steps)

-- the steps of a typed program
pub typed_wired : PlansAreWired → (typed : TypedProgram) → AreWired [] (program_steps (typed_text typed) (typed_tree typed) (typed_inputs typed) unset_cells)
typed_wired wired typed =
    ∥∥₁_elim typed.typed (AreWired-prop [] (program_steps (typed_text typed) (typed_tree typed) (typed_inputs typed) unset_cells)) (λ d.
    subst (λ inputs. AreWired [] (program_steps (typed_text typed) (typed_tree typed) inputs unset_cells)) d.2 (wired (typed_text typed) (typed_tree typed) d.0 (typed_ty typed) unset_cells d.1).0)

layout_long : (plan : List Step) (s : ℕ) (steps : List Step) → length steps ≤ length (layout_from plan s steps)
layout_long plan s [] = omega arith
layout_long plan s (step ∷ steps) =
    let kinds = kinds_written step.operation in
    let behind = all_after plan step.at s kinds in
    let others = layout_from plan (s + length kinds) steps in
    omega (arith, length-append behind others, layout_long plan (s + length kinds) steps)

-- there is a node for each step
pub node_each : (plan : List Step) → length plan ≤ length (layout plan)
node_each plan = layout_long plan 0 plan

-- which refusal the exit of a `?` returns
pub refused_with : {A : Type 0} (r : Result A Refusal) (e g : Refusal) → IsErr r × IsErrAnd r (λ h. h ≡ e) → r ≡ Err g → e ≡ g
refused_with (Ok x) e g h is = absurd h.1
refused_with (Err f) e g h is = let same : f ≡ g = cc in sym h.1 ∙ same
