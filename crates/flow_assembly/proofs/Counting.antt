-- Too many uses of a stream.
use Rattle.std.specs.Prelude.{◌≡◌, ℕ, zero, suc, ◌+◌, ◌<◌, ◌≤◌, List, [], ◌∷◌, length, drop, map, refl}
use Rattle.std.proofs.Common.{sym, ◌∙◌, ap, subst, arith, get_or, inl, inr}
use Rattle.std.proofs.lemmas.Bool.{cases_eq}
use Rattle.std.proofs.Math.ListN.{drop_of_length-le}
use Rattle.std.proofs.Math.Seq.{drop-cons}
use Rattle.snesl_data.specs.declared.dialect.Dialect.{Dialect}
use Rattle.flow_networks.specs.Limits.{most_edges}
use Rattle.flow_nodes.specs.declared.plans.operation.Step.{Step as StepData}
use Rattle.flow_nodes.specs.plans.Layouts.{times, uses}
use Rattle.flow_nodes.specs.plans.Views.{step_of, steps_of}
use Rattle.flow_assembly.specs.declared.counted_steps.CountedSteps.{CountedSteps}
use Rattle.flow_assembly.specs.Ready.{plan_of, IsTooBig}
use Rattle.flow_assembly.proofs.Limiting.{too_many_uses}
use Rattle.flow_assembly.proofs.Stepping.{read_one, read_others}

-- one of the steps that a list holds, and those after it
pub steps_now : (dialect : Dialect) (steps : List StepData) (i : ℕ) (step : StepData) → i < length steps → step ≡ get_or steps i step →
    steps_of dialect (drop i steps) ≡ step_of dialect step ∷ steps_of dialect (drop (i + 1) steps)
steps_now dialect steps i step lt is =
    let e : suc i ≡ i + 1 = omega arith in
    ap (steps_of dialect) (drop-cons steps i step lt) ∙ ap (λ s. step_of dialect s ∷ steps_of dialect (drop (suc i) steps)) (sym is)
    ∙ ap (λ n. step_of dialect step ∷ steps_of dialect (drop n steps)) e

pub counted_next : (dialect : Dialect) (steps : List StepData) (i : ℕ) (step : StepData) (table newer reads : List ℕ) → i < length steps → step ≡ get_or steps i step → reads ≡ step.reads.items
    → ((s : ℕ) → get_or newer s 0 ≡ get_or table s 0 + times s reads) → (s : ℕ) → get_or table s 0 + uses s (steps_of dialect (drop i steps)) ≡ uses s (steps_of dialect steps)
    → get_or newer s 0 + uses s (steps_of dialect (drop (i + 1) steps)) ≡ uses s (steps_of dialect steps)
counted_next dialect steps i step table newer reads lt is same counted s before =
    let here : uses s (steps_of dialect (drop i steps)) ≡ times s step.reads.items + uses s (steps_of dialect (drop (i + 1) steps)) = ap (uses s) (steps_now dialect steps i step lt is) in
    omega (arith, counted s, before, here, ap (times s) same)

pub counted_all : (dialect : Dialect) (steps : List StepData) (i s n : ℕ) → length steps ≤ i → n + uses s (steps_of dialect (drop i steps))
    ≡ uses s (steps_of dialect steps) → n ≡ uses s (steps_of dialect steps)
counted_all dialect steps i s n le is = omega (arith, is, ap (λ l. uses s (steps_of dialect l)) (drop_of_length-le steps le))

pub counted_big : (dialect : Dialect) (steps : List StepData) (i : ℕ) (step : StepData) (table reads : List ℕ) → i < length steps → step ≡ get_or steps i step → reads ≡ step.reads.items
    → ((s : ℕ) → get_or table s 0 + uses s (steps_of dialect (drop i steps)) ≡ uses s (steps_of dialect steps)) →
    ((s : ℕ) × (most_edges < get_or table s 0 + times s reads)) → IsTooBig (steps_of dialect steps)
counted_big dialect steps i step table reads lt is same counted (s, many) =
    let here : uses s (steps_of dialect (drop i steps)) ≡ times s step.reads.items + uses s (steps_of dialect (drop (i + 1) steps)) = ap (uses s) (steps_now dialect steps i step lt is) in
    too_many_uses (steps_of dialect steps) s (omega (arith, many, here, counted s, ap (times s) same))

drop_map : {A B : Type 0} (f : A → B) (xs : List A) (i : ℕ) → drop i (map f xs) ≡ map f (drop i xs)
drop_map f xs zero = refl
drop_map f [] (suc i) = refl
drop_map f (x ∷ xs) (suc i) = drop_map f xs i

-- the step of this number, and those after it
pub step_now : (plan : CountedSteps) (i : ℕ) (step : StepData) → i < length plan.steps.items → step ≡ get_or plan.steps.items i step →
    drop i (plan_of plan) ≡ step_of plan.dialect step ∷ drop (i + 1) (plan_of plan)
step_now plan i step lt is =
    drop_map (step_of plan.dialect) plan.steps.items i ∙ steps_now plan.dialect plan.steps.items i step lt is
    ∙ ap (λ l. step_of plan.dialect step ∷ l) (sym (drop_map (step_of plan.dialect) plan.steps.items (i + 1)))

-- what is counted once one more read is
pub reads_next : (reads : List ℕ) (i : ℕ) (table newer : List ℕ) (all : ℕ) → i < length reads
    → get_or newer (get_or reads i 0) 0 ≡ get_or table (get_or reads i 0) 0 + 1 → ((s : ℕ) → (s ≡ get_or reads i 0 → ⊥) → get_or newer s 0 ≡ get_or table s 0)
    → (s : ℕ) → get_or table s 0 + times s (drop i reads) ≡ all → get_or newer s 0 + times s (drop (i + 1) reads) ≡ all
reads_next reads i table newer all lt one others s is = elim (cases_eq s (get_or reads i 0)) [
  | inl same ↦
      let here : times s (drop i reads) ≡ times s (drop (i + 1) reads) + 1 = subst (λ t. times t (drop i reads) ≡ times t (drop (i + 1) reads) + 1) (sym same) (read_one reads i lt) in
      let more : get_or newer s 0 ≡ get_or table s 0 + 1 = subst (λ t. get_or newer t 0 ≡ get_or table t 0 + 1) (sym same) one in
      omega (arith, is, here, more)
  | inr differ ↦ omega (arith, is, read_others reads i lt s differ, others s differ)
]

pub reads_ended : (reads : List ℕ) (i s n all : ℕ) → length reads ≤ i → n + times s (drop i reads) ≡ all → n ≡ all
reads_ended reads i s n all le is = omega (arith, is, ap (times s) (drop_of_length-le reads le))

pub reads_big : (reads : List ℕ) (i : ℕ) (table older : List ℕ) → i < length reads
    → ((s : ℕ) → get_or table s 0 + times s (drop i reads) ≡ get_or older s 0 + times s reads) → most_edges ≤ get_or table (get_or reads i 0) 0
    → (s : ℕ) × (most_edges < get_or older s 0 + times s reads)
reads_big reads i table older lt same many =
    let s = get_or reads i 0 in
    (s, omega (arith, many, same s, read_one reads i lt))
