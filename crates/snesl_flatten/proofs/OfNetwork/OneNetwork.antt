-- A program with an input text has one network.
use Rattle.std.proofs.Common.{◌≡◌, ℕ, List, Result, Ok, sym, ap, subst}
use Rattle.snesl_data.specs.declared.refusal.Refusal.{Refusal}
use Rattle.snesl_data.specs.Types.{Ty}
use Rattle.snesl_values.specs.Inputs.{Environment, InputMeans, OneInputMeaning, spells}
use Rattle.snesl_grammar.specs.tree.Tree.{ProgramTree}
use Rattle.snesl_syntax.specs.Parse.{Parses, HaveOneAnswer}
use Rattle.snesl_types.specs.Programs.{Declared}
use Rattle.snesl_types.specs.Verdicts.{program_verdict}
use Rattle.snesl_translation.specs.Programs.{cells_of}
use Rattle.flow_assembly.specs.OneNetwork.{OpensAs, PlansHaveOneNetwork}
use Rattle.snesl_flatten.specs.Networks.{program_steps}
use Rattle.snesl_flatten.specs.network.OneNetwork.{HaveOneNetwork}

same_program : HaveOneAnswer → (text : List ℕ) (p q : ProgramTree) → Parses text (Ok p) → Parses text (Ok q) → p ≡ q
same_program answers text p q one other = let e = answers text (Ok p) (Ok q) one other in cc

-- the answers are variables, so that `cc` does not compute them
one_ok : {A : Type 0} {x y : A} (r s : Result A Refusal) → r ≡ Ok x → s ≡ Ok y → r ≡ s → x ≡ y
one_ok r s h k same = cc

same_declared : (text : List ℕ) (p q : ProgramTree) (d e : Declared) (t u : Ty) → p ≡ q → program_verdict text p ≡ Ok (d, t) → program_verdict text q ≡ Ok (e, u) → d ≡ e
same_declared text p q d e t u same h k =
    ap (λ (found : Declared × Ty). found.0) (one_ok (program_verdict text p) (program_verdict text q) h k (ap (program_verdict text) same))

same_environment : OneInputMeaning → (input : List ℕ) (p q : ProgramTree) (d e : Declared) (f g : Environment) → p ≡ q → d ≡ e
    → InputMeans p.dialect d.inputs input (spells f) → InputMeans q.dialect e.inputs input (spells g) → f ≡ g
same_environment inputs input p q d e f g tree same i j =
    let j2 : InputMeans p.dialect d.inputs input (spells g) =
    subst (λ (x : ProgramTree). InputMeans x.dialect d.inputs input (spells g)) (sym tree) (subst (λ (x : Declared). InputMeans q.dialect x.inputs input (spells g)) (sym same) j) in
    let is = inputs p.dialect d.inputs input (spells f) (spells g) i j2 in
    cc

pub one_network : HaveOneAnswer → OneInputMeaning → PlansHaveOneNetwork → HaveOneNetwork
one_network answers inputs plans text input states others edges more one other =
    let tree = same_program answers text one.program other.program one.parses other.parses in
    let declared = same_declared text one.program other.program one.declared other.declared one.ty other.ty tree one.types other.types in
    let environment = same_environment inputs input one.program other.program one.declared other.declared one.environment other.environment tree declared one.inputs other.inputs in
    let opens : OpensAs (program_steps text other.program other.declared.inputs (cells_of other.declared.inputs other.environment)) others more =
    record { network = other.network; opens = other.opens } in
    plans (program_steps text one.program one.declared.inputs (cells_of one.declared.inputs one.environment)) states others edges more (record { network = one.network; opens = one.opens })
    (subst (λ (p : ProgramTree). OpensAs (program_steps text p one.declared.inputs (cells_of one.declared.inputs one.environment)) others more) (sym tree)
    (subst (λ (d : Declared). OpensAs (program_steps text other.program d.inputs (cells_of d.inputs one.environment)) others more) (sym declared)
    (subst (λ f. OpensAs (program_steps text other.program other.declared.inputs (cells_of other.declared.inputs f)) others more) (sym environment) opens)))
