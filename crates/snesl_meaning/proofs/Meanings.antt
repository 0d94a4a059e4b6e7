-- A program and an input text have one meaning.
use Rattle.std.proofs.Common.{◌≡◌, ℕ, List, Result, Ok, Err, sym, ap, ◌∙◌, subst}
use Rattle.snesl_data.specs.declared.refusal.Refusal.{Refusal}
use Rattle.snesl_data.specs.declared.refusal.Refusal.TheVariants.{BadInput}
use Rattle.snesl_data.specs.Types.{Ty}
use Rattle.snesl_values.specs.Inputs.{Environment, InputAnswer, InputMeans, OneInputMeaning, spells, refused_at}
use Rattle.snesl_grammar.specs.tree.Tree.{ProgramTree}
use Rattle.snesl_syntax.specs.Parse.{Parses, HaveOneAnswer}
use Rattle.snesl_evaluation.specs.Eval.{program_value}
use Rattle.snesl_types.specs.Programs.{Declared}
use Rattle.snesl_types.specs.Verdicts.{program_verdict}
use Rattle.snesl_meaning.specs.Meaning.{meaning_of, no_program, ill_typed, bad_input, evaluated, is_refused, HaveOneMeaning}

same_program : HaveOneAnswer → (text : List ℕ) (p q : ProgramTree) → Parses text (Ok p) → Parses text (Ok q) → p ≡ q
same_program answers text p q one other = let e = answers text (Ok p) (Ok q) one other in cc

no_tree : {A : Type 0} → HaveOneAnswer → (text : List ℕ) (p : ProgramTree) (r : Refusal) → Parses text (Ok p) → Parses text (Err r) → A
no_tree answers text p r one other = absurd (let e = answers text (Ok p) (Err r) one other in cc)

-- one answer is not two; here the answers are variables, so that `cc` does not compute them
one_ok : {A : Type 0} {x y : A} (r s : Result A Refusal) → r ≡ Ok x → s ≡ Ok y → r ≡ s → x ≡ y
one_ok r s h k same = cc

one_err : {A : Type 0} {a b : Refusal} (r s : Result A Refusal) → r ≡ Err a → s ≡ Err b → r ≡ s → a ≡ b
one_err r s h k same = cc

not_both : {A : Type 0} {x : A} {a : Refusal} (r s : Result A Refusal) → r ≡ Ok x → s ≡ Err a → r ≡ s → ⊥
not_both r s h k same = cc

same_refusal : (x y : ℕ) → refused_at x ≡ refused_at y → is_refused (BadInput x) ≡ is_refused (BadInput y)
same_refusal x y e = cc

same_values : (f g : Environment) → spells f ≡ spells g → f ≡ g
same_values f g e = cc

-- a program that has a type violates no rule
no_violation : {A : Type 0} → HaveOneAnswer → (text : List ℕ) (p q : ProgramTree) (d : Declared) (t : Ty) (r : Refusal)
    → Parses text (Ok p) → Parses text (Ok q) → program_verdict text p ≡ Ok (d, t) → program_verdict text q ≡ Err r → A
no_violation answers text p q d t r one other h v =
    absurd (not_both (program_verdict text p) (program_verdict text q) h v (ap (program_verdict text) (same_program answers text p q one other)))

-- what a program declares
same_declared : HaveOneAnswer → (text : List ℕ) (p q : ProgramTree) (d e : Declared) (t u : Ty)
    → Parses text (Ok p) → Parses text (Ok q) → program_verdict text p ≡ Ok (d, t) → program_verdict text q ≡ Ok (e, u) → d ≡ e
same_declared answers text p q d e t u one other h k =
    ap (λ (found : Declared × Ty). found.0)
    (one_ok (program_verdict text p) (program_verdict text q) h k (ap (program_verdict text) (same_program answers text p q one other)))

-- what the input text means for a program and its declarations
for_same : (input : List ℕ) (p q : ProgramTree) (d e : Declared) (answer : InputAnswer) → p ≡ q → d ≡ e
    → InputMeans q.dialect e.inputs input answer → InputMeans p.dialect d.inputs input answer
for_same input p q d e answer tree same means =
    subst (λ x. InputMeans x.dialect d.inputs input answer) (sym tree) (subst (λ x. InputMeans q.dialect x.inputs input answer) (sym same) means)

no_input : {A : Type 0} → OneInputMeaning → (input : List ℕ) (p q : ProgramTree) (d e : Declared) (at : ℕ) (environment : Environment) → p ≡ q → d ≡ e
    → InputMeans p.dialect d.inputs input (refused_at at) → InputMeans q.dialect e.inputs input (spells environment) → A
no_input inputs input p q d e at environment tree same i j =
    absurd (let is = inputs p.dialect d.inputs input (refused_at at) (spells environment) i (for_same input p q d e (spells environment) tree same j) in cc)

pub one_meaning : HaveOneAnswer → OneInputMeaning → HaveOneMeaning
one_meaning answers inputs text input m n (no_program {refusal = r} p) (no_program {refusal = s} q) =
    let e = answers text (Err r) (Err s) p q in cc
one_meaning answers inputs text input m n (no_program {refusal = r} p) (ill_typed {program = u} q w) = no_tree answers text u r q p
one_meaning answers inputs text input m n (no_program {refusal = r} p) (bad_input {program = u} q k j) = no_tree answers text u r q p
one_meaning answers inputs text input m n (no_program {refusal = r} p) (evaluated {program = u} q k j) = no_tree answers text u r q p
one_meaning answers inputs text input m n (ill_typed {program = t} p v) (no_program {refusal = s} q) = no_tree answers text t s p q
one_meaning answers inputs text input m n (ill_typed {program = t} {refusal = r} p v) (ill_typed {program = u} {refusal = s} q w) =
    ap is_refused (one_err (program_verdict text t) (program_verdict text u) v w (ap (program_verdict text) (same_program answers text t u p q)))
one_meaning answers inputs text input m n (ill_typed {program = t} {refusal = r} p v) (bad_input {program = u} {declared = e} {t = b} q k j) =
    no_violation answers text u t e b r q p k v
one_meaning answers inputs text input m n (ill_typed {program = t} {refusal = r} p v) (evaluated {program = u} {declared = e} {t = b} q k j) =
    no_violation answers text u t e b r q p k v
one_meaning answers inputs text input m n (bad_input {program = t} p h i) (no_program {refusal = s} q) = no_tree answers text t s p q
one_meaning answers inputs text input m n (bad_input {program = t} {declared = d} {t = a} p h i) (ill_typed {program = u} {refusal = s} q w) =
    no_violation answers text t u d a s p q h w
one_meaning answers inputs text input m n (bad_input {program = t} {declared = d} {t = a} {at = x} p h i) (bad_input {program = u} {declared = e} {t = b} {at = y} q k j) =
    let same = same_declared answers text t u d e a b p q h k in
    let is = inputs t.dialect d.inputs input (refused_at x) (refused_at y) i (for_same input t u d e (refused_at y) (same_program answers text t u p q) same j) in same_refusal x y is
one_meaning answers inputs text input m n (bad_input {program = t} {declared = d} {t = a} {at = x} p h i) (evaluated {program = u} {declared = e} {t = b} {environment = f} q k j) =
    no_input inputs input t u d e x f (same_program answers text t u p q) (same_declared answers text t u d e a b p q h k) i j
one_meaning answers inputs text input m n (evaluated {program = t} p h i) (no_program {refusal = s} q) = no_tree answers text t s p q
one_meaning answers inputs text input m n (evaluated {program = t} {declared = d} {t = a} p h i) (ill_typed {program = u} {refusal = s} q w) =
    no_violation answers text t u d a s p q h w
one_meaning answers inputs text input m n (evaluated {program = t} {declared = d} {t = a} {environment = f} p h i) (bad_input {program = u} {declared = e} {t = b} {at = y} q k j) =
    no_input inputs input u t e d y f (same_program answers text u t q p) (same_declared answers text u t e d b a q p k h) j i
one_meaning answers inputs text input m n (evaluated {program = t} {declared = d} {t = a} {environment = f} p h i) (evaluated {program = u} {declared = e} {t = b} {environment = g} q k j) =
    let tree = same_program answers text t u p q in
    let same = same_declared answers text t u d e a b p q h k in
    let is = inputs t.dialect d.inputs input (spells f) (spells g) i (for_same input t u d e (spells g) tree same j) in
    let values : f ≡ g = same_values f g is in
    ap (λ x. meaning_of (program_value text x f)) tree ∙ ap (λ x. meaning_of (program_value text u x)) values
