-- What `?` passes on, and the parameters of a call.
use Rattle.std.proofs.Common.{◌≡◌, ◌≢◌, ℕ, List, [], ◌∷◌, map, length, Result, Ok, Err, IsErrAnd, zip, refl, sym, ap, subst, arith}
use Rattle.snesl_data.specs.declared.fault.FaultKind.{FaultKind}
use Rattle.snesl_data.specs.declared.fault.FaultKind.TheVariants.{Shape}
use Rattle.snesl_data.specs.declared.datum.Datum.{Datum}
use Rattle.snesl_values.specs.Inputs.{Environment}
use Rattle.snesl_data.specs.Values.{Value, value_of}
use Rattle.snesl_grammar.specs.declared.tree.declaration.Typing.{Typing}
use Rattle.snesl_grammar.specs.tree.Spelling.{spelling}
use Rattle.snesl_grammar.specs.tree.View.{typed_of}
use Rattle.snesl_evaluation.specs.declared.halt.Halt.{Halt}
use Rattle.snesl_evaluation.specs.declared.halt.Halt.TheVariants.{NoMemory, Faulted}
use Rattle.snesl_evaluation.specs.Answer.{Answer, gives, faults, go}
use Rattle.snesl_evaluation.specs.Builtins.{seq_answer}
use Rattle.snesl_evaluation.specs.Eval.{parameters_with}
use Rattle.snesl_evaluation.specs.Results.{Answers}
use Rattle.snesl_evaluation.specs.Scopes.{names_of}

-- an answer that faults wherever another does
pub halt_stays : {A B C D : Type 0} (view : A → B) (other : C → D) (h : Halt) (a : Answer B) (b : Answer D) → Answers view (Err h) a
    → ((kind : FaultKind) (at : ℕ) → a ≡ faults kind at → b ≡ faults kind at) → Answers other (Err h) b
halt_stays view other NoMemory a b given same = tt
halt_stays view other (Faulted fault) a b given same = same fault.kind fault.at given

pub halt_passes : {A B C D : Type 0} (view : A → B) (other : C → D) (r : Result C Halt) (h : Halt) (a : Answer B) (b : Answer D) → IsErrAnd r (λ x. x ≡ h) → Answers view (Err h) a
    → ((kind : FaultKind) (at : ℕ) → a ≡ faults kind at → b ≡ faults kind at) → Answers other r b
halt_passes view other (Ok x) h a b e given same = absurd e
halt_passes view other (Err x) h a b e given same = subst (λ y. Answers other (Err y) b) (sym e) (halt_stays view other h a b given same)

pub parameters_seen : (at : ℕ) (text : List ℕ) (parameters : List Typing) (values : List Datum) → length parameters ≡ length values
    → parameters_with at text (map typed_of parameters) (map value_of values) ≡ gives (zip (names_of text parameters) (map value_of values))
parameters_seen at text [] [] e = refl
parameters_seen at text [] (v ∷ vs) e = absurd (omega arith)
parameters_seen at text (p ∷ ps) [] e = absurd (omega arith)
parameters_seen at text (p ∷ ps) (v ∷ vs) e =
    ap (λ answer. go answer (λ (environment : Environment). gives ((spelling text p.name, value_of v) ∷ environment))) (parameters_seen at text ps vs (omega arith))

pub parameters_differ : (at : ℕ) (text : List ℕ) (parameters : List Typing) (values : List Datum) → length parameters ≢ length values
    → parameters_with at text (map typed_of parameters) (map value_of values) ≡ faults Shape at
parameters_differ at text [] [] e = absurd (e refl)
parameters_differ at text [] (v ∷ vs) e = refl
parameters_differ at text (p ∷ ps) [] e = refl
parameters_differ at text (p ∷ ps) (v ∷ vs) e =
    ap (λ answer. go answer (λ (environment : Environment). gives ((spelling text p.name, value_of v) ∷ environment))) (parameters_differ at text ps vs (λ same. e (omega arith)))

-- the sequence of an item where its condition holds
pub filter_seen : {A B : Type 0} (first : Answer A) (test : A → Answer B) (item : B → Answer (List Value)) →
    go first (λ v. go (test v) (λ b. seq_answer (item b))) ≡ seq_answer (go first (λ v. go (test v) item))
filter_seen (faults kind at) test item = refl
filter_seen {B = B} (gives v) test item = by_test (test v)
  where
    by_test : (t : Answer B) → go t (λ b. seq_answer (item b)) ≡ seq_answer (go t item)
    by_test (gives b) = refl
    by_test (faults kind at) = refl
