-- What the results of the evaluator say.
use Rattle.std.specs.Prelude.{◌≡◌, ℕ, Result, Ok, Err}
use Rattle.snesl_data.specs.declared.datum.Datum.{Datum}
use Rattle.snesl_data.specs.declared.fault.Fault.{Fault}
use Rattle.snesl_data.specs.declared.fault.FaultKind.{FaultKind}
use Rattle.snesl_data.specs.Values.{Value, value_of}
use Rattle.snesl_evaluation.specs.declared.halt.Halt.{Halt}
use Rattle.snesl_evaluation.specs.declared.halt.Halt.TheVariants.{NoMemory, Faulted}
use Rattle.snesl_evaluation.specs.Answer.{Answer, gives, faults}

-- the datum or the fault is the answer
abbrev pub IsAnswer : Result Datum Fault → Answer Value → Type 0
IsAnswer (Ok datum) answer = answer ≡ gives (value_of datum)
IsAnswer (Err fault) answer = answer ≡ faults fault.kind fault.at

-- the result, seen as a value, or the fault is the answer; want of memory says nothing
abbrev pub Answers : {A B : Type 0} → (A → B) → Result A Halt → Answer B → Type 0
Answers view (Ok x) answer = answer ≡ gives (view x)
Answers view (Err NoMemory) answer = Unit {0}
Answers view (Err (Faulted fault)) answer = answer ≡ faults fault.kind fault.at

-- a fault of this kind at this offset
abbrev pub fault_of : FaultKind → ℕ → Halt
fault_of kind at = Faulted (record { kind = kind; at = at })
