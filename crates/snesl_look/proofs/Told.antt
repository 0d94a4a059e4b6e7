-- What is said of a fault, and of a name that is not bound.
use Rattle.std.proofs.Common.{◌≡◌, ℕ, Bor, IfOk, List, MatchOption, [], None, Option, Result, Ok, Err, Some, Vec, option_map, sym, subst}
use Rattle.std.specs.Global.{Global}
use Rattle.snesl_data.specs.declared.fault.Fault.{Fault}
use Rattle.snesl_look.specs.Functions.{IsNamedAt, NoneNamedAt}
use Rattle.snesl_data.specs.declared.refusal.Refusal.TheVariants.{Name}
use Rattle.snesl_look.specs.Messages.{IsFaultMessage, IsNameMessage, fault_message, in_function, in_no_function, none_meant, refusal_message}
use Rattle.snesl_look.specs.Names.{NoneMeant}

-- a message names the function that was found
told : (fault : Fault) (program : List ℕ) (name : Option (Bor (List ℕ)))
    → MatchOption name (NoneNamedAt program fault.at) (λ found. IsNamedAt program fault.at found.now) → (message : List ℕ)
    → message ≡ fault_message fault program (option_map (λ found. found.now) name) → IsFaultMessage fault program message
told fault program None none message e = subst (IsFaultMessage fault program) (sym e) (in_no_function none)
told fault program (Some name) is message e = subst (IsFaultMessage fault program) (sym e) (in_function name.now is)

-- and so does one that was made
pub made_is_told : {E : Type 0} (fault : Fault) (program : List ℕ) (name : Option (Bor (List ℕ)))
    → MatchOption name (NoneNamedAt program fault.at) (λ found. IsNamedAt program fault.at found.now) → (made : Result (Vec ℕ Global) E)
    → IfOk made (λ message. message.items ≡ fault_message fault program (option_map (λ found. found.now) name))
    → IfOk made (λ message. IsFaultMessage fault program message.items)
made_is_told fault program name is (Ok message) e = told fault program name is message.items e
made_is_told fault program name is (Err error) e = tt

-- a message that was made where no name is meant has the hint of the refusal
pub made_names_none : {E : Type 0} (at : ℕ) (program : List ℕ) → NoneMeant program at → (made : Result (Vec ℕ Global) E)
    → IfOk made (λ message. message.items ≡ refusal_message (Name at) program []) → IfOk made (λ message. IsNameMessage at program message.items)
made_names_none at program none (Ok message) e = subst (IsNameMessage at program) (sym e) (none_meant none)
made_names_none at program none (Err error) e = tt
