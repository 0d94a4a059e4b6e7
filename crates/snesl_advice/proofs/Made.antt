-- What a message that was made tells.
use Rattle.std.proofs.Common.{◌≡◌, ℕ, IfOk, List, Result, Ok, Err, Vec, sym, subst}
use Rattle.std.specs.Global.{Global}
use Rattle.snesl_look.specs.Messages.{noted_message}
use Rattle.snesl_advice.specs.Told.{IsToldOf, told}

-- a message that was made of a sentence, notes and a hint tells them
pub made_is_told : {E : Type 0} (of_text text : List ℕ) (place : ℕ) (sentence : List ℕ) (notes : List (List ℕ)) (hint : List ℕ)
    → (made : Result (Vec ℕ Global) E) → IfOk made (λ message. message.items ≡ noted_message sentence text place of_text notes hint)
    → IfOk made (λ message. IsToldOf of_text text place message.items)
made_is_told of_text text place sentence notes hint (Ok message) e = subst (IsToldOf of_text text place) (sym e) (told sentence notes hint)
made_is_told of_text text place sentence notes hint (Err error) e = tt
