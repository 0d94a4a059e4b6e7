-- What blocks of segments share: the flags of elements, and what stays certain to come.
use Rattle.std.proofs.Common.{ℕ, zero, suc, Bool, false, List, [], ◌∷◌, sym, subst, inl, inr}
use Rattle.std.proofs.lemmas.Bool.{cases_eq}
use mathlib.Core.List.{IsPrefix}
use Rattle.flow_messages.specs.Ends.{View, PutAll}
use Rattle.flow_messages.specs.Signals.{Signal}
use Rattle.flow_base.proofs.Carried.{prefix_same}

-- the flags of so many elements
abbrev pub elements_block : ℕ → List Bool
elements_block zero = []
elements_block (suc n) = false ∷ elements_block n

-- what was certain to come still is where many messages are put
pub coming_still : (v w : View) (f e : ℕ) (ms : List Signal) → PutAll v f ms w → IsPrefix (v.coming e) (w.coming e)
coming_still v w f e ms put = elim (cases_eq e f) [
  | inl at ↦ subst (λ k. IsPrefix (v.coming k) (w.coming k)) (sym at) put.coming_here
  | inr ne ↦ prefix_same (v.coming e) (w.coming e) (put.coming e ne)
]
