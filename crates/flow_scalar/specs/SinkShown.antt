-- What is shown of a kind.
use Rattle.std.specs.Prelude.{◌≡◌, ℕ, Ok, List, [], ◌∷◌, length}
use mathlib.Core.List.{IsPrefix}
use Rattle.flow_messages.specs.Signals.{Signal}
use Rattle.flow_messages.specs.declared.message.Kind.{Kind}
use Rattle.flow_base.specs.Machines.{Leads, on_kind}

-- each is an item of the kind
abbrev pub EachFits : Kind → List Signal → Type 0
EachFits kind [] = Unit {0}
EachFits kind (m ∷ ms) = Leads (on_kind kind (λ _. Ok (tt {0}))) m tt × EachFits kind ms

-- so many items of the kind are shown, one after another
pub record CountOf (kind : Kind) (n : ℕ) (shown : List Signal) : Type 0 where
  pub block : List Signal
  pub first : IsPrefix block shown
  pub long : length block ≡ n
  pub fits : EachFits kind block
