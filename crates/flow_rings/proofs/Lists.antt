-- Lists of messages in which an End stands.
use Rattle.std.proofs.Common.{◌≡◌, ℕ, zero, suc, ◌<◌, Bool, true, false, not, List, [], ◌∷◌, ◌++◌, refl, sym, ap, ◌∙◌, arith, append-nil}
use Rattle.std.proofs.lemmas.Bool.{false≢true}
use Rattle.std.specs.Prelude.{◌↔◌, IsTrue}
use Rattle.flow_messages.specs.declared.message.Msg.{Msg}
use Rattle.flow_messages.specs.declared.message.Msg.TheVariants.{Item, End}
use Rattle.flow_messages.specs.Signals.{signals, ended, orderly}
use Rattle.flow_messages.proofs.Signals.{ended-snoc, orderly-snoc, ended-nil, orderly-nil}

-- what a fresh list and a list with one message more are
pub ruleset list_steps = (ended-snoc, orderly-snoc, ended-nil, orderly-nil)

-- in an orderly list nothing stands after a part that has an End
nothing-left : (before after : List Msg) → orderly (signals (before ++ after)) ≡ true → ended (signals before) ≡ true → after ≡ []
unfolding signals ended orderly
nothing-left [] after h closed = cc
nothing-left (Item x ∷ before) after h closed = nothing-left before after h closed
nothing-left (End ∷ []) [] h closed = refl
nothing-left (End ∷ []) (m ∷ after) h closed = cc
nothing-left (End ∷ m ∷ before) after h closed = cc

-- such a part is all of the list
pub all-there : (before after all : List Msg) → before ++ after ≡ all → orderly (signals all) ≡ true → ended (signals before) ≡ true → (before ≡ all) × (after ≡ [])
all-there before after all is h closed =
    let none : after ≡ [] = nothing-left before after (ap (λ (ms : List Msg). orderly (signals ms)) is ∙ h) closed in
    (sym (append-nil before) ∙ ap (λ (ms : List Msg). before ++ ms) (sym none) ∙ is, none)

-- that there is some is that there are not none
pub not_none : (none : Bool) (n : ℕ) → IsTrue none ↔ (n ≡ 0) → IsTrue (not none) ↔ (0 < n)
not_none true n is = (λ no. absurd (false≢true no), λ some. absurd (omega (arith, is.0 refl, some)))
not_none false n is = (λ _. by_cases n is, λ _. refl) where
  by_cases : (n : ℕ) → IsTrue false ↔ (n ≡ 0) → 0 < n
  by_cases zero is = absurd (false≢true (is.1 refl))
  by_cases (suc n) is = omega arith
