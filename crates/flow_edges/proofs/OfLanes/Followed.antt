-- Many messages put one after another.
use Rattle.std.proofs.Common.{◌≡◌, ℕ, ◌+◌, ◌<◌, ◌≤◌, ◌↔◌, true, false, cond, List, [], ◌∷◌, ◌++◌, length, ap, sym, ◌∙◌, arith}
use Rattle.std.proofs.Common.{append_assoc, append-nil, length-append, inl, inr, ◌⊎◌}
use Rattle.std.proofs.lemmas.Bool.{cases_Bool}
use Rattle.std.specs.Prelude.{Result, Ok, Err, OnOk, IfErr, IsOk, IsErrAnd}
use Rattle.flow_messages.specs.declared.message.Msg.{Msg}
use Rattle.flow_messages.specs.declared.ends.Refused.{Refused}
use Rattle.flow_messages.specs.declared.ends.Why.TheVariants.{Closed}
use Rattle.flow_messages.specs.Signals.{signals, ended}
use Rattle.flow_messages.proofs.Signals.{ended-more}
use Rattle.flow_words.specs.Edge.{followed_unless_ended}

-- what a put leaves where an end was put, and where none was
pub followed_shut : (before ms : List Msg) → ended (signals before) ≡ true → followed_unless_ended before ms ≡ before
followed_shut before ms shut = ap (λ b. cond b before (before ++ ms)) shut

pub followed_free : (before ms : List Msg) → ended (signals before) ≡ false → followed_unless_ended before ms ≡ before ++ ms
followed_free before ms free = ap (λ b. cond b before (before ++ ms)) free

pub followed_none : (before : List Msg) → before ≡ followed_unless_ended before []
followed_none before = by_end (cases_Bool (ended (signals before))) where
  by_end : (ended (signals before) ≡ true) ⊎ (ended (signals before) ≡ false) → before ≡ followed_unless_ended before []
  by_end (inl shut) = sym (followed_shut before [] shut)
  by_end (inr free) = sym (followed_free before [] free ∙ append-nil before)

-- it is longer by no more than what was put
pub followed_length : (before ms : List Msg) → length (followed_unless_ended before ms) ≤ length before + length ms
followed_length before ms = by_end (cases_Bool (ended (signals before))) where
  by_end : (ended (signals before) ≡ true) ⊎ (ended (signals before) ≡ false) → length (followed_unless_ended before ms) ≤ length before + length ms
  by_end (inl shut) = omega (arith, ap length (followed_shut before ms shut))
  by_end (inr free) = omega (arith, ap length (followed_free before ms free), length-append before ms)

-- two puts are one put of both
pub followed_more : (before ms ns : List Msg) → ended (signals ms) ≡ false → followed_unless_ended (followed_unless_ended before ms) ns ≡ followed_unless_ended before (ms ++ ns)
followed_more before ms ns no_end = by_end (cases_Bool (ended (signals before))) where
  by_end : (ended (signals before) ≡ true) ⊎ (ended (signals before) ≡ false) → followed_unless_ended (followed_unless_ended before ms) ns ≡ followed_unless_ended before (ms ++ ns)
  by_end (inl shut) = ap (λ l. followed_unless_ended l ns) (followed_shut before ms shut) ∙ followed_shut before ns shut ∙ sym (followed_shut before (ms ++ ns) shut)
  by_end (inr free) =
      let still : ended (signals (before ++ ms)) ≡ false = ended-more before ms free ∙ no_end in
      ap (λ l. followed_unless_ended l ns) (followed_free before ms free) ∙ followed_free (before ++ ms) ns still ∙ append_assoc before ms ns ∙ sym (followed_free before (ms ++ ns) free)

-- what a put of one message leaves, where room was certain
pub followed_one : (before after : List Msg) (m : Msg) (room left : ℕ) (r : Result (Unit {0}) Refused) → 0 < room →
    OnOk r ((after ≡ before ++ m ∷ []) × (room ≤ left + 1)) → IfErr r (λ e. (e.message ≡ m) × ((after ≡ before) × (room ≤ left))) →
    IsErrAnd r (λ e. e.why ≡ Closed) ↔ (ended (signals before) ≡ true) → (ended (signals before) ≡ false → 0 < room → IsOk r) →
    (after ≡ followed_unless_ended before (m ∷ [])) × (room ≤ left + 1)
followed_one before after m room left (Ok x) some ok refused closed succeeds = by_end (cases_Bool (ended (signals before))) where
  by_end : (ended (signals before) ≡ true) ⊎ (ended (signals before) ≡ false) → (after ≡ followed_unless_ended before (m ∷ [])) × (room ≤ left + 1)
  by_end (inl shut) = absurd (closed.1 shut)
  by_end (inr free) = (ok.0 ∙ sym (followed_free before (m ∷ []) free), ok.1)
followed_one before after m room left (Err e) some ok refused closed succeeds = by_end (cases_Bool (ended (signals before))) where
  by_end : (ended (signals before) ≡ true) ⊎ (ended (signals before) ≡ false) → (after ≡ followed_unless_ended before (m ∷ [])) × (room ≤ left + 1)
  by_end (inl shut) = (refused.1.0 ∙ sym (followed_shut before (m ∷ []) shut), omega (arith, refused.1.1))
  by_end (inr free) = absurd (let no = succeeds free some in cc)
