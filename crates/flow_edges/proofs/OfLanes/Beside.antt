-- What is gathered, and what lies on the edge before it.
use Rattle.std.proofs.Common.{◌≡◌, true, false, List, [], ◌∷◌, ◌++◌, length, refl, sym, ap, ◌∙◌, arith, append_assoc, append-nil, inl, inr, ◌⊎◌}
use Rattle.std.proofs.lemmas.Bool.{cases_Bool}
use Rattle.flow_messages.specs.declared.message.Msg.{Msg}
use Rattle.flow_messages.specs.declared.message.Item.TheVariants.{Unit as UnitItem, Bool as BoolItem, Int as IntItem}
use Rattle.flow_messages.specs.Signals.{signals, ended, orderly}
use Rattle.flow_messages.proofs.Signals.{ended-more, orderly-more, units-ended, units-orderly, block-ended, block-orderly}
use Rattle.flow_words.specs.Edge.{followed_unless_ended}
use Rattle.flow_edges.specs.declared.lanes.gathered.Many.{Many}
use Rattle.flow_edges.specs.declared.lanes.gathered.Many.TheVariants.{Units, Flags, Ints}
use Rattle.flow_edges.specs.lanes.Many.{many_messages}
use Rattle.flow_edges.proofs.OfLanes.Followed.{followed_free}

-- no end is gathered
gathered_open : (m : Many) → ended (signals (many_messages m)) ≡ false
gathered_open (Units n) = units-ended UnitItem n
gathered_open (Flags v) = block-ended (λ b. BoolItem b) v.items
gathered_open (Ints v) = block-ended (λ n. IntItem n) v.items

gathered_orderly : (m : Many) → orderly (signals (many_messages m)) ≡ true
gathered_orderly (Units n) = units-orderly UnitItem n
gathered_orderly (Flags v) = block-orderly (λ b. BoolItem b) v.items
gathered_orderly (Ints v) = block-orderly (λ n. IntItem n) v.items

-- a list of length 0
none_of : {X : Type 0} (xs : List X) → length xs ≡ 0 → xs ≡ []
none_of [] h = refl
none_of (x ∷ xs) h = absurd (omega (arith, h))

-- an edge without an end has none once all that is gathered was put on it
pub still_open : (before after : List Msg) (m : Many) → ended (signals before) ≡ false → after ≡ followed_unless_ended before (many_messages m) → ended (signals after) ≡ false
still_open before after m free is =
    ap (λ (ms : List Msg). ended (signals ms)) (is ∙ followed_free before (many_messages m) free) ∙ ended-more before (many_messages m) free ∙ gathered_open m

module _ (before : List Msg) (m : Many) (few : ended (signals before) ≡ true → length (many_messages m) ≡ 0) where
  abbrev all : List Msg
  all = before ++ many_messages m

  none : ended (signals before) ≡ true → many_messages m ≡ []
  none shut = none_of (many_messages m) (few shut)

  -- an end was put on the lane where one was put on its edge
  pub closed_seen : ended (signals all) ≡ ended (signals before)
  closed_seen = by_end (cases_Bool (ended (signals before))) where
    by_end : (ended (signals before) ≡ true) ⊎ (ended (signals before) ≡ false) → ended (signals all) ≡ ended (signals before)
    by_end (inl shut) = ap (λ (ms : List Msg). ended (signals (before ++ ms))) (none shut) ∙ ap (λ (ms : List Msg). ended (signals ms)) (append-nil before)
    by_end (inr free) = ended-more before (many_messages m) free ∙ gathered_open m ∙ sym free

  -- nothing follows an end
  pub all_orderly : orderly (signals before) ≡ true → orderly (signals all) ≡ true
  all_orderly is = by_end (cases_Bool (ended (signals before))) where
    by_end : (ended (signals before) ≡ true) ⊎ (ended (signals before) ≡ false) → orderly (signals all) ≡ true
    by_end (inl shut) = ap (λ (ms : List Msg). orderly (signals (before ++ ms))) (none shut) ∙ ap (λ (ms : List Msg). orderly (signals ms)) (append-nil before) ∙ is
    by_end (inr free) = orderly-more before (many_messages m) free ∙ gathered_orderly m

  -- what is put where no end was follows all that was put
  pub follows : (ms now : List Msg) → ended (signals before) ≡ false → now ≡ all ++ ms → now ≡ followed_unless_ended all ms
  follows ms now free is = is ∙ sym (followed_free all ms (closed_seen ∙ free))

-- what was put on the edge before, where what was gathered then was put since, or not
module _ (was before gathered ms : List Msg) (kept : before ++ gathered ≡ was) where
  -- these are gathered too
  pub gathered_more : (more : List Msg) → more ≡ gathered ++ ms → before ++ more ≡ was ++ ms
  gathered_more more is = ap (λ (l : List Msg). before ++ l) is ∙ sym (append_assoc before gathered ms) ∙ ap (λ (l : List Msg). l ++ ms) kept
