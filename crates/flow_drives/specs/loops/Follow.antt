-- Rounds, or epochs, that follow each other.
use Rattle.std.specs.Prelude.{◌≡◌, ℕ, ◌+◌, ◌<◌, ◌≤◌, List, [], ◌∷◌, length}
use Rattle.std.specs.Io.Iter.{u64_saturate}
use Rattle.flow_messages.specs.declared.ends.Ends.{Ghosts as EndsGhosts}
use Rattle.flow_base.specs.declared.transducer.Transducer.{Ghosts}
use Rattle.flow_shares.specs.declared.share.Share.{Share}
use Rattle.flow_shares.specs.meetings.SharedNetworks.{NoneCanStep}

-- what the last of these gave: what there was at first, where there was none
abbrev pub last_back : {A : Type 0} → A → List A → A
last_back first [] = first
last_back first (back ∷ more) = last_back back more

module _ {X Y : Type 0} {t : Ghosts X} {u : EndsGhosts Y} where
  module _ (Is : List (Share X Y t u) → List (Share X Y t u) → Type 0) where
    -- One of the shares, and of those that came back, and so on, gave these. A node could step before each.
    abbrev pub Follow : List (Share X Y t u) → List (List (Share X Y t u)) → Type 0
    Follow shares [] = Unit {0}
    Follow shares (back ∷ more) = (NoneCanStep shares → ⊥) × Is shares back × Follow back more

    -- So many led from these shares to those: the ends of every edge met, and then they followed each other, each where a
    -- node could step, so that each moved a message.
    pub record Lead (HaveMet : List (Share X Y t u) → List (Share X Y t u) → Type 0) (shares last : List (Share X Y t u)) (count : ℕ) : Type 0 where
      -- the same shares, whose ends may be certain of more
      pub first : List (Share X Y t u)
      pub met : HaveMet shares first
      pub backs : List (List (Share X Y t u))
      pub follow : Follow first backs
      pub gives : last_back first backs ≡ last
      -- the count stays at the greatest `u64`
      pub count_is : count ≡ u64_saturate (length backs)

  -- So many moved a message each, where `moved` counts the messages that were sent and received.
  pub record MovedAtEach (moved : List (Share X Y t u) → ℕ) (shares last : List (Share X Y t u)) (count : ℕ) : Type 0 where
    -- there was one where any was sent or received since
    pub least : moved shares < moved last → 0 < count
    -- so many at least were sent or received since
    pub most : count + moved shares ≤ moved last
