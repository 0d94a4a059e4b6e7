-- What a pump makes of a share.
use Rattle.std.specs.Prelude.{◌≡◌, ℕ, ◌<◌, true, false, List, length, slice_index_or}
use Rattle.flow_messages.specs.Ends.{SameEnds, SameTraffic}
use Rattle.flow_messages.specs.declared.ends.Ends.{Ghosts as EndsGhosts}
use Rattle.flow_base.specs.declared.transducer.Transducer.{Ghosts}
use Rattle.flow_networks.specs.Skeletons.{AreSamePlaces}
use Rattle.flow_shares.specs.declared.share.Share.{Share}
use Rattle.flow_shares.specs.Running.{NoneMoved, NoneCanMove, RanOn, RanAndLost, RanApart, RanOften}
use Rattle.flow_shares.specs.Shares.{AreStuck, HaveMoved, HaveMovedAndLost, SpareOthers}

-- The share that comes back has the nodes and the ends that were given, and its nodes went on by reads and writes of
-- their own.
pub record IsPumped {X Y : Type 0} {t : Ghosts X} {u : EndsGhosts Y} (share result : Share X Y t u) : Type 0 where
  pub number : result.number ≡ share.number
  pub places : AreSamePlaces share.nodes.items result.nodes.items
  pub same : u.same share.ends result.ends
  pub ends : SameEnds (u.view share.ends) (u.view result.ends)
  pub moved : result.starved ≡ false → HaveMoved share.nodes.items result.nodes.items (u.view share.ends) (u.view result.ends)
  -- where memory was refused, one message may be lost
  pub lost : result.starved ≡ true → HaveMovedAndLost share.nodes.items result.nodes.items (u.view share.ends) (u.view result.ends)
  -- what ends at no port of these nodes were certain of is certain still
  pub spares : result.starved ≡ false → SpareOthers share.nodes.items (u.view share.ends) (u.view result.ends)
  -- whether a message moved
  pub busy : result.starved ≡ false → result.moved ≡ true → SameTraffic (u.view share.ends) (u.view result.ends) → ⊥
  pub calm : result.starved ≡ false → result.moved ≡ false → SameTraffic (u.view share.ends) (u.view result.ends)
  -- where none moved, no node could step by what its ends were certain of
  pub progress : result.starved ≡ false → SameTraffic (u.view share.ends) (u.view result.ends) → AreStuck (u.view share.ends) share.nodes.items
  -- and none can now, unless it made all the turns that it may
  pub rest : result.starved ≡ false → result.spent ≡ false → AreStuck (u.view result.ends) result.nodes.items
  -- and nothing that they put is kept back
  pub out : result.starved ≡ false → result.spent ≡ false → u.all_out result.ends

-- each of these shares was pumped, in order
abbrev pub ArePumped : {X Y : Type 0} {t : Ghosts X} {u : EndsGhosts Y} → List (Share X Y t u) → List (Share X Y t u) → Type 0
ArePumped shares back = (k : ℕ) (d : _) → k < length shares → IsPumped (slice_index_or shares k d) (slice_index_or back k d)

-- none of its nodes can step by what its ends are certain of
abbrev pub ShareIsStuck : {X Y : Type 0} {t : Ghosts X} {u : EndsGhosts Y} → Share X Y t u → Type 0
ShareIsStuck {X} {Y} {t} {u} share = NoneCanMove u.view share.nodes share.ends

-- the same share before and after its turns
module _ {X Y : Type 0} {t : Ghosts X} {u : EndsGhosts Y} (share later : Share X Y t u) where
  -- its nodes sent and received nothing
  abbrev pub ShareIsCalm : Type 0
  ShareIsCalm = NoneMoved u.view share.ends later.ends

  -- its nodes went on by reads and writes of their own
  abbrev pub ShareRanOn : Type 0
  ShareRanOn = RanOn u.view share.nodes share.ends later.nodes later.ends

  -- they went on until memory was refused: then one message may be lost
  abbrev pub ShareLost : Type 0
  ShareLost = RanAndLost u.view share.nodes share.ends later.nodes later.ends

  -- what ends at no port of theirs were certain of is certain still
  abbrev pub ShareRanApart : Type 0
  ShareRanApart = RanApart u.view share.nodes share.ends later.nodes later.ends

  -- they made all turns that a pump may make, and moved at least one message for each so many of them
  abbrev pub ShareRanOften : ℕ → Type 0
  ShareRanOften idle_turns = RanOften u.view share.nodes share.ends later.nodes later.ends idle_turns
