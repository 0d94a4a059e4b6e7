-- What looking at the ends of a share makes of it.
use Rattle.std.specs.Prelude.{◌≡◌, ℕ, ◌≤◌}
use mathlib.Core.List.{IsPrefix}
use Rattle.flow_messages.specs.Ends.{View, SameEnds, SameTraffic}
use Rattle.flow_messages.specs.declared.ends.Ends.{Ghosts as EndsGhosts}
use Rattle.flow_base.specs.declared.transducer.Transducer.{Ghosts}
use Rattle.flow_shares.specs.declared.share.Share.{Share}
use Rattle.flow_shares.specs.Lending.{share_nodes}

-- Nothing was put or taken, and the ends are certain of no less.
pub record LookedAround (a b : View) : Type 0 where
  pub ends : SameEnds a b
  pub traffic : SameTraffic a b
  pub coming : (e : ℕ) → IsPrefix (a.coming e) (b.coming e)
  pub room : (e : ℕ) → a.room e ≤ b.room e

-- It is the share that it was, but that its ends may be certain of more.
pub record IsLookedAt {X Y : Type 0} {t : Ghosts X} {u : EndsGhosts Y} (share later : Share X Y t u) : Type 0 where
  pub body : share_nodes later ≡ share_nodes share
  pub same : u.same share.ends later.ends
  pub looked : LookedAround (u.view share.ends) (u.view later.ends)
