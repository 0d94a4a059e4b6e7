-- What of a share is not its ends.
use Rattle.std.specs.Prelude.{ℕ, Bool, List}
use Rattle.flow_messages.specs.declared.ends.Ends.{Ghosts as EndsGhosts}
use Rattle.flow_base.specs.declared.transducer.Transducer.{Ghosts}
use Rattle.flow_networks.specs.declared.placed.Placed.{Placed}
use Rattle.flow_shares.specs.declared.share.Share.{Share}

-- A share without its ends: its number, its nodes, and what it says of its last pump.
pub record ShareNodes {X : Type 0} (t : Ghosts X) : Type 0 where
  pub number : ℕ
  pub nodes : List (Placed X t)
  pub spent : Bool
  pub starved : Bool
  pub moved : Bool

abbrev pub share_nodes : {X Y : Type 0} {t : Ghosts X} {u : EndsGhosts Y} → Share X Y t u → ShareNodes t
share_nodes share = record { number = share.number; nodes = share.nodes.items; spent = share.spent; starved = share.starved; moved = share.moved }
