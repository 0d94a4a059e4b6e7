-- A graph that was dealt out: its shares.
use Rattle.std.proofs.Common.{ℕ}
use Rattle.flow_messages.specs.declared.ends.Ends.{Ghosts as EndsGhosts}
use Rattle.flow_base.specs.declared.transducer.Transducer.{Ghosts}
use Rattle.flow_networks.specs.declared.graph.Graph.{Graph}
use Rattle.flow_shares.specs.declared.meetings.dealt.Dealt.{Dealt}
use Rattle.flow_shares.specs.meetings.SharedNetworks.{AreFed}
use Rattle.flow_drives.specs.declared.config.Config.{Config}
use Rattle.flow_drives.specs.Configs.{IsLawful}
use Rattle.flow_drives.specs.Dealings.{IsDealtUnder, AreDealtOut}

module _ {X Y : Type 0} {t : Ghosts X} {u : EndsGhosts Y} (joins : Y → Y → ℕ → Type 0) (places : Y → ℕ → ℕ) (graph : Graph X t) (config : Config)
    (dealt : Dealt X Y t u) (is : IsDealtUnder joins places graph config dealt) where
  pub are_dealt_out : IsLawful config → AreDealtOut joins places graph config dealt.shares.items
  are_dealt_out lawful = record {
    lawful = lawful;
    count = is.count;
    new = is.new;
    nodes = is.nodes;
    owners = dealt.owners.items;
    are_owners = is.owners;
    ends = is.ends;
  }

  -- memory was refused to none of them
  pub are_fed : AreFed dealt.shares.items
  are_fed s d l = (is.new.each s d l).starved
