use Rattle.std.proofs.Common.{◌<◌, length, subst, sym, ◌∙◌, ap}
use Rattle.flow_networks.specs.Networks.{state_at}
use Rattle.flow_shares.specs.meetings.Deals.{nodes_in}
use Rattle.flow_drives.specs.Parts.{states_at}
use Rattle.flow_drives.proofs.Apart.{count_apart}
use Rattle.flow_drives.proofs.rested.Rested.node.Goals as goal

pub node-requires : goal.node-requires
node-requires g c = subst (λ parts. c.args.number < length (states_at parts)) c.in-Together.is c.requires

pub node-requires-in-Apart : goal.node-requires-in-Apart
node-requires-in-Apart g c =
    let shares = c.in-Apart.shares in
    subst (λ n. c.args.number < n) (count_apart shares.share.items shares.places.items (nodes_in shares.shares.items))
    (subst (λ parts. c.args.number < length (states_at parts)) c.in-Apart.is c.requires)

pub returns-in-Together : goal.returns-in-Together
returns-in-Together g c = c.node.ensures ∙ ap (λ parts. state_at g.T.Transducer.behaviour (states_at parts) c.args.number) (sym c.in-Together.is)

pub returns-in-Apart : goal.returns-in-Apart
returns-in-Apart g c = c.node-in-Apart.ensures ∙ ap (λ parts. state_at g.T.Transducer.behaviour (states_at parts) c.args.number) (sym c.in-Apart.is)
