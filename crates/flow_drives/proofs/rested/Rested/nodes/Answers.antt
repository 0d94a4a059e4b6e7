use Rattle.std.proofs.Common.{length, sym, ◌∙◌, ap}
use Rattle.flow_shares.specs.meetings.Deals.{nodes_in}
use Rattle.flow_drives.specs.Parts.{states_at}
use Rattle.flow_drives.proofs.Apart.{count_apart}
use Rattle.flow_drives.proofs.rested.Rested.nodes.Goals as goal

pub returns-in-Together : goal.returns-in-Together
returns-in-Together g c = c.nodes.ensures ∙ ap (λ parts. length (states_at parts)) (sym c.in-Together.is)

pub returns-in-Apart : goal.returns-in-Apart
returns-in-Apart g c =
    let shares = c.in-Apart.shares in
    c.len.ensures ∙ shares.places.ok.0
    ∙ sym (ap (λ parts. length (states_at parts)) c.in-Apart.is ∙ count_apart shares.share.items shares.places.items (nodes_in shares.shares.items))
