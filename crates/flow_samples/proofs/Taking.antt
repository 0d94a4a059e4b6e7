-- Ends of which the writers take items of one kind, as they are opened.
use Rattle.std.proofs.Common.{◌≡◌, ◌==◌, ℕ, ◌<◌, List, length, replicate, sym, ◌∙◌, ap, subst}
use Rattle.std.proofs.lemmas.List.{get_or-replicate}
use Rattle.flow_messages.specs.declared.message.Kind.{Kind}
use Rattle.flow_messages.specs.declared.message.Kind.TheVariants.{Unit as UnitKind}
use Rattle.flow_messages.specs.Ends.{View}
use Rattle.flow_messages.specs.Kinds.{TakesKind}
use Rattle.flow_edges.proofs.OfLanes.RingLines.{at_line-there}
use Rattle.flow_shares.specs.declared.meetings.owners.EdgeOwners.{EdgeOwners}
use Rattle.flow_networks.specs.EdgeKinds.{kind_at}
use Rattle.flow_shares.specs.meetings.Open.{HasFreshEnds}
use Rattle.flow_samples.specs.Taking.{AllTake}

-- fresh ends of edges of one kind take all items of it
pub fresh_take : (owners : List EdgeOwners) (kinds : List Kind) (kind : Kind) (capacity s : ℕ) (v : View) → kinds ≡ replicate (length owners) kind →
    HasFreshEnds owners kinds capacity s v → AllTake v kind
fresh_take owners kinds kind capacity s v is fresh e there =
    let inside : e < length owners = at_line-there (λ (owner : EdgeOwners). owner.writer == s) owners e (sym (fresh.writes e) ∙ there) in
    subst (TakesKind (v.kind e)) (ap (λ ks. kind_at ks e) is ∙ get_or-replicate (length owners) e kind UnitKind inside) (fresh.kind e there)
