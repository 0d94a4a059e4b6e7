use Rattle.std.proofs.Common.{◌<◌, ◌≤◌, refl, sym, subst, inl, rules}
use Rattle.flow_networks.specs.Skeletons.{edges_in}
use Rattle.flow_shares.specs.declared.error.WorkError.TheVariants.{NoThread}
use Rattle.flow_shares.proofs.Refused.{none_refused}
use Rattle.flow_shares.specs.Deals.{AreDealt}
use Rattle.flow_shares.specs.meetings.Deals.{nodes_in}
use Rattle.flow_shares.specs.meetings.Open.{AreOwners}
use Rattle.flow_shares.specs.meetings.SharedNetworks.{AreFed}
use Rattle.flow_drives.specs.loops.Epochs.{moved_in}
use Rattle.flow_drives.specs.Apart.{AreThePlaces}
use Rattle.flow_drives.proofs.AtRest.{are_the_shares}
use Rattle.flow_drives.proofs.Apart.{part_of, rest_apart, network_apart, moved_apart}
use Rattle.flow_networks.proofs.Refused.{nothing_made}
use Rattle.flow_drives.proofs.joined.run_dealt.Goals as goal

pub run_epochs-requires : goal.run_epochs-requires
run_epochs-requires g c κs within =
    let bounds = c.requires.1.1.1.1 in
    let clauses = bounds.1.1.1.1.1 in
    let lawful = clauses.0 in
    let owners = subst (λ w. AreOwners g.network.share g.network.edges w) (sym c.deref.ensures.value) clauses.1.1.0 in (
      within.0,
      (
        within.1.0,
        (
          within.1.1.0,
          (
            within.1.1.1,
            (
              bounds.0,
              (
                bounds.1.0,
                (
                  bounds.1.1.0,
                  (
                    bounds.1.1.1.0,
                    (bounds.1.1.1.1.0, (lawful.chunk.some, (lawful.idle.some, (owners, (clauses.1.1.1.1.0, clauses.1.1.1.1.1.0))))),
                  ),
                ),
              ),
            ),
          ),
        ),
      ),
    )

pub places_of-requires : goal.places_of-requires
places_of-requires g c κs within =
    let deals : AreDealt g.network.share g.network.nodes (nodes_in c.deref-2.result.now) =
    subst (λ l. AreDealt g.network.share g.network.nodes (nodes_in l)) (sym c.deref-2.ensures.value) c.in_ok-shares.ensures.went.graph.deals in
    search rules

pub invariant_of-apart : goal.invariant_of-apart
invariant_of-apart g c =
    let laws = (g.met.T.Transducer g.world.𝓛 g.world.𝓜 g.world.𝓡 ((λ s x. x), (λ x. x), (λ x. x), λ x. x)).laws in
    let origin = c.requires.1.1.1.1.1.1.1.1.1.1.0 in
    let skeleton = c.requires.1.1.1.1.1.1.1.1.1.1.1.1.0 in
    let shares = c.in_ok-shares.shares.items in
    let made = c.in_ok-shares.ensures in
    let places = c.in_ok-places.places.items in
    let known = subst (λ l. AreThePlaces g.network l places) c.deref-2.ensures.value c.in_ok-places.ensures in
    let fed : AreFed shares = made.went.fed in
    record {
      rest = rest_apart laws refl g.network shares made.went.graph places known c.args.origin.share.items (edges_in c.args.dealt.skeleton)
          c.args.origin.capacity origin.share skeleton origin.capacity origin.named fed made.sound made.rest made.went.met;
    }

pub returns-clause-network : goal.returns-clause-network
returns-clause-network g c =
    let laws = (g.met.T.Transducer g.world.𝓛 g.world.𝓜 g.world.𝓡 ((λ s x. x), (λ x. x), (λ x. x), λ x. x)).laws in
    let origin = c.requires.1.1.1.1.1.1.1.1.1.1.0 in
    let skeleton = c.requires.1.1.1.1.1.1.1.1.1.1.1.1.0 in
    let shares = c.in_ok-shares.shares.items in
    let made = c.in_ok-shares.ensures in
    let places = c.in_ok-places.places.items in
    let known = subst (λ l. AreThePlaces g.network l places) c.deref-2.ensures.value c.in_ok-places.ensures in
    network_apart laws refl g.network shares made.went.graph places known c.args.origin.share.items (edges_in c.args.dealt.skeleton) c.args.origin.capacity origin.share skeleton origin.capacity

pub returns-clause-least : goal.returns-clause-least
returns-clause-least g c =
    let laws = (g.met.T.Transducer g.world.𝓛 g.world.𝓜 g.world.𝓡 ((λ s x. x), (λ x. x), (λ x. x), λ x. x)).laws in
    let origin = c.requires.1.1.1.1.1.1.1.1.1.1.0 in
    let skeleton = c.requires.1.1.1.1.1.1.1.1.1.1.1.1.0 in
    let shares = c.in_ok-shares.shares.items in
    let made = c.in_ok-shares.ensures in
    let places = c.in_ok-places.places.items in
    let known = subst (λ l. AreThePlaces g.network l places) c.deref-2.ensures.value c.in_ok-places.ensures in
    let none = c.requires.1.1.1.1.1.1.1.1.1.1.1.1.1.1.1 in
    let count = c.in_ok-shares.count in
    moved_apart laws refl g.network shares made.went.graph places known c.args.origin.share.items (edges_in c.args.dealt.skeleton) c.args.origin.capacity
    origin.share skeleton origin.capacity (λ n. 0 < n → 0 < count)
    (λ some. made.went.moves.least (subst (λ n. n < moved_in g.network shares) (sym none) some))

pub returns-clause-most : goal.returns-clause-most
returns-clause-most g c =
    let laws = (g.met.T.Transducer g.world.𝓛 g.world.𝓜 g.world.𝓡 ((λ s x. x), (λ x. x), (λ x. x), λ x. x)).laws in
    let origin = c.requires.1.1.1.1.1.1.1.1.1.1.0 in
    let skeleton = c.requires.1.1.1.1.1.1.1.1.1.1.1.1.0 in
    let shares = c.in_ok-shares.shares.items in
    let made = c.in_ok-shares.ensures in
    let places = c.in_ok-places.places.items in
    let known = subst (λ l. AreThePlaces g.network l places) c.deref-2.ensures.value c.in_ok-places.ensures in
    let count = c.in_ok-shares.count in
    moved_apart laws refl g.network shares made.went.graph places known c.args.origin.share.items (edges_in c.args.dealt.skeleton) c.args.origin.capacity
    origin.share skeleton origin.capacity (λ n. count ≤ n)
    (part_of count (moved_in g.network c.args.dealt.shares.items) _ made.went.moves.most)

pub returns-clause-led : goal.returns-clause-led
returns-clause-led g c = record {
  last = c.in_ok-shares.shares.items;
  lead = c.in_ok-shares.ensures.went.lead;
  rest = are_the_shares _ _ refl;
}

pub returns-clause-share : goal.returns-clause-share
returns-clause-share g c =
    let origin = c.requires.1.1.1.1.1.1.1.1.1.1.0 in
    origin.share

pub returns-clause-shares : goal.returns-clause-shares
returns-clause-shares g c = c.in_ok-shares.ensures.went.later.count

pub returns-clause-refused : goal.returns-clause-refused
returns-clause-refused g c now = inl (none_refused _ NoThread c.in_ok-shares.ensures.refused now)

pub returns-in_err-shares : goal.returns-in_err-shares
returns-in_err-shares g c =
    let r = c.from_residual.result in
    let h = c.from_residual.ensures.1 in
    record {
      network = nothing_made r _ _ h;
      capacity = nothing_made r _ _ h;
      rounds = nothing_made r _ _ h;
      least = nothing_made r _ _ h;
      most = nothing_made r _ _ h;
      led = nothing_made r _ _ h;
      rings = nothing_made r _ _ h;
      share = nothing_made r _ _ h;
      shares = nothing_made r _ _ h;
      asked = nothing_made r _ _ h;
      refused = search rules;
    }

pub returns-in_err-places : goal.returns-in_err-places
returns-in_err-places g c =
    let r = c.from_residual-in_err-places.result in
    let h = c.from_residual-in_err-places.ensures.1 in
    record {
      network = nothing_made r _ _ h;
      capacity = nothing_made r _ _ h;
      rounds = nothing_made r _ _ h;
      least = nothing_made r _ _ h;
      most = nothing_made r _ _ h;
      led = nothing_made r _ _ h;
      rings = nothing_made r _ _ h;
      share = nothing_made r _ _ h;
      shares = nothing_made r _ _ h;
      asked = nothing_made r _ _ h;
      refused = λ now. inl (none_refused _ NoThread c.in_ok-shares.ensures.refused now);
    }
