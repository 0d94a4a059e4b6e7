use Rattle.std.proofs.Common.{refl, subst, rules}
use Rattle.flow_shares.specs.meetings.Open.{AreOwners}
use Rattle.flow_shares.specs.meetings.SharedNetworks.{AreFed}
use Rattle.flow_drives.specs.loops.Standing.{StandBetweenRounds}
use Rattle.flow_drives.proofs.OfLoops.Shares.{still_linked}
use Rattle.flow_drives.proofs.OfLoops.After.{stands_after, moves_after}
use Rattle.flow_drives.proofs.OfLoops.Sends.{boxes_send}
use denote.Param.Send.{sendable}
use Rattle.std.proofs.Crossing.{crosses}
use Rattle.flow_drives.proofs.loops.round.round.Goals as goal

pub meet-requires : goal.meet-requires
meet-requires g c =
    let s = g.network in
    let shares = c.args.shares.items in
    let back = c.in_ok-back.back.items in
    let stand : StandBetweenRounds s shares = search rules in
    let owners : AreOwners s.share s.edges c.args.owners.now = search rules in
    let fed = subst (λ l. AreFed l) c.deref.ensures.value (c.are_fed.ensures.0 c.if-not-are_fed.false) in
    let linked = still_linked refl (λ a b same. same) shares back c.in_ok-back.ensures.count c.in_ok-back.ensures.each fed s.share s.edges s.nodes s.capacity s.fit stand.deals stand.met in
    λ κs sub. (search rules, (owners, (linked, fed)))

pub returns-clause-round : goal.returns-clause-round
returns-clause-round g c =
    let s = g.network in
    let shares = c.args.shares.items in
    let back = c.in_ok-back.back.items in
    let stand : StandBetweenRounds s shares = search rules in
    let fed = subst (λ l. AreFed l) c.deref.ensures.value (c.are_fed.ensures.0 c.if-not-are_fed.false) in
    let laws = (g.met.T.Transducer g.world.𝓛 g.world.𝓜 g.world.𝓡 ((λ s x. x), (λ x. x), (λ x. x), λ x. x)).laws in
    record {
      pumped = back;
      count = c.in_ok-back.ensures.count;
      each = c.in_ok-back.ensures.each;
      met = c.in_ok-met.ensures;
      stand = stands_after laws s refl (λ a b same. same) shares back c.in_ok-met.met.items stand c.in_ok-back.ensures.count c.in_ok-back.ensures.each fed c.in_ok-met.ensures;
      moves = moves_after laws s refl (λ a b same. same) shares back c.in_ok-met.met.items stand c.in_ok-back.ensures.count c.in_ok-back.ensures.each fed c.in_ok-met.ensures;
    }

-- a share with its boxes may go to another thread
pub run_all-requires-send-E : goal.run_all-requires-send-E
run_all-requires-send-E g c κs within = search (boxes_send, crosses, sendable) depth 60 fits 20000
