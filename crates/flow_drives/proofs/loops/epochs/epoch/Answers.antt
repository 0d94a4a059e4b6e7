use Rattle.std.proofs.Common.{◌≡◌, length, rules, sym, ◌∙◌, ap, subst}
use Rattle.std.proofs.lemmas.List.{length-map}
use Rattle.flow_shares.specs.Lending.{share_nodes}
use Rattle.flow_shares.specs.Starts.{AskedForEach}
use Rattle.flow_shares.specs.meetings.Open.{AreOwners}
use Rattle.flow_shares.specs.meetings.SharedNetworks.{AreFed}
use Rattle.flow_drives.specs.loops.Epochs.{AreOfOneGraph}
use Rattle.flow_drives.proofs.OfLoops.ShareLists.{fed_stay}
use Rattle.flow_drives.proofs.OfLoops.Pumps.{pumped_graph}
use Rattle.flow_edges.proofs.OfLanes.Sends.{rings_send}
use Rattle.flow_drives.proofs.OfLoops.Whole.{is_epoch}
use denote.Param.Send.{sendable}
use Rattle.std.proofs.Crossing.{crosses}
use Rattle.flow_drives.proofs.loops.epochs.epoch.Goals as goal

pub run_all-requires-clause-fed : goal.run_all-requires-clause-fed
run_all-requires-clause-fed g c κs within =
    let fed : AreFed c.args.shares.items = search rules in
    fed_stay c.args.shares.items c.in_ok-met.met.items c.in_ok-met.ensures.bodies fed

pub meet-requires-2 : goal.meet-requires-2
meet-requires-2 g c κs within =
    let owners : AreOwners g.network.share g.network.edges c.args.owners.now = search rules in
    (search rules, (owners, pumped_graph (λ a b same. same) g.network c.in_ok-met.met.items c.in_ok-back.back.items c.in_ok-back.ensures.count c.in_ok-back.ensures.each c.in_ok-met.ensures.graph))

pub returns-clause-epoch : goal.returns-clause-epoch
returns-clause-epoch g c =
    let shares = c.args.shares.items in
    let mid = c.in_ok-met.met.items in
    let pumped = c.in_ok-back.back.items in
    let graph : AreOfOneGraph g.network shares = search rules in
    let first = c.in_ok-met.ensures in
    let went = c.in_ok-back.ensures in
    let laws = (g.met.T.Transducer g.world.𝓛 g.world.𝓜 g.world.𝓡 ((λ s x. x), (λ x. x), (λ x. x), λ x. x)).laws in
    is_epoch g.network (λ a b same. same) laws shares mid pumped c.in_ok-back-2.back.items first went.count went.each c.in_ok-back-2.ensures graph
    (pumped_graph (λ a b same. same) g.network mid pumped went.count went.each first.graph)

-- a share with its rings may go to another thread
pub run_all-requires-send-E : goal.run_all-requires-send-E
run_all-requires-send-E g c κs within = search (rings_send, crosses, sendable) depth 60 fits 20000

pub returns-clause-asked : goal.returns-clause-asked
returns-clause-asked g c =
    let asked = g.S.Start.asked in
    let shares = c.args.shares.items in
    let met = c.in_ok-met.met.items in
    let same : length met ≡ length shares = sym (length-map met (λ share. share_nodes share)) ∙ ap length c.in_ok-met.ensures.bodies ∙ length-map shares (λ share. share_nodes share) in
    subst (λ n. AskedForEach n (asked c.args.start.now) (asked c.run_all.new.start)) same c.in_ok-back.ensures.asked
