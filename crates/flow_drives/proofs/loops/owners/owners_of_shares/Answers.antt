use Rattle.std.proofs.Common.{◌≡◌, length, refl, subst, rules}
use Rattle.flow_drives.specs.loops.Epochs.{AreOfOneGraph}
use Rattle.flow_drives.specs.loops.Owners.{HasBoth, LacksAnEnd}
use Rattle.flow_drives.proofs.OfLoops.FirstOwners.{first_more, first_are_all}
use Rattle.flow_drives.proofs.loops.owners.owners_of_shares.Goals as goal

pub loop-owner-preserved : goal.loop-owner-preserved
loop-owner-preserved g c =
    let shares = c.args.shares.now in
    let owners = c.loop-owner.owners.items in
    let graph : AreOfOneGraph g.network shares = search rules in
    let at : c.len.result ≡ length owners = cc in
    let both = subst (λ e. HasBoth shares e c.in-Some.owner) at c.in-Some.ensures.both in
    first_more g.network shares graph owners c.push.new.self.items c.in-Some.owner c.in_ok-push.ensures.items both c.loop-owner.invariant

pub returns : goal.returns
returns g c =
    let shares = c.args.shares.now in
    let owners = c.loop-owner.owners.items in
    let graph : AreOfOneGraph g.network shares = search rules in
    let at : c.len.result ≡ length owners = cc in
    let lacks = subst (λ e. LacksAnEnd shares e) at c.in_default.ensures.none in
    first_are_all g.network shares graph refl owners lacks c.loop-owner.invariant
