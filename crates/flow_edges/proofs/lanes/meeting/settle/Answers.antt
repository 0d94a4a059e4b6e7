use Rattle.std.proofs.Common.{◌<◌, ◌-◌, ◌^◌, ap, ◌∙◌, subst, arith}
use Rattle.flow_rings.specs.Edge.{received, certain_room}
use Rattle.flow_edges.specs.lanes.Credits.{credit, Owes}
use Rattle.flow_edges.proofs.OfLanes.Lists.{credit-prefix, prefix-trans}
use Rattle.flow_edges.proofs.OfLanes.Owing.{owes_still, all_told}
use Rattle.flow_edges.proofs.lanes.meeting.settle.Goals as goal

pub returns-clause-begins : goal.returns-clause-begins
returns-clause-begins c = prefix-trans (received c.args.back.now) (received c.hear.new.back) (received c.hear-2.new.back) c.hear.ensures.begins c.hear-2.ensures.begins

pub returns-clause-owes : goal.returns-clause-owes
returns-clause-owes c taken o =
    let heard = owes_still taken c.args.owed c.args.teller.now c.hear.new.teller c.hear.ensures.teller c.hear.ensures.sent o in
    owes_still taken _ c.tell-owed.new.back c.hear-2.new.teller c.hear-2.ensures.teller c.hear-2.ensures.sent (c.tell-owed.ensures.owes taken heard)

pub returns-clause-told : goal.returns-clause-told
returns-clause-told c taken o below =
    let heard = c.hear.new.teller in
    let told = c.tell-owed.new.back in
    let last = c.hear-2.new.teller in
    let owes : Owes taken c.args.owed heard = owes_still taken c.args.owed c.args.teller.now heard c.hear.ensures.teller c.hear.ensures.sent o in
    let some : 0 < certain_room heard = omega (arith, owes.places, c.hear.ensures.room) in
    let few : c.args.owed < 2 ^ 64 - 1 =
    omega (
      arith,
      below,
      owes.told,
      owes.rest,
      credit-prefix (received c.args.back.now) (received c.hear.new.back) c.hear.ensures.begins,
      ap credit c.hear.ensures.heard,
    ) in
    let none = c.tell-owed.ensures.told taken owes some few in
    let rest : Owes taken 0 told = subst (λ n. Owes taken n told) none (c.tell-owed.ensures.owes taken owes) in
    ap credit c.hear-2.ensures.heard ∙ all_told taken last (owes_still taken 0 told last c.hear-2.ensures.teller c.hear-2.ensures.sent rest)
