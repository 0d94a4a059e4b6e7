use Rattle.std.proofs.lemmas.Grind.{elements, common_steps}
use Rattle.std.proofs.Common.{arith}
use Rattle.flow_shares.proofs.meetings.meeting_everywhere.meet_edge.Goals as goal

pub meet_with-requires : goal.meet_with-requires
meet_with-requires g c = grind (arith, common_steps)

pub meet_with-requires-else-owner-2 : goal.meet_with-requires-else-owner-2
meet_with-requires-else-owner-2 g c = grind (arith, common_steps)

pub returns-then-owner-clause-meets : goal.returns-then-owner-clause-meets
returns-then-owner-clause-meets g c = grind (arith, elements)

pub returns-then-owner-2-clause-meets : goal.returns-then-owner-2-clause-meets
returns-then-owner-2-clause-meets g c = grind (arith, elements)

pub returns-then-owner-2-clause-joined : goal.returns-then-owner-2-clause-joined
returns-then-owner-2-clause-joined g c = grind (arith, common_steps)

pub returns-then-owner-2-clause-met : goal.returns-then-owner-2-clause-met
returns-then-owner-2-clause-met g c = grind (arith, common_steps)

pub returns-else-owner-2-clause-meets : goal.returns-else-owner-2-clause-meets
returns-else-owner-2-clause-meets g c = grind (arith, elements)

pub returns-else-owner-2-clause-joined : goal.returns-else-owner-2-clause-joined
returns-else-owner-2-clause-joined g c = grind (arith, common_steps)

pub returns-else-owner-2-clause-met : goal.returns-else-owner-2-clause-met
returns-else-owner-2-clause-met g c = grind (arith, common_steps)
