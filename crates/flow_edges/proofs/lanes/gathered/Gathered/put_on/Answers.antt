use Rattle.std.proofs.Common.{length, sym, ap, ◌∙◌, arith}
use Rattle.std.specs.Prelude.{Some}
use Rattle.flow_messages.proofs.SideBySide.{items_still}
use Rattle.flow_words.specs.Edge.{sent, followed_unless_ended}
use Rattle.flow_edges.proofs.lanes.gathered.Gathered.put_on.Goals as goal

pub put_all-requires : goal.put_all-requires
put_all-requires c = record {
  kind = items_still _ _ c.shown.result (ap Some (sym c.requires.fits.kind)) c.shown.ensures.kind;
  certain = omega (arith, ap length c.shown.ensures.messages, c.requires.fits.certain);
}

pub returns-clause-put : goal.returns-clause-put
returns-clause-put c = c.put_all.ensures.put ∙ ap (followed_unless_ended (sent c.args.edge.now)) c.shown.ensures.messages

pub returns-clause-room : goal.returns-clause-room
returns-clause-room c = omega (arith, c.put_all.ensures.room, ap length c.shown.ensures.messages)
