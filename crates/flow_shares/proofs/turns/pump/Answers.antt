use Rattle.flow_shares.proofs.turns.pump.Goals as goal

pub returns-clause-pumped : goal.returns-clause-pumped
returns-clause-pumped g c = record {
  number = c.after_turns.ensures.number;
  places = c.after_turns.ensures.places;
  same = c.after_turns.ensures.same;
  ends = c.after_turns.ensures.ends;
  moved = c.after_turns.ensures.moved;
  lost = c.after_turns.ensures.lost;
  spares = c.after_turns.ensures.spares;
  busy = c.after_turns.ensures.busy;
  calm = c.after_turns.ensures.calm;
  progress = c.after_turns.ensures.progress;
  rest = c.after_turns.ensures.rest;
  out = c.after_turns.ensures.out;
}
