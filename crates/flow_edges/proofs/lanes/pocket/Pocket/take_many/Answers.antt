use Rattle.std.proofs.Common.{◌≤◌, ◌++◌, length, drop, refl, sym, ap, ◌∙◌, subst, arith}
use Rattle.flow_messages.specs.Stores.{content_of}
use Rattle.flow_words.specs.Edge.{certain_held, SameReader}
use Rattle.flow_edges.specs.lanes.Taken.{taken_from, held_in}
use Rattle.flow_edges.proofs.OfLanes.Drained.{skipped}
use Rattle.flow_edges.proofs.lanes.pocket.Pocket.take_many.Goals as goal

pub returns-then-count-len : goal.returns-then-count-len
returns-then-count-len c =
    let p = c.args.self.now in
    let now = c.skip.ensures in
    let held = content_of p.inbox.store in
    let low : c.args.count ≤ length held = omega (arith, c.if-count-len.true, c.len.ensures) in
    let rest = ap (λ l. l ++ certain_held c.skip.new.self.edge) now.rest ∙ ap (λ r. drop c.args.count held ++ certain_held r) now.edge in
    let first = skipped c.args.count held (certain_held p.edge) (held_in p) (held_in c.skip.new.self) low refl rest in
    record {
      edge = subst (λ r. SameReader p.edge r) (sym now.edge) refl;
      back = now.back;
      places = now.places;
      taken = now.taken ∙ ap (λ l. taken_from p ++ l) first.0;
      ahead = first.1;
    }
