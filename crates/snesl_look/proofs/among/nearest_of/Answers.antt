use Rattle.std.proofs.Common.{◌≡◌, ◌∙◌, ◌+◌, ◌<◌, [], ap, arith, get_or, length, map, sym}
use Rattle.std.proofs.lemmas.List.{get_or-map}
use Rattle.snesl_look.specs.Names.{distance, distance_among}
use Rattle.snesl_look.proofs.Nearest.{goes_on, nearer}
use Rattle.snesl_look.proofs.among.nearest_of.Goals as goal
use Rattle.snesl_look.proofs.among.nearest_of.Goals.{then-edits-least, else-edits-least}

pub loop-place-preserved : goal.loop-place-preserved
loop-place-preserved c =
    let names = map (λ name. name.items) c.args.names.now in
    let word = c.args.word.now in
    let far = distance_among names word in
    let limit = c.most_edits-limit.result + 1 in
    let place = c.loop-place.place in
    let so_far = c.loop-place.invariant in
    let name : c.deref.result.now ≡ get_or names place [] =
    c.deref.ensures.value ∙ ap (λ name. name.items) c.index-names-place.is
    ∙ sym (get_or-map (λ name. name.items) c.args.names.now place c.index-names-place.result [] c.loop-place-test.true) in
    let known : c.in_ok-edits.edits ≡ far place = c.in_ok-edits.ensures.value ∙ ap (λ x. distance x word) name in
    elim c.if-edits-least.branch [
      | then-edits-least w ↦
          rw (w.found-is, w.least-is)
          (nearer (λ k. k < length c.args.names.now) far limit place c.loop-place.found c.loop-place.least c.in_ok-edits.edits so_far c.loop-place-test.true known
          w.if-edits-least.true)
      | else-edits-least w ↦
          rw (w.found-is, w.least-is)
          (goes_on (λ k. k < length c.args.names.now) far limit place c.loop-place.found c.loop-place.least so_far
          (λ one. omega (arith, known, w.if-edits-least.false)))
    ]
