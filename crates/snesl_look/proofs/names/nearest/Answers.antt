use Rattle.std.proofs.Common.{◌+◌, ap, arith}
use Rattle.snesl_look.specs.Names.{IsOther, distance_at}
use Rattle.snesl_look.proofs.Nearest.{goes_on, is_nearest, nearer}
use Rattle.snesl_look.proofs.names.nearest.Goals as goal
use Rattle.snesl_look.proofs.names.nearest.Goals.{in-Some+then-edits-least, in-Some+else-edits-least, in_default}

pub loop-place-preserved : goal.loop-place-preserved
loop-place-preserved c =
    let is_one = IsOther c.args.text.now c.args.at in
    let far = distance_at c.args.text.now c.args.word.now in
    let limit = c.most_edits-limit.result + 1 in
    let place = c.loop-place.place in
    let found = c.loop-place.found in
    let least = c.loop-place.least in
    let so_far = c.loop-place.invariant in
    elim c.match-branch-2.branch [
      | in-Some+then-edits-least w ↦
          let known = rw w.in-Some.is at c.in_ok-edits.ensures in
          rw (w.found-is, w.least-is) (nearer is_one far limit place found least w.in-Some.edits so_far known.0 known.1 w.if-edits-least.true)
      | in-Some+else-edits-least w ↦
          let known = rw w.in-Some.is at c.in_ok-edits.ensures in
          rw (w.found-is, w.least-is) (goes_on is_one far limit place found least so_far (λ one. omega (arith, known.1, w.if-edits-least.false)))
      | in_default w ↦
          let none = rw w.in_default.is at c.in_ok-edits.ensures in
          rw (w.found-is, w.least-is) (goes_on is_one far limit place found least so_far (λ one. absurd (none one)))
    ]

pub returns-then-least-limit : goal.returns-then-least-limit
returns-then-least-limit c =
    is_nearest c.args.text.now c.args.at c.args.word.now (c.most_edits-limit.result + 1) c.loop-place.place c.loop-place.found c.loop-place.least
    (ap (λ n. n + 1) c.most_edits-limit.ensures.edits) c.loop-place-test.false c.loop-place.invariant c.if-least-limit.true
