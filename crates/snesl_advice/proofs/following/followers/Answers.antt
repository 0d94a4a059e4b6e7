use Rattle.std.proofs.lemmas.List.Elements.{All-push}
use Rattle.snesl_advice.specs.Followers.{GoesOnWith, sample}
use Rattle.snesl_advice.proofs.following.followers.Goals as goal
use Rattle.snesl_advice.proofs.following.followers.Goals.{then-branch+in_ok-push, else-branch}

pub loop-follower-preserved : goal.loop-follower-preserved
loop-follower-preserved c =
    let before = c.loop-follower.found.items in
    elim c.if-branch.branch [
      | then-branch+in_ok-push w ↦
          let goes = rw c.sample.ensures at (c.in_ok-takes_next.ensures.0 w.if-branch.true) in
          rw (w.found-is, w.in_ok-push.ensures.items)
          (All-push (λ one. GoesOnWith c.args.program.now c.args.at (sample one)) before _ c.loop-follower.invariant goes)
      | else-branch w ↦ rw w.found-is c.loop-follower.invariant
    ]
