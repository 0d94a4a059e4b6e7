use Rattle.std.proofs.Common.{◌≡◌, ◌+◌, false, cond, take, slice_index_or, ◌∙◌, ap, arith, inl, inr}
use Rattle.std.proofs.lemmas.Bool.{cases_Bool}
use mir.Val.{bool_byte}
use Rattle.flow_segment.specs.PackMachine.{trues}
use Rattle.flow_segment.proofs.PackBlocks.{trues_more}
use Rattle.flow_segment.proofs.pack.trues_in.Goals as goal

-- one truth value more
pub loop-at-preserved : goal.loop-at-preserved
loop-at-preserved c =
    let inv = c.loop-at.invariant in
    let bs = c.args.truths.now in
    let n = c.loop-at.at in
    let more = trues_more bs n c.loop-at-test.true in
    elim (cases_Bool (slice_index_or bs n false)) [
      | inl counts ↦ (let one : c.from-found.result ≡ 1 = c.from-found.ensures ∙ ap bool_byte counts in let said = more
          ∙ ap (λ b. trues (take n bs) + cond b 1 0) counts in
          record { counted = omega (arith, inv.counted, one, said); within = omega (arith, inv.within, one) })
      | inr passes ↦ (let none : c.from-found.result ≡ 0 = c.from-found.ensures ∙ ap bool_byte passes in let said = more
          ∙ ap (λ b. trues (take n bs) + cond b 1 0) passes in
          record { counted = omega (arith, inv.counted, none, said); within = omega (arith, inv.within, none) })
    ]
