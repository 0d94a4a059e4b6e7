use Rattle.std.proofs.Common.{◌≡◌, length, take, ◌+◌, ◌<◌, true, false, slice_index_or, slice_set, ◌∙◌, ap, arith, inl, inr}
use Rattle.std.proofs.lemmas.Bool.{cases_Bool}
use mir.Val.{bool_byte}
use Rattle.flow_segment.proofs.PackBlocks.{kept_put}
use Rattle.flow_segment.proofs.pack.keep.Goals as goal

-- one item more
pub loop-at-preserved : goal.loop-at-preserved
loop-at-preserved g c =
    let inv = c.loop-at.invariant in
    let bs = c.args.truths.now in
    let xs = c.args.items.now in
    let n = c.loop-at.at in
    let count = c.loop-at.count in
    let x = c.index-items-at.result in
    let in_xs : n < length xs = omega (arith, c.requires.items, c.loop-at-test.true) in
    let in_block : count < length c.loop-at.block = omega (arith, inv.within, c.loop-at-test.true, c.requires.block) in
    let step = kept_put bs xs c.loop-at.block n count x c.loop-at-test.true in_xs in_block c.index-items-at.is inv.kept in
    elim (cases_Bool (slice_index_or bs n false)) [
      | inl keeps ↦ (let one : c.from-count.result ≡ 1 = c.from-count.ensures ∙ ap bool_byte keeps in
          record {
            within = omega (arith, inv.within, one);
            kept = ap (λ k. take (count + k) (slice_set c.loop-at.block count x)) one
                ∙ step true keeps;
          })
      | inr drops ↦ (let none : c.from-count.result ≡ 0 = c.from-count.ensures ∙ ap bool_byte drops in
          record {
            within = omega (arith, inv.within, none);
            kept = ap (λ k. take (count + k) (slice_set c.loop-at.block count x)) none
                ∙ step false drops;
          })
    ]
