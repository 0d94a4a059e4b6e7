use Rattle.std.proofs.Common.{◌≡◌, ◌+◌, ◌-◌, ◌*◌, ◌<◌, ◌≤◌, ◌+ℤ◌, pos, true, false, length, set, to_z, of_z, sym, ◌∙◌, ap, subst, arith, rules}
use Rattle.std.specs.Int.{w128}
use Rattle.std.specs.Prelude.{int_lt}
use Rattle.std.proofs.lemmas.Int.{ints}
use Rattle.flow_base.specs.Along.{MovesAlong}
use Rattle.flow_base.specs.declared.slices.Moved.{Moved}
use Rattle.flow_base.specs.declared.slices.Written.{Written}
use Rattle.flow_scalar.specs.declared.iota.Iota.TheVariants.{Flag}
use Rattle.flow_scalar.specs.IotaMachine.{iota_machine, iota_view}
use Rattle.flow_scalar.proofs.IotaBlocks.{Rounds, iota_moves, more_numbers, next_segment, no_more_numbers}
use Rattle.flow_scalar.proofs.iota.IotaWorker.along.Goals.{else-loop-made-test, then-loop-made-test+then-next-end+then-count-eq0, then-loop-made-test+else-next-end+in_default-count_at}
use Rattle.flow_scalar.proofs.iota.IotaWorker.along.Goals as goal

-- numbers
pub loop-made-preserved-then-next-end : goal.loop-made-preserved-then-next-end
loop-made-preserved-then-next-end c =
    let loop = c.loop-made in
    let inv = loop.invariant in
    let put = c.put_numbers-count in
    let counts = c.ints-counts.result.now in
    let next = to_z w128 loop.next-bits in
    let end = to_z w128 loop.end-bits in
    let some : 0 < put.result = omega arith in
    let small : to_z w128 put.result ≡ pos put.result = search rules in
    let back : to_z w128 (of_z w128 (next +ℤ to_z w128 put.result)) ≡ next +ℤ to_z w128 put.result = search rules in
    let after : to_z w128 (of_z w128 (next +ℤ to_z w128 put.result)) ≡ next +ℤ pos put.result = back ∙ ap (λ k. next +ℤ k) small in
    let ran = more_numbers next end counts loop.block.flags put.new.block.flags loop.block.ints put.new.block.ints loop.read loop.made put.result
    inv.before (put.ensures.below some) put.ensures.flags put.ensures.ints inv.ran in
    record {
      in_counts = inv.in_counts;
      before = omega (arith, inv.before);
      within = omega (arith, inv.within, put.ensures.room);
      ran = subst (λ k. Rounds c.args.self.now k end counts put.new.block.flags put.new.block.ints loop.read (loop.made + put.result)) (sym after) ran;
    }

-- the next segment
pub loop-made-preserved : goal.loop-made-preserved
loop-made-preserved c =
    let loop = c.loop-made in
    let inv = loop.invariant in
    let counts = c.ints-counts.result.now in
    let flags = loop.block.flags in
    let next = to_z w128 loop.next-bits in
    let end = to_z w128 loop.end-bits in
    let count = c.in-Some.count in
    let back : to_z w128 (of_z w128 count) ≡ count = search rules in
    let test : int_lt next end ≡ false = grind (arith, ints, c.if-next-end.false) in
    let there : loop.made < length flags = omega (arith, c.loop-made-test.true, c.min-rounds.ensures, c.requires) in
    let ran = next_segment next end count counts flags loop.block.ints loop.read loop.made c.in-Some.ensures.within there test c.in-Some.ensures.natural c.in-Some.ensures.shown inv.ran in
    record {
      in_counts = omega (arith, c.in-Some.ensures.within);
      before = omega (arith, inv.before);
      within = omega (arith, c.loop-made-test.true);
      ran = subst (λ k. Rounds c.args.self.now (pos 0) k counts (set flags loop.made true) loop.block.ints (loop.read + 1) (loop.made + 1)) (sym back) ran;
    }

pub returns : goal.returns
returns c =
    let loop = c.loop-made in
    let inv = loop.invariant in
    let counts = c.ints-counts.result.now in
    let self = c.args.self.now in
    let next = to_z w128 loop.next-bits in
    let end = to_z w128 loop.end-bits in
    let made : Moved = record { first = loop.read; second = 0; units = 0; flags = loop.made; ints = loop.made - loop.read; steps = 2 * loop.made } in
    let room : loop.made ≤ c.args.space = omega (arith, inv.within, c.min-rounds.ensures) in
    let may : 2 * loop.made ≤ c.args.most = omega (arith, inv.within, c.min-rounds.ensures) in
    let moves : (block : Written) → Rounds self next end counts block.flags block.ints loop.read loop.made →
    MovesAlong iota_machine (iota_view self) (iota_view (Flag next end)) c.args.first c.args.second c.args.space c.args.most block made =
    λ block ran. iota_moves self next end c.args.first c.args.second c.args.space c.args.most block counts loop.read loop.made c.ints-counts.ensures inv.in_counts inv.before room may ran in
    let told = λ (block : Written). MovesAlong iota_machine (iota_view self) (iota_view (Flag next end)) c.args.first c.args.second c.args.space c.args.most block made in
    elim c.loop-made-test.branch [
      | else-loop-made-test w ↦ subst told (sym w.block-is) (moves loop.block inv.ran)
      | then-loop-made-test+then-next-end+then-count-eq0 w ↦ (let put = w.put_numbers-count in
          let ran = no_more_numbers next end counts loop.block.flags put.new.block.flags loop.block.ints put.new.block.ints loop.read loop.made
          put.result w.if-count-eq0.true put.ensures.flags put.ensures.ints inv.ran in
          subst told (sym w.block-is) (moves put.new.block ran))
      | then-loop-made-test+else-next-end+in_default-count_at w ↦ subst told (sym w.block-is) (moves loop.block inv.ran)
    ]
