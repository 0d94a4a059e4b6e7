use Rattle.std.proofs.Common.{◌≡◌, ◌<◌, ◌+◌, ℕ, Bool, List, length, take, sym, ◌∙◌, ap, subst, refl, arith}
use Rattle.std.proofs.lemmas.List.{length-set}
use Rattle.kahn.specs.declared.want.Want.TheVariants.{Read}
use Rattle.flow_messages.specs.Cells.{flag}
use Rattle.flow_base.specs.Machines.{on_flag, begins, takes, gives, ask_of, state_after_read}
use Rattle.flow_base.specs.Nodes.{want_for}
use Rattle.flow_segment.specs.FlagBlocks.{RunsOver}
use Rattle.flow_segment.specs.declared.over_flags.Ran.{Ran}
use Rattle.flow_segment.proofs.FlagBlocks.{runs_none, next_first, next_second, next_written}
use Rattle.flow_segment.proofs.over_flags.run_over.Goals.{in-Begin+in-Some, in-Take-eq0-default-default+in-Some-stage_after}
use Rattle.flow_segment.proofs.over_flags.run_over.Goals.{in-Take-eq1-default-default+in-Some-stage_after-2}
use Rattle.flow_segment.proofs.over_flags.run_over.Goals.{in-Give-eq0-default-default+else-ran-room}
use Rattle.flow_segment.proofs.over_flags.run_over.Goals as goal

pub loop-init : goal.loop-init
loop-init g c = record {
  counted = refl;
  first = omega arith;
  second = omega arith;
  written = omega arith;
  long = refl;
  ran = runs_none g.S.Stage.table c.args.stage;
}

-- one step more
pub loop-preserved : goal.loop-preserved
loop-preserved g c =
    let t = g.S.Stage.table in
    let inv = c.loop.invariant in
    let ran = c.loop.ran in
    let s = c.args.stage in
    let xs = c.args.firsts.now in
    let ys = c.args.seconds.now in
    let zs = c.loop.block in
    let first : Ran g.row.S.Denot → ℕ = λ q. q.first in
    let second : Ran g.row.S.Denot → ℕ = λ q. q.second in
    let written : Ran g.row.S.Denot → ℕ = λ q. q.written in
    let at_stage : Ran g.row.S.Denot → List Bool → Type 0 = λ q l. RunsOver t s (take q.first xs) (take q.second ys) (take q.written l) q.stage in
    let now = c.match-step.ran in
    let block = c.match-step.block in
    elim c.match-step.branch [
      | in-Begin+in-Some w ↦ (
          let k = on_flag w.in-Begin.at_f w.in-Begin.at_t in
          let is : begins k ≡ t.move ran.stage = w.in-Begin.ensures in
          let shown = w.in-Some.ensures in
          let run = next_first t s xs ys zs ran.first ran.second ran.written ran.stage w.in-Some.next inv.ran k shown.shown
          (sym (ap (λ m. want_for (ask_of m)) is)) (λ y. sym (ap (λ m. state_after_read m y) is)) shown.leads in
          record {
            counted = omega (arith, inv.counted, ap first w.ran-is, ap second w.ran-is, ap written w.ran-is);
            first = omega (arith, shown.shown, ap first w.ran-is);
            second = omega (arith, inv.second, ap second w.ran-is);
            written = omega (arith, inv.written, ap written w.ran-is);
            long = ap length w.block-is ∙ inv.long;
            ran = subst (λ q. at_stage q block) (sym w.ran-is) (subst (λ l. RunsOver t s (take (ran.first + 1) xs) (take ran.second ys) (take ran.written l) w.in-Some.next) (sym w.block-is) run);
          })
      | in-Take-eq0-default-default+in-Some-stage_after w ↦ (
          let it = w.in-Take-eq0-default-default in
          let k = on_flag it.at_f it.at_t in
          let is : takes it.field-0 k ≡ t.move ran.stage = it.ensures in
          let wants = sym (ap (λ m. want_for (ask_of m)) is) ∙ ap Read it.field-0-test in
          let next = w.in-Some-stage_after.next in
          let shown = w.in-Some-stage_after.ensures in
          let run = next_first t s xs ys zs ran.first ran.second ran.written ran.stage next inv.ran k shown.shown wants (λ y. sym (ap (λ m. state_after_read m y) is)) shown.leads in
          record {
            counted = omega (arith, inv.counted, ap first w.ran-is, ap second w.ran-is, ap written w.ran-is);
            first = omega (arith, shown.shown, ap first w.ran-is);
            second = omega (arith, inv.second, ap second w.ran-is);
            written = omega (arith, inv.written, ap written w.ran-is);
            long = ap length w.block-is ∙ inv.long;
            ran = subst (λ q. at_stage q block) (sym w.ran-is) (subst (λ l. RunsOver t s (take (ran.first + 1) xs) (take ran.second ys) (take ran.written l) next) (sym w.block-is) run);
          })
      | in-Take-eq1-default-default+in-Some-stage_after-2 w ↦ (
          let it = w.in-Take-eq1-default-default in
          let k = on_flag it.at_f it.at_t in
          let is : takes it.field-0 k ≡ t.move ran.stage = it.ensures in
          let wants = sym (ap (λ m. want_for (ask_of m)) is) ∙ ap Read it.field-0-test in
          let next = w.in-Some-stage_after-2.next in
          let shown = w.in-Some-stage_after-2.ensures in
          let run = next_second t s xs ys zs ran.first ran.second ran.written ran.stage next inv.ran k shown.shown wants (λ y. sym (ap (λ m. state_after_read m y) is)) shown.leads in
          record {
            counted = omega (arith, inv.counted, ap first w.ran-is, ap second w.ran-is, ap written w.ran-is);
            first = omega (arith, inv.first, ap first w.ran-is);
            second = omega (arith, shown.shown, ap second w.ran-is);
            written = omega (arith, inv.written, ap written w.ran-is);
            long = ap length w.block-is ∙ inv.long;
            ran = subst (λ q. at_stage q block) (sym w.ran-is) (subst (λ l. RunsOver t s (take ran.first xs) (take (ran.second + 1) ys) (take ran.written l) next) (sym w.block-is) run);
          })
      | in-Give-eq0-default-default+else-ran-room w ↦ (
          let it = w.in-Give-eq0-default-default in
          let is : gives it.field-0 (flag it.flag) it.next ≡ t.move ran.stage = it.ensures in
          let here : gives 0 (flag it.flag) it.next ≡ t.move ran.stage = ap (λ q. gives q (flag it.flag) it.next) (sym it.field-0-test) ∙ is in
          let within : ran.written < length zs = omega (arith, inv.written, inv.long, c.requires.block, w.if-ran-room.false) in
          let run = next_written t s xs ys zs ran.first ran.second ran.written ran.stage it.next inv.ran it.flag within here in
          record {
            counted = omega (arith, inv.counted, ap first w.ran-is, ap second w.ran-is, ap written w.ran-is);
            first = omega (arith, inv.first, ap first w.ran-is);
            second = omega (arith, inv.second, ap second w.ran-is);
            written = omega (arith, inv.written, w.if-ran-room.false, ap written w.ran-is);
            long = ap length w.block-is ∙ length-set zs ran.written it.flag ∙ inv.long;
            ran = subst (λ q. at_stage q block) (sym w.ran-is) (subst (λ l. RunsOver t s (take ran.first xs) (take ran.second ys) (take (ran.written + 1) l) it.next) (sym w.block-is) run);
          })
    ]
