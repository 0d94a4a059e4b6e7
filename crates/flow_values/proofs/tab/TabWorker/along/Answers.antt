use Rattle.std.proofs.Common.{◌≡◌, ◌+◌, ◌*◌, ◌≤◌, ◌∙◌, true, false, List, refl, sym, ap, subst, map, arith}
use mir.Val.{bool_byte}
use Rattle.snesl_data.specs.Builders.{built_in}
use Rattle.snesl_data.specs.Types.{Ty, ty_of}
use Rattle.snesl_data.specs.Values.{Value, values_of}
use Rattle.flow_messages.specs.Cells.{cell_of}
use Rattle.flow_messages.specs.Blocks.{item_signals}
use Rattle.flow_base.specs.Along.{MovesAlong}
use Rattle.flow_base.proofs.Along.{moved_nothing}
use Rattle.flow_values.specs.Shapes.{all_are}
use Rattle.flow_values.specs.TabMachine.{TabState, tab_machine, tab_state}
use Rattle.flow_values.specs.declared.tab.Stage.{Stage}
use Rattle.flow_values.specs.declared.tab.Stage.TheVariants.{Flag, End}
use Rattle.flow_values.proofs.TabBlocks.{Ahead, moved_by, nothing_added, scalars_are, elements_moved, end_moved}
use Rattle.flow_values.proofs.tab.TabWorker.along.Goals.{then-ended, else-ended}
use Rattle.flow_values.proofs.tab.TabWorker.along.Goals as goal

-- nothing was added
pub returns-then-added-eq0 : goal.returns-then-added-eq0
returns-then-added-eq0 c =
    let old = c.args.self.now in
    let self = c.awaits_flag.new.self in
    let push = c.push_shown-added in
    let made = c.nothing-then-added-eq0 in
    let first = c.args.first in
    let second = c.args.second in
    let space = c.args.space in
    let most = c.args.most in
    let block = c.args.block.now in
    let before : Ty × TabState = (ty_of old.element, tab_state old.stage (built_in old.elements) (map cell_of old.items.items)) in
    let after : List Value → Ty × TabState = λ es. (ty_of self.element, tab_state self.stage es (map cell_of self.items.items)) in
    let none = nothing_added (ty_of self.element) (item_signals second) push.result (built_in self.elements) (built_in push.new.elements) c.if-added-eq0.true push.ensures.added in
    let same : after (built_in push.new.elements) ≡ before = ap after none ∙ c.awaits_flag.ensures.same in
    let still = moved_nothing tab_machine before first second space most block made.result made.ensures in
    subst (λ s. MovesAlong tab_machine before s first second space most block made.result) (sym same) still

pub invariant_of-self-2 : goal.invariant_of-self-2
invariant_of-self-2 c =
    let self = c.awaits_flag.new.self in
    let ty = ty_of self.element in
    let adds = c.push_shown-added.ensures.added in
    record {
      kinds_are = self.kinds_are;
      items_fit = self.items_fit;
      elements_are = ap (λ es. all_are ty (values_of es)) adds.behind ∙ scalars_are ty (built_in self.elements) adds.scalars adds.are self.elements_are;
    }

-- it went along flags and scalars
pub returns : goal.returns
returns c =
    let old = c.args.self.now in
    let self = c.awaits_flag.new.self in
    let ty = ty_of self.element in
    let got = map cell_of self.items.items in
    let es = built_in self.elements in
    let push = c.push_shown-added in
    let new = built_in push.new.elements in
    let added = push.result in
    let looked = c.elements_ahead-ahead in
    let ahead = looked.result in
    let bs = c.flags-flags.result.now in
    let ends = c.end_behind-ended in
    let end = bool_byte ends.result in
    let first = c.args.first in
    let second = c.args.second in
    let space = c.args.space in
    let most = c.args.most in
    let block = c.args.block.now in
    let before : Ty × TabState = (ty_of old.element, tab_state old.stage (built_in old.elements) (map cell_of old.items.items)) in
    let told : Ty × TabState → Stage → Type 0 = λ s stage. MovesAlong tab_machine s (ty, tab_state stage new got) first second space most block (moved_by (added + end) added (2 * added + end)) in
    let s = tab_state self.stage es got in
    let due = c.if-not-awaits_flag.ensures.awaits refl in
    let shown : Ahead bs first second ahead added = record {
      seen = c.flags-flags.ensures;
      in_flags = looked.ensures.shown;
      elements = looked.ensures.elements;
      few = push.ensures.within;
      there = push.ensures.shown;
      some = omega (arith, c.if-added-eq0.false);
    } in
    let may : 2 * added ≤ most = omega (arith, push.ensures.within, looked.ensures.within) in
    let adds = push.ensures.added in
    let to_end = λ (is : ends.result ≡ true).
    end_moved ty s es new first second bs ahead added due shown adds space most block end (ap bool_byte is) (ends.ensures.within is) (ends.ensures.shown is) (ends.ensures.ends is) in
    let on = λ (is : ends.result ≡ false). elements_moved ty s es new first second bs ahead added due shown adds space most block end (ap bool_byte is) may in
    elim c.if-ended.branch [
      | then-ended w ↦ subst (told before) (sym w.self-is) (subst (λ s. told s End) c.awaits_flag.ensures.same (to_end w.if-ended.true))
      | else-ended w ↦ subst (told before) (sym w.self-is) (subst (λ s. told s Flag) c.awaits_flag.ensures.same (on w.if-ended.false))
    ]
