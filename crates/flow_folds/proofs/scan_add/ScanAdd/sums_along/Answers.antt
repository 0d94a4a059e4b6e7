use Rattle.std.proofs.Common.{◌≡◌, ◌+◌, ◌++◌, [], ◌∷◌, true, false, pos, Ok, take, set, get_or, refl, sym, ◌∙◌, ap, subst, arith, rules, to_z, of_z}
use Rattle.std.specs.Int.{w64, w128}
use Rattle.std.proofs.lemmas.Int.{to_z-of_z}
use mir.Val.{SFits}
use Rattle.flow_messages.proofs.Widened.{widened}
use Rattle.std.proofs.lemmas.List.{take_more, take_more_set}
use Rattle.flow_folds.specs.ScanAddBlocks.{SumsAlong}
use Rattle.flow_folds.specs.declared.scan_add.Stage.TheVariants.{Start, Flag}
use Rattle.flow_folds.proofs.ScanAddBlocks.{awaits, next_sum, end_more, element_more}
use Rattle.flow_folds.proofs.scan_add.ScanAdd.sums_along.Goals as goal

-- a flag that ends a segment
pub loop-place-preserved-then-flags-place : goal.loop-place-preserved-then-flags-place
loop-place-preserved-then-flags-place c =
    let d = c.args.self.now.dialect in
    let bs = c.args.flags.now in
    let loop = c.loop-place in
    let inv = loop.invariant in
    let xs = take loop.read c.args.elements.now in
    let sums = take loop.read loop.sums in
    let flags : take (loop.place + 1) bs ≡ take loop.place bs ++ true ∷ [] = take_more bs loop.place false c.loop-place-test.true ∙ ap (λ b. take loop.place bs ++ b ∷ []) c.if-flags-place.true in
    record {
      fewer = omega (arith, inv.fewer);
      shown = inv.shown;
      held = refl;
      along = subst (λ l. SumsAlong d c.args.self.now.stage l xs sums Start) (sym flags)
          (end_more d c.args.self.now.stage loop.stage (take loop.place bs) xs sums inv.along
          (awaits d loop.stage (to_z w128 loop.before-bits) (to_z w128 loop.last-bits) inv.held));
    }

-- and one with its element
pub loop-place-preserved : goal.loop-place-preserved
loop-place-preserved c =
    let d = c.args.self.now.dialect in
    let s = c.args.self.now.stage in
    let bs = c.args.flags.now in
    let xs = c.args.elements.now in
    let loop = c.loop-place in
    let inv = loop.invariant in
    let place = loop.place in
    let read = loop.read in
    let x = get_or xs read (pos 0) in
    let next = c.in-Ok.next in
    let next_fits : SFits w128 next = search rules in
    let next_is : to_z w128 (of_z w128 next) ≡ next = to_z-of_z w128 next next_fits in
    let narrow = c.in-Ok-try_from.narrow in
    let narrow_fits : SFits w64 narrow = search rules in
    let sum_is : to_z w64 (of_z w64 narrow) ≡ next = to_z-of_z w64 narrow narrow_fits ∙ c.in-Ok-try_from.ensures.1 ∙ next_is in
    let fits : SFits w64 x = search rules in
    let last_is : to_z w128 (of_z w128 (to_z w64 (of_z w64 x))) ≡ x = widened x fits in
    let flags : take (place + 1) bs ≡ take place bs ++ false ∷ [] = take_more bs place false c.loop-place-test.true ∙ ap (λ b. take place bs ++ b ∷ []) c.if-flags-place.false in
    let elements : take (read + 1) xs ≡ take read xs ++ x ∷ [] = take_more xs read (pos 0) (omega (arith, inv.shown, c.if-read-elements.false)) in
    let sum = to_z w64 (of_z w64 narrow) in
    let sums = take_more_set loop.sums read sum (omega arith) in
    let is = sym c.in-Ok.ensures ∙ ap Ok (sym sum_is) in
    let more = element_more d s loop.stage (take place bs) (take read xs) (take read loop.sums) x sum inv.along
    (next_sum d loop.stage (to_z w128 loop.before-bits) (to_z w128 loop.last-bits) sum inv.held is) in
    let in_sums = subst (λ l. SumsAlong d s (take place bs ++ false ∷ []) (take read xs ++ x ∷ []) l (Flag sum x)) (sym sums) more in
    let in_elements = subst (λ l. SumsAlong d s (take place bs ++ false ∷ []) l (take (read + 1) (set loop.sums read sum)) (Flag sum x)) (sym elements) in_sums in
    let in_flags = subst (λ l. SumsAlong d s l (take (read + 1) xs) (take (read + 1) (set loop.sums read sum)) (Flag sum x)) (sym flags) in_elements in
    let kept = to_z w128 (of_z w128 next) in
    let in_stage = subst (λ k. SumsAlong d s (take (place + 1) bs) (take (read + 1) xs) (take (read + 1) (set loop.sums read sum)) (Flag k x)) (sum_is ∙ sym next_is) in_flags in
    record {
      fewer = omega (arith, inv.fewer);
      shown = omega (arith, inv.shown, c.if-read-elements.false);
      held = refl;
      along = subst (λ n. SumsAlong d s (take (place + 1) bs) (take (read + 1) xs) (take (read + 1) (set loop.sums read sum)) (Flag kept n)) (sym last_is) in_stage;
    }
