use Rattle.std.proofs.Common.{◌+◌, ◌∙◌, ap, arith, get_or, sym}
use Rattle.std.proofs.lemmas.List.Sums.{fold_more}
use Rattle.snesl_look.proofs.Declarations.{DeclarationSoFar, goes_on, restarts}
use Rattle.snesl_look.specs.Functions.{depth_after_byte}
use Rattle.snesl_look.proofs.functions.declaration_at.Goals as goal
use Rattle.snesl_look.proofs.functions.declaration_at.Goals.{then-text-place-eq59+then-depth-eq0+else-place-offset, else-text-place-eq59}
use Rattle.snesl_look.proofs.functions.declaration_at.Goals.{else-text-place-eq59-via-then-text-place-eq59+else-depth-eq0}
use Rattle.snesl_look.proofs.functions.declaration_at.Goals.{else-text-place-eq59-via-else-text-place-eq59}

pub loop-place-preserved : goal.loop-place-preserved
loop-place-preserved c =
    let text = c.args.text.now in
    let place = c.loop-place.place in
    let depth = c.loop-place.depth in
    let start = c.loop-place.start in
    let offset = c.args.offset in
    let known = c.loop-place.invariant in
    let so_far : DeclarationSoFar text offset start place = record {
      begins = known.begins;
      reached = known.reached;
      behind = known.behind;
      one = known.one;
    } in
    let next : DeclarationSoFar text offset c.if-text-place-eq59.start (place + 1) = elim c.if-text-place-eq59.branch [
      | then-text-place-eq59+then-depth-eq0+else-place-offset w ↦
          rw w.start-is (restarts text offset place depth c.loop-place-test.true w.if-place-offset.false known.deep w.if-text-place-eq59.true w.if-depth-eq0.true)
      | else-text-place-eq59 w ↦ rw w.start-is (goes_on text offset start place depth so_far known.deep (elim w.else-text-place-eq59.branch [
        | else-text-place-eq59-via-then-text-place-eq59+else-depth-eq0 v ↦ λ _ none. v.if-depth-eq0.false none
        | else-text-place-eq59-via-else-text-place-eq59 v ↦ λ is _. v.if-text-place-eq59.false is
      ]))
    ] in
    let behind = c.depth_after_byte-depth.ensures in
    record {
      deep = behind.depth ∙ ap (λ d. depth_after_byte d (get_or text place 0)) known.deep ∙ sym (fold_more depth_after_byte 0 text place 0 c.loop-place-test.true);
      few = omega (arith, behind.few, known.few);
      begins = next.begins;
      reached = next.reached;
      behind = next.behind;
      one = next.one;
    }
