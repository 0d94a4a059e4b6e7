use Rattle.std.proofs.Common.{◌≡◌, ◌∙◌, ◌+◌, true, add-zero, ap, sym}
use Rattle.snesl_draw.specs.Forms.{is_closed}
use Rattle.snesl_draw.proofs.Pieces.{closed_here}
use Rattle.snesl_draw.proofs.forms.closed_len.Goals as goal

pub returns-then-is_closed : goal.returns-then-is_closed
returns-then-is_closed c =
    let loop = c.loop-byte in
    let closed : is_closed loop.depth loop.left ≡ true = sym c.is_closed.ensures ∙ c.if-is_closed.true in
    let none_left = closed_here c.args.text.now loop.byte-index loop.depth loop.left closed in
    loop.invariant.counted
    ∙ sym (loop.invariant.others ∙ ap (λ n. loop.byte-index + n) none_left ∙ add-zero loop.byte-index)
