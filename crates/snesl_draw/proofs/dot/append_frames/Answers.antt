use Rattle.snesl_draw.specs.Texts.{frame}
use Rattle.snesl_draw.proofs.Pieces.{one_more}
use Rattle.snesl_draw.proofs.dot.append_frames.Goals as goal

pub loop-form-preserved : goal.loop-form-preserved
loop-form-preserved c =
    one_more (frame c.args.program.now c.args.nodes.now) c.args.forms.now c.loop-form.form-index _ c.args.text.now.items c.loop-form.text.items
    c.append_frame.new.text.items c.loop-form-test.true c.loop-form.invariant c.in_ok-append_frame.ensures
