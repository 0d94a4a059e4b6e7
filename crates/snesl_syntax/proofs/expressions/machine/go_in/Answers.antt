use Rattle.snesl_syntax.proofs.OfExpressions.Piles.{frames_of-push}
use Rattle.snesl_syntax.proofs.expressions.machine.go_in.Goals as goal

pub returns : goal.returns
returns c = cc (frames_of-push c.args.forms.items c.args.form, c.in_ok-push.ensures.items)
