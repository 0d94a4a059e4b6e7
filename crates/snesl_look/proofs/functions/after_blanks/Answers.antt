use Rattle.std.proofs.Common.{◌∙◌, ap, drop}
use Rattle.snesl_look.proofs.Offsets.{rest_is}
use Rattle.snesl_look.proofs.functions.after_blanks.Goals as goal

pub returns : goal.returns
returns c = let text = c.args.text.now in rest_is text c.blanks_len.result ∙ ap (λ n. drop n text) c.blanks_len.ensures.count
