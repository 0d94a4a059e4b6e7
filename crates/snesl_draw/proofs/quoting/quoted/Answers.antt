use Rattle.std.proofs.Common.{◌∙◌, ap, arith, subst, sym}
use Rattle.std.proofs.lemmas.List.{take_all}
use Rattle.snesl_draw.specs.Quoting.{EndsWithText, quoted}
use Rattle.snesl_draw.proofs.Strings.{quoted_ends}
use Rattle.snesl_draw.proofs.quoting.quoted.Goals as goal

pub returns-clause-whole : goal.returns-clause-whole
returns-clause-whole c =
    let text = c.args.text.now in
    let all = take_all c.loop-byte.byte-index text (omega (arith, c.loop-byte-test.false)) in
    subst EndsWithText (sym (c.loop-byte.invariant ∙ ap quoted all)) (quoted_ends text)
