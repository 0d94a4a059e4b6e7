use Rattle.std.proofs.Common.{◌≡◌, ◌∙◌, ◌++◌, OnOk, ap, codes, subst}
use Rattle.snesl_draw.specs.Words.{kind_colour}
use Rattle.snesl_draw.proofs.Pieces.{five}
use Rattle.snesl_draw.proofs.dot.append_kind_cell.Goals as goal

pub returns : goal.returns
returns c =
    let old = c.args.text.now.items in
    let a = codes "<td><font color=\"" in
    let b = codes "\">" in
    let z = codes "</font></td>" in
    let colour = c.kind_colour.result.now in
    let word = c.kind_word.result.now in
    let coloured = c.in_ok-append_text-3.ensures
    ∙ ap (λ t. t ++ b) (c.in_ok-append_text-2.ensures ∙ ap (λ t. t ++ colour) c.in_ok-append_text.ensures) in
    let made = ap (λ t. t ++ z) (c.in_ok-append_text-4.ensures ∙ ap (λ t. t ++ word) coloured)
    ∙ five old a colour b word z
    ∙ ap (λ x. old ++ (a ++ x ++ b ++ word ++ z)) c.kind_colour.ensures
    ∙ ap (λ x. old ++ (a ++ kind_colour c.args.kind ++ b ++ x ++ z)) c.kind_word.ensures in
    subst (λ t. OnOk c.append_text-5.result (c.append_text-5.new.text.items ≡ t)) made c.append_text-5.ensures
