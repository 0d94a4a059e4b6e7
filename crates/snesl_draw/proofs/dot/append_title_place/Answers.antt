use Rattle.std.proofs.Common.{◌≡◌, ◌∙◌, ◌++◌, OnOk, ap, codes, decimal, subst}
use Rattle.snesl_draw.specs.Texts.{beside_first}
use Rattle.snesl_draw.proofs.Pieces.{three}
use Rattle.snesl_draw.proofs.dot.append_title_place.Goals as goal

pub returns : goal.returns
returns c =
    let form = c.args.form in
    let made = ap (λ t. t ++ beside_first form) (c.in_ok-append_number.ensures ∙ ap (λ t. t ++ decimal form.at) c.in_ok-append_text.ensures)
    ∙ three c.args.text.now.items (codes "  {rank=same; f") (decimal form.at) (beside_first form) in
    subst (λ t. OnOk c.append_beside_first.result (c.append_beside_first.new.text.items ≡ t)) made c.append_beside_first.ensures
