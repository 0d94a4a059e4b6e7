use Rattle.std.proofs.Common.{◌≡◌, ◌∙◌, ◌++◌, ◌==◌, Bool, false, [], OnOk, ap, codes, if◌then◌else◌, length, subst, sym}
use Rattle.snesl_draw.specs.Texts.{legend_cells}
use Rattle.snesl_draw.proofs.Pieces.{three}
use Rattle.snesl_draw.proofs.dot.append_legend.Goals as goal

pub returns : goal.returns
returns c =
    let old = c.args.text.now.items in
    let cells = legend_cells c.args.edges.now in
    let a = codes "  label=<<table border=\"1\" cellborder=\"0\" color=\"#cccccc\"><tr>" in
    let z = codes "</tr></table>>; labelloc=b; labeljust=r;\n" in
    let some : (length c.args.edges.now == 0) ≡ false = sym c.is_empty.ensures ∙ c.if-is_empty.false in
    let made = ap (λ t. t ++ z) (c.in_ok-append_legend_cells.ensures ∙ ap (λ t. t ++ cells) c.in_ok-append_text.ensures)
    ∙ three old a cells z ∙ ap (λ (b : Bool). old ++ (if b then [] else a ++ cells ++ z)) (sym some) in
    subst (λ t. OnOk c.append_text-2.result (c.append_text-2.new.text.items ≡ t)) made c.append_text-2.ensures
