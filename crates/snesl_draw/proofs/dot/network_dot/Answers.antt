use Rattle.std.proofs.Common.{◌∙◌, ◌++◌, ap, codes, flat_map}
use Rattle.snesl_draw.specs.Texts.{edge_line, framed, head, legend, outside}
use Rattle.snesl_draw.proofs.dot.network_dot.Goals as goal

pub returns : goal.returns
returns c =
    let program = c.args.program.now in
    let nodes = c.args.drawing.now.nodes.items in
    let edges = c.args.drawing.now.edges.items in
    let forms = c.args.drawing.now.forms.items in
    let head_is = c.in_ok-append_text.ensures ∙ ap (λ t. t ++ head) c.new-text.ensures.items in
    let free_are = c.in_ok-append_free.ensures
    ∙ ap (λ t. t ++ outside program c.deref.result.now c.deref-2.result.now) head_is
    ∙ ap (λ fs. head ++ outside program fs c.deref-2.result.now) c.deref.ensures.value
    ∙ ap (λ ns. head ++ outside program forms ns) c.deref-2.ensures.value in
    let free = head ++ outside program forms nodes in
    let frames_are = c.in_ok-append_frames.ensures
    ∙ ap (λ t. t ++ framed program c.deref-3.result.now c.deref-4.result.now) free_are
    ∙ ap (λ ns. free ++ framed program ns c.deref-4.result.now) c.deref-3.ensures.value
    ∙ ap (λ fs. free ++ framed program nodes fs) c.deref-4.ensures.value in
    let framed = free ++ framed program nodes forms in
    let edges_are = c.in_ok-append_edges.ensures ∙ ap (λ t. t ++ flat_map edge_line c.deref-5.result.now) frames_are
    ∙ ap (λ es. framed ++ flat_map edge_line es) c.deref-5.ensures.value in
    let drawn = framed ++ flat_map edge_line edges in
    let legend_is = c.in_ok-append_legend.ensures ∙ ap (λ t. t ++ legend c.deref-6.result.now) edges_are
    ∙ ap (λ es. drawn ++ legend es) c.deref-6.ensures.value in
    c.in_ok-append_text-2.ensures ∙ ap (λ t. t ++ codes "}\n") legend_is
