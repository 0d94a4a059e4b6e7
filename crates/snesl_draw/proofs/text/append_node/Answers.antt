use Rattle.std.proofs.Common.{◌≡◌, ◌∙◌, ◌++◌, OnOk, ap, codes, flat_map, subst}
use Rattle.snesl_draw.specs.Texts.{node_head, read_by, written_by}
use Rattle.snesl_draw.proofs.Pieces.{four}
use Rattle.snesl_draw.proofs.text.append_node.Goals as goal

pub returns : goal.returns
returns c =
    let node = c.args.node in
    let reads = flat_map (read_by node.number) c.args.edges.now in
    let writes = flat_map (written_by node.number) c.args.edges.now in
    let end = codes "\n" in
    let read = c.in_ok-append_reads.ensures ∙ ap (λ t. t ++ reads) c.in_ok-append_head.ensures in
    let made = ap (λ t. t ++ end) (c.in_ok-append_writes.ensures ∙ ap (λ t. t ++ writes) read)
    ∙ four c.args.text.now.items (node_head c.args.program.now node) reads writes end in
    subst (λ t. OnOk c.append_text.result (c.append_text.new.text.items ≡ t)) made c.append_text.ensures
