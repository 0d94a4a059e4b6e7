-- A network as a text, and as a picture in DOT.
use Rattle.std.specs.Prelude.{ℕ, ◌++◌, ◌==◌, List, [], ◌∷◌, Bool, true, false, Option, Some, None, codes, decimal, flat_map, length, if◌then◌else◌}
use Rattle.std.specs.List.{list_any}
use Rattle.flow_messages.specs.declared.message.Kind.{Kind}
use Rattle.flow_messages.specs.declared.message.Kind.TheVariants as kind
use Rattle.snesl_draw.specs.Forms.{has_form}
use Rattle.snesl_draw.specs.Lines.{edge_label, form_title, line_and_column, node_title, width_of}
use Rattle.snesl_draw.specs.Words.{is_kind, kind_colour, kind_word}
use Rattle.snesl_draw.specs.declared.drawing.Drawing.{Drawing}
use Rattle.snesl_draw.specs.declared.drawing.DrawnEdge.{DrawnEdge}
use Rattle.snesl_draw.specs.declared.drawing.DrawnForm.{DrawnForm}
use Rattle.snesl_draw.specs.declared.drawing.DrawnNode.{DrawnNode}

-- an edge that ends in a node: ` <- `, where it begins, and what goes over it
abbrev pub read_by : ℕ → DrawnEdge → List ℕ
read_by number edge =
    if edge.edge.reader == number then codes " <- " ++ decimal edge.edge.writer ++ codes " " ++ edge_label edge else []

-- an edge that begins in a node: ` -> `, where it ends, and what goes over it
abbrev pub written_by : ℕ → DrawnEdge → List ℕ
written_by number edge =
    if edge.edge.writer == number then codes " -> " ++ decimal edge.edge.reader ++ codes " " ++ edge_label edge else []

-- a node's title and its place
abbrev pub node_head : List ℕ → DrawnNode → List ℕ
node_head program node = node_title program node ++ codes " " ++ line_and_column program node.at

-- a node's line: its title, its place, the edges that it reads, and those that it writes
abbrev pub node_text : List ℕ → List DrawnEdge → DrawnNode → List ℕ
node_text program edges node =
    node_head program node ++ flat_map (read_by node.number) edges ++ flat_map (written_by node.number) edges ++ codes "\n"

-- a line for each node
abbrev pub network_text : List ℕ → Drawing → List ℕ
network_text program drawing = flat_map (node_text program drawing.edges.items) drawing.nodes.items

-- a node in DOT
abbrev pub node_line : List ℕ → DrawnNode → List ℕ
node_line program node = codes "  n" ++ decimal node.number ++ codes " [label=\"" ++ node_title program node ++ codes "\"];\n"

-- where none of the forms is its own, it stands free
abbrev pub free_node : List ℕ → List DrawnForm → DrawnNode → List ℕ
free_node program forms node = if has_form forms node.at then [] else node_line program node

-- where it comes from this form, it stands in its frame
abbrev pub node_of_form : List ℕ → ℕ → DrawnNode → List ℕ
node_of_form program at node = if node.at == at then node_line program node else []

-- that a form's title stands beside the first of its nodes
abbrev pub beside_first : DrawnForm → List ℕ
beside_first form = codes "; n" ++ decimal form.first ++ codes "}\n"

abbrev pub title_place : DrawnForm → List ℕ
title_place form = codes "  {rank=same; f" ++ decimal form.at ++ beside_first form

-- its title, which is a node to DOT
abbrev pub title_line : List ℕ → DrawnForm → List ℕ
title_line program form =
    codes "  f" ++ decimal form.at ++ codes " [shape=plaintext, style=\"\", width=0, margin=\"0.05,0\", label=\""
    ++ form_title program form ++ codes "\"];\n"

-- the beginning of a form's frame, with its title beside the first of its nodes, where no edge crosses it
abbrev pub frame_head : List ℕ → DrawnForm → List ℕ
frame_head program form =
    codes "  subgraph cluster_" ++ decimal form.at ++ codes " {\n  color=\"#cccccc\"; bgcolor=\"#f4f4f4\";\n"
    ++ title_line program form ++ title_place form

-- the nodes outside all frames
abbrev pub outside : List ℕ → List DrawnForm → List DrawnNode → List ℕ
outside program forms nodes = flat_map (free_node program forms) nodes

-- those that come from this form
abbrev pub form_nodes : List ℕ → ℕ → List DrawnNode → List ℕ
form_nodes program at nodes = flat_map (node_of_form program at) nodes

-- the nodes of a form, in a frame
abbrev pub frame : List ℕ → List DrawnNode → DrawnForm → List ℕ
frame program nodes form = frame_head program form ++ form_nodes program form.at nodes ++ codes "  }\n"

-- the frames of all forms, with their nodes
abbrev pub framed : List ℕ → List DrawnNode → List DrawnForm → List ℕ
framed program nodes forms = flat_map (frame program nodes) forms

-- an arrow of DOT, from the writer of an edge to its reader
abbrev pub arrow : DrawnEdge → List ℕ
arrow edge = codes "  n" ++ decimal edge.edge.writer ++ codes " -> n" ++ decimal edge.edge.reader

-- how many messages went over an edge, in a colour, and how thick it is for them
abbrev pub traffic_part : List ℕ → Option ℕ → List ℕ
traffic_part colour None = []
traffic_part colour (Some messages) =
    codes ", label=\" " ++ decimal messages ++ codes "\", fontcolor=\"" ++ colour ++ codes "\", penwidth=" ++ decimal (width_of messages)

-- an edge in DOT, in the colour of its kind
abbrev pub edge_line : DrawnEdge → List ℕ
edge_line edge =
    arrow edge ++ codes " [color=\"" ++ kind_colour edge.kind ++ codes "\"" ++ traffic_part (kind_colour edge.kind) edge.messages ++ codes "];\n"

-- what a kind is called, in its colour
abbrev pub kind_cell : Kind → List ℕ
kind_cell k = codes "<td><font color=\"" ++ kind_colour k ++ codes "\">" ++ kind_word k ++ codes "</font></td>"

-- where some edge is of that kind
abbrev pub legend_cell : List DrawnEdge → Kind → List ℕ
legend_cell edges k = if list_any (λ edge. is_kind k edge.kind) edges then kind_cell k else []

abbrev pub legend_cells : List DrawnEdge → List ℕ
legend_cells edges =
    legend_cell edges kind.Unit ++ legend_cell edges kind.Bool ++ legend_cell edges kind.Int ++ legend_cell edges kind.Vec

-- the colours of the kinds that edges are of, in a corner, if there are edges
abbrev pub legend : List DrawnEdge → List ℕ
legend edges =
    if length edges == 0 then [] else codes "  label=<<table border=\"1\" cellborder=\"0\" color=\"#cccccc\"><tr>"
    ++ legend_cells edges ++ codes "</tr></table>>; labelloc=b; labeljust=r;\n"

-- the settings of the picture
abbrev pub head : List ℕ
head =
    codes "digraph network {\n"
    ++ codes "  newrank=true; nodesep=0.25; ranksep=0.3; fontname=\"Helvetica\"; fontsize=10; bgcolor=white;\n"
    ++ codes "  node [shape=box, style=\"rounded,filled\", fillcolor=white, height=0.25, margin=\"0.08,0.04\",\n"
    ++ codes "    fontname=\"Helvetica\", fontsize=10];\n"
    ++ codes "  edge [arrowsize=0.6, fontname=\"Helvetica\", fontsize=8];\n"

-- the nodes that stand free, the frames of the forms, the edges, and the legend
abbrev pub network_dot : List ℕ → Drawing → List ℕ
network_dot program drawing =
    head ++ outside program drawing.forms.items drawing.nodes.items ++ framed program drawing.nodes.items drawing.forms.items
    ++ flat_map edge_line drawing.edges.items ++ legend drawing.edges.items ++ codes "}\n"
