use Rattle.std.proofs.Common.{◌≡◌, ◌++◌, ◌∷◌, ◌<◌, ◌+◌, ℕ, List, [], suc, map, take, sym, ap, subst, ◌∙◌, arith, append_assoc, append-nil}
use Rattle.std.proofs.Math.Path.{ap₂}
use Rattle.std.proofs.lemmas.List.{map_push, take_all}
use Rattle.std.specs.Arc.{arc_value}
use Rattle.snesl_data.specs.Types.{ty_of}
use Rattle.snesl_values.specs.Places.{value_at}
use Rattle.flow_base.specs.Columns.{columns}
use Rattle.flow_nodes.specs.inputs.Items.{items_from}
use Rattle.flow_nodes.specs.inputs.TextSources.{items_in}
use Rattle.flow_nodes.specs.inputs.Ways.{way_to, leaf_at}
use Rattle.flow_values.specs.Shapes.{kinds_of, kind_at}
use Rattle.flow_values.specs.Flats.{width, flat}
use Rattle.snesl_flatten.specs.Sources.{cells_in, source_kind, AreFresh}
use Rattle.snesl_flatten.proofs.InputSources.{column_more, kind_more, fresh_more, cells_of_edge, kind_of_edge}
use Rattle.snesl_flatten.proofs.inputs.add_sources.Goals as goal

pub loop-edge-init : goal.loop-edge-init
loop-edge-init c = record {
  fresh = c.requires.fresh;
  cells = sym (append-nil (map cells_in c.args.sources.now.items));
  kinds = sym (append-nil (map source_kind c.args.sources.now.items));
}

pub loop-edge-preserved : goal.loop-edge-preserved
loop-edge-preserved c =
    let t = ty_of c.args.ty.now in
    let text = (arc_value c.args.text.now).items in
    let place = c.args.place in
    let i = c.loop-edge.edge in
    let lists = flat t 0 (value_at text place ∷ []) in
    let start = c.args.sources.now.items in
    let old = c.loop-edge.sources.items in
    let source = c.in_ok-source.source in
    let lt : i < width t = omega (arith, c.loop-edge-test.true, c.edge_count-edge-end.ensures) in
    let kept : (arc_value c.in_ok-shared.shared).items ≡ text = ap (λ v. v.items) c.in_ok-shared.ensures.cases in
    let is : items_in source ≡ items_from text (way_to t i) (leaf_at t i) place = c.in_ok-source.ensures.items ∙ ap (λ (l : List ℕ). items_from l (way_to t i) (leaf_at t i) place) kept in
    let holds = c.text_holds_edges.ensures in
    let next : suc i ≡ i + 1 = omega arith in
    record {
      fresh = subst AreFresh (sym c.in_ok-push.ensures.items) (fresh_more old source c.loop-edge.invariant.fresh c.in_ok-source.ensures.opens);
      cells =
          ap (map cells_in) c.in_ok-push.ensures.items ∙ map_push cells_in old source
          ∙ ap₂ (λ l x. l ++ x ∷ []) c.loop-edge.invariant.cells (cells_of_edge holds.items holds.kinds text place t c.requires.placed i lt source is)
          ∙ append_assoc (map cells_in start) (columns i lists) (lists i ∷ [])
          ∙ ap (λ l. map cells_in start ++ l) (sym (column_more i lists) ∙ ap (λ n. columns n lists) next);
      kinds =
          ap (map source_kind) c.in_ok-push.ensures.items ∙ map_push source_kind old source
          ∙ ap₂ (λ l x. l ++ x ∷ []) c.loop-edge.invariant.kinds (kind_of_edge holds.items holds.kinds text place t c.requires.placed i lt source is)
          ∙ append_assoc (map source_kind start) (take i (kinds_of t)) (kind_at (kinds_of t) i ∷ [])
          ∙ ap (λ l. map source_kind start ++ l) (sym (kind_more (kinds_of t) i lt) ∙ ap (λ n. take n (kinds_of t)) next);
    }

pub returns-clause-cells : goal.returns-clause-cells
returns-clause-cells c =
    let t = ty_of c.args.ty.now in
    let lists = flat t 0 (value_at (arc_value c.args.text.now).items c.args.place ∷ []) in
    let ended : c.loop-edge.edge ≡ width t = omega (arith, c.edge_count-edge-end.ensures) in
    c.loop-edge.invariant.cells ∙ ap (λ n. map cells_in c.args.sources.now.items ++ columns n lists) ended

pub returns-clause-kinds : goal.returns-clause-kinds
returns-clause-kinds c =
    let t = ty_of c.args.ty.now in
    c.loop-edge.invariant.kinds ∙ ap (λ l. map source_kind c.args.sources.now.items ++ l) (take_all c.loop-edge.edge (kinds_of t) (omega (arith, c.edge_count-edge-end.ensures)))
