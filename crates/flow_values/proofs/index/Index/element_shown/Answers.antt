use Rattle.std.proofs.Common.{◌≡◌, ◌<◌, ◌∷◌, [], pos, slice_index_or, length, sym, ◌∙◌, subst, rules}
use Rattle.std.proofs.lemmas.Int.{to_z-of_z}
use mir.Val.{SFits}
use mir.Syntax.{w64}
use mathlib.Core.List.{IsPrefix}
use Rattle.snesl_data.specs.Values.{elements_of}
use Rattle.flow_messages.specs.Blocks.{int_signals, item_signals}
use Rattle.flow_messages.specs.Cells.{int}
use Rattle.flow_messages.specs.Signals.{carry}
use Rattle.flow_messages.proofs.Blocks.{prefix_then}
use Rattle.flow_base.specs.Visits.{edge_of}
use Rattle.flow_values.proofs.IndexPairs.{first_index}
use Rattle.flow_values.proofs.index.Index.element_shown.Goals as goal

pub returns : goal.returns
returns g c =
    let coming = (g.E.Ends.view c.args.ends.now).coming (edge_of c.args.inputs.now 1) in
    let ns = c.ints-ints.result.now in
    let seen = prefix_then (int_signals ns) (item_signals c.shown.result) coming c.ints-ints.ensures c.shown.ensures in
    let some : 0 < length ns = search rules in
    let place = c.in-Some-place_of.place in
    let n = slice_index_or ns 0 (pos 0) in
    let fits : SFits w64 n = search rules in
    let is : n ≡ pos place = sym (to_z-of_z w64 n fits) ∙ c.in-Some-place_of.ensures in
    let scalar = c.in-Some-scalar_at.ensures in
    record {
      picked = record { vector = elements_of c.in-Some.all.now; index = pos place; element = scalar.element; of_type = sym c.if-not-are_elements.ensures; found = scalar.found };
      vector_next = c.in-Some.ensures;
      index_next = subst (λ n. IsPrefix (carry (int n) ∷ []) coming) is (first_index ns coming seen some);
      scalar = scalar.scalar;
      carries = scalar.carries;
    }
