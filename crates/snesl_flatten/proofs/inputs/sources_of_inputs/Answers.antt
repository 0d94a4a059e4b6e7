use Rattle.std.proofs.Common.{◌≡◌, ◌+◌, ℕ, List, Some, suc, take, map, sym, subst, ◌∙◌, ap, arith}
use Rattle.std.proofs.lemmas.List.{length-map}
use Rattle.std.specs.Arc.{arc_value}
use Rattle.snesl_values.specs.Entries.{environment_at, AreSpelledAt}
use Rattle.snesl_values.specs.Inputs.{Environment, FitDeclarations, declared, declaration_of, dialect_of, environment_of, placed_in, text_in}
use Rattle.snesl_values.specs.Places.{value_at as spelled_at}
use Rattle.snesl_translation.specs.Programs.{columns_of}
use Rattle.snesl_flatten.specs.Sources.{all_kinds, cells_in, source_kind}
use Rattle.snesl_flatten.proofs.InputSources.{place_there, placed_there, value_there, width_within}
use Rattle.snesl_flatten.proofs.InputStreams.{value_at, declared_at, cells_added, kinds_added, columns_all}
use Rattle.snesl_flatten.proofs.inputs.sources_of_inputs.Goals as goal

pub unwrap-place-requires : goal.unwrap-place-requires
unwrap-place-requires c =
    let ds = declared c.args.declarations.now in
    let inputs = c.args.inputs.now in
    let i = c.loop-number.number in
    let placed = subst (λ l. AreSpelledAt (dialect_of inputs) (text_in inputs) l (placed_in inputs)) c.requires.declares c.inputs_are_placed.ensures.placed in
    let there = declared_at c.args.declarations.now i c.index-declarations-number.result c.loop-number-test.true c.index-declarations-number.is in
    place_there (dialect_of inputs) (text_in inputs) ds (placed_in inputs) placed i (declaration_of c.index-declarations-number.result) there c.place.result c.place.ensures

pub add_sources-requires-clause-placed : goal.add_sources-requires-clause-placed
add_sources-requires-clause-placed c =
    let ds = declared c.args.declarations.now in
    let inputs = c.args.inputs.now in
    let i = c.loop-number.number in
    let placed = subst (λ l. AreSpelledAt (dialect_of inputs) (text_in inputs) l (placed_in inputs)) c.requires.declares c.inputs_are_placed.ensures.placed in
    let kept = subst (λ (t : List ℕ). AreSpelledAt (dialect_of inputs) t ds (placed_in inputs)) (sym c.text.ensures) placed in
    let there = declared_at c.args.declarations.now i c.index-declarations-number.result c.loop-number-test.true c.index-declarations-number.is in (
      dialect_of inputs,
      placed_there (dialect_of inputs) (arc_value c.text.result.now).items ds (placed_in inputs) kept i
          (declaration_of c.index-declarations-number.result) there c.unwrap-place.result (sym c.unwrap-place.ensures ∙ c.place.ensures),
    )

pub add_sources-requires-clause-fits : goal.add_sources-requires-clause-fits
add_sources-requires-clause-fits c =
    let ds = declared c.args.declarations.now in
    let i = c.loop-number.number in
    let there = declared_at c.args.declarations.now i c.index-declarations-number.result c.loop-number-test.true c.index-declarations-number.is in
    omega (arith, width_within ds i (declaration_of c.index-declarations-number.result) there, c.requires.fits)

pub loop-number-preserved : goal.loop-number-preserved
loop-number-preserved c =
    let ds = declared c.args.declarations.now in
    let inputs = c.args.inputs.now in
    let es = environment_of inputs in
    let i = c.loop-number.number in
    let n = c.unwrap-place.result in
    let text = (arc_value c.text.result.now).items in
    let d = declaration_of c.index-declarations-number.result in
    let fits = subst (λ l. FitDeclarations (dialect_of inputs) l es) c.requires.declares c.inputs_fit.ensures in
    let placed = subst (λ l. AreSpelledAt (dialect_of inputs) (text_in inputs) l (placed_in inputs)) c.requires.declares c.inputs_are_placed.ensures.placed in
    let kept = subst (λ (t : List ℕ). AreSpelledAt (dialect_of inputs) t ds (placed_in inputs)) (sym c.text.ensures) placed in
    let there = declared_at c.args.declarations.now i c.index-declarations-number.result c.loop-number-test.true c.index-declarations-number.is in
    let known = value_there (dialect_of inputs) text ds (placed_in inputs) kept i d there n (sym c.unwrap-place.ensures ∙ c.place.ensures) in
    let all : environment_at text (placed_in inputs) ≡ es = ap (λ (t : List ℕ). environment_at t (placed_in inputs)) c.text.ensures ∙ sym c.inputs_are_placed.ensures.environment in
    let value = subst (λ (es : Environment). value_at es i ≡ Some (spelled_at text n)) all known in
    let next : suc i ≡ i + 1 = omega arith in
    record {
      fresh = c.in_ok-add_sources.ensures.fresh;
      cells =
          c.in_ok-add_sources.ensures.cells
          ∙ cells_added (dialect_of inputs) ds es fits i d there (spelled_at text n) value (map cells_in c.loop-number.sources.items) c.loop-number.invariant.cells
          ∙ ap (λ n. columns_of (take n ds) (take n es)) next;
      kinds =
          c.in_ok-add_sources.ensures.kinds
          ∙ kinds_added ds i d there (map source_kind c.loop-number.sources.items) c.loop-number.invariant.kinds
          ∙ ap (λ n. all_kinds (take n ds)) next;
    }

pub returns-clause-cells : goal.returns-clause-cells
returns-clause-cells c =
    let ds = declared c.args.declarations.now in
    let inputs = c.args.inputs.now in
    let fits = subst (λ l. FitDeclarations (dialect_of inputs) l (environment_of inputs)) c.requires.declares c.inputs_fit.ensures in
    let all = length-map c.args.declarations.now declaration_of in
    c.loop-number.invariant.cells ∙ columns_all (dialect_of inputs) ds (environment_of inputs) c.loop-number.number fits (omega (arith, all))
