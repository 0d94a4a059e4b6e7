use Rattle.std.proofs.Common.{Ok, Vec, Global, ℕ, subst, ◌++◌, [], ap, ◌∙◌, append-nil, refl}
use Rattle.snesl_translation.specs.Wires.{Bound, stream_of}
use Rattle.snesl_translation.specs.Makings.{done}
use Rattle.snesl_translation.specs.Translation.{items_bound}
use Rattle.snesl_translator.specs.steps.Added.{Adds, HasMade}
use Rattle.snesl_translator.specs.steps.Views.{bindings_of, next_in, wires_of}
use Rattle.snesl_translator.specs.scopes.Scopes.{bound_of, names_in}
use Rattle.snesl_translator.proofs.OfSteps.Adding.{exits_first}
use Rattle.snesl_translator.specs.declared.steps.wires.Binding.{Binding}
use Rattle.snesl_translator.specs.declared.rows.Rows.{Rows}
use Rattle.snesl_translator.specs.Rows.{rows_of}
use Rattle.snesl_translator.proofs.Adding.{done_as, then_adds}
use Rattle.snesl_translator.proofs.Opening.{opened, same_opened, each_names, each_steps, each_units}
use Rattle.snesl_translator.proofs.rows.open_each.Goals as goal

pub returns-in_err-same_lengths : goal.returns-in_err-same_lengths
returns-in_err-same_lengths c =
    let names = names_in c.args.part.now in
    let bound = bound_of c.args.scope.now in
    let sources = bindings_of c.args.sources.now in
    subst (λ (f : ℕ). Adds rows_of c.args.steps.now c.same_lengths.new.steps (each_steps c.args.at names bound sources f (next_in c.args.steps.now))
    c.from_residual-in_err-same_lengths.result) c.flags_of_first-flags.ensures
    (exits_first (λ (x : Unit {0}). x) rows_of c.args.steps.now c.same_lengths.new.steps c.same_lengths.new.steps _ (λ _ k. each_names c.args.at names bound sources c.flags_of_first-flags.result k)
    c.in_err-same_lengths.field-0.0 c.from_residual-in_err-same_lengths.result c.from_residual-in_err-same_lengths.ensures c.in_err-same_lengths.ensures)

pub returns-in_err-outside : goal.returns-in_err-outside
returns-in_err-outside c =
    let names = names_in c.args.part.now in
    let bound = bound_of c.args.scope.now in
    let sources = bindings_of c.args.sources.now in
    let f = c.flags_of_first-flags.result in
    subst (λ (f : ℕ). Adds rows_of c.args.steps.now c.distribute_all.new.steps (each_steps c.args.at names bound sources f (next_in c.args.steps.now))
    c.from_residual-in_err-outside.result) c.flags_of_first-flags.ensures
    (then_adds rows_of c.distribute_all.new.steps (λ dialect _ k. each_names c.args.at names bound sources f k) c.from_residual-in_err-outside.result c.in_ok-same_lengths.ensures
    (exits_first (λ (bindings : Vec Binding Global). bindings_of bindings.items) rows_of c.same_lengths.new.steps c.distribute_all.new.steps
    c.distribute_all.new.steps _ (λ inner k. each_units c.args.at names bound sources f inner k)
    c.in_err-outside.field-0.0 c.from_residual-in_err-outside.result c.from_residual-in_err-outside.ensures c.in_err-outside.ensures))

pub returns-in_err-units : goal.returns-in_err-units
returns-in_err-units c =
    let names = names_in c.args.part.now in
    let bound = bound_of c.args.scope.now in
    let sources = bindings_of c.args.sources.now in
    let f = c.flags_of_first-flags.result in
    let inner = bindings_of c.in_ok-outside.outside.items in
    subst (λ (f : ℕ). Adds rows_of c.args.steps.now c.unit_for_each.new.steps (each_steps c.args.at names bound sources f (next_in c.args.steps.now))
    c.from_residual-in_err-units.result) c.flags_of_first-flags.ensures
    (then_adds rows_of c.unit_for_each.new.steps (λ dialect _ k. each_names c.args.at names bound sources f k) c.from_residual-in_err-units.result c.in_ok-same_lengths.ensures
    (then_adds rows_of c.unit_for_each.new.steps (λ dialect inner k. each_units c.args.at names bound sources f inner k) c.from_residual-in_err-units.result c.in_ok-outside.ensures
    (exits_first wires_of rows_of c.distribute_all.new.steps c.unit_for_each.new.steps c.unit_for_each.new.steps _ (λ w k. done (opened f (items_bound sources ++ inner) (stream_of w)) k)
    c.in_err-units.field-0.0 c.from_residual-in_err-units.result c.from_residual-in_err-units.ensures c.in_err-units.ensures)))

pub returns : goal.returns
returns c =
    let names = names_in c.args.part.now in
    let bound = bound_of c.args.scope.now in
    let sources = bindings_of c.args.sources.now in
    let f = c.flags_of_first-flags.result in
    let inner = bindings_of c.in_ok-outside.outside.items in
    let new = c.unit_for_each.new.steps in
    let rows : Rows = record { flags = f; items = c.in_ok-items.items; outside = c.in_ok-outside.outside; control = c.stream-control.result } in
    let bound_seen = ap (λ (l : Bound). l ++ (inner ++ [])) c.in_ok-items.ensures ∙ ap (λ l. items_bound sources ++ l) (append-nil inner) in
    subst (λ (f : ℕ). HasMade c.args.steps.now new (each_steps c.args.at names bound sources f (next_in c.args.steps.now)) (rows_of rows)) c.flags_of_first-flags.ensures
    (then_adds rows_of new (λ dialect _ k. each_names c.args.at names bound sources f k) (Ok rows) c.in_ok-same_lengths.ensures
    (then_adds rows_of new (λ dialect inner k. each_units c.args.at names bound sources f inner k) (Ok rows) c.in_ok-outside.ensures
    (then_adds rows_of new (λ dialect w k. done (opened f (items_bound sources ++ inner) (stream_of w)) k) (Ok rows) c.in_ok-units.ensures
    (done_as new (rows_of rows) (opened f (items_bound sources ++ inner) (stream_of (wires_of c.in_ok-units.units))) (same_opened refl bound_seen c.stream-control.ensures)))))
