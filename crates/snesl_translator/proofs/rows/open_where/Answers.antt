use Rattle.std.proofs.Common.{Ok, Err, Vec, Global, List, subst, ℕ, ◌++◌, [], ap, ◌∙◌, append-nil}
use Rattle.snesl_translation.specs.Wires.{stream_of}
use Rattle.snesl_translator.specs.steps.Views.{bindings_of, next_in, wires_of}
use Rattle.snesl_translator.specs.scopes.Scopes.{bound_of, names_in}
use Rattle.snesl_translator.proofs.OfSteps.Adding.{exits_first}
use Rattle.snesl_translator.specs.steps.Added.{Adds, HasMade}
use Rattle.snesl_translator.specs.declared.steps.wires.Binding.{Binding}
use Rattle.snesl_translation.specs.Translation.{units_step}
use Rattle.snesl_translator.specs.declared.rows.Rows.{Rows}
use Rattle.snesl_translator.specs.Rows.{rows_of}
use Rattle.snesl_translation.specs.Makings.{done}
use Rattle.snesl_translator.proofs.Adding.{done_as, then_adds}
use Rattle.snesl_translator.proofs.Opening.{opened, same_opened, where_names, where_units}
use Rattle.snesl_translator.proofs.rows.open_where.Goals as goal

pub returns-in_err-segments : goal.returns-in_err-segments
returns-in_err-segments c =
    let names = names_in c.args.part.now in
    let bound = bound_of c.args.scope.now in
    exits_first wires_of rows_of c.args.steps.now c.flags_of.new.steps c.flags_of.new.steps _ (where_names c.args.at names bound c.args.truths)
    c.in_err-segments.field-0.0 c.from_residual.result c.from_residual.ensures c.in_err-segments.ensures

pub returns-in_err-outside : goal.returns-in_err-outside
returns-in_err-outside c =
    let names = names_in c.args.part.now in
    let bound = bound_of c.args.scope.now in
    let f = wires_of c.in_ok-segments.segments in
    then_adds rows_of c.keep_all.new.steps (λ dialect f k. where_names c.args.at names bound c.args.truths f k) c.from_residual-in_err-outside.result c.in_ok-segments.ensures
    (exits_first (λ (bindings : Vec Binding Global). bindings_of bindings.items) rows_of c.flags_of.new.steps c.keep_all.new.steps
    c.keep_all.new.steps _ (λ inner k. where_units c.args.at names bound (stream_of f) inner k)
    c.in_err-outside.field-0.0 c.from_residual-in_err-outside.result c.from_residual-in_err-outside.ensures c.in_err-outside.ensures)

pub returns-in_err-units : goal.returns-in_err-units
returns-in_err-units c =
    let names = names_in c.args.part.now in
    let bound = bound_of c.args.scope.now in
    let f = wires_of c.in_ok-segments.segments in
    let inner = bindings_of c.in_ok-outside.outside.items in
    then_adds rows_of c.unit_for_each.new.steps (λ dialect f k. where_names c.args.at names bound c.args.truths f k) c.from_residual-in_err-units.result c.in_ok-segments.ensures
    (then_adds rows_of c.unit_for_each.new.steps (λ dialect inner k. where_units c.args.at names bound (stream_of f) inner k) c.from_residual-in_err-units.result c.in_ok-outside.ensures
    (exits_first wires_of rows_of c.keep_all.new.steps c.unit_for_each.new.steps c.unit_for_each.new.steps _ (λ w k. done (opened (stream_of f) inner (stream_of w)) k)
    c.in_err-units.field-0.0 c.from_residual-in_err-units.result c.from_residual-in_err-units.ensures
    (subst (λ (g : ℕ). Adds wires_of c.keep_all.new.steps c.unit_for_each.new.steps (units_step c.args.at g (next_in c.keep_all.new.steps))
    (Err c.in_err-units.field-0.0)) c.stream-flags.ensures c.in_err-units.ensures)))

pub returns : goal.returns
returns c =
    let names = names_in c.args.part.now in
    let bound = bound_of c.args.scope.now in
    let f = wires_of c.in_ok-segments.segments in
    let inner = bindings_of c.in_ok-outside.outside.items in
    let middle = c.keep_all.new.steps in
    let new = c.unit_for_each.new.steps in
    let units = wires_of c.in_ok-units.units in
    let rows : Rows = record { flags = c.stream-flags.result; items = c.new.result; outside = c.in_ok-outside.outside; control = c.stream-control.result } in
    let made = subst (λ (g : ℕ). HasMade middle new (units_step c.args.at g (next_in middle)) units) c.stream-flags.ensures c.in_ok-units.ensures in
    let bound_seen = ap (λ (l : List Binding). bindings_of l ++ (inner ++ [])) c.new.ensures.items ∙ append-nil inner in
    then_adds rows_of new (λ dialect f k. where_names c.args.at names bound c.args.truths f k) (Ok rows) c.in_ok-segments.ensures
    (then_adds rows_of new (λ dialect inner k. where_units c.args.at names bound (stream_of f) inner k) (Ok rows) c.in_ok-outside.ensures
    (then_adds rows_of new (λ dialect w k. done (opened (stream_of f) inner (stream_of w)) k) (Ok rows) made
    (done_as new (rows_of rows) (opened (stream_of f) inner (stream_of units)) (same_opened c.stream-flags.ensures bound_seen c.stream-control.ensures))))
