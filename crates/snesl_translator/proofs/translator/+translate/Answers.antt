use Rattle.std.proofs.Common.{ℕ, true, List, [], ◌∷◌, ◌++◌, map, Ok, Err, Vec, Global, arith, sym, ap, subst, ◌∙◌}
use denote.Param.Weighed.{at_most, most}
use Rattle.flow_nodes.specs.plans.Plans.{const}
use Rattle.snesl_data.specs.declared.dialect.Dialect.{Dialect}
use Rattle.snesl_data.specs.Types.{bool}
use Rattle.snesl_data.specs.declared.operators.scalar.Scalar.TheVariants.{Bool as Truth}
use Rattle.snesl_grammar.specs.tree.Spelling.{spelling}
use Rattle.snesl_grammar.specs.tree.Tree.{Tree, Binders, apply, always, binding, call, choice, each, filter, literal, only_where}
use Rattle.snesl_grammar.specs.tree.View.{tree_of, trees_of, binders_of}
use Rattle.snesl_grammar.specs.declared.tree.expr.Expr.{Expr, Each, size-Expr}
use Rattle.snesl_grammar.specs.declared.tree.expr.Binder.{Binder}
use Rattle.snesl_grammar.specs.declared.tree.operator.Prefix.TheVariants.{Not}
use Rattle.snesl_grammar.proofs.OfTree.Arguments.{tree_of-Call, tree_of-Apply, tree_of-Literal, binders_row}
use Rattle.snesl_translation.specs.FreeNames.{Names, free, without_binders}
use Rattle.snesl_translation.specs.Makings.{Making, done, and_then, stepped}
use Rattle.snesl_translation.specs.Wires.{Bound, Wires as WiresOf, segments, stream_of, two}
use Rattle.snesl_translation.specs.Translation.{appended, binary_streams, call_streams, concatenated, filtered, prefix_streams, single, tr}
use Rattle.snesl_translator.specs.steps.Added.{Adds, HasMade}
use Rattle.snesl_translator.specs.steps.Views.{binding_of, bindings_of, dialect_of_steps, next_in, wires_of}
use Rattle.snesl_translator.specs.declared.steps.wires.Binding.{Binding}
use Rattle.snesl_translator.specs.declared.steps.wires.Wires.{Wires}
use Rattle.snesl_translator.proofs.OfSteps.Adding.{done_made, exits, exits_first, refused_first, then_done}
use Rattle.snesl_translator.specs.scopes.Scopes.{bound_of}
use Rattle.snesl_translator.specs.Rows.{each_opened, rows_of, where_opened}
use Rattle.snesl_translator.specs.Translated.{always_true, bodies_in, body_in, each_behind, filtered_in, further_in, joined, single_in, translated, where_after, where_in}
use Rattle.snesl_translator.proofs.Expressions.{tr_in}
use Rattle.snesl_translator.proofs.Adding.{item_made, item_refused, items_made, none_made, then_adds}
use Rattle.snesl_translator.proofs.Listed.{argument_in, arguments_listed, source_in, sources_listed}
use Rattle.snesl_translator.proofs.Bindings.{bound_seen}
use Rattle.snesl_translator.proofs.Literals.{all_after, item_after, item_not_after, literal_listed}
use Rattle.snesl_translator.proofs.Makings.{in_turn, one_in_turn}
use Rattle.snesl_translator.proofs.Opening.{each_opens, each_rest, where_opens}
use Rattle.snesl_translator.proofs.translator.+translate.Goals as goal

-- operators and pairs

pub binary_form-returns-in_err-u : goal.binary_form-returns-in_err-u
binary_form-returns-in_err-u t c =
    exits_first wires_of wires_of c.args.steps.now c.translate.new.steps c.translate.new.steps _ _ c.in_err-u.field-0.0 c.from_residual.result c.from_residual.ensures c.in_err-u.ensures

pub binary_form-returns-in_err-v : goal.binary_form-returns-in_err-v
binary_form-returns-in_err-v t c =
    let new = c.translate-2.new.steps in
    then_adds wires_of new
    (λ d u k. and_then (tr_in d c.args.context.now c.args.scope.now (tree_of c.args.right.now) c.args.control k)
    (λ v k. binary_streams d c.args.at c.args.operator u v k)) c.from_residual-in_err-v.result c.in_ok-u.ensures
    (exits_first wires_of wires_of c.translate.new.steps new new _ _ c.in_err-v.field-0.0 c.from_residual-in_err-v.result c.from_residual-in_err-v.ensures c.in_err-v.ensures)

pub binary_form-returns : goal.binary_form-returns
binary_form-returns t c =
    let new = c.apply_operator.new.steps in
    then_adds wires_of new
    (λ d u k. and_then (tr_in d c.args.context.now c.args.scope.now (tree_of c.args.right.now) c.args.control k)
    (λ v k. binary_streams d c.args.at c.args.operator u v k)) c.apply_operator.result c.in_ok-u.ensures
    (then_adds wires_of new (λ d v k. binary_streams d c.args.at c.args.operator (wires_of c.in_ok-u.u) v k) c.apply_operator.result c.in_ok-v.ensures c.apply_operator.ensures)

pub prefix_form-returns-in_err-u : goal.prefix_form-returns-in_err-u
prefix_form-returns-in_err-u t c =
    exits_first wires_of wires_of c.args.steps.now c.translate.new.steps c.translate.new.steps _ _ c.in_err-u.field-0.0 c.from_residual.result c.from_residual.ensures c.in_err-u.ensures

pub prefix_form-returns : goal.prefix_form-returns
prefix_form-returns t c =
    then_adds wires_of c.apply_prefix.new.steps (λ d u k. prefix_streams d c.args.at c.args.operator u k) c.apply_prefix.result c.in_ok-u.ensures c.apply_prefix.ensures

pub pair_form-returns-in_err-u : goal.pair_form-returns-in_err-u
pair_form-returns-in_err-u t c =
    exits_first wires_of wires_of c.args.steps.now c.translate.new.steps c.translate.new.steps _ _ c.in_err-u.field-0.0 c.from_residual.result c.from_residual.ensures c.in_err-u.ensures

pub pair_form-returns-in_err-v : goal.pair_form-returns-in_err-v
pair_form-returns-in_err-v t c =
    let context = c.args.context.now in
    let scope = c.args.scope.now in
    let new = c.translate-2.new.steps in
    then_adds wires_of new (λ d u k. and_then (tr_in d context scope (tree_of c.args.second.now) c.args.control k) (λ v k. done (two u v) k)) c.from_residual-in_err-v.result c.in_ok-u.ensures
    (exits_first wires_of wires_of c.translate.new.steps new new _ _ c.in_err-v.field-0.0 c.from_residual-in_err-v.result c.from_residual-in_err-v.ensures c.in_err-v.ensures)

pub pair_form-returns : goal.pair_form-returns
pair_form-returns t c =
    let new = c.paired.new.steps in
    then_adds wires_of new
    (λ d u k. and_then (tr_in d c.args.context.now c.args.scope.now (tree_of c.args.second.now) c.args.control k) (λ v k. done (two u v) k)) c.paired.result c.in_ok-u.ensures
    (then_adds wires_of new (λ d v k. done (two (wires_of c.in_ok-u.u) v) k) c.paired.result c.in_ok-v.ensures c.paired.ensures)

-- bindings

pub let_form-returns-in_err-u : goal.let_form-returns-in_err-u
let_form-returns-in_err-u t c =
    exits_first wires_of wires_of c.args.steps.now c.translate.new.steps c.translate.new.steps _ _ c.in_err-u.field-0.0 c.from_residual.result c.from_residual.ensures c.in_err-u.ensures

pub let_form-returns : goal.let_form-returns
let_form-returns t c =
    let context = c.args.context.now in
    let text = context.text.now in
    let bound = bound_of c.args.scope.now in
    let middle = c.translate.new.steps in
    let new = c.in_frame.new.steps in
    let u = wires_of c.in_ok-u.u in
    let frame = ap bindings_of c.deref.ensures.value ∙ c.in_ok-frame.ensures ∙ ap (λ name. (name, u) ∷ []) c.spelled.ensures in
    then_adds wires_of new (λ d u k. tr d text (bodies_in d context) (tree_of c.args.body.now) ((spelling text c.args.name, u) ∷ bound) c.args.control k) c.in_frame.result c.in_ok-u.ensures
    (subst (λ (l : Bound). Adds wires_of middle new
    (tr (dialect_of_steps middle) text (bodies_in (dialect_of_steps middle) context) (tree_of c.args.body.now) (l ++ bound) c.args.control
    (next_in middle)) c.in_frame.result)
    frame c.in_frame.ensures)

-- what runs for some instances only

pub otherwise-returns-in_err-e : goal.otherwise-returns-in_err-e
otherwise-returns-in_err-e t c =
    exits_first wires_of wires_of c.args.steps.now c.apply_prefix.new.steps c.apply_prefix.new.steps _ _ c.in_err-e.field-0.0 c.from_residual.result c.from_residual.ensures c.in_err-e.ensures

pub otherwise-returns : goal.otherwise-returns
otherwise-returns t c =
    let context = c.args.context.now in
    let scope = c.args.scope.now in
    let item = tree_of c.args.item.now in
    let middle = c.apply_prefix.new.steps in
    let new = c.filtered.new.steps in
    then_adds wires_of new (λ d e k. filtered_in d context scope c.args.at item (stream_of e) k) c.filtered.result c.in_ok-e.ensures
    (subst (λ (n : ℕ). Adds wires_of middle new (filtered_in (dialect_of_steps middle) context scope c.args.at item n (next_in middle)) c.filtered.result) c.stream.ensures c.filtered.ensures)

-- the true constant, of which single's definition takes the stream
abbrev trues : (at control next : ℕ) → Making WiresOf
trues at control next = stepped at (const (Truth true)) (control ∷ []) bool next

pub single-returns-in_err-truths : goal.single-returns-in_err-truths
single-returns-in_err-truths t c =
    let old = c.args.steps.now in
    let new = c.always_true.new.steps in
    let rest : ℕ → ℕ → Making WiresOf = λ n k. filtered_in (dialect_of_steps old) c.args.context.now c.args.scope.now c.args.at (tree_of c.args.item.now) n k in
    subst (λ (m : Making WiresOf). Adds wires_of old new m c.from_residual.result) (one_in_turn (trues c.args.at c.args.control (next_in old)) stream_of rest)
    (exits_first (λ (n : ℕ). n) wires_of old new new (always_true c.args.at c.args.control (next_in old)) rest c.in_err-truths.field-0.0
    c.from_residual.result c.from_residual.ensures c.in_err-truths.ensures)

pub single-returns : goal.single-returns
single-returns t c =
    let old = c.args.steps.now in
    let new = c.filtered.new.steps in
    let rest : Dialect → ℕ → ℕ → Making WiresOf = λ d n k. filtered_in d c.args.context.now c.args.scope.now c.args.at (tree_of c.args.item.now) n k in
    subst (λ (m : Making WiresOf). Adds wires_of old new m c.filtered.result) (one_in_turn (trues c.args.at c.args.control (next_in old)) stream_of (rest (dialect_of_steps old)))
    (then_adds wires_of new rest c.filtered.result c.in_ok-truths.ensures c.filtered.ensures)

pub filter_form-returns-in_err-d : goal.filter_form-returns-in_err-d
filter_form-returns-in_err-d t c =
    exits_first wires_of wires_of c.args.steps.now c.translate.new.steps c.translate.new.steps _ _ c.in_err-d.field-0.0 c.from_residual.result c.from_residual.ensures c.in_err-d.ensures

pub filter_form-returns : goal.filter_form-returns
filter_form-returns t c =
    let context = c.args.context.now in
    let scope = c.args.scope.now in
    let item = tree_of c.args.item.now in
    let middle = c.translate.new.steps in
    let new = c.filtered.new.steps in
    then_adds wires_of new (λ d e k. filtered_in d context scope c.args.at item (stream_of e) k) c.filtered.result c.in_ok-d.ensures
    (subst (λ (n : ℕ). Adds wires_of middle new (filtered_in (dialect_of_steps middle) context scope c.args.at item n (next_in middle)) c.filtered.result) c.stream.ensures c.filtered.ensures)

pub if_form-returns-in_err-d : goal.if_form-returns-in_err-d
if_form-returns-in_err-d t c =
    exits_first wires_of wires_of c.args.steps.now c.translate.new.steps c.translate.new.steps _ _ c.in_err-d.field-0.0 c.from_residual.result c.from_residual.ensures c.in_err-d.ensures

pub if_form-returns-in_err-u : goal.if_form-returns-in_err-u
if_form-returns-in_err-u t c =
    let context = c.args.context.now in
    let scope = c.args.scope.now in
    let at = c.args.at in
    let positive = tree_of c.args.positive.now in
    let negative = tree_of c.args.negative.now in
    let middle = c.translate.new.steps in
    let new = c.filtered.new.steps in
    then_adds wires_of new (λ d e k.
    and_then (filtered_in d context scope at positive (stream_of e) k) (λ u k.
    and_then (prefix_streams d at Not e k) (λ e k. and_then (filtered_in d context scope at negative (stream_of e) k) (λ v k. joined at u v k)))) c.from_residual-in_err-u.result c.in_ok-d.ensures
    (exits_first wires_of wires_of middle new new _ _ c.in_err-u.field-0.0 c.from_residual-in_err-u.result c.from_residual-in_err-u.ensures
    (subst (λ (n : ℕ). Adds wires_of middle new (filtered_in (dialect_of_steps middle) context scope at positive n (next_in middle)) (Err c.in_err-u.field-0.0)) c.stream.ensures c.in_err-u.ensures))

pub if_form-returns-in_err-v : goal.if_form-returns-in_err-v
if_form-returns-in_err-v t c =
    let context = c.args.context.now in
    let scope = c.args.scope.now in
    let at = c.args.at in
    let positive = tree_of c.args.positive.now in
    let negative = tree_of c.args.negative.now in
    let first = c.translate.new.steps in
    let second = c.filtered.new.steps in
    let new = c.otherwise.new.steps in
    let w = wires_of c.in_ok-d.d in
    let u = wires_of c.in_ok-u.u in
    let result = c.from_residual-in_err-v.result in
    let flip : Making WiresOf = prefix_streams (dialect_of_steps second) at Not w (next_in second) in
    let other = λ (e : WiresOf) (k : ℕ). filtered_in (dialect_of_steps second) context scope at negative (stream_of e) k in
    let join = λ (v : WiresOf) (k : ℕ). joined at u v k in
    then_adds wires_of new (λ d e k.
    and_then (filtered_in d context scope at positive (stream_of e) k) (λ u k.
    and_then (prefix_streams d at Not e k) (λ e k. and_then (filtered_in d context scope at negative (stream_of e) k) (λ v k. joined at u v k)))) result c.in_ok-d.ensures
    (then_adds wires_of new (λ d u k. and_then (prefix_streams d at Not w k) (λ e k. and_then (filtered_in d context scope at negative (stream_of e) k) (λ v k. joined at u v k))) result
    (subst (λ (n : ℕ). HasMade first second (filtered_in (dialect_of_steps first) context scope at positive n (next_in first)) u) c.stream.ensures c.in_ok-u.ensures)
    (subst (λ (m : Making WiresOf). Adds wires_of second new m result) (in_turn flip other join)
    (exits_first wires_of wires_of second new new (and_then flip other) join c.in_err-v.field-0.0 result c.from_residual-in_err-v.ensures c.in_err-v.ensures)))

pub if_form-returns : goal.if_form-returns
if_form-returns t c =
    let context = c.args.context.now in
    let scope = c.args.scope.now in
    let at = c.args.at in
    let positive = tree_of c.args.positive.now in
    let negative = tree_of c.args.negative.now in
    let first = c.translate.new.steps in
    let second = c.filtered.new.steps in
    let new = c.one_of.new.steps in
    let w = wires_of c.in_ok-d.d in
    let u = wires_of c.in_ok-u.u in
    let result = c.one_of.result in
    let flip : Making WiresOf = prefix_streams (dialect_of_steps second) at Not w (next_in second) in
    let other = λ (e : WiresOf) (k : ℕ). filtered_in (dialect_of_steps second) context scope at negative (stream_of e) k in
    let join = λ (v : WiresOf) (k : ℕ). joined at u v k in
    then_adds wires_of new (λ d e k.
    and_then (filtered_in d context scope at positive (stream_of e) k) (λ u k.
    and_then (prefix_streams d at Not e k) (λ e k. and_then (filtered_in d context scope at negative (stream_of e) k) (λ v k. joined at u v k)))) result c.in_ok-d.ensures
    (then_adds wires_of new (λ d u k. and_then (prefix_streams d at Not w k) (λ e k. and_then (filtered_in d context scope at negative (stream_of e) k) (λ v k. joined at u v k))) result
    (subst (λ (n : ℕ). HasMade first second (filtered_in (dialect_of_steps first) context scope at positive n (next_in first)) u) c.stream.ensures c.in_ok-u.ensures)
    (subst (λ (m : Making WiresOf). Adds wires_of second new m result) (in_turn flip other join)
    (then_adds wires_of new (λ d v k. joined at u v k) result c.in_ok-v.ensures c.one_of.ensures)))

pub filtered-returns-in_err-rows : goal.filtered-returns-in_err-rows
filtered-returns-in_err-rows t c =
    let context = c.args.context.now in
    let text = context.text.now in
    let bound = bound_of c.args.scope.now in
    let item = tree_of c.args.item.now in
    let old = c.args.steps.now in
    let d = dialect_of_steps old in
    let new = c.open_where.new.steps in
    let result = c.from_residual.result in
    let inside = λ (b : Bound) (control k : ℕ). tr d text (bodies_in d context) item b control k in
    subst (λ (m : Making WiresOf). Adds wires_of old new m result) (where_opens c.args.at (free text item) inside bound c.args.truths (next_in old))
    (exits_first rows_of wires_of old new new (where_opened c.args.at (free text item) bound c.args.truths (next_in old))
    (λ rows k. body_in d context rows item k) c.in_err-rows.field-0.0 result c.from_residual.ensures
    (subst (λ (names : Names). Adds rows_of old new (where_opened c.args.at names bound c.args.truths (next_in old)) (Err c.in_err-rows.field-0.0)) c.part_of-part.ensures c.in_err-rows.ensures))

pub filtered-returns : goal.filtered-returns
filtered-returns t c =
    let context = c.args.context.now in
    let text = context.text.now in
    let bound = bound_of c.args.scope.now in
    let item = tree_of c.args.item.now in
    let old = c.args.steps.now in
    let d = dialect_of_steps old in
    let new = c.in_rows.new.steps in
    let result = c.in_rows.result in
    let inside = λ (b : Bound) (control k : ℕ). tr d text (bodies_in d context) item b control k in
    subst (λ (m : Making WiresOf). Adds wires_of old new m result) (where_opens c.args.at (free text item) inside bound c.args.truths (next_in old))
    (then_adds wires_of new (λ d rows k. body_in d context rows item k) result
    (subst (λ (names : Names). HasMade old c.open_where.new.steps (where_opened c.args.at names bound c.args.truths (next_in old))
    (rows_of c.in_ok-rows.rows)) c.part_of-part.ensures c.in_ok-rows.ensures)
    c.in_rows.ensures)

-- calls

pub built_in-returns-in_err-us : goal.built_in-returns-in_err-us
built_in-returns-in_err-us t c =
    exits_first (λ (us : Vec Wires Global). map wires_of us.items) wires_of c.args.steps.now c.all_translated.new.steps c.all_translated.new.steps _ _
    c.in_err-us.field-0.0 c.from_residual.result c.from_residual.ensures c.in_err-us.ensures

pub built_in-returns : goal.built_in-returns
built_in-returns t c =
    let middle = c.all_translated.new.steps in
    let new = c.apply_built_in.new.steps in
    then_adds wires_of new (λ d us k. call_streams d c.args.at c.args.function us k) c.apply_built_in.result c.in_ok-us.ensures
    (subst (λ (l : List Wires). Adds wires_of middle new
    (call_streams (dialect_of_steps middle) c.args.at c.args.function (map wires_of l) (next_in middle)) c.apply_built_in.result)
    c.deref.ensures.value c.apply_built_in.ensures)

pub call_form-returns-in_err-us : goal.call_form-returns-in_err-us
call_form-returns-in_err-us t c =
    exits_first (λ (us : Vec Wires Global). map wires_of us.items) wires_of c.args.steps.now c.all_translated.new.steps c.all_translated.new.steps _ _
    c.in_err-us.field-0.0 c.from_residual.result c.from_residual.ensures c.in_err-us.ensures

pub call_form-returns : goal.call_form-returns
call_form-returns t c =
    let context = c.args.context.now in
    let function = c.args.function in
    let name = spelling context.text.now function in
    let middle = c.all_translated.new.steps in
    let new = c.called.new.steps in
    then_adds wires_of new (λ d us k. bodies_in d context function.at name us c.args.control k) c.called.result c.in_ok-us.ensures
    (subst (λ (l : List Wires). Adds wires_of middle new
    (bodies_in (dialect_of_steps middle) context function.at name (map wires_of l) c.args.control (next_in middle)) c.called.result)
    c.deref.ensures.value c.called.ensures)

-- literals

pub literal_form-returns-in_err-sequence-in-Some : goal.literal_form-returns-in_err-sequence-in-Some
literal_form-returns-in_err-sequence-in-Some t c =
    let context = c.args.context.now in
    let scope = c.args.scope.now in
    let at = c.args.at in
    let control = c.args.control in
    let old = c.args.steps.now in
    let new = c.single.new.steps in
    let d = dialect_of_steps old in
    let others = c.in-Some.others.now in
    let result = c.from_residual.result in
    subst (λ (l : List Expr). Adds wires_of old new (tr_in d context scope (literal at (trees_of l)) control (next_in old)) result) (sym c.in-Some.ensures.cases.0)
    (subst (λ (m : Making WiresOf). Adds wires_of old new m result) (literal_listed d context scope at control c.in-Some.first.now others (next_in old))
    (exits_first wires_of wires_of old new new _ (λ u k. further_in d context scope at u (trees_of others) control k)
    c.in_err-sequence-in-Some.field-0.0 result c.from_residual.ensures c.in_err-sequence-in-Some.ensures))

pub literal_form-returns-in_ok-sequence-in-Some : goal.literal_form-returns-in_ok-sequence-in-Some
literal_form-returns-in_ok-sequence-in-Some t c =
    let context = c.args.context.now in
    let scope = c.args.scope.now in
    let at = c.args.at in
    let control = c.args.control in
    let old = c.args.steps.now in
    let new = c.further.new.steps in
    let d = dialect_of_steps old in
    let others = c.in-Some.others.now in
    let result = c.further.result in
    subst (λ (l : List Expr). Adds wires_of old new (tr_in d context scope (literal at (trees_of l)) control (next_in old)) result) (sym c.in-Some.ensures.cases.0)
    (subst (λ (m : Making WiresOf). Adds wires_of old new m result) (literal_listed d context scope at control c.in-Some.first.now others (next_in old))
    (then_adds wires_of new (λ d u k. further_in d context scope at u (trees_of others) control k) result c.in_ok-sequence-in-Some.ensures c.further.ensures))

pub literal_form-further-requires : goal.literal_form-further-requires
literal_form-further-requires t c =
    let whole = ap (λ (l : List Expr). most size-Expr l) c.in-Some.ensures.cases.0 in
    (omega (arith, whole), tt)

pub further-single-requires : goal.further-single-requires
further-single-requires t c =
    let here = ap (λ (x : Expr). size-Expr x) c.item-item.is in
    let within = at_most size-Expr c.args.items.now c.loop-item.item-index c.item-item.result c.loop-item-test.true in
    (omega (arith, here, within), tt)

pub further-loop-item-init : goal.further-loop-item-init
further-loop-item-init t c = done_made c.args.steps.now (wires_of c.args.sequence)

pub further-loop-item-preserved : goal.further-loop-item-preserved
further-loop-item-preserved t c =
    item_after c.args.context.now c.args.scope.now c.args.at c.args.control (wires_of c.args.sequence) (wires_of c.loop-item.all)
    (wires_of c.in_ok-last.last) (wires_of c.in_ok-all.all) c.args.items.now c.loop-item.item-index c.item-item.result
    c.loop-item-test.true c.item-item.is c.loop-item.invariant c.in_ok-last.ensures c.in_ok-all.ensures

pub further-returns-in_err-last : goal.further-returns-in_err-last
further-returns-in_err-last t c =
    let context = c.args.context.now in
    let scope = c.args.scope.now in
    let at = c.args.at in
    let control = c.args.control in
    let middle = c.loop-item.steps in
    let new = c.single.new.steps in
    let refusal = c.in_err-last.field-0.0 in
    exits wires_of c.args.steps.now new _ refusal c.from_residual.result c.from_residual.ensures
    (item_not_after context scope at control new (wires_of c.args.sequence) (wires_of c.loop-item.all) c.args.items.now c.loop-item.item-index
    c.item-item.result refusal c.loop-item-test.true c.item-item.is c.loop-item.invariant
    (refused_first wires_of wires_of middle new new
    (single_in (dialect_of_steps middle) context scope at (tree_of c.item-item.result) control (next_in middle))
    (λ v k. appended at (wires_of c.loop-item.all) v k) refusal c.in_err-last.ensures))

pub further-returns-in_err-all : goal.further-returns-in_err-all
further-returns-in_err-all t c =
    let at = c.args.at in
    let all = wires_of c.loop-item.all in
    let new = c.append.new.steps in
    let refusal = c.in_err-all.field-0.0 in
    exits wires_of c.args.steps.now new _ refusal c.from_residual-in_err-all.result c.from_residual-in_err-all.ensures
    (item_not_after c.args.context.now c.args.scope.now at c.args.control new (wires_of c.args.sequence) all c.args.items.now c.loop-item.item-index c.item-item.result refusal
    c.loop-item-test.true c.item-item.is c.loop-item.invariant
    (then_adds wires_of new (λ d v k. appended at all v k) (Err refusal) c.in_ok-last.ensures c.in_err-all.ensures))

pub further-returns : goal.further-returns
further-returns t c =
    all_after c.args.context.now c.args.scope.now c.args.at c.args.control (wires_of c.args.sequence) (wires_of c.loop-item.all) c.args.items.now
    c.loop-item.item-index c.loop-item-test.false c.loop-item.invariant

-- comprehensions

pub each_form-returns-in_err-sources : goal.each_form-returns-in_err-sources
each_form-returns-in_err-sources t c =
    exits_first (λ (sources : Vec Binding Global). bindings_of sources.items) wires_of c.args.steps.now c.all_sources.new.steps
    c.all_sources.new.steps _ _ c.in_err-sources.field-0.0 c.from_residual.result c.from_residual.ensures c.in_err-sources.ensures

pub each_form-returns : goal.each_form-returns
each_form-returns t c =
    let context = c.args.context.now in
    let text = context.text.now in
    let scope = c.args.scope.now in
    let at = c.args.at in
    let body = tree_of c.args.body.now in
    let binders = binders_of c.args.binders.now in
    let names = without_binders text binders (free text body) in
    let first = c.all_sources.new.steps in
    let d = dialect_of_steps first in
    let sources = bindings_of c.in_ok-sources.sources.items in
    let new = c.each_over.new.steps in
    let result = c.each_over.result in
    then_adds wires_of new (λ d sources k. each_rest at names (bound_of scope) sources (λ rows k. body_in d context rows body k) k) result c.in_ok-sources.ensures
    (subst (λ (m : Making WiresOf). Adds wires_of first new m result) (each_opens at names (bound_of scope) sources (λ rows k. body_in d context rows body k) (next_in first))
    (subst (λ (l : List Binding). Adds wires_of first new (each_behind d context scope at (bindings_of l) body binders (next_in first)) result) c.deref.ensures.value c.each_over.ensures))

pub each_over-returns-in_err-rows : goal.each_over-returns-in_err-rows
each_over-returns-in_err-rows t c =
    let context = c.args.context.now in
    let text = context.text.now in
    let at = c.args.at in
    let bound = bound_of c.args.scope.now in
    let body = tree_of c.args.body.now in
    let names = without_binders text (binders_of c.args.binders.now) (free text body) in
    let first = c.args.steps.now in
    let d = dialect_of_steps first in
    let sources = bindings_of c.args.sources.now in
    let new = c.open_each.new.steps in
    exits_first rows_of wires_of first new new (each_opened at names sources bound (next_in first)) (λ rows k. body_in d context rows body k)
    c.in_err-rows.field-0.0 c.from_residual.result c.from_residual.ensures
    (subst (λ (ns : Names). Adds rows_of first new (each_opened at ns sources bound (next_in first)) (Err c.in_err-rows.field-0.0)) c.part_of-part.ensures c.in_err-rows.ensures)

pub each_over-returns : goal.each_over-returns
each_over-returns t c =
    let at = c.args.at in
    let bound = bound_of c.args.scope.now in
    let body = tree_of c.args.body.now in
    let first = c.args.steps.now in
    let sources = bindings_of c.args.sources.now in
    then_adds wires_of c.in_rows.new.steps (λ d rows k. body_in d c.args.context.now rows body k) c.in_rows.result
    (subst (λ (ns : Names). HasMade first c.open_each.new.steps (each_opened at ns sources bound (next_in first)) (rows_of c.in_ok-rows.rows)) c.part_of-part.ensures c.in_ok-rows.ensures)
    c.in_rows.ensures

pub each_where-returns-in_err-sources : goal.each_where-returns-in_err-sources
each_where-returns-in_err-sources t c =
    exits_first (λ (sources : Vec Binding Global). bindings_of sources.items) wires_of c.args.steps.now c.all_sources.new.steps
    c.all_sources.new.steps _ _ c.in_err-sources.field-0.0 c.from_residual.result c.from_residual.ensures c.in_err-sources.ensures

pub each_where-returns : goal.each_where-returns
each_where-returns t c =
    let context = c.args.context.now in
    let text = context.text.now in
    let scope = c.args.scope.now in
    let at = c.args.at in
    let body = tree_of c.args.body.now in
    let condition = tree_of c.args.condition.now in
    let binders = binders_of c.args.binders.now in
    let names = without_binders text binders (free text condition ++ free text body) in
    let first = c.all_sources.new.steps in
    let d = dialect_of_steps first in
    let sources = bindings_of c.in_ok-sources.sources.items in
    let new = c.where_over.new.steps in
    let result = c.where_over.result in
    then_adds wires_of new (λ d sources k. each_rest at names (bound_of scope) sources (λ rows k. where_in d context rows at body condition k) k) result c.in_ok-sources.ensures
    (subst (λ (m : Making WiresOf). Adds wires_of first new m result) (each_opens at names (bound_of scope) sources (λ rows k. where_in d context rows at body condition k) (next_in first))
    (subst (λ (l : List Binding). Adds wires_of first new (where_after d context scope at (bindings_of l) body condition binders (next_in first)) result) c.deref.ensures.value c.where_over.ensures))

pub where_over-returns-in_err-rows : goal.where_over-returns-in_err-rows
where_over-returns-in_err-rows t c =
    let context = c.args.context.now in
    let text = context.text.now in
    let at = c.args.at in
    let bound = bound_of c.args.scope.now in
    let body = tree_of c.args.body.now in
    let condition = tree_of c.args.condition.now in
    let names = without_binders text (binders_of c.args.binders.now) (free text condition ++ free text body) in
    let first = c.args.steps.now in
    let d = dialect_of_steps first in
    let sources = bindings_of c.args.sources.now in
    let new = c.open_each.new.steps in
    exits_first rows_of wires_of first new new (each_opened at names sources bound (next_in first))
    (λ rows k. where_in d context rows at body condition k) c.in_err-rows.field-0.0 c.from_residual.result c.from_residual.ensures
    (subst (λ (ns : Names). Adds rows_of first new (each_opened at ns sources bound (next_in first)) (Err c.in_err-rows.field-0.0)) c.part_where-part.ensures c.in_err-rows.ensures)

pub where_over-returns : goal.where_over-returns
where_over-returns t c =
    let at = c.args.at in
    let bound = bound_of c.args.scope.now in
    let body = tree_of c.args.body.now in
    let condition = tree_of c.args.condition.now in
    let first = c.args.steps.now in
    let sources = bindings_of c.args.sources.now in
    then_adds wires_of c.where_true.new.steps (λ d rows k. where_in d c.args.context.now rows at body condition k) c.where_true.result
    (subst (λ (ns : Names). HasMade first c.open_each.new.steps (each_opened at ns sources bound (next_in first)) (rows_of c.in_ok-rows.rows)) c.part_where-part.ensures c.in_ok-rows.ensures)
    c.where_true.ensures

pub in_rows-returns-in_err-w : goal.in_rows-returns-in_err-w
in_rows-returns-in_err-w t c =
    let context = c.args.context.now in
    let text = context.text.now in
    let rows = c.args.rows.now in
    let body = tree_of c.args.body.now in
    let old = c.args.steps.now in
    let d = dialect_of_steps old in
    let first = c.translate.new.steps in
    let seen = bound_seen rows.items.items rows.outside.items c.deref-2.ensures.value c.deref.ensures.value in
    exits_first wires_of wires_of old first first _ (λ w k. done (segments rows.flags w) k) c.in_err-w.field-0.0 c.from_residual.result c.from_residual.ensures
    (subst (λ (b : Bound). Adds wires_of old first (tr d text (bodies_in d context) body b rows.control (next_in old)) (Err c.in_err-w.field-0.0)) seen c.in_err-w.ensures)

pub in_rows-returns-in_err-all : goal.in_rows-returns-in_err-all
in_rows-returns-in_err-all t c =
    let context = c.args.context.now in
    let text = context.text.now in
    let rows = c.args.rows.now in
    let body = tree_of c.args.body.now in
    let old = c.args.steps.now in
    let d = dialect_of_steps old in
    let first = c.translate.new.steps in
    let seen = bound_seen rows.items.items rows.outside.items c.deref-2.ensures.value c.deref.ensures.value in
    let new = c.sequence.new.steps in
    let result = c.from_residual-in_err-all.result in
    then_adds wires_of new (λ d w k. done (segments rows.flags w) k) result
    (subst (λ (b : Bound). HasMade old first (tr d text (bodies_in d context) body b rows.control (next_in old)) (wires_of c.in_ok-w.w)) seen c.in_ok-w.ensures)
    (exits wires_of first new (done (segments rows.flags (wires_of c.in_ok-w.w)) (next_in first)) c.in_err-all.field-0.0 result c.from_residual-in_err-all.ensures c.in_err-all.ensures)

pub in_rows-returns : goal.in_rows-returns
in_rows-returns t c =
    let context = c.args.context.now in
    let text = context.text.now in
    let rows = c.args.rows.now in
    let body = tree_of c.args.body.now in
    let old = c.args.steps.now in
    let d = dialect_of_steps old in
    let seen = bound_seen rows.items.items rows.outside.items c.deref-2.ensures.value c.deref.ensures.value in
    then_adds wires_of c.sequence.new.steps (λ d w k. done (segments rows.flags w) k) (Ok c.in_ok-all.all)
    (subst (λ (b : Bound). HasMade old c.translate.new.steps (tr d text (bodies_in d context) body b rows.control (next_in old)) (wires_of c.in_ok-w.w)) seen c.in_ok-w.ensures)
    c.in_ok-all.ensures

pub where_true-returns-in_err-d : goal.where_true-returns-in_err-d
where_true-returns-in_err-d t c =
    let context = c.args.context.now in
    let text = context.text.now in
    let rows = c.args.rows.now in
    let body = tree_of c.args.body.now in
    let condition = tree_of c.args.condition.now in
    let at = c.args.at in
    let bound = (rows_of rows).bound in
    let old = c.args.steps.now in
    let d = dialect_of_steps old in
    let first = c.translate.new.steps in
    let seen = bound_seen rows.items.items rows.outside.items c.deref-2.ensures.value c.deref.ensures.value in
    exits_first wires_of wires_of old first first _
    (λ w k. and_then (filtered at (free text body) (λ b c n. tr d text (bodies_in d context) body b c n) bound (stream_of w) k)
    (λ w k. concatenated at (segments rows.flags w) k)) c.in_err-d.field-0.0 c.from_residual.result c.from_residual.ensures
    (subst (λ (b : Bound). Adds wires_of old first (tr d text (bodies_in d context) condition b rows.control (next_in old)) (Err c.in_err-d.field-0.0)) seen c.in_err-d.ensures)

pub where_true-returns-in_err-w : goal.where_true-returns-in_err-w
where_true-returns-in_err-w t c =
    let context = c.args.context.now in
    let text = context.text.now in
    let rows = c.args.rows.now in
    let body = tree_of c.args.body.now in
    let condition = tree_of c.args.condition.now in
    let at = c.args.at in
    let bound = (rows_of rows).bound in
    let old = c.args.steps.now in
    let d = dialect_of_steps old in
    let first = c.translate.new.steps in
    let seen = bound_seen rows.items.items rows.outside.items c.deref-2.ensures.value c.deref.ensures.value in
    let second = c.filtered.new.steps in
    let e = dialect_of_steps first in
    let inside = λ (b : Bound) (control k : ℕ). tr e text (bodies_in e context) body b control k in
    let result = c.from_residual-in_err-w.result in
    then_adds wires_of second
    (λ d w k. and_then (filtered at (free text body) (λ b c n. tr d text (bodies_in d context) body b c n) bound (stream_of w) k)
    (λ w k. concatenated at (segments rows.flags w) k)) result
    (subst (λ (b : Bound). HasMade old first (tr d text (bodies_in d context) condition b rows.control (next_in old)) (wires_of c.in_ok-d.d)) seen c.in_ok-d.ensures)
    (exits_first wires_of wires_of first second second _ (λ w k. concatenated at (segments rows.flags w) k) c.in_err-w.field-0.0 result c.from_residual-in_err-w.ensures
    (subst (λ (n : ℕ). Adds wires_of first second (filtered at (free text body) inside bound n (next_in first)) (Err c.in_err-w.field-0.0)) c.stream.ensures
    (subst (λ (b : Bound). Adds wires_of first second (filtered at (free text body) inside b c.stream.result (next_in first)) (Err c.in_err-w.field-0.0)) seen c.in_err-w.ensures)))

pub where_true-returns-in_err-all : goal.where_true-returns-in_err-all
where_true-returns-in_err-all t c =
    let context = c.args.context.now in
    let text = context.text.now in
    let rows = c.args.rows.now in
    let body = tree_of c.args.body.now in
    let condition = tree_of c.args.condition.now in
    let at = c.args.at in
    let bound = (rows_of rows).bound in
    let old = c.args.steps.now in
    let d = dialect_of_steps old in
    let first = c.translate.new.steps in
    let seen = bound_seen rows.items.items rows.outside.items c.deref-2.ensures.value c.deref.ensures.value in
    let second = c.filtered.new.steps in
    let e = dialect_of_steps first in
    let inside = λ (b : Bound) (control k : ℕ). tr e text (bodies_in e context) body b control k in
    let new = c.flat.new.steps in
    let result = c.from_residual-in_err-all.result in
    then_adds wires_of new
    (λ d w k. and_then (filtered at (free text body) (λ b c n. tr d text (bodies_in d context) body b c n) bound (stream_of w) k)
    (λ w k. concatenated at (segments rows.flags w) k)) result
    (subst (λ (b : Bound). HasMade old first (tr d text (bodies_in d context) condition b rows.control (next_in old)) (wires_of c.in_ok-d.d)) seen c.in_ok-d.ensures)
    (then_adds wires_of new (λ d w k. concatenated at (segments rows.flags w) k) result
    (subst (λ (n : ℕ). HasMade first second (filtered at (free text body) inside bound n (next_in first)) (wires_of c.in_ok-w.w)) c.stream.ensures
    (subst (λ (b : Bound). HasMade first second (filtered at (free text body) inside b c.stream.result (next_in first)) (wires_of c.in_ok-w.w)) seen c.in_ok-w.ensures))
    (exits wires_of second new (concatenated at (segments rows.flags (wires_of c.in_ok-w.w)) (next_in second)) c.in_err-all.field-0.0 result c.from_residual-in_err-all.ensures c.in_err-all.ensures))

pub where_true-returns : goal.where_true-returns
where_true-returns t c =
    let context = c.args.context.now in
    let text = context.text.now in
    let rows = c.args.rows.now in
    let body = tree_of c.args.body.now in
    let condition = tree_of c.args.condition.now in
    let at = c.args.at in
    let bound = (rows_of rows).bound in
    let old = c.args.steps.now in
    let d = dialect_of_steps old in
    let first = c.translate.new.steps in
    let seen = bound_seen rows.items.items rows.outside.items c.deref-2.ensures.value c.deref.ensures.value in
    let second = c.filtered.new.steps in
    let e = dialect_of_steps first in
    let inside = λ (b : Bound) (control k : ℕ). tr e text (bodies_in e context) body b control k in
    let new = c.flat.new.steps in
    then_adds wires_of new
    (λ d w k. and_then (filtered at (free text body) (λ b c n. tr d text (bodies_in d context) body b c n) bound (stream_of w) k)
    (λ w k. concatenated at (segments rows.flags w) k)) (Ok c.in_ok-all.all)
    (subst (λ (b : Bound). HasMade old first (tr d text (bodies_in d context) condition b rows.control (next_in old)) (wires_of c.in_ok-d.d)) seen c.in_ok-d.ensures)
    (then_adds wires_of new (λ d w k. concatenated at (segments rows.flags w) k) (Ok c.in_ok-all.all)
    (subst (λ (n : ℕ). HasMade first second (filtered at (free text body) inside bound n (next_in first)) (wires_of c.in_ok-w.w)) c.stream.ensures
    (subst (λ (b : Bound). HasMade first second (filtered at (free text body) inside b c.stream.result (next_in first)) (wires_of c.in_ok-w.w)) seen c.in_ok-w.ensures))
    c.in_ok-all.ensures)

-- lists

pub all_translated-loop-expr-init : goal.all_translated-loop-expr-init
all_translated-loop-expr-init t c =
    none_made c.args.steps.now (argument_in (dialect_of_steps c.args.steps.now) c.args.context.now c.args.scope.now c.args.control) c.args.exprs.now
    wires_of c.new-us.result.items c.new-us.ensures.items

pub all_translated-loop-expr-preserved : goal.all_translated-loop-expr-preserved
all_translated-loop-expr-preserved t c =
    let one = λ (d : Dialect) (expr : Expr) (k : ℕ). argument_in d c.args.context.now c.args.scope.now c.args.control expr k in
    item_made one wires_of c.args.exprs.now c.loop-expr.expr-index c.expr-item.result c.loop-expr.us.items c.push.new.self.items c.in_ok-u.u
    c.loop-expr-test.true c.expr-item.is c.in_ok-push.ensures.items c.loop-expr.invariant c.in_ok-u.ensures

pub all_translated-returns-in_err-u : goal.all_translated-returns-in_err-u
all_translated-returns-in_err-u t c =
    let context = c.args.context.now in
    let scope = c.args.scope.now in
    let control = c.args.control in
    let old = c.args.steps.now in
    let new = c.translate.new.steps in
    let refusal = c.in_err-u.field-0.0 in
    let given = λ (us : Vec Wires Global). map wires_of us.items in
    let one = λ (d : Dialect) (x : Expr) (k : ℕ). argument_in d context scope control x k in
    let listed = arguments_listed (dialect_of_steps old) context scope control c.args.exprs.now (next_in old) in
    exits given old new _ refusal c.from_residual.result c.from_residual.ensures
    (subst (λ (m : Making (List WiresOf)). Adds given old new m (Err refusal)) listed
    (item_refused wires_of given new one c.args.exprs.now c.loop-expr.expr-index c.expr-item.result (map wires_of c.loop-expr.us.items) refusal
    c.loop-expr-test.true c.expr-item.is c.loop-expr.invariant c.in_err-u.ensures))

pub all_translated-returns : goal.all_translated-returns
all_translated-returns t c =
    let old = c.args.steps.now in
    let new = c.loop-expr.steps in
    let us = map wires_of c.loop-expr.us.items in
    let one = argument_in (dialect_of_steps old) c.args.context.now c.args.scope.now c.args.control in
    subst (λ (m : Making (List WiresOf)). HasMade old new m us) (arguments_listed (dialect_of_steps old) c.args.context.now c.args.scope.now c.args.control c.args.exprs.now (next_in old))
    (items_made one c.args.exprs.now c.loop-expr.expr-index us c.loop-expr-test.false c.loop-expr.invariant)

pub all_sources-loop-binder-init : goal.all_sources-loop-binder-init
all_sources-loop-binder-init t c =
    none_made c.args.steps.now (source_in (dialect_of_steps c.args.steps.now) c.args.context.now c.args.scope.now c.args.control) c.args.binders.now
    binding_of c.new-sources.result.items c.new-sources.ensures.items

pub all_sources-loop-binder-preserved : goal.all_sources-loop-binder-preserved
all_sources-loop-binder-preserved t c =
    let context = c.args.context.now in
    let scope = c.args.scope.now in
    let control = c.args.control in
    let middle = c.loop-binder.steps in
    let new = c.translate.new.steps in
    let binder = c.binder-item.result in
    let u = wires_of c.in_ok-wires.wires in
    let bound : Binding = record { name = c.spelled-name.result; wires = c.in_ok-wires.wires } in
    let one = λ (d : Dialect) (binder : Binder) (k : ℕ). source_in d context scope control binder k in
    let source : Making WiresOf = tr_in (dialect_of_steps middle) context scope (tree_of binder.source) control (next_in middle) in
    item_made one binding_of c.args.binders.now c.loop-binder.binder-index binder c.loop-binder.sources.items c.push.new.self.items bound
    c.loop-binder-test.true c.binder-item.is c.in_ok-push.ensures.items c.loop-binder.invariant
    (subst (λ (name : List ℕ). HasMade middle new (source_in (dialect_of_steps middle) context scope control binder (next_in middle)) (name, u)) (sym c.spelled-name.ensures)
    (then_done middle new source (λ u. (spelling context.text.now binder.name, u)) u c.in_ok-wires.ensures))

pub all_sources-returns-in_err-wires : goal.all_sources-returns-in_err-wires
all_sources-returns-in_err-wires t c =
    let context = c.args.context.now in
    let scope = c.args.scope.now in
    let control = c.args.control in
    let old = c.args.steps.now in
    let new = c.translate.new.steps in
    let refusal = c.in_err-wires.field-0.0 in
    let given = λ (sources : Vec Binding Global). bindings_of sources.items in
    let one = λ (d : Dialect) (x : Binder) (k : ℕ). source_in d context scope control x k in
    let listed = sources_listed (dialect_of_steps old) context scope control c.args.binders.now (next_in old) in
    exits given old new _ refusal c.from_residual.result c.from_residual.ensures
    (subst (λ (m : Making (List (List ℕ × WiresOf))). Adds given old new m (Err refusal)) listed
    (item_refused binding_of given new one c.args.binders.now c.loop-binder.binder-index c.binder-item.result
    (bindings_of c.loop-binder.sources.items) refusal c.loop-binder-test.true c.binder-item.is c.loop-binder.invariant
    (refused_first wires_of binding_of c.loop-binder.steps new new
    (tr_in (dialect_of_steps c.loop-binder.steps) context scope (tree_of c.binder-item.result.source) control (next_in c.loop-binder.steps))
    (λ u k. done (spelling context.text.now c.binder-item.result.name, u) k) refusal c.in_err-wires.ensures)))

pub all_sources-returns : goal.all_sources-returns
all_sources-returns t c =
    let old = c.args.steps.now in
    let new = c.loop-binder.steps in
    let us = bindings_of c.loop-binder.sources.items in
    let one = source_in (dialect_of_steps old) c.args.context.now c.args.scope.now c.args.control in
    subst (λ (m : Making Bound). HasMade old new m us) (sources_listed (dialect_of_steps old) c.args.context.now c.args.scope.now c.args.control c.args.binders.now (next_in old))
    (items_made one c.args.binders.now c.loop-binder.binder-index us c.loop-binder-test.false c.loop-binder.invariant)

-- the forms

pub translate-returns-in-Let : goal.translate-returns-in-Let
translate-returns-in-Let t c =
    let form = λ (tree : Tree). translated c.args.steps.now c.args.context.now c.args.scope.now tree c.args.control in
    let let' = λ (value body : Expr). form (binding c.in-Let.at c.in-Let.name (tree_of value) (tree_of body)) in
    let e =
    ap (λ (expr : Expr). form (tree_of expr)) c.in-Let.is
    ∙ ap (λ (value : Expr). let' value c.in-Let.body.value) (sym c.deref-in-Let.ensures)
    ∙ ap (λ (body : Expr). let' c.deref-in-Let.result.now body) (sym c.deref-in-Let-2.ensures) in
    subst (λ (m : Making WiresOf). Adds wires_of c.args.steps.now c.let_form.new.steps m c.let_form.result) (sym e) c.let_form.ensures

pub translate-returns-in-If : goal.translate-returns-in-If
translate-returns-in-If t c =
    let form = λ (tree : Tree). translated c.args.steps.now c.args.context.now c.args.scope.now tree c.args.control in
    let if' = λ (condition positive negative : Expr). form (choice c.in-If.at (tree_of condition) (tree_of positive) (tree_of negative)) in
    let e =
    ap (λ (expr : Expr). form (tree_of expr)) c.in-If.is
    ∙ ap (λ (condition : Expr). if' condition c.in-If.positive.value c.in-If.negative.value) (sym c.deref-in-If.ensures)
    ∙ ap (λ (positive : Expr). if' c.deref-in-If.result.now positive c.in-If.negative.value) (sym c.deref-in-If-2.ensures)
    ∙ ap (λ (negative : Expr). if' c.deref-in-If.result.now c.deref-in-If-2.result.now negative) (sym c.deref-in-If-3.ensures) in
    subst (λ (m : Making WiresOf). Adds wires_of c.args.steps.now c.if_form.new.steps m c.if_form.result) (sym e) c.if_form.ensures

pub translate-returns-in-Call : goal.translate-returns-in-Call
translate-returns-in-Call t c =
    let form = λ (tree : Tree). translated c.args.steps.now c.args.context.now c.args.scope.now tree c.args.control in
    let e =
    ap (λ (expr : Expr). form (tree_of expr)) c.in-Call.is
    ∙ ap form (tree_of-Call c.in-Call.at c.in-Call.function c.in-Call.arguments)
    ∙ ap (λ (exprs : List Expr). form (call c.in-Call.at c.in-Call.function (trees_of exprs))) (sym c.deref-in-Call.ensures.value) in
    subst (λ (m : Making WiresOf). Adds wires_of c.args.steps.now c.built_in.new.steps m c.built_in.result) (sym e) c.built_in.ensures

pub translate-returns-in-Apply : goal.translate-returns-in-Apply
translate-returns-in-Apply t c =
    let form = λ (tree : Tree). translated c.args.steps.now c.args.context.now c.args.scope.now tree c.args.control in
    let e =
    ap (λ (expr : Expr). form (tree_of expr)) c.in-Apply.is
    ∙ ap form (tree_of-Apply c.in-Apply.function c.in-Apply.arguments)
    ∙ ap (λ (exprs : List Expr). form (apply c.in-Apply.function (trees_of exprs))) (sym c.deref-in-Apply.ensures.value) in
    subst (λ (m : Making WiresOf). Adds wires_of c.args.steps.now c.call_form.new.steps m c.call_form.result) (sym e) c.call_form.ensures

pub translate-returns-in-Literal : goal.translate-returns-in-Literal
translate-returns-in-Literal t c =
    let form = λ (tree : Tree). translated c.args.steps.now c.args.context.now c.args.scope.now tree c.args.control in
    let e =
    ap (λ (expr : Expr). form (tree_of expr)) c.in-Literal.is
    ∙ ap form (tree_of-Literal c.in-Literal.at c.in-Literal.items)
    ∙ ap (λ (exprs : List Expr). form (literal c.in-Literal.at (trees_of exprs))) (sym c.deref-in-Literal.ensures.value) in
    subst (λ (m : Making WiresOf). Adds wires_of c.args.steps.now c.literal_form.new.steps m c.literal_form.result) (sym e) c.literal_form.ensures

pub translate-returns-in-Filter : goal.translate-returns-in-Filter
translate-returns-in-Filter t c =
    let form = λ (tree : Tree). translated c.args.steps.now c.args.context.now c.args.scope.now tree c.args.control in
    let filter' = λ (item condition : Expr). form (filter c.in-Filter.at (tree_of item) (tree_of condition)) in
    let e =
    ap (λ (expr : Expr). form (tree_of expr)) c.in-Filter.is
    ∙ ap (λ (item : Expr). filter' item c.in-Filter.condition.value) (sym c.deref-in-Filter.ensures)
    ∙ ap (λ (condition : Expr). filter' c.deref-in-Filter.result.now condition) (sym c.deref-in-Filter-2.ensures) in
    subst (λ (m : Making WiresOf). Adds wires_of c.args.steps.now c.filter_form.new.steps m c.filter_form.result) (sym e) c.filter_form.ensures

pub translate-returns-in-None : goal.translate-returns-in-None
translate-returns-in-None t c =
    let form = λ (tree : Tree). translated c.args.steps.now c.args.context.now c.args.scope.now tree c.args.control in
    let each' = λ (body : Expr) (binders : Binders). form (each c.in-Each.at (tree_of body) binders always) in
    let e =
    ap (λ (expr : Expr). form (tree_of expr)) c.in-Each.is
    ∙ ap (λ condition. form (tree_of (Each c.in-Each.at c.in-Each.body c.in-Each.binders condition))) c.in-None.is
    ∙ ap (each' c.in-Each.body.value) (binders_row c.in-Each.binders)
    ∙ ap (λ (body : Expr). each' body (binders_of c.in-Each.binders.items)) (sym c.deref-in-None.ensures)
    ∙ ap (λ (l : List Binder). each' c.deref-in-None.result.now (binders_of l)) (sym c.deref-in-None-2.ensures.value) in
    subst (λ (m : Making WiresOf). Adds wires_of c.args.steps.now c.each_form.new.steps m c.each_form.result) (sym e) c.each_form.ensures

pub translate-returns-in-Some : goal.translate-returns-in-Some
translate-returns-in-Some t c =
    let form = λ (tree : Tree). translated c.args.steps.now c.args.context.now c.args.scope.now tree c.args.control in
    let each' = λ (body : Expr) (binders : Binders) (condition : Expr). form (each c.in-Each.at (tree_of body) binders (only_where (tree_of condition))) in
    let e =
    ap (λ (expr : Expr). form (tree_of expr)) c.in-Each.is
    ∙ ap (λ condition. form (tree_of (Each c.in-Each.at c.in-Each.body c.in-Each.binders condition))) c.in-Some.is
    ∙ ap (λ (binders : Binders). each' c.in-Each.body.value binders c.in-Some.condition.value) (binders_row c.in-Each.binders)
    ∙ ap (λ (body : Expr). each' body (binders_of c.in-Each.binders.items) c.in-Some.condition.value) (sym c.deref-in-Some.ensures)
    ∙ ap (λ (l : List Binder). each' c.deref-in-Some.result.now (binders_of l) c.in-Some.condition.value) (sym c.deref-in-Some-2.ensures.value)
    ∙ ap (λ (condition : Expr). each' c.deref-in-Some.result.now (binders_of c.deref-in-Some-2.result.now) condition) (sym c.deref-in-Some-3.ensures) in
    subst (λ (m : Making WiresOf). Adds wires_of c.args.steps.now c.each_where.new.steps m c.each_where.result) (sym e) c.each_where.ensures
