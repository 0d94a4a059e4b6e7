use Rattle.std.proofs.Common.{◌≡◌, ◌∷◌, ◌++◌, if◌then◌else◌, map, zip, Option, option_map, option_to_list, Err, Vec, Global, sym, ap, ◌∙◌, subst, arith}
use Rattle.snesl_data.specs.declared.datum.Datum.{Datum}
use Rattle.snesl_values.specs.Inputs.{Environment}
use Rattle.snesl_data.specs.Values.{a_pair, value_of}
use Rattle.snesl_grammar.specs.tree.Spelling.{spelling}
use Rattle.snesl_grammar.specs.tree.View.{tree_of, trees_of, binders_of, declaration_of}
use Rattle.snesl_grammar.specs.declared.tree.expr.Expr.{Expr, Each}
use Rattle.snesl_grammar.specs.tree.Tree.{Binders}
use Rattle.snesl_grammar.proofs.OfTree.Arguments.{tree_of-Call, tree_of-Apply, tree_of-Literal, binders_row}
use Rattle.snesl_evaluation.specs.Answer.{go, gives}
use Rattle.snesl_evaluation.specs.declared.scope.Column.{Column}
use Rattle.snesl_evaluation.specs.Builtins.{applied, binary_answer, items_at, seq_answer, truth_at}
use Rattle.snesl_evaluation.specs.Eval.{calls_of, eval, in_step, kept}
use Rattle.snesl_evaluation.specs.Forms.{filter_in}
use Rattle.snesl_evaluation.specs.Results.{Answers}
use Rattle.snesl_evaluation.specs.Scopes.{all_in, binders_in, calls_in, bound_items_of, each_in, entered, environment_in, eval_in, kept_at, names_of, where_in}
use Rattle.snesl_evaluation.proofs.Arguments.{values_given, values_faults, values_all, columns_given, columns_faults, columns_all}
use Rattle.snesl_evaluation.proofs.Passed.{halt_passes, parameters_seen, parameters_differ, filter_seen}
use Rattle.snesl_evaluation.proofs.Rows.{level_seen}
use Rattle.snesl_evaluation.proofs.Steps.{row_given, row_faults, rows_end, kept_given, kept_faults, kept_end}
use Rattle.snesl_evaluation.proofs.evaluator.+value.Goals as goal

pub enter-returns-then-len-values : goal.enter-returns-then-len-values
enter-returns-then-len-values t c =
    let text = c.args.context.now.text.now in
    let dialect = c.args.context.now.dialect in
    let parameters = c.args.function.now.parameters in
    let calls = calls_of dialect text (map declaration_of c.args.earlier.now) in
    let same = parameters.ok.0 in
    subst (λ halt. Answers value_of (Err halt) (entered dialect text c.args.at c.args.function.now c.args.earlier.now (map value_of c.args.values.now))) (sym c.fault.ensures)
    (ap (λ answer. go answer (λ environment. eval dialect (tree_of c.args.function.now.body) text calls environment))
    (parameters_differ c.args.at text parameters.items c.args.values.now (λ e. c.if-len-values.true (omega (arith, e, same, c.len.ensures)))))

pub enter-returns-in_err-result : goal.enter-returns-in_err-result
enter-returns-in_err-result t c =
    let text = c.args.context.now.text.now in
    let dialect = c.args.context.now.dialect in
    let parameters = c.args.function.now.parameters in
    let calls = calls_of dialect text (map declaration_of c.args.earlier.now) in
    let same = parameters.ok.0 in
    let body = λ (environment : Environment). eval dialect (tree_of c.args.function.now.body) text calls environment in
    halt_passes value_of value_of c.from_residual.result c.in_err-result.field-0.0 (body (zip (names_of text c.deref.result.now) (map value_of c.args.values.now)))
    (entered dialect text c.args.at c.args.function.now c.args.earlier.now (map value_of c.args.values.now)) c.from_residual.ensures.1 c.in_err-result.ensures
    (λ kind at e.
    ap (λ answer. go answer body) (parameters_seen c.args.at text parameters.items c.args.values.now (omega (arith, same, c.len.ensures, c.if-len-values.false)))
    ∙ ap (λ l. body (zip (names_of text l) (map value_of c.args.values.now))) (sym c.deref.ensures.value)
    ∙ e)

pub enter-returns : goal.enter-returns
enter-returns t c =
    let text = c.args.context.now.text.now in
    let dialect = c.args.context.now.dialect in
    let parameters = c.args.function.now.parameters in
    let calls = calls_of dialect text (map declaration_of c.args.earlier.now) in
    let same = parameters.ok.0 in
    let body = λ (environment : Environment). eval dialect (tree_of c.args.function.now.body) text calls environment in
    ap (λ answer. go answer body) (parameters_seen c.args.at text parameters.items c.args.values.now (omega (arith, same, c.len.ensures, c.if-len-values.false)))
    ∙ ap (λ l. body (zip (names_of text l) (map value_of c.args.values.now))) (sym c.deref.ensures.value)
    ∙ c.in_ok-result.ensures

pub all_values-returns-in_err-value : goal.all_values-returns-in_err-value
all_values-returns-in_err-value t c =
    halt_passes value_of (λ (values : Vec Datum Global). map value_of values.items) c.from_residual.result c.in_err-value.field-0.0 _ _ c.from_residual.ensures.1 c.in_err-value.ensures
    (λ kind at e. c.loop-expr.invariant ∙ values_faults c.args.context.now c.args.scope.now (map value_of c.loop-expr.values.items) c.args.exprs.now c.loop-expr.expr-index
    c.expr-item.result kind at c.loop-expr-test.true c.expr-item.is e)

pub all_values-loop-expr-preserved : goal.all_values-loop-expr-preserved
all_values-loop-expr-preserved t c =
    c.loop-expr.invariant
    ∙ values_given c.args.context.now c.args.scope.now (map value_of c.loop-expr.values.items) c.args.exprs.now c.loop-expr.expr-index c.expr-item.result (value_of c.in_ok-value.value)
    c.loop-expr-test.true c.expr-item.is c.in_ok-value.ensures c.in_ok-add.ensures

pub all_values-returns : goal.all_values-returns
all_values-returns t c =
    c.loop-expr.invariant ∙ values_all c.args.context.now c.args.scope.now (map value_of c.loop-expr.values.items) c.args.exprs.now c.loop-expr.expr-index (omega arith)

pub all_columns-returns-in_err-sequence : goal.all_columns-returns-in_err-sequence
all_columns-returns-in_err-sequence t c =
    let context = c.args.context.now in
    let columns = λ (all : Vec Column Global). map (bound_items_of context.text.now) all.items in
    let binder = c.binder-item.result in
    halt_passes value_of columns c.from_residual.result c.in_err-sequence.field-0.0 _ _ c.from_residual.ensures.1 c.in_err-sequence.ensures
    (λ kind at e. c.loop-binder.invariant ∙ columns_faults context c.args.scope.now (columns c.loop-binder.columns) c.args.binders.now c.loop-binder.binder-index binder kind at
    c.loop-binder-test.true c.binder-item.is (ap (λ answer. go answer (items_at binder.name.at)) e))

pub all_columns-returns-in_err-items : goal.all_columns-returns-in_err-items
all_columns-returns-in_err-items t c =
    let context = c.args.context.now in
    let columns = λ (all : Vec Column Global). map (bound_items_of context.text.now) all.items in
    let binder = c.binder-item.result in
    halt_passes (λ (all : Vec Datum Global). map value_of all.items) columns c.from_residual-in_err-items.result c.in_err-items.field-0.0 _ _ c.from_residual-in_err-items.ensures.1
    c.in_err-items.ensures
    (λ kind at e. c.loop-binder.invariant ∙ columns_faults context c.args.scope.now (columns c.loop-binder.columns) c.args.binders.now c.loop-binder.binder-index binder kind at
    c.loop-binder-test.true c.binder-item.is (ap (λ answer. go answer (items_at binder.name.at)) c.in_ok-sequence.ensures ∙ e))

pub all_columns-loop-binder-preserved : goal.all_columns-loop-binder-preserved
all_columns-loop-binder-preserved t c =
    let context = c.args.context.now in
    c.loop-binder.invariant
    ∙ columns_given context c.args.scope.now (map (bound_items_of context.text.now) c.loop-binder.columns.items) c.args.binders.now c.loop-binder.binder-index c.binder-item.result
    (value_of c.in_ok-sequence.sequence) (map value_of c.in_ok-items.items.items) c.loop-binder-test.true c.binder-item.is c.in_ok-sequence.ensures c.in_ok-items.ensures
    (c.in_ok-add_column.ensures context.text.now)

pub all_columns-returns : goal.all_columns-returns
all_columns-returns t c =
    let context = c.args.context.now in
    c.loop-binder.invariant ∙ columns_all context c.args.scope.now (map (bound_items_of context.text.now) c.loop-binder.columns.items) c.args.binders.now c.loop-binder.binder-index (omega arith)

pub rows-returns-in_err-value : goal.rows-returns-in_err-value
rows-returns-in_err-value t c =
    let level = level_seen c.args.context.now.text.now c.args.number c.args.columns.now ∙ c.requires in
    halt_passes value_of (λ (values : Vec Datum Global). map value_of values.items) c.from_residual.result c.in_err-value.field-0.0 _ _ c.from_residual.ensures.1 c.in_err-value.ensures
    (λ kind at e. c.loop-index.invariant ∙ row_faults _ c.args.number _ c.loop-index.index _ kind at level (omega arith) e)

pub rows-loop-index-preserved : goal.rows-loop-index-preserved
rows-loop-index-preserved t c =
    let level = level_seen c.args.context.now.text.now c.args.number c.args.columns.now ∙ c.requires in
    c.loop-index.invariant
    ∙ row_given _ c.args.number _ c.loop-index.index (map value_of c.loop-index.values.items) _ level (omega arith) c.in_ok-value.ensures c.in_ok-add.ensures

pub rows-returns : goal.rows-returns
rows-returns t c =
    let text = c.args.context.now.text.now in
    let f = λ (row : Environment). eval c.args.context.now.dialect (tree_of c.args.body.now) text (calls_in c.args.context.now) (row ++ environment_in text c.args.scope.now) in
    let ended : c.args.number ≡ c.loop-index.index = omega arith in
    c.loop-index.invariant ∙ rows_end f c.args.number c.loop-index.index (map (bound_items_of text) c.args.columns.now) (map value_of c.loop-index.values.items) ended

pub rows_where-returns-in_err-found : goal.rows_where-returns-in_err-found
rows_where-returns-in_err-found t c =
    let level = level_seen c.args.context.now.text.now c.args.number c.args.columns.now ∙ c.requires in
    halt_passes (λ (found : Option Datum). option_to_list (option_map value_of found)) (λ (values : Vec Datum Global). map value_of values.items)
    c.from_residual.result c.in_err-found.field-0.0 _ _ c.from_residual.ensures.1 c.in_err-found.ensures
    (λ kind at e. c.loop-index.invariant ∙ kept_faults _ c.args.number _ c.loop-index.index _ kind at level (omega arith) e)

pub rows_where-loop-index-preserved : goal.rows_where-loop-index-preserved
rows_where-loop-index-preserved t c =
    let level = level_seen c.args.context.now.text.now c.args.number c.args.columns.now ∙ c.requires in
    c.loop-index.invariant
    ∙ kept_given _ c.args.number _ c.loop-index.index (map value_of c.loop-index.values.items) _ level (omega arith) c.in_ok-found.ensures c.in_ok-add_found.ensures

pub rows_where-returns : goal.rows_where-returns
rows_where-returns t c =
    let text = c.args.context.now.text.now in
    let f = λ (row : Environment). kept_at c.args.context.now (row ++ environment_in text c.args.scope.now) c.args.at (tree_of c.args.body.now) (tree_of c.args.condition.now) in
    let ended : c.args.number ≡ c.loop-index.index = omega arith in
    c.loop-index.invariant ∙ kept_end f c.args.number c.loop-index.index (map (bound_items_of text) c.args.columns.now) (map value_of c.loop-index.values.items) ended

pub value-returns-in-Binary : goal.value-returns-in-Binary
value-returns-in-Binary t c =
    let context = c.args.context.now in
    let scope = c.args.scope.now in
    let at = c.in-Binary.at in
    let operator = c.in-Binary.operator in
    let answer = λ (left right : Expr). go (eval_in context scope (tree_of left)) (λ v. go (eval_in context scope (tree_of right)) (λ w. binary_answer context.dialect at operator v w)) in
    let e =
    ap (λ expr. eval_in context scope (tree_of expr)) c.in-Binary.is
    ∙ ap (λ left. answer left c.in-Binary.right.value) (sym c.deref.ensures)
    ∙ ap (λ right. answer c.deref.result.now right) (sym c.deref-in-Binary.ensures) in
    subst (Answers value_of c.binary_value.result) (sym e) c.binary_value.ensures

pub value-returns-in-Pair : goal.value-returns-in-Pair
value-returns-in-Pair t c =
    let context = c.args.context.now in
    let scope = c.args.scope.now in
    let answer = λ (first second : Expr). go (eval_in context scope (tree_of first)) (λ v. go (eval_in context scope (tree_of second)) (λ w. gives (a_pair v w))) in
    let e =
    ap (λ expr. eval_in context scope (tree_of expr)) c.in-Pair.is
    ∙ ap (λ first. answer first c.in-Pair.second.value) (sym c.deref-in-Pair.ensures)
    ∙ ap (λ second. answer c.deref-in-Pair.result.now second) (sym c.deref-in-Pair-2.ensures) in
    subst (Answers value_of c.pair_value.result) (sym e) c.pair_value.ensures

pub value-returns-in-Let : goal.value-returns-in-Let
value-returns-in-Let t c =
    let context = c.args.context.now in
    let scope = c.args.scope.now in
    let text = context.text.now in
    let answer = λ (bound body : Expr). go (eval_in context scope (tree_of bound))
    (λ v. eval context.dialect (tree_of body) text (calls_in context) ((spelling text c.in-Let.name, v) ∷ environment_in text scope)) in
    let e =
    ap (λ expr. eval_in context scope (tree_of expr)) c.in-Let.is
    ∙ ap (λ bound. answer bound c.in-Let.body.value) (sym c.deref-in-Let.ensures)
    ∙ ap (λ body. answer c.deref-in-Let.result.now body) (sym c.deref-in-Let-2.ensures) in
    subst (Answers value_of c.let_value.result) (sym e) c.let_value.ensures

pub value-returns-in-If : goal.value-returns-in-If
value-returns-in-If t c =
    let context = c.args.context.now in
    let scope = c.args.scope.now in
    let at = c.in-If.at in
    let answer = λ (condition positive negative : Expr). go (eval_in context scope (tree_of condition))
    (λ v. go (truth_at at v) (λ b. if b then eval_in context scope (tree_of positive) else eval_in context scope (tree_of negative))) in
    let e =
    ap (λ expr. eval_in context scope (tree_of expr)) c.in-If.is
    ∙ ap (λ condition. answer condition c.in-If.positive.value c.in-If.negative.value) (sym c.deref-in-If.ensures)
    ∙ ap (λ positive. answer c.deref-in-If.result.now positive c.in-If.negative.value) (sym c.deref-in-If-2.ensures)
    ∙ ap (λ negative. answer c.deref-in-If.result.now c.deref-in-If-2.result.now negative) (sym c.deref-in-If-3.ensures) in
    subst (Answers value_of c.if_value.result) (sym e) c.if_value.ensures

pub value-returns-in-Call : goal.value-returns-in-Call
value-returns-in-Call t c =
    let context = c.args.context.now in
    let scope = c.args.scope.now in
    let at = c.in-Call.at in
    let function = c.in-Call.function in
    let e =
    ap (λ expr. eval_in context scope (tree_of expr)) c.in-Call.is
    ∙ ap (eval_in context scope) (tree_of-Call at function c.in-Call.arguments)
    ∙ ap (λ exprs. go (all_in context scope (trees_of exprs)) (applied context.dialect at function)) (sym c.deref-in-Call.ensures.value) in
    subst (Answers value_of c.built_in.result) (sym e) c.built_in.ensures

pub value-returns-in-Apply : goal.value-returns-in-Apply
value-returns-in-Apply t c =
    let context = c.args.context.now in
    let scope = c.args.scope.now in
    let function = c.in-Apply.function in
    let e =
    ap (λ expr. eval_in context scope (tree_of expr)) c.in-Apply.is
    ∙ ap (eval_in context scope) (tree_of-Apply function c.in-Apply.arguments)
    ∙ ap (λ exprs. go (all_in context scope (trees_of exprs)) (calls_in context function.at (spelling context.text.now function))) (sym c.deref-in-Apply.ensures.value) in
    subst (Answers value_of c.call.result) (sym e) c.call.ensures

pub value-returns-in-Literal : goal.value-returns-in-Literal
value-returns-in-Literal t c =
    let context = c.args.context.now in
    let scope = c.args.scope.now in
    let e =
    ap (λ expr. eval_in context scope (tree_of expr)) c.in-Literal.is
    ∙ ap (eval_in context scope) (tree_of-Literal c.in-Literal.at c.in-Literal.items)
    ∙ ap (λ exprs. seq_answer (all_in context scope (trees_of exprs))) (sym c.deref-in-Literal.ensures.value) in
    subst (Answers value_of c.literal.result) (sym e) c.literal.ensures

pub value-returns-in-Filter : goal.value-returns-in-Filter
value-returns-in-Filter t c =
    let context = c.args.context.now in
    let scope = c.args.scope.now in
    let at = c.in-Filter.at in
    let condition = c.in-Filter.condition.value in
    let e =
    ap (λ expr. eval_in context scope (tree_of expr)) c.in-Filter.is
    ∙ filter_seen (eval_in context scope (tree_of condition)) (truth_at at) (λ b. kept b (eval_in context scope (tree_of c.in-Filter.item.value)))
    ∙ ap (λ item. filter_in context scope at item condition) (sym c.deref-in-Filter.ensures)
    ∙ ap (λ test. filter_in context scope at c.deref-in-Filter.result.now test) (sym c.deref-in-Filter-2.ensures) in
    subst (Answers value_of c.filter.result) (sym e) c.filter.ensures

pub value-returns-in-None : goal.value-returns-in-None
value-returns-in-None t c =
    let context = c.args.context.now in
    let scope = c.args.scope.now in
    let at = c.in-Each.at in
    let answer = λ (body : Expr) (binders : Binders). go (binders_in context scope binders) (λ columns. go (in_step at columns) (λ rows. seq_answer (each_in context scope (tree_of body) rows))) in
    let e =
    ap (λ expr. eval_in context scope (tree_of expr)) c.in-Each.is
    ∙ ap (λ condition. eval_in context scope (tree_of (Each at c.in-Each.body c.in-Each.binders condition))) c.in-None.is
    ∙ ap (answer c.in-Each.body.value) (binders_row c.in-Each.binders)
    ∙ ap (λ body. answer body (binders_of c.in-Each.binders.items)) (sym c.deref-in-None.ensures)
    ∙ ap (λ l. answer c.deref-in-None.result.now (binders_of l)) (sym c.deref-in-None-2.ensures.value) in
    subst (Answers value_of c.each.result) (sym e) c.each.ensures

pub value-returns-in-Some : goal.value-returns-in-Some
value-returns-in-Some t c =
    let context = c.args.context.now in
    let scope = c.args.scope.now in
    let at = c.in-Each.at in
    let answer = λ (body : Expr) (binders : Binders) (condition : Expr). go (binders_in context scope binders)
    (λ columns. go (in_step at columns) (λ rows. seq_answer (where_in context scope at (tree_of body) (tree_of condition) rows))) in
    let e =
    ap (λ expr. eval_in context scope (tree_of expr)) c.in-Each.is
    ∙ ap (λ condition. eval_in context scope (tree_of (Each at c.in-Each.body c.in-Each.binders condition))) c.in-Some.is
    ∙ ap (λ binders. answer c.in-Each.body.value binders c.in-Some.condition.value) (binders_row c.in-Each.binders)
    ∙ ap (λ body. answer body (binders_of c.in-Each.binders.items) c.in-Some.condition.value) (sym c.deref-in-Some.ensures)
    ∙ ap (λ l. answer c.deref-in-Some.result.now (binders_of l) c.in-Some.condition.value) (sym c.deref-in-Some-2.ensures.value)
    ∙ ap (λ condition. answer c.deref-in-Some.result.now (binders_of c.deref-in-Some-2.result.now) condition) (sym c.deref-in-Some-3.ensures) in
    subst (Answers value_of c.each_where.result) (sym e) c.each_where.ensures
