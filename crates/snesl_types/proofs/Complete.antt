-- What the rules say of an expression is what checking answers.
use Rattle.std.proofs.Common.{◌≡◌, ℕ, Bool, true, false, cond, not, List, [], ◌∷◌, ◌++◌, Option, Some, None, is_some, Ok, Err, refl, sym, ap, append_assoc, ◌∙◌}
use Rattle.std.proofs.lemmas.List.{append-nil}
use Rattle.snesl_data.specs.declared.dialect.Dialect.{Dialect}
use Rattle.snesl_data.specs.declared.refusal.Refusal.{Refusal}
use Rattle.snesl_data.specs.declared.refusal.Refusal.TheVariants.{Mismatch, Streamed, TooBig, NoMemory}
use Rattle.snesl_values.specs.Inputs.{InputDeclaration}
use Rattle.snesl_data.specs.Integers.{is_integer}
use Rattle.snesl_data.specs.Types.{Ty, int, bool, pair, vec, seq, is_concrete, is_same}
use Rattle.snesl_grammar.specs.declared.tree.operator.Builtin.{Builtin}
use Rattle.snesl_grammar.specs.declared.tree.operator.Builtin.TheVariants.{Tab}
use Rattle.snesl_grammar.specs.declared.tree.span.Span.{Span}
use Rattle.snesl_grammar.specs.tree.Tree.{Tree, Trees, Binders, Condition, each, none_bound, binder}
use Rattle.snesl_types.specs.Contexts.{Context, names_context, inside, Signature, Signatures}
use Rattle.snesl_types.specs.Forms.{result_of, tabs_streamed}
use Rattle.snesl_types.specs.Sizes.{is_small}
use Rattle.snesl_types.specs.Programs.{small_type, and_then}
use Rattle.snesl_types.specs.Typing.{Types, Gives, AllTypes, BindersType, ConditionTypes, AllAre, has_type, integer_type, truth_type, name_type}
use Rattle.snesl_types.specs.Typing.{binary_type, prefix_type, call_type, apply_type, group_type, pair_type, binding_type, choice_type, literal_type}
use Rattle.snesl_types.specs.Typing.{filter_type, each_type, no_types, more_types, no_binders, more_binders, no_condition, condition_type}
use Rattle.snesl_types.specs.Violations.{AreOneType, Violates, AnyViolates, BindersViolate, big_type, unbound, streamed, left_violates}
use Rattle.snesl_types.specs.Violations.{right_violates, operands_mismatch, operand_violates, operand_mismatch, argument_violates, arguments_mismatch}
use Rattle.snesl_types.specs.Violations.{tab_streamed, call_violates, call_unbound, call_mismatch, inner_violates, first_part_violates}
use Rattle.snesl_types.specs.Violations.{second_part_violates, value_violates, binding_violates, choice_violates, positive_violates}
use Rattle.snesl_types.specs.Violations.{negative_violates, choice_mismatch, item_violates, items_mismatch, filtered_violates, filter_violates}
use Rattle.snesl_types.specs.Violations.{filter_mismatch, binder_violates, condition_violates, body_violates, condition_mismatch, binder_missing}
use Rattle.snesl_types.specs.Violations.{first_violates, later_violates, source_violates, bound_twice, binder_mismatch, later_binder_violates}
use Rattle.snesl_types.specs.Verdicts.{sized, rule, verdict, verdicts, binders_verdict, condition_verdict, of_binding, or_refused, of_builtin}
use Rattle.snesl_types.specs.Verdicts.{of_function, of_items, of_choice, of_filter, of_each, of_binder, both_of}
use Rattle.snesl_types.proofs.Outcomes.{then_ok, then_err, both_ok, left_err, right_err}
use Rattle.snesl_data.proofs.SameTypes.{and_left, and_right, same_self, same_eq}
use Rattle.snesl_types.proofs.Same.{not_true, are_same_self, are_same_eq, all_same_of, all_same_are}

small_ok : (t : Ty) → is_small t ≡ true → small_type t ≡ Ok t
small_ok t e = ap (λ b. cond b (Ok t) (Err TooBig)) e

small_err : (t : Ty) → is_small t ≡ false → small_type t ≡ Err TooBig
small_err t e = ap (λ b. cond b (Ok t) (Err TooBig)) e

integer_ok : (b : Bool) → b ≡ true → cond b (Ok int) (Err NoMemory) ≡ Ok int
integer_ok b e = ap (λ x. cond x (Ok int) (Err NoMemory)) e

builtin_mismatch : (at : ℕ) (function : Builtin) (ts : List Ty) → result_of function ts ≡ None → tabs_streamed function ts ≡ false → of_builtin at function ts ≡ Err (Mismatch at)
builtin_mismatch at function ts e f = ap (λ b. or_refused (cond b (Streamed at) (Mismatch at)) (result_of function ts)) f ∙ ap (or_refused (Mismatch at)) e

tab_gives_none : (function : Builtin) (ts : List Ty) → tabs_streamed function ts ≡ true → result_of function ts ≡ None
tab_gives_none Tab (seq t ∷ []) e = by_test (is_concrete t) e
  where
    by_test : (b : Bool) → not b ≡ true → cond b (Some (vec t)) None ≡ None
    by_test true h = cc
    by_test false h = refl
tab_gives_none _ _ e = cc

builtin_streamed : (at : ℕ) (function : Builtin) (ts : List Ty) → tabs_streamed function ts ≡ true → of_builtin at function ts ≡ Err (Streamed at)
builtin_streamed at function ts e =
    ap (λ b. or_refused (cond b (Streamed at) (Mismatch at)) (result_of function ts)) e ∙ ap (or_refused (Streamed at)) (tab_gives_none function ts e)

function_fits : (place : Span) (signature : Signature) (o : Option Signature) → o ≡ Some signature → of_function place signature.parameters o ≡ Ok signature.result
function_fits place signature o e =
    ap (of_function place signature.parameters) e
    ∙ ap (λ b. cond b (Ok signature.result) (Err (Mismatch place.at))) (are_same_self signature.parameters)

function_misfits : (place : Span) (signature : Signature) (ts : List Ty) (o : Option Signature) → o ≡ Some signature → ¬ (ts ≡ signature.parameters)
    → of_function place ts o ≡ Err (Mismatch place.at)
function_misfits place signature ts o e n =
    ap (of_function place ts) e
    ∙ ap (λ b. cond b (Ok signature.result) (Err (Mismatch place.at))) (not_true (λ same. n (are_same_eq ts signature.parameters same)))

choice_ok : (at : ℕ) (t : Ty) → of_choice at bool t t ≡ Ok t
choice_ok at t = ap (λ b. cond b (Ok t) (Err (Mismatch at))) (same_self t)

choice_err : (at : ℕ) (t u v : Ty) → ¬ ((t ≡ bool) × (u ≡ v)) → of_choice at t u v ≡ Err (Mismatch at)
choice_err at t u v n =
    ap (λ b. cond b (Ok u) (Err (Mismatch at)))
    (not_true (λ e. n (same_eq t bool (and_left (is_same t bool) (is_same u v) e), same_eq u v (and_right (is_same t bool) (is_same u v) e))))

items_ok : (at : ℕ) (t : Ty) (ts : List Ty) → AllAre t ts → of_items at (t ∷ ts) ≡ Ok (seq t)
items_ok at t ts h = ap (λ b. cond b (Ok (seq t)) (Err (Mismatch at))) (all_same_of t ts h)

items_err : (at : ℕ) (ts : List Ty) → ¬ AreOneType ts → of_items at ts ≡ Err (Mismatch at)
items_err at [] n = refl
items_err at (t ∷ ts) n = ap (λ b. cond b (Ok (seq t)) (Err (Mismatch at))) (not_true (λ e. n (all_same_are t ts e)))

filter_err : (at : ℕ) (t u : Ty) → ¬ (u ≡ bool) → of_filter at t u ≡ Err (Mismatch at)
filter_err at t u n = ap (λ b. cond b (Ok (seq t)) (Err (Mismatch at))) (not_true (λ e. n (same_eq u bool e)))

each_err : (at : ℕ) (binders : Binders) (t u : Ty) → ¬ (u ≡ bool) → of_each at binders t u ≡ Err (Mismatch at)
each_err at none_bound t u n = refl
each_err at (binder place source others) t u n = filter_err at t u n

no_binder_err : (dialect : Dialect) (text : List ℕ) (functions : Signatures) (context : Context) (at : ℕ) (body : Tree) (condition : Condition) (items : List InputDeclaration) (t u : Ty)
    → binders_verdict dialect text functions context [] none_bound ≡ Ok items
    → condition_verdict dialect text functions (names_context items ++ inside context) condition ≡ Ok t → verdict dialect text functions (names_context items ++ inside context) body ≡ Ok u
    → rule dialect text functions context (each at body none_bound condition) ≡ Err (Mismatch at)
no_binder_err dialect text functions context at body condition items t u bound_by c b =
    then_ok (λ all. and_then (both_of (condition_verdict dialect text functions (names_context all ++ inside context) condition)
    (verdict dialect text functions (names_context all ++ inside context) body)) (λ ts. of_each at none_bound ts.1 ts.0)) bound_by
    (then_ok (λ ts. of_each at none_bound ts.1 ts.0) (both_ok c b) refl)

binder_err : (place : Span) (t : Ty) → ((item : Ty) → ¬ (t ≡ seq item)) → of_binder place false t ≡ Err (Mismatch place.at)
binder_err place int n = refl
binder_err place bool n = refl
binder_err place (pair first second) n = refl
binder_err place (vec item) n = refl
binder_err place (seq item) n = absurd (n item refl)

mutual
  pub type_complete : {dialect : Dialect} {text : List ℕ} {functions : Signatures} {context : Context} {tree : Tree} {t : Ty}
      → Types dialect text functions context tree t → verdict dialect text functions context tree ≡ Ok t
  type_complete {t = t} (has_type g small) = then_ok _ (gives_complete g) (small_ok t small)

  gives_complete : {dialect : Dialect} {text : List ℕ} {functions : Signatures} {context : Context} {tree : Tree} {t : Ty}
      → Gives dialect text functions context tree t → rule dialect text functions context tree ≡ Ok t
  gives_complete {dialect = dialect} (integer_type {value = value} h) = integer_ok (is_integer dialect value) h
  gives_complete truth_type = refl
  gives_complete (name_type {place = place} e) = ap (of_binding place) e
  gives_complete (binary_type {at = at} a b e) = then_ok _ (both_ok (type_complete a) (type_complete b)) (ap (or_refused (Mismatch at)) e)
  gives_complete (prefix_type {at = at} a e) = then_ok _ (type_complete a) (ap (or_refused (Mismatch at)) e)
  gives_complete (call_type {at = at} {function = function} {ts = ts} all e) =
      then_ok _ (types_complete [] all) (ap (or_refused (cond (tabs_streamed function ts) (Streamed at) (Mismatch at))) e)
  gives_complete (apply_type {place = place} {signature = signature} all e) =
      then_ok _ (types_complete [] all) (function_fits place signature _ e)
  gives_complete (group_type a) = type_complete a
  gives_complete (pair_type a b) = then_ok _ (both_ok (type_complete a) (type_complete b)) refl
  gives_complete (binding_type a b) = then_ok _ (type_complete a) (type_complete b)
  gives_complete (choice_type {at = at} {t = t} a b c) =
      then_ok _ (type_complete a) (then_ok _ (both_ok (type_complete b) (type_complete c)) (choice_ok at t))
  gives_complete (literal_type {at = at} {t = t} {ts = ts} all h) = then_ok _ (types_complete [] all) (items_ok at t ts h)
  gives_complete (filter_type a b) = then_ok _ (both_ok (type_complete a) (type_complete b)) refl
  gives_complete (each_type bs c b) = then_ok _ (binders_complete bs) (then_ok _ (both_ok (condition_complete c) (type_complete b)) refl)

  types_complete : {dialect : Dialect} {text : List ℕ} {functions : Signatures} {context : Context} {trees : Trees} {ts : List Ty} (earlier : List Ty)
      → AllTypes dialect text functions context trees ts → verdicts dialect text functions context earlier trees ≡ Ok (earlier ++ ts)
  types_complete earlier no_types = ap Ok (sym (append-nil earlier))
  types_complete earlier (more_types {t = t} {ts = ts} a all) =
      then_ok _ (type_complete a) (types_complete (earlier ++ (t ∷ [])) all ∙ ap Ok (append_assoc earlier (t ∷ []) ts))

  binders_complete : {dialect : Dialect} {text : List ℕ} {functions : Signatures} {context : Context} {binders : Binders} {earlier items : List InputDeclaration}
      → BindersType dialect text functions context earlier binders items → binders_verdict dialect text functions context earlier binders ≡ Ok items
  binders_complete no_binders = refl
  binders_complete (more_binders {place = place} {t = t} a e bs) =
      then_ok _ (type_complete a) (then_ok _ (ap (λ o. of_binder place (is_some o) (seq t)) e) (binders_complete bs))

  condition_complete : {dialect : Dialect} {text : List ℕ} {functions : Signatures} {context : Context} {condition : Condition} {t : Ty}
      → ConditionTypes dialect text functions context condition t → condition_verdict dialect text functions context condition ≡ Ok t
  condition_complete no_condition = refl
  condition_complete (condition_type a) = type_complete a

mutual
  pub violates_complete : {dialect : Dialect} {text : List ℕ} {functions : Signatures} {context : Context} {tree : Tree} {refusal : Refusal}
      → Violates dialect text functions context tree refusal → verdict dialect text functions context tree ≡ Err refusal
  violates_complete (big_type {t = t} g e) = then_ok _ (gives_complete g) (small_err t e)
  violates_complete (unbound {place = place} e) = ap sized (ap (of_binding place) e)
  violates_complete (streamed {place = place} e) = ap sized (ap (of_binding place) e)
  violates_complete (left_violates v) = ap sized (then_err _ (left_err _ (violates_complete v)))
  violates_complete (right_violates a v) = ap sized (then_err _ (right_err (type_complete a) (violates_complete v)))
  violates_complete (operands_mismatch {at = at} a b e) = ap sized (then_ok _ (both_ok (type_complete a) (type_complete b)) (ap (or_refused (Mismatch at)) e))
  violates_complete (operand_violates v) = ap sized (then_err _ (violates_complete v))
  violates_complete (operand_mismatch {at = at} a e) = ap sized (then_ok _ (type_complete a) (ap (or_refused (Mismatch at)) e))
  violates_complete (argument_violates v) = ap sized (then_err _ (any_complete [] v))
  violates_complete (arguments_mismatch {at = at} {function = function} {ts = ts} all e f) =
      ap sized (then_ok _ (types_complete [] all) (builtin_mismatch at function ts e f))
  violates_complete (tab_streamed {at = at} {function = function} {ts = ts} all e) =
      ap sized (then_ok _ (types_complete [] all) (builtin_streamed at function ts e))
  violates_complete (call_violates v) = ap sized (then_err _ (any_complete [] v))
  violates_complete (call_unbound {place = place} {ts = ts} all e) = ap sized (then_ok _ (types_complete [] all) (ap (of_function place ts) e))
  violates_complete (call_mismatch {place = place} {ts = ts} {signature = signature} all e n) =
      ap sized (then_ok _ (types_complete [] all) (function_misfits place signature ts _ e n))
  violates_complete (inner_violates v) = ap sized (violates_complete v)
  violates_complete (first_part_violates v) = ap sized (then_err _ (left_err _ (violates_complete v)))
  violates_complete (second_part_violates a v) = ap sized (then_err _ (right_err (type_complete a) (violates_complete v)))
  violates_complete (value_violates v) = ap sized (then_err _ (violates_complete v))
  violates_complete (binding_violates a v) = ap sized (then_ok _ (type_complete a) (violates_complete v))
  violates_complete (choice_violates v) = ap sized (then_err _ (violates_complete v))
  violates_complete (positive_violates a v) = ap sized (then_ok _ (type_complete a) (then_err _ (left_err _ (violates_complete v))))
  violates_complete (negative_violates a b v) = ap sized (then_ok _ (type_complete a) (then_err _ (right_err (type_complete b) (violates_complete v))))
  violates_complete (choice_mismatch {at = at} {t = t} {u = u} {v = v} a b c n) =
      ap sized (then_ok _ (type_complete a) (then_ok _ (both_ok (type_complete b) (type_complete c)) (choice_err at t u v n)))
  violates_complete (item_violates v) = ap sized (then_err _ (any_complete [] v))
  violates_complete (items_mismatch {at = at} {ts = ts} all n) = ap sized (then_ok _ (types_complete [] all) (items_err at ts n))
  violates_complete (filtered_violates v) = ap sized (then_err _ (left_err _ (violates_complete v)))
  violates_complete (filter_violates a v) = ap sized (then_err _ (right_err (type_complete a) (violates_complete v)))
  violates_complete (filter_mismatch {at = at} {t = t} {u = u} a b n) = ap sized (then_ok _ (both_ok (type_complete a) (type_complete b)) (filter_err at t u n))
  violates_complete (binder_violates v) = ap sized (then_err _ (binder_complete v))
  violates_complete (condition_violates bs v) = ap sized (then_ok _ (binders_complete bs) (then_err _ (left_err _ (violates_complete v))))
  violates_complete (body_violates bs c v) = ap sized (then_ok _ (binders_complete bs) (then_err _ (right_err (condition_complete c) (violates_complete v))))
  violates_complete (condition_mismatch {at = at} {binders = binders} {t = t} {u = u} bs c b n) =
      ap sized (then_ok _ (binders_complete bs) (then_ok _ (both_ok (condition_complete c) (type_complete b)) (each_err at binders u t n)))
  violates_complete {dialect = dialect} {text = text} {functions = functions}
      (binder_missing {context = context} {at = at} {body = body} {condition = condition} {items = items} {t = t} {u = u} bs c b) =
      ap sized (no_binder_err dialect text functions context at body condition items t u (binders_complete bs) (condition_complete c) (type_complete b))

  any_complete : {dialect : Dialect} {text : List ℕ} {functions : Signatures} {context : Context} {trees : Trees} {refusal : Refusal} (earlier : List Ty)
      → AnyViolates dialect text functions context trees refusal → verdicts dialect text functions context earlier trees ≡ Err refusal
  any_complete earlier (first_violates v) = then_err _ (violates_complete v)
  any_complete earlier (later_violates {t = t} a v) = then_ok _ (type_complete a) (any_complete (earlier ++ (t ∷ [])) v)

  binder_complete : {dialect : Dialect} {text : List ℕ} {functions : Signatures} {context : Context} {binders : Binders} {earlier : List InputDeclaration} {refusal : Refusal}
      → BindersViolate dialect text functions context earlier binders refusal → binders_verdict dialect text functions context earlier binders ≡ Err refusal
  binder_complete (source_violates v) = then_err _ (violates_complete v)
  binder_complete (bound_twice {place = place} {t = t} a e) = then_ok _ (type_complete a) (then_err _ (ap (λ o. of_binder place (is_some o) t) e))
  binder_complete (binder_mismatch {place = place} {t = t} a e n) =
      then_ok _ (type_complete a) (then_err _ (ap (λ o. of_binder place (is_some o) t) e ∙ binder_err place t n))
  binder_complete (later_binder_violates {place = place} {t = t} a e v) =
      then_ok _ (type_complete a) (then_ok _ (ap (λ o. of_binder place (is_some o) (seq t)) e) (binder_complete v))
