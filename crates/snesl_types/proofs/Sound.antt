-- What checking answers for an expression is what the rules say of it.
use Rattle.std.proofs.Common.{◌≡◌, ℕ, ℤ, Bool, true, false, ◌&&◌, cond, List, [], ◌∷◌, ◌++◌, Option, Some, None, is_some, Result, Ok, Err, refl, sym, ap, subst, append_assoc, ◌∙◌}
use Rattle.std.proofs.lemmas.List.{append-nil}
use Rattle.snesl_data.specs.declared.dialect.Dialect.{Dialect}
use Rattle.snesl_data.specs.declared.refusal.Refusal.{Refusal}
use Rattle.snesl_data.specs.declared.refusal.Refusal.TheVariants.{Mismatch, Streamed, TooBig, NoMemory}
use Rattle.snesl_values.specs.Inputs.{InputDeclaration}
use Rattle.snesl_data.specs.Integers.{is_integer}
use Rattle.snesl_data.specs.Types.{Ty, int, bool, pair, vec, seq, is_same}
use Rattle.snesl_grammar.specs.declared.tree.operator.Builtin.{Builtin}
use Rattle.snesl_grammar.specs.declared.tree.operator.Operator.{Operator}
use Rattle.snesl_grammar.specs.declared.tree.operator.Prefix.{Prefix}
use Rattle.snesl_grammar.specs.declared.tree.span.Span.{Span}
use Rattle.snesl_grammar.specs.tree.Spelling.{spelling}
use Rattle.snesl_grammar.specs.tree.Tree.{Tree, Trees, Binders, Condition, integer, truth, name, binary, prefix, call, apply, group, pair as pair_tree}
use Rattle.snesl_grammar.specs.tree.Tree.{binding, choice, literal, filter, each, none, both, none_bound, binder, always, only_where}
use Rattle.snesl_types.specs.Contexts.{Binding, open_to, shut, Context, bound, names_context, found, inside, type_in, Signature, Signatures, function_named}
use Rattle.snesl_types.specs.Forms.{operator_result, prefix_result, result_of, tabs_streamed}
use Rattle.snesl_types.specs.Sizes.{is_small}
use Rattle.snesl_types.specs.Ranges.{IsInRange, AreInRange, BindersInRange, ConditionInRange}
use Rattle.snesl_types.specs.Programs.{and_then}
use Rattle.snesl_types.specs.Typing.{Types, Gives, AllTypes, BindersType, ConditionTypes, has_type, integer_type, truth_type, name_type, binary_type}
use Rattle.snesl_types.specs.Typing.{prefix_type, call_type, apply_type, group_type, pair_type, binding_type, choice_type, literal_type, filter_type}
use Rattle.snesl_types.specs.Typing.{each_type, no_types, more_types, no_binders, more_binders, no_condition, condition_type}
use Rattle.snesl_types.specs.Violations.{Violates, AnyViolates, BindersViolate, big_type, unbound, streamed, left_violates, right_violates}
use Rattle.snesl_types.specs.Violations.{operands_mismatch, operand_violates, operand_mismatch, argument_violates, arguments_mismatch, tab_streamed}
use Rattle.snesl_types.specs.Violations.{call_violates, call_unbound, call_mismatch, inner_violates, first_part_violates, second_part_violates}
use Rattle.snesl_types.specs.Violations.{value_violates, binding_violates, choice_violates, positive_violates, negative_violates, choice_mismatch}
use Rattle.snesl_types.specs.Violations.{item_violates, items_mismatch, filtered_violates, filter_violates, filter_mismatch, binder_violates}
use Rattle.snesl_types.specs.Violations.{condition_violates, body_violates, condition_mismatch, binder_missing, first_violates, later_violates}
use Rattle.snesl_types.specs.Violations.{source_violates, bound_twice, binder_mismatch, later_binder_violates}
use Rattle.snesl_types.specs.Verdicts.{sized, rule, verdict, verdicts, binders_verdict, condition_verdict, of_binding, or_refused, of_builtin}
use Rattle.snesl_types.specs.Verdicts.{of_function, of_items, of_each, of_binder, are_same, all_same}
use Rattle.snesl_types.proofs.Outcomes.{Outcome, given, violated, out_of_range, then_outcome, both_outcome}
use Rattle.snesl_data.proofs.SameTypes.{and_true, and_left, and_right, same_eq, same_of}
use Rattle.snesl_types.proofs.Same.{are_same_self, are_same_eq, all_same_of, all_same_are}

-- a condition has violations of its own only where there is one
abbrev pub ConditionViolates : Dialect → List ℕ → Signatures → Context → Condition → Refusal → Type 0
ConditionViolates dialect text functions context always refusal = ⊥
ConditionViolates dialect text functions context (only_where tree) refusal = Violates dialect text functions context tree refusal

module _ (dialect : Dialect) (text : List ℕ) (functions : Signatures) (context : Context) where
  -- what the rule of a form says of a tree, and what the tree's typing says
  abbrev pub OfForm : Tree → Result Ty Refusal → Type 0
  OfForm tree r = Outcome (Gives dialect text functions context tree) (Violates dialect text functions context tree) (IsInRange dialect tree) r

  abbrev pub OfTree : Tree → Result Ty Refusal → Type 0
  OfTree tree r = Outcome (Types dialect text functions context tree) (Violates dialect text functions context tree) (IsInRange dialect tree) r

  abbrev pub OfTrees : List Ty → Trees → Result (List Ty) Refusal → Type 0
  OfTrees earlier trees r =
      Outcome (λ all. (ts : List Ty) × AllTypes dialect text functions context trees ts × (all ≡ earlier ++ ts)) (AnyViolates dialect text functions context trees) (AreInRange dialect trees) r

  abbrev pub OfBinders : List InputDeclaration → Binders → Result (List InputDeclaration) Refusal → Type 0
  OfBinders earlier binders r =
      Outcome (BindersType dialect text functions context earlier binders) (BindersViolate dialect text functions context earlier binders) (BindersInRange dialect binders) r

  small_outcome : (tree : Tree) (t : Ty) → Gives dialect text functions context tree t → (b : Bool) → is_small t ≡ b → OfTree tree (cond b (Ok t) (Err TooBig))
  small_outcome tree t g true e = given (has_type g e)
  small_outcome tree t g false e = violated (big_type g e)

  sized_outcome : (tree : Tree) {r : Result Ty Refusal} → OfForm tree r → OfTree tree (sized r)
  sized_outcome tree (given {x = t} g) = small_outcome tree t g (is_small t) refl
  sized_outcome tree (violated v) = violated v
  sized_outcome tree (out_of_range n) = out_of_range n

  of_integer : (at : ℕ) (value : ℤ) (b : Bool) → is_integer dialect value ≡ b → OfForm (integer at value) (cond b (Ok int) (Err NoMemory))
  of_integer at value true e = given (integer_type e)
  of_integer at value false e = out_of_range (λ h. cc)

  of_name : (place : Span) (o : Option Binding) → found (spelling text place) context ≡ o → OfForm (name place) (of_binding place o)
  of_name place None e = violated (unbound e)
  of_name place (Some shut) e = violated (streamed e)
  of_name place (Some (open_to t)) e = given (name_type e)

  of_operands : (at : ℕ) (operator : Operator) (left right : Tree) (t u : Ty) → Types dialect text functions context left t → Types dialect text functions context right u
      → (o : Option Ty) → operator_result operator t u ≡ o → OfForm (binary at operator left right) (or_refused (Mismatch at) o)
  of_operands at operator left right t u a b None e = violated (operands_mismatch a b e)
  of_operands at operator left right t u a b (Some v) e = given (binary_type a b e)

  of_operand : (at : ℕ) (operator : Prefix) (operand : Tree) (t : Ty) → Types dialect text functions context operand t
      → (o : Option Ty) → prefix_result operator t ≡ o → OfForm (prefix at operator operand) (or_refused (Mismatch at) o)
  of_operand at operator operand t a None e = violated (operand_mismatch a e)
  of_operand at operator operand t a (Some v) e = given (prefix_type a e)

  of_call : (at : ℕ) (function : Builtin) (arguments : Trees) (ts : List Ty) → AllTypes dialect text functions context arguments ts
      → (o : Option Ty) → result_of function ts ≡ o → (b : Bool) → tabs_streamed function ts ≡ b
      → OfForm (call at function arguments) (or_refused (cond b (Streamed at) (Mismatch at)) o)
  of_call at function arguments ts all (Some t) e b f = given (call_type all e)
  of_call at function arguments ts all None e true f = violated (tab_streamed all f)
  of_call at function arguments ts all None e false f = violated (arguments_mismatch all e f)

  of_fit : (place : Span) (arguments : Trees) (ts : List Ty) (signature : Signature) → AllTypes dialect text functions context arguments ts
      → function_named (spelling text place) functions ≡ Some signature → (b : Bool) → are_same ts signature.parameters ≡ b
      → OfForm (apply place arguments) (cond b (Ok signature.result) (Err (Mismatch place.at)))
  of_fit place arguments ts signature all e true f =
      given (apply_type (subst (AllTypes dialect text functions context arguments) (are_same_eq ts signature.parameters f) all) e)
  of_fit place arguments ts signature all e false f =
      violated (call_mismatch all e (λ same. let g = ap (are_same ts) (sym same) ∙ are_same_refl in cc))
    where
      are_same_refl : are_same ts ts ≡ true
      are_same_refl = are_same_self ts

  of_apply : (place : Span) (arguments : Trees) (ts : List Ty) → AllTypes dialect text functions context arguments ts
      → (o : Option Signature) → function_named (spelling text place) functions ≡ o → OfForm (apply place arguments) (of_function place ts o)
  of_apply place arguments ts all None e = violated (call_unbound all e)
  of_apply place arguments ts all (Some signature) e = of_fit place arguments ts signature all e (are_same ts signature.parameters) refl

  of_branches : (at : ℕ) (condition positive negative : Tree) (t u v : Ty) → Types dialect text functions context condition t
      → Types dialect text functions context positive u → Types dialect text functions context negative v
      → (b : Bool) → (is_same t bool && is_same u v) ≡ b → OfForm (choice at condition positive negative) (cond b (Ok u) (Err (Mismatch at)))
  of_branches at condition positive negative t u v x y z true e =
      given (choice_type (subst (Types dialect text functions context condition) (same_eq t bool (and_left (is_same t bool) (is_same u v) e)) x) y
      (subst (Types dialect text functions context negative) (sym (same_eq u v (and_right (is_same t bool) (is_same u v) e))) z))
  of_branches at condition positive negative t u v x y z false e =
      violated (choice_mismatch x y z (λ same. let g = and_true (same_of same.0) (same_of same.1) in cc))

  of_literal : (at : ℕ) (items : Trees) (ts : List Ty) → AllTypes dialect text functions context items ts → OfForm (literal at items) (of_items at ts)
  of_literal at items [] all = violated (items_mismatch all (λ h. h))
  of_literal at items (t ∷ ts) all = by_test (all_same t ts) refl
    where
      by_test : (b : Bool) → all_same t ts ≡ b → OfForm (literal at items) (cond b (Ok (seq t)) (Err (Mismatch at)))
      by_test true e = given (literal_type all (all_same_are t ts e))
      by_test false e = violated (items_mismatch all (λ h. let g = all_same_of t ts h in cc))

  of_condition : (at : ℕ) (item condition : Tree) (t u : Ty) → Types dialect text functions context item t → Types dialect text functions context condition u
      → (b : Bool) → is_same u bool ≡ b → OfForm (filter at item condition) (cond b (Ok (seq t)) (Err (Mismatch at)))
  of_condition at item condition t u x y true e = given (filter_type x (subst (Types dialect text functions context condition) (same_eq u bool e) y))
  of_condition at item condition t u x y false e = violated (filter_mismatch x y (λ same. let g = same_of same in cc))

  in_condition : (at : ℕ) (body : Tree) (place : Span) (source : Tree) (others : Binders) (condition : Condition) (items : List InputDeclaration) (t u : Ty)
      → BindersType dialect text functions context [] (binder place source others) items
      → ConditionTypes dialect text functions (names_context items ++ inside context) condition t → Types dialect text functions (names_context items ++ inside context) body u
      → (b : Bool) → is_same t bool ≡ b → OfForm (each at body (binder place source others) condition) (cond b (Ok (seq u)) (Err (Mismatch at)))
  in_condition at body place source others condition items t u bs c y true e =
      given (each_type bs (subst (ConditionTypes dialect text functions (names_context items ++ inside context) condition) (same_eq t bool e) c) y)
  in_condition at body place source others condition items t u bs c y false e = violated (condition_mismatch bs c y (λ same. let g = same_of same in cc))

  of_comprehension : (at : ℕ) (body : Tree) (binders : Binders) (condition : Condition) (items : List InputDeclaration) (t u : Ty)
      → BindersType dialect text functions context [] binders items
      → ConditionTypes dialect text functions (names_context items ++ inside context) condition t → Types dialect text functions (names_context items ++ inside context) body u
      → OfForm (each at body binders condition) (of_each at binders u t)
  of_comprehension at body none_bound condition items t u bs c y = violated (binder_missing bs c y)
  of_comprehension at body (binder place source others) condition items t u bs c y =
      in_condition at body place source others condition items t u bs c y (is_same t bool) refl

  -- a condition's violation is one of the comprehension
  in_each : (at : ℕ) (body : Tree) (binders : Binders) (condition : Condition) (items : List InputDeclaration) (r : Refusal)
      → BindersType dialect text functions context [] binders items → ConditionViolates dialect text functions (names_context items ++ inside context) condition r
      → Violates dialect text functions context (each at body binders condition) r
  in_each at body binders always items r bs v = absurd v
  in_each at body binders (only_where condition) items r bs v = condition_violates bs v

abbrev OfCondition : Dialect → List ℕ → Signatures → Context → Condition → Result Ty Refusal → Type 0
OfCondition dialect text functions context condition r =
    Outcome (ConditionTypes dialect text functions context condition) (ConditionViolates dialect text functions context condition) (ConditionInRange dialect condition) r

mutual
  pub form_sound : (dialect : Dialect) (text : List ℕ) (functions : Signatures) (context : Context) (tree : Tree) →
      OfForm dialect text functions context tree (rule dialect text functions context tree)
  form_sound dialect text functions context (integer at value) = of_integer dialect text functions context at value (is_integer dialect value) refl
  form_sound dialect text functions context (truth at value) = given truth_type
  form_sound dialect text functions context (name place) = of_name dialect text functions context place (found (spelling text place) context) refl
  form_sound dialect text functions context (binary at operator left right) =
      both_outcome _ (sized_outcome dialect text functions context left (form_sound dialect text functions context left))
      (sized_outcome dialect text functions context right (form_sound dialect text functions context right))
      (λ r v. left_violates v) (λ h. h.0) (λ t a r v. right_violates a v) (λ h. h.1)
      (λ t u a b. of_operands dialect text functions context at operator left right t u a b (operator_result operator t u) refl)
  form_sound dialect text functions context (prefix at operator operand) =
      then_outcome _ (sized_outcome dialect text functions context operand (form_sound dialect text functions context operand))
      (λ r v. operand_violates v) (λ h. h) (λ t a. of_operand dialect text functions context at operator operand t a (prefix_result operator t) refl)
  form_sound dialect text functions context (call at function arguments) =
      then_outcome _ (all_sound dialect text functions context [] arguments) (λ r v. argument_violates v) (λ h. h)
      (λ ts all. subst (λ us. OfForm dialect text functions context (call at function arguments) (of_builtin at function us)) (sym all.2)
      (of_call dialect text functions context at function arguments all.0 all.1 (result_of function all.0) refl (tabs_streamed function all.0) refl))
  form_sound dialect text functions context (apply place arguments) =
      then_outcome _ (all_sound dialect text functions context [] arguments) (λ r v. call_violates v) (λ h. h)
      (λ ts all. subst (λ us. OfForm dialect text functions context (apply place arguments) (of_function place us (function_named (spelling text place) functions))) (sym all.2)
      (of_apply dialect text functions context place arguments all.0 all.1 (function_named (spelling text place) functions) refl))
  form_sound dialect text functions context (group at inner) = of_group at inner (sized_outcome dialect text functions context inner (form_sound dialect text functions context inner))
    where
      of_group : (at : ℕ) (inner : Tree) {r : Result Ty Refusal} → OfTree dialect text functions context inner r → OfForm dialect text functions context (group at inner) r
      of_group at inner (given a) = given (group_type a)
      of_group at inner (violated v) = violated (inner_violates v)
      of_group at inner (out_of_range n) = out_of_range n
  form_sound dialect text functions context (pair_tree at first second) =
      both_outcome _ (sized_outcome dialect text functions context first (form_sound dialect text functions context first))
      (sized_outcome dialect text functions context second (form_sound dialect text functions context second))
      (λ r v. first_part_violates v) (λ h. h.0) (λ t a r v. second_part_violates a v) (λ h. h.1) (λ t u a b. given (pair_type a b))
  form_sound dialect text functions context (binding at place value body) =
      then_outcome _ (sized_outcome dialect text functions context value (form_sound dialect text functions context value)) (λ r v. value_violates v) (λ h. h.0)
      (λ t a. of_let t a (sized_outcome dialect text functions (bound (spelling text place) t ∷ context) body (form_sound dialect text functions (bound (spelling text place) t ∷ context) body)))
    where
      of_let : (t : Ty) → Types dialect text functions context value t → {r : Result Ty Refusal} → OfTree dialect text functions (bound (spelling text place) t ∷ context) body r
          → OfForm dialect text functions context (binding at place value body) r
      of_let t a (given b) = given (binding_type a b)
      of_let t a (violated v) = violated (binding_violates a v)
      of_let t a (out_of_range n) = out_of_range (λ h. n h.1)
  form_sound dialect text functions context (choice at condition positive negative) =
      then_outcome _ (sized_outcome dialect text functions context condition (form_sound dialect text functions context condition)) (λ r v. choice_violates v) (λ h. h.0)
      (λ t a. both_outcome _ (sized_outcome dialect text functions context positive (form_sound dialect text functions context positive))
      (sized_outcome dialect text functions context negative (form_sound dialect text functions context negative))
      (λ r v. positive_violates a v) (λ h. h.1) (λ u b r v. negative_violates a b v) (λ h. h.2)
      (λ u v b c. of_branches dialect text functions context at condition positive negative t u v a b c (is_same t bool && is_same u v) refl))
  form_sound dialect text functions context (literal at items) =
      then_outcome _ (all_sound dialect text functions context [] items) (λ r v. item_violates v) (λ h. h)
      (λ ts all. subst (λ us. OfForm dialect text functions context (literal at items) (of_items at us)) (sym all.2) (of_literal dialect text functions context at items all.0 all.1))
  form_sound dialect text functions context (filter at item condition) =
      both_outcome _ (sized_outcome dialect text functions context item (form_sound dialect text functions context item))
      (sized_outcome dialect text functions context condition (form_sound dialect text functions context condition))
      (λ r v. filtered_violates v) (λ h. h.0) (λ t a r v. filter_violates a v) (λ h. h.1)
      (λ t u a b. of_condition dialect text functions context at item condition t u a b (is_same u bool) refl)
  form_sound dialect text functions context (each at body binders condition) =
      then_outcome _ (binders_sound dialect text functions context [] binders) (λ r v. binder_violates v) (λ h. h.0)
      (λ items bs. both_outcome _ (condition_sound dialect text functions (names_context items ++ inside context) condition)
      (sized_outcome dialect text functions (names_context items ++ inside context) body (form_sound dialect text functions (names_context items ++ inside context) body))
      (λ r v. in_each dialect text functions context at body binders condition items r bs v) (λ h. h.1)
      (λ t c r v. body_violates bs c v) (λ h. h.2)
      (λ t u c b. of_comprehension dialect text functions context at body binders condition items t u bs c b))

  pub all_sound : (dialect : Dialect) (text : List ℕ) (functions : Signatures) (context : Context) (earlier : List Ty) (trees : Trees)
      → OfTrees dialect text functions context earlier trees (verdicts dialect text functions context earlier trees)
  all_sound dialect text functions context earlier none = given ([], no_types, sym (append-nil earlier))
  all_sound dialect text functions context earlier (both first others) =
      then_outcome _ (sized_outcome dialect text functions context first (form_sound dialect text functions context first)) (λ r v. first_violates v) (λ h. h.0)
      (λ t a. of_others t a (all_sound dialect text functions context (earlier ++ (t ∷ [])) others))
    where
      of_others : (t : Ty) → Types dialect text functions context first t → {r : Result (List Ty) Refusal} → OfTrees dialect text functions context (earlier ++ (t ∷ [])) others r
          → OfTrees dialect text functions context earlier (both first others) r
      of_others t a (given all) = given (t ∷ all.0, more_types a all.1, all.2 ∙ append_assoc earlier (t ∷ []) all.0)
      of_others t a (violated v) = violated (later_violates a v)
      of_others t a (out_of_range n) = out_of_range (λ h. n h.1)

  pub binders_sound : (dialect : Dialect) (text : List ℕ) (functions : Signatures) (context : Context) (earlier : List InputDeclaration) (binders : Binders)
      → OfBinders dialect text functions context earlier binders (binders_verdict dialect text functions context earlier binders)
  binders_sound dialect text functions context earlier none_bound = given no_binders
  binders_sound dialect text functions context earlier (binder place source others) =
      then_outcome _ (sized_outcome dialect text functions context source (form_sound dialect text functions context source)) (λ r v. source_violates v) (λ h. h.0)
      (λ t a. of_place t a (type_in (spelling text place) earlier) refl (λ item. binders_sound dialect text functions context (earlier ++ ((spelling text place, item) ∷ [])) others))
    where
      go_on : (item : Ty) → Types dialect text functions context source (seq item) → type_in (spelling text place) earlier ≡ None
          → {r : Result (List InputDeclaration) Refusal} → OfBinders dialect text functions context (earlier ++ ((spelling text place, item) ∷ [])) others r
          → OfBinders dialect text functions context earlier (binder place source others) r
      go_on item a e (given bs) = given (more_binders a e bs)
      go_on item a e (violated v) = violated (later_binder_violates a e v)
      go_on item a e (out_of_range n) = out_of_range (λ h. n h.1)

      next : Ty → Result (List InputDeclaration) Refusal
      next item = binders_verdict dialect text functions context (earlier ++ ((spelling text place, item) ∷ [])) others

      of_source : (t : Ty) → Types dialect text functions context source t → type_in (spelling text place) earlier ≡ None
          → ((item : Ty) → OfBinders dialect text functions context (earlier ++ ((spelling text place, item) ∷ [])) others (next item))
          → OfBinders dialect text functions context earlier (binder place source others) (and_then (of_binder place false t) next)
      of_source int a e h = violated (binder_mismatch a e (λ item same. cc))
      of_source bool a e h = violated (binder_mismatch a e (λ item same. cc))
      of_source (pair first second) a e h = violated (binder_mismatch a e (λ item same. cc))
      of_source (vec t) a e h = violated (binder_mismatch a e (λ item same. cc))
      of_source (seq t) a e h = go_on t a e (h t)

      of_place : (t : Ty) → Types dialect text functions context source t → (o : Option Ty) → type_in (spelling text place) earlier ≡ o
          → ((item : Ty) → OfBinders dialect text functions context (earlier ++ ((spelling text place, item) ∷ [])) others (next item))
          → OfBinders dialect text functions context earlier (binder place source others) (and_then (of_binder place (is_some o) t) next)
      of_place t a (Some u) e h = violated (bound_twice a e)
      of_place t a None e h = of_source t a e h

  condition_sound : (dialect : Dialect) (text : List ℕ) (functions : Signatures) (context : Context) (condition : Condition)
      → OfCondition dialect text functions context condition (condition_verdict dialect text functions context condition)
  condition_sound dialect text functions context always = given no_condition
  condition_sound dialect text functions context (only_where tree) = of_only (sized_outcome dialect text functions context tree (form_sound dialect text functions context tree))
    where
      of_only : {r : Result Ty Refusal} → OfTree dialect text functions context tree r → OfCondition dialect text functions context (only_where tree) r
      of_only (given a) = given (condition_type a)
      of_only (violated v) = violated v
      of_only (out_of_range n) = out_of_range n

pub tree_sound : (dialect : Dialect) (text : List ℕ) (functions : Signatures) (context : Context) (tree : Tree) →
    OfTree dialect text functions context tree (verdict dialect text functions context tree)
tree_sound dialect text functions context tree = sized_outcome dialect text functions context tree (form_sound dialect text functions context tree)
