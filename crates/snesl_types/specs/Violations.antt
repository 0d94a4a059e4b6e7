-- Which rule an expression violates first.
use Rattle.std.specs.Prelude.{◌≡◌, ℕ, true, false, List, [], ◌∷◌, ◌++◌, Some, None}
use Rattle.snesl_data.specs.declared.dialect.Dialect.{Dialect}
use Rattle.snesl_data.specs.declared.refusal.Refusal.{Refusal}
use Rattle.snesl_data.specs.declared.refusal.Refusal.TheVariants.{Name, Mismatch, Streamed, TooBig}
use Rattle.snesl_values.specs.Inputs.{InputDeclaration}
use Rattle.snesl_data.specs.Types.{Ty, bool, seq}
use Rattle.snesl_grammar.specs.declared.tree.operator.Builtin.{Builtin}
use Rattle.snesl_grammar.specs.declared.tree.operator.Operator.{Operator}
use Rattle.snesl_grammar.specs.declared.tree.operator.Prefix.{Prefix}
use Rattle.snesl_grammar.specs.declared.tree.span.Span.{Span}
use Rattle.snesl_grammar.specs.tree.Spelling.{spelling}
use Rattle.snesl_grammar.specs.tree.Tree.{Tree, Trees, Binders, Condition, name, binary, prefix, call, apply, group, pair as pair_tree, binding, choice}
use Rattle.snesl_grammar.specs.tree.Tree.{literal, filter, each, both, none_bound, binder, only_where}
use Rattle.snesl_types.specs.Contexts.{shut, Context, bound, names_context, found, inside, type_in, Signature, Signatures, function_named}
use Rattle.snesl_types.specs.Forms.{operator_result, prefix_result, result_of, tabs_streamed}
use Rattle.snesl_types.specs.Sizes.{is_small}
use Rattle.snesl_types.specs.Typing.{AllAre, Types, Gives, AllTypes, BindersType, ConditionTypes}

-- there is a first type, and the others are this type too
abbrev pub AreOneType : List Ty → Type 0
AreOneType [] = ⊥
AreOneType (t ∷ ts) = AllAre t ts

mutual
  -- the first rule that the expression violates, going through its parts from left to right, but through a comprehension's
  -- binders and condition before its body, and then to the form itself
  pub data Violates (dialect : Dialect) (text : List ℕ) (functions : Signatures) : Context → Tree → Refusal → Type 0 where
    -- a type that is too big
    big_type : {context : Context} {tree : Tree} {t : Ty}
        → Gives dialect text functions context tree t → is_small t ≡ false
        → Violates dialect text functions context tree TooBig
    -- a variable that is not bound
    unbound : {context : Context} {place : Span}
        → found (spelling text place) context ≡ None
        → Violates dialect text functions context (name place) (Name place.at)
    -- a variable of a streamed type, bound outside the comprehension in whose body or condition it stands
    streamed : {context : Context} {place : Span}
        → found (spelling text place) context ≡ Some shut
        → Violates dialect text functions context (name place) (Streamed place.at)
    left_violates : {context : Context} {at : ℕ} {operator : Operator} {left right : Tree} {refusal : Refusal}
        → Violates dialect text functions context left refusal
        → Violates dialect text functions context (binary at operator left right) refusal
    right_violates : {context : Context} {at : ℕ} {operator : Operator} {left right : Tree} {t : Ty} {refusal : Refusal}
        → Types dialect text functions context left t → Violates dialect text functions context right refusal
        → Violates dialect text functions context (binary at operator left right) refusal
    -- operands that the operator does not take
    operands_mismatch : {context : Context} {at : ℕ} {operator : Operator} {left right : Tree} {t u : Ty}
        → Types dialect text functions context left t → Types dialect text functions context right u → operator_result operator t u ≡ None
        → Violates dialect text functions context (binary at operator left right) (Mismatch at)
    operand_violates : {context : Context} {at : ℕ} {operator : Prefix} {operand : Tree} {refusal : Refusal}
        → Violates dialect text functions context operand refusal
        → Violates dialect text functions context (prefix at operator operand) refusal
    operand_mismatch : {context : Context} {at : ℕ} {operator : Prefix} {operand : Tree} {t : Ty}
        → Types dialect text functions context operand t → prefix_result operator t ≡ None
        → Violates dialect text functions context (prefix at operator operand) (Mismatch at)
    argument_violates : {context : Context} {at : ℕ} {function : Builtin} {arguments : Trees} {refusal : Refusal}
        → AnyViolates dialect text functions context arguments refusal
        → Violates dialect text functions context (call at function arguments) refusal
    -- arguments of another number or of other types than the built-in takes
    arguments_mismatch : {context : Context} {at : ℕ} {function : Builtin} {arguments : Trees} {ts : List Ty}
        → AllTypes dialect text functions context arguments ts → result_of function ts ≡ None → tabs_streamed function ts ≡ false
        → Violates dialect text functions context (call at function arguments) (Mismatch at)
    -- `tab` of a sequence whose elements are streamed
    tab_streamed : {context : Context} {at : ℕ} {function : Builtin} {arguments : Trees} {ts : List Ty}
        → AllTypes dialect text functions context arguments ts → tabs_streamed function ts ≡ true
        → Violates dialect text functions context (call at function arguments) (Streamed at)
    call_violates : {context : Context} {place : Span} {arguments : Trees} {refusal : Refusal}
        → AnyViolates dialect text functions context arguments refusal
        → Violates dialect text functions context (apply place arguments) refusal
    -- a call of a function that no earlier declaration has
    call_unbound : {context : Context} {place : Span} {arguments : Trees} {ts : List Ty}
        → AllTypes dialect text functions context arguments ts → function_named (spelling text place) functions ≡ None
        → Violates dialect text functions context (apply place arguments) (Name place.at)
    -- arguments of another number or of other types than the parameters
    call_mismatch : {context : Context} {place : Span} {arguments : Trees} {ts : List Ty} {signature : Signature}
        → AllTypes dialect text functions context arguments ts → function_named (spelling text place) functions ≡ Some signature
        → ¬ (ts ≡ signature.parameters)
        → Violates dialect text functions context (apply place arguments) (Mismatch place.at)
    inner_violates : {context : Context} {at : ℕ} {inner : Tree} {refusal : Refusal}
        → Violates dialect text functions context inner refusal → Violates dialect text functions context (group at inner) refusal
    first_part_violates : {context : Context} {at : ℕ} {first second : Tree} {refusal : Refusal}
        → Violates dialect text functions context first refusal
        → Violates dialect text functions context (pair_tree at first second) refusal
    second_part_violates : {context : Context} {at : ℕ} {first second : Tree} {t : Ty} {refusal : Refusal}
        → Types dialect text functions context first t → Violates dialect text functions context second refusal
        → Violates dialect text functions context (pair_tree at first second) refusal
    value_violates : {context : Context} {at : ℕ} {place : Span} {value body : Tree} {refusal : Refusal}
        → Violates dialect text functions context value refusal
        → Violates dialect text functions context (binding at place value body) refusal
    binding_violates : {context : Context} {at : ℕ} {place : Span} {value body : Tree} {t : Ty} {refusal : Refusal}
        → Types dialect text functions context value t
        → Violates dialect text functions (bound (spelling text place) t ∷ context) body refusal
        → Violates dialect text functions context (binding at place value body) refusal
    choice_violates : {context : Context} {at : ℕ} {condition positive negative : Tree} {refusal : Refusal}
        → Violates dialect text functions context condition refusal
        → Violates dialect text functions context (choice at condition positive negative) refusal
    positive_violates : {context : Context} {at : ℕ} {condition positive negative : Tree} {t : Ty} {refusal : Refusal}
        → Types dialect text functions context condition t → Violates dialect text functions context positive refusal
        → Violates dialect text functions context (choice at condition positive negative) refusal
    negative_violates : {context : Context} {at : ℕ} {condition positive negative : Tree} {t u : Ty} {refusal : Refusal}
        → Types dialect text functions context condition t → Types dialect text functions context positive u
        → Violates dialect text functions context negative refusal
        → Violates dialect text functions context (choice at condition positive negative) refusal
    -- a condition that is no truth value, or branches of two types
    choice_mismatch : {context : Context} {at : ℕ} {condition positive negative : Tree} {t u v : Ty}
        → Types dialect text functions context condition t → Types dialect text functions context positive u → Types dialect text functions context negative v
        → ¬ ((t ≡ bool) × (u ≡ v))
        → Violates dialect text functions context (choice at condition positive negative) (Mismatch at)
    item_violates : {context : Context} {at : ℕ} {items : Trees} {refusal : Refusal}
        → AnyViolates dialect text functions context items refusal
        → Violates dialect text functions context (literal at items) refusal
    -- items of several types
    items_mismatch : {context : Context} {at : ℕ} {items : Trees} {ts : List Ty}
        → AllTypes dialect text functions context items ts → ¬ AreOneType ts
        → Violates dialect text functions context (literal at items) (Mismatch at)
    filtered_violates : {context : Context} {at : ℕ} {item condition : Tree} {refusal : Refusal}
        → Violates dialect text functions context item refusal
        → Violates dialect text functions context (filter at item condition) refusal
    filter_violates : {context : Context} {at : ℕ} {item condition : Tree} {t : Ty} {refusal : Refusal}
        → Types dialect text functions context item t → Violates dialect text functions context condition refusal
        → Violates dialect text functions context (filter at item condition) refusal
    -- `{item | condition}` of a condition that is no truth value
    filter_mismatch : {context : Context} {at : ℕ} {item condition : Tree} {t u : Ty}
        → Types dialect text functions context item t → Types dialect text functions context condition u → ¬ (u ≡ bool)
        → Violates dialect text functions context (filter at item condition) (Mismatch at)
    binder_violates : {context : Context} {at : ℕ} {body : Tree} {binders : Binders} {condition : Condition} {refusal : Refusal}
        → BindersViolate dialect text functions context [] binders refusal
        → Violates dialect text functions context (each at body binders condition) refusal
    condition_violates : {context : Context} {at : ℕ} {body : Tree} {binders : Binders} {condition : Tree} {items : List InputDeclaration} {refusal : Refusal}
        → BindersType dialect text functions context [] binders items
        → Violates dialect text functions (names_context items ++ inside context) condition refusal
        → Violates dialect text functions context (each at body binders (only_where condition)) refusal
    body_violates : {context : Context} {at : ℕ} {body : Tree} {binders : Binders} {condition : Condition} {items : List InputDeclaration} {t : Ty} {refusal : Refusal}
        → BindersType dialect text functions context [] binders items
        → ConditionTypes dialect text functions (names_context items ++ inside context) condition t
        → Violates dialect text functions (names_context items ++ inside context) body refusal
        → Violates dialect text functions context (each at body binders condition) refusal
    -- a condition that is no truth value
    condition_mismatch : {context : Context} {at : ℕ} {body : Tree} {binders : Binders} {condition : Condition} {items : List InputDeclaration} {t u : Ty}
        → BindersType dialect text functions context [] binders items
        → ConditionTypes dialect text functions (names_context items ++ inside context) condition t
        → Types dialect text functions (names_context items ++ inside context) body u
        → ¬ (t ≡ bool)
        → Violates dialect text functions context (each at body binders condition) (Mismatch at)
    -- a comprehension without a binder
    binder_missing : {context : Context} {at : ℕ} {body : Tree} {condition : Condition} {items : List InputDeclaration} {t u : Ty}
        → BindersType dialect text functions context [] none_bound items
        → ConditionTypes dialect text functions (names_context items ++ inside context) condition t
        → Types dialect text functions (names_context items ++ inside context) body u
        → Violates dialect text functions context (each at body none_bound condition) (Mismatch at)

  -- the first violation in arguments, or items
  pub data AnyViolates (dialect : Dialect) (text : List ℕ) (functions : Signatures) : Context → Trees → Refusal → Type 0 where
    first_violates : {context : Context} {first : Tree} {others : Trees} {refusal : Refusal}
        → Violates dialect text functions context first refusal
        → AnyViolates dialect text functions context (both first others) refusal
    later_violates : {context : Context} {first : Tree} {others : Trees} {t : Ty} {refusal : Refusal}
        → Types dialect text functions context first t → AnyViolates dialect text functions context others refusal
        → AnyViolates dialect text functions context (both first others) refusal

  -- the first violation in binders after these earlier ones: of a binder first its sequence, then its name, then that it is a sequence
  pub data BindersViolate (dialect : Dialect) (text : List ℕ) (functions : Signatures) : Context → List InputDeclaration → Binders → Refusal → Type 0 where
    source_violates : {context : Context} {earlier : List InputDeclaration} {place : Span} {source : Tree} {others : Binders} {refusal : Refusal}
        → Violates dialect text functions context source refusal
        → BindersViolate dialect text functions context earlier (binder place source others) refusal
    -- a name that an earlier binder of the comprehension has
    bound_twice : {context : Context} {earlier : List InputDeclaration} {place : Span} {source : Tree} {others : Binders} {t u : Ty}
        → Types dialect text functions context source t → type_in (spelling text place) earlier ≡ Some u
        → BindersViolate dialect text functions context earlier (binder place source others) (Name place.at)
    -- a binder over something that is no sequence
    binder_mismatch : {context : Context} {earlier : List InputDeclaration} {place : Span} {source : Tree} {others : Binders} {t : Ty}
        → Types dialect text functions context source t → type_in (spelling text place) earlier ≡ None → ((item : Ty) → ¬ (t ≡ seq item))
        → BindersViolate dialect text functions context earlier (binder place source others) (Mismatch place.at)
    later_binder_violates : {context : Context} {earlier : List InputDeclaration} {place : Span} {source : Tree} {others : Binders} {t : Ty} {refusal : Refusal}
        → Types dialect text functions context source (seq t) → type_in (spelling text place) earlier ≡ None
        → BindersViolate dialect text functions context (earlier ++ ((spelling text place, t) ∷ [])) others refusal
        → BindersViolate dialect text functions context earlier (binder place source others) refusal
