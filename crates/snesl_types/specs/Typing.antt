-- Which expressions have a type.
use Rattle.std.specs.Prelude.{◌≡◌, ℕ, ℤ, Bool, true, List, [], ◌∷◌, ◌++◌, Some, None}
use Rattle.snesl_data.specs.declared.dialect.Dialect.{Dialect}
use Rattle.snesl_data.specs.Integers.{IsInteger}
use Rattle.snesl_values.specs.Inputs.{InputDeclaration}
use Rattle.snesl_data.specs.Types.{Ty, int, bool, pair, seq}
use Rattle.snesl_grammar.specs.declared.tree.operator.Builtin.{Builtin}
use Rattle.snesl_grammar.specs.declared.tree.operator.Operator.{Operator}
use Rattle.snesl_grammar.specs.declared.tree.operator.Prefix.{Prefix}
use Rattle.snesl_grammar.specs.declared.tree.span.Span.{Span}
use Rattle.snesl_grammar.specs.tree.Spelling.{spelling}
use Rattle.snesl_grammar.specs.tree.Tree.{Tree, Trees, Binders, Condition, integer, truth, name, binary, prefix, call, apply, group, pair as pair_tree}
use Rattle.snesl_grammar.specs.tree.Tree.{binding, choice, literal, filter, each, none, both, none_bound, binder, always, only_where}
use Rattle.snesl_types.specs.Contexts.{open_to, Context, bound, names_context, found, inside, type_in, Signature, Signatures, function_named}
use Rattle.snesl_types.specs.Forms.{operator_result, prefix_result, result_of}
use Rattle.snesl_types.specs.Sizes.{is_small}

-- each of these types is this one
abbrev pub AllAre : Ty → List Ty → Type 0
AllAre t [] = Unit {0}
AllAre t (u ∷ us) = (u ≡ t) × AllAre t us

mutual
  -- the expression has this type where variables stand for these bindings and these functions can be called;
  -- names are spelled as the text has them
  pub data Types (dialect : Dialect) (text : List ℕ) (functions : Signatures) : Context → Tree → Ty → Type 0 where
    has_type : {context : Context} {tree : Tree} {t : Ty}
        → Gives dialect text functions context tree t → is_small t ≡ true
        → Types dialect text functions context tree t

  -- by the rule of its form the expression has this type, whatever the type's size
  pub data Gives (dialect : Dialect) (text : List ℕ) (functions : Signatures) : Context → Tree → Ty → Type 0 where
    integer_type : {context : Context} {at : ℕ} {value : ℤ} → IsInteger dialect value → Gives dialect text functions context (integer at value) int
    truth_type : {context : Context} {at : ℕ} {value : Bool} → Gives dialect text functions context (truth at value) bool
    name_type : {context : Context} {place : Span} {t : Ty}
        → found (spelling text place) context ≡ Some (open_to t)
        → Gives dialect text functions context (name place) t
    binary_type : {context : Context} {at : ℕ} {operator : Operator} {left right : Tree} {t u v : Ty}
        → Types dialect text functions context left t → Types dialect text functions context right u → operator_result operator t u ≡ Some v
        → Gives dialect text functions context (binary at operator left right) v
    prefix_type : {context : Context} {at : ℕ} {operator : Prefix} {operand : Tree} {t u : Ty}
        → Types dialect text functions context operand t → prefix_result operator t ≡ Some u
        → Gives dialect text functions context (prefix at operator operand) u
    call_type : {context : Context} {at : ℕ} {function : Builtin} {arguments : Trees} {ts : List Ty} {t : Ty}
        → AllTypes dialect text functions context arguments ts → result_of function ts ≡ Some t
        → Gives dialect text functions context (call at function arguments) t
    apply_type : {context : Context} {place : Span} {arguments : Trees} {signature : Signature}
        → AllTypes dialect text functions context arguments signature.parameters
        → function_named (spelling text place) functions ≡ Some signature
        → Gives dialect text functions context (apply place arguments) signature.result
    group_type : {context : Context} {at : ℕ} {inner : Tree} {t : Ty}
        → Types dialect text functions context inner t → Gives dialect text functions context (group at inner) t
    pair_type : {context : Context} {at : ℕ} {first second : Tree} {t u : Ty}
        → Types dialect text functions context first t → Types dialect text functions context second u
        → Gives dialect text functions context (pair_tree at first second) (pair t u)
    binding_type : {context : Context} {at : ℕ} {place : Span} {value body : Tree} {t u : Ty}
        → Types dialect text functions context value t
        → Types dialect text functions (bound (spelling text place) t ∷ context) body u
        → Gives dialect text functions context (binding at place value body) u
    choice_type : {context : Context} {at : ℕ} {condition positive negative : Tree} {t : Ty}
        → Types dialect text functions context condition bool
        → Types dialect text functions context positive t → Types dialect text functions context negative t
        → Gives dialect text functions context (choice at condition positive negative) t
    literal_type : {context : Context} {at : ℕ} {items : Trees} {t : Ty} {ts : List Ty}
        → AllTypes dialect text functions context items (t ∷ ts) → AllAre t ts
        → Gives dialect text functions context (literal at items) (seq t)
    filter_type : {context : Context} {at : ℕ} {item condition : Tree} {t : Ty}
        → Types dialect text functions context item t → Types dialect text functions context condition bool
        → Gives dialect text functions context (filter at item condition) (seq t)
    -- there is a binder; the condition and the body see the outer names as from inside, and the binders' names
    each_type : {context : Context} {at : ℕ} {body : Tree} {place : Span} {source : Tree} {others : Binders} {condition : Condition}
        {items : List InputDeclaration} {t : Ty}
        → BindersType dialect text functions context [] (binder place source others) items
        → ConditionTypes dialect text functions (names_context items ++ inside context) condition bool
        → Types dialect text functions (names_context items ++ inside context) body t
        → Gives dialect text functions context (each at body (binder place source others) condition) (seq t)

  -- these arguments, or items, have these types
  pub data AllTypes (dialect : Dialect) (text : List ℕ) (functions : Signatures) : Context → Trees → List Ty → Type 0 where
    no_types : {context : Context} → AllTypes dialect text functions context none []
    more_types : {context : Context} {first : Tree} {others : Trees} {t : Ty} {ts : List Ty}
        → Types dialect text functions context first t → AllTypes dialect text functions context others ts
        → AllTypes dialect text functions context (both first others) (t ∷ ts)

  -- after the earlier binders of their comprehension, the binders have these names with the types of their elements,
  -- the earlier ones first; a sequence sees none of these names
  pub data BindersType (dialect : Dialect) (text : List ℕ) (functions : Signatures) : Context → List InputDeclaration → Binders → List InputDeclaration → Type 0 where
    no_binders : {context : Context} {earlier : List InputDeclaration} → BindersType dialect text functions context earlier none_bound earlier
    more_binders : {context : Context} {earlier all : List InputDeclaration} {place : Span} {source : Tree} {others : Binders} {t : Ty}
        → Types dialect text functions context source (seq t)
        → type_in (spelling text place) earlier ≡ None
        → BindersType dialect text functions context (earlier ++ ((spelling text place, t) ∷ [])) others all
        → BindersType dialect text functions context earlier (binder place source others) all

  -- the condition has this type; where there is none, that of a truth value
  pub data ConditionTypes (dialect : Dialect) (text : List ℕ) (functions : Signatures) : Context → Condition → Ty → Type 0 where
    no_condition : {context : Context} → ConditionTypes dialect text functions context always bool
    condition_type : {context : Context} {condition : Tree} {t : Ty}
        → Types dialect text functions context condition t → ConditionTypes dialect text functions context (only_where condition) t
