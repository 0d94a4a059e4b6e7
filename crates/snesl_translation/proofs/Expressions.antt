-- Each typed expression means its value.
use Rattle.std.specs.Prelude.{◌≡◌, ℕ, List, [], ◌∷◌, ◌++◌, refl}
use Rattle.std.proofs.Common.{ap, ◌∙◌, subst}
use Rattle.snesl_data.specs.declared.dialect.Dialect.{Dialect}
use Rattle.snesl_data.specs.Types.{Ty, bool}
use Rattle.snesl_data.specs.Values.{Value}
use Rattle.snesl_values.specs.Inputs.{InputDeclaration, Environment}
use Rattle.snesl_grammar.specs.declared.tree.span.Span.{Span}
use Rattle.snesl_grammar.specs.tree.Spelling.{spelling}
use Rattle.snesl_grammar.specs.tree.Tree.{Tree, Trees, both, Binders, binder}
use Rattle.snesl_evaluation.specs.Answer.{Answer, gives, go}
use Rattle.snesl_evaluation.specs.Eval.{Calls, eval}
use Rattle.snesl_types.specs.Contexts.{Context, names_context, inside, Signatures}
use Rattle.snesl_types.specs.Typing.{Types, has_type, Gives, integer_type, truth_type, name_type, binary_type, prefix_type, call_type, apply_type}
use Rattle.snesl_types.specs.Typing.{group_type, pair_type, binding_type, choice_type, literal_type, filter_type, each_type, AllTypes, no_types}
use Rattle.snesl_types.specs.Typing.{more_types, BindersType, no_binders, more_binders, no_condition, condition_type, AllAre}
use Rattle.snesl_translation.specs.Wires.{Wires, Bound}
use Rattle.snesl_translation.specs.Makings.{Making}
use Rattle.snesl_translation.specs.FreeNames.{Names, free}
use Rattle.snesl_translation.specs.Translation.{Bodies, single, followed, tr}
use Rattle.snesl_translation.specs.Sources.{without_items}
use Rattle.snesl_translation.specs.Theorems.{CallsMean, TypedExpressionsMean}
use Rattle.snesl_translation.proofs.BuiltinMeanings.{TreeMeans, TreesMean, prefix_means, binary_means, builtin_means}
use Rattle.snesl_translation.proofs.PlainMeanings.{integer_means, truth_means, variable_means, pair_tree_means, let_means, no_arguments_mean, arguments_mean, apply_means}
use Rattle.snesl_translation.proofs.Borne.{AreOpen}
use Rattle.snesl_translation.proofs.UsableNames.{binder_items, free_are_open, both_open}
use Rattle.snesl_translation.proofs.FormMeanings.{filter_tree_means, ItemsMean, FurtherMean, SequenceMeans, first_item_means, literal_means}
use Rattle.snesl_translation.proofs.FormMeanings.{no_further_mean, with_item, item_followed, more_further_mean, BindersMean, no_binders_mean}
use Rattle.snesl_translation.proofs.FormMeanings.{binder_means, each_tree_means, each_where_tree_means}
use Rattle.snesl_translation.proofs.Choices.{choice_means}

-- the first item of a comprehension's binders, and the others
first_item : {dialect : Dialect} {text : List ℕ} {functions : Signatures} {context : Context} {earlier all : List InputDeclaration} {place : Span} {source : Tree} {others : Binders}
    (h : BindersType dialect text functions context earlier (binder place source others) all) → (item : InputDeclaration) × (items : List InputDeclaration) × ((binder_items h).0 ≡ item ∷ items)
first_item {text = text} {place = place} (more_binders {t = t} h new rest) = ((spelling text place, t), (binder_items rest).0, refl)

module _ (dialect : Dialect) (text : List ℕ) (functions : Signatures) (calls : Calls) (bodies : Bodies) (mean : CallsMean functions calls bodies) where
  mutual
    typed_means : {context : Context} {tree : Tree} {t : Ty} → Types dialect text functions context tree t → TreeMeans dialect text calls bodies context tree t
    typed_means (has_type h small) = form_means h

    form_means : {context : Context} {tree : Tree} {t : Ty} → Gives dialect text functions context tree t → TreeMeans dialect text calls bodies context tree t
    form_means (integer_type {context = context} {at = at} {value = value} range) = integer_means dialect text calls bodies context at value
    form_means (truth_type {context = context} {at = at} {value = value}) = truth_means dialect text calls bodies context at value
    form_means (name_type {context = context} {place = place} {t = t} is) = variable_means dialect text calls bodies context place t is
    form_means (binary_type {context = context} {at = at} {operator = operator} {left = left} {right = right} {t = r} {u = s} {v = t} h g is) =
        binary_means dialect text calls bodies context at operator left right r s t is (typed_means h) (typed_means g)
    form_means (prefix_type {context = context} {at = at} {operator = operator} {operand = operand} {t = s} {u = t} h is) =
        prefix_means dialect text calls bodies context at operator operand s t is (typed_means h)
    form_means (call_type {context = context} {at = at} {function = function} {arguments = arguments} {ts = ts} {t = t} h is) =
        builtin_means dialect text calls bodies context at function arguments ts t is (all_mean h)
    form_means (apply_type {context = context} {place = place} {arguments = arguments} {signature = signature} h is) =
        apply_means dialect text calls bodies context functions place arguments signature mean is (all_mean h)
    form_means (group_type h) = typed_means h
    form_means (pair_type {context = context} {at = at} {first = first} {second = second} {t = s} {u = t} h g) =
        pair_tree_means dialect text calls bodies context at first second s t (typed_means h) (typed_means g)
    form_means (binding_type {context = context} {at = at} {place = place} {value = value} {body = body} {t = s} {u = t} h g) =
        let_means dialect text calls bodies context at place value body s t (typed_means h) (typed_means g)
    form_means (choice_type {context = context} {at = at} {condition = condition} {positive = positive} {negative = negative} {t = t} h g k) =
        choice_means dialect context at t (free text condition) (free text positive) (free text negative) (tr dialect text bodies condition)
        (tr dialect text bodies positive) (tr dialect text bodies negative)
        (λ environment. eval dialect condition text calls environment) (λ environment. eval dialect positive text calls environment) (λ environment. eval dialect negative text calls environment)
        (free_are_open g) (free_are_open k) (typed_means h) (typed_means g) (typed_means k)
    form_means (literal_type {context = context} {at = at} {items = items} {t = t} h same) = items_mean at h same
    form_means (filter_type {context = context} {at = at} {item = item} {condition = condition} {t = t} h g) =
        filter_tree_means dialect text calls bodies context at item condition t (free_are_open h) (typed_means h) (typed_means g)
    form_means (each_type {context = context} {at = at} {body = body} {place = place} {source = source} {others = others} {items = items} {t = t} hb no_condition h) =
        let p = binder_items hb in
        let binders = binder place source others in
        let inner = typed_means h in
        let first = first_item hb in
        let same : items ≡ first.0 ∷ first.1 = p.1 ∙ first.2 in
        let named = p.2 (free text body) ∙ ap (λ l. without_items l (free text body)) first.2 in
        let sources : BindersMean dialect text calls bodies context binders (first.0 ∷ first.1) = subst (BindersMean dialect text calls bodies context binders) first.2 (sources_mean hb) in
        each_tree_means dialect text calls bodies context at body binders first.0 first.1 t named
        (subst (λ l. AreOpen (free text body) (names_context l ++ inside context)) same (free_are_open h)) sources
        (subst (λ l. TreeMeans dialect text calls bodies (names_context l ++ inside context) body t) same inner)
    form_means (each_type {context = context} {at = at} {body = body} {place = place} {source = source} {others = others} {items = items} {t = t} hb (condition_type {condition = condition} hc) h) =
        let p = binder_items hb in
        let binders = binder place source others in
        let first = first_item hb in
        let same : items ≡ first.0 ∷ first.1 = p.1 ∙ first.2 in
        let names = free text condition ++ free text body in
        let named = p.2 names ∙ ap (λ l. without_items l names) first.2 in
        let sources : BindersMean dialect text calls bodies context binders (first.0 ∷ first.1) = subst (BindersMean dialect text calls bodies context binders) first.2 (sources_mean hb) in
        each_where_tree_means dialect text calls bodies context at body binders condition first.0 first.1 t named
        (subst (λ l. AreOpen names (names_context l ++ inside context)) same
        (both_open (free text condition) (free text body) (names_context items ++ inside context) (free_are_open hc) (free_are_open h)))
        (subst (λ l. AreOpen (free text body) (names_context l ++ inside context)) same (free_are_open h)) sources
        (subst (λ l. TreeMeans dialect text calls bodies (names_context l ++ inside context) condition bool) same (typed_means hc))
        (subst (λ l. TreeMeans dialect text calls bodies (names_context l ++ inside context) body t) same (typed_means h))

    items_mean : {context : Context} {trees : Trees} {t : Ty} {ts : List Ty} (at : ℕ) → AllTypes dialect text functions context trees (t ∷ ts) →
        AllAre t ts → ItemsMean dialect text calls bodies context at trees t
    items_mean at (more_types {context = context} {first = first} {others = others} {t = t} h rest) same =
        literal_means dialect text calls bodies context at first others t
        (further_mean at t (single at (free text first) (tr dialect text bodies first)) (λ environment. go (eval dialect first text calls environment) (λ v. gives (v ∷ []))) (free text first)
        (first_item_means dialect text calls bodies context at first t (free_are_open h) (typed_means h)) rest same)

    -- items after a sequence that means this
    further_mean : {context : Context} {trees : Trees} {ts : List Ty} (at : ℕ) (t : Ty) (sequence : Bound → ℕ → ℕ → Making Wires) (before : Environment → Answer (List Value)) (names : Names)
        → SequenceMeans dialect text calls bodies context sequence before names t → AllTypes dialect text functions context trees ts → AllAre t ts
        → FurtherMean dialect text calls bodies context at sequence before names trees t
    further_mean at t sequence before names means (no_types {context = context}) same = no_further_mean dialect text calls bodies context at sequence before names t means
    further_mean at t sequence before names means (more_types {context = context} {first = item} {others = others} h rest) (e, same) =
        let item_means : TreeMeans dialect text calls bodies context item t = subst (TreeMeans dialect text calls bodies context item) e (typed_means h) in
        more_further_mean dialect text calls bodies context at sequence before names item others t
        (further_mean at t (followed at sequence (free text item) (tr dialect text bodies item)) (with_item dialect text calls bodies context before item) (names ++ free text item)
        (item_followed dialect text calls bodies context at sequence before names item t (free_are_open h) means item_means) rest same)

    sources_mean : {context : Context} {earlier all : List InputDeclaration} {binders : Binders} (h : BindersType dialect text functions context earlier binders all)
        → BindersMean dialect text calls bodies context binders (binder_items h).0
    sources_mean (no_binders {context = context}) = no_binders_mean dialect text calls bodies context
    sources_mean (more_binders {context = context} {place = place} {source = source} {others = others} {t = t} h new rest) =
        binder_means dialect text calls bodies context place source others t (binder_items rest).0 (typed_means h) (sources_mean rest)

    all_mean : {context : Context} {trees : Trees} {ts : List Ty} → AllTypes dialect text functions context trees ts → TreesMean dialect text calls bodies context trees ts
    all_mean (no_types {context = context}) = no_arguments_mean dialect text calls bodies context
    all_mean (more_types {context = context} {first = first} {others = others} {t = t} {ts = ts} h g) = arguments_mean dialect text calls bodies context first others t ts (typed_means h) (all_mean g)

pub expressions_mean : TypedExpressionsMean
expressions_mean dialect text functions calls bodies context tree t mean typed = typed_means dialect text functions calls bodies mean typed
