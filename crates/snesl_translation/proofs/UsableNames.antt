-- The free names of a typed expression may be used in its context, and the names of binders are those of their items.
use Rattle.std.specs.Prelude.{◌≡◌, ℕ, Bool, true, false, ◌||◌, List, [], ◌∷◌, ◌++◌, Some, refl}
use Rattle.std.specs.Str.{bytes_eq}
use Rattle.std.proofs.Common.{sym, ap, ◌∙◌, subst, inl, inr, ◌⊎◌, ⊎_elim, append_assoc, append-nil}
use Rattle.std.proofs.lemmas.Slice.Eq.{bytes_eq-Decides}
use Rattle.snesl_data.specs.declared.dialect.Dialect.{Dialect}
use Rattle.snesl_data.specs.Types.{Ty}
use Rattle.snesl_values.specs.Inputs.{InputDeclaration}
use Rattle.snesl_grammar.specs.tree.Spelling.{spelling}
use Rattle.snesl_grammar.specs.tree.Tree.{Tree, Trees, Binders, binder, Condition}
use Rattle.snesl_types.specs.Contexts.{open_to, Context, found, names_context, inside, Signatures}
use Rattle.snesl_types.specs.Typing.{Types, has_type, Gives, integer_type, truth_type, name_type, binary_type, prefix_type, call_type, apply_type}
use Rattle.snesl_types.specs.Typing.{group_type, pair_type, binding_type, choice_type, literal_type, filter_type, each_type, AllTypes, no_types}
use Rattle.snesl_types.specs.Typing.{more_types, BindersType, no_binders, more_binders, ConditionTypes, no_condition, condition_type}
use Rattle.snesl_translation.specs.FreeNames.{Names, is_among, without, without_binders, free, free_of_all, free_of_sources, free_of_condition}
use Rattle.snesl_translation.specs.Sources.{without_items}
use Rattle.snesl_translation.proofs.Borne.{AreOpen, found_outside}
use Rattle.snesl_translation.proofs.Comprehensions.{open_after}

among_either : (bytes : List ℕ) (names others : Names) → is_among bytes (names ++ others) ≡ true → (is_among bytes names ≡ true) ⊎ (is_among bytes others ≡ true)
among_either bytes [] others h = inr h
among_either bytes (name ∷ names) others h = by_case (bytes_eq bytes name) h (among_either bytes names others)
  where
    by_case : (b : Bool) → b || is_among bytes (names ++ others) ≡ true → (is_among bytes (names ++ others) ≡ true → (is_among bytes names ≡ true) ⊎ (is_among bytes others ≡ true))
        → (b || is_among bytes names ≡ true) ⊎ (is_among bytes others ≡ true)
    by_case true h rest = inl refl
    by_case false h rest = rest h

none_open : (context : Context) → AreOpen [] context
none_open context bytes among = absurd (cc)

pub both_open : (names others : Names) (context : Context) → AreOpen names context → AreOpen others context → AreOpen (names ++ others) context
both_open names others context h g bytes among = ⊎_elim (h bytes) (g bytes) (among_either bytes names others among)

one_open : (name : List ℕ) (context : Context) (t : Ty) → found name context ≡ Some (open_to t) → AreOpen (name ∷ []) context
one_open name context t is bytes among = by_case (bytes_eq bytes name) refl among
  where
    by_case : (b : Bool) → bytes_eq bytes name ≡ b → b || false ≡ true → (t : Ty) × (found bytes context ≡ Some (open_to t))
    by_case true e among = let same : bytes ≡ name = (bytes_eq-Decides bytes name).0 e in (t, ap (λ n. found n context) same ∙ is)
    by_case false e among = absurd (cc)

outside_open : (names : Names) (context : Context) → AreOpen names (inside context) → AreOpen names context
outside_open names context h bytes among = let o = h bytes among in (o.0, (found_outside bytes context o.0 o.1).0)

module _ {dialect : Dialect} {text : List ℕ} {functions : Signatures} where
  -- the items of binders after others
  abbrev pub binder_items : {context : Context} {earlier all : List InputDeclaration} {binders : Binders} → BindersType dialect text functions context earlier binders all
      → (items : List InputDeclaration) × (all ≡ earlier ++ items) × ((names : Names) → without_binders text binders names ≡ without_items items names)
  binder_items (no_binders {earlier = earlier}) = ([], sym (append-nil earlier), λ names. refl)
  binder_items (more_binders {earlier = earlier} {place = place} {t = t} h new rest) =
      let p = binder_items rest in
      let name = spelling text place in
      ((name, t) ∷ p.0, p.1 ∙ append_assoc earlier ((name, t) ∷ []) p.0, λ names. ap (without name) (p.2 names))

  mutual
    pub free_are_open : {context : Context} {tree : Tree} {t : Ty} → Types dialect text functions context tree t → AreOpen (free text tree) context
    free_are_open (has_type h small) = form_open h

    form_open : {context : Context} {tree : Tree} {t : Ty} → Gives dialect text functions context tree t → AreOpen (free text tree) context
    form_open (integer_type {context = context} range) = none_open context
    form_open (truth_type {context = context}) = none_open context
    form_open (name_type {context = context} {place = place} {t = t} is) = one_open (spelling text place) context t is
    form_open (binary_type {context = context} {left = left} {right = right} h g is) = both_open (free text left) (free text right) context (free_are_open h) (free_are_open g)
    form_open (prefix_type h is) = free_are_open h
    form_open (call_type h is) = all_open h
    form_open (apply_type h is) = all_open h
    form_open (group_type h) = free_are_open h
    form_open (pair_type {context = context} {first = first} {second = second} h g) = both_open (free text first) (free text second) context (free_are_open h) (free_are_open g)
    form_open (binding_type {context = context} {place = place} {value = value} {body = body} {t = s} h g) =
        let name = spelling text place in
        both_open (free text value) (without name (free text body)) context (free_are_open h) (open_after ((name, s) ∷ []) (free text body) context (free_are_open g))
    form_open (choice_type {context = context} {condition = condition} {positive = positive} {negative = negative} h g k) =
        both_open (free text condition) (free text positive ++ free text negative) context (free_are_open h)
        (both_open (free text positive) (free text negative) context (free_are_open g) (free_are_open k))
    form_open (literal_type h same) = all_open h
    form_open (filter_type {context = context} {item = item} {condition = condition} h g) = both_open (free text condition) (free text item) context (free_are_open g) (free_are_open h)
    form_open (each_type {context = context} {body = body} {place = place} {source = source} {others = others} {condition = condition} {items = items} hb hc h) =
        let p = binder_items hb in
        let names = free_of_condition text condition ++ free text body in
        let inner : AreOpen names (names_context items ++ inside context) =
        both_open (free_of_condition text condition) (free text body) (names_context items ++ inside context) (condition_open hc) (free_are_open h)
        in
        let outer : AreOpen (without_items items names) context = outside_open (without_items items names) context (open_after items names (inside context) inner) in
        let same : without_items items names ≡ without_binders text (binder place source others) names = ap (λ l. without_items l names) p.1 ∙ sym (p.2 names) in
        both_open (free_of_sources text (binder place source others)) (without_binders text (binder place source others) names) context (sources_open hb) (subst (λ l. AreOpen l context) same outer)

    all_open : {context : Context} {trees : Trees} {ts : List Ty} → AllTypes dialect text functions context trees ts → AreOpen (free_of_all text trees) context
    all_open (no_types {context = context}) = none_open context
    all_open (more_types {context = context} {first = first} {others = others} h g) = both_open (free text first) (free_of_all text others) context (free_are_open h) (all_open g)

    sources_open : {context : Context} {earlier all : List InputDeclaration} {binders : Binders} →
        BindersType dialect text functions context earlier binders all → AreOpen (free_of_sources text binders) context
    sources_open (no_binders {context = context}) = none_open context
    sources_open (more_binders {context = context} {source = source} {others = others} h new rest) =
        both_open (free text source) (free_of_sources text others) context (free_are_open h) (sources_open rest)

    condition_open : {context : Context} {condition : Condition} {t : Ty} → ConditionTypes dialect text functions context condition t → AreOpen (free_of_condition text condition) context
    condition_open (no_condition {context = context}) = none_open context
    condition_open (condition_type h) = free_are_open h
