-- Each typed expression makes streams of its type.
use Rattle.std.specs.Prelude.{◌≡◌, ℕ, true, ◌||◌, false, List, [], ◌∷◌, ◌++◌, length, Some, refl}
use Rattle.std.proofs.Common.{sym, ap, subst, append-nil, append_assoc}
use Rattle.std.proofs.lemmas.Slice.Eq.{bytes_eq-Decides}
use Rattle.snesl_data.specs.declared.dialect.Dialect.{Dialect}
use Rattle.snesl_data.specs.Types.{Ty, int, bool, pair, seq}
use Rattle.snesl_values.specs.Inputs.{InputDeclaration}
use Rattle.snesl_grammar.specs.declared.tree.span.Span.{Span}
use Rattle.snesl_grammar.specs.tree.Spelling.{spelling}
use Rattle.snesl_grammar.specs.tree.Tree.{Tree, Trees, both, Binders, binder}
use Rattle.snesl_types.specs.Contexts.{Context, names_context, inside, Signature, Signatures, function_named}
use Rattle.snesl_types.specs.Typing.{Types, has_type, Gives, integer_type, truth_type, name_type, binary_type, prefix_type, call_type, apply_type}
use Rattle.snesl_types.specs.Typing.{group_type, pair_type, binding_type, choice_type, literal_type, filter_type, each_type, AllTypes, no_types}
use Rattle.snesl_types.specs.Typing.{more_types, BindersType, no_binders, more_binders, no_condition, condition_type, AllAre}
use Rattle.flow_messages.specs.declared.message.Kind.{Kind}
use Rattle.flow_messages.specs.declared.message.Kind.TheVariants.{Unit as UnitKind, Bool as BoolKind}
use Rattle.snesl_translation.specs.Wires.{Wires, two, segments, stream_of, Bound}
use Rattle.snesl_translation.specs.Makings.{Making, done, and_then}
use Rattle.snesl_translation.specs.FreeNames.{Names, is_among, without_binders, free, free_of_all, free_of_sources}
use Rattle.snesl_translation.specs.Translation.{Bodies, Sources, first_flags, binary_streams, appended, filtered, single, followed, concatenated, tr, tr_all, tr_items, tr_further, tr_binders}
use Rattle.snesl_translation.proofs.Borne.{AreOpen}
use Rattle.snesl_translation.proofs.UsableNames.{binder_items, free_are_open, both_open}
use Rattle.snesl_translation.proofs.OfWiring.Fitting.{Stream, stream_on, further, no_reads, more_reads, fits_two, fits_segments, fits_on, flags_fit, stream_fits}
use Rattle.snesl_translation.proofs.OfWiring.Making.{IsMade, Makes, done_made, then_made, stepped_made}
use Rattle.snesl_translation.proofs.OfWiring.Bearing.{Bears, AlwaysMakes, bears_on, bears_left, bears_right}
use Rattle.snesl_translation.proofs.OfWiring.Forms.{appended_made, concatenated_made, filtered_made, single_made}
use Rattle.snesl_translation.proofs.OfWiring.Builtins.{AllFit, none_fit, more_fit, binary_made, prefix_made, builtin_made}
use Rattle.snesl_translation.proofs.OfWiring.Choices.{two_made, let_made, choice_made}
use Rattle.snesl_translation.proofs.OfWiring.Comprehensions.{SourcesFit, no_sources, more_sources, SourcesMake, comprehension_made}

-- the bodies of these functions make streams of their results' types of arguments that fit their parameters
abbrev pub CallsMake : Signatures → Bodies → Type 0
CallsMake functions bodies =
    (kinds : List Kind) (at : ℕ) (bytes : List ℕ) (signature : Signature) (arguments : List Wires) (control : ℕ)
    → function_named bytes functions ≡ Some signature → AllFit kinds signature.parameters arguments → Stream kinds control UnitKind
    → Makes kinds signature.result (bodies at bytes arguments control (length kinds))

among_one : (bytes : List ℕ) → is_among bytes (bytes ∷ []) ≡ true
among_one bytes = ap (λ b. b || false) ((bytes_eq-Decides bytes bytes).1 refl)

-- where there is a binder, the first source has flags
first_flagged : {dialect : Dialect} {text : List ℕ} {functions : Signatures} {context : Context} {earlier all : List InputDeclaration} {place : Span}
    {source : Tree} {others : Binders} {kinds : List Kind} {us : Sources}
    (h : BindersType dialect text functions context earlier (binder place source others) all) → SourcesFit kinds us (binder_items h).0 → Stream kinds (first_flags us) BoolKind
first_flagged (more_binders h new rest) (more_sources fit fits) = flags_fit fit

module _ (dialect : Dialect) (text : List ℕ) (functions : Signatures) (bodies : Bodies) (calls : CallsMake functions bodies) where
  abbrev TreeMakes : Context → Tree → Ty → Type 0
  TreeMakes context tree t = AlwaysMakes (tr dialect text bodies tree) (free text tree) context t

  abbrev ItemsMake : Context → ℕ → Trees → Ty → Type 0
  ItemsMake context at trees t = AlwaysMakes (tr_items dialect text bodies at trees) (free_of_all text trees) context (seq t)

  mutual
    pub typed_made : {context : Context} {tree : Tree} {t : Ty} → Types dialect text functions context tree t → TreeMakes context tree t
    typed_made (has_type h small) = form_made h

    form_made : {context : Context} {tree : Tree} {t : Ty} → Gives dialect text functions context tree t → TreeMakes context tree t
    form_made (integer_type range) = λ kinds bound control bears units. stepped_made int (more_reads units no_reads) refl
    form_made truth_type = λ kinds bound control bears units. stepped_made bool (more_reads units no_reads) refl
    form_made (name_type {place = place} {t = t} is) = λ kinds bound control bears units. done_made (bears.fits (spelling text place) t (among_one (spelling text place)) is)
    form_made (binary_type {context = context} {at = at} {operator = operator} {left = left} {right = right} {t = s} {u = r} {v = t} h g is) =
        two_made context (free text left) (free text right) s r t (tr dialect text bodies left) (tr dialect text bodies right)
        (λ u v k. binary_streams dialect at operator u v k) (typed_made h) (typed_made g)
        (λ kinds u v fu fv. binary_made dialect at operator s r t is fu fv)
    form_made (prefix_type {at = at} {operator = operator} {t = s} {u = t} h is) = λ kinds bound control bears units.
        then_made _ (typed_made h kinds bound control bears units) (λ on more u fu. prefix_made dialect at operator s t is fu)
    form_made (call_type {at = at} {function = function} {ts = ts} {t = t} h is) = λ kinds bound control bears units.
        then_made _ (all_made h kinds bound control bears units) (λ on more us fits. builtin_made dialect at function ts t is fits)
    form_made (apply_type {place = place} {signature = signature} h is) = λ kinds bound control bears units.
        then_made _ (all_made h kinds bound control bears units) (λ on more us fits. calls on place.at (spelling text place) signature us control is fits (stream_on more units))
    form_made (group_type h) = typed_made h
    form_made (pair_type {context = context} {first = first} {second = second} {t = s} {u = t} h g) =
        two_made context (free text first) (free text second) s t (pair s t) (tr dialect text bodies first) (tr dialect text bodies second)
        (λ u v k. done (two u v) k) (typed_made h) (typed_made g) (λ kinds u v fu fv. done_made (fits_two fu fv))
    form_made (binding_type {context = context} {place = place} {value = value} {body = body} {t = s} {u = t} h g) =
        let_made context (free text value) (free text body) (spelling text place) s t (tr dialect text bodies value) (tr dialect text bodies body) (typed_made h) (typed_made g)
    form_made (choice_type {context = context} {at = at} {condition = condition} {positive = positive} {negative = negative} {t = t} h g k) =
        choice_made context dialect at t (free text condition) (free text positive) (free text negative) (tr dialect text bodies condition)
        (tr dialect text bodies positive) (tr dialect text bodies negative)
        (free_are_open g) (free_are_open k) (typed_made h) (typed_made g) (typed_made k)
    form_made (literal_type {at = at} h same) = items_made at h same
    form_made (filter_type {context = context} {at = at} {item = item} {condition = condition} {t = t} h g) = λ kinds bound control bears units.
        then_made _ (typed_made g kinds bound control (bears_left (free text condition) (free text item) bears) units) (λ on more d fd.
        filtered_made at context (free text item) t (tr dialect text bodies item) (free_are_open h) (typed_made h) on bound (stream_of d)
        (bears_on more (bears_right (free text condition) (free text item) bears)) (stream_fits fd tt))
    form_made (each_type {context = context} {at = at} {body = body} {place = place} {source = source} {others = others} {t = t} hb no_condition h) =
        let p = binder_items hb in
        let binders = binder place source others in
        let inner : TreeMakes (names_context p.0 ++ inside context) body t = subst (λ l. TreeMakes (names_context l ++ inside context) body t) p.1 (typed_made h) in
        comprehension_made at context p.0 (free_of_sources text binders) (without_binders text binders (free text body)) (free text body) (seq t) (tr_binders dialect text bodies binders)
        (λ f b c k. and_then (tr dialect text bodies body b c k) (λ w k. done (segments f w) k))
        (subst (λ l. AreOpen (free text body) (names_context l ++ inside context)) p.1 (free_are_open h)) (p.2 (free text body)) (sources_made hb) (λ kinds us fit. first_flagged hb fit)
        (λ f kinds b c there bears units. then_made _ (inner kinds b c bears units) (λ on more w fw. done_made (fits_segments (stream_on more there) fw)))
    form_made (each_type {context = context} {at = at} {body = body} {place = place} {source = source} {others = others} {items = items} {t = t} hb (condition_type {condition = condition} hc) h) =
        let p = binder_items hb in
        let binders = binder place source others in
        let names = free text condition ++ free text body in
        let within = names_context p.0 ++ inside context in
        let tests : TreeMakes within condition bool = subst (λ l. TreeMakes (names_context l ++ inside context) condition bool) p.1 (typed_made hc) in
        let inner : TreeMakes within body t = subst (λ l. TreeMakes (names_context l ++ inside context) body t) p.1 (typed_made h) in
        let usable : AreOpen (free text body) within = subst (λ l. AreOpen (free text body) (names_context l ++ inside context)) p.1 (free_are_open h) in
        comprehension_made at context p.0 (free_of_sources text binders) (without_binders text binders names) names (seq t) (tr_binders dialect text bodies binders)
        (λ f b c k. and_then (tr dialect text bodies condition b c k)
        (λ d k. and_then (filtered at (free text body) (tr dialect text bodies body) b (stream_of d) k) (λ w k. concatenated at (segments f w) k)))
        (subst (λ l. AreOpen names (names_context l ++ inside context)) p.1
        (both_open (free text condition) (free text body) (names_context items ++ inside context) (free_are_open hc) (free_are_open h)))
        (p.2 names) (sources_made hb) (λ kinds us fit. first_flagged hb fit)
        (λ f kinds b c there bears units.
        then_made _ (tests kinds b c (bears_left (free text condition) (free text body) bears) units) (λ on more d fd.
        then_made _ (filtered_made at within (free text body) t (tr dialect text bodies body) usable inner on b (stream_of d)
        (bears_on more (bears_right (free text condition) (free text body) bears)) (stream_fits fd tt)) (λ last more' w fw.
        concatenated_made at (segments f w) (fits_segments (stream_on (further more more') there) fw))))

    items_made : {context : Context} {trees : Trees} {t : Ty} {ts : List Ty} (at : ℕ) → AllTypes dialect text functions context trees (t ∷ ts) → AllAre t ts → ItemsMake context at trees t
    items_made at (more_types {context = context} {first = first} {t = t} h rest) same =
        further_made at t (single at (free text first) (tr dialect text bodies first)) (free text first)
        (single_made at context (free text first) t (tr dialect text bodies first) (free_are_open h) (typed_made h)) rest same

    -- items after a sequence of this type
    further_made : {context : Context} {trees : Trees} {ts : List Ty} (at : ℕ) (t : Ty) (sequence : Bound → ℕ → ℕ → Making Wires) (names : Names)
        → AlwaysMakes sequence names context (seq t) → AllTypes dialect text functions context trees ts → AllAre t ts
        → AlwaysMakes (tr_further dialect text bodies at sequence trees) (names ++ free_of_all text trees) context (seq t)
    further_made at t sequence names made (no_types {context = context}) same =
        subst (λ names'. AlwaysMakes sequence names' context (seq t)) (sym (append-nil names)) made
    further_made at t sequence names made (more_types {context = context} {first = item} {others = others} h rest) (e, same) =
        let behind = followed at sequence (free text item) (tr dialect text bodies item) in
        let item_made : TreeMakes context item t = subst (TreeMakes context item) e (typed_made h) in
        let made_after : AlwaysMakes behind (names ++ free text item) context (seq t) =
        two_made context names (free text item) (seq t) (seq t) (seq t) sequence (single at (free text item) (tr dialect text bodies item)) (λ u v k. appended at u v k) made
        (single_made at context (free text item) t (tr dialect text bodies item) (free_are_open h) item_made) (λ kinds u v fu fv. appended_made at u v fu fv) in
        subst (λ names'. AlwaysMakes (tr_further dialect text bodies at sequence (both item others)) names' context (seq t)) (append_assoc names (free text item) (free_of_all text others))
        (further_made at t behind (names ++ free text item) made_after rest same)

    sources_made : {context : Context} {earlier all : List InputDeclaration} {binders : Binders} (h : BindersType dialect text functions context earlier binders all)
        → SourcesMake (tr_binders dialect text bodies binders) (free_of_sources text binders) context (binder_items h).0
    sources_made no_binders kinds bound control bears units = done_made no_sources
    sources_made (more_binders {source = source} {others = others} h new rest) kinds bound control bears units =
        then_made _ (typed_made h kinds bound control (bears_left (free text source) (free_of_sources text others) bears) units) (λ on more u fu.
        then_made _ (sources_made rest on bound control (bears_on more (bears_right (free text source) (free_of_sources text others) bears)) (stream_on more units)) (λ last more' us fits.
        done_made (more_sources (fits_on more' fu) fits)))

    all_made : {context : Context} {trees : Trees} {ts : List Ty} → AllTypes dialect text functions context trees ts
        → (kinds : List Kind) (bound : Bound) (control : ℕ) → Bears kinds bound (free_of_all text trees) context → Stream kinds control UnitKind
        → IsMade kinds (tr_all dialect text bodies trees bound control (length kinds)) (λ on us. AllFit on ts us)
    all_made no_types kinds bound control bears units = done_made none_fit
    all_made (more_types {first = first} {others = others} h g) kinds bound control bears units =
        then_made _ (typed_made h kinds bound control (bears_left (free text first) (free_of_all text others) bears) units) (λ on more u fu.
        then_made _ (all_made g on bound control (bears_on more (bears_right (free text first) (free_of_all text others) bears)) (stream_on more units)) (λ last more' us fits.
        done_made (more_fit (fits_on more' fu) fits)))
