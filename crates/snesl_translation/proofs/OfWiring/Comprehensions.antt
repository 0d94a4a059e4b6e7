-- Comprehensions: their sources, and what is made inside.
use Rattle.std.specs.Prelude.{◌≡◌, ℕ, Bool, true, false, cond, List, [], ◌∷◌, ◌++◌, length, Some, refl}
use Rattle.std.specs.Str.{bytes_eq}
use Rattle.std.proofs.Common.{sym, subst}
use Rattle.snesl_data.specs.Types.{Ty, seq}
use Rattle.snesl_values.specs.Inputs.{InputDeclaration}
use Rattle.snesl_types.specs.Contexts.{open_to, Context, names_context, found, inside}
use Rattle.flow_messages.specs.declared.message.Kind.{Kind}
use Rattle.flow_messages.specs.declared.message.Kind.TheVariants.{Unit as UnitKind, Bool as BoolKind}
use Rattle.snesl_translation.specs.Wires.{Wires, stream_of, item_wires, Bound}
use Rattle.snesl_translation.specs.Makings.{Making, and_then}
use Rattle.snesl_translation.specs.FreeNames.{Names, is_among}
use Rattle.snesl_translation.specs.Moving.{distributed, all_moved}
use Rattle.snesl_translation.specs.Translation.{wires_named, Sources, first_flags, same_lengths, in_step, items_bound, units_step}
use Rattle.snesl_translation.specs.Sources.{without_items}
use Rattle.snesl_translation.proofs.BoundMoved.{others_stay}
use Rattle.snesl_translation.proofs.Borne.{AreOpen, found_outside}
use Rattle.snesl_translation.proofs.Comprehensions.{open_after}
use Rattle.snesl_translation.proofs.OfWiring.Fitting.{Stream, stream_on, Extends, further, no_reads, more_reads, Fits, fits_on, items_fit, flags_fit}
use Rattle.snesl_translation.proofs.OfWiring.Making.{IsMade, Makes, done_made, then_made, tested_made}
use Rattle.snesl_translation.proofs.OfWiring.Moving.{distributed_made}
use Rattle.snesl_translation.proofs.OfWiring.Bearing.{Bears, AlwaysMakes, bears_on, bears_left, bears_right, bears_inside, all_moved_made}
use Rattle.snesl_translation.proofs.OfWiring.Forms.{units_made}

-- the sources have the names of the items, and their sequences fit those types
pub data SourcesFit (kinds : List Kind) : Sources → List InputDeclaration → Type 0 where
  no_sources : SourcesFit kinds [] []
  more_sources : {name : List ℕ} {w : Wires} {t : Ty} {sources : Sources} {items : List InputDeclaration} → Fits kinds (seq t) w → SourcesFit kinds sources items
      → SourcesFit kinds ((name, w) ∷ sources) ((name, t) ∷ items)

-- the same as `AlwaysMakes` of the sources of binders
abbrev pub SourcesMake : (Bound → (control next : ℕ) → Making Sources) → Names → Context → List InputDeclaration → Type 0
SourcesMake translated names context items =
    (kinds : List Kind) (bound : Bound) (control : ℕ) → Bears kinds bound names context → Stream kinds control UnitKind
    → IsMade kinds (translated bound control (length kinds)) (λ on sources. SourcesFit on sources items)

sources_on : {kinds on : List Kind} {sources : Sources} {items : List InputDeclaration} → Extends kinds on → SourcesFit kinds sources items → SourcesFit on sources items
sources_on more no_sources = no_sources
sources_on more (more_sources h others) = more_sources (fits_on more h) (sources_on more others)

-- sources have as long sequences as each other

same_lengths_made : {kinds : List Kind} {items : List InputDeclaration} (at f : ℕ) (sources : Sources) → Stream kinds f BoolKind → SourcesFit kinds sources items
    → IsMade kinds (same_lengths at f sources (length kinds)) (λ on _. Unit {0})
same_lengths_made at f [] flagged no_sources = done_made tt
same_lengths_made at f ((name, w) ∷ sources) flagged (more_sources h others) =
    then_made _ (tested_made {Holds = λ on _. Unit {0}} (more_reads flagged (more_reads (flags_fit h) no_reads)) refl tt) (λ on more x _.
    same_lengths_made at f sources (stream_on more flagged) (sources_on more others))

in_step_made : {kinds : List Kind} {items : List InputDeclaration} (at : ℕ) (sources : Sources) → SourcesFit kinds sources items → IsMade kinds (in_step at sources (length kinds)) (λ on _. Unit {0})
in_step_made at [] no_sources = done_made tt
in_step_made at ((name, w) ∷ sources) (more_sources h others) = same_lengths_made at (stream_of w) sources (flags_fit h) others

-- names inside

-- where a name that is none of the items' stands for streams of its type, each name does
inside_fits : {kinds : List Kind} {sources : Sources} {items : List InputDeclaration} (inner : Bound) (context : Context) (names : Names) (bytes : List ℕ) (t : Ty) → SourcesFit kinds sources items
    → is_among bytes names ≡ true
    → (is_among bytes (without_items items names) ≡ true → found bytes context ≡ Some (open_to t) → Fits kinds t (wires_named bytes inner))
    → found bytes (names_context items ++ context) ≡ Some (open_to t) → Fits kinds t (wires_named bytes (items_bound sources ++ inner))
inside_fits inner context names bytes t no_sources among h is = h among is
inside_fits {kinds = kinds} inner context names bytes t (more_sources {name = name} {w = w} {t = s} {sources = sources} {items = items} fit rest) among h is =
    by_test (bytes_eq bytes name) refl is (λ g. inside_fits inner context names bytes t rest among g)
  where
    by_test : (b : Bool) → bytes_eq bytes name ≡ b → cond b (Some (open_to s)) (found bytes (names_context items ++ context)) ≡ Some (open_to t)
        → ((is_among bytes (without_items items names) ≡ true → found bytes context ≡ Some (open_to t) → Fits kinds t (wires_named bytes inner))
        → found bytes (names_context items ++ context) ≡ Some (open_to t) → Fits kinds t (wires_named bytes (items_bound sources ++ inner)))
        → Fits kinds t (cond b (item_wires w) (wires_named bytes (items_bound sources ++ inner)))
    by_test true e is others = let same : s ≡ t = cc in subst (λ t. Fits kinds t (item_wires w)) same (items_fit fit)
    by_test false e is others = others (λ among' is'. h (others_stay bytes name (without_items items names) e among') is') is

bears_items : {kinds : List Kind} {inner : Bound} {context : Context} (sources : Sources) (items : List InputDeclaration) (names : Names) → SourcesFit kinds sources items
    → Bears kinds inner (without_items items names) context → Bears kinds (items_bound sources ++ inner) names (names_context items ++ context)
bears_items {inner = inner} {context = context} sources items names fit h = record { fits = λ bytes t among is. inside_fits inner context names bytes t fit among (h.fits bytes t) is }

-- what is made inside, whatever it is
module _ (at : ℕ) (context : Context) (items : List InputDeclaration) (names outer inner_names : Names) (t : Ty) (sources : Bound → ℕ → ℕ → Making Sources) (within : ℕ → Bound → ℕ → ℕ → Making Wires)
    (usable : AreOpen inner_names (names_context items ++ inside context)) (same : outer ≡ without_items items inner_names) (made : SourcesMake sources names context items)
    (flagged : (kinds : List Kind) (us : Sources) → SourcesFit kinds us items → Stream kinds (first_flags us) BoolKind)
    (makes : (f : ℕ) (kinds : List Kind) (bound : Bound) (control : ℕ) → Stream kinds f BoolKind → Bears kinds bound inner_names (names_context items ++ inside context) → Stream kinds control UnitKind
    → Makes kinds t (within f bound control (length kinds))) where
  pub comprehension_made : AlwaysMakes (λ bound control next.
      and_then (sources bound control next) (λ sources k.
      and_then (in_step at sources k) (λ _ k.
      and_then (all_moved (distributed at (first_flags sources)) outer bound k) (λ inner k.
      and_then (units_step at (first_flags sources) k) (λ c k.
      within (first_flags sources) (items_bound sources ++ inner) (stream_of c) k))))) (names ++ outer) context t
  comprehension_made kinds bound control h units =
      then_made _ (made kinds bound control (bears_left names outer h) units) (λ on more us fs.
      let f = first_flags us in
      let flags : Stream on f BoolKind = flagged on us fs in
      let usable_outside : AreOpen outer (inside context) = subst (λ l. AreOpen l (inside context)) (sym same) (open_after items inner_names (inside context) usable) in
      then_made _ (in_step_made at us fs) (λ on' more' _ _.
      then_made _ (all_moved_made f (distributed at f) (inside context) (λ kinds w bytes s there is fit. distributed_made at f w (found_outside bytes context s is).1 there fit)
      outer bound on' usable_outside (stream_on more' flags) (bears_inside (bears_on (further more more') (bears_right names outer h)))) (λ on'' more'' inner fi.
      let two_more = further more' more'' in
      then_made _ (units_made at f (stream_on two_more flags)) (λ last more''' c fc.
      let all_more = further two_more more''' in
      makes f last (items_bound us ++ inner) (stream_of c) (stream_on all_more flags)
      (bears_items us items inner_names (sources_on all_more fs) (bears_on more''' (subst (λ l. Bears on'' inner l (inside context)) same fi))) fc))))
