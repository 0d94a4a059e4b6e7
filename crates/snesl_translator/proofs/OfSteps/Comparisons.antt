-- The comparisons of a comprehension's sequences, one after another.
use Rattle.std.proofs.Common.{◌≡◌, ℕ, ◌+◌, ◌<◌, List, [], ◌∷◌, Err, length, drop, get_or, ap, ◌∙◌, subst}
use Rattle.snesl_data.specs.declared.refusal.Refusal.{Refusal}
use Rattle.flow_nodes.specs.plans.Plans.{same_flags}
use Rattle.snesl_translation.specs.Wires.{stream_of}
use Rattle.snesl_translation.specs.Makings.{Making, tested}
use Rattle.snesl_translation.specs.Translation.{same_lengths}
use Rattle.snesl_translator.specs.steps.Views.{bindings_of, next_in, wires_of}
use Rattle.snesl_translator.specs.steps.Added.{HasMade, Adds}
use Rattle.snesl_translator.specs.declared.steps.steps.Steps.{Steps}
use Rattle.snesl_translator.specs.declared.steps.wires.Binding.{Binding}
use Rattle.snesl_translator.proofs.OfSteps.Adding.{made_then, refused_first, Continues, from_index}

-- from an index on
here : (sources : List Binding) (i : ℕ) (source : Binding) → i < length sources → source ≡ get_or sources i source → source ∷ drop (i + 1) sources ≡ drop i sources
here sources i source within is = ap (λ s. s ∷ drop (i + 1) sources) is ∙ from_index sources i source within

pub comparisons_continue : (at f i s : ℕ) (sources : List Binding) (source : Binding) (old now middle : Steps) (whole : Making (Unit {0}))
    → i < length sources → source ≡ get_or sources i source → s ≡ stream_of (wires_of source.wires) → HasMade now middle (tested at same_flags (f ∷ s ∷ []) (tt {0}) (next_in now)) tt
    → Continues old now (same_lengths at f (bindings_of (drop i sources)) (next_in now)) whole
    → Continues old middle (same_lengths at f (bindings_of (drop (i + 1) sources)) (next_in middle)) whole
comparisons_continue at f i s sources source old now middle whole within is stream made continues new result adds =
    continues new result
    (subst (λ l. Adds (λ x. x) now new (same_lengths at f (bindings_of l) (next_in now)) result) (here sources i source within is)
    (made_then (λ x. x) now middle new (tested at same_flags (f ∷ stream_of (wires_of source.wires) ∷ []) (tt {0}) (next_in now))
    (λ _ k. same_lengths at f (bindings_of (drop (i + 1) sources)) k) tt result
    (subst (λ n. HasMade now middle (tested at same_flags (f ∷ n ∷ []) (tt {0}) (next_in now)) tt) stream made) adds))

pub comparisons_refused : (at f i s : ℕ) (sources : List Binding) (source : Binding) (old now new : Steps) (whole : Making (Unit {0})) (e : Refusal)
    → i < length sources → source ≡ get_or sources i source → s ≡ stream_of (wires_of source.wires)
    → Adds {A = Unit {0}} (λ x. x) now new (tested at same_flags (f ∷ s ∷ []) (tt {0}) (next_in now)) (Err e)
    → Continues old now (same_lengths at f (bindings_of (drop i sources)) (next_in now)) whole → Adds {A = Unit {0}} (λ x. x) old new whole (Err e)
comparisons_refused at f i s sources source old now new whole e within is stream adds continues =
    continues new (Err e)
    (subst (λ l. Adds {A = Unit {0}} (λ x. x) now new (same_lengths at f (bindings_of l) (next_in now)) (Err e)) (here sources i source within is)
    (refused_first {A = Unit {0}} {C = Unit {0}} (λ x. x) (λ x. x) now new new (tested at same_flags (f ∷ stream_of (wires_of source.wires) ∷ []) (tt {0}) (next_in now))
    (λ _ k. same_lengths at f (bindings_of (drop (i + 1) sources)) k) e
    (subst (λ n. Adds {A = Unit {0}} (λ x. x) now new (tested at same_flags (f ∷ n ∷ []) (tt {0}) (next_in now)) (Err e)) stream adds)))
