-- Values that are moved part by part.
use Rattle.std.proofs.Common.{◌≡◌, ℕ, ◌∷◌, [], Result, Ok, Err, sym, ap, ◌∙◌, subst}
use Rattle.std.specs.Result.{IsErr, IsErrAnd}
use Rattle.snesl_data.specs.declared.refusal.Refusal.{Refusal}
use Rattle.snesl_data.specs.Types.{bool}
use Rattle.flow_messages.specs.declared.message.Kind.TheVariants.{Bool as BoolKind}
use Rattle.flow_nodes.specs.plans.Plans.{dist, pack_groups}
use Rattle.snesl_translation.specs.Wires.{Wires, wire, two, segments, stream_of}
use Rattle.snesl_translation.specs.Makings.{Making, done, and_then}
use Rattle.snesl_translation.specs.Moving.{flags_stepped, kept}
use Rattle.snesl_translator.specs.steps.Views.{wires_of, next_in}
use Rattle.snesl_translator.specs.steps.Added.{Adds, HasMade}
use Rattle.snesl_translator.specs.declared.steps.steps.Steps.{Steps}
use Rattle.snesl_translator.specs.declared.steps.wires.Wires.{Wires as WiresData}
use Rattle.snesl_translator.proofs.OfSteps.Adding.{made_then, then_done, refused_first, exits, exits_first}

-- what the exit of a `?` returns
abbrev pub Exits : Result WiresData Refusal → Refusal → Type 0
Exits r e = IsErr r × IsErrAnd r (λ g. g ≡ e)

-- First the one part of a pair and then the other.
module _ (move : Wires → ℕ → Making Wires) (pairs : (a b : Wires) (k : ℕ) → move (two a b) k ≡ and_then (move a k) (λ u k. and_then (move b k) (λ v k. done (two u v) k)))
    (w a b : Wires) (parts : w ≡ two a b) (old : Steps) where
  abbrev rest : Wires → ℕ → Making Wires
  rest u k = and_then (move b k) (λ v k. done (two u v) k)

  whole : and_then (move a (next_in old)) rest ≡ move w (next_in old)
  whole = sym (ap (λ x. move x (next_in old)) parts ∙ pairs a b (next_in old))

  pub first_refused : (middle new : Steps) (e : Refusal) (r : Result WiresData Refusal) → Exits r e →
      Adds wires_of old middle (move a (next_in old)) (Err e) → Adds wires_of old new (move w (next_in old)) r
  first_refused middle new e r exit adds =
      subst (λ making. Adds wires_of old new making r) whole (exits_first wires_of wires_of old middle new (move a (next_in old)) rest e r exit adds)

  pub second_refused : (middle later new : Steps) (u : Wires) (e : Refusal) (r : Result WiresData Refusal) → Exits r e → HasMade old middle (move a (next_in old)) u
      → Adds wires_of middle later (move b (next_in middle)) (Err e) → Adds wires_of old new (move w (next_in old)) r
  second_refused middle later new u e r exit made adds =
      subst (λ making. Adds wires_of old new making r) whole (
      exits wires_of old new (and_then (move a (next_in old)) rest) e r exit (
      made_then wires_of old middle new (move a (next_in old)) rest u (Err e) made (
      refused_first wires_of wires_of middle later new (move b (next_in middle)) (λ v k. done (two u v) k) e adds)))

  pub both_made : (middle new : Steps) (u v pair : Wires) → HasMade old middle (move a (next_in old)) u → HasMade middle new (move b (next_in middle)) v → pair ≡ two u v
      → HasMade old new (move w (next_in old)) pair
  both_made middle new u v pair made later is =
      subst (λ making. HasMade old new making pair) whole (
      made_then (λ x. x) old middle new (move a (next_in old)) rest u (Ok pair) made (
      subst (λ x. HasMade middle new (and_then (move b (next_in middle)) (λ v k. done (two u v) k)) x) (sym is)
      (then_done middle new (move b (next_in middle)) (λ v. two u v) v later)))

-- Of a sequence first the flags, then the truth values of its elements, and then the elements.
module _ (at d g : ℕ) (w items : Wires) (parts : w ≡ segments g items) (old : Steps) where
  abbrev flags_kept : ℕ → Making Wires
  flags_kept k = flags_stepped at pack_groups (d ∷ g ∷ []) k

  abbrev truths_made : ℕ → Making Wires
  truths_made k = flags_stepped at (dist BoolKind) (d ∷ g ∷ []) k

  abbrev items_kept : ℕ → ℕ → Making Wires
  items_kept inner k = kept at inner items k

  abbrev then_items : ℕ → Wires → ℕ → Making Wires
  then_items flags inner k = and_then (kept at (stream_of inner) items k) (λ u k. done (segments flags u) k)

  abbrev then_truths : Wires → ℕ → Making Wires
  then_truths h k = and_then (truths_made k) (λ inner k. then_items (stream_of h) inner k)

  whole_kept : and_then (flags_kept (next_in old)) then_truths ≡ kept at d w (next_in old)
  whole_kept = sym (ap (λ x. kept at d x (next_in old)) parts)

  pub flags_refused : (middle new : Steps) (e : Refusal) (r : Result WiresData Refusal) → Exits r e
      → Adds (λ number. wire bool number) old middle (flags_kept (next_in old)) (Err e) → Adds wires_of old new (kept at d w (next_in old)) r
  flags_refused middle new e r exit adds =
      subst (λ making. Adds wires_of old new making r) whole_kept (
      exits_first (λ number. wire bool number) wires_of old middle new (flags_kept (next_in old)) then_truths e r exit adds)

  module _ (middle : Steps) (flags : ℕ) (made : HasMade old middle (flags_kept (next_in old)) (wire bool flags)) where
    pub truths_refused : (later new : Steps) (e : Refusal) (r : Result WiresData Refusal) → Exits r e
        → Adds (λ number. wire bool number) middle later (truths_made (next_in middle)) (Err e) → Adds wires_of old new (kept at d w (next_in old)) r
    truths_refused later new e r exit adds =
        subst (λ making. Adds wires_of old new making r) whole_kept (
        exits wires_of old new (and_then (flags_kept (next_in old)) then_truths) e r exit (
        made_then wires_of old middle new (flags_kept (next_in old)) then_truths (wire bool flags) (Err e) made (
        refused_first (λ number. wire bool number) wires_of middle later new (truths_made (next_in middle)) (λ inner k. then_items flags inner k) e adds)))

    module _ (later : Steps) (inner : ℕ) (also : HasMade middle later (truths_made (next_in middle)) (wire bool inner)) where
      pub items_refused : (last new : Steps) (e : Refusal) (r : Result WiresData Refusal) → Exits r e
          → Adds wires_of later last (items_kept inner (next_in later)) (Err e) → Adds wires_of old new (kept at d w (next_in old)) r
      items_refused last new e r exit adds =
          subst (λ making. Adds wires_of old new making r) whole_kept (
          exits wires_of old new (and_then (flags_kept (next_in old)) then_truths) e r exit (
          made_then wires_of old middle new (flags_kept (next_in old)) then_truths (wire bool flags) (Err e) made (
          made_then wires_of middle later new (truths_made (next_in middle)) (λ inner k. then_items flags inner k) (wire bool inner) (Err e) also (
          refused_first wires_of wires_of later last new (items_kept inner (next_in later)) (λ u k. done (segments flags u) k) e adds))))

      pub sequence_made : (new : Steps) (u sequence : Wires) → HasMade later new (items_kept inner (next_in later)) u → sequence ≡ segments flags u
          → HasMade old new (kept at d w (next_in old)) sequence
      sequence_made new u sequence last is =
          subst (λ making. HasMade old new making sequence) whole_kept (
          made_then (λ x. x) old middle new (flags_kept (next_in old)) then_truths (wire bool flags) (Ok sequence) made (
          made_then (λ x. x) middle later new (truths_made (next_in middle)) (λ inner k. then_items flags inner k) (wire bool inner) (Ok sequence) also (
          subst (λ x. HasMade later new (and_then (items_kept inner (next_in later)) (λ u k. done (segments flags u) k)) x) (sym is)
          (then_done later new (items_kept inner (next_in later)) (λ u. segments flags u) u last))))
