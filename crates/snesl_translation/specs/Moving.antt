-- How values go into the parts of a program that run more often, or less often: over all streams of a value.
use Rattle.std.specs.Prelude.{ℕ, List, [], ◌∷◌, if◌then◌else◌}
use Rattle.snesl_data.specs.Types.{bool}
use Rattle.flow_messages.specs.declared.message.Kind.TheVariants.{Bool as BoolKind}
use Rattle.flow_nodes.specs.plans.Plans.{Operation, dist, pack, pack_groups, concat_flags, interleave, interleave_groups}
use Rattle.snesl_translation.specs.Wires.{Wires, wire, two, segments, kind_of_type, stream_of, first_wires, second_wires, item_wires, Bound}
use Rattle.snesl_translation.specs.Makings.{Making, done, and_then, stepped}
use Rattle.snesl_translation.specs.FreeNames.{Names, is_among, without}

-- a step that writes one stream of flags
abbrev pub flags_stepped : ℕ → Operation → List ℕ → ℕ → Making Wires
flags_stepped at operation reads next = stepped at operation reads bool next

-- each value of a concrete type as often as the segment of flags f has elements
abbrev pub distributed : (at f : ℕ) → Wires → ℕ → Making Wires
distributed at f (wire t a) next = stepped at (dist (kind_of_type t)) (a ∷ f ∷ []) t next
distributed at f (two first second) next =
    and_then (distributed at f first next) (λ u k. and_then (distributed at f second k) (λ v k. done (two u v) k))
distributed at f (segments g items) next = done (segments g items) next

-- the values beside which the truth values d are true
abbrev pub kept : (at d : ℕ) → Wires → ℕ → Making Wires
kept at d (wire t a) next = stepped at (pack (kind_of_type t)) (d ∷ a ∷ []) t next
kept at d (two first second) next =
    and_then (kept at d first next) (λ u k. and_then (kept at d second k) (λ v k. done (two u v) k))
kept at d (segments g items) next =
    and_then (flags_stepped at pack_groups (d ∷ g ∷ []) next) (λ h k.
    and_then (flags_stepped at (dist BoolKind) (d ∷ g ∷ []) k) (λ inner k.
    and_then (kept at (stream_of inner) items k) (λ u k. done (segments (stream_of h) u) k)))

-- of two values with as many segments, flags f and g, the elements of both, segment by segment
abbrev pub mixed : (at f g : ℕ) → Wires → Wires → ℕ → Making Wires
mixed at f g (wire t a) other next = stepped at (interleave (kind_of_type t)) (f ∷ g ∷ a ∷ stream_of other ∷ []) t next
mixed at f g (two first second) other next =
    and_then (mixed at f g first (first_wires other) next) (λ u k. and_then (mixed at f g second (second_wires other) k) (λ v k. done (two u v) k))
mixed at f g (segments p items) other next =
    and_then (flags_stepped at interleave_groups (f ∷ g ∷ p ∷ stream_of other ∷ []) next) (λ h k.
    and_then (flags_stepped at concat_flags (f ∷ p ∷ []) k) (λ inner k.
    and_then (flags_stepped at concat_flags (g ∷ stream_of other ∷ []) k) (λ inner' k.
    and_then (mixed at (stream_of inner) (stream_of inner') items (item_wires other) k) (λ u k. done (segments (stream_of h) u) k))))

-- what these names stand for, each moved so; of a name that is bound twice the innermost
abbrev pub all_moved : (Wires → ℕ → Making Wires) → Names → Bound → ℕ → Making Bound
all_moved move names [] next = done [] next
all_moved move names (entry ∷ bound) next =
    if is_among entry.0 names
    then and_then (move entry.1 next) (λ u k. and_then (all_moved move (without entry.0 names) bound k) (λ others k. done ((entry.0, u) ∷ others) k))
    else all_moved move names bound next
