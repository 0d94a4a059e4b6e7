-- Streams of the kinds of a type: which wires fit it, and that they still do once there are more streams.
use Rattle.std.specs.Prelude.{◌≡◌, ℕ, zero, suc, ◌+◌, List, [], ◌∷◌, ◌++◌, length, Some, option_map, refl}
use Rattle.std.specs.List.{slice_get}
use Rattle.std.proofs.Common.{arith, sym, ap, ◌∙◌, subst}
use Rattle.std.proofs.Math.Path.{ap₂}
use Rattle.snesl_data.specs.Types.{Ty, int, bool, pair, vec, seq}
use Rattle.flow_messages.specs.declared.message.Kind.{Kind}
use Rattle.flow_messages.specs.declared.message.Kind.TheVariants.{Bool as BoolKind}
use Rattle.flow_values.specs.Shapes.{kinds_of}
use Rattle.flow_values.specs.Flats.{width}
use Rattle.flow_nodes.specs.functions.Lists.{bind, each}
use Rattle.snesl_translation.specs.Wires.{Wires, wire, two, segments, type_of_wires, IsSingle, numbers_of, wires_from, kind_of_type, stream_of, first_wires, second_wires, item_wires}

-- there is a stream of this number, and it is of this kind
pub record Stream (kinds : List Kind) (number : ℕ) (kind : Kind) : Type 0 where
  pub there : slice_get kinds number ≡ Some kind

-- each stream of the ones is one of the others, of the same number and kind
pub record Extends (kinds on : List Kind) : Type 0 where
  pub stays : (number : ℕ) (kind : Kind) → slice_get kinds number ≡ Some kind → slice_get on number ≡ Some kind

pub stream_on : {kinds on : List Kind} {number : ℕ} {kind : Kind} → Extends kinds on → Stream kinds number kind → Stream on number kind
stream_on {number = number} {kind = kind} more h = record { there = more.stays number kind h.there }

pub further : {kinds on last : List Kind} → Extends kinds on → Extends on last → Extends kinds last
further h g = record { stays = λ number kind there. g.stays number kind (h.stays number kind there) }

get_append : (kinds more : List Kind) (number : ℕ) (kind : Kind) → slice_get kinds number ≡ Some kind → slice_get (kinds ++ more) number ≡ Some kind
get_append [] more number kind e = absurd (cc)
get_append (first ∷ kinds) more zero kind e = e
get_append (first ∷ kinds) more (suc number) kind e = get_append kinds more number kind e

pub extends_append : (kinds more : List Kind) → Extends kinds (kinds ++ more)
extends_append kinds more = record { stays = get_append kinds more }

-- streams of these numbers are of these kinds
pub data Reads (kinds : List Kind) : List ℕ → List Kind → Type 0 where
  no_reads : Reads kinds [] []
  more_reads : {number : ℕ} {numbers : List ℕ} {kind : Kind} {others : List Kind} → Stream kinds number kind → Reads kinds numbers others → Reads kinds (number ∷ numbers) (kind ∷ others)

pub reads_each : {kinds : List Kind} {numbers : List ℕ} {read : List Kind} → Reads kinds numbers read → each (slice_get kinds) numbers ≡ Some read
reads_each no_reads = refl
reads_each (more_reads stream others) = ap₂ (λ o p. bind o (λ kind. option_map (λ kinds. kind ∷ kinds) p)) stream.there (reads_each others)

reads_append : {kinds : List Kind} {ns ms : List ℕ} {ks ls : List Kind} → Reads kinds ns ks → Reads kinds ms ls → Reads kinds (ns ++ ms) (ks ++ ls)
reads_append no_reads g = g
reads_append (more_reads there others) g = more_reads there (reads_append others g)

-- the wires are of the type, and their streams are there and of its kinds
pub data Fits (kinds : List Kind) : Ty → Wires → Type 0 where
  fits_wire : {t : Ty} {number : ℕ} → IsSingle t → Stream kinds number (kind_of_type t) → Fits kinds t (wire t number)
  fits_two : {s t : Ty} {first second : Wires} → Fits kinds s first → Fits kinds t second → Fits kinds (pair s t) (two first second)
  fits_segments : {t : Ty} {flags : ℕ} {items : Wires} → Stream kinds flags BoolKind → Fits kinds t items → Fits kinds (seq t) (segments flags items)

pub fits_on : {kinds on : List Kind} {t : Ty} {w : Wires} → Extends kinds on → Fits kinds t w → Fits on t w
fits_on more (fits_wire single there) = fits_wire single (stream_on more there)
fits_on more (fits_two first second) = fits_two (fits_on more first) (fits_on more second)
fits_on more (fits_segments there items) = fits_segments (stream_on more there) (fits_on more items)

pub fits_type : {kinds : List Kind} {t : Ty} {w : Wires} → Fits kinds t w → type_of_wires w ≡ t
fits_type (fits_wire single there) = refl
fits_type (fits_two first second) = ap₂ pair (fits_type first) (fits_type second)
fits_type (fits_segments there items) = ap seq (fits_type items)

pub first_fits : {kinds : List Kind} {s t : Ty} {w : Wires} → Fits kinds (pair s t) w → Fits kinds s (first_wires w)
first_fits (fits_wire single there) = absurd single
first_fits (fits_two first second) = first

pub second_fits : {kinds : List Kind} {s t : Ty} {w : Wires} → Fits kinds (pair s t) w → Fits kinds t (second_wires w)
second_fits (fits_wire single there) = absurd single
second_fits (fits_two first second) = second

pub items_fit : {kinds : List Kind} {t : Ty} {w : Wires} → Fits kinds (seq t) w → Fits kinds t (item_wires w)
items_fit (fits_wire single there) = absurd single
items_fit (fits_segments there items) = items

pub flags_fit : {kinds : List Kind} {t : Ty} {w : Wires} → Fits kinds (seq t) w → Stream kinds (stream_of w) BoolKind
flags_fit (fits_wire single there) = absurd single
flags_fit (fits_segments there items) = there

-- of a type of one edge

pub stream_fits : {kinds : List Kind} {t : Ty} {w : Wires} → Fits kinds t w → IsSingle t → Stream kinds (stream_of w) (kind_of_type t)
stream_fits (fits_wire single there) h = there
stream_fits (fits_two first second) h = absurd h
stream_fits (fits_segments there items) h = absurd h

pub single_kinds : (t : Ty) → IsSingle t → kinds_of t ≡ kind_of_type t ∷ []
single_kinds int h = refl
single_kinds bool h = refl
single_kinds (vec item) h = refl
single_kinds (pair s t) h = absurd h
single_kinds (seq item) h = absurd h

-- all of them

pub numbers_read : {kinds : List Kind} {t : Ty} {w : Wires} → Fits kinds t w → Reads kinds (numbers_of w) (kinds_of t)
numbers_read {kinds = kinds} (fits_wire {t = t} {number = number} single there) =
    subst (Reads kinds (number ∷ [])) (sym (single_kinds t single)) (more_reads there no_reads)
numbers_read (fits_two first second) = reads_append (numbers_read first) (numbers_read second)
numbers_read (fits_segments there items) = more_reads there (numbers_read items)

-- new streams

-- from this number on there are streams of these kinds
abbrev Stand : List Kind → ℕ → List Kind → Type 0
Stand kinds number new = (i : ℕ) (kind : Kind) → slice_get new i ≡ Some kind → slice_get kinds (number + i) ≡ Some kind

get_after : (kinds more : List Kind) (i : ℕ) → slice_get (kinds ++ more) (length kinds + i) ≡ slice_get more i
get_after [] more i = let same : 0 + i ≡ i = omega (arith) in ap (slice_get more) same
get_after (kind ∷ kinds) more i =
    let same : suc (length kinds) + i ≡ suc (length kinds + i) = omega (arith) in
    ap (slice_get (kind ∷ (kinds ++ more))) same ∙ get_after kinds more i

new_stand : (kinds more : List Kind) → Stand (kinds ++ more) (length kinds) more
new_stand kinds more i kind there = get_after kinds more i ∙ there

first_stands : (kinds : List Kind) (number : ℕ) (kind : Kind) (others : List Kind) → Stand kinds number (kind ∷ others) → Stream kinds number kind
first_stands kinds number kind others h =
    let same : number + 0 ≡ number = omega (arith) in
    record { there = subst (λ n. slice_get kinds n ≡ Some kind) same (h 0 kind refl) }

others_stand : (kinds : List Kind) (number : ℕ) (first : Kind) (others : List Kind) → Stand kinds number (first ∷ others) → Stand kinds (suc number) others
others_stand kinds number first others h i kind there =
    let same : number + suc i ≡ suc number + i = omega (arith) in
    subst (λ n. slice_get kinds n ≡ Some kind) same (h (suc i) kind there)

left_stands : (kinds : List Kind) (number : ℕ) (new more : List Kind) → Stand kinds number (new ++ more) → Stand kinds number new
left_stands kinds number new more h i kind there = h i kind (get_append new more i kind there)

right_stands : (kinds : List Kind) (number : ℕ) (new more : List Kind) → Stand kinds number (new ++ more) → Stand kinds (number + length new) more
right_stands kinds number new more h i kind there =
    let same : number + (length new + i) ≡ (number + length new) + i = omega (arith) in
    subst (λ n. slice_get kinds n ≡ Some kind) same (h (length new + i) kind (get_after new more i ∙ there))

fits_from : (kinds : List Kind) (number : ℕ) (t : Ty) → Stand kinds number (kinds_of t) → Fits kinds t (wires_from t number)
fits_from kinds number int h = fits_wire tt (first_stands kinds number _ [] h)
fits_from kinds number bool h = fits_wire tt (first_stands kinds number _ [] h)
fits_from kinds number (vec item) h = fits_wire tt (first_stands kinds number _ [] h)
fits_from kinds number (pair s t) h =
    fits_two (fits_from kinds number s (left_stands kinds number (kinds_of s) (kinds_of t) h))
    (fits_from kinds (number + width s) t (right_stands kinds number (kinds_of s) (kinds_of t) h))
fits_from kinds number (seq item) h =
    fits_segments (first_stands kinds number BoolKind (kinds_of item) h) (fits_from kinds (suc number) item (others_stand kinds number BoolKind (kinds_of item) h))

-- the streams of a type that stand after others
pub new_fit : (kinds : List Kind) (t : Ty) → Fits (kinds ++ kinds_of t) t (wires_from t (length kinds))
new_fit kinds t = fits_from (kinds ++ kinds_of t) (length kinds) t (new_stand kinds (kinds_of t))

-- one stream that stands after others
pub new_stream : (kinds : List Kind) (kind : Kind) → Stream (kinds ++ (kind ∷ [])) (length kinds) kind
new_stream kinds kind = first_stands (kinds ++ (kind ∷ [])) (length kinds) kind [] (new_stand kinds (kind ∷ []))
