-- The sources of a value that a text spells, edge by edge.
use Rattle.std.proofs.Common.{◌≡◌, ℕ, zero, suc, ◌<◌, ◌≤◌, List, [], ◌∷◌, ◌++◌, length, take, Option, Some, refl, sym, ap, subst, ◌∙◌, arith, length-append}
use Rattle.std.proofs.Math.Path.{ap₂}
use Rattle.std.proofs.lemmas.List.{map-append}
use Rattle.std.proofs.lemmas.Option.{slice_get-map}
use Rattle.std.specs.List.{slice_get}
use Rattle.std.specs.Option.{option_map, IsSome}
use Rattle.snesl_data.specs.declared.dialect.Dialect.{Dialect}
use Rattle.snesl_data.specs.Types.{Ty}
use Rattle.snesl_values.specs.Entries.{entry_from, environment_at, IsSpelledAt, AreSpelledAt}
use Rattle.snesl_values.specs.Inputs.{InputDeclaration}
use Rattle.snesl_values.specs.Places.{value_at as spelled_at}
use Rattle.snesl_values.specs.Spellings.{value_tokens}
use Rattle.snesl_values.specs.declared.places.InputPlace.{InputPlace}
use Rattle.snesl_values.proofs.Entries.{reads_of}
use Rattle.flow_messages.specs.Cells.{Cell}
use Rattle.flow_messages.specs.declared.message.Kind.{Kind}
use Rattle.flow_base.specs.Columns.{columns}
use Rattle.flow_base.specs.Lists.{Lists}
use Rattle.flow_scalar.specs.SourceBehaviour.{source_opening}
use Rattle.flow_values.specs.Shapes.{kinds_of, kind_at}
use Rattle.flow_values.specs.Flats.{width, flat}
use Rattle.flow_nodes.specs.inputs.Items.{items_from}
use Rattle.flow_nodes.specs.inputs.Laws.{TextHoldsEdges, KindsOfEdges}
use Rattle.flow_nodes.specs.inputs.TextSources.{items_in, text_source_state}
use Rattle.flow_nodes.specs.inputs.Ways.{way_to, leaf_at}
use Rattle.flow_nodes.specs.declared.inputs.source.TextSource.{TextSource}
use Rattle.flow_scalar.specs.Streams.{Items}
use Rattle.snesl_flatten.specs.Sources.{cells_in, source_kind, all_kinds, AreFresh}
use Rattle.snesl_flatten.proofs.InputStreams.{value_at, is_there}

-- one column, or one kind, more
pub column_more : (n : ℕ) (i : Lists Cell) → columns (suc n) i ≡ columns n i ++ i n ∷ []
column_more zero i = refl
column_more (suc n) i = ap (λ l. i 0 ∷ l) (column_more n (λ p. i (suc p)))

pub kind_more : (kinds : List Kind) (n : ℕ) → n < length kinds → take (suc n) kinds ≡ take n kinds ++ kind_at kinds n ∷ []
kind_more [] n lt = absurd (omega arith)
kind_more (kind ∷ kinds) zero lt = refl
kind_more (kind ∷ kinds) (suc n) lt = ap (λ l. kind ∷ l) (kind_more kinds n (omega arith))

-- one fresh source more
pub fresh_more : (sources : List TextSource) (source : TextSource) → AreFresh sources → text_source_state source ≡ source_opening (items_in source) → AreFresh (sources ++ source ∷ [])
fresh_more sources source fresh opens =
    map-append text_source_state sources (source ∷ [])
    ∙ ap₂ (λ a b. a ++ b ∷ []) fresh opens
    ∙ sym (map-append (λ (s : TextSource). source_opening (items_in s)) sources (source ∷ []))

some_same : {A : Type 0} (x y : A) → Some x ≡ Some y → x ≡ y
some_same x y same = cc

-- the state of a fresh one
pub fresh_at : (sources : List TextSource) (n : ℕ) (source : TextSource) → AreFresh sources → slice_get sources n ≡ Some source → text_source_state source ≡ source_opening (items_in source)
fresh_at sources n source fresh there =
    some_same (text_source_state source) (source_opening (items_in source))
    (sym (slice_get-map text_source_state sources n ∙ ap (option_map text_source_state) there)
    ∙ ap (λ l. slice_get l n) fresh
    ∙ slice_get-map (λ (s : TextSource). source_opening (items_in s)) sources n ∙ ap (option_map (λ (s : TextSource). source_opening (items_in s))) there)

-- what is written at an edge of the type of a value, and of which kind it is
module _ (holds : TextHoldsEdges) (kinds : KindsOfEdges) (text : List ℕ) (place : ℕ) (t : Ty)
    (placed : (dialect : Dialect) × IsSpelledAt dialect text t place) (edge : ℕ) (lt : edge < width t) (source : TextSource)
    (is : items_in source ≡ items_from text (way_to t edge) (leaf_at t edge) place) where
  pub cells_of_edge : cells_in source ≡ flat t 0 (spelled_at text place ∷ []) edge
  cells_of_edge =
      let r = reads_of (value_tokens (spelled_at text place)) place placed.1.2 in
      ap (λ (x : Items). x.cells) is ∙ holds placed.0 t edge text place r.0 (spelled_at text place) lt placed.1.1 placed.1.0 r.1

  pub kind_of_edge : source_kind source ≡ kind_at (kinds_of t) edge
  kind_of_edge = ap (λ (x : Items). x.kind) is ∙ kinds t edge lt

-- where the value of a declared input is
pub placed_at : (dialect : Dialect) (text : List ℕ) (ds : List InputDeclaration) (all : List InputPlace) (i : ℕ) (d : InputDeclaration) → AreSpelledAt dialect text ds all → slice_get ds i ≡ Some d
    → (p : InputPlace) × (slice_get all i ≡ Some p) × IsSpelledAt dialect text d.1 p.place
placed_at dialect text [] all i d placed there = absurd (cc)
placed_at dialect text (x ∷ ds) [] i d placed there = absurd placed
placed_at dialect text (x ∷ ds) (p ∷ all) zero d placed there = let same : x ≡ d = cc in (p, refl, subst (λ (y : InputDeclaration). IsSpelledAt dialect text y.1 p.place) same placed.0)
placed_at dialect text (x ∷ ds) (p ∷ all) (suc i) d placed there = placed_at dialect text ds all i d placed.1 there

-- and which value
pub value_placed : (text : List ℕ) (all : List InputPlace) (i : ℕ) (p : InputPlace) → slice_get all i ≡ Some p → value_at (environment_at text all) i ≡ Some (spelled_at text p.place)
value_placed text all i p there = ap (option_map (λ e. e.1)) (slice_get-map (entry_from text) all i ∙ ap (option_map (entry_from text)) there)

-- a declared type has no more edges than all of them
pub width_within : (ds : List InputDeclaration) (i : ℕ) (d : InputDeclaration) → slice_get ds i ≡ Some d → width d.1 ≤ length (all_kinds ds)
width_within [] i d there = absurd (cc)
width_within (x ∷ ds) zero d there = let same : x ≡ d = cc in
    subst (λ (y : InputDeclaration). width y.1 ≤ length (all_kinds (x ∷ ds))) same (omega (arith, length-append (kinds_of x.1) (all_kinds ds)))
width_within (x ∷ ds) (suc i) d there = omega (arith, width_within ds i d there, length-append (kinds_of x.1) (all_kinds ds))

-- the place of a declared input, and the value there
module _ (dialect : Dialect) (text : List ℕ) (ds : List InputDeclaration) (all : List InputPlace) (placed : AreSpelledAt dialect text ds all) (i : ℕ)
    (d : InputDeclaration) (there : slice_get ds i ≡ Some d) where
  abbrev one : (p : InputPlace) × (slice_get all i ≡ Some p) × IsSpelledAt dialect text d.1 p.place
  one = placed_at dialect text ds all i d placed there

  pub place_there : (o : Option ℕ) → o ≡ option_map (λ (p : InputPlace). p.place) (slice_get all i) → IsSome o
  place_there o is = is_there (λ (n : ℕ). n) o one.0.place (ap (option_map (λ (n : ℕ). n)) (is ∙ ap (option_map (λ (p : InputPlace). p.place)) one.1))

  place_is : (n : ℕ) → Some n ≡ option_map (λ (p : InputPlace). p.place) (slice_get all i) → one.0.place ≡ n
  place_is n is =
      let found : Some n ≡ Some one.0.place = is ∙ ap (option_map (λ (p : InputPlace). p.place)) one.1 in
      cc

  pub placed_there : (n : ℕ) → Some n ≡ option_map (λ (p : InputPlace). p.place) (slice_get all i) → IsSpelledAt dialect text d.1 n
  placed_there n is = subst (IsSpelledAt dialect text d.1) (place_is n is) one.2

  pub value_there : (n : ℕ) → Some n ≡ option_map (λ (p : InputPlace). p.place) (slice_get all i) → value_at (environment_at text all) i ≡ Some (spelled_at text n)
  value_there n is = value_placed text all i one.0 one.1 ∙ ap (λ n. Some (spelled_at text n)) (place_is n is)
