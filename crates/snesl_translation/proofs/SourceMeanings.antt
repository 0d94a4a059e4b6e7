-- What the steps of a comprehension's sources make: streams that carry, for each name, the sequence that it goes through.
use Rattle.std.specs.Prelude.{◌≡◌, ℕ, List, [], ◌∷◌, ◌++◌, length, map, replicate, Option, Some, None}
use Rattle.snesl_data.specs.Types.{seq}
use Rattle.snesl_data.specs.Values.{Value}
use Rattle.snesl_values.specs.Inputs.{InputDeclaration, Environment}
use Rattle.snesl_evaluation.specs.Eval.{BoundItems}
use Rattle.snesl_types.specs.Contexts.{Context}
use Rattle.flow_base.specs.Columns.{Columns}
use Rattle.flow_nodes.specs.functions.Lists.{each}
use Rattle.flow_nodes.specs.functions.Decoded.{a_seq_of}
use Rattle.flow_nodes.specs.plans.Plans.{run}
use Rattle.snesl_translation.specs.Wires.{Bound}
use Rattle.snesl_translation.specs.Makings.{Making}
use Rattle.snesl_translation.specs.FreeNames.{Names}
use Rattle.snesl_translation.specs.Translation.{Sources}
use Rattle.snesl_translation.specs.Carrying.{Carries, Controls}
use Rattle.snesl_translation.specs.Meaning.{Bears}
use Rattle.snesl_translation.specs.Sources.{with_sequences}

-- the sources have the names of the items, and carry at the instances the sequences of these
abbrev pub SourcesCarry : Columns → Sources → List InputDeclaration → List BoundItems → Type 0
SourcesCarry streams [] [] all = all ≡ replicate (length all) []
SourcesCarry streams (source ∷ sources) (item ∷ items) all =
    (groups : List (List Value)) × (others : List BoundItems) × (all ≡ with_sequences item.0 groups others) × (length groups ≡ length others)
    × (source.0 ≡ item.0) × Carries streams source.1 (seq item.1) (map a_seq_of groups) × SourcesCarry streams sources items others
SourcesCarry streams _ _ all = ⊥

-- where there are sequences, the steps make streams that carry these; where there are none, they do not run
abbrev pub SourcesGo : Columns → List InputDeclaration → Making Sources → Option (List BoundItems) → Type 0
SourcesGo streams items making (Some all) =
    (more : Columns) × (run making.steps streams ≡ Some (streams ++ more)) × (making.next ≡ length (streams ++ more))
    × SourcesCarry (streams ++ more) making.given items all
SourcesGo streams items making None = run making.steps streams ≡ None

-- the same as `Means` of the sources of binders
abbrev pub SourcesMean : (Bound → (control next : ℕ) → Making Sources) → (Environment → Option BoundItems) → Names → Context → List InputDeclaration → Type 0
SourcesMean translated columns names context items =
    (streams : Columns) (bound : Bound) (control : ℕ) (environments : List Environment)
    → Bears streams bound names context environments → Controls streams control (length environments)
    → SourcesGo streams items (translated bound control (length streams)) (each columns environments)
