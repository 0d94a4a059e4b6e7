-- Making steps: what a translation adds to a plan.
use Rattle.std.specs.Prelude.{ℕ, ◌+◌, List, [], ◌∷◌, ◌++◌}
use Rattle.snesl_data.specs.Types.{Ty}
use Rattle.flow_values.specs.Flats.{width}
use Rattle.flow_nodes.specs.plans.Plans.{Operation, Step}
use Rattle.snesl_translation.specs.Wires.{Wires, wires_from}

-- the steps that are added, what they give, and the number of the next stream
pub record Making (A : Type 0) : Type 0 where
  pub steps : List Step
  pub given : A
  pub next : ℕ

-- nothing is added
abbrev pub done : {A : Type 0} → A → ℕ → Making A
done x next = record { steps = []; given = x; next = next }

-- one making, and then another one of what it gave
unfoldable pub and_then : {A B : Type 0} → Making A → (A → ℕ → Making B) → Making B
and_then first rest = record {
  steps = first.steps ++ (rest first.given first.next).steps;
  given = (rest first.given first.next).given;
  next = (rest first.given first.next).next;
}

-- a step whose outputs are the streams of a type
abbrev pub stepped : ℕ → Operation → List ℕ → Ty → ℕ → Making Wires
stepped at operation reads t next = record {
  steps = record { at = at; operation = operation; reads = reads } ∷ [];
  given = wires_from t next;
  next = next + width t;
}

-- a step that writes nothing
abbrev pub tested : {A : Type 0} → ℕ → Operation → List ℕ → A → ℕ → Making A
tested at operation reads given next = record {
  steps = record { at = at; operation = operation; reads = reads } ∷ [];
  given = given;
  next = next;
}
