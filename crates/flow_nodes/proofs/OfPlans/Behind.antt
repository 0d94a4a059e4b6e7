-- The transducers of a layout: those of steps, and those that stand after a stream and copy it, as often as it has uses.
use Rattle.std.specs.Prelude.{◌≡◌, ℕ, zero, suc, List, [], ◌∷◌, ◌++◌, length, replicate, option_map, refl}
use Rattle.std.proofs.lemmas.List.{length-replicate}
use Rattle.flow_messages.specs.Cells.{Cell}
use Rattle.flow_messages.specs.declared.message.Kind.{Kind}
use Rattle.flow_nodes.specs.functions.Decoded.{items_of_kind}
use Rattle.flow_nodes.specs.plans.Plans.{Step, made_by}
use Rattle.flow_nodes.specs.plans.Ports.{kinds_read, kinds_written}
use Rattle.flow_nodes.specs.plans.Layouts.{Placed, places_after, uses, numbered, all_after}

-- the transducer of a step, the first stream of which has this number
abbrev pub node_of : Step → ℕ → Placed
node_of step s = record { at = step.at; operation = step.operation; reads = step.reads; writes = numbered s (kinds_written step.operation) }

-- A transducer reads one stream and writes it to each of its outputs, where the stream's items are all of its kind.
pub record IsCopy (placed : Placed) : Type 0 where
  pub kind : Kind
  pub stream : ℕ
  pub count : ℕ
  pub reads : placed.reads ≡ stream ∷ []
  pub writes : placed.writes ≡ replicate count stream
  pub kinds_read : kinds_read placed.operation ≡ kind ∷ []
  pub kinds_written : length (kinds_written placed.operation) ≡ count
  pub made : (a : List Cell) → made_by placed.operation (a ∷ []) ≡ option_map (λ xs. replicate count xs) (items_of_kind kind a)

abbrev pub AreCopies : List Placed → Type 0
AreCopies [] = Unit {0}
AreCopies (placed ∷ others) = IsCopy placed × AreCopies others

copies_append : (xs ys : List Placed) → AreCopies xs → AreCopies ys → AreCopies (xs ++ ys)
copies_append [] ys h g = g
copies_append (x ∷ xs) ys h g = (h.0, copies_append xs ys h.1 g)

after_copies : (at s : ℕ) (kind : Kind) (n : ℕ) → AreCopies (places_after at s kind n)
after_copies at s kind zero = (record { kind = kind; stream = s; count = zero; reads = refl; writes = refl; kinds_read = refl; kinds_written = refl; made = λ a. refl }, tt)
after_copies at s kind (suc zero) = tt
after_copies at s kind (suc (suc n)) =
    (record { kind = kind; stream = s; count = suc (suc n); reads = refl; writes = refl; kinds_read = refl; kinds_written = length-replicate (suc (suc n)) kind; made = λ a. refl }, tt)

pub all_after_copies : (plan : List Step) (at s : ℕ) (kinds : List Kind) → AreCopies (all_after plan at s kinds)
all_after_copies plan at s [] = tt
all_after_copies plan at s (kind ∷ kinds) =
    copies_append (places_after at s kind (uses s plan)) (all_after plan at (suc s) kinds) (after_copies at s kind (uses s plan)) (all_after_copies plan at (suc s) kinds)
