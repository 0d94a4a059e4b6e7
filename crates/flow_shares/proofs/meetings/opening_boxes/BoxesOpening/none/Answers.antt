use Rattle.std.proofs.Common.{length, ◌∙◌, List, ℕ, arith}
use Rattle.std.specs.Prelude.{Result, Ok, Err, IfOk}
use Rattle.std.specs.declared.alloc.AllocError.{AllocError}
use Rattle.std.proofs.lemmas.Option.{slice_get-get_or}
use Rattle.flow_messages.specs.declared.message.Kind.{Kind}
use Rattle.flow_messages.specs.declared.message.Kind.TheVariants.{Unit as UnitKind}
use Rattle.flow_boxes.specs.declared.boxes.Boxes.{Boxes}
use Rattle.flow_boxes.specs.Contents.{contents}
use Rattle.flow_boxes.specs.Rounds.{HasNone}
use Rattle.flow_shares.specs.meetings.Opens.{HasPlaces}
use Rattle.flow_shares.specs.meetings.BoxOpenings.{BoxesHavePlace}
use Rattle.flow_shares.proofs.meetings.opening_boxes.BoxesOpening.none.Goals as goal

-- each edge that has a kind has a place of this kind
all_have_places : (r : Result Boxes AllocError) (kinds : List Kind) (most : ℕ) → IfOk r (λ boxes. HasNone kinds most (contents boxes)) → IfOk r (HasPlaces BoxesHavePlace kinds most)
all_have_places (Err x) kinds most none = tt
all_have_places (Ok boxes) kinds most none = λ e l. record {
  number = omega (arith, l, none.count);
  of_kind = none.kind e ∙ slice_get-get_or kinds e UnitKind l;
  most = none.capacity;
}

pub returns-clause-place : goal.returns-clause-place
returns-clause-place c = all_have_places c.new.result c.args.kinds.now c.args.capacity c.new.ensures
