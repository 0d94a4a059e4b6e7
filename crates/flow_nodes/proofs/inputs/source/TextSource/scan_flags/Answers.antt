use Rattle.std.proofs.Common.{◌≡◌, ◌≤◌, length, map, take, ◌∙◌, ap, subst}
use Rattle.std.specs.Arc.{arc_value}
use Rattle.flow_nodes.specs.declared.inputs.turns.Piece.TheVariants.{Flag}
use Rattle.flow_nodes.specs.inputs.Left.{left}
use Rattle.snesl_values.specs.Places.{value_at}
use Rattle.flow_nodes.specs.inputs.Items.{opening_state}
use Rattle.flow_nodes.proofs.OfInputs.Blocks.{left_ahead, rest_after, sends_ahead, said_flags}
use Rattle.flow_nodes.proofs.inputs.source.TextSource.scan_flags.Goals as goal

pub invariant_of-self : goal.invariant_of-self
invariant_of-self c =
    let n = c.args.self.now in
    let text = (arc_value n.text).items in
    let way = n.way.items in
    let text_is : c.deref-2.result.now ≡ text = c.deref-2.ensures.value ∙ ap (λ v. v.items) c.deref.ensures in
    let f = c.flags_ahead-ahead in
    let pieces = map Flag (take f.result.count f.new.flags) in
    record {
      inside = subst (λ t. f.result.at ≤ length t) text_is f.ensures.within;
      shallow = f.ensures.shallow;
      rest = rest_after (left text way n.leaf n.place opening_state) (left text way n.leaf n.at n.state) pieces (left text way n.leaf f.result.at f.result.state) n.rest
          (left_ahead text _ way _ n.leaf n.at f.result.at n.state f.result.state pieces text_is c.deref-3.ensures.value f.ensures.first);
    }

pub returns-clause-sends : goal.returns-clause-sends
returns-clause-sends c =
    let n = c.args.self.now in
    let text = (arc_value n.text).items in
    let way = n.way.items in
    let text_is : c.deref-2.result.now ≡ text = c.deref-2.ensures.value ∙ ap (λ v. v.items) c.deref.ensures in
    let f = c.flags_ahead-ahead in
    let found = take f.result.count f.new.flags in
    sends_ahead text way n.leaf n.place n.at f.result.at n.state f.result.state n.ended (map Flag found) _ c.requires.sending n.rest
    (left_ahead text _ way _ n.leaf n.at f.result.at n.state f.result.state (map Flag found) text_is c.deref-3.ensures.value f.ensures.first)
    (said_flags (value_at text) found)
