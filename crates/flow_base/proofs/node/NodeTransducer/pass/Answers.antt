use Rattle.std.proofs.Common.{◌≡◌, true, [], ◌∷◌, ◌++◌, refl, sym, ◌∙◌, ap, subst}
use Rattle.flow_messages.specs.Signals.{stop}
use Rattle.flow_messages.specs.Flats.{flat_signals}
use Rattle.flow_base.specs.Members.{node_of}
use Rattle.flow_base.specs.Passing.{PassedOn}
use Rattle.flow_base.specs.Following.{node_passes}
use Rattle.flow_base.proofs.Passing.{end_passed}
use Rattle.flow_base.proofs.node.NodeTransducer.pass.Goals as goal

pub returns-then-pass_items-clause-passed : goal.returns-then-pass_items-clause-passed
returns-then-pass_items-clause-passed g c =
    let m = g.W.Worker.machine in
    let node = node_of g.W.Worker.state m in
    let n = node.state c.args.self.now in
    let t = node.state c.pass_end.new.self in
    let is : node_passes m g.W.Worker.passes n ≡ true = sym c.if-not-may_pass.ensures.exact in
    let ended = c.if-pass_items.ensures.ended refl in
    let said : flat_signals c.args.block.now.items ≡ ended.0 ++ stop ∷ [] = ap flat_signals (sym c.as_slice.ensures.value) ∙ ended.1 in
    λ _. subst (λ l. PassedOn node.behaviour n l t (flat_signals c.pass_end.new.out.items)) (sym said)
    (end_passed m g.met.W.Worker.laws g.W.Worker.passes n is ended.0 c.pass_items.new.out.items c.pass_end.new.out.items t
    (c.if-not-may_pass.ensures.one refl) ended.2 c.pass_end.ensures.state c.pass_end.ensures.out)
