use Rattle.std.proofs.Common.{◌≡◌, true, sym, ◌∙◌, ap, nat_lt}
use Rattle.std.proofs.lemmas.Bool.{or_left}
use Rattle.flow_base.specs.declared.node.Phase.TheVariants.{Working}
use Rattle.flow_base.specs.Members.{node_of}
use Rattle.flow_base.specs.NodeLaws.{behaviour_laws}
use Rattle.flow_base.proofs.Visits.{made_first, placed_on, moved}
use Rattle.flow_base.proofs.Visiting.{broken}
use Rattle.flow_base.proofs.node.Node.visit_by_steps.Goals.{in-Working, in_default, in-Working-matches, in_default-matches}
use Rattle.flow_base.proofs.Walks.{then_broke, then_visited}
use Rattle.flow_base.proofs.node.Node.visit_by_steps.Goals as goal

pub close-requires-2-clause-placed : goal.close-requires-2-clause-placed
close-requires-2-clause-placed g c =
    let node = node_of g.W.Worker.state g.W.Worker.machine in
    let placed = c.requires.placed in
    placed_on (behaviour_laws _ g.met.W.Worker.laws) placed (made_first (behaviour_laws _ g.met.W.Worker.laws) placed c.work.ensures.visit.ends c.in_ok-made.ensures.visit.visited)

pub returns-in_err-close : goal.returns-in_err-close
returns-in_err-close g c =
    let laws = behaviour_laws _ g.met.W.Worker.laws in
    let it = c.work.ensures.visit in
    let worked = made_first laws c.requires.placed it.ends c.in_ok-made.ensures.visit.visited in
    then_broke g.E.Ends g.met.E.Ends.same_trans laws c.args.ends.now c.work.new.ends c.close-2.new.ends c.requires.placed it.same worked c.close-2.ensures.same c.close-2.ensures.ends
    c.from_residual-in_err-close.result c.from_residual-in_err-close.ensures.0 c.in_err-close.ensures.broke

-- it works no longer, and so it made a step
pub returns : goal.returns
returns g c =
    let node = node_of g.W.Worker.state g.W.Worker.machine in
    let laws = behaviour_laws _ g.met.W.Worker.laws in
    let placed = c.requires.placed in
    let it = c.work.ensures.visit in
    let s = node.state c.args.self.now in
    let t = node.state c.work.new.self in
    let worked = made_first laws placed it.ends c.in_ok-made.ensures.visit.visited in
    let works : s.phase ≡ Working = elim c.match-matches.branch [ in-Working w ↦ w.in-Working.is | in_default w ↦ absurd (cc (w.matches-is, c.if-not-matches.false)) ] in
    let stopped : t.phase ≡ Working → ⊥ =
    λ on. elim c.match-matches-2.branch
    [ in-Working-matches w ↦ absurd (cc (w.matches-is, c.if-matches.false)) | in_default-matches w ↦ w.in_default-matches.not-Working on ] in
    let some : nat_lt 0 c.in_ok-made.made ≡ true = moved laws placed worked (λ same. stopped (sym (ap (λ n. n.phase) same) ∙ works)) in
    then_visited g.E.Ends g.met.E.Ends.same_trans laws c.args.ends.now c.work.new.ends c.close-2.new.ends placed it.same worked c.close-2.ensures.same c.close-2.ensures.ends
    true (or_left (nat_lt 0 c.in_ok-made.made) c.in_ok-close.field-0 some) c.in_ok-close.ensures.visited

pub returns-in_err-made : goal.returns-in_err-made
returns-in_err-made g c =
    let it = c.work.ensures.visit in
    broken g.E.Ends c.args.ends.now c.work.new.ends it.same it.ends c.in_err-made.ensures.visit.broke c.from_residual.result c.from_residual.ensures.0
