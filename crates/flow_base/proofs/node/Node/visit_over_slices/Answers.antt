use Rattle.std.proofs.Common.{◌≡◌, ℕ, nat_lt, true, false, ap, subst, arith}
use Rattle.std.proofs.lemmas.Bool.Decides.{nat_tests}
use Rattle.flow_base.specs.Members.{node_of}
use Rattle.flow_base.specs.NodeLaws.{behaviour_laws}
use Rattle.flow_base.proofs.Kernels.{made_went}
use Rattle.flow_base.proofs.Visiting.{broken, still_placed}
use Rattle.flow_base.proofs.Visits.{Made, visited}
use Rattle.flow_base.proofs.node.Node.visit_over_slices.Goals.{in-Working, in_default}
use Rattle.flow_base.proofs.Walks.{then_visit}
use Rattle.flow_base.proofs.node.Node.visit_over_slices.Goals as goal

pub many-requires-clause-works : goal.many-requires-clause-works
many-requires-clause-works g c = elim c.match-matches.branch [ in-Working w ↦ w.in-Working.is | in_default w ↦ absurd (cc (w.matches-is, c.if-not-matches.false)) ]

pub visit_by_steps-requires-clause-placed : goal.visit_by_steps-requires-clause-placed
visit_by_steps-requires-clause-placed g c =
    let got = c.in_ok-whole.ensures.visit.went in
    still_placed g.W.Worker g.E.Ends g.met.W.Worker.laws c.args.self.now c.args.ends.now c.requires.placed c.many.new.self c.many.new.ends _ c.many.ensures.visit.ends got

positive : (n : ℕ) → (n ≡ 0 → ⊥) → nat_lt 0 n ≡ true
positive n some = grind (arith, nat_tests)

-- none was made over slices
pub returns-then-whole-eq0 : goal.returns-then-whole-eq0
returns-then-whole-eq0 g c =
    let laws = behaviour_laws _ g.met.W.Worker.laws in
    let it = c.many.ensures.visit in
    let later = c.visit_by_steps in
    let made = made_went c.in_ok-whole.ensures.visit.went laws c.requires.placed it.ends in
    then_visit g.E.Ends g.met.E.Ends.same_trans laws c.args.ends.now c.many.new.ends later.new.ends c.requires.placed it.same made later.ensures.same later.ensures.ends
    later.result (ap (nat_lt 0) c.if-whole-eq0.true) later.ensures

pub returns : goal.returns
returns g c =
    let node = node_of g.W.Worker.state g.W.Worker.machine in
    let view = g.E.Ends.view in
    let placed = c.requires.placed in
    let made = made_went c.in_ok-whole.ensures.visit.went (behaviour_laws _ g.met.W.Worker.laws) placed c.many.ensures.visit.ends in
    let some = positive c.in_ok-whole.whole c.if-whole-eq0.false in
    record {
      same = c.many.ensures.visit.same;
      ends = c.many.ensures.visit.ends;
      visited = visited (behaviour_laws _ g.met.W.Worker.laws) placed
          (subst (Made node.behaviour c.args.edges.now.inputs.now c.args.edges.now.outputs.now (node.state c.args.self.now) (view c.args.ends.now)
          (node.state c.many.new.self) (view c.many.new.ends)) some made) (λ h. absurd (let no : true ≡ false = h in cc));
      broke = tt;
    }

pub returns-in_err-whole : goal.returns-in_err-whole
returns-in_err-whole g c =
    let it = c.many.ensures.visit in
    broken g.E.Ends c.args.ends.now c.many.new.ends it.same it.ends c.in_err-whole.ensures.visit.broke c.from_residual.result c.from_residual.ensures.0
