use Rattle.std.proofs.Common.{◌≡◌, ℕ, ◌+◌, ◌<◌, ◌≤◌, List, ◌++◌, length, take, drop, slice_index, ap, sym, subst, ◌∙◌, arith}
use Rattle.std.proofs.lemmas.List.Elements.{All-push}
use Rattle.flow_networks.specs.declared.edge.Edge.{Edge}
use Rattle.flow_networks.specs.Edges.{edge_at}
use Rattle.flow_networks.specs.Graphs.{edges_of, states_of}
use Rattle.flow_dealing.specs.declared.cut.link.Link.{Link}
use Rattle.flow_dealing.specs.cut.Loads.{AreBetween}
use Rattle.flow_dealing.specs.Weights.{CostFor, HaveWork, JoinAs}
use Rattle.flow_dealing.proofs.Lists.{written_back, zip_more}
use Rattle.flow_dealing.proofs.Work.{have_work, more_work}
use Rattle.flow_dealing.proofs.weights.weights.Goals as goal

pub loop-number-preserved : goal.loop-number-preserved
loop-number-preserved c =
    let inv = c.loop-number.invariant in
    let n = c.loop-number.number in
    let counts = c.args.counts.now in
    let edges = edges_of c.args.graph.now in
    let nodes = length (states_of c.args.graph.now) in
    let inside : n < length edges = omega (arith, c.loop-number-test.true, c.edges-number-end.ensures) in
    let edge : Edge = c.edge_with_kind-kind.result.0 in
    let is : edge ≡ edge_at edges n = c.edge_with_kind-kind.ensures.edge in
    let none : Edge = record { writer = 0; writer_port = 0; reader = 0; reader_port = 0 } in
    let links = c.loop-number.links.items in
    let link : Link = record { writer = edge.writer; reader = edge.reader; cost = c.cost-in-loop-number-2.result } in
    let pushed = c.in_ok-push.ensures.items in
    let long = c.loop-number.work.len in
    let work = c.loop-number.work.items in
    let one = c.add_work.new.work in
    let two = c.add_work-in-loop-number.new.work in
    let lent : c.deref_mut.result.now ≡ work = c.deref_mut.ensures.value in
    let even : length one ≡ length work = c.add_work.ensures.nodes ∙ ap length lent in
    let count : long ≡ length work = omega (arith, c.deref_mut.ensures.len, ap length lent) in
    let once : take long (one ++ drop (length one) work) ≡ one = written_back one work long even count in
    let after = take long (one ++ drop (length one) work) in
    let lent_again : c.deref_mut-in-loop-number.result.now ≡ after = c.deref_mut-in-loop-number.ensures.value in
    let even_again : length two ≡ length after = c.add_work-in-loop-number.ensures.nodes ∙ ap length lent_again in
    let twice : take long (two ++ drop (length two) after) ≡ two = written_back two after long even_again (count ∙ sym even ∙ sym (ap length once)) in
    let first : (k : ℕ) → slice_index work k ≤ slice_index one k = subst (λ (l : List ℕ). (k : ℕ) → slice_index l k ≤ slice_index one k) lent c.add_work.ensures.all in
    let then : (k : ℕ) → slice_index one k ≤ slice_index two k = subst (λ (l : List ℕ). (k : ℕ) → slice_index l k ≤ slice_index two k) (lent_again ∙ once) c.add_work-in-loop-number.ensures.all in
    let grows : (k : ℕ) → slice_index work k ≤ slice_index two k = λ k. omega (arith, first k, then k) in
    let wrote = c.cost.ensures in
    let read = c.cost-in-loop-number.ensures in
    let own : HaveWork counts edges two n =
    have_work counts edges two n edge is
    (omega (arith, wrote.some, c.add_work.ensures.own, then edge.writer)) (omega (arith, read.some, c.add_work-in-loop-number.ensures.own))
    (omega (arith, wrote.enough, c.add_work.ensures.own, then edge.writer)) (omega (arith, read.enough, c.add_work-in-loop-number.ensures.own)) in
    record {
      nodes = ap length twice ∙ even_again ∙ ap length once ∙ even ∙ inv.nodes;
      busy = subst (λ (l : List ℕ). (e : ℕ) → e < n + 1 → HaveWork counts edges l e) (sym twice) (more_work counts edges work two grows n inv.busy own);
      between = subst (AreBetween nodes) (sym pushed)
          (All-push (λ (l : Link). (l.writer < nodes) × (l.reader < nodes)) links link inv.between (c.edge_with_kind-kind.ensures.writer, c.edge_with_kind-kind.ensures.reader));
      joins = subst (JoinAs (take (n + 1) edges)) (sym pushed)
          (zip_more (λ (at : Edge) (l : Link). (l.writer ≡ at.writer) × (l.reader ≡ at.reader)) edges links n none link inside inv.joins
          (ap (λ (at : Edge). at.writer) is, ap (λ (at : Edge). at.reader) is));
      costs = subst (CostFor (take (n + 1) counts)) (sym pushed)
          (zip_more (λ (m : ℕ) (l : Link). (0 < l.cost) × (m ≤ l.cost)) counts links n 0 link (omega (arith, inside, c.requires.each)) inv.costs
          (c.cost-in-loop-number-2.ensures.some, c.cost-in-loop-number-2.ensures.enough));
    }

pub returns-clause-busy : goal.returns-clause-busy
returns-clause-busy c = λ e inside. c.loop-number.invariant.busy e (omega (arith, inside, c.loop-number-test.false, c.edges-number-end.ensures, c.loop-number.auto.number-end))
