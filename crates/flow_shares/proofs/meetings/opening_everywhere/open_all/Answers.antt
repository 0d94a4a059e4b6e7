use Rattle.std.proofs.Common.{◌≡◌, ◌==◌, ◌+◌, ◌<◌, ◌++◌, ◌∷◌, [], ℕ, length, take, get_or, sym, ap, ◌∙◌, subst, arith}
use Rattle.std.specs.List.{All}
use Rattle.std.proofs.lemmas.List.{take_more, length-take-le}
use Rattle.std.proofs.lemmas.List.Elements.{All-take}
use Rattle.flow_shares.specs.declared.meetings.owners.EdgeOwners.{EdgeOwners}
use Rattle.flow_shares.specs.meetings.Opens.{OpensAt}
use Rattle.flow_networks.specs.EdgeKinds.{kind_at}
use Rattle.flow_shares.specs.meetings.Open.{AreFreshEnds}
use Rattle.flow_shares.proofs.OfMeetings.Lists.{written_back}
use Rattle.flow_shares.proofs.OfMeetings.More.{open_more}
use Rattle.flow_shares.proofs.OfMeetings.Refused.{none_given}
use Rattle.flow_shares.proofs.meetings.opening_everywhere.open_all.Goals as goal

pub loop-edge-preserved : goal.loop-edge-preserved
loop-edge-preserved g c =
    let inv = c.loop-edge.invariant in
    let step = c.in_ok-open_edge.ensures in
    let law = g.met.E.Opening in
    let view = g.E.Ends.view in
    let joins = g.E.Meeting.joins in
    let places = g.E.Meeting.slots in
    let capacity = c.args.capacity in
    let owners = c.args.owners.now in
    let kinds = c.args.kinds.now in
    let n = c.loop-edge.edge in
    let inside : n < length owners = c.loop-edge-test.true in
    let none : EdgeOwners = record { writer = 0; reader = 0 } in
    let owner = get_or owners n none in
    let items = c.loop-edge.ends.items in
    let old = c.deref_mut.result.now in
    let new = c.open_edge.new.ends in
    let value : old ≡ items = c.deref_mut.ensures.value in
    let many : length old ≡ c.args.threads = ap length value ∙ inv.count in
    let back = written_back new items c.loop-edge.ends.len (omega (arith, c.open_edge.auto.ends, ap length value)) (omega (arith, c.deref_mut.ensures.len, ap length value)) in
    let at : length (take n owners) ≡ n = length-take-le n owners (omega (arith, inside)) in
    let next : take (n + 1) owners ≡ take n owners ++ owner ∷ [] = take_more owners n none inside in
    let P = λ (a : g.row.E.Denot). ((e : ℕ) → e < length kinds → g.E.Opening.has_place a e (kind_at kinds e) capacity) in
    let place = subst (All P) (sym value) inv.place in
    record {
      count = ap length back ∙ c.open_edge.auto.ends ∙ many;
      place = subst (All P) (sym back) (λ k d low e h. (
          let l : k < length old = omega (arith, low, c.open_edge.auto.ends) in
          law.opens_place n (get_or old k d) (get_or new k d) (step.opens k d l) e (kind_at kinds e) capacity (place k d l e h)
          ));
      opened = subst (λ l. AreFreshEnds view joins places (take (n + 1) owners) kinds capacity l) (sym back) (subst (λ ws. AreFreshEnds view joins places ws kinds capacity new) (sym next) (
          open_more view joins places kinds capacity g.E.Opening.opens law.opens_places law.open_join_writer law.open_join_reader (take n owners) owner old new c.open_edge.auto.ends
          (subst (All (λ w. w.writer < length old)) next (All-take (λ w. w.writer < length old) (n + 1) owners (λ k d l. omega (arith, c.requires.writers k d l, many))))
          (subst (All (λ w. w.reader < length old)) next (All-take (λ w. w.reader < length old) (n + 1) owners (λ k d l. omega (arith, c.requires.readers k d l, many))))
          (λ s d l. subst (λ m. g.E.Opening.opens m (get_or old s d) (get_or new s d)) (sym at) (step.opens s d l))
          (λ s d l. subst (λ m. OpensAt m (kind_at kinds m) capacity (owner.writer == s) (owner.reader == s) (view (get_or old s d)) (view (get_or new s d))) (sym at) (step.fresh s d l))
          (λ d. subst (λ m. joins (get_or new owner.writer d) (get_or new owner.reader d) m) (sym at) (step.joined d))
          (λ d. subst (λ m. places (get_or new owner.writer d) m ≡ capacity) (sym at) (step.places d))
          (subst (λ l. AreFreshEnds view joins places (take n owners) kinds capacity l) (sym value) inv.opened)
          ));
    }

pub returns-in_err-ends : goal.returns-in_err-ends
returns-in_err-ends g c = record { count = none_given _ c.from_residual.result c.from_residual.ensures.0; opened = none_given _ c.from_residual.result c.from_residual.ensures.0 }

pub returns-in_err-open_edge : goal.returns-in_err-open_edge
returns-in_err-open_edge g c =
    record {
      count = none_given _ c.from_residual-in_err-open_edge.result c.from_residual-in_err-open_edge.ensures.0;
      opened =
          none_given _ c.from_residual-in_err-open_edge.result c.from_residual-in_err-open_edge.ensures.0;
    }
