use Rattle.std.proofs.lemmas.Grind.{common_steps}
use Rattle.std.proofs.Common.{arith, ◌≡◌, false, true, sym, ◌∙◌}
use Rattle.flow_shares.proofs.Rounds.{there_out, apart_out, own_out, often_out}
use Rattle.flow_shares.proofs.turns.after_turns.Goals.{in-Ok, in-Err}
use Rattle.flow_shares.proofs.turns.after_turns.Goals as goal

pub invariant_of-result : goal.invariant_of-result
invariant_of-result g c =
    let share = c.args.share in
    let view = g.E.Ends.view in
    let back = c.match-take_turns.result in
    let took = c.take_turns.ensures in
    elim c.match-take_turns.branch [
      | in-Ok w ↦ (let nodes_are : back.1.0.items ≡ c.take_turns.new.nodes.items = λ i. (w.result-is i).1.0.items in
          let view_is : view back.1.1.0 ≡ view c.take_turns.new.ends = λ i. view (w.result-is i).1.1.0 in
          record {
            there = there_out nodes_are view_is took.places took.ends share.there;
            apart = apart_out nodes_are view_is took.places share.apart;
            own = λ fed. own_out nodes_are view_is took.places w.in-Ok.ensures.moved (share.own c.requires.fed);
          })
      | in-Err w ↦ (let nodes_are : back.1.0.items ≡ c.take_turns.new.nodes.items = λ i. (w.result-is i).1.0.items in
          let view_is : view back.1.1.0 ≡ view c.take_turns.new.ends = λ i. view (w.result-is i).1.1.0 in
          let starved : back.1.1.1.1.0 ≡ true = λ i. (w.result-is i).1.1.1.1.0 in
          record {
            there = there_out nodes_are view_is took.places took.ends share.there;
            apart = apart_out nodes_are view_is took.places share.apart;
            own = λ fed. absurd (let no : true ≡ false = sym starved ∙ fed in cc);
          })
    ]

pub returns-clause-often : goal.returns-clause-often
returns-clause-often g c =
    let view = g.E.Ends.view in
    let back = c.match-take_turns.result in
    elim c.match-take_turns.branch [
      | in-Ok w ↦ (let nodes_are : back.1.0.items ≡ c.take_turns.new.nodes.items = λ i. (w.result-is i).1.0.items in
          let view_is : view back.1.1.0 ≡ view c.take_turns.new.ends = λ i. view (w.result-is i).1.1.0 in
          let spent_is : back.1.1.1.0 ≡ w.in-Ok.field-0.spent = λ i. (w.result-is i).1.1.1.0 in
          λ spent. often_out nodes_are view_is c.take_turns.ensures.places (w.in-Ok.ensures.often (sym spent_is ∙ spent)))
      | in-Err w ↦ (let spent_is : back.1.1.1.0 ≡ false = λ i. (w.result-is i).1.1.1.0 in
          λ spent. absurd (let no : true ≡ false = sym spent ∙ spent_is in cc))
    ]

pub returns-clause-heard : goal.returns-clause-heard
returns-clause-heard g c =
    let back = c.match-take_turns.result in
    elim c.match-take_turns.branch [
      | in-Ok w ↦ (let spent_is : back.1.1.1.0 ≡ w.in-Ok.field-0.spent = λ i. (w.result-is i).1.1.1.0 in
          λ spent. w.in-Ok.ensures.heard (sym spent_is ∙ spent))
      | in-Err w ↦ (let spent_is : back.1.1.1.0 ≡ false = λ i. (w.result-is i).1.1.1.0 in
          λ spent. absurd (let no : true ≡ false = sym spent ∙ spent_is in cc))
    ]

pub returns-clause-starves : goal.returns-clause-starves
returns-clause-starves g c = grind (arith, common_steps)
