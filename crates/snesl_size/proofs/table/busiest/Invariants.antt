use Rattle.std.proofs.Common.{◌≡◌, MatchOption}
use Rattle.snesl_flatten.specs.network.NodesAtRest.{final_view}
use Rattle.snesl_size.specs.Tables.{IsBusiestOf, count_over}
use Rattle.snesl_size.proofs.table.busiest.Given as goal

-- the busiest of the edges so far, and how many messages went over it
abbrev pub invariant-loop-edge : goal.invariant-loop-edge
invariant-loop-edge l =
    let rest = final_view l.fn.rested in
    MatchOption l.busiest (l.edge ≡ 0) (λ e. IsBusiestOf rest l.edge e × (l.most ≡ count_over rest e))
