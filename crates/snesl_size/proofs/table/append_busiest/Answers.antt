use Rattle.std.proofs.Common.{Result, Ok, Err}
use Rattle.std.specs.Result.{OnOk}
use Rattle.snesl_flatten.specs.network.NodesAtRest.{final_view}
use Rattle.snesl_size.proofs.Tables.{with_busiest, without_busiest}
use Rattle.snesl_size.proofs.table.append_busiest.Goals as goal

on_ok : {X E P Q : Type 0} (r : Result X E) → (P → Q) → OnOk r P → OnOk r Q
on_ok (Ok x) step p = step p
on_ok (Err e) step p = tt

pub returns-in_ok-append_line-in-Some : goal.returns-in_ok-append_line-in-Some
returns-in_ok-append_line-in-Some c =
    let first = c.append_line.new.table.items in
    let second = c.append_line-in-Some in
    on_ok second.result
    (with_busiest (final_view c.args.rested.now) c.args.table.now.items c.in-Some.edge c.counts.result.0 first second.new.table.items
    c.in-Some.ensures c.counts.ensures.sent c.in_ok-append_line-in-Some.ensures)
    second.ensures

pub returns-in-None : goal.returns-in-None
returns-in-None c = without_busiest (final_view c.args.rested.now) c.args.table.now.items c.in-None.ensures
