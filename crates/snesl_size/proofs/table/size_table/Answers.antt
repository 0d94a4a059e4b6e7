use Rattle.snesl_flatten.specs.network.NodesAtRest.{final_view}
use Rattle.snesl_size.proofs.Tables.{whole_table}
use Rattle.snesl_size.proofs.table.size_table.Goals as goal

pub returns : goal.returns
returns c =
    let made = c.append_busiest.new.table.items in
    whole_table c.args.least c.args.full (final_view c.args.rested.now) c.new-table.result.items c.append_sizes.new.table.items made
    c.append_full.new.table.items c.new-table.ensures.items c.in_ok-append_sizes.ensures c.in_ok-append_busiest.ensures c.in_ok-append_full.ensures
