use Rattle.std.proofs.Common.{refl}
use Rattle.flow_drives.specs.declared.config.Config.{Config}
use Rattle.flow_drives.specs.declared.config.Drive.TheVariants.{Serial}
use Rattle.snesl_flatten.specs.network.NodesAtRest.{final_view}
use Rattle.snesl_size.proofs.Searching.{left_so, refused_at_all}
use Rattle.snesl_size.proofs.search.left_at.Goals as goal

pub returns-clause-left : goal.returns-clause-left
returns-clause-left g c =
    let config : Config = record { capacity = c.args.capacity; chunk = c.args.chunk; threads = 1; idle = 1; share = c.in_ok-vec.field-0; drive = Serial } in
    left_so c.args.program.now c.args.input.now config refl final_view c.drive_program.result c.drive_program.ensures.rests

pub returns-clause-refused : goal.returns-clause-refused
returns-clause-refused g c =
    let config : Config = record { capacity = c.args.capacity; chunk = c.args.chunk; threads = 1; idle = 1; share = c.in_ok-vec.field-0; drive = Serial } in
    refused_at_all c.args.program.now c.args.input.now config refl c.requires refl refl c.in_ok-vec.ensures.items c.drive_program.result
    c.drive_program.ensures.refused
