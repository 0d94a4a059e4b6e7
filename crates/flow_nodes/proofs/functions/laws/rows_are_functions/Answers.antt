use Rattle.flow_nodes.proofs.functions.laws.rows_are_functions.Goals as goal
use Rattle.flow_nodes.proofs.OfFunctions.ScalarRows as scalars
use Rattle.flow_nodes.proofs.OfFunctions.FlagRows as over_flags
use Rattle.flow_nodes.proofs.OfFunctions.SegmentRows as segments
use Rattle.flow_nodes.proofs.OfFunctions.ValueRows as values

pub returns : goal.returns
returns c = record {
  source_row = scalars.source_row;
  const_row = scalars.const_row;
  unary_row = scalars.unary_row;
  binary_row = scalars.binary_row;
  fork_row = scalars.fork_row;
  sink_row = scalars.sink_row;
  iota_row = scalars.iota_row;
  units_of_row = scalars.units_of_row;
  scan_add_row = scalars.scan_add_row;
  reduce_row = scalars.reduce_row;
  length_row = scalars.length_row;
  dist_row = segments.dist_row;
  pack_row = segments.pack_row;
  pack_groups_row = over_flags.pack_groups_row;
  flag_of_bool_row = over_flags.flag_of_bool_row;
  same_flags_row = over_flags.same_flags_row;
  concat_flags_row = over_flags.concat_flags_row;
  part_flags_row = over_flags.part_flags_row;
  the_check_row = over_flags.the_check_row;
  append_flags_row = over_flags.append_flags_row;
  interleave_row = segments.interleave_row;
  interleave_groups_row = over_flags.interleave_groups_row;
  print_row = values.print_row;
  tab_row = values.tab_row;
  seq_row = values.seq_row;
  index_row = values.index_row;
}
