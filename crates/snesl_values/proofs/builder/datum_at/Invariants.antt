use Rattle.std.proofs.Common.{◌≡◌, ◌≤◌, ◌-◌, length, option_map}
use Rattle.snesl_data.specs.Values.{value_of}
use Rattle.snesl_values.specs.Marks.{spots}
use Rattle.snesl_values.specs.Places.{spelled, value_at}
use Rattle.snesl_values.specs.Pendings.{frames_of}
use Rattle.snesl_values.proofs.builder.datum_at.Given as goal

abbrev pub invariant-tokens : goal.invariant-tokens
invariant-tokens l = record {
  same : spelled (frames_of l.pending.items) (option_map value_of l.last) (spots l.text l.at) ≡ value_at l.text l.fn.place;
  within : l.at ≤ length l.text;
}

abbrev pub decreases-tokens : goal.decreases-tokens
decreases-tokens l = length l.text - l.at
