use Rattle.std.proofs.Common.{refl}
use Rattle.snesl_meaning.specs.worked.Worked.{faults, in_second, refusals, values}
use Rattle.snesl_meaning.proofs.OfWorked.Found.{rows_hold}
use Rattle.snesl_meaning.proofs.OfWorked.WithInputs.{with_inputs_hold}
use Rattle.snesl_meaning.proofs.worked.rows.worked_rows.Goals as goal

-- what is found for each row is computed
pub returns : goal.returns
returns c = record {
  values = rows_hold values (record { plain = refl; short = refl; same = refl });
  faults = rows_hold faults (record { plain = refl; short = refl; same = refl });
  refusals = rows_hold refusals (record { plain = refl; short = refl; same = refl });
  in_second = rows_hold in_second (record { plain = refl; short = refl; same = refl });
  with_inputs = with_inputs_hold;
}
