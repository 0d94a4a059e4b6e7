use Rattle.std.proofs.Common.{subst, sym}
use Rattle.flow_messages.specs.Blocks.{unit_signals, flag_signals, int_signals}
use Rattle.flow_base.proofs.Batches.{length_units, length_flags, length_ints}
use Rattle.flow_scalar.specs.SinkShown.{EachFits}
use Rattle.flow_scalar.proofs.SinkBlocks.{fit_units, fit_flags, fit_ints}
use Rattle.flow_scalar.proofs.sink.count_of.Goals as goal

pub returns-in-Unit : goal.returns-in-Unit
returns-in-Unit c = let block = unit_signals c.units.result in record {
  block = block;
  first = c.units.ensures;
  long = length_units c.units.result;
  fits = subst (λ kind. EachFits kind block) (sym c.in-Unit.is) (fit_units c.units.result);
}

pub returns-in-Bool : goal.returns-in-Bool
returns-in-Bool c = let block = flag_signals c.flags.result.now in record {
  block = block;
  first = c.flags.ensures;
  long = length_flags c.flags.result.now;
  fits = subst (λ kind. EachFits kind block) (sym c.in-Bool.is) (fit_flags c.flags.result.now);
}

pub returns-in-Int : goal.returns-in-Int
returns-in-Int c = let block = int_signals c.ints.result.now in record {
  block = block;
  first = c.ints.ensures;
  long = length_ints c.ints.result.now;
  fits = subst (λ kind. EachFits kind block) (sym c.in-Int.is) (fit_ints c.ints.result.now);
}
