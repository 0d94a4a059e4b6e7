use Rattle.std.proofs.Common.{pos, false, refl}
use Rattle.flow_messages.specs.Cells.{unit, flag, int}
use Rattle.flow_messages.specs.declared.message.Kind.TheVariants.{Unit as UnitKind, Bool as BoolKind, Int as IntKind}
use Rattle.flow_messages.proofs.Fitting.{takes_where}
use Rattle.flow_words.proofs.ring.WordWriter.takes.Goals as goal

pub returns-in-Units : goal.returns-in-Units
returns-in-Units c = rw c.in-Units.is (takes_where UnitKind c.args.kind unit c.fits.result refl c.fits.ensures)

pub returns-in-Flags : goal.returns-in-Flags
returns-in-Flags c = rw c.in-Flags.is (takes_where BoolKind c.args.kind (flag false) c.fits-in-Flags.result refl c.fits-in-Flags.ensures)

pub returns-in-Ints : goal.returns-in-Ints
returns-in-Ints c = rw c.in-Ints.is (takes_where IntKind c.args.kind (int (pos 0)) c.fits-in-Ints.result refl c.fits-in-Ints.ensures)
