use Rattle.std.proofs.Common.{refl}
use Rattle.snesl_run.specs.console.Lines.{written}
use Rattle.snesl_run.proofs.OfConsole.Printing.{cut_off_line}
use Rattle.snesl_run.proofs.console.sending.print.Goals as goal

pub returns-then-send : goal.returns-then-send
returns-then-send g c = written c.if-send.ensures refl

pub returns-else-send : goal.returns-else-send
returns-else-send g c = cut_off_line c.complain.result c.if-send.ensures c.complain.ensures.told c.complain.ensures.status
