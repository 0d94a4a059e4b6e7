use Rattle.std.proofs.Common.{arith}
use Rattle.snesl_run.proofs.OfConsole.OwnLines.{own_line, short_line_of}
use Rattle.snesl_run.proofs.console.lines.system_line.Goals as goal

pub returns-in-NoMemory : goal.returns-in-NoMemory
returns-in-NoMemory c = rw c.in-NoMemory.is (own_line 11 (omega arith) (omega arith))

pub returns-in-Output : goal.returns-in-Output
returns-in-Output c = rw c.in-Output.is (own_line 12 (omega arith) (omega arith))

pub returns-in-NoThread : goal.returns-in-NoThread
returns-in-NoThread c = rw c.in-NoThread.is (own_line 13 (omega arith) (omega arith))

pub returns-in-Read : goal.returns-in-Read
returns-in-Read c = rw c.in-Read.is (own_line 14 (omega arith) (omega arith))

pub returns-in_default : goal.returns-in_default
returns-in_default c =
    short_line_of c.args.refusal c.requires c.in_default.not-NoMemory c.in_default.not-Output c.in_default.not-NoThread c.in_default.not-Read
