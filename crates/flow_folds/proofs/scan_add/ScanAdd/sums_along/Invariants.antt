use Rattle.std.proofs.Common.{◌≡◌, ◌≤◌, Ok, length, take}
use Rattle.flow_base.specs.Flags.{F}
use Rattle.flow_base.specs.Machines.{state_after_read}
use Rattle.flow_folds.specs.ScanAddMachine.{scan_add_move}
use Rattle.flow_folds.specs.ScanAddBlocks.{SumsAlong}
use Rattle.flow_folds.specs.declared.scan_add.Stage.TheVariants.{Element}
use Rattle.flow_folds.proofs.scan_add.ScanAdd.sums_along.Given as goal

-- the sums so far, and what is held after them
abbrev pub invariant-loop-place : goal.invariant-loop-place
invariant-loop-place l = record {
  fewer : l.read ≤ l.place;
  shown : l.read ≤ length l.elements;
  held : state_after_read (scan_add_move l.self.dialect l.stage) F ≡ Ok (Element l.before l.last);
  along : SumsAlong l.self.dialect l.self.stage (take l.place l.flags) (take l.read l.elements) (take l.read l.sums) l.stage;
}
