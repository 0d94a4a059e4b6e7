-- How ScanAdd goes along blocks, as it stands in memory.
use Rattle.std.specs.Prelude.{◌≡◌, ℕ, ℤ, Bool, List, Ok, take}
use Rattle.flow_base.specs.Flags.{F}
use Rattle.flow_base.specs.Machines.{state_after_read}
use Rattle.flow_folds.specs.ScanAddBlocks.{SumsAlong}
use Rattle.flow_folds.specs.ScanAddMachine.{scan_add_move}
use Rattle.flow_folds.specs.declared.scan_add.ScanAdd.{ScanAdd}
use Rattle.flow_folds.specs.declared.scan_add.Stage.{Stage}
use Rattle.flow_folds.specs.declared.scan_add.Stage.TheVariants.{Element}

-- a flag comes next, and an element after it comes after this sum and this element
abbrev pub HoldsLast : ScanAdd → ℤ × ℤ → Type 0
HoldsLast n held = state_after_read (scan_add_move n.dialect n.stage) F ≡ Ok (Element held.0 held.1)

-- the first so many flags and elements lead as far, and write the first so many sums
abbrev pub SumsFirstAlong : ScanAdd → List Bool → List ℤ → List ℤ → ℕ × ℕ × Stage → Type 0
SumsFirstAlong n flags elements sums r = SumsAlong n.dialect n.stage (take r.0 flags) (take r.1 elements) (take r.1 sums) r.2
