-- What the calls of a worker answer and leave.
use Rattle.std.specs.Prelude.{◌≡◌, Result, Ok, Err}
use Rattle.snesl_data.specs.declared.fault.FaultKind.{FaultKind}
use Rattle.flow_base.specs.declared.worker.Ask.{Ask}
use Rattle.flow_base.specs.declared.worker.Ask.TheVariants.{Begin, Take, Give}
use Rattle.flow_base.specs.declared.worker.Stop.{Stop}
use Rattle.flow_base.specs.declared.worker.Stop.TheVariants.{Faulted, OutOfMemory}

-- what a call that was given an item answers and leaves, where the item leads to the first; a fault is never a want of
-- memory
abbrev pub Takes : {S : Type 0} → Result S FaultKind → S → Result (Unit {0}) Stop → S → Type 0
Takes (Ok next) old (Ok _) new = new ≡ next
Takes (Err kind) old (Err (Faulted other)) new = (other ≡ kind) × (new ≡ old)
Takes (Ok next) old (Err OutOfMemory) new = new ≡ old
Takes (Err kind) old (Err OutOfMemory) new = ⊥
Takes (Ok next) old (Err (Faulted other)) new = ⊥
Takes (Err kind) old (Ok _) new = ⊥

-- an item is wanted
abbrev pub IsReading : Ask → Type 0
IsReading Begin = Unit {0}
IsReading (Take p) = Unit {0}
IsReading (Give q) = ⊥

-- an item is to be written
abbrev pub IsWriting : Ask → Type 0
IsWriting Begin = ⊥
IsWriting (Take p) = ⊥
IsWriting (Give q) = Unit {0}
