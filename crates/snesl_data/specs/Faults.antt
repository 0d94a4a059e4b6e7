-- The number of each fault.
use Rattle.std.specs.Prelude.{ℕ}
use Rattle.snesl_data.specs.declared.fault.FaultKind.{FaultKind}
use Rattle.snesl_data.specs.declared.fault.FaultKind.TheVariants.{Divide, Overflow, NegativeCount, Length, Part, The, EmptyMax, Index, Shape}

-- 1 to 9, as a program prints them
abbrev pub number_of_fault : FaultKind → ℕ
number_of_fault Divide = 1
number_of_fault Overflow = 2
number_of_fault NegativeCount = 3
number_of_fault Length = 4
number_of_fault Part = 5
number_of_fault The = 6
number_of_fault EmptyMax = 7
number_of_fault Index = 8
number_of_fault Shape = 9
