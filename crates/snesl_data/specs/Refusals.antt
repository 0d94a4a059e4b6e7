-- The number of each refusal, the offset that it names, and where it is said.
use Rattle.std.specs.Prelude.{ℕ, Bool, true, false, if◌then◌else◌, Option, Some, None}
use Rattle.snesl_data.specs.declared.refusal.Refusal.{Refusal}
use Rattle.snesl_data.specs.declared.refusal.Refusal.TheVariants.{TooLong, Lex, Syntax, Deep, Name, Mismatch, Streamed, BadInput, TooBig, BadConfig, NoMemory, Output, NoThread, Read, Short}

-- 1 to 15, as a program prints them
abbrev pub number_of_refusal : Refusal → ℕ
number_of_refusal TooLong = 1
number_of_refusal (Lex at) = 2
number_of_refusal (Syntax at) = 3
number_of_refusal Deep = 4
number_of_refusal (Name at) = 5
number_of_refusal (Mismatch at) = 6
number_of_refusal (Streamed at) = 7
number_of_refusal (BadInput at) = 8
number_of_refusal TooBig = 9
number_of_refusal BadConfig = 10
number_of_refusal NoMemory = 11
number_of_refusal Output = 12
number_of_refusal NoThread = 13
number_of_refusal Read = 14
number_of_refusal Short = 15

-- refusals 2, 3 and 5 to 8 name one
abbrev pub offset_of_refusal : Refusal → Option ℕ
offset_of_refusal (Lex at) = Some at
offset_of_refusal (Syntax at) = Some at
offset_of_refusal (Name at) = Some at
offset_of_refusal (Mismatch at) = Some at
offset_of_refusal (Streamed at) = Some at
offset_of_refusal (BadInput at) = Some at
offset_of_refusal _ = None

-- refusals 11 to 15 are of the system and not of the job
abbrev pub is_of_the_system : Refusal → Bool
is_of_the_system NoMemory = true
is_of_the_system Output = true
is_of_the_system NoThread = true
is_of_the_system Read = true
is_of_the_system Short = true
is_of_the_system _ = false

-- the exit status of a refusal
abbrev pub status_of_refusal : Refusal → ℕ
status_of_refusal refusal = if is_of_the_system refusal then 4 else 1
