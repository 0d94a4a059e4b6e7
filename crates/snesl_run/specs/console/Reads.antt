-- What is read of a job, and what becomes of it.
use Rattle.std.specs.Prelude.{◌≡◌, ◌<◌, ◌≤◌, ◌⊎◌, ℕ, List, [], ◌++◌, length, Result, Ok, Err, Vec}
use Rattle.std.specs.Global.{Global}
use Rattle.snesl_data.specs.declared.refusal.Refusal.{Refusal}
use Rattle.snesl_data.specs.declared.refusal.Refusal.TheVariants as refusals
use Rattle.snesl_run.specs.declared.console.job.JobError.{JobError}
use Rattle.snesl_run.specs.declared.console.job.JobError.TheVariants.{NoMemory, Read}
use Rattle.snesl_run.specs.console.Parts.{AreNeeded, AreParts, IsOpen, most_of_input}
use Rattle.snesl_run.specs.console.Streams.{ReadEffect}

-- these bytes were read, each of them needed, and no call failed
abbrev pub IsRead : ReadEffect → List ℕ → Type 0
IsRead reader read = reader.these read × AreNeeded read × reader.worked

-- these bytes were read, which do not decide the parts, and then a call failed
abbrev pub IsBrokenOff : ReadEffect → List ℕ → Type 0
IsBrokenOff reader read = reader.these read × IsOpen read × reader.failed

-- this holds of the job, as far as it is known: of what was read, where the reader has ended, and else of each job that begins so
abbrev pub HoldsOfJob : ReadEffect → List ℕ → (List ℕ → Type 0) → Type 0
HoldsOfJob reader read P = (reader.ended × P read) ⊎ ((rest : List ℕ) → P (read ++ rest))

-- the parts are those of the job, or a call failed, or memory was refused
abbrev pub HasSplit : ReadEffect → Result (Vec ℕ Global × Vec ℕ Global) JobError → Type 0
HasSplit reader (Ok parts) =
    (read : List ℕ) × IsRead reader read × HoldsOfJob reader read (λ job. AreParts job parts.0.items parts.1.items)
HasSplit reader (Err Read) = (read : List ℕ) × IsBrokenOff reader read
HasSplit reader (Err NoMemory) = (read : List ℕ) × IsRead reader read

-- the refusal of a job that was not split
abbrev pub refusal_of : JobError → Refusal
refusal_of Read = refusals.Read
refusal_of NoMemory = refusals.NoMemory

-- these bytes more were given, no more than this, and no call failed
abbrev pub GivesMore : ReadEffect → ℕ → List ℕ → Type 0
GivesMore reader most more = reader.these more × (length more ≤ most) × reader.worked

-- one call of the reader put so many bytes after others, none only at its end; or memory was refused to them; or it failed
abbrev pub HasReadMore : ReadEffect → ℕ → List ℕ → List ℕ → Result ℕ JobError → Type 0
HasReadMore reader room old new (Ok n) =
    (more : List ℕ) × GivesMore reader room more × (new ≡ old ++ more) × (length more ≡ n) × (n ≡ 0 → reader.ended)
HasReadMore reader room old new (Err Read) = reader.these [] × reader.failed
HasReadMore reader room old new (Err NoMemory) = (more : List ℕ) × GivesMore reader room more

-- the same of bytes in vectors
abbrev pub ReadsMore : ReadEffect → ℕ → Vec ℕ Global → Vec ℕ Global → Result ℕ JobError → Type 0
ReadsMore reader room old new result = HasReadMore reader room old.items new.items result

-- an input text was read on to its end, or to the first byte that is too many
abbrev pub IsInput : ReadEffect → List ℕ → Type 0
IsInput reader text = (length text ≤ most_of_input) × (reader.ended ⊎ (length text ≡ most_of_input))

-- an input text was read on; or a call failed, before that byte; or memory was refused
abbrev pub HasReadInput : {T : Type 0} → ReadEffect → List ℕ → List ℕ → Result T JobError → Type 0
HasReadInput reader old new (Ok done) =
    (more : List ℕ) × reader.these more × reader.worked × (new ≡ old ++ more) × IsInput reader new
HasReadInput reader old new (Err Read) =
    (more : List ℕ) × reader.these more × reader.failed × (length (old ++ more) < most_of_input)
HasReadInput reader old new (Err NoMemory) =
    (more : List ℕ) × reader.these more × reader.worked × (length (old ++ more) ≤ most_of_input)

-- the same of texts in vectors
abbrev pub ReadsInput : {T : Type 0} → ReadEffect → Vec ℕ Global → Vec ℕ Global → Result T JobError → Type 0
ReadsInput reader old new result = HasReadInput reader old.items new.items result
