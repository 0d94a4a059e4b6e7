-- What a call did to a reader and to a writer.
use Rattle.std.specs.Prelude.{◌≡◌, ℕ, ◌<◌, ◌⊎◌, List, ◌++◌, length, Bool, true, false, Option}
use Rattle.std.specs.Io.KnownBytes.{Appends, Consumes, IsAtEnd}
use denote.MutBor.{MutBor}
use denote.Triple.Both.{Both}
use Rattle.snesl_data.specs.declared.counted.Counted.{Counted}
use Rattle.snesl_data.specs.Counted.{counted_inner, failures_of, HasWorked, HasFailed}

-- what a writer took
pub record WriteEffect : Type 1 where
  -- it is as before
  pub nothing : Type 0
  -- it took these bytes
  pub these : List ℕ → Type 0
  -- no call failed
  pub worked : Type 0
  -- one call failed
  pub failed : Type 0

-- what a reader gave
pub record ReadEffect : Type 1 where
  -- it is as before
  pub nothing : Type 0
  -- it gave these bytes
  pub these : List ℕ → Type 0
  -- it is at its end
  pub ended : Type 0
  -- no call failed
  pub worked : Type 0
  -- one call failed
  pub failed : Type 0

-- the writer before a call and after it, by the bytes that it holds where these are known
abbrev pub write_effect : {W : Type 0} → (W → Option (List ℕ)) → Counted W → Counted W → WriteEffect
write_effect contents old new = record {
  nothing = new ≡ old;
  these = λ bytes. Appends (contents (counted_inner old)) (contents (counted_inner new)) bytes;
  worked = HasWorked (failures_of old) (failures_of new);
  failed = HasFailed (failures_of old) (failures_of new);
}

-- the reader before a call and after it, by the bytes that it has left where these are known
abbrev pub read_effect : {R : Type 0} → (R → Option (List ℕ)) → Counted R → Counted R → ReadEffect
read_effect remaining old new = record {
  nothing = new ≡ old;
  these = λ bytes. Consumes (remaining (counted_inner old)) (remaining (counted_inner new)) bytes;
  ended = IsAtEnd (remaining (counted_inner new));
  worked = HasWorked (failures_of old) (failures_of new);
  failed = HasFailed (failures_of old) (failures_of new);
}

-- what a call is lent, as it was before the call and as it is after it
abbrev pub Lent : Type 0 → Type 0
Lent A = Both (MutBor A) (MutBor A)

-- what a call did to a writer that it was lent
abbrev pub writing_of : {W : Type 0} → (W → Option (List ℕ)) → Lent (Counted W) → WriteEffect
writing_of contents writer = write_effect contents writer.entry.now writer.exit.now

-- what a call did to a reader that it was lent
abbrev pub reading_of : {R : Type 0} → (R → Option (List ℕ)) → Lent (Counted R) → ReadEffect
reading_of remaining reader = read_effect remaining reader.entry.now reader.exit.now

-- the writer took all bytes, and no call failed
abbrev pub IsWrittenWhole : WriteEffect → List ℕ → Type 0
IsWrittenWhole out bytes = out.these bytes × out.worked

-- the writer took a beginning of the bytes and not all of them, and one call failed
abbrev pub IsCutOff : WriteEffect → List ℕ → Type 0
IsCutOff out bytes =
    (front : List ℕ) × (rest : List ℕ) × (bytes ≡ front ++ rest) × (0 < length rest) × out.these front × out.failed

-- all bytes were taken, or they were cut off
abbrev pub HasSent : WriteEffect → List ℕ → Bool → Type 0
HasSent out bytes true = IsWrittenWhole out bytes
HasSent out bytes false = IsCutOff out bytes

-- an attempt to send the bytes was made: all were taken, or they were cut off
abbrev pub WasTold : WriteEffect → List ℕ → Type 0
WasTold out bytes = IsWrittenWhole out bytes ⊎ IsCutOff out bytes
