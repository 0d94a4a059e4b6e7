-- What counted readers and writers count.
use Rattle.std.specs.Prelude.{◌≡◌, ℕ, suc, min, Bool, true, false, ◌&&◌, ◌==◌, nat_lt, if◌then◌else◌, Ok, Err}
use Rattle.std.specs.declared.result.Result.{Result}
use Rattle.snesl_data.specs.declared.counted.Counted.{Counted}

-- the reader or writer inside
abbrev pub counted_inner : {T : Type 0} → Counted T → T
counted_inner c = c.inner

-- how many calls have failed
abbrev pub failures_of : {T : Type 0} → Counted T → ℕ
failures_of c = c.failures

-- the count stops here
abbrev pub most_failures : ℕ
most_failures = 0xffff_ffff_ffff_ffff

-- one more failure than n, but no more than the most
abbrev pub one_more : ℕ → ℕ
one_more n = min (suc n) most_failures

-- the failures after a call, from those before it
abbrev pub counted : ℕ → Bool → ℕ
counted n has_failed = if has_failed then one_more n else n

-- a read fails where it ends in an error
abbrev pub read_failed : {E : Type 0} → Result ℕ E → Bool
read_failed (Ok given) = false
read_failed (Err e) = true

-- a flush fails where it ends in an error
abbrev pub flush_failed : {D E : Type 0} → Result D E → Bool
flush_failed (Ok done) = false
flush_failed (Err e) = true

-- a write fails where it ends in an error, and where it takes none of the bytes that it was given
abbrev pub write_failed : {E : Type 0} → Result ℕ E → ℕ → Bool
write_failed (Ok taken) given = taken == 0 && nat_lt 0 given
write_failed (Err e) given = true

-- no call has failed between these counts, as far as they tell: a count that stands at its most stays
abbrev pub HasWorked : ℕ → ℕ → Type 0
HasWorked before after = after ≡ before

-- exactly one call has failed between these counts, as far as they tell
abbrev pub HasFailed : ℕ → ℕ → Type 0
HasFailed before after = after ≡ one_more before
