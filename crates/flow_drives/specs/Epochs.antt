-- How many rounds and epochs drives take.
use Rattle.std.specs.Prelude.{◌≡◌, ℕ, ◌<◌, ◌≤◌}
use Rattle.flow_drives.specs.declared.config.Drive.{Drive}
use Rattle.flow_drives.specs.declared.config.Drive.TheVariants.{Serial, Rounds, Rings}

-- there were no more rounds or epochs than messages moved, and there was one if any moved
abbrev pub MovedEach : ℕ → ℕ → Type 0
MovedEach count moved = (count ≤ moved) × (0 < moved → 0 < count)

-- the drive took so many rounds while so many messages were sent and received
abbrev pub TookRounds : Drive → ℕ → ℕ → Type 0
TookRounds Serial count moved = count ≡ 0
TookRounds Rounds count moved = MovedEach count moved
TookRounds Rings count moved = count ≡ 0

-- the drive took so many epochs while so many messages were sent and received
abbrev pub TookEpochs : Drive → ℕ → ℕ → Type 0
TookEpochs Serial count moved = count ≡ 0
TookEpochs Rounds count moved = count ≡ 0
TookEpochs Rings count moved = MovedEach count moved
