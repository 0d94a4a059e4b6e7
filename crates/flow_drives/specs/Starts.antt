-- What drives ask before they start threads.
use Rattle.std.specs.Prelude.{◌≡◌, ℕ, List}
use Rattle.flow_base.specs.declared.transducer.Transducer.{Ghosts}
use Rattle.flow_drives.specs.declared.config.Config.{Config}
use Rattle.flow_drives.specs.declared.config.Drive.{Drive}
use Rattle.flow_drives.specs.declared.config.Drive.TheVariants.{Serial, Rounds, Rings}
use Rattle.flow_drives.specs.declared.rested.Rested.{Rested}
use Rattle.flow_drives.specs.Resteds.{rested_rounds, rested_epochs}
pub use Rattle.flow_shares.specs.Starts.{AskedForEach, AskedForFirst, AskedAtEach, each_again}

-- what a start was asked by the drive that made so many rounds and so many epochs, each with so many threads
abbrev pub AskedBy : Drive → (rounds epochs threads : ℕ) → (before after : List ℕ) → Type 0
AskedBy Serial rounds epochs threads before after = after ≡ before
AskedBy Rounds rounds epochs threads before after = AskedAtEach rounds threads before after
AskedBy Rings rounds epochs threads before after = AskedAtEach epochs threads before after

-- the same of a start before and after, by the graph at rest
module _ {X Y : Type 0} {t : Ghosts X} (asked : Y → List ℕ) (start start' : Y) where
  -- each round asked it for so many threads
  abbrev pub RoundsAsk : ℕ → Rested X t → Type 0
  RoundsAsk threads rested = AskedAtEach (rested_rounds rested) threads (asked start) (asked start')

  -- each epoch asked it for so many threads
  abbrev pub EpochsAsk : ℕ → Rested X t → Type 0
  EpochsAsk threads rested = AskedAtEach (rested_epochs rested) threads (asked start) (asked start')

  -- each round or epoch asked it for as many threads as are configured
  abbrev pub DriveAsks : Config → Rested X t → Type 0
  DriveAsks config rested = AskedBy config.drive (rested_rounds rested) (rested_epochs rested) config.threads (asked start) (asked start')
