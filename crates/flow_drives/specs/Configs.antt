-- Which configurations of a drive are lawful.
use Rattle.std.specs.Prelude.{ℕ, ◌<◌, ◌≤◌, length}
use Rattle.std.specs.List.{All}
use Rattle.flow_messages.specs.Limits.{greatest_capacity}
use Rattle.flow_drives.specs.declared.config.Config.{Config}
use Rattle.flow_drives.specs.declared.config.Drive.{Drive}
use Rattle.flow_drives.specs.declared.config.Drive.TheVariants.{Serial, Rounds, Rings}
use Rattle.flow_drives.specs.Limits.{greatest_chunk, most_threads, most_idle_turns, most_entries}

-- the number is at least 1 and at most `most`
pub record IsWithin (most number : ℕ) : Type 0 where
  pub some : 1 ≤ number
  pub limit : number ≤ most

-- Each field lies within its limits.
pub record IsLawful (config : Config) : Type 0 where
  pub capacity : IsWithin greatest_capacity config.capacity
  pub chunk : IsWithin greatest_chunk config.chunk
  pub threads : IsWithin most_threads config.threads
  pub idle : IsWithin most_idle_turns config.idle
  pub entries : IsWithin most_entries (length config.share.items)
  pub shares : All (λ share. share < config.threads) config.share.items

-- the drive starts threads
abbrev pub StartsThreads : Drive → Type 0
StartsThreads Serial = ⊥
StartsThreads Rounds = Unit {0}
StartsThreads Rings = Unit {0}

-- what the drive makes is a run, whose steps come one after another
abbrev pub IsInSteps : Drive → Type 0
IsInSteps Serial = Unit {0}
IsInSteps Rounds = Unit {0}
IsInSteps Rings = ⊥
