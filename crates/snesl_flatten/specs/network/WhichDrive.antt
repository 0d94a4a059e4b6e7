-- Which drive drove a graph.
use Rattle.std.specs.Prelude.{◌≡◌, ◌↔◌}
use Rattle.flow_base.specs.declared.transducer.Transducer.{Ghosts}
use Rattle.flow_drives.specs.declared.config.Config.{Config}
use Rattle.flow_drives.specs.declared.config.Drive.TheVariants.{Rings}
use Rattle.flow_drives.specs.declared.rested.Rested.{Rested}
use Rattle.flow_drives.specs.Configs.{StartsThreads}
use Rattle.flow_drives.specs.Epochs.{TookRounds, TookEpochs}
use Rattle.flow_drives.specs.Resteds.{rested_rounds, rested_epochs, rested_share, rested_shares, moves_of, IsOverRings}

module _ {X : Type 0} {t : Ghosts X} where
  -- The drive of this configuration drove it: over rings exactly where that is the drive, and in as many rounds and epochs as the
  -- drive takes. Where it starts threads, the graph was dealt out to one share for each thread, by the list of the configuration.
  pub record WasDrivenBy (config : Config) (rested : Rested X t) : Type 0 where
    pub rings : IsOverRings rested ↔ (config.drive ≡ Rings)
    pub rounds : TookRounds config.drive (rested_rounds rested) (moves_of rested)
    pub epochs : TookEpochs config.drive (rested_epochs rested) (moves_of rested)
    pub share : StartsThreads config.drive → rested_share rested ≡ config.share.items
    pub shares : StartsThreads config.drive → rested_shares rested ≡ config.threads
