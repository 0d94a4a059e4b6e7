-- How far a search for the least capacity has come.
use Rattle.std.proofs.Common.{◌≡◌, ◌+◌, ◌<◌, ◌≤◌, All, Err, IfErr, IfOk, List, Ok, Result, [], ◌∷◌, ap, arith, length, refl, subst, sym, ℕ}
use Rattle.std.proofs.lemmas.List.Elements.{All-cons, All-nil}
use Rattle.std.specs.Result.{IsErrAnd}
use Rattle.snesl_data.specs.declared.fault.Fault.{Fault}
use Rattle.snesl_data.specs.declared.refusal.Refusal.{Refusal}
use Rattle.snesl_data.specs.declared.refusal.Refusal.TheVariants.{BadConfig, NoMemory, NoThread}
use Rattle.kahn.specs.declared.outcome.Outcome.TheVariants.{Value as Ended, Fault as Failed, Stalled}
use Rattle.flow_messages.specs.Limits.{greatest_capacity}
use Rattle.flow_drives.specs.declared.config.Config.{Config}
use Rattle.flow_drives.specs.declared.config.Drive.{Drive}
use Rattle.flow_drives.specs.declared.config.Drive.TheVariants.{Serial}
use Rattle.flow_drives.specs.Configs.{IsInSteps, IsLawful, IsWithin, StartsThreads}
use Rattle.flow_drives.specs.Limits.{greatest_chunk}
use Rattle.snesl_flatten.specs.Networks.{StreamNodeState}
use Rattle.snesl_meaning.specs.Meaning.{HaveOneMeaning, has_fault, has_value}
use Rattle.snesl_flatten.specs.network.Driven.{CameToRest, HaveEnded, WasRefused}
use Rattle.snesl_flatten.specs.network.NodesAtRest.{FinalView}
use Rattle.snesl_run.specs.Runs.{CameOut, outcome_of, view_in_report}
use Rattle.snesl_size.specs.Sizes.{EndsAtNoneBelow, FaultsSo, IsLeast, IsLeft, IsRefusedAtAll}
use Rattle.snesl_size.specs.Staying.{EndedNetworksStay}
use Rattle.snesl_size.proofs.Staying.{ends_alone}

-- a drive in one thread makes a run in steps
in_steps : (drive : Drive) → drive ≡ Serial → IsInSteps drive
in_steps drive serial = subst (λ d. IsInSteps d) (sym serial) tt

module _ (program input : List ℕ) where
  -- no lesser capacity than 1 is lawful
  pub none_below_one : EndsAtNoneBelow program input 1
  none_below_one config report steps less reported is = absurd (omega (arith, less, reported.came.lawful.capacity.some))

  module _ (capacity : ℕ) (rest : FinalView StreamNodeState) (left : IsLeft program input capacity rest) where
    -- where a network has stalled, the program ends at no capacity up to there
    pub none_up_to : EndedNetworksStay → (e : ℕ) → CameOut rest (Stalled e) → EndsAtNoneBelow program input (capacity + 1)
    none_up_to stay e so config report steps less reported is =
        let ended : HaveEnded (view_in_report report) = subst (CameOut (view_in_report report)) is reported.outcome in
        let few : config.capacity ≤ left.config.capacity = omega (arith, less, left.capacity_is) in
        let here = stay program input config left.config (view_in_report report) rest steps (in_steps left.config.drive left.serial) few reported.came ended left.came in
        let wrong : Stalled e ≡ Ended = ends_alone program input left.config rest left.came here.ended (Stalled e) so in
        absurd (cc)

    -- where it has ended and ends at no lesser capacity, it ends from there on
    pub is_least : EndedNetworksStay → HaveEnded rest → EndsAtNoneBelow program input capacity → IsLeast program input capacity rest
    is_least stay ended none = record {
      left = left;
      ended = ended;
      none_below = none;
      from_there_on = λ config report steps more reported.
          let so = stay program input left.config config rest (view_in_report report) (in_steps left.config.drive left.serial) steps
          (omega (arith, more, left.capacity_is)) left.came ended reported.came in
          (ends_alone program input config (view_in_report report) reported.came so.ended (outcome_of report) reported.outcome, so);
    }

    -- where it names a fault, the program has no value
    pub faults_so : HaveOneMeaning → (fault : Fault) → CameOut rest (Failed fault) → FaultsSo program input fault
    faults_so one fault named =
        let faults = left.came.fault fault named in
        record {
          capacity = capacity;
          rest = rest;
          left = left;
          named = named;
          faults = faults;
          never = λ config report reported is.
              let ended : HaveEnded (view_in_report report) = subst (CameOut (view_in_report report)) is reported.outcome in
              let value = reported.came.value ended in
              let wrong : has_value value.0 ≡ has_fault faults.0 faults.1 = one program input (has_value value.0) (has_fault faults.0 faults.1) value.1 faults.2 in
              absurd (cc);
        }

  module _ (config : Config) (serial : config.drive ≡ Serial) where
    -- what a drive in one thread has left
    pub left_so : {A E : Type 0} (rest : A → FinalView StreamNodeState) (result : Result A E) → IfOk result (λ rested. CameToRest program input config (rest rested))
        → IfOk result (λ rested. IsLeft program input config.capacity (rest rested))
    left_so rest (Ok rested) came = record { config = config; serial = serial; capacity_is = refl; came = came }
    left_so rest (Err refusal) came = tt

    -- where it is lawful but for its chunk it is refused as each is
    module _ (capacity : IsWithin greatest_capacity config.capacity) (threads : config.threads ≡ 1) (idle : config.idle ≡ 1)
        (share : config.share.items ≡ 0 ∷ []) where
      lawful_with : IsWithin greatest_chunk config.chunk → IsLawful config
      lawful_with chunk = record {
        capacity = capacity;
        chunk = chunk;
        threads = record { some = omega (arith, threads); limit = omega (arith, threads) };
        idle = record { some = omega (arith, idle); limit = omega (arith, idle) };
        entries = record { some = omega (arith, ap length share); limit = omega (arith, ap length share) };
        shares = subst (λ (entries : List ℕ). All (λ entry. entry < config.threads) entries) (sym share)
            (All-cons (λ entry. entry < config.threads) 0 [] (omega (arith, threads)) (All-nil (λ entry. entry < config.threads)));
      }

      refused_so : (refusal : Refusal) → WasRefused program input config refusal → IsRefusedAtAll program input config.chunk refusal
      refused_so BadConfig was = λ other alone same lawful. was (lawful_with (subst (IsWithin greatest_chunk) same lawful.chunk))
      refused_so NoThread was = absurd (subst StartsThreads serial was.0)
      refused_so refusal was = λ other alone same. was

      pub refused_at_all : {A : Type 0} (result : Result A Refusal) → IfErr result (WasRefused program input config)
          → IfErr result (IsRefusedAtAll program input config.chunk)
      refused_at_all (Ok rested) was = tt
      refused_at_all (Err refusal) was = refused_so refusal was

  -- and so it is where memory was refused
  pub without_memory : {A : Type 0} (chunk : ℕ) (result : Result A Refusal) → IsErrAnd result (λ refusal. refusal ≡ NoMemory)
      → IfErr result (IsRefusedAtAll program input chunk)
  without_memory chunk (Ok rested) is = absurd is
  without_memory chunk (Err refusal) is = subst (IsRefusedAtAll program input chunk) (sym is) (λ config serial same. tt)
