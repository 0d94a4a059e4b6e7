-- What a run writes and answers.
use Rattle.std.specs.Prelude.{◌≡◌, ℕ, List, [], ◌∷◌, ◌++◌, Option, Result, Ok, Err, IfOk, IfErr}
use Rattle.snesl_data.specs.declared.counted.Counted.{Counted}
use Rattle.snesl_data.specs.declared.fault.FaultKind.{FaultKind}
use Rattle.snesl_data.specs.declared.refusal.Refusal.{Refusal}
use Rattle.snesl_data.specs.declared.refusal.Refusal.TheVariants.{NoMemory, Output}
use Rattle.snesl_data.specs.Values.{Value}
use Rattle.snesl_data.specs.Text.{text}
use Rattle.kahn.specs.declared.outcome.Outcome.{Outcome}
use Rattle.kahn.specs.declared.outcome.Outcome.TheVariants.{Value as Ended, Fault as Failed, Stalled}
use Rattle.flow_nodes.specs.StreamNodes.{node_behaviour}
use Rattle.flow_drives.specs.declared.config.Config.{Config}
use Rattle.flow_drives.specs.Drives.{ComesOut}
use Rattle.flow_drives.specs.Starts.{DriveAsks}
use Rattle.snesl_flatten.specs.Networks.{StreamNodeState}
use Rattle.snesl_meaning.specs.Meaning.{Means, has_value, has_fault}
use Rattle.snesl_meaning.specs.Value.{GivesValue, GivesFault}
use Rattle.snesl_flatten.specs.network.NodesAtRest.{FinalView, final_view}
use Rattle.snesl_flatten.specs.network.WhichDrive.{WasDrivenBy}
use Rattle.snesl_flatten.specs.network.Driven.{CameToRest, WasRefused}
use Rattle.snesl_run.specs.console.Streams.{WriteEffect, write_effect, IsWrittenWhole, IsCutOff}
use Rattle.snesl_run.specs.declared.report.Report.{Report}
use Rattle.snesl_run.specs.declared.report.RunError.{RunError}

-- the nodes of a run, at rest
abbrev pub view_in_report : Report → FinalView StreamNodeState
view_in_report report = final_view report.rested

-- how it came out
abbrev pub outcome_of : Report → Outcome
outcome_of report = report.outcome

-- the refusal that a run ended in
abbrev pub refusal_of : RunError → Refusal
refusal_of error = error.refusal

-- the text of a value and one line feed
abbrev pub value_line : Value → List ℕ
value_line v = text v ++ 10 ∷ []

-- nodes at rest came out so
abbrev pub CameOut : FinalView StreamNodeState → Outcome → Type 0
CameOut rest outcome = ComesOut node_behaviour rest.states rest.edges rest.capacity rest.traffic outcome

-- the program ends in a fault for the input
abbrev pub EndsInFault : (program input : List ℕ) → Type 0
EndsInFault program input = (kind : FaultKind) × (at : ℕ) × Means program input (has_fault kind at)

-- where all nodes have ended, the line of the program's value was written; where a fault is named, the program ends in a
-- fault, perhaps in another one, and nothing was written; where the network has stalled, nothing was written
abbrev pub WroteFor : (program input : List ℕ) → WriteEffect → Outcome → Type 0
WroteFor program input out Ended = (v : Value) × Means program input (has_value v) × IsWrittenWhole out (value_line v)
WroteFor program input out (Failed f) = EndsInFault program input × out.nothing
WroteFor program input out (Stalled e) = out.nothing

-- and so for a report, and a writer before the run and after it, by the bytes that it holds
abbrev pub HasWritten : {W : Type 0} → (W → Option (List ℕ)) → (program input : List ℕ) → Counted W → Counted W → Report → Type 0
HasWritten contents program input out out' report = WroteFor program input (write_effect contents out out') (outcome_of report)

-- The same by what the program gives, which neither rules of typing nor limits on sizes say: where all nodes have ended, the
-- line of the value that it gives was written; where a fault is named, it gives one, perhaps another, and nothing was written.
abbrev pub WroteGiven : (program input : List ℕ) → WriteEffect → Outcome → Type 0
WroteGiven program input out Ended = (v : Value) × GivesValue program input v × IsWrittenWhole out (value_line v)
WroteGiven program input out (Failed f) = GivesFault program input × out.nothing
WroteGiven program input out (Stalled e) = out.nothing

-- and so for a report
abbrev pub HasWrittenGiven : {W : Type 0} → (W → Option (List ℕ)) → (program input : List ℕ) → Counted W → Counted W → Report → Type 0
HasWrittenGiven contents program input out out' report = WroteGiven program input (write_effect contents out out') (outcome_of report)

-- What rests in a report: the network of the program with its input, driven by the drive of the configuration; and how it came
-- out.
pub record IsReported (program input : List ℕ) (config : Config) (report : Report) : Type 0 where
  pub came : CameToRest program input config (view_in_report report)
  pub drive : WasDrivenBy config report.rested
  pub outcome : CameOut (view_in_report report) (outcome_of report)

-- The network came to rest with all nodes ended, as this report would have told, but a failed writer has taken no more than a
-- beginning of the value's line.
pub record IsCutShort (program input : List ℕ) (config : Config) (out : WriteEffect) : Type 0 where
  pub report : Report
  pub reported : IsReported program input config report
  pub ended : outcome_of report ≡ Ended
  pub value : Value
  pub means : Means program input (has_value value)
  pub cut_off : IsCutOff out (value_line value)

-- want of memory leaves the writer untouched; a failed writer has taken a beginning of the value's line; any other refusal is
-- that of the configuration, of a thread that could not be started, or of the program and its input, and leaves the writer
-- untouched
abbrev pub HasError : (program input : List ℕ) → Config → WriteEffect → Refusal → Type 0
HasError program input config out NoMemory = out.nothing
HasError program input config out Output = IsCutShort program input config out
HasError program input config out refusal = WasRefused program input config refusal × out.nothing

-- and so for the error of a run
abbrev pub Errs : {W : Type 0} → (W → Option (List ℕ)) → (program input : List ℕ) → Config → Counted W → Counted W → RunError → Type 0
Errs contents program input config out out' error = HasError program input config (write_effect contents out out') (refusal_of error)

-- it was refused, and with this refusal
abbrev pub IsRefusedWith : Refusal → Result Report RunError → Type 0
IsRefusedWith refusal (Ok report) = ⊥
IsRefusedWith refusal (Err error) = refusal_of error ≡ refusal

-- what a start was asked by the drive that came to this report
abbrev pub RunAsks : {Y : Type 0} → (Y → List ℕ) → Y → Y → Config → Report → Type 0
RunAsks asked start start' config report = DriveAsks asked start start' config report.rested

-- What a run answers: a report, and what was written for it; or why there is none.
pub record HasRun {W : Type 0} (contents : W → Option (List ℕ)) (program input : List ℕ) (config : Config) (out out' : Counted W) (result : Result Report RunError) : Type 0 where
  pub network : IfOk result (IsReported program input config)
  pub wrote : IfOk result (HasWritten contents program input out out')
  pub refused : IfErr result (Errs contents program input config out out')
