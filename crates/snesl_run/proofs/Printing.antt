-- What is printed for a job.
use Rattle.std.proofs.Common.{◌≡◌, ℕ, true, false, List, Option, Result, Ok, Err, Vec, IfOk, MatchResult, inl, inr, refl, sym, ap, ◌∙◌, subst}
use Rattle.std.specs.Global.{Global}
use Rattle.std.specs.declared.alloc.AllocError.{AllocError}
use Rattle.snesl_data.specs.declared.counted.Counted.{Counted}
use Rattle.snesl_data.specs.declared.fault.Fault.{Fault}
use Rattle.snesl_data.specs.declared.refusal.Refusal.{Refusal}
use Rattle.snesl_data.specs.declared.refusal.Refusal.TheVariants.{NoMemory, Output, Read}
use Rattle.snesl_data.specs.Refusals.{is_of_the_system, status_of_refusal}
use Rattle.kahn.specs.declared.outcome.Outcome.TheVariants.{Value as Ended, Fault as Failed, Stalled}
use Rattle.flow_drives.specs.declared.config.Config.{Config}
use Rattle.snesl_run.specs.command_line.Settings.{AreLawful, RefusesBut}
use Rattle.snesl_flatten.specs.network.Driven.{WasRefused}
use Rattle.snesl_run.specs.Runs.{outcome_of, WroteFor, IsReported, HasError}
use Rattle.snesl_run.specs.console.Streams.{WriteEffect, ReadEffect, write_effect, WasTold}
use Rattle.snesl_run.specs.console.Lines.{Prints, written, Refuses, refusal_line, fault_line, stalled_line}
use Rattle.snesl_run.specs.console.Reads.{HasSplit, refusal_of}
use Rattle.snesl_run.specs.declared.console.job.JobError.{JobError}
use Rattle.snesl_run.specs.declared.console.job.JobError.TheVariants.{NoMemory as NoJobMemory, Read as BrokenOff}
use Rattle.snesl_run.specs.Prints.{PrintsOutcome, PrintedFor, came_out, refused, IsJobAnswered, unread, out_of_memory, Answered, words_refused, words_lost}
use Rattle.snesl_run.specs.declared.report.Report.{Report}
use Rattle.snesl_run.proofs.OfConsole.Printing.{cut_off_line, system_refused, job_refused}

-- a job that was not split
pub job_refused_so : {config : Config} {reader : ReadEffect} {out err : WriteEffect} (error : JobError) (refusal : Refusal) (code : ℕ) → refusal ≡ refusal_of error
    → HasSplit reader (Err error) → out.nothing → WasTold err (refusal_line refusal) → code ≡ status_of_refusal refusal
    → IsJobAnswered config reader out err code
job_refused_so {config} {reader} {out} {err} error refusal code is h untouched told e =
    by_error error h (subst (λ r. WasTold err (refusal_line r)) is told) (e ∙ ap status_of_refusal is)
  where
    by_error : (error : JobError) → HasSplit reader (Err error) → WasTold err (refusal_line (refusal_of error)) → code ≡ status_of_refusal (refusal_of error)
        → IsJobAnswered config reader out err code
    by_error NoJobMemory h told e = out_of_memory h.0 h.1 (system_refused NoMemory code refl untouched told e)
    by_error BrokenOff h told e = unread h.0 h.1 (system_refused Read code refl untouched told e)

module _ (config : Config) (program input : List ℕ) where
  -- want of memory
  memory_refused : {out err : WriteEffect} {status : ℕ} → Refuses out err NoMemory status → PrintedFor config program input out err status
  memory_refused h = refused NoMemory tt h

  -- what is printed for a job whose run leaves the writer as it was
  module _ {W : Type 0} (contents : W → Option (List ℕ)) (before mid after : Counted W) (err : WriteEffect) where
    -- a line that could be made is printed, and else memory is refused
    made_line : (bytes : List ℕ) (line : Result (Vec ℕ Global) AllocError) (first status : ℕ) → mid ≡ before
        → ((out : WriteEffect) → Prints out err bytes first status → PrintedFor config program input out err status)
        → IfOk line (λ l. l.items ≡ bytes)
        → MatchResult line (λ l. Prints (write_effect contents mid after) err l.items first status) (λ _. Refuses (write_effect contents mid after) err NoMemory status)
        → PrintedFor config program input (write_effect contents before after) err status
    made_line bytes (Ok l) first status same as_printed made printed =
        subst (λ w. PrintedFor config program input (write_effect contents w after) err status) same
        (as_printed (write_effect contents mid after) (subst (λ b. Prints (write_effect contents mid after) err b first status) made printed))
    made_line bytes (Err e) first status same as_printed made printed =
        subst (λ w. PrintedFor config program input (write_effect contents w after) err status) same (memory_refused printed)

    pub printed_fault : (fault : Fault) (report : Report) (line : Result (Vec ℕ Global) AllocError) (status : ℕ)
        → IsReported program input config report → WroteFor program input (write_effect contents before mid) (outcome_of report) → outcome_of report ≡ Failed fault
        → IfOk line (λ l. l.items ≡ fault_line fault.kind fault.at)
        → MatchResult line (λ l. Prints (write_effect contents mid after) err l.items 2 status) (λ _. Refuses (write_effect contents mid after) err NoMemory status)
        → PrintedFor config program input (write_effect contents before after) err status
    printed_fault fault report line status has wrote e made printed =
        let h : WroteFor program input (write_effect contents before mid) (Failed fault) = subst (WroteFor program input (write_effect contents before mid)) e wrote in
        made_line (fault_line fault.kind fault.at) line 2 status h.1
        (λ out p. came_out report has (subst (λ o. PrintsOutcome program input out err o status) (sym e) (h.0, p))) made printed

    pub printed_stall : (edge : ℕ) (report : Report) (line : List ℕ) (status : ℕ)
        → IsReported program input config report → WroteFor program input (write_effect contents before mid) (outcome_of report) → outcome_of report ≡ Stalled edge → line ≡ stalled_line
        → Prints (write_effect contents mid after) err line 3 status → PrintedFor config program input (write_effect contents before after) err status
    printed_stall edge report line status has wrote e is printed =
        let h : WroteFor program input (write_effect contents before mid) (Stalled edge) = subst (WroteFor program input (write_effect contents before mid)) e wrote in
        subst (λ w. PrintedFor config program input (write_effect contents w after) err status) h
        (came_out report has
        (subst (λ o. PrintsOutcome program input (write_effect contents mid after) err o status) (sym e) (subst (λ l. Prints (write_effect contents mid after) err l 3 status) is printed)))

    job_error : (refusal : Refusal) → is_of_the_system refusal ≡ false → HasError program input config (write_effect contents before mid) refusal
        → WasRefused program input config refusal × (mid ≡ before)
    job_error NoMemory f h = absurd (cc)
    job_error Output f h = absurd (cc)
    job_error refusal f h = h

    -- the job is at fault
    pub printed_refusal : (refusal error : Refusal) (line : Result (Vec ℕ Global) AllocError) (first status : ℕ)
        → HasError program input config (write_effect contents before mid) error → refusal ≡ error → is_of_the_system refusal ≡ false → first ≡ status_of_refusal refusal
        → IfOk line (λ l. l.items ≡ refusal_line refusal)
        → MatchResult line (λ l. Prints (write_effect contents mid after) err l.items first status) (λ _. Refuses (write_effect contents mid after) err NoMemory status)
        → PrintedFor config program input (write_effect contents before after) err status
    printed_refusal refusal error line first status has e f s made printed =
        let h = job_error refusal f (subst (λ r. HasError program input config (write_effect contents before mid) r) (sym e) has) in
        made_line (refusal_line refusal) line first status h.1
        (λ out p. refused refusal h.0 (job_refused refusal (refusal_line refusal) first status f refl s p)) made printed

  module _ (out err : WriteEffect) where
    -- the system is at fault
    system_error : (refusal : Refusal) (status : ℕ) → is_of_the_system refusal ≡ true → HasError program input config out refusal
        → WasTold err (refusal_line refusal) → status ≡ status_of_refusal refusal → PrintedFor config program input out err status
    system_error NoMemory status f has told s = memory_refused (system_refused NoMemory status f has told s)
    system_error Output status f has told s =
        came_out has.report has.reported
        (subst (λ o. PrintsOutcome program input out err o status) (sym has.ended) (has.value, has.means, cut_off_line status has.cut_off told s))
    system_error refusal status f has told s = refused refusal has.0 (system_refused refusal status f has.1 told s)

    pub printed_system_error : (refusal error : Refusal) (status : ℕ) → HasError program input config out error → refusal ≡ error → is_of_the_system refusal ≡ true
        → WasTold err (refusal_line refusal) → status ≡ status_of_refusal refusal → PrintedFor config program input out err status
    printed_system_error refusal error status has e f told s =
        system_error refusal status f (subst (λ r. HasError program input config out r) (sym e) has) told s

    -- a value's line that was written
    pub printed_value : (report : Report) → IsReported program input config report → WroteFor program input out (outcome_of report) → outcome_of report ≡ Ended
        → err.nothing → PrintedFor config program input out err 0
    printed_value report has wrote e silent =
        let h : WroteFor program input out Ended = subst (WroteFor program input out) e wrote in
        came_out report has
        (subst (λ o. PrintsOutcome program input out err o 0) (sym e) (h.0, h.1, written h.2 silent))

pub words_answered : {words : List (List ℕ)} {reader : ReadEffect} {out err : WriteEffect} (refusal : Refusal) (status : ℕ) → RefusesBut (AreLawful words) refusal → reader.nothing
    → Refuses out err refusal status → Answered words reader out err status
words_answered {out = out} {err = err} refusal status (inl memory) none h = words_lost none (subst (λ r. Refuses out err r status) memory h)
words_answered {out = out} {err = err} refusal status (inr (bad, unsaid)) none h = words_refused unsaid none (subst (λ r. Refuses out err r status) bad h)
