-- What becomes of lines that are printed.
use Rattle.std.proofs.Common.{◌≡◌, ℕ, true, false, List, ◌⊎◌, inl, inr, codes, sym, ap, ◌∙◌, subst, arith}
use Rattle.snesl_data.specs.declared.refusal.Refusal.{Refusal}
use Rattle.snesl_data.specs.declared.refusal.Refusal.TheVariants.{BadConfig, NoMemory, Output}
use Rattle.snesl_data.specs.Refusals.{is_of_the_system, status_of_refusal}
use Rattle.snesl_run.specs.console.Streams.{WriteEffect, IsCutOff, WasTold}
use Rattle.snesl_run.specs.console.Lines.{refusal_line, Prints, cut_off, Refuses, of_the_job, of_the_system}
use Rattle.snesl_run.proofs.OfConsole.OwnLines.{own_line}

-- a line that could not be written
pub cut_off_line : {out err : WriteEffect} {line : List ℕ} {status : ℕ} (code : ℕ) → IsCutOff out line → WasTold err (refusal_line Output)
    → code ≡ status_of_refusal Output → Prints out err line status code
cut_off_line {out = out} {err = err} {line = line} {status = status} code cut told e =
    subst (λ n. Prints out err line status n) (sym e) (cut_off cut told)

-- a refusal of the system that was said
pub system_refused : {out err : WriteEffect} (refusal : Refusal) (code : ℕ) → is_of_the_system refusal ≡ true → out.nothing → WasTold err (refusal_line refusal)
    → code ≡ status_of_refusal refusal → Refuses out err refusal code
system_refused {out = out} {err = err} refusal code h untouched told e =
    subst (λ n. Refuses out err refusal n) (sym e) (of_the_system h untouched told)

-- a refusal of the job whose line was printed
pub job_refused : {out err : WriteEffect} (refusal : Refusal) (line : List ℕ) (first status : ℕ) → is_of_the_system refusal ≡ false → line ≡ refusal_line refusal
    → first ≡ status_of_refusal refusal → Prints out err line first status → Refuses out err refusal status
job_refused {out = out} {err = err} refusal line first status h is e printed =
    of_the_job h (subst (λ n. Prints out err (refusal_line refusal) n status) e (subst (λ l. Prints out err l first status) is printed))

-- words that are refused
pub words_refused_line : {out err : WriteEffect} (refusal : Refusal) (first status : ℕ) → (refusal ≡ BadConfig) ⊎ (refusal ≡ NoMemory) → is_of_the_system refusal ≡ false
    → first ≡ status_of_refusal refusal → Prints out err (codes "refused 10\n") first status → Refuses out err refusal status
words_refused_line refusal first status (inl bad) is e printed =
    job_refused refusal (codes "refused 10\n") first status is (own_line 10 (omega arith) (omega arith) ∙ ap refusal_line (sym bad)) e printed
words_refused_line refusal first status (inr memory) is e printed = absurd (let never = sym (ap is_of_the_system memory) ∙ is in cc)
