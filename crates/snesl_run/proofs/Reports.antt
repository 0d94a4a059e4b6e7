-- What a run tells, from how its network came to rest.
use Rattle.std.proofs.Common.{◌≡◌, ℕ, List, [], ◌∷◌, ◌++◌, Bool, true, false, Result, Ok, Err, IfErr, refl, sym, ap, ◌∙◌, ◌⊎◌, inl, inr, subst, ⊎_elim}
use Rattle.std.specs.Result.{IsErrAnd}
use Rattle.snesl_data.specs.declared.refusal.Refusal.{Refusal}
use Rattle.snesl_data.specs.declared.refusal.Refusal.TheVariants.{NoMemory, NoThread, Output}
use Rattle.snesl_data.specs.Values.{Value}
use Rattle.kahn.specs.declared.outcome.Outcome.{Outcome}
use Rattle.kahn.specs.declared.outcome.Outcome.TheVariants.{Value as Ended, Fault as Failed, Stalled}
use Rattle.flow_nodes.specs.StreamNodes.{text_in}
use Rattle.flow_drives.specs.declared.config.Config.{Config}
use Rattle.flow_drives.specs.Texts.{last_text}
use Rattle.snesl_meaning.specs.Meaning.{Means, has_value}
use Rattle.snesl_meaning.specs.Value.{MeaningsAreGiven}
use Rattle.snesl_flatten.specs.network.Driven.{WasRefused}
use Rattle.snesl_run.specs.Runs.{view_in_report, outcome_of, refusal_of, value_line, CameOut, WroteFor, WroteGiven, IsReported, IsCutShort, HasError, IsRefusedWith}
use Rattle.snesl_run.specs.console.Streams.{WriteEffect, IsWrittenWhole, IsCutOff, HasSent}
use Rattle.snesl_run.specs.declared.report.Report.{Report}
use Rattle.snesl_run.specs.declared.report.RunError.{RunError}

module _ (program input : List ℕ) (config : Config) (out : WriteEffect) where
  refused_untouched : (refusal : Refusal) → WasRefused program input config refusal → out.nothing → HasError program input config out refusal
  refused_untouched NoMemory was untouched = untouched
  refused_untouched Output was untouched = absurd was
  refused_untouched refusal was untouched = (was, untouched)

  -- a program that was refused
  pub run_refused : (result : Result Report RunError) (refusal : Refusal) → IsErrAnd result (λ error. refusal_of error ≡ refusal)
      → WasRefused program input config refusal → out.nothing → IfErr result (λ error. HasError program input config out (refusal_of error))
  run_refused (Ok report) refusal is was untouched = absurd is
  run_refused (Err error) refusal is was untouched = subst (HasError program input config out) (sym is) (refused_untouched refusal was untouched)

module _ (program input : List ℕ) (config : Config) (report : Report) (reported : IsReported program input config report) where
  -- where all nodes have ended, the line of the text is that of the program's value
  line_is : (printed line : List ℕ) → outcome_of report ≡ Ended → printed ≡ last_text text_in (view_in_report report).states → line ≡ printed ++ 10 ∷ []
      → (v : Value) × Means program input (has_value v) × (line ≡ value_line v)
  line_is printed line is told made =
      let h = reported.came.value (subst (CameOut (view_in_report report)) is reported.outcome) in
      (h.0, h.1, made ∙ ap (λ l. l ++ 10 ∷ []) (told ∙ h.2))

  module _ (out : WriteEffect) where
    -- which was cut off
    pub line_cut_off : (printed line : List ℕ) (all : Bool) → outcome_of report ≡ Ended → printed ≡ last_text text_in (view_in_report report).states
        → line ≡ printed ++ 10 ∷ [] → HasSent out line all → all ≡ false → IsCutShort program input config out
    line_cut_off printed line all is told made sent none =
        let h = line_is printed line is told made in
        record {
          report = report;
          reported = reported;
          ended = is;
          value = h.0;
          means = h.1;
          cut_off = subst (IsCutOff out) h.2 (subst (HasSent out line) none sent);
        }

    -- or written whole
    pub line_written : (printed line : List ℕ) (all : Bool) → outcome_of report ≡ Ended → printed ≡ last_text text_in (view_in_report report).states
        → line ≡ printed ++ 10 ∷ [] → HasSent out line all → all ≡ true → WroteFor program input out (outcome_of report)
    line_written printed line all is told made sent whole =
        let h = line_is printed line is told made in
        subst (WroteFor program input out) (sym is) (h.0, h.1, subst (IsWrittenWhole out) h.2 (subst (HasSent out line) whole sent))

    -- nothing was written where not all nodes have ended
    pub nothing_written : (outcome : Outcome) → outcome_of report ≡ outcome → (outcome ≡ Ended → ⊥) → out.nothing → WroteFor program input out (outcome_of report)
    nothing_written Ended is not untouched = absurd (not refl)
    nothing_written (Failed f) is not untouched =
        subst (WroteFor program input out) (sym is) (reported.came.fault f (subst (CameOut (view_in_report report)) is reported.outcome), untouched)
    nothing_written (Stalled e) is not untouched = subst (WroteFor program input out) (sym is) untouched

-- what was written for what the program means was written for what it gives
pub given_for : MeaningsAreGiven → (program input : List ℕ) (out : WriteEffect) (outcome : Outcome) → WroteFor program input out outcome
    → WroteGiven program input out outcome
given_for given program input out Ended wrote = (wrote.0, given program input _ wrote.1, wrote.2)
given_for given program input out (Failed f) wrote =
    ((wrote.0.0, wrote.0.1, given program input _ wrote.0.2), wrote.1)
given_for given program input out (Stalled e) wrote = wrote

-- where a start of a thread was refused, and not before, the run is refused for it
module _ {A Now Before : Type 0} where
  pub start_refused : (refusal : Refusal) (result : Result Report RunError) → IsErrAnd result (λ error. refusal_of error ≡ refusal)
      → (Now → Before ⊎ ((let given : Result A Refusal = Err refusal in given) ≡ Err NoThread)) → Now → Before ⊎ IsRefusedWith NoThread result
  start_refused refusal (Ok report) is said now = absurd is
  start_refused refusal (Err error) is said now = ⊎_elim inl (λ same. let kind : refusal ≡ NoThread = cc in inr (is ∙ kind)) (said now)

  -- and where the network came to rest none was
  pub start_kept : (rested : A) (Refused : Type 0) → (Now → Before ⊎ ((let given : Result A Refusal = Ok rested in given) ≡ Err NoThread)) → Now
      → Before ⊎ Refused
  start_kept rested Refused said now = ⊎_elim inl (λ same. absurd (cc)) (said now)
