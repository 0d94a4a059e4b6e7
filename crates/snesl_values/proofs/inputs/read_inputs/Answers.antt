use Rattle.std.proofs.Common.{◌≡◌, ℕ, List, inr, Err, refl, sym, ap, ◌∙◌, subst, arith}
use Rattle.std.specs.Arc.{arc_value}
use Rattle.snesl_values.specs.Entries.{environment_at, AreSpelledAt}
use Rattle.snesl_values.specs.Inputs.{dialect_of, declarations_of, environment_of, text_in}
use Rattle.snesl_values.specs.declared.inputs.InputError.TheVariants.{Bad}
use Rattle.snesl_values.specs.Declarations.{declared, FitDeclarations}
use Rattle.snesl_values.specs.Inputs.{StopsAt, SpellsEnvironment, InputMeans, spells, too_long, lawful, unlawful}
use Rattle.snesl_values.proofs.InputScan.{some_next, no_next}
use Rattle.snesl_values.proofs.InputWants.{passed_on}
use Rattle.snesl_values.proofs.InputAnswers.{no_ok, IsRight, right_stop, lawful_answered, unlawful_answered, not_refused}
use Rattle.snesl_values.proofs.inputs.read_inputs.Goals as goal

pub returns-then-bytes-gt-GREATEST_INPUT_LENGTH-clause-refused : goal.returns-then-bytes-gt-GREATEST_INPUT_LENGTH-clause-refused
returns-then-bytes-gt-GREATEST_INPUT_LENGTH-clause-refused c = inr (_, refl, too_long (omega arith))

pub returns-then-bytes-gt-GREATEST_INPUT_LENGTH-clause-lawful : goal.returns-then-bytes-gt-GREATEST_INPUT_LENGTH-clause-lawful
returns-then-bytes-gt-GREATEST_INPUT_LENGTH-clause-lawful c =
    lawful_answered c.args.dialect (declared c.args.decls.now) c.args.bytes.now (Err (Bad 16777216)) (inr (_, refl, too_long (omega arith)))

pub returns-then-bytes-gt-GREATEST_INPUT_LENGTH-clause-unlawful : goal.returns-then-bytes-gt-GREATEST_INPUT_LENGTH-clause-unlawful
returns-then-bytes-gt-GREATEST_INPUT_LENGTH-clause-unlawful c =
    unlawful_answered c.args.dialect (declared c.args.decls.now) c.args.bytes.now (Err (Bad 16777216)) tt (inr (_, refl, too_long (omega arith)))

pub returns-in_err-all-clause-refused : goal.returns-in_err-all-clause-refused
returns-in_err-all-clause-refused c =
    passed_on (IsRight c.args.dialect (declared c.args.decls.now) c.args.bytes.now) c.from_residual.result c.in_err-all.field-0.0 c.from_residual.ensures.1
    (right_stop c.args.dialect (declared c.args.decls.now) c.args.bytes.now c.in_err-all.field-0.0 (omega arith) c.in_err-all.ensures.stops)

pub returns-in_err-all-clause-lawful : goal.returns-in_err-all-clause-lawful
returns-in_err-all-clause-lawful c =
    lawful_answered c.args.dialect (declared c.args.decls.now) c.args.bytes.now c.from_residual.result
    (passed_on (IsRight c.args.dialect (declared c.args.decls.now) c.args.bytes.now) c.from_residual.result c.in_err-all.field-0.0 c.from_residual.ensures.1
    (right_stop c.args.dialect (declared c.args.decls.now) c.args.bytes.now c.in_err-all.field-0.0 (omega arith) c.in_err-all.ensures.stops))

pub returns-in_err-all-clause-unlawful : goal.returns-in_err-all-clause-unlawful
returns-in_err-all-clause-unlawful c =
    unlawful_answered c.args.dialect (declared c.args.decls.now) c.args.bytes.now c.from_residual.result
    (no_ok (λ inputs. InputMeans c.args.dialect (declared c.args.decls.now) c.args.bytes.now (spells (environment_of inputs))) c.from_residual.result c.in_err-all.field-0.0 c.from_residual.ensures.1)
    (passed_on (IsRight c.args.dialect (declared c.args.decls.now) c.args.bytes.now) c.from_residual.result c.in_err-all.field-0.0 c.from_residual.ensures.1
    (right_stop c.args.dialect (declared c.args.decls.now) c.args.bytes.now c.in_err-all.field-0.0 (omega arith) c.in_err-all.ensures.stops))

pub returns-then-end-bytes-clause-refused : goal.returns-then-end-bytes-clause-refused
returns-then-end-bytes-clause-refused c =
    inr (
      _,
      refl,
      unlawful (omega arith) (subst (StopsAt (SpellsEnvironment c.args.dialect (declared c.args.decls.now)) c.args.bytes.now 0) (sym c.skip_blanks-end.ensures.offset)
          (c.in_ok-all.ensures.read.no_more (some_next c.args.bytes.now c.in_ok-all.behind c.skip_blanks-end.result c.skip_blanks-end.ensures.offset (omega arith)))),
    )

pub returns-then-end-bytes-clause-lawful : goal.returns-then-end-bytes-clause-lawful
returns-then-end-bytes-clause-lawful c =
    lawful_answered c.args.dialect (declared c.args.decls.now) c.args.bytes.now (Err (Bad c.skip_blanks-end.result))
    (inr (
      _,
      refl,
      unlawful (omega arith) (subst (StopsAt (SpellsEnvironment c.args.dialect (declared c.args.decls.now)) c.args.bytes.now 0) (sym c.skip_blanks-end.ensures.offset)
          (c.in_ok-all.ensures.read.no_more (some_next c.args.bytes.now c.in_ok-all.behind c.skip_blanks-end.result c.skip_blanks-end.ensures.offset (omega arith)))),
    ))

pub returns-then-end-bytes-clause-unlawful : goal.returns-then-end-bytes-clause-unlawful
returns-then-end-bytes-clause-unlawful c =
    unlawful_answered c.args.dialect (declared c.args.decls.now) c.args.bytes.now (Err (Bad c.skip_blanks-end.result)) tt
    (inr (
      _,
      refl,
      unlawful (omega arith) (subst (StopsAt (SpellsEnvironment c.args.dialect (declared c.args.decls.now)) c.args.bytes.now 0) (sym c.skip_blanks-end.ensures.offset)
          (c.in_ok-all.ensures.read.no_more (some_next c.args.bytes.now c.in_ok-all.behind c.skip_blanks-end.result c.skip_blanks-end.ensures.offset (omega arith)))),
    ))

pub returns-clause-spelled : goal.returns-clause-spelled
unfolding environment_of
returns-clause-spelled c =
    subst (λ (t : List ℕ). InputMeans c.args.dialect (declared c.args.decls.now) c.args.bytes.now (spells (environment_at t c.in_ok-all.all.items)))
    (sym (ap (λ v. v.items) c.in_ok-text.ensures.ok ∙ c.in_ok-copy.ensures.items))
    (lawful (omega arith) c.in_ok-all.ensures.read.reads
    (no_next c.args.bytes.now c.in_ok-all.behind c.skip_blanks-end.result c.skip_blanks-end.ensures.offset (omega arith))
    c.in_ok-all.ensures.read.spells)

pub returns-clause-unlawful : goal.returns-clause-unlawful
returns-clause-unlawful c = λ at means.
    absurd (not_refused c.args.dialect (declared c.args.decls.now) c.args.bytes.now (environment_at c.args.bytes.now c.in_ok-all.all.items) at
    (lawful (omega arith) c.in_ok-all.ensures.read.reads
    (no_next c.args.bytes.now c.in_ok-all.behind c.skip_blanks-end.result c.skip_blanks-end.ensures.offset (omega arith))
    c.in_ok-all.ensures.read.spells)
    means)

pub invariant_of-result : goal.invariant_of-result
invariant_of-result c =
    let kept : (arc_value c.in_ok-text.text).items ≡ c.args.bytes.now = ap (λ v. v.items) c.in_ok-text.ensures.ok ∙ c.in_ok-copy.ensures.items in
    record {
      placed = ∣ subst (λ (t : List ℕ). AreSpelledAt c.args.dialect t (declared c.in_ok-decls.decls.items) c.in_ok-all.all.items) (sym kept)
          (subst (λ ds. AreSpelledAt c.args.dialect c.args.bytes.now ds c.in_ok-all.all.items) (sym c.in_ok-decls.ensures) c.in_ok-all.ensures.placed) ∣₁;
      fit = ∣ subst (λ (t : List ℕ). FitDeclarations c.args.dialect (declared c.in_ok-decls.decls.items) (environment_at t c.in_ok-all.all.items)) (sym kept)
          (subst (λ ds. FitDeclarations c.args.dialect ds (environment_at c.args.bytes.now c.in_ok-all.all.items)) (sym c.in_ok-decls.ensures) c.in_ok-all.ensures.read.spells.fits) ∣₁;
    }

pub returns-clause-in_dialect : goal.returns-clause-in_dialect
unfolding dialect_of
returns-clause-in_dialect c = refl

pub returns-clause-declares : goal.returns-clause-declares
unfolding declarations_of
returns-clause-declares c = c.in_ok-decls.ensures

pub returns-clause-fits : goal.returns-clause-fits
unfolding environment_of
returns-clause-fits c =
    subst (λ (t : List ℕ). FitDeclarations c.args.dialect (declared c.args.decls.now) (environment_at t c.in_ok-all.all.items))
    (sym (ap (λ v. v.items) c.in_ok-text.ensures.ok ∙ c.in_ok-copy.ensures.items)) c.in_ok-all.ensures.read.spells.fits

pub returns-clause-kept : goal.returns-clause-kept
unfolding text_in
returns-clause-kept c = ap (λ v. v.items) c.in_ok-text.ensures.ok ∙ c.in_ok-copy.ensures.items
