use Rattle.std.proofs.Common.{sym, ◌∙◌, refl, arith}
use Rattle.snesl_values.specs.Inputs.{declaration_of}
use Rattle.snesl_types.proofs.SameDecls.{same_on, other_length, none_after}
use Rattle.snesl_types.proofs.fits.same_decls.Goals as goal

pub returns-then-decls-others : goal.returns-then-decls-others
returns-then-decls-others c = (
  (λ t. cc),
  (λ e. absurd (other_length declaration_of c.args.decls.now c.args.others.now c.if-decls-others.true e)),
)

pub returns-then-not-same_decl : goal.returns-then-not-same_decl
returns-then-not-same_decl c =
    let step = same_on declaration_of c.args.decls.now c.args.others.now c.loop-number.number c.index-decls-number.result c.index-others-number.result
    (omega arith) (omega arith) c.index-decls-number.is c.index-others-number.is in
    ((λ t. cc), (λ e. c.if-not-same_decl.ensures.1 (step.0 (c.loop-number.invariant.0 e)).0))

pub loop-number-preserved : goal.loop-number-preserved
loop-number-preserved c =
    let step = same_on declaration_of c.args.decls.now c.args.others.now c.loop-number.number c.index-decls-number.result c.index-others-number.result
    (omega arith) (omega arith) c.index-decls-number.is c.index-others-number.is in (
      (λ e. (step.0 (c.loop-number.invariant.0 e)).1),
      (λ e. c.loop-number.invariant.1 (step.1 (c.same_decl.ensures.0 c.if-not-same_decl.false, e))),
    )

pub returns : goal.returns
returns c = (
  (λ t. c.loop-number.invariant.1
      (none_after declaration_of c.args.decls.now c.loop-number.number (omega arith)
      ∙ sym (none_after declaration_of c.args.others.now c.loop-number.number (omega arith)))),
  (λ e. refl),
)
