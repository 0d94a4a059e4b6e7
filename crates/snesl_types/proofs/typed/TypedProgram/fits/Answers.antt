use Rattle.std.proofs.Common.{◌≡◌, true, false, sym, ap, ◌∙◌}
use Rattle.snesl_values.specs.Inputs.{declared}
use Rattle.snesl_types.specs.Typed.{typed_dialect}
use Rattle.snesl_types.proofs.SameDialects.{same_dialect}
use Rattle.snesl_types.proofs.typed.TypedProgram.fits.Goals as goal

pub returns-then-eq : goal.returns-then-eq
returns-then-eq c =
    let one = same_dialect c.dialect.result (typed_dialect c.args.self.now) c.eq.result c.eq.ensures in (
      (λ t. (sym c.dialect.ensures ∙ one.0 c.if-eq.true, sym c.decls.ensures ∙ c.same_decls.ensures.0 t ∙ ap declared c.deref.ensures.value)),
      (λ e. c.same_decls.ensures.1 (c.decls.ensures ∙ e.1 ∙ sym (ap declared c.deref.ensures.value))),
    )

pub returns-else-eq : goal.returns-else-eq
returns-else-eq c =
    let one = same_dialect c.dialect.result (typed_dialect c.args.self.now) c.eq.result c.eq.ensures in (
      (λ t. absurd (let never : false ≡ true = sym c.if-eq.false ∙ t in cc)),
      (λ e. one.1 (c.dialect.ensures ∙ e.0)),
    )
