use Rattle.std.proofs.Common.{◌≡◌, sym, ap, ◌∙◌}
use Rattle.std.proofs.lemmas.Slice.Eq.{bytes_eq-Decides}
use Rattle.snesl_data.specs.Types.{ty_of}
use Rattle.snesl_data.proofs.SameTypes.{same_eq, same_of}
use Rattle.snesl_types.proofs.fits.same_decl.Goals as goal

pub returns-then-eq : goal.returns-then-eq
returns-then-eq c =
    let name : c.args.decl.now.0.items ≡ c.args.other.now.0.items =
    sym c.as_slice.ensures.value ∙ (bytes_eq-Decides c.as_slice.result.now c.as_slice-2.result.now).0 (sym c.if-eq.ensures) ∙ c.as_slice-2.ensures.value in (
      (λ t.
          let ty : ty_of c.args.decl.now.1 ≡ ty_of c.args.other.now.1 = same_eq (ty_of c.args.decl.now.1) (ty_of c.args.other.now.1) (sym c.is.ensures ∙ t) in
          cc),
      (λ e. let ty : ty_of c.args.decl.now.1 ≡ ty_of c.args.other.now.1 = ap (λ d. d.1) e in c.is.ensures ∙ same_of ty),
    )
