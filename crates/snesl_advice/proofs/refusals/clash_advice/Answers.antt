use Rattle.std.proofs.Common.{◌≡◌, refl, sym, ap, subst, unwrap_or}
use Rattle.snesl_data.specs.declared.refusal.Refusal.TheVariants.{Mismatch}
use Rattle.snesl_types.specs.Clashes.{clash_of}
use Rattle.snesl_advice.specs.Advice.{of_clash}
use Rattle.snesl_advice.specs.Told.{IsToldAt}
use Rattle.snesl_advice.proofs.refusals.clash_advice.Goals as goal

pub returns : goal.returns
returns c =
    let found = c.culprit_of.result in
    let is : c.unwrap_or-place.result ≡ unwrap_or found c.args.at = c.unwrap_or-place.ensures in
    let told : IsToldAt c.args.program.now.text.items (unwrap_or found c.args.at) c.in_ok-mismatch_message.field-0.items =
    subst (λ place. IsToldAt c.args.program.now.text.items place c.in_ok-mismatch_message.field-0.items) is
    (subst (λ text. IsToldAt text c.unwrap_or-place.result c.in_ok-mismatch_message.field-0.items) c.deref.ensures.value c.in_ok-mismatch_message.ensures) in
    (unwrap_or found c.args.at, ap Mismatch is, of_clash c.args.program.now (clash_of c.args.clash.now) found refl c.requires c.culprit_of.ensures told)
