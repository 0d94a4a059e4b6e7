use Rattle.std.proofs.Common.{refl, sym, ◌∙◌}
use Rattle.std.proofs.lemmas.Bool.{false≢true}
use Rattle.flow_drives.proofs.driver.drive_with.Goals as goal

pub returns-then-not-lawful-clause-config : goal.returns-then-not-lawful-clause-config
returns-then-not-lawful-clause-config g c = (λ _ lawful. false≢true (sym c.if-not-lawful.true ∙ c.lawful.ensures.1 lawful), λ _. refl)
