use Rattle.snesl_look.specs.Views.{IsMessageAt}
use Rattle.snesl_look.proofs.Told.{made_is_told}
use Rattle.snesl_look.proofs.messages.fault_message.Goals as goal

pub returns : goal.returns
returns c =
    let made = rw (IsMessageAt, c.fault_sentence-sentence.ensures, c.fault_hint.ensures) at c.placed.ensures in
    made_is_told c.args.fault c.args.program.now c.function_at-name.result c.function_at-name.ensures c.placed.result made
