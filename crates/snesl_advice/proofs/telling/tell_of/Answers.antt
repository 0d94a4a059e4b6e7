use Rattle.std.proofs.Common.{map}
use Rattle.snesl_advice.proofs.Made.{made_is_told}
use Rattle.snesl_advice.proofs.telling.tell_of.Goals as goal

pub returns : goal.returns
returns c =
    made_is_told c.args.of_text.now c.args.text.now c.args.place c.args.sentence.now (map (λ note. note.items) c.args.notes.now)
    c.args.hint.now c.noted_message.result c.noted_message.ensures
