use Rattle.std.proofs.Common.{subst, sym}
use Rattle.snesl_look.specs.Messages.{IsNameMessage, meant}
use Rattle.snesl_look.specs.Views.{IsMessageAt}
use Rattle.snesl_look.proofs.Told.{made_names_none}
use Rattle.snesl_look.proofs.messages.name_message.Goals as goal

pub returns-in_ok-append_near-in-Some : goal.returns-in_ok-append_near-in-Some
returns-in_ok-append_near-in-Some c =
    let at = c.args.at in
    let program = c.args.program.now in
    let is = rw c.in-Some.is at c.in_ok-name.ensures in
    let begun = rw c.refusal_sentence-sentence.ensures at c.in_ok-message-in-Some.ensures in
    let ended = rw (begun, c.position_of.ensures.line, c.deref.ensures.value) at c.in_ok-append_near-in-Some.ensures in
    subst (IsNameMessage at program) (sym ended) (meant c.in-Some.name.items is)

pub returns-in-None : goal.returns-in-None
returns-in-None c =
    let none = rw c.in-None.is at c.in_ok-name.ensures in
    let made = rw (IsMessageAt, c.refusal_sentence-sentence.ensures, c.refusal_hint.ensures) at c.placed-in-None.ensures in
    made_names_none c.args.at c.args.program.now none c.placed-in-None.result made
