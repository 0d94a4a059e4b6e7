use Rattle.std.proofs.Common.{refl, sym, ◌∙◌}
use Rattle.snesl_run.proofs.OfConsole.Printing.{system_refused, words_refused_line}
use Rattle.snesl_run.proofs.answers.refuse_words.Goals as goal

pub returns-then-is_of_the_system : goal.returns-then-is_of_the_system
returns-then-is_of_the_system g c =
    system_refused c.args.refusal c.complain.result (sym c.is_of_the_system.ensures ∙ c.if-is_of_the_system.true) refl c.complain.ensures.told c.complain.ensures.status

pub returns-else-is_of_the_system : goal.returns-else-is_of_the_system
returns-else-is_of_the_system g c =
    words_refused_line c.args.refusal c.status.result c.print.result c.requires (sym c.is_of_the_system.ensures ∙ c.if-is_of_the_system.false) c.status.ensures c.print.ensures
