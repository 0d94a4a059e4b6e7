use Rattle.std.proofs.Common.{◌∙◌, ap}
use Rattle.snesl_look.specs.Functions.{after_blanks, after_word, front_word}
use Rattle.snesl_look.proofs.functions.name_of.Goals as goal

pub returns : goal.returns
returns c =
    let behind = c.after_word-behind.ensures ∙ ap after_word c.after_blanks-from_word.ensures in
    let from_name = c.after_blanks-from_name.ensures ∙ ap after_blanks behind in
    (c.is_function.ensures.0 c.if-not-is_function.false, c.front_word.ensures ∙ ap front_word from_name)
