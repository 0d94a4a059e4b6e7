use Rattle.std.proofs.Common.{rules, sym}
use Rattle.flow_words.proofs.Coming.{come_as}
use Rattle.flow_words.proofs.single.FlagWordSingle.hold_items.Goals as goal

pub returns-clause-held : goal.returns-clause-held
returns-clause-held c = λ _. come_as _ _ _ _ (sym (c.if-not-read_flags.ensures.read (search rules))) c.push_all.ensures
