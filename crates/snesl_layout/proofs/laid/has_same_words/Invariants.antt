use Rattle.std.proofs.Common.{◌≡◌, drop}
use Rattle.snesl_layout.specs.Laid.{words}
use Rattle.snesl_layout.proofs.laid.has_same_words.Given as goal

-- all words are the same if those from this one on are
abbrev pub invariant-loop-i : goal.invariant-loop-i
invariant-loop-i l = words l.one (drop l.i l.tokens) ≡ words l.other (drop l.i l.others) → words l.one l.tokens ≡ words l.other l.others
