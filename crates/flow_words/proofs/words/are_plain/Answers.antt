use Rattle.std.proofs.Common.{rules, ◌≡◌, pos, false, get_or, subst, sym, ap, ◌∙◌}
use Rattle.std.specs.Prelude.{FitsSigned}
use Rattle.std.specs.Int.{w64}
use Rattle.std.proofs.lemmas.List.{take_all}
use Rattle.std.proofs.lemmas.Bool.{or_parts, not-true}
use Rattle.std.proofs.lemmas.List.Elements.{All-more}
use Rattle.flow_words.specs.Words.{is_escape, ArePlain}
use Rattle.flow_words.proofs.Digits.{word_kept}
use Rattle.flow_words.proofs.words.are_plain.Goals as goal

pub loop-word-preserved : goal.loop-word-preserved
loop-word-preserved c = λ none.
    let (before, now) = or_parts c.loop-word.escaped _ none in
    let i = c.loop-word.word-index in
    let w = get_or c.args.words.now i (pos 0) in
    let f : FitsSigned w64 w = search rules in
    All-more (λ w. is_escape w ≡ false) c.args.words.now i (pos 0) c.loop-word-test.true (c.loop-word.invariant before) (ap is_escape (sym (word_kept w f)) ∙ sym c.escapes-escaped.ensures ∙ now)

pub returns : goal.returns
returns c = λ plain.
    let none = not-true c.loop-word.escaped plain in
    subst ArePlain (take_all c.loop-word.word-index _ c.loop-word-test.false) (c.loop-word.invariant none)
