use Rattle.std.proofs.Common.{◌≡◌, ◌+◌, ◌-◌, arith, ap, sym, ◌∙◌, take, drop}
use Rattle.std.specs.List.{prefix_len}
use Rattle.std.proofs.lemmas.Bool.{both_ways}
use Rattle.std.proofs.lemmas.Bool.Decides.{Decides-eqb}
use Rattle.std.proofs.lemmas.Slice.Eq.{slice_eq-Decides}
use Rattle.snesl_data.specs.Characters.{is_word}
use Rattle.snesl_values.proofs.InputScan.{rest_is, word_taken, another_word}
use Rattle.snesl_values.proofs.scan.after_word.Goals as goal
use Rattle.snesl_values.proofs.scan.after_word.Goals.{then-start-text-via-then-start-text, then-start-text-via-else-start-text+then-not-is_ascii_alphabetic}

pub returns-then-eq-clause-taken : goal.returns-then-eq-clause-taken
returns-then-eq-clause-taken c =
    let text = c.args.text.now in
    let start = c.skip_blanks-start.result in
    let len = c.word_len.result in
    let size : start + len - start ≡ len = omega arith in
    let same = slice_eq-Decides Decides-eqb _ _ _ c.eq.ensures in
    word_taken text c.args.at start len c.args.expected.now c.skip_blanks-start.ensures.offset c.skip_blanks-start.ensures.from
    (omega arith) (sym c.if-not-is_ascii_alphabetic.ensures.value) (c.word_len.ensures.count ∙ ap (prefix_len is_word) (rest_is text start))
    (ap (λ n. take n (drop start text)) (sym size) ∙ same.0 c.if-eq.true)

pub returns-then-start-text-clause-another : goal.returns-then-start-text-clause-another
returns-then-start-text-clause-another c =
    another_word c.args.text.now c.args.at c.skip_blanks-start.result c.args.expected.now c.skip_blanks-start.ensures.offset
    (λ below letter is. elim c.then-start-text.branch [
      | then-start-text-via-then-start-text w ↦ omega arith
      | then-start-text-via-else-start-text+then-not-is_ascii_alphabetic w ↦ both_ways _ (sym w.if-not-is_ascii_alphabetic.ensures.value) letter
    ])

pub returns-else-eq-clause-another : goal.returns-else-eq-clause-another
returns-else-eq-clause-another c =
    let text = c.args.text.now in
    let start = c.skip_blanks-start.result in
    let len = c.word_len.result in
    let size : start + len - start ≡ len = omega arith in
    let count = c.word_len.ensures.count ∙ ap (prefix_len is_word) (rest_is text start) in
    let same = slice_eq-Decides Decides-eqb _ _ _ c.eq.ensures in
    another_word text c.args.at start c.args.expected.now c.skip_blanks-start.ensures.offset
    (λ below letter is. both_ways _ c.if-eq.false (same.1 (ap (λ n. take n (drop start text)) (size ∙ count) ∙ is)))
