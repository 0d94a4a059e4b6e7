use Rattle.std.proofs.Common.{◌≡◌, length, take, sym, ap, ◌∙◌, arith}
use Rattle.std.proofs.lemmas.Bool.{or_parts, not-true}
use Rattle.std.proofs.lemmas.List.{length-set, take_all}
use Rattle.flow_messages.specs.Contents.{flag_messages}
use Rattle.flow_words.specs.Words.{flag_word, each_said}
use Rattle.flow_words.proofs.Lists.{read_next}
use Rattle.flow_words.proofs.single.read_flags.Goals as goal

pub loop-place-preserved : goal.loop-place-preserved
loop-place-preserved c =
    let inv = c.loop-place.invariant in
    let i = c.loop-place.place in
    record {
      places = length-set c.loop-place.flags i c.truth.result ∙ inv.places;
      read = λ none.
          let (before, now) = or_parts c.loop-place.ended _ none in
          read_next c.args.words.now c.loop-place.flags i c.truth.result _ c.loop-place-test.true (omega (arith, inv.places, c.requires.places, c.loop-place-test.true))
          (inv.read before) (c.truth.ensures (c.is_end-ended.ensures now));
    }

pub returns-clause-read : goal.returns-clause-read
returns-clause-read c = λ flags.
    let none = not-true c.loop-place.ended flags in
    let words = c.args.words.now in
    let all : c.loop-place.place ≡ length words = omega (arith, c.loop-place-test.false) in
    ap (each_said flag_word) (sym (take_all c.loop-place.place words c.loop-place-test.false)) ∙ c.loop-place.invariant.read none ∙ ap (λ n. flag_messages (take n c.loop-place.flags)) all
