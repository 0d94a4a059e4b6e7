use Rattle.std.proofs.Common.{◌∙◌, arith}
use Rattle.std.proofs.lemmas.List.{length-set}
use Rattle.flow_words.proofs.Lists.{laid_next}
use Rattle.flow_words.proofs.single.lay_out.Goals as goal

pub loop-place-preserved : goal.loop-place-preserved
loop-place-preserved c =
    let inv = c.loop-place.invariant in
    let i = c.loop-place.place in
    record {
      places = length-set c.loop-place.words i c.saying.result ∙ inv.places;
      laid = laid_next c.loop-place.words c.args.flags.now i c.saying.result _ (omega (arith, inv.places, c.requires.places, c.loop-place-test.true)) c.loop-place-test.true inv.laid c.saying.ensures;
    }
