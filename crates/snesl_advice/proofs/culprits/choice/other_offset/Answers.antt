use Rattle.std.proofs.Common.{◌≡◌, ◌≤◌, ◌<◌, min, true, length, option_map, sym, ap, ◌∙◌, arith}
use Rattle.snesl_data.specs.Types.{ty_of, is_same}
use Rattle.snesl_advice.specs.culprits.Offsets.{first_offset}
use Rattle.snesl_advice.proofs.OfCulprits.Others.{same_at, none_left, one_at}
use Rattle.snesl_advice.proofs.culprits.choice.other_offset.Goals as goal

pub loop-place-preserved : goal.loop-place-preserved
loop-place-preserved c =
    let us = c.args.wanted.now in
    let ts = c.args.found.now in
    let parts = c.args.parts.now in
    let place = c.loop-place.place in
    let in_us : place < length c.args.wanted.now = omega arith in
    let in_ts : place < length c.args.found.now = omega arith in
    let in_parts : place < length c.args.parts.now = omega arith in
    let same : is_same (ty_of c.index-found-place.result) (ty_of c.index-wanted-place.result) ≡ true = cc in
    let one = one_at parts place in_parts in
    c.loop-place.invariant
    ∙ same_at us ts parts place c.index-wanted-place.result c.index-found-place.result one.0 in_us in_ts in_parts c.index-wanted-place.is c.index-found-place.is one.1 same

pub returns : goal.returns
returns c =
    let short : min (min (length c.args.wanted.now) (length c.args.found.now)) (length c.args.parts.now) ≤ c.loop-place.place = omega arith in
    ap (option_map first_offset) (sym (c.loop-place.invariant ∙ none_left c.args.wanted.now c.args.found.now c.args.parts.now c.loop-place.place short))
