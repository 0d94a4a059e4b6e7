use Rattle.std.proofs.Common.{◌≡◌, ◌+◌, ◌++◌, ◌<◌, ◌+ℤ◌, ℤ, pos, [], ◌∷◌, length, take, to_z, of_z, ◌∙◌, ap, arith, rules}
use Rattle.std.specs.Int.{w64}
use Rattle.flow_scalar.specs.IotaMachine.{numbers_from}
use Rattle.flow_scalar.proofs.IotaBlocks.{fill_more, numbers_more}
use Rattle.flow_scalar.proofs.iota.fill_numbers.Goals as goal

pub loop-place-preserved : goal.loop-place-preserved
loop-place-preserved c =
    let from = c.args.from in
    let place = c.loop-place.place in
    let places = c.loop-place.places in
    let before = take from c.args.places.now in
    let next = to_z w64 (of_z w64 c.args.next) in
    let value = to_z w64 (of_z w64 (next +ℤ to_z w64 place)) in
    let there : from + place < length places = omega arith in
    let small : to_z w64 place ≡ pos place = search rules in
    let back : value ≡ next +ℤ to_z w64 place = search rules in
    let is : value ≡ next +ℤ pos place = back ∙ ap (λ k. next +ℤ k) small in
    fill_more places before (numbers_from next place) from place value there c.loop-place.invariant
    ∙ ap (λ (k : ℤ). before ++ (numbers_from next place ++ k ∷ [])) is ∙ ap (λ l. before ++ l) (numbers_more next place)
