use Rattle.std.proofs.Common.{◌≡◌, ◌+◌, ◌*◌, ◌<◌, ◌≤◌, ◌++◌, ℕ, true, List, length, drop, map, set, ◌∙◌, ap, arith, refl}
use Rattle.snesl_data.specs.Types.{Ty, ty_of, int as int_type}
use Rattle.flow_base.specs.declared.slices.Written.{Written}
use Rattle.flow_values.specs.Dues.{DueCell, due_cell}
use Rattle.flow_values.specs.SeqMachine.{left_dues}
use Rattle.flow_values.specs.declared.seq.Seq.{Seq}
use Rattle.flow_values.proofs.Layings.{paired}
use Rattle.flow_values.proofs.SeqAlong.{fronts, ints_due, ints_held, moves_as, none_held, wrote_all, wrote_some}
use Rattle.flow_values.proofs.seq.SeqWorker.along.Goals.{then-rounds-left-via-then-rounds-left}
use Rattle.flow_values.proofs.seq.SeqWorker.along.Goals.{then-rounds-left-via-else-rounds-left+then-rounds-space}
use Rattle.flow_values.proofs.seq.SeqWorker.along.Goals.{then-rounds-left-via-else-rounds-left+else-rounds-space+then-rounds-most}
use Rattle.flow_values.proofs.seq.SeqWorker.along.Goals as goal

-- rounds
pub returns-then-rounds-left : goal.returns-then-rounds-left
returns-then-rounds-left c =
    let self = c.args.self.now in
    let ints = c.in-Some.ints.now in
    let rounds = c.min-rounds.result in
    let holds = c.in-Some.ensures in
    let block = c.put_elements.new.block in
    let put = c.put_elements.ensures in
    let view : Seq → Ty × List DueCell = λ s. paired (ty_of s.element) (map due_cell s.dues.items ++ left_dues (ty_of s.element) s.vector s.begun) in
    let within : rounds ≤ length ints = omega (arith, c.min.ensures, c.min-rounds.ensures) in
    let room : rounds ≤ c.args.space = omega (arith, c.min.ensures, c.min-rounds.ensures) in
    let may : 2 * rounds ≤ c.args.most = omega (arith, c.min-rounds.ensures) in
    let held = λ (place n : ℕ) (at : place ≡ self.begun + n).
    ints_held (ty_of self.element) self.dues.items self.vector self.begun place n ints holds.none holds.element holds.left at in
    let before : view self ≡ paired int_type (ints_due ints) = held self.begun 0 (omega arith) in
    let after : view c.then-rounds-left.self ≡ paired int_type (ints_due (drop rounds ints)) = elim c.then-rounds-left.branch [
      | then-rounds-left-via-then-rounds-left w ↦ ap view w.self-is ∙ held (self.begun + rounds) rounds refl
      | then-rounds-left-via-else-rounds-left+then-rounds-space w ↦ ap view w.self-is ∙ held (self.begun + rounds) rounds refl
      | then-rounds-left-via-else-rounds-left+else-rounds-space+then-rounds-most w ↦ ap view w.self-is ∙ held (self.begun + rounds) rounds refl
    ] in
    let front = fronts ints rounds block.flags block.ints within put.flags put.ints in
    let moved = wrote_some ints rounds block.flags block.ints front c.args.first c.args.second c.args.space c.args.most room may in
    moves_as c.args.first c.args.second c.args.space c.args.most block before after c.wrote.ensures moved

-- rounds, and the last flag
pub returns : goal.returns
returns c =
    let self = c.args.self.now in
    let ints = c.in-Some.ints.now in
    let rounds = c.min-rounds.result in
    let holds = c.in-Some.ensures in
    let block = c.put_elements.new.block in
    let put = c.put_elements.ensures in
    let within : rounds ≤ length ints = omega (arith, c.min.ensures, c.min-rounds.ensures) in
    let past : length ints ≤ rounds = omega (arith, c.if-rounds-left.false) in
    let room : rounds < c.args.space = omega (arith, c.min.ensures, c.min-rounds.ensures, c.if-rounds-space.false) in
    let may : 2 * rounds < c.args.most = omega (arith, c.min-rounds.ensures, c.if-rounds-most.false) in
    let there : rounds < length block.flags = omega (arith, room, c.requires) in
    let full : Written = record { flags = set block.flags rounds true; ints = block.ints } in
    let before = ints_held (ty_of self.element) self.dues.items self.vector self.begun self.begun 0 ints holds.none holds.element holds.left (omega arith) in
    let after = none_held (ty_of self.element) self.dues.items holds.none holds.element in
    let front = fronts ints rounds block.flags block.ints within put.flags put.ints in
    let moved = wrote_all ints rounds block.flags block.ints front c.args.first c.args.second c.args.space c.args.most past there room may in
    moves_as c.args.first c.args.second c.args.space c.args.most full before after c.wrote-2.ensures moved
