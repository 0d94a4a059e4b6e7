use Rattle.std.proofs.Common.{◌≡◌, suc, ◌+◌, ◌*◌, ◌≤◌, sym, ◌∙◌, ap, subst, arith}
use Rattle.std.proofs.Math.Nat.{mul-le-mul_left}
use Rattle.flow_base.specs.Along.{MovesAlong}
use Rattle.flow_scalar.specs.ForkCopies.{copies_of}
use Rattle.flow_scalar.specs.ForkMachine.{ForkPorts, fork_ports, fork_state, idle, fork_machine}
use Rattle.flow_scalar.proofs.ForkBlocks.{fork_moves}
use Rattle.flow_scalar.proofs.Leading.{nothing}
use Rattle.flow_scalar.proofs.fork.ForkWorker.along.Goals as goal

pub returns : goal.returns
returns c =
    let m = fork_machine in
    let n = c.args.self.now in
    let p : ForkPorts = fork_ports n.kind n.outputs in
    let first = c.args.first in
    let second = c.args.second in
    let space = c.args.space in
    let most = c.args.most in
    let block = c.copy_shown-count.new.block in
    let count = c.copy_shown-count.result in
    let none = nothing n.held (sym c.is_some.ensures ∙ c.if-is_some.false) in
    let rests : fork_state n.outputs n.next n.held ≡ idle = ap (fork_state n.outputs n.next) none in
    let outputs : suc p.others ≡ n.outputs = omega (arith, n.several) in
    let room : count ≤ space = omega (arith, c.copy_shown-count.ensures.room, c.min-room.ensures) in
    let fits : count ≤ c.instances_within.result = omega (arith, c.copy_shown-count.ensures.room, c.min-room.ensures) in
    let all : count + n.outputs * count ≤ most = omega (arith, fits, mul-le-mul_left n.outputs fits, c.instances_within.ensures) in
    let may = subst (λ k. count + k * count ≤ most) (sym outputs) all in
    let moves = fork_moves p first second space most count block c.copy_shown-count.ensures.copied room may in
    let counted = subst (λ k. MovesAlong m (p, idle) (p, idle) first second space most block (copies_of count (count + k * count))) outputs moves in
    subst (λ s. MovesAlong m (p, s) (p, s) first second space most block (copies_of count (count + n.outputs * count))) (sym rests) counted
