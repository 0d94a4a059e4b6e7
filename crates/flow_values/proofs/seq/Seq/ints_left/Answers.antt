use Rattle.std.proofs.Common.{ℤ, Some, Vec, Global, sym, ◌∙◌, ap}
use Rattle.flow_values.proofs.SeqAlong.{later_ints}
use Rattle.flow_values.proofs.seq.Seq.ints_left.Goals as goal

pub returns-clause-left : goal.returns-clause-left
returns-clause-left c n =
    let self = c.args.self.now in
    let ints = c.in-Ints.all in
    let items = c.deref-3.ensures.value ∙ ap (λ (v : Vec ℤ Global). v.items) c.deref-2.ensures in
    later_ints self.vector ints c.deref-3.result.now self.begun n (c.in-Some.is ∙ ap Some c.in-Ints.is) (sym items)
