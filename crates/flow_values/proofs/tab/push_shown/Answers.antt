use Rattle.std.proofs.Common.{sym, subst, take, arith}
use Rattle.snesl_data.specs.Builders.{built_in}
use Rattle.snesl_data.specs.Types.{ty_of}
use Rattle.flow_values.specs.TabBlocks.{AddsScalars}
use Rattle.flow_values.proofs.TabBlocks.{ints_added, truths_added}
use Rattle.flow_values.proofs.tab.push_shown.Goals as goal
use Rattle.flow_messages.specs.Blocks.{item_signals}

pub returns-in-Int-clause-added : goal.returns-in-Int-clause-added
returns-in-Int-clause-added c =
    let push = c.push_ints in
    let old = built_in c.args.elements.now in
    let new = built_in push.new.elements in
    let ns = c.ints-ints.result.now in
    let added = ints_added c.args.shown ns c.min.result push.result old new c.ints-ints.ensures (omega (arith, c.min.ensures)) push.ensures.within push.ensures.added in
    subst (λ ty. AddsScalars (ty_of ty) (take push.result (item_signals c.args.shown)) old new) (sym c.in-Int.is) added

pub returns-in-Bool-clause-added : goal.returns-in-Bool-clause-added
returns-in-Bool-clause-added c =
    let push = c.push_truths in
    let old = built_in c.args.elements.now in
    let new = built_in push.new.elements in
    let bs = c.flags-truths.result.now in
    let added = truths_added c.args.shown bs c.min-in-Bool.result push.result old new c.flags-truths.ensures (omega (arith, c.min-in-Bool.ensures)) push.ensures.within push.ensures.added in
    subst (λ ty. AddsScalars (ty_of ty) (take push.result (item_signals c.args.shown)) old new) (sym c.in-Bool.is) added
