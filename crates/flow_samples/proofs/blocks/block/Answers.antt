use Rattle.std.proofs.Common.{refl}
use Rattle.flow_samples.proofs.BlocksOfKind.{no_items, more_fit, more_last, more_items}
use Rattle.flow_samples.proofs.blocks.block.Goals as goal

pub loop-number-init : goal.loop-number-init
loop-number-init c = no_items _ _ c.new-block.ensures

pub loop-number-preserved : goal.loop-number-preserved
loop-number-preserved c =
    more_items _ c.loop-number.block.items _ _ c.loop-number.invariant c.push.ensures.items
    c.flat.ensures.fits c.flat.ensures.item

pub returns-clause-fit : goal.returns-clause-fit
returns-clause-fit c = more_fit _ c.loop-number.block.items _ _ c.loop-number.invariant c.push-2.ensures.items refl

pub returns-clause-last : goal.returns-clause-last
returns-clause-last c = more_last _ c.loop-number.block.items _ _ c.loop-number.invariant c.push-2.ensures.items refl
