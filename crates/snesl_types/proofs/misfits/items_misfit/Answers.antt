use Rattle.std.proofs.Common.{map, ap}
use Rattle.snesl_data.specs.Types.{ty_of}
use Rattle.snesl_grammar.specs.tree.View.{trees_of}
use Rattle.snesl_types.proofs.Misfitting.{items_in}
use Rattle.snesl_types.proofs.misfits.items_misfit.Goals as goal

pub returns-then-is_mismatch : goal.returns-then-is_mismatch
returns-then-is_mismatch c =
    items_in c.args.scope.now c.args.at (trees_of c.args.items.now)
    (map ty_of c.in_ok-types.types.items) (map ty_of c.deref.result.now) c.literal_type-answer.result
    c.in_ok-types.ensures (ap (map ty_of) c.deref.ensures.value) c.literal_type-answer.ensures (c.is_mismatch.ensures c.if-is_mismatch.true)
