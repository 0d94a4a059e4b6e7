use Rattle.std.proofs.Common.{◌≡◌, List, [], ◌∷◌, ◌++◌, ◌∙◌, ap, rules}
use Rattle.flow_edges.specs.Flat.{Flat}
use Rattle.flow_edges.specs.Flat.TheVariants.{Unit as UnitFlat}
use Rattle.flow_edges.specs.Kind.TheVariants.{Unit as UnitKind}
use Rattle.callers.proofs.OfStrangers.Blocks.{one_is_last, one_unit_fits}
use Rattle.callers.proofs.strangers.scalar.passed.Goals as goal

pub pass-requires : goal.pass-requires
pass-requires g c =
    let units : g.T.Transducer.behaviour.kind_in (g.T.Transducer.state c.args.node.now) 0 ≡ UnitKind = search rules in
    let is = c.push.ensures.items ∙ ap (λ (l : List Flat). l ++ UnitFlat ∷ []) c.new-block.ensures in
    record { fit = one_unit_fits _ c.push.new.self.items units is; last = one_is_last UnitFlat c.push.new.self.items is }
