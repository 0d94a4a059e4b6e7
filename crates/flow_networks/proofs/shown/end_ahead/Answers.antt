use Rattle.std.proofs.Common.{List, [], ◌∷◌, ◌++◌, ◌∙◌, ap, subst}
use mathlib.Core.List.{IsPrefix}
use Rattle.flow_messages.specs.declared.flat.Flat.{Flat}
use Rattle.flow_messages.specs.declared.flat.Flat.TheVariants.{End as EndFlat}
use Rattle.flow_messages.specs.Signals.{signal_of, stop}
use Rattle.flow_networks.proofs.Ahead.{come_none, come_end}
use Rattle.flow_networks.proofs.shown.end_ahead.Goals as goal

pub returns-in-Some-End-clause-next : goal.returns-in-Some-End-clause-next
returns-in-Some-End-clause-next g c kind =
    let coming = (g.E.Ends.view c.args.ends.now).coming c.args.edge in
    let first : IsPrefix (stop ∷ []) coming = subst (λ m. IsPrefix (signal_of m ∷ []) coming) c.in-Some-End.field-0-is c.in-Some-End.ensures in
    come_end kind coming c.push.new.self.items first (c.push.ensures.items ∙ ap (λ (l : List Flat). l ++ EndFlat ∷ []) c.new-block.ensures)

pub returns-clause-next : goal.returns-clause-next
returns-clause-next g c kind = come_none kind ((g.E.Ends.view c.args.ends.now).coming c.args.edge) c.new-block.result.items c.new-block.ensures

pub returns-2-clause-next : goal.returns-2-clause-next
returns-2-clause-next g c kind = come_none kind ((g.E.Ends.view c.args.ends.now).coming c.args.edge) c.new-block.result.items c.new-block.ensures
