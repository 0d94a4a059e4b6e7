use Rattle.std.proofs.Common.{◌<◌, length, arith, ◌∙◌, subst, ap}
use borrow.Author.Tests.{ltb-true}
use Rattle.std.proofs.Common.{[], ◌∷◌}
use mathlib.Core.List.{IsPrefix}
use Rattle.flow_messages.specs.Signals.{signal_of}
use Rattle.flow_messages.proofs.Signals.{signals-nil, signals-cons}
use Rattle.flow_messages.specs.Tables.{view_of_lines}
use Rattle.flow_messages.proofs.Tables.{line-begins, if_some}
use Rattle.flow_messages.proofs.table_ends.TableEnds.front.Goals as goal

pub returns : goal.returns
returns c =
    let ls = c.args.self.now.lines.items in
    let h : c.args.edge < length ls = omega (arith, ltb-true) in
    if_some _ _ c.front.result
    (λ m begins. subst (λ l. IsPrefix l ((view_of_lines ls).coming c.args.edge)) (signals-cons m.now [] ∙ ap (λ l. signal_of m.now ∷ l) signals-nil)
    (line-begins ls c.args.edge c.index.result.now h c.index.ensures (m.now ∷ []) begins)) c.front.ensures
