use Rattle.std.proofs.Common.{◌<◌, length, arith, sym, ◌∙◌, subst, ap}
use borrow.Author.Tests.{ltb-true}
use Rattle.std.proofs.Common.{◌++◌, take, set}
use Rattle.std.proofs.lemmas.List.{take-append-drop}
use Rattle.flow_messages.specs.Ends.{TakenAll}
use Rattle.flow_messages.specs.Stores.{content_of}
use Rattle.flow_messages.proofs.Signals.{signals-take}
use Rattle.flow_messages.specs.Tables.{view_of_lines}
use Rattle.flow_messages.proofs.Tables.{line-taken_all, line-held, line-coming}
use Rattle.flow_messages.proofs.table_ends.TableEnds.skip.Goals as goal

pub skip-requires : goal.skip-requires
skip-requires c =
    let ls = c.args.self.now.lines.items in
    let h : c.args.edge < length ls = omega (arith, ltb-true) in
    omega (arith, c.requires.certain, line-held ls c.args.edge _ h c.index_mut.ensures.value)

pub returns-clause-taken : goal.returns-clause-taken
returns-clause-taken c =
    let ls = c.args.self.now.lines.items in
    let h : c.args.edge < length ls = omega (arith, ltb-true) in
    let old = c.index_mut.result.now in
    let new = c.skip.new.self in
    let n = c.args.count in
    let now = content_of old.store in
    let parts = sym (take-append-drop n now) ∙ ap (λ k. take n now ++ k) (sym c.skip.ensures.rest) in
    let said = signals-take n now ∙ ap (take n) (sym (line-coming ls c.args.edge old h c.index_mut.ensures.value)) in
    subst (λ l. TakenAll (view_of_lines ls) c.args.edge l (view_of_lines (set ls c.args.edge new))) said
    (line-taken_all ls c.args.edge old new h c.index_mut.ensures.value c.skip.ensures.kind (take n now) c.skip.ensures.sent parts c.skip.ensures.capacity)
