use Rattle.std.proofs.Common.{sym, ◌∙◌}
use Rattle.flow_messages.specs.declared.message.Kind.TheVariants.{Vec as VecKind}
use Rattle.flow_messages.proofs.Fitting.{kind_fits}
use Rattle.flow_part_tests.proofs.tables.vector_comes_back.Goals as goal

pub put-requires-clause-fits : goal.put-requires-clause-fits
put-requires-clause-fits g c =
    kind_fits ((g.E.Ends.view c.args.ends.now).kind c.args.edge) VecKind _ (c.takes.ensures.0 c.if-not-takes.false) (sym c.fits.ensures ∙ c.if-not-fits.false)
