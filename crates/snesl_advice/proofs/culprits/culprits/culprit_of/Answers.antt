use Rattle.std.proofs.Common.{◌≡◌, map, inl, inr, sym, subst}
use Rattle.snesl_grammar.specs.View.{program_of}
use Rattle.snesl_grammar.specs.tree.View.{declaration_of}
use Rattle.snesl_types.specs.Clashes.{clash_of}
use Rattle.snesl_advice.specs.culprits.Culprits.{BeginsOne, IsCulprit, IsCulpritOf, IsDeclared}
use Rattle.snesl_advice.proofs.OfCulprits.Found.{either_begins}
use Rattle.snesl_advice.proofs.culprits.culprits.culprit_of.Goals as goal

pub returns : goal.returns
returns c =
    let at = c.args.at in
    let clash = clash_of c.args.clash.now in
    let program = program_of c.args.program.now in
    subst (BeginsOne (IsCulpritOf program at clash)) (sym c.or.ensures)
    (either_begins (λ part. IsDeclared at clash part program.declarations) (λ part. IsCulprit at clash part program.expression) (IsCulpritOf program at clash)
    c.culprit_declared.result c.culprit_in.result
    (subst (λ l. BeginsOne (λ part. IsDeclared at clash part (map declaration_of l)) c.culprit_declared.result) c.deref.ensures.value c.culprit_declared.ensures)
    c.culprit_in.ensures (λ part x. inl x) (λ part x. inr x) (λ part x. x))
