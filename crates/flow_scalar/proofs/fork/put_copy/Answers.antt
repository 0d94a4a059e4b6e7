use Rattle.std.proofs.Common.{◌≡◌, ◌∙◌, [], ◌∷◌, refl, sym, subst, rules, to_z, of_z}
use Rattle.std.specs.Int.{w64, w128}
use Rattle.std.proofs.lemmas.Int.{to_z-of_z}
use mir.Val.{SFits}
use Rattle.flow_messages.specs.Cells.{cell_of, unit, flag, int}
use Rattle.flow_messages.specs.Ends.{PutAll}
use Rattle.flow_messages.specs.Signals.{carry}
use Rattle.flow_messages.specs.declared.message.Kind.TheVariants.{Unit as UnitKind, Bool as BoolKind, Int as IntKind}
use Rattle.flow_messages.specs.Kinds.{FitsEdge}
use Rattle.flow_messages.proofs.Fitting.{kind_fits}
use Rattle.flow_messages.proofs.Fitting.{fits_takes}
use Rattle.flow_base.specs.Visits.{Wrote}
use Rattle.flow_scalar.proofs.ForkBlocks.{one_put}
use Rattle.flow_scalar.proofs.fork.put_copy.Goals as goal

pub returns-in-Unit-clause-wrote : goal.returns-in-Unit-clause-wrote
returns-in-Unit-clause-wrote g c =
    let v = g.E.Ends.view c.args.ends.now in
    let w = g.E.Ends.view c.put_all.new.self in
    subst (λ x. Wrote v c.args.edge (carry (cell_of x)) w) (sym c.in-Unit.is) (one_put v w c.args.edge unit c.put_all.ensures.put)

pub returns-in-Bool-clause-wrote : goal.returns-in-Bool-clause-wrote
returns-in-Bool-clause-wrote g c =
    let v = g.E.Ends.view c.args.ends.now in
    let w = g.E.Ends.view c.put_all-in-Bool.new.self in
    subst (λ x. Wrote v c.args.edge (carry (cell_of x)) w) (sym c.in-Bool.is) (one_put v w c.args.edge (flag c.in-Bool.truth) c.put_all-in-Bool.ensures.put)

pub returns-in-Ok-clause-wrote : goal.returns-in-Ok-clause-wrote
returns-in-Ok-clause-wrote g c =
    let v = g.E.Ends.view c.args.ends.now in
    let w = g.E.Ends.view c.put_all-in-Ok.new.self in
    let n = c.in-Int.number in
    let fits : SFits w128 n = search rules in
    let narrow = c.in-Ok.narrow in
    let same : narrow ≡ n = c.in-Ok.ensures.1 ∙ to_z-of_z w128 n fits in
    let narrow_fits : SFits w64 narrow = search rules in
    let back : to_z w64 (of_z w64 narrow) ≡ n = to_z-of_z w64 narrow narrow_fits ∙ same in
    let put = subst (λ k. PutAll v c.args.edge (carry (int k) ∷ []) w) back c.put_all-in-Ok.ensures.put in
    subst (λ x. Wrote v c.args.edge (carry (cell_of x)) w) (sym c.in-Int.is) (one_put v w c.args.edge (int n) put)

pub put_all-requires-clause-kind : goal.put_all-requires-clause-kind
put_all-requires-clause-kind g c =
    let of = (g.E.Ends.view c.args.ends.now).kind c.args.edge in
    fits_takes of UnitKind unit refl (subst (λ y. FitsEdge of (carry (cell_of y))) c.in-Unit.is c.requires.fits)

pub put_all-requires-in-Bool-clause-kind : goal.put_all-requires-in-Bool-clause-kind
put_all-requires-in-Bool-clause-kind g c =
    let of = (g.E.Ends.view c.args.ends.now).kind c.args.edge in
    fits_takes of BoolKind (flag c.in-Bool.truth) refl (subst (λ y. FitsEdge of (carry (cell_of y))) c.in-Bool.is c.requires.fits)

pub put_all-requires-in-Ok-clause-kind : goal.put_all-requires-in-Ok-clause-kind
put_all-requires-in-Ok-clause-kind g c =
    let of = (g.E.Ends.view c.args.ends.now).kind c.args.edge in
    fits_takes of IntKind (int c.in-Int.number) refl (subst (λ y. FitsEdge of (carry (cell_of y))) c.in-Int.is c.requires.fits)

pub put_in_space-requires-clause-fits : goal.put_in_space-requires-clause-fits
put_in_space-requires-clause-fits g c =
    let of = (g.E.Ends.view c.args.ends.now).kind c.args.edge in
    let takes = fits_takes of IntKind (int c.in-Int.number) refl (subst (λ y. FitsEdge of (carry (cell_of y))) c.in-Int.is c.requires.fits) in
    kind_fits of IntKind _ takes refl
