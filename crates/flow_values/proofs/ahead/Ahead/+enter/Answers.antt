use Rattle.std.proofs.Common.{◌≡◌, ◌+◌, ap, ◌∙◌, suc, true, subst, sym, arith}
use Rattle.snesl_data.specs.Types.{ty_of, pair}
use Rattle.flow_values.specs.Flats.{width}
use Rattle.flow_values.specs.Places.{PortsFit}
use Rattle.flow_values.specs.PrintMachine.{whole, entered_value}
use Rattle.flow_messages.specs.Cells.{cell_of}
use Rattle.flow_values.specs.Aheads.{LeadsAhead}
use Rattle.flow_values.proofs.Printing.{second_fits, bracket_fits, leads_pair}
use Rattle.flow_values.proofs.ahead.Ahead.+enter.Goals as goal

pub overflow_add-place-in-Pair-default : goal.overflow_add-place-in-Pair-default
overflow_add-place-in-Pair-default t c = let h = bracket_fits (ty_of c.args.ty.now) c.args.port c.args.brackets c.requires in omega (arith, h)

pub invariant_of-place : goal.invariant_of-place
invariant_of-place t c =
    let first = ty_of c.in-Pair-default.first.value in
    let second = ty_of c.in-Pair-default.second.value in
    let fits : PortsFit (pair first second) c.args.port c.args.brackets = subst (λ ty. PortsFit (ty_of ty) c.args.port c.args.brackets) c.in-Pair-default.is-0 c.requires in
    let h = second_fits first second c.args.port c.args.brackets fits in
    let count : c.edge_count.result ≡ width first = c.edge_count.ensures ∙ ap (λ x. width (ty_of x)) c.deref-in-Pair-default-2.ensures in
    let copy : ty_of c.in_ok-copy_ty-in-Pair-default.field-0 ≡ second = c.in_ok-copy_ty-in-Pair-default.ensures ∙ ap ty_of c.deref-in-Pair-default.ensures in
    record {
      fits = subst (λ n. PortsFit (ty_of c.in_ok-copy_ty-in-Pair-default.field-0) (c.args.port + n) (c.args.brackets + 1)) (sym count)
          (subst (λ s. PortsFit s (c.args.port + width first) (c.args.brackets + 1)) (sym copy) h);
    }

pub returns-in_ok-add-in-Pair-default : goal.returns-in_ok-add-in-Pair-default
returns-in_ok-add-in-Pair-default t c =
    let first = ty_of c.in-Pair-default.first.value in
    let second = ty_of c.in-Pair-default.second.value in
    let x = cell_of c.args.item.now in
    let count : c.edge_count.result ≡ width first = c.edge_count.ensures ∙ ap (λ x. width (ty_of x)) c.deref-in-Pair-default-2.ensures in
    let copy : ty_of c.in_ok-copy_ty-in-Pair-default.field-0 ≡ second = c.in_ok-copy_ty-in-Pair-default.ensures ∙ ap ty_of c.deref-in-Pair-default.ensures in
    let one : c.args.brackets + 1 ≡ suc c.args.brackets = omega arith in
    let there : LeadsAhead (entered_value first c.args.port 0 x) c.enter.result c.add.new.self c.enter.new.self =
    subst (λ ty. LeadsAhead (entered_value (ty_of ty) c.args.port 0 x) c.enter.result c.add.new.self c.enter.new.self)
    c.deref-in-Pair-default-3.ensures c.enter.ensures in
    subst (λ ty. LeadsAhead (entered_value (ty_of ty) c.args.port c.args.brackets x) c.enter.result c.args.self.now c.enter.new.self) (sym c.in-Pair-default.is-0)
    (leads_pair first second c.args.port c.args.brackets x c.args.self.now c.add.new.self c.enter.new.self c.say.new.self.pending.items _
    (c.add.ensures.text ∙ c.in_ok-say-in-Pair-default.ensures.text)
    c.say.ensures.pending
    c.in_ok-add-in-Pair-default.ensures.pending
    (ap (λ s. whole true s (c.args.port + c.edge_count.result) (c.args.brackets + 1)) copy
    ∙ ap (λ n. whole true second (c.args.port + n) (c.args.brackets + 1)) count ∙ ap (whole true second (c.args.port + width first)) one)
    c.enter.result
    there)
