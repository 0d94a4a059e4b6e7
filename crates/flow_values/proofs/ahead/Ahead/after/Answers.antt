use Rattle.std.proofs.Common.{◌≡◌, ◌∙◌, ◌++◌, [], List, ℕ, Some, ap, sym, codes, subst}
use Rattle.snesl_data.specs.Types.{ty_of}
use Rattle.flow_messages.specs.Cells.{cell_of}
use Rattle.flow_values.specs.PrintMachine.{Pending, print_reading, next}
use Rattle.flow_values.specs.Aheads.{pending_of, stack}
use Rattle.flow_values.proofs.Printing.{finds_entered}
use Rattle.flow_values.proofs.ahead.Ahead.after.Goals as goal

pub returns-in_ok-enter-in-Whole : goal.returns-in_ok-enter-in-Whole
returns-in_ok-enter-in-Whole c =
    let place = c.in-Whole.place in
    let new = c.enter.new.self in
    subst (λ t. (after : List Pending) (before : List ℕ) → next (pending_of t) (cell_of c.args.item.now) after before
    ≡ Some (print_reading (stack new.pending.items after) (before ++ new.text.items))) (sym c.in-Whole.is)
    (finds_entered (ty_of place.ty) place.port place.brackets (cell_of c.args.item.now) [] c.new-ahead.result new c.new-ahead.ensures.pending c.new-ahead.ensures.text c.in_ok-enter-in-Whole.ensures)

pub returns-in_ok-enter-in-Second : goal.returns-in_ok-enter-in-Second
returns-in_ok-enter-in-Second c =
    let place = c.in-Second.place in
    let new = c.enter-in-Second.new.self in
    subst (λ t. (after : List Pending) (before : List ℕ) → next (pending_of t) (cell_of c.args.item.now) after before
    ≡ Some (print_reading (stack new.pending.items after) (before ++ new.text.items))) (sym c.in-Second.is)
    (finds_entered (ty_of place.ty) place.port place.brackets (cell_of c.args.item.now) (codes ",") c.say.new.self new
    (c.say.ensures.pending ∙ c.new-ahead.ensures.pending) (c.in_ok-say-in-Second.ensures.text ∙ ap (λ l. l ++ codes ",") c.new-ahead.ensures.text)
    c.in_ok-enter-in-Second.ensures)
