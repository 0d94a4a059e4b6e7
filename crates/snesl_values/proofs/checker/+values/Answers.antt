use Rattle.std.proofs.Common.{◌≡◌, ◌∷◌, ◌++◌, [], arith, sym, ap, ◌∙◌, subst, refl}
use Rattle.snesl_data.specs.Types.{ty_of, vec, seq, int}
use Rattle.snesl_data.specs.Values.{values_of, an_int, a_pair, a_vec, a_seq, no_values}
use Rattle.snesl_values.specs.InputTokens.{none}
use Rattle.snesl_values.specs.Inputs.{StopsAt}
use Rattle.snesl_values.specs.Wants.{a_value, Fills, IsValueRead}
use Rattle.snesl_values.proofs.InputWants.{leaves_all, leaves_pair, leaves_vec, leaves_seq, past_one, past_value, at_first_item, at_later_item, stop_passed, no_integer}
use Rattle.snesl_values.proofs.InputItems.{have_type-push, items_read, item_read, vec_read, seq_read, pair_read}
use Rattle.snesl_values.proofs.checker.+values.Goals as goal

pub check_pair-returns-in_err-at_first-clause-stops : goal.check_pair-returns-in_err-at_first-clause-stops
check_pair-returns-in_err-at_first-clause-stops t c =
    stop_passed leaves_pair c.from_residual.result c.in_err-at_first.field-0.0 c.from_residual.ensures.1 c.in_err-at_first.ensures.stops

pub check_pair-returns-in_err-after_first-clause-stops : goal.check_pair-returns-in_err-after_first-clause-stops
check_pair-returns-in_err-after_first-clause-stops t c =
    stop_passed (past_one leaves_pair c.in_ok-at_first.ensures.taken)
    c.from_residual-in_err-after_first.result c.in_err-after_first.field-0.0 c.from_residual-in_err-after_first.ensures.1 c.in_err-after_first.ensures.stops

pub check_pair-returns-in_err-at_second-clause-stops : goal.check_pair-returns-in_err-at_second-clause-stops
check_pair-returns-in_err-at_second-clause-stops t c =
    stop_passed (past_value (past_one leaves_pair c.in_ok-at_first.ensures.taken) c.in_ok-after_first.ensures.read.1)
    c.from_residual-in_err-at_second.result c.in_err-at_second.field-0.0 c.from_residual-in_err-at_second.ensures.1 c.in_err-at_second.ensures.stops

pub check_pair-returns-in_err-after_second-clause-stops : goal.check_pair-returns-in_err-after_second-clause-stops
check_pair-returns-in_err-after_second-clause-stops t c =
    stop_passed (past_one (past_value (past_one leaves_pair c.in_ok-at_first.ensures.taken) c.in_ok-after_first.ensures.read.1) c.in_ok-at_second.ensures.taken)
    c.from_residual-in_err-after_second.result c.in_err-after_second.field-0.0 c.from_residual-in_err-after_second.ensures.1 c.in_err-after_second.ensures.stops

pub check_pair-returns-in_err-end-clause-stops : goal.check_pair-returns-in_err-end-clause-stops
check_pair-returns-in_err-end-clause-stops t c =
    stop_passed (past_value (past_one (past_value (past_one leaves_pair c.in_ok-at_first.ensures.taken) c.in_ok-after_first.ensures.read.1) c.in_ok-at_second.ensures.taken)
    c.in_ok-after_second.ensures.read.1)
    c.from_residual-in_err-end.result c.in_err-end.field-0.0 c.from_residual-in_err-end.ensures.1 c.in_err-end.ensures.stops

pub check_value-returns-in_err-start-in-Vec-clause-stops : goal.check_value-returns-in_err-start-in-Vec-clause-stops
check_value-returns-in_err-start-in-Vec-clause-stops t c =
    stop_passed (leaves_vec {a = ty_of c.in-Vec.item.value} (sym (ap ty_of c.in-Vec.is)))
    c.from_residual.result c.in_err-start-in-Vec.field-0.0 c.from_residual.ensures.1 c.in_err-start-in-Vec.ensures.stops

pub check_value-returns-in_err-items-in-Vec-clause-stops : goal.check_value-returns-in_err-items-in-Vec-clause-stops
check_value-returns-in_err-items-in-Vec-clause-stops t c =
    let same : vec (ty_of c.deref-in-Vec.result.now) ≡ ty_of c.args.ty.now = ap (λ x. vec (ty_of x)) c.deref-in-Vec.ensures ∙ sym (ap ty_of c.in-Vec.is) in
    stop_passed (past_one (leaves_vec same) c.in_ok-start-in-Vec.ensures.taken)
    c.from_residual-in_err-items-in-Vec.result c.in_err-items-in-Vec.field-0.0 c.from_residual-in_err-items-in-Vec.ensures.1 c.in_err-items-in-Vec.ensures.stops

pub check_value-returns-in_err-start-in-Seq-clause-stops : goal.check_value-returns-in_err-start-in-Seq-clause-stops
check_value-returns-in_err-start-in-Seq-clause-stops t c =
    stop_passed (leaves_seq {a = ty_of c.in-Seq.item.value} (sym (ap ty_of c.in-Seq.is)))
    c.from_residual-in_err-start-in-Seq.result c.in_err-start-in-Seq.field-0.0 c.from_residual-in_err-start-in-Seq.ensures.1 c.in_err-start-in-Seq.ensures.stops

pub check_value-returns-in_err-items-in-Seq-clause-stops : goal.check_value-returns-in_err-items-in-Seq-clause-stops
check_value-returns-in_err-items-in-Seq-clause-stops t c =
    let same : seq (ty_of c.deref-in-Seq.result.now) ≡ ty_of c.args.ty.now = ap (λ x. seq (ty_of x)) c.deref-in-Seq.ensures ∙ sym (ap ty_of c.in-Seq.is) in
    stop_passed (past_one (leaves_seq same) c.in_ok-start-in-Seq.ensures.taken)
    c.from_residual-in_err-items-in-Seq.result c.in_err-items-in-Seq.field-0.0 c.from_residual-in_err-items-in-Seq.ensures.1 c.in_err-items-in-Seq.ensures.stops

pub check_value-returns-in-None-clause-stops : goal.check_value-returns-in-None-clause-stops
check_value-returns-in-None-clause-stops t c = λ further.
    let text = c.args.text.now in
    subst (λ x. StopsAt (Fills c.args.dialect (a_value (ty_of x) ∷ further)) text c.args.at c.skip_blanks.result) (sym c.in-Int.is)
    (subst (StopsAt (Fills c.args.dialect (a_value int ∷ further)) text c.args.at) (sym c.skip_blanks.ensures.offset)
    (no_integer c.args.dialect text further c.args.at c.in-None.ensures.another))

pub check_pair-returns-clause-read : goal.check_pair-returns-clause-read
check_pair-returns-clause-read t c =
    let text = c.args.text.now in
    let a = ty_of c.args.first.now in
    let b = ty_of c.args.second.now in
    let v = c.in_ok-after_first.ensures.read.0 in
    let w = c.in_ok-after_second.ensures.read.0 in (
      a_pair v w,
      pair_read c.args.dialect text c.args.at c.in_ok-at_first.at_first c.in_ok-after_first.after_first c.in_ok-at_second.at_second c.in_ok-after_second.after_second c.in_ok-end.end a b v w
          c.in_ok-at_first.ensures.taken c.in_ok-after_first.ensures.read.1 c.in_ok-at_second.ensures.taken c.in_ok-after_second.ensures.read.1 c.in_ok-end.ensures.taken,
    )

pub check_value-returns-in_ok-items-in-Vec-clause-read : goal.check_value-returns-in_ok-items-in-Vec-clause-read
check_value-returns-in_ok-items-in-Vec-clause-read t c =
    let text = c.args.text.now in
    let a = ty_of c.deref-in-Vec.result.now in
    let all = c.in_ok-items-in-Vec.ensures.read in
    let end = c.in_ok-items-in-Vec.items in
    let same : vec a ≡ ty_of c.args.ty.now = ap (λ x. vec (ty_of x)) c.deref-in-Vec.ensures ∙ sym (ap ty_of c.in-Vec.is) in (
      a_vec all.0,
      subst (λ u. IsValueRead c.args.dialect text c.args.at u (a_vec all.0) end) same
          (vec_read c.args.dialect text c.args.at c.in_ok-start-in-Vec.start end a all.0 c.in_ok-start-in-Vec.ensures.taken all.1),
    )

pub check_value-returns-in_ok-items-in-Seq-clause-read : goal.check_value-returns-in_ok-items-in-Seq-clause-read
check_value-returns-in_ok-items-in-Seq-clause-read t c =
    let text = c.args.text.now in
    let a = ty_of c.deref-in-Seq.result.now in
    let all = c.in_ok-items-in-Seq.ensures.read in
    let end = c.in_ok-items-in-Seq.items in
    let same : seq a ≡ ty_of c.args.ty.now = ap (λ x. seq (ty_of x)) c.deref-in-Seq.ensures ∙ sym (ap ty_of c.in-Seq.is) in (
      a_seq all.0,
      subst (λ u. IsValueRead c.args.dialect text c.args.at u (a_seq all.0) end) same
          (seq_read c.args.dialect text c.args.at c.in_ok-start-in-Seq.start end a all.0 c.in_ok-start-in-Seq.ensures.taken all.1),
    )

pub check_items-returns-in-Some-clause-read : goal.check_items-returns-in-Some-clause-read
check_items-returns-in-Some-clause-read t c =
    let taken = c.in-Some.ensures.taken in
    (no_values, record { have_type = tt; reads = taken.reads; moves = taken.moves; within = taken.within })

pub check_items-each-init : goal.check_items-each-init
check_items-each-init t c = record {
  within = c.requires.within;
  begun = omega arith;
  before = [];
  have_type = tt;
  reads = none;
  leaves = at_first_item leaves_all c.in_default.ensures.another;
}

pub check_items-returns-in_err-behind-clause-stops : goal.check_items-returns-in_err-behind-clause-stops
check_items-returns-in_err-behind-clause-stops t c =
    stop_passed c.each.invariant.leaves c.from_residual.result c.in_err-behind.field-0.0 c.from_residual.ensures.1 c.in_err-behind.ensures.stops

pub check_items-returns-in-Some-after_sign-clause-read : goal.check_items-returns-in-Some-after_sign-clause-read
check_items-returns-in-Some-after_sign-clause-read t c =
    let text = c.args.text.now in
    let a = ty_of c.args.item.now in
    let before = c.each.invariant.before in
    let v = c.in_ok-behind.ensures.read.0 in (
      values_of (before ++ v ∷ []),
      items_read c.args.dialect text c.args.at c.each.from c.in_ok-behind.behind c.in-Some-after_sign.end a c.args.close before (before ++ v ∷ []) v refl
          c.each.invariant.begun c.each.invariant.have_type c.each.invariant.reads c.in_ok-behind.ensures.read.1 c.in-Some-after_sign.ensures.taken,
    )

pub check_items-returns-in_err-from-clause-stops : goal.check_items-returns-in_err-from-clause-stops
check_items-returns-in_err-from-clause-stops t c =
    stop_passed (at_later_item (past_value c.each.invariant.leaves c.in_ok-behind.ensures.read.1) c.in_default-after_sign.ensures.another)
    c.from_residual-in_err-from.result c.in_err-from.field-0.0 c.from_residual-in_err-from.ensures.1 c.in_err-from.ensures.stops

pub check_items-each-preserved : goal.check_items-each-preserved
check_items-each-preserved t c =
    let text = c.args.text.now in
    let a = ty_of c.args.item.now in
    let before = c.each.invariant.before in
    let v = c.in_ok-behind.ensures.read.0 in
    let read = c.in_ok-behind.ensures.read.1 in
    let comma_read = c.in_ok-from.ensures.taken in
    record {
      within = comma_read.within;
      begun = omega (arith, c.each.invariant.begun, read.moves, comma_read.moves);
      before = before ++ v ∷ [];
      have_type = have_type-push c.args.dialect before v a c.each.invariant.have_type read.has_type;
      reads = item_read c.args.dialect text c.args.at c.each.from c.in_ok-behind.behind c.in_ok-from.from a before (before ++ v ∷ []) v refl
          c.each.invariant.reads read comma_read;
      leaves = past_one (at_later_item (past_value c.each.invariant.leaves read) c.in_default-after_sign.ensures.another) comma_read;
    }

pub check_value-returns-in-Some-clause-read : goal.check_value-returns-in-Some-clause-read
check_value-returns-in-Some-clause-read t c =
    let text = c.args.text.now in
    let n = c.in-Some.field-0-0 in
    let taken = c.in-Some.ensures.taken in (
      an_int n,
      subst (λ x. IsValueRead c.args.dialect text c.args.at (ty_of x) (an_int n) c.in-Some.end) (sym c.in-Int.is)
          (record { has_type = taken.1; reads = taken.0.reads; moves = taken.0.moves; within = taken.0.within }),
    )
