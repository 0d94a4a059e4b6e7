use Rattle.std.proofs.Common.{◌≡◌, ◌+◌, ◌++◌, ◌&&◌, true, map, OnOk, sym, ap, ◌∙◌, subst, arith, length-append}
use Rattle.std.proofs.Math.Path.{ap₂}
use Rattle.snesl_data.specs.Types.{ty_of, pair, seq}
use Rattle.snesl_data.specs.Values.{value_of, values_of}
use Rattle.snesl_data.proofs.Data.{value_of-Seq}
use Rattle.flow_values.specs.Shapes.{is_a, all_are, kinds_of}
use Rattle.flow_values.specs.Flats.{width}
use Rattle.flow_values.specs.laws.Kinds.{both_true}
use Rattle.flow_values.specs.Dues.{due_cell, dues_of, segment_dues}
use Rattle.flow_values.proofs.Segments.{parts_narrower, member_is, sequence_dues}
use Rattle.flow_values.proofs.dues.+add_value.Goals as goal

pub add_value-add_value-requires : goal.add_value-add_value-requires
add_value-add_value-requires t c =
    let first = ty_of c.in-Pair-Pair.first.value in
    let second = ty_of c.in-Pair-Pair.second.value in
    let whole : width (ty_of c.args.ty.now) ≡ width (pair first second) = ap (λ x. width (ty_of x)) c.in-Pair-Pair.is-0 in
    let left : width (ty_of c.deref-in-Pair-Pair.result.now) ≡ width first = ap (λ x. width (ty_of x)) c.deref-in-Pair-Pair.ensures in
    let narrower = (parts_narrower first second).0 in
    let fits = c.requires.fits in
    let are : is_a first (value_of c.in-Pair-Pair.a.value) && is_a second (value_of c.in-Pair-Pair.b.value) ≡ true =
    sym (ap₂ (λ x y. is_a (ty_of x) (value_of y)) c.in-Pair-Pair.is-0 c.in-Pair-Pair.is-1) ∙ c.requires.of_type in (
      omega (arith, whole, left, narrower),
      (
        omega (arith, whole, left, narrower, fits),
        ap₂ (λ x y. is_a (ty_of x) (value_of y)) c.deref-in-Pair-Pair.ensures c.deref-in-Pair-Pair-2.ensures
            ∙ (both_true (is_a first (value_of c.in-Pair-Pair.a.value)) (is_a second (value_of c.in-Pair-Pair.b.value)) are).0,
      ),
    )

pub add_value-add_value-requires-in-Pair-Pair : goal.add_value-add_value-requires-in-Pair-Pair
add_value-add_value-requires-in-Pair-Pair t c =
    let first = ty_of c.in-Pair-Pair.first.value in
    let second = ty_of c.in-Pair-Pair.second.value in
    let both : width (ty_of c.args.ty.now) ≡ width first + width second = ap (λ x. width (ty_of x)) c.in-Pair-Pair.is-0 ∙ length-append (kinds_of first) (kinds_of second) in
    let left : c.edge_count.result ≡ width first = c.edge_count.ensures ∙ ap (λ x. width (ty_of x)) c.deref-in-Pair-Pair-4.ensures in
    let whole : width (ty_of c.args.ty.now) ≡ width (pair first second) = ap (λ x. width (ty_of x)) c.in-Pair-Pair.is-0 in
    let narrower = (parts_narrower first second).1 in
    let right : width (ty_of c.deref-in-Pair-Pair-3.result.now) ≡ width second = ap (λ x. width (ty_of x)) c.deref-in-Pair-Pair-3.ensures in
    let fits = c.requires.fits in
    let are : is_a first (value_of c.in-Pair-Pair.a.value) && is_a second (value_of c.in-Pair-Pair.b.value) ≡ true =
    sym (ap₂ (λ x y. is_a (ty_of x) (value_of y)) c.in-Pair-Pair.is-0 c.in-Pair-Pair.is-1) ∙ c.requires.of_type in (
      omega (arith, whole, right, narrower),
      (
        omega (arith, both, left, right, fits),
        ap₂ (λ x y. is_a (ty_of x) (value_of y)) c.deref-in-Pair-Pair-3.ensures c.deref-in-Pair-Pair-5.ensures
            ∙ (both_true (is_a first (value_of c.in-Pair-Pair.a.value)) (is_a second (value_of c.in-Pair-Pair.b.value)) are).1,
      ),
    )

pub add_value-add_segment-requires : goal.add_value-add_segment-requires
add_value-add_segment-requires t c =
    let item = ty_of c.in-Seq-Seq.item.value in
    let same : width (ty_of c.args.ty.now) ≡ width (seq (ty_of c.deref-in-Seq-Seq.result.now)) = ap (λ x. width (ty_of x)) c.in-Seq-Seq.is-0
    ∙ ap (λ x. width (seq (ty_of x))) (sym c.deref-in-Seq-Seq.ensures) in
    let fits = c.requires.fits in (
      omega (arith, same),
      (
        omega (arith, same, fits),
        ap₂ (λ x ys. all_are (ty_of x) (values_of (map value_of ys))) c.deref-in-Seq-Seq.ensures c.deref-in-Seq-Seq-2.ensures.value
            ∙ sym (ap (is_a (seq item)) (value_of-Seq c.in-Seq-Seq.all))
            ∙ sym (ap₂ (λ x y. is_a (ty_of x) (value_of y)) c.in-Seq-Seq.is-0 c.in-Seq-Seq.is-1)
            ∙ c.requires.of_type,
      ),
    )

pub add_value-returns-in-Seq-Seq : goal.add_value-returns-in-Seq-Seq
add_value-returns-in-Seq-Seq t c =
    let p = c.args.port in
    let same : segment_dues (ty_of c.deref-in-Seq-Seq.result.now) p (map value_of c.deref-in-Seq-Seq-2.result.now) ≡ dues_of (ty_of c.args.ty.now) p (value_of c.args.datum.now) =
    ap₂ (λ x ys. segment_dues (ty_of x) p (map value_of ys)) c.deref-in-Seq-Seq.ensures c.deref-in-Seq-Seq-2.ensures.value
    ∙ sym (sequence_dues (ty_of c.in-Seq-Seq.item.value) p c.in-Seq-Seq.all)
    ∙ sym (ap₂ (λ x y. dues_of (ty_of x) p (value_of y)) c.in-Seq-Seq.is-0 c.in-Seq-Seq.is-1) in
    subst (λ ds. OnOk c.add_segment.result (map due_cell c.add_segment.new.dues.items ≡ map due_cell c.args.dues.now.items ++ ds)) same c.add_segment.ensures

pub add_segment-add_value-requires : goal.add_segment-add_value-requires
add_segment-add_value-requires t c =
    let fits = c.requires.fits in
    (omega arith, (omega (arith, fits), member_is (ty_of c.args.item.now) c.args.all.now c.loop-datum.datum-index c.datum-item.result c.loop-datum-test.true c.datum-item.is c.requires.of_type))
