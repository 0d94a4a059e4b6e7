use Rattle.std.proofs.Common.{◌≡◌, ℕ, [], ◌∷◌, Ok, refl, sym, ap, subst, ◌∙◌}
use Rattle.flow_nodes.specs.plans.Plans.{concat_flags, interleave_groups}
use Rattle.snesl_data.specs.Types.{bool}
use Rattle.snesl_translation.specs.Makings.{Making, done, and_then}
use Rattle.snesl_translation.specs.Moving.{flags_stepped, mixed}
use Rattle.snesl_translation.specs.Wires.{Wires as WiresOf, first_wires, item_wires, second_wires, segments, stream_of, two, wire}
use Rattle.snesl_translator.specs.steps.Added.{Adds, HasMade}
use Rattle.snesl_translator.specs.steps.Views.{next_in, wires_of}
use Rattle.snesl_translator.specs.declared.steps.wires.Wires.{Wires}
use Rattle.snesl_translator.proofs.OfSteps.Adding.{made_then, then_done, exits_first}
use Rattle.snesl_translator.proofs.steps.forms.+mixed.Goals as goal

module _ (at f g : ℕ) where
  -- of two pairs, by their parts
  abbrev second_of : (v v' w : WiresOf) → ℕ → Making WiresOf
  second_of v v' w next = and_then (mixed at f g v v' next) (λ x k. done (two w x) k)

  abbrev of_pairs : (u v u' v' : WiresOf) → ℕ → Making WiresOf
  of_pairs u v u' v' next = and_then (mixed at f g u u' next) (second_of v v')

  pairs : (left right u v u' v' : WiresOf) (next : ℕ) → left ≡ two u v → u' ≡ first_wires right → v' ≡ second_wires right → of_pairs u v u' v' next ≡ mixed at f g left right next
  pairs left right u v u' v' next e first second =
      ap (λ x. of_pairs u v x v' next) first ∙ ap (λ x. of_pairs u v (first_wires right) x next) second ∙ ap (λ x. mixed at f g x right next) (sym e)

  -- of two sequences, by their flags and their elements
  abbrev items_of : (u v h a b : WiresOf) → ℕ → Making WiresOf
  items_of u v h a b next = and_then (mixed at (stream_of a) (stream_of b) u v next) (λ w k. done (segments (stream_of h) w) k)

  abbrev right_of : (q : ℕ) (u v h a : WiresOf) → ℕ → Making WiresOf
  right_of q u v h a next = and_then (flags_stepped at concat_flags (g ∷ q ∷ []) next) (items_of u v h a)

  abbrev left_of : (p q : ℕ) (u v h : WiresOf) → ℕ → Making WiresOf
  left_of p q u v h next = and_then (flags_stepped at concat_flags (f ∷ p ∷ []) next) (right_of q u v h)

  abbrev of_segments : (p q : ℕ) (u v : WiresOf) → ℕ → Making WiresOf
  of_segments p q u v next = and_then (flags_stepped at interleave_groups (f ∷ g ∷ p ∷ q ∷ []) next) (left_of p q u v)

  sequences : (left right : WiresOf) (p q : ℕ) (u v : WiresOf) (next : ℕ) → left ≡ segments p u → q ≡ stream_of right → v ≡ item_wires right → of_segments p q u v next ≡ mixed at f g left right next
  sequences left right p q u v next e stream items =
      ap (λ n. of_segments p n u v next) stream ∙ ap (λ x. of_segments p (stream_of right) u x next) items ∙ ap (λ x. mixed at f g x right next) (sym e)

pub returns-in_err-first-in-Two : goal.returns-in_err-first-in-Two
returns-in_err-first-in-Two t c =
    let at = c.args.at in
    let f = c.args.f in
    let g = c.args.g in
    let old = c.args.steps.now in
    let new = c.mixed.new.steps in
    let right = wires_of c.args.right.now in
    let u = wires_of c.deref.result.now in
    let v = wires_of c.in-Two.second.value in
    let u' = wires_of c.first.result.now in
    let e = c.in_err-first-in-Two.field-0.0 in
    let result = c.from_residual.result in
    let left = ap wires_of c.in-Two.is ∙ ap (λ (x : Wires). two (wires_of x) v) (sym c.deref.ensures) in
    subst (λ (m : Making WiresOf). Adds wires_of old new m result) (pairs at f g (wires_of c.args.left.now) right u v u' (second_wires right) (next_in old) left c.first.ensures refl)
    (exits_first wires_of wires_of old new new (mixed at f g u u' (next_in old)) (second_of at f g v (second_wires right)) e result c.from_residual.ensures c.in_err-first-in-Two.ensures)

pub returns-in_err-second-in-Two : goal.returns-in_err-second-in-Two
returns-in_err-second-in-Two t c =
    let at = c.args.at in
    let f = c.args.f in
    let g = c.args.g in
    let old = c.args.steps.now in
    let middle = c.mixed.new.steps in
    let new = c.mixed-in-Two.new.steps in
    let u = wires_of c.deref.result.now in
    let v = wires_of c.deref-in-Two.result.now in
    let u' = wires_of c.first.result.now in
    let v' = wires_of c.second.result.now in
    let w = wires_of c.in_ok-first-in-Two.first in
    let e = c.in_err-second-in-Two.field-0.0 in
    let result = c.from_residual-in_err-second-in-Two.result in
    let left = ap wires_of c.in-Two.is ∙ ap (λ (x : Wires). two (wires_of x) (wires_of c.in-Two.second.value)) (sym c.deref.ensures)
    ∙ ap (λ (x : Wires). two u (wires_of x)) (sym c.deref-in-Two.ensures) in
    subst (λ (m : Making WiresOf). Adds wires_of old new m result) (pairs at f g (wires_of c.args.left.now) (wires_of c.args.right.now) u v u' v' (next_in old) left c.first.ensures c.second.ensures)
    (made_then wires_of old middle new (mixed at f g u u' (next_in old)) (second_of at f g v v') w result c.in_ok-first-in-Two.ensures
    (exits_first wires_of wires_of middle new new (mixed at f g v v' (next_in middle)) (λ x k. done (two w x) k) e result c.from_residual-in_err-second-in-Two.ensures c.in_err-second-in-Two.ensures))

pub returns-in_ok-mixed-in-Two : goal.returns-in_ok-mixed-in-Two
returns-in_ok-mixed-in-Two t c =
    let at = c.args.at in
    let f = c.args.f in
    let g = c.args.g in
    let old = c.args.steps.now in
    let middle = c.mixed.new.steps in
    let new = c.mixed-in-Two.new.steps in
    let u = wires_of c.deref.result.now in
    let v = wires_of c.deref-in-Two.result.now in
    let u' = wires_of c.first.result.now in
    let v' = wires_of c.second.result.now in
    let w = wires_of c.in_ok-first-in-Two.first in
    let x = wires_of c.in_ok-second-in-Two.second in
    let left = ap wires_of c.in-Two.is ∙ ap (λ (x : Wires). two (wires_of x) (wires_of c.in-Two.second.value)) (sym c.deref.ensures)
    ∙ ap (λ (x : Wires). two u (wires_of x)) (sym c.deref-in-Two.ensures) in
    subst (λ (m : Making WiresOf). HasMade old new m (wires_of c.in_ok-mixed-in-Two.mixed))
    (pairs at f g (wires_of c.args.left.now) (wires_of c.args.right.now) u v u' v' (next_in old) left c.first.ensures c.second.ensures)
    (subst (HasMade old new (of_pairs at f g u v u' v' (next_in old))) (sym c.in_ok-mixed-in-Two.ensures)
    (made_then (λ y. y) old middle new (mixed at f g u u' (next_in old)) (second_of at f g v v') w (Ok (two w x)) c.in_ok-first-in-Two.ensures
    (then_done middle new (mixed at f g v v' (next_in middle)) (λ x. two w x) x c.in_ok-second-in-Two.ensures)))

pub returns-in_err-flags-in-Segments : goal.returns-in_err-flags-in-Segments
returns-in_err-flags-in-Segments t c =
    let at = c.args.at in
    let f = c.args.f in
    let g = c.args.g in
    let old = c.args.steps.now in
    let right = wires_of c.args.right.now in
    let p = c.in-Segments.p in
    let q = c.stream-q.result in
    let u = wires_of c.in-Segments.items.value in
    let v = item_wires right in
    let left = ap wires_of c.in-Segments.is in
    let e = c.in_err-flags-in-Segments.field-0.0 in
    let result = c.from_residual-in_err-flags-in-Segments.result in
    let new = c.flags.new.self in
    subst (λ (m : Making WiresOf). Adds wires_of old new m result) (sequences at f g (wires_of c.args.left.now) right p q u v (next_in old) left c.stream-q.ensures refl)
    (exits_first (λ n. wire bool n) wires_of old new new (flags_stepped at interleave_groups (f ∷ g ∷ p ∷ q ∷ []) (next_in old))
    (left_of at f g p q u v) e result c.from_residual-in_err-flags-in-Segments.ensures c.in_err-flags-in-Segments.ensures)

pub returns-in_err-f-in-Segments : goal.returns-in_err-f-in-Segments
returns-in_err-f-in-Segments t c =
    let at = c.args.at in
    let f = c.args.f in
    let g = c.args.g in
    let old = c.args.steps.now in
    let right = wires_of c.args.right.now in
    let p = c.in-Segments.p in
    let q = c.stream-q.result in
    let u = wires_of c.in-Segments.items.value in
    let v = item_wires right in
    let left = ap wires_of c.in-Segments.is in
    let e = c.in_err-f-in-Segments.field-0.0 in
    let result = c.from_residual-in_err-f-in-Segments.result in
    let one = c.flags.new.self in
    let new = c.flags-in-Segments.new.self in
    let h = wire bool c.in_ok-flags-in-Segments.flags in
    subst (λ (m : Making WiresOf). Adds wires_of old new m result) (sequences at f g (wires_of c.args.left.now) right p q u v (next_in old) left c.stream-q.ensures refl)
    (made_then wires_of old one new (flags_stepped at interleave_groups (f ∷ g ∷ p ∷ q ∷ []) (next_in old)) (left_of at f g p q u v) h result c.in_ok-flags-in-Segments.ensures
    (exits_first (λ n. wire bool n) wires_of one new new (flags_stepped at concat_flags (f ∷ p ∷ []) (next_in one)) (right_of at f g q u v h) e result
    c.from_residual-in_err-f-in-Segments.ensures c.in_err-f-in-Segments.ensures))

pub returns-in_err-g-in-Segments : goal.returns-in_err-g-in-Segments
returns-in_err-g-in-Segments t c =
    let at = c.args.at in
    let f = c.args.f in
    let g = c.args.g in
    let old = c.args.steps.now in
    let right = wires_of c.args.right.now in
    let p = c.in-Segments.p in
    let q = c.stream-q.result in
    let u = wires_of c.in-Segments.items.value in
    let v = item_wires right in
    let left = ap wires_of c.in-Segments.is in
    let e = c.in_err-g-in-Segments.field-0.0 in
    let result = c.from_residual-in_err-g-in-Segments.result in
    let one = c.flags.new.self in
    let two' = c.flags-in-Segments.new.self in
    let new = c.flags-in-Segments-2.new.self in
    let h = wire bool c.in_ok-flags-in-Segments.flags in
    let a = wire bool c.in_ok-f-in-Segments.f in
    subst (λ (m : Making WiresOf). Adds wires_of old new m result) (sequences at f g (wires_of c.args.left.now) right p q u v (next_in old) left c.stream-q.ensures refl)
    (made_then wires_of old one new (flags_stepped at interleave_groups (f ∷ g ∷ p ∷ q ∷ []) (next_in old)) (left_of at f g p q u v) h result c.in_ok-flags-in-Segments.ensures
    (made_then wires_of one two' new (flags_stepped at concat_flags (f ∷ p ∷ []) (next_in one)) (right_of at f g q u v h) a result c.in_ok-f-in-Segments.ensures
    (exits_first (λ n. wire bool n) wires_of two' new new (flags_stepped at concat_flags (g ∷ q ∷ []) (next_in two')) (items_of at f g u v h a) e
    result c.from_residual-in_err-g-in-Segments.ensures c.in_err-g-in-Segments.ensures)))

pub returns-in_err-items-in-Segments : goal.returns-in_err-items-in-Segments
returns-in_err-items-in-Segments t c =
    let at = c.args.at in
    let f = c.args.f in
    let g = c.args.g in
    let old = c.args.steps.now in
    let right = wires_of c.args.right.now in
    let p = c.in-Segments.p in
    let q = c.stream-q.result in
    let u = wires_of c.deref-in-Segments.result.now in
    let v = wires_of c.items.result.now in
    let left = ap wires_of c.in-Segments.is ∙ ap (λ (x : Wires). segments p (wires_of x)) (sym c.deref-in-Segments.ensures) in
    let e = c.in_err-items-in-Segments.field-0.0 in
    let result = c.from_residual-in_err-items-in-Segments.result in
    let one = c.flags.new.self in
    let two' = c.flags-in-Segments.new.self in
    let three = c.flags-in-Segments-2.new.self in
    let new = c.mixed-in-Segments.new.steps in
    let h = wire bool c.in_ok-flags-in-Segments.flags in
    let a = wire bool c.in_ok-f-in-Segments.f in
    let b = wire bool c.in_ok-g-in-Segments.g in
    subst (λ (m : Making WiresOf). Adds wires_of old new m result) (sequences at f g (wires_of c.args.left.now) right p q u v (next_in old) left c.stream-q.ensures c.items.ensures)
    (made_then wires_of old one new (flags_stepped at interleave_groups (f ∷ g ∷ p ∷ q ∷ []) (next_in old)) (left_of at f g p q u v) h result c.in_ok-flags-in-Segments.ensures
    (made_then wires_of one two' new (flags_stepped at concat_flags (f ∷ p ∷ []) (next_in one)) (right_of at f g q u v h) a result c.in_ok-f-in-Segments.ensures
    (made_then wires_of two' three new (flags_stepped at concat_flags (g ∷ q ∷ []) (next_in two')) (items_of at f g u v h a) b result c.in_ok-g-in-Segments.ensures
    (exits_first wires_of wires_of three new new (mixed at (stream_of a) (stream_of b) u v (next_in three)) (λ w k. done (segments (stream_of h) w) k)
    e result c.from_residual-in_err-items-in-Segments.ensures c.in_err-items-in-Segments.ensures))))

pub returns-in_ok-mixed-in-Segments : goal.returns-in_ok-mixed-in-Segments
returns-in_ok-mixed-in-Segments t c =
    let at = c.args.at in
    let f = c.args.f in
    let g = c.args.g in
    let old = c.args.steps.now in
    let right = wires_of c.args.right.now in
    let p = c.in-Segments.p in
    let q = c.stream-q.result in
    let u = wires_of c.deref-in-Segments.result.now in
    let v = wires_of c.items.result.now in
    let left = ap wires_of c.in-Segments.is ∙ ap (λ (x : Wires). segments p (wires_of x)) (sym c.deref-in-Segments.ensures) in
    let one = c.flags.new.self in
    let two' = c.flags-in-Segments.new.self in
    let three = c.flags-in-Segments-2.new.self in
    let new = c.mixed-in-Segments.new.steps in
    let h = wire bool c.in_ok-flags-in-Segments.flags in
    let a = wire bool c.in_ok-f-in-Segments.f in
    let b = wire bool c.in_ok-g-in-Segments.g in
    let w = wires_of c.in_ok-items-in-Segments.items in
    let result = segments (stream_of h) w in
    subst (λ (m : Making WiresOf). HasMade old new m (wires_of c.in_ok-mixed-in-Segments.mixed))
    (sequences at f g (wires_of c.args.left.now) right p q u v (next_in old) left c.stream-q.ensures c.items.ensures)
    (subst (HasMade old new (of_segments at f g p q u v (next_in old))) (sym c.in_ok-mixed-in-Segments.ensures)
    (made_then (λ y. y) old one new (flags_stepped at interleave_groups (f ∷ g ∷ p ∷ q ∷ []) (next_in old)) (left_of at f g p q u v) h (Ok result) c.in_ok-flags-in-Segments.ensures
    (made_then (λ y. y) one two' new (flags_stepped at concat_flags (f ∷ p ∷ []) (next_in one)) (right_of at f g q u v h) a (Ok result) c.in_ok-f-in-Segments.ensures
    (made_then (λ y. y) two' three new (flags_stepped at concat_flags (g ∷ q ∷ []) (next_in two')) (items_of at f g u v h a) b (Ok result) c.in_ok-g-in-Segments.ensures
    (then_done three new (mixed at (stream_of a) (stream_of b) u v (next_in three)) (λ x. segments (stream_of h) x) w c.in_ok-items-in-Segments.ensures)))))
