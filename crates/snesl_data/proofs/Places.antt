-- What a vector has at a place.
use Rattle.std.proofs.Common.{◌≡◌, ℕ, ◌<◌, ◌≤◌, ℤ, List, length, map, get_or, nat_lt, true, false, Some, None, Result, Ok, Err, OnErr, option_map, to_z, of_z, sym, ap, ◌∙◌, arith, rules}
use Rattle.std.specs.List.{slice_get}
use Rattle.std.proofs.lemmas.Int.{to_z-of_z}
use Rattle.std.proofs.lemmas.List.{length-map}
use Rattle.std.proofs.lemmas.Option.{slice_get-map, slice_get-get_or, slice_get_past}
use Rattle.std.proofs.lemmas.Bool.Decides.{nat_tests}
use Rattle.snesl_data.specs.declared.datum.Elements.{Elements}
use Rattle.snesl_data.specs.Values.{Value, entries}
use mir.Val.{SFits}
use mir.Syntax.{w64, w128}

-- an integer of 64 bits is the same among those of 128
pub widened : (x : ℤ) → SFits w64 x → to_z w128 (of_z w128 (to_z w64 (of_z w64 x))) ≡ x
widened x fits =
    let wide : SFits w128 x = search rules in
    ap (λ (k : ℤ). to_z w128 (of_z w128 k)) (to_z-of_z w64 x fits) ∙ to_z-of_z w128 x wide

-- what holds, holds at an error
pub refused : {T E P : Type 0} (r : Result T E) → P → OnErr r P
refused (Ok x) holds = tt
refused (Err e) holds = holds

-- e holds the values of xs
module _ {X : Type 0} (f : X → Value) (xs ys : List X) (e es : Elements) (is : e ≡ es) (are : entries es ≡ map f xs) (same : ys ≡ xs) (i : ℕ) where
  here : slice_get (entries e) i ≡ option_map f (slice_get ys i)
  here =
      ap (λ e. slice_get (entries e) i) is ∙ ap (λ l. slice_get l i) are ∙ slice_get-map f xs i ∙ ap (λ l. option_map f (slice_get l i)) (sym same)

  -- what was found there is the element
  pub found : (x : X) (v : Value) → f x ≡ v → true ≡ nat_lt i (length ys) → x ≡ get_or ys i x → Some v ≡ slice_get (entries e) i
  found x v of inside at =
      let lt : i < length ys = grind (arith, nat_tests) in
      sym (here ∙ ap (option_map f) (slice_get-get_or ys i x lt) ∙ ap (λ y. Some (f y)) (sym at) ∙ ap Some of)

  -- nothing was found behind the last
  pub absent : false ≡ nat_lt i (length ys) → None ≡ slice_get (entries e) i
  absent out =
      let past : length ys ≤ i = grind (arith, nat_tests) in
      sym (here ∙ ap (option_map f) (slice_get_past ys i past))

  -- what was found lies within
  pub within : true ≡ nat_lt i (length ys) → i < length (entries e)
  within inside =
      let lt : i < length ys = grind (arith, nat_tests) in
      let count : length (entries e) ≡ length ys = ap (λ e. length (entries e)) is ∙ ap length are ∙ length-map xs f ∙ ap length (sym same) in
      omega (arith, count)
