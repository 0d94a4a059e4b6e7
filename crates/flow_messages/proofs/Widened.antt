-- An integer of 64 bits is the same among those of 128.
use Rattle.std.proofs.Common.{◌≡◌, ℤ, to_z, of_z, ◌∙◌, ap, rules}
use Rattle.std.proofs.lemmas.Int.{to_z-of_z}
use mir.Val.{SFits}
use mir.Syntax.{w64, w128}

pub widened : (x : ℤ) → SFits w64 x → to_z w128 (of_z w128 (to_z w64 (of_z w64 x))) ≡ x
widened x fits =
    let wide : SFits w128 x = search rules in
    ap (λ (k : ℤ). to_z w128 (of_z w128 k)) (to_z-of_z w64 x fits) ∙ to_z-of_z w128 x wide
