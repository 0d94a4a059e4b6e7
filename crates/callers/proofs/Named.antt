-- Entries of an environment, by number and by name.
use Rattle.std.proofs.Common.{◌≡◌, ℕ, zero, suc, true, false, List, [], ◌∷◌, drop, slice_get, Some, option_map, if◌then◌else◌, ap, ◌∙◌}
use Rattle.std.specs.Str.{bytes_eq}
use Rattle.snesl_data.specs.Values.{Value}
use Rattle.snesl_values.specs.Inputs.{Environment, value_in}

-- an entry of the name
pub has_name : (name : List ℕ) (es : Environment) (i : ℕ) (found : List ℕ) (v : Value)
    → Some found ≡ option_map (λ entry. entry.0) (slice_get es i) → option_map (λ entry. entry.1) (slice_get es i) ≡ Some v → bytes_eq name found ≡ true
    → value_in name (drop i es) ≡ Some v
has_name name [] i found v e f t = cc
has_name name (x ∷ es) zero found v e f t =
    let same_name : x.0 ≡ found = cc in
    let same_value : x.1 ≡ v = cc in
    ap (λ b. if b then Some x.1 else value_in name es) (ap (bytes_eq name) same_name ∙ t) ∙ ap Some same_value
has_name name (x ∷ es) (suc i) found v e f t = has_name name es i found v e f t

-- an entry of another name
pub has_other_name : (name : List ℕ) (es : Environment) (i : ℕ) (found : List ℕ)
    → Some found ≡ option_map (λ entry. entry.0) (slice_get es i) → bytes_eq name found ≡ false
    → value_in name (drop i es) ≡ value_in name (drop (suc i) es)
has_other_name name [] i found e t = cc
has_other_name name (x ∷ es) zero found e t =
    let same_name : x.0 ≡ found = cc in
    ap (λ b. if b then Some x.1 else value_in name es) (ap (bytes_eq name) same_name ∙ t)
has_other_name name (x ∷ es) (suc i) found e t = has_other_name name es i found e t
