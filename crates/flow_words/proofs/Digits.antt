-- The digits of an integer to the base 2⁶².
use Rattle.std.proofs.Common.{◌≡◌, ℕ, zero, suc, ◌+◌, ◌<◌, ◌*◌, ◌/◌, ◌%◌, ◌^◌, ℤ, pos, negsuc, neg_ℤ, ◌*ℤ◌, refl, sym, ap, ◌∙◌, subst, arith}
use native.Mathlib.Nat.{div-add-mod', mod-lt}
use mir.Syntax.{Width}
use Rattle.std.specs.Prelude.{FitsSigned, int_div, int_rem, unsigned_abs}
use Rattle.std.specs.Int.{w64, w128, cast_signed, cast_unsigned, int_wrap, int_wrapping_add, int_wrapping_mul}
use Rattle.std.proofs.lemmas.Int.{ints, quot-rem, rem_below, quot_fits, fits_signed_from_abs, wrapping_add_is, wrapping_mul_is, int_wrap-add_left, int_wrap_fits, SFits-int_wrap, to_z-of_z, of_z-to_z}
use Rattle.flow_words.specs.Words.{base, group_number}

-- the base fits
base_fits : FitsSigned w128 base
base_fits = fits_signed_from_abs w128 base (omega arith)

-- the quotient by the base fits
quotient_fits : (n : ℤ) → FitsSigned w128 n → FitsSigned w128 (int_div n base)
quotient_fits n f = quot_fits w128 n base f (omega (arith, ints))

-- what is left below the base fits
rest_fits : (n : ℤ) → FitsSigned w64 (int_rem n base)
rest_fits n = fits_signed_from_abs w64 (int_rem n base) (omega (arith, rem_below n base (omega arith)))

wide : (n : ℤ) → FitsSigned w64 n → FitsSigned w128 n
wide n f = omega (arith, ints, f)

-- a quotient and what is left make the integer again
joined : (n : ℤ) → FitsSigned w128 n → int_wrapping_add w128 (int_wrapping_mul w128 (int_div n base) base) (int_rem n base) ≡ n
joined n f =
    let product = int_div n base *ℤ base in
    let is : int_wrapping_mul w128 (int_div n base) base ≡ int_wrap w128 product = wrapping_mul_is w128 (int_div n base) base (quotient_fits n f) base_fits in
    ap (λ m. int_wrapping_add w128 m (int_rem n base)) is
    ∙ wrapping_add_is w128 (int_wrap w128 product) (int_rem n base) (SFits-int_wrap w128 product) (wide (int_rem n base) (rest_fits n))
    ∙ int_wrap-add_left w128 product (int_rem n base) ∙ ap (int_wrap w128) (quot-rem n base) ∙ int_wrap_fits w128 n f

-- three digits make the integer again
digits_join : (n : ℤ) → FitsSigned w128 n → group_number (int_div (int_div n base) base) (int_rem (int_div n base) base) (int_rem n base) ≡ n
digits_join n f = ap (λ q. int_wrapping_add w128 (int_wrapping_mul w128 q base) (int_rem n base)) (joined (int_div n base) (quotient_fits n f)) ∙ joined n f

abs_of_neg : (n : ℕ) → unsigned_abs (neg_ℤ (pos n)) ≡ n
abs_of_neg zero = refl
abs_of_neg (suc n) = refl

quotient_below : (a m : ℕ) → a < m * 2 ^ 62 → a / 2 ^ 62 < m
quotient_below a m low = omega (arith, low, div-add-mod' a (2 ^ 62))

-- the quotient of what is small is small
quotient_low : (n : ℤ) (m : ℕ) → unsigned_abs n < m * 2 ^ 62 → unsigned_abs (int_div n base) < m
quotient_low (pos a) m low = quotient_below a m low
quotient_low (negsuc a) m low = subst (λ k. k < m) (sym (abs_of_neg (suc a / 2 ^ 62))) (quotient_below (suc a) m low)

within : (n : ℤ) → FitsSigned w128 n → unsigned_abs n < (16 * 2 ^ 62) * 2 ^ 62
within (pos a) f = omega (arith, f.sfits)
within (negsuc a) f = omega (arith, f.sfits)

-- the first digit is small
top_fits : (n : ℤ) → FitsSigned w128 n → FitsSigned w64 (int_div (int_div n base) base)
top_fits n f =
    let low = quotient_low (int_div n base) 16 (quotient_low n (16 * 2 ^ 62) (within n f)) in
    fits_signed_from_abs w64 (int_div (int_div n base) base) (omega (arith, low))

-- what the code has of a value
abbrev pub kept : Width → ℤ → ℤ
kept w z = cast_signed w (cast_unsigned w z)

narrowed : (z : ℤ) → FitsSigned w64 z → kept w64 (kept w128 z) ≡ z
narrowed z f = ap (kept w64) (to_z-of_z w128 z (wide z f)) ∙ to_z-of_z w64 z f

-- the digits as the code computes them
pub digits_are : (n : ℤ) → FitsSigned w128 n → group_number
    (kept w64 (kept w128 (int_div (kept w128 (int_div (kept w128 n) base)) base)))
    (kept w64 (kept w128 (int_rem (kept w128 (int_div (kept w128 n) base)) base)))
    (kept w64 (kept w128 (int_rem (kept w128 n) base))) ≡ n
digits_are n f =
    let q = int_div n base in
    let same = to_z-of_z w128 n f in
    let same_q = to_z-of_z w128 q (quotient_fits n f) in
    ap (λ x. group_number (kept w64 (kept w128 (int_div (kept w128 (int_div x base)) base))) (kept w64 (kept w128 (int_rem (kept w128 (int_div x base)) base))) (kept w64
    (kept w128 (int_rem x base)))) same
    ∙ ap (λ x. group_number (kept w64 (kept w128 (int_div x base))) (kept w64 (kept w128 (int_rem x base))) (kept w64 (kept w128 (int_rem n base)))) same_q
    ∙ (λ i. group_number (narrowed (int_div q base) (top_fits n f) i) (narrowed (int_rem q base) (rest_fits q) i) (narrowed (int_rem n base) (rest_fits n) i))
    ∙ digits_join n f

-- what is computed keeps its value
kept_bits : (n : ℕ) → n < 2 ^ 128 → cast_unsigned w128 (cast_signed w128 n) ≡ n
kept_bits n low = of_z-to_z w128 n low

-- the number of a group as the code computes it
pub number_is : (t m l : ℤ) → cast_signed w128 (((((cast_unsigned w128 t * 2 ^ 62) % 2 ^ 128 + cast_unsigned w128 m) % 2 ^ 128) * 2 ^ 62 % 2 ^ 128 + cast_unsigned w128 l) % 2 ^
    128) ≡ group_number t m l
number_is t m l =
    let first = (cast_unsigned w128 t * 2 ^ 62) % 2 ^ 128 in
    let second = (first + cast_unsigned w128 m) % 2 ^ 128 in
    let third = (second * 2 ^ 62) % 2 ^ 128 in
    sym (
    ap (λ x. cast_signed w128 ((cast_unsigned w128 (cast_signed w128 (cast_unsigned w128 (cast_signed w128
    ((x + cast_unsigned w128 m) % 2 ^ 128)) * 2 ^ 62 % 2 ^ 128)) + cast_unsigned w128 l) % 2 ^ 128))
    (kept_bits first (mod-lt (cast_unsigned w128 t * 2 ^ 62) (omega arith)))
    ∙ ap (λ x. cast_signed w128 ((cast_unsigned w128 (cast_signed w128 (x * 2 ^ 62 % 2 ^ 128)) + cast_unsigned w128 l) % 2 ^ 128)) (kept_bits second (mod-lt
    (first + cast_unsigned w128 m) (omega arith)))
    ∙ ap (λ x. cast_signed w128 ((x + cast_unsigned w128 l) % 2 ^ 128)) (kept_bits third (mod-lt (second * 2 ^ 62) (omega arith)))
    )

-- and as it keeps it
pub number_kept : (n t m l : ℤ) → n ≡ group_number t m l → kept w128 n ≡ group_number t m l
number_kept n t m l is =
    let inner = cast_unsigned w128 (int_wrapping_mul w128 (int_wrapping_add w128 (int_wrapping_mul w128 t base) m) base) + cast_unsigned w128 l in
    ap (kept w128) is ∙ ap (cast_signed w128) (kept_bits (inner % 2 ^ 128) (mod-lt inner (omega arith)))

-- a word of 64 bits that is widened, and one that is kept
pub widened : (r w : ℤ) → r ≡ w → FitsSigned w64 w → kept w128 r ≡ w
widened r w is f = ap (kept w128) is ∙ to_z-of_z w128 w (wide w f)

pub word_kept : (w : ℤ) → FitsSigned w64 w → kept w64 w ≡ w
word_kept w f = to_z-of_z w64 w f

pub wide_kept : (n : ℤ) → FitsSigned w128 n → kept w128 n ≡ n
wide_kept n f = to_z-of_z w128 n f
