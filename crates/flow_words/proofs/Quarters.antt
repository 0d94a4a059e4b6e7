-- Places of messages, of four words each.
use Rattle.std.proofs.Common.{◌≡◌, ℕ, zero, suc, ◌+◌, ◌*◌, ◌/◌, ◌%◌, ◌<◌, ◌≤◌, arith}
use native.Mathlib.Nat.{div-add-mod', mod-lt}

rest : (a : ℕ) → a % 4 < 4
rest a = mod-lt a (omega arith)

pub quarter_grows : (a b : ℕ) → a ≤ b → a / 4 ≤ b / 4
quarter_grows a b more = omega (arith, more, div-add-mod' a 4, div-add-mod' b 4, rest a, rest b)

-- four words fewer are one message fewer
pub quarter_less : (a b : ℕ) → a ≤ b + 4 → a / 4 ≤ b / 4 + 1
quarter_less a b more = omega (arith, more, div-add-mod' a 4, div-add-mod' b 4, rest a, rest b)

-- n words fewer are no more than n messages fewer
pub quarter_fewer : (a b n : ℕ) → a ≤ b + n → a / 4 ≤ b / 4 + n
quarter_fewer a b n more = omega (arith, more, div-add-mod' a 4, div-add-mod' b 4, rest a, rest b)

pub quarter_none : (a : ℕ) → a < 4 → a / 4 ≡ 0
quarter_none a low = omega (arith, low, div-add-mod' a 4)

pub quarter_some : (a : ℕ) → 0 < a / 4 → 4 ≤ a
quarter_some a some = omega (arith, some, div-add-mod' a 4)

pub quarter_within : (n a : ℕ) → n ≤ a / 4 → n ≤ a
quarter_within n a low = omega (arith, low, div-add-mod' a 4)

pub quarter_of_four : (n : ℕ) → n * 4 / 4 ≡ n
quarter_of_four n = omega (arith, div-add-mod' (n * 4) 4, rest (n * 4))

-- what is none is no more than any
pub none_less : (a b : ℕ) → (0 < a → ⊥) → a ≤ b
none_less zero b never = omega arith
none_less (suc a) b never = absurd (never (omega arith))
