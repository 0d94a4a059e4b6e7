-- Sums of what messages say, and what begins with what.
use Rattle.std.proofs.Common.{◌≡◌, ◌+◌, ◌<◌, ◌≤◌, List, [], ◌∷◌, ◌++◌, length, refl, sym, ap, ◌∙◌, arith, append_assoc, append-nil, length-append}
use mathlib.Core.List.{IsPrefix}
use Rattle.flow_messages.specs.declared.message.Msg.{Msg}
use Rattle.flow_messages.specs.Signals.{signals}
use Rattle.flow_messages.specs.Flats.{scalar_first}
use Rattle.flow_edges.specs.lanes.Credits.{credit}

pub credit-append : (xs ys : List Msg) → credit (xs ++ ys) ≡ credit xs + credit ys
credit-append [] ys = omega arith
credit-append (m ∷ xs) ys = omega (arith, credit-append xs ys)

-- what begins a list says no more
pub credit-prefix : (xs ys : List Msg) → IsPrefix xs ys → credit xs ≤ credit ys
credit-prefix xs ys p = omega (arith, ap credit p.1, credit-append xs p.0)

pub prefix-refl : {A : Type 0} (xs : List A) → IsPrefix xs xs
prefix-refl xs = ([], append-nil xs)

pub prefix-trans : {A : Type 0} (xs ys zs : List A) → IsPrefix xs ys → IsPrefix ys zs → IsPrefix xs zs
prefix-trans xs ys zs p q = (p.0 ++ q.0, sym (append_assoc xs p.0 q.0) ∙ ap (λ l. l ++ q.0) p.1 ∙ q.1)

-- what begins a part that comes first begins the whole
pub prefix-more : {A : Type 0} (xs ys zs : List A) → IsPrefix xs ys → IsPrefix xs (ys ++ zs)
prefix-more xs ys zs p = (p.0 ++ zs, sym (append_assoc xs p.0 zs) ∙ ap (λ l. l ++ zs) p.1)

-- after the same part, what begins the rest begins the whole
pub prefix-after : {A : Type 0} (xs ys zs : List A) → IsPrefix ys zs → IsPrefix (xs ++ ys) (xs ++ zs)
prefix-after xs ys zs p = (p.0, append_assoc xs ys p.0 ∙ ap (λ l. xs ++ l) p.1)

-- what is held with messages that came, where more may be certain since
pub filled : {A : Type 0} (c d ms h j : List A) → IsPrefix h (ms ++ j) → d ≡ c ++ ms → IsPrefix (c ++ h) (d ++ j)
filled c d ms h j p is =
    let all = prefix-after c h (ms ++ j) p in
    (all.0, all.1 ∙ sym (append_assoc c ms j) ∙ ap (λ l. l ++ j) (sym is))

-- where the first part is the whole, nothing is left
pub no_rest : {A : Type 0} (xs ys zs : List A) → xs ++ ys ≡ zs → xs ≡ zs → ys ≡ []
no_rest xs [] zs all same = refl
no_rest xs (y ∷ ys) zs all same = absurd (omega (arith, ap length all, ap length same, length-append xs (y ∷ ys)))

-- what a pocket holds comes first, if it holds any where some is certain
pub pocket_first : (c k : List Msg) → (0 < length (c ++ k) → 0 < length c) → scalar_first (signals c) ≡ scalar_first (signals (c ++ k))
unfolding signals
pocket_first [] [] some = refl
pocket_first [] (m ∷ k) some = absurd (omega (arith, some (omega arith)))
pocket_first (m ∷ c) k some = refl
