-- What is taken one by one is what was certain.
use Rattle.std.proofs.Common.{◌≡◌, ℕ, zero, suc, ◌+◌, ◌<◌, ◌≤◌, List, [], ◌∷◌, ◌++◌, length, take, drop, get_or, sym, ap, ◌∙◌, subst, arith, add-one, append_assoc, length-append, append-nil}
use Rattle.std.proofs.lemmas.List.{length-take-le, take-append-drop, take-append-le}
use Rattle.std.specs.Prelude.{Option, Some, None, IfSome, IsSome}
use mathlib.Core.List.{IsPrefix}
use Rattle.flow_messages.specs.declared.message.Msg.{Msg}
use Rattle.flow_edges.proofs.OfLanes.Lists.{prefix-trans}

-- fewer were taken than were certain, so one is certain still
one_left : (hs held : List Msg) (i : ℕ) → i < length hs → IsPrefix hs (take i hs ++ held) → 0 < length held
one_left hs held i low ahead = omega (arith, low, ap length ahead.1, length-append hs ahead.0, length-append (take i hs) held, length-take-le i hs)

-- the next one that is taken is the next of them
next_one : (hs held later : List Msg) (i : ℕ) (m : Msg) → i < length hs → IsPrefix hs (take i hs ++ held) → IsPrefix held (m ∷ later)
    → (take (suc i) hs ≡ take i hs ++ m ∷ []) × IsPrefix hs (take (suc i) hs ++ later)
next_one [] held later i m low p q = absurd (omega (arith, low))
next_one (h ∷ hs) held later zero m low p q =
    let all = prefix-trans (h ∷ hs) held (m ∷ later) p q in
    let first : h ≡ m = ap (λ l. get_or l 0 m) all.1 in
    (ap (λ x. x ∷ []) first, (all.0, ap (λ l. h ∷ l) (ap (drop 1) all.1)))
next_one (h ∷ hs) held later (suc i) m low p q =
    let rest = next_one hs held later i m (omega (arith, low)) (p.0, ap (drop 1) p.1) q in
    (ap (λ l. h ∷ l) rest.0, (rest.1.0, ap (λ l. h ∷ l) rest.1.1))

-- what was received before, by a, and by b, and what was certain to come then
pub drained : (old by_a by_b hs held later : List Msg) (i : ℕ) (r : Option Msg) → i < length hs
    → by_a ≡ old ++ take i hs → IsPrefix hs (take i hs ++ held)
    → IfSome r (λ m. (by_b ≡ by_a ++ m ∷ []) × IsPrefix held (m ∷ later)) → (0 < length held → IsSome r)
    → (by_b ≡ old ++ take (i + 1) hs) × IsPrefix hs (take (i + 1) hs ++ later)
drained old by_a by_b hs held later i None low taken ahead some succeeds = absurd (let no = succeeds (one_left hs held i low ahead) in cc)
drained old by_a by_b hs held later i (Some m) low taken ahead some succeeds =
    let next = next_one hs held later i m low ahead some.1 in
    let up : suc i ≡ i + 1 = sym (add-one i) in (
      some.0 ∙ ap (λ l. l ++ m ∷ []) taken ∙ append_assoc old (take i hs) (m ∷ []) ∙ ap (λ l. old ++ l) (sym next.0) ∙ ap (λ n. old ++ take n hs) up,
      subst (λ n. IsPrefix hs (take n hs ++ later)) up next.1,
    )

-- so many of what comes first were taken, and the rest comes still
pub skipped : (n : ℕ) (first rest hs now : List Msg) → n ≤ length first → hs ≡ first ++ rest → now ≡ drop n first ++ rest → (take n first ≡ take n hs) × IsPrefix hs (take n hs ++ now)
skipped n first rest hs now low is now_is =
    let same : take n hs ≡ take n first = ap (take n) is ∙ take-append-le n first rest low in (
      sym same,
      (
        [],
        append-nil hs ∙ is ∙ ap (λ l. l ++ rest) (sym (take-append-drop n first)) ∙ append_assoc (take n first) (drop n first) rest
            ∙ ap (λ l. take n first ++ l) (sym now_is) ∙ ap (λ l. l ++ now) (sym same),
      ),
    )
