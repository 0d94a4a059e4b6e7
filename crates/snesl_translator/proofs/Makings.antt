-- Makings one after another, in other groups.
use Rattle.std.proofs.Common.{◌≡◌, ℕ, [], ◌++◌, ap, ◌∙◌, append_assoc, append-nil}
use Rattle.snesl_translation.specs.Makings.{Making, done, and_then}

pub in_turn : {A B C : Type 0} (first : Making A) (second : A → ℕ → Making B) (rest : B → ℕ → Making C)
    → and_then (and_then first second) rest ≡ and_then first (λ x k. and_then (second x k) rest)
unfolding and_then
in_turn first second rest =
    let middle = second first.given first.next in
    let last = rest middle.given middle.next in
    ap (λ steps. record { steps = steps; given = last.given; next = last.next }) (append_assoc first.steps middle.steps last.steps)

-- nothing after a making changes it
pub then_nothing : {A : Type 0} (first : Making A) → and_then first (λ x k. done x k) ≡ first
unfolding and_then
then_nothing first = ap (λ steps. record { steps = steps; given = first.given; next = first.next }) (append-nil first.steps)

-- after one that gives something of what it made
pub one_in_turn : {A D E : Type 0} (a : Making A) (g : A → D) (rest : D → ℕ → Making E)
    → and_then (and_then a (λ x k. done (g x) k)) rest ≡ and_then a (λ x k. rest (g x) k)
unfolding and_then
one_in_turn a g rest =
    let last = rest (g a.given) a.next in
    ap (λ steps. record { steps = steps; given = last.given; next = last.next }) (append_assoc a.steps [] last.steps)

-- after three makings that give one thing
pub three_in_turn : {A B C D E : Type 0} (a : Making A) (b : A → ℕ → Making B) (c : A → B → ℕ → Making C) (g : A → B → C → D) (rest : D → ℕ → Making E)
    → and_then (and_then a (λ x k. and_then (b x k) (λ y k. and_then (c x y k) (λ z k. done (g x y z) k)))) rest
    ≡ and_then a (λ x k. and_then (b x k) (λ y k. and_then (c x y k) (λ z k. rest (g x y z) k)))
unfolding and_then
three_in_turn a b c g rest =
    let second = b a.given a.next in
    let third = c a.given second.given second.next in
    let last = rest (g a.given second.given third.given) third.next in
    ap (λ steps. record { steps = steps; given = last.given; next = last.next })
    (append_assoc a.steps (second.steps ++ (third.steps ++ [])) last.steps
    ∙ ap (λ l. a.steps ++ l) (append_assoc second.steps (third.steps ++ []) last.steps ∙ ap (λ l. second.steps ++ l) (append_assoc third.steps [] last.steps)))
