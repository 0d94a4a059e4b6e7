-- A function with another value at one number, and beginnings of lists.
use Rattle.std.proofs.Common.{◌≡◌, ℕ, List, [], ◌∷◌, ◌++◌, refl, sym, ◌∙◌, ap, eq-eqb, ne_eqb, ⊎_elim, append_assoc, append-nil}
use Rattle.std.proofs.lemmas.Bool.{cases_eq}
use Rattle.std.proofs.lemmas.List.{append_cancel_left}
use Rattle.kahn.specs.Basics.{updated, Begins}

module _ {X : Type 0} (f : ℕ → X) where
  pub updated_same : (i : ℕ) (x : X) → updated f i x i ≡ x
  updated_same i x = rw (eq-eqb i i refl)

  pub updated_at : (i j : ℕ) (x : X) → j ≡ i → updated f i x j ≡ x
  updated_at i j x e = rw (eq-eqb j i e)

  pub updated_other : (i j : ℕ) (x : X) → (j ≡ i → ⊥) → updated f i x j ≡ f j
  updated_other i j x ne = rw (ne_eqb j i ne)

  pub updated_comm : (i j : ℕ) (x y : X) → (i ≡ j → ⊥) → updated (updated f i x) j y ≡ updated (updated f j y) i x
  updated_comm i j x y ne = λ t k. each k t
    where
      each : (k : ℕ) → updated (updated f i x) j y k ≡ updated (updated f j y) i x k
      each k =
          ⊎_elim (λ e. let a : k ≡ j → ⊥ = λ h. ne (sym e ∙ h) in rw (eq-eqb k i e, ne_eqb k j a))
          (λ a. rw (ne_eqb k i a))
          (cases_eq k i)

  -- changes at two numbers, each of what stands there, in either order
  pub updated_swap : (i j : ℕ) (g h : X → X) → (i ≡ j → ⊥) → updated (updated f i (g (f i))) j (h (updated f i (g (f i)) j)) ≡ updated (updated f j (h (f j))) i (g (updated f j (h (f j)) i))
  updated_swap i j g h ne =
      ap (λ y. updated (updated f i (g (f i))) j (h y)) (updated_other i j (g (f i)) (λ e. ne (sym e)))
      ∙ updated_comm i j (g (f i)) (h (f j)) ne
      ∙ sym (ap (λ y. updated (updated f j (h (f j))) i (g y)) (updated_other j i (h (f j)) ne))

-- two messages that may come next are one
pub begins_one : {X : Type 0} (xs : List X) (x y : X) (zs : List X) → Begins (xs ++ x ∷ []) zs → Begins (xs ++ y ∷ []) zs → x ≡ y
begins_one xs x y zs b c =
    let e : xs ++ x ∷ b.0 ≡ xs ++ y ∷ c.0 = sym (append_assoc xs (x ∷ []) b.0) ∙ b.1 ∙ sym c.1 ∙ append_assoc xs (y ∷ []) c.0 in
    let h : x ∷ b.0 ≡ y ∷ c.0 = append_cancel_left xs (x ∷ b.0) (y ∷ c.0) e in
    cc

pub begins_more : {X : Type 0} (xs zs more : List X) → Begins xs zs → Begins xs (zs ++ more)
begins_more xs zs more b = (b.0 ++ more, sym (append_assoc xs b.0 more) ∙ ap (λ l. l ++ more) b.1)

pub begins_refl : {X : Type 0} (xs : List X) → Begins xs xs
begins_refl xs = ([], append-nil xs)

pub begins_trans : {X : Type 0} (xs ys zs : List X) → Begins xs ys → Begins ys zs → Begins xs zs
begins_trans xs ys zs b c = (b.0 ++ c.0, sym (append_assoc xs b.0 c.0) ∙ ap (λ l. l ++ c.0) b.1 ∙ c.1)
