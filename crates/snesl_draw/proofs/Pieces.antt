-- Texts that are made piece by piece.
use Rattle.std.proofs.Common.{◌≡◌, ◌∙◌, ℕ, ◌+◌, ◌-◌, ◌<◌, List, [], ◌∷◌, ◌++◌, Bool, true, ap, append-nil, append_assoc, flat_map, drop, get_or, if◌then◌else◌, length, refl, sym, take}
use Rattle.std.proofs.lemmas.List.{take_more}
use Rattle.snesl_draw.specs.Forms.{closed_len, depth_after, is_closed}

module _ {X : Type 0} (h : X → List ℕ) where
  flat_map-push : (xs : List X) (x : X) → flat_map h (xs ++ x ∷ []) ≡ flat_map h xs ++ h x
  flat_map-push [] x = append-nil (h x)
  flat_map-push (y ∷ xs) x = ap (λ l. h y ++ l) (flat_map-push xs x) ∙ sym (append_assoc (h y) (flat_map h xs) (h x))

  flat_map_more : (xs : List X) (i : ℕ) (d : X) → i < length xs → flat_map h (take (i + 1) xs) ≡ flat_map h (take i xs) ++ h (get_or xs i d)
  flat_map_more xs i d within = ap (flat_map h) (take_more xs i d within) ∙ flat_map-push (take i xs) (get_or xs i d)

  -- after the pieces of the elements before this one stands its own
  pub one_more : (xs : List X) (i : ℕ) (d : X) (old so_far new : List ℕ) → i < length xs
      → so_far ≡ old ++ flat_map h (take i xs) → new ≡ so_far ++ h (get_or xs i d) → new ≡ old ++ flat_map h (take (i + 1) xs)
  one_more xs i d old so_far new within before made =
      made ∙ ap (λ t. t ++ h (get_or xs i d)) before ∙ append_assoc old (flat_map h (take i xs)) (h (get_or xs i d))
      ∙ ap (λ t. old ++ t) (sym (flat_map_more xs i d within))

-- nothing is left of a text whose brackets are closed, and which is long enough
closed_before : (text : List ℕ) (depth left : ℕ) → is_closed depth left ≡ true → closed_len depth left text ≡ 0
closed_before [] depth left e = refl
closed_before (b ∷ text) depth left e = ap (λ (t : Bool). if t then 0 else 1 + closed_len (depth_after depth b) (left - 1) text) e

pub closed_here : (text : List ℕ) (i depth left : ℕ) → is_closed depth left ≡ true → closed_len depth left (drop i text) ≡ 0
closed_here text i depth left e = closed_before (drop i text) depth left e

-- texts one after another
pub three : (o a b c : List ℕ) → ((o ++ a) ++ b) ++ c ≡ o ++ ((a ++ b) ++ c)
three o a b c = simp append_assoc

pub four : (o a b c d : List ℕ) → (((o ++ a) ++ b) ++ c) ++ d ≡ o ++ (((a ++ b) ++ c) ++ d)
four o a b c d = simp append_assoc

pub five : (o a b c d e : List ℕ) → ((((o ++ a) ++ b) ++ c) ++ d) ++ e ≡ o ++ ((((a ++ b) ++ c) ++ d) ++ e)
five o a b c d e = simp append_assoc
