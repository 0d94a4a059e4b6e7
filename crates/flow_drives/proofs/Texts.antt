-- The text of the last node that prints, one node after another.
use Rattle.std.proofs.Common.{◌≡◌, ℕ, ◌<◌, ◌+◌, List, [], ◌∷◌, ◌++◌, length, take, get_or, Option, Some, None, refl, ◌∙◌, ap, add-one}
use Rattle.std.proofs.lemmas.List.{append-nil}
use Rattle.std.proofs.lemmas.List.Elements.{filter_map-append}
use Rattle.std.proofs.Math.Seq.{take-suc}
use Rattle.std.specs.Option.{unwrap_or}
use Rattle.std.specs.List.{filter_map, last_or, cons_option}
use Rattle.flow_drives.specs.Texts.{last_text}

last_of : {A : Type 0} (o : Option A) (xs : List A) (y : A) → last_or o (xs ++ y ∷ []) ≡ Some y
last_of o [] y = refl
last_of o (x ∷ xs) y = last_of (Some x) xs y

with_last : (texts : List (List ℕ)) (y : Option (List ℕ)) → unwrap_or (last_or None (texts ++ cons_option y [])) [] ≡ unwrap_or y (unwrap_or (last_or None texts) [])
with_last texts (Some y) = ap (λ o. unwrap_or o []) (last_of None texts y)
with_last texts None = ap (λ l. unwrap_or (last_or None l) []) (append-nil texts)

-- the text of the next state, or else that of those before it
pub next_text : {S : Type 0} (text_in : S → Option (List ℕ)) (states : List S) (k : ℕ) (s : S) → k < length states →
    last_text text_in (take (k + 1) states) ≡ unwrap_or (text_in (get_or states k s)) (last_text text_in (take k states))
next_text text_in states k s inside =
    let longer : take (k + 1) states ≡ take k states ++ get_or states k s ∷ [] = ap (λ n. take n states) (add-one k) ∙ take-suc states k s inside in
    ap (λ l. last_text text_in l) longer
    ∙ ap (λ l. unwrap_or (last_or None l) []) (filter_map-append text_in (take k states) (get_or states k s ∷ []))
    ∙ with_last (filter_map text_in (take k states)) (text_in (get_or states k s))
