-- The shares so far, and one more.
use Rattle.std.proofs.Common.{◌≡◌, ◌<◌, List, [], ◌∷◌, ◌++◌, length, map, get_or, refl, sym, ap, ◌∙◌, subst, arith, append_assoc}
use Rattle.std.proofs.lemmas.List.{get_or_push, get_or_append_left, length_push, map-append}
use Rattle.flow_messages.specs.declared.ends.Ends.{Ghosts as EndsGhosts}
use Rattle.flow_messages.proofs.Tables.{all-snoc}
use Rattle.flow_base.specs.declared.transducer.Transducer.{Ghosts}
use Rattle.flow_boxes.proofs.Changed.{everywhere}
use Rattle.flow_shares.specs.declared.share.Share.{Share}
use Rattle.flow_shares.specs.meetings.Deals.{IsNew, AreNew}

-- what f reads of the elements so far, with what is left, is all
pub one_more : {A C : Type 0} (f : A → C) (made later : List A) (x : A) (left less : List C) (z : C) (all : List C) → later ≡ made ++ x ∷ [] → left
    ≡ z ∷ less → f x ≡ z → map f made ++ left ≡ all → map f later ++ less ≡ all
one_more f made later x left less z all is split same was =
    ap (λ l. map f l ++ less) is ∙ ap (λ l. l ++ less) (map-append f made (x ∷ [])) ∙ append_assoc (map f made) (f x ∷ []) less
    ∙ ap (λ y. map f made ++ y ∷ less) same ∙ ap (λ l. map f made ++ l) (sym split) ∙ was

module _ {X Y : Type 0} {t : Ghosts X} {u : EndsGhosts Y} where
  pub new_more : (shares later : List (Share X Y t u)) (share : Share X Y t u) → later ≡ shares ++ share ∷ [] → share.number ≡ length shares → IsNew share → AreNew shares → AreNew later
  new_more shares later share is number new were = subst (λ l. AreNew l) (sym is) (record {
    numbers = λ s d l.
        everywhere (λ s. s < length (shares ++ share ∷ []) → (get_or (shares ++ share ∷ []) s d).number ≡ s) (length shares)
        (λ h. ap (λ (x : Share X Y t u). x.number) (get_or_push shares share d (length shares) refl) ∙ number)
        (λ k ne h. (
        let low : k < length shares = omega (arith, h, ne, length_push shares share) in
        ap (λ (x : Share X Y t u). x.number) (get_or_append_left shares (share ∷ []) d k low) ∙ were.numbers k d low
        ))
        s l;
    each = all-snoc IsNew shares share were.each new;
  })
