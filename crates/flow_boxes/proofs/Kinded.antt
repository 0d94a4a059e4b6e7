-- The kinds of the boxes of a share: of a box that is there, and of one box more.
use Rattle.std.proofs.Common.{◌≡◌, ℕ, ◌<◌, List, length, get_or, set, sym, ap, ◌∙◌, arith, ◌⊎◌, inl, inr}
use Rattle.std.proofs.lemmas.Bool.{cases_eq}
use Rattle.std.proofs.lemmas.Option.{slice_get-get_or}
use Rattle.std.specs.Prelude.{slice_get, Option, Some}
use Rattle.flow_messages.specs.declared.message.Kind.{Kind}
use Rattle.flow_messages.specs.Tables.{at_line}
use Rattle.flow_messages.proofs.Tables.{at_line-here, at_line-same, at_line-other}
use Rattle.flow_boxes.specs.Kinds.{kind_or, AreOfKinds}

module _ {B : Type 0} (of : B → Kind) (kinds : List Kind) (boxes : List (Option B)) (e : ℕ) (all : AreOfKinds of kinds boxes) where
  -- a box that is there is of the kind at its number
  pub kind-at : (old : Option B) (b : B) → e < length boxes → length kinds ≡ length boxes → old ≡ get_or boxes e old → old ≡ Some b → slice_get kinds e ≡ Some (of b)
  kind-at old b h same at was =
      let k = get_or kinds e (of b) in
      let is : slice_get kinds e ≡ Some k = slice_get-get_or kinds e (of b) (omega (arith, h, same)) in
      is ∙ ap (λ (j : Kind). Some j) (sym (all e k is) ∙ at_line-here (kind_or of k) boxes e k old h at ∙ ap (kind_or of k) was)

  -- each box is of the kind at its number still, where a new one is
  pub kinds-with : (new : B) → e < length boxes → slice_get kinds e ≡ Some (of new) → AreOfKinds of kinds (set boxes e (Some new))
  kinds-with new h here j k is = by_cases (cases_eq j e) where
    by_cases : (j ≡ e) ⊎ (j ≡ e → ⊥) → at_line (kind_or of k) (set boxes e (Some new)) j k ≡ k
    by_cases (inl at) =
        let both : Some (of new) ≡ Some k = sym here ∙ ap (slice_get kinds) (sym at) ∙ is in
        let same : of new ≡ k = cc in
        ap (λ (i : ℕ). at_line (kind_or of k) (set boxes e (Some new)) i k) at ∙ at_line-same (kind_or of k) boxes e k (Some new) h ∙ same
    by_cases (inr ne) = at_line-other (kind_or of k) boxes e k (Some new) j ne ∙ all j k is

  -- and where one changed and is of its kind still
  pub kinds-kept : (old : Option B) (b new : B) → e < length boxes → length kinds ≡ length boxes → old ≡ get_or boxes e old → old ≡ Some b → of new ≡ of b
      → AreOfKinds of kinds (set boxes e (Some new))
  kinds-kept old b new h same at was kept = kinds-with new h (kind-at old b h same at was ∙ ap (λ (j : Kind). Some j) (sym kept))
