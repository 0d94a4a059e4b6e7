-- What the tokens from an offset on spell is the value that is read there.
use Rattle.std.proofs.Common.{◌≡◌, ℕ, ℤ, pos, negsuc, ◌+◌, ◌≤◌, true, false, List, [], ◌∷◌, ◌++◌, length, Option, Some, None, refl, ap, ◌∙◌, subst, append_assoc, arith}
use Rattle.std.proofs.lemmas.Bool.{cond-true}
use Rattle.std.proofs.lemmas.Bool.Decides.{nat_tests}
use Rattle.snesl_data.specs.declared.dialect.Dialect.{Dialect}
use Rattle.snesl_data.specs.declared.dialect.Dialect.TheVariants.{One, Two}
use Rattle.snesl_data.specs.Integers.{IsInteger, is_integer}
use Rattle.snesl_data.specs.Types.{Ty, int, bool, pair, vec, seq}
use Rattle.snesl_data.specs.Values.{Value, Values, an_int, a_bool, a_pair, a_vec, a_seq, no_values, more_values, list_of, values_of, HasType, AllHaveType}
use Rattle.snesl_values.specs.InputTokens.{Token, next_at, HasTokens}
use Rattle.snesl_values.specs.Inputs.{value_tokens, items_tokens, further_tokens, right_bracket, right_brace}
use Rattle.snesl_values.specs.declared.marks.Bracket.{Bracket}
use Rattle.snesl_values.specs.declared.marks.Bracket.TheVariants.{Square, Curly}
use Rattle.snesl_values.specs.declared.marks.Mark.TheVariants.{Close}
use Rattle.snesl_values.specs.Marks.{mark_of, Spot, spots}
use Rattle.snesl_values.specs.Places.{OpenPart, in_items, in_first, in_second, Reading, bracket_value, after_token, on_none, spelled, value_at}
use Rattle.snesl_values.proofs.Spots.{unread}
use Rattle.snesl_values.proofs.Readings.{reads-split, Read, read, ends_inside}

-- an integer of either dialect is one of the wider
pub wide : (dialect : Dialect) (n : ℤ) → IsInteger dialect n → is_integer Two n ≡ true
wide One n h = by_sign n h
  where
    by_sign : (n : ℤ) → IsInteger One n → is_integer Two n ≡ true
    by_sign (pos k) h = grind (arith, nat_tests)
    by_sign (negsuc k) h = grind (arith, nat_tests)
wide Two n h = h

-- from a position on
abbrev spells : List ℕ → ℕ → Reading → Value
spells text at r = spelled r.0 r.1 (spots text at)

then_read : {text : List ℕ} {from end : ℕ} {t : Token} {ts : List Token} (frames : List OpenPart) (value : Option Value) (r : Reading)
    (w : Read text from t ts end) → after_token value frames (mark_of t) ≡ r
    → spells text from (frames, value) ≡ spells text (next_at text from + w.len) r
then_read {text = text} {from = from} frames value r w e = ap (spelled frames value) w.spot ∙ ap (λ (r : Reading). spelled r.0 r.1 (spots text (next_at text from + w.len))) e

values_again : (vs : Values) → values_of (list_of vs) ≡ vs
values_again no_values = refl
values_again (more_values v vs) = ap (more_values v) (values_again vs)

mutual
  value_read : {text : List ℕ} (dialect : Dialect) (v : Value) (t : Ty) → HasType dialect v t → (frames : List OpenPart) {from end : ℕ} → from ≤ length text → HasTokens text from (value_tokens v) end
      → spells text from (frames, None) ≡ spells text end (frames, Some v)
  value_read {text = text} dialect (an_int n) int typed frames inside r =
      let w = read inside r in
      then_read frames None (frames, Some (an_int n)) w (ap (on_none frames) (cond-true _ _ _ (wide dialect n typed)))
      ∙ ap (λ at. spells text at (frames, Some (an_int n))) (unread w.rest)
  value_read {text = text} dialect (a_bool true) bool typed frames inside r =
      let w = read inside r in then_read frames None (frames, Some (a_bool true)) w refl ∙ ap (λ at. spells text at (frames, Some (a_bool true))) (unread w.rest)
  value_read {text = text} dialect (a_bool false) bool typed frames inside r =
      let w = read inside r in then_read frames None (frames, Some (a_bool false)) w refl ∙ ap (λ at. spells text at (frames, Some (a_bool false))) (unread w.rest)
  value_read {text = text} dialect (a_pair a b) (pair t u) typed frames inside r =
      let opening = read inside r in
      let first = reads-split (value_tokens a) _ opening.rest in
      let parting = read (ends_inside (value_tokens a) opening.inside first.1) first.2 in
      let second = reads-split (value_tokens b) _ parting.rest in
      let closing = read (ends_inside (value_tokens b) parting.inside second.1) second.2 in
      then_read frames None (in_first ∷ frames, None) opening refl
      ∙ value_read dialect a t typed.0 (in_first ∷ frames) opening.inside first.1
      ∙ then_read (in_first ∷ frames) (Some a) (in_second a ∷ frames, None) parting refl
      ∙ value_read dialect b u typed.1 (in_second a ∷ frames) parting.inside second.1
      ∙ then_read (in_second a ∷ frames) (Some b) (frames, Some (a_pair a b)) closing refl
      ∙ ap (λ at. spells text at (frames, Some (a_pair a b))) (unread closing.rest)
  value_read {text = text} dialect (a_vec vs) (vec t) typed frames {end = end} inside r =
      let opening = read inside r in
      then_read frames None (in_items Square [] ∷ frames, None) opening refl
      ∙ items_read dialect Square right_bracket refl vs t typed frames opening.inside opening.rest
      ∙ ap (λ all. spells text end (frames, Some (a_vec all))) (values_again vs)
  value_read {text = text} dialect (a_seq vs) (seq t) typed frames {end = end} inside r =
      let opening = read inside r in
      then_read frames None (in_items Curly [] ∷ frames, None) opening refl
      ∙ items_read dialect Curly right_brace refl vs t typed frames opening.inside opening.rest
      ∙ ap (λ all. spells text end (frames, Some (a_seq all))) (values_again vs)
  value_read dialect v t typed frames inside r = absurd typed

  items_read : {text : List ℕ} (dialect : Dialect) (b : Bracket) (closer : Token) → mark_of closer ≡ Close b → (vs : Values) (t : Ty) →
      AllHaveType dialect vs t → (frames : List OpenPart) {from end : ℕ} → from ≤ length text → HasTokens text from (items_tokens vs ++ closer ∷ []) end
      → spells text from (in_items b [] ∷ frames, None) ≡ spells text end (frames, Some (bracket_value b (list_of vs)))
  items_read {text = text} dialect b closer e no_values t typed frames inside r =
      let w = read inside r in
      then_read (in_items b [] ∷ frames) None (frames, Some (bracket_value b [])) w (ap (on_none (in_items b [] ∷ frames)) e)
      ∙ ap (λ at. spells text at (frames, Some (bracket_value b []))) (unread w.rest)
  items_read {text = text} dialect b closer e (more_values v vs) t typed frames {from = from} {end = end} inside r =
      let first = reads-split (value_tokens v) (further_tokens vs ++ closer ∷ []) (subst (λ ts. HasTokens text from ts end) (append_assoc (value_tokens v) (further_tokens vs) (closer ∷ [])) r) in
      value_read dialect v t typed.0 (in_items b [] ∷ frames) inside first.1
      ∙ further_read dialect b closer e vs t typed.1 [] v frames (ends_inside (value_tokens v) inside first.1) first.2

  further_read : {text : List ℕ} (dialect : Dialect) (b : Bracket) (closer : Token) → mark_of closer ≡ Close b → (vs : Values) (t : Ty) →
      AllHaveType dialect vs t → (before : List Value) (last : Value) (frames : List OpenPart) {from end : ℕ} → from ≤ length text
      → HasTokens text from (further_tokens vs ++ closer ∷ []) end → spells text from (in_items b before ∷ frames, Some last)
      ≡ spells text end (frames, Some (bracket_value b (before ++ last ∷ list_of vs)))
  further_read {text = text} dialect b closer e no_values t typed before last frames inside r =
      let w = read inside r in
      then_read (in_items b before ∷ frames) (Some last) (frames, Some (bracket_value b (before ++ last ∷ []))) w (ap (after_token (Some last) (in_items b before ∷ frames)) e)
      ∙ ap (λ at. spells text at (frames, Some (bracket_value b (before ++ last ∷ [])))) (unread w.rest)
  further_read {text = text} dialect b closer e (more_values v vs) t typed before last frames {from = from} {end = end} inside r =
      let parting = read inside r in
      let first = reads-split (value_tokens v) (further_tokens vs ++ closer ∷ [])
      (subst (λ ts. HasTokens text (next_at text from + parting.len) ts end) (append_assoc (value_tokens v) (further_tokens vs) (closer ∷ []))
      parting.rest) in
      then_read (in_items b before ∷ frames) (Some last) (in_items b (before ++ last ∷ []) ∷ frames, None) parting refl
      ∙ value_read dialect v t typed.0 (in_items b (before ++ last ∷ []) ∷ frames) parting.inside first.1
      ∙ further_read dialect b closer e vs t typed.1 (before ++ last ∷ []) v frames (ends_inside (value_tokens v) parting.inside first.1) first.2
      ∙ ap (λ all. spells text end (frames, Some (bracket_value b all))) (append_assoc before (last ∷ []) (v ∷ list_of vs))

read_on : (v : Value) (rest : List Spot) → spelled [] (Some v) rest ≡ v
read_on v [] = refl
read_on v (x ∷ rest) = read_on v rest

pub value_at-tells : (dialect : Dialect) (text : List ℕ) (t : Ty) (from end : ℕ) (v : Value) → HasType dialect v t → from ≤ length text →
    HasTokens text from (value_tokens v) end → value_at text from ≡ v
unfolding value_at
value_at-tells dialect text t from end v typed inside r = value_read dialect v t typed [] inside r ∙ read_on v (spots text end)
