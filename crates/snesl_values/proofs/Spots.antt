-- The tokens of a text, one after another.
use Rattle.std.proofs.Common.{◌≡◌, ℕ, zero, suc, ◌+◌, ◌-◌, ◌<◌, ◌≤◌, List, [], ◌∷◌, length, drop, Option, Some, None, option_map, refl, sym, ap, ◌∙◌, subst, arith}
use Rattle.snesl_values.specs.InputTokens.{Token, SizedToken, first, next_lexeme, next_at, HasTokens, none, more}
use Rattle.snesl_values.proofs.InputScan.{Coming, nothing_comes, comes, coming, no_next}
use Rattle.snesl_values.specs.declared.marks.Found.{Found}
use Rattle.snesl_values.specs.declared.marks.Mark.{Mark}
use Rattle.snesl_values.specs.Marks.{mark_of, spots_by, spots_in, spots, found_from}
use Rattle.snesl_values.proofs.First.{seen}

-- the next lexeme, and that it ends after its beginning, within the text
pub record Comes (text : List ℕ) (at : ℕ) (lexeme : SizedToken) : Type 0 where
  pub moves : at < next_at text at + lexeme.1
  pub within : next_at text at + lexeme.1 ≤ length text

no_lexeme : (o : Option SizedToken) → option_map (λ (l : SizedToken). l.0) o ≡ None → o ≡ None
no_lexeme None e = refl
no_lexeme (Some l) e = absurd (let f : Some l.0 ≡ None = e in cc)

-- what the text has next
pub data Next (text : List ℕ) (at : ℕ) : Option SizedToken → Type 0 where
  nothing : Next text at None
  lexeme : (l : SizedToken) → Comes text at l → Next text at (Some l)

-- the first of tokens that were read, and those after it
pub uncons : {text : List ℕ} {from end : ℕ} {t : Token} {ts : List Token} → HasTokens text from (t ∷ ts) end → (len : ℕ)
    × (next_lexeme text from ≡ Some (t, len)) × HasTokens text (next_at text from + len) ts end
uncons (more t len e h) = (len, e, h)

pub unread : {text : List ℕ} {from end : ℕ} → HasTokens text from [] end → from ≡ end
unread none = refl

pub next_is : (text : List ℕ) (at : ℕ) → at ≤ length text → Next text at (next_lexeme text at)
next_is text at within = by_coming (coming text at within)
  where
    by_coming : Coming text at → Next text at (next_lexeme text at)
    by_coming (nothing_comes e) = subst (Next text at) (sym (no_lexeme (next_lexeme text at) e)) nothing
    by_coming (comes t end takes) =
        let w = uncons takes.reads in
        let e = unread w.2 in
        subst (Next text at) (sym w.1) (lexeme (t, w.0) (record { moves = omega (arith, takes.moves, e); within = omega (arith, takes.within, e) }))

at_end : (n : ℕ) (text : List ℕ) (at : ℕ) → at ≤ length text → length text ≤ at → spots_in n text at ≡ []
at_end zero text at within over = refl
at_end (suc n) text at within over = by_next (next_lexeme text at) (next_is text at within)
  where
    by_next : (o : Option SizedToken) → Next text at o → spots_by (spots_in n text) text at o ≡ []
    by_next None nothing = refl
    by_next (Some l) (lexeme _ there) = absurd (omega (arith, there.moves, there.within))

-- where so many tokens are all
enough : (m n : ℕ) (text : List ℕ) (at : ℕ) → at ≤ length text → length text - at ≤ m → length text - at ≤ n → spots_in m text at ≡ spots_in n text at
enough zero n text at within h k = sym (at_end n text at within (omega arith))
enough (suc m) zero text at within h k = at_end (suc m) text at within (omega arith)
enough (suc m) (suc n) text at within h k = by_next (next_lexeme text at) (next_is text at within) (λ at' within' h' k'. enough m n text at' within' h' k')
  where
    by_next : (o : Option SizedToken) → Next text at o → ((at' : ℕ) → at' ≤ length text → length text - at' ≤ m → length text - at' ≤ n → spots_in m text at' ≡ spots_in n text at')
        → spots_by (spots_in m text) text at o ≡ spots_by (spots_in n text) text at o
    by_next None nothing same = refl
    by_next (Some l) (lexeme _ there) same =
        ap (λ rest. (mark_of l.0, at) ∷ rest) (same (next_at text at + l.1) there.within (omega (arith, there.moves)) (omega (arith, there.moves)))

-- where no token comes next
pub spots_none : (text : List ℕ) (at : ℕ) → next_lexeme text at ≡ None → spots text at ≡ []
unfolding spots
spots_none text at e = by_fuel (length text - at)
  where
    by_fuel : (n : ℕ) → spots_in n text at ≡ []
    by_fuel zero = refl
    by_fuel (suc n) = ap (spots_by (spots_in n text) text at) e

-- where one does
pub spots_some : (text : List ℕ) (at : ℕ) (l : SizedToken) → at ≤ length text → next_lexeme text at ≡ Some l → spots text at ≡ (mark_of l.0, at) ∷ spots text (next_at text at + l.1)
unfolding spots
spots_some text at l within e = by_next (next_lexeme text at) (next_is text at within) e
  where
    by_next : (o : Option SizedToken) → Next text at o → o ≡ Some l → spots_in (length text - at) text at ≡ (mark_of l.0, at)
        ∷ spots_in (length text - (next_at text at + l.1)) text (next_at text at + l.1)
    by_next None nothing f = absurd (cc)
    by_next (Some x) (lexeme _ there) f =
        let same : x ≡ l = cc in
        let c : Comes text at l = subst (Comes text at) same there in
        let end : ℕ = next_at text at + l.1 in
        let m : ℕ = length text - at - 1 in
        let fuel : length text - at ≡ suc m = omega (arith, c.moves, c.within) in
        ap (λ n. spots_in n text at) fuel
        ∙ ap (spots_by (spots_in m text) text at) e
        ∙ ap (λ rest. (mark_of l.0, at) ∷ rest) (enough m (length text - end) text end c.within (omega (arith, c.moves)) (omega arith))

-- what is found
pub found_none : (text : List ℕ) (at start : ℕ) → start ≡ next_at text at → length text ≤ start → None ≡ found_from (next_at text at) (next_lexeme text at)
found_none text at start e over = sym (ap (found_from (next_at text at)) (no_lexeme (next_lexeme text at) (no_next text at start e over)))

pub found_some : (text : List ℕ) (at start : ℕ) (pair : Mark × ℕ) → start ≡ next_at text at → Some pair ≡ option_map seen (first (drop start text))
    → Some (record { mark = pair.0; end = start + pair.1 }) ≡ found_from (next_at text at) (next_lexeme text at)
unfolding next_lexeme
found_some text at start pair e f =
    by_first (first (drop start text)) f ∙ ap (λ n. found_from n (first (drop n text))) e
  where
    by_first : (o : Option SizedToken) → Some pair ≡ option_map seen o → Some (record { mark = pair.0; end = start + pair.1 }) ≡ found_from start o
    by_first None f = absurd (cc)
    by_first (Some l) f =
        let same : pair ≡ seen l = cc in
        ap (λ (p : Mark × ℕ). let found : Found = record { mark = p.0; end = start + p.1 } in Some found) same
