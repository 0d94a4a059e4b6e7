-- Reading a text token by token.
use Rattle.std.proofs.Common.{◌≡◌, ℕ, ◌+◌, ◌≤◌, List, [], ◌∷◌, ◌++◌, length, Option, Some, None, arith}
use Rattle.snesl_values.specs.InputTokens.{Token, next_at, next_lexeme, HasTokens, none, more}
use Rattle.snesl_values.specs.Marks.{mark_of, spots}
use Rattle.snesl_values.proofs.Spots.{spots_some, uncons, unread, Next, nothing, lexeme, next_is}

-- reading, cut in two
pub reads-split : {text : List ℕ} (ts us : List Token) {from end : ℕ} → HasTokens text from (ts ++ us) end → (middle : ℕ) × HasTokens text from ts middle × HasTokens text middle us end
reads-split [] us {from = from} r = (from, none, r)
reads-split (t ∷ ts) us r = let w = uncons r in let v = reads-split ts us w.2 in (v.0, more t w.0 w.1 v.1, v.2)

-- the first token was read, and the others are to be
pub record Read (text : List ℕ) (from : ℕ) (t : Token) (ts : List Token) (end : ℕ) : Type 0 where
  pub len : ℕ
  pub next : next_lexeme text from ≡ Some (t, len)
  pub inside : next_at text from + len ≤ length text
  pub rest : HasTokens text (next_at text from + len) ts end
  pub spot : spots text from ≡ (mark_of t, from) ∷ spots text (next_at text from + len)

pub read : {text : List ℕ} {from end : ℕ} {t : Token} {ts : List Token} → from ≤ length text → HasTokens text from (t ∷ ts) end → Read text from t ts end
read {text = text} {from = from} {end = end} {t = t} {ts = ts} inside r =
    let w = uncons r in
    record {
      len = w.0;
      next = w.1;
      inside = by_next (next_lexeme text from) (next_is text from inside) w.1;
      rest = w.2;
      spot = spots_some text from (t, w.0) inside w.1;
    }
  where
    by_next : {len : ℕ} (o : Option (Token × ℕ)) → Next text from o → o ≡ Some (t, len) → next_at text from + len ≤ length text
    by_next None nothing e = absurd (cc)
    by_next {len = len} (Some l) (lexeme _ there) e = let same : l.1 ≡ len = cc in omega (arith, there.within)

-- what was read ends in the text
pub ends_inside : {text : List ℕ} (ts : List Token) {from end : ℕ} → from ≤ length text → HasTokens text from ts end → end ≤ length text
ends_inside [] inside r = let e = unread r in omega arith
ends_inside (t ∷ ts) inside r = let w = read inside r in ends_inside ts w.inside w.rest
