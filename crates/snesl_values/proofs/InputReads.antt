-- Tokens that were read one after the other, and where a reader stops.
use Rattle.std.proofs.Common.{◌≡◌, ℕ, List, [], ◌∷◌, ◌++◌, Option, Some, None, option_map, ◌⊎◌, ⊎_elim, refl, sym, ap, ◌∙◌, subst, append_assoc}
use Rattle.snesl_values.specs.InputTokens.{Token, SizedToken, next_lexeme, next_at, next_token, HasTokens, none, more}
use Rattle.snesl_values.specs.Inputs.{CanBecome, MayFollow, StopsAt}

pub reads-append : {text : List ℕ} {a b c : ℕ} {ts us : List Token} → HasTokens text a ts b → HasTokens text b us c → HasTokens text a (ts ++ us) c
reads-append none r = r
reads-append (more t len e h) r = more t len e (reads-append h r)

-- the first of tokens that were read is the next one
pub first_next : {text : List ℕ} {from end : ℕ} {t : Token} {ts : List Token} → HasTokens text from (t ∷ ts) end → next_token text from ≡ Some t
first_next (more t len e h) = ap (option_map (λ (lexeme : SizedToken). lexeme.0)) e

first_of : {text : List ℕ} {from end : ℕ} {t : Token} (front rest others : List Token) (x : Token) → HasTokens text from (front ++ x ∷ []) end
    → (front ++ x ∷ []) ++ rest ≡ t ∷ others → next_token text from ≡ Some t
first_of {t = t} [] rest others x r e = let same : x ≡ t = cc in first_next r ∙ ap (λ y. Some y) same
first_of {t = t} (y ∷ front) rest others x r e = let same : y ≡ t = cc in first_next r ∙ ap (λ z. Some z) same

with_length : (lexeme : Option SizedToken) (x : Token) → option_map (λ (l : SizedToken). l.0) lexeme ≡ Some x → (len : ℕ) × (lexeme ≡ Some (x, len))
with_length None x e = cc
with_length (Some (y, len)) x e = let same : y ≡ x = cc in (len, ap (λ z. Some (z, len)) same)

-- a token that comes next can be read
pub next_read : (text : List ℕ) (from : ℕ) (x : Token) → next_token text from ≡ Some x → (end : ℕ) × HasTokens text from (x ∷ []) end
next_read text from x e = let found = with_length (next_lexeme text from) x e in (_, more x found.0 found.1 none)

-- what stops here
pub stops_here : (L : List Token → Type 0) (text : List ℕ) (from : ℕ) → CanBecome L [] → (MayFollow L [] (next_token text from) → ⊥)
    → StopsAt L text from (next_at text from)
stops_here L text from begins refuses = record {
  front = [];
  end = from;
  reads = none;
  begins = begins;
  refuses = refuses;
  there = refl;
}

-- what stops after these tokens
pub stops_after : (L M : List Token → Type 0) (text : List ℕ) (ts : List Token) (from place n : ℕ) → HasTokens text from ts place
    → ((us : List Token) → M us → L (ts ++ us)) → ((us : List Token) → L (ts ++ us) → M us)
    → StopsAt M text place n → StopsAt L text from n
stops_after L M text ts from place n read into back s = record {
  front = ts ++ s.front;
  end = s.end;
  reads = reads-append read s.reads;
  begins = (s.begins.0, subst L (sym (append_assoc ts s.front s.begins.0)) (into (s.front ++ s.begins.0) s.begins.1));
  refuses = λ m. s.refuses (behind (next_token text s.end) m);
  there = s.there;
}
  where
    behind : (o : Option Token) → MayFollow L (ts ++ s.front) o → MayFollow M s.front o
    behind None m = back s.front m
    behind (Some x) m = (
      m.0,
      back ((s.front ++ (x ∷ [])) ++ m.0)
          (subst L (ap (λ l. l ++ m.0) (append_assoc ts s.front (x ∷ [])) ∙ append_assoc ts (s.front ++ (x ∷ [])) m.0) m.1),
    )

-- what stops in one kind of list stops in a wider one too, whose further lists begin with a token that does not come next
pub stops_unless : (L M : List Token → Type 0) (text : List ℕ) (t : Token) (from n : ℕ) → (next_token text from ≡ Some t → ⊥)
    → ((us : List Token) → M us → L us) → ((us : List Token) → L us → M us ⊎ ((rest : List Token) × (us ≡ t ∷ rest)))
    → StopsAt M text from n → StopsAt L text from n
stops_unless L M text t from n another into back s = record {
  front = s.front;
  end = s.end;
  reads = s.reads;
  begins = (s.begins.0, into (s.front ++ s.begins.0) s.begins.1);
  refuses = by_next (next_token text s.end) refl;
  there = s.there;
}
  where
    by_next : (o : Option Token) → next_token text s.end ≡ o → MayFollow L s.front o → ⊥
    by_next None e m =
        ⊎_elim
        (λ k. s.refuses (subst (MayFollow M s.front) (sym e) k))
        (λ w. another (first_next (subst (λ ts. HasTokens text from ts s.end) w.1 s.reads)))
        (back s.front m)
    by_next (Some x) e m =
        let read = next_read text s.end x e in
        ⊎_elim
        (λ k. s.refuses (subst (MayFollow M s.front) (sym e) (m.0, k)))
        (λ w. another (first_of s.front m.0 w.0 x (reads-append s.reads read.1) w.1))
        (back ((s.front ++ x ∷ []) ++ m.0) m.1)

-- what stops at its first token
pub stops_first : (L : List Token → Type 0) (Starts : Token → Type 0) (text : List ℕ) (from : ℕ) → CanBecome L []
    → ((us : List Token) → L us → ((t : Token) × (rest : List Token) × (us ≡ t ∷ rest) × Starts t))
    → ((t : Token) → next_token text from ≡ Some t → Starts t → ⊥)
    → StopsAt L text from (next_at text from)
stops_first L Starts text from begins opens refuses = stops_here L text from begins (by_next (next_token text from) refl)
  where
    by_next : (o : Option Token) → next_token text from ≡ o → MayFollow L [] o → ⊥
    by_next None e m = let w = opens [] m in absurd (let f = w.2 in cc)
    by_next (Some x) e m =
        let w = opens (x ∷ m.0) m.1 in
        let f = w.2 in
        let same : w.0 ≡ x = cc in
        refuses x e (subst Starts same w.3)
