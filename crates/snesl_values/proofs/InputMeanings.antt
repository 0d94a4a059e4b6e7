-- A text means one thing.
use Rattle.std.proofs.Common.{◌≡◌, ℕ, ◌+◌, List, [], ◌∷◌, ◌++◌, Some, None, inl, inr, refl, sym, ap, ◌∙◌, subst, append_assoc, append-nil, arith}
use Rattle.snesl_data.specs.declared.dialect.Dialect.{Dialect}
use Rattle.snesl_data.specs.Values.{Value}
use Rattle.snesl_values.specs.InputTokens.{Token, SizedToken, word, next_at, next_token, HasTokens, none, more}
use Rattle.snesl_values.specs.Inputs.{InputDeclaration, Environment, FitDeclarations, equals, semicolon, entry_tokens, further_entries}
use Rattle.snesl_values.specs.Inputs.{environment_tokens, AreEntries, Spells, SpellsEnvironment, MayFollow, StopsAt, InputAnswer, spells, refused_at}
use Rattle.snesl_values.specs.Inputs.{InputMeans, too_long, lawful, unlawful}
use Rattle.snesl_values.proofs.InputReads.{first_next}
use Rattle.snesl_values.proofs.InputWants.{one_value, after_head}

-- of two readings from one place one goes on from the other
data GoOn (text : List ℕ) (ts us : List Token) (a b : ℕ) : Type 0 where
  second_longer : (rest : List Token) → ts ++ rest ≡ us → HasTokens text a rest b → GoOn text ts us a b
  first_longer : (rest : List Token) → us ++ rest ≡ ts → HasTokens text b rest a → GoOn text ts us a b

one_more : {text : List ℕ} {ts us : List Token} {a b : ℕ} (t : Token) → GoOn text ts us a b → GoOn text (t ∷ ts) (t ∷ us) a b
one_more t (second_longer rest e r) = second_longer rest (ap (λ l. t ∷ l) e) r
one_more t (first_longer rest e r) = first_longer rest (ap (λ l. t ∷ l) e) r

go_on : {text : List ℕ} {from a b : ℕ} {ts us : List Token} → HasTokens text from ts a → HasTokens text from us b → GoOn text ts us a b
go_on {us = us} none r = second_longer us refl r
go_on {ts = ts} (more t len e h) none = first_longer ts refl (more t len e h)
go_on {text = text} {from = from} {a = a} {b = b} (more {tokens = ts} t len e h) (more {tokens = us} u other f k) =
    let both : ◌≡◌ {A = SizedToken} (u, other) (t, len) = cc in
    let tokens : u ≡ t = ap (λ (l : SizedToken). l.0) both in
    let lens : other ≡ len = ap (λ (l : SizedToken). l.1) both in
    subst (λ x. GoOn text (t ∷ ts) (x ∷ us) a b) (sym tokens)
    (one_more t (go_on h (subst (λ n. HasTokens text (next_at text from + n) us b) lens k)))

reads_none : {text : List ℕ} {a b : ℕ} → HasTokens text a [] b → a ≡ b
reads_none none = refl

-- a list of tokens that may be read further
begins_longer : (L : List Token → Type 0) (front : List Token) (t : Token) (rest : List Token) → L (front ++ (t ∷ rest)) → MayFollow L front (Some t)
begins_longer L front t rest l = (rest, subst L (sym (append_assoc front (t ∷ []) rest)) l)

-- reading stops at one place
longer_stop : (L : List Token → Type 0) (text : List ℕ) (m n : ℕ) (s : StopsAt L text 0 m) (k : StopsAt L text 0 n) (rest : List Token)
    → s.front ++ rest ≡ k.front → HasTokens text s.end rest k.end → m ≡ n
longer_stop L text m n s k [] e r = s.there ∙ ap (next_at text) (reads_none r) ∙ sym k.there
longer_stop L text m n s k (t ∷ rest) e r =
    absurd (s.refuses (subst (MayFollow L s.front) (sym (first_next r))
    (begins_longer L s.front t (rest ++ k.begins.0)
    (subst L (ap (λ l. l ++ k.begins.0) (sym e) ∙ append_assoc s.front (t ∷ rest) k.begins.0) k.begins.1))))

one_stop : (L : List Token → Type 0) (text : List ℕ) (m n : ℕ) → StopsAt L text 0 m → StopsAt L text 0 n → m ≡ n
one_stop L text m n s k = by_length (go_on s.reads k.reads)
  where
    by_length : GoOn text s.front k.front s.end k.end → m ≡ n
    by_length (second_longer rest e r) = longer_stop L text m n s k rest e r
    by_length (first_longer rest e r) = sym (longer_stop L text n m k s rest e r)

-- and does not stop in a lawful text
no_stop : (L : List Token → Type 0) (text : List ℕ) (n end : ℕ) (ts : List Token) → StopsAt L text 0 n → HasTokens text 0 ts end → next_token text end ≡ None
    → L ts → ⊥
no_stop L text n end ts s read ended l = by_length (go_on s.reads read)
  where
    shorter : (rest : List Token) → s.front ++ rest ≡ ts → HasTokens text s.end rest end → ⊥
    shorter [] e r =
        s.refuses (subst (MayFollow L s.front) (sym (ap (next_token text) (reads_none r) ∙ ended)) (subst L (sym e ∙ append-nil s.front) l))
    shorter (t ∷ rest) e r = s.refuses (subst (MayFollow L s.front) (sym (first_next r)) (begins_longer L s.front t rest (subst L (sym e) l)))

    longer : (rest : List Token) → ts ++ rest ≡ s.front → HasTokens text end rest s.end → ⊥
    longer [] e r =
        s.refuses (subst (MayFollow L s.front) (sym (ap (next_token text) (sym (reads_none r)) ∙ ended)) (subst L (sym (append-nil ts) ∙ e) l))
    longer (t ∷ rest) e r = let f : Some t ≡ None = sym (first_next r) ∙ ended in cc

    by_length : GoOn text s.front ts s.end end → ⊥
    by_length (second_longer rest e r) = shorter rest e r
    by_length (first_longer rest e r) = longer rest e r

-- a text has one list of tokens
no_further : (text : List ℕ) (a b : ℕ) (rest : List Token) → HasTokens text a rest b → next_token text a ≡ None → rest ≡ []
no_further text a b [] r ended = refl
no_further text a b (t ∷ rest) r ended = let f : Some t ≡ None = sym (first_next r) ∙ ended in cc

one_tokens : (text : List ℕ) (a b : ℕ) (ts us : List Token) → HasTokens text 0 ts a → HasTokens text 0 us b → next_token text a ≡ None → next_token text b ≡ None → ts ≡ us
one_tokens text a b ts us r s e f = by_length (go_on r s)
  where
    by_length : GoOn text ts us a b → ts ≡ us
    by_length (second_longer rest g h) = sym (append-nil ts) ∙ ap (λ l. ts ++ l) (sym (no_further text a b rest h e)) ∙ g
    by_length (first_longer rest g h) = sym (sym (append-nil us) ∙ ap (λ l. us ++ l) (sym (no_further text b a rest h f)) ∙ g)

-- tokens spell one environment
same_entry : (d : InputDeclaration) (e f : List ℕ × Value) → e.0 ≡ d.0 → f.0 ≡ d.0 → e.1 ≡ f.1 → e ≡ f
same_entry d e f h k v = let names : e.0 ≡ f.0 = h ∙ sym k in ap (λ name. (name, e.1)) names ∙ ap (λ x. (f.0, x)) v

entry_parts : (e f : List ℕ × Value) (r s : List Token) → entry_tokens e ++ r ≡ entry_tokens f ++ s → (e.1 ≡ f.1) × (r ≡ s)
entry_parts e f r s same = one_value e.1 f.1 r s (after_head equals equals _ _ (after_head (word e.0) (word f.0) _ _ same))

one_further_environment : (dialect : Dialect) → (ds : List InputDeclaration) (es fs : Environment) (r s : List Token) → FitDeclarations dialect ds es → FitDeclarations dialect ds fs
    → further_entries es ++ r ≡ further_entries fs ++ s → es ≡ fs
one_further_environment dialect [] [] [] r s h k e = refl
one_further_environment dialect [] [] (f ∷ fs) r s h k e = absurd k
one_further_environment dialect [] (x ∷ es) fs r s h k e = absurd h
one_further_environment dialect (d ∷ ds) [] fs r s h k e = absurd h
one_further_environment dialect (d ∷ ds) (x ∷ es) [] r s h k e = absurd k
one_further_environment dialect (d ∷ ds) (x ∷ es) (y ∷ fs) r s h k e =
    let parts = entry_parts x y (further_entries es ++ r) (further_entries fs ++ s)
    (sym (append_assoc (entry_tokens x) (further_entries es) r) ∙ after_head semicolon semicolon _ _ e ∙ append_assoc (entry_tokens y) (further_entries fs) s) in
    let rest = one_further_environment dialect ds es fs r s h.2 k.2 parts.1 in
    ap (λ z. z ∷ es) (same_entry d x y h.0 k.0 parts.0) ∙ ap (λ l. y ∷ l) rest

entries_end : (es : Environment) (us : List Token) → AreEntries es us → (r : List Token) × (us ≡ environment_tokens es ++ r)
entries_end [] us e = ([], e)
entries_end (x ∷ es) us (inl e) = ([], e ∙ sym (append-nil (environment_tokens (x ∷ es))))
entries_end (x ∷ es) us (inr e) = (semicolon ∷ [], e)

one_environment : (dialect : Dialect) → (ds : List InputDeclaration) (es fs : Environment) (r s : List Token) → FitDeclarations dialect ds es → FitDeclarations dialect ds fs
    → environment_tokens es ++ r ≡ environment_tokens fs ++ s → es ≡ fs
one_environment dialect [] [] [] r s h k e = refl
one_environment dialect [] [] (f ∷ fs) r s h k e = absurd k
one_environment dialect [] (x ∷ es) fs r s h k e = absurd h
one_environment dialect (d ∷ ds) [] fs r s h k e = absurd h
one_environment dialect (d ∷ ds) (x ∷ es) [] r s h k e = absurd k
one_environment dialect (d ∷ ds) (x ∷ es) (y ∷ fs) r s h k e =
    let parts = entry_parts x y (further_entries es ++ r) (further_entries fs ++ s)
    (sym (append_assoc (entry_tokens x) (further_entries es) r) ∙ e ∙ append_assoc (entry_tokens y) (further_entries fs) s) in
    let rest = one_further_environment dialect ds es fs r s h.2 k.2 parts.1 in
    ap (λ z. z ∷ es) (same_entry d x y h.0 k.0 parts.0) ∙ ap (λ l. y ∷ l) rest

one_spelling : (dialect : Dialect) → (ds : List InputDeclaration) (es fs : Environment) (us : List Token) → Spells dialect ds es us → Spells dialect ds fs us → es ≡ fs
one_spelling dialect ds es fs us h k =
    let a = entries_end es us h.entries in
    let b = entries_end fs us k.entries in
    one_environment dialect ds es fs a.0 b.0 h.fits k.fits (sym a.1 ∙ b.1)

pub one_meaning : (dialect : Dialect) → (ds : List InputDeclaration) (text : List ℕ) (a b : InputAnswer) → InputMeans dialect ds text a → InputMeans dialect ds text b → a ≡ b
one_meaning dialect ds text a b (too_long h) (too_long k) = refl
one_meaning dialect ds text a b (too_long h) (lawful k r e s) = absurd (omega arith)
one_meaning dialect ds text a b (too_long h) (unlawful k s) = absurd (omega arith)
one_meaning dialect ds text a b (lawful h r e s) (too_long k) = absurd (omega arith)
one_meaning dialect ds text a b (lawful {environment = es} {tokens = ts} {end = m} h r e s) (lawful {environment = fs} {tokens = us} {end = n} k q f p) =
    let same = one_tokens text m n ts us r q e f in
    ap spells (one_spelling dialect ds es fs us (subst (Spells dialect ds es) same s) p)
one_meaning dialect ds text a b (lawful {environment = es} {tokens = ts} {end = m} h r e s) (unlawful {at = n} k p) =
    absurd (no_stop (SpellsEnvironment dialect ds) text n m ts p r e (es, s))
one_meaning dialect ds text a b (unlawful h s) (too_long k) = absurd (omega arith)
one_meaning dialect ds text a b (unlawful {at = n} h p) (lawful {environment = es} {tokens = ts} {end = m} k r e s) =
    absurd (no_stop (SpellsEnvironment dialect ds) text n m ts p r e (es, s))
one_meaning dialect ds text a b (unlawful {at = m} h s) (unlawful {at = n} k p) = ap refused_at (one_stop (SpellsEnvironment dialect ds) text m n s p)
