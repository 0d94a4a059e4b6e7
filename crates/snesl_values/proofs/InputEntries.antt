-- Declared inputs in an input text.
use Rattle.std.proofs.Common.{◌≡◌, ℕ, suc, ◌+◌, ◌-◌, ◌≤◌, ◌<◌, Vec, Global, take, take_all, get_or, drop-cons, length-drop, length-append, add-one}
use Rattle.std.proofs.Common.{List, [], ◌∷◌, ◌++◌, length, drop, Option, Some, None, ◌⊎◌, inl, inr, refl, sym, ap, ◌∙◌, subst, append_assoc}
use Rattle.std.proofs.Common.{append-nil, arith}
use Rattle.snesl_data.specs.declared.dialect.Dialect.{Dialect}
use Rattle.snesl_data.specs.Values.{Value, HasType}
use Rattle.snesl_values.specs.InputTokens.{Token, word, next_at, next_token, HasTokens, none, IsNextToken}
use Rattle.snesl_values.specs.Inputs.{InputDeclaration, Environment, FitDeclarations, equals, semicolon, value_tokens, entry_tokens, further_entries}
use Rattle.snesl_values.specs.Inputs.{environment_tokens, AreEntries, SpellsEnvironment, MayFollow, StopsAt, declared, declaration_of}
use Rattle.snesl_data.specs.declared.ty.Ty.{Ty as TyTree}
use Rattle.snesl_values.specs.Wants.{ToCome, one, perhaps, a_value, Fills, entry_wants, further_wants, wants_of, IsEntry, AllRead, IsStop, IsStopOf}
use Rattle.snesl_values.specs.declared.inputs.InputError.{InputError}
use Rattle.snesl_values.specs.declared.inputs.InputError.TheVariants.{Bad, NoMemory}
use Rattle.snesl_values.proofs.InputReads.{reads-append, stops_after, stops_here}
use Rattle.snesl_values.proofs.InputWants.{one_in, one_out, value_in, value_out, one_value, after_head, after_one}

-- an entry and what follows it
entry_in : (dialect : Dialect) → (d : InputDeclaration) (wants : List ToCome) (v : Value) (us : List Token) → HasType dialect v d.1 → Fills dialect wants us
    → Fills dialect (entry_wants d wants) (word d.0 ∷ equals ∷ (value_tokens v ++ us))
entry_in dialect d wants v us h f =
    one_in dialect (word d.0) (one equals ∷ a_value d.1 ∷ wants) (equals ∷ (value_tokens v ++ us))
    (one_in dialect equals (a_value d.1 ∷ wants) (value_tokens v ++ us) (value_in dialect d.1 v wants us h f))

entry_out : (dialect : Dialect) → (d : InputDeclaration) (wants : List ToCome) (us : List Token) → Fills dialect (entry_wants d wants) us
    → (v : Value) × (rest : List Token) × HasType dialect v d.1 × (us ≡ word d.0 ∷ equals ∷ (value_tokens v ++ rest)) × Fills dialect wants rest
entry_out dialect d wants us f =
    let name = one_out dialect (word d.0) (one equals ∷ a_value d.1 ∷ wants) us f in
    let sign = one_out dialect equals (a_value d.1 ∷ wants) name.0 name.2 in
    let v = value_out dialect d.1 wants sign.0 sign.2 in
    (v.0, v.1, v.2, name.1 ∙ ap (λ l. word d.0 ∷ l) (sign.1 ∙ ap (λ l. equals ∷ l) v.3), v.4)

pub after_entry : (dialect : Dialect) → (text : List ℕ) (d : InputDeclaration) (wants : List ToCome) (entry : List ℕ × Value) (from place n : ℕ) → IsEntry dialect text from d entry place
    → StopsAt (Fills dialect wants) text place n → StopsAt (Fills dialect (entry_wants d wants)) text from n
after_entry dialect text d wants entry from place n read s =
    stops_after (Fills dialect (entry_wants d wants)) (Fills dialect wants) text (word d.0 ∷ equals ∷ value_tokens entry.1) from place n
    (subst (λ name. HasTokens text from (word name ∷ equals ∷ value_tokens entry.1) place) read.named read.reads)
    (λ us f. entry_in dialect d wants entry.1 us read.has_type f)
    (λ us f.
    let out = entry_out dialect d wants (word d.0 ∷ equals ∷ (value_tokens entry.1 ++ us)) f in
    let same = after_head equals equals _ _ (after_head (word d.0) (word d.0) _ _ out.3) in
    subst (Fills dialect wants) (sym (one_value entry.1 out.0 us out.1 same).1) out.4)
    s

-- what may stand after the entries
abbrev MayEnd : Environment → List Token → Type 0
MayEnd es us = (us ≡ further_entries es) ⊎ (us ≡ further_entries es ++ (semicolon ∷ []))

at_end : (dialect : Dialect) → (us : List Token) → Fills dialect (perhaps semicolon ∷ []) us → MayEnd [] us
at_end dialect us (these, rest, e, inl m, f) = inl (e ∙ ap (λ l. l ++ rest) m ∙ f)
at_end dialect us (these, rest, e, inr m, f) = inr (e ∙ ap (λ l. l ++ rest) m ∙ ap (λ l. semicolon ∷ l) f)

at_end_in : (dialect : Dialect) → (us : List Token) → MayEnd [] us → Fills dialect (perhaps semicolon ∷ []) us
at_end_in dialect us (inl e) = ([], us, refl, inl refl, e)
at_end_in dialect us (inr e) = (semicolon ∷ [], [], e, inr refl, refl)

one_more_end : (entry : List ℕ × Value) (es : Environment) (us : List Token) → MayEnd es us → MayEnd (entry ∷ es) (semicolon ∷ (entry_tokens entry ++ us))
one_more_end entry es us (inl e) = inl (ap (λ l. semicolon ∷ (entry_tokens entry ++ l)) e)
one_more_end entry es us (inr e) =
    inr (ap (λ l. semicolon ∷ (entry_tokens entry ++ l)) e ∙ ap (λ l. semicolon ∷ l) (sym (append_assoc (entry_tokens entry) (further_entries es) (semicolon ∷ []))))

one_less_end : (entry : List ℕ × Value) (es : Environment) (us : List Token) → MayEnd (entry ∷ es) us
    → (rest : List Token) × (us ≡ semicolon ∷ (entry_tokens entry ++ rest)) × MayEnd es rest
one_less_end entry es us (inl e) = (further_entries es, e, inl refl)
one_less_end entry es us (inr e) =
    (further_entries es ++ (semicolon ∷ []), e ∙ ap (λ l. semicolon ∷ l) (append_assoc (entry_tokens entry) (further_entries es) (semicolon ∷ [])), inr refl)

further_lawful : (dialect : Dialect) → (ds : List InputDeclaration) (us : List Token) → Fills dialect (further_wants ds) us → (es : Environment) × FitDeclarations dialect ds es × MayEnd es us
further_lawful dialect [] us f = ([], tt, at_end dialect us f)
further_lawful dialect (d ∷ ds) us f =
    let c = one_out dialect semicolon (entry_wants d (further_wants ds)) us f in
    let entry = entry_out dialect d (further_wants ds) c.0 c.2 in
    let rest = further_lawful dialect ds entry.1 entry.4 in (
      (d.0, entry.0) ∷ rest.0,
      (refl, entry.2, rest.1),
      subst (MayEnd ((d.0, entry.0) ∷ rest.0)) (sym (c.1 ∙ ap (λ l. semicolon ∷ l) entry.3)) (one_more_end (d.0, entry.0) rest.0 entry.1 rest.2),
    )

lawful_further : (dialect : Dialect) → (ds : List InputDeclaration) (es : Environment) (us : List Token) → FitDeclarations dialect ds es → MayEnd es us → Fills dialect (further_wants ds) us
lawful_further dialect [] [] us h m = at_end_in dialect us m
lawful_further dialect [] (e ∷ es) us h m = absurd h
lawful_further dialect (d ∷ ds) [] us h m = absurd h
lawful_further dialect (d ∷ ds) (e ∷ es) us h m =
    let less = one_less_end e es us m in
    subst (Fills dialect (further_wants (d ∷ ds))) (sym (less.1 ∙ ap (λ name. semicolon ∷ word name ∷ equals ∷ (value_tokens e.1 ++ less.0)) h.0))
    (one_in dialect semicolon (entry_wants d (further_wants ds)) (word d.0 ∷ equals ∷ (value_tokens e.1 ++ less.0))
    (entry_in dialect d (further_wants ds) e.1 less.0 h.1 (lawful_further dialect ds es less.0 h.2 less.2)))

-- the same without the first semicolon
first_end : (entry : List ℕ × Value) (es : Environment) (us : List Token) → MayEnd es us → AreEntries (entry ∷ es) (entry_tokens entry ++ us)
first_end entry es us (inl e) = inl (ap (λ l. entry_tokens entry ++ l) e)
first_end entry es us (inr e) =
    inr (ap (λ l. entry_tokens entry ++ l) e ∙ sym (append_assoc (entry_tokens entry) (further_entries es) (semicolon ∷ [])))

first_rest : (entry : List ℕ × Value) (es : Environment) (us : List Token) → AreEntries (entry ∷ es) us
    → (rest : List Token) × (us ≡ entry_tokens entry ++ rest) × MayEnd es rest
first_rest entry es us (inl e) = (further_entries es, e, inl refl)
first_rest entry es us (inr e) =
    (further_entries es ++ (semicolon ∷ []), e ∙ append_assoc (entry_tokens entry) (further_entries es) (semicolon ∷ []), inr refl)

wants_lawful : (dialect : Dialect) → (ds : List InputDeclaration) (us : List Token) → Fills dialect (wants_of ds) us → SpellsEnvironment dialect ds us
wants_lawful dialect [] us f = ([], record { fits = tt; entries = f })
wants_lawful dialect (d ∷ ds) us f =
    let entry = entry_out dialect d (further_wants ds) us f in
    let rest = further_lawful dialect ds entry.1 entry.4 in (
      (d.0, entry.0) ∷ rest.0,
      record {
        fits = (refl, entry.2, rest.1);
        entries = subst (AreEntries ((d.0, entry.0) ∷ rest.0)) (sym entry.3) (first_end (d.0, entry.0) rest.0 entry.1 rest.2);
      },
    )

lawful_wants : (dialect : Dialect) → (ds : List InputDeclaration) (es : Environment) (us : List Token) → FitDeclarations dialect ds es → AreEntries es us → Fills dialect (wants_of ds) us
lawful_wants dialect [] [] us h m = m
lawful_wants dialect [] (e ∷ es) us h m = absurd h
lawful_wants dialect (d ∷ ds) [] us h m = absurd h
lawful_wants dialect (d ∷ ds) (e ∷ es) us h m =
    let rest = first_rest e es us m in
    subst (Fills dialect (wants_of (d ∷ ds))) (sym (rest.1 ∙ ap (λ name. word name ∷ equals ∷ (value_tokens e.1 ++ rest.0)) h.0))
    (entry_in dialect d (further_wants ds) e.1 rest.0 h.1 (lawful_further dialect ds es rest.0 h.2 rest.2))

-- what stops by its wants stops in a lawful text
pub stops_lawful : (dialect : Dialect) → (text : List ℕ) (ds : List InputDeclaration) (n : ℕ) → StopsAt (Fills dialect (wants_of ds)) text 0 n → StopsAt (SpellsEnvironment dialect ds) text 0 n
stops_lawful dialect text ds n s =
    stops_after (SpellsEnvironment dialect ds) (Fills dialect (wants_of ds)) text [] 0 0 n none (wants_lawful dialect ds) (λ us l. lawful_wants dialect ds l.0 us l.1.fits l.1.entries) s

-- nothing is wanted any more
pub nothing_wanted : (dialect : Dialect) → (text : List ℕ) (from : ℕ) → (next_token text from ≡ None → ⊥) → StopsAt (Fills dialect []) text from (next_at text from)
nothing_wanted dialect text from some = stops_here (Fills dialect []) text from ([], refl) (by_next (next_token text from) refl)
  where
    by_next : (o : Option Token) → next_token text from ≡ o → MayFollow (Fills dialect []) [] o → ⊥
    by_next None e m = some e
    by_next (Some x) e m = let f = m.1 in cc

-- after the last entry
pub last_semicolon : (dialect : Dialect) → (text : List ℕ) (from place n : ℕ) → HasTokens text from (semicolon ∷ []) place → StopsAt (Fills dialect []) text place n
    → StopsAt (Fills dialect (perhaps semicolon ∷ [])) text from n
last_semicolon dialect text from place n read s =
    stops_after (Fills dialect (perhaps semicolon ∷ [])) (Fills dialect []) text (semicolon ∷ []) from place n read
    (λ us f. (semicolon ∷ [], us, refl, inr refl, f))
    (λ us f. by_end us (at_end dialect (semicolon ∷ us) f))
    s
  where
    by_end : (us : List Token) → MayEnd [] (semicolon ∷ us) → us ≡ []
    by_end us (inl e) = cc
    by_end us (inr e) = cc

pub no_semicolon : (dialect : Dialect) → (text : List ℕ) (from : ℕ) → (next_token text from ≡ Some semicolon → ⊥) → (next_token text from ≡ None → ⊥)
    → StopsAt (Fills dialect (perhaps semicolon ∷ [])) text from (next_at text from)
no_semicolon dialect text from another some =
    stops_here (Fills dialect (perhaps semicolon ∷ [])) text from ([], ([], [], refl, inl refl, refl)) (by_next (next_token text from) refl)
  where
    by_end : (x : Token) (rest : List Token) → next_token text from ≡ Some x → MayEnd [] (x ∷ rest) → ⊥
    by_end x rest e (inl f) = cc
    by_end x rest e (inr f) = let same : x ≡ semicolon = cc in another (e ∙ ap (λ y. Some y) same)

    by_next : (o : Option Token) → next_token text from ≡ o → MayFollow (Fills dialect (perhaps semicolon ∷ [])) [] o → ⊥
    by_next None e m = some e
    by_next (Some x) e m = by_end x m.0 e (at_end dialect (x ∷ m.0) m.1)

-- one entry more
further-push : (es : Environment) (entry : List ℕ × Value) → further_entries (es ++ entry ∷ []) ≡ further_entries es ++ (semicolon ∷ entry_tokens entry)
further-push [] entry = ap (λ l. semicolon ∷ l) (append-nil (entry_tokens entry))
further-push (e ∷ es) entry =
    ap (λ l. semicolon ∷ (entry_tokens e ++ l)) (further-push es entry)
    ∙ ap (λ l. semicolon ∷ l) (sym (append_assoc (entry_tokens e) (further_entries es) (semicolon ∷ entry_tokens entry)))

pub environment-push : (es : Environment) (entry : List ℕ × Value) → 0 < length es
    → environment_tokens (es ++ entry ∷ []) ≡ environment_tokens es ++ (semicolon ∷ entry_tokens entry)
environment-push [] entry some = absurd (omega arith)
environment-push (e ∷ es) entry some =
    ap (λ l. entry_tokens e ++ l) (further-push es entry)
    ∙ sym (append_assoc (entry_tokens e) (further_entries es) (semicolon ∷ entry_tokens entry))

-- the entries of an environment that is not empty
pub are_entries : (es : Environment) (us : List Token) → 0 < length es
    → (us ≡ environment_tokens es) ⊎ (us ≡ environment_tokens es ++ (semicolon ∷ [])) → AreEntries es us
are_entries [] us some m = absurd (omega arith)
are_entries (e ∷ es) us some m = m

-- some inputs were read, up to this offset, and these are left
pub record SoFar (dialect : Dialect) (text : List ℕ) (ds left : List InputDeclaration) (es : Environment) (at : ℕ) : Type 0 where
  pub within : at ≤ length text
  pub some : 0 < length es
  pub fits : (later : Environment) → FitDeclarations dialect left later → FitDeclarations dialect ds (es ++ later)
  pub reads : HasTokens text 0 (environment_tokens es) at
  pub stops : (n : ℕ) → StopsAt (Fills dialect (further_wants left)) text at n → StopsAt (Fills dialect (wants_of ds)) text 0 n

pub first_so_far : (dialect : Dialect) → (text : List ℕ) (d : InputDeclaration) (ds : List InputDeclaration) (entry : List ℕ × Value) (end : ℕ) → IsEntry dialect text 0 d entry end
    → SoFar dialect text (d ∷ ds) ds (entry ∷ []) end
first_so_far dialect text d ds entry end read = record {
  within = read.within;
  some = omega arith;
  fits = λ later h. (read.named, read.has_type, h);
  reads = subst (λ l. HasTokens text 0 l end) (sym (append-nil (entry_tokens entry))) read.reads;
  stops = λ n s. after_entry dialect text d (further_wants ds) entry 0 end n read s;
}

pub next_so_far : (dialect : Dialect) →
    (text : List ℕ) (ds : List InputDeclaration) (d : InputDeclaration) (left : List InputDeclaration) (es : Environment) (entry : List ℕ × Value)
    (at start end : ℕ)
    → SoFar dialect text ds (d ∷ left) es at → IsNextToken text at semicolon start → IsEntry dialect text start d entry end → SoFar dialect text ds left (es ++ entry ∷ []) end
next_so_far dialect text ds d left es entry at start end s parting read = record {
  within = read.within;
  some = omega (arith, length-append es (entry ∷ []));
  fits = λ later h. subst (FitDeclarations dialect ds) (sym (append_assoc es (entry ∷ []) later)) (s.fits (entry ∷ later) (read.named, read.has_type, h));
  reads = subst (λ l. HasTokens text 0 l end) (sym (environment-push es entry s.some)) (reads-append s.reads (reads-append parting.reads read.reads));
  stops = λ n k. s.stops n (after_one dialect text semicolon (entry_wants d (further_wants left)) at start n parting.reads
      (after_entry dialect text d (further_wants left) entry start end n read k));
}

all_fit : (dialect : Dialect) → (ds : List InputDeclaration) (es : Environment) → FitDeclarations dialect ds (es ++ []) → FitDeclarations dialect ds es
all_fit dialect ds es h = subst (FitDeclarations dialect ds) (append-nil es) h

pub all_read_closed : (dialect : Dialect) → (text : List ℕ) (ds : List InputDeclaration) (es : Environment) (at end : ℕ) → SoFar dialect text ds [] es at → IsNextToken text at semicolon end
    → AllRead dialect text ds es end
all_read_closed dialect text ds es at end s closing = record {
  tokens = environment_tokens es ++ (semicolon ∷ []);
  reads = reads-append s.reads closing.reads;
  spells = record { fits = all_fit dialect ds es (s.fits [] tt); entries = are_entries es (environment_tokens es ++ (semicolon ∷ [])) s.some (inr refl) };
  within = closing.within;
  no_more = λ some. stops_lawful dialect text ds (next_at text end)
      (s.stops (next_at text end) (last_semicolon dialect text at end (next_at text end) closing.reads (nothing_wanted dialect text end some)));
}

pub all_read_open : (dialect : Dialect) → (text : List ℕ) (ds : List InputDeclaration) (es : Environment) (at : ℕ) → SoFar dialect text ds [] es at → (next_token text at ≡ Some semicolon → ⊥)
    → AllRead dialect text ds es at
all_read_open dialect text ds es at s another = record {
  tokens = environment_tokens es;
  reads = s.reads;
  spells = record { fits = all_fit dialect ds es (s.fits [] tt); entries = are_entries es (environment_tokens es) s.some (inl refl) };
  within = s.within;
  no_more = λ some. stops_lawful dialect text ds (next_at text at) (s.stops (next_at text at) (no_semicolon dialect text at another some));
}

pub none_read : (dialect : Dialect) → (text : List ℕ) → AllRead dialect text [] [] 0
none_read dialect text = record {
  tokens = [];
  reads = none;
  spells = record { fits = tt; entries = refl };
  within = omega arith;
  no_more = λ some. stops_lawful dialect text [] (next_at text 0) (nothing_wanted dialect text 0 some);
}

-- declarations as the code holds them
pub first_declared : (ds : List (Vec ℕ Global × TyTree)) (x : Vec ℕ Global × TyTree) → x ≡ get_or ds 0 x → 0 < length ds
    → declared ds ≡ declaration_of x ∷ declared (take (length ds - 1) (drop 1 ds))
first_declared [] x e h = absurd (omega arith)
first_declared (y ∷ ys) x e h =
    ap (λ z. declaration_of z ∷ declared ys) (sym e) ∙ ap (λ l. declaration_of x ∷ declared l) (sym (take_all (suc (length ys) - 1) ys (omega arith)))

pub next_declared : (ds : List (Vec ℕ Global × TyTree)) (k : ℕ) (x : Vec ℕ Global × TyTree) → k < length ds → x ≡ get_or ds k x
    → declared (drop k ds) ≡ declaration_of x ∷ declared (drop (k + 1) ds)
next_declared ds k x h e =
    ap declared (drop-cons ds k x h ∙ ap (λ y. y ∷ drop (suc k) ds) (sym e)) ∙ ap (λ n. declaration_of x ∷ declared (drop n ds)) (sym (add-one k))

pub none_declared : (ds : List (Vec ℕ Global × TyTree)) → length ds ≡ 0 → declared ds ≡ []
none_declared [] e = refl
none_declared (y ∷ ys) e = absurd (omega arith)

pub none_left : (ds : List (Vec ℕ Global × TyTree)) (k : ℕ) → length ds ≤ k → declared (drop k ds) ≡ []
none_left ds k h = none_declared (drop k ds) (omega (arith, length-drop k ds))

-- the error of a part, as that of a whole text
pub stop_whole : (dialect : Dialect) → (text : List ℕ) (part : List ToCome) (ds : List InputDeclaration) (place : ℕ) (e : InputError)
    → ((n : ℕ) → ((further : List ToCome) → StopsAt (Fills dialect (part ++ further)) text place n) → StopsAt (Fills dialect (wants_of ds)) text 0 n)
    → IsStop dialect part text place e → IsStopOf dialect ds text e
stop_whole dialect text part ds place (Bad n) f h = stops_lawful dialect text ds n (f n h)
stop_whole dialect text part ds place NoMemory f h = tt
