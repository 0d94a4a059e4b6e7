-- How the wants of a reader are met.
use Rattle.std.proofs.Common.{◌≡◌, ℕ, pos, true, false, List, [], ◌∷◌, ◌++◌, Some, codes, ◌⊎◌, inl, inr, refl, sym, ap, ◌∙◌, subst, append_assoc, arith, ℤ, ⊎_elim, Result, Ok, Err, IfErr}
use Rattle.std.specs.Result.{IsErrAnd}
use Rattle.snesl_data.specs.declared.dialect.Dialect.{Dialect}
use Rattle.snesl_data.specs.declared.dialect.Dialect.TheVariants.{One, Two}
use Rattle.snesl_data.specs.Integers.{IsInteger}
use Rattle.snesl_values.specs.declared.inputs.InputError.{InputError}
use Rattle.snesl_values.specs.declared.inputs.InputError.TheVariants.{Bad, NoMemory}
use Rattle.snesl_data.specs.Types.{Ty, int, bool, pair, vec, seq}
use Rattle.snesl_data.specs.Values.{Value, an_int, a_bool, a_pair, a_vec, a_seq, Values, no_values, more_values, HasType, AllHaveType}
use Rattle.snesl_values.specs.InputTokens.{Token, word, integer, sign, next_at, next_token, HasTokens, none, IsNextToken}
use Rattle.snesl_values.specs.Inputs.{value_tokens, items_tokens, further_tokens, left_paren, right_paren, comma, left_bracket, right_bracket, left_brace, right_brace, StopsAt}
use Rattle.snesl_values.specs.Wants.{ToCome, one, perhaps, a_value, items, further_items, Fills, IsStop, IsValueRead}
use Rattle.snesl_values.proofs.InputReads.{stops_after, stops_unless, stops_first}

-- the signs that close items
abbrev pub Closes : ℕ → Type 0
Closes close = (close ≡ 93) ⊎ (close ≡ 125)

no_close : (n : ℕ) (close : ℕ) → Closes close → n ≡ close → n ≡ 93 ⊎ n ≡ 125
no_close n close (inl c) e = inl (e ∙ c)
no_close n close (inr c) e = inr (e ∙ c)

-- a value begins with no sign that closes
no_value : (v : Value) (close : ℕ) (r s : List Token) → Closes close → value_tokens v ++ r ≡ sign close ∷ s → ⊥
no_value (an_int n) close r s c e = cc
no_value (a_bool true) close r s c e = cc
no_value (a_bool false) close r s c e = cc
no_value (a_pair v w) close r s c e = let same : 40 ≡ close = cc in let k = no_close 40 close c same in elim k [ inl f ↦ absurd (omega arith) | inr f ↦ absurd (omega arith) ]
no_value (a_vec vs) close r s c e = let same : 91 ≡ close = cc in let k = no_close 91 close c same in elim k [ inl f ↦ absurd (omega arith) | inr f ↦ absurd (omega arith) ]
no_value (a_seq vs) close r s c e = let same : 123 ≡ close = cc in let k = no_close 123 close c same in elim k [ inl f ↦ absurd (omega arith) | inr f ↦ absurd (omega arith) ]

no_comma : (close : ℕ) (r s : List Token) → Closes close → comma ∷ r ≡ sign close ∷ s → ⊥
no_comma close r s c e = let same : 44 ≡ close = cc in let k = no_close 44 close c same in elim k [ inl f ↦ absurd (omega arith) | inr f ↦ absurd (omega arith) ]

pair_parts : (v w : Value) (r : List Token) → value_tokens (a_pair v w) ++ r ≡ left_paren ∷ (value_tokens v ++ (comma ∷ (value_tokens w ++ (right_paren ∷ r))))
pair_parts v w r =
    ap (λ l. left_paren ∷ l)
    (append_assoc (value_tokens v) (comma ∷ (value_tokens w ++ (right_paren ∷ []))) r
    ∙ ap (λ l. value_tokens v ++ (comma ∷ l)) (append_assoc (value_tokens w) (right_paren ∷ []) r))

vec_parts : (vs : Values) (r : List Token) → value_tokens (a_vec vs) ++ r ≡ left_bracket ∷ (items_tokens vs ++ (right_bracket ∷ r))
vec_parts vs r = ap (λ l. left_bracket ∷ l) (append_assoc (items_tokens vs) (right_bracket ∷ []) r)

seq_parts : (vs : Values) (r : List Token) → value_tokens (a_seq vs) ++ r ≡ left_brace ∷ (items_tokens vs ++ (right_brace ∷ r))
seq_parts vs r = ap (λ l. left_brace ∷ l) (append_assoc (items_tokens vs) (right_brace ∷ []) r)

sign_number : (m n : ℕ) (r s : List Token) → sign m ∷ r ≡ sign n ∷ s → m ≡ n
sign_number m n r s e = cc

pub after_head : (x y : Token) (r s : List Token) → x ∷ r ≡ y ∷ s → r ≡ s
after_head x y r s e = cc

mutual
  -- tokens begin with one value at most
  pub one_value : (v w : Value) (r s : List Token) → value_tokens v ++ r ≡ value_tokens w ++ s → (v ≡ w) × (r ≡ s)
  one_value (an_int n) (an_int m) r s e = let same : n ≡ m = cc in (ap an_int same, after_head _ _ r s e)
  one_value (a_bool true) (a_bool true) r s e = (refl, after_head _ _ r s e)
  one_value (a_bool false) (a_bool false) r s e = (refl, after_head _ _ r s e)
  one_value (a_pair a b) (a_pair c d) r s e =
      let f = after_head _ _ _ _ (sym (pair_parts a b r) ∙ e ∙ pair_parts c d s) in
      let g = one_value a c (comma ∷ (value_tokens b ++ (right_paren ∷ r))) (comma ∷ (value_tokens d ++ (right_paren ∷ s))) f in
      let h = one_value b d (right_paren ∷ r) (right_paren ∷ s) (after_head _ _ _ _ g.1) in
      (ap (λ x. a_pair x b) g.0 ∙ ap (λ x. a_pair c x) h.0, after_head _ _ r s h.1)
  one_value (a_vec vs) (a_vec ws) r s e =
      let f = one_items vs ws 93 r s (inl refl) (after_head _ _ _ _ (sym (vec_parts vs r) ∙ e ∙ vec_parts ws s)) in
      (ap a_vec f.0, f.1)
  one_value (a_seq vs) (a_seq ws) r s e =
      let f = one_items vs ws 125 r s (inr refl) (after_head _ _ _ _ (sym (seq_parts vs r) ∙ e ∙ seq_parts ws s)) in
      (ap a_seq f.0, f.1)
  one_value (a_bool true) (a_bool false) r s e = cc
  one_value (a_bool false) (a_bool true) r s e = cc
  one_value v (a_bool true) r s e = cc
  one_value v (a_bool false) r s e = cc
  one_value (a_bool true) w r s e = cc
  one_value (a_bool false) w r s e = cc
  one_value (a_pair v w) (a_vec ws) r s e = absurd (let same = sign_number _ _ _ _ e in omega arith)
  one_value (a_pair v w) (a_seq ws) r s e = absurd (let same = sign_number _ _ _ _ e in omega arith)
  one_value (a_vec vs) (a_pair x y) r s e = absurd (let same = sign_number _ _ _ _ e in omega arith)
  one_value (a_vec vs) (a_seq ws) r s e = absurd (let same = sign_number _ _ _ _ e in omega arith)
  one_value (a_seq vs) (a_pair x y) r s e = absurd (let same = sign_number _ _ _ _ e in omega arith)
  one_value (a_seq vs) (a_vec ws) r s e = absurd (let same = sign_number _ _ _ _ e in omega arith)
  one_value v w r s e = cc

  -- and with one list of items at most, where a sign closes it
  pub one_items : (vs ws : Values) (close : ℕ) (r s : List Token) → Closes close
      → items_tokens vs ++ (sign close ∷ r) ≡ items_tokens ws ++ (sign close ∷ s) → (vs ≡ ws) × (r ≡ s)
  one_items no_values no_values close r s c e = (refl, after_head _ _ r s e)
  one_items no_values (more_values w ws) close r s c e =
      absurd (no_value w close (further_tokens ws ++ (sign close ∷ s)) r c (sym (append_assoc (value_tokens w) (further_tokens ws) (sign close ∷ s)) ∙ sym e))
  one_items (more_values v vs) no_values close r s c e =
      absurd (no_value v close (further_tokens vs ++ (sign close ∷ r)) s c (sym (append_assoc (value_tokens v) (further_tokens vs) (sign close ∷ r)) ∙ e))
  one_items (more_values v vs) (more_values w ws) close r s c e =
      let f = one_value v w (further_tokens vs ++ (sign close ∷ r)) (further_tokens ws ++ (sign close ∷ s))
      (sym (append_assoc (value_tokens v) (further_tokens vs) (sign close ∷ r)) ∙ e ∙ append_assoc (value_tokens w) (further_tokens ws) (sign close ∷ s)) in
      let g = one_further vs ws close r s c f.1 in
      (ap (λ x. more_values x vs) f.0 ∙ ap (λ x. more_values w x) g.0, g.1)

  pub one_further : (vs ws : Values) (close : ℕ) (r s : List Token) → Closes close
      → further_tokens vs ++ (sign close ∷ r) ≡ further_tokens ws ++ (sign close ∷ s) → (vs ≡ ws) × (r ≡ s)
  one_further no_values no_values close r s c e = (refl, after_head _ _ r s e)
  one_further no_values (more_values w ws) close r s c e = absurd (no_comma close _ r c (sym e))
  one_further (more_values v vs) no_values close r s c e = absurd (no_comma close _ s c e)
  one_further (more_values v vs) (more_values w ws) close r s c e =
      let f = one_value v w (further_tokens vs ++ (sign close ∷ r)) (further_tokens ws ++ (sign close ∷ s))
      (sym (append_assoc (value_tokens v) (further_tokens vs) (sign close ∷ r)) ∙ after_head _ _ _ _ e ∙ append_assoc (value_tokens w) (further_tokens ws) (sign close ∷ s)) in
      let g = one_further vs ws close r s c f.1 in
      (ap (λ x. more_values x vs) f.0 ∙ ap (λ x. more_values w x) g.0, g.1)

-- some value of each type
some_value : (dialect : Dialect) → (t : Ty) → (v : Value) × HasType dialect v t
some_value One int = (an_int (pos 0), refl)
some_value Two int = (an_int (pos 0), refl)
some_value dialect bool = (a_bool true, tt)
some_value dialect (pair a b) = (a_pair (some_value dialect a).0 (some_value dialect b).0, ((some_value dialect a).1, (some_value dialect b).1))
some_value dialect (vec a) = (a_vec no_values, tt)
some_value dialect (seq a) = (a_seq no_values, tt)

-- all wants can be met
pub fillable : (dialect : Dialect) → (wants : List ToCome) → (us : List Token) × Fills dialect wants us
fillable dialect [] = ([], refl)
fillable dialect (one t ∷ wants) = let rest = fillable dialect wants in (t ∷ rest.0, (t ∷ [], rest.0, refl, refl, rest.1))
fillable dialect (perhaps t ∷ wants) = let rest = fillable dialect wants in (rest.0, ([], rest.0, refl, inl refl, rest.1))
fillable dialect (a_value t ∷ wants) =
    let rest = fillable dialect wants in
    let v = some_value dialect t in
    (value_tokens v.0 ++ rest.0, (value_tokens v.0, rest.0, refl, (v.0, v.1, refl), rest.1))
fillable dialect (items t close ∷ wants) = let rest = fillable dialect wants in (sign close ∷ rest.0, (sign close ∷ [], rest.0, refl, (no_values, tt, refl), rest.1))
fillable dialect (further_items t close ∷ wants) = let rest = fillable dialect wants in (sign close ∷ rest.0, (sign close ∷ [], rest.0, refl, (no_values, tt, refl), rest.1))

-- how a want is met, with what is left
pub one_in : (dialect : Dialect) → (t : Token) (wants : List ToCome) (us : List Token) → Fills dialect wants us → Fills dialect (one t ∷ wants) (t ∷ us)
one_in dialect t wants us f = (t ∷ [], us, refl, refl, f)

pub one_out : (dialect : Dialect) → (t : Token) (wants : List ToCome) (us : List Token) → Fills dialect (one t ∷ wants) us → (rest : List Token) × (us ≡ t ∷ rest) × Fills dialect wants rest
one_out dialect t wants us (these, rest, e, m, f) = (rest, e ∙ ap (λ l. l ++ rest) m, f)

pub value_in : (dialect : Dialect) → (t : Ty) (v : Value) (wants : List ToCome) (us : List Token) → HasType dialect v t → Fills dialect wants us →
    Fills dialect (a_value t ∷ wants) (value_tokens v ++ us)
value_in dialect t v wants us h f = (value_tokens v, us, refl, (v, h, refl), f)

pub value_out : (dialect : Dialect) → (t : Ty) (wants : List ToCome) (us : List Token) → Fills dialect (a_value t ∷ wants) us
    → (v : Value) × (rest : List Token) × HasType dialect v t × (us ≡ value_tokens v ++ rest) × Fills dialect wants rest
value_out dialect t wants us (these, rest, e, (v, h, m), f) = (v, rest, h, e ∙ ap (λ l. l ++ rest) m, f)

-- after a token that was wanted
pub after_one : (dialect : Dialect) → (text : List ℕ) (t : Token) (wants : List ToCome) (from place n : ℕ) → HasTokens text from (t ∷ []) place
    → StopsAt (Fills dialect wants) text place n → StopsAt (Fills dialect (one t ∷ wants)) text from n
after_one dialect text t wants from place n read s =
    stops_after (Fills dialect (one t ∷ wants)) (Fills dialect wants) text (t ∷ []) from place n read
    (one_in dialect t wants)
    (λ us f. let out = one_out dialect t wants (t ∷ us) f in subst (Fills dialect wants) (sym (after_head t t us out.0 out.1)) out.2)
    s

-- after a value that was wanted
pub after_value : (dialect : Dialect) → (text : List ℕ) (t : Ty) (v : Value) (wants : List ToCome) (from place n : ℕ) → HasType dialect v t → HasTokens text from (value_tokens v) place
    → StopsAt (Fills dialect wants) text place n → StopsAt (Fills dialect (a_value t ∷ wants)) text from n
after_value dialect text t v wants from place n h read s =
    stops_after (Fills dialect (a_value t ∷ wants)) (Fills dialect wants) text (value_tokens v) from place n read
    (λ us f. value_in dialect t v wants us h f)
    (λ us f.
    let out = value_out dialect t wants (value_tokens v ++ us) f in
    subst (Fills dialect wants) (sym (one_value v out.0 us out.1 out.3).1) out.4)
    s

-- where a token was wanted and another or none comes
pub another_one : (dialect : Dialect) → (text : List ℕ) (t : Token) (wants : List ToCome) (from : ℕ) → (next_token text from ≡ Some t → ⊥)
    → StopsAt (Fills dialect (one t ∷ wants)) text from (next_at text from)
another_one dialect text t wants from another =
    stops_first (Fills dialect (one t ∷ wants)) (λ u. u ≡ t) text from (fillable dialect (one t ∷ wants))
    (λ us f. let out = one_out dialect t wants us f in (t, out.0, out.1, refl))
    (λ u e same. another (e ∙ ap (λ x. Some x) same))

-- where an integer was wanted
int_opens : (dialect : Dialect) → (v : Value) (rest : List Token) → HasType dialect v int → (t : Token) × (others : List Token)
    × (value_tokens v ++ rest ≡ t ∷ others) × ((n : ℤ) × IsInteger dialect n × (t ≡ integer n))
int_opens dialect (an_int n) rest h = (integer n, rest, refl, (n, h, refl))
int_opens dialect (a_bool b) rest h = absurd h
int_opens dialect (a_pair v w) rest h = absurd h
int_opens dialect (a_vec vs) rest h = absurd h
int_opens dialect (a_seq vs) rest h = absurd h

pub no_integer : (dialect : Dialect) → (text : List ℕ) (wants : List ToCome) (from : ℕ) → ((n : ℤ) → IsInteger dialect n → next_token text from ≡ Some (integer n) → ⊥)
    → StopsAt (Fills dialect (a_value int ∷ wants)) text from (next_at text from)
no_integer dialect text wants from another =
    stops_first (Fills dialect (a_value int ∷ wants)) (λ t. (n : ℤ) × IsInteger dialect n × (t ≡ integer n)) text from (fillable dialect (a_value int ∷ wants))
    (λ us f. let out = value_out dialect int wants us f in let opened = int_opens dialect out.0 out.1 out.2 in (opened.0, opened.1, out.3 ∙ opened.2, opened.3))
    (λ t e same. another same.0 same.1 (e ∙ ap (λ x. Some x) same.2))

-- where a truth value was wanted
bool_opens : (dialect : Dialect) → (v : Value) (rest : List Token) → HasType dialect v bool
    → (t : Token) × (others : List Token) × (value_tokens v ++ rest ≡ t ∷ others) × ((t ≡ word (codes "true")) ⊎ (t ≡ word (codes "false")))
bool_opens dialect (an_int n) rest h = absurd h
bool_opens dialect (a_bool true) rest h = (word (codes "true"), rest, refl, inl refl)
bool_opens dialect (a_bool false) rest h = (word (codes "false"), rest, refl, inr refl)
bool_opens dialect (a_pair v w) rest h = absurd h
bool_opens dialect (a_vec vs) rest h = absurd h
bool_opens dialect (a_seq vs) rest h = absurd h

pub no_truth : (dialect : Dialect) → (text : List ℕ) (wants : List ToCome) (from : ℕ) → (next_token text from ≡ Some (word (codes "true")) → ⊥)
    → (next_token text from ≡ Some (word (codes "false")) → ⊥)
    → StopsAt (Fills dialect (a_value bool ∷ wants)) text from (next_at text from)
no_truth dialect text wants from untrue unfalse =
    stops_first (Fills dialect (a_value bool ∷ wants)) (λ t. (t ≡ word (codes "true")) ⊎ (t ≡ word (codes "false"))) text from (fillable dialect (a_value bool ∷ wants))
    (λ us f. let out = value_out dialect bool wants us f in let opened = bool_opens dialect out.0 out.1 out.2 in (opened.0, opened.1, out.3 ∙ opened.2, opened.3))
    (λ t e same. ⊎_elim (λ s. untrue (e ∙ ap (λ x. Some x) s)) (λ s. unfalse (e ∙ ap (λ x. Some x) s)) same)

-- a pair, part by part
pair_in : (dialect : Dialect) → (a b : Ty) (wants : List ToCome) (us : List Token)
    → Fills dialect (one left_paren ∷ a_value a ∷ one comma ∷ a_value b ∷ one right_paren ∷ wants) us → Fills dialect (a_value (pair a b) ∷ wants) us
pair_in dialect a b wants us f =
    let p = one_out dialect left_paren (a_value a ∷ one comma ∷ a_value b ∷ one right_paren ∷ wants) us f in
    let v = value_out dialect a (one comma ∷ a_value b ∷ one right_paren ∷ wants) p.0 p.2 in
    let q = one_out dialect comma (a_value b ∷ one right_paren ∷ wants) v.1 v.4 in
    let w = value_out dialect b (one right_paren ∷ wants) q.0 q.2 in
    let r = one_out dialect right_paren wants w.1 w.4 in
    let whole : us ≡ value_tokens (a_pair v.0 w.0) ++ r.0 =
    p.1 ∙ ap (λ l. left_paren ∷ l) (v.3 ∙ ap (λ l. value_tokens v.0 ++ l) (q.1 ∙ ap (λ l. comma ∷ l) (w.3 ∙ ap (λ l. value_tokens w.0 ++ l) r.1)))
    ∙ sym (pair_parts v.0 w.0 r.0) in
    (value_tokens (a_pair v.0 w.0), r.0, whole, (a_pair v.0 w.0, (v.2, w.2), refl), r.2)

pair_of : (dialect : Dialect) → (a b : Ty) (wants : List ToCome) (v : Value) (rest : List Token) → HasType dialect v (pair a b) → Fills dialect wants rest
    → Fills dialect (one left_paren ∷ a_value a ∷ one comma ∷ a_value b ∷ one right_paren ∷ wants) (value_tokens v ++ rest)
pair_of dialect a b wants (an_int n) rest h f = absurd h
pair_of dialect a b wants (a_bool x) rest h f = absurd h
pair_of dialect a b wants (a_pair v w) rest h f =
    subst (Fills dialect (one left_paren ∷ a_value a ∷ one comma ∷ a_value b ∷ one right_paren ∷ wants)) (sym (pair_parts v w rest))
    (one_in dialect left_paren (a_value a ∷ one comma ∷ a_value b ∷ one right_paren ∷ wants) (value_tokens v ++ (comma ∷ (value_tokens w ++ (right_paren ∷ rest))))
    (value_in dialect a v (one comma ∷ a_value b ∷ one right_paren ∷ wants) (comma ∷ (value_tokens w ++ (right_paren ∷ rest))) h.0
    (one_in dialect comma (a_value b ∷ one right_paren ∷ wants) (value_tokens w ++ (right_paren ∷ rest))
    (value_in dialect b w (one right_paren ∷ wants) (right_paren ∷ rest) h.1 (one_in dialect right_paren wants rest f)))))
pair_of dialect a b wants (a_vec vs) rest h f = absurd h
pair_of dialect a b wants (a_seq vs) rest h f = absurd h

pub pair_stops : (dialect : Dialect) → (text : List ℕ) (a b : Ty) (wants : List ToCome) (from n : ℕ)
    → StopsAt (Fills dialect (one left_paren ∷ a_value a ∷ one comma ∷ a_value b ∷ one right_paren ∷ wants)) text from n
    → StopsAt (Fills dialect (a_value (pair a b) ∷ wants)) text from n
pair_stops dialect text a b wants from n s =
    stops_after (Fills dialect (a_value (pair a b) ∷ wants)) (Fills dialect (one left_paren ∷ a_value a ∷ one comma ∷ a_value b ∷ one right_paren ∷ wants)) text [] from from n none
    (pair_in dialect a b wants)
    (λ us f. let out = value_out dialect (pair a b) wants us f in
    subst (Fills dialect (one left_paren ∷ a_value a ∷ one comma ∷ a_value b ∷ one right_paren ∷ wants)) (sym out.3) (pair_of dialect a b wants out.0 out.1 out.2 out.4))
    s

-- items and the sign that closes them
items_in : (dialect : Dialect) → (t : Ty) (close : ℕ) (vs : Values) (wants : List ToCome) (us : List Token) → AllHaveType dialect vs t → Fills dialect wants us
    → Fills dialect (items t close ∷ wants) (items_tokens vs ++ (sign close ∷ us))
items_in dialect t close vs wants us h f = (items_tokens vs ++ (sign close ∷ []), us, sym (append_assoc (items_tokens vs) (sign close ∷ []) us), (vs, h, refl), f)

items_out : (dialect : Dialect) → (t : Ty) (close : ℕ) (wants : List ToCome) (us : List Token) → Fills dialect (items t close ∷ wants) us
    → (vs : Values) × (rest : List Token) × AllHaveType dialect vs t × (us ≡ items_tokens vs ++ (sign close ∷ rest)) × Fills dialect wants rest
items_out dialect t close wants us (these, rest, e, (vs, h, m), f) =
    (vs, rest, h, e ∙ ap (λ l. l ++ rest) m ∙ append_assoc (items_tokens vs) (sign close ∷ []) rest, f)

further_in : (dialect : Dialect) → (t : Ty) (close : ℕ) (vs : Values) (wants : List ToCome) (us : List Token) → AllHaveType dialect vs t → Fills dialect wants us
    → Fills dialect (further_items t close ∷ wants) (further_tokens vs ++ (sign close ∷ us))
further_in dialect t close vs wants us h f = (further_tokens vs ++ (sign close ∷ []), us, sym (append_assoc (further_tokens vs) (sign close ∷ []) us), (vs, h, refl), f)

further_out : (dialect : Dialect) → (t : Ty) (close : ℕ) (wants : List ToCome) (us : List Token) → Fills dialect (further_items t close ∷ wants) us
    → (vs : Values) × (rest : List Token) × AllHaveType dialect vs t × (us ≡ further_tokens vs ++ (sign close ∷ rest)) × Fills dialect wants rest
further_out dialect t close wants us (these, rest, e, (vs, h, m), f) =
    (vs, rest, h, e ∙ ap (λ l. l ++ rest) m ∙ append_assoc (further_tokens vs) (sign close ∷ []) rest, f)

-- a first item and further ones
first_in : (dialect : Dialect) → (t : Ty) (close : ℕ) (wants : List ToCome) (us : List Token) → Fills dialect (a_value t ∷ further_items t close ∷ wants) us → Fills dialect (items t close ∷ wants) us
first_in dialect t close wants us f =
    let v = value_out dialect t (further_items t close ∷ wants) us f in
    let vs = further_out dialect t close wants v.1 v.4 in
    subst (Fills dialect (items t close ∷ wants))
    (append_assoc (value_tokens v.0) (further_tokens vs.0) (sign close ∷ vs.1) ∙ ap (λ l. value_tokens v.0 ++ l) (sym vs.3) ∙ sym v.3)
    (items_in dialect t close (more_values v.0 vs.0) wants vs.1 (v.2, vs.2) vs.4)

first_of_items : (dialect : Dialect) → (t : Ty) (close : ℕ) (wants : List ToCome) (us rest : List Token) (vs : Values) → AllHaveType dialect vs t → Fills dialect wants rest
    → us ≡ items_tokens vs ++ (sign close ∷ rest)
    → Fills dialect (a_value t ∷ further_items t close ∷ wants) us ⊎ ((others : List Token) × (us ≡ sign close ∷ others))
first_of_items dialect t close wants us rest no_values h f e = inr (rest, e)
first_of_items dialect t close wants us rest (more_values v vs) h f e =
    inl (subst (Fills dialect (a_value t ∷ further_items t close ∷ wants)) (sym (e ∙ append_assoc (value_tokens v) (further_tokens vs) (sign close ∷ rest)))
    (value_in dialect t v (further_items t close ∷ wants) (further_tokens vs ++ (sign close ∷ rest)) h.0 (further_in dialect t close vs wants rest h.1 f)))

pub first_item : (dialect : Dialect) → (text : List ℕ) (t : Ty) (close : ℕ) (wants : List ToCome) (from n : ℕ) → (next_token text from ≡ Some (sign close) → ⊥)
    → StopsAt (Fills dialect (a_value t ∷ further_items t close ∷ wants)) text from n → StopsAt (Fills dialect (items t close ∷ wants)) text from n
first_item dialect text t close wants from n another s =
    stops_unless (Fills dialect (items t close ∷ wants)) (Fills dialect (a_value t ∷ further_items t close ∷ wants)) text (sign close) from n another
    (first_in dialect t close wants)
    (λ us f. let out = items_out dialect t close wants us f in first_of_items dialect t close wants us out.1 out.0 out.2 out.4 out.3)
    s

-- a further item
comma_in : (dialect : Dialect) → (t : Ty) (close : ℕ) (wants : List ToCome) (us : List Token) → Fills dialect (one comma ∷ a_value t ∷ further_items t close ∷ wants) us
    → Fills dialect (further_items t close ∷ wants) us
comma_in dialect t close wants us f =
    let c = one_out dialect comma (a_value t ∷ further_items t close ∷ wants) us f in
    let v = value_out dialect t (further_items t close ∷ wants) c.0 c.2 in
    let vs = further_out dialect t close wants v.1 v.4 in
    subst (Fills dialect (further_items t close ∷ wants))
    (ap (λ l. comma ∷ l) (append_assoc (value_tokens v.0) (further_tokens vs.0) (sign close ∷ vs.1) ∙ ap (λ l. value_tokens v.0 ++ l) (sym vs.3) ∙ sym v.3) ∙ sym c.1)
    (further_in dialect t close (more_values v.0 vs.0) wants vs.1 (v.2, vs.2) vs.4)

comma_of_items : (dialect : Dialect) → (t : Ty) (close : ℕ) (wants : List ToCome) (us rest : List Token) (vs : Values) → AllHaveType dialect vs t → Fills dialect wants rest
    → us ≡ further_tokens vs ++ (sign close ∷ rest)
    → Fills dialect (one comma ∷ a_value t ∷ further_items t close ∷ wants) us ⊎ ((others : List Token) × (us ≡ sign close ∷ others))
comma_of_items dialect t close wants us rest no_values h f e = inr (rest, e)
comma_of_items dialect t close wants us rest (more_values v vs) h f e =
    inl (subst (Fills dialect (one comma ∷ a_value t ∷ further_items t close ∷ wants))
    (sym (e ∙ ap (λ l. comma ∷ l) (append_assoc (value_tokens v) (further_tokens vs) (sign close ∷ rest))))
    (one_in dialect comma (a_value t ∷ further_items t close ∷ wants) (value_tokens v ++ (further_tokens vs ++ (sign close ∷ rest)))
    (value_in dialect t v (further_items t close ∷ wants) (further_tokens vs ++ (sign close ∷ rest)) h.0 (further_in dialect t close vs wants rest h.1 f))))

pub later_item : (dialect : Dialect) → (text : List ℕ) (t : Ty) (close : ℕ) (wants : List ToCome) (from n : ℕ) → (next_token text from ≡ Some (sign close) → ⊥)
    → StopsAt (Fills dialect (one comma ∷ a_value t ∷ further_items t close ∷ wants)) text from n → StopsAt (Fills dialect (further_items t close ∷ wants)) text from n
later_item dialect text t close wants from n another s =
    stops_unless (Fills dialect (further_items t close ∷ wants)) (Fills dialect (one comma ∷ a_value t ∷ further_items t close ∷ wants)) text (sign close) from n another
    (comma_in dialect t close wants)
    (λ us f. let out = further_out dialect t close wants us f in comma_of_items dialect t close wants us out.1 out.0 out.2 out.4 out.3)
    s

-- vectors and sequences
bracket_in : (dialect : Dialect) → (a : Ty) (wants : List ToCome) (us : List Token) → Fills dialect (one left_bracket ∷ items a 93 ∷ wants) us → Fills dialect (a_value (vec a) ∷ wants) us
bracket_in dialect a wants us f =
    let p = one_out dialect left_bracket (items a 93 ∷ wants) us f in
    let vs = items_out dialect a 93 wants p.0 p.2 in
    subst (Fills dialect (a_value (vec a) ∷ wants)) (vec_parts vs.0 vs.1 ∙ ap (λ l. left_bracket ∷ l) (sym vs.3) ∙ sym p.1)
    (value_in dialect (vec a) (a_vec vs.0) wants vs.1 vs.2 vs.4)

bracket_of : (dialect : Dialect) → (a : Ty) (wants : List ToCome) (v : Value) (rest : List Token) → HasType dialect v (vec a) → Fills dialect wants rest
    → Fills dialect (one left_bracket ∷ items a 93 ∷ wants) (value_tokens v ++ rest)
bracket_of dialect a wants (an_int n) rest h f = absurd h
bracket_of dialect a wants (a_bool x) rest h f = absurd h
bracket_of dialect a wants (a_pair v w) rest h f = absurd h
bracket_of dialect a wants (a_vec vs) rest h f =
    subst (Fills dialect (one left_bracket ∷ items a 93 ∷ wants)) (sym (vec_parts vs rest))
    (one_in dialect left_bracket (items a 93 ∷ wants) (items_tokens vs ++ (right_bracket ∷ rest)) (items_in dialect a 93 vs wants rest h f))
bracket_of dialect a wants (a_seq vs) rest h f = absurd h

pub vec_stops : (dialect : Dialect) → (text : List ℕ) (a : Ty) (wants : List ToCome) (from n : ℕ) → StopsAt (Fills dialect (one left_bracket ∷ items a 93 ∷ wants)) text from n
    → StopsAt (Fills dialect (a_value (vec a) ∷ wants)) text from n
vec_stops dialect text a wants from n s =
    stops_after (Fills dialect (a_value (vec a) ∷ wants)) (Fills dialect (one left_bracket ∷ items a 93 ∷ wants)) text [] from from n none
    (bracket_in dialect a wants)
    (λ us f. let out = value_out dialect (vec a) wants us f in
    subst (Fills dialect (one left_bracket ∷ items a 93 ∷ wants)) (sym out.3) (bracket_of dialect a wants out.0 out.1 out.2 out.4))
    s

brace_in : (dialect : Dialect) → (a : Ty) (wants : List ToCome) (us : List Token) → Fills dialect (one left_brace ∷ items a 125 ∷ wants) us → Fills dialect (a_value (seq a) ∷ wants) us
brace_in dialect a wants us f =
    let p = one_out dialect left_brace (items a 125 ∷ wants) us f in
    let vs = items_out dialect a 125 wants p.0 p.2 in
    subst (Fills dialect (a_value (seq a) ∷ wants)) (seq_parts vs.0 vs.1 ∙ ap (λ l. left_brace ∷ l) (sym vs.3) ∙ sym p.1)
    (value_in dialect (seq a) (a_seq vs.0) wants vs.1 vs.2 vs.4)

brace_of : (dialect : Dialect) → (a : Ty) (wants : List ToCome) (v : Value) (rest : List Token) → HasType dialect v (seq a) → Fills dialect wants rest
    → Fills dialect (one left_brace ∷ items a 125 ∷ wants) (value_tokens v ++ rest)
brace_of dialect a wants (an_int n) rest h f = absurd h
brace_of dialect a wants (a_bool x) rest h f = absurd h
brace_of dialect a wants (a_pair v w) rest h f = absurd h
brace_of dialect a wants (a_vec vs) rest h f = absurd h
brace_of dialect a wants (a_seq vs) rest h f =
    subst (Fills dialect (one left_brace ∷ items a 125 ∷ wants)) (sym (seq_parts vs rest))
    (one_in dialect left_brace (items a 125 ∷ wants) (items_tokens vs ++ (right_brace ∷ rest)) (items_in dialect a 125 vs wants rest h f))

pub seq_stops : (dialect : Dialect) → (text : List ℕ) (a : Ty) (wants : List ToCome) (from n : ℕ) → StopsAt (Fills dialect (one left_brace ∷ items a 125 ∷ wants)) text from n
    → StopsAt (Fills dialect (a_value (seq a) ∷ wants)) text from n
seq_stops dialect text a wants from n s =
    stops_after (Fills dialect (a_value (seq a) ∷ wants)) (Fills dialect (one left_brace ∷ items a 125 ∷ wants)) text [] from from n none
    (brace_in dialect a wants)
    (λ us f. let out = value_out dialect (seq a) wants us f in
    subst (Fills dialect (one left_brace ∷ items a 125 ∷ wants)) (sym out.3) (brace_of dialect a wants out.0 out.1 out.2 out.4))
    s

-- the error after a `?`
pub passed_on : {A : Type 0} (P : InputError → Type 0) (r : Result A InputError) (e : InputError) → IsErrAnd r (λ x. x ≡ e) → P e → IfErr r P
passed_on P (Ok x) e h p = tt
passed_on P (Err x) e h p = subst P (sym h) p

-- of what a whole wants from an offset on these wants are left at this place
pub record Leaves (dialect : Dialect) (text : List ℕ) (whole : List ToCome) (from : ℕ) (left : List ToCome) (place : ℕ) : Type 0 where
  pub stops : (n : ℕ) (further : List ToCome) → StopsAt (Fills dialect (left ++ further)) text place n → StopsAt (Fills dialect (whole ++ further)) text from n

module _ {dialect : Dialect} {text : List ℕ} where
  -- at first all are left
  pub leaves_all : {whole : List ToCome} {from : ℕ} → Leaves dialect text whole from whole from
  leaves_all = record { stops = λ n further s. s }

  pub leaves_pair : {a b : Ty} {from : ℕ} → Leaves dialect text (a_value (pair a b) ∷ []) from (one left_paren ∷ a_value a ∷ one comma ∷ a_value b ∷ one right_paren ∷ []) from
  leaves_pair {a = a} {b = b} {from = from} = record { stops = λ n further. pair_stops dialect text a b further from n }

  pub leaves_vec : {a t : Ty} {from : ℕ} → vec a ≡ t → Leaves dialect text (a_value t ∷ []) from (one left_bracket ∷ items a 93 ∷ []) from
  leaves_vec {a = a} {from = from} same =
      subst (λ u. Leaves dialect text (a_value u ∷ []) from (one left_bracket ∷ items a 93 ∷ []) from) same (record { stops = λ n further. vec_stops dialect text a further from n })

  pub leaves_seq : {a t : Ty} {from : ℕ} → seq a ≡ t → Leaves dialect text (a_value t ∷ []) from (one left_brace ∷ items a 125 ∷ []) from
  leaves_seq {a = a} {from = from} same =
      subst (λ u. Leaves dialect text (a_value u ∷ []) from (one left_brace ∷ items a 125 ∷ []) from) same (record { stops = λ n further. seq_stops dialect text a further from n })

  module _ {whole left : List ToCome} {from place next : ℕ} where
    -- a token, a value or the first of the items less
    pub past_one : {t : Token} → Leaves dialect text whole from (one t ∷ left) place → IsNextToken text place t next → Leaves dialect text whole from left next
    past_one {t = t} l taken = record { stops = λ n further s. l.stops n further (after_one dialect text t (left ++ further) place next n taken.reads s) }

    pub past_value : {t : Ty} {v : Value} → Leaves dialect text whole from (a_value t ∷ left) place → IsValueRead dialect text place t v next → Leaves dialect text whole from left next
    past_value {t = t} {v = v} l read =
        record { stops = λ n further s. l.stops n further (after_value dialect text t v (left ++ further) place next n read.has_type read.reads s) }

  module _ {whole left : List ToCome} {from place : ℕ} {t : Ty} {close : ℕ} where
    pub at_first_item : Leaves dialect text whole from (items t close ∷ left) place → (next_token text place ≡ Some (sign close) → ⊥)
        → Leaves dialect text whole from (a_value t ∷ further_items t close ∷ left) place
    at_first_item l another = record { stops = λ n further s. l.stops n further (first_item dialect text t close (left ++ further) place n another s) }

    pub at_later_item : Leaves dialect text whole from (further_items t close ∷ left) place → (next_token text place ≡ Some (sign close) → ⊥)
        → Leaves dialect text whole from (one comma ∷ a_value t ∷ further_items t close ∷ left) place
    at_later_item l another = record { stops = λ n further s. l.stops n further (later_item dialect text t close (left ++ further) place n another s) }

  -- where a part that is wanted next stops, the whole stops
  pub stops_part : {whole left : List ToCome} {part : ToCome} {from place : ℕ} → Leaves dialect text whole from (part ∷ left) place
      → (n : ℕ) → ((further : List ToCome) → StopsAt (Fills dialect (part ∷ further)) text place n)
      → (further : List ToCome) → StopsAt (Fills dialect (whole ++ further)) text from n
  stops_part {left = left} l n s further = l.stops n further (s (left ++ further))

  -- and its error is one of the whole, after a `?` too
  pub stop_passed : {A : Type 0} {whole left : List ToCome} {part : ToCome} {from place : ℕ} → Leaves dialect text whole from (part ∷ left) place
      → (r : Result A InputError) (e : InputError) → IsErrAnd r (λ x. x ≡ e) → IsStop dialect (part ∷ []) text place e → IfErr r (IsStop dialect whole text from)
  stop_passed {whole = whole} {left = left} {part = part} {from = from} {place = place} l r e h s = passed_on (IsStop dialect whole text from) r e h (by_error e s)
    where
      by_error : (e : InputError) → IsStop dialect (part ∷ []) text place e → IsStop dialect whole text from e
      by_error (Bad n) s = stops_part l n s
      by_error NoMemory s = tt
