-- What is left to write after a byte that a scanner passes over: the same as before it.
use Rattle.std.proofs.Common.{◌≡◌, ℕ, zero, suc, ℤ, pos, ◌+◌, ◌-◌, ◌<◌, ◌≤◌, Bool, true, false, cond, eqb, List, [], ◌∷◌, length, drop, get_or}
use Rattle.std.proofs.Common.{option_map, Option, Some, None, refl, sym, ap, ◌∙◌, subst, arith, drop-drop, length-drop}
use Rattle.std.proofs.lemmas.Bool.{cond-true, cond-false}
use Rattle.std.specs.Str.{bytes_eq}
use Rattle.std.specs.Prelude.{not, ◌==◌, ◌&&◌, IsTrue, codes}
use Rattle.std.specs.List.{prefix_len, take_while, list_any}
use Rattle.std.proofs.lemmas.List.{drop_more}
use Rattle.std.proofs.lemmas.List.Sums.{prefix_len-le-length}
use Rattle.std.proofs.lemmas.List.Folds.{length-prefix_len}
use Rattle.std.proofs.lemmas.Bool.Decides.{nat_tests}
use Rattle.std.specs.Char.{is_ascii_digit, is_ascii_alphabetic}
use Rattle.snesl_data.specs.Blanks.{is_blank}
use Rattle.snesl_data.specs.Characters.{is_word, value_from}
use Rattle.snesl_data.specs.declared.dialect.Dialect.TheVariants.{Two}
use Rattle.snesl_data.specs.Integers.{is_integer}
use Rattle.snesl_values.specs.InputTokens.{SizedToken, word, integer, sign, bad, is_sign, negated, minus_lexeme, first, next_lexeme, next_at}
use Rattle.snesl_values.specs.declared.marks.Mark.{Mark}
use Rattle.snesl_values.specs.declared.marks.Mark.TheVariants.{Truth, Number, Open, Close, Comma, Other}
use Rattle.snesl_values.specs.Marks.{found_from, mark_of, sign_mark, word_mark}
use Rattle.snesl_values.proofs.InputScan.{next_at-is}
use Rattle.snesl_values.proofs.First.{seen, a_sign}
use Rattle.snesl_values.proofs.Spots.{found_some, Comes, Next, nothing, lexeme, next_is}
use Rattle.flow_nodes.specs.declared.inputs.turns.Component.{Component}
use Rattle.flow_nodes.specs.declared.inputs.turns.Leaf.{Leaf}
use Rattle.flow_nodes.specs.declared.inputs.turns.Mode.{Mode}
use Rattle.flow_nodes.specs.declared.inputs.turns.Piece.{Piece}
use Rattle.flow_nodes.specs.inputs.Turns.{Transition, turn, state, writes_nothing}
use Rattle.flow_nodes.specs.inputs.Passing.{Passes, PassesParts, depth_after, SameLeft}
use Rattle.flow_nodes.specs.inputs.Left.{left}
use Rattle.flow_nodes.proofs.OfInputs.Lefts.{after_turn, left_turn, left_none}

-- neither a bracket nor a comma
abbrev is_plain : ℕ → Bool
is_plain b = not (list_any (λ c. c == b) (codes ",()[]{}"))

-- at least as many bytes at the front pass the weaker of two tests
prefix-most : (p q : ℕ → Bool) → ((b : ℕ) → p b ≡ true → q b ≡ true) → (bs : List ℕ) → prefix_len p bs ≤ prefix_len q bs
prefix-most p q weaker [] = omega arith
prefix-most p q weaker (b ∷ bs) = by_test (p b) refl (prefix-most p q weaker bs)
  where
    by_test : (t : Bool) → p b ≡ t → prefix_len p bs ≤ prefix_len q bs → cond t (1 + prefix_len p bs) 0 ≤ cond (q b) (1 + prefix_len q bs) 0
    by_test true e h = let f : cond (q b) (1 + prefix_len q bs) 0 ≡ 1 + prefix_len q bs = cond-true _ _ _ (weaker b e) in omega (arith, f, h)
    by_test false e h = omega arith

-- after some bytes that pass a test
prefix-behind : (p : ℕ → Bool) (n : ℕ) (bs : List ℕ) → n ≤ prefix_len p bs → n + prefix_len p (drop n bs) ≡ prefix_len p bs
prefix-behind p zero bs h = omega arith
prefix-behind p (suc n) [] h = absurd (omega arith)
prefix-behind p (suc n) (b ∷ bs) h = by_test (p b) h (prefix-behind p n bs)
  where
    by_test : (t : Bool) → suc n ≤ cond t (1 + prefix_len p bs) 0 → (n ≤ prefix_len p bs → n + prefix_len p (drop n bs) ≡ prefix_len p bs)
        → suc n + prefix_len p (drop n bs) ≡ cond t (1 + prefix_len p bs) 0
    by_test true h same = let f = same (omega arith) in omega (arith, f)
    by_test false h same = absurd (omega arith)

-- the offset after the bytes that stand here and pass a test
abbrev end_of : (ℕ → Bool) → List ℕ → ℕ → ℕ
end_of p text at = at + prefix_len p (drop at text)

-- it is the same from between them
end-between : (p : ℕ → Bool) (text : List ℕ) (at n : ℕ) → n ≤ prefix_len p (drop at text) → end_of p text (at + n) ≡ end_of p text at
end-between p text at n h =
    let f : prefix_len p (drop n (drop at text)) ≡ prefix_len p (drop (at + n) text) = ap (prefix_len p) (drop-drop n at text) in
    let g = prefix-behind p n (drop at text) h in
    omega (arith, f, g)

end-inside : (p : ℕ → Bool) (text : List ℕ) (at : ℕ) → at ≤ length text → end_of p text at ≤ length text
end-inside p text at within = omega (arith, prefix_len-le-length p (drop at text), length-drop at text)

-- a mark at which a scanner that counts brackets goes on as before
abbrev Calm : Mark → Type 0
Calm (Open b) = ⊥
Calm (Close b) = ⊥
Calm Comma = ⊥
Calm mark = Unit {0}

calm_word : (letters : List ℕ) → Calm (word_mark letters)
calm_word letters = by_tests (bytes_eq letters (codes "true")) (bytes_eq letters (codes "false"))
  where
    by_tests : (t u : Bool) → Calm (cond t (Truth true) (cond u (Truth false) Other))
    by_tests true u = tt
    by_tests false true = tt
    by_tests false false = tt

calm_integer : (n : ℤ) → Calm (mark_of (integer n))
calm_integer n = by_range (is_integer Two n)
  where
    by_range : (t : Bool) → Calm (cond t (Number n) Other)
    by_range true = tt
    by_range false = tt

other_sign : (b : ℕ) → is_plain b ≡ true → sign_mark b ≡ Other
other_sign b plain = grind (arith, nat_tests)

calm_sign : (b : ℕ) → is_plain b ≡ true → Calm (sign_mark b)
calm_sign b plain = subst Calm (sym (other_sign b plain)) tt

-- a token of plain bytes
record IsPlain (bytes : List ℕ) (o : Option SizedToken) : Type 0 where
  token : SizedToken
  is : o ≡ Some token
  most : token.1 ≤ prefix_len is_plain bytes
  calm : Calm (mark_of token.0)

word_plain : (b : ℕ) → is_word b ≡ true → is_plain b ≡ true
word_plain b h = grind (arith, nat_tests)

digit_plain : (b : ℕ) → is_ascii_digit b ≡ true → is_plain b ≡ true
digit_plain b h = grind (arith, nat_tests)

blank_plain : (b : ℕ) → is_blank b ≡ true → is_plain b ≡ true
blank_plain b h = grind (arith, nat_tests)

-- as many bytes as pass a stronger test are plain
taken_plain : (p : ℕ → Bool) → ((b : ℕ) → p b ≡ true → is_plain b ≡ true) → (bs : List ℕ) → length (take_while p bs) ≤ prefix_len is_plain bs
taken_plain p weaker bs = omega (arith, length-prefix_len p bs, prefix-most p is_plain weaker bs)

plain_minus : (bytes digits : List ℕ) → suc (length digits) ≤ prefix_len is_plain bytes → IsPlain bytes (Some (minus_lexeme digits))
plain_minus bytes [] h = record { token = (bad, 1); is = refl; most = omega arith; calm = tt }
plain_minus bytes (d ∷ ds) h = record {
  token = (integer (negated (value_from 0 (d ∷ ds))), suc (length (d ∷ ds)));
  is = refl;
  most = h;
  calm = calm_integer (negated (value_from 0 (d ∷ ds)));
}

-- such a token stands first where a plain byte does
plain_first : (b : ℕ) (bs : List ℕ) → is_plain b ≡ true → IsPlain (b ∷ bs) (first (b ∷ bs))
unfolding first
plain_first b bs plain = by_class (is_ascii_alphabetic b) (is_ascii_digit b) (eqb b 45) (is_sign b)
  where
    some : prefix_len is_plain (b ∷ bs) ≡ 1 + prefix_len is_plain bs
    some = cond-true _ _ _ plain

    by_class : (t u v w : Bool)
        → IsPlain (b ∷ bs) (cond t (Some (word (take_while is_word (b ∷ bs)), length (take_while is_word (b ∷ bs))))
        (cond u (Some (integer (pos (value_from 0 (take_while is_ascii_digit (b ∷ bs)))), length (take_while is_ascii_digit (b ∷ bs))))
        (cond v (Some (minus_lexeme (take_while is_ascii_digit bs))) (cond w (Some (sign b, 1)) (Some (bad, 1))))))
    by_class true u v w =
        record {
          token = (word (take_while is_word (b ∷ bs)), length (take_while is_word (b ∷ bs)));
          is = refl;
          most =
              taken_plain is_word word_plain (b ∷ bs);
          calm = calm_word (take_while is_word (b ∷ bs));
        }
    by_class false true v w =
        record {
          token = (integer (pos (value_from 0 (take_while is_ascii_digit (b ∷ bs)))), length (take_while is_ascii_digit (b ∷ bs)));
          is = refl;
          most = taken_plain is_ascii_digit digit_plain (b ∷ bs);
          calm = calm_integer (pos (value_from 0 (take_while is_ascii_digit (b ∷ bs))));
        }
    by_class false false true w = plain_minus (b ∷ bs) (take_while is_ascii_digit bs) (omega (arith, some, taken_plain is_ascii_digit digit_plain bs))
    by_class false false false true = record { token = (sign b, 1); is = refl; most = omega (arith, some); calm = calm_sign b plain }
    by_class false false false false = record { token = (bad, 1); is = refl; most = omega (arith, some); calm = tt }

-- what comes next ends in the text
comes_is : (text : List ℕ) (at : ℕ) (l : SizedToken) → at ≤ length text → next_lexeme text at ≡ Some l → Comes text at l
comes_is text at l within e = by_next (next_lexeme text at) (next_is text at within) e
  where
    by_next : (o : Option SizedToken) → Next text at o → o ≡ Some l → Comes text at l
    by_next None nothing f = absurd (cc)
    by_next (Some x) (lexeme _ there) f = let same : x ≡ l = cc in subst (Comes text at) same there

-- the same token comes next where the same byte is next that is no blank
next-same : (text : List ℕ) (at other : ℕ) → next_at text at ≡ next_at text other → next_lexeme text at ≡ next_lexeme text other
unfolding next_lexeme
next-same text at other e = ap (λ n. first (drop n text)) e

next-first : (text : List ℕ) (at : ℕ) → next_at text at ≡ at → next_lexeme text at ≡ first (drop at text)
unfolding next_lexeme
next-first text at e = ap (λ n. first (drop n text)) e

module _ (text : List ℕ) (way : List Component) (leaf : Leaf) (level : ℕ) (mode : ℕ → Mode) (passes : Passes way leaf level mode) (depth : ℕ) where
  -- what is left to write from an offset on, in the same state
  abbrev left_from : ℕ → List Piece
  left_from at = left text way leaf at (state level (mode depth))

  -- after plain bytes it is the same
  abbrev Skips : ℕ → Type 0
  Skips at = left_from at ≡ left_from (end_of is_plain text at)

  calm_turn : (mark : Mark) → Calm mark → (place : ℕ) → turn way leaf (state level (mode depth)) mark place ≡ writes_nothing level (mode depth)
  calm_turn (Truth b) h place = passes.truths depth place b
  calm_turn (Number n) h place = passes.numbers depth place n
  calm_turn Other h place = passes.others depth place
  calm_turn _ h place = absurd h

  -- the same is left where the same token is next
  left_same : (at other : ℕ) → at ≤ length text → other ≤ length text → next_at text at ≡ next_at text other → left_from at ≡ left_from other
  left_same at other within inside e = by_next (next_lexeme text at) refl
    where
      by_next : (o : Option SizedToken) → next_lexeme text at ≡ o → left_from at ≡ left_from other
      by_next None f =
          left_none text way leaf at (state level (mode depth)) f
          ∙ sym (left_none text way leaf other (state level (mode depth)) (sym (next-same text at other e) ∙ f))
      by_next (Some l) f =
          left_turn text way leaf at (state level (mode depth)) l within f
          ∙ ap (λ (u : Transition). after_turn text way leaf u (next_at text at + l.1)) (passes.anywhere depth at other (mark_of l.0))
          ∙ ap (λ n. after_turn text way leaf (turn way leaf (state level (mode depth)) (mark_of l.0) other) (n + l.1)) e
          ∙ sym (left_turn text way leaf other (state level (mode depth)) l inside (sym (next-same text at other e) ∙ f))

  -- after a token that is passed over
  left_after : (at : ℕ) (l : SizedToken) → at ≤ length text → next_at text at ≡ at → next_lexeme text at ≡ Some l → Calm (mark_of l.0) → left_from at ≡ left_from (at + l.1)
  left_after at l within here e calm =
      left_turn text way leaf at (state level (mode depth)) l within e
      ∙ ap (λ (u : Transition). after_turn text way leaf u (next_at text at + l.1)) (calm_turn (mark_of l.0) calm at)
      ∙ ap (λ n. left_from (n + l.1)) here

  -- where no blank stands, token by token
  skips_tokens : (n at : ℕ) → at ≤ length text → length text - at ≤ suc n → next_at text at ≡ at
      → ((later : ℕ) → later ≤ length text → length text - later ≤ n → Skips later) → Skips at
  skips_tokens n at within few here later = by_bytes (drop at text) refl
    where
      none_plain : prefix_len is_plain (drop at text) ≡ 0 → Skips at
      none_plain e = ap left_from (omega (arith, e))

      by_byte : (b : ℕ) (bs : List ℕ) → drop at text ≡ b ∷ bs → (t : Bool) → is_plain b ≡ t → Skips at
      by_byte b bs e false h = none_plain (ap (prefix_len is_plain) e ∙ cond-false _ _ _ h)
      by_byte b bs e true h =
          let w = plain_first b bs h in
          let l : SizedToken = w.token in
          let is : next_lexeme text at ≡ Some l = next-first text at here ∙ ap first e ∙ w.is in
          let comes = comes_is text at l within is in
          let most : l.1 ≤ prefix_len is_plain (drop at text) = subst (λ bytes. l.1 ≤ prefix_len is_plain bytes) (sym e) w.most in
          left_after at l within here is w.calm
          ∙ later (at + l.1) (omega (arith, here, comes.within)) (omega (arith, here, comes.moves))
          ∙ ap left_from (end-between is_plain text at l.1 most)

      by_bytes : (bs : List ℕ) → drop at text ≡ bs → Skips at
      by_bytes [] e = none_plain (ap (prefix_len is_plain) e)
      by_bytes (b ∷ bs) e = by_byte b bs e (is_plain b) refl

  -- blanks first
  skips : (n at : ℕ) → at ≤ length text → length text - at ≤ n → Skips at
  skips zero at within few = ap left_from (omega (arith, end-inside is_plain text at within))
  skips (suc n) at within few =
      let blanks : ℕ = prefix_len is_blank (drop at text) in
      let inside : at + blanks ≤ length text = end-inside is_blank text at within in
      let here : next_at text (at + blanks) ≡ at + blanks = next_at-is text (at + blanks) ∙ end-between is_blank text at blanks (omega arith) in
      left_same at (at + blanks) within inside (next_at-is text at ∙ sym here)
      ∙ skips_tokens n (at + blanks) inside (omega arith) here (skips n)
      ∙ ap left_from (end-between is_plain text at blanks (prefix-most is_blank is_plain blank_plain (drop at text)))

  -- after one plain byte
  skips_byte : (at b : ℕ) (bs : List ℕ) → at < length text → drop at text ≡ b ∷ bs → is_plain b ≡ true → left_from at ≡ left_from (at + 1)
  skips_byte at b bs inside e plain =
      let some : 1 ≤ prefix_len is_plain (drop at text) = omega (arith, ap (prefix_len is_plain) e ∙ cond-true _ _ _ plain) in
      skips (length text - at) at (omega arith) (omega arith)
      ∙ sym (ap left_from (end-between is_plain text at 1 some))
      ∙ sym (skips (length text - (at + 1)) (at + 1) (omega arith) (omega arith))

-- what a byte is that is not plain
not_blank : (b : ℕ) → is_plain b ≡ false → is_blank b ≡ false
not_blank b h = grind (arith, nat_tests)

not_letter : (b : ℕ) → is_plain b ≡ false → is_ascii_alphabetic b ≡ false
not_letter b h = grind (arith, nat_tests)

not_digit : (b : ℕ) → is_plain b ≡ false → is_ascii_digit b ≡ false
not_digit b h = grind (arith, nat_tests)

not_minus : (b : ℕ) → is_plain b ≡ false → b ≡ 45 → ⊥
not_minus b h e = grind (arith, nat_tests)

some_same : {A : Type 0} {a b : A} → Some a ≡ Some b → a ≡ b
some_same e = cc

-- the token that such a byte is
record IsSign (b : ℕ) (o : Option SizedToken) : Type 0 where
  token : SizedToken
  is : o ≡ Some token
  mark : mark_of token.0 ≡ sign_mark b
  one : token.1 ≡ 1

sign_first : (b : ℕ) (bs : List ℕ) → is_plain b ≡ false → IsSign b (first (b ∷ bs))
sign_first b bs h = by_first (first (b ∷ bs)) (a_sign (b ∷ bs) (omega arith) (not_letter b h) (not_digit b h) (not_minus b h))
  where
    by_first : (o : Option SizedToken) → Some (sign_mark b, 1) ≡ option_map seen o → IsSign b o
    by_first None e = absurd (cc)
    by_first (Some l) e = let f = some_same e in record { token = l; is = refl; mark = sym (ap (λ s. s.0) f); one = sym (ap (λ s. s.1) f) }

-- where no byte is passed over as a blank
none_blank : (text : List ℕ) (at b : ℕ) (bs : List ℕ) → drop at text ≡ b ∷ bs → is_blank b ≡ false → next_at text at ≡ at
none_blank text at b bs e h = let f : prefix_len is_blank (drop at text) ≡ 0 = ap (prefix_len is_blank) e ∙ cond-false _ _ _ h in omega (arith, next_at-is text at, f)

-- after the last byte no blank is passed over
pub end_at : (text : List ℕ) (at : ℕ) → length text ≤ at → at ≡ next_at text at
end_at text at over = omega (arith, next_at-is text at, prefix_len-le-length is_blank (drop at text), length-drop at text)

-- what is found where such a byte stands
pub sign_found : (text : List ℕ) (at : ℕ) → at < length text → (sign_mark (get_or text at 0) ≡ Other → ⊥)
    → Some (record { mark = sign_mark (get_or text at 0); end = at + 1 }) ≡ found_from (next_at text at) (next_lexeme text at)
sign_found text at inside other = by_test (is_plain b) refl
  where
    b : ℕ
    b = get_or text at 0

    here : drop at text ≡ b ∷ drop (at + 1) text
    here = drop_more text at 0 inside

    by_test : (t : Bool) → is_plain b ≡ t → Some (record { mark = sign_mark b; end = at + 1 }) ≡ found_from (next_at text at) (next_lexeme text at)
    by_test true plain = absurd (other (other_sign b plain))
    by_test false h =
        found_some text at at (sign_mark b, 1) (sym (none_blank text at b (drop (at + 1) text) here (not_blank b h)))
        (a_sign (b ∷ drop (at + 1) text) (omega arith) (not_letter b h) (not_digit b h) (not_minus b h) ∙ ap (λ bytes. option_map seen (first bytes)) (sym here))

nonzero : (n : ℕ) → eqb n 0 ≡ false → 0 < n
nonzero n h = grind (arith, nat_tests)

-- the depth after a closing bracket that is passed over, and after a comma
after_close : (depth deeper : ℕ) → cond (depth == 0) None (Some (depth - 1)) ≡ Some deeper → depth ≡ deeper + 1
after_close depth deeper e = by_test (eqb depth 0) refl e
  where
    by_test : (t : Bool) → eqb depth 0 ≡ t → cond t None (Some (depth - 1)) ≡ Some deeper → depth ≡ deeper + 1
    by_test true h e = absurd (cc)
    by_test false h e = omega (arith, some_same e, nonzero depth h)

after_comma : (depth deeper : ℕ) (t : Bool) → cond t None (Some depth) ≡ Some deeper → (t ≡ false) × (depth ≡ deeper)
after_comma depth deeper true e = absurd (cc)
after_comma depth deeper false e = (refl, some_same e)

-- a turn by a mark that is passed over
turn_past : (way : List Component) (leaf : Leaf) (level : ℕ) (mode : ℕ → Mode) → Passes way leaf level mode → (commas : Bool) → (IsTrue commas → PassesParts way leaf level mode 0)
    → (mark : Mark) (depth deeper place : ℕ) → depth_after mark depth commas ≡ Some deeper → turn way leaf (state level (mode depth)) mark place ≡ writes_nothing level (mode deeper)
turn_past way leaf level mode p commas q (Open b) depth deeper place e = p.opens depth place b ∙ ap (λ n. writes_nothing level (mode n)) (some_same e)
turn_past way leaf level mode p commas q (Close b) depth deeper place e = ap (λ n. turn way leaf (state level (mode n)) (Close b) place) (after_close depth deeper e) ∙ p.closes deeper place b
turn_past way leaf level mode p commas q Comma depth deeper place e =
    let w = after_comma depth deeper (depth == 0 && not commas) e in
    by_depth depth commas q w.0 ∙ ap (λ n. writes_nothing level (mode n)) w.1
  where
    by_depth : (depth : ℕ) (commas : Bool) → (IsTrue commas → PassesParts way leaf level mode 0) → (depth == 0 && not commas) ≡ false →
        turn way leaf (state level (mode depth)) Comma place ≡ writes_nothing level (mode depth)
    by_depth zero true q e = q refl place
    by_depth zero false q e = absurd (cc)
    by_depth (suc depth) commas q e = let one : depth + 1 ≡ suc depth = omega arith in
        subst (λ n. turn way leaf (state level (mode n)) Comma place ≡ writes_nothing level (mode n)) one (p.parts depth place)
turn_past way leaf level mode p commas q (Truth b) depth deeper place e = p.truths depth place b ∙ ap (λ n. writes_nothing level (mode n)) (some_same e)
turn_past way leaf level mode p commas q (Number n) depth deeper place e = p.numbers depth place n ∙ ap (λ n. writes_nothing level (mode n)) (some_same e)
turn_past way leaf level mode p commas q Other depth deeper place e = p.others depth place ∙ ap (λ n. writes_nothing level (mode n)) (some_same e)

-- after a byte that a scanner passes over
pub byte_past : (text : List ℕ) (commas : Bool) (at depth deeper : ℕ) → at < length text → Some deeper
    ≡ depth_after (sign_mark (get_or text at 0)) depth commas → SameLeft text commas at depth (at + 1) deeper
byte_past text commas at depth deeper inside e way leaf level mode p q = by_test (is_plain b) refl
  where
    b : ℕ
    b = get_or text at 0

    bs : List ℕ
    bs = drop (at + 1) text

    here : drop at text ≡ b ∷ bs
    here = drop_more text at 0 inside

    by_test : (t : Bool) → is_plain b ≡ t → left text way leaf at (state level (mode depth)) ≡ left text way leaf (at + 1) (state level (mode deeper))
    by_test true plain =
        skips_byte text way leaf level mode p depth at b bs inside here plain
        ∙ ap (λ n. left text way leaf (at + 1) (state level (mode n))) (some_same (sym (e ∙ ap (λ m. depth_after m depth commas) (other_sign b plain))))
    by_test false h =
        let w = sign_first b bs h in
        let blanks : next_at text at ≡ at = none_blank text at b bs here (not_blank b h) in
        left_turn text way leaf at (state level (mode depth)) w.token (omega arith) (next-first text at blanks ∙ ap first here ∙ w.is)
        ∙ ap (λ m. after_turn text way leaf (turn way leaf (state level (mode depth)) m at) (next_at text at + w.token.1)) w.mark
        ∙ ap (λ (u : Transition). after_turn text way leaf u (next_at text at + w.token.1)) (turn_past way leaf level mode p commas q (sign_mark b) depth deeper at (sym e))
        ∙ ap (λ n. left text way leaf n (state level (mode deeper))) (omega (arith, blanks, w.one))

-- such a byte opens one bracket at most
pub after_deeper : (mark : Mark) (depth deeper : ℕ) (commas : Bool) → Some deeper ≡ depth_after mark depth commas → deeper ≤ depth + 1
after_deeper (Open b) depth deeper commas e = omega (arith, some_same e)
after_deeper (Close b) depth deeper commas e = omega (arith, after_close depth deeper (sym e))
after_deeper Comma depth deeper commas e = omega (arith, (after_comma depth deeper (depth == 0 && not commas) (sym e)).1)
after_deeper (Truth b) depth deeper commas e = omega (arith, some_same e)
after_deeper (Number n) depth deeper commas e = omega (arith, some_same e)
after_deeper Other depth deeper commas e = omega (arith, some_same e)
