-- What closing tokens make of what stands.
use Rattle.std.proofs.Common.{◌≡◌, ℕ, suc, ◌+◌, ◌≤◌, ◌<◌, Bool, true, false, cond, leb, List, [], ◌∷◌, ◌++◌, length, Option, Some, None, refl, sym, ◌∙◌, ap, subst, arith, append_assoc}
use Rattle.std.proofs.lemmas.Bool.{leb-true, leb-false}
use Rattle.snesl_grammar.specs.declared.lexer.token.TokenKind.{TokenKind}
use Rattle.snesl_grammar.specs.declared.lexer.token.TokenKind.TheVariants.{In, Let, If, Then, Else, RightParen, LeftBrace, RightBrace, Colon, Semicolon, Comma, Bar, Equals}
use Rattle.snesl_grammar.specs.declared.lexer.token.Token.{Token}
use Rattle.snesl_grammar.specs.tree.Tree.{Tree, binary, prefix, call, apply, group, pair, binding, choice, literal, filter, each, none, both, none_bound, always, only_where, depth}
use Rattle.snesl_grammar.specs.Operators.{level, prefix_level, sign, prefix_sign}
use Rattle.snesl_grammar.specs.Expressions.{token, name_token, added, bound_also, binder_count, greatest_binder_count, Whole, binary_rule}
use Rattle.snesl_grammar.specs.Expressions.{prefix_rule, call_rule, apply_rule, group_rule, pair_rule, let_rule, if_rule, literal_rule, filter_rule}
use Rattle.snesl_grammar.specs.Expressions.{each_rule, each_where_rule}
use Rattle.snesl_syntax.specs.expressions.Machine.{Frame, in_binary, in_prefix, in_call, in_apply, in_second, in_let_body, in_positive, in_negative}
use Rattle.snesl_syntax.specs.expressions.Machine.{in_braces, in_filter, in_each_condition, State, operand, after, binder_name, Folded, reduce, floor}
use Rattle.snesl_syntax.specs.expressions.Machine.{comma_move, paren_move, brace_move, colon_move, bar_move, semicolon_move, in_move, then_move, else_move}
use Rattle.snesl_syntax.specs.expressions.Machine.{closing_move}
use Rattle.snesl_syntax.specs.expressions.Readers.{TokenMove, at_any_depth}
use Rattle.snesl_syntax.proofs.OfExpressions.Depths.{depth_pos, depth_added, depth_bound_also, count_bound_also}
use Rattle.snesl_syntax.proofs.OfExpressions.Spelled.{some_given, no_bound, some_bound, Spells, spells_empty, spells_binary, spells_prefix, spells_call}
use Rattle.snesl_syntax.proofs.OfExpressions.Spelled.{spells_apply, spells_group, spells_second, spells_value, spells_let_body, spells_condition}
use Rattle.snesl_syntax.proofs.OfExpressions.Spelled.{spells_positive, spells_negative, spells_braces, spells_filter, spells_source, spells_each_condition}
use Rattle.snesl_syntax.proofs.OfExpressions.Spelled.{Stands, stands_operand, stands_after, stands_binder_name, given_whole, given_nothing, bound_whole}

-- a move keeps what stands, where the depth allows it
abbrev pub Good : ℕ → List Token → Token → Option (TokenMove State) → Type 0
Good deep ts t None = Unit {0}
Good deep ts t (Some found) = found.want ≤ deep → Stands deep found.next (ts ++ (t ∷ []))

pub along : {deep : ℕ} (state : State) {ts us : List Token} → ts ≡ us → Stands deep state ts → Stands deep state us
along {deep = deep} state e h = subst (Stands deep state) e h

-- a fact of what is picked by a comparison
pub picked : {A : Type 0} (P : A → Type 0) (a b : ℕ) (x y : A) → (a ≤ b → P x) → (b < a → P y) → P (cond (leb a b) x y)
picked P a b x y h k = by_test (leb a b) refl
  where
    by_test : (test : Bool) → leb a b ≡ test → P (cond test x y)
    by_test true e = h (leb-true a b e)
    by_test false e = k (leb-false a b e)

-- what closing forms leaves
pub record Reduced (deep tightness : ℕ) (all : List Token) (folded : Folded) : Type 0 where
  pub front : List Token
  pub back : List Token
  pub spelled : Spells deep folded.frames front
  pub is : Whole tightness back folded.last
  pub fits : depth folded.last + length folded.frames ≤ deep
  pub same : front ++ back ≡ all

stays : {deep : ℕ} (tightness : ℕ) {frames : List Frame} {ts us : List Token} {last : Tree}
    → Spells deep frames ts → Whole tightness us last → depth last + length frames ≤ deep
    → Reduced deep tightness (ts ++ us) (record { frames = frames; last = last })
stays tightness {ts = ts} {us = us} h w fits = record { front = ts; back = us; spelled = h; is = w; fits = fits; same = refl }

pub at_zero : {here : ℕ} {ts : List Token} {tree : Tree} → here ≤ 0 → Whole 0 ts tree → Whole here ts tree
at_zero {here = here} {ts = ts} {tree = tree} h w = let same : 0 ≡ here = omega arith in subst (λ n. Whole n ts tree) same w

pub reduce_stands : {deep : ℕ} {frames : List Frame} {ts : List Token} → Spells deep frames ts → (tightness : ℕ) {us : List Token} {last : Tree}
    → Whole (floor frames) us last → Whole tightness us last → depth last + length frames ≤ deep
    → Reduced deep tightness (ts ++ us) (reduce tightness frames last)
reduce_stands spells_empty k w wk fits = stays k spells_empty wk fits
reduce_stands {deep = deep} (spells_binary {at = at} {operator = o} {frames = s} {ts = ts} {us = vs} {left = a} h low wa room) k {us = us} {last = e} w wk fits =
    let all : List Token = (ts ++ (vs ++ (token (sign o) at ∷ []))) ++ us in
    picked (Reduced deep k all) k (level o) (reduce k s (binary at o a e)) (record { frames = in_binary at o a ∷ s; last = e })
    (λ below. subst (λ x. Reduced deep k x (reduce k s (binary at o a e))) (simp append_assoc)
    (reduce_stands h k {us = vs ++ (token (sign o) at ∷ us)} {last = binary at o a e} (binary_rule low wa w) (binary_rule below wa w) (omega arith)))
    (λ above. stays k (spells_binary h low wa room) wk fits)
reduce_stands {deep = deep} (spells_prefix {at = at} {operator = p} {frames = s} {ts = ts} h low room) k {us = us} {last = e} w wk fits =
    let all : List Token = (ts ++ (token (prefix_sign p) at ∷ [])) ++ us in
    picked (Reduced deep k all) k prefix_level (reduce k s (prefix at p e)) (record { frames = in_prefix at p ∷ s; last = e })
    (λ below. subst (λ x. Reduced deep k x (reduce k s (prefix at p e))) (simp append_assoc)
    (reduce_stands h k {us = token (prefix_sign p) at ∷ us} {last = prefix at p e} (prefix_rule low w) (prefix_rule below w) (omega arith)))
    (λ above. stays k (spells_prefix h low room) wk fits)
reduce_stands {deep = deep} (spells_let_body {at = at} {place = place} equals within {frames = s} {ts = ts} {us = vs} {value = a} h low wa room) k
    {us = us} {last = e} w wk fits =
    let all : List Token = (ts ++ (token Let at ∷ name_token place ∷ token Equals equals ∷ (vs ++ (token In within ∷ [])))) ++ us in
    let part : List Token = token Let at ∷ name_token place ∷ token Equals equals ∷ (vs ++ (token In within ∷ us)) in
    let v : Whole 0 part (binding at place a e) = let_rule place within wa w in
    picked (Reduced deep k all) k 0 (reduce k s (binding at place a e)) (record { frames = in_let_body at place a ∷ s; last = e })
    (λ below. subst (λ x. Reduced deep k x (reduce k s (binding at place a e))) (simp append_assoc)
    (reduce_stands h k {us = part} {last = binding at place a e} (at_zero low v) (at_zero below v) (omega arith)))
    (λ above. stays k (spells_let_body equals within h low wa room) wk fits)
reduce_stands {deep = deep} (spells_negative {at = at} next last {frames = s} {ts = ts} {us = xs} {vs = vs} {condition = c} {positive = a} h low wc room wa rooms) k
    {us = us} {last = e} w wk fits =
    let all : List Token = (ts ++ (token If at ∷ (xs ++ (token Then next ∷ (vs ++ (token Else last ∷ [])))))) ++ us in
    let part : List Token = token If at ∷ (xs ++ (token Then next ∷ (vs ++ (token Else last ∷ us)))) in
    let v : Whole 0 part (choice at c a e) = if_rule next last wc wa w in
    picked (Reduced deep k all) k 0 (reduce k s (choice at c a e)) (record { frames = in_negative at c a ∷ s; last = e })
    (λ below. subst (λ x. Reduced deep k x (reduce k s (choice at c a e))) (simp append_assoc)
    (reduce_stands h k {us = part} {last = choice at c a e} (at_zero low v) (at_zero below v) (omega arith)))
    (λ above. stays k (spells_negative next last h low wc room wa rooms) wk fits)
reduce_stands (spells_call opened h g room fit) k w wk fits = stays k (spells_call opened h g room fit) wk fits
reduce_stands (spells_apply opened h g room fit) k w wk fits = stays k (spells_apply opened h g room fit) wk fits
reduce_stands (spells_group h room) k w wk fits = stays k (spells_group h room) wk fits
reduce_stands (spells_second comma h wa room) k w wk fits = stays k (spells_second comma h wa room) wk fits
reduce_stands (spells_value equals h low room) k w wk fits = stays k (spells_value equals h low room) wk fits
reduce_stands (spells_condition h low room) k w wk fits = stays k (spells_condition h low room) wk fits
reduce_stands (spells_positive next h low wa room) k w wk fits = stays k (spells_positive next h low wa room) wk fits
reduce_stands (spells_braces h g room fit) k w wk fits = stays k (spells_braces h g room fit) wk fits
reduce_stands (spells_filter bar h wa room) k w wk fits = stays k (spells_filter bar h wa room) wk fits
reduce_stands (spells_source colon within h wb room b fit) k w wk fits = stays k (spells_source colon within h wb room b fit) wk fits
reduce_stands (spells_each_condition colon bar h wb room b fit) k w wk fits = stays k (spells_each_condition colon bar h wb room b fit) wk fits

-- a closing token keeps what stands
abbrev pub Keeps : ℕ → TokenKind → (List Frame → Tree → Option (TokenMove State)) → Type 0
Keeps deep kind found =
    (at : ℕ) (frames : List Frame) (ts us : List Token) (last : Tree) → Spells deep frames ts → Whole 0 us last → depth last + length frames ≤ deep
    → Good deep (ts ++ us) (token kind at) (found frames last)

pub comma_keeps : {deep : ℕ} → Keeps deep Comma comma_move
comma_keeps at _ _ _ e (spells_call {at = begun} opened {function = f} {frames = s} {given = given} h g room fit) w fits = λ want.
    along (operand (in_call begun f (added given e) ∷ s)) (simp append_assoc)
    (stands_operand (spells_call opened h (some_given at (given_whole g w)) room (omega (arith, depth_added given e))) room)
comma_keeps at _ _ _ e (spells_apply opened {function = f} {frames = s} {given = given} h g room fit) w fits = λ want.
    along (operand (in_apply f (added given e) ∷ s)) (simp append_assoc)
    (stands_operand (spells_apply opened h (some_given at (given_whole g w)) room (omega (arith, depth_added given e))) room)
comma_keeps at _ _ _ e (spells_group {at = begun} {frames = s} h room) w fits = λ want.
    along (operand (in_second begun e ∷ s)) (simp append_assoc) (stands_operand (spells_second at h w (omega arith)) room)
comma_keeps at _ _ _ e (spells_braces {at = begun} {frames = s} {given = given} h g room fit) w fits = λ want.
    along (operand (in_braces begun (added given e) ∷ s)) (simp append_assoc)
    (stands_operand (spells_braces h (some_given at (given_whole g w)) room (omega (arith, depth_added given e))) room)
comma_keeps at _ _ _ _ _ w fits = tt

pub paren_keeps : {deep : ℕ} → Keeps deep RightParen paren_move
paren_keeps at _ _ _ e (spells_call {at = begun} opened {function = f} {frames = s} {given = given} h g room fit) w fits = λ want.
    along (after s (call begun f (added given e))) (simp append_assoc)
    (stands_after h (λ here. call_rule {opened = opened} at (given_whole g w)) (omega (arith, depth_added given e)))
paren_keeps at _ _ _ e (spells_apply opened {function = f} {frames = s} {given = given} h g room fit) w fits = λ want.
    along (after s (apply f (added given e))) (simp append_assoc)
    (stands_after h (λ here. apply_rule {opened = opened} f at (given_whole g w)) (omega (arith, depth_added given e)))
paren_keeps at _ _ _ e (spells_group {at = begun} {frames = s} h room) w fits = λ want.
    along (after s (group begun e)) (simp append_assoc) (stands_after h (λ here. group_rule at w) (omega arith))
paren_keeps at _ _ _ e (spells_second {at = begun} comma {frames = s} {first = a} h wa room) w fits = λ want.
    along (after s (pair begun a e)) (simp append_assoc) (stands_after h (λ here. pair_rule comma at wa w) (omega arith))
paren_keeps at _ _ _ _ _ w fits = tt

pub brace_keeps : {deep : ℕ} → Keeps deep RightBrace brace_move
brace_keeps at _ _ _ e (spells_braces {at = begun} {frames = s} {given = given} h g room fit) w fits = λ want.
    along (after s (literal begun (added given e))) (simp append_assoc)
    (stands_after h (λ here. literal_rule at (given_whole g w)) (omega (arith, depth_added given e)))
brace_keeps at _ _ _ e (spells_filter {at = begun} bar {frames = s} {item = a} h wa room) w fits = λ want.
    along (after s (filter begun a e)) (simp append_assoc) (stands_after h (λ here. filter_rule bar at wa w) (omega arith))
brace_keeps at _ _ _ e (spells_source {at = begun} {place = place} colon within {frames = s} {body = body} {binders = binders} h wb room b fit) w fits = λ want.
    along (after s (each begun body (bound_also binders place e) always)) (simp append_assoc)
    (stands_after h (λ here. each_rule colon at wb (bound_whole b place within w)) (omega (arith, depth_bound_also binders place e)))
brace_keeps at _ _ _ e (spells_each_condition {at = begun} colon bar {frames = s} {body = body} {binders = binders} h wb room b fit) w fits = λ want.
    along (after s (each begun body binders (only_where e))) (simp append_assoc)
    (stands_after h (λ here. each_where_rule colon bar at wb b w) (omega arith))
brace_keeps at _ _ _ _ _ w fits = tt

-- in braces with nothing given, only their token is after those of the frames around
braces_alone : {given : List Token} (ts us : List Token) (begun t : Token) → given ≡ []
    → ts ++ (begun ∷ (us ++ (t ∷ []))) ≡ ((ts ++ (begun ∷ given)) ++ us) ++ (t ∷ [])
braces_alone ts us begun t e =
    let alone : ts ++ (begun ∷ (us ++ (t ∷ []))) ≡ ((ts ++ (begun ∷ [])) ++ us) ++ (t ∷ []) = simp append_assoc in
    alone ∙ ap (λ x. ((ts ++ (begun ∷ x)) ++ us) ++ (t ∷ [])) (sym e)

pub colon_keeps : {deep : ℕ} → Keeps deep Colon colon_move
colon_keeps at _ _ us e (spells_braces {at = begun} {frames = s} {ts = ts} {given = none} h g room fit) w fits = λ want.
    along (binder_name s begun e none_bound)
    (braces_alone ts us (token LeftBrace begun) (token Colon at) (given_nothing g refl))
    (stands_binder_name at h w (omega arith) no_bound (omega arith))
colon_keeps at _ _ _ _ (spells_braces {given = both first others} h g room fit) w fits = tt
colon_keeps at _ _ _ _ _ w fits = tt

pub bar_keeps : {deep : ℕ} → Keeps deep Bar bar_move
bar_keeps at _ _ us e (spells_braces {at = begun} {frames = s} {ts = ts} {given = none} h g room fit) w fits = λ want.
    along (operand (in_filter begun e ∷ s))
    (braces_alone ts us (token LeftBrace begun) (token Bar at) (given_nothing g refl))
    (stands_operand (spells_filter at h w (omega arith)) room)
bar_keeps at _ _ _ _ (spells_braces {given = both first others} h g room fit) w fits = tt
bar_keeps at _ _ _ e (spells_source {at = begun} {place = place} colon within {frames = s} {body = body} {binders = binders} h wb room b fit) w fits = λ want.
    along (operand (in_each_condition begun body (bound_also binders place e) ∷ s)) (simp append_assoc)
    (stands_operand (spells_each_condition colon at h wb room (bound_whole b place within w) (omega (arith, depth_bound_also binders place e)))
    (omega (arith, depth_pos body)))
bar_keeps at _ _ _ _ _ w fits = tt

pub semicolon_keeps : {deep : ℕ} → Keeps deep Semicolon semicolon_move
semicolon_keeps {deep = deep} at _ _ us e
    (spells_source {at = begun} {place = place} colon within {frames = s} {ts = ts} {us = xs} {vs = vs} {body = body} {binders = binders} h wb room b fit) w fits =
    let all : List Token = (ts ++ (token LeftBrace begun ∷ (xs ++ (token Colon colon ∷ (vs ++ (name_token place ∷ token In within ∷ [])))))) ++ us in
    picked (Good deep all (token Semicolon at)) (suc (suc (binder_count binders))) greatest_binder_count
    (at_any_depth (binder_name s begun body (bound_also binders place e))) None
    (λ few want. along (binder_name s begun body (bound_also binders place e)) (simp append_assoc)
    (stands_binder_name colon h wb room (some_bound at (bound_whole b place within w) (omega (arith, few, count_bound_also binders place e)))
    (omega (arith, depth_bound_also binders place e))))
    (λ many. tt)
semicolon_keeps at _ _ _ _ _ w fits = tt

pub in_keeps : {deep : ℕ} → Keeps deep In in_move
in_keeps at _ _ _ e (spells_value {at = begun} {place = place} equals {frames = s} h low room) w fits = λ want.
    along (operand (in_let_body begun place e ∷ s)) (simp append_assoc) (stands_operand (spells_let_body equals at h low w (omega arith)) room)
in_keeps at _ _ _ _ _ w fits = tt

pub then_keeps : {deep : ℕ} → Keeps deep Then then_move
then_keeps at _ _ _ e (spells_condition {at = begun} {frames = s} h low room) w fits = λ want.
    along (operand (in_positive begun e ∷ s)) (simp append_assoc) (stands_operand (spells_positive at h low w (omega arith)) room)
then_keeps at _ _ _ _ _ w fits = tt

pub else_keeps : {deep : ℕ} → Keeps deep Else else_move
else_keeps at _ _ _ e (spells_positive {at = begun} next {frames = s} {condition = c} h low wc room) w fits = λ want.
    along (operand (in_negative begun c e ∷ s)) (simp append_assoc)
    (stands_operand (spells_negative next at h low wc room w (omega arith)) (omega (arith, depth_pos c)))
else_keeps at _ _ _ _ _ w fits = tt

-- what a closing token does, after forms that are closed with it
pub closing_good : {deep : ℕ} (kind : TokenKind) (found : List Frame → Tree → Option (TokenMove State)) → Keeps deep kind found
    → (at : ℕ) {frames : List Frame} {ts us : List Token} {last : Tree}
    → Spells deep frames ts → ((here : ℕ) → Whole here us last) → depth last + length frames ≤ deep
    → Good deep (ts ++ us) (token kind at) (closing_move found frames last)
closing_good {deep = deep} kind found keeps at {frames = frames} {last = last} h w fits =
    let folded : Folded = reduce 0 frames last in
    let reduced = reduce_stands h 0 (w (floor frames)) (w 0) fits in
    subst (λ x. Good deep x (token kind at) (found folded.frames folded.last)) reduced.same
    (keeps at folded.frames reduced.front reduced.back folded.last reduced.spelled reduced.is reduced.fits)
