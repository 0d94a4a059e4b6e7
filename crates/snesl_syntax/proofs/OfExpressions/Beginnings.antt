-- What begins an expression can be completed to one that is no deeper: a name stands wherever an expression is missing.
use Rattle.std.proofs.Common.{◌≡◌, ℕ, ◌≤◌, List, [], ◌∷◌, ◌++◌, refl, sym, ◌∙◌, ap, subst, arith, append_assoc}
use Rattle.std.proofs.lemmas.List.{append-nil}
use Rattle.snesl_grammar.specs.declared.lexer.token.TokenKind.TheVariants as kinds
use Rattle.snesl_grammar.specs.declared.lexer.token.Token.{Token}
use Rattle.snesl_grammar.specs.declared.tree.span.Span.{Span}
use Rattle.snesl_grammar.specs.tree.Tree.{Tree, Trees, Binders, name, none, both, none_bound, binder, depth, depth_of_all, depth_of_binders}
use Rattle.snesl_grammar.specs.Operators.{sign}
use Rattle.snesl_grammar.specs.Expressions.{token, name_token, added, bound_also, Whole, name_rule, binary_rule, prefix_rule, call_rule, apply_rule}
use Rattle.snesl_grammar.specs.Expressions.{group_rule, pair_rule, let_rule, if_rule, literal_rule, filter_rule, each_rule, each_where_rule}
use Rattle.snesl_grammar.specs.Expressions.{WholeArguments, one_rule, more_rule, WholeBinders, one_binder, more_binders, Front, nothing, whole}
use Rattle.snesl_grammar.specs.Expressions.{binary_left, binary_right, prefix_operand, call_word, call_arguments, apply_arguments, group_inner}
use Rattle.snesl_grammar.specs.Expressions.{pair_second, let_word, let_name, let_value, let_body, if_condition, if_positive, if_negative, brace_items}
use Rattle.snesl_grammar.specs.Expressions.{filter_condition, each_binders, each_condition, FrontArguments, first_front, next_front, FrontBinders}
use Rattle.snesl_grammar.specs.Expressions.{first_binder, next_binder, FrontBinder, no_binder, binder_name, binder_source}
use Rattle.snesl_syntax.proofs.OfExpressions.Depths.{depth_pos, depth_added, depth_bound_also}

-- a name, to complete forms with
spot : Span
spot = record { at = 0; len = 1 }

abbrev leaf : Token
leaf = name_token spot

-- the tokens, and others with which they are an expression
pub record Completed (here deep : ℕ) (ts : List Token) : Type 0 where
  pub rest : List Token
  pub tree : Tree
  pub is_whole : Whole here (ts ++ rest) tree
  pub shallow : depth tree ≤ deep

-- the same of arguments
pub record CompletedArguments (deep : ℕ) (ts : List Token) : Type 0 where
  pub rest : List Token
  pub trees : Trees
  pub are_whole : WholeArguments (ts ++ rest) trees
  pub shallow : depth_of_all trees ≤ deep

-- and of binders
pub record CompletedBinders (deep : ℕ) (ts : List Token) : Type 0 where
  pub rest : List Token
  pub binders : Binders
  pub are_whole : WholeBinders (ts ++ rest) binders
  pub shallow : depth_of_binders binders ≤ deep

-- a binder alone: its name, and what completes its source
pub record CompletedBinder (deep : ℕ) (ts : List Token) : Type 0 where
  pub rest : List Token
  pub place : Span
  pub within : ℕ
  pub tokens : List Token
  pub source : Tree
  pub is_whole : Whole 0 tokens source
  pub same : name_token place ∷ token kinds.In within ∷ tokens ≡ ts ++ rest
  pub shallow : depth source ≤ deep

completed_by : {here deep : ℕ} {ts us : List Token} (rest : List Token) {tree : Tree} → Whole here us tree → us ≡ ts ++ rest → depth tree ≤ deep
    → Completed here deep ts
completed_by {here = here} rest {tree = tree} w same h =
    record { rest = rest; tree = tree; is_whole = subst (λ x. Whole here x tree) same w; shallow = h }

mutual
  pub completed : {here deep : ℕ} {ts : List Token} → Front here deep ts → Completed here deep ts
  completed nothing = record { rest = leaf ∷ []; tree = name spot; is_whole = name_rule spot; shallow = omega arith }
  completed (whole {ts = ts} w h) = completed_by [] w (sym (append-nil ts)) h
  completed (binary_left operator below f) =
      let c = completed f in
      completed_by (c.rest ++ (token (sign operator) 0 ∷ leaf ∷ [])) (binary_rule {at = 0} below c.is_whole (name_rule spot)) (simp append_assoc) (omega (arith, c.shallow, depth_pos c.tree))
  completed (binary_right operator at below w h f) =
      let c = completed f in
      completed_by c.rest (binary_rule {at = at} below w c.is_whole) (simp append_assoc) (omega (arith, c.shallow))
  completed (prefix_operand {at = at} operator below f) =
      let c = completed f in
      completed_by c.rest (prefix_rule {at = at} {operator = operator} below c.is_whole) refl (omega (arith, c.shallow))
  completed (call_word {at = at} function) =
      completed_by (token kinds.LeftParen 0 ∷ leaf ∷ token kinds.RightParen 0 ∷ []) (call_rule {at = at} {opened = 0} 0 {function = function} (one_rule (name_rule spot))) refl (omega arith)
  completed (call_arguments {at = at} {opened = opened} function f) =
      let c = completed_arguments f in
      completed_by (c.rest ++ (token kinds.RightParen 0 ∷ [])) (call_rule {at = at} {opened = opened} 0 {function = function} c.are_whole) (simp append_assoc) (omega (arith, c.shallow))
  completed (apply_arguments {opened = opened} function f) =
      let c = completed_arguments f in
      completed_by (c.rest ++ (token kinds.RightParen 0 ∷ [])) (apply_rule {opened = opened} function 0 c.are_whole) (simp append_assoc) (omega (arith, c.shallow))
  completed (group_inner {at = at} f) =
      let c = completed f in
      completed_by (c.rest ++ (token kinds.RightParen 0 ∷ [])) (group_rule {at = at} 0 c.is_whole) (simp append_assoc) (omega (arith, c.shallow))
  completed (pair_second {at = at} comma w h f) =
      let c = completed f in
      completed_by (c.rest ++ (token kinds.RightParen 0 ∷ [])) (pair_rule {at = at} comma 0 w c.is_whole) (simp append_assoc) (omega (arith, c.shallow))
  completed (let_word {at = at}) =
      completed_by (leaf ∷ token kinds.Equals 0 ∷ leaf ∷ token kinds.In 0 ∷ leaf ∷ [])
      (let_rule {at = at} spot {equals = 0} 0 (name_rule spot) (name_rule spot)) refl (omega arith)
  completed (let_name {at = at} place) =
      completed_by (token kinds.Equals 0 ∷ leaf ∷ token kinds.In 0 ∷ leaf ∷ [])
      (let_rule {at = at} place {equals = 0} 0 (name_rule spot) (name_rule spot)) refl (omega arith)
  completed (let_value {at = at} {equals = equals} place f) =
      let c = completed f in
      completed_by (c.rest ++ (token kinds.In 0 ∷ leaf ∷ []))
      (let_rule {at = at} place {equals = equals} 0 c.is_whole (name_rule spot)) (simp append_assoc) (omega (arith, c.shallow, depth_pos c.tree))
  completed (let_body {at = at} {equals = equals} place within w h f) =
      let c = completed f in
      completed_by c.rest (let_rule {at = at} place {equals = equals} within w c.is_whole) (simp append_assoc) (omega (arith, c.shallow))
  completed (if_condition {at = at} f) =
      let c = completed f in
      completed_by (c.rest ++ (token kinds.Then 0 ∷ leaf ∷ token kinds.Else 0 ∷ leaf ∷ []))
      (if_rule {at = at} 0 0 c.is_whole (name_rule spot) (name_rule spot)) (simp append_assoc) (omega (arith, c.shallow, depth_pos c.tree))
  completed (if_positive {at = at} next w h f) =
      let c = completed f in
      completed_by (c.rest ++ (token kinds.Else 0 ∷ leaf ∷ [])) (if_rule {at = at} next 0 w c.is_whole (name_rule spot)) (simp append_assoc) (omega (arith, c.shallow, depth_pos c.tree))
  completed (if_negative {at = at} next last w h wp hp f) =
      let c = completed f in
      completed_by c.rest (if_rule {at = at} next last w wp c.is_whole) (simp append_assoc) (omega (arith, c.shallow))
  completed (brace_items {at = at} f) =
      let c = completed_arguments f in
      completed_by (c.rest ++ (token kinds.RightBrace 0 ∷ [])) (literal_rule {at = at} 0 c.are_whole) (simp append_assoc) (omega (arith, c.shallow))
  completed (filter_condition {at = at} bar w h f) =
      let c = completed f in
      completed_by (c.rest ++ (token kinds.RightBrace 0 ∷ [])) (filter_rule {at = at} bar 0 w c.is_whole) (simp append_assoc) (omega (arith, c.shallow))
  completed (each_binders {at = at} colon w h f) =
      let c = completed_binders f in
      completed_by (c.rest ++ (token kinds.RightBrace 0 ∷ [])) (each_rule {at = at} colon 0 w c.are_whole) (simp append_assoc) (omega (arith, c.shallow))
  completed (each_condition {at = at} colon bar w h wb hb f) =
      let c = completed f in
      completed_by (c.rest ++ (token kinds.RightBrace 0 ∷ [])) (each_where_rule {at = at} colon bar 0 w wb c.is_whole) (simp append_assoc) (omega (arith, c.shallow))

  pub completed_arguments : {deep : ℕ} {ts : List Token} → FrontArguments deep ts → CompletedArguments deep ts
  completed_arguments (first_front f) =
      let c = completed f in
      record { rest = c.rest; trees = both c.tree none; are_whole = one_rule c.is_whole; shallow = omega (arith, c.shallow) }
  completed_arguments (next_front comma {arguments = arguments} w h f) =
      let c = completed f in
      record {
        rest = c.rest;
        trees = added arguments c.tree;
        are_whole = subst (λ x. WholeArguments x (added arguments c.tree)) (simp append_assoc) (more_rule comma w c.is_whole);
        shallow = omega (arith, c.shallow, depth_added arguments c.tree);
      }

  pub completed_binders : {deep : ℕ} {ts : List Token} → FrontBinders deep ts → CompletedBinders deep ts
  completed_binders (first_binder f) =
      let c = completed_binder f in
      let bound : Binders = binder c.place c.source none_bound in
      record {
        rest = c.rest;
        binders = bound;
        are_whole = subst (λ x. WholeBinders x bound) c.same (one_binder c.place c.within c.is_whole);
        shallow = omega (arith, c.shallow);
      }
  completed_binders (next_binder semicolon {ts = ts} {us = us} {binders = binders} w h few f) =
      let c = completed_binder f in
      let bound : Binders = bound_also binders c.place c.source in
      record {
        rest = c.rest;
        binders = bound;
        are_whole = subst (λ x. WholeBinders x bound) (ap (λ x. ts ++ (token kinds.Semicolon semicolon ∷ x)) c.same ∙ simp append_assoc)
            (more_binders semicolon c.place c.within w few c.is_whole);
        shallow = omega (arith, c.shallow, depth_bound_also binders c.place c.source);
      }

  pub completed_binder : {deep : ℕ} {ts : List Token} → FrontBinder deep ts → CompletedBinder deep ts
  completed_binder no_binder =
      record {
        rest = leaf ∷ token kinds.In 0 ∷ leaf ∷ [];
        place = spot;
        within = 0;
        tokens = leaf ∷ [];
        source = name spot;
        is_whole = name_rule spot;
        same = refl;
        shallow = omega arith;
      }
  completed_binder (binder_name place) =
      record {
        rest = token kinds.In 0 ∷ leaf ∷ [];
        place = place;
        within = 0;
        tokens = leaf ∷ [];
        source = name spot;
        is_whole = name_rule spot;
        same = refl;
        shallow = omega arith;
      }
  completed_binder (binder_source place within {ts = ts} f) =
      let c = completed f in
      record {
        rest = c.rest;
        place = place;
        within = within;
        tokens = ts ++ c.rest;
        source = c.tree;
        is_whole = c.is_whole;
        same = refl;
        shallow = c.shallow;
      }

-- what begins an expression within a depth can be completed to one
pub front_completes : (deep : ℕ) (ts : List Token) → Front 0 deep ts
    → (rest : List Token) × (tree : Tree) × Whole 0 (ts ++ rest) tree × (depth tree ≤ deep)
front_completes deep ts f = let c = completed f in (c.rest, c.tree, c.is_whole, c.shallow)
