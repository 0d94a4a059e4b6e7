-- The reader of types reads what the grammar says.
use Rattle.std.proofs.Common.{◌≡◌, ℕ, suc, ◌+◌, ◌-◌, ◌≤◌, List, [], ◌∷◌, ◌++◌, length, Option, Some, None, Ok, refl, sym, ◌∙◌, subst, arith, append_assoc}
use Rattle.std.proofs.lemmas.List.{append-nil}
use Rattle.snesl_grammar.specs.declared.lexer.token.TokenKind.{TokenKind}
use Rattle.snesl_grammar.specs.declared.lexer.token.TokenKind.TheVariants.{Int, Bool, LeftParen, RightParen, LeftBracket, RightBracket, LeftBrace, RightBrace, Comma}
use Rattle.snesl_grammar.specs.declared.lexer.token.Token.{Token}
use Rattle.snesl_grammar.specs.tree.Tree.{TypeTree, int_type, bool_type, pair_type, vector_type, sequence_type, type_depth}
use Rattle.snesl_grammar.specs.Expressions.{token}
use Rattle.snesl_syntax.specs.expressions.Readers.{TokenMove, after_tokens}
use Rattle.snesl_syntax.proofs.OfExpressions.Reading.{goes_on, steps_on, ends_with, fits_step}
use Rattle.snesl_grammar.specs.Types.{WholeType, int_rule, bool_rule, pair_type_rule, vector_rule, sequence_rule, FrontType, no_type, whole_type}
use Rattle.snesl_grammar.specs.Types.{pair_type_first, pair_type_second, vector_item, sequence_item}
use Rattle.snesl_syntax.specs.Types.{MayFollowType, TypeFrame, in_first, in_second, in_vector, in_sequence, TypeState, type_begins, type_ended, type_move, finished_type, types}
use Rattle.snesl_syntax.specs.expressions.Readers.{IsReaderOf}
use Rattle.snesl_syntax.proofs.Moves.{free_step, Good, go_stands}

pub type_depth_pos : (e : TypeTree) → 1 ≤ type_depth e
type_depth_pos (int_type at) = omega arith
type_depth_pos (bool_type at) = omega arith
type_depth_pos (pair_type at a b) = omega arith
type_depth_pos (vector_type at e) = omega arith
type_depth_pos (sequence_type at e) = omega arith

-- an opening token is read, where there is room for a part
opened : (d : ℕ) (s : List TypeFrame) (f : TypeFrame) (t : Token) (ts : List Token)
    → types.move (type_begins s) t ≡ Some (record { want = suc (suc (length s)); next = type_begins (f ∷ s) }) → suc (suc (length s)) ≤ d
    → after_tokens types d (type_begins s) (t ∷ ts) ≡ after_tokens types d (type_begins (f ∷ s)) ts
opened d s f t ts e h =
    steps_on types d (type_begins s) (type_begins (f ∷ s)) t ts
    (fits_step types d (type_begins s) (type_begins (f ∷ s)) t (suc (suc (length s))) e h)

-- a whole type is read
pub type_reads : {ts : List Token} {e : TypeTree} → WholeType ts e → (d : ℕ) (s : List TypeFrame) → type_depth e + length s ≤ d
    → after_tokens types d (type_begins s) ts ≡ Ok (type_ended s e)
type_reads (int_rule {at = at}) d s fits =
    steps_on types d (type_begins s) (type_ended s (int_type at)) (token Int at) []
    (free_step types d (type_begins s) (type_ended s (int_type at)) (token Int at) refl)
type_reads (bool_rule {at = at}) d s fits =
    steps_on types d (type_begins s) (type_ended s (bool_type at)) (token Bool at) []
    (free_step types d (type_begins s) (type_ended s (bool_type at)) (token Bool at) refl)
type_reads (pair_type_rule {at = at} c q {ts = ts} {us = us} {first = a} {second = b} wa wb) d s fits =
    let least : 1 ≤ type_depth a = type_depth_pos a in
    opened d s (in_first at) (token LeftParen at) (ts ++ (token Comma c ∷ (us ++ (token RightParen q ∷ [])))) refl (omega arith)
    ∙ (goes_on types d (type_begins (in_first at ∷ s)) (type_ended (in_first at ∷ s) a) ts (token Comma c ∷ (us ++ (token RightParen q ∷ [])))
    (type_reads wa d (in_first at ∷ s) (omega arith))
    ∙ (steps_on types d (type_ended (in_first at ∷ s) a) (type_begins (in_second at a ∷ s)) (token Comma c) (us ++ (token RightParen q ∷ []))
    (free_step types d (type_ended (in_first at ∷ s) a) (type_begins (in_second at a ∷ s)) (token Comma c) refl)
    ∙ ends_with types d (type_begins (in_second at a ∷ s)) (type_ended (in_second at a ∷ s) b) (type_ended s (pair_type at a b)) us (token RightParen q)
    (type_reads wb d (in_second at a ∷ s) (omega arith))
    (free_step types d (type_ended (in_second at a ∷ s) b) (type_ended s (pair_type at a b)) (token RightParen q) refl)))
type_reads (vector_rule {at = at} q {ts = ts} {item = e} w) d s fits =
    let least : 1 ≤ type_depth e = type_depth_pos e in
    opened d s (in_vector at) (token LeftBracket at) (ts ++ (token RightBracket q ∷ [])) refl (omega arith)
    ∙ ends_with types d (type_begins (in_vector at ∷ s)) (type_ended (in_vector at ∷ s) e) (type_ended s (vector_type at e)) ts (token RightBracket q)
    (type_reads w d (in_vector at ∷ s) (omega arith))
    (free_step types d (type_ended (in_vector at ∷ s) e) (type_ended s (vector_type at e)) (token RightBracket q) refl)
type_reads (sequence_rule {at = at} q {ts = ts} {item = e} w) d s fits =
    let least : 1 ≤ type_depth e = type_depth_pos e in
    opened d s (in_sequence at) (token LeftBrace at) (ts ++ (token RightBrace q ∷ [])) refl (omega arith)
    ∙ ends_with types d (type_begins (in_sequence at ∷ s)) (type_ended (in_sequence at ∷ s) e) (type_ended s (sequence_type at e)) ts (token RightBrace q)
    (type_reads w d (in_sequence at ∷ s) (omega arith))
    (free_step types d (type_ended (in_sequence at ∷ s) e) (type_ended s (sequence_type at e)) (token RightBrace q) refl)

-- the tokens of the open types
data Spells : ℕ → List TypeFrame → List Token → Type 0 where
  spells_none : {d : ℕ} → Spells d [] []
  spells_first : {d at : ℕ} {s : List TypeFrame} {ts : List Token}
      → Spells d s ts → suc (suc (length s)) ≤ d → Spells d (in_first at ∷ s) (ts ++ (token LeftParen at ∷ []))
  spells_second : {d at : ℕ} (c : ℕ) {s : List TypeFrame} {ts us : List Token} {a : TypeTree}
      → Spells d s ts → WholeType us a → suc (type_depth a + length s) ≤ d
      → Spells d (in_second at a ∷ s) (ts ++ (token LeftParen at ∷ (us ++ (token Comma c ∷ []))))
  spells_vector : {d at : ℕ} {s : List TypeFrame} {ts : List Token}
      → Spells d s ts → suc (suc (length s)) ≤ d → Spells d (in_vector at ∷ s) (ts ++ (token LeftBracket at ∷ []))
  spells_sequence : {d at : ℕ} {s : List TypeFrame} {ts : List Token}
      → Spells d s ts → suc (suc (length s)) ≤ d → Spells d (in_sequence at ∷ s) (ts ++ (token LeftBrace at ∷ []))

-- the tokens that lead to a state
data Stands : ℕ → TypeState → List Token → Type 0 where
  stands_begins : {d : ℕ} {s : List TypeFrame} {ts : List Token} → Spells d s ts → suc (length s) ≤ d → Stands d (type_begins s) ts
  stands_ended : {d : ℕ} {s : List TypeFrame} {ts us : List Token} {e : TypeTree}
      → Spells d s ts → WholeType us e → type_depth e + length s ≤ d → Stands d (type_ended s e) (ts ++ us)

abbrev Keeps : ℕ → List Token → Token → Option (TokenMove TypeState) → Type 0
Keeps d ts t m = Good (λ found. found.want ≤ d → Stands d found.next (ts ++ (t ∷ []))) m

along : (d : ℕ) (s : TypeState) {ts us : List Token} → ts ≡ us → Stands d s ts → Stands d s us
along d s e h = subst (Stands d s) e h

begins_keeps : {d : ℕ} {s : List TypeFrame} {ts : List Token} → Spells d s ts → suc (length s) ≤ d
    → (k : TokenKind) (at : ℕ) → Keeps d ts (token k at) (type_move (type_begins s) k at)
begins_keeps h room Int at = λ want. stands_ended h int_rule (omega arith)
begins_keeps h room Bool at = λ want. stands_ended h bool_rule (omega arith)
begins_keeps h room LeftParen at = λ want. stands_begins (spells_first h want) want
begins_keeps h room LeftBracket at = λ want. stands_begins (spells_vector h want) want
begins_keeps h room LeftBrace at = λ want. stands_begins (spells_sequence h want) want
begins_keeps h room _ at = tt

first_keeps : {d : ℕ} (at0 : ℕ) {s : List TypeFrame} {ts us : List Token} {e : TypeTree} → Spells d s ts → WholeType us e → suc (type_depth e + length s) ≤ d
    → (k : TokenKind) (at : ℕ) → Keeps d ((ts ++ (token LeftParen at0 ∷ [])) ++ us) (token k at) (type_move (type_ended (in_first at0 ∷ s) e) k at)
first_keeps {d = d} at0 {s = s} {ts = ts} {us = us} {e = e} h w fits Comma at = λ want.
    let least : 1 ≤ type_depth e = type_depth_pos e in
    along d (type_begins (in_second at0 e ∷ s)) (simp append_assoc) (stands_begins (spells_second at h w fits) (omega arith))
first_keeps at0 h w fits _ at = tt

second_keeps : {d : ℕ} (at0 c : ℕ) {s : List TypeFrame} {ts us vs : List Token} {a e : TypeTree} → Spells d s ts → WholeType us a → WholeType vs e
    → suc (type_depth a + length s) ≤ d → suc (type_depth e + length s) ≤ d
    → (k : TokenKind) (at : ℕ) → Keeps d ((ts ++ (token LeftParen at0 ∷ (us ++ (token Comma c ∷ [])))) ++ vs) (token k at) (type_move (type_ended (in_second at0 a ∷ s) e) k at)
second_keeps {d = d} at0 c {s = s} {ts = ts} {us = us} {vs = vs} {a = a} {e = e} h wa w room fits RightParen at = λ want.
    along d (type_ended s (pair_type at0 a e)) (simp append_assoc) (stands_ended h (pair_type_rule {at = at0} c at wa w) (omega arith))
second_keeps at0 c h wa w room fits _ at = tt

vector_keeps : {d : ℕ} (at0 : ℕ) {s : List TypeFrame} {ts us : List Token} {e : TypeTree} → Spells d s ts → WholeType us e → suc (type_depth e + length s) ≤ d
    → (k : TokenKind) (at : ℕ) → Keeps d ((ts ++ (token LeftBracket at0 ∷ [])) ++ us) (token k at) (type_move (type_ended (in_vector at0 ∷ s) e) k at)
vector_keeps {d = d} at0 {s = s} {ts = ts} {us = us} {e = e} h w fits RightBracket at = λ want.
    along d (type_ended s (vector_type at0 e)) (simp append_assoc) (stands_ended h (vector_rule {at = at0} at w) (omega arith))
vector_keeps at0 h w fits _ at = tt

sequence_keeps : {d : ℕ} (at0 : ℕ) {s : List TypeFrame} {ts us : List Token} {e : TypeTree} → Spells d s ts → WholeType us e → suc (type_depth e + length s) ≤ d
    → (k : TokenKind) (at : ℕ) → Keeps d ((ts ++ (token LeftBrace at0 ∷ [])) ++ us) (token k at) (type_move (type_ended (in_sequence at0 ∷ s) e) k at)
sequence_keeps {d = d} at0 {s = s} {ts = ts} {us = us} {e = e} h w fits RightBrace at = λ want.
    along d (type_ended s (sequence_type at0 e)) (simp append_assoc) (stands_ended h (sequence_rule {at = at0} at w) (omega arith))
sequence_keeps at0 h w fits _ at = tt

ended_keeps : {d : ℕ} {s : List TypeFrame} {ts us : List Token} {e : TypeTree} → Spells d s ts → WholeType us e → type_depth e + length s ≤ d
    → (k : TokenKind) (at : ℕ) → Keeps d (ts ++ us) (token k at) (type_move (type_ended s e) k at)
ended_keeps spells_none w fits k at = tt
ended_keeps (spells_first {at = at0} h room) w fits k at = first_keeps at0 h w (omega arith) k at
ended_keeps (spells_second {at = at0} c h wa room) w fits k at = second_keeps at0 c h wa w room (omega arith) k at
ended_keeps (spells_vector {at = at0} h room) w fits k at = vector_keeps at0 h w (omega arith) k at
ended_keeps (spells_sequence {at = at0} h room) w fits k at = sequence_keeps at0 h w (omega arith) k at

step_keeps : (d : ℕ) (s : TypeState) (ts : List Token) (t : Token) → Stands d s ts → Keeps d ts t (types.move s t)
step_keeps d s ts t (stands_begins h room) = begins_keeps h room t.kind t.at
step_keeps d s ts t (stands_ended h w fits) = ended_keeps h w fits t.kind t.at

-- what is read stands
stands_types : (d : ℕ) (ts : List Token) (s : TypeState) → 1 ≤ d → after_tokens types d types.start ts ≡ Ok s → Stands d s ts
stands_types d ts s least e = go_stands types (Stands d) d (step_keeps d) ts types.start s [] (stands_begins spells_none least) e

-- a type that begins inside the open ones begins with them
wrap : {d : ℕ} {s : List TypeFrame} {ts : List Token} → Spells d s ts → (n : ℕ) {us : List Token} → FrontType n us → n + length s ≡ d
    → FrontType d (ts ++ us)
wrap spells_none n {us = us} f e = subst (λ k. FrontType k us) (let same : n ≡ _ = omega arith in same) f
wrap {d = d} (spells_first {at = at} {ts = ts} h room) n {us = us} f e =
    subst (FrontType d) (sym (append_assoc ts (token LeftParen at ∷ []) us)) (wrap h (suc n) (pair_type_first {at = at} f) (omega arith))
wrap {d = d} (spells_second {at = at} c {ts = ts} {us = vs} h w room) n {us = us} f e =
    subst (FrontType d) (simp append_assoc) (wrap h (suc n) (pair_type_second {at = at} c w (omega arith) f) (omega arith))
wrap {d = d} (spells_vector {at = at} {ts = ts} h room) n {us = us} f e =
    subst (FrontType d) (sym (append_assoc ts (token LeftBracket at ∷ []) us)) (wrap h (suc n) (vector_item {at = at} f) (omega arith))
wrap {d = d} (spells_sequence {at = at} {ts = ts} h room) n {us = us} f e =
    subst (FrontType d) (sym (append_assoc ts (token LeftBrace at ∷ []) us)) (wrap h (suc n) (sequence_item {at = at} f) (omega arith))

stands_front : {d : ℕ} {s : TypeState} {ts : List Token} → Stands d s ts → FrontType d ts
stands_front {d = d} {ts = ts} (stands_begins {s = s} h room) =
    subst (FrontType d) (append-nil ts) (wrap h (suc (d - suc (length s))) no_type (omega arith))
stands_front {d = d} (stands_ended {s = s} h w fits) = wrap h (d - length s) (whole_type w (omega arith)) (omega arith)

stands_whole : {d : ℕ} {s : TypeState} {ts : List Token} → Stands d s ts → (e : TypeTree) → finished_type s ≡ Some e
    → WholeType ts e × (type_depth e ≤ d)
stands_whole (stands_begins h room) e same = absurd (let never : ⊥ = cc in never)
stands_whole {d = d} (stands_ended {us = us} {e = last} spells_none w fits) e same =
    let is : last ≡ e = cc in (subst (WholeType us) is w, subst (λ x. type_depth x ≤ d) is (let h : type_depth last ≤ d = omega arith in h))
stands_whole (stands_ended (spells_first h room) w fits) e same = absurd (let never : ⊥ = cc in never)
stands_whole (stands_ended (spells_second c h wa room) w fits) e same = absurd (let never : ⊥ = cc in never)
stands_whole (stands_ended (spells_vector h room) w fits) e same = absurd (let never : ⊥ = cc in never)
stands_whole (stands_ended (spells_sequence h room) w fits) e same = absurd (let never : ⊥ = cc in never)

-- the tokens, and others with which they are a type
record Completed (d : ℕ) (ts : List Token) : Type 0 where
  pub rest : List Token
  pub tree : TypeTree
  pub whole : WholeType (ts ++ rest) tree
  pub shallow : type_depth tree ≤ d

completed : {d : ℕ} {ts : List Token} → FrontType d ts → Completed d ts
completed no_type = record { rest = token Int 0 ∷ []; tree = int_type 0; whole = int_rule; shallow = omega arith }
completed (whole_type {ts = ts} {tree = e} w h) =
    record { rest = []; tree = e; whole = subst (λ x. WholeType x e) (sym (append-nil ts)) w; shallow = h }
completed (pair_type_first {at = at} {ts = ts} f) =
    let c = completed f in
    let h : type_depth c.tree ≤ _ = c.shallow in
    let least : 1 ≤ type_depth c.tree = type_depth_pos c.tree in
    record {
      rest = c.rest ++ (token Comma 0 ∷ token Int 0 ∷ token RightParen 0 ∷ []);
      tree = pair_type at c.tree (int_type 0);
      whole = subst (λ x. WholeType x (pair_type at c.tree (int_type 0))) (simp append_assoc) (pair_type_rule {at = at} 0 0 c.whole (int_rule {at = 0}));
      shallow = omega arith;
    }
completed (pair_type_second {at = at} comma {ts = ts} {us = us} {first = a} w h f) =
    let c = completed f in
    let k : type_depth c.tree ≤ _ = c.shallow in
    record {
      rest = c.rest ++ (token RightParen 0 ∷ []);
      tree = pair_type at a c.tree;
      whole = subst (λ x. WholeType x (pair_type at a c.tree)) (simp append_assoc) (pair_type_rule {at = at} comma 0 w c.whole);
      shallow = omega arith;
    }
completed (vector_item {at = at} {ts = ts} f) =
    let c = completed f in
    let k : type_depth c.tree ≤ _ = c.shallow in
    record {
      rest = c.rest ++ (token RightBracket 0 ∷ []);
      tree = vector_type at c.tree;
      whole = subst (λ x. WholeType x (vector_type at c.tree)) (simp append_assoc) (vector_rule {at = at} 0 c.whole);
      shallow = omega arith;
    }
completed (sequence_item {at = at} {ts = ts} f) =
    let c = completed f in
    let k : type_depth c.tree ≤ _ = c.shallow in
    record {
      rest = c.rest ++ (token RightBrace 0 ∷ []);
      tree = sequence_type at c.tree;
      whole = subst (λ x. WholeType x (sequence_type at c.tree)) (simp append_assoc) (sequence_rule {at = at} 0 c.whole);
      shallow = omega arith;
    }

-- a whole type has no move
type_ends : (s : TypeState) (e : TypeTree) (t : Token) → finished_type s ≡ Some e → types.move s t ≡ None
type_ends (type_begins s) e t same = absurd (let never : ⊥ = cc in never)
type_ends (type_ended [] last) e t same = refl
type_ends (type_ended (f ∷ s) last) e t same = absurd (let never : ⊥ = cc in never)

-- The reader of types reads what the grammar says.
pub types_are_read : IsReaderOf types WholeType FrontType type_depth MayFollowType
types_are_read = record {
  reads = λ d ts e w h. (type_ended [] e, type_reads w d [] (omega arith), refl);
  stands = λ d ts s least e. stands_front (stands_types d ts s least e);
  whole = λ d ts s e least run same. stands_whole (stands_types d ts s least run) e same;
  completes = λ d ts f. let c = completed f in (c.rest, c.tree, c.whole, c.shallow);
  ends = λ s e t same follows. type_ends s e t same;
}
