-- What a token after an operand does, with the open forms in a vector.
use Rattle.std.proofs.Common.{◌≡◌, ℕ, zero, suc, ◌+◌, ◌≤◌, ◌<◌, Bool, true, false, List, [], ◌∷◌, ◌++◌, length, cond, Some, None, Ok, Err, All}
use Rattle.std.proofs.Common.{IsTrue, ◌↔◌, refl, sym, ap, ◌∙◌, arith, le-leb, inl, inr, eqb}
use Rattle.std.specs.Option.{is_some}
use Rattle.std.proofs.lemmas.Bool.{lt-leb, lt-ltb, le-ltb, cases_Bool, eqb-false}
use Rattle.std.proofs.lemmas.List.Elements.{All-nil, All-cons}
use Rattle.snesl_grammar.specs.declared.tree.expr.Expr.{Expr}
use Rattle.snesl_grammar.specs.declared.tree.expr.Binder.{Binder}
use Rattle.snesl_grammar.specs.declared.tree.operator.Operator.{Operator}
use Rattle.snesl_grammar.specs.declared.tree.span.Span.{Span}
use Rattle.snesl_grammar.specs.tree.Tree.{Tree, depth}
use Rattle.snesl_grammar.specs.tree.View.{trees_of, binders_of}
use Rattle.snesl_syntax.specs.declared.expressions.forms.Form.{Form}
use Rattle.snesl_syntax.specs.declared.expressions.forms.Form.TheVariants.{Binary, Prefix, Call, Apply, Group, Second, Value}
use Rattle.snesl_syntax.specs.declared.expressions.forms.Form.TheVariants.{LetBody, Condition, Positive, Negative, Braces, Filter, Source, EachCondition}
use Rattle.snesl_syntax.specs.declared.expressions.measured.Measured.{Measured}
use Rattle.snesl_syntax.specs.declared.expressions.measured.Arguments.{Arguments}
use Rattle.snesl_syntax.specs.declared.expressions.measured.Bound.{Bound}
use Rattle.snesl_grammar.specs.Limits.{greatest_depth}
use Rattle.snesl_grammar.specs.Operators.{level}
use Rattle.snesl_grammar.specs.Expressions.{bound_also, greatest_binder_count}
use Rattle.snesl_syntax.specs.expressions.Readers.{within, at_any_depth, beyond_depth}
use Rattle.snesl_syntax.specs.expressions.Machine.{Frame, in_binary, in_braces, in_source, operand, binder_name, Folded, binds_at, closed_with, reduce}
use Rattle.snesl_syntax.specs.expressions.Machine.{floor, alone, infix_move, colon_move, bar_move, semicolon_move}
use Rattle.snesl_syntax.specs.expressions.Parsing.{frame_of, piled, frames_of}
use Rattle.snesl_syntax.proofs.OfExpressions.Rows.{binder_count-binders_of}
use Rattle.snesl_syntax.proofs.OfExpressions.Piles.{frames_of-push, length-frames_of, reduce_closes, reduce_keeps}

-- an item after others is no body of a comprehension, and has no condition
pub given_colon : (items : List Expr) (at : ℕ) (s : List Frame) (e : Tree) → 0 < length items → colon_move (in_braces at (trees_of items) ∷ s) e ≡ None
given_colon [] at s e h = absurd (omega arith)
given_colon (x ∷ items) at s e h = refl

pub given_bar : (items : List Expr) (at : ℕ) (s : List Frame) (e : Tree) → 0 < length items → bar_move (in_braces at (trees_of items) ∷ s) e ≡ None
given_bar [] at s e h = absurd (omega arith)
given_bar (x ∷ items) at s e h = refl

pub some_left : (n m : ℕ) → eqb n 0 ≡ false → n ≡ m → 0 < m
some_left n m h e = let other : n ≡ 0 → ⊥ = eqb-false n 0 h in omega arith

pub no_bar : (f : Form) (s : List Frame) (e : Tree) → ((at : ℕ) (given : Arguments) → f ≡ Braces at given → ⊥)
    → ((at : ℕ) (body : Measured) (bound : Bound) (place : Span) → f ≡ Source at body bound place → ⊥) → bar_move (frame_of f ∷ s) e ≡ None
no_bar (Braces at given) s e h k = absurd (h at given refl)
no_bar (Source at body bound place) s e h k = absurd (k at body bound place refl)
no_bar (Binary at operator left) s e h k = refl
no_bar (Prefix at operator) s e h k = refl
no_bar (Call at function given) s e h k = refl
no_bar (Apply function given) s e h k = refl
no_bar (Group at) s e h k = refl
no_bar (Second at first) s e h k = refl
no_bar (Value at place) s e h k = refl
no_bar (LetBody at place value) s e h k = refl
no_bar (Condition at) s e h k = refl
no_bar (Positive at condition) s e h k = refl
no_bar (Negative at condition positive) s e h k = refl
no_bar (Filter at item) s e h k = refl
no_bar (EachCondition at body bound) s e h k = refl

pub one_more_binder : (bs : List Binder) (at : ℕ) (body : Tree) (place : Span) (s : List Frame) (e : Tree) → suc (length bs) < greatest_binder_count
    → semicolon_move (in_source at body (binders_of bs) place ∷ s) e ≡ at_any_depth (binder_name s at body (bound_also (binders_of bs) place e))
one_more_binder bs at body place s e h =
    ap (λ b. cond b (at_any_depth (binder_name s at body (bound_also (binders_of bs) place e))) None)
    (lt-ltb (suc _) greatest_binder_count (omega (arith, binder_count-binders_of bs)))

pub no_more_binder : (bs : List Binder) (at : ℕ) (body : Tree) (place : Span) (s : List Frame) (e : Tree) → greatest_binder_count ≤ suc (length bs)
    → semicolon_move (in_source at body (binders_of bs) place ∷ s) e ≡ None
no_more_binder bs at body place s e h =
    ap (λ b. cond b (at_any_depth (binder_name s at body (bound_also (binders_of bs) place e))) None)
    (le-ltb (suc _) greatest_binder_count (omega (arith, binder_count-binders_of bs)))

pub infix_on : (fs : List Form) (op : Operator) (at : ℕ) (e : Tree) → floor (frames_of fs) ≤ level op → depth e + length fs < greatest_depth
    → within greatest_depth (infix_move op at (record { frames = frames_of fs; last = e })) ≡ Ok (operand (in_binary at op e ∷ frames_of fs))
infix_on fs op at e low h =
    ap (λ b. within greatest_depth (cond b (Some (record { want = suc (depth e + length (frames_of fs)); next = operand (in_binary at op e ∷ frames_of fs) })) None))
    (le-leb (floor (frames_of fs)) (level op) low)
    ∙ ap (λ b. cond b (Ok (operand (in_binary at op e ∷ frames_of fs))) (Err beyond_depth))
    (le-leb (suc (depth e + length (frames_of fs))) greatest_depth (omega (arith, length-frames_of fs)))

pub infix_off : (fs : List Form) (op : Operator) (at : ℕ) (e : Tree) → floor (frames_of fs) ≤ level op → greatest_depth ≤ depth e + length fs
    → within greatest_depth (infix_move op at (record { frames = frames_of fs; last = e })) ≡ Err beyond_depth
infix_off fs op at e low h =
    ap (λ b. within greatest_depth (cond b (Some (record { want = suc (depth e + length (frames_of fs)); next = operand (in_binary at op e ∷ frames_of fs) })) None))
    (le-leb (floor (frames_of fs)) (level op) low)
    ∙ ap (λ b. cond b (Ok (operand (in_binary at op e ∷ frames_of fs))) (Err beyond_depth))
    (lt-leb (suc (depth e + length (frames_of fs))) greatest_depth (omega (arith, length-frames_of fs)))

-- what is left when the last form is taken from the open ones
pub popped : (r : Folded) (outer fs : List Form) (f : Form) (e : Tree) → r ≡ record { frames = frames_of outer; last = e }
    → outer ≡ fs ++ f ∷ [] → r ≡ record { frames = frame_of f ∷ frames_of fs; last = e }
popped r outer fs f e p q =
    p ∙ ap (λ o. record { frames = frames_of o; last = e }) q ∙ ap (λ s. record { frames = s; last = e }) (frames_of-push fs f)

pub still_open : (fs : List Form) (e : Tree) → 0 < length fs → alone (record { frames = frames_of fs; last = e }) ≡ None
still_open fs e h =
    ap (λ b. cond b (Some e) None) (lt-leb (length (frames_of fs)) 0 (omega (arith, length-frames_of fs)))

-- whether all frames close by themselves
abbrev every : List Frame → Bool
every [] = true
every (f ∷ s) = cond (binds_at 0 f) (every s) false

reduce_whole : (s : List Frame) (e : Tree) → is_some (alone (reduce 0 s e)) ≡ every s
reduce_whole [] e = refl
reduce_whole (f ∷ s) e =
    elim (cases_Bool (binds_at 0 f)) [
      | inl closing ↦
          ap (λ r. is_some (alone r)) (reduce_closes 0 f s e closing)
          ∙ reduce_whole s (closed_with f e) ∙ sym (ap (λ b. cond b (every s) false) closing)
      | inr staying ↦
          ap (λ r. is_some (alone r)) (reduce_keeps 0 f s e staying)
          ∙ ap (λ b. is_some (cond b (Some e) None)) (lt-leb (suc (length s)) 0 (omega arith)) ∙ sym (ap (λ b. cond b (every s) false) staying)
    ]

all_piled : (fs : List Form) (below : List Frame) → All (λ f. IsTrue (binds_at 0 (frame_of f))) fs → every below ≡ true → every (piled fs below) ≡ true
all_piled [] below a h = h
all_piled (x ∷ fs) below a h =
    all_piled fs (frame_of x ∷ below) (λ k d less. a (suc k) d (omega arith)) (ap (λ b. cond b (every below) false) (a zero x (omega arith)) ∙ h)

both_true : (a b : Bool) → cond a b false ≡ true → (a ≡ true) × (b ≡ true)
both_true true b h = (refl, h)
both_true false b h = absurd (let no : ⊥ = cc in no)

piled_all : (fs : List Form) (below : List Frame) → every (piled fs below) ≡ true → All (λ f. IsTrue (binds_at 0 (frame_of f))) fs × (every below ≡ true)
piled_all [] below h = (All-nil (λ f. IsTrue (binds_at 0 (frame_of f))), h)
piled_all (x ∷ fs) below h =
    let r = piled_all fs (frame_of x ∷ below) h in
    let t = both_true (binds_at 0 (frame_of x)) (every below) r.1 in
    (All-cons (λ f. IsTrue (binds_at 0 (frame_of f))) x fs t.0 r.0, t.1)

same_tests : (r x : Bool) → (r ≡ true → x ≡ true) → (x ≡ true → r ≡ true) → r ≡ x
same_tests true x f g = sym (f refl)
same_tests false true f g = g refl
same_tests false false f g = refl

pub all_closed : (r : Bool) (fs : List Form) (e : Tree) → (IsTrue r ↔ All (λ f. IsTrue (binds_at 0 (frame_of f))) fs)
    → r ≡ is_some (alone (reduce 0 (frames_of fs) e))
all_closed r fs e w =
    same_tests r (is_some (alone (reduce 0 (frames_of fs) e)))
    (λ h. reduce_whole (frames_of fs) e ∙ all_piled fs [] (w.0 h) refl)
    (λ h. w.1 (piled_all fs [] (sym (reduce_whole (frames_of fs) e) ∙ h)).0)
