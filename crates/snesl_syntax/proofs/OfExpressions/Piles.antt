-- The open forms in a vector, whose last is the innermost.
use Rattle.std.proofs.Common.{◌≡◌, ℕ, zero, suc, ◌+◌, ◌-◌, ◌≤◌, ◌<◌, true, false, List, [], ◌∷◌, ◌++◌, length, cond, Some, Ok, Err, IsTrue, nat_le, nat_eq, refl, sym, ap, ◌∙◌, arith, le-leb, inl, inr}
use Rattle.std.specs.List.{slice_get}
use Rattle.std.proofs.lemmas.Option.{slice_get_within}
use Rattle.std.proofs.lemmas.Bool.{lt-leb, cases_lt, ne_eqb}
use Rattle.snesl_grammar.specs.tree.Tree.{Tree}
use Rattle.snesl_syntax.specs.declared.expressions.forms.Form.{Form}
use Rattle.snesl_grammar.specs.Limits.{greatest_depth}
use Rattle.snesl_syntax.specs.expressions.Readers.{within, beyond_depth}
use Rattle.snesl_syntax.specs.expressions.Machine.{Frame, in_binary, in_prefix, in_call, in_apply, in_group, in_second, in_value, in_let_body, in_condition}
use Rattle.snesl_syntax.specs.expressions.Machine.{in_positive, in_negative, in_braces, in_filter, in_source, in_each_condition, State, binds_at}
use Rattle.snesl_syntax.specs.expressions.Machine.{closed_with, reduce, open_move, floor}
use Rattle.snesl_syntax.specs.expressions.Parsing.{frame_of, piled, frames_of}

piled-push : (fs : List Form) (f : Form) (below : List Frame) → piled (fs ++ f ∷ []) below ≡ frame_of f ∷ piled fs below
piled-push [] f below = refl
piled-push (x ∷ fs) f below = piled-push fs f (frame_of x ∷ below)

pub frames_of-push : (fs : List Form) (f : Form) → frames_of (fs ++ f ∷ []) ≡ frame_of f ∷ frames_of fs
frames_of-push fs f = piled-push fs f []

length-piled : (fs : List Form) (below : List Frame) → length (piled fs below) ≡ length fs + length below
length-piled [] below = omega arith
length-piled (x ∷ fs) below = let h = length-piled fs (frame_of x ∷ below) in omega arith

pub length-frames_of : (fs : List Form) → length (frames_of fs) ≡ length fs
length-frames_of fs = let h = length-piled fs [] in omega arith

-- what is not below is at least as much
pub at_least : (m n : ℕ) → (m < n → IsTrue false) → n ≤ m
at_least m n h = elim (cases_lt m n) [
  | inl less ↦ absurd (let no : ⊥ = cc (h less) in no)
  | inr more ↦ more
]

pub has_room : (fs : List Form) (next : State) → suc (length fs) < greatest_depth → within greatest_depth (open_move (frames_of fs) next) ≡ Ok next
has_room fs next h =
    ap (λ b. cond b (Ok next) (Err beyond_depth)) (le-leb (suc (suc (length (frames_of fs)))) greatest_depth (omega (arith, length-frames_of fs)))

pub has_no_room : (fs : List Form) (next : State) → greatest_depth ≤ suc (length fs) → within greatest_depth (open_move (frames_of fs) next) ≡ Err beyond_depth
has_no_room fs next h =
    ap (λ b. cond b (Ok next) (Err beyond_depth)) (lt-leb (suc (suc (length (frames_of fs)))) greatest_depth (omega (arith, length-frames_of fs)))

pub zero_test : (n : ℕ) → nat_eq n 0 ≡ nat_le n 0
zero_test zero = refl
zero_test (suc n) = ne_eqb (suc n) 0 (λ h. omega arith) ∙ sym (lt-leb (suc n) 0 (omega arith))

-- a frame that closes at this tightness, and one that stays open
pub reduce_closes : (l : ℕ) (f : Frame) (s : List Frame) (e : Tree) → binds_at l f ≡ true → reduce l (f ∷ s) e ≡ reduce l s (closed_with f e)
reduce_closes l f s e h = ap (λ b. cond b (reduce l s (closed_with f e)) (record { frames = f ∷ s; last = e })) h

pub reduce_keeps : (l : ℕ) (f : Frame) (s : List Frame) (e : Tree) → binds_at l f ≡ false → reduce l (f ∷ s) e ≡ record { frames = f ∷ s; last = e }
reduce_keeps l f s e h = ap (λ b. cond b (reduce l s (closed_with f e)) (record { frames = f ∷ s; last = e })) h

pub closes_last : (l : ℕ) (fs : List Form) (f : Form) (e : Tree) → binds_at l (frame_of f) ≡ true
    → reduce l (frames_of (fs ++ f ∷ [])) e ≡ reduce l (frames_of fs) (closed_with (frame_of f) e)
closes_last l fs f e h = ap (λ s. reduce l s e) (frames_of-push fs f) ∙ reduce_closes l (frame_of f) (frames_of fs) e h

pub keeps_last : (l : ℕ) (fs : List Form) (f : Form) (e : Tree) → binds_at l (frame_of f) ≡ false
    → reduce l (frames_of (fs ++ f ∷ [])) e ≡ record { frames = frames_of (fs ++ f ∷ []); last = e }
keeps_last l fs f e h =
    ap (λ s. reduce l s e) (frames_of-push fs f) ∙ reduce_keeps l (frame_of f) (frames_of fs) e h
    ∙ ap (λ s. record { frames = s; last = e }) (sym (frames_of-push fs f))

-- the innermost frame alone says how tightly a form has to bind
pub floor_of-last : (f : Frame) (s : List Frame) → floor (f ∷ s) ≡ floor (f ∷ [])
floor_of-last (in_binary at operator left) s = refl
floor_of-last (in_prefix at operator) s = refl
floor_of-last (in_call at function given) s = refl
floor_of-last (in_apply function given) s = refl
floor_of-last (in_group at) s = refl
floor_of-last (in_second at first) s = refl
floor_of-last (in_value at place) s = refl
floor_of-last (in_let_body at place value) s = refl
floor_of-last (in_condition at) s = refl
floor_of-last (in_positive at condition) s = refl
floor_of-last (in_negative at condition positive) s = refl
floor_of-last (in_braces at given) s = refl
floor_of-last (in_filter at item) s = refl
floor_of-last (in_source at body binders place) s = refl
floor_of-last (in_each_condition at body binders) s = refl

last_piled : (fs : List Form) (f : Form) (n : ℕ) (below : List Frame) → length fs ≡ suc n → slice_get fs n ≡ Some f → floor (piled fs below) ≡ floor (frame_of f ∷ [])
last_piled [] f n below h e = absurd (omega arith)
last_piled (x ∷ []) f zero below h e = let same : x ≡ f = cc in floor_of-last (frame_of x) below ∙ ap (λ y. floor (frame_of y ∷ [])) same
last_piled (x ∷ []) f (suc n) below h e = absurd (omega arith)
last_piled (x ∷ y ∷ fs) f zero below h e = absurd (omega arith)
last_piled (x ∷ y ∷ fs) f (suc n) below h e = last_piled (y ∷ fs) f n (frame_of x ∷ below) (omega arith) e

pub floor_by_last : (fs : List Form) (f : Form) → Some f ≡ slice_get fs (length fs - 1) → floor (frames_of fs) ≡ floor (frame_of f ∷ [])
floor_by_last fs f e =
    let h : length fs - 1 < length fs = slice_get_within fs (length fs - 1) f (sym e) in
    last_piled fs f (length fs - 1) [] (omega arith) (sym e)
