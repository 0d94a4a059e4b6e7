-- The open types in a vector, whose last is the innermost.
use Rattle.std.proofs.Common.{◌≡◌, suc, ◌+◌, ◌≤◌, ◌<◌, List, [], ◌∷◌, ◌++◌, length, None, Ok, Err, refl, ap, ◌∙◌, arith, cond, le-leb}
use Rattle.std.proofs.lemmas.Bool.{lt-leb}
use Rattle.snesl_grammar.specs.tree.Tree.{TypeTree}
use Rattle.snesl_syntax.specs.expressions.Readers.{beyond_depth, within}
use Rattle.snesl_syntax.specs.declared.types.TypeForm.{TypeForm}
use Rattle.snesl_grammar.specs.Limits.{greatest_depth}
use Rattle.snesl_syntax.specs.Types.{TypeFrame, type_begins, type_ended, open_type, finished_type}
use Rattle.snesl_syntax.specs.TypeMachine.{frame_of, piled, frames_of}

piled-push : (fs : List TypeForm) (f : TypeForm) (below : List TypeFrame) → piled (fs ++ f ∷ []) below ≡ frame_of f ∷ piled fs below
piled-push [] f below = refl
piled-push (x ∷ fs) f below = piled-push fs f (frame_of x ∷ below)

pub frames_of-push : (fs : List TypeForm) (f : TypeForm) → frames_of (fs ++ f ∷ []) ≡ frame_of f ∷ frames_of fs
frames_of-push fs f = piled-push fs f []

length-piled : (fs : List TypeForm) (below : List TypeFrame) → length (piled fs below) ≡ length fs + length below
length-piled [] below = omega arith
length-piled (x ∷ fs) below = let h = length-piled fs (frame_of x ∷ below) in omega arith

length-frames_of : (fs : List TypeForm) → length (frames_of fs) ≡ length fs
length-frames_of fs = let h = length-piled fs [] in omega arith

-- the frames where the last form was taken
pub popped : (all rest : List TypeForm) (form known : TypeForm) → all ≡ rest ++ form ∷ [] → form ≡ known → frames_of all ≡ frame_of known ∷ frames_of rest
popped all rest form known e f = ap frames_of e ∙ frames_of-push rest form ∙ ap (λ x. frame_of x ∷ frames_of rest) f

pub has_room : (fs : List TypeForm) (frame : TypeFrame) → suc (length fs) < greatest_depth
    → within greatest_depth (open_type (frames_of fs) frame) ≡ Ok (type_begins (frame ∷ frames_of fs))
has_room fs frame h =
    ap (λ b. cond b (Ok (type_begins (frame ∷ frames_of fs))) (Err beyond_depth))
    (le-leb (suc (suc (length (frames_of fs)))) greatest_depth (omega (arith, length-frames_of fs)))

pub has_no_room : (fs : List TypeForm) (frame : TypeFrame) → greatest_depth ≤ suc (length fs)
    → within greatest_depth (open_type (frames_of fs) frame) ≡ Err beyond_depth
has_no_room fs frame h =
    ap (λ b. cond b (Ok (type_begins (frame ∷ frames_of fs))) (Err beyond_depth))
    (lt-leb (suc (suc (length (frames_of fs)))) greatest_depth (omega (arith, length-frames_of fs)))

still_open : (frames : List TypeFrame) (last : TypeTree) → 0 < length frames → finished_type (type_ended frames last) ≡ None
still_open [] last h = absurd (omega arith)
still_open (f ∷ frames) last h = refl

-- a type inside an open one is not whole
pub not_whole : (fs : List TypeForm) (last : TypeTree) → 0 < length fs → finished_type (type_ended (frames_of fs) last) ≡ None
not_whole fs last h = still_open (frames_of fs) last (omega (arith, length-frames_of fs))
