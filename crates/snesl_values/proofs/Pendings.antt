-- What a builder of values has open, and what it makes of a token.
use Rattle.std.proofs.Common.{◌≡◌, ℕ, ◌+◌, ◌-◌, ◌<◌, ◌≤◌, false, List, [], ◌∷◌, ◌++◌, length, Option, Some, None, refl, sym, ap, ◌∙◌, arith, append-nil}
use Rattle.snesl_data.specs.declared.datum.Datum.TheVariants.{Bool as BoolDatum}
use Rattle.snesl_data.specs.Values.{Value}
use Rattle.snesl_values.specs.InputTokens.{SizedToken, next_at, next_lexeme}
use Rattle.snesl_values.specs.declared.marks.Found.{Found}
use Rattle.snesl_values.specs.declared.builder.Pending.{Pending}
use Rattle.snesl_values.specs.Marks.{mark_of, Spot, spots_in, spots, found_from}
use Rattle.snesl_values.specs.Places.{OpenPart, Reading, no_value, unlawful, after_token, read_value, spelled, value_at}
use Rattle.snesl_values.specs.Pendings.{frame_of, frames_from, frames_of, reading_of}
use Rattle.snesl_values.proofs.Spots.{spots_none, spots_some}

from-push : (frames : List OpenPart) (all : List Pending) (x : Pending) → frames_from frames (all ++ x ∷ []) ≡ frame_of x ∷ frames_from frames all
from-push frames [] x = refl
from-push frames (y ∷ all) x = from-push (frame_of y ∷ frames) all x

frames-push : (all : List Pending) (x : Pending) → frames_of (all ++ x ∷ []) ≡ frame_of x ∷ frames_of all
unfolding frames_of
frames-push all x = from-push [] all x

pub frames-none : frames_of [] ≡ []
unfolding frames_of
frames-none = refl

-- one more is open
pub pushed : (now before : List Pending) (x : Pending) → now ≡ before ++ x ∷ [] → reading_of now None ≡ (frame_of x ∷ frames_of before, None)
pushed now before x e = ap (λ l. reading_of l None) e ∙ ap (λ (f : List OpenPart). let r : Reading = (f, None) in r) (frames-push before x)

-- the innermost was taken away
pub popped : (before now : List Pending) (x y : Pending) → before ≡ now ++ x ∷ [] → x ≡ y → frame_of y ∷ frames_of now ≡ frames_of before
popped before now x y e same = sym (ap frames_of e ∙ frames-push now x ∙ ap (λ z. frame_of z ∷ frames_of now) same)

-- nothing was open
pub empties : (before now : List Pending) → length before ≡ 0 → before ≡ now ++ [] → (frames_of before ≡ []) × (frames_of now ≡ [])
empties [] now size e = (frames-none, ap frames_of (sym (append-nil now) ∙ sym e) ∙ frames-none)
empties (x ∷ before) now size e = absurd (omega arith)

pub cleared : (now : List Pending) → now ≡ [] → reading_of now (Some (BoolDatum false)) ≡ unlawful
cleared now e = ap (λ l. reading_of l (Some (BoolDatum false))) e ∙ ap (λ (f : List OpenPart). let r : Reading = (f, Some no_value) in r) frames-none

-- something is open
from-full : (frame : OpenPart) (frames : List OpenPart) (all : List Pending) (value : Option Value) → read_value (frames_from (frame ∷ frames) all) value ≡ no_value
from-full frame frames [] value = refl
from-full frame frames (x ∷ all) value = from-full (frame_of x) (frame ∷ frames) all value

pub read_full : (all : List Pending) (value : Option Value) → 0 < length all → read_value (frames_of all) value ≡ no_value
unfolding frames_of
read_full [] value some = absurd (omega arith)
read_full (x ∷ all) value some = from-full (frame_of x) [] all value

pub read_empty : (all : List Pending) (v : Value) → length all ≡ 0 → read_value (frames_of all) (Some v) ≡ v
unfolding frames_of
read_empty [] v none = refl
read_empty (x ∷ all) v none = absurd (omega arith)

-- the tokens after one that was found
pub spots_found : (text : List ℕ) (at : ℕ) (f : Found) → at ≤ length text → Some f ≡ found_from (next_at text at) (next_lexeme text at) → spots text at ≡ (f.mark, at) ∷ spots text f.end
spots_found text at f within e = by_next (next_lexeme text at) refl e
  where
    by_next : (o : Option SizedToken) → next_lexeme text at ≡ o → Some f ≡ found_from (next_at text at) o → spots text at ≡ (f.mark, at) ∷ spots text f.end
    by_next None is e = absurd (cc)
    by_next (Some l) is e =
        let g : Found = record { mark = mark_of l.0; end = next_at text at + l.1 } in
        let same : g ≡ f = cc in
        spots_some text at l within is ∙ ap (λ (f : Found). (f.mark, at) ∷ spots text f.end) same

pub spots_unfound : (text : List ℕ) (at : ℕ) → None ≡ found_from (next_at text at) (next_lexeme text at) → spots text at ≡ []
spots_unfound text at e = by_next (next_lexeme text at) refl e
  where
    by_next : (o : Option SizedToken) → next_lexeme text at ≡ o → None ≡ found_from (next_at text at) o → spots text at ≡ []
    by_next None is e = spots_none text at is
    by_next (Some l) is e = absurd (cc)

-- what is spelled, token by token
pub spells_on : (text : List ℕ) (at : ℕ) (f : Found) (frames : List OpenPart) (value : Option Value) (r : Reading) → at ≤ length text → Some f
    ≡ found_from (next_at text at) (next_lexeme text at) → after_token value frames f.mark ≡ r
    → spelled frames value (spots text at) ≡ spelled r.0 r.1 (spots text f.end)
spells_on text at f frames value r within e step =
    ap (spelled frames value) (spots_found text at f within e) ∙ ap (λ (r : Reading). spelled r.0 r.1 (spots text f.end)) step

spelled_whole : (v : Value) (rest : List Spot) → spelled [] (Some v) rest ≡ v
spelled_whole v [] = refl
spelled_whole v (x ∷ rest) = spelled_whole v rest

-- where a value is whole and nothing is open, it is what is spelled
pub spells_whole : (text : List ℕ) (at : ℕ) (all : List Pending) (value : Option Value) (v : Value) → length all ≡ 0 → value ≡ Some v →
    spelled (frames_of all) value (spots text at) ≡ read_value (frames_of all) value
unfolding frames_of
spells_whole text at [] value v none is = ap (λ o. spelled [] o (spots text at)) is ∙ spelled_whole v (spots text at) ∙ ap (read_value []) (sym is)
spells_whole text at (x ∷ all) value v none is = absurd (omega arith)

pub spells_end : (text : List ℕ) (at : ℕ) (frames : List OpenPart) (value : Option Value) → None ≡ found_from (next_at text at) (next_lexeme text at)
    → spelled frames value (spots text at) ≡ read_value frames value
spells_end text at frames value e = ap (spelled frames value) (spots_unfound text at e)

-- the beginning
pub spells_first : (text : List ℕ) (place : ℕ) (all : List Pending) → all ≡ [] → spelled (frames_of all) None (spots text place) ≡ value_at text place
unfolding frames_of value_at
spells_first text place all e = ap (λ l. spelled (frames_of l) None (spots text place)) e

-- past the text
pub spells_past : (text : List ℕ) (place : ℕ) → length text < place → no_value ≡ value_at text place
unfolding value_at spots
spells_past text place past = let none : 0 ≡ length text - place = omega arith in ap (λ n. spelled [] None (spots_in n text place)) none
