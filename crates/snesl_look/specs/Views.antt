-- What the functions find and write.
use Rattle.std.specs.Prelude.{◌≡◌, ℕ, List, ◌∷◌, ◌++◌, map, Option, option_map, MatchOption, Result, OnOk, Vec}
use Rattle.std.specs.Borrow.{Bor}
use Rattle.std.specs.Global.{Global}
use Rattle.snesl_data.specs.declared.ty.Ty.{Ty as TyTree}
use Rattle.snesl_data.specs.Types.{ty_of}
use Rattle.snesl_types.specs.Clashes.{body, branches, parameters}
use Rattle.snesl_look.specs.declared.places.Position.{Position}
use Rattle.snesl_look.specs.Clashes.{note_of, of_types}
use Rattle.snesl_look.specs.Functions.{IsDeclarationAt, DeclaresFunction, HasName, IsNamedAt, NoneAt, NoneNamedAt}
use Rattle.snesl_look.specs.Messages.{heading_part, noted_message, place_part, placed_message}
use Rattle.snesl_look.specs.Names.{IsMeant, IsNearestAmong, IsNearestAt, IsOther, NoneMeant, NoneNear, NoneNearAmong, distance_at}

-- this was written behind what there was, unless memory was refused
abbrev pub Appends : {E : Type 0} → Vec ℕ Global → Vec ℕ Global → List ℕ → Result (Unit {0}) E → Type 0
Appends old new added result = OnOk result (new.items ≡ old.items ++ added)

-- the text that is lent, if one is
abbrev pub lent_text : Option (Bor (List ℕ)) → Option (List ℕ)
lent_text lent = option_map (λ text. text.now) lent

-- the texts that vectors hold
abbrev pub texts_of : List (Vec ℕ Global) → List (List ℕ)
texts_of all = map (λ text. text.items) all

-- the notes of a call's types, of those of an `if`, and of those of a body
abbrev pub parameters_note : (found wanted : List TyTree) → List ℕ
parameters_note found wanted = note_of (parameters (map ty_of found) (map ty_of wanted))

abbrev pub branches_note : (condition positive negative : TyTree) → List ℕ
branches_note condition positive negative = note_of (branches (ty_of condition) (ty_of positive) (ty_of negative))

abbrev pub body_note : (found wanted : TyTree) → List ℕ
body_note found wanted = note_of (body (ty_of found) (ty_of wanted))

-- what is of at least two types, by the word for one of them
abbrev pub several_note : (word : List ℕ) → (first second : TyTree) → List TyTree → List ℕ
several_note word first second rest = of_types word (map ty_of (first ∷ second ∷ rest))

-- the heading, and the line with a caret, of a position
abbrev pub heading_at : Position → (of_text : List ℕ) → List ℕ
heading_at position of_text = heading_part position.line position.column of_text

abbrev pub place_at : (line : List ℕ) → Position → List ℕ
place_at line position = place_part line position.line position.column

-- it is the message with this place, and the one with these notes
abbrev pub IsMessageAt : (sentence text : List ℕ) → (offset : ℕ) → (of_text : List ℕ) → (name hint : Option (Bor (List ℕ))) → Vec ℕ Global → Type 0
IsMessageAt sentence text offset of_text name hint = λ made. made.items ≡ placed_message sentence text offset of_text (lent_text name) (lent_text hint)

abbrev pub IsNoted : (sentence text : List ℕ) → (offset : ℕ) → (of_text : List ℕ) → List (Vec ℕ Global) → (hint : List ℕ) → Vec ℕ Global → Type 0
IsNoted sentence text offset of_text notes hint = λ made. made.items ≡ noted_message sentence text offset of_text (texts_of notes) hint

-- the function in whose declaration the offset lies, or none
abbrev pub FindsFunction : List ℕ → ℕ → Option (Bor (List ℕ)) → Type 0
FindsFunction program offset found = MatchOption found (NoneNamedAt program offset) (λ name. IsNamedAt program offset name.now)

-- the declaration in which the offset lies, or none
abbrev pub FindsDeclaration : List ℕ → ℕ → Option (Bor (List ℕ)) → Type 0
FindsDeclaration text offset found = MatchOption found (NoneAt text offset) (λ declaration. IsDeclarationAt text offset declaration.now)

-- the name of the function that is declared, or none
abbrev pub FindsName : List ℕ → Option (Bor (List ℕ)) → Type 0
FindsName declaration found = MatchOption found (¬ DeclaresFunction declaration) (λ name. HasName declaration name.now)

-- the name that is meant, or none
abbrev pub FindsMeant : List ℕ → ℕ → Option (Vec ℕ Global) → Type 0
FindsMeant program at = λ found. MatchOption found (NoneMeant program at) (λ name. IsMeant program at name.items)

-- where the first of the nearest names begins, or nowhere
abbrev pub FindsNearest : List ℕ → ℕ → List ℕ → Option ℕ → Type 0
FindsNearest text at word = λ found. MatchOption found (NoneNear text at word) (IsNearestAt text at word)

-- the number of the first of the nearest of these names, or none
abbrev pub FindsNearestOf : List (Vec ℕ Global) → List ℕ → Option ℕ → Type 0
FindsNearestOf names word = λ found. MatchOption found (NoneNearAmong (texts_of names) word) (IsNearestAmong (texts_of names) word)

-- how far another name at this place is from the word, or that none begins there
abbrev pub CountsEdits : List ℕ → ℕ → List ℕ → ℕ → Option ℕ → Type 0
CountsEdits text at word place =
    λ edits. MatchOption edits (¬ IsOther text at place) (λ count. IsOther text at place × (count ≡ distance_at text word place))
