-- What a builder of values has open, as frames, the innermost first.
use Rattle.std.specs.Prelude.{◌≡◌, List, [], ◌∷◌, map, Vec, Option, None, option_map, Result, IfOk}
use Rattle.std.specs.Global.{Global}
use Rattle.std.specs.declared.alloc.AllocError.{AllocError}
use Rattle.snesl_data.specs.declared.datum.Datum.{Datum}
use Rattle.snesl_data.specs.Values.{value_of}
use Rattle.snesl_data.specs.Builders.{built_in}
use Rattle.snesl_values.specs.declared.marks.Bracket.{Bracket}
use Rattle.snesl_values.specs.declared.marks.Bracket.TheVariants.{Square, Curly}
use Rattle.snesl_values.specs.declared.marks.Mark.{Mark}
use Rattle.snesl_values.specs.declared.marks.Mark.TheVariants as marks
use Rattle.snesl_values.specs.declared.builder.Pending.{Pending}
use Rattle.snesl_values.specs.declared.builder.Pending.TheVariants.{Vector, Sequence, First, Second}
use Rattle.snesl_values.specs.Places.{OpenPart, in_items, in_first, in_second, Reading, on_none, on_some}

-- the frame that something open is
abbrev pub frame_of : Pending → OpenPart
frame_of (Vector elements) = in_items Square (built_in elements)
frame_of (Sequence items) = in_items Curly (map value_of items.items)
frame_of First = in_first
frame_of (Second datum) = in_second (value_of datum)

-- the frames of these, the last one innermost, upon other frames
abbrev pub frames_from : List OpenPart → List Pending → List OpenPart
frames_from frames [] = frames
frames_from frames (one ∷ rest) = frames_from (frame_of one ∷ frames) rest

-- the frames of all that is open
unfoldable pub frames_of : List Pending → List OpenPart
frames_of all = frames_from [] all

-- the same with the value that was just read, if one was
abbrev pub reading_of : List Pending → Option Datum → Reading
reading_of opens last = (frames_of opens, option_map value_of last)

-- the frames of all that is open in a vector
abbrev pub frames_in : Vec Pending Global → List OpenPart
frames_in pending = frames_of pending.items

-- what a token makes of the last value of this part, around which these are open
abbrev pub reading_in : Vec Pending Global → Pending → Datum → Mark → Reading
reading_in pending part datum mark = on_some (value_of datum) (frame_of part ∷ frames_in pending) mark

-- what is open and the value that is whole then are what was to be read, unless memory was refused
abbrev pub HasRead : Result (Option Datum) AllocError → Vec Pending Global → Reading → Type 0
HasRead result pending reading = IfOk result (λ last. reading_of pending.items last ≡ reading)

-- the bracket was opened where a value comes next
abbrev pub OpensBracket : Vec Pending Global → Vec Pending Global → Bracket → Type 0
OpensBracket old new bracket = reading_of new.items None ≡ on_none (frames_in old) (marks.Open bracket)
