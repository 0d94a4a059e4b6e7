-- Where in a job a refusal has its place.
use Rattle.std.specs.Prelude.{ℕ, ◌+◌, ◌-◌, ◌^◌, List, Option, Some, None, drop, length, min, unwrap_or}
use Rattle.snesl_data.specs.declared.refusal.Refusal.{Refusal}
use Rattle.snesl_data.specs.declared.refusal.Refusal.TheVariants.{Lex, Syntax, Name, Mismatch, Streamed, BadInput}
use Rattle.snesl_look.specs.declared.places.Position.{Position}
use Rattle.snesl_look.specs.Places.{column_of, line_of}
use Rattle.snesl_look.specs.findings.Marks.{mark_len}

-- the greatest number that a place has
abbrev pub greatest : ℕ
greatest = 2 ^ 64 - 1

-- of an offset of the program
abbrev pub place_in_program : (program : List ℕ) → ℕ → Position
place_in_program program at = record { line = line_of program at; column = column_of program at }

-- of an offset of the input text: its line follows those of the program and the line `---`
abbrev pub place_in_input : (program input : List ℕ) → ℕ → Position
place_in_input program input at =
    record { line = min (line_of program (length program) + line_of input at) greatest; column = column_of input at }

-- of a refusal, if it has an offset
abbrev pub place_of : Refusal → (program input : List ℕ) → Option Position
place_of (BadInput at) program input = Some (place_in_input program input at)
place_of (Lex at) program input = Some (place_in_program program at)
place_of (Syntax at) program input = Some (place_in_program program at)
place_of (Name at) program input = Some (place_in_program program at)
place_of (Mismatch at) program input = Some (place_in_program program at)
place_of (Streamed at) program input = Some (place_in_program program at)
place_of _ program input = None

-- the front of the job
abbrev pub job_front : Position
job_front = record { line = 1; column = 1 }

-- a refusal's place, or the front of the job
abbrev pub place_or_front : Refusal → (program input : List ℕ) → Position
place_or_front refusal program input = unwrap_or (place_of refusal program input) job_front

-- how many bytes what stands at a refusal's place has
abbrev pub marked : Refusal → (program input : List ℕ) → ℕ
marked (BadInput at) program input = mark_len (drop at input)
marked (Lex at) program input = mark_len (drop at program)
marked (Syntax at) program input = mark_len (drop at program)
marked (Name at) program input = mark_len (drop at program)
marked (Mismatch at) program input = mark_len (drop at program)
marked (Streamed at) program input = mark_len (drop at program)
marked _ program input = 0

-- the column behind that
abbrev pub end_of : Refusal → (program input : List ℕ) → ℕ
end_of refusal program input = min ((place_or_front refusal program input).column + marked refusal program input) greatest
