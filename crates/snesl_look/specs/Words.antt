-- What is said of refusals and of faults.
use Rattle.std.specs.Prelude.{◌≡◌, ℕ, List, Option, Some, None, codes}
use Rattle.snesl_data.specs.declared.fault.FaultKind.{FaultKind}
use Rattle.snesl_data.specs.declared.fault.FaultKind.TheVariants.{Divide, Overflow, NegativeCount, Length, Part, The, EmptyMax, Index, Shape}
use Rattle.snesl_data.specs.declared.refusal.Refusal.{Refusal}
use Rattle.snesl_data.specs.declared.refusal.Refusal.TheVariants.{TooLong, Lex, Syntax, Deep, Name, Mismatch, Streamed, BadInput, TooBig, BadConfig, NoMemory, Output, NoThread, Read, Short}
use Rattle.snesl_data.specs.Faults.{number_of_fault}
use Rattle.snesl_data.specs.Refusals.{number_of_refusal}

-- what went wrong where a job was refused
abbrev pub refusal_sentence : Refusal → List ℕ
refusal_sentence TooLong = codes "the program is longer than 65,536 bytes"
refusal_sentence (Lex at) = codes "no token of the language begins here"
refusal_sentence (Syntax at) = codes "a program cannot go on like this, nor end here"
refusal_sentence Deep = codes "the program is nested deeper than 64"
refusal_sentence (Name at) = codes "this name is not bound here, or it is bound twice"
refusal_sentence (Mismatch at) = codes "a value of another type, or another number of values, is needed here"
refusal_sentence (Streamed at) = codes "a sequence stands here where only a value in memory may stand"
refusal_sentence (BadInput at) = codes "the input text is not as the program declares its inputs"
refusal_sentence TooBig = codes "the program is too big"
refusal_sentence BadConfig = codes "the settings are not lawful"
refusal_sentence NoMemory = codes "memory was refused"
refusal_sentence Output = codes "the output could not be written"
refusal_sentence NoThread = codes "a thread could not be started"
refusal_sentence Read = codes "the job could not be read"
refusal_sentence Short = codes "an edge holds less than its capacity"

-- what may help there
abbrev pub refusal_hint : Refusal → Option (List ℕ)
refusal_hint TooLong = Some (codes "data belong into the input text, behind a line `---`: it may have 16,777,216 bytes")
refusal_hint (Lex at) = Some (codes "this character is none of the language, or this integer is greater than its dialect has")
refusal_hint (Syntax at) = Some (codes "`let`, `if` and a second comparison stand as operands in parentheses only")
refusal_hint Deep = Some (codes "the body of a function may be 64 deep by itself, and a long sum is `reduce_add({a, b})`")
refusal_hint (Name at) = Some (codes "a function sees its parameters and the functions before it, and no inputs")
refusal_hint (Mismatch at) = Some (codes "operators take single values; for each element of a sequence `s` write `{x + 1 : x in s}`")
refusal_hint (Streamed at) = Some (codes "make a vector of it outside of the comprehension, by `tab(s)`, and inside take `seq(v)`")
refusal_hint (BadInput at) = Some (codes "each input in order, as `n = 1; v = [1,2]; s = {(1,true)}`")
refusal_hint TooBig = Some (codes "each call counts the body of its function anew; docs/LANGUAGE.md has the limits under `TooBig`")
refusal_hint BadConfig = Some (codes "`levuttar run --help` says what each may be")
refusal_hint NoMemory = Some (codes "a vector, the input text and the text of the value are held whole; streamed sequences are not")
refusal_hint NoThread = Some (codes "`--drive serial` starts none")
refusal_hint _ = None

-- what went wrong in a program that ended in a fault
abbrev pub fault_sentence : FaultKind → List ℕ
fault_sentence Divide = codes "this divides by zero"
fault_sentence Overflow = codes "this integer is out of range"
fault_sentence NegativeCount = codes "`iota` was given a negative number"
fault_sentence Length = codes "the sequences of this comprehension differ in length"
fault_sentence Part = codes "the flags of `part` do not fit its sequence"
fault_sentence The = codes "`the` was given a sequence that has not exactly one element"
fault_sentence EmptyMax = codes "`reduce_max` was given an empty sequence"
fault_sentence Index = codes "the index is negative, or not below the length of the vector"
fault_sentence Shape = codes "a stream ended early, or an item of another kind came"

-- what may help there
abbrev pub fault_hint : FaultKind → Option (List ℕ)
fault_hint Divide = Some (codes "a condition leaves elements out, as in `{100 / x : x in s | not (x == 0)}`")
fault_hint Overflow = Some (codes "a program that begins with `dialect 2;` has integers of 128 bits")
fault_hint Length = Some (codes "its binders go side by side; for all pairs write one comprehension in another")
fault_hint Part = Some (codes "they have a `false` for each element, and a `true` behind each part, the last too")
fault_hint EmptyMax = Some (codes "`reduce_max({0} ++ s)` is 0 there")
fault_hint Index = Some (codes "the first element has the index 0")
fault_hint Shape = Some (codes "the program has a fault, which may lie at another place")
fault_hint _ = None

-- each refusal and each fault has a sentence of its own, whatever its offset is
abbrev pub HaveSentencesOfTheirOwn : Type 0
HaveSentencesOfTheirOwn =
    ((a b : Refusal) → refusal_sentence a ≡ refusal_sentence b → number_of_refusal a ≡ number_of_refusal b)
    × ((a b : FaultKind) → fault_sentence a ≡ fault_sentence b → number_of_fault a ≡ number_of_fault b)
