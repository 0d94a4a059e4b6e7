-- What data stand for, and what the evaluator's functions say of them.
use Rattle.std.specs.Prelude.{ℕ, List, [], ◌∷◌, ◌++◌, map, Option, option_map, option_to_list, slice_get, Result, ℤ, Bool, Vec}
use Rattle.std.specs.Borrow.{Bor}
use Rattle.std.specs.Global.{Global}
use Rattle.snesl_data.specs.declared.datum.Datum.{Datum}
use Rattle.snesl_data.specs.declared.dialect.Dialect.{Dialect}
use Rattle.snesl_data.specs.declared.fault.FaultKind.TheVariants.{Part as PartFault}
use Rattle.snesl_data.specs.Values.{Value, a_vec, an_int, value_of, values_of}
use Rattle.snesl_data.specs.operators.Reductions.{scan_of}
use Rattle.snesl_grammar.specs.declared.tree.operator.Builtin.{Builtin}
use Rattle.snesl_evaluation.specs.declared.halt.Halt.{Halt}
use Rattle.snesl_evaluation.specs.Answer.{Answer, answer_at, gives, go, go_join, or_fault}
use Rattle.snesl_evaluation.specs.Builtins.{applied, elements_at, int_at, item_answer, items_at, parts_answer, seq_answer, sequence}
use Rattle.snesl_evaluation.specs.Results.{Answers}

-- the values of data in order
abbrev pub values_in : Vec Datum Global → List Value
values_in all = map value_of all.items

-- the value of a datum that is kept, or no value
abbrev pub kept_values : Option Datum → List Value
kept_values kept = option_to_list (option_map value_of kept)

-- the value of a datum that is found
abbrev pub found_value : Option (Bor Datum) → Option Value
found_value found = option_map (λ datum. value_of datum.now) found

-- the result is the answer to the values of two data
abbrev pub AnswersOf : (Value → Value → Answer Value) → Datum → Datum → Result Datum Halt → Type 0
AnswersOf answer left right result = Answers value_of result (answer (value_of left) (value_of right))

-- the result is, in each dialect, the answer of a built-in at one datum
abbrev pub AnswersBuiltin : ℕ → Builtin → Datum → Result Datum Halt → Type 0
AnswersBuiltin at function datum result = (dialect : Dialect) → Answers value_of result (applied dialect at function (value_of datum ∷ []))

-- items of sequences, joined to one
abbrev pub joined_answer : ℕ → List Value → Answer Value
joined_answer at vs = seq_answer (go_join (items_at at) vs)

-- the vector of these elements
abbrev pub vector_answer : List Value → Answer Value
vector_answer vs = gives (a_vec (values_of vs))

-- the sequence of these items
abbrev pub sequence_answer : List Value → Answer Value
sequence_answer vs = gives (sequence vs)

-- the element of a vector at an index
abbrev pub index_answer : ℕ → Value → Value → Answer Value
index_answer at v w = go (elements_at at v) (λ vs. go (int_at at w) (item_answer at vs))

-- at each number the sum of those before it
abbrev pub sums_at : Dialect → ℕ → List ℤ → Answer (List Value)
sums_at dialect at numbers = go (answer_at at (scan_of dialect numbers)) (λ sums. gives (map an_int sums))

-- items in parts, each a sequence
abbrev pub parts_at : ℕ → List Datum → List Bool → Answer (List Value)
parts_at at items flags = go (parts_answer at (map value_of items) flags) (λ parts. gives (map sequence parts))

-- a part and the next item after it, or a fault where no item is left
abbrev pub with_item : ℕ → List Datum → ℕ → Vec Datum Global → Answer (List Value)
with_item at items taken part = go (or_fault PartFault at (slice_get (map value_of items) taken)) (λ v. gives (values_in part ++ v ∷ []))

-- data, and after them the sequence of a part
abbrev pub with_part : (parts part : Vec Datum Global) → List Value
with_part parts part = values_in parts ++ sequence (values_in part) ∷ []
