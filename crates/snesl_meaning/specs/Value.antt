-- What a program gives for an input text: a value or a fault, by its grammar and its evaluation alone. The rules of typing and the
-- limits on a program's length, depth and sizes are not asked: one that they refuse may give something too.
use Rattle.std.specs.Prelude.{◌≡◌, ℕ, ◌≤◌, List, [], ◌∷◌, length, None}
use Rattle.snesl_data.specs.declared.dialect.Dialect.{Dialect}
use Rattle.snesl_data.specs.declared.fault.FaultKind.{FaultKind}
use Rattle.snesl_data.specs.Types.{Ty, int, bool, pair, vec, seq}
use Rattle.snesl_data.specs.Values.{Value}
use Rattle.snesl_values.specs.InputTokens.{Token as InputToken, HasTokens, next_token}
use Rattle.snesl_values.specs.Inputs.{InputDeclaration, Environment, Spells, greatest_input_length}
use Rattle.snesl_grammar.specs.declared.lexer.token.Token.{Token}
use Rattle.snesl_grammar.specs.lexer.Lexical.{dialect_of, Tokens}
use Rattle.snesl_grammar.specs.tree.Spelling.{spelling}
use Rattle.snesl_grammar.specs.tree.Tree.{TypeTree, int_type, bool_type, pair_type, vector_type, sequence_type, DeclarationTree, declares_input, declares_function, ProgramTree}
use Rattle.snesl_grammar.specs.Programs.{WholeProgram}
use Rattle.snesl_evaluation.specs.Answer.{Answer, gives, faults}
use Rattle.snesl_evaluation.specs.Eval.{program_value}
use Rattle.snesl_meaning.specs.Meaning.{Means, meaning_of}

-- the type that is written
abbrev pub type_of_tree : TypeTree → Ty
type_of_tree (int_type at) = int
type_of_tree (bool_type at) = bool
type_of_tree (pair_type at first second) = pair (type_of_tree first) (type_of_tree second)
type_of_tree (vector_type at item) = vec (type_of_tree item)
type_of_tree (sequence_type at item) = seq (type_of_tree item)

-- the inputs that are declared
abbrev pub declared_inputs : List ℕ → List DeclarationTree → List InputDeclaration
declared_inputs text [] = []
declared_inputs text (declares_input declared ∷ others) = (spelling text declared.place, type_of_tree declared.written) ∷ declared_inputs text others
declared_inputs text (declares_function place parameters result body ∷ others) = declared_inputs text others

-- The bytes of the text are tokens, in the dialect that it names, and these are the program.
pub record IsTextOf (text : List ℕ) (program : ProgramTree) : Type 0 where
  pub tokens : List Token
  pub are_tokens : Tokens (dialect_of text) 0 text tokens
  pub is_whole : WholeProgram tokens program

-- The input text spells these values, one for each declared input.
pub record IsInputOf (dialect : Dialect) (declarations : List InputDeclaration) (text : List ℕ) (environment : Environment) : Type 0 where
  pub is_short : length text ≤ greatest_input_length
  pub tokens : List InputToken
  pub end : ℕ
  pub has_tokens : HasTokens text 0 tokens end
  pub no_more : next_token text end ≡ None
  pub are_values : Spells dialect declarations environment tokens

-- The program is evaluated to this with the values that the input text spells.
pub record ProgramGives (text input : List ℕ) (answer : Answer Value) : Type 0 where
  pub program : ProgramTree
  pub environment : Environment
  pub is_text : IsTextOf text program
  pub is_input : IsInputOf program.dialect (declared_inputs text program.declarations) input environment
  pub comes_out : program_value text program environment ≡ answer

-- it gives this value
abbrev pub GivesValue : (text input : List ℕ) → Value → Type 0
GivesValue text input v = ProgramGives text input (gives v)

-- it gives a fault
abbrev pub GivesFault : (text input : List ℕ) → Type 0
GivesFault text input = (kind : FaultKind) × (at : ℕ) × ProgramGives text input (faults kind at)

-- no program and input text give two answers
abbrev pub GiveOneAnswer : Type 0
GiveOneAnswer = (text input : List ℕ) (one other : Answer Value) → ProgramGives text input one → ProgramGives text input other → one ≡ other

-- what is meant by evaluation is given
abbrev pub MeaningsAreGiven : Type 0
MeaningsAreGiven = (text input : List ℕ) (answer : Answer Value) → Means text input (meaning_of answer) → ProgramGives text input answer
