-- What the names of a program stand for while it is checked.
use Rattle.std.specs.Prelude.{ℕ, if◌then◌else◌, List, [], ◌∷◌, map, Option, Some, None}
use Rattle.std.specs.Str.{bytes_eq}
use Rattle.snesl_data.specs.Types.{Ty, is_concrete}
use Rattle.snesl_values.specs.Inputs.{InputDeclaration}

-- what a variable stands for: a value of a type, or one of a streamed type that a comprehension's body must not use
pub data Binding : Type 0 where
  open_to : Ty → Binding
  shut : Binding

pub record Entry : Type 0 where
  pub bytes : List ℕ
  pub binding : Binding

-- the variables that are bound, the innermost first
abbrev pub Context : Type 0
Context = List Entry

abbrev pub bound : List ℕ → Ty → Entry
bound bytes t = record { bytes = bytes; binding = open_to t }

-- names with their types as a context: inputs, parameters, or the binders of one comprehension
abbrev pub names_context : List InputDeclaration → Context
names_context = map (λ declaration. bound declaration.0 declaration.1)

-- their types
abbrev pub declared_types : List InputDeclaration → List Ty
declared_types declarations = map (λ declaration. declaration.1) declarations

-- the innermost binding of a name
abbrev pub found : List ℕ → Context → Option Binding
found bytes [] = None
found bytes (entry ∷ context) = if bytes_eq bytes entry.bytes then Some entry.binding else found bytes context

abbrev pub shut_if_streamed : Binding → Binding
shut_if_streamed (open_to t) = if is_concrete t then open_to t else shut
shut_if_streamed shut = shut

-- the same names inside a comprehension, where those of streamed types are shut
abbrev pub inside : Context → Context
inside [] = []
inside (entry ∷ context) = record { bytes = entry.bytes; binding = shut_if_streamed entry.binding } ∷ inside context

-- the type of the first of these that has the name
abbrev pub type_in : List ℕ → List InputDeclaration → Option Ty
type_in bytes [] = None
type_in bytes (declaration ∷ declarations) = if bytes_eq bytes declaration.0 then Some declaration.1 else type_in bytes declarations

-- what a call sees of a declared function: its name, and the types of its parameters and of its result
pub record Signature : Type 0 where
  pub bytes : List ℕ
  pub parameters : List Ty
  pub result : Ty

-- the functions that were declared so far, in order
abbrev pub Signatures : Type 0
Signatures = List Signature

-- the function of a name
abbrev pub function_named : List ℕ → Signatures → Option Signature
function_named bytes [] = None
function_named bytes (signature ∷ signatures) = if bytes_eq bytes signature.bytes then Some signature else function_named bytes signatures
