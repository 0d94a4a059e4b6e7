-- The free names of an expression.
use Rattle.std.specs.Prelude.{ℕ, Bool, List, [], ◌∷◌, ◌++◌, if◌then◌else◌}
use Rattle.std.specs.List.{list_any}
use Rattle.std.specs.Str.{bytes_eq}
use Rattle.snesl_grammar.specs.tree.Spelling.{spelling}
use Rattle.snesl_grammar.specs.tree.Tree.{Tree, Trees, Binders, Condition, integer, truth, name, binary, prefix, call, apply, group, pair, binding, choice}
use Rattle.snesl_grammar.specs.tree.Tree.{literal, filter, each, none, both, none_bound, binder, always, only_where}

abbrev pub Names : Type 0
Names = List (List ℕ)

-- whether the name is among these
abbrev pub is_among : List ℕ → Names → Bool
is_among bytes names = list_any (bytes_eq bytes) names

-- these names but for one
abbrev pub without : List ℕ → Names → Names
without bytes [] = []
without bytes (other ∷ names) = if bytes_eq bytes other then without bytes names else other ∷ without bytes names

-- but for those of binders
abbrev pub without_binders : List ℕ → Binders → Names → Names
without_binders text none_bound names = names
without_binders text (binder place source others) names = without (spelling text place) (without_binders text others names)

-- the names that an expression takes from outside, as often as it names them
abbrev mutual
  pub free : List ℕ → Tree → Names
  free text (integer at value) = []
  free text (truth at value) = []
  free text (name place) = spelling text place ∷ []
  free text (binary at operator left right) = free text left ++ free text right
  free text (prefix at operator operand) = free text operand
  free text (call at function arguments) = free_of_all text arguments
  free text (apply function arguments) = free_of_all text arguments
  free text (group at inner) = free text inner
  free text (pair at first second) = free text first ++ free text second
  free text (binding at place value body) = free text value ++ without (spelling text place) (free text body)
  free text (choice at condition positive negative) = free text condition ++ (free text positive ++ free text negative)
  free text (literal at items) = free_of_all text items
  free text (filter at item condition) = free text condition ++ free text item
  free text (each at body binders condition) =
      free_of_sources text binders ++ without_binders text binders (free_of_condition text condition ++ free text body)

  pub free_of_all : List ℕ → Trees → Names
  free_of_all text none = []
  free_of_all text (both first others) = free text first ++ free_of_all text others

  -- those of the sources of binders
  pub free_of_sources : List ℕ → Binders → Names
  free_of_sources text none_bound = []
  free_of_sources text (binder place source others) = free text source ++ free_of_sources text others

  pub free_of_condition : List ℕ → Condition → Names
  free_of_condition text always = []
  free_of_condition text (only_where condition) = free text condition
