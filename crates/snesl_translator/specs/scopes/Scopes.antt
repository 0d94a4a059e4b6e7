-- What names stand for where an expression is translated, and which names a part of a program takes from outside.
use Rattle.std.specs.Prelude.{◌≡◌, List, ℕ, [], ◌++◌, Option, Some, None, Bool, true, false, if◌then◌else◌, option_map, unwrap_or}
use Rattle.std.specs.Str.{bytes_eq}
use Rattle.std.specs.Borrow.{Bor}
use Rattle.snesl_grammar.specs.tree.View.{tree_of, binders_of}
use Rattle.snesl_grammar.specs.tree.Spelling.{spelling}
use Rattle.snesl_grammar.specs.tree.Tree.{Binders, none_bound, binder, Condition, always, only_where}
use Rattle.snesl_grammar.specs.declared.tree.expr.Expr.{Expr}
use Rattle.snesl_translation.specs.Wires.{Bound}
use Rattle.snesl_translation.specs.Translation.{wires_named}
use Rattle.snesl_translation.specs.FreeNames.{Names, free, free_of_condition, without_binders}
use Rattle.snesl_translator.specs.steps.Views.{bindings_of, wires_of}
use Rattle.snesl_translator.specs.declared.steps.wires.Binding.{Binding}
use Rattle.snesl_translator.specs.declared.steps.wires.Wires.{Wires}
use Rattle.snesl_translator.specs.declared.scopes.scope.Scope.{Scope}
use Rattle.snesl_translator.specs.declared.scopes.scope.Scope.TheVariants.{Nothing, Frame'}
use Rattle.snesl_translator.specs.declared.scopes.part.Part.{Part}

-- the streams of the names in scope, the innermost first
abbrev pub bound_of : Scope → Bound
bound_of Nothing = []
bound_of (Frame' bindings p outer) = bindings_of bindings.now ++ bound_of outer

-- the condition of a part, where it has one
abbrev pub condition_in : Option (Bor Expr) → Condition
condition_in None = always
condition_in (Some condition) = only_where (tree_of condition.now)

-- the names that it takes from outside: those of its condition and its body, but for those of its binders
abbrev pub names_in : Part → Names
names_in part =
    without_binders part.text.now (binders_of part.binders.now) (free_of_condition part.text.now (condition_in part.condition) ++ free part.text.now (tree_of part.body.now))

-- whether one of the binders has the name
abbrev pub binds : List ℕ → List ℕ → Binders → Bool
binds text bytes none_bound = false
binds text bytes (binder place source others) = if bytes_eq bytes (spelling text place) then true else binds text bytes others

-- the streams of a name are those that were found among these bindings, and else those that it has outside of them
abbrev pub LooksUp : List ℕ → List Binding → Bound → Option (Bor Wires) → Type 0
LooksUp name bindings outer found =
    wires_named name (bindings_of bindings ++ outer) ≡ unwrap_or (option_map (λ wires. wires_of wires.now) found) (wires_named name outer)
