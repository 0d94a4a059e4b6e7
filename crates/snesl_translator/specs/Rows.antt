-- What a part of a program sees that runs more often, or less often, than what is around it.
use Rattle.std.specs.Prelude.{◌≡◌, ℕ, List, ◌∷◌, [], ◌++◌, Result, map, Vec}
use Rattle.std.specs.Global.{Global}
use Rattle.snesl_data.specs.declared.refusal.Refusal.{Refusal}
use Rattle.snesl_grammar.specs.tree.View.{binders_of, tree_of, typed_of}
use Rattle.snesl_grammar.specs.declared.tree.declaration.Typing.{Typing}
use Rattle.snesl_grammar.specs.declared.tree.expr.Binder.{Binder}
use Rattle.snesl_grammar.specs.declared.tree.expr.Expr.{Expr}
use Rattle.snesl_translation.specs.Wires.{Bound, stream_of}
use Rattle.snesl_translation.specs.Makings.{Making, done, and_then}
use Rattle.snesl_translation.specs.Moving.{all_moved, distributed, flags_stepped, kept}
use Rattle.snesl_translation.specs.FreeNames.{Names, free, without_binders}
use Rattle.snesl_translation.specs.Functions.{parameters_bound}
use Rattle.snesl_translation.specs.Translation.{Sources, first_flags, in_step, items_bound, units_step}
use Rattle.flow_nodes.specs.plans.Plans.{flag_of_bool}
use Rattle.snesl_translator.specs.steps.Added.{Adds}
use Rattle.snesl_translator.specs.steps.Views.{bindings_of, next_in, wires_of}
use Rattle.snesl_translator.specs.declared.steps.steps.Steps.{Steps}
use Rattle.snesl_translator.specs.declared.steps.wires.Binding.{Binding}
use Rattle.snesl_translator.specs.declared.steps.wires.Wires.{Wires}
use Rattle.snesl_translator.specs.scopes.Scopes.{bound_of, names_in}
use Rattle.snesl_translator.specs.declared.scopes.part.Part.{Part}
use Rattle.snesl_translator.specs.declared.scopes.scope.Scope.{Scope}
use Rattle.snesl_translator.specs.declared.rows.Rows.{Rows}

-- the flags that its values stand under, the streams of its names, and its control stream
pub record Opened : Type 0 where
  pub flags : ℕ
  pub bound : Bound
  pub control : ℕ

abbrev pub rows_of : Rows → Opened
rows_of rows = record {
  flags = rows.flags;
  bound = bindings_of rows.items.items ++ (bindings_of rows.outside.items ++ []);
  control = rows.control;
}

-- a comprehension's body, beside these sequences
abbrev pub each_opened : ℕ → Names → Sources → Bound → ℕ → Making Opened
each_opened at names sources bound next =
    and_then (in_step at sources next) (λ _ k.
    and_then (all_moved (distributed at (first_flags sources)) names bound k) (λ inner k.
    and_then (units_step at (first_flags sources) k) (λ c k.
    done (record { flags = first_flags sources; bound = items_bound sources ++ inner; control = stream_of c }) k)))

-- an item, where these truth values are true
abbrev pub where_opened : ℕ → Names → Bound → (d next : ℕ) → Making Opened
where_opened at names bound d next =
    and_then (flags_stepped at flag_of_bool (d ∷ []) next) (λ f k.
    and_then (all_moved (kept at d) names bound k) (λ inner k.
    and_then (units_step at (stream_of f) k) (λ c k.
    done (record { flags = stream_of f; bound = inner; control = stream_of c }) k)))

-- the names that a body takes from outside of its binders, and those that a condition and a body take
abbrev pub names_taken : List ℕ → List Binder → Expr → Names
names_taken text binders body = without_binders text (binders_of binders) (free text (tree_of body))

abbrev pub names_taken_where : List ℕ → List Binder → (condition body : Expr) → Names
names_taken_where text binders condition body =
    without_binders text (binders_of binders) (free text (tree_of condition) ++ free text (tree_of body))

-- the bindings are those of parameters beside arguments
abbrev pub AreBound : List ℕ → List Typing → List Wires → Vec Binding Global → Type 0
AreBound text parameters arguments frame = bindings_of frame.items ≡ parameters_bound text (map typed_of parameters) (map wires_of arguments)

-- the steps by which a comprehension's body is opened beside these sequences were added, and the result is what it sees
abbrev pub OpensEach : Steps → Steps → ℕ → Part → List Binding → Scope → Result Rows Refusal → Type 0
OpensEach old new at part sources scope result =
    Adds rows_of old new (each_opened at (names_in part) (bindings_of sources) (bound_of scope) (next_in old)) result

-- so it is with an item where these truth values are true
abbrev pub OpensWhere : Steps → Steps → ℕ → Part → ℕ → Scope → Result Rows Refusal → Type 0
OpensWhere old new at part truths scope result =
    Adds rows_of old new (where_opened at (names_in part) (bound_of scope) truths (next_in old)) result
