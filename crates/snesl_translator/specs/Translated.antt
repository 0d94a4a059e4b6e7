-- The translation of an expression where the translator stands.
use Rattle.std.specs.Prelude.{ℕ, true, List, [], ◌∷◌, ◌++◌, map}
use Rattle.snesl_data.specs.declared.dialect.Dialect.{Dialect}
use Rattle.snesl_data.specs.Types.{bool}
use Rattle.snesl_data.specs.declared.operators.scalar.Scalar.TheVariants.{Bool as Truth}
use Rattle.flow_nodes.specs.plans.Plans.{const, the_check}
use Rattle.snesl_grammar.specs.tree.Spelling.{spelling}
use Rattle.snesl_grammar.specs.tree.Tree.{Tree, Trees, Binders}
use Rattle.snesl_grammar.specs.tree.View.{declaration_of}
use Rattle.snesl_grammar.specs.declared.tree.span.Span.{Span}
use Rattle.snesl_translation.specs.Wires.{Wires, item_wires, segments, stream_of}
use Rattle.snesl_translation.specs.Makings.{Making, done, and_then, stepped, tested}
use Rattle.snesl_translation.specs.FreeNames.{free, without_binders}
use Rattle.snesl_translation.specs.Translation.{Bodies, Sources, appended, concatenated, filtered, single, tr, tr_all, tr_binders, tr_further, wires_named}
use Rattle.snesl_translation.specs.Functions.{bodies_of}
use Rattle.snesl_translator.specs.steps.Views.{dialect_of_steps, next_in}
use Rattle.snesl_translator.specs.declared.steps.steps.Steps.{Steps}
use Rattle.snesl_translator.specs.scopes.Scopes.{bound_of}
use Rattle.snesl_translator.specs.declared.scopes.scope.Scope.{Scope}
use Rattle.snesl_translator.specs.declared.translator.ProgramContext.{ProgramContext}
use Rattle.snesl_translator.specs.Rows.{Opened, each_opened}

-- the bodies of the functions that may be called
abbrev pub bodies_in : Dialect → ProgramContext → Bodies
bodies_in dialect context = bodies_of dialect context.text.now (map declaration_of context.functions.now)

-- the steps of an expression after these
abbrev pub translated : Steps → ProgramContext → Scope → Tree → ℕ → Making Wires
translated steps context scope tree control =
    tr (dialect_of_steps steps) context.text.now (bodies_in (dialect_of_steps steps) context) tree (bound_of scope) control (next_in steps)

-- those of arguments, and of the sequences of binders
abbrev pub all_in : Dialect → ProgramContext → Scope → Trees → (control next : ℕ) → Making (List Wires)
all_in dialect context scope trees control next = tr_all dialect context.text.now (bodies_in dialect context) trees (bound_of scope) control next

abbrev pub binders_in : Dialect → ProgramContext → Scope → Binders → (control next : ℕ) → Making Sources
binders_in dialect context scope binders control next = tr_binders dialect context.text.now (bodies_in dialect context) binders (bound_of scope) control next

-- those of an item where truth values are true, and of one where true stands
abbrev pub filtered_in : Dialect → ProgramContext → Scope → ℕ → Tree → (truths next : ℕ) → Making Wires
filtered_in dialect context scope at item truths next =
    filtered at (free context.text.now item) (λ b c n. tr dialect context.text.now (bodies_in dialect context) item b c n) (bound_of scope) truths next

abbrev pub single_in : Dialect → ProgramContext → Scope → ℕ → Tree → (control next : ℕ) → Making Wires
single_in dialect context scope at item control next =
    single at (free context.text.now item) (λ b c n. tr dialect context.text.now (bodies_in dialect context) item b c n) (bound_of scope) control next

-- true for each instance
abbrev pub always_true : ℕ → (control next : ℕ) → Making ℕ
always_true at control next = and_then (stepped at (const (Truth true)) (control ∷ []) bool next) (λ d k. done (stream_of d) k)

-- those of further items of a literal, after a sequence that was made
abbrev pub further_in : Dialect → ProgramContext → Scope → ℕ → Wires → Trees → (control next : ℕ) → Making Wires
further_in dialect context scope at sequence items control next =
    tr_further dialect context.text.now (bodies_in dialect context) at (λ b c n. done sequence n) items (bound_of scope) control next

-- the steps of a body that sees this
abbrev pub body_in : Dialect → ProgramContext → Opened → Tree → ℕ → Making Wires
body_in dialect context rows body next =
    and_then (tr dialect context.text.now (bodies_in dialect context) body rows.bound rows.control next) (λ w k. done (segments rows.flags w) k)

-- and those of a body where a condition is true
abbrev pub where_in : Dialect → ProgramContext → Opened → ℕ → (body condition : Tree) → ℕ → Making Wires
where_in dialect context rows at body condition next =
    and_then (tr dialect context.text.now (bodies_in dialect context) condition rows.bound rows.control next) (λ d k.
    and_then (filtered at (free context.text.now body) (λ b c n. tr dialect context.text.now (bodies_in dialect context) body b c n) rows.bound (stream_of d) k) (λ w k.
    concatenated at (segments rows.flags w) k))

-- a comprehension after its sequences, and one with a condition
abbrev pub each_behind : Dialect → ProgramContext → Scope → ℕ → Sources → Tree → Binders → ℕ → Making Wires
each_behind dialect context scope at sources body binders next =
    and_then (each_opened at (without_binders context.text.now binders (free context.text.now body)) sources (bound_of scope) next) (λ rows k.
    body_in dialect context rows body k)

abbrev pub where_after : Dialect → ProgramContext → Scope → ℕ → Sources → (body condition : Tree) → Binders → ℕ → Making Wires
where_after dialect context scope at sources body condition binders next =
    let names = without_binders context.text.now binders (free context.text.now condition ++ free context.text.now body) in
    and_then (each_opened at names sources (bound_of scope) next) (λ rows k. where_in dialect context rows at body condition k)

-- the streams of a name in scope
abbrev pub streams_named : List ℕ → Scope → Span → Wires
streams_named text scope name = wires_named (spelling text name) (bound_of scope)

-- of two sequences, of which one is empty, the element of the other
abbrev pub joined : ℕ → (left right : Wires) → ℕ → Making Wires
joined at left right next = and_then (appended at left right next) (λ w k. tested at the_check (stream_of w ∷ []) (item_wires w) k)
