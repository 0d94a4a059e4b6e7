-- Literals, item by item.
use Rattle.std.proofs.Common.{◌≡◌, ◌<◌, ◌≤◌, ◌+◌, ◌∙◌, ℕ, suc, List, [], ◌∷◌, ◌++◌, length, take, drop, get_or, Ok, Err, refl, sym, ap, subst, take_all, drop-cons}
use Rattle.std.proofs.lemmas.List.{take_more, take-append-drop}
use Rattle.snesl_data.specs.declared.dialect.Dialect.{Dialect}
use Rattle.snesl_data.specs.declared.refusal.Refusal.{Refusal}
use Rattle.snesl_grammar.specs.declared.tree.expr.Expr.{Expr}
use Rattle.snesl_grammar.specs.tree.Tree.{Tree, Trees, none, both, literal}
use Rattle.snesl_grammar.specs.tree.View.{tree_of, trees_of}
use Rattle.snesl_translation.specs.Wires.{Wires, Bound}
use Rattle.snesl_translation.specs.Makings.{Making, done, and_then}
use Rattle.snesl_translation.specs.FreeNames.{free}
use Rattle.snesl_translation.specs.Translation.{Bodies, appended, followed, single, tr, tr_further}
use Rattle.snesl_translator.specs.steps.Views.{dialect_of_steps, next_in, wires_of}
use Rattle.snesl_translator.specs.steps.Added.{HasMade, Adds}
use Rattle.snesl_translator.specs.declared.steps.steps.Steps.{Steps}
use Rattle.snesl_translator.proofs.OfSteps.Adding.{made_then, refused_first, then_done}
use Rattle.snesl_translator.specs.scopes.Scopes.{bound_of}
use Rattle.snesl_translator.specs.declared.scopes.scope.Scope.{Scope}
use Rattle.snesl_translator.specs.declared.translator.ProgramContext.{ProgramContext}
use Rattle.snesl_translator.specs.Translated.{bodies_in, further_in, single_in}
use Rattle.snesl_translator.proofs.Expressions.{tr_in}
use Rattle.snesl_translator.proofs.Makings.{in_turn, then_nothing}

module _ (dialect : Dialect) (text : List ℕ) (bodies : Bodies) (at : ℕ) (bound : Bound) (control : ℕ) where
  abbrev further : (Bound → (control next : ℕ) → Making Wires) → Trees → ℕ → Making Wires
  further sequence items next = tr_further dialect text bodies at sequence items bound control next

  -- items after a sequence that was made
  abbrev behind : Wires → Trees → ℕ → Making Wires
  behind u items next = further (λ b c n. done u n) items next

  -- an item, appended to a sequence that was made
  abbrev last_after : Wires → Tree → ℕ → Making Wires
  last_after u item next = and_then (single at (free text item) (λ b c n. tr dialect text bodies item b c n) bound control next) (λ v k. appended at u v k)

  -- items come after a sequence once it was made
  pub further_after : (sequence : Bound → (control next : ℕ) → Making Wires) (items : Trees) (next : ℕ) → further sequence items next ≡ and_then (sequence bound control next) (λ u k. behind u items k)
  unfolding and_then
  further_after sequence none next = sym (then_nothing (sequence bound control next))
  further_after sequence (both item others) next =
      let made = sequence bound control next in
      further_after (λ b c n. followed at sequence (free text item) (λ b c n. tr dialect text bodies item b c n) b c n) others next
      ∙ in_turn made (λ u k. last_after u item k) (λ w k. behind w others k)
      ∙ ap (λ (m : Making Wires). record { steps = made.steps ++ m.steps; given = m.given; next = m.next })
      (sym (further_after (λ b c n. followed at (λ b c n. done made.given n) (free text item) (λ b c n. tr dialect text bodies item b c n) b c n) others made.next))

  -- the first of them is appended, and then come the others
  pub one_after : (u : Wires) (item : Tree) (others : Trees) (next : ℕ) → behind u (both item others) next ≡ and_then (last_after u item next) (λ w k. behind w others k)
  unfolding and_then
  one_after u item others next = further_after (λ b c n. followed at (λ b c n. done u n) (free text item) (λ b c n. tr dialect text bodies item b c n) b c n) others next

  further_parted : (sequence : Bound → (control next : ℕ) → Making Wires) (xs ys : List Expr) (next : ℕ)
      → further sequence (trees_of (xs ++ ys)) next ≡ further (λ b c n. tr_further dialect text bodies at sequence (trees_of xs) b c n) (trees_of ys) next
  further_parted sequence [] ys next = refl
  further_parted sequence (x ∷ xs) ys next = further_parted (λ b c n. followed at sequence (free text (tree_of x)) (λ b c n. tr dialect text bodies (tree_of x) b c n) b c n) xs ys next

  -- first some of them, and then the others
  pub after_parted : (u : Wires) (xs ys : List Expr) (next : ℕ) → behind u (trees_of (xs ++ ys)) next ≡ and_then (behind u (trees_of xs) next) (λ w k. behind w (trees_of ys) k)
  after_parted u xs ys next =
      further_parted (λ b c n. done u n) xs ys next ∙ further_after (λ b c n. tr_further dialect text bodies at (λ b c n. done u n) (trees_of xs) b c n) (trees_of ys) next

module _ (context : ProgramContext) (scope : Scope) (at control : ℕ) where
  -- an item, appended to a sequence, from the next stream on
  abbrev pub last_in : Dialect → Wires → Tree → ℕ → Making Wires
  last_in dialect u item next = and_then (single_in dialect context scope at item control next) (λ v k. appended at u v k)

  -- one more item was appended
  pub item_after : {old middle second new : Steps} (u all v w : Wires) (xs : List Expr) (i : ℕ) (x : Expr) → i < length xs → x ≡ get_or xs i x
      → HasMade old middle (further_in (dialect_of_steps old) context scope at u (trees_of (take i xs)) control (next_in old)) all
      → HasMade middle second (single_in (dialect_of_steps middle) context scope at (tree_of x) control (next_in middle)) v
      → HasMade second new (appended at all v (next_in second)) w
      → HasMade old new (further_in (dialect_of_steps old) context scope at u (trees_of (take (i + 1) xs)) control (next_in old)) w
  item_after {old = old} {middle = middle} {second = second} {new = new} u all v w xs i x l is made item_made last_made =
      let dialect = dialect_of_steps old in
      let text = context.text.now in
      let bodies = bodies_in dialect context in
      let there = take_more xs i x l ∙ ap (λ y. take i xs ++ y ∷ []) (sym is) in
      let item_made' : HasMade middle second (single_in dialect context scope at (tree_of x) control (next_in middle)) v =
      subst (λ d. HasMade middle second (single_in d context scope at (tree_of x) control (next_in middle)) v) made.dialect item_made in
      let last : HasMade middle new (last_in dialect all (tree_of x) (next_in middle)) w =
      made_then (λ u. u) middle second new (single_in dialect context scope at (tree_of x) control (next_in middle)) (λ v k. appended at all v k) v (Ok w) item_made' last_made in
      let more : HasMade middle new (further_in dialect context scope at all (both (tree_of x) none) control (next_in middle)) w =
      subst (λ (m : Making Wires). HasMade middle new m w) (sym (one_after dialect text bodies at (bound_of scope) control all (tree_of x) none (next_in middle)))
      (then_done middle new (last_in dialect all (tree_of x) (next_in middle)) (λ w. w) w last) in
      subst (λ ys. HasMade old new (further_in dialect context scope at u (trees_of ys) control (next_in old)) w) (sym there)
      (subst (λ (m : Making Wires). HasMade old new m w) (sym (after_parted dialect text bodies at (bound_of scope) control u (take i xs) (x ∷ []) (next_in old)))
      (made_then (λ u. u) old middle new (further_in dialect context scope at u (trees_of (take i xs)) control (next_in old))
      (λ w k. further_in dialect context scope at w (trees_of (x ∷ [])) control k) all (Ok w) made more))

  -- one more item was refused
  pub item_not_after : {old middle : Steps} (new : Steps) (u all : Wires) (xs : List Expr) (i : ℕ) (x : Expr) (e : Refusal) → i < length xs → x ≡ get_or xs i x
      → HasMade old middle (further_in (dialect_of_steps old) context scope at u (trees_of (take i xs)) control (next_in old)) all
      → Adds wires_of middle new (last_in (dialect_of_steps middle) all (tree_of x) (next_in middle)) (Err e)
      → Adds wires_of old new (further_in (dialect_of_steps old) context scope at u (trees_of xs) control (next_in old)) (Err e)
  item_not_after {old = old} {middle = middle} new u all xs i x e l is made refused =
      let dialect = dialect_of_steps old in
      let text = context.text.now in
      let bodies = bodies_in dialect context in
      let others = drop (suc i) xs in
      let there = ap (λ ys. take i xs ++ ys) (ap (λ y. y ∷ others) is ∙ sym (drop-cons xs i x l)) ∙ take-append-drop i xs in
      let refused' : Adds wires_of middle new (last_in dialect all (tree_of x) (next_in middle)) (Err e) =
      subst (λ d. Adds wires_of middle new (last_in d all (tree_of x) (next_in middle)) (Err e)) made.dialect refused in
      let rest : Adds wires_of middle new (further_in dialect context scope at all (trees_of (x ∷ others)) control (next_in middle)) (Err e) =
      subst (λ (m : Making Wires). Adds wires_of middle new m (Err e)) (sym (one_after dialect text bodies at (bound_of scope) control all (tree_of x) (trees_of others) (next_in middle)))
      (refused_first wires_of wires_of middle new new (last_in dialect all (tree_of x) (next_in middle)) (λ w k. further_in dialect context scope at w (trees_of others) control k) e refused') in
      subst (λ ys. Adds wires_of old new (further_in dialect context scope at u (trees_of ys) control (next_in old)) (Err e)) there
      (subst (λ (m : Making Wires). Adds wires_of old new m (Err e)) (sym (after_parted dialect text bodies at (bound_of scope) control u (take i xs) (x ∷ others) (next_in old)))
      (made_then wires_of old middle new (further_in dialect context scope at u (trees_of (take i xs)) control (next_in old))
      (λ w k. further_in dialect context scope at w (trees_of (x ∷ others)) control k) all (Err e) made rest))

  -- all items were appended
  pub all_after : {old new : Steps} (u w : Wires) (xs : List Expr) (i : ℕ) → length xs ≤ i
      → HasMade old new (further_in (dialect_of_steps old) context scope at u (trees_of (take i xs)) control (next_in old)) w
      → HasMade old new (further_in (dialect_of_steps old) context scope at u (trees_of xs) control (next_in old)) w
  all_after {old = old} {new = new} u w xs i l made =
      subst (λ ys. HasMade old new (further_in (dialect_of_steps old) context scope at u (trees_of ys) control (next_in old)) w) (take_all i xs l) made

-- a literal is its first item, and then the others after it
pub literal_listed : (dialect : Dialect) (context : ProgramContext) (scope : Scope) (at control : ℕ) (first : Expr) (others : List Expr) (next : ℕ)
    → and_then (single_in dialect context scope at (tree_of first) control next) (λ u k. further_in dialect context scope at u (trees_of others) control k)
    ≡ tr_in dialect context scope (literal at (trees_of (first ∷ others))) control next
literal_listed dialect context scope at control first others next =
    sym (further_after dialect context.text.now (bodies_in dialect context) at (bound_of scope) control
    (λ b c n. single at (free context.text.now (tree_of first))
    (λ b c n. tr dialect context.text.now (bodies_in dialect context) (tree_of first) b c n) b c n) (trees_of others) next)
