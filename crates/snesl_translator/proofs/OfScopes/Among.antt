-- Which names are among those that are free in expressions.
use Rattle.std.specs.Prelude.{◌≡◌, ℕ, Bool, true, false, ◌||◌, ◌&&◌, not, cond, List, [], ◌∷◌, ◌++◌, refl}
use Rattle.std.specs.Str.{bytes_eq}
use Rattle.std.proofs.Common.{sym, ap, ◌∙◌}
use Rattle.std.proofs.Math.Path.{ap₂}
use Rattle.std.proofs.lemmas.List.Folds.{list_any-append}
use Rattle.snesl_grammar.specs.tree.Spelling.{spelling}
use Rattle.snesl_grammar.specs.declared.tree.span.Span.{Span}
use Rattle.snesl_grammar.specs.tree.Tree.{Tree, Binders, Condition, none_bound, binder, binding, each}
use Rattle.snesl_translation.specs.Wires.{Bound}
use Rattle.snesl_translation.specs.Translation.{is_bound}
use Rattle.snesl_translation.specs.FreeNames.{Names, is_among, free, free_of_condition, free_of_sources, without, without_binders}
use Rattle.snesl_translation.proofs.BoundMoved.{others_stay, stay_among, stay_other}
use Rattle.snesl_translator.specs.scopes.Scopes.{binds}
use Rattle.snesl_translator.specs.scopes.Moved.{but_for}

-- among one or the other names
pub among_both : (bytes : List ℕ) (xs ys : Names) → is_among bytes (xs ++ ys) ≡ is_among bytes xs || is_among bytes ys
among_both bytes xs ys = list_any-append (bytes_eq bytes) xs ys

-- among the names that are not left out
pub among_without : (bytes other : List ℕ) (names : Names) → is_among bytes (without other names) ≡ not (bytes_eq bytes other) && is_among bytes names
among_without bytes other names = by_test (bytes_eq bytes other) (is_among bytes names) (is_among bytes (without other names)) refl refl refl
  where
    by_test : (same before after : Bool) → bytes_eq bytes other ≡ same → is_among bytes names ≡ before → is_among bytes (without other names) ≡ after → after ≡ not same && before
    by_test true before true e f g = let h = stay_other bytes other names g in absurd (cc)
    by_test true before false e f g = refl
    by_test false true true e f g = refl
    by_test false true false e f g = let h = others_stay bytes other names e f in absurd (cc)
    by_test false false true e f g = let h = stay_among bytes other names g in absurd (cc)
    by_test false false false e f g = refl

and_not : (a b c : Bool) → not a && (not b && c) ≡ not (cond a true b) && c
and_not true b c = refl
and_not false b c = refl

pub among_without_binders : (text bytes : List ℕ) (binders : Binders) (names : Names) → is_among bytes (without_binders text binders names) ≡ not (binds text bytes binders) && is_among bytes names
among_without_binders text bytes none_bound names = refl
among_without_binders text bytes (binder place source others) names =
    among_without bytes (spelling text place) (without_binders text others names)
    ∙ ap (λ b. not (bytes_eq bytes (spelling text place)) && b) (among_without_binders text bytes others names)
    ∙ and_not (bytes_eq bytes (spelling text place)) (binds text bytes others) (is_among bytes names)

and_swap : (a b c : Bool) → not a && (not b && c) ≡ not (cond b true a) && c
and_swap true true c = refl
and_swap true false c = refl
and_swap false true c = refl
and_swap false false c = refl

-- among the names that were not moved
pub among_but_for : (bytes : List ℕ) (moved : Bound) (names : Names) → is_among bytes (but_for moved names) ≡ not (is_bound bytes moved) && is_among bytes names
among_but_for bytes [] names = refl
among_but_for bytes (entry ∷ moved) names =
    among_but_for bytes moved (without entry.0 names)
    ∙ ap (λ b. not (is_bound bytes moved) && b) (among_without bytes entry.0 names)
    ∙ and_swap (is_bound bytes moved) (bytes_eq bytes entry.0) (is_among bytes names)

and_false : (b : Bool) → b && false ≡ false
and_false true = refl
and_false false = refl

-- a name that was moved, or is not named, is not moved, and any other is

pub bound_stays : (bytes : List ℕ) (moved : Bound) (names : Names) → is_bound bytes moved ≡ true → is_among bytes (but_for moved names) ≡ false
bound_stays bytes moved names e = among_but_for bytes moved names ∙ ap (λ b. not b && is_among bytes names) e

pub unnamed_stays : (bytes : List ℕ) (moved : Bound) (names : Names) → is_among bytes names ≡ false → is_among bytes (but_for moved names) ≡ false
unnamed_stays bytes moved names e = among_but_for bytes moved names ∙ ap (λ b. not (is_bound bytes moved) && b) e ∙ and_false (not (is_bound bytes moved))

pub named_moves : (bytes : List ℕ) (moved : Bound) (names : Names) → is_bound bytes moved ≡ false → is_among bytes names ≡ true → is_among bytes (but_for moved names) ≡ true
named_moves bytes moved names e f = among_but_for bytes moved names ∙ ap₂ (λ b c. not b && c) e f

-- what a part names, and what expressions with binders name

pub part_named : (text bytes : List ℕ) (binders : Binders) (condition : Condition) (body : Tree) (h d b : Bool)
    → h ≡ binds text bytes binders → d ≡ is_among bytes (free_of_condition text condition) → b ≡ is_among bytes (free text body)
    → not h && (d || b) ≡ is_among bytes (without_binders text binders (free_of_condition text condition ++ free text body))
part_named text bytes binders condition body h d b hidden of_condition of_body =
    ap (λ x. not x && (d || b)) hidden
    ∙ ap₂ (λ x y. not (binds text bytes binders) && (x || y)) of_condition of_body
    ∙ ap (λ x. not (binds text bytes binders) && x) (sym (among_both bytes (free_of_condition text condition) (free text body)))
    ∙ sym (among_without_binders text bytes binders (free_of_condition text condition ++ free text body))

pub each_named : (text bytes : List ℕ) (tree : Tree) (at : ℕ) (body : Tree) (binders : Binders) (condition : Condition) (s h d b : Bool)
    → tree ≡ each at body binders condition → s ≡ is_among bytes (free_of_sources text binders)
    → h ≡ binds text bytes binders → d ≡ is_among bytes (free_of_condition text condition) → b ≡ is_among bytes (free text body)
    → s || (not h && (d || b)) ≡ is_among bytes (free text tree)
each_named text bytes tree at body binders condition s h d b is of_sources hidden of_condition of_body =
    let inner = without_binders text binders (free_of_condition text condition ++ free text body) in
    ap₂ (λ x y. x || y) of_sources (part_named text bytes binders condition body h d b hidden of_condition of_body)
    ∙ sym (among_both bytes (free_of_sources text binders) inner)
    ∙ ap (λ x. is_among bytes (free text x)) (sym is)

pub let_named : (text bytes : List ℕ) (tree : Tree) (at : ℕ) (place : Span) (value body : Tree) (v h b : Bool)
    → tree ≡ binding at place value body → v ≡ is_among bytes (free text value) → h ≡ bytes_eq bytes (spelling text place) → b ≡ is_among bytes (free text body)
    → v || (not h && b) ≡ is_among bytes (free text tree)
let_named text bytes tree at place value body v h b is of_value hidden of_body =
    let inner = without (spelling text place) (free text body) in
    ap₂ (λ x y. x || y) of_value (ap₂ (λ x y. not x && y) hidden of_body ∙ sym (among_without bytes (spelling text place) (free text body)))
    ∙ sym (among_both bytes (free text value) inner)
    ∙ ap (λ x. is_among bytes (free text x)) (sym is)

-- tests one after another

pub at_first : {r : Bool} (s x : Bool) → s ≡ true → s || x ≡ r → s ≡ r
at_first true x e named = named
at_first false x e named = absurd (cc)

pub at_second : {r : Bool} (d b : Bool) → d ≡ false → d || b ≡ r → b ≡ r
at_second true b e named = absurd (cc)
at_second false b e named = named

pub at_hidden : {r : Bool} (s h x : Bool) → s ≡ false → h ≡ true → s || (not h && x) ≡ r → not h ≡ r
at_hidden true h x e f named = absurd (cc)
at_hidden false true x e f named = named
at_hidden false false x e f named = absurd (cc)

pub at_inner : {r : Bool} (s h x : Bool) → s ≡ false → h ≡ false → s || (not h && x) ≡ r → x ≡ r
at_inner true h x e f named = absurd (cc)
at_inner false true x e f named = absurd (cc)
at_inner false false x e f named = named
