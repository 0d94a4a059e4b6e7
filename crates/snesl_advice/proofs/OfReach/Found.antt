-- What is found in parts is found in the whole.
use Rattle.std.proofs.Common.{◌≡◌, ℕ, suc, ◌+◌, ◌<◌, List, [], ◌∷◌, ◌++◌, map, drop, take, length, get_or, drop-cons, Option, Some, None, sym, ap, ◌∙◌, add-one, Vec, Global, Box}
use Rattle.std.proofs.lemmas.Grind.{take_at_read}
use Rattle.std.proofs.lemmas.List.{map-append}
use Rattle.std.specs.Option.{option_or, option_map, option_and_then}
use Rattle.snesl_grammar.specs.declared.tree.declaration.Declaration.{Declaration}
use Rattle.snesl_grammar.specs.declared.tree.expr.Binder.{Binder}
use Rattle.snesl_grammar.specs.declared.tree.expr.Expr.{Expr, Each}
use Rattle.snesl_grammar.specs.tree.Tree.{each, always, only_where}
use Rattle.snesl_grammar.specs.tree.View.{tree_of, binders_of, declaration_of}
use Rattle.snesl_grammar.proofs.OfTree.Arguments.{binders_row}
use Rattle.snesl_advice.specs.reach.Candidates.{CandidateNames, around, bound_by, candidates_in, candidates_in_bodies, candidates_in_declaration, candidates_in_sources}
use Rattle.snesl_advice.specs.reach.View.{names_of}
use Rattle.snesl_advice.specs.declared.reach.names.Candidates.{Candidates}

-- the first of two that is found is the one
pub either_seen : (a b whole : Option Candidates) (p q : Option CandidateNames) → whole ≡ option_or a b → option_map names_of a ≡ p → option_map names_of b ≡ q
    → option_map names_of whole ≡ option_or p q
either_seen None b whole p q is e f = ap (option_map names_of) is ∙ f ∙ ap (λ o. option_or o q) e
either_seen (Some x) b whole p q is e f = ap (option_map names_of) is ∙ ap (λ o. option_or o q) e

-- of a comprehension
pub candidates_in-Each : (at start : ℕ) (body : Box Expr Global) (binders : Vec Binder Global) (cond : _)
    → candidates_in at (tree_of (Each start body binders cond))
    ≡ option_or (option_map (around (bound_by (binders_of binders.items))) (option_or (candidates_in at (tree_of body.value))
    (option_and_then (λ one. candidates_in at (tree_of one.value)) cond))) (candidates_in_sources at (binders_of binders.items))
candidates_in-Each at start body binders None = ap (λ b. candidates_in at (each start (tree_of body.value) b always)) (binders_row binders)
candidates_in-Each at start body binders (Some cond) = ap (λ b. candidates_in at (each start (tree_of body.value) b (only_where (tree_of cond.value)))) (binders_row binders)

-- in the functions from one on, which sees those before it
abbrev pub bodies_from : ℕ → List Declaration → ℕ → Option CandidateNames
bodies_from at all i = candidates_in_bodies at (map declaration_of (take i all)) (map declaration_of (drop i all))

one_earlier : (all : List Declaration) (i : ℕ) (one : Declaration) → i < length all → one ≡ get_or all i one
    → map declaration_of (take i all) ++ declaration_of one ∷ [] ≡ map declaration_of (take (i + 1) all)
one_earlier all i one l is =
    sym (map-append declaration_of (take i all) (one ∷ [])) ∙ ap (λ x. map declaration_of (take i all ++ x ∷ [])) is
    ∙ ap (map declaration_of) (sym (take_at_read all i one l).1)

-- in this function or in those after it
pub bodies_at : (at : ℕ) (all : List Declaration) (i : ℕ) (one : Declaration) → i < length all → one ≡ get_or all i one
    → bodies_from at all i ≡ option_or (candidates_in_declaration at (map declaration_of (take i all)) (declaration_of one)) (bodies_from at all (i + 1))
bodies_at at all i one l is =
    let earlier = map declaration_of (take i all) in
    let others = drop (i + 1) all in
    let rest : drop i all ≡ one ∷ others = drop-cons all i one l ∙ ap (λ x. x ∷ drop (suc i) all) (sym is) ∙ ap (λ k. one ∷ drop k all) (sym (add-one i)) in
    ap (λ l. candidates_in_bodies at earlier (map declaration_of l)) rest
    ∙ ap (λ before. option_or (candidates_in_declaration at earlier (declaration_of one)) (candidates_in_bodies at before (map declaration_of others)))
    (one_earlier all i one l is)
