-- How deep forms are, and how many binders a row of them has.
use Rattle.std.proofs.Common.{◌≡◌, suc, max, ◌≤◌, List, ap, arith}
use Rattle.snesl_grammar.specs.declared.lexer.token.Token.{Token}
use Rattle.snesl_grammar.specs.declared.tree.span.Span.{Span}
use Rattle.snesl_grammar.specs.tree.Tree.{Tree, Trees, Binders, integer, truth, name, binary, prefix, call, apply, group, pair, binding, choice, literal}
use Rattle.snesl_grammar.specs.tree.Tree.{filter, each, none, both, none_bound, binder, depth, depth_of_all, depth_of_binders}
use Rattle.snesl_grammar.specs.Expressions.{added, bound_also, binder_count, WholeArguments, one_rule, more_rule}

pub depth_pos : (tree : Tree) → 1 ≤ depth tree
depth_pos (integer at value) = omega arith
depth_pos (truth at value) = omega arith
depth_pos (name place) = omega arith
depth_pos (binary at operator left right) = omega arith
depth_pos (prefix at operator operand) = omega arith
depth_pos (call at function arguments) = omega arith
depth_pos (apply function arguments) = omega arith
depth_pos (group at inner) = omega arith
depth_pos (pair at first second) = omega arith
depth_pos (binding at place value body) = omega arith
depth_pos (choice at condition positive negative) = omega arith
depth_pos (literal at items) = omega arith
depth_pos (filter at item condition) = omega arith
depth_pos (each at body binders condition) = omega arith

pub depth_added : (given : Trees) (last : Tree) → depth_of_all (added given last) ≡ max (depth_of_all given) (depth last)
depth_added none last = omega arith
depth_added (both first others) last =
    let h : depth_of_all (added others last) ≡ max (depth_of_all others) (depth last) = depth_added others last in omega arith

-- arguments with one more have a depth
pub added_pos : (arguments : Trees) (last : Tree) → 1 ≤ depth_of_all (added arguments last)
added_pos arguments last = let h : 1 ≤ depth last = depth_pos last in omega (arith, depth_added arguments last)

-- arguments are never none
pub arguments_pos : {ts : List Token} {arguments : Trees} → WholeArguments ts arguments → 1 ≤ depth_of_all arguments
arguments_pos (one_rule {only = only} w) = let h : 1 ≤ depth only = depth_pos only in omega arith
arguments_pos (more_rule comma {arguments = arguments} {last = last} wa w) = added_pos arguments last

pub depth_bound_also : (binders : Binders) (place : Span) (source : Tree)
    → depth_of_binders (bound_also binders place source) ≡ max (depth_of_binders binders) (depth source)
depth_bound_also none_bound place source = omega arith
depth_bound_also (binder first its_source others) place source =
    let h : depth_of_binders (bound_also others place source) ≡ max (depth_of_binders others) (depth source) = depth_bound_also others place source in
    omega arith

pub count_bound_also : (binders : Binders) (place : Span) (source : Tree) → binder_count (bound_also binders place source) ≡ suc (binder_count binders)
count_bound_also none_bound place source = omega arith
count_bound_also (binder first its_source others) place source = ap suc (count_bound_also others place source)
