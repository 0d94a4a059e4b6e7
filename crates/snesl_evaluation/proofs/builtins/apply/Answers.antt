use Rattle.std.proofs.Common.{◌≡◌, ◌≢◌, ℕ, ◌≤◌, ◌<◌, List, [], ◌∷◌, map, length, slice_index_or, Err, refl, sym, ap, subst, arith}
use Rattle.std.proofs.lemmas.List.{length-map}
use Rattle.std.proofs.lemmas.Grind.{common_steps}
use Rattle.snesl_data.specs.declared.datum.Datum.{Datum}
use Rattle.snesl_data.specs.declared.dialect.Dialect.{Dialect}
use Rattle.snesl_data.specs.declared.fault.FaultKind.TheVariants.{Shape}
use Rattle.snesl_data.specs.Values.{Value, a_pair, value_of}
use Rattle.snesl_grammar.specs.declared.tree.operator.Builtin.{Builtin}
use Rattle.snesl_grammar.specs.declared.tree.operator.Builtin.TheVariants as builtin
use Rattle.snesl_evaluation.specs.Answer.{faults}
use Rattle.snesl_evaluation.specs.Builtins.{applied}
use Rattle.snesl_evaluation.specs.Results.{Answers}
use Rattle.snesl_evaluation.proofs.builtins.apply.Goals as goal

-- the values of one argument
one_value : (all : List Datum) (first : Datum) → 1 ≤ length all → length all < 2 → first ≡ slice_index_or all 0 first → value_of first ∷ [] ≡ map value_of all
one_value [] first some few is = absurd (omega arith)
one_value (datum ∷ []) first some few is = ap (λ d. value_of d ∷ []) is
one_value (datum ∷ other ∷ all) first some few is = absurd (omega arith)

pub returns-in-Fst-len1 : goal.returns-in-Fst-len1
returns-in-Fst-len1 c =
    let here = c.in-Fst-len1 in
    subst (λ function. Answers value_of c.fst.result (applied c.args.dialect c.args.at function (map value_of c.args.arguments.now))) (sym here.is-0)
    (subst (λ values. Answers value_of c.fst.result (applied c.args.dialect c.args.at builtin.Fst values))
    (one_value c.args.arguments.now c.pair-item.result here.len_at_least here.len_below c.pair-item.is) (c.fst.ensures c.args.dialect))

pub returns-in-Snd-len1 : goal.returns-in-Snd-len1
returns-in-Snd-len1 c =
    let here = c.in-Snd-len1 in
    let item = c.pair-item-then-this-lt2-14 in
    subst (λ function. Answers value_of c.snd.result (applied c.args.dialect c.args.at function (map value_of c.args.arguments.now))) (sym here.is-0)
    (subst (λ values. Answers value_of c.snd.result (applied c.args.dialect c.args.at builtin.Snd values))
    (one_value c.args.arguments.now item.result here.len_at_least here.len_below item.is) (c.snd.ensures c.args.dialect))

-- how many arguments a built-in takes
abbrev arity : Builtin → ℕ
arity builtin.Part = 2
arity _ = 1

other_number : (dialect : Dialect) (at : ℕ) (function : Builtin) (values : List Value) → length values ≢ arity function → applied dialect at function values ≡ faults Shape at
other_number dialect at builtin.Part [] other = refl
other_number dialect at builtin.Part (v ∷ []) other = refl
other_number dialect at builtin.Part (v ∷ w ∷ []) other = absurd (other refl)
other_number dialect at builtin.Part (v ∷ w ∷ x ∷ values) other = refl
other_number dialect at builtin.Fst (a_pair a b ∷ w ∷ values) other = refl
other_number dialect at builtin.Snd (a_pair a b ∷ w ∷ values) other = refl
other_number dialect at _ [] other = refl
other_number dialect at _ (v ∷ []) other = absurd (other refl)
other_number dialect at _ (v ∷ w ∷ values) other = refl

pub returns-in_default : goal.returns-in_default
returns-in_default c =
    let values = map value_of c.args.arguments.now in
    let same = length-map c.args.arguments.now value_of in
    let other : length values ≢ arity c.args.function = grind (arith, common_steps, same) in
    subst (λ halt. Answers value_of (Err halt) (applied c.args.dialect c.args.at c.args.function values)) (sym c.fault.ensures)
    (other_number c.args.dialect c.args.at c.args.function values other)
