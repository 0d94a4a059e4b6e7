use Rattle.std.proofs.Common.{◌≡◌, ◌≢◌, ◌<◌, ◌≤◌, ℕ, List, [], ◌∷◌, map, length, get_or, Result, refl, sym, ap, subst, ◌∙◌, arith}
use Rattle.std.proofs.lemmas.List.{length-map}
use Rattle.std.proofs.lemmas.Grind.{common_steps}
use Rattle.snesl_data.specs.declared.dialect.Dialect.{Dialect}
use Rattle.snesl_data.specs.declared.refusal.Refusal.{Refusal}
use Rattle.snesl_grammar.specs.declared.tree.operator.Builtin.{Builtin}
use Rattle.snesl_grammar.specs.declared.tree.operator.Builtin.TheVariants as builtin
use Rattle.snesl_translation.specs.Wires.{Wires as WiresOf}
use Rattle.snesl_translation.specs.Makings.{Making, done}
use Rattle.snesl_translation.specs.Translation.{call_streams, nowhere}
use Rattle.snesl_translator.specs.steps.Views.{dialect_of_steps, next_in, wires_of}
use Rattle.snesl_translator.specs.steps.Added.{Adds, HasMade}
use Rattle.snesl_translator.specs.declared.steps.steps.Steps.{Steps}
use Rattle.snesl_translator.specs.declared.steps.wires.Wires.{Wires}
use Rattle.snesl_translator.proofs.OfSteps.Adding.{done_made}
use Rattle.snesl_translator.proofs.steps.builtins.apply_built_in.Goals as goal

-- how many arguments a built-in takes
abbrev arity : Builtin → ℕ
arity builtin.Part = 2
arity _ = 1

other_number : (dialect : Dialect) (at : ℕ) (function : Builtin) (us : List WiresOf) (next : ℕ) → length us ≢ arity function
    → call_streams dialect at function us next ≡ done nowhere next
other_number dialect at builtin.Part [] next other = refl
other_number dialect at builtin.Part (u ∷ []) next other = refl
other_number dialect at builtin.Part (u ∷ v ∷ []) next other = absurd (other refl)
other_number dialect at builtin.Part (u ∷ v ∷ w ∷ us) next other = refl
other_number dialect at _ [] next other = refl
other_number dialect at _ (u ∷ []) next other = absurd (other refl)
other_number dialect at _ (u ∷ v ∷ us) next other = refl

-- a list of one argument, and of two
alone : (arguments : List Wires) (x : Wires) → 1 ≤ length arguments → length arguments < 2 → x ≡ get_or arguments 0 x → x ∷ [] ≡ arguments
alone [] x l m e = absurd (omega arith)
alone (y ∷ []) x l m e = ap (λ z. z ∷ []) e
alone (y ∷ z ∷ more) x l m e = absurd (omega arith)

beside : (arguments : List Wires) (x y : Wires) → 2 ≤ length arguments → length arguments < 3 → x ≡ get_or arguments 0 x → y ≡ get_or arguments 1 y → x ∷ y ∷ [] ≡ arguments
beside [] x y l m e h = absurd (omega arith)
beside (z ∷ []) x y l m e h = absurd (omega arith)
beside (z ∷ w ∷ []) x y l m e h = ap (λ v. v ∷ y ∷ []) e ∙ ap (λ v. z ∷ v ∷ []) h
beside (z ∷ w ∷ v ∷ more) x y l m e h = absurd (omega arith)

-- what a built-in's form adds at its arguments
adds_called : (old new : Steps) (at : ℕ) (function form : Builtin) (arguments given : List Wires) (result : Result Wires Refusal) → function ≡ form → given ≡ arguments
    → Adds wires_of old new (call_streams (dialect_of_steps old) at form (map wires_of given) (next_in old)) result
    → Adds wires_of old new (call_streams (dialect_of_steps old) at function (map wires_of arguments) (next_in old)) result
adds_called old new at function form arguments given result is same adds =
    let making = λ (f : Builtin) (l : List Wires). call_streams (dialect_of_steps old) at f (map wires_of l) (next_in old) in
    subst (λ (m : Making WiresOf). Adds wires_of old new m result) (ap (making form) same ∙ ap (λ f. making f arguments) (sym is)) adds

pub returns-in-Iota-len1 : goal.returns-in-Iota-len1
returns-in-Iota-len1 c =
    let given = alone c.args.arguments.now c.count-item.result c.in-Iota-len1.len_at_least c.in-Iota-len1.len_below c.count-item.is in
    adds_called c.args.steps.now c.iota.new.steps c.args.at c.args.function builtin.Iota c.args.arguments.now (c.count-item.result ∷ []) c.iota.result c.in-Iota-len1.is-0 given c.iota.ensures

pub returns-in-ScanAdd-len1 : goal.returns-in-ScanAdd-len1
returns-in-ScanAdd-len1 c =
    let given = alone c.args.arguments.now c.numbers-item.result c.in-ScanAdd-len1.len_at_least c.in-ScanAdd-len1.len_below c.numbers-item.is in
    adds_called c.args.steps.now c.scan_add.new.steps c.args.at c.args.function builtin.ScanAdd c.args.arguments.now (c.numbers-item.result ∷ [])
    c.scan_add.result c.in-ScanAdd-len1.is-0 given c.scan_add.ensures

pub returns-in-ReduceAdd-len1 : goal.returns-in-ReduceAdd-len1
returns-in-ReduceAdd-len1 c =
    let given = alone c.args.arguments.now c.items-item.result c.in-ReduceAdd-len1.len_at_least c.in-ReduceAdd-len1.len_below c.items-item.is in
    adds_called c.args.steps.now c.reduce.new.steps c.args.at c.args.function builtin.ReduceAdd c.args.arguments.now (c.items-item.result ∷ [])
    c.reduce.result c.in-ReduceAdd-len1.is-0 given c.reduce.ensures

pub returns-in-ReduceMax-len1 : goal.returns-in-ReduceMax-len1
returns-in-ReduceMax-len1 c =
    let given = alone c.args.arguments.now c.items-item-then-this-lt2-4.result c.in-ReduceMax-len1.len_at_least c.in-ReduceMax-len1.len_below c.items-item-then-this-lt2-4.is in
    adds_called c.args.steps.now c.reduce-in-ReduceMax-len1.new.steps c.args.at c.args.function builtin.ReduceMax c.args.arguments.now
    (c.items-item-then-this-lt2-4.result ∷ []) c.reduce-in-ReduceMax-len1.result c.in-ReduceMax-len1.is-0 given c.reduce-in-ReduceMax-len1.ensures

pub returns-in-ReduceAnd-len1 : goal.returns-in-ReduceAnd-len1
returns-in-ReduceAnd-len1 c =
    let given = alone c.args.arguments.now c.items-item-then-this-lt2-5.result c.in-ReduceAnd-len1.len_at_least c.in-ReduceAnd-len1.len_below c.items-item-then-this-lt2-5.is in
    adds_called c.args.steps.now c.reduce-in-ReduceAnd-len1.new.steps c.args.at c.args.function builtin.ReduceAnd c.args.arguments.now
    (c.items-item-then-this-lt2-5.result ∷ []) c.reduce-in-ReduceAnd-len1.result c.in-ReduceAnd-len1.is-0 given c.reduce-in-ReduceAnd-len1.ensures

pub returns-in-ReduceOr-len1 : goal.returns-in-ReduceOr-len1
returns-in-ReduceOr-len1 c =
    let given = alone c.args.arguments.now c.items-item-then-this-lt2-6.result c.in-ReduceOr-len1.len_at_least c.in-ReduceOr-len1.len_below c.items-item-then-this-lt2-6.is in
    adds_called c.args.steps.now c.reduce-in-ReduceOr-len1.new.steps c.args.at c.args.function builtin.ReduceOr c.args.arguments.now
    (c.items-item-then-this-lt2-6.result ∷ []) c.reduce-in-ReduceOr-len1.result c.in-ReduceOr-len1.is-0 given c.reduce-in-ReduceOr-len1.ensures

pub returns-in-Concat-len1 : goal.returns-in-Concat-len1
returns-in-Concat-len1 c =
    let given = alone c.args.arguments.now c.sequence-item.result c.in-Concat-len1.len_at_least c.in-Concat-len1.len_below c.sequence-item.is in
    adds_called c.args.steps.now c.concatenate.new.steps c.args.at c.args.function builtin.Concat c.args.arguments.now (c.sequence-item.result ∷ [])
    c.concatenate.result c.in-Concat-len1.is-0 given c.concatenate.ensures

pub returns-in-Part-len2 : goal.returns-in-Part-len2
returns-in-Part-len2 c =
    let x = c.sequence-item-then-this-lt3 in
    let y = c.ends-item in
    let given = beside c.args.arguments.now x.result y.result c.in-Part-len2.len_at_least c.in-Part-len2.len_below x.is y.is in
    adds_called c.args.steps.now c.part.new.steps c.args.at c.args.function builtin.Part c.args.arguments.now (x.result ∷ y.result ∷ []) c.part.result c.in-Part-len2.is-0 given c.part.ensures

pub returns-in-The-len1 : goal.returns-in-The-len1
returns-in-The-len1 c =
    let given = alone c.args.arguments.now c.sequence-item-then-this-lt2-10.result c.in-The-len1.len_at_least c.in-The-len1.len_below c.sequence-item-then-this-lt2-10.is in
    adds_called c.args.steps.now c.the.new.steps c.args.at c.args.function builtin.The c.args.arguments.now
    (c.sequence-item-then-this-lt2-10.result ∷ []) c.the.result c.in-The-len1.is-0 given c.the.ensures

pub returns-in-Tab-len1 : goal.returns-in-Tab-len1
returns-in-Tab-len1 c =
    let given = alone c.args.arguments.now c.sequence-item-then-this-lt2-11.result c.in-Tab-len1.len_at_least c.in-Tab-len1.len_below c.sequence-item-then-this-lt2-11.is in
    adds_called c.args.steps.now c.tab.new.steps c.args.at c.args.function builtin.Tab c.args.arguments.now
    (c.sequence-item-then-this-lt2-11.result ∷ []) c.tab.result c.in-Tab-len1.is-0 given c.tab.ensures

pub returns-in-Seq-len1 : goal.returns-in-Seq-len1
returns-in-Seq-len1 c =
    let given = alone c.args.arguments.now c.vector-item.result c.in-Seq-len1.len_at_least c.in-Seq-len1.len_below c.vector-item.is in
    adds_called c.args.steps.now c.seq.new.steps c.args.at c.args.function builtin.Seq c.args.arguments.now (c.vector-item.result ∷ []) c.seq.result c.in-Seq-len1.is-0 given c.seq.ensures

pub returns-in_default : goal.returns-in_default
returns-in_default c =
    let us = map wires_of c.args.arguments.now in
    let steps = c.args.steps.now in
    let same = length-map c.args.arguments.now wires_of in
    let other : length us ≢ arity c.args.function = grind (arith, common_steps, same) in
    subst (λ making. HasMade steps steps making nowhere) (sym (other_number (dialect_of_steps steps) c.args.at c.args.function us (next_in steps) other)) (done_made steps nowhere)
