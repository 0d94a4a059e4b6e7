-- Derived forms have the answers of what they mean.
use Rattle.std.proofs.Common.{◌≡◌, ℕ, true, false, List, [], ◌∷◌, ◌++◌, Some, if◌then◌else◌, refl, sym, ap, ◌∙◌}
use Rattle.std.proofs.lemmas.Slice.Eq.{bytes_eq-Decides}
use Rattle.snesl_data.specs.declared.dialect.Dialect.{Dialect}
use Rattle.snesl_data.specs.declared.fault.FaultKind.TheVariants.{Shape}
use Rattle.snesl_values.specs.Inputs.{Environment, value_in}
use Rattle.snesl_data.specs.Values.{Value, an_int, a_bool, a_pair, a_vec, a_seq}
use Rattle.snesl_data.proofs.Data.{list_values}
use Rattle.snesl_grammar.specs.declared.tree.operator.Builtin.TheVariants.{Concat, The}
use Rattle.snesl_grammar.specs.declared.tree.operator.Prefix.TheVariants.{Not}
use Rattle.snesl_grammar.specs.tree.Spelling.{spelling}
use Rattle.snesl_grammar.specs.tree.Tree.{Tree, Trees, none, both}
use Rattle.snesl_grammar.specs.Expressions.{added}
use Rattle.snesl_evaluation.specs.Answer.{Answer, gives, faults, go, go_all, go_join, or_fault}
use Rattle.snesl_evaluation.specs.Builtins.{append_answer, applied, items_at, prefix_answer, seq_answer, sequence, truth_at}
use Rattle.snesl_evaluation.specs.Eval.{Calls, BoundItems, eval, eval_all, eval_binders, in_step, kept, value_named}
use Rattle.snesl_evaluation.specs.Derived.{ChoiceMeaning, ConditionMeaning, OneItemMeaning, LiteralMeaning}
use Rattle.snesl_evaluation.proofs.Passed.{filter_seen}

seq_items : (at : ℕ) (vs : List Value) → items_at at (sequence vs) ≡ gives vs
seq_items at vs = ap gives (list_values vs)

join_each : (at : ℕ) (f : Environment → Answer (List Value)) (g : Environment → Answer Value) → ((row : Environment) → g row ≡ seq_answer (f row)) → (rows : List Environment)
    → go_join f rows ≡ go (go_all g rows) (go_join (items_at at))
join_each at f g h [] = refl
join_each at f g h (row ∷ rows) =
    by_item (f row) (go_all g rows) (go_join f rows) (join_each at f g h rows)
    ∙ ap (λ answer. go (go answer (λ y. go (go_all g rows) (λ ys. gives (y ∷ ys)))) (go_join (items_at at))) (sym (h row))
  where
    by_item : (first : Answer (List Value)) (rest : Answer (List Value)) (joined : Answer (List Value)) → joined ≡ go rest (go_join (items_at at))
        → go first (λ ys. go joined (λ zs. gives (ys ++ zs))) ≡ go (go (seq_answer first) (λ y. go rest (λ ys. gives (y ∷ ys)))) (go_join (items_at at))
    by_item (faults kind place) rest joined e = refl
    by_item (gives ys) (faults kind place) joined e = ap (λ answer. go answer (λ zs. gives (ys ++ zs))) e
    by_item (gives ys) (gives vs) joined e =
        ap (λ answer. go answer (λ zs. gives (ys ++ zs))) e
        ∙ sym (ap (λ answer. go answer (λ xs. go (go_join (items_at at) vs) (λ zs. gives (xs ++ zs)))) (seq_items at ys))

concat_each : (dialect : Dialect) (at : ℕ) (answer : Answer (List Value)) → seq_answer (go answer (go_join (items_at at)))
    ≡ go (go (seq_answer answer) (λ v. gives (v ∷ []))) (applied dialect at Concat)
concat_each dialect at (faults kind place) = refl
concat_each dialect at (gives vs) = sym (ap (λ answer. go answer (λ ws. seq_answer (go_join (items_at at) ws))) (seq_items at vs))

pub condition_meaning : ConditionMeaning
condition_meaning at item condition binders dialect text calls environment = by_columns (eval_binders dialect binders text calls environment)
  where
    f : Environment → Answer (List Value)
    f row = go (eval dialect condition text calls (row ++ environment)) (λ v. go (truth_at at v) (λ b. kept b (eval dialect item text calls (row ++ environment))))

    g : Environment → Answer Value
    g row = go (eval dialect condition text calls (row ++ environment)) (λ v. go (truth_at at v) (λ b. seq_answer (kept b (eval dialect item text calls (row ++ environment)))))

    same : (row : Environment) → g row ≡ seq_answer (f row)
    same row = filter_seen (eval dialect condition text calls (row ++ environment)) (truth_at at) (λ b. kept b (eval dialect item text calls (row ++ environment)))

    by_rows : (rows : Answer (List Environment)) → go rows (λ rows. seq_answer (go_join f rows))
        ≡ go (go (go rows (λ rows. seq_answer (go_all g rows))) (λ v. gives (v ∷ []))) (applied dialect at Concat)
    by_rows (faults kind place) = refl
    by_rows (gives rows) = ap seq_answer (join_each at f g same rows) ∙ concat_each dialect at (go_all g rows)

    by_columns : (columns : Answer BoundItems) → go columns (λ columns. go (in_step at columns) (λ rows. seq_answer (go_join f rows)))
        ≡ go (go (go columns (λ columns. go (in_step at columns) (λ rows. seq_answer (go_all g rows)))) (λ v. gives (v ∷ []))) (applied dialect at Concat)
    by_columns (faults kind place) = refl
    by_columns (gives columns) = by_rows (in_step at columns)

pub one_item_meaning : OneItemMeaning
one_item_meaning at item dialect text calls environment = refl

-- the values of items and of one more
eval_added : (dialect : Dialect) (items : Trees) (last : Tree) (text : List ℕ) (calls : Calls) (environment : Environment)
    → eval_all dialect (added items last) text calls environment
    ≡ go (eval_all dialect items text calls environment) (λ vs. go (eval dialect last text calls environment) (λ v. gives (vs ++ v ∷ [])))
eval_added dialect none last text calls environment = refl
eval_added dialect (both first others) last text calls environment =
    ap (λ answer. go (eval dialect first text calls environment) (λ v. go answer (λ vs. gives (v ∷ vs)))) (eval_added dialect others last text calls environment)
    ∙ by_values (eval dialect first text calls environment) (eval_all dialect others text calls environment) (eval dialect last text calls environment)
  where
    by_values : (one : Answer Value) (rest : Answer (List Value)) (behind : Answer Value)
        → go one (λ v. go (go rest (λ vs. go behind (λ w. gives (vs ++ w ∷ [])))) (λ vs. gives (v ∷ vs)))
        ≡ go (go one (λ v. go rest (λ vs. gives (v ∷ vs)))) (λ vs. go behind (λ w. gives (vs ++ w ∷ [])))
    by_values (faults kind place) rest behind = refl
    by_values (gives v) (faults kind place) behind = refl
    by_values (gives v) (gives vs) (faults kind place) = refl
    by_values (gives v) (gives vs) (gives w) = refl

pub literal_meaning : LiteralMeaning
literal_meaning at items last dialect text calls environment =
    ap seq_answer (eval_added dialect items last text calls environment)
    ∙ by_item (eval_all dialect items text calls environment) (eval dialect last text calls environment)
  where
    by_item : (before : Answer (List Value)) (behind : Answer Value)
        → seq_answer (go before (λ vs. go behind (λ v. gives (vs ++ v ∷ []))))
        ≡ go (seq_answer before) (λ v. go (seq_answer (kept true behind)) (λ w. append_answer at v w))
    by_item (faults kind place) behind = refl
    by_item (gives vs) (faults kind place) = refl
    by_item (gives vs) (gives v) = sym (ap (λ answer. go answer (λ us. gives (sequence (us ++ v ∷ [])))) (seq_items at vs))

-- what the form that `if` stands for gives, by the answers of t, of e and of f
abbrev through : Dialect → ℕ → Answer Value → Answer Value → Answer Value → Answer Value
through dialect at t e f =
    go (go (go (go t (λ w. go (truth_at at w) (λ b. seq_answer (kept b e)))) (λ x.
    go (go (go t (prefix_answer dialect at Not)) (λ w. go (truth_at at w) (λ b. seq_answer (kept b f)))) (λ y. append_answer at x y))) (λ z. gives (z ∷ []))) (applied dialect at The)

chosen : (dialect : Dialect) (at : ℕ) (v : Value) (e f : Answer Value) → go (truth_at at v) (λ b. if b then e else f) ≡ through dialect at (gives v) e f
chosen dialect at (a_bool true) (gives w) f = refl
chosen dialect at (a_bool true) (faults kind place) f = refl
chosen dialect at (a_bool false) e (gives w) = refl
chosen dialect at (a_bool false) e (faults kind place) = refl
chosen dialect at (an_int n) e f = refl
chosen dialect at (a_pair v w) e f = refl
chosen dialect at (a_vec vs) e f = refl
chosen dialect at (a_seq vs) e f = refl

named_here : (at : ℕ) (bytes : List ℕ) (v : Value) (environment : Environment) → value_named at bytes ((bytes, v) ∷ environment) ≡ gives v
named_here at bytes v environment = ap (λ b. or_fault Shape at (if b then Some v else value_in bytes environment)) ((bytes_eq-Decides bytes bytes).1 refl)

pub choice_meaning : ChoiceMeaning
choice_meaning at t condition positive negative apart other dialect text calls environment = by_value (eval dialect condition text calls environment)
  where
    by_value : (answer : Answer Value) → go answer (λ v. go (truth_at at v) (λ b. if b then eval dialect positive text calls environment else eval dialect negative text calls environment))
        ≡ go answer (λ v. through dialect at (value_named t.at (spelling text t) ((spelling text t, v) ∷ environment))
        (eval dialect positive text calls ((spelling text t, v) ∷ environment))
        (eval dialect negative text calls ((spelling text t, v) ∷ environment)))
    by_value (faults kind place) = refl
    by_value (gives v) =
        chosen dialect at v (eval dialect positive text calls environment) (eval dialect negative text calls environment)
        ∙ ap (λ x. through dialect at (gives v) x (eval dialect negative text calls environment)) (sym (apart dialect text calls environment v))
        ∙ ap (λ x. through dialect at (gives v) (eval dialect positive text calls ((spelling text t, v) ∷ environment)) x) (sym (other dialect text calls environment v))
        ∙ ap (λ x. through dialect at x (eval dialect positive text calls ((spelling text t, v) ∷ environment))
        (eval dialect negative text calls ((spelling text t, v) ∷ environment))) (sym (named_here t.at (spelling text t) v environment))
