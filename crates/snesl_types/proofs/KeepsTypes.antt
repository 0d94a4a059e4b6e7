-- Evaluation keeps types: by induction over the derivation.
use Rattle.std.proofs.Common.{◌≡◌, ℕ, zero, suc, Bool, append_assoc, true, false, List, [], ◌∷◌, ◌++◌, length, replicate, Some, refl, sym, subst, ◌∙◌}
use Rattle.std.specs.Prelude.{if◌then◌else◌, ◌==◌}
use Rattle.std.specs.List.{list_all}
use Rattle.std.specs.Str.{bytes_eq}
use Rattle.std.proofs.lemmas.List.{append-nil}
use Rattle.snesl_data.specs.declared.dialect.Dialect.{Dialect}
use Rattle.snesl_data.specs.declared.fault.FaultKind.TheVariants.{Length as LengthFault, Shape}
use Rattle.snesl_values.specs.Inputs.{InputDeclaration, Environment, value_in, FitDeclarations}
use Rattle.snesl_data.specs.Types.{Ty, bool, pair, seq, is_concrete}
use Rattle.snesl_data.specs.Values.{Value, a_pair, HasType}
use Rattle.snesl_grammar.specs.tree.Spelling.{spelling}
use Rattle.snesl_grammar.specs.tree.Tree.{Tree, Trees, Binders, binder}
use Rattle.snesl_evaluation.specs.Answer.{Answer, gives, faults, go, go_all, go_join, or_fault}
use Rattle.snesl_evaluation.specs.Builtins.{truth_at, items_at, seq_answer, prefix_answer, binary_answer, applied}
use Rattle.snesl_evaluation.specs.Eval.{Calls, value_named, kept, BoundItems, height, beside, rows_of, in_step, eval, eval_all, eval_binders}
use Rattle.snesl_types.specs.Contexts.{Binding, open_to, shut, Context, names_context, found, shut_if_streamed, inside, Signatures}
use Rattle.snesl_types.specs.Soundness.{FitsBinding, Holds, HaveTypes, Safe, CallsHold, TypedExpressionsAreSound}
use Rattle.snesl_types.specs.Typing.{AllAre, Types, has_type, Gives, integer_type, truth_type, name_type, binary_type, prefix_type, call_type}
use Rattle.snesl_types.specs.Typing.{apply_type, group_type, pair_type, binding_type, choice_type, literal_type, filter_type, each_type, AllTypes}
use Rattle.snesl_types.specs.Typing.{no_types, more_types, BindersType, no_binders, more_binders, no_condition, condition_type}
use Rattle.snesl_types.proofs.BuiltinsKeepTypes.{AllOf, joined_of, go_safe, truth_safe, items_safe, seq_answer_safe, binary_safe, prefix_safe, applied_safe}

module _ (dialect : Dialect) where
  named_safe : (at : ℕ) (bytes : List ℕ) (context : Context) (environment : Environment) (t : Ty)
      → found bytes context ≡ Some (open_to t) → Holds dialect context environment → Safe (λ v. HasType dialect v t) (value_named at bytes environment)
  named_safe at bytes [] environment t e h = cc
  named_safe at bytes (entry ∷ context) [] t e h = absurd h
  named_safe at bytes (entry ∷ context) ((spelled, value) ∷ environment) t e h =
      subst (λ b. Safe (λ v. HasType dialect v t) (or_fault Shape at (if bytes_eq bytes b then Some value else value_in bytes environment))) h.0
      (by_test (bytes_eq bytes entry.bytes) e (λ later. named_safe at bytes context environment t later h.2))
    where
      by_test : (b : Bool) → (if b then Some entry.binding else found bytes context) ≡ Some (open_to t)
          → (found bytes context ≡ Some (open_to t) → Safe (λ v. HasType dialect v t) (value_named at bytes environment))
          → Safe (λ v. HasType dialect v t) (or_fault Shape at (if b then Some value else value_in bytes environment))
      by_test true e' later = let same : entry.binding ≡ open_to t = cc in subst (FitsBinding dialect value) same h.1
      by_test false e' later = later e'

  -- the values still fit where streamed names are shut
  inside_holds : (context : Context) (environment : Environment) → Holds dialect context environment → Holds dialect (inside context) environment
  inside_holds [] environment h = tt
  inside_holds (entry ∷ context) [] h = absurd h
  inside_holds (entry ∷ context) ((spelled, value) ∷ environment) h = (h.0, fits entry.binding h.1, inside_holds context environment h.2)
    where
      by_test : (b : Bool) (t : Ty) → HasType dialect value t → FitsBinding dialect value (if b then open_to t else shut)
      by_test true t f = f
      by_test false t f = tt

      fits : (binding : Binding) → FitsBinding dialect value binding → FitsBinding dialect value (shut_if_streamed binding)
      fits (open_to t) f = by_test (is_concrete t) t f
      fits shut f = tt

  -- names with fitting values before those of a context
  pub opened_holds : (items : List InputDeclaration) (row : Environment) (context : Context) (environment : Environment)
      → FitDeclarations dialect items row → Holds dialect context environment → Holds dialect (names_context items ++ context) (row ++ environment)
  opened_holds [] [] context environment f h = h
  opened_holds (item ∷ items) (entry ∷ row) context environment f h = (sym f.0, f.1, opened_holds items row context environment f.2 h)
  opened_holds [] (entry ∷ row) context environment f h = absurd f
  opened_holds (item ∷ items) [] context environment f h = absurd f

  -- columns of these names, with items of these types
  abbrev ColumnsFit : List InputDeclaration → BoundItems → Type 0
  ColumnsFit [] [] = Unit {0}
  ColumnsFit (item ∷ items) (column ∷ columns) = (column.0 ≡ item.0) × AllOf dialect column.1 item.1 × ColumnsFit items columns
  ColumnsFit _ _ = ⊥

  -- each row has these names with values of these types
  abbrev RowsFit : List InputDeclaration → List Environment → Type 0
  RowsFit items [] = Unit {0}
  RowsFit items (row ∷ rows) = FitDeclarations dialect items row × RowsFit items rows

  empty_rows : (n : ℕ) → RowsFit [] (replicate n [])
  empty_rows zero = tt
  empty_rows (suc n) = (tt, empty_rows n)

  beside_fits : (item : InputDeclaration) (items : List InputDeclaration) (bytes : List ℕ) (vs : List Value) (rows : List Environment)
      → bytes ≡ item.0 → AllOf dialect vs item.1 → RowsFit items rows → RowsFit (item ∷ items) (beside bytes vs rows)
  beside_fits item items bytes (v ∷ vs) (row ∷ rows) e h hs = ((e, h.0, hs.0), beside_fits item items bytes vs rows e h.1 hs.1)
  beside_fits item items bytes [] rows e h hs = tt
  beside_fits item items bytes (v ∷ vs) [] e h hs = tt

  rows_fit : (items : List InputDeclaration) (columns : BoundItems) (n : ℕ) → ColumnsFit items columns → RowsFit items (rows_of n columns)
  rows_fit [] [] n h = empty_rows n
  rows_fit (item ∷ items) (column ∷ columns) n h = beside_fits item items column.0 column.1 (rows_of n columns) h.0 h.1 (rows_fit items columns n h.2)
  rows_fit [] (column ∷ columns) n h = absurd h
  rows_fit (item ∷ items) [] n h = absurd h

  in_step_safe : (at : ℕ) (items : List InputDeclaration) (columns : BoundItems) → ColumnsFit items columns → Safe (RowsFit items) (in_step at columns)
  in_step_safe at items columns h = by_test (list_all (λ column. length column.1 == height columns) columns)
    where
      by_test : (b : Bool) → Safe (RowsFit items) (if b then gives (rows_of (height columns) columns) else faults LengthFault at)
      by_test true = rows_fit items columns (height columns) h
      by_test false = λ e. cc

  -- the body's values, where it is safe at each row
  body_all : (items : List InputDeclaration) (t : Ty) (f : Environment → Answer Value) → ((row : Environment) → FitDeclarations dialect items row → Safe (λ v. HasType dialect v t) (f row))
      → (rows : List Environment) → RowsFit items rows → Safe (λ vs. AllOf dialect vs t) (go_all f rows)
  body_all items t f k [] h = tt
  body_all items t f k (row ∷ rows) h =
      go_safe (λ v. HasType dialect v t) (λ vs. AllOf dialect vs t) (f row) (λ v. go (go_all f rows) (λ vs. gives (v ∷ vs))) (k row h.0) (λ v hv.
      go_safe (λ vs. AllOf dialect vs t) (λ vs. AllOf dialect vs t) (go_all f rows) (λ vs. gives (v ∷ vs)) (body_all items t f k rows h.1) (λ vs hvs. (hv, hvs)))

  body_join : (items : List InputDeclaration) (t : Ty) (f : Environment → Answer (List Value)) → ((row : Environment) → FitDeclarations dialect items row → Safe (λ vs. AllOf dialect vs t) (f row))
      → (rows : List Environment) → RowsFit items rows → Safe (λ vs. AllOf dialect vs t) (go_join f rows)
  body_join items t f k [] h = tt
  body_join items t f k (row ∷ rows) h =
      go_safe (λ vs. AllOf dialect vs t) (λ vs. AllOf dialect vs t) (f row) (λ vs. go (go_join f rows) (λ ws. gives (vs ++ ws))) (k row h.0) (λ vs hvs.
      go_safe (λ ws. AllOf dialect ws t) (λ vs. AllOf dialect vs t) (go_join f rows) (λ ws. gives (vs ++ ws)) (body_join items t f k rows h.1) (λ ws hws. joined_of dialect vs ws t hvs hws))

  kept_safe : (b : Bool) (answer : Answer Value) (t : Ty) → Safe (λ v. HasType dialect v t) answer → Safe (λ vs. AllOf dialect vs t) (kept b answer)
  kept_safe true (gives v) t h = (h, tt)
  kept_safe true (faults kind at) t h = h
  kept_safe false answer t h = tt

  choice_safe : (b : Bool) (yes' no' : Answer Value) (t : Ty) → Safe (λ v. HasType dialect v t) yes' → Safe (λ v. HasType dialect v t) no' → Safe (λ v. HasType dialect v t) (if b then yes' else no')
  choice_safe true yes' no' t h k = h
  choice_safe false yes' no' t h k = k

  safe_as : {A : Type 0} (P Q : A → Type 0) (answer : Answer A) → ((x : A) → P x → Q x) → Safe P answer → Safe Q answer
  safe_as P Q (gives x) k h = k x h
  safe_as P Q (faults kind at) k h = h

  -- values of types that are all one
  alike : (t : Ty) (ts : List Ty) (vs : List Value) → AllAre t ts → HaveTypes dialect vs ts → AllOf dialect vs t
  alike t [] [] a h = tt
  alike t (u ∷ us) (v ∷ vs) a h = (subst (HasType dialect v) a.0 h.0, alike t us vs a.1 h.1)
  alike t [] (v ∷ vs) a h = absurd h
  alike t (u ∷ us) [] a h = absurd h

  literal_safe : (t : Ty) (ts : List Ty) (vs : List Value) → AllAre t ts → HaveTypes dialect vs (t ∷ ts) → AllOf dialect vs t
  literal_safe t ts (v ∷ vs) a h = (h.0, alike t ts vs a h.1)
  literal_safe t ts [] a h = absurd h

  -- what the binders of a comprehension declare after earlier ones, and that their columns fit it
  record BindersSafe (earlier all : List InputDeclaration) (answer : Answer BoundItems) : Type 0 where
    new : List InputDeclaration
    same : all ≡ earlier ++ new
    safe : Safe (ColumnsFit new) answer

  columns_of : {items : List InputDeclaration} (answer : Answer BoundItems) → BindersSafe [] items answer → Safe (ColumnsFit items) answer
  columns_of answer all = subst (λ items. Safe (ColumnsFit items) answer) (sym all.same) all.safe

  module _ {text : List ℕ} {functions : Signatures} (calls : Calls) (hold : CallsHold dialect functions calls) where
    mutual
      pub sound : {context : Context} {tree : Tree} {t : Ty} → Types dialect text functions context tree t → (environment : Environment)
          → Holds dialect context environment → Safe (λ v. HasType dialect v t) (eval dialect tree text calls environment)
      sound (has_type d small) environment holds = gives_sound d environment holds

      gives_sound : {context : Context} {tree : Tree} {t : Ty} → Gives dialect text functions context tree t → (environment : Environment)
          → Holds dialect context environment → Safe (λ v. HasType dialect v t) (eval dialect tree text calls environment)
      gives_sound (integer_type h) environment holds = h
      gives_sound truth_type environment holds = tt
      gives_sound {context = context} (name_type {place = place} {t = t} e) environment holds =
          named_safe place.at (spelling text place) context environment t e holds
      gives_sound (binary_type {at = at} {operator = operator} {left = left} {right = right} {t = t} {u = u} {v = r} d1 d2 e) environment holds =
          go_safe (λ v. HasType dialect v t) (λ v. HasType dialect v r) (eval dialect left text calls environment)
          (λ v. go (eval dialect right text calls environment) (λ w. binary_answer dialect at operator v w)) (sound d1 environment holds) (λ v hv.
          go_safe (λ v. HasType dialect v u) (λ v. HasType dialect v r) (eval dialect right text calls environment) (λ w. binary_answer dialect at operator v w) (sound d2 environment holds) (λ w hw.
          binary_safe dialect at operator t u r v w e hv hw))
      gives_sound (prefix_type {at = at} {operator = operator} {operand = operand} {t = t} {u = r} d e) environment holds =
          go_safe (λ v. HasType dialect v t) (λ v. HasType dialect v r) (eval dialect operand text calls environment) (prefix_answer dialect at operator) (sound d environment holds) (λ v hv.
          prefix_safe dialect at operator t r v e hv)
      gives_sound (call_type {at = at} {function = function} {arguments = arguments} {ts = ts} {t = t} ds e) environment holds =
          go_safe (λ vs. HaveTypes dialect vs ts) (λ v. HasType dialect v t) (eval_all dialect arguments text calls environment) (applied dialect at function) (sound_all ds environment holds) (λ vs h.
          applied_safe dialect at function ts t vs e h)
      gives_sound (apply_type {place = place} {arguments = arguments} {signature = signature} ds e) environment holds =
          go_safe (λ vs. HaveTypes dialect vs signature.parameters) (λ v. HasType dialect v signature.result)
          (eval_all dialect arguments text calls environment) (calls place.at (spelling text place)) (sound_all ds environment holds) (λ vs h.
          hold place.at (spelling text place) signature vs e h)
      gives_sound (group_type d) environment holds = sound d environment holds
      gives_sound (pair_type {first = first} {second = second} {t = t} {u = u} d1 d2) environment holds =
          go_safe (λ v. HasType dialect v t) (λ v. HasType dialect v (pair t u)) (eval dialect first text calls environment)
          (λ v. go (eval dialect second text calls environment) (λ w. gives (a_pair v w))) (sound d1 environment holds) (λ v hv.
          go_safe (λ v. HasType dialect v u) (λ v. HasType dialect v (pair t u)) (eval dialect second text calls environment) (λ w. gives (a_pair v w)) (sound d2 environment holds) (λ w hw. (hv, hw)))
      gives_sound (binding_type {place = place} {value = value} {body = body} {t = t} {u = u} d1 d2) environment holds =
          go_safe (λ v. HasType dialect v t) (λ v. HasType dialect v u) (eval dialect value text calls environment)
          (λ v. eval dialect body text calls ((spelling text place, v) ∷ environment)) (sound d1 environment holds) (λ v hv.
          sound d2 ((spelling text place, v) ∷ environment) (refl, hv, holds))
      gives_sound (choice_type {at = at} {condition = condition} {positive = positive} {negative = negative} {t = t} d1 d2 d3) environment holds =
          let rest : Bool → Answer Value = λ b. if b then eval dialect positive text calls environment else eval dialect negative text calls environment in
          go_safe (λ v. HasType dialect v bool) (λ v. HasType dialect v t) (eval dialect condition text calls environment) (λ v. go (truth_at at v) rest) (sound d1 environment holds) (λ v hv.
          go_safe (λ b. Unit {0}) (λ v. HasType dialect v t) (truth_at at v) rest (truth_safe dialect at v hv) (λ b hb.
          choice_safe b (eval dialect positive text calls environment) (eval dialect negative text calls environment) t (sound d2 environment holds) (sound d3 environment holds)))
      gives_sound (literal_type {items = items} {t = t} {ts = ts} ds a) environment holds =
          seq_answer_safe dialect (eval_all dialect items text calls environment) t
          (safe_as (λ vs. HaveTypes dialect vs (t ∷ ts)) (λ vs. AllOf dialect vs t) (eval_all dialect items text calls environment) (λ vs h. literal_safe t ts vs a h) (sound_all ds environment holds))
      gives_sound (filter_type {at = at} {item = item} {condition = condition} {t = t} d1 d2) environment holds =
          let rest : Bool → Answer Value = λ b. seq_answer (kept b (eval dialect item text calls environment)) in
          go_safe (λ v. HasType dialect v bool) (λ v. HasType dialect v (seq t)) (eval dialect condition text calls environment) (λ v. go (truth_at at v) rest) (sound d2 environment holds) (λ v hv.
          go_safe (λ b. Unit {0}) (λ v. HasType dialect v (seq t)) (truth_at at v) rest (truth_safe dialect at v hv) (λ b hb.
          seq_answer_safe dialect (kept b (eval dialect item text calls environment)) t (kept_safe b (eval dialect item text calls environment) t (sound d1 environment holds))))
      gives_sound {context = context} (each_type {at = at} {body = body} {place = place} {source = source} {others = others} {items = items} {t = t} db no_condition d) environment holds =
          let binders : Binders = binder place source others in
          let f : Environment → Answer Value = λ row. eval dialect body text calls (row ++ environment) in
          go_safe (ColumnsFit items) (λ v. HasType dialect v (seq t)) (eval_binders dialect binders text calls environment)
          (λ columns. go (in_step at columns) (λ rows. seq_answer (go_all f rows)))
          (columns_of (eval_binders dialect binders text calls environment) (binders_sound db environment holds)) (λ columns hc.
          go_safe (RowsFit items) (λ v. HasType dialect v (seq t)) (in_step at columns) (λ rows. seq_answer (go_all f rows)) (in_step_safe at items columns hc) (λ rows hr.
          seq_answer_safe dialect (go_all f rows) t
          (body_all items t f (λ row hrow. sound d (row ++ environment)
          (opened_holds items row (inside context) environment hrow (inside_holds context environment holds))) rows hr)))
      gives_sound {context = context}
          (each_type {at = at} {body = body} {place = place} {source = source} {others = others} {items = items} {t = t} db
          (condition_type {condition = condition} dc) d) environment holds =
          let binders : Binders = binder place source others in
          let rest : Environment → Bool → Answer (List Value) = λ row b. kept b (eval dialect body text calls (row ++ environment)) in
          let f : Environment → Answer (List Value) = λ row. go (eval dialect condition text calls (row ++ environment)) (λ v. go (truth_at at v) (rest row)) in
          go_safe (ColumnsFit items) (λ v. HasType dialect v (seq t)) (eval_binders dialect binders text calls environment)
          (λ columns. go (in_step at columns) (λ rows. seq_answer (go_join f rows)))
          (columns_of (eval_binders dialect binders text calls environment) (binders_sound db environment holds)) (λ columns hc.
          go_safe (RowsFit items) (λ v. HasType dialect v (seq t)) (in_step at columns) (λ rows. seq_answer (go_join f rows)) (in_step_safe at items columns hc) (λ rows hr.
          seq_answer_safe dialect (go_join f rows) t (body_join items t f (λ row hrow.
          let inner = opened_holds items row (inside context) environment hrow (inside_holds context environment holds) in
          go_safe (λ v. HasType dialect v bool) (λ vs. AllOf dialect vs t) (eval dialect condition text calls (row ++ environment))
          (λ v. go (truth_at at v) (rest row)) (sound dc (row ++ environment) inner) (λ v hv.
          go_safe (λ b. Unit {0}) (λ vs. AllOf dialect vs t) (truth_at at v) (rest row) (truth_safe dialect at v hv) (λ b hb.
          kept_safe b (eval dialect body text calls (row ++ environment)) t (sound d (row ++ environment) inner)))) rows hr)))

      sound_all : {context : Context} {trees : Trees} {ts : List Ty} → AllTypes dialect text functions context trees ts → (environment : Environment)
          → Holds dialect context environment → Safe (λ vs. HaveTypes dialect vs ts) (eval_all dialect trees text calls environment)
      sound_all no_types environment holds = tt
      sound_all (more_types {first = first} {others = others} {t = t} {ts = ts} d ds) environment holds =
          go_safe (λ v. HasType dialect v t) (λ vs. HaveTypes dialect vs (t ∷ ts)) (eval dialect first text calls environment)
          (λ v. go (eval_all dialect others text calls environment) (λ vs. gives (v ∷ vs))) (sound d environment holds) (λ v hv.
          go_safe (λ vs. HaveTypes dialect vs ts) (λ vs. HaveTypes dialect vs (t ∷ ts)) (eval_all dialect others text calls environment)
          (λ vs. gives (v ∷ vs)) (sound_all ds environment holds) (λ vs hvs. (hv, hvs)))

      binders_sound : {context : Context} {earlier all : List InputDeclaration} {binders : Binders} → BindersType dialect text functions context earlier binders all → (environment : Environment)
          → Holds dialect context environment → BindersSafe earlier all (eval_binders dialect binders text calls environment)
      binders_sound {earlier = earlier} no_binders environment holds = record { new = []; same = sym (append-nil earlier); safe = tt }
      binders_sound {earlier = earlier} (more_binders {place = place} {source = source} {others = others} {t = t} d e ds) environment holds =
          let item : InputDeclaration = (spelling text place, t) in
          let later = binders_sound ds environment holds in
          let last : List Value → BoundItems → Answer BoundItems = λ vs columns. gives ((spelling text place, vs) ∷ columns) in
          record {
            new = item ∷ later.new;
            same = later.same ∙ append_assoc earlier (item ∷ []) later.new;
            safe =
                go_safe (λ v. HasType dialect v (seq t)) (ColumnsFit (item ∷ later.new)) (eval dialect source text calls environment)
                (λ v. go (items_at place.at v) (λ vs. go (eval_binders dialect others text calls environment) (last vs)))
                (sound d environment holds) (λ v hv.
                go_safe (λ vs. AllOf dialect vs t) (ColumnsFit (item ∷ later.new)) (items_at place.at v)
                (λ vs. go (eval_binders dialect others text calls environment) (last vs)) (items_safe dialect place.at v t hv) (λ vs hvs.
                go_safe (ColumnsFit later.new) (ColumnsFit (item ∷ later.new)) (eval_binders dialect others text calls environment) (last vs) later.safe (λ columns hc. (refl, hvs, hc))));
          }

pub expressions_are_sound : TypedExpressionsAreSound
expressions_are_sound dialect text functions calls context environment tree t d hold holds = sound dialect calls hold d environment holds
