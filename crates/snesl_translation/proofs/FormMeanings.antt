-- Filters, literals and comprehensions as expressions mean what their parts say.
use Rattle.std.specs.Prelude.{◌≡◌, ℕ, List, [], ◌∷◌, ◌++◌, length, Option, Some, None, option_map, refl}
use Rattle.std.proofs.Common.{sym, ap, ◌∙◌, subst, append-nil, append_assoc}
use Rattle.snesl_data.specs.declared.dialect.Dialect.{Dialect}
use Rattle.snesl_data.specs.Types.{Ty, bool, seq}
use Rattle.snesl_data.specs.Values.{Value}
use Rattle.snesl_values.specs.Inputs.{InputDeclaration, Environment}
use Rattle.snesl_grammar.specs.declared.tree.span.Span.{Span}
use Rattle.snesl_grammar.specs.tree.Spelling.{spelling}
use Rattle.snesl_grammar.specs.tree.Tree.{Tree, Trees, Binders, filter, each as each_tree, none, both, none_bound, binder, always, only_where}
use Rattle.snesl_evaluation.specs.Answer.{Answer, gives, faults, go, go_all, go_join}
use Rattle.snesl_evaluation.specs.Builtins.{truth_at, items_at, seq_answer}
use Rattle.snesl_evaluation.specs.Eval.{Calls, eval, eval_all, eval_binders, kept as kept_answer, BoundItems, in_step as rows_in_step}
use Rattle.snesl_types.specs.Contexts.{Context, names_context, inside}
use Rattle.flow_base.specs.Flags.{concatenation}
use Rattle.flow_nodes.specs.functions.Lists.{bind, each}
use Rattle.flow_nodes.specs.functions.Decoded.{a_seq_of}
use Rattle.snesl_translation.specs.Wires.{Wires, segments, stream_of, Bound}
use Rattle.snesl_translation.specs.Makings.{Making, done, and_then}
use Rattle.snesl_translation.specs.FreeNames.{Names, free, free_of_all, free_of_sources, without_binders}
use Rattle.snesl_translation.specs.Moving.{distributed, all_moved}
use Rattle.snesl_translation.specs.Translation.{Bodies, Sources, first_flags, in_step, items_bound, units_step, filtered, concatenated, single, followed, tr, tr_items, tr_further, tr_binders}
use Rattle.snesl_translation.specs.Carrying.{given_by}
use Rattle.snesl_translation.specs.Meaning.{IsTranslation}
use Rattle.snesl_translation.specs.Sources.{without_items}
use Rattle.snesl_translation.proofs.SourceMeanings.{SourcesGo, SourcesMean}
use Rattle.snesl_translation.proofs.Running.{bind_same}
use Rattle.snesl_translation.proofs.Instances.{given_go, given_all, each_same}
use Rattle.snesl_translation.proofs.Borne.{AreOpen}
use Rattle.snesl_translation.proofs.BuiltinMeanings.{means_same, TreeMeans}
use Rattle.snesl_translation.proofs.Filters.{filter_means, single_means, followed_means}
use Rattle.snesl_translation.proofs.Binders.{no_sources_mean, more_columns, more_sources_mean}
use Rattle.snesl_translation.proofs.Comprehensions.{each_means, each_where_means}

-- what a sequence of answers gives
sequence_given : (answer : Answer (List Value)) → given_by (seq_answer answer) ≡ option_map a_seq_of (given_by answer)
sequence_given (gives vs) = refl
sequence_given (faults kind at) = refl

joined_given : {X : Type 0} (f : X → Answer (List Value)) (xs : List X) → given_by (go_join f xs) ≡ option_map concatenation (each (λ x. given_by (f x)) xs)
joined_given f [] = refl
joined_given f (x ∷ xs) = by_case (f x) (go_join f xs) (each (λ x. given_by (f x)) xs) (joined_given f xs)
  where
    by_case : (a : Answer (List Value)) (others : Answer (List Value)) (o : Option (List (List Value))) → given_by others ≡ option_map concatenation o
        → given_by (go a (λ ys. go others (λ zs. gives (ys ++ zs)))) ≡ option_map concatenation (bind (given_by a) (λ y. option_map (λ ys. y ∷ ys) o))
    by_case (faults kind at) others o h = refl
    by_case (gives ys) (gives zs) (Some rest) h = let same : zs ≡ concatenation rest = cc in ap (λ l. Some (ys ++ l)) same
    by_case (gives ys) (gives zs) None h = absurd (cc)
    by_case (gives ys) (faults kind at) (Some rest) h = absurd (cc)
    by_case (gives ys) (faults kind at) None h = refl

-- the answers of a filter, as sequences
filter_given : {A B : Type 0} (a : Answer A) (f : A → Answer B) (g : B → Answer (List Value))
    → given_by (go a (λ x. go (f x) (λ y. seq_answer (g y)))) ≡ option_map a_seq_of (given_by (go a (λ x. go (f x) g)))
filter_given (faults kind at) f g = refl
filter_given (gives x) f g = by_case (f x)
  where
    by_case : (b : Answer _) → given_by (go b (λ y. seq_answer (g y))) ≡ option_map a_seq_of (given_by (go b g))
    by_case (faults kind at) = refl
    by_case (gives y) = sequence_given (g y)

-- names without those of binders are the same as without those of their items
abbrev pub SameWithout : (text : List ℕ) (names : Names) (binders : Binders) (items : List InputDeclaration) → Type 0
SameWithout text names binders items = without_binders text binders names ≡ without_items items names

sources_same : (context : Context) (items : List InputDeclaration) (names : Names) (translated : Bound → ℕ → ℕ → Making Sources) (one other : Environment → Option BoundItems)
    → ((environment : Environment) → one environment ≡ other environment) → SourcesMean translated one names context items → SourcesMean translated other names context items
sources_same context items names translated one other same h streams bound control environments bears controls =
    subst (SourcesGo streams items (translated bound control (length streams))) (each_same one other same environments) (h streams bound control environments bears controls)

columns_given : (at : ℕ) (name : List ℕ) (one : Answer Value) (all : Answer BoundItems)
    → bind (given_by one) (λ v. bind (given_by (items_at at v)) (λ vs. bind (given_by all) (λ columns. Some ((name, vs) ∷ columns))))
    ≡ given_by (go one (λ v. go (items_at at v) (λ vs. go all (λ columns. gives ((name, vs) ∷ columns)))))
columns_given at name (faults kind place) all = refl
columns_given at name (gives v) all = by_case (items_at at v) all
  where
    by_case : (items : Answer (List Value)) (all : Answer BoundItems) → bind (given_by items) (λ vs. bind (given_by all) (λ columns. Some ((name, vs) ∷ columns)))
        ≡ given_by (go items (λ vs. go all (λ columns. gives ((name, vs) ∷ columns))))
    by_case (faults kind place) all = refl
    by_case (gives vs) (gives columns) = refl
    by_case (gives vs) (faults kind place) = refl

module _ (dialect : Dialect) (text : List ℕ) (calls : Calls) (bodies : Bodies) (context : Context) where
  pub filter_tree_means : (at : ℕ) (item condition : Tree) (t : Ty) → AreOpen (free text item) context → TreeMeans dialect text calls bodies context item t
      → TreeMeans dialect text calls bodies context condition bool → TreeMeans dialect text calls bodies context (filter at item condition) (seq t)
  filter_tree_means at item condition t usable h g =
      filter_means context at t (free text condition) (free text item) (tr dialect text bodies condition) (tr dialect text bodies item)
      (λ environment. eval dialect condition text calls environment) (λ environment. eval dialect item text calls environment) usable g h

  -- literals

  abbrev pub ItemsMean : ℕ → Trees → Ty → Type 0
  ItemsMean at items t =
      IsTranslation (tr_items dialect text bodies at items) (λ environment. given_by (seq_answer (eval_all dialect items text calls environment)))
      (free_of_all text items) context (seq t)

  -- what stands before items, and how it is evaluated
  abbrev pub FurtherMean : ℕ → (Bound → ℕ → ℕ → Making Wires) → (Environment → Answer (List Value)) → Names → Trees → Ty → Type 0
  FurtherMean at sequence before names items t =
      IsTranslation (tr_further dialect text bodies at sequence items)
      (λ environment. given_by
      (seq_answer (go (before environment) (λ vs. go (eval_all dialect items text calls environment) (λ ws. gives (vs ++ ws))))))
      (names ++ free_of_all text items) context (seq t)

  abbrev pub SequenceMeans : (Bound → ℕ → ℕ → Making Wires) → (Environment → Answer (List Value)) → Names → Ty → Type 0
  SequenceMeans sequence before names t = IsTranslation sequence (λ environment. given_by (seq_answer (before environment))) names context (seq t)

  -- the first item alone
  pub first_item_means : (at : ℕ) (first : Tree) (t : Ty) → AreOpen (free text first) context → TreeMeans dialect text calls bodies context first t
      → SequenceMeans (single at (free text first) (tr dialect text bodies first)) (λ environment. go (eval dialect first text calls environment) (λ v. gives (v ∷ []))) (free text first) t
  first_item_means at first t usable h = single_means context at t (free text first) (tr dialect text bodies first) (λ environment. eval dialect first text calls environment) usable h

  -- a literal, where its first item with the others after it means this
  pub literal_means : (at : ℕ) (first : Tree) (others : Trees) (t : Ty)
      → FurtherMean at (single at (free text first) (tr dialect text bodies first)) (λ environment. go (eval dialect first text calls environment) (λ v. gives (v ∷ []))) (free text first) others t
      → ItemsMean at (both first others) t
  literal_means at first others t h =
      means_same context (seq t) (free_of_all text (both first others)) (tr_items dialect text bodies at (both first others))
      (λ environment. given_by
      (seq_answer (go (go (eval dialect first text calls environment) (λ v. gives (v ∷ [])))
      (λ vs. go (eval_all dialect others text calls environment) (λ ws. gives (vs ++ ws))))))
      (λ environment. given_by (seq_answer (eval_all dialect (both first others) text calls environment)))
      (λ environment. same (eval dialect first text calls environment) (eval_all dialect others text calls environment)) h
    where
      same : (one : Answer Value) (rest : Answer (List Value))
          → given_by (seq_answer (go (go one (λ v. gives (v ∷ []))) (λ vs. go rest (λ ws. gives (vs ++ ws))))) ≡ given_by (seq_answer (go one (λ v. go rest (λ ws. gives (v ∷ ws)))))
      same (faults kind place) rest = refl
      same (gives v) rest = refl

  pub no_further_mean : (at : ℕ) (sequence : Bound → ℕ → ℕ → Making Wires) (before : Environment → Answer (List Value)) (names : Names) (t : Ty)
      → SequenceMeans sequence before names t → FurtherMean at sequence before names none t
  no_further_mean at sequence before names t h =
      subst (λ names'. IsTranslation sequence (λ environment. given_by (seq_answer (go (before environment) (λ vs. gives (vs ++ []))))) names' context (seq t)) (sym (append-nil names))
      (means_same context (seq t) names sequence (λ environment. given_by (seq_answer (before environment))) (λ environment. given_by (seq_answer (go (before environment) (λ vs. gives (vs ++ [])))))
      (λ environment. same (before environment)) h)
    where
      same : (answer : Answer (List Value)) → given_by (seq_answer answer) ≡ given_by (seq_answer (go answer (λ vs. gives (vs ++ []))))
      same (faults kind place) = refl
      same (gives vs) = ap (λ l. given_by (seq_answer (gives l))) (sym (append-nil vs))

  -- the values of what stands before, with an item after it
  abbrev pub with_item : (Environment → Answer (List Value)) → Tree → Environment → Answer (List Value)
  with_item before item environment = go (before environment) (λ vs. go (eval dialect item text calls environment) (λ v. gives (vs ++ v ∷ [])))

  pub item_followed : (at : ℕ) (sequence : Bound → ℕ → ℕ → Making Wires) (before : Environment → Answer (List Value)) (names : Names) (item : Tree) (t : Ty)
      → AreOpen (free text item) context → SequenceMeans sequence before names t → TreeMeans dialect text calls bodies context item t
      → SequenceMeans (followed at sequence (free text item) (tr dialect text bodies item)) (with_item before item) (names ++ free text item) t
  item_followed at sequence before names item t usable h g =
      followed_means context at t names (free text item) sequence (tr dialect text bodies item) before (λ environment. eval dialect item text calls environment) usable h g

  pub more_further_mean : (at : ℕ) (sequence : Bound → ℕ → ℕ → Making Wires) (before : Environment → Answer (List Value)) (names : Names) (item : Tree) (others : Trees) (t : Ty)
      → FurtherMean at (followed at sequence (free text item) (tr dialect text bodies item)) (with_item before item) (names ++ free text item) others
      t → FurtherMean at sequence before names (both item others) t
  more_further_mean at sequence before names item others t h =
      subst (λ names'. IsTranslation (tr_further dialect text bodies at sequence (both item others))
      (λ environment. given_by
      (seq_answer (go (before environment) (λ vs. go (eval_all dialect (both item others) text calls environment) (λ ws. gives (vs ++ ws))))))
      names' context (seq t))
      (append_assoc names (free text item) (free_of_all text others))
      (means_same context (seq t) ((names ++ free text item) ++ free_of_all text others) (tr_further dialect text bodies at sequence (both item others))
      (λ environment. given_by (seq_answer (go (with_item before item environment) (λ vs. go (eval_all dialect others text calls environment) (λ ws. gives (vs ++ ws))))))
      (λ environment. given_by (seq_answer (go (before environment) (λ vs. go (eval_all dialect (both item others) text calls environment) (λ ws. gives (vs ++ ws))))))
      (λ environment. same (before environment) (eval dialect item text calls environment) (eval_all dialect others text calls environment)) h)
    where
      same : (answer : Answer (List Value)) (one : Answer Value) (rest : Answer (List Value))
          → given_by (seq_answer (go (go answer (λ vs. go one (λ v. gives (vs ++ v ∷ [])))) (λ vs. go rest (λ ws. gives (vs ++ ws)))))
          ≡ given_by (seq_answer (go answer (λ vs. go (go one (λ v. go rest (λ ws. gives (v ∷ ws)))) (λ ws. gives (vs ++ ws)))))
      same (faults kind place) one rest = refl
      same (gives vs) (faults kind place) rest = refl
      same (gives vs) (gives v) (faults kind place) = refl
      same (gives vs) (gives v) (gives ws) = ap (λ l. given_by (seq_answer (gives l))) (append_assoc vs (v ∷ []) ws)

  -- binders

  abbrev pub BindersMean : Binders → List InputDeclaration → Type 0
  BindersMean binders items =
      SourcesMean (tr_binders dialect text bodies binders) (λ environment. given_by (eval_binders dialect binders text calls environment))
      (free_of_sources text binders) context items

  pub no_binders_mean : BindersMean none_bound []
  no_binders_mean = no_sources_mean context

  pub binder_means : (place : Span) (source : Tree) (others : Binders) (t : Ty) (items : List InputDeclaration) → TreeMeans dialect text calls bodies context source (seq t) → BindersMean others items
      → BindersMean (binder place source others) ((spelling text place, t) ∷ items)
  binder_means place source others t items h g =
      let name = spelling text place in
      let one : Environment → Option Value = λ environment. given_by (eval dialect source text calls environment) in
      let all : Environment → Option BoundItems = λ environment. given_by (eval_binders dialect others text calls environment) in
      sources_same context ((name, t) ∷ items) (free text source ++ free_of_sources text others) (tr_binders dialect text bodies (binder place source others)) (more_columns place.at name one all)
      (λ environment. given_by (eval_binders dialect (binder place source others) text calls environment))
      (λ environment. columns_given place.at name (eval dialect source text calls environment) (eval_binders dialect others text calls environment))
      (more_sources_mean place.at name one all context t items (free text source) (free_of_sources text others) (tr dialect text bodies source) (tr_binders dialect text bodies others) h g)

  -- comprehensions

  pub each_tree_means : (at : ℕ) (body : Tree) (binders : Binders) (item : InputDeclaration) (items : List InputDeclaration) (t : Ty) → SameWithout text (free text body) binders (item ∷ items)
      → AreOpen (free text body) (names_context (item ∷ items) ++ inside context) → BindersMean binders (item ∷ items)
      → TreeMeans dialect text calls bodies (names_context (item ∷ items) ++ inside context) body t
      → TreeMeans dialect text calls bodies context (each_tree at body binders always) (seq t)
  each_tree_means at body binders item items t same usable h g =
      let value : Environment → Option Value = λ environment. given_by (eval dialect body text calls environment) in
      let columns : Environment → Option BoundItems = λ environment. given_by (eval_binders dialect binders text calls environment) in
      let translated : Names → Bound → ℕ → ℕ → Making Wires = λ names bound control next.
      and_then (tr_binders dialect text bodies binders bound control next) (λ sources k.
      and_then (in_step at sources k) (λ _ k.
      and_then (all_moved (distributed at (first_flags sources)) names bound k) (λ inner k.
      and_then (units_step at (first_flags sources) k) (λ c k.
      and_then (tr dialect text bodies body (items_bound sources ++ inner) (stream_of c) k) (λ w k. done (segments (first_flags sources) w) k))))) in
      let told : Environment → Option Value =
      λ environment. bind (columns environment)
      (λ columns. bind (given_by (rows_in_step at columns)) (λ rows. option_map a_seq_of (each (λ row. value (row ++ environment)) rows))) in
      let means : IsTranslation (translated (without_items (item ∷ items) (free text body))) told (free_of_sources text binders ++ without_items (item ∷ items) (free text body)) context (seq t) =
      each_means context at at item items t (free_of_sources text binders) (free text body) (tr_binders dialect text bodies binders) (tr dialect text bodies body) columns value usable h g in
      means_same context (seq t) (free_of_sources text binders ++ without_binders text binders (free text body)) (translated (without_binders text binders (free text body))) told
      (λ environment. given_by (eval dialect (each_tree at body binders always) text calls environment)) same_value
      (subst (λ names. IsTranslation (translated names) told (free_of_sources text binders ++ names) context (seq t)) (sym same) means)
    where
      same_value : (environment : Environment)
          → bind (given_by (eval_binders dialect binders text calls environment))
          (λ columns. bind (given_by (rows_in_step at columns))
          (λ rows. option_map a_seq_of (each (λ row. given_by (eval dialect body text calls (row ++ environment))) rows)))
          ≡ given_by (eval dialect (each_tree at body binders always) text calls environment)
      same_value environment =
          let f : Environment → Answer Value = λ row. eval dialect body text calls (row ++ environment) in
          sym (given_go (eval_binders dialect binders text calls environment) (λ columns. go (rows_in_step at columns) (λ rows. seq_answer (go_all f rows)))
          ∙ bind_same (given_by (eval_binders dialect binders text calls environment)) (λ columns. given_by (go (rows_in_step at columns) (λ rows. seq_answer (go_all f rows))))
          (λ columns. bind (given_by (rows_in_step at columns)) (λ rows. option_map a_seq_of (each (λ row. given_by (f row)) rows)))
          (λ columns. given_go (rows_in_step at columns) (λ rows. seq_answer (go_all f rows))
          ∙ bind_same (given_by (rows_in_step at columns)) (λ rows. given_by (seq_answer (go_all f rows))) (λ rows. option_map a_seq_of (each (λ row. given_by (f row)) rows))
          (λ rows. sequence_given (go_all f rows) ∙ ap (option_map a_seq_of) (given_all f rows))))

  pub each_where_tree_means : (at : ℕ) (body : Tree) (binders : Binders) (condition : Tree) (item : InputDeclaration) (items : List InputDeclaration) (t : Ty)
      → SameWithout text (free text condition ++ free text body) binders (item ∷ items)
      → AreOpen (free text condition ++ free text body) (names_context (item ∷ items) ++ inside context) →
      AreOpen (free text body) (names_context (item ∷ items) ++ inside context) → BindersMean binders (item ∷ items)
      → TreeMeans dialect text calls bodies (names_context (item ∷ items) ++ inside context) condition bool
      → TreeMeans dialect text calls bodies (names_context (item ∷ items) ++ inside context) body t
      → TreeMeans dialect text calls bodies context (each_tree at body binders (only_where condition)) (seq t)
  each_where_tree_means at body binders condition item items t same usable usable_body h g b =
      let inner = names_context (item ∷ items) ++ inside context in
      let inner_names = free text condition ++ free text body in
      let columns : Environment → Option BoundItems = λ environment. given_by (eval_binders dialect binders text calls environment) in
      let kept_values : Environment → Option (List Value) = λ environment.
      given_by (go (eval dialect condition text calls environment) (λ v. go (truth_at at v) (λ b. kept_answer b (eval dialect body text calls environment)))) in
      let filters : Bound → ℕ → ℕ → Making Wires = λ bound d k. filtered at (free text body) (λ b c n. tr dialect text bodies body b c n) bound d k in
      let translated : Names → Bound → ℕ → ℕ → Making Wires = λ names bound control next.
      and_then (tr_binders dialect text bodies binders bound control next) (λ sources k.
      and_then (in_step at sources k) (λ _ k.
      and_then (all_moved (distributed at (first_flags sources)) names bound k) (λ inner k.
      and_then (units_step at (first_flags sources) k) (λ c k.
      and_then (tr dialect text bodies condition (items_bound sources ++ inner) (stream_of c) k) (λ d k.
      and_then (filters (items_bound sources ++ inner) (stream_of d) k) (λ w k.
      concatenated at (segments (first_flags sources) w) k)))))) in
      let told : Environment → Option Value = λ environment. bind (columns environment) (λ columns. bind (given_by (rows_in_step at columns)) (λ rows.
      option_map (λ ls. a_seq_of (concatenation ls)) (each (λ row. kept_values (row ++ environment)) rows))) in
      let kept_means : IsTranslation (λ b c k. and_then (tr dialect text bodies condition b c k) (λ d k. filters b (stream_of d) k))
      (λ environment. option_map a_seq_of (kept_values environment)) inner_names inner (seq t) =
      means_same inner (seq t) inner_names (λ b c k. and_then (tr dialect text bodies condition b c k) (λ d k. filters b (stream_of d) k))
      (λ environment. given_by (go (eval dialect condition text calls environment) (λ v. go (truth_at at v) (λ b. seq_answer (kept_answer b (eval dialect body text calls environment))))))
      (λ environment. option_map a_seq_of (kept_values environment))
      (λ environment. filter_given (eval dialect condition text calls environment) (truth_at at) (λ b. kept_answer b (eval dialect body text calls environment)))
      (filter_means inner at t (free text condition) (free text body) (tr dialect text bodies condition) (tr dialect text bodies body)
      (λ environment. eval dialect condition text calls environment) (λ environment. eval dialect body text calls environment) usable_body g b) in
      let means : IsTranslation (translated (without_items (item ∷ items) inner_names)) told (free_of_sources text binders ++ without_items (item ∷ items) inner_names) context (seq t) =
      each_where_means dialect at t kept_values context at item items (free_of_sources text binders) inner_names
      (tr_binders dialect text bodies binders) (tr dialect text bodies condition) filters columns usable h kept_means in
      means_same context (seq t) (free_of_sources text binders ++ without_binders text binders inner_names) (translated (without_binders text binders inner_names)) told
      (λ environment. given_by (eval dialect (each_tree at body binders (only_where condition)) text calls environment)) same_value
      (subst (λ names. IsTranslation (translated names) told (free_of_sources text binders ++ names) context (seq t)) (sym same) means)
    where
      same_value : (environment : Environment)
          → bind (given_by (eval_binders dialect binders text calls environment)) (λ columns. bind (given_by (rows_in_step at columns)) (λ rows.
          option_map (λ ls. a_seq_of (concatenation ls))
          (each (λ row. given_by
          (go (eval dialect condition text calls (row ++ environment))
          (λ v. go (truth_at at v) (λ b. kept_answer b (eval dialect body text calls (row ++ environment)))))) rows)))
          ≡ given_by (eval dialect (each_tree at body binders (only_where condition)) text calls environment)
      same_value environment =
          let f : Environment → Answer (List Value) =
          λ row. go (eval dialect condition text calls (row ++ environment))
          (λ v. go (truth_at at v) (λ b. kept_answer b (eval dialect body text calls (row ++ environment)))) in
          sym (given_go (eval_binders dialect binders text calls environment) (λ columns. go (rows_in_step at columns) (λ rows. seq_answer (go_join f rows)))
          ∙ bind_same (given_by (eval_binders dialect binders text calls environment)) (λ columns. given_by (go (rows_in_step at columns) (λ rows. seq_answer (go_join f rows))))
          (λ columns. bind (given_by (rows_in_step at columns)) (λ rows. option_map (λ ls. a_seq_of (concatenation ls)) (each (λ row. given_by (f row)) rows)))
          (λ columns. given_go (rows_in_step at columns) (λ rows. seq_answer (go_join f rows))
          ∙ bind_same (given_by (rows_in_step at columns)) (λ rows. given_by (seq_answer (go_join f rows)))
          (λ rows. option_map (λ ls. a_seq_of (concatenation ls)) (each (λ row. given_by (f row)) rows))
          (λ rows. sequence_given (go_join f rows) ∙ ap (option_map a_seq_of) (joined_given f rows) ∙ sequences_of (each (λ row. given_by (f row)) rows))))
        where
          sequences_of : (o : Option (List (List Value))) → option_map a_seq_of (option_map concatenation o) ≡ option_map (λ ls. a_seq_of (concatenation ls)) o
          sequences_of None = refl
          sequences_of (Some ls) = refl
