-- The binders of a comprehension: what their sources mean, and that their sequences are equally long.
use Rattle.std.specs.Prelude.{◌≡◌, ℕ, zero, suc, Bool, true, false, ◌&&◌, ◌==◌, List, [], ◌∷◌, ◌++◌, map, length, replicate, zip, Option, Some, None, option_map, refl}
use Rattle.std.proofs.Common.{sym, ap, ◌∙◌, subst, append-nil}
use Rattle.std.proofs.Math.Path.{ap₂}
use Rattle.snesl_data.specs.Types.{Ty, seq}
use Rattle.snesl_data.specs.Values.{Value}
use Rattle.snesl_values.specs.Inputs.{InputDeclaration, Environment}
use Rattle.snesl_data.specs.operators.Operators.{same_truth}
use Rattle.snesl_evaluation.specs.Builtins.{items_at}
use Rattle.snesl_evaluation.specs.Eval.{BoundItems}
use Rattle.snesl_types.specs.Contexts.{Context}
use Rattle.flow_messages.specs.Cells.{Cell, flag}
use Rattle.flow_base.specs.Columns.{Columns}
use Rattle.flow_base.specs.Flags.{flags, lengths}
use Rattle.flow_nodes.specs.functions.Lists.{bind, only_if, each, same_lists}
use Rattle.flow_nodes.specs.functions.Decoded.{truths, a_seq_of}
use Rattle.flow_nodes.specs.functions.Made.{same_flags_made}
use Rattle.flow_nodes.proofs.OfFunctions.Options.{bind_gives, only_if_gives, same_lists_back}
use Rattle.flow_nodes.proofs.OfFunctions.Decoding.{truths_back, flags_injective}
use Rattle.flow_nodes.proofs.OfFunctions.FlagRows.{same_numbers, same_numbers_back}
use Rattle.flow_nodes.proofs.OfFunctions.Encoded.{same_flags_makes}
use Rattle.flow_nodes.proofs.OfFunctions.ValueDecoding.{list_values, elements_made}
use Rattle.flow_nodes.specs.plans.Plans.{Step, streams_at, run}
use Rattle.snesl_translation.specs.Wires.{Wires, stream_of, Bound}
use Rattle.snesl_translation.specs.Makings.{Making, done, and_then}
use Rattle.snesl_translation.specs.FreeNames.{Names}
use Rattle.snesl_translation.specs.Translation.{Sources, same_lengths}
use Rattle.snesl_translation.specs.Carrying.{Carries, given_by, GoesTo}
use Rattle.snesl_translation.specs.Meaning.{IsTranslation}
use Rattle.snesl_translation.specs.Sources.{with_sequences}
use Rattle.snesl_translation.proofs.SourceMeanings.{SourcesCarry, SourcesGo, SourcesMean}
use Rattle.snesl_translation.proofs.Running.{bind_bind}
use Rattle.snesl_translation.proofs.Carrying.{carried_on, streams_joined, flags_carry, rest_stops, first_stops}
use Rattle.snesl_translation.proofs.Doing.{done_does, then_does}
use Rattle.snesl_translation.proofs.Instances.{each_same, each_two, each_length}
use Rattle.snesl_translation.proofs.Operands.{each_after}
use Rattle.snesl_translation.proofs.Forms.{borne_on, borne_left, borne_right, controls_on}
use Rattle.snesl_translation.proofs.Grouping.{grouped_from}
use Rattle.snesl_translation.proofs.Rows.{all_fit, fits_with, empty_fit, with_column_length}

-- what is carried stays so
pub sources_on : (streams more : Columns) (sources : Sources) (items : List InputDeclaration) (all : List BoundItems) →
    SourcesCarry streams sources items all → SourcesCarry (streams ++ more) sources items all
sources_on streams more [] [] all h = h
sources_on streams more [] (item ∷ items) all h = absurd h
sources_on streams more (source ∷ sources) [] all h = absurd h
sources_on streams more (source ∷ sources) (item ∷ items) all (groups, others, is, same, named, c, rest) =
    (groups, others, is, same, named, carried_on streams more source.1 (seq item.1) (map a_seq_of groups) c, sources_on streams more sources items others rest)

-- makings one after the other

-- an expression, and then sources
head_goes : (streams : Columns) (s : Ty) (items : List InputDeclaration) (first : Making Wires) (rest : Wires → ℕ → Making Sources)
    (o : Option (List Value)) (after : List Value → Option (List BoundItems))
    → GoesTo streams s first o
    → ((more : Columns) (w : Wires) (vs : List Value) → o ≡ Some vs → Carries (streams ++ more) w s vs → SourcesGo (streams ++ more) items (rest w (length (streams ++ more))) (after vs))
    → SourcesGo streams items (and_then first rest) (bind o after)
head_goes streams s items first rest None after goes later = first_stops first rest streams goes
head_goes streams s items first rest (Some vs) after goes later = by_case (after vs) (later goes.0 first.given vs refl goes.3)
  where
    by_case : (o : Option (List BoundItems)) → SourcesGo (streams ++ goes.0) items (rest first.given (length (streams ++ goes.0))) o → SourcesGo streams items (and_then first rest) o
    by_case None stops = rest_stops first streams goes.0 goes.1 goes.2 rest stops
    by_case (Some all) does = then_does first rest streams (λ l w. Carries l w s vs) (λ l us. SourcesCarry l us items all) goes does

-- sources, and then sources
tail_goes : (streams : Columns) (items more_items : List InputDeclaration) (first : Making Sources) (rest : Sources → ℕ → Making Sources)
    (o : Option (List BoundItems)) (after : List BoundItems → Option (List BoundItems))
    → SourcesGo streams items first o
    → ((more : Columns) (us : Sources) (all : List BoundItems) → o ≡ Some all → SourcesCarry (streams ++ more) us items all →
    SourcesGo (streams ++ more) more_items (rest us (length (streams ++ more))) (after all))
    → SourcesGo streams more_items (and_then first rest) (bind o after)
tail_goes streams items more_items first rest None after goes later = first_stops first rest streams goes
tail_goes streams items more_items first rest (Some all) after goes later = by_case (after all) (later goes.0 first.given all refl goes.3)
  where
    by_case : (o : Option (List BoundItems)) → SourcesGo (streams ++ goes.0) more_items (rest first.given (length (streams ++ goes.0))) o → SourcesGo streams more_items (and_then first rest) o
    by_case None stops = rest_stops first streams goes.0 goes.1 goes.2 rest stops
    by_case (Some others) does = then_does first rest streams (λ l us. SourcesCarry l us items all) (λ l us. SourcesCarry l us more_items others) goes does

-- sources, and then an expression
pub sources_go : (streams : Columns) (items : List InputDeclaration) (t : Ty) (first : Making Sources) (rest : Sources → ℕ → Making Wires)
    (o : Option (List BoundItems)) (after : List BoundItems → Option (List Value))
    → SourcesGo streams items first o
    → ((more : Columns) (us : Sources) (all : List BoundItems) → o ≡ Some all → SourcesCarry (streams ++ more) us items all →
    GoesTo (streams ++ more) t (rest us (length (streams ++ more))) (after all))
    → GoesTo streams t (and_then first rest) (bind o after)
sources_go streams items t first rest None after goes later = first_stops first rest streams goes
sources_go streams items t first rest (Some all) after goes later = by_case (after all) (later goes.0 first.given all refl goes.3)
  where
    by_case : (o : Option (List Value)) → GoesTo (streams ++ goes.0) t (rest first.given (length (streams ++ goes.0))) o → GoesTo streams t (and_then first rest) o
    by_case None stops = rest_stops first streams goes.0 goes.1 goes.2 rest stops
    by_case (Some vs) does = then_does first rest streams (λ l us. SourcesCarry l us items all) (λ l w. Carries l w t vs) goes does

-- no binder, and one binder more

abbrev no_sequences : BoundItems
no_sequences = []

each_empty : {X : Type 0} (xs : List X) → each (λ x. Some no_sequences) xs ≡ Some (replicate (length xs) no_sequences)
each_empty [] = refl
each_empty (x ∷ xs) = ap (option_map (λ ys. [] ∷ ys)) (each_empty xs)

replicate_length : {A : Type 0} (n : ℕ) (x : A) → length (replicate n x) ≡ n
replicate_length zero x = refl
replicate_length (suc n) x = ap suc (replicate_length n x)

pub no_sources_mean : (context : Context) → SourcesMean (λ bound control k. done [] k) (λ environment. Some []) [] context []
no_sources_mean context streams bound control environments bears controls =
    subst (SourcesGo streams [] (done [] (length streams))) (sym (each_empty environments))
    (done_does [] streams (λ l us. SourcesCarry l us [] (replicate (length environments) no_sequences))
    (ap (λ n. replicate n no_sequences) (sym (replicate_length (length environments) no_sequences))))

-- the items of sequences
groups_read : (at : ℕ) (groups : List (List Value)) → each (λ v. given_by (items_at at v)) (map a_seq_of groups) ≡ Some groups
groups_read at [] = refl
groups_read at (g ∷ groups) = ap₂ (λ (l : List Value) (o : Option (List (List Value))). option_map (λ ls. l ∷ ls) o) (list_values g) (groups_read at groups)

some_columns : (name : List ℕ) (ps : List (List Value × BoundItems)) → each (λ p. Some ((name, p.0) ∷ p.1)) ps ≡ Some (map (λ p. (name, p.0) ∷ p.1) ps)
some_columns name [] = refl
some_columns name (p ∷ ps) = ap (option_map (λ ys. ((name, p.0) ∷ p.1) ∷ ys)) (some_columns name ps)

module _ (at : ℕ) (name : List ℕ) (one : Environment → Option Value) (all : Environment → Option BoundItems) where
  -- the columns of a binder and of others
  abbrev pub more_columns : Environment → Option BoundItems
  more_columns environment = bind (one environment) (λ v. bind (given_by (items_at at v)) (λ vs. bind (all environment) (λ columns. Some ((name, vs) ∷ columns))))

  abbrev with_others : List Environment → List (List Value) → Option (List BoundItems)
  with_others environments groups = bind (each all environments) (λ others. each (λ p. Some ((name, p.0) ∷ p.1)) (zip groups others))

  each_columns : (environments : List Environment)
      → each more_columns environments ≡ bind (each one environments) (λ vs. bind (each (λ v. given_by (items_at at v)) vs) (with_others environments))
  each_columns environments =
      each_same more_columns (λ environment. bind (bind (one environment) (λ v. given_by (items_at at v))) (λ vs. bind (all environment) (λ columns. Some ((name, vs) ∷ columns))))
      (λ environment. sym (bind_bind (one environment) (λ v. given_by (items_at at v)) (λ vs. bind (all environment) (λ columns. Some ((name, vs) ∷ columns))))) environments
      ∙ each_two (λ environment. bind (one environment) (λ v. given_by (items_at at v))) all (λ vs columns. Some ((name, vs) ∷ columns)) environments
      ∙ ap (λ o. bind o (with_others environments)) (each_after one (λ v. given_by (items_at at v)) environments)
      ∙ bind_bind (each one environments) (each (λ v. given_by (items_at at v))) (with_others environments)

  pub more_sources_mean : (context : Context) (t : Ty) (items : List InputDeclaration) (names others : Names) (first : Bound → ℕ → ℕ → Making Wires) (rest : Bound → ℕ → ℕ → Making Sources)
      → IsTranslation first one names context (seq t) → SourcesMean rest all others context items
      → SourcesMean (λ bound control k. and_then (first bound control k) (λ u k. and_then (rest bound control k) (λ sources k. done ((name, u) ∷ sources) k)))
      more_columns (names ++ others) context ((name, t) ∷ items)
  more_sources_mean context t items names others first rest h g streams bound control environments bears controls =
      let behind : Wires → ℕ → Making Sources = λ u k. and_then (rest bound control k) (λ sources k. done ((name, u) ∷ sources) k) in
      let every : List InputDeclaration = (name, t) ∷ items in
      subst (SourcesGo streams every (and_then (first bound control (length streams)) behind)) (sym (each_columns environments))
      (head_goes streams (seq t) every (first bound control (length streams)) behind (each one environments) (λ vs. bind (each (λ v. given_by (items_at at v)) vs) (with_others environments))
      (h streams bound control environments (borne_left streams bound names others context environments bears) controls)
      (λ more u vs is cu.
      let there = streams ++ more in
      let by = grouped_from there u t vs cu in
      let groups = by.groups in
      let read : each (λ v. given_by (items_at at v)) vs ≡ Some groups = ap (each (λ v. given_by (items_at at v))) by.view ∙ groups_read at groups in
      subst (SourcesGo there every (behind u (length there))) (sym (ap (λ o. bind o (with_others environments)) read))
      (tail_goes there items every (rest bound control (length there)) (λ sources k. done ((name, u) ∷ sources) k) (each all environments)
      (λ columns. each (λ p. Some ((name, p.0) ∷ p.1)) (zip groups columns))
      (g there bound control environments
      (borne_on streams more bound others context environments (borne_right streams bound names others context environments bears))
      (controls_on streams more control (length environments) controls))
      (λ later sources columns is' cs.
      let last = there ++ later in
      let long : length groups ≡ length columns =
      each_length (λ v. given_by (items_at at v)) vs groups read ∙ each_length one environments vs is ∙ sym (each_length all environments columns is') in
      let made = with_sequences name groups columns in
      let cu' : Carries last u (seq t) (map a_seq_of groups) = subst (Carries last u (seq t)) by.view (carried_on there later u (seq t) vs cu) in
      let carried : SourcesCarry last ((name, u) ∷ sources) every made = (groups, columns, refl, long, refl, cu', cs) in
      subst (SourcesGo last every (done ((name, u) ∷ sources) (length last))) (sym (some_columns name (zip groups columns)))
      (done_does ((name, u) ∷ sources) last (λ l ws. SourcesCarry l ws every made) carried)))))

-- Sequences that are equally long

truth_same_back : (b c : Bool) → same_truth b c ≡ true → b ≡ c
truth_same_back true true e = refl
truth_same_back false false e = refl
truth_same_back true false e = absurd (cc)
truth_same_back false true e = absurd (cc)

-- flags that run are the same
flags_same : (f g : List Cell) (written : Columns) → same_flags_made (f ∷ g ∷ []) ≡ Some written → f ≡ g
flags_same f g written e =
    let s1 = bind_gives (truths f) _ e in
    let s2 = bind_gives (truths g) _ s1.2 in
    let s3 = only_if_gives _ _ s2.2 in
    truths_back f s1.0 s1.1 ∙ ap (map flag) (same_lists_back same_truth truth_same_back s1.0 s2.0 s3.0) ∙ sym (truths_back g s2.0 s2.1)

other_flags : (ns ms : List ℕ) (o : Option Columns) → same_lists ◌==◌ ms ns ≡ false → same_flags_made (flags ns ∷ flags ms ∷ []) ≡ o → o ≡ None
other_flags ns ms None e f = refl
other_flags ns ms (Some written) e f =
    let same : ns ≡ ms = flags_injective ns ms (flags_same (flags ns) (flags ms) written f) in
    let equal : same_lists ◌==◌ ms ns ≡ true = ap (same_lists ◌==◌ ms) same ∙ same_numbers ms in
    absurd (cc)

-- flags of lengths run where the lengths are the same
pub same_flags_test : (ns ms : List ℕ) → same_flags_made (flags ns ∷ flags ms ∷ []) ≡ only_if (same_lists ◌==◌ ms ns) []
same_flags_test ns ms = by_case (same_lists ◌==◌ ms ns) refl
  where
    by_case : (b : Bool) → same_lists ◌==◌ ms ns ≡ b → same_flags_made (flags ns ∷ flags ms ∷ []) ≡ only_if b []
    by_case true e = ap (λ l. same_flags_made (flags l ∷ flags ms ∷ [])) (sym (same_numbers_back ms ns e)) ∙ same_flags_makes ms
    by_case false e = other_flags ns ms (same_flags_made (flags ns ∷ flags ms ∷ [])) e refl

tested_then : (streams : Columns) (behind : List Step) (b c : Bool) → run behind streams ≡ only_if c streams →
    bind (only_if b []) (λ written. run behind (streams ++ written)) ≡ only_if (b && c) streams
tested_then streams behind true c e = ap (run behind) (append-nil streams) ∙ e
tested_then streams behind false c e = refl

-- that further sequences have these lengths
pub lengths_test : (at f : ℕ) (streams : Columns) (ns : List ℕ) (sources : Sources) (items : List InputDeclaration) (all : List BoundItems) (next : ℕ)
    → streams_at (f ∷ []) streams ≡ Some (flags ns ∷ []) → length all ≡ length ns → SourcesCarry streams sources items all
    → run (same_lengths at f sources next).steps streams ≡ only_if (all_fit ns all) streams
unfolding and_then
lengths_test at f streams ns [] [] all next there long c = sym (ap (λ b. only_if b streams) (empty_fit ns all c long))
lengths_test at f streams ns [] (item ∷ items) all next there long c = absurd c
lengths_test at f streams ns (source ∷ sources) [] all next there long c = absurd c
lengths_test at f streams ns (source ∷ sources) (item ∷ items) all next there long (groups, others, is, same, named, c, rest) =
    let ms = lengths groups in
    let g = stream_of source.1 in
    let flagged : streams_at (g ∷ []) streams ≡ Some (flags ms ∷ []) = flags_carry streams source.1 item.1 (map a_seq_of groups) c ∙ ap (λ gs. Some (flags (lengths gs) ∷ [])) (elements_made groups) in
    let both : streams_at (f ∷ g ∷ []) streams ≡ Some (flags ns ∷ flags ms ∷ []) = streams_joined (f ∷ []) (g ∷ []) streams (flags ns ∷ []) (flags ms ∷ []) there flagged in
    let behind = (same_lengths at f sources next).steps in
    let count : length all ≡ length groups = ap length is ∙ with_column_length item.0 groups others same in
    let fewer : length groups ≡ length ns = sym count ∙ long in
    let fit : all_fit ns all ≡ (same_lists ◌==◌ ms ns && all_fit ns others) = ap (all_fit ns) is ∙ fits_with item.0 ns groups others same fewer in
    ap (λ o. bind o (λ read. bind (same_flags_made read) (λ written. run behind (streams ++ written)))) both
    ∙ ap (λ o. bind o (λ written. run behind (streams ++ written))) (same_flags_test ns ms)
    ∙ tested_then streams behind (same_lists ◌==◌ ms ns) (all_fit ns others) (lengths_test at f streams ns sources items others next there (sym same ∙ fewer) rest)
    ∙ sym (ap (λ b. only_if b streams) fit)

pub lengths_next : (at f : ℕ) (sources : Sources) (next : ℕ) → (same_lengths at f sources next).next ≡ next
unfolding and_then
lengths_next at f [] next = refl
lengths_next at f (source ∷ sources) next = lengths_next at f sources next
