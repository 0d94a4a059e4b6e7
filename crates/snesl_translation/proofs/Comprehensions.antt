-- Comprehensions: the body at each row of each instance, all at once.
use Rattle.std.specs.Prelude.{◌≡◌, ℕ, suc, Bool, true, false, ◌&&◌, ◌==◌, List, [], ◌∷◌, ◌++◌, map, length, sum, replicate, zip, Option, Some, None, option_map, cond, refl}
use Rattle.std.specs.Str.{bytes_eq}
use Rattle.std.proofs.Common.{sym, ap, ◌∙◌, subst, append-nil, append_assoc}
use Rattle.std.proofs.lemmas.Bool.{and_parts}
use Rattle.snesl_data.specs.declared.dialect.Dialect.{Dialect}
use Rattle.snesl_data.specs.Types.{Ty, seq}
use Rattle.snesl_data.specs.Values.{Value}
use Rattle.snesl_values.specs.Inputs.{InputDeclaration, Environment}
use Rattle.snesl_grammar.specs.declared.tree.operator.Builtin.TheVariants.{Concat}
use Rattle.snesl_evaluation.specs.Answer.{gives, go_all}
use Rattle.snesl_evaluation.specs.Builtins.{applied}
use Rattle.snesl_evaluation.specs.Eval.{BoundItems, height, in_step as rows_in_step}
use Rattle.snesl_types.specs.Contexts.{open_to, Context, names_context, found, inside}
use Rattle.flow_messages.specs.Cells.{unit}
use Rattle.flow_base.specs.Columns.{Columns}
use Rattle.flow_base.specs.Flags.{flags, concatenation, lengths}
use Rattle.flow_values.specs.Shapes.{elements_of}
use Rattle.flow_nodes.specs.functions.Lists.{bind, only_if, each, same_lists, copied}
use Rattle.flow_nodes.specs.functions.Decoded.{a_seq_of}
use Rattle.flow_nodes.proofs.OfFunctions.Options.{map_map, map_joined}
use Rattle.flow_nodes.proofs.OfFunctions.FlagRows.{same_numbers, same_numbers_back}
use Rattle.flow_nodes.proofs.OfFunctions.Encoded.{units_of_makes}
use Rattle.flow_nodes.proofs.OfFunctions.ValueDecoding.{elements_made, groups_made}
use Rattle.flow_nodes.specs.plans.Plans.{units_of, streams_at, run}
use Rattle.snesl_translation.specs.Wires.{Wires, segments, stream_of, item_wires, Bound}
use Rattle.snesl_translation.specs.Makings.{Making, done, and_then}
use Rattle.snesl_translation.specs.FreeNames.{Names, is_among, without}
use Rattle.snesl_translation.specs.Moving.{distributed, all_moved}
use Rattle.snesl_translation.specs.Translation.{Sources, units_step, first_flags, in_step, items_bound, concatenated}
use Rattle.snesl_translation.specs.Carrying.{Carries, Controls, Makes, given_by, GoesTo, Goes}
use Rattle.snesl_translation.specs.Meaning.{Bears, IsTranslation}
use Rattle.snesl_translation.specs.Sources.{without_items}
use Rattle.snesl_translation.proofs.SourceMeanings.{SourcesCarry, SourcesMean}
use Rattle.snesl_translation.proofs.Running.{bind_bind, bind_same}
use Rattle.snesl_translation.proofs.Carrying.{grown, flags_carry, items_carry, first_stops, rest_stops}
use Rattle.snesl_translation.proofs.Doing.{Does, Writes, then_does, flags_written, segments_makes}
use Rattle.snesl_translation.proofs.Instances.{each_same, each_then, each_map, map_each, each_length, each_joined, each_lengths}
use Rattle.snesl_translation.proofs.Operands.{each_after}
use Rattle.snesl_translation.proofs.Forms.{borne_on, borne_left, borne_right}
use Rattle.snesl_translation.proofs.Bindings.{with_name, borne_with}
use Rattle.snesl_translation.proofs.BoundMoved.{stay_among, stay_other}
use Rattle.snesl_translation.proofs.Borne.{AreOpen, bears_distributed}
use Rattle.snesl_translation.proofs.Grouping.{grouped_carry}
use Rattle.snesl_translation.proofs.Twins.{go_all_gives}
use Rattle.snesl_translation.proofs.Groups.{joined_length, lengths_inside, concat_gives, concat_goes}
use Rattle.snesl_translation.proofs.Rows.{all_fit, rows_each, inner_instances, all_in_step, heights_with, with_column_length, fits_with, fit_length}
use Rattle.snesl_translation.proofs.Rows.{inner_lengths, plain_instances, dist_zip, instances_with}
use Rattle.snesl_translation.proofs.Binders.{sources_on, sources_go, lengths_test, lengths_next}

-- names

without_swapped : (a b : List ℕ) (names : Names) → without a (without b names) ≡ without b (without a names)
without_swapped a b [] = refl
without_swapped a b (n ∷ names) = by_test (bytes_eq a n) (bytes_eq b n) refl refl (without_swapped a b names)
  where
    by_test : (c d : Bool) → bytes_eq a n ≡ c → bytes_eq b n ≡ d → without a (without b names) ≡ without b (without a names)
        → without a (cond d (without b names) (n ∷ without b names)) ≡ without b (cond c (without a names) (n ∷ without a names))
    by_test true true e f same = same
    by_test true false e f same = ap (λ c. cond c (without a (without b names)) (n ∷ without a (without b names))) e ∙ same
    by_test false true e f same = same ∙ sym (ap (λ d. cond d (without b (without a names)) (n ∷ without b (without a names))) f)
    by_test false false e f same =
        ap (λ c. cond c (without a (without b names)) (n ∷ without a (without b names))) e ∙ ap (λ l. n ∷ l) same
        ∙ sym (ap (λ d. cond d (without b (without a names)) (n ∷ without b (without a names))) f)

without_last : (items : List InputDeclaration) (name : List ℕ) (names : Names) → without name (without_items items names) ≡ without_items items (without name names)
without_last [] name names = refl
without_last (item ∷ items) name names = without_swapped name item.0 (without_items items names) ∙ ap (without item.0) (without_last items name names)

-- a name that is left is none of the items'
among_after : (items : List InputDeclaration) (names : Names) (context : Context) (bytes : List ℕ) → is_among bytes (without_items items names) ≡ true
    → (is_among bytes names ≡ true) × (found bytes (names_context items ++ context) ≡ found bytes context)
among_after [] names context bytes among = (among, refl)
among_after (item ∷ items) names context bytes among =
    let rest = among_after items names context bytes (stay_among bytes item.0 (without_items items names) among) in
    (rest.0, ap (λ b. cond b (Some (open_to item.1)) (found bytes (names_context items ++ context))) (stay_other bytes item.0 (without_items items names) among) ∙ rest.1)

pub open_after : (items : List InputDeclaration) (names : Names) (context : Context) → AreOpen names (names_context items ++ context) → AreOpen (without_items items names) context
open_after items names context usable bytes among =
    let p = among_after items names context bytes among in
    let o = usable bytes p.0 in
    (o.0, sym p.1 ∙ o.1)

-- the names inside

items_borne : (streams : Columns) (given : Bound) (context : Context) (ns : List ℕ) (environments : List Environment) → length ns ≡ length environments
    → (sources : Sources) (items : List InputDeclaration) (names : Names) (all : List BoundItems) → SourcesCarry streams sources items all → all_fit ns all ≡ true
    → Bears streams given (without_items items names) context (copied (zip ns environments))
    → Bears streams (items_bound sources ++ given) names (names_context items ++ context) (concatenation (inner_instances ns all environments))
items_borne streams given context ns environments long [] [] names all c fit bears =
    subst (Bears streams given names context) (sym (plain_instances ns all environments c (fit_length ns all fit) long)) bears
items_borne streams given context ns environments long [] (item ∷ items) names all c fit bears = absurd c
items_borne streams given context ns environments long (source ∷ sources) [] names all c fit bears = absurd c
items_borne streams given context ns environments long (source ∷ sources) (item ∷ items) names all (groups, others, is, same, named, c, rest) fit bears =
    let count : length all ≡ length groups = ap length is ∙ with_column_length item.0 groups others same in
    let fewer : length groups ≡ length ns = sym count ∙ sym (fit_length ns all fit) in
    let both = and_parts (same_lists ◌==◌ (lengths groups) ns) (all_fit ns others) (sym (fits_with item.0 ns groups others same fewer) ∙ ap (all_fit ns) (sym is) ∙ fit) in
    let high : lengths groups ≡ ns = same_numbers_back (lengths groups) ns both.0 in
    let inner = concatenation (inner_instances ns others environments) in
    let within : Bears streams (items_bound sources ++ given) (without item.0 names) (names_context items ++ context) inner =
    items_borne streams given context ns environments long sources items (without item.0 names) others rest both.1
    (subst (λ l. Bears streams given l context (copied (zip ns environments))) (without_last items item.0 names) bears) in
    let counted : length (concatenation groups) ≡ length inner =
    sym (joined_length groups) ∙ ap sum (high ∙ sym (inner_lengths ns others environments both.1 long)) ∙ joined_length (inner_instances ns others environments) in
    let values : Carries streams (item_wires source.1) item.1 (concatenation groups) =
    subst (λ gs. Carries streams (item_wires source.1) item.1 (concatenation gs)) (elements_made groups) (items_carry streams source.1 item.1 (map a_seq_of groups) c) in
    let here = borne_with streams (items_bound sources ++ given) item.0 (item_wires source.1) item.1 names (names_context items ++ context) inner (concatenation groups) counted values within in
    let instances : concatenation (inner_instances ns all environments) ≡ with_name item.0 inner (concatenation groups) =
    ap (λ l. concatenation (inner_instances ns l environments)) is ∙ instances_with item.0 ns groups others environments high both.1 long in
    subst (λ name. Bears streams ((name, item_wires source.1) ∷ (items_bound sources ++ given)) names (names_context (item ∷ items) ++ context)
    (concatenation (inner_instances ns all environments))) (sym named)
    (subst (Bears streams ((item.0, item_wires source.1) ∷ (items_bound sources ++ given)) names (names_context (item ∷ items) ++ context)) (sym instances) here)

-- makings one after the other

pub does_go : {A : Type 0} (streams : Columns) (t : Ty) (first : Making A) (rest : A → ℕ → Making Wires) (First : Columns → A → Type 0) (d : Does streams first First) (o : Option (List Value))
    → GoesTo (streams ++ d.0) t (rest first.given (length (streams ++ d.0))) o → GoesTo streams t (and_then first rest) o
does_go streams t first rest First d None stops = rest_stops first streams d.0 d.1 d.2 rest stops
does_go streams t first rest First d (Some vs) does = then_does first rest streams First (λ l w. Carries l w t vs) d does

-- the body's values as sequences
body_goes : (streams : Columns) (f : ℕ) (making : Making Wires) (t : Ty) (value : Environment → Option Value) (inners : List (List Environment))
    → streams_at (f ∷ []) streams ≡ Some (flags (lengths inners) ∷ []) → GoesTo streams t making (each value (concatenation inners))
    → GoesTo streams (seq t) (and_then making (λ w k. done (segments f w) k)) (option_map (map a_seq_of) (each (each value) inners))
body_goes streams f making t value inners there goes = by_case (each (each value) inners) refl
  where
    by_case : (o : Option (List (List Value))) → each (each value) inners ≡ o → GoesTo streams (seq t) (and_then making (λ w k. done (segments f w) k)) (option_map (map a_seq_of) o)
    by_case None e =
        first_stops making (λ w k. done (segments f w) k) streams (subst (GoesTo streams t making) (sym (each_joined value inners) ∙ ap (option_map concatenation) e) goes)
    by_case (Some all) e =
        let makes : Makes streams t making (concatenation all) = subst (GoesTo streams t making) (sym (each_joined value inners) ∙ ap (option_map concatenation) e) goes in
        let same : all ≡ map elements_of (map a_seq_of all) = sym (elements_made all) in
        segments_makes streams f making t (map a_seq_of all)
        (there ∙ ap (λ ns. Some (flags ns ∷ [])) (sym (each_lengths value inners all e) ∙ ap lengths same))
        (subst (λ gs. Makes streams t making (concatenation gs)) same makes) (groups_made t all makes.3.are)

-- the values of a comprehension
module _ (place : ℕ) (columns : Environment → Option BoundItems) (inside_value : List Environment → Option Value) where
  abbrev pub at_rows : Environment → List Environment → Option Value
  at_rows environment rows = inside_value (map (λ row. row ++ environment) rows)

  -- that of an instance, by the instances inside
  abbrev pub each_value : Environment → Option Value
  each_value environment = bind (columns environment) (λ columns. bind (given_by (rows_in_step place columns)) (at_rows environment))

  abbrev at_all_rows : List Environment → List (List Environment) → Option (List Value)
  at_all_rows environments rows = each (λ p. at_rows p.0 p.1) (zip environments rows)

  each_values : (environments : List Environment)
      → each each_value environments ≡ bind (each columns environments) (λ all. bind (each (λ columns. given_by (rows_in_step place columns)) all) (at_all_rows environments))
  each_values environments =
      each_same each_value (λ environment. bind (bind (columns environment) (λ columns. given_by (rows_in_step place columns))) (at_rows environment))
      (λ environment. sym (bind_bind (columns environment) (λ columns. given_by (rows_in_step place columns)) (at_rows environment))) environments
      ∙ each_then (λ environment. bind (columns environment) (λ columns. given_by (rows_in_step place columns))) at_rows environments
      ∙ ap (λ o. bind o (at_all_rows environments)) (each_after columns (λ columns. given_by (rows_in_step place columns)) environments)
      ∙ bind_bind (each columns environments) (each (λ columns. given_by (rows_in_step place columns))) (at_all_rows environments)

  inner_values : (ns : List ℕ) (all : List BoundItems) (environments : List Environment)
      → at_all_rows environments (rows_each ns all) ≡ each inside_value (inner_instances ns all environments)
  inner_values ns all environments =
      sym (each_map inside_value (λ (p : Environment × List Environment). map (λ row. row ++ p.0) p.1) (zip environments (rows_each ns all)))

-- where streams bear the names inside, and there is a Unit for each instance inside, the steps go where there is a value for
-- the instances inside of each instance
abbrev pub GoesInside : (ℕ → Bound → (control next : ℕ) → Making Wires) → (List Environment → Option Value) → Names → Context → Ty → Type 0
GoesInside within inside_value names context t =
    (streams : Columns) (f : ℕ) (bound : Bound) (control : ℕ) (inners : List (List Environment))
    → streams_at (f ∷ []) streams ≡ Some (flags (lengths inners) ∷ []) → Bears streams bound names context (concatenation inners) → Controls streams control (length (concatenation inners))
    → GoesTo streams t (within f bound control (length streams)) (each inside_value inners)

-- whatever is made inside
module _ (context : Context) (at place : ℕ) (item : InputDeclaration) (items : List InputDeclaration) (t : Ty) (inner_names : Names) (within : ℕ → Bound → ℕ → ℕ → Making Wires)
    (columns : Environment → Option BoundItems) (inside_value : List Environment → Option Value)
    (usable : AreOpen inner_names (names_context (item ∷ items) ++ inside context)) (goes : GoesInside within inside_value inner_names (names_context (item ∷ items) ++ inside context) t) where
  -- what stands after the sources
  abbrev outer_names : Names
  outer_names = without_items (item ∷ items) inner_names

  abbrev body_making : Sources → Bound → Wires → ℕ → Making Wires
  body_making sources inner c k = within (first_flags sources) (items_bound sources ++ inner) (stream_of c) k

  abbrev units_making : Sources → Bound → ℕ → Making Wires
  units_making sources inner k = and_then (units_step at (first_flags sources) k) (λ c k. body_making sources inner c k)

  abbrev moved_making : Sources → Bound → ℕ → Making Wires
  moved_making sources bound k = and_then (all_moved (distributed at (first_flags sources)) outer_names bound k) (λ inner k. units_making sources inner k)

  abbrev after_sources : Bound → Sources → ℕ → Making Wires
  after_sources bound sources k = and_then (in_step at sources k) (λ _ k. moved_making sources bound k)

  -- where the flags of the first sequence say how often there is a row
  units_go : (streams : Columns) (sources : Sources) (inner : Bound) (ns : List ℕ) (all : List BoundItems) (environments : List Environment)
      → SourcesCarry streams sources (item ∷ items) all → all_fit ns all ≡ true → length ns ≡ length environments → streams_at (first_flags sources ∷ []) streams ≡ Some (flags ns ∷ [])
      → Bears streams inner outer_names (inside context) (copied (zip ns environments))
      → GoesTo streams t (units_making sources inner (length streams)) (each inside_value (inner_instances ns all environments))
  units_go streams sources inner ns all environments c fit long flagged bears =
      let f = first_flags sources in
      let inners = inner_instances ns all environments in
      let high : lengths inners ≡ ns = inner_lengths ns all environments fit long in
      let making = units_step at f (length streams) in
      let units : Writes streams making (replicate (sum ns) unit) =
      flags_written streams at units_of (f ∷ []) (flags ns ∷ []) (replicate (sum ns) unit) flagged (units_of_makes ns) in
      let on = streams ++ units.0 in
      let bound = items_bound sources ++ inner in
      let control = stream_of making.given in
      let controlled : Controls on control (length (concatenation inners)) =
      subst (Controls on control) (ap sum (sym high) ∙ joined_length inners) units.3 in
      let borne : Bears on bound inner_names (names_context (item ∷ items) ++ inside context) (concatenation inners) =
      items_borne on inner (inside context) ns environments long sources (item ∷ items) inner_names all (sources_on streams units.0 sources (item ∷ items) all c) fit
      (borne_on streams units.0 inner outer_names (inside context) (copied (zip ns environments)) bears) in
      let there : streams_at (f ∷ []) on ≡ Some (flags (lengths inners) ∷ []) =
      grown (f ∷ []) streams units.0 (flags ns ∷ []) flagged ∙ ap (λ ns. Some (flags ns ∷ [])) (sym high) in
      does_go streams t making (λ c k. body_making sources inner c k) (λ l w. streams_at (stream_of w ∷ []) l ≡ Some (replicate (sum ns) unit ∷ [])) units
      (each inside_value inners) (goes on f bound control inners there borne controlled)

  moved_go : (streams : Columns) (sources : Sources) (bound : Bound) (ns : List ℕ) (all : List BoundItems) (environments : List Environment)
      → SourcesCarry streams sources (item ∷ items) all → all_fit ns all ≡ true → length ns ≡ length environments → streams_at (first_flags sources ∷ []) streams ≡ Some (flags ns ∷ [])
      → Bears streams bound outer_names context environments
      → GoesTo streams t (moved_making sources bound (length streams)) (each inside_value (inner_instances ns all environments))
  moved_go streams sources bound ns all environments c fit long flagged bears =
      let f = first_flags sources in
      let inner = copied (zip ns environments) in
      let making = all_moved (distributed at f) outer_names bound (length streams) in
      let does : Does streams making (λ l given. Bears l given outer_names (inside context) inner) =
      bears_distributed at f ns outer_names context bound environments inner streams (open_after (item ∷ items) inner_names (inside context) usable) flagged (dist_zip ns environments long) bears in
      let on = streams ++ does.0 in
      does_go streams t making (λ inner k. units_making sources inner k) (λ l given. Bears l given outer_names (inside context) inner) does
      (each inside_value (inner_instances ns all environments))
      (units_go on sources making.given ns all environments (sources_on streams does.0 sources (item ∷ items) all c) fit long (grown (f ∷ []) streams does.0 (flags ns ∷ []) flagged) does.3)

  after_go : (streams : Columns) (sources : Sources) (bound : Bound) (all : List BoundItems) (environments : List Environment)
      → SourcesCarry streams sources (item ∷ items) all → length all ≡ length environments → Bears streams bound outer_names context environments
      → GoesTo streams t (after_sources bound sources (length streams))
      (bind (each (λ columns. given_by (rows_in_step place columns)) all) (at_all_rows place columns inside_value environments))
  after_go streams [] bound all environments c long bears = absurd c
  after_go streams (source ∷ sources) bound all environments (groups, others, is, same, named, c, rest) long bears = by_case (all_fit ns others) refl
    where
      ns : List ℕ
      ns = lengths groups

      f : ℕ
      f = stream_of source.1

      first : Making (Unit {0})
      first = in_step at (source ∷ sources) (length streams)

      flagged : streams_at (f ∷ []) streams ≡ Some (flags ns ∷ [])
      flagged = flags_carry streams source.1 item.1 (map a_seq_of groups) c ∙ ap (λ gs. Some (flags (lengths gs) ∷ [])) (elements_made groups)

      counts : (gs : List (List Value)) → length (lengths gs) ≡ length gs
      counts [] = refl
      counts (g ∷ gs) = ap suc (counts gs)

      carried : SourcesCarry streams (source ∷ sources) (item ∷ items) all
      carried = (groups, others, is, same, named, c, rest)

      count : length all ≡ length ns
      count = ap length is ∙ with_column_length item.0 groups others same ∙ sym (counts groups)

      fit : all_fit ns all ≡ all_fit ns others
      fit = ap (all_fit ns) is ∙ fits_with item.0 ns groups others same (sym (counts groups)) ∙ ap (λ b. b && all_fit ns others) (same_numbers ns)

      rows : each (λ columns. given_by (rows_in_step place columns)) all ≡ only_if (all_fit ns others) (rows_each ns all)
      rows = all_in_step place all ∙ ap (λ l. only_if (all_fit l all) (rows_each l all)) (ap (map height) is ∙ heights_with item.0 groups others same) ∙ ap (λ b. only_if b (rows_each ns all)) fit

      runs : run first.steps streams ≡ only_if (all_fit ns others) streams
      runs = lengths_test at f streams ns sources items others (length streams) flagged (sym same ∙ sym (counts groups)) rest

      by_case : (b : Bool) → all_fit ns others ≡ b → GoesTo streams t (after_sources bound (source ∷ sources) (length streams))
          (bind (each (λ columns. given_by (rows_in_step place columns)) all) (at_all_rows place columns inside_value environments))
      by_case false e =
          subst (GoesTo streams t (after_sources bound (source ∷ sources) (length streams)))
          (sym (ap (λ o. bind o (at_all_rows place columns inside_value environments)) (rows ∙ ap (λ b. only_if b (rows_each ns all)) e)))
          (first_stops first (λ _ k. moved_making (source ∷ sources) bound k) streams (runs ∙ ap (λ b. only_if b streams) e))
      by_case true e =
          let back = sym (append-nil streams) in
          let does : Does streams first (λ l _. Unit {0}) = ([], runs ∙ ap (λ b. only_if b streams) e ∙ ap Some back, lengths_next at f sources (length streams) ∙ ap length back, tt {0}) in
          let on = streams ++ [] in
          subst (GoesTo streams t (after_sources bound (source ∷ sources) (length streams)))
          (sym (ap (λ o. bind o (at_all_rows place columns inside_value environments)) (rows ∙ ap (λ b. only_if b (rows_each ns all)) e) ∙ inner_values place columns inside_value ns all environments))
          (does_go streams t first (λ _ k. moved_making (source ∷ sources) bound k) (λ l _. Unit {0}) does (each inside_value (inner_instances ns all environments))
          (moved_go on (source ∷ sources) bound ns all environments (sources_on streams [] (source ∷ sources) (item ∷ items) all carried) (fit ∙ e) (sym count ∙ long)
          (grown (f ∷ []) streams [] (flags ns ∷ []) flagged) (borne_on streams [] bound outer_names context environments bears)))

  pub comprehension_means : (names : Names) (sources : Bound → ℕ → ℕ → Making Sources) → SourcesMean sources columns names context (item ∷ items)
      → IsTranslation (λ bound control next. and_then (sources bound control next) (λ sources k.
      and_then (in_step at sources k) (λ _ k.
      and_then (all_moved (distributed at (first_flags sources)) (without_items (item ∷ items) inner_names) bound k) (λ inner k.
      and_then (units_step at (first_flags sources) k) (λ c k.
      within (first_flags sources) (items_bound sources ++ inner) (stream_of c) k)))))
      (each_value place columns inside_value) (names ++ without_items (item ∷ items) inner_names) context t
  comprehension_means names sources h streams bound control environments bears controls =
      let first = sources bound control (length streams) in
      subst (GoesTo streams t (and_then first (λ sources k. after_sources bound sources k))) (sym (each_values place columns inside_value environments))
      (sources_go streams (item ∷ items) t first (λ sources k. after_sources bound sources k) (each columns environments)
      (λ all. bind (each (λ columns. given_by (rows_in_step place columns)) all) (at_all_rows place columns inside_value environments))
      (h streams bound control environments (borne_left streams bound names outer_names context environments bears) controls)
      (λ more sources all is c.
      after_go (streams ++ more) sources bound all environments c (each_length columns environments all is)
      (borne_on streams more bound outer_names context environments (borne_right streams bound names outer_names context environments bears))))

-- the steps of a comprehension, whatever is made inside
abbrev pub comprehension : ℕ → Names → (Bound → (control next : ℕ) → Making Sources) → (ℕ → Bound → (control next : ℕ) → Making Wires) → Bound → (control next : ℕ) → Making Wires
comprehension at names sources within bound control next =
    and_then (sources bound control next) (λ sources k.
    and_then (in_step at sources k) (λ _ k.
    and_then (all_moved (distributed at (first_flags sources)) names bound k) (λ inner k.
    and_then (units_step at (first_flags sources) k) (λ c k.
    within (first_flags sources) (items_bound sources ++ inner) (stream_of c) k))))

-- what is inside by its rows
rows_inside : {A : Type 0} (place : ℕ) (columns : Environment → Option BoundItems) (value : Environment → Option A) (make : List A → Value) (environment : Environment)
    → each_value place columns (λ inner. option_map make (each value inner)) environment
    ≡ bind (columns environment) (λ columns. bind (given_by (rows_in_step place columns)) (λ rows. option_map make (each (λ row. value (row ++ environment)) rows)))
rows_inside place columns value make environment =
    bind_same (columns environment) (λ columns. bind (given_by (rows_in_step place columns)) (λ rows. option_map make (each value (map (λ row. row ++ environment) rows))))
    (λ columns. bind (given_by (rows_in_step place columns)) (λ rows. option_map make (each (λ row. value (row ++ environment)) rows)))
    (λ columns. bind_same (given_by (rows_in_step place columns)) (λ rows. option_map make (each value (map (λ row. row ++ environment) rows)))
    (λ rows. option_map make (each (λ row. value (row ++ environment)) rows)) (λ rows. ap (option_map make) (each_map value (λ row. row ++ environment) rows)))

-- the form without a condition
pub each_means : (context : Context) (at place : ℕ) (item : InputDeclaration) (items : List InputDeclaration) (t : Ty) (names inner_names : Names)
    (sources : Bound → ℕ → ℕ → Making Sources) (body : Bound → ℕ → ℕ → Making Wires)
    (columns : Environment → Option BoundItems) (value : Environment → Option Value)
    → AreOpen inner_names (names_context (item ∷ items) ++ inside context) → SourcesMean sources columns names context (item ∷ items)
    → IsTranslation body value inner_names (names_context (item ∷ items) ++ inside context) t
    → IsTranslation (λ bound control next. and_then (sources bound control next) (λ sources k.
    and_then (in_step at sources k) (λ _ k.
    and_then (all_moved (distributed at (first_flags sources)) (without_items (item ∷ items) inner_names) bound k) (λ inner k.
    and_then (units_step at (first_flags sources) k) (λ c k.
    and_then (body (items_bound sources ++ inner) (stream_of c) k) (λ w k. done (segments (first_flags sources) w) k))))))
    (λ environment. bind (columns environment) (λ columns. bind (given_by (rows_in_step place columns)) (λ rows. option_map a_seq_of (each (λ row. value (row ++ environment)) rows))))
    (names ++ without_items (item ∷ items) inner_names) context (seq t)
each_means context at place item items t names inner_names sources body columns value usable h means streams bound control environments bears controls =
    let inside_value : List Environment → Option Value = λ inner. option_map a_seq_of (each value inner) in
    let within : ℕ → Bound → ℕ → ℕ → Making Wires = λ f bound control k. and_then (body bound control k) (λ w k. done (segments f w) k) in
    let goes : GoesInside within inside_value inner_names (names_context (item ∷ items) ++ inside context) (seq t) = λ streams f bound control inners there bears controls.
    subst (GoesTo streams (seq t) (within f bound control (length streams))) (sym (map_each (each value) a_seq_of inners))
    (body_goes streams f (body bound control (length streams)) t value inners there (means streams bound control (concatenation inners) bears controls)) in
    subst (GoesTo streams (seq t) (comprehension at (without_items (item ∷ items) inner_names) sources within bound control (length streams)))
    (each_same (each_value place columns inside_value) _ (rows_inside place columns value a_seq_of) environments)
    (comprehension_means context at place item items (seq t) inner_names within columns inside_value usable goes names sources h streams bound control environments bears controls)

-- the form with a condition

made_in_turn : {A B C : Type 0} (first : Making A) (second : A → ℕ → Making B) (rest : B → ℕ → Making C)
    → and_then (and_then first second) rest ≡ and_then first (λ x k. and_then (second x k) rest)
unfolding and_then
made_in_turn first second rest =
    let middle = second first.given first.next in
    let last = rest middle.given middle.next in
    ap (λ steps. record { steps = steps; given = last.given; next = last.next }) (append_assoc first.steps middle.steps last.steps)

-- sequences of sequences, each as one
concats : (dialect : Dialect) (at : ℕ) (lss : List (List (List Value)))
    → go_all (λ v. applied dialect at Concat (v ∷ [])) (map (λ ls. a_seq_of (map a_seq_of ls)) lss) ≡ gives (map (λ ls. a_seq_of (concatenation ls)) lss)
concats dialect at lss = go_all_gives (λ ls. a_seq_of (map a_seq_of ls)) (λ v. applied dialect at Concat (v ∷ [])) (λ ls. a_seq_of (concatenation ls)) (concat_gives dialect at) lss

module _ (dialect : Dialect) (at : ℕ) (t : Ty) (kept_values : Environment → Option (List Value)) where
  abbrev kept_sequence : Environment → Option Value
  kept_sequence environment = option_map a_seq_of (kept_values environment)

  abbrev one_sequence : List (List Value) → Value
  one_sequence ls = a_seq_of (concatenation ls)

  -- of what is kept of each instance one sequence
  concat_inside : (streams : Columns) (f : ℕ) (making : Making Wires) (inners : List (List Environment)) → streams_at (f ∷ []) streams ≡ Some (flags (lengths inners) ∷ [])
      → GoesTo streams (seq t) making (each kept_sequence (concatenation inners))
      → GoesTo streams (seq t) (and_then making (λ w k. concatenated at (segments f w) k)) (each (λ inner. option_map one_sequence (each kept_values inner)) inners)
  concat_inside streams f making inners there goes =
      subst (GoesTo streams (seq t) (and_then making (λ w k. concatenated at (segments f w) k))) (sym (map_each (each kept_values) one_sequence inners)) (by_case (each (each kept_values) inners) refl)
    where
      sequences : each kept_sequence (concatenation inners) ≡ option_map (map a_seq_of) (option_map concatenation (each (each kept_values) inners))
      sequences = map_each kept_values a_seq_of (concatenation inners) ∙ ap (option_map (map a_seq_of)) (sym (each_joined kept_values inners))

      by_case : (o : Option (List (List (List Value)))) → each (each kept_values) inners ≡ o
          → GoesTo streams (seq t) (and_then making (λ w k. concatenated at (segments f w) k)) (option_map (map one_sequence) o)
      by_case None e =
          first_stops making (λ w k. concatenated at (segments f w) k) streams
          (subst (GoesTo streams (seq t) making) (sequences ∙ ap (λ o. option_map (map a_seq_of) (option_map concatenation o)) e) goes)
      by_case (Some lss) e =
          let makes : Makes streams (seq t) making (map a_seq_of (concatenation lss)) =
          subst (GoesTo streams (seq t) making) (sequences ∙ ap (λ o. option_map (map a_seq_of) (option_map concatenation o)) e) goes in
          let on = streams ++ makes.0 in
          let u = segments f making.given in
          let vs = map a_seq_of (map (λ ls. map a_seq_of ls) lss) in
          let counted : lengths inners ≡ lengths (map (λ ls. map a_seq_of ls) lss) = sym (each_lengths kept_values inners lss e) ∙ sym (lengths_inside a_seq_of lss) in
          let flagged : streams_at (f ∷ []) on ≡ Some (flags (lengths (map (λ ls. map a_seq_of ls) lss)) ∷ []) =
          grown (f ∷ []) streams makes.0 (flags (lengths inners) ∷ []) there ∙ ap (λ ns. Some (flags ns ∷ [])) counted in
          let carried : Carries on u (seq (seq t)) vs =
          grouped_carry on f making.given (seq t) (map (λ ls. map a_seq_of ls) lss) flagged (subst (Carries on making.given (seq t)) (map_joined a_seq_of lss) makes.3) in
          let answer : go_all (λ v. applied dialect at Concat (v ∷ [])) vs ≡ gives (map one_sequence lss) =
          ap (go_all (λ v. applied dialect at Concat (v ∷ []))) (map_map a_seq_of (λ ls. map a_seq_of ls) lss) ∙ concats dialect at lss in
          does_go streams (seq t) making (λ w k. concatenated at (segments f w) k) (λ l w. Carries l w (seq t) (map a_seq_of (concatenation lss))) makes (Some (map one_sequence lss))
          (subst (Goes on (seq t) (concatenated at u (length on))) answer (concat_goes dialect at on u t vs carried))

  pub each_where_means : (context : Context) (place : ℕ) (item : InputDeclaration) (items : List InputDeclaration) (names inner_names : Names) (sources : Bound → ℕ → ℕ → Making Sources)
      (condition : Bound → ℕ → ℕ → Making Wires) (filter : Bound → ℕ → ℕ → Making Wires) (columns : Environment → Option BoundItems)
      → AreOpen inner_names (names_context (item ∷ items) ++ inside context) → SourcesMean sources columns names context (item ∷ items)
      → IsTranslation (λ b c k. and_then (condition b c k) (λ d k. filter b (stream_of d) k)) kept_sequence inner_names (names_context (item ∷ items) ++ inside context) (seq t)
      → IsTranslation (λ bound control next. and_then (sources bound control next) (λ sources k.
      and_then (in_step at sources k) (λ _ k.
      and_then (all_moved (distributed at (first_flags sources)) (without_items (item ∷ items) inner_names) bound k) (λ inner k.
      and_then (units_step at (first_flags sources) k) (λ c k.
      and_then (condition (items_bound sources ++ inner) (stream_of c) k) (λ d k.
      and_then (filter (items_bound sources ++ inner) (stream_of d) k) (λ w k.
      concatenated at (segments (first_flags sources) w) k)))))))
      (λ environment. bind (columns environment) (λ columns. bind (given_by (rows_in_step place columns)) (λ rows. option_map one_sequence (each (λ row. kept_values (row ++ environment)) rows))))
      (names ++ without_items (item ∷ items) inner_names) context (seq t)
  each_where_means context place item items names inner_names sources condition filter columns usable h means streams bound control environments bears controls =
      let inside_value : List Environment → Option Value = λ inner. option_map one_sequence (each kept_values inner) in
      let within : ℕ → Bound → ℕ → ℕ → Making Wires = λ f bound control k.
      and_then (condition bound control k) (λ d k. and_then (filter bound (stream_of d) k) (λ w k. concatenated at (segments f w) k)) in
      let goes : GoesInside within inside_value inner_names (names_context (item ∷ items) ++ inside context) (seq t) = λ streams f bound control inners there bears controls.
      let k = length streams in
      subst (λ making. GoesTo streams (seq t) making (each inside_value inners))
      (made_in_turn (condition bound control k) (λ d k. filter bound (stream_of d) k) (λ w k. concatenated at (segments f w) k))
      (concat_inside streams f (and_then (condition bound control k) (λ d k. filter bound (stream_of d) k)) inners there (means streams bound control (concatenation inners) bears controls)) in
      subst (GoesTo streams (seq t) (comprehension at (without_items (item ∷ items) inner_names) sources within bound control (length streams)))
      (each_same (each_value place columns inside_value) _ (rows_inside place columns kept_values one_sequence) environments)
      (comprehension_means context at place item items (seq t) inner_names within columns inside_value usable goes names sources h streams bound control environments bears controls)
