-- Items where truth values are true: filters, and the items of literals.
use Rattle.std.specs.Prelude.{◌≡◌, ℕ, suc, Bool, true, false, List, [], ◌∷◌, ◌++◌, map, length, replicate, zip, Option, Some, None, option_map, refl}
use Rattle.std.proofs.Common.{sym, ap, ◌∙◌, subst}
use Rattle.snesl_data.specs.declared.dialect.Dialect.TheVariants.{One}
use Rattle.snesl_data.specs.Types.{Ty, bool, seq}
use Rattle.snesl_data.specs.Values.{Value, an_int, a_bool, a_pair, a_vec, a_seq}
use Rattle.snesl_values.specs.Inputs.{Environment}
use Rattle.snesl_data.specs.declared.operators.scalar.Scalar.TheVariants.{Bool as Truth}
use Rattle.snesl_types.specs.Contexts.{Context}
use Rattle.flow_messages.specs.Cells.{flag, unit}
use Rattle.flow_base.specs.Columns.{Columns}
use Rattle.flow_base.specs.Flags.{flags, concatenation, lengths}
use Rattle.flow_segment.specs.Rows.{one_if}
use Rattle.flow_values.specs.Shapes.{cell_for, elements_of}
use Rattle.flow_nodes.specs.functions.Lists.{bind, each, pack, kept as kept_items}
use Rattle.flow_nodes.specs.functions.Decoded.{a_seq_of}
use Rattle.flow_nodes.proofs.OfFunctions.Options.{paired_map}
use Rattle.flow_nodes.proofs.OfFunctions.Encoded.{flag_of_bool_makes, units_of_makes}
use Rattle.flow_nodes.proofs.OfFunctions.ValueDecoding.{elements_made, groups_made, list_values}
use Rattle.snesl_evaluation.specs.Answer.{Answer, gives, faults, go}
use Rattle.snesl_evaluation.specs.Builtins.{truth_at, sequence, seq_answer, append_answer}
use Rattle.snesl_evaluation.specs.Eval.{kept as kept_answer}
use Rattle.flow_nodes.specs.plans.Plans.{const, units_of, flag_of_bool, streams_at}
use Rattle.snesl_translation.specs.Wires.{Wires, segments, stream_of, Bound}
use Rattle.snesl_translation.specs.Makings.{Making, done, and_then, stepped}
use Rattle.snesl_translation.specs.FreeNames.{Names}
use Rattle.snesl_translation.specs.Moving.{flags_stepped, kept, all_moved}
use Rattle.snesl_translation.specs.Translation.{appended, units_step, filtered, single, followed}
use Rattle.snesl_translation.specs.Carrying.{Carries, Makes, given_by, GoesTo}
use Rattle.snesl_translation.specs.Meaning.{Bears, IsTranslation}
use Rattle.snesl_translation.proofs.Carrying.{grown, then_makes, rest_stops, first_stops, stream_carries}
use Rattle.snesl_translation.proofs.Instances.{given_all, each_same, each_then, each_map, map_each, each_length, each_joined, each_lengths}
use Rattle.snesl_translation.proofs.Doing.{Does, Writes, flags_written, segments_makes}
use Rattle.snesl_translation.proofs.Forms.{two_go, borne_on, borne_left, borne_right}
use Rattle.snesl_translation.proofs.Bindings.{const_means}
use Rattle.snesl_translation.proofs.Views.{all_from, bool_from, cells_of_truths}
use Rattle.snesl_translation.proofs.Groups.{joined_length}
use Rattle.snesl_translation.proofs.Borne.{AreOpen, bears_kept}
use Rattle.snesl_translation.proofs.Operands.{firsts_of, seconds_of, both_mean}
use Rattle.snesl_translation.proofs.Appending.{append_goes}
use Rattle.snesl_translation.proofs.BuiltinMeanings.{means_same}

-- a making that goes, after one that does something
pub then_go : {A : Type 0} (first : Making A) (rest : A → ℕ → Making Wires) (streams : Columns) (First : Columns → A → Type 0) (t : Ty) (o : Option (List Value))
    → (d : Does streams first First) → GoesTo (streams ++ d.0) t (rest first.given (length (streams ++ d.0))) o → GoesTo streams t (and_then first rest) o
then_go first rest streams First t None d stops = rest_stops first streams d.0 d.1 d.2 rest stops
then_go first rest streams First t (Some vs) d makes = then_makes first streams d.0 d.1 d.2 rest t vs makes

-- the elements of groups, beside the flags of the groups
pub groups_go : {X : Type 0} (streams : Columns) (f : ℕ) (making : Making Wires) (t : Ty) (value : X → Option Value) (groups : List (List X)) →
    streams_at (f ∷ []) streams ≡ Some (flags (lengths groups) ∷ [])
    → GoesTo streams t making (each value (concatenation groups))
    → GoesTo streams (seq t) (and_then making (λ w k. done (segments f w) k)) (option_map (map a_seq_of) (each (each value) groups))
groups_go streams f making t value groups there goes = by_case (each (each value) groups) (each_joined value groups) (each_lengths value groups)
  where
    by_case : (o : Option (List (List Value))) → option_map concatenation o ≡ each value (concatenation groups) → ((all : List (List Value)) → o ≡ Some all → lengths all ≡ lengths groups)
        → GoesTo streams (seq t) (and_then making (λ w k. done (segments f w) k)) (option_map (map a_seq_of) o)
    by_case None e long = first_stops making (λ w k. done (segments f w) k) streams (subst (GoesTo streams t making) (sym e) goes)
    by_case (Some gs) e long =
        let makes : Makes streams t making (concatenation gs) = subst (GoesTo streams t making) (sym e) goes in
        let back : gs ≡ map elements_of (map a_seq_of gs) = sym (elements_made gs) in
        segments_makes streams f making t (map a_seq_of gs) (there ∙ ap (λ ns. Some (flags ns ∷ [])) (sym (long gs refl) ∙ ap (λ gs. lengths gs) back))
        (subst (λ gs. Makes streams t making (concatenation gs)) back makes) (groups_made t gs makes.3.are)

-- Instances beside which true stands

-- the instance where true stands beside it
abbrev pub chosen : {A : Type 0} → A × Bool → List A
chosen (x, true) = x ∷ []
chosen (x, false) = []

kept_chosen : {A : Type 0} (ps : List (A × Bool)) → kept_items (map (λ p. (p.1, p.0)) ps) ≡ concatenation (map chosen ps)
kept_chosen [] = refl
kept_chosen ((x, true) ∷ ps) = ap (λ l. x ∷ l) (kept_chosen ps)
kept_chosen ((x, false) ∷ ps) = kept_chosen ps

pack_chosen : {A : Type 0} (ps : List (A × Bool)) → pack (map (λ p. p.1) ps) (map (λ p. p.0) ps) ≡ Some (concatenation (map chosen ps))
pack_chosen ps = ap (option_map kept_items) (paired_map (λ p. p.1) (λ p. p.0) ps) ∙ ap Some (kept_chosen ps)

lengths_chosen : {A : Type 0} (ps : List (A × Bool)) → lengths (map chosen ps) ≡ map one_if (map (λ p. p.1) ps)
lengths_chosen [] = refl
lengths_chosen ((x, true) ∷ ps) = ap (λ ns. 1 ∷ ns) (lengths_chosen ps)
lengths_chosen ((x, false) ∷ ps) = ap (λ ns. 0 ∷ ns) (lengths_chosen ps)

-- the sequence of one value, or the empty one
abbrev pub one_or_none : Bool → Option Value → Option Value
one_or_none true o = option_map (λ v. a_seq_of (v ∷ [])) o
one_or_none false o = Some (a_seq_of [])

module _ (value : Environment → Option Value) where
  chosen_value : (p : Environment × Bool) → one_or_none p.1 (value p.0) ≡ option_map a_seq_of (each value (chosen p))
  chosen_value (x, true) = by_case (value x)
    where
      by_case : (o : Option Value) → option_map (λ v. a_seq_of (v ∷ [])) o ≡ option_map a_seq_of (bind o (λ y. option_map (λ ys. y ∷ ys) (Some [])))
      by_case None = refl
      by_case (Some v) = refl
  chosen_value (x, false) = refl

  chosen_values : (ps : List (Environment × Bool)) → each (λ p. one_or_none p.1 (value p.0)) ps ≡ option_map (map a_seq_of) (each (each value) (map chosen ps))
  chosen_values ps =
      each_same (λ p. one_or_none p.1 (value p.0)) (λ p. option_map a_seq_of (each value (chosen p))) chosen_value ps
      ∙ map_each (λ p. each value (chosen p)) a_seq_of ps ∙ ap (option_map (map a_seq_of)) (sym (each_map (each value) chosen ps))

-- Filters

module _ (context : Context) (at : ℕ) (names : Names) (t : Ty) (item : Bound → ℕ → ℕ → Making Wires) (value : Environment → Option Value)
    (usable : AreOpen names context) (means : IsTranslation item value names context t) where
  filtered_groups_go : (streams : Columns) (bound : Bound) (d : ℕ) (ps : List (Environment × Bool)) → streams_at (d ∷ []) streams ≡ Some (map flag (map (λ p. p.1) ps) ∷ [])
      → Bears streams bound names context (map (λ p. p.0) ps)
      → GoesTo streams (seq t) (filtered at names item bound d (length streams)) (option_map (map a_seq_of) (each (each value) (map chosen ps)))
  filtered_groups_go streams bound d ps truths bears =
      let ds = map (λ p. p.1) ps in
      let environments = map (λ p. p.0) ps in
      let groups = map chosen ps in
      let inner = concatenation groups in
      let ns = lengths groups in
      let o = option_map (map a_seq_of) (each (each value) groups) in
      let flagged : Writes streams (flags_stepped at flag_of_bool (d ∷ []) (length streams)) (flags ns) =
      flags_written streams at flag_of_bool (d ∷ []) (map flag ds ∷ []) (flags ns) truths (flag_of_bool_makes ds ∙ ap (λ ns. Some (flags ns ∷ [])) (sym (lengths_chosen ps))) in
      let on = streams ++ flagged.0 in
      let f = stream_of (flags_stepped at flag_of_bool (d ∷ []) (length streams)).given in
      let moved : Does on (all_moved (kept at d) names bound (length on)) (λ l given. Bears l given names context inner) =
      bears_kept at d ds names context bound environments inner on usable (grown (d ∷ []) streams flagged.0 (map flag ds ∷ []) truths) (pack_chosen ps)
      (borne_on streams flagged.0 bound names context environments bears) in
      let behind = on ++ moved.0 in
      let given = (all_moved (kept at d) names bound (length on)).given in
      let there : streams_at (f ∷ []) behind ≡ Some (flags ns ∷ []) = grown (f ∷ []) on moved.0 (flags ns ∷ []) flagged.3 in
      let units : Writes behind (units_step at f (length behind)) (replicate (length inner) unit) =
      flags_written behind at units_of (f ∷ []) (flags ns ∷ []) (replicate (length inner) unit) there
      (units_of_makes ns ∙ ap (λ n. Some (replicate n unit ∷ [])) (joined_length groups)) in
      let last = behind ++ units.0 in
      let c = stream_of (units_step at f (length behind)).given in
      let goes : GoesTo last t (item given c (length last)) (each value inner) =
      means last given c inner (borne_on behind units.0 given names context inner moved.3) units.3 in
      then_go (flags_stepped at flag_of_bool (d ∷ []) (length streams))
      (λ f k. and_then (all_moved (kept at d) names bound k)
      (λ inner k. and_then (units_step at (stream_of f) k)
      (λ control k. and_then (item inner (stream_of control) k) (λ w k. done (segments (stream_of f) w) k))))
      streams (λ l w. streams_at (stream_of w ∷ []) l ≡ Some (flags ns ∷ [])) (seq t) o flagged
      (then_go (all_moved (kept at d) names bound (length on))
      (λ inner k. and_then (units_step at f k) (λ control k. and_then (item inner (stream_of control) k) (λ w k. done (segments f w) k)))
      on (λ l given. Bears l given names context inner) (seq t) o moved
      (then_go (units_step at f (length behind)) (λ control k. and_then (item given (stream_of control) k) (λ w k. done (segments f w) k))
      behind (λ l w. streams_at (stream_of w ∷ []) l ≡ Some (replicate (length inner) unit ∷ [])) (seq t) o units
      (groups_go last f (item given c (length last)) t value groups (grown (f ∷ []) behind units.0 (flags ns ∷ []) there) goes)))

  -- an item where truth values at the instances are true, and else nothing
  pub filtered_goes : (streams : Columns) (bound : Bound) (d : ℕ) (environments : List Environment) (ds : List Bool) → length ds ≡ length environments
      → streams_at (d ∷ []) streams ≡ Some (map flag ds ∷ []) → Bears streams bound names context environments
      → GoesTo streams (seq t) (filtered at names item bound d (length streams)) (each (λ p. one_or_none p.1 (value p.0)) (zip environments ds))
  filtered_goes streams bound d environments ds long truths bears =
      let ps = zip environments ds in
      subst (GoesTo streams (seq t) (filtered at names item bound d (length streams))) (sym (chosen_values value ps))
      (filtered_groups_go streams bound d ps
      (subst (λ ds. streams_at (d ∷ []) streams ≡ Some (map flag ds ∷ [])) (sym (seconds_of environments ds (sym long))) truths)
      (subst (Bears streams bound names context) (sym (firsts_of environments ds (sym long))) bears))

-- Conditions

-- the truth values that are carried
pub truths_carried : (streams : Columns) (u : Wires) (vs : List Value) → Carries streams u bool vs
    → (ds : List Bool) × (vs ≡ map a_bool ds) × (streams_at (stream_of u ∷ []) streams ≡ Some (map flag ds ∷ []))
truths_carried streams u vs c =
    let view = all_from bool a_bool bool_from vs c.are in
    (view.0, view.1, stream_carries streams u bool vs tt c ∙ ap (λ cs. Some (cs ∷ [])) (ap (map cell_for) view.1 ∙ cells_of_truths view.0))

truths_each : {X : Type 0} (at : ℕ) (h : X → Bool → Option Value) (xs : List X) (ds : List Bool)
    → each (λ p. bind (given_by (truth_at at p.1)) (λ b. h p.0 b)) (zip xs (map a_bool ds)) ≡ each (λ p. h p.0 p.1) (zip xs ds)
truths_each at h [] ds = refl
truths_each at h (x ∷ xs) [] = refl
truths_each at h (x ∷ xs) (d ∷ ds) = ap (λ o. bind (h x d) (λ y. option_map (λ ys. y ∷ ys) o)) (truths_each at h xs ds)

truths_length : (ds : List Bool) → length (map a_bool ds) ≡ length ds
truths_length [] = refl
truths_length (d ∷ ds) = ap suc (truths_length ds)

-- what depends on a condition
pub condition_goes : (at : ℕ) (t : Ty) (making : Making Wires) (rest : Wires → ℕ → Making Wires) (one : Environment → Option Value) (h : Environment → Bool → Option Value)
    (streams : Columns) (environments : List Environment) → GoesTo streams bool making (each one environments)
    → ((more : Columns) (u : Wires) (ds : List Bool) → length ds ≡ length environments → streams_at (stream_of u ∷ []) (streams ++ more) ≡ Some (map flag ds ∷ [])
    → GoesTo (streams ++ more) t (rest u (length (streams ++ more))) (each (λ p. h p.0 p.1) (zip environments ds)))
    → GoesTo streams t (and_then making rest) (each (λ environment. bind (one environment) (λ v. bind (given_by (truth_at at v)) (λ b. h environment b))) environments)
condition_goes at t making rest one h streams environments goes later =
    let tell : Environment → Value → Option Value = λ environment v. bind (given_by (truth_at at v)) (λ b. h environment b) in
    subst (GoesTo streams t (and_then making rest)) (sym (each_then one tell environments))
    (two_go streams bool t making rest (each one environments) (λ vs. each (λ p. tell p.0 p.1) (zip environments vs)) goes
    (λ more u vs is c.
    let on = streams ++ more in
    let view = truths_carried on u vs c in
    let ds = view.0 in
    let long : length ds ≡ length environments = sym (truths_length ds) ∙ ap length (sym view.1) ∙ each_length one environments vs is in
    subst (λ vs. GoesTo on t (rest u (length on)) (each (λ p. tell p.0 p.1) (zip environments vs))) (sym view.1)
    (subst (GoesTo on t (rest u (length on))) (sym (truths_each at h environments ds)) (later more u ds long view.2))))

kept_value : (c : Bool) (b : Answer Value) → one_or_none c (given_by b) ≡ given_by (seq_answer (kept_answer c b))
kept_value true (gives v) = refl
kept_value true (faults kind place) = refl
kept_value false b = refl

filter_value : (at : ℕ) (a b : Answer Value)
    → bind (given_by a) (λ v. bind (given_by (truth_at at v)) (λ c. one_or_none c (given_by b))) ≡ given_by (go a (λ v. go (truth_at at v) (λ c. seq_answer (kept_answer c b))))
filter_value at (faults kind place) b = refl
filter_value at (gives (a_bool c)) b = kept_value c b
filter_value at (gives (an_int n)) b = refl
filter_value at (gives (a_pair v w)) b = refl
filter_value at (gives (a_vec vs)) b = refl
filter_value at (gives (a_seq vs)) b = refl

module _ (context : Context) (at : ℕ) (t : Ty) where
  -- an item where a condition is true, and else nothing
  pub filter_means : (names others : Names) (condition item : Bound → ℕ → ℕ → Making Wires) (one other : Environment → Answer Value) → AreOpen others context
      → IsTranslation condition (λ environment. given_by (one environment)) names context bool → IsTranslation item (λ environment. given_by (other environment)) others context t
      → IsTranslation (λ bound control next. and_then (condition bound control next) (λ d k. filtered at others item bound (stream_of d) k))
      (λ environment. given_by (go (one environment) (λ v. go (truth_at at v) (λ b. seq_answer (kept_answer b (other environment)))))) (names ++ others) context (seq t)
  filter_means names others condition item one other usable h g =
      let translated : Bound → ℕ → ℕ → Making Wires = λ bound control next. and_then (condition bound control next) (λ d k. filtered at others item bound (stream_of d) k) in
      let told : Environment → Option Value = λ environment. bind (given_by (one environment)) (λ v. bind (given_by (truth_at at v)) (λ b. one_or_none b (given_by (other environment)))) in
      let means : IsTranslation translated told (names ++ others) context (seq t) = λ streams bound control environments bears controls.
      condition_goes at (seq t) (condition bound control (length streams)) (λ d k. filtered at others item bound (stream_of d) k)
      (λ environment. given_by (one environment)) (λ environment b. one_or_none b (given_by (other environment))) streams environments
      (h streams bound control environments (borne_left streams bound names others context environments bears) controls)
      (λ more u ds long truths.
      filtered_goes context at others t item (λ environment. given_by (other environment)) usable g (streams ++ more) bound (stream_of u) environments ds long truths
      (borne_on streams more bound others context environments (borne_right streams bound names others context environments bears))) in
      means_same context (seq t) (names ++ others) translated told (λ environment. given_by (go (one environment) (λ v. go (truth_at at v) (λ b. seq_answer (kept_answer b (other environment))))))
      (λ environment. filter_value at (one environment) (other environment)) means

  -- Literals

  -- the sequence of one item
  pub single_means : (names : Names) (item : Bound → ℕ → ℕ → Making Wires) (one : Environment → Answer Value) → AreOpen names context
      → IsTranslation item (λ environment. given_by (one environment)) names context t
      → IsTranslation (single at names item) (λ environment. given_by (seq_answer (go (one environment) (λ v. gives (v ∷ []))))) names context (seq t)
  single_means names item one usable h =
      filter_means [] names (λ bound control next. stepped at (const (Truth true)) (control ∷ []) bool next) item (λ environment. gives (a_bool true))
      one usable (const_means context at (Truth true)) h

  appended_value : (before : Answer (List Value)) (one : Answer Value)
      → bind (given_by (seq_answer before)) (λ a. bind (given_by (seq_answer (go one (λ v. gives (v ∷ []))))) (λ b. given_by (append_answer at a b)))
      ≡ given_by (seq_answer (go before (λ vs. go one (λ v. gives (vs ++ v ∷ [])))))
  appended_value (faults kind place) one = refl
  appended_value (gives vs) (faults kind place) = refl
  appended_value (gives vs) (gives v) = ap (λ l. Some (sequence (l ++ v ∷ []))) (list_values vs)

  append_goes_to : (streams : Columns) (u v : Wires) (ps : List (Value × Value)) → Carries streams u (seq t) (map (λ p. p.0) ps) → Carries streams v (seq t) (map (λ p. p.1) ps)
      → GoesTo streams (seq t) (appended at u v (length streams)) (each (λ p. given_by (append_answer at p.0 p.1)) ps)
  append_goes_to streams u v ps c d =
      subst (GoesTo streams (seq t) (appended at u v (length streams))) (given_all (λ p. append_answer at p.0 p.1) ps) (append_goes One at streams u v t ps c d)

  -- that of a sequence and of one item after it
  pub followed_means : (names others : Names) (before item : Bound → ℕ → ℕ → Making Wires) (sequences : Environment → Answer (List Value)) (one : Environment → Answer Value)
      → AreOpen others context → IsTranslation before (λ environment. given_by (seq_answer (sequences environment))) names context (seq t) →
      IsTranslation item (λ environment. given_by (one environment)) others context t
      → IsTranslation (followed at before others item)
      (λ environment. given_by (seq_answer (go (sequences environment) (λ vs. go (one environment) (λ v. gives (vs ++ v ∷ [])))))) (names ++ others) context (seq t)
  followed_means names others before item sequences one usable h g =
      let first : Environment → Option Value = λ environment. given_by (seq_answer (sequences environment)) in
      let second : Environment → Option Value = λ environment. given_by (seq_answer (go (one environment) (λ v. gives (v ∷ [])))) in
      means_same context (seq t) (names ++ others) (followed at before others item) (λ environment. bind (first environment) (λ a. bind (second environment) (λ b. given_by (append_answer at a b))))
      (λ environment. given_by (seq_answer (go (sequences environment) (λ vs. go (one environment) (λ v. gives (vs ++ v ∷ []))))))
      (λ environment. appended_value (sequences environment) (one environment))
      (both_mean context (seq t) (seq t) (seq t) names others before (single at others item) (λ u v k. appended at u v k) first second (λ a b. given_by (append_answer at a b))
      h (single_means others item one usable g) append_goes_to)
