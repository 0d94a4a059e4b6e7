-- Choices: of two filters, by a condition and by its opposite, just one has an item at each instance.
use Rattle.std.specs.Prelude.{◌≡◌, ℕ, suc, Bool, true, false, not, if◌then◌else◌, List, [], ◌∷◌, ◌++◌, map, length, replicate, zip, Option, Some, None, option_map, refl}
use Rattle.std.specs.Result.{result_ok}
use Rattle.std.proofs.Common.{sym, ap, ◌∙◌, subst, append-nil}
use Rattle.std.proofs.Math.Path.{ap₂}
use Rattle.snesl_data.specs.declared.dialect.Dialect.{Dialect}
use Rattle.snesl_data.specs.Types.{Ty, bool, seq}
use Rattle.snesl_data.specs.Values.{Value, an_int, a_bool, a_pair, a_vec, a_seq}
use Rattle.snesl_values.specs.Inputs.{Environment}
use Rattle.snesl_data.specs.operators.Operators.{unary_value}
use Rattle.snesl_data.specs.declared.operators.scalar.Scalar.TheVariants.{Bool as Truth}
use Rattle.snesl_data.specs.declared.operators.operator.UnaryOperator.TheVariants as unaries
use Rattle.snesl_grammar.specs.declared.tree.operator.Prefix.TheVariants.{Not}
use Rattle.snesl_grammar.specs.tree.Tree.{Tree, choice}
use Rattle.snesl_types.specs.Contexts.{Context}
use Rattle.flow_messages.specs.Cells.{flag}
use Rattle.flow_base.specs.Columns.{Columns}
use Rattle.flow_base.specs.Flags.{flags, concatenation, lengths}
use Rattle.flow_values.specs.Shapes.{elements_of}
use Rattle.flow_nodes.specs.functions.Lists.{bind, each}
use Rattle.flow_nodes.specs.functions.Decoded.{a_seq_of}
use Rattle.flow_nodes.specs.functions.Made.{one, scalar_cells, unary_made}
use Rattle.flow_nodes.proofs.OfFunctions.Options.{bind_gives, map_gives, some_same}
use Rattle.flow_nodes.proofs.OfFunctions.Encoded.{unary_makes, the_check_makes}
use Rattle.flow_nodes.proofs.OfFunctions.ValueDecoding.{elements_made}
use Rattle.snesl_evaluation.specs.Answer.{Answer, gives, faults, go}
use Rattle.snesl_evaluation.specs.Builtins.{truth_at}
use Rattle.snesl_evaluation.specs.Eval.{Calls, eval}
use Rattle.flow_nodes.specs.plans.Plans.{unary, the_check, streams_at, run}
use Rattle.snesl_translation.specs.Wires.{Wires, stream_of, item_wires, Bound}
use Rattle.snesl_translation.specs.Makings.{Making, and_then, tested}
use Rattle.snesl_translation.specs.FreeNames.{Names, free}
use Rattle.snesl_translation.specs.Translation.{Bodies, appended, filtered, prefix_streams, tr}
use Rattle.snesl_translation.specs.Carrying.{Carries, Makes, given_by, GoesTo}
use Rattle.snesl_translation.specs.Meaning.{Bears, IsTranslation}
use Rattle.snesl_translation.proofs.Carrying.{grown, carried_on, tested_runs, then_makes, flags_carry, items_carry}
use Rattle.snesl_translation.proofs.Instances.{each_same, each_two}
use Rattle.snesl_translation.proofs.Doing.{Writes, flags_written}
use Rattle.snesl_translation.proofs.Forms.{two_go, borne_on, borne_left, borne_right}
use Rattle.snesl_translation.proofs.Borne.{AreOpen}
use Rattle.snesl_translation.proofs.Appending.{both_sides, left_sequences, right_sequences, all_sequences, appended_makes}
use Rattle.snesl_translation.proofs.BuiltinMeanings.{means_same, TreeMeans}
use Rattle.snesl_translation.proofs.Filters.{then_go, one_or_none, filtered_goes, condition_goes}

-- The opposite of truth values

opposites_cells : (ds : List Bool) → scalar_cells (map Truth ds) ≡ map flag ds
opposites_cells [] = refl
opposites_cells (d ∷ ds) = ap (λ l. flag d ∷ l) (opposites_cells ds)

module _ (dialect : Dialect) where
  all_opposite : (ds : List Bool) → each (λ k. result_ok (unary_value dialect unaries.Not k)) (map Truth ds) ≡ Some (map Truth (map not ds))
  all_opposite [] = refl
  all_opposite (d ∷ ds) = ap (option_map (λ ys. Truth (not d) ∷ ys)) (all_opposite ds)

  opposites_make : (ds : List Bool) → unary_made dialect unaries.Not (map flag ds ∷ []) ≡ Some (map flag (map not ds) ∷ [])
  opposites_make ds =
      ap (λ cs. unary_made dialect unaries.Not (cs ∷ [])) (sym (opposites_cells ds)) ∙ unary_makes dialect unaries.Not (map Truth ds)
      ∙ ap (one scalar_cells) (all_opposite ds) ∙ ap (λ cs. Some (cs ∷ [])) (opposites_cells (map not ds))

opposites_each : {X : Type 0} (h : X → Bool → Option Value) (xs : List X) (ds : List Bool) → each (λ p. h p.0 p.1) (zip xs (map not ds)) ≡ each (λ p. h p.0 (not p.1)) (zip xs ds)
opposites_each h [] ds = refl
opposites_each h (x ∷ xs) [] = refl
opposites_each h (x ∷ xs) (d ∷ ds) = ap (λ o. bind (h x (not d)) (λ y. option_map (λ ys. y ∷ ys) o)) (opposites_each h xs ds)

opposites_length : (ds : List Bool) → length (map not ds) ≡ length ds
opposites_length [] = refl
opposites_length (d ∷ ds) = ap suc (opposites_length ds)

-- One item of two sequences

-- the value on one side
abbrev placed : Bool × Value → List Value × List Value
placed (true, v) = (v ∷ [], [])
placed (false, v) = ([], v ∷ [])

abbrev own : Bool × Value → Value
own z = z.1

-- the first item
abbrev first_item : List Value → Option Value
first_item [] = None
first_item (v ∷ vs) = Some v

-- the item of both
abbrev the_one : Value → Value → Option Value
the_one v w = first_item (elements_of v ++ elements_of w)

one_side : (b : Bool) (p n : Option Value) (u v : Value) → one_or_none b p ≡ Some u → one_or_none (not b) n ≡ Some v → (z : Bool × Value) × (u ≡ a_seq_of (placed z).0) × (v ≡ a_seq_of (placed z).1)
one_side true p n u v e f = let g = map_gives (λ v. a_seq_of (v ∷ [])) p e in ((true, g.0), g.2, sym (some_same (a_seq_of []) v f))
one_side false p n u v e f = let g = map_gives (λ v. a_seq_of (v ∷ [])) n f in ((false, g.0), sym (some_same (a_seq_of []) u e), g.2)

one_more_side : (z : Bool × Value) (zs : List (Bool × Value)) (u v : Value) (us vs before behind : List Value) → us ≡ u ∷ before → vs ≡ v ∷ behind → u
    ≡ a_seq_of (placed z).0 → v ≡ a_seq_of (placed z).1
    → before ≡ left_sequences (map placed zs) → behind ≡ right_sequences (map placed zs) → (us ≡ left_sequences (map placed (z ∷ zs))) × (vs ≡ right_sequences (map placed (z ∷ zs)))
one_more_side z zs u v us vs before behind e f is is' h g = (e ∙ ap₂ (λ u us. u ∷ us) is h, f ∙ ap₂ (λ v vs. v ∷ vs) is' g)

-- at each instance the value stands on one side
all_sides : {X : Type 0} (positive negative : X → Option Value) (ps : List (X × Bool)) (us vs : List Value)
    → each (λ p. one_or_none p.1 (positive p.0)) ps ≡ Some us → each (λ p. one_or_none (not p.1) (negative p.0)) ps ≡ Some vs
    → (zs : List (Bool × Value)) × (us ≡ left_sequences (map placed zs)) × (vs ≡ right_sequences (map placed zs))
all_sides positive negative [] us vs e f = ([], sym (some_same [] us e), sym (some_same [] vs f))
all_sides positive negative (p ∷ ps) us vs e f =
    let a = bind_gives (one_or_none p.1 (positive p.0)) (λ y. option_map (λ ys. y ∷ ys) (each (λ p. one_or_none p.1 (positive p.0)) ps)) e in
    let rest = map_gives (λ ys. a.0 ∷ ys) (each (λ p. one_or_none p.1 (positive p.0)) ps) a.2 in
    let b = bind_gives (one_or_none (not p.1) (negative p.0)) (λ y. option_map (λ ys. y ∷ ys) (each (λ p. one_or_none (not p.1) (negative p.0)) ps)) f in
    let bs = map_gives (λ ys. b.0 ∷ ys) (each (λ p. one_or_none (not p.1) (negative p.0)) ps) b.2 in
    let z = one_side p.1 (positive p.0) (negative p.0) a.0 b.0 a.1 b.1 in
    let zs = all_sides positive negative ps rest.0 bs.0 rest.1 bs.1 in
    let sides = one_more_side z.0 zs.0 a.0 b.0 us vs rest.0 bs.0 rest.2 bs.2 z.1 z.2 zs.1 zs.2 in
    (z.0 ∷ zs.0, sides.0, sides.1)

own_items : (zs : List (Bool × Value)) → each (λ q. the_one q.0 q.1) (zip (left_sequences (map placed zs)) (right_sequences (map placed zs))) ≡ Some (map own zs)
own_items [] = refl
own_items ((true, v) ∷ zs) = ap (option_map (λ ys. v ∷ ys)) (own_items zs)
own_items ((false, v) ∷ zs) = ap (option_map (λ ys. v ∷ ys)) (own_items zs)

own_lengths : (zs : List (Bool × Value)) → lengths (map both_sides (map placed zs)) ≡ replicate (length zs) 1
own_lengths [] = refl
own_lengths ((true, v) ∷ zs) = ap (λ ns. 1 ∷ ns) (own_lengths zs)
own_lengths ((false, v) ∷ zs) = ap (λ ns. 1 ∷ ns) (own_lengths zs)

own_joined : (zs : List (Bool × Value)) → concatenation (map both_sides (map placed zs)) ≡ map own zs
own_joined [] = refl
own_joined ((true, v) ∷ zs) = ap (λ l. v ∷ l) (own_joined zs)
own_joined ((false, v) ∷ zs) = ap (λ l. v ∷ l) (own_joined zs)

-- of two sequences, one followed by the other, the one item
module _ (at : ℕ) (t : Ty) where
  abbrev taken : Wires → ℕ → Making Wires
  taken w k = tested at the_check (stream_of w ∷ []) (item_wires w) k

  one_taken : (streams : Columns) (u v : Wires) (zs : List (Bool × Value)) → Carries streams u (seq t) (left_sequences (map placed zs)) → Carries streams v (seq t) (right_sequences (map placed zs))
      → Makes streams t (and_then (appended at u v (length streams)) (λ w k. tested at the_check (stream_of w ∷ []) (item_wires w) k)) (map own zs)
  one_taken streams u v zs c d =
      let xs = map placed zs in
      let making = appended at u v (length streams) in
      let makes : Makes streams (seq t) making (all_sequences xs) = appended_makes at streams u v t xs c d in
      let on = streams ++ makes.0 in
      let w = making.given in
      let carried : Carries on w (seq t) (all_sequences xs) = makes.3 in
      let there : streams_at (stream_of w ∷ []) on ≡ Some (flags (replicate (length zs) 1) ∷ []) =
      flags_carry on w t (all_sequences xs) carried ∙ ap (λ gs. Some (flags (lengths gs) ∷ [])) (elements_made (map both_sides xs)) ∙ ap (λ ns. Some (flags ns ∷ [])) (own_lengths zs) in
      let items : Carries on (item_wires w) t (map own zs) =
      subst (Carries on (item_wires w) t) (ap (λ gs. concatenation gs) (elements_made (map both_sides xs)) ∙ own_joined zs) (items_carry on w t (all_sequences xs) carried) in
      let ran : run (taken w (length on)).steps on ≡ Some (on ++ []) =
      tested_runs on at the_check (stream_of w ∷ []) (item_wires w) (length on) (flags (replicate (length zs) 1) ∷ []) there (the_check_makes (length zs)) in
      let last : Makes on t (taken w (length on)) (map own zs) = ([], ran, ap length (sym (append-nil on)), carried_on on [] (item_wires w) t (map own zs) items) in
      then_makes making streams makes.0 makes.1 makes.2 taken t (map own zs) last

-- Choices

chosen_one : (b : Bool) (p n : Option Value) → (if b then p else n) ≡ bind (one_or_none b p) (λ u. bind (one_or_none (not b) n) (λ v. the_one u v))
chosen_one true (Some v) n = refl
chosen_one true None n = refl
chosen_one false p (Some v) = refl
chosen_one false p None = refl

choice_value : (at : ℕ) (a b c : Answer Value)
    → bind (given_by a) (λ v. bind (given_by (truth_at at v)) (λ d. if d then given_by b else given_by c)) ≡ given_by (go a (λ v. go (truth_at at v) (λ d. if d then b else c)))
choice_value at (faults kind place) b c = refl
choice_value at (gives (a_bool true)) b c = refl
choice_value at (gives (a_bool false)) b c = refl
choice_value at (gives (an_int n)) b c = refl
choice_value at (gives (a_pair v w)) b c = refl
choice_value at (gives (a_vec vs)) b c = refl
choice_value at (gives (a_seq vs)) b c = refl

module _ (dialect : Dialect) (at : ℕ) (names others : Names) (positive negative : Bound → ℕ → ℕ → Making Wires) where
  -- the steps after the first filter
  abbrev negated : Bound → Wires → Wires → ℕ → Making Wires
  negated bound d u k =
      and_then (prefix_streams dialect at Not d k) (λ e k.
      and_then (filtered at others negative bound (stream_of e) k) (λ v k.
      and_then (appended at u v k) (λ w k. tested at the_check (stream_of w ∷ []) (item_wires w) k)))

  -- the steps after the condition
  abbrev both_filters : Bound → Wires → ℕ → Making Wires
  both_filters bound d k = and_then (filtered at names positive bound (stream_of d) k) (λ u k. negated bound d u k)

  branches_go : (context : Context) (t : Ty) (one other : Environment → Option Value) → AreOpen names context → AreOpen others context →
      IsTranslation positive one names context t → IsTranslation negative other others context t
      → (streams : Columns) (bound : Bound) (d : Wires) (environments : List Environment) (ds : List Bool) → length ds ≡ length environments
      → streams_at (stream_of d ∷ []) streams ≡ Some (map flag ds ∷ []) → Bears streams bound names context environments → Bears streams bound others context environments
      → GoesTo streams t (both_filters bound d (length streams)) (each (λ p. if p.1 then one p.0 else other p.0) (zip environments ds))
  branches_go context t one other usable usable' h g streams bound d environments ds long truths bears bears' =
      let ps = zip environments ds in
      let first : Environment × Bool → Option Value = λ p. one_or_none p.1 (one p.0) in
      let second : Environment × Bool → Option Value = λ p. one_or_none (not p.1) (other p.0) in
      let told : Environment × Bool → Option Value = λ p. if p.1 then one p.0 else other p.0 in
      let same : each told ps ≡ bind (each first ps) (λ us. bind (each second ps) (λ vs. each (λ q. the_one q.0 q.1) (zip us vs))) =
      each_same told (λ p. bind (first p) (λ u. bind (second p) (λ v. the_one u v))) (λ p. chosen_one p.1 (one p.0) (other p.0)) ps ∙ each_two first second the_one ps in
      subst (GoesTo streams t (both_filters bound d (length streams))) (sym same)
      (two_go streams (seq t) t (filtered at names positive bound (stream_of d) (length streams)) (λ u k. negated bound d u k) (each first ps)
      (λ us. bind (each second ps) (λ vs. each (λ q. the_one q.0 q.1) (zip us vs)))
      (filtered_goes context at names t positive one usable h streams bound (stream_of d) environments ds long truths bears)
      (λ more u us is cu.
      let on = streams ++ more in
      let there : streams_at (stream_of d ∷ []) on ≡ Some (map flag ds ∷ []) = grown (stream_of d ∷ []) streams more (map flag ds ∷ []) truths in
      let opposite : Writes on (prefix_streams dialect at Not d (length on)) (map flag (map not ds)) =
      flags_written on at (unary dialect unaries.Not) (stream_of d ∷ []) (map flag ds ∷ []) (map flag (map not ds)) there (opposites_make dialect ds) in
      let e = (prefix_streams dialect at Not d (length on)).given in
      let behind = on ++ opposite.0 in
      let borne : Bears behind bound others context environments =
      borne_on on opposite.0 bound others context environments (borne_on streams more bound others context environments bears') in
      let after : List Value → Option (List Value) = λ vs. each (λ q. the_one q.0 q.1) (zip us vs) in
      let ending : Wires → ℕ → Making Wires = λ v k. and_then (appended at u v k) (λ w k. tested at the_check (stream_of w ∷ []) (item_wires w) k) in
      then_go (prefix_streams dialect at Not d (length on)) (λ e k. and_then (filtered at others negative bound (stream_of e) k) ending)
      on (λ l w. streams_at (stream_of w ∷ []) l ≡ Some (map flag (map not ds) ∷ [])) t (bind (each second ps) after) opposite
      (two_go behind (seq t) t (filtered at others negative bound (stream_of e) (length behind)) ending (each second ps) after
      (subst (GoesTo behind (seq t) (filtered at others negative bound (stream_of e) (length behind))) (opposites_each (λ environment b. one_or_none b (other environment)) environments ds)
      (filtered_goes context at others t negative other usable' g behind bound (stream_of e) environments (map not ds) (opposites_length ds ∙ long) opposite.3 borne))
      (λ later v vs is' cv.
      let last = behind ++ later in
      let sides = all_sides one other ps us vs is is' in
      let zs = sides.0 in
      let cu' : Carries last u (seq t) (left_sequences (map placed zs)) =
      subst (Carries last u (seq t)) sides.1 (carried_on behind later u (seq t) us (carried_on on opposite.0 u (seq t) us cu)) in
      let cv' : Carries last v (seq t) (right_sequences (map placed zs)) = subst (Carries last v (seq t)) sides.2 cv in
      let items : each (λ q. the_one q.0 q.1) (zip us vs) ≡ Some (map own zs) = ap₂ (λ us vs. each (λ q. the_one q.0 q.1) (zip us vs)) sides.1 sides.2 ∙ own_items zs in
      subst (GoesTo last t (ending v (length last))) (sym items) (one_taken at t last u v zs cu' cv')))))

-- the branch that the condition chooses
pub choice_means : (dialect : Dialect) (context : Context) (at : ℕ) (t : Ty) (conditions names others : Names)
    (condition positive negative : Bound → ℕ → ℕ → Making Wires) (test one other : Environment → Answer Value)
    → AreOpen names context → AreOpen others context
    → IsTranslation condition (λ environment. given_by (test environment)) conditions context bool
    → IsTranslation positive (λ environment. given_by (one environment)) names context t → IsTranslation negative (λ environment. given_by (other environment)) others context t
    → IsTranslation (λ bound control next.
    and_then (condition bound control next) (λ d k.
    and_then (filtered at names positive bound (stream_of d) k) (λ u k.
    and_then (prefix_streams dialect at Not d k) (λ e k.
    and_then (filtered at others negative bound (stream_of e) k) (λ v k.
    and_then (appended at u v k) (λ w k. tested at the_check (stream_of w ∷ []) (item_wires w) k))))))
    (λ environment. given_by (go (test environment) (λ v. go (truth_at at v) (λ b. if b then one environment else other environment)))) (conditions ++ (names ++ others)) context t
choice_means dialect context at t conditions names others condition positive negative test one other usable usable' c h g =
    let yes : Environment → Option Value = λ environment. given_by (one environment) in
    let no : Environment → Option Value = λ environment. given_by (other environment) in
    let behind : Bound → Wires → ℕ → Making Wires = λ bound d k. both_filters dialect at names others positive negative bound d k in
    let translated : Bound → ℕ → ℕ → Making Wires = λ bound control next. and_then (condition bound control next) (λ d k. behind bound d k) in
    let told : Environment → Option Value = λ environment. bind (given_by (test environment)) (λ v. bind (given_by (truth_at at v)) (λ b. if b then yes environment else no environment)) in
    let means : IsTranslation translated told (conditions ++ (names ++ others)) context t = λ streams bound control environments bears controls.
    let branches = borne_right streams bound conditions (names ++ others) context environments bears in
    condition_goes at t (condition bound control (length streams)) (λ d k. behind bound d k)
    (λ environment. given_by (test environment)) (λ environment b. if b then yes environment else no environment) streams environments
    (c streams bound control environments (borne_left streams bound conditions (names ++ others) context environments bears) controls)
    (λ more u ds long truths.
    branches_go dialect at names others positive negative context t yes no usable usable' h g (streams ++ more) bound u environments ds long truths
    (borne_on streams more bound names context environments (borne_left streams bound names others context environments branches))
    (borne_on streams more bound others context environments (borne_right streams bound names others context environments branches))) in
    means_same context t (conditions ++ (names ++ others)) translated told
    (λ environment. given_by (go (test environment) (λ v. go (truth_at at v) (λ b. if b then one environment else other environment))))
    (λ environment. choice_value at (test environment) (one environment) (other environment)) means

pub choice_tree_means : (dialect : Dialect) (text : List ℕ) (calls : Calls) (bodies : Bodies) (context : Context) (at : ℕ) (condition positive negative : Tree) (t : Ty)
    → AreOpen (free text positive) context → AreOpen (free text negative) context
    → TreeMeans dialect text calls bodies context condition bool → TreeMeans dialect text calls bodies context positive t → TreeMeans dialect text calls bodies context negative t
    → TreeMeans dialect text calls bodies context (choice at condition positive negative) t
choice_tree_means dialect text calls bodies context at condition positive negative t usable usable' c h g =
    choice_means dialect context at t (free text condition) (free text positive) (free text negative) (tr dialect text bodies condition)
    (tr dialect text bodies positive) (tr dialect text bodies negative)
    (λ environment. eval dialect condition text calls environment) (λ environment. eval dialect positive text calls environment)
    (λ environment. eval dialect negative text calls environment) usable usable' c h g
