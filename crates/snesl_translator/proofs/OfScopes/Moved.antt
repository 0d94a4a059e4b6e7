-- One binding moved after another is all of them moved.
use Rattle.std.specs.Prelude.{◌≡◌, ℕ, ◌+◌, ◌<◌, Bool, true, false, cond, List, [], ◌∷◌, ◌++◌, length, Result, Ok, Err, refl}
use Rattle.std.proofs.Common.{get_or, drop, sym, ap, ◌∙◌, subst, append_assoc, append-nil}
use Rattle.std.specs.Result.{IsErr, IsErrAnd}
use Rattle.std.proofs.Math.Path.{fun_ext, ap₂}
use Rattle.std.proofs.lemmas.List.{at_drop_more}
use Rattle.snesl_data.specs.declared.refusal.Refusal.{Refusal}
use Rattle.flow_nodes.specs.plans.Plans.{Step}
use Rattle.snesl_translation.specs.Wires.{Wires, Bound}
use Rattle.snesl_translation.specs.Makings.{Making, done, and_then}
use Rattle.snesl_translation.specs.FreeNames.{Names, is_among, without}
use Rattle.snesl_translation.specs.Moving.{all_moved}
use Rattle.snesl_translator.specs.steps.Views.{binding_of, bindings_of, next_in, wires_of}
use Rattle.snesl_translator.specs.steps.Added.{Adds, HasMade}
use Rattle.snesl_translator.specs.declared.steps.steps.Steps.{Steps}
use Rattle.snesl_translator.specs.declared.steps.wires.Binding.{Binding}
use Rattle.snesl_translator.proofs.OfSteps.Adding.{done_made, made_then, then_done, refused_as, exits, exits_first}
use Rattle.snesl_translator.specs.scopes.Moved.{but_for, one_moved, each_moved}

-- makings in turn

same_making : {A : Type 0} (m n : Making A) → m.steps ≡ n.steps → m.given ≡ n.given → m.next ≡ n.next → m ≡ n
same_making m n steps given next =
    ap (λ s. record { steps = s; given = m.given; next = m.next }) steps
    ∙ ap₂ (λ g k. record { steps = n.steps; given = g; next = k }) given next

pub done_first : {A B : Type 0} (x : A) (next : ℕ) (rest : A → ℕ → Making B) → and_then (done x next) rest ≡ rest x next
unfolding and_then
done_first x next rest = refl

pub in_turn : {A B C : Type 0} (first : Making A) (second : A → ℕ → Making B) (third : B → ℕ → Making C)
    → and_then (and_then first second) third ≡ and_then first (λ x k. and_then (second x k) third)
unfolding and_then
in_turn first second third =
    let m = second first.given first.next in
    same_making (and_then (and_then first second) third) (and_then first (λ x k. and_then (second x k) third))
    (append_assoc first.steps m.steps (third m.given m.next).steps) refl refl

-- what was there before is added to what the rest gives, which adds nothing else
nothing_after : (others : Making Bound) → and_then others (λ others k. done ([] ++ others) k) ≡ others
unfolding and_then
nothing_after others = same_making (and_then others (λ others k. done ([] ++ others) k)) others (append-nil others.steps) refl refl

-- these steps in front of those of a making
abbrev before_all : {A : Type 0} → List Step → Making A → Making A
before_all steps making = record { steps = steps ++ making.steps; given = making.given; next = making.next }

first_given : {A B C : Type 0} (first : Making A) (f : A → B) (rest : B → ℕ → Making C) → and_then (and_then first (λ x k. done (f x) k)) rest
    ≡ before_all first.steps (rest (f first.given) first.next)
unfolding and_then
first_given first f rest =
    let later = rest (f first.given) first.next in
    same_making (and_then (and_then first (λ x k. done (f x) k)) rest) (before_all first.steps later) (ap (λ l. l ++ later.steps) (append-nil first.steps)) refl refl

-- one binding and then others, after those before
moved_after : (first : Making Wires) (entry : List ℕ × Wires) (before : Bound) (all : ℕ → Making Bound) → entry.1 ≡ first.given →
    before_all first.steps (and_then (all first.next) (λ others k. done ((before ++ entry ∷ []) ++ others) k))
    ≡ and_then (and_then first (λ u k. and_then (all k) (λ others k. done ((entry.0, u) ∷ others) k))) (λ others k. done (before ++ others) k)
unfolding and_then
moved_after first entry before all e =
    let others = all first.next in
    same_making (before_all first.steps (and_then others (λ others k. done ((before ++ entry ∷ []) ++ others) k)))
    (and_then (and_then first (λ u k. and_then (all k) (λ others k. done ((entry.0, u) ∷ others) k))) (λ others k. done (before ++ others) k))
    (sym (append-nil (first.steps ++ (others.steps ++ []))))
    (append_assoc before (entry ∷ []) others.given ∙ ap (λ u. before ++ (entry.0, u) ∷ others.given) e) refl

-- one name more that was moved
but_for_push : (before : Bound) (entry : List ℕ × Wires) (names : Names) → but_for (before ++ entry ∷ []) names ≡ without entry.0 (but_for before names)
but_for_push [] entry names = refl
but_for_push (first ∷ before) entry names = but_for_push before entry (without first.0 names)

module _ (move : Wires → ℕ → Making Wires) (names : Names) where
  pub each_append : (xs ys before : Bound) (next : ℕ) → each_moved move names (xs ++ ys) before next ≡ and_then (each_moved move names xs before next) (λ now k. each_moved move names ys now k)
  each_append [] ys before next = sym (done_first before next (λ now k. each_moved move names ys now k))
  each_append (x ∷ xs) ys before next =
      let one = one_moved move names x before next in
      let same : (λ now k. each_moved move names (xs ++ ys) now k) ≡ (λ now k. and_then (each_moved move names xs now k) (λ now k. each_moved move names ys now k)) =
      fun_ext (λ now. fun_ext (λ k. each_append xs ys now k)) in
      ap (λ rest. and_then one rest) same
      ∙ sym (in_turn one (λ now k. each_moved move names xs now k) (λ now k. each_moved move names ys now k))

  -- the others after those that were moved before
  abbrev behind : Bound → Making Bound → Making Bound
  behind before others = and_then others (λ others k. done (before ++ others) k)

  -- one that is moved, and then others
  moved_first : (entry : List ℕ × Wires) (bound before : Bound) (next : ℕ)
      → ((now : Bound) (k : ℕ) → each_moved move names bound now k ≡ behind now (all_moved move (but_for now names) bound k))
      → and_then (and_then (move entry.1 next) (λ u k. done (before ++ (entry.0, u) ∷ []) k)) (λ now k. each_moved move names bound now k)
      ≡ behind before (and_then (move entry.1 next) (λ u k. and_then (all_moved move (without entry.0 (but_for before names)) bound k) (λ others k. done ((entry.0, u) ∷ others) k)))
  moved_first entry bound before next others_are =
      let m = move entry.1 next in
      let now = before ++ (entry.0, m.given) ∷ [] in
      let names' = but_for_push before (entry.0, m.given) names in
      first_given m (λ u. before ++ (entry.0, u) ∷ []) (λ now k. each_moved move names bound now k)
      ∙ ap (λ e. before_all m.steps e) (
      others_are now m.next
      ∙ ap (λ ns. behind now (all_moved move ns bound m.next)) names')
      ∙ moved_after m (entry.0, m.given) before (λ k. all_moved move (without entry.0 (but_for before names)) bound k) refl

  each_is_all : (bound before : Bound) (next : ℕ) → each_moved move names bound before next ≡ behind before (all_moved move (but_for before names) bound next)
  each_is_all [] before next = sym (done_first [] next (λ others k. done (before ++ others) k) ∙ ap (λ l. done l next) (append-nil before))
  each_is_all (entry ∷ bound) before next = by_test (λ now k. each_is_all bound now k) (is_among entry.0 (but_for before names))
    where
      by_test : ((now : Bound) (k : ℕ) → each_moved move names bound now k ≡ behind now (all_moved move (but_for now names) bound k)) → (b : Bool) →
          and_then (cond b (and_then (move entry.1 next) (λ u k. done (before ++ (entry.0, u) ∷ []) k)) (done before next))
          (λ now k. each_moved move names bound now k)
          ≡ behind before (cond b
          (and_then (move entry.1 next)
          (λ u k. and_then (all_moved move (without entry.0 (but_for before names)) bound k) (λ others k. done ((entry.0, u) ∷ others) k)))
          (all_moved move (but_for before names) bound next))
      by_test others_are true = moved_first entry bound before next others_are
      by_test others_are false = done_first before next (λ now k. each_moved move names bound now k) ∙ others_are before next

  pub all_in_turn : (bound : Bound) (next : ℕ) → each_moved move names bound [] next ≡ all_moved move names bound next
  all_in_turn bound next = each_is_all bound [] next ∙ nothing_after (all_moved move names bound next)

-- one binding

-- what the exit of a `?` returns
abbrev pub Exits : Result (Unit {0}) Refusal → Refusal → Type 0
Exits r e = IsErr r × IsErrAnd r (λ g. g ≡ e)

module _ (move : Wires → ℕ → Making Wires) (names : Names) (entry : List ℕ × Wires) (before : Bound) where
  abbrev with_it : Wires → Bound
  with_it u = before ++ (entry.0, u) ∷ []

  one_is : (next : ℕ) → is_among entry.0 (but_for before names) ≡ true → and_then (move entry.1 next) (λ u k. done (with_it u) k) ≡ one_moved move names entry before next
  one_is next e = sym (ap (λ b. cond b (and_then (move entry.1 next) (λ u k. done (with_it u) k)) (done before next)) e)

  pub one_stays : (steps : Steps) → is_among entry.0 (but_for before names) ≡ false → HasMade steps steps (one_moved move names entry before (next_in steps)) before
  one_stays steps e =
      subst (λ b. HasMade steps steps (cond b (and_then (move entry.1 (next_in steps)) (λ u k. done (with_it u) k)) (done before (next_in steps))) before) (sym e) (done_made steps before)

  pub one_refused : (old middle new : Steps) (given : Bound) (e : Refusal) (r : Result (Unit {0}) Refusal) → is_among entry.0 (but_for before names) ≡ true → Exits r e
      → Adds wires_of old middle (move entry.1 (next_in old)) (Err e) → Adds (λ x. given) old new (one_moved move names entry before (next_in old)) r
  one_refused old middle new given e r named exit adds =
      subst (λ making. Adds (λ x. given) old new making r) (one_is (next_in old) named)
      (exits_first wires_of (λ x. given) old middle new (move entry.1 (next_in old)) (λ u k. done (with_it u) k) e r exit adds)

  pub one_made : (old new : Steps) (given : Bound) (u : Wires) → is_among entry.0 (but_for before names) ≡ true → HasMade old new (move entry.1 (next_in old)) u → given ≡ with_it u
      → HasMade old new (one_moved move names entry before (next_in old)) given
  one_made old new given u named made is =
      subst (λ making. HasMade old new making given) (one_is (next_in old) named)
      (subst (λ x. HasMade old new (and_then (move entry.1 (next_in old)) (λ u k. done (with_it u) k)) x) (sym is) (then_done old new (move entry.1 (next_in old)) with_it u made))

-- the bindings of a frame, and then those after it
module _ (move : Wires → ℕ → Making Wires) (names : Names) (bound first others before : Bound) (frames : bound ≡ first ++ others) (old : Steps) where
  abbrev rest : Bound → ℕ → Making Bound
  rest now k = each_moved move names others now k

  whole : and_then (each_moved move names first before (next_in old)) rest ≡ each_moved move names bound before (next_in old)
  whole = sym (ap (λ b. each_moved move names b before (next_in old)) frames ∙ each_append move names first others before (next_in old))

  pub frame_refused : (middle new : Steps) (moved given : Bound) (e : Refusal) (r : Result (Unit {0}) Refusal) → Exits r e
      → Adds {A = Unit {0}} (λ x. moved) old middle (each_moved move names first before (next_in old)) (Err e) → Adds (λ x. given) old new (each_moved move names bound before (next_in old)) r
  frame_refused middle new moved given e r exit adds =
      subst (λ making. Adds (λ x. given) old new making r) whole
      (exits_first {A = Unit {0}} (λ x. moved) (λ x. given) old middle new (each_moved move names first before (next_in old)) rest e r exit adds)

  pub outer_refused : (middle new : Steps) (moved later given : Bound) (e : Refusal) (r : Result (Unit {0}) Refusal) → Exits r e
      → HasMade old middle (each_moved move names first before (next_in old)) moved → Adds {A = Unit {0}} (λ x. later) middle new (rest moved (next_in middle)) (Err e)
      → Adds (λ x. given) old new (each_moved move names bound before (next_in old)) r
  outer_refused middle new moved later given e r exit made adds =
      subst (λ making. Adds (λ x. given) old new making r) whole
      (exits (λ x. given) old new (and_then (each_moved move names first before (next_in old)) rest) e r exit
      (made_then {A = Unit {0}} (λ x. given) old middle new (each_moved move names first before (next_in old)) rest moved (Err e) made
      (refused_as {A = Unit {0}} {C = Unit {0}} (λ x. later) (λ x. given) middle new new (rest moved (next_in middle)) e adds)))

  pub frames_made : (middle new : Steps) (moved given : Bound) → HasMade old middle (each_moved move names first before (next_in old)) moved
      → HasMade middle new (rest moved (next_in middle)) given → HasMade old new (each_moved move names bound before (next_in old)) given
  frames_made middle new moved given made later =
      subst (λ making. HasMade old new making given) whole
      (made_then (λ x. x) old middle new (each_moved move names first before (next_in old)) rest moved (Ok given) made later)

-- a loop over bindings

-- what the rest adds from now on, the whole adds from the beginning on
abbrev pub Continues : (old now : Steps) (rest whole : Making Bound) → Type 0
Continues old now rest whole =
    (new : Steps) (given : Bound) (result : Result (Unit {0}) Refusal) → Adds (λ x. given) now new rest result → Adds (λ x. given) old new whole result

module _ (move : Wires → ℕ → Making Wires) (names : Names) (bindings : List Binding) (i : ℕ) (d : Binding) (lt : i < length bindings) (at : d ≡ get_or bindings i d)
    (old now : Steps) (before : Bound) (whole : Making Bound) (so_far : Continues old now (each_moved move names (bindings_of (drop i bindings)) before (next_in now)) whole) where
  abbrev one : Making Bound
  one = one_moved move names (binding_of d) before (next_in now)

  abbrev others : Bound → ℕ → Making Bound
  others now k = each_moved move names (bindings_of (drop (i + 1) bindings)) now k

  from_here : (new : Steps) (given : Bound) (result : Result (Unit {0}) Refusal) → Adds (λ x. given) now new (and_then one others) result → Adds (λ x. given) old new whole result
  from_here new given result adds =
      let left : drop i bindings ≡ d ∷ drop (i + 1) bindings = at_drop_more (λ l. l) bindings i d lt ∙ ap (λ x. x ∷ drop (i + 1) bindings) (sym at) in
      so_far new given result (subst (λ l. Adds (λ x. given) now new (each_moved move names (bindings_of l) before (next_in now)) result) (sym left) adds)

  pub binding_moved : (later : Steps) (moved : Bound) → HasMade now later one moved → Continues old later (others moved (next_in later)) whole
  binding_moved later moved made new given result adds = from_here new given result (made_then (λ x. given) now later new one others moved result made adds)

  pub binding_refused : (later : Steps) (moved given : Bound) (e : Refusal) (r : Result (Unit {0}) Refusal) → Exits r e
      → Adds {A = Unit {0}} (λ x. moved) now later one (Err e) → Adds {A = Unit {0}} (λ x. given) old later whole r
  binding_refused later moved given e r exit adds =
      from_here later given r (exits_first {A = Unit {0}} (λ x. moved) (λ x. given) now later later one others e r exit adds)
