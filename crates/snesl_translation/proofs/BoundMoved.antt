-- Bound names whose values are moved: what `all_moved` makes.
use Rattle.std.specs.Prelude.{◌≡◌, ℕ, Bool, true, false, ◌||◌, cond, List, [], ◌∷◌, ◌++◌, map, length, Some, refl}
use Rattle.std.specs.Str.{bytes_eq}
use Rattle.std.proofs.Common.{sym, ap, ◌∙◌, subst, append_assoc, append-nil}
use Rattle.std.proofs.lemmas.Slice.Eq.{bytes_eq-Decides}
use Rattle.snesl_data.specs.Types.{Ty, is_concrete}
use Rattle.snesl_data.specs.Values.{Value}
use Rattle.flow_messages.specs.Cells.{flag}
use Rattle.flow_base.specs.Columns.{Columns}
use Rattle.flow_base.specs.Flags.{flags}
use Rattle.flow_nodes.specs.functions.Lists.{dist, pack}
use Rattle.flow_nodes.specs.plans.Plans.{streams_at}
use Rattle.snesl_translation.specs.Wires.{Wires, Bound}
use Rattle.snesl_translation.specs.Makings.{Making, done, and_then}
use Rattle.snesl_translation.specs.FreeNames.{Names, is_among, without}
use Rattle.snesl_translation.specs.Moving.{distributed, kept, all_moved}
use Rattle.snesl_translation.specs.Translation.{wires_named, is_bound}
use Rattle.snesl_translation.specs.Carrying.{Carries}
use Rattle.snesl_translation.proofs.Carrying.{carried_on, grown}
use Rattle.snesl_translation.proofs.Doing.{Does, done_does, then_does}
use Rattle.snesl_translation.proofs.Distributing.{distributed_makes}
use Rattle.snesl_translation.proofs.Keeping.{kept_makes}

-- Names

same_bytes : (a b : List ℕ) → bytes_eq a b ≡ true → a ≡ b
same_bytes a b e = (bytes_eq-Decides a b).0 e

bytes_self : (a : List ℕ) → bytes_eq a a ≡ true
bytes_self a = (bytes_eq-Decides a a).1 refl

differ : {A : Type 0} {b : Bool} → b ≡ true → b ≡ false → A
differ {b = true} e f = absurd (cc)
differ {b = false} e f = absurd (cc)

-- a name that is left out is not there
left_out : (x : List ℕ) (names : Names) → is_among x (without x names) ≡ false
left_out x [] = refl
left_out x (n ∷ names) = by_test (bytes_eq x n) refl (left_out x names)
  where
    by_test : (b : Bool) → bytes_eq x n ≡ b → is_among x (without x names) ≡ false → is_among x (cond b (without x names) (n ∷ without x names)) ≡ false
    by_test true e h = h
    by_test false e h = ap (λ b. b || is_among x (without x names)) e ∙ h

pub others_stay : (bytes x : List ℕ) (names : Names) → bytes_eq bytes x ≡ false → is_among bytes names ≡ true → is_among bytes (without x names) ≡ true
others_stay bytes x [] other among = absurd (cc)
others_stay bytes x (n ∷ names) other among = by_test (bytes_eq x n) (bytes_eq bytes n) refl refl among (others_stay bytes x names other)
  where
    by_test : (b c : Bool) → bytes_eq x n ≡ b → bytes_eq bytes n ≡ c → c || is_among bytes names ≡ true → (is_among bytes names ≡ true → is_among bytes (without x names) ≡ true)
        → is_among bytes (cond b (without x names) (n ∷ without x names)) ≡ true
    by_test true true e f h ih = differ (ap (bytes_eq bytes) (same_bytes x n e) ∙ f) other
    by_test true false e f h ih = ih h
    by_test false true e f h ih = ap (λ c. c || is_among bytes (without x names)) f
    by_test false false e f h ih = ap (λ c. c || is_among bytes (without x names)) f ∙ ih h

pub stay_among : (bytes x : List ℕ) (names : Names) → is_among bytes (without x names) ≡ true → is_among bytes names ≡ true
stay_among bytes x [] among = among
stay_among bytes x (n ∷ names) among = by_test (bytes_eq x n) (bytes_eq bytes n) refl among (stay_among bytes x names)
  where
    by_test : (b c : Bool) → bytes_eq bytes n ≡ c → is_among bytes (cond b (without x names) (n ∷ without x names)) ≡ true → (is_among bytes (without x names) ≡ true → is_among bytes names ≡ true)
        → bytes_eq bytes n || is_among bytes names ≡ true
    by_test b true f h ih = ap (λ c. c || is_among bytes names) f
    by_test true false f h ih = ap (λ c. c || is_among bytes names) f ∙ ih h
    by_test false false f h ih = ap (λ c. c || is_among bytes names) f ∙ ih (sym (ap (λ c. c || is_among bytes (without x names)) f) ∙ h)

pub stay_other : (bytes x : List ℕ) (names : Names) → is_among bytes (without x names) ≡ true → bytes_eq bytes x ≡ false
stay_other bytes x names among = by_test (bytes_eq bytes x) refl
  where
    by_test : (b : Bool) → bytes_eq bytes x ≡ b → b ≡ false
    by_test true e = differ (ap (λ y. is_among y (without x names)) (sym (same_bytes bytes x e)) ∙ among) (left_out x names)
    by_test false e = refl

-- The innermost binding of a name

pub wires_here : (bytes : List ℕ) (entry : List ℕ × Wires) (bound : Bound) → bytes_eq bytes entry.0 ≡ true → wires_named bytes (entry ∷ bound) ≡ entry.1
wires_here bytes entry bound e = ap (λ b. cond b entry.1 (wires_named bytes bound)) e

pub wires_after : (bytes : List ℕ) (entry : List ℕ × Wires) (bound : Bound) → bytes_eq bytes entry.0 ≡ false → wires_named bytes (entry ∷ bound) ≡ wires_named bytes bound
wires_after bytes entry bound e = ap (λ b. cond b entry.1 (wires_named bytes bound)) e

pub bound_here : (bytes : List ℕ) (entry : List ℕ × Wires) (bound : Bound) → bytes_eq bytes entry.0 ≡ true → is_bound bytes (entry ∷ bound) ≡ true
bound_here bytes entry bound e = ap (λ b. cond b true (is_bound bytes bound)) e

pub bound_after : (bytes : List ℕ) (entry : List ℕ × Wires) (bound : Bound) → bytes_eq bytes entry.0 ≡ false → is_bound bytes (entry ∷ bound) ≡ is_bound bytes bound
bound_after bytes entry bound e = ap (λ b. cond b true (is_bound bytes bound)) e

-- of each of the names that is bound this holds, and of its wires
abbrev pub ForNames : Names → Bound → (List ℕ → Wires → Type 0) → Type 0
ForNames names bound Holds = (bytes : List ℕ) → is_among bytes names ≡ true → is_bound bytes bound ≡ true → Holds bytes (wires_named bytes bound)

-- each of the names that is bound here is bound there, and this holds of it and of its wires there
abbrev pub Given : Names → Bound → (List ℕ → Wires → Type 0) → Bound → Type 0
Given names bound Holds given = (bytes : List ℕ) → is_among bytes names ≡ true → is_bound bytes bound ≡ true → (is_bound bytes given ≡ true) × Holds bytes (wires_named bytes given)

-- Moving of each: what holds once the wires of a name are moved, and holds on
module _ (move : Wires → ℕ → Making Wires) (After : Columns → List ℕ → Wires → Type 0)
    (stays : (streams more : Columns) (bytes : List ℕ) (w : Wires) → After streams bytes w → After (streams ++ more) bytes w) where
  -- whenever the wires are moved, this holds of what is given
  abbrev pub Moves : Columns → List ℕ → Wires → Type 0
  Moves streams bytes w = (more : Columns) → Does (streams ++ more) (move w (length (streams ++ more))) (λ l u. After l bytes u)

  abbrev Moved : Names → Bound → Columns → Bound → Type 0
  Moved names bound l given = Given names bound (After l) given

  abbrev AllMoved : Names → Bound → Columns → Type 0
  AllMoved names bound streams = Does streams (all_moved move names bound (length streams)) (Moved names bound)

  moves_now : (streams : Columns) (bytes : List ℕ) (w : Wires) → Moves streams bytes w → Does streams (move w (length streams)) (λ l u. After l bytes u)
  moves_now streams bytes w moves = subst (λ l. Does l (move w (length l)) (λ l u. After l bytes u)) (append-nil streams) (moves [])

  moves_on : (streams more : Columns) (bytes : List ℕ) (w : Wires) → Moves streams bytes w → Moves (streams ++ more) bytes w
  moves_on streams more bytes w moves others = subst (λ l. Does l (move w (length l)) (λ l u. After l bytes u)) (sym (append_assoc streams more others)) (moves (more ++ others))

  -- an entry that is moved, before those that are
  module _ (entry : List ℕ × Wires) (bound : Bound) (names : Names) where
    joined_given : (l : Columns) (u : Wires) (given : Bound) → After l entry.0 u → Moved (without entry.0 names) bound l given → Moved names (entry ∷ bound) l ((entry.0, u) ∷ given)
    joined_given l u given here behind bytes among held = by_test (bytes_eq bytes entry.0) refl
      where
        by_test : (b : Bool) → bytes_eq bytes entry.0 ≡ b → (is_bound bytes ((entry.0, u) ∷ given) ≡ true) × After l bytes (wires_named bytes ((entry.0, u) ∷ given))
        by_test true e = (
          bound_here bytes (entry.0, u) given e,
          subst (After l bytes) (sym (wires_here bytes (entry.0, u) given e)) (subst (λ x. After l x u) (sym (same_bytes bytes entry.0 e)) here),
        )
        by_test false e =
            let g = behind bytes (others_stay bytes entry.0 names e among) (sym (bound_after bytes entry bound e) ∙ held) in (
              bound_after bytes (entry.0, u) given e ∙ g.0,
              subst (After l bytes) (sym (wires_after bytes (entry.0, u) given e)) g.1,
            )

    moves_behind : (streams more : Columns) → ForNames names (entry ∷ bound) (Moves streams) → ForNames (without entry.0 names) bound (Moves (streams ++ more))
    moves_behind streams more h bytes among held =
        let other = stay_other bytes entry.0 names among in
        let moves = h bytes (stay_among bytes entry.0 names among) (bound_after bytes entry bound other ∙ held) in
        moves_on streams more bytes (wires_named bytes bound) (subst (Moves streams bytes) (wires_after bytes entry bound other) moves)

    entry_moved : (streams : Columns) → ForNames names (entry ∷ bound) (Moves streams) → is_among entry.0 names ≡ true
        → ((later : Columns) → ForNames (without entry.0 names) bound (Moves later) → AllMoved (without entry.0 names) bound later)
        → Does streams (and_then (move entry.1 (length streams))
        (λ u k. and_then (all_moved move (without entry.0 names) bound k) (λ others k. done ((entry.0, u) ∷ others) k)))
        (Moved names (entry ∷ bound))
    entry_moved streams h among ih =
        let self = bytes_self entry.0 in
        let moves = subst (Moves streams entry.0) (wires_here entry.0 entry bound self) (h entry.0 among (bound_here entry.0 entry bound self)) in
        let first = moves_now streams entry.0 entry.1 moves in
        let on = streams ++ first.0 in
        let u = (move entry.1 (length streams)).given in
        let rest = ih on (moves_behind streams first.0 h) in
        let all = on ++ rest.0 in
        let others = (all_moved move (without entry.0 names) bound (length on)).given in
        then_does (move entry.1 (length streams)) (λ u k. and_then (all_moved move (without entry.0 names) bound k) (λ others k. done ((entry.0, u) ∷ others) k))
        streams (λ l u. After l entry.0 u) (Moved names (entry ∷ bound)) first
        (then_does (all_moved move (without entry.0 names) bound (length on)) (λ others k. done ((entry.0, u) ∷ others) k) on (Moved (without entry.0 names) bound) (Moved names (entry ∷ bound)) rest
        (done_does ((entry.0, u) ∷ others) all (Moved names (entry ∷ bound)) (joined_given all u others (stays on rest.0 entry.0 u first.3) rest.3)))

    -- a name that is not among those is another one than the entry's
    other_name : (bytes : List ℕ) → is_among entry.0 names ≡ false → is_among bytes names ≡ true → bytes_eq bytes entry.0 ≡ false
    other_name bytes not among = by_test (bytes_eq bytes entry.0) refl
      where
        by_test : (b : Bool) → bytes_eq bytes entry.0 ≡ b → b ≡ false
        by_test true e = differ (ap (λ y. is_among y names) (sym (same_bytes bytes entry.0 e)) ∙ among) not
        by_test false e = refl

    entry_left : (streams : Columns) → ForNames names (entry ∷ bound) (Moves streams) → is_among entry.0 names ≡ false
        → (ForNames names bound (Moves streams) → AllMoved names bound streams) → Does streams (all_moved move names bound (length streams)) (Moved names (entry ∷ bound))
    entry_left streams h not ih =
        let behind : ForNames names bound (Moves streams) = λ bytes among held.
        let other = other_name bytes not among in
        subst (Moves streams bytes) (wires_after bytes entry bound other) (h bytes among (bound_after bytes entry bound other ∙ held)) in
        let d = ih behind in
        (d.0, d.1, d.2, λ bytes among held. d.3 bytes among (sym (bound_after bytes entry bound (other_name bytes not among)) ∙ held))

  -- where the wires of each of these names are moved so, all are
  pub all_moved_does : (names : Names) (bound : Bound) (streams : Columns) → ForNames names bound (Moves streams)
      → Does streams (all_moved move names bound (length streams)) (λ l given. Given names bound (After l) given)
  all_moved_does names [] streams h = done_does [] streams (Moved names []) (λ bytes among held. absurd (cc))
  all_moved_does names (entry ∷ bound) streams h =
      by_test (is_among entry.0 names) refl (λ later. all_moved_does (without entry.0 names) bound later) (all_moved_does names bound streams)
    where
      by_test : (b : Bool) → is_among entry.0 names ≡ b → ((later : Columns) → ForNames (without entry.0 names) bound (Moves later) → AllMoved (without entry.0 names) bound later)
          → (ForNames names bound (Moves streams) → AllMoved names bound streams)
          → Does streams (
          cond b (and_then (move entry.1 (length streams)) (λ u k. and_then (all_moved move (without entry.0 names) bound k) (λ others k. done ((entry.0, u) ∷ others) k)))
          (all_moved move names bound (length streams))) (Moved names (entry ∷ bound))
      by_test true e moved left = entry_moved entry bound names streams h e moved
      by_test false e moved left = entry_left entry bound names streams h e left

-- Values that are held: which values of which type a name stands for, before and after.

abbrev pub Held : Type 1
Held = List ℕ → Ty → List Value → Type 0

-- the wires carry values of a type for which the name stands
abbrev pub Stands : Held → Columns → List ℕ → Wires → Type 0
Stands Values streams bytes w = (t : Ty) × (vs : List Value) × Values bytes t vs × Carries streams w t vs

stands_on : (Values : Held) (streams more : Columns) (bytes : List ℕ) (w : Wires) → Stands Values streams bytes w → Stands Values (streams ++ more) bytes w
stands_on Values streams more bytes w s = (s.0, s.1, s.2, carried_on streams more w s.0 s.1 s.3)

module _ (Before Later : Held) where
  -- where all these names stand for values of concrete types, then for each as often as its number
  pub all_distributed_make : (at f : ℕ) (ns : List ℕ) (names : Names) (bound : Bound) (streams : Columns) → streams_at (f ∷ []) streams ≡ Some (flags ns ∷ [])
      → ((bytes : List ℕ) (t : Ty) (vs : List Value) → is_among bytes names ≡ true → Before bytes t vs → (is_concrete t ≡ true) × (ws : List Value) × (dist ns vs ≡ Some ws) × Later bytes t ws)
      → ForNames names bound (Stands Before streams) → Does streams (all_moved (distributed at f) names bound (length streams)) (λ l given. Given names bound (Stands Later l) given)
  all_distributed_make at f ns names bound streams flagged each h =
      all_moved_does (distributed at f) (Stands Later) (stands_on Later) names bound streams (λ bytes among held more.
      let s = h bytes among held in
      let e = each bytes s.0 s.1 among s.2 in
      let w = wires_named bytes bound in
      let makes = distributed_makes at f ns (streams ++ more) w s.0 s.1 e.1 (carried_on streams more w s.0 s.1 s.3) e.0 (grown (f ∷ []) streams more (flags ns ∷ []) flagged) e.2 in
      (makes.0, makes.1, makes.2, (s.0, e.1, e.3, makes.3)))

  -- where these names stand for values, then for those beside which true stands
  pub all_kept_make : (at d : ℕ) (ds : List Bool) (names : Names) (bound : Bound) (streams : Columns) → streams_at (d ∷ []) streams ≡ Some (map flag ds ∷ [])
      → ((bytes : List ℕ) (t : Ty) (vs : List Value) → is_among bytes names ≡ true → Before bytes t vs → (ws : List Value) × (pack ds vs ≡ Some ws) × Later bytes t ws)
      → ForNames names bound (Stands Before streams) → Does streams (all_moved (kept at d) names bound (length streams)) (λ l given. Given names bound (Stands Later l) given)
  all_kept_make at d ds names bound streams truths each h =
      all_moved_does (kept at d) (Stands Later) (stands_on Later) names bound streams (λ bytes among held more.
      let s = h bytes among held in
      let e = each bytes s.0 s.1 among s.2 in
      let w = wires_named bytes bound in
      let makes = kept_makes at d ds (streams ++ more) w s.0 s.1 e.0 (carried_on streams more w s.0 s.1 s.3) (grown (d ∷ []) streams more (map flag ds ∷ []) truths) e.1 in
      (makes.0, makes.1, makes.2, (s.0, e.0, e.2, makes.3)))
