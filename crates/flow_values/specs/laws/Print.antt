-- Printing of a value keeps the laws of transducers, and its text is that of the value.
use Rattle.std.specs.Prelude.{◌≡◌, ℕ, ◌+◌, ◌<◌, ◌≤◌, ◌≢◌, Bool, true, false, List, [], ◌∷◌, Option, Some, None, ◌↔◌, cond, nat_lt, refl}
use Rattle.std.proofs.Common.{sym, ◌∙◌, ap, subst, arith, append-nil}
use Rattle.std.proofs.lemmas.Bool.Decides.{nat_tests}
use Rattle.snesl_data.specs.Types.{Ty}
use Rattle.snesl_data.specs.Values.{Value}
use Rattle.snesl_data.specs.Text.{text as text_of_value}
use Rattle.snesl_data.specs.declared.fault.FaultKind.TheVariants.{Shape}
use Rattle.kahn.specs.declared.want.Want.TheVariants.{Read, Write, Ended, Faulted}
use Rattle.kahn.specs.Processes.{Event, Reads, Writes, Does, reads}
use Rattle.flow_messages.specs.Cells.{Cell, is_of}
use Rattle.flow_messages.specs.Signals.{Signal, carry, stop}
use Rattle.flow_base.specs.Lists.{Lists, push, with_port, HasFirst, iff_refl}
use Rattle.flow_base.specs.Ports.{at_port, off_port, by_port, put_back, First-from}
use Rattle.flow_base.specs.Ranges.{AllOf}
use Rattle.flow_base.specs.Transducers.{BehaviourLaws, IsLawfulTraffic, closed}
use Rattle.flow_base.specs.Promises.{Promise, Keeps, KeepsRead, PromiseLaws}
use Rattle.flow_base.specs.Promised.{promised_laws}
use Rattle.flow_base.specs.Histories.{read_in, reads_push}
use Rattle.flow_base.specs.ClosedLists.{AreClosed, EndsFrom, closed_full, carried, stopped, closed_rest, closed_more, ends_less, ends_more, ends_closed, closed_ends, end_due, none_due, due_none}
use Rattle.flow_values.specs.Shapes.{is_a, kinds_of, kind_at}
use Rattle.flow_values.specs.Flats.{no_cells, ◌⊕◌, width, spread, flat}
use Rattle.flow_values.specs.laws.Flats.{flat_one}
use Rattle.flow_values.specs.laws.Sides.{spread_above, nothing_more}
use Rattle.flow_values.specs.laws.Kinds.{spread_full, spread_kinds, full_append, flags_here}
use Rattle.flow_values.specs.PrintMachine.{Pending, whole, further, port_of, PrintReading, next, PrintStage, within, closing, stuck, PrintState}
use Rattle.flow_values.specs.PrintMachine.{print_state, print_opening, print_stage, want_at, went_on, checked, read_at, print_behaviour}
use Rattle.flow_values.specs.laws.PrintSteps.{segment, PrintsRest, PrintsRestAfter, next_law}

-- What is still to come: the closed lists of bodies that are just what is to be read, each of the kind of its port, and
-- the text that comes of them.
record Owed (ty : Ty) (pending : List Pending) (text : List ℕ) (i : Lists Signal) (t : List ℕ) : Type 0 where
  bodies : Lists Cell
  are_closed : AreClosed (width ty) i bodies
  beyond : (p : ℕ) → width ty ≤ p → bodies p ≡ []
  kinds : (p : ℕ) → AllOf (kind_at (kinds_of ty) p) (bodies p)
  ends : PrintsRest pending text bodies t

abbrev OwesAt : PrintStage → Ty → List ℕ → Lists Signal → List ℕ → Type 0
OwesAt (within first others) ty text i t = Owed ty (first ∷ others) text i t
OwesAt (closing p) ty text i t = EndsFrom p (width ty) i × (t ≡ text)
OwesAt stuck ty text i t = ⊥

-- what is still to come, and the text in the end
abbrev OwesText : PrintState → Lists Signal → List ℕ → Type 0
OwesText s i t = OwesAt s.step s.ty s.text i t

abbrev OwesAfter : Ty → Option PrintReading → Lists Signal → List ℕ → Type 0
OwesAfter ty None i t = ⊥
OwesAfter ty (Some r) i t = Owed ty r.pending r.text i t

module _ (ty : Ty) (i : Lists Signal) (t : List ℕ) where
  -- where nothing is left to be read, the ends are owed
  owed_pending : (pending : List Pending) (text : List ℕ) → Owed ty pending text i t ↔ OwesAt (print_stage pending) ty text i t
  owed_pending [] text = (
    λ h. (closed_ends (width ty) i h.bodies h.are_closed (λ p lt. ap (λ l. l p) h.ends.0), h.ends.1),
    λ h. record { bodies = no_cells; are_closed = ends_closed (width ty) i h.0; beyond = λ p le. refl; kinds = λ p. tt; ends = (refl, h.1) },
  )
  owed_pending (first ∷ others) text = iff_refl

  owed_moved : (s : PrintState) (r : Option PrintReading) → s.ty ≡ ty → OwesAfter ty r i t ↔ OwesText (went_on s r) i t
  owed_moved s None e = iff_refl
  owed_moved s (Some r) e = subst (λ k. OwesAfter ty (Some r) i t ↔ OwesAt (print_stage r.pending) k r.text i t) (sym e) (owed_pending r.pending r.text)

  pack : (r : Option PrintReading) (bodies : Lists Cell) → AreClosed (width ty) i bodies → ((p : ℕ) → width ty ≤ p → bodies p ≡ []) →
      ((p : ℕ) → AllOf (kind_at (kinds_of ty) p) (bodies p)) → PrintsRestAfter r bodies t → OwesAfter ty r i t
  pack None bodies c b k h = h
  pack (Some r) bodies c b k h = record { bodies = bodies; are_closed = c; beyond = b; kinds = k; ends = h }

  module _ (first : Pending) (others : List Pending) (text : List ℕ) (lt : port_of first < width ty) (x : Cell) where
    abbrev here : ℕ
    here = port_of first

    abbrev fits : Bool
    fits = is_of (kind_at (kinds_of ty) here) x

    forth : (b : Bool) → fits ≡ b → Owed ty (first ∷ others) text (push here (carry x) i) t → OwesAfter ty (checked b (next first x others text)) i t
    forth b is h =
        let e : carry x ∷ i here ≡ closed (h.bodies here) = sym (at_port here (carry x ∷ i here) i) ∙ h.are_closed here lt in
        let front = carried x (i here) (h.bodies here) e in
        let r = front.0 in
        let less = with_port here r h.bodies in
        let same : push here x less ≡ h.bodies = put_back here x r h.bodies front.1 in
        let of_kind : AllOf (kind_at (kinds_of ty) here) (x ∷ r) = subst (λ l. AllOf (kind_at (kinds_of ty) here) l) front.1 (h.kinds here) in
        let yes : b ≡ true = sym is ∙ of_kind.0 in
        let after : PrintsRestAfter (next first x others text) less t = (next_law first others text t less x).0 (subst (λ l. PrintsRest (first ∷ others) text l t) (sym same) h.ends) in
        let beyond : (q : ℕ) → width ty ≤ q → less q ≡ [] = λ q le. let n : q ≢ here = omega arith in off_port here q r h.bodies n ∙ h.beyond q le in
        let kinds : (q : ℕ) → AllOf (kind_at (kinds_of ty) q) (less q) = by_port (λ q. AllOf (kind_at (kinds_of ty) q) (less q)) here
        (subst (λ l. AllOf (kind_at (kinds_of ty) here) l) (sym (at_port here r h.bodies)) of_kind.1)
        (λ q n. subst (λ l. AllOf (kind_at (kinds_of ty) q) l) (sym (off_port here q r h.bodies n)) (h.kinds q)) in
        let packed = pack (next first x others text) less (closed_rest (width ty) here (carry x) i h.bodies r front.2 h.are_closed) beyond kinds after in
        subst (λ b. OwesAfter ty (checked b (next first x others text)) i t) (sym yes) packed

    unpack : (r : Option PrintReading) → fits ≡ true → ((l : Lists Cell) → PrintsRestAfter r l t → PrintsRest (first ∷ others) text (push here x l) t)
        → OwesAfter ty r i t → Owed ty (first ∷ others) text (push here (carry x) i) t
    unpack None is law h = absurd h
    unpack (Some r) is law h =
        let more = push here x h.bodies in
        record {
          bodies = more;
          are_closed = closed_more (width ty) here x i h.bodies lt h.are_closed;
          beyond = λ q le. let n : q ≢ here = omega arith in off_port here q (x ∷ h.bodies here) h.bodies n ∙ h.beyond q le;
          kinds = by_port (λ q. AllOf (kind_at (kinds_of ty) q) (more q)) here
              (subst (λ l. AllOf (kind_at (kinds_of ty) here) l) (sym (at_port here (x ∷ h.bodies here) h.bodies)) (is, h.kinds here))
              (λ q n. subst (λ l. AllOf (kind_at (kinds_of ty) q) l) (sym (off_port here q (x ∷ h.bodies here) h.bodies n)) (h.kinds q));
          ends = law h.bodies h.ends;
        }

    back : (b : Bool) → fits ≡ b → OwesAfter ty (checked b (next first x others text)) i t → Owed ty (first ∷ others) text (push here (carry x) i) t
    back false is h = absurd h
    back true is h = unpack (next first x others text) is (λ l. (next_law first others text t l x).1) h

-- an item is there to be read
pending_full : (first : Pending) (others : List Pending) (text : List ℕ) (bodies : Lists Cell) (t : List ℕ) → PrintsRest (first ∷ others) text bodies t → HasFirst (bodies (port_of first))
pending_full (whole behind ty p c) others text bodies t h = subst (λ l. HasFirst (l p)) (sym h.3) (full_append (spread ty p h.0 p) (h.1 p) (spread_full ty p h.0))
pending_full (further item p c) others text bodies t h = subst (λ l. HasFirst (l p)) (sym h.3) (full_append (segment item p h.0 p) (h.1 p) (full_append _ _ (flags_here p _)))

owed_full : (ty : Ty) (first : Pending) (others : List Pending) (text : List ℕ) (i : Lists Signal) (t : List ℕ) → port_of first < width ty →
    Owed ty (first ∷ others) text i t → HasFirst (i (port_of first))
owed_full ty first others text i t lt h = closed_full (i (port_of first)) (h.bodies (port_of first)) (h.are_closed (port_of first) lt)

-- where an item is to be read, no end comes
no_stop : (ty : Ty) (first : Pending) (others : List Pending) (text : List ℕ) (i : Lists Signal) (t : List ℕ) → port_of first < width ty →
    Owed ty (first ∷ others) text (push (port_of first) stop i) t → ⊥
no_stop ty first others text i t lt h =
    let p = port_of first in
    let e : stop ∷ i p ≡ closed (h.bodies p) = sym (at_port p (stop ∷ i p) i) ∙ h.are_closed p lt in
    let none = stopped (i p) (h.bodies p) e in
    subst (λ l. HasFirst l) none.0 (pending_full first others text h.bodies t h.ends)

-- where an end is due, no item comes
no_carry : (n p : ℕ) (x : Cell) (i : Lists Signal) → p < n → EndsFrom p n (push p (carry x) i) → ⊥
no_carry n p x i lt h =
    let due : push p (carry x) i p ≡ stop ∷ [] = end_due p n (push p (carry x) i) lt h in
    let never : carry x ∷ i p ≡ stop ∷ [] = sym (at_port p (carry x ∷ i p) i) ∙ due in
    absurd (cc)

-- one message read, and the text in the end
module _ (s : PrintState) (i : Lists Signal) (t : List ℕ) where
  within_step : (first : Pending) (others : List Pending) → port_of first < width s.ty → (m : Signal) →
      Owed s.ty (first ∷ others) s.text (push (port_of first) m i) t ↔ OwesText (read_at (within first others) s m) i t
  within_step first others lt stop = (λ h. no_stop s.ty first others s.text i t lt h, λ h. absurd h)
  within_step first others lt (carry x) =
      let fits = is_of (kind_at (kinds_of s.ty) (port_of first)) x in
      let there = owed_moved s.ty i t s (checked fits (next first x others s.text)) refl in
      (λ h. there.0 (forth s.ty i t first others s.text lt x fits refl h), λ h. back s.ty i t first others s.text lt x fits refl (there.1 h))

  closing_step : (p : ℕ) → p < width s.ty → (m : Signal) → (EndsFrom p (width s.ty) (push p m i) × (t ≡ s.text)) ↔ OwesText (read_at (closing p) s m) i t
  closing_step p lt stop = (λ h. (ends_less p (width s.ty) i lt h.0, h.1), λ h. (ends_more p (width s.ty) i lt h.0, h.1))
  closing_step p lt (carry x) = (λ h. absurd (no_carry (width s.ty) p x i lt h.0), λ h. absurd h)

-- whether the end of the input has passed
abbrev over_at : PrintStage → ℕ → Bool
over_at (within first others) p = false
over_at (closing k) p = nat_lt p k
over_at stuck p = true

abbrev promise : Promise PrintState
promise = record {
  owes = λ s i o. (t : List ℕ) × OwesText s i t;
  over_in = λ s p. over_at s.step p;
  over_out = λ s q. false;
}

some_text : {A B : List ℕ → Type 0} → ((t : List ℕ) → A t ↔ B t) → ((t : List ℕ) × A t) ↔ ((t : List ℕ) × B t)
some_text h = (λ g. (g.0, (h g.0).0 g.1), λ g. (g.0, (h g.0).1 g.1))

module _ (ty : Ty) (text : List ℕ) (at : ℕ) where
  abbrev state : PrintStage → PrintState
  state step = print_state ty step text at

  moved_opening : (s : PrintState) (r : Option PrintReading) → print_opening (went_on s r).ty (went_on s r).at ≡ print_opening s.ty s.at
  moved_opening s None = refl
  moved_opening s (Some r) = refl

  within_opening : (first : Pending) (others : List Pending) (m : Signal) → print_behaviour.opening (read_at (within first others) (state (within first others)) m) ≡ print_opening ty at
  within_opening first others stop = refl
  within_opening first others (carry x) = moved_opening (state (within first others)) (checked (is_of (kind_at (kinds_of ty) (port_of first)) x) (next first x others text))

  closing_opening : (p : ℕ) (m : Signal) → print_behaviour.opening (read_at (closing p) (state (closing p)) m) ≡ print_opening ty at
  closing_opening p stop = refl
  closing_opening p (carry x) = refl

  closing_over : (p k : ℕ) (m : Signal) → nat_lt k p ≡ true → over_at (read_at (closing p) (state (closing p)) m).step k ≡ true
  closing_over p k stop h = grind (arith, nat_tests)
  closing_over p k (carry x) h = refl

  reads_within : (first : Pending) (others : List Pending) → port_of first < width ty → KeepsRead print_behaviour promise (state (within first others)) (port_of first)
  reads_within first others lt =
      let s = state (within first others) in
      record {
        port = lt;
        full = λ i o h. owed_full ty first others text i h.0 lt h.1;
        steps = λ m i o. some_text (λ t. within_step s i t first others lt m);
        stays = within_opening first others;
        open_yet = refl;
        ends = refl;
        still_in = λ m k h. absurd (cc);
        still_out = λ m k h. h;
        kinds = λ x e. ap (λ b. want_at (went_on s (checked b (next first x others text))).step (went_on s (checked b (next first x others text)))) e;
        of_kind = λ m h. tt;
        in_range = λ dialect m h g r. tt;
      }

  reads_closing : (p : ℕ) → p < width ty → KeepsRead print_behaviour promise (state (closing p)) p
  reads_closing p lt =
      let s = state (closing p) in
      record {
        port = lt;
        full = λ i o h. First-from (i p) stop [] (λ _ _. Unit {0}) (end_due p (width ty) i lt h.1.0) tt;
        steps = λ m i o. some_text (λ t. closing_step s i t p lt m);
        stays = closing_opening p;
        open_yet = grind (arith, nat_tests);
        ends = grind (arith, nat_tests);
        still_in = λ m k h. closing_over p k m h;
        still_out = λ m k h. h;
        kinds = λ x e. refl;
        of_kind = λ m h. tt;
        in_range = λ dialect m h g r. tt;
      }

  lt_of : (p n : ℕ) → nat_lt p n ≡ true → p < n
  lt_of p n e = grind (arith, nat_tests)

  -- where a port lies beyond the edges, nothing is owed
  never_beyond : (first : Pending) (others : List Pending) (i : Lists Signal) (t : List ℕ) → nat_lt (port_of first) (width ty) ≡ false → Owed ty (first ∷ others) text i t → ⊥
  never_beyond first others i t e h =
      let le : width ty ≤ port_of first = grind (arith, nat_tests) in
      subst (λ l. HasFirst l) (h.beyond (port_of first) le) (pending_full first others text h.bodies t h.ends)

  each_within : (first : Pending) (others : List Pending) (b : Bool) → nat_lt (port_of first) (width ty) ≡ b →
      Keeps print_behaviour promise (state (within first others)) (cond b (Read (port_of first)) (Faulted (record { kind = Shape; at = at })))
  each_within first others true e = reads_within first others (lt_of (port_of first) (width ty) e)
  each_within first others false e = record { place = refl; never = λ i o h. never_beyond first others i h.0 e h.1 }

  each_closing : (p : ℕ) (b : Bool) → nat_lt p (width ty) ≡ b → Keeps print_behaviour promise (state (closing p)) (cond b (Read p) Ended)
  each_closing p true e = reads_closing p (lt_of p (width ty) e)
  each_closing p false e = record {
    nothing = (text, (due_none p (width ty) (λ _. []) e (λ r lt. refl), refl));
    ins = λ i o h. none_due p (width ty) i e h.1.0;
    outs = λ i o h q lt. absurd (omega arith);
  }

  each_step : (step : PrintStage) → Keeps print_behaviour promise (state step) (want_at step (state step))
  each_step (within first others) = each_within first others (nat_lt (port_of first) (width ty)) refl
  each_step (closing p) = each_closing p (nat_lt p (width ty)) refl
  each_step stuck = record { place = refl; never = λ i o h. h.1 }

-- What came in is one value of the type, and the text in the end is its text.
pub record PrintedValue (ty : Ty) (i : Lists Signal) (t : List ℕ) : Type 0 where
  pub value : Value
  pub is_one : is_a ty value ≡ true
  pub came : (p : ℕ) → p < width ty → i p ≡ closed (flat ty 0 (value ∷ []) p)
  pub text_is : t ≡ text_of_value value

-- before the value, a value is owed, and its text
opened_text : (ty : Ty) (at : ℕ) (i : Lists Signal) (t : List ℕ) → OwesText (print_opening ty at) i t ↔ PrintedValue ty i t
opened_text ty at i t = (
  λ h.
      let first = h.ends in
      let bodies_are : h.bodies ≡ spread ty 0 first.0 = first.3 ∙ ap (λ l. spread ty 0 first.0 ⊕ l) first.4.0 ∙ nothing_more (spread ty 0 first.0) in
      record {
        value = first.0;
        is_one = first.2;
        came = λ p lt. h.are_closed p lt ∙ ap (λ l. closed (l p)) (bodies_are ∙ sym (flat_one ty 0 first.0));
        text_is = first.4.1 ∙ append-nil (text_of_value first.0);
      },
  λ h. record {
    bodies = spread ty 0 h.value;
    are_closed = λ p lt. h.came p lt ∙ ap (λ l. closed (l p)) (flat_one ty 0 h.value);
    beyond = λ p le. spread_above ty 0 h.value p (omega arith);
    kinds = λ p. let e : 0 + p ≡ p = omega arith in subst (λ q. AllOf (kind_at (kinds_of ty) p) (spread ty 0 h.value q)) e (spread_kinds ty 0 p h.value h.is_one);
    ends = (h.value, no_cells, h.is_one, sym (nothing_more (spread ty 0 h.value)), (refl, h.text_is ∙ sym (append-nil (text_of_value h.value))));
  },
)

opened_row : (ty : Ty) (at : ℕ) (i o : Lists Signal) → ((t : List ℕ) × OwesText (print_opening ty at) i t) ↔ IsLawfulTraffic print_behaviour (print_opening ty at) i o
opened_row ty at i o = (
  λ h.
      let g = (opened_text ty at i h.0).0 h.1 in
      record {
        ins = flat ty 0 (g.value ∷ []);
        outs = λ _. [];
        row = record { value = g.value; is_one = g.is_one; edges_are = λ p lt. refl };
        closed_ins = g.came;
        closed_outs = λ q lt. absurd (omega arith);
      },
  λ h.
      let row = h.row in (
        text_of_value row.value,
        (opened_text ty at i (text_of_value row.value)).1 (record { value = row.value; is_one = row.is_one; came = λ p lt. h.closed_ins p lt ∙ ap closed (row.edges_are p lt); text_is = refl }),
      ),
)

promise_laws : PromiseLaws print_behaviour promise
promise_laws = record {
  end = refl;
  each = λ s. each_step s.ty s.text s.at s.step;
  opens = λ s opens i o. subst (λ k. promise.owes k i o ↔ IsLawfulTraffic print_behaviour k i o) opens (opened_row s.ty s.at i o);
  same_opening = λ s. refl;
  same_inputs = λ s. refl;
  same_outputs = λ s. refl;
  same_kinds_in = λ s p. refl;
  same_kinds_out = λ s q. refl;
  starts_of_kind = λ s e. tt;
}

pub print_laws : BehaviourLaws print_behaviour
print_laws = promised_laws print_behaviour promise promise_laws

-- one message read in any state that wants to read
one_read : (s : PrintState) (p : ℕ) (m : Signal) (i : Lists Signal) (t : List ℕ) → want_at s.step s ≡ Read p → OwesText (read_at s.step s m) i t → OwesText s (push p m i) t
one_read s p m i t wants h = go s.step refl wants h
  where
    go_within : (first : Pending) (others : List Pending) (b : Bool) → nat_lt (port_of first) (width s.ty) ≡ b → cond b (Read (port_of first)) (Faulted (record { kind = Shape; at = s.at })) ≡ Read p →
        OwesText (read_at (within first others) s m) i t → OwesAt (within first others) s.ty s.text (push p m i) t
    go_within first others true e wants h =
        let same : port_of first ≡ p = cc in
        subst (λ q. OwesAt (within first others) s.ty s.text (push q m i) t) same ((within_step s i t first others (lt_of s.ty s.text s.at (port_of first) (width s.ty) e) m).1 h)
    go_within first others false e wants h = absurd (cc)

    go_closing : (k : ℕ) (b : Bool) → nat_lt k (width s.ty) ≡ b → cond b (Read k) Ended ≡ Read p → OwesText (read_at (closing k) s m) i t → OwesAt (closing k) s.ty s.text (push p m i) t
    go_closing k true e wants h =
        let same : k ≡ p = cc in
        subst (λ q. OwesAt (closing k) s.ty s.text (push q m i) t) same ((closing_step s i t k (lt_of s.ty s.text s.at k (width s.ty) e) m).1 h)
    go_closing k false e wants h = absurd (cc)

    go : (step : PrintStage) → step ≡ s.step → want_at step s ≡ Read p → OwesText (read_at step s m) i t → OwesAt step s.ty s.text (push p m i) t
    go (within first others) e wants h = go_within first others (nat_lt (port_of first) (width s.ty)) refl wants h
    go (closing k) e wants h = go_closing k (nat_lt k (width s.ty)) refl wants h
    go stuck e wants h = absurd (cc)

-- it wants to write nothing
no_write : (s : PrintState) (step : PrintStage) (q : ℕ) → want_at step s ≡ Write q → ⊥
no_write s (within first others) q e =
    elim (nat_lt (port_of first) (width s.ty)) as (λ b. cond b (Read (port_of first)) (Faulted (record { kind = Shape; at = s.at })) ≡ Write q → ⊥)
    [ true ↦ λ e. absurd (cc) | false ↦ λ e. absurd (cc) ] e
no_write s (closing p) q e = elim (nat_lt p (width s.ty)) as (λ b. cond b (Read p) Ended ≡ Write q → ⊥) [ true ↦ λ e. absurd (cc) | false ↦ λ e. absurd (cc) ] e
no_write s stuck q e = absurd (cc)

ended_text : (s : PrintState) (step : PrintStage) → want_at step s ≡ Ended → OwesAt step s.ty s.text (λ _. []) s.text
ended_text s (within first others) e =
    absurd (elim (nat_lt (port_of first) (width s.ty)) as
    (λ b. cond b (Read (port_of first)) (Faulted (record { kind = Shape; at = s.at })) ≡ Ended → ⊥)
    [ true ↦ λ e. absurd (cc) | false ↦ λ e. absurd (cc) ] e)
ended_text s (closing p) e = elim (nat_lt p (width s.ty)) as (λ b. nat_lt p (width s.ty) ≡ b → cond b (Read p) Ended ≡ Ended → OwesAt (closing p) s.ty s.text (λ _. []) s.text) [
  | true ↦ λ t e. absurd (cc)
  | false ↦ λ t e. (due_none p (width s.ty) (λ _. []) t (λ r lt. refl), refl)
] refl e
ended_text s stuck e = absurd (cc)

text_in_the_end : (h : List (Event Signal)) (s t : PrintState) → Does print_behaviour.process s h t → print_behaviour.process.want t ≡ Ended → OwesText s (read_in h) t.text
text_in_the_end [] s t same e = subst (λ k. OwesText k (λ _. []) t.text) (sym same) (ended_text t t.step e)
text_in_the_end (Reads p m ∷ h) s t (wants, does) e =
    subst (λ l. OwesText s l t.text) (sym (reads_push p m h)) (one_read s p m (read_in h) t.text wants (text_in_the_end h (read_at s.step s m) t does e))
text_in_the_end (Writes q m ∷ h) s t (wants, is, does) e = absurd (no_write s s.step q wants)

-- What it printed where it has ended: it read one value of the type, and its text is the text of that value.
abbrev pub PrintsText : PrintState → Type 0
PrintsText start = (h : List (Event Signal)) (s : PrintState) → Does print_behaviour.process start h s → print_behaviour.process.want s ≡ Ended → PrintedValue start.ty (λ p. reads p h) s.text

from_opened : (ty : Ty) (at : ℕ) → PrintsText (print_opening ty at)
from_opened ty at h s does e = (opened_text ty at (read_in h) s.text).0 (text_in_the_end h (print_opening ty at) s does e)

pub prints_text : (start : PrintState) → print_behaviour.opening start ≡ start → PrintsText start
prints_text start opens = subst (λ s. PrintsText s) opens (from_opened start.ty start.at)
