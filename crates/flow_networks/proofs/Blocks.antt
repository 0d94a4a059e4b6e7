-- What the events of a block carry over the edges at the ports of a node.
use Rattle.std.proofs.Common.{◌≡◌, ◌≢◌, ℕ, zero, suc, ◌<◌, Bool, true, false, cond, eqb, List, [], ◌∷◌, ◌++◌, length, Option, ◌⊎◌, inl}
use Rattle.std.proofs.Common.{inr, refl, sym, ◌∙◌, ap, subst, arith, append-nil, append_assoc, eq-eqb, ne_eqb, eqb-true}
use Rattle.std.proofs.Props.{props}
use Rattle.std.specs.List.{All}
use Rattle.std.proofs.lemmas.Bool.{cases_eq, cases_lt, cases_Bool}
use Rattle.std.proofs.lemmas.List.Elements.{All-nil, All-cons}
use mathlib.Core.Logic.{∥∥₁_elim}
use Rattle.kahn.specs.declared.want.Want.TheVariants.{Write}
use Rattle.kahn.specs.Processes.{Event, Reads, Writes, Does, IsLawfulProcess, reads, writes}
use Rattle.kahn.proofs.History.{does_then, writes_push, writes_push_other, writes_push_read}
use Rattle.flow_messages.specs.declared.flat.Flat.{Flat}
use Rattle.flow_messages.specs.declared.flat.Flat.TheVariants.{Unit as UnitFlat, Bool as BoolFlat, Int as IntFlat, End as EndFlat}
use Rattle.flow_messages.specs.declared.message.Kind.{Kind}
use Rattle.flow_messages.specs.Cells.{Cell}
use Rattle.flow_messages.specs.Signals.{Signal, signals, signal_of, carry, stop, ended, orderly}
use Rattle.flow_messages.specs.Flats.{message_of, flat_signals}
use Rattle.flow_messages.specs.Kinds.{fits, FitsEdge, TakesKind}
use Rattle.flow_messages.proofs.Fitting.{kind_fits}
use Rattle.flow_base.specs.Ranges.{SignalsOfKind}
use Rattle.flow_base.specs.Transducers.{Behaviour, BehaviourLaws}
use Rattle.flow_base.specs.Visits.{read_from, sent_after, longer, edge_of, IsReached}
use Rattle.flow_base.proofs.Reached.{reached_read, reached_wrote, written_fits, wants_output}
use Rattle.flow_networks.specs.Blocks.{AreApart}
use Rattle.flow_networks.proofs.Turns.{ended_has}

-- what was read from the edge at the first port, where nothing was read at another
push_one : (c : Bool) (m : Signal) (from rest : List Signal) → from ≡ cond c rest [] → cond c (m ∷ from) from ≡ cond c (m ∷ rest) []
push_one true m from rest is = ap (λ l. m ∷ l) is
push_one false m from rest is = is

either_way : (c : Bool) (l : List Signal) → l ≡ cond c l l
either_way true l = refl
either_way false l = refl

pub read_block : (edge : ℕ → ℕ) (e : ℕ) (h : List (Event Signal)) → ((p : ℕ) → p ≢ 0 → reads p h ≡ []) → read_from edge e h ≡ cond (eqb e (edge 0)) (reads 0 h) []
unfolding read_from
read_block edge e [] none = either_way (eqb e (edge 0)) []
read_block edge e (Reads zero m ∷ h) none =
    let later : (p : ℕ) → p ≢ 0 → reads p h ≡ [] = λ p ne. sym (ap (λ c. cond c (m ∷ reads p h) (reads p h)) (ne_eqb p 0 ne)) ∙ none p ne in
    push_one (eqb e (edge 0)) m (read_from edge e h) (reads 0 h) (read_block edge e h later)
read_block edge e (Reads (suc p) m ∷ h) none =
    let some : m ∷ reads (suc p) h ≡ [] = sym (ap (λ c. cond c (m ∷ reads (suc p) h) (reads (suc p) h)) (eq-eqb (suc p) (suc p) refl)) ∙ none (suc p) (λ is. omega (arith, is)) in
    absurd (cc)
read_block edge e (Writes q m ∷ h) none = read_block edge e h none

-- a list with these messages more, each unless it had ended
abbrev with_more : List Signal → List Signal → List Signal
with_more l [] = l
with_more l (m ∷ ms) = with_more (longer l m) ms

with_shut : (l ms : List Signal) → ended l ≡ true → with_more l ms ≡ l
with_shut l [] shut = refl
with_shut l (m ∷ ms) shut =
    let same : longer l m ≡ l = ap (λ c. cond c l (l ++ m ∷ [])) shut in
    ap (λ k. with_more k ms) same ∙ with_shut l ms shut

open_more : (l : List Signal) (x : Cell) → ended l ≡ false → ended (l ++ carry x ∷ []) ≡ false
unfolding ended
open_more [] x free = refl
open_more (carry y ∷ l) x free = open_more l x free
open_more (stop ∷ l) x free = absurd (cc)

with_open : (l ms : List Signal) → orderly ms ≡ true → ended l ≡ false → with_more l ms ≡ l ++ ms
unfolding orderly
with_open l [] last free = sym (append-nil l)
with_open l (carry x ∷ ms) last free =
    let one : longer l (carry x) ≡ l ++ carry x ∷ [] = ap (λ c. cond c l (l ++ carry x ∷ [])) free in
    ap (λ k. with_more k ms) one ∙ with_open (l ++ carry x ∷ []) ms last (open_more l x free) ∙ append_assoc l (carry x ∷ []) ms
with_open l (stop ∷ []) last free = ap (λ c. cond c l (l ++ stop ∷ [])) free
with_open l (stop ∷ m ∷ ms) last free = absurd (cc)

with_block : (l ms : List Signal) → orderly ms ≡ true → with_more l ms ≡ cond (ended l) l (l ++ ms)
with_block l ms last = elim (cases_Bool (ended l)) [
  | inl shut ↦ with_shut l ms shut ∙ ap (λ c. cond c l (l ++ ms)) (sym shut)
  | inr free ↦ with_open l ms last free ∙ ap (λ c. cond c l (l ++ ms)) (sym free)
]

with_one : (c : Bool) (l : List Signal) (m : Signal) (ms : List Signal) → with_more (cond c (longer l m) l) ms ≡ with_more l (cond c (m ∷ ms) ms)
with_one true l m ms = refl
with_one false l m ms = refl

-- two tests that say the same
same_test : (e f p q : ℕ) → (e ≡ f → p ≡ q) → (p ≡ q → e ≡ f) → eqb e f ≡ eqb p q
same_test e f p q to from = elim (cases_eq e f) [
  | inl same ↦ eq-eqb e f same ∙ sym (eq-eqb p q (to same))
  | inr other ↦ ne_eqb e f other ∙ sym (ne_eqb p q (λ h. other (from h)))
]

under : (q n : ℕ) → q < suc n → q ≢ n → q < n
under q n low other = elim (cases_lt q n) [
  | inl is ↦ is
  | inr past ↦ absurd (other (omega (arith, low, past)))
]

-- an edge is at one of the first ports, or at none
pub at_some : (edge : ℕ → ℕ) (e n : ℕ) → ((q : ℕ) × (q < n) × (e ≡ edge q)) ⊎ ((q : ℕ) → q < n → e ≢ edge q)
at_some edge e zero = inr (λ q low. absurd (omega (arith, low)))
at_some edge e (suc n) = go (at_some edge e n) (cases_eq e (edge n)) where
  go : ((q : ℕ) × (q < n) × (e ≡ edge q)) ⊎ ((q : ℕ) → q < n → e ≢ edge q) → (e ≡ edge n) ⊎ (e ≢ edge n) → ((q : ℕ) × (q < suc n) × (e ≡ edge q)) ⊎ ((q : ℕ) → q < suc n → e ≢ edge q)
  go (inl (q, low, is)) last = inl (q, omega (arith, low), is)
  go (inr none) (inl is) = inl (n, omega arith, is)
  go (inr none) (inr ne) = inr (λ q low. before q (cases_eq q n) low) where
    before : (q : ℕ) → (q ≡ n) ⊎ (q ≢ n) → q < suc n → e ≢ edge q
    before q (inl same) low = λ is. ne (is ∙ ap edge same)
    before q (inr other) low = none q (under q n low other)

module _ {S : Type 0} (b : Behaviour S) (laws : BehaviourLaws b) (outputs : List ℕ) (apart : AreApart outputs) (o : S) (each_output : length outputs ≡ b.outputs o) where
  there_is : (s : S) (q : ℕ) → b.opening s ≡ o → b.process.want s ≡ Write q → IsReached b s → q < length outputs
  there_is s q opens wants reached = let same : b.outputs s ≡ b.outputs o = sym (laws.same_outputs s) ∙ ap b.outputs opens in omega (arith, wants_output b laws s q wants reached, same, each_output)

  -- what was sent on the edge at an output port, and on another
  sent_at : (e q : ℕ) → q < length outputs → e ≡ edge_of outputs q → (h : List (Event Signal)) (s t : S) → b.opening s ≡ o → IsReached b s →
      Does b.process s h t → (l : List Signal) → sent_after (edge_of outputs) e l h ≡ with_more l (writes q h)
  unfolding sent_after
  sent_at e q low at [] s t opens reached does l = refl
  sent_at e q low at (Reads p m ∷ h) s t opens reached (wants, does) l =
      sent_at e q low at h (b.process.read s m) t (laws.read_opening s p m wants ∙ opens)
      (reached_read b laws s (b.process.read s m) p m wants refl reached) does l
  sent_at e q low at (Writes p m ∷ h) s t opens reached (wants, is, does) l =
      let there = there_is s p opens wants reached in
      let test : eqb e (edge_of outputs p) ≡ eqb q p = same_test e (edge_of outputs p) q p (λ same. apart q p low there (sym at ∙ same)) (λ same. at ∙ ap (edge_of outputs) same) in
      sent_at e q low at h (b.process.wrote s) t (laws.wrote_opening s p wants ∙ opens)
      (reached_wrote b laws s (b.process.wrote s) p wants refl reached) does (cond (eqb e (edge_of outputs p)) (longer l m) l)
      ∙ ap (λ c. with_more (cond c (longer l m) l) (writes q h)) test
      ∙ with_one (eqb q p) l m (writes q h)

  sent_none : (e : ℕ) → ((q : ℕ) → q < length outputs → e ≢ edge_of outputs q) → (h : List (Event Signal)) (s t : S) → b.opening s ≡ o → IsReached b s
      → Does b.process s h t → (l : List Signal) → sent_after (edge_of outputs) e l h ≡ l
  unfolding sent_after
  sent_none e away [] s t opens reached does l = refl
  sent_none e away (Reads p m ∷ h) s t opens reached (wants, does) l =
      sent_none e away h (b.process.read s m) t (laws.read_opening s p m wants ∙ opens)
      (reached_read b laws s (b.process.read s m) p m wants refl reached) does l
  sent_none e away (Writes p m ∷ h) s t opens reached (wants, is, does) l =
      sent_none e away h (b.process.wrote s) t (laws.wrote_opening s p wants ∙ opens)
      (reached_wrote b laws s (b.process.wrote s) p wants refl reached) does (cond (eqb e (edge_of outputs p)) (longer l m) l)
      ∙ ap (λ c. cond c (longer l m) l) (ne_eqb e (edge_of outputs p) (away p (there_is s p opens wants reached)))

-- what a node writes to a port fits its kind
module _ {S : Type 0} (b : Behaviour S) (laws : BehaviourLaws b) where
  kind_still : (s t : S) (q : ℕ) → b.opening t ≡ b.opening s → b.kind_out t q ≡ b.kind_out s q
  kind_still s t q is = sym (laws.same_kinds_out t q) ∙ ap (λ o. b.kind_out o q) is ∙ laws.same_kinds_out s q

  of_one : (k : Kind) (c : Bool) (m : Signal) (ms : List Signal) → (c ≡ true → fits k m ≡ true) → SignalsOfKind k ms → SignalsOfKind k (cond c (m ∷ ms) ms)
  of_one k true (carry x) ms fit rest = (fit refl, rest)
  of_one k true stop ms fit rest = (tt, rest)
  of_one k false m ms fit rest = rest

  pub writes_of_kind : (k : Kind) (q : ℕ) (h : List (Event Signal)) (s t : S) → IsReached b s → b.kind_out s q ≡ k → Does b.process s h t → SignalsOfKind k (writes q h)
  writes_of_kind k q [] s t reached is does = tt
  writes_of_kind k q (Reads p m ∷ h) s t reached is (wants, does) =
      writes_of_kind k q h (b.process.read s m) t (reached_read b laws s (b.process.read s m) p m wants refl reached)
      (kind_still s (b.process.read s m) q (laws.read_opening s p m wants) ∙ is) does
  writes_of_kind k q (Writes p m ∷ h) s t reached is (wants, told, does) =
      of_one k (eqb q p) m (writes q h)
      (λ same. let at : q ≡ p = eqb-true q p same in
      subst (λ n. fits n m ≡ true) is
      (subst (λ n. fits (b.kind_out s n) m ≡ true) (sym at)
      (subst (λ n. fits (b.kind_out s p) n ≡ true) told (written_fits b laws s p wants reached))))
      (writes_of_kind k q h (b.process.wrote s) t (reached_wrote b laws s (b.process.wrote s) p wants refl reached) (kind_still s (b.process.wrote s) q (laws.wrote_opening s p wants) ∙ is) does)

  -- and nothing after the end
  abbrev InOrder : ℕ → List (Event Signal) → List (Event Signal) → Type 0
  InOrder q before h = (orderly (writes q h) ≡ true) × (ended (writes q before) ≡ true → writes q h ≡ [])

  no_end_yet : (before : List (Event Signal)) (o s : S) (q : ℕ) → IsLawfulProcess b.process o (b.inputs o) (b.outputs o) → Does b.process o before s →
      b.process.want s ≡ Write q → ended (writes q before) ≡ true → ⊥
  no_end_yet before o s q lawful did wants shut = lawful.open_out before s q did wants (ended_has b.process laws.end (writes q before) shut)

  ends_with : (ms : List Signal) → ended (ms ++ stop ∷ []) ≡ true
  unfolding ended
  ends_with [] = refl
  ends_with (carry x ∷ ms) = ends_with ms
  ends_with (stop ∷ ms) = refl

  ends_after : (ms : List Signal) (m : Signal) → ended ms ≡ true → ended (ms ++ m ∷ []) ≡ true
  unfolding ended
  ends_after [] m h = absurd (cc)
  ends_after (carry x ∷ ms) m h = ends_after ms m h
  ends_after (stop ∷ ms) m h = refl

  orderly_one : (m : Signal) (ms rest : List Signal) → orderly rest ≡ true → (ended (ms ++ m ∷ []) ≡ true → rest ≡ []) → orderly (m ∷ rest) ≡ true
  unfolding orderly
  orderly_one (carry x) ms rest last none = last
  orderly_one stop ms rest last none = ap (λ l. orderly (stop ∷ l)) (none (ends_with ms))

  in_order_one : (q p : ℕ) (o : S) → IsLawfulProcess b.process o (b.inputs o) (b.outputs o) →
      (before : List (Event Signal)) (m : Signal) (h : List (Event Signal)) (s : S) → Does b.process o before s → b.process.want s ≡ Write p →
      InOrder q (before ++ Writes p m ∷ []) h → (q ≡ p) ⊎ (q ≢ p) → InOrder q before (Writes p m ∷ h)
  in_order_one q p o lawful before m h s did wants more (inl same) =
      let pushed = writes_push q p m before same in
      let now : writes q (Writes p m ∷ h) ≡ m ∷ writes q h = ap (λ c. cond c (m ∷ writes q h) (writes q h)) (eq-eqb q p same) in (
        ap orderly now ∙ orderly_one m (writes q before) (writes q h) more.0 (λ shut. more.1 (ap ended pushed ∙ shut)),
        λ shut. absurd (no_end_yet before o s q lawful did (wants ∙ ap Write (sym same)) shut),
      )
  in_order_one q p o lawful before m h s did wants more (inr other) =
      let now : writes q (Writes p m ∷ h) ≡ writes q h = ap (λ c. cond c (m ∷ writes q h) (writes q h)) (ne_eqb q p other) in
      (ap orderly now ∙ more.0, λ shut. now ∙ more.1 (ap ended (writes_push_other q p m before other) ∙ shut))

  in_order : (q : ℕ) (o : S) → IsLawfulProcess b.process o (b.inputs o) (b.outputs o) → (before h : List (Event Signal)) (s t : S) →
      Does b.process o before s → Does b.process s h t → InOrder q before h
  unfolding orderly
  in_order q o lawful before [] s t did does = (refl, λ shut. refl)
  in_order q o lawful before (Reads p m ∷ h) s t did (wants, does) =
      let more = in_order q o lawful (before ++ Reads p m ∷ []) h (b.process.read s m) t (does_then b.process o s (b.process.read s m) before (Reads p m ∷ []) did (wants, refl)) does in
      (more.0, λ shut. more.1 (ap ended (writes_push_read q p m before) ∙ shut))
  in_order q o lawful before (Writes p m ∷ h) s t did (wants, is, does) =
      in_order_one q p o lawful before m h s did wants
      (in_order q o lawful (before ++ Writes p m ∷ []) h (b.process.wrote s) t
      (does_then b.process o s (b.process.wrote s) before (Writes p m ∷ []) did (wants, is, refl)) does) (cases_eq q p)

  pub writes_in_order : (q : ℕ) (h : List (Event Signal)) (s t : S) → IsReached b s → Does b.process s h t → orderly (writes q h) ≡ true
  writes_in_order q h s t reached does =
      ∥∥₁_elim reached (hlevel props) (λ (before, did). (in_order q (b.opening s) (laws.opened (b.opening s) (laws.same_opening s)).lawful before h s t did does).0)

-- scalars of a kind fit the edges that take that kind
pub flats_fit : (k : Kind) (xs : List Flat) (of : Option Kind) → TakesKind of k → SignalsOfKind k (flat_signals xs) → All (λ x. FitsEdge of (signal_of (message_of x))) xs
unfolding signals
flats_fit k [] of takes is = All-nil (λ x. FitsEdge of (signal_of (message_of x)))
flats_fit k (UnitFlat ∷ xs) of takes (is, more) = All-cons (λ x. FitsEdge of (signal_of (message_of x))) UnitFlat xs (kind_fits of k _ takes is) (flats_fit k xs of takes more)
flats_fit k (BoolFlat x ∷ xs) of takes (is, more) = All-cons (λ x. FitsEdge of (signal_of (message_of x))) (BoolFlat x) xs (kind_fits of k _ takes is) (flats_fit k xs of takes more)
flats_fit k (IntFlat x ∷ xs) of takes (is, more) = All-cons (λ x. FitsEdge of (signal_of (message_of x))) (IntFlat x) xs (kind_fits of k _ takes is) (flats_fit k xs of takes more)
flats_fit k (EndFlat ∷ xs) of takes (is, more) = All-cons (λ x. FitsEdge of (signal_of (message_of x))) EndFlat xs (kind_fits of k stop takes refl) (flats_fit k xs of takes more)

-- what was sent on an edge after the events, where the edge is at an output port, and where it is not
module _ {S : Type 0} (b : Behaviour S) (laws : BehaviourLaws b) (outputs : List ℕ) (apart : AreApart outputs) (s : S) (reached : IsReached b s) (each_output : length outputs ≡ b.outputs s) where
  pub sent_some : (e q : ℕ) → q < length outputs → e ≡ edge_of outputs q → (h : List (Event Signal)) (t : S) → Does b.process s h t →
      (l written : List Signal) → writes q h ≡ written → orderly written ≡ true → sent_after (edge_of outputs) e l h ≡ cond (ended l) l (l ++ written)
  sent_some e q low at h t does l written there last = sent_at b laws outputs apart (b.opening s) each_output' e q low at h s t refl reached does l
      ∙ ap (with_more l) there ∙ with_block l written last where
        each_output' : length outputs ≡ b.outputs (b.opening s)
        each_output' = each_output ∙ sym (laws.same_outputs s)

  pub sent_other : (e : ℕ) → ((q : ℕ) → q < length outputs → e ≢ edge_of outputs q) → (h : List (Event Signal)) (t : S) → Does b.process s h t →
      (l : List Signal) → sent_after (edge_of outputs) e l h ≡ l
  sent_other e away h t does l = sent_none b laws outputs apart (b.opening s) (each_output ∙ sym (laws.same_outputs s)) e away h s t refl reached does l
