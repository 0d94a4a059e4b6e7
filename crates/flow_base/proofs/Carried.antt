-- What the events of a visit take from the edges, and what they put there.
use Rattle.std.proofs.Common.{◌≡◌, ◌≢◌, ℕ, ◌<◌, ◌≤◌, Bool, true, false, cond, eqb, List, [], ◌∷◌, ◌++◌, refl, sym, ◌∙◌, ap, subst, arith, append-nil}
use Rattle.std.proofs.Common.{append_assoc, eq-eqb, ne_eqb, inl, inr, Result, Ok, Err, OnOk, IfErr, IsOk, IsErrAnd, ◌↔◌}
use Rattle.std.proofs.lemmas.Bool.{cases_eq, cases_Bool}
use mathlib.Core.List.{IsPrefix}
use Rattle.kahn.specs.Processes.{Event, Reads, Writes}
use Rattle.flow_messages.specs.Signals.{Signal, ended}
use Rattle.flow_messages.specs.Ends.{View, SameEnds, LookedForRoom, LookedForMessages, Taken, Put}
use Rattle.flow_messages.specs.declared.ends.Refused.{Refused}
use Rattle.flow_messages.specs.declared.ends.Why.TheVariants.{Closed}
use Rattle.flow_messages.specs.declared.message.Msg.{Msg}
use Rattle.flow_base.specs.Visits.{read_from, sent_after, longer, Wrote}

pub same_ends_refl : (a : View) → SameEnds a a
same_ends_refl a = record { kinds = λ k. refl; writes = λ k. refl; reads = λ k. refl }

pub same_ends_then : (a b c : View) → SameEnds a b → SameEnds b c → SameEnds a c
same_ends_then a b c h g = record { kinds = λ k. g.kinds k ∙ h.kinds k; writes = λ k. g.writes k ∙ h.writes k; reads = λ k. g.reads k ∙ h.reads k }

pub prefix_same : {X : Type 0} (xs ys : List X) → ys ≡ xs → IsPrefix xs ys
prefix_same xs ys is = ([], append-nil xs ∙ sym is)

pub prefix_then : {X : Type 0} (xs ys zs : List X) → IsPrefix xs ys → IsPrefix ys zs → IsPrefix xs zs
prefix_then xs ys zs (more, is) (rest, all) = (more ++ rest, sym (append_assoc xs more rest) ∙ ap (λ l. l ++ rest) is ∙ all)

cond_append : (b : Bool) (m : Signal) (x y z : List Signal) → x ++ y ≡ z → cond b (m ∷ x) x ++ y ≡ cond b (m ∷ z) z
cond_append true m x y z e = ap (λ l. m ∷ l) e
cond_append false m x y z e = e

pub read_append : (edge : ℕ → ℕ) (e : ℕ) (h g : List (Event Signal)) → read_from edge e h ++ read_from edge e g ≡ read_from edge e (h ++ g)
unfolding read_from
read_append edge e [] g = refl
read_append edge e (Reads q m ∷ h) g = cond_append (eqb e (edge q)) m (read_from edge e h) (read_from edge e g) (read_from edge e (h ++ g)) (read_append edge e h g)
read_append edge e (Writes q m ∷ h) g = read_append edge e h g

pub sent_append : (edge : ℕ → ℕ) (e : ℕ) (sent : List Signal) (h g : List (Event Signal)) → sent_after edge e sent (h ++ g) ≡ sent_after edge e (sent_after edge e sent h) g
unfolding sent_after
sent_append edge e sent [] g = refl
sent_append edge e sent (Reads p m ∷ h) g = sent_append edge e sent h g
sent_append edge e sent (Writes q m ∷ h) g = sent_append edge e (cond (eqb e (edge q)) (cond (ended sent) sent (sent ++ m ∷ [])) sent) h g

-- what a take adds to what was received from edge e
pub taken_received : (v w : View) (f e : ℕ) (m : Signal) → Taken v f m w → w.received e ≡ v.received e ++ cond (eqb e f) (m ∷ []) []
taken_received v w f e m t = elim (cases_eq e f) [
  | inl at ↦ ap w.received at ∙ t.received ∙ ap (λ k. v.received k ++ m ∷ []) (sym at) ∙ ap (λ b. v.received e ++ cond b (m ∷ []) []) (sym (eq-eqb e f at))
  | inr ne ↦ t.others e ne ∙ sym (append-nil (v.received e)) ∙ ap (λ b. v.received e ++ cond b (m ∷ []) []) (sym (ne_eqb e f ne))
]

pub taken_room : (v w : View) (f e : ℕ) (m : Signal) → Taken v f m w → v.room e ≤ w.room e
taken_room v w f e m t = elim (cases_eq e f) [
  | inl at ↦ omega (arith, t.room_here, ap v.room at, ap w.room at)
  | inr ne ↦ omega (arith, t.room e ne)
]

-- who looked may have found more, and no less
pub looked_coming : (v w : View) (f e : ℕ) → LookedForMessages v f w → IsPrefix (v.coming e) (w.coming e)
looked_coming v w f e looked = elim (cases_eq e f) [
  | inl at ↦ subst (λ k. IsPrefix (v.coming k) (w.coming k)) (sym at) looked.more
  | inr ne ↦ prefix_same (v.coming e) (w.coming e) (looked.coming e ne)
]

pub looked_room : (v w : View) (f e : ℕ) → LookedForRoom v f w → v.room e ≤ w.room e
looked_room v w f e looked = elim (cases_eq e f) [
  | inl at ↦ omega (arith, looked.more, ap v.room at, ap w.room at)
  | inr ne ↦ omega (arith, looked.room e ne)
]

grown : (v w : View) (f : ℕ) (m : Signal) → w.sent f ≡ longer (v.sent f) m → ((e : ℕ) → e ≢ f → w.sent e ≡ v.sent e) → (e : ℕ) → w.sent e ≡ cond (eqb e f) (longer (v.sent e) m) (v.sent e)
grown v w f m here others e = elim (cases_eq e f) [
  | inl at ↦ ap w.sent at ∙ here ∙ ap (λ k. longer (v.sent k) m) (sym at) ∙ ap (λ b. cond b (longer (v.sent e) m) (v.sent e)) (sym (eq-eqb e f at))
  | inr ne ↦ others e ne ∙ ap (λ b. cond b (longer (v.sent e) m) (v.sent e)) (sym (ne_eqb e f ne))
]

longer_open : (sent : List Signal) (m : Signal) → ended sent ≡ false → sent ++ m ∷ [] ≡ longer sent m
longer_open sent m e = ap (λ b. cond b sent (sent ++ m ∷ [])) (sym e)

longer_shut : (sent : List Signal) (m : Signal) → ended sent ≡ true → sent ≡ longer sent m
longer_shut sent m e = ap (λ b. cond b sent (sent ++ m ∷ [])) (sym e)

put_coming : (u w : View) (f e : ℕ) (m : Signal) → Put u f m w → IsPrefix (u.coming e) (w.coming e)
put_coming u w f e m put = elim (cases_eq e f) [
  | inl at ↦ subst (λ k. IsPrefix (u.coming k) (w.coming k)) (sym at) put.coming_here
  | inr ne ↦ prefix_same (u.coming e) (w.coming e) (put.coming e ne)
]

-- a look for room before, and then a message written
pub wrote_looked : (v u w : View) (f : ℕ) (m : Signal) → LookedForRoom v f u → Wrote u f m w → Wrote v f m w
wrote_looked v u w f m looked wrote = record {
  ends = same_ends_then v u w looked.ends wrote.ends;
  sent = λ e. wrote.sent e ∙ ap (λ l. cond (eqb e f) (longer l m) l) (looked.traffic.sent e);
  received = λ e. wrote.received e ∙ looked.traffic.received e;
  coming = λ e. subst (λ l. IsPrefix l (w.coming e)) (looked.coming e) (wrote.coming e);
  room = λ e ne. wrote.room e ne ∙ looked.room e ne;
}

-- the answers of `room` and then of `put`
module _ (v u w : View) (f : ℕ) (m : Signal) (message : Msg) (looked : LookedForRoom v f u) where
  pub put_wrote : (r : Result (Unit {0}) Refused) → 0 < u.room f → OnOk r (Put u f m w) → IfErr r (λ x. (x.message ≡ message) × LookedForRoom u f w) →
      IsErrAnd r (λ x. x.why ≡ Closed) ↔ (ended (u.sent f) ≡ true) → (ended (u.sent f) ≡ false → 0 < u.room f → IsOk r) → Wrote v f m w
  put_wrote (Ok x) certain ok refused closed succeeds = record {
    ends = same_ends_then v u w looked.ends ok.ends;
    sent = grown v w f m
        (ok.sent ∙ ap (λ l. l ++ m ∷ []) (looked.traffic.sent f) ∙ elim (cases_Bool (ended (v.sent f))) [
          | inl shut ↦ absurd (closed.1 (ap ended (looked.traffic.sent f) ∙ shut))
          | inr free ↦ longer_open (v.sent f) m free
        ])
        (λ e ne. ok.others e ne ∙ looked.traffic.sent e);
    received = λ e. ok.received e ∙ looked.traffic.received e;
    coming = λ e. subst (λ l. IsPrefix l (w.coming e)) (looked.coming e) (put_coming u w f e m ok);
    room = λ e ne. ok.room e ne ∙ looked.room e ne;
  }
  put_wrote (Err x) certain ok refused closed succeeds = record {
    ends = same_ends_then v u w looked.ends refused.1.ends;
    sent = grown v w f m
        (refused.1.traffic.sent f ∙ looked.traffic.sent f ∙ elim (cases_Bool (ended (v.sent f))) [
          | inl shut ↦ longer_shut (v.sent f) m shut
          | inr free ↦ absurd (let no = succeeds (ap ended (looked.traffic.sent f) ∙ free) certain in cc)
        ])
        (λ e ne. refused.1.traffic.sent e ∙ looked.traffic.sent e);
    received = λ e. refused.1.traffic.received e ∙ looked.traffic.received e;
    coming = λ e. prefix_same (v.coming e) (w.coming e) (refused.1.coming e ∙ looked.coming e);
    room = λ e ne. refused.1.room e ne ∙ looked.room e ne;
  }
