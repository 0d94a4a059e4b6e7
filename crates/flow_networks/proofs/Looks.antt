-- One look at the ends after another, and a put after a look.
use Rattle.std.proofs.Common.{◌≡◌, ℕ, ◌<◌, ◌↔◌, Bool, true, false, not, IsTrue, List, [], ◌∷◌, ◌++◌, Result, Ok, Err, OnOk, IfErr, IsOk, IsErrAnd, refl, sym, ◌∙◌, ap, subst, arith}
use Rattle.std.proofs.lemmas.Bool.{false≢true}
use mathlib.Core.List.{IsPrefix}
use Rattle.kahn.specs.declared.want.Want.TheVariants.{Read, Write}
use Rattle.flow_base.specs.Transducers.{Behaviour}
use Rattle.flow_base.proofs.Visits.{no_room}
use Rattle.flow_messages.specs.Signals.{Signal, ended}
use Rattle.flow_messages.specs.Ends.{View, SameEnds, LookedForRoom, Put, Taken}
use Rattle.flow_messages.specs.declared.ends.Refused.{Refused}
use Rattle.flow_messages.specs.declared.ends.Why.TheVariants.{Closed}
use Rattle.flow_messages.specs.declared.message.Msg.{Msg}
use Rattle.flow_networks.specs.declared.edge.Edge.{Edge}
use Rattle.flow_networks.specs.Edges.{in_edge, out_edge}
use Rattle.flow_networks.specs.Steps.{PutInRoom, Moves}

pub same_ends_then : (a b c : View) → SameEnds a b → SameEnds b c → SameEnds a c
same_ends_then a b c h g = record { kinds = λ k. g.kinds k ∙ h.kinds k; writes = λ k. g.writes k ∙ h.writes k; reads = λ k. g.reads k ∙ h.reads k }

pub looked_twice : (a : View) (e : ℕ) (b c : View) → LookedForRoom a e b → LookedForRoom b e c → LookedForRoom a e c
looked_twice a e b c h g = record {
  ends = same_ends_then a b c h.ends g.ends;
  traffic = record { sent = λ k. g.traffic.sent k ∙ h.traffic.sent k; received = λ k. g.traffic.received k ∙ h.traffic.received k };
  coming = λ k. g.coming k ∙ h.coming k;
  room = λ k ne. g.room k ne ∙ h.room k ne;
  more = omega (arith, h.more, g.more);
}

-- a put after a look for room
pub put_looked : (before : View) (e : ℕ) (m : Signal) (after : View) → PutInRoom before e m after → Put before e m after
put_looked before e m after h = record {
  ends = record { kinds = λ k. h.put.ends.kinds k ∙ h.looked.ends.kinds k; writes = λ k. h.put.ends.writes k ∙ h.looked.ends.writes k; reads = λ k. h.put.ends.reads k ∙ h.looked.ends.reads k };
  sent = h.put.sent ∙ ap (λ l. l ++ m ∷ []) (h.looked.traffic.sent e);
  others = λ k ne. h.put.others k ne ∙ h.looked.traffic.sent k;
  received = λ k. h.put.received k ∙ h.looked.traffic.received k;
  coming = λ k ne. h.put.coming k ne ∙ h.looked.coming k;
  coming_here = subst (λ l. IsPrefix l (after.coming e)) (h.looked.coming e) h.put.coming_here;
  room = λ k ne. h.put.room k ne ∙ h.looked.room k ne;
  room_here = omega (arith, h.looked.more, h.put.room_here);
}

-- what a put makes after room was found, by its answer
module _ (before seen after : View) (e : ℕ) (m : Signal) (message : Msg) (looked : LookedForRoom before e seen) where
  pub put_ends : (r : Result (Unit {0}) Refused) → OnOk r (Put seen e m after) → IfErr r (λ x. (x.message ≡ message) × LookedForRoom seen e after) → SameEnds before after
  put_ends (Ok x) ok refused = same_ends_then before seen after looked.ends ok.ends
  put_ends (Err x) ok refused = same_ends_then before seen after looked.ends refused.1.ends

  pub put_or_lost : (r : Result (Unit {0}) Refused) → 0 < seen.room e → OnOk r (Put seen e m after) →
      IfErr r (λ x. (x.message ≡ message) × LookedForRoom seen e after) → IsErrAnd r (λ x. x.why ≡ Closed) ↔ (ended (seen.sent e) ≡ true) →
      (ended (seen.sent e) ≡ false → 0 < seen.room e → IsOk r) → (ended (before.sent e) ≡ false → PutInRoom before e m after)
      × (ended (before.sent e) ≡ true → LookedForRoom before e after)
  put_or_lost (Ok x) certain ok refused closed succeeds =
      (λ free. record { seen = seen; looked = looked; certain = certain; put = ok }, λ shut. absurd (closed.1 (ap ended (looked.traffic.sent e) ∙ shut)))
  put_or_lost (Err x) certain ok refused closed succeeds =
      (λ free. absurd (let no = succeeds (ap ended (looked.traffic.sent e) ∙ free) certain in cc), λ shut. looked_twice before e seen after looked refused.1)

-- a node that read, where a message was taken
pub moves_read : {S : Type 0} (b : Behaviour S) (edges : List Edge) (node : ℕ) (s s' : S) (before after : View) (p e : ℕ) (m : Signal) →
    b.process.want s ≡ Read p → e ≡ in_edge edges node p → Taken before e m after → s' ≡ b.process.read s m →
    Moves b edges node s s' before after (b.process.want s)
moves_read b edges node s s' before after p e m wants edge taken is =
    let parts : Moves b edges node s s' before after (Read p) = (m, subst (λ f. Taken before f m after) edge taken, is) in
    subst (Moves b edges node s s' before after) (sym wants) parts

-- a node that wrote, where its message was put or lost
pub moves_write : {S : Type 0} (b : Behaviour S) (edges : List Edge) (node : ℕ) (s s' : S) (before after : View) (q e : ℕ) (m : Signal) →
    b.process.want s ≡ Write q → e ≡ out_edge edges node q → m ≡ b.process.written s → s' ≡ b.process.wrote s →
    (ended (before.sent e) ≡ false → PutInRoom before e m after) × (ended (before.sent e) ≡ true → LookedForRoom before e after) →
    Moves b edges node s s' before after (b.process.want s)
moves_write b edges node s s' before after q e m wants edge message is put =
    let at_edge = subst (λ f. (ended (before.sent f) ≡ false → PutInRoom before f m after) × (ended (before.sent f) ≡ true → LookedForRoom before f after)) edge put in
    let parts : Moves b edges node s s' before after (Write q) = (is, (λ free. subst (λ n. PutInRoom before (out_edge edges node q) n after) message (at_edge.0 free)), at_edge.1) in
    subst (Moves b edges node s s' before after) (sym wants) parts

-- what a node wants is not there just where its end answers so
pub not_there : (r : Bool) (n : ℕ) → IsTrue r ↔ (0 < n) → IsTrue (not r) ↔ (n ≡ 0)
not_there true n iff = (λ h. absurd (false≢true h), λ none. absurd (omega (arith, none, iff.0 refl)))
not_there false n iff = (λ h. no_room false n iff refl, λ h. refl)
