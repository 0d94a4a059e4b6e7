-- What a worker makes, one step after another.
use Rattle.std.proofs.Common.{◌≡◌, ℕ, ◌+◌, ◌<◌, ◌≤◌, Bool, true, false, cond, eqb, nat_lt, ◌||◌, zero, suc, List, [], ◌∷◌, ◌++◌, length, refl, sym}
use Rattle.std.proofs.Common.{◌∙◌, ap, subst, arith, append-nil, append_assoc, length-append, Option, Some, None, IfSome, IsSome, Result, Ok, Err}
use Rattle.std.proofs.Common.{OnOk, IfErr, IsOk, IsErrAnd, ◌↔◌}
use Rattle.std.proofs.lemmas.Bool.Decides.{nat_tests}
use mathlib.Core.List.{IsPrefix}
use Rattle.kahn.specs.declared.want.Want.TheVariants.{Read, Write}
use Rattle.kahn.specs.Processes.{Reads, Writes}
use Rattle.kahn.proofs.History.{does_then}
use Rattle.flow_messages.specs.Signals.{Signal, signal_of, carry, stop, ended}
use Rattle.flow_messages.specs.Ends.{View, held, SameEnds, LookedForRoom, LookedForMessages, Put, Taken}
use Rattle.flow_messages.specs.declared.ends.Refused.{Refused}
use Rattle.flow_messages.specs.declared.ends.Why.TheVariants.{Closed}
use Rattle.flow_messages.specs.declared.message.Msg.{Msg}
use Rattle.flow_messages.specs.Cells.{Cell}
use Rattle.flow_base.specs.Machines.{Machine, Taking, state_after_item, state_after_read, Leads}
use Rattle.flow_base.specs.Nodes.{node_state, node_after_read, went_on}
use Rattle.flow_base.specs.declared.node.Phase.TheVariants.{Working}
use Rattle.flow_base.specs.Transducers.{Behaviour, BehaviourLaws}
use Rattle.flow_base.specs.Visits.{read_from, sent_after, longer, Wrote, edge_of, LeavesAlone, Went, WentOn, IsPlaced, PortsHaveEdges}
use Rattle.flow_base.proofs.Carried.{looked_coming, looked_room, same_ends_refl, prefix_same, prefix_then, read_append, sent_append, taken_received, taken_room, put_wrote}
use Rattle.flow_base.proofs.Reached.{opening_does, reached_does}
use Rattle.flow_base.proofs.Visits.{Made, left_alone, not_at}

-- the first of what is certain is what is taken
first_is : (x m : Signal) (c rest : List Signal) → IsPrefix (x ∷ []) c → IsPrefix c (m ∷ rest) → x ≡ m
first_is x m [] rest (more, is) h = absurd (cc)
first_is x m (y ∷ c) rest (more, is) (last, all) = cc

some_held : (x : Signal) (c : List Signal) → IsPrefix (x ∷ []) c → 0 < length c
some_held x [] (more, is) = absurd (cc)
some_held x (y ∷ c) h = omega arith

-- a message that was certain is taken
pub took : (v w : View) (e : ℕ) (x : Signal) (r : Option Msg) → IfSome r (λ m. Taken v e (signal_of m) w) → (0 < held v e → IsSome r) → IsPrefix (x ∷ []) (v.coming e) → Taken v e x w
took v w e x (Some m) some succeeds first = subst (λ y. Taken v e y w) (sym (first_is x (signal_of m) (v.coming e) (w.coming e) first some.coming_here)) some
took v w e x None some succeeds first = absurd (let no = succeeds (some_held x (v.coming e) first) in cc)

-- where room was certain, as much is left but for one message
pub put_room : (v w : View) (f : ℕ) (m : Signal) (message : Msg) (r : Result (Unit {0}) Refused) → OnOk r (Put v f m w) →
    IfErr r (λ x. (x.message ≡ message) × LookedForRoom v f w) → v.room f ≤ w.room f + 1
put_room v w f m message (Ok x) ok refused = ok.room_here
put_room v w f m message (Err x) ok refused = omega (arith, refused.1.more)

-- who looked for room and found what there was
pub looked_nowhere : (v : View) (e : ℕ) → LookedForRoom v e v
looked_nowhere v e = record {
  ends = same_ends_refl v;
  traffic = record { sent = λ k. refl; received = λ k. refl };
  coming = λ k. refl;
  room = λ k ne. refl;
  more = omega arith;
}

-- a put where room was certain
pub put_sure : (v w : View) (f : ℕ) (message : Msg) (r : Result (Unit {0}) Refused) → 0 < v.room f → OnOk r (Put v f (signal_of message) w) →
    IfErr r (λ x. (x.message ≡ message) × LookedForRoom v f w) →
    IsErrAnd r (λ x. x.why ≡ Closed) ↔ (ended (v.sent f) ≡ true) → (ended (v.sent f) ≡ false → 0 < v.room f → IsOk r) → Wrote v f (signal_of message) w
put_sure v w f message r certain ok refused closed succeeds = put_wrote v v w f (signal_of message) message (looked_nowhere v f) r certain ok refused closed succeeds

-- an item that leads on, in a node that works
pub leads_on : {P S : Type 0} (m : Machine P S) (p : P) (s next : S) (at : ℕ) (t : Taking S) (x : Signal) →
    ((y : Cell) → state_after_read (m.move p s) y ≡ state_after_item t y) → Leads t x next → node_state (p, next) Working at
    ≡ node_after_read m Working (node_state (p, s) Working at) x
leads_on m p s next at t (carry y) reads leads = sym (ap (went_on m (node_state (p, s) Working at)) (reads y ∙ leads))
leads_on m p s next at t stop reads leads = absurd leads

-- a node's edges, as its worker sees them
pub wired : {S : Type 0} (b : Behaviour S) (inputs outputs : List ℕ) (s : S) (v : View) → IsPlaced b inputs outputs s v → PortsHaveEdges inputs outputs (b.inputs s) (b.outputs s) v
wired b inputs outputs s v placed = record { each_input = placed.each_input; each_output = placed.each_output; reads = placed.reads; writes = placed.writes }

-- who does nothing leaves all alone, and who looks for messages at an input does
pub alone_still : (inputs outputs : List ℕ) (a : View) → LeavesAlone inputs outputs a a
alone_still inputs outputs a = record {
  traffic = record { sent = λ k. refl; received = λ k. refl };
  more_coming = λ e. prefix_same (a.coming e) (a.coming e) refl;
  more_room = λ e. omega arith;
  coming = λ e none. refl;
  room = λ e none. refl;
}

pub alone_looked : (inputs outputs : List ℕ) (v w : View) (p : ℕ) → p < length inputs → LookedForMessages v (edge_of inputs p) w → LeavesAlone inputs outputs v w
alone_looked inputs outputs v w p there looked = record {
  traffic = looked.traffic;
  more_coming = λ e. looked_coming v w (edge_of inputs p) e looked;
  more_room = λ e. omega (arith, looked.room e);
  coming = λ e none. looked.coming e (not_at inputs e p none there);
  room = λ e none. looked.room e;
}

pub alone_room : (inputs outputs : List ℕ) (v w : View) (q : ℕ) → q < length outputs → LookedForRoom v (edge_of outputs q) w → LeavesAlone inputs outputs v w
alone_room inputs outputs v w q there looked = record {
  traffic = looked.traffic;
  more_coming = λ e. prefix_same (v.coming e) (w.coming e) (looked.coming e);
  more_room = λ e. looked_room v w (edge_of outputs q) e looked;
  coming = λ e none. looked.coming e;
  room = λ e none. looked.room e (not_at outputs e q none there);
}

-- one event more
one_longer : {X : Type 0} (h : List X) (x : X) (n : ℕ) → length h ≡ n → length (h ++ x ∷ []) ≡ n + 1
one_longer h x n counts = length-append h (x ∷ []) ∙ ap (λ l. l + 1) counts

-- some steps in all, where there were some in one part
some_in_all : (n k : ℕ) → (nat_lt 0 n || nat_lt 0 k) ≡ nat_lt 0 (n + k)
some_in_all zero k = grind (arith, nat_tests)
some_in_all (suc n) k = grind (arith, nat_tests)

module _ {S : Type 0} (b : Behaviour S) (inputs outputs : List ℕ) where
  pub went_none : (s : S) (a : View) → Went inputs outputs b s a s a 0
  unfolding read_from sent_after
  went_none s a = record {
    history = [];
    does = refl;
    carried = record { received = λ e. sym (append-nil (a.received e)); sent = λ e. refl };
    spares = record { coming = λ e none. prefix_same (a.coming e) (a.coming e) refl; room = λ e none. omega arith };
    counts = refl;
    calm = λ h. alone_still inputs outputs a;
  }

  module _ {s : S} {a : View} {t : S} {v : View} {n : ℕ} (went : Went inputs outputs b s a t v n) where
    -- it read a message
    pub went_read : (p : ℕ) (m : Signal) (t' : S) (w : View) → p < length inputs → b.process.want t ≡ Read p → Taken v (edge_of inputs p) m w → t'
        ≡ b.process.read t m → Went inputs outputs b s a t' w (n + 1)
    unfolding read_from sent_after
    went_read p m t' w there wants state_after_item is =
        let f = edge_of inputs p in
        let edge = edge_of inputs in
        let h = went.history in
        record {
          history = h ++ Reads p m ∷ [];
          does = does_then b.process s t t' h (Reads p m ∷ []) went.does (wants, sym is);
          carried = record {
            received = λ e. taken_received v w f e m state_after_item ∙ ap (λ l. l ++ cond (eqb e f) (m ∷ []) []) (went.carried.received e)
                ∙ append_assoc (a.received e) (read_from edge e h) (cond (eqb e f) (m ∷ []) [])
                ∙ ap (λ l. a.received e ++ l) (read_append edge e h (Reads p m ∷ []));
            sent = λ e. state_after_item.sent e ∙ went.carried.sent e ∙ sym (sent_append (edge_of outputs) e (a.sent e) h (Reads p m ∷ []));
          };
          spares = record {
            coming = λ e none. prefix_then (a.coming e) (v.coming e) (w.coming e) (went.spares.coming e none)
                (prefix_same (v.coming e) (w.coming e) (state_after_item.coming e (not_at inputs e p none there)));
            room = λ e none. omega (arith, went.spares.room e none, taken_room v w f e m state_after_item);
          };
          counts = one_longer h (Reads p m) n went.counts;
          calm = λ h. absurd (omega arith);
        }

    -- it wrote a message
    pub went_write : (q : ℕ) (m : Signal) (t' : S) (w : View) → q < length outputs → b.process.want t ≡ Write q → m ≡ b.process.written t →
        Wrote v (edge_of outputs q) m w → t' ≡ b.process.wrote t → Went inputs outputs b s a t' w (n + 1)
    unfolding read_from sent_after
    went_write q m t' w there wants told wrote is =
        let f = edge_of outputs q in
        let edge = edge_of inputs in
        let h = went.history in
        record {
          history = h ++ Writes q m ∷ [];
          does = does_then b.process s t t' h (Writes q m ∷ []) went.does (wants, sym told, sym is);
          carried = record {
            received = λ e. wrote.received e ∙ went.carried.received e ∙ ap (λ l. a.received e ++ l) (sym (append-nil (read_from edge e h)) ∙ read_append edge e h (Writes q m ∷ []));
            sent = λ e. wrote.sent e ∙ ap (λ l. cond (eqb e f) (longer l m) l) (went.carried.sent e) ∙ sym (sent_append (edge_of outputs) e (a.sent e) h (Writes q m ∷ []));
          };
          spares = record {
            coming = λ e none. prefix_then (a.coming e) (v.coming e) (w.coming e) (went.spares.coming e none) (wrote.coming e);
            room = λ e none. omega (arith, went.spares.room e none, wrote.room e (not_at outputs e q none there));
          };
          counts = one_longer h (Writes q m) n went.counts;
          calm = λ h. absurd (omega arith);
        }

    -- it only looked
    pub went_alone : (w : View) → LeavesAlone inputs outputs v w → Went inputs outputs b s a t w n
    went_alone w alone = record {
      history = went.history;
      does = went.does;
      counts = went.counts;
      carried = record {
        received = λ e. alone.traffic.received e ∙ went.carried.received e;
        sent = λ e. alone.traffic.sent e ∙ went.carried.sent e;
      };
      spares = record {
        coming = λ e none. prefix_then (a.coming e) (v.coming e) (w.coming e) (went.spares.coming e none) (alone.more_coming e);
        room = λ e none. omega (arith, went.spares.room e none, alone.more_room e);
      };
      calm = λ h. left_alone inputs outputs a v w (went.calm h) alone;
    }

    -- it looked for room
    pub went_looked : (q : ℕ) (w : View) → q < length outputs → LookedForRoom v (edge_of outputs q) w → Went inputs outputs b s a t w n
    went_looked q w there looked = went_alone w (record {
      traffic = looked.traffic;
      more_coming = λ e. prefix_same (v.coming e) (w.coming e) (looked.coming e);
      more_room = λ e. looked_room v w (edge_of outputs q) e looked;
      coming = λ e none. looked.coming e;
      room = λ e none. looked.room e (not_at outputs e q none there);
    })

-- where some steps were made, and where none were
some_made : {X : Type 0} (h : List X) (n : ℕ) (any : Bool) → length h ≡ n → nat_lt 0 n ≡ any → any ≡ true → h ≡ [] → ⊥
some_made h n any counts is some none = let wrong : false ≡ true = sym (ap (nat_lt 0) (sym counts ∙ ap length none)) ∙ is ∙ some in cc

none_counted : (n : ℕ) (any : Bool) → nat_lt 0 n ≡ any → any ≡ false → n ≡ 0
none_counted zero any is none = refl
none_counted (suc n) any is none = absurd (let some : nat_lt 0 (suc n) ≡ true = grind (arith, nat_tests) in let wrong : true ≡ false = sym some ∙ is ∙ none in cc)

none_made : {X : Type 0} (h : List X) (n : ℕ) (any : Bool) → length h ≡ n → nat_lt 0 n ≡ any → any ≡ false → h ≡ []
none_made [] n any counts is none = refl
none_made (x ∷ h) n any counts is none = absurd (let zero_steps = none_counted n any is none in omega arith)

counted : {X : Type 0} (h : List X) (any : Bool) → (any ≡ true → h ≡ [] → ⊥) → (any ≡ false → h ≡ []) → nat_lt 0 (length h) ≡ any
counted [] true some none = absurd (some refl refl)
counted [] false some none = refl
counted (x ∷ h) true some none = grind (arith, nat_tests)
counted (x ∷ h) false some none = absurd (let no = none refl in cc)

module _ {S : Type 0} {b : Behaviour S} {inputs outputs : List ℕ} {s : S} {a : View} {t : S} {v : View} {any : Bool} where
  -- the visit goes on from there
  pub made_went : WentOn inputs outputs b s a t v any → BehaviourLaws b → IsPlaced b inputs outputs s a → SameEnds a v → Made b inputs outputs s a t v any
  made_went (n, went, is) laws placed ends = record {
    ends = ends;
    reached = reached_does b laws went.history s t went.does placed.reached;
    opening = opening_does b laws went.history s t went.does;
    history = went.history;
    does = went.does;
    carried = went.carried;
    spares = went.spares;
    some = some_made went.history n any went.counts is;
    none = none_made went.history n any went.counts is;
    calm = λ none. went.calm (none_counted n any is none);
  }

  -- what a visit has made so far
  pub went_made : Made b inputs outputs s a t v any → WentOn inputs outputs b s a t v any
  went_made made =
      let is = counted made.history any made.some made.none in (
        length made.history,
        record {
          history = made.history;
          does = made.does;
          counts = refl;
          carried = made.carried;
          spares = made.spares;
          calm = λ none. made.calm (sym is ∙ ap (nat_lt 0) none);
        },
        is,
      )

-- steps, and then more steps
module _ {S : Type 0} (b : Behaviour S) (inputs outputs : List ℕ) where
  pub went_further : {s : S} {a : View} {t : S} {v : View} {n : ℕ} {u : S} {w : View} {k : ℕ} → Went inputs outputs b s a t v n →
      Went inputs outputs b t v u w k → Went inputs outputs b s a u w (n + k)
  went_further {s} {a} {t} {v} {n} {u} {w} {k} first next =
      let g = first.history in
      let h = next.history in
      let edge = edge_of inputs in
      record {
        history = g ++ h;
        does = does_then b.process s t u g h first.does next.does;
        counts = length-append g h ∙ ap (λ l. l + length h) first.counts ∙ ap (λ l. n + l) next.counts;
        carried = record {
          received = λ e. next.carried.received e ∙ ap (λ l. l ++ read_from edge e h) (first.carried.received e)
              ∙ append_assoc (a.received e) (read_from edge e g) (read_from edge e h) ∙ ap (λ l. a.received e ++ l) (read_append edge e g h);
          sent = λ e. next.carried.sent e ∙ ap (λ l. sent_after (edge_of outputs) e l h) (first.carried.sent e) ∙ sym (sent_append (edge_of outputs) e (a.sent e) g h);
        };
        spares = record {
          coming = λ e none. prefix_then (a.coming e) (v.coming e) (w.coming e) (first.spares.coming e none) (next.spares.coming e none);
          room = λ e none. omega (arith, first.spares.room e none, next.spares.room e none);
        };
        calm = λ is. left_alone inputs outputs a v w (first.calm (omega arith)) (next.calm (omega arith));
      }

  pub went_on_alone : (m : ℕ) {s : S} {a : View} {t : S} {v : View} → WentOn inputs outputs b s a t v (nat_lt 0 m) → (w : View) →
      LeavesAlone inputs outputs v w → WentOn inputs outputs b s a t w (nat_lt 0 m)
  went_on_alone m {s} {a} {t} {v} (n, went, is) w alone = (n, went_alone b inputs outputs went w alone, is)

  pub went_then : (m : ℕ) {s : S} {a : View} {t : S} {v : View} {u : S} {w : View} {k : ℕ} → WentOn inputs outputs b s a t v (nat_lt 0 m) →
      Went inputs outputs b t v u w k → WentOn inputs outputs b s a u w (nat_lt 0 (m + k))
  went_then m {s} {a} {t} {v} {u} {w} {k} (n, first, is) next = (n + k, went_further first next, sym (some_in_all n k) ∙ ap (λ any. any || nat_lt 0 k) is ∙ some_in_all m k)
