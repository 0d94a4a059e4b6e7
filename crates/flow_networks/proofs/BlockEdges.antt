-- What a block makes of the edges at the ports of a node.
use Rattle.std.proofs.Common.{◌≡◌, ◌≢◌, ℕ, ◌+◌, ◌<◌, ◌≤◌, Bool, true, false, cond, eqb, List, [], ◌++◌, length, ◌⊎◌, inl, inr}
use Rattle.std.proofs.Common.{refl, sym, ◌∙◌, ap, subst, arith, append-nil, eq-eqb, ne_eqb, IsTrue}
use Rattle.std.proofs.lemmas.Bool.{cases_eq, cases_lt, cases_Bool}
use mathlib.Core.List.{IsPrefix}
use Rattle.kahn.specs.Processes.{writes}
use Rattle.flow_messages.specs.Signals.{Signal, ended, orderly}
use Rattle.flow_messages.specs.Ends.{View, LookedForRoom, TakenAll, PutAll}
use Rattle.flow_base.specs.Transducers.{Behaviour, BehaviourLaws}
use Rattle.flow_base.specs.Visits.{sent_after, edge_of, IsNone, LeavesAlone, Went, IsReached}
use Rattle.flow_base.proofs.Carried.{same_ends_refl, same_ends_then, prefix_then, prefix_same, looked_room}
use Rattle.flow_base.proofs.Visits.{not_at}
use Rattle.flow_base.proofs.Kernels.{went_none, went_alone, went_further}
use Rattle.flow_networks.specs.Blocks.{AreApart, PutOnFirst, InBlock}
use Rattle.flow_networks.proofs.Blocks.{read_block, at_some, sent_some, sent_other}

-- nothing was put, or a block where room was certain: it is dropped where the end was put before
pub put_or_dropped : (a v : View) (e : ℕ) (ms : List Signal) (r : Bool) → (IsTrue r → PutAll a e ms v) → (r ≡ false → LookedForRoom a e v) → (ended (a.sent e) ≡ false → IsTrue r) → PutAll a e ms v
put_or_dropped a v e ms true put looked sure = put refl
put_or_dropped a v e ms false put looked sure = record {
  ends = (looked refl).ends;
  sent = elim (cases_Bool (ended (a.sent e))) [
    | inl shut ↦ (looked refl).traffic.sent e ∙ ap (λ c. cond c (a.sent e) (a.sent e ++ ms)) (sym shut)
    | inr free ↦ absurd (let no = sure free in cc)
  ];
  others = λ k ne. (looked refl).traffic.sent k;
  received = λ k. (looked refl).traffic.received k;
  coming = λ k ne. (looked refl).coming k;
  coming_here = prefix_same (a.coming e) (v.coming e) ((looked refl).coming e);
  room = λ k ne. (looked refl).room k ne;
  room_here = omega (arith, (looked refl).more);
}

module _ (edges : List ℕ) (ms : List Signal) where
  pub put_on_none : (a : View) → PutOnFirst edges 0 ms a a
  put_on_none a = record {
    ends = same_ends_refl a;
    sent = λ q low. absurd (omega (arith, low));
    others = λ e away. refl;
    room = λ e away. refl;
    received = λ e. refl;
    coming = λ e. prefix_same (a.coming e) (a.coming e) refl;
  }

  pub put_coming : (v w : View) (f e : ℕ) → PutAll v f ms w → IsPrefix (v.coming e) (w.coming e)
  put_coming v w f e p = elim (cases_eq e f) [
    | inl at ↦ subst (λ k. IsPrefix (v.coming k) (w.coming k)) (sym at) p.coming_here
    | inr ne ↦ prefix_same (v.coming e) (w.coming e) (p.coming e ne)
  ]

  module _ (apart : AreApart edges) (a v w : View) (i : ℕ) (low : i < length edges) (made : PutOnFirst edges i ms a v) where
    -- the next edge is none of those before it
    pub next_apart : (q : ℕ) → q < i → edge_of edges i ≢ edge_of edges q
    next_apart q below = λ same. omega (arith, below, apart i q low (omega (arith, below, low)) same)

    pub put_on_next : PutAll v (edge_of edges i) ms w → PutOnFirst edges (i + 1) ms a w
    put_on_next put =
        let f = edge_of edges i in
        let here : v.sent f ≡ a.sent f = made.others f next_apart in
        record {
          ends = same_ends_then a v w made.ends put.ends;
          sent = λ q below. elim (cases_lt q i) [
            | inl before ↦ put.others (edge_of edges q) (λ same. next_apart q before (sym same)) ∙ made.sent q before
            | inr past ↦ (let same : q ≡ i = omega (arith, below, past) in
                subst (λ k. w.sent (edge_of edges k)
                ≡ cond (ended (a.sent (edge_of edges k))) (a.sent (edge_of edges k)) (a.sent (edge_of edges k) ++ ms)) (sym same)
                (put.sent ∙ ap (λ l. cond (ended l) l (l ++ ms)) here))
          ];
          others = λ e away. put.others e (away i (omega arith)) ∙ made.others e (λ q before. away q (omega (arith, before)));
          room = λ e away. put.room e (away i (omega arith)) ∙ made.room e (λ q before. away q (omega (arith, before)));
          received = λ e. put.received e ∙ made.received e;
          coming = λ e. prefix_then (a.coming e) (v.coming e) (w.coming e) (made.coming e) (put_coming v w f e put);
        }

-- what many takes add to what was received from edge e
taken_all_received : (v w : View) (f e : ℕ) (ms : List Signal) → TakenAll v f ms w → w.received e ≡ v.received e ++ cond (eqb e f) ms []
taken_all_received v w f e ms t = elim (cases_eq e f) [
  | inl at ↦ ap w.received at ∙ t.received ∙ ap (λ k. v.received k ++ ms) (sym at) ∙ ap (λ b. v.received e ++ cond b ms []) (sym (eq-eqb e f at))
  | inr ne ↦ t.others e ne ∙ sym (append-nil (v.received e)) ∙ ap (λ b. v.received e ++ cond b ms []) (sym (ne_eqb e f ne))
]

pub taken_all_room : (v w : View) (f e : ℕ) (ms : List Signal) → TakenAll v f ms w → v.room e ≤ w.room e
taken_all_room v w f e ms t = elim (cases_eq e f) [
  | inl at ↦ omega (arith, t.room_here, ap v.room at, ap w.room at)
  | inr ne ↦ omega (arith, t.room e ne)
]

module _ {S : Type 0} (b : Behaviour S) (laws : BehaviourLaws b) (inputs outputs : List ℕ) (apart : AreApart outputs) where
  module _ (s : S) (reached : IsReached b s) (each_output : length outputs ≡ b.outputs s) (t : S) (read written : List Signal) (steps : ℕ)
      (block : InBlock b s read t written steps) (last : (q : ℕ) → q < length outputs → orderly written ≡ true) where
    -- of messages that were taken and then put
    pub went_block : (a u v : View) → TakenAll a (edge_of inputs 0) read u → ((e : ℕ) → IsNone inputs e → u.coming e ≡ a.coming e) →
        PutOnFirst outputs (length outputs) written u v → 0 < steps → Went inputs outputs b s a t v steps
    went_block a u v taken kept put some = record {
      history = block.history;
      does = block.does;
      counts = block.counts;
      carried = record {
        received = λ e. put.received e ∙ taken_all_received a u (edge_of inputs 0) e read taken
            ∙ ap (λ l. a.received e ++ cond (eqb e (edge_of inputs 0)) l []) (sym block.reads_are)
            ∙ ap (λ l. a.received e ++ l) (sym (read_block (edge_of inputs) e block.history block.no_others));
        sent = sent_is;
      };
      spares = record {
        coming = λ e none. prefix_then (a.coming e) (u.coming e) (v.coming e) (prefix_same (a.coming e) (u.coming e) (kept e none)) (put.coming e);
        room = λ e none. omega (arith, taken_all_room a u (edge_of inputs 0) e read taken, put.room e (λ q low. not_at outputs e q none low));
      };
      calm = λ is. absurd (omega (arith, is, some));
    } where
      sent_is : (e : ℕ) → v.sent e ≡ sent_after (edge_of outputs) e (a.sent e) block.history
      sent_is e = go (at_some (edge_of outputs) e (length outputs)) where
        go : ((q : ℕ) × (q < length outputs) × (e ≡ edge_of outputs q)) ⊎ ((q : ℕ) → q < length outputs → e ≢ edge_of outputs q) → v.sent e ≡ sent_after (edge_of outputs) e (a.sent e) block.history
        go (inl (q, low, at)) =
            let there : writes q block.history ≡ written = block.writes_are q (omega (arith, low, each_output)) in
            let sent : v.sent e ≡ cond (ended (u.sent e)) (u.sent e) (u.sent e ++ written) =
            subst (λ k. v.sent k ≡ cond (ended (u.sent k)) (u.sent k) (u.sent k ++ written)) (sym at) (put.sent q low) in
            sent ∙ ap (λ l. cond (ended l) l (l ++ written)) (taken.sent e)
            ∙ sym (sent_some b laws outputs apart s reached each_output e q low at block.history t block.does (a.sent e) written there (last q low))
        go (inr away) = put.others e away ∙ taken.sent e ∙ sym (sent_other b laws outputs apart s reached each_output e away block.history t block.does (a.sent e))

  -- after it had only looked
  pub went_looked : {s t : S} {a u v : View} {steps : ℕ} → LeavesAlone inputs outputs a u → Went inputs outputs b s u t v steps → Went inputs outputs b s a t v steps
  went_looked {s} {t} {a} {u} {v} {steps} alone went =
      let same : 0 + steps ≡ steps = omega arith in
      subst (λ n. Went inputs outputs b s a t v n) same (went_further b inputs outputs (went_alone b inputs outputs (went_none b inputs outputs s a) u alone) went)

  -- and where it did nothing else
  pub only_looked : (s t : S) (a u : View) → t ≡ s → LeavesAlone inputs outputs a u → Went inputs outputs b s a t u 0
  only_looked s t a u same alone = subst (λ x. Went inputs outputs b s a x u 0) (sym same) (went_alone b inputs outputs (went_none b inputs outputs s a) u alone)

-- the least of what the edges have room for, with one edge more
pub least_room : (edges : List ℕ) (v w : View) (i least space least' : ℕ) → LookedForRoom v (edge_of edges i) w →
    ((q : ℕ) → q < i → least ≤ v.room (edge_of edges q)) → space ≤ w.room (edge_of edges i) → least' ≤ least → least' ≤ space → (q : ℕ) → q < i + 1 →
    least' ≤ w.room (edge_of edges q)
least_room edges v w i least space least' looked before here low high q below = elim (cases_lt q i) [
  | inl under ↦ omega (arith, before q under, low, looked_room v w (edge_of edges i) (edge_of edges q) looked)
  | inr past ↦ (let same : q ≡ i = omega (arith, below, past) in omega (arith, here, high, ap (λ k. w.room (edge_of edges k)) same))
]
