-- The sum of behaviours: a transducer of any of several kinds, each with states of its own. A state of the sum is
-- a kind with a state of that kind; its sample is that of the kind `some`.
use Rattle.std.specs.Prelude.{◌≡◌, ℕ, ◌<◌, List, [], ◌∷◌, refl}
use Rattle.std.proofs.Common.{sym, ap, subst}
use Rattle.snesl_data.specs.declared.fault.Fault.{Fault}
use Rattle.kahn.specs.declared.want.Want.{Want}
use Rattle.kahn.specs.declared.want.Want.TheVariants.{Read, Write, Ended, Faulted}
use Rattle.kahn.specs.Basics.{Begins}
use Rattle.kahn.specs.Processes.{Event, Reads, Writes, Does, reads, writes, HasEnd, IsLawfulProcess, RunsToEnd}
use Rattle.flow_messages.specs.Cells.{Cell}
use Rattle.flow_messages.specs.Signals.{Signal, stop}
use Rattle.flow_base.specs.Lists.{Lists}
use Rattle.flow_base.specs.Transducers.{Behaviour, BehaviourLaws, TransducerLaws, IsLawfulTraffic, closed, closed_at}

module _ {Tag : Type 0} {StateOf : Tag → Type 0} (some : Tag) (each : (t : Tag) → Behaviour (StateOf t)) where
  -- a kind, with a state of that kind
  abbrev pub SumState : Type 0
  SumState = (t : Tag) × StateOf t

  -- what a state of the sum does is what its kind does
  abbrev pub sum_of : Behaviour ((t : Tag) × StateOf t)
  sum_of = record {
    sample = (some, (each some).sample);
    process = record {
      want = λ u. (each u.0).process.want u.1;
      read = λ u message. (u.0, (each u.0).process.read u.1 message);
      written = λ u. (each u.0).process.written u.1;
      wrote = λ u. (u.0, (each u.0).process.wrote u.1);
      debt = λ u. (each u.0).process.debt u.1;
      end = stop;
    };
    opening = λ u. (u.0, (each u.0).opening u.1);
    inputs = λ u. (each u.0).inputs u.1;
    outputs = λ u. (each u.0).outputs u.1;
    kind_in = λ u. (each u.0).kind_in u.1;
    kind_out = λ u. (each u.0).kind_out u.1;
    at = λ u. (each u.0).at u.1;
    row = λ u. (each u.0).row u.1;
    of_kind = λ u. (each u.0).of_kind u.1;
    in_range = λ dialect u. (each u.0).in_range dialect u.1;
    takes_memory = λ u. (each u.0).takes_memory u.1;
  }

  -- a history of the sum is one of the kind, and leaves the kind as it is
  pub sum_does : (t : Tag) (h : List (Event Signal)) (s : StateOf t) (u : (t : Tag) × StateOf t) → Does sum_of.process (t, s) h u → (s' : StateOf t) × (u ≡ (t, s')) × Does (each t).process s h s'
  sum_does t [] s u same = (s, sym same, refl)
  sum_does t (Reads p m ∷ h) s u (wants, does) = let there = sum_does t h ((each t).process.read s m) u does in (there.0, there.1, (wants, there.2))
  sum_does t (Writes p m ∷ h) s u (wants, is, does) = let there = sum_does t h ((each t).process.wrote s) u does in (there.0, there.1, (wants, is, there.2))

  pub does_sum : (t : Tag) (h : List (Event Signal)) (s s' : StateOf t) → Does (each t).process s h s' → Does sum_of.process (t, s) h (t, s')
  does_sum t [] s s' same = ap (λ k. (t, k)) same
  does_sum t (Reads p m ∷ h) s s' (wants, does) = (wants, does_sum t h ((each t).process.read s m) s' does)
  does_sum t (Writes p m ∷ h) s s' (wants, is, does) = (wants, is, does_sum t h ((each t).process.wrote s) s' does)

  module _ (laws : (t : Tag) → BehaviourLaws (each t)) where
    module _ (t : Tag) (start : StateOf t) (kept : TransducerLaws (each t) start) where
      -- what the kind wants in the state that was reached
      wants_there : (u : SumState) (s : StateOf t) (w : Want) → u ≡ (t, s) → sum_of.process.want u ≡ w → (each t).process.want s ≡ w
      wants_there u s w e wants = subst (λ v. sum_of.process.want v ≡ w) e wants

      end_of : (ms : List Signal) → HasEnd sum_of.process ms → HasEnd (each t).process ms
      end_of ms has = subst (λ x. HasEnd (record (each t).process { end = x }) ms) (sym (laws t).end) has

      end_sum : (ms : List Signal) → HasEnd (each t).process ms → HasEnd sum_of.process ms
      end_sum ms has = subst (λ x. HasEnd (record (each t).process { end = x }) ms) (laws t).end has

      lawful : IsLawfulProcess sum_of.process (t, start) ((each t).inputs start) ((each t).outputs start)
      lawful = record {
        in_port = λ h u p does wants. let d = sum_does t h start u does in kept.lawful.in_port h d.0 p d.2 (wants_there u d.0 (Read p) d.1 wants);
        out_port = λ h u p does wants. let d = sum_does t h start u does in kept.lawful.out_port h d.0 p d.2 (wants_there u d.0 (Write p) d.1 wants);
        open_in = λ h u p does wants has. let d = sum_does t h start u does in kept.lawful.open_in h d.0 p d.2 (wants_there u d.0 (Read p) d.1 wants) (end_of (reads p h) has);
        open_out = λ h u p does wants has. let d = sum_does t h start u does in kept.lawful.open_out h d.0 p d.2 (wants_there u d.0 (Write p) d.1 wants) (end_of (writes p h) has);
        all_in = λ h u p does ended lt. let d = sum_does t h start u does in end_sum (reads p h) (kept.lawful.all_in h d.0 p d.2 (wants_there u d.0 Ended d.1 ended) lt);
        all_out = λ h u p does ended lt. let d = sum_does t h start u does in end_sum (writes p h) (kept.lawful.all_out h d.0 p d.2 (wants_there u d.0 Ended d.1 ended) lt);
      }

      runs : (ins outs : Lists Cell) → (each t).row start ins outs →
          RunsToEnd sum_of.process (t, start) ((each t).inputs start) (closed_at ((each t).inputs start) ins) (closed_at ((each t).outputs start) outs)
      runs ins outs row =
          let r = kept.runs ins outs row in
          record {
            end = (t, r.end);
            history = r.history;
            does = does_sum t r.history start r.end r.does;
            ended = r.ended;
            reads_all = r.reads_all;
            writes_all = r.writes_all;
          }

      beginnings : (ins outs : Lists Cell) → (each t).row start ins outs → (h : List (Event Signal)) (u : SumState) → Does sum_of.process (t, start) h u →
          ((p : ℕ) → p < (each t).inputs start → Begins (reads p h) (closed (ins p))) →
          ((fault : Fault) → sum_of.process.want u ≡ Faulted fault → ⊥) × ((q : ℕ) → q < (each t).outputs start → Begins (writes q h) (closed (outs q)))
      beginnings ins outs row h u does begins =
          let d = sum_does t h start u does in
          let all = kept.beginnings ins outs row h d.0 d.2 begins in
          (λ fault faulted. all.0 fault (wants_there u d.0 (Faulted fault) d.1 faulted), all.1)

      complete : (h : List (Event Signal)) (u : SumState) → Does sum_of.process (t, start) h u → sum_of.process.want u ≡ Ended → IsLawfulTraffic sum_of (t, start) (λ p. reads p h) (λ q. writes q h)
      complete h u does ended =
          let d = sum_does t h start u does in
          let done = kept.complete h d.0 d.2 (wants_there u d.0 Ended d.1 ended) in
          record { ins = done.ins; outs = done.outs; row = done.row; closed_ins = done.closed_ins; closed_outs = done.closed_outs }

      pub sum_kept : TransducerLaws sum_of (t, start)
      sum_kept = record {
        lawful = lawful;
        runs = runs;
        beginnings = beginnings;
        complete = complete;
        one = kept.one;
        of_kind = λ h u does. let d = sum_does t h start u does in kept.of_kind h d.0 d.2;
        in_range = λ dialect own h u does range. let d = sum_does t h start u does in kept.in_range dialect own h d.0 d.2 range;
      }

    -- each state's opening state keeps the laws, and a state that is its own opening state is that one
    opened : (u : SumState) → sum_of.opening u ≡ u → TransducerLaws sum_of u
    opened (t, s) opens =
        let first = (each t).opening s in
        subst (λ v. TransducerLaws sum_of v) opens (sum_kept t first ((laws t).opened first ((laws t).same_opening s)))

    starts_of_kind : (u : SumState) → sum_of.opening u ≡ u → sum_of.of_kind u
    starts_of_kind (t, s) opens = subst (λ v. sum_of.of_kind v) opens ((laws t).starts_of_kind ((each t).opening s) ((laws t).same_opening s))

    pub sum_laws : BehaviourLaws sum_of
    sum_laws = record {
      end = refl;
      settles = λ u q wants. (laws u.0).settles u.1 q wants;
      read_opening = λ u p m wants. ap (λ s. (u.0, s)) ((laws u.0).read_opening u.1 p m wants);
      wrote_opening = λ u q wants. ap (λ s. (u.0, s)) ((laws u.0).wrote_opening u.1 q wants);
      same_opening = λ u. ap (λ s. (u.0, s)) ((laws u.0).same_opening u.1);
      same_inputs = λ u. (laws u.0).same_inputs u.1;
      same_outputs = λ u. (laws u.0).same_outputs u.1;
      same_kinds_in = λ u. (laws u.0).same_kinds_in u.1;
      same_kinds_out = λ u. (laws u.0).same_kinds_out u.1;
      starts_of_kind = starts_of_kind;
      kinds = λ u p x wants other. (laws u.0).kinds u.1 p x wants other;
      faults_at = λ u fault faulted. (laws u.0).faults_at u.1 fault faulted;
      opened = opened;
    }
