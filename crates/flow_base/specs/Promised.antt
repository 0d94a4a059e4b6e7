-- A behaviour that keeps promises keeps the laws of transducers.
use Rattle.std.specs.Prelude.{◌≡◌, ℕ, ◌<◌, List, [], Bool, true, false, refl}
use Rattle.std.proofs.Common.{sym, ◌∙◌, ap, subst, append-nil}
use Rattle.snesl_data.specs.declared.fault.Fault.{Fault}
use Rattle.kahn.specs.declared.want.Want.TheVariants.{Read, Write, Ended, Faulted}
use Rattle.kahn.specs.Basics.{Begins}
use Rattle.kahn.specs.Processes.{Event, Does, reads, writes, HasEnd, IsLawfulProcess, RunsToEnd}
use Rattle.kahn.specs.ProcessTheorems.{FollowsLists}
use Rattle.kahn.proofs.Conclusions.{follows_lists}
use Rattle.flow_messages.specs.Cells.{Cell}
use Rattle.flow_messages.specs.Signals.{Signal}
use Rattle.flow_base.specs.Lists.{Lists}
use Rattle.flow_base.specs.Transducers.{Behaviour, BehaviourLaws, TransducerLaws, IsLawfulTraffic, closed, closed_at}
use Rattle.flow_base.specs.Promises.{Promise, PromiseLaws}
use Rattle.flow_base.specs.Histories.{read_in, written_in, closed_end, closed_begins, closed_inside, closed_beyond}
use Rattle.flow_base.specs.Runs.{keeps, opening_stays, inputs_stay, outputs_stay, complete_owes, run_owed}
use Rattle.flow_base.specs.Passed.{passed_in, passed_out, of_kind_out, in_range_out}

never : (c : Bool) → c ≡ true → c ≡ false → ⊥
never c yet over = let e : true ≡ false = sym yet ∙ over in cc

module _ {S : Type 0} (b : Behaviour S) (promise : Promise S) (laws : PromiseLaws b promise) where
  module _ (start : S) (opens : b.opening start ≡ start) where
    complete : (h : List (Event Signal)) (s : S) → Does b.process start h s → b.process.want s ≡ Ended → IsLawfulTraffic b start (read_in h) (written_in h)
    complete h s does ended = (laws.opens start opens (read_in h) (written_in h)).0 (complete_owes b promise laws h start s does ended)

    has_end : (ms : List Signal) (body : List Cell) → ms ≡ closed body → HasEnd b.process ms
    has_end ms body e = subst (λ l. HasEnd b.process l) (sym e) (closed_end b.process laws.end body)

    lawful : IsLawfulProcess b.process start (b.inputs start) (b.outputs start)
    lawful = record {
      in_port = λ h s p does wants. subst (λ n. p < n) (inputs_stay b promise laws start s (opening_stays b promise laws h start s does)) (keeps b promise laws s (Read p) wants).port;
      out_port = λ h s p does wants. subst (λ n. p < n) (outputs_stay b promise laws start s (opening_stays b promise laws h start s does)) (keeps b promise laws s (Write p) wants).port;
      open_in = λ h s p does wants has. never (promise.over_in s p) (passed_in b promise laws h start s p does has) (keeps b promise laws s (Read p) wants).open_yet;
      open_out = λ h s p does wants has. never (promise.over_out s p) (passed_out b promise laws h start s p does has) (keeps b promise laws s (Write p) wants).open_yet;
      all_in = λ h s p does ended lt. let done = complete h s does ended in has_end (reads p h) (done.ins p) (done.closed_ins p lt);
      all_out = λ h s p does ended lt. let done = complete h s does ended in has_end (writes p h) (done.outs p) (done.closed_outs p lt);
    }

    runs : (ins outs : Lists Cell) → b.row start ins outs → RunsToEnd b.process start (b.inputs start) (closed_at (b.inputs start) ins) (closed_at (b.outputs start) outs)
    runs ins outs row =
        let i = closed_at (b.inputs start) ins in
        let o = closed_at (b.outputs start) outs in
        let traffic : IsLawfulTraffic b start i o = record {
          ins = ins;
          outs = outs;
          row = row;
          closed_ins = λ p lt. closed_inside (b.inputs start) ins p lt;
          closed_outs = λ q lt. closed_inside (b.outputs start) outs q lt;
        } in
        run_owed b promise laws start i o ((laws.opens start opens i o).1 traffic) (λ q le. closed_beyond (b.outputs start) outs q le)

    -- on prefixes of what a run reads it writes prefixes of what that run writes
    follows : FollowsLists b.process start (b.inputs start)
    follows = follows_lists b.process start (b.inputs start) (b.outputs start) lawful

    beginnings : (ins outs : Lists Cell) → b.row start ins outs → (h : List (Event Signal)) (s : S) → Does b.process start h s →
        ((p : ℕ) → p < b.inputs start → Begins (reads p h) (closed (ins p))) →
        ((fault : Fault) → b.process.want s ≡ Faulted fault → ⊥) × ((q : ℕ) → q < b.outputs start → Begins (writes q h) (closed (outs q)))
    beginnings ins outs row h s does begins =
        let all = follows (closed_at (b.inputs start) ins) (closed_at (b.outputs start) outs) (runs ins outs row) h s does
        (λ p lt. subst (λ l. Begins (reads p h) l) (sym (closed_inside (b.inputs start) ins p lt)) (begins p lt)) in
        (all.1, λ q lt. subst (λ l. Begins (writes q h) l) (closed_inside (b.outputs start) outs q lt) (all.0 q))

    -- the run over the first lists follows that over the others, which read the same
    one : (ins outs same others : Lists Cell) → b.row start ins outs → b.row start same others → ((p : ℕ) → p < b.inputs start → ins p ≡ same p) → (q : ℕ) → q < b.outputs start → outs q ≡ others q
    one ins outs same others row other_row equal q lt =
        let run = runs ins outs row in
        let reads_same : (p : ℕ) → p < b.inputs start → Begins (reads p run.history) (closed (same p)) =
        λ p inside. ([], append-nil (reads p run.history) ∙ run.reads_all p inside ∙ closed_inside (b.inputs start) ins p inside ∙ ap closed (equal p inside)) in
        let wrote = (beginnings same others other_row run.history run.end run.does reads_same).1 q lt in
        closed_begins (outs q) (others q) (subst (λ l. Begins l (closed (others q))) (run.writes_all q ∙ closed_inside (b.outputs start) outs q lt) wrote)

    transducer_laws : TransducerLaws b start
    transducer_laws = record {
      lawful = lawful;
      runs = runs;
      beginnings = beginnings;
      complete = complete;
      one = one;
      of_kind = λ h s does q lt. of_kind_out b promise laws start h start s refl does (laws.starts_of_kind start opens) q;
      in_range = λ dialect own h s does range q lt. in_range_out b promise laws dialect start h start s refl does (laws.starts_of_kind start opens) own range q;
    }

  pub promised_laws : BehaviourLaws b
  promised_laws = record {
    end = laws.end;
    settles = λ s p wants. (keeps b promise laws s (Write p) wants).falls;
    read_opening = λ s p m wants. (keeps b promise laws s (Read p) wants).stays m;
    wrote_opening = λ s q wants. (keeps b promise laws s (Write q) wants).stays;
    same_opening = laws.same_opening;
    same_inputs = laws.same_inputs;
    same_outputs = laws.same_outputs;
    same_kinds_in = laws.same_kinds_in;
    same_kinds_out = laws.same_kinds_out;
    starts_of_kind = laws.starts_of_kind;
    kinds = λ s p x wants other. (keeps b promise laws s (Read p) wants).kinds x other;
    faults_at = λ s fault faulted. (keeps b promise laws s (Faulted fault) faulted).place;
    opened = λ start opens. transducer_laws start opens;
  }
