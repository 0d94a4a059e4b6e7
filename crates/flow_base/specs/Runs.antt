-- A transducer that keeps its promises: it has a run over what it owes, and where it has ended it owed what
-- it read and wrote.
use Rattle.std.specs.Prelude.{◌≡◌, ◌≢◌, ℕ, zero, suc, ◌+◌, ◌<◌, ◌≤◌, List, [], ◌∷◌, length, refl}
use Rattle.std.proofs.Common.{inl, inr, sym, ◌∙◌, ap, subst, arith}
use Rattle.std.proofs.lemmas.Bool.{cases_lt}
use Rattle.kahn.specs.declared.want.Want.{Want}
use Rattle.kahn.specs.declared.want.Want.TheVariants.{Read, Write, Ended, Faulted}
use Rattle.kahn.specs.Basics.{total}
use Rattle.kahn.specs.Processes.{Event, Reads, Writes, Does, writes, RunsToEnd}
use Rattle.kahn.proofs.Prefix.{reads_first, reads_later, writes_first, writes_later}
use Rattle.kahn.proofs.Search.{total_falls}
use Rattle.flow_messages.specs.Signals.{Signal}
use Rattle.flow_base.specs.Lists.{Lists, push, with_port}
use Rattle.flow_base.specs.Ports.{ports, at_port, off_port, put_back, take_away, first_of_list, First-from}
use Rattle.flow_base.specs.Transducers.{Behaviour}
use Rattle.flow_base.specs.Promises.{Promise, Keeps, PromiseLaws}
use Rattle.flow_base.specs.Histories.{read_in, written_in, reads_push, writes_push}

-- the number of messages at the first n ports
abbrev size : Lists Signal → ℕ → ℕ
size xs n = total (λ p. length (xs p)) n

size_less : (xs : Lists Signal) (n p : ℕ) (m : Signal) (rest : List Signal) → p < n → xs p ≡ m ∷ rest → size xs n ≡ suc (size (with_port p rest xs) n)
size_less xs n p m rest lt e =
    let here : length (xs p) ≡ suc (length (with_port p rest xs p)) = ap (λ l. length l) e ∙ ap (λ l. suc (length l)) (sym (at_port p rest xs)) in
    total_falls (λ k. length (xs k)) (λ k. length (with_port p rest xs k)) n p lt here (λ k inside other. ap (λ l. length l) (sym (off_port p k rest xs other)))

module _ {S : Type 0} (b : Behaviour S) (promise : Promise S) (laws : PromiseLaws b promise) where
  pub keeps : (s : S) (w : Want) → b.process.want s ≡ w → Keeps b promise s w
  keeps s w e = subst (λ v. Keeps b promise s v) e (laws.each s)

  pub opening_stays : (h : List (Event Signal)) (s t : S) → Does b.process s h t → b.opening t ≡ b.opening s
  opening_stays [] s t same = ap b.opening (sym same)
  opening_stays (Reads p m ∷ h) s t (wants, does) = opening_stays h (b.process.read s m) t does ∙ (keeps s (Read p) wants).stays m
  opening_stays (Writes q m ∷ h) s t (wants, is, does) = opening_stays h (b.process.wrote s) t does ∙ (keeps s (Write q) wants).stays

  pub inputs_stay : (s t : S) → b.opening t ≡ b.opening s → b.inputs t ≡ b.inputs s
  inputs_stay s t e = sym (laws.same_inputs t) ∙ ap b.inputs e ∙ laws.same_inputs s

  pub outputs_stay : (s t : S) → b.opening t ≡ b.opening s → b.outputs t ≡ b.outputs s
  outputs_stay s t e = sym (laws.same_outputs t) ∙ ap b.outputs e ∙ laws.same_outputs s

  pub complete_owes : (h : List (Event Signal)) (s t : S) → Does b.process s h t → b.process.want t ≡ Ended → promise.owes s (read_in h) (written_in h)
  complete_owes [] s t same e = subst (λ k. promise.owes k (λ _. []) (λ _. [])) (sym same) (keeps t Ended e).nothing
  complete_owes (Reads p m ∷ h) s t (wants, does) e =
      let there : promise.owes s (push p m (read_in h)) (written_in h) = ((keeps s (Read p) wants).steps m (read_in h) (written_in h)).1 (complete_owes h (b.process.read s m) t does e) in
      subst (λ l. promise.owes s l (written_in h)) (sym (reads_push p m h)) there
  complete_owes (Writes q m ∷ h) s t (wants, is, does) e =
      let more = push q m (written_in h) in
      let there = complete_owes h (b.process.wrote s) t does e in
      let left : promise.owes (b.process.wrote s) (read_in h) (with_port q (writes q h) more) =
      subst (λ l. promise.owes (b.process.wrote s) (read_in h) l) (sym (take_away q m (written_in h))) there in
      let whole : promise.owes s (read_in h) more =
      ((keeps s (Write q) wants).steps (read_in h) more).1
      (First-from (more q) m (writes q h) (λ x r. (x ≡ b.process.written s) × promise.owes (b.process.wrote s) (read_in h) (with_port q r more))
      (at_port q (m ∷ writes q h) (written_in h)) (sym is, left)) in
      subst (λ l. promise.owes s (read_in h) l) (sym (writes_push q m h)) whole

  module _ (start : S) where
    -- a run over these lists, from a state of the same transducer
    abbrev Run : S → Lists Signal → Lists Signal → Type 0
    Run s i o = RunsToEnd b.process s (b.inputs start) i o

    abbrev Beyond : Lists Signal → Type 0
    Beyond o = (q : ℕ) → b.outputs start ≤ q → o q ≡ []

    abbrev weight : Lists Signal → Lists Signal → ℕ
    weight i o = size i (b.inputs start) + size o (b.outputs start)

    abbrev Later : Lists Signal → Lists Signal → Type 0
    Later i o = (t : S) (i' o' : Lists Signal) → b.opening t ≡ b.opening start → promise.owes t i' o' → Beyond o' → weight i' o' < weight i o → Run t i' o'

    run_read : (s : S) (p : ℕ) (i o : Lists Signal) → b.process.want s ≡ Read p → b.opening s ≡ b.opening start → promise.owes s i o → Beyond o → Later i o → Run s i o
    run_read s p i o wants same owes beyond later =
        let law = keeps s (Read p) wants in
        let front = first_of_list (i p) (λ _ _. Unit {0}) (law.full i o owes) in
        let m = front.0 in
        let rest = front.1 in
        let less = with_port p rest i in
        let port : p < b.inputs start = subst (λ n. p < n) (inputs_stay start s same) law.port in
        let fewer = size_less i (b.inputs start) p m rest port front.2 in
        let there : promise.owes (b.process.read s m) less o = (law.steps m less o).0 (subst (λ l. promise.owes s l o) (sym (put_back p m rest i front.2)) owes) in
        let r = later (b.process.read s m) less o (law.stays m ∙ same) there beyond (omega (arith, fewer)) in
        record {
          end = r.end;
          history = Reads p m ∷ r.history;
          does = (wants, r.does);
          ended = r.ended;
          reads_all = λ k lt. elim (ports k p) [
            | inl here ↦ reads_first k p m r.history here ∙ ap (λ l. m ∷ l) (r.reads_all k lt ∙ ap less here ∙ at_port p rest i) ∙ sym front.2 ∙ ap i (sym here)
            | inr other ↦ reads_later k p m r.history other ∙ r.reads_all k lt ∙ off_port p k rest i other
          ];
          writes_all = r.writes_all;
        }

    run_write : (s : S) (q : ℕ) (i o : Lists Signal) → b.process.want s ≡ Write q → b.opening s ≡ b.opening start → promise.owes s i o → Beyond o → Later i o → Run s i o
    run_write s q i o wants same owes beyond later =
        let law = keeps s (Write q) wants in
        let front = first_of_list (o q) (λ m r. (m ≡ b.process.written s) × promise.owes (b.process.wrote s) i (with_port q r o)) ((law.steps i o).0 owes) in
        let m = front.0 in
        let rest = front.1 in
        let less = with_port q rest o in
        let port : q < b.outputs start = subst (λ n. q < n) (outputs_stay start s same) law.port in
        let fewer = size_less o (b.outputs start) q m rest port front.2 in
        let beyond_less : Beyond less = λ k le. (let other : k ≢ q = λ e. omega arith in off_port q k rest o other ∙ beyond k le) in
        let r = later (b.process.wrote s) i less (law.stays ∙ same) front.3.1 beyond_less (omega (arith, fewer)) in
        record {
          end = r.end;
          history = Writes q m ∷ r.history;
          does = (wants, sym front.3.0, r.does);
          ended = r.ended;
          reads_all = r.reads_all;
          writes_all = λ k. elim (ports k q) [
            | inl here ↦ writes_first k q m r.history here ∙ ap (λ l. m ∷ l) (r.writes_all k ∙ ap less here ∙ at_port q rest o) ∙ sym front.2 ∙ ap o (sym here)
            | inr other ↦ writes_later k q m r.history other ∙ r.writes_all k ∙ off_port q k rest o other
          ];
        }

    run_step : (s : S) (w : Want) (i o : Lists Signal) → b.process.want s ≡ w → b.opening s ≡ b.opening start → promise.owes s i o → Beyond o → Later i o → Run s i o
    run_step s (Read p) i o wants same owes beyond later = run_read s p i o wants same owes beyond later
    run_step s (Write q) i o wants same owes beyond later = run_write s q i o wants same owes beyond later
    run_step s Ended i o wants same owes beyond later =
        let law = keeps s Ended wants in
        record {
          end = s;
          history = [];
          does = refl;
          ended = wants;
          reads_all = λ p lt. sym (law.ins i o owes p (subst (λ n. p < n) (sym (inputs_stay start s same)) lt));
          writes_all = λ q. elim (cases_lt q (b.outputs start)) [
            | inl lt ↦ sym (law.outs i o owes q (subst (λ n. q < n) (sym (outputs_stay start s same)) lt))
            | inr le ↦ sym (beyond q le)
          ];
        }
    run_step s (Faulted fault) i o wants same owes beyond later = absurd ((keeps s (Faulted fault) wants).never i o owes)

    run_in : (fuel : ℕ) (s : S) (i o : Lists Signal) → b.opening s ≡ b.opening start → promise.owes s i o → Beyond o → weight i o < fuel → Run s i o
    run_in zero s i o same owes beyond lt = absurd (omega arith)
    run_in (suc fuel) s i o same owes beyond lt =
        run_step s (b.process.want s) i o refl same owes beyond
        (λ t i' o' same_t owes_t beyond_t less. run_in fuel t i' o' same_t owes_t beyond_t (omega arith))

    -- what is owed, it reads and writes in a run to its end
    pub run_owed : (i o : Lists Signal) → promise.owes start i o → ((q : ℕ) → b.outputs start ≤ q → o q ≡ []) → RunsToEnd b.process start (b.inputs start) i o
    run_owed i o owes beyond = run_in (suc (weight i o)) start i o refl owes beyond (omega arith)
