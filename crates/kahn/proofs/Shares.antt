-- However many shares step side by side, each from what stood at the meeting: together they are one run.
use Rattle.std.proofs.Common.{◌≡◌, ℕ, zero, suc, ◌<◌, Option, List, [], ◌∷◌, ◌++◌, length, ◌⊎◌, refl, ◌∙◌, inl, inr, arith, length-append}
use Rattle.std.proofs.lemmas.Bool.{cases_eq}
use Rattle.kahn.specs.Basics.{total}
use Rattle.kahn.specs.Processes.{Process, Event}
use Rattle.kahn.specs.Networks.{Network, AllBy}
use Rattle.kahn.specs.Configurations.{Configuration}
use Rattle.kahn.specs.Runs.{Run}
use Rattle.kahn.specs.ShareTheorems.{StepSideBySide, IsOneRun}
use Rattle.kahn.proofs.Finite.{run_then}
use Rattle.kahn.proofs.Rounds.{together, untouched, all_by_more}

all_by_append : {State Message : Type 0} (net : Network State) (Mine : ℕ → Type 0) (one two : List (Event Message)) → AllBy net Mine one → AllBy net Mine two → AllBy net Mine (one ++ two)
all_by_append net Mine [] two all more = more
all_by_append net Mine (a ∷ one) two (mine, all) more = (mine, all_by_append net Mine one two all more)

module _ {State Message : Type 0} (P : Process State Message) (net : Network State) (limit : Option ℕ) (share : ℕ → ℕ) (shares : ℕ)
    (c : Configuration State Message) (events : ℕ → List (Event Message)) (ends : ℕ → Configuration State Message)
    (side : StepSideBySide P net limit share shares c events ends) where
  -- the shares below n are one run
  record SoFar (n : ℕ) : Type 0 where
    pub end : Configuration State Message
    pub all : List (Event Message)
    pub own : AllBy net (λ k. share k < n) all
    pub run : Run P net limit all c end
    pub count : length all ≡ total (λ i. length (events i)) n
    pub state : (k : ℕ) → share k < n → end.state k ≡ (ends (share k)).state k
    pub received : (e : ℕ) → share (net.reader e) < n → end.received e ≡ (ends (share (net.reader e))).received e
    pub sent : (e : ℕ) → share (net.writer e) < n → end.sent e ≡ (ends (share (net.writer e))).sent e

  module _ (n : ℕ) (inside : n < shares) (before : SoFar n) where
    -- what stands after share n too, with the events of share n last and first
    both : (r : Configuration State Message) × Run P net limit before.all (ends n) r × Run P net limit (events n) before.end r
    both =
        together P net limit (λ k. share k ≡ n) (events n) before.all c (ends n) before.end (side.own n inside)
        (all_by_more net (λ k. share k < n) (λ k. share k ≡ n → ⊥) (λ k less same. omega arith) before.all before.own) (side.run n inside) before.run

    of_this : (r : Configuration State Message) → Run P net limit before.all (ends n) r → (k : ℕ) → share k ≡ n →
        (r.state k ≡ (ends (share k)).state k) × ((e : ℕ) → net.reader e ≡ k → r.received e ≡ (ends (share k)).received e)
        × ((e : ℕ) → net.writer e ≡ k → r.sent e ≡ (ends (share k)).sent e)
    of_this r run k same = rw same (untouched P net limit (λ j. share j < n) before.all (ends n) r before.own run k (λ less. omega arith))

    one_more : SoFar (suc n)
    one_more =
        let (r, late, early) = both in
        record {
          end = r;
          all = before.all ++ events n;
          own = all_by_append net (λ k. share k < suc n) before.all (events n)
              (all_by_more net (λ k. share k < n) (λ k. share k < suc n) (λ k less. omega arith) before.all before.own)
              (all_by_more net (λ k. share k ≡ n) (λ k. share k < suc n) (λ k same. omega arith) (events n) (side.own n inside));
          run = run_then P net limit before.all (events n) c before.end r before.run early;
          count = omega (arith, length-append before.all (events n), before.count);
          state = λ k less. state r late early k less (cases_eq (share k) n);
          received = λ e less. received r late early e less (cases_eq (share (net.reader e)) n);
          sent = λ e less. sent r late early e less (cases_eq (share (net.writer e)) n);
        }
      where
        state : (r : Configuration State Message) → Run P net limit before.all (ends n) r → Run P net limit (events n) before.end r → (k : ℕ) →
            share k < suc n → ((share k ≡ n) ⊎ (share k ≡ n → ⊥)) → r.state k ≡ (ends (share k)).state k
        state r late early k less (inl same) = (of_this r late k same).0
        state r late early k less (inr other) = (untouched P net limit (λ j. share j ≡ n) (events n) before.end r (side.own n inside) early k other).0 ∙ before.state k (omega arith)

        received : (r : Configuration State Message) → Run P net limit before.all (ends n) r → Run P net limit (events n) before.end r → (e : ℕ) →
            share (net.reader e) < suc n → ((share (net.reader e) ≡ n) ⊎ (share (net.reader e) ≡ n → ⊥)) → r.received e
            ≡ (ends (share (net.reader e))).received e
        received r late early e less (inl same) = (of_this r late (net.reader e) same).1 e refl
        received r late early e less (inr other) =
            (untouched P net limit (λ j. share j ≡ n) (events n) before.end r (side.own n inside) early (net.reader e) other).1 e refl
            ∙ before.received e (omega arith)

        sent : (r : Configuration State Message) → Run P net limit before.all (ends n) r → Run P net limit (events n) before.end r → (e : ℕ) →
            share (net.writer e) < suc n → ((share (net.writer e) ≡ n) ⊎ (share (net.writer e) ≡ n → ⊥)) → r.sent e
            ≡ (ends (share (net.writer e))).sent e
        sent r late early e less (inl same) = (of_this r late (net.writer e) same).2 e refl
        sent r late early e less (inr other) = (untouched P net limit (λ j. share j ≡ n) (events n) before.end r (side.own n inside) early (net.writer e) other).2 e refl ∙ before.sent e (omega arith)

  so_far : (n : ℕ) → n < suc shares → SoFar n
  so_far zero inside =
      record {
        end = c;
        all = [];
        own = tt;
        run = refl;
        count = refl;
        state = λ k less. absurd (omega arith);
        received = λ e less. absurd (omega arith);
        sent = λ e less. absurd (omega arith);
      }
  so_far (suc n) inside = one_more n (omega arith) (so_far n (omega arith))

  pub all_together : (r : Configuration State Message) × IsOneRun P net limit share shares c events ends r
  all_together =
      let all : SoFar shares = so_far shares (omega arith) in
      (all.end, record { all = all.all; run = all.run; count = all.count; state = all.state; received = all.received; sent = all.sent })
