-- How many messages nodes read and wrote.
use Rattle.std.proofs.Common.{◌≡◌, ℕ, zero, suc, ◌+◌, ◌*◌, ◌<◌, ◌≤◌, Bool, true, false, List, [], ◌∷◌, ◌++◌, length, get_or, ◌⊎◌, inl, inr, refl, sym, ◌∙◌, ap, subst, arith, append-nil, length-append}
use Rattle.std.proofs.Math.Nat.{mul-le-mul_left}
use Rattle.std.proofs.lemmas.Bool.{cases_eq, cases_lt}
use Rattle.kahn.specs.Basics.{total}
use Rattle.kahn.specs.Processes.{reads, writes}
use Rattle.flow_messages.specs.Ends.{View, SameTraffic}
use Rattle.flow_base.specs.declared.transducer.Transducer.{Ghosts}
use Rattle.flow_base.specs.Visits.{edge_of}
use Rattle.flow_networks.specs.declared.placed.Placed.{Placed}
use Rattle.flow_networks.specs.Skeletons.{AreSamePlaces}
use Rattle.flow_shares.specs.Shares.{inputs_of, outputs_of, HaveMoved, count_of}
use Rattle.flow_shares.proofs.Moves.{moved_none, moved_none_history, moved_then, moved_then_history}
use Rattle.flow_shares.proofs.Between.{find_node}

total_same : (f g : ℕ → ℕ) (n : ℕ) → ((k : ℕ) → f k ≡ g k) → total f n ≡ total g n
total_same f g zero same = refl
total_same f g (suc n) same = omega (arith, same n, total_same f g n same)

total_add : (f g : ℕ → ℕ) (n : ℕ) → total (λ k. f k + g k) n ≡ total f n + total g n
total_add f g zero = refl
total_add f g (suc n) = omega (arith, total_add f g n)

total_none : (f : ℕ → ℕ) (n : ℕ) → ((k : ℕ) → f k ≡ 0) → total f n ≡ 0
total_none f zero none = refl
total_none f (suc n) none = omega (arith, none n, total_none f n none)

-- a sum of nothing has no part
no_part : (f : ℕ → ℕ) (n : ℕ) → total f n ≡ 0 → (k : ℕ) → k < n → f k ≡ 0
no_part f zero none k l = absurd (omega (arith, l))
no_part f (suc n) none k l = go (no_part f n (omega (arith, none)) k) (cases_eq k n)
  where
    go : (k < n → f k ≡ 0) → (k ≡ n) ⊎ (k ≡ n → ⊥) → f k ≡ 0
    go below (inl same) = ap f same ∙ omega (arith, none)
    go below (inr other) = below (omega (arith, l, other))

is_nil : {X : Type 0} (xs : List X) → length xs ≡ 0 → xs ≡ []
is_nil [] none = refl
is_nil (x ∷ xs) none = absurd (omega (arith, none))

module _ {X : Type 0} {t : Ghosts X} where
  pub count_none : (nodes : List (Placed X t)) (a : View) → count_of (moved_none nodes a) ≡ 0
  count_none nodes a = total_none (λ k. length ((moved_none nodes a).history k)) (length nodes) (λ k. ap length (moved_none_history nodes a k))

  pub count_then : (nodes mid later : List (Placed X t)) (a v w : View) (same : AreSamePlaces nodes mid) (first : HaveMoved nodes mid a v) (second : HaveMoved mid later v w)
      → count_of (moved_then nodes mid later a v w same first second) ≡ count_of first + count_of second
  count_then nodes mid later a v w same first second =
      total_same (λ k. length ((moved_then nodes mid later a v w same first second).history k)) (λ k. length (first.history k) + length (second.history k)) (length nodes)
      (λ k. ap length (moved_then_history nodes mid later a v w same first second k) ∙ length-append (first.history k) (second.history k))
      ∙ total_add (λ k. length (first.history k)) (λ k. length (second.history k)) (length nodes)
      ∙ ap (λ n. count_of first + total (λ k. length (second.history k)) n) (sym same.count)

  -- where none was read or written, nothing was sent or received
  module _ (nodes later : List (Placed X t)) (a v : View) (moved : HaveMoved nodes later a v) (none : count_of moved ≡ 0) where
    no_events : (k : ℕ) → k < length nodes → moved.history k ≡ []
    no_events k l = is_nil (moved.history k) (no_part (λ j. length (moved.history j)) (length nodes) none k l)

    same_traffic : SameTraffic a v
    same_traffic = record {
      received = λ e. elim (find_node inputs_of e nodes) [
        | inl away ↦ moved.other_received e away
        | inr (k, p, d, l, port, is) ↦ subst (λ f. v.received f ≡ a.received f) (sym is)
            (let f = edge_of (inputs_of (get_or nodes k d)) p in moved.received k p d l port ∙ ap (λ h. a.received f ++ reads p h) (no_events k l)
            ∙ append-nil (a.received f))
      ];
      sent = λ e. elim (find_node outputs_of e nodes) [
        | inl away ↦ moved.other_sent e away
        | inr (k, q, d, l, port, is) ↦ subst (λ f. v.sent f ≡ a.sent f) (sym is)
            (let f = edge_of (outputs_of (get_or nodes k d)) q in moved.sent k q d l port ∙ ap (λ h. a.sent f ++ writes q h) (no_events k l)
            ∙ append-nil (a.sent f))
      ];
    }

  pub count_some : (nodes later : List (Placed X t)) (a v : View) (moved : HaveMoved nodes later a v) → (SameTraffic a v → ⊥) → 0 < count_of moved
  count_some nodes later a v moved busy = elim (cases_lt 0 (count_of moved)) [
    | inl some ↦ some
    | inr none ↦ absurd (busy (same_traffic nodes later a v moved (omega (arith, none))))
  ]

-- one turn more, of which `more` messages came
pub turn_counted : (turns idle idle_turns count more now : ℕ) (any : Bool) → turns ≤ idle_turns * count + idle → idle < idle_turns →
    (any ≡ true → 0 < more) → ((any ≡ true) × (now ≡ 0)) ⊎ ((any ≡ false) × (now ≡ idle + 1)) → turns + 1 ≤ idle_turns * (count + more) + now
turn_counted turns idle idle_turns count more now any before few some (inl (busy, none)) =
    let one : 1 ≤ more = some busy in
    omega (arith, before, few, none, mul-le-mul_left idle_turns one)
turn_counted turns idle idle_turns count more now any before few some (inr (still, next)) = omega (arith, before, next, mul-le-mul_left idle_turns (let least : 0 ≤ more = omega arith in least))
