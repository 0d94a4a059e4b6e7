-- What is known of an edge where its two ends have met.
use Rattle.std.proofs.Common.{◌≡◌, ℕ, ◌+◌, ◌≤◌, List, [], ◌∷◌, ◌++◌, length, refl, sym, ap, ◌∙◌, arith, append-nil, append_assoc, length-append}
use mathlib.Core.List.{IsPrefix}
use Rattle.flow_messages.specs.Signals.{Signal}
use Rattle.flow_messages.specs.Ends.{View, held}
use Rattle.flow_edges.specs.lanes.Rings.{Kept}

-- The writer of edge e is seen in a, and its reader in b. The edge holds so many messages at most.
pub record Met (a b : View) (slots e : ℕ) : Type 0 where
  -- what was received is a prefix of what was sent
  pub begins : IsPrefix (b.received e) (a.sent e)
  -- all that was sent was received or is certain to the reader, in this order
  pub arrives : IsPrefix (a.sent e) (b.received e ++ b.coming e)
  -- all slots that hold no message are room to the writer
  pub room : slots + length (b.received e) ≤ a.room e + length (a.sent e)
  -- it holds no more than its slots
  pub fits : length (a.sent e) ≤ length (b.received e) + slots

-- what was received and what is certain to the reader are all that was sent
abbrev pub HasArrived : View → View → ℕ → Type 0
HasArrived a b e = b.received e ++ b.coming e ≡ a.sent e

-- no more is certain to the reader than was sent
abbrev pub ComesOfSent : View → View → ℕ → Type 0
ComesOfSent a b e = length (b.received e) + held b e ≤ length (a.sent e)

-- so many messages at least were sent and not received
abbrev pub HoldsAtLeast : View → View → ℕ → ℕ → Type 0
HoldsAtLeast a b count e = count + length (b.received e) ≤ length (a.sent e)

-- the fact holds wherever the two ends of an edge have met
abbrev pub WhereMet : (View → View → ℕ → ℕ → Type 0) → Type 0
WhereMet Fact = (a b : View) (slots e : ℕ) → Met a b slots e → Fact a b slots e

-- no more messages were sent than were received and are certain
pub met_held : (a b : View) (slots e : ℕ) → Met a b slots e → length (a.sent e) ≤ length (b.received e) + held b e
met_held a b slots e m = omega (arith, ap length m.arrives.1, length-append (a.sent e) m.arrives.0, length-append (b.received e) (b.coming e))

-- where the reader is certain of what was sent alone, what was received and what is coming are all that was sent
pub met_whole : (a b : View) (slots e : ℕ) → Met a b slots e → length (b.received e) + held b e ≤ length (a.sent e) → b.received e ++ b.coming e ≡ a.sent e
met_whole a b slots e m few =
    let over = m.arrives.0 in
    let none : over ≡ [] = no_length over (omega (arith, few, ap length m.arrives.1, length-append (a.sent e) over, length-append (b.received e) (b.coming e))) in
    sym m.arrives.1 ∙ ap (λ (x : List Signal). a.sent e ++ x) none ∙ append-nil (a.sent e)
  where
    no_length : (xs : List Signal) → length xs ≤ 0 → xs ≡ []
    no_length [] few = refl
    no_length (x ∷ xs) few = absurd (omega (arith, few))

-- all that was sent was received or is certain, where both together are what was sent
pub arrives_whole : (sent all : List Signal) → all ≡ sent → IsPrefix sent all
arrives_whole sent all is = ([], append-nil sent ∙ sym is)

-- what is known of an edge stays known where nothing is sent or received
pub met_kept : (a a' b b' : View) (slots e : ℕ) → Met a b slots e → Kept a a' → Kept b b' → Met a' b' slots e
met_kept a a' b b' slots e m p q =
    let more = q.coming e in
    let sent = ap length (p.traffic.sent e) in
    let received = ap length (q.traffic.received e) in
    record {
      begins = (m.begins.0, ap (λ (x : List Signal). x ++ m.begins.0) (q.traffic.received e) ∙ m.begins.1 ∙ sym (p.traffic.sent e));
      arrives = (
        m.arrives.0 ++ more.0,
        ap (λ (x : List Signal). x ++ (m.arrives.0 ++ more.0)) (p.traffic.sent e)
            ∙ sym (append_assoc (a.sent e) m.arrives.0 more.0)
            ∙ ap (λ (x : List Signal). x ++ more.0) m.arrives.1
            ∙ append_assoc (b.received e) (b.coming e) more.0
            ∙ ap (λ (x : List Signal). b.received e ++ x) more.1
            ∙ ap (λ (x : List Signal). x ++ b'.coming e) (sym (q.traffic.received e)),
      );
      room = omega (arith, m.room, p.room e, sent, received);
      fits = omega (arith, m.fits, sent, received);
    }

prefix_trans : (xs ys zs : List Signal) → IsPrefix xs ys → IsPrefix ys zs → IsPrefix xs zs
prefix_trans xs ys zs p q = (p.0 ++ q.0, sym (append_assoc xs p.0 q.0) ∙ ap (λ (l : List Signal). l ++ q.0) p.1 ∙ q.1)

pub kept_refl : (a : View) → Kept a a
kept_refl a = record {
  ends = record { kinds = λ k. refl; writes = λ k. refl; reads = λ k. refl };
  traffic = record { sent = λ k. refl; received = λ k. refl };
  coming = λ k. ([], append-nil (a.coming k));
  room = λ k. omega arith;
}

pub kept_trans : (a b c : View) → Kept a b → Kept b c → Kept a c
kept_trans a b c p q = record {
  ends = record { kinds = λ k. q.ends.kinds k ∙ p.ends.kinds k; writes = λ k. q.ends.writes k ∙ p.ends.writes k; reads = λ k. q.ends.reads k ∙ p.ends.reads k };
  traffic = record { sent = λ k. q.traffic.sent k ∙ p.traffic.sent k; received = λ k. q.traffic.received k ∙ p.traffic.received k };
  coming = λ k. prefix_trans (a.coming k) (b.coming k) (c.coming k) (p.coming k) (q.coming k);
  room = λ k. omega (arith, p.room k, q.room k);
}
