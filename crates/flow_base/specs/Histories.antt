-- What histories read and wrote, as lists by ports, and closed lists.
use Rattle.std.specs.Prelude.{◌≡◌, ℕ, ◌<◌, ◌≤◌, List, [], ◌∷◌, ◌++◌, ◌⊎◌, cond, nat_lt, true, false, refl}
use Rattle.std.proofs.Common.{inl, inr, sym, ◌∙◌, ap, arith}
use Rattle.std.proofs.Math.Path.{fun_ext}
use Rattle.std.proofs.lemmas.Bool.Decides.{nat_tests}
use Rattle.kahn.specs.Basics.{Begins}
use Rattle.kahn.specs.Processes.{Process, Event, Reads, Writes, reads, writes, HasEnd}
use Rattle.kahn.proofs.Prefix.{reads_first, reads_later, writes_first, writes_later}
use Rattle.flow_messages.specs.Cells.{Cell}
use Rattle.flow_messages.specs.Signals.{Signal, carry, stop}
use Rattle.flow_base.specs.Lists.{Lists, push}
use Rattle.flow_base.specs.Ports.{at_port, off_port, by_port}
use Rattle.flow_base.specs.Transducers.{closed, closed_at}

-- what the history read, and what it wrote, by ports
abbrev pub read_in : List (Event Signal) → Lists Signal
read_in h p = reads p h

abbrev pub written_in : List (Event Signal) → Lists Signal
written_in h q = writes q h

pub reads_push : (p : ℕ) (m : Signal) (h : List (Event Signal)) → read_in (Reads p m ∷ h) ≡ push p m (read_in h)
reads_push p m h =
    fun_ext (by_port (λ k. read_in (Reads p m ∷ h) k ≡ push p m (read_in h) k) p
    (reads_first p p m h refl ∙ sym (at_port p (m ∷ reads p h) (read_in h)))
    (λ k n. reads_later k p m h n ∙ sym (off_port p k (m ∷ reads p h) (read_in h) n)))

pub writes_push : (q : ℕ) (m : Signal) (h : List (Event Signal)) → written_in (Writes q m ∷ h) ≡ push q m (written_in h)
writes_push q m h =
    fun_ext (by_port (λ k. written_in (Writes q m ∷ h) k ≡ push q m (written_in h) k) q
    (writes_first q q m h refl ∙ sym (at_port q (m ∷ writes q h) (written_in h)))
    (λ k n. writes_later k q m h n ∙ sym (off_port q k (m ∷ writes q h) (written_in h) n)))

module _ {S : Type 0} (P : Process S Signal) where
  pub no_end : HasEnd P [] → ⊥
  no_end (before, after, e) = go before e
    where
      go : (xs : List Signal) → xs ++ P.end ∷ after ≡ [] → ⊥
      go [] e = absurd (cc)
      go (x ∷ xs) e = absurd (cc)

  -- the end is the first of the messages, or among the others
  pub end_cases : (m : Signal) (ms : List Signal) → HasEnd P (m ∷ ms) → (m ≡ P.end) ⊎ HasEnd P ms
  end_cases m ms (before, after, e) = go before e
    where
      go : (xs : List Signal) → xs ++ P.end ∷ after ≡ m ∷ ms → (m ≡ P.end) ⊎ HasEnd P ms
      go [] e = inl (cc)
      go (x ∷ xs) e = let tail : xs ++ P.end ∷ after ≡ ms = cc in inr (xs, after, tail)

  pub closed_end : P.end ≡ stop → (body : List Cell) → HasEnd P (closed body)
  closed_end is [] = ([], [], ap (λ m. m ∷ []) is)
  closed_end is (x ∷ body) = let there = closed_end is body in (carry x ∷ there.0, there.1, ap (λ l. carry x ∷ l) there.2)

-- a closed list that begins another is that list
pub closed_begins : (body other : List Cell) → Begins (closed body) (closed other) → body ≡ other
closed_begins [] [] (rest, e) = refl
closed_begins [] (y ∷ other) (rest, e) = absurd (cc)
closed_begins (x ∷ body) [] (rest, e) = absurd (cc)
closed_begins (x ∷ body) (y ∷ other) (rest, e) =
    let head : x ≡ y = cc in
    let tail : closed body ++ rest ≡ closed other = cc in
    let same : body ≡ other = closed_begins body other (rest, tail) in
    cc

pub closed_inside : (n : ℕ) (bodies : Lists Cell) (p : ℕ) → p < n → closed_at n bodies p ≡ closed (bodies p)
closed_inside n bodies p lt = let test : nat_lt p n ≡ true = grind (arith, nat_tests) in ap (λ b. cond b (closed (bodies p)) []) test

pub closed_beyond : (n : ℕ) (bodies : Lists Cell) (p : ℕ) → n ≤ p → closed_at n bodies p ≡ []
closed_beyond n bodies p le = let test : nat_lt p n ≡ false = grind (arith, nat_tests) in ap (λ b. cond b (closed (bodies p)) []) test
