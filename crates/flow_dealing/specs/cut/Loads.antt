-- What a dealing of nodes to shares loads on each share.
use Rattle.std.specs.Prelude.{◌≡◌, ℕ, zero, suc, ◌+◌, ◌<◌, ◌≤◌, ◌%◌, ◌++◌, ◌∷◌, [], List, cond, length, max, nat_eq, slice_index}
use Rattle.std.specs.List.{All, sum_by}
use Rattle.flow_dealing.specs.declared.cut.link.Link.{Link}

-- links between so many nodes
abbrev pub AreBetween : ℕ → List Link → Type 0
AreBetween nodes links = All (λ link. (link.writer < nodes) × (link.reader < nodes)) links

-- each of so many nodes has one of so many shares
abbrev pub IsDealing : (nodes threads : ℕ) → List ℕ → Type 0
IsDealing nodes threads share = (length share ≡ nodes) × All (λ s. s < threads) share

-- node k goes to share k, modulo how many there are
abbrev pub by_turns : (threads nodes : ℕ) → List ℕ
by_turns threads zero = []
by_turns threads (suc k) = by_turns threads k ++ (k % threads) ∷ []

-- the work of the first nodes, of those that share s has
abbrev pub work_of : (work share : List ℕ) (s nodes : ℕ) → ℕ
work_of work share s zero = 0
work_of work share s (suc k) = work_of work share s k + cond (nat_eq (slice_index share k) s) (slice_index work k) 0

-- the cost of a link, where share s has just one of its nodes
abbrev pub cost_to : (share : List ℕ) (s : ℕ) → Link → ℕ
cost_to share s link =
    cond (nat_eq (slice_index share link.writer) s)
    (cond (nat_eq (slice_index share link.reader) s) 0 link.cost)
    (cond (nat_eq (slice_index share link.reader) s) link.cost 0)

module _ (work : List ℕ) (links : List Link) (share : List ℕ) where
  -- the load of share s: the work of its nodes, and the cost of each link to another share
  abbrev pub load : ℕ → ℕ
  load s = work_of work share s (length work) + sum_by (cost_to share s) links

  -- the greatest load of so many shares
  abbrev pub greatest_load : ℕ → ℕ
  greatest_load zero = 0
  greatest_load (suc s) = max (load s) (greatest_load s)

module _ (work : List ℕ) (links : List Link) (threads : ℕ) where
  -- the greatest load of a dealing is no more than that of another
  abbrev pub LoadsNoMore : (share other : List ℕ) → Type 0
  LoadsNoMore share other = greatest_load work links share threads ≤ greatest_load work links other threads

  -- and no more than that of the dealing by turns
  abbrev pub LoadsNoMoreThanTurns : List ℕ → Type 0
  LoadsNoMoreThanTurns share = LoadsNoMore share (by_turns threads (length work))
