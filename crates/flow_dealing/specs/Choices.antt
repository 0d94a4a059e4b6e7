-- How many threads are chosen for a graph, by what they are foretold to take. Times are in picoseconds.
use Rattle.std.specs.Prelude.{◌≡◌, ℕ, ◌*◌, ◌&&◌, Bool, List, cond, length, nat_le, nat_lt}
use Rattle.std.specs.List.{sum}
use Rattle.std.specs.Io.Iter.{u64_saturate}
use Rattle.flow_dealing.specs.cut.Loads.{IsDealing, greatest_load}
use Rattle.flow_dealing.specs.declared.choice.Choice.{Choice}
use Rattle.flow_dealing.specs.declared.tried.Tried.{Tried}

-- ten milliseconds
abbrev pub ten_milliseconds : ℕ
ten_milliseconds = 10000000000

-- threads take under eight tenths of the time of one
abbrev pub is_sooner : (alone beside : ℕ) → Bool
is_sooner alone beside = nat_lt (10 * beside) (8 * alone)

-- and that time is over ten milliseconds
abbrev pub pays : (alone beside : ℕ) → Bool
pays alone beside = is_sooner alone beside && nat_lt ten_milliseconds alone

-- Of at most so many threads four are chosen where they pay and take less than two, else two where they pay, else one.
abbrev pub threads_for : (most alone two four : ℕ) → ℕ
threads_for most alone two four =
    cond (nat_le 4 most && pays alone four && nat_lt four two) 4 (cond (nat_le 2 most && pays alone two) 2 1)

-- the nodes that were tried have each a share, below the number of threads that are chosen
abbrev pub DealsTried : Tried → Choice → Type 0
DealsTried tried choice = IsDealing (length tried.rings.items) choice.threads choice.share.items

-- The nodes are dealt so to so many threads, and the greatest load is foretold.
pub record IsForetold (tried : Tried) (threads : ℕ) (share : List ℕ) (time : ℕ) : Type 0 where
  pub dealing : IsDealing (length tried.rings.items) threads share
  pub load : time ≡ u64_saturate (greatest_load tried.rings.items tried.links.items share threads)

-- A choice among one thread, two and four, of at most so many, by what each is foretold to take.
pub record IsChosen (most : ℕ) (tried : Tried) (choice : Choice) : Type 0 where
  -- one thread has the work of all nodes
  pub alone : choice.alone ≡ u64_saturate (sum tried.alone.items)
  -- two threads and four have these shares
  pub share_of_two : List ℕ
  pub share_of_four : List ℕ
  pub two : IsForetold tried 2 share_of_two choice.two
  pub four : IsForetold tried 4 share_of_four choice.four
  -- as many are chosen as these times say, and have the nodes of these shares
  pub threads : choice.threads ≡ threads_for most choice.alone choice.two choice.four
  pub dealt_to_two : choice.threads ≡ 2 → choice.share.items ≡ share_of_two
  pub dealt_to_four : choice.threads ≡ 4 → choice.share.items ≡ share_of_four
