-- What was put by the writer of a lane of scalars, and how much more it may put.
use Rattle.std.specs.Prelude.{◌≡◌, ℕ, ◌+◌, ◌≤◌, List, [], ◌∷◌, ◌++◌, length, min}
use Rattle.flow_messages.specs.declared.message.Msg.{Msg}
use Rattle.flow_words.specs.declared.ring.WordWriter.{WordWriter}
use Rattle.flow_rings.specs.Edge as ring
use Rattle.flow_words.specs.Edge as words
use Rattle.flow_edges.specs.declared.lanes.counted.CountedWriter.{CountedWriter}
use Rattle.flow_edges.specs.declared.lanes.gathered.Gathered.{Gathered}
use Rattle.flow_edges.specs.lanes.Many.{many_messages, many_kind}

-- what is gathered, the oldest first
abbrev pub gathered_in : Gathered → List Msg
gathered_in g = many_messages g.items

-- what was put, the oldest first: what was put on the edge, and then what is gathered
abbrev pub put_by_both : Gathered → WordWriter → List Msg
put_by_both g w = words.sent w ++ gathered_in g

-- but for n messages, the edge has no less room beside what is gathered
abbrev pub KeepsRoomBut : ℕ → Gathered → WordWriter → Gathered → WordWriter → Type 0
KeepsRoomBut n g w h v = words.certain_room w + length (gathered_in h) ≤ words.certain_room v + length (gathered_in g) + n

-- this message was put after all others, gathered or not
abbrev pub AddsToBoth : Msg → Gathered → WordWriter → Gathered → WordWriter → Type 0
AddsToBoth m g w h v = put_by_both h v ≡ put_by_both g w ++ m ∷ []

-- what is gathered is of the edge's kind, and the edge has room for it
pub record CanGoOn (g : Gathered) (w : WordWriter) : Type 0 where
  pub kind : many_kind g.items ≡ words.kind_of w
  pub certain : length (gathered_in g) ≤ words.certain_room w

-- it gathers the same kind for the same edge
pub record SameGathering (g : Gathered) (w : WordWriter) (h : Gathered) (v : WordWriter) : Type 0 where
  pub kind : many_kind h.items ≡ many_kind g.items
  pub edge : words.SameWriter w v

-- these are gathered too, of the same kind
pub record GathersToo (ms : List Msg) (g h : Gathered) : Type 0 where
  pub kind : many_kind h.items ≡ many_kind g.items
  pub added : gathered_in h ≡ gathered_in g ++ ms

-- every message put so far, the oldest first
abbrev pub put_by : CountedWriter → List Msg
put_by w = put_by_both w.gathered w.edge

-- how many puts are certain of room
abbrev pub sure_room : CountedWriter → ℕ
sure_room w = min w.room w.free

-- nothing was put, and no room that was certain is lost
pub record LooksForRoom (w v : CountedWriter) : Type 0 where
  pub edge : words.SameWriter w.edge v.edge
  pub back : ring.SameReader w.back v.back
  pub put : put_by v ≡ put_by w
  pub room : sure_room w ≤ sure_room v

-- these were put, unless an `End` was before, and took no more room than they are
pub record PutsMany (ms : List Msg) (w v : CountedWriter) : Type 0 where
  pub edge : words.SameWriter w.edge v.edge
  pub back : v.back ≡ w.back
  pub put : put_by v ≡ words.followed_unless_ended (put_by w) ms
  pub room : sure_room w ≤ sure_room v + length ms
