use Rattle.std.proofs.Common.{◌≡◌, ℕ, false, ap, ◌∙◌}
use Rattle.std.specs.Prelude.{Result, Ok, Err, None, IfOk}
use Rattle.std.specs.declared.alloc.AllocError.{AllocError}
use Rattle.flow_edges.specs.declared.lanes.rings.Rings.{Rings}
use Rattle.flow_edges.specs.lanes.Rings.{ends_of, writes_of, reads_of, writer_at, reader_at}
use Rattle.flow_shares.specs.meetings.RingMeetings.{at_line_is}
use Rattle.flow_shares.proofs.meetings.opening_rings.RingsOpening.none.Goals as goal

none_seen : (r : Result Rings AllocError) → IfOk r (λ rings. (e : ℕ) → (writer_at rings e ≡ None) × (reader_at rings e ≡ None)) →
    IfOk r (λ rings. (e : ℕ) → ((ends_of rings).writes e ≡ false) × ((ends_of rings).reads e ≡ false))
none_seen (Err x) free = tt
none_seen (Ok rings) free = λ e. (at_line_is writes_of rings.writers.items e None ∙ ap writes_of (free e).0, at_line_is reads_of rings.readers.items e None ∙ ap reads_of (free e).1)

pub returns-clause-none : goal.returns-clause-none
returns-clause-none c = none_seen c.none.result c.none.ensures.free
