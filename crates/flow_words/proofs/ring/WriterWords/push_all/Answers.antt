use Rattle.std.proofs.Common.{subst}
use Rattle.std.specs.Prelude.{Some}
use Rattle.flow_messages.specs.Kinds.{TakesItems}
use Rattle.flow_words.specs.Ring.{writer_kind}
use Rattle.flow_words.proofs.Putting.{not_units, not_flags, not_ints}
use Rattle.flow_words.proofs.ring.WriterWords.push_all.Goals.{in_default-via-in-Units+in_default, in_default-via-in-Flags+in_default, in_default-via-in-Ints+in_default}
use Rattle.flow_words.proofs.ring.WriterWords.push_all.Goals as goal

pub unreachable-requires : goal.unreachable-requires
unreachable-requires c =
    let ring = c.args.self.now in
    let takes = TakesItems (Some (writer_kind ring)) in
    elim c.in_default.branch [
      | in_default-via-in-Units+in_default w ↦ not_units ring (subst takes w.in_default.is-1 c.requires.kind) w.in_default.not-Units-0
      | in_default-via-in-Flags+in_default w ↦ not_flags ring (subst takes w.in_default.is-1 c.requires.kind) w.in_default.not-Flags-0
      | in_default-via-in-Ints+in_default w ↦ not_ints ring (subst takes w.in_default.is-1 c.requires.kind) w.in_default.not-Ints-0
    ]
