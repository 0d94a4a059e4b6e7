use Rattle.std.proofs.Common.{◌≡◌, false, subst}
use Rattle.std.specs.List.{All}
use Rattle.flow_messages.specs.declared.message.Kind.TheVariants.{Unit, Bool, Int}
use Rattle.flow_messages.specs.Signals.{signals, signal_of, ended}
use Rattle.flow_messages.specs.Kinds.{FitsEdge}
use Rattle.flow_messages.specs.Flats.{message_of}
use Rattle.flow_rings.specs.Ring.{sent, writer_kind}
use Rattle.flow_rings.proofs.Flats.{each_follows}
use Rattle.flow_rings.proofs.ring.WriterRing.push_slice.Goals as goal

pub push_all-requires : goal.push_all-requires
push_all-requires c =
    let unended = subst (λ w. ended (signals (sent w)) ≡ false) c.in-Units.is c.requires.open in
    let fit = subst (λ w. All (λ x. FitsEdge (writer_kind w) (signal_of (message_of x))) c.args.flats.now) c.in-Units.is c.requires.fit in
    each_follows Unit _ _ unended fit c.requires.last

pub push_all-requires-in-Flags : goal.push_all-requires-in-Flags
push_all-requires-in-Flags c =
    let unended = subst (λ w. ended (signals (sent w)) ≡ false) c.in-Flags.is c.requires.open in
    let fit = subst (λ w. All (λ x. FitsEdge (writer_kind w) (signal_of (message_of x))) c.args.flats.now) c.in-Flags.is c.requires.fit in
    each_follows Bool _ _ unended fit c.requires.last

pub push_all-requires-in-Ints : goal.push_all-requires-in-Ints
push_all-requires-in-Ints c =
    let unended = subst (λ w. ended (signals (sent w)) ≡ false) c.in-Ints.is c.requires.open in
    let fit = subst (λ w. All (λ x. FitsEdge (writer_kind w) (signal_of (message_of x))) c.args.flats.now) c.in-Ints.is c.requires.fit in
    each_follows Int _ _ unended fit c.requires.last
