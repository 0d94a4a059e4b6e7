use Rattle.std.proofs.Common.{refl, sym, subst, arith}
use Rattle.std.proofs.lemmas.Option.{slice_get_read}
use Rattle.std.specs.Prelude.{◌↔◌, IsTrue}
use Rattle.flow_messages.specs.Kinds.{TakesKind}
use Rattle.flow_messages.proofs.Fitting.{same_takes}
use Rattle.flow_boxes.proofs.Changed.{writer-below}
use Rattle.flow_boxes.proofs.box_ends.BoxesEnds.takes.Goals as goal

pub returns : goal.returns
returns c =
    let s = c.args.self.now in
    let h = writer-below s.outboxes.items c.args.edge c.requires in
    let kind = c.index.result.now in
    let is = slice_get_read s.kinds.items _ c.args.edge kind refl (omega (arith, h, s.each_kind)) c.index.ensures in
    subst (λ of. IsTrue c.eq.result ↔ TakesKind of c.args.kind) (sym is) (same_takes kind c.args.kind c.eq.result c.eq.ensures)
