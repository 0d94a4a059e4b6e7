use Rattle.snesl_run.proofs.OfConsole.Beginnings.{parts_there}
use Rattle.snesl_run.proofs.OfConsole.Streaming.{rest_is}
use Rattle.snesl_run.proofs.console.beginning.parts_at_end.Goals as goal
use Rattle.snesl_run.proofs.console.beginning.parts_at_end.Goals.{else-eq, then-eq}
use Rattle.std.proofs.Common.{ap, codes, drop, inl, inr, length, sym, take, ◌-◌, ◌∙◌}
use Rattle.std.proofs.lemmas.Bool.Decides.{Decides-eqb}
use Rattle.std.proofs.lemmas.Bool.{false≢true}
use Rattle.std.proofs.lemmas.Slice.Eq.{slice_eq-Decides}

pub returns : goal.returns
returns c =
    let held = c.deref.result.now in
    let tail = take (length held - c.args.line) (drop c.args.line held) in
    let is = slice_eq-Decides Decides-eqb tail (codes "---") c.eq.result c.eq.ensures in
    parts_there c.args.bytes.items tail c.truncate.new.self.items c.new.result.items c.args.line c.if-eq.program c.requires
    (rest_is held c.args.line ∙ ap (drop c.args.line) c.deref.ensures.value)
    (elim c.if-eq.branch [
      | then-eq w ↦ inl (w.program-is, is.0 w.if-eq.true)
      | else-eq w ↦ inr (w.program-is, λ e. false≢true (sym w.if-eq.false ∙ is.1 e))
    ])
    c.truncate.ensures.items c.new.ensures.items
