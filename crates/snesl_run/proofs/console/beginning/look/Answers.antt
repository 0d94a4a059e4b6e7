use Rattle.snesl_run.proofs.OfConsole.Beginnings.{next_there, parted_there, too_long_last, too_long_there, undecided_last}
use Rattle.snesl_run.proofs.OfConsole.Streaming.{rest_is}
use Rattle.snesl_run.proofs.console.beginning.look.Goals as goal
use Rattle.snesl_run.proofs.console.beginning.look.Goals.{else-bytes-gt-LONGEST_PROGRAM-via-else-bytes-gt-LONGEST_PROGRAM}
use Rattle.snesl_run.proofs.console.beginning.look.Goals.{else-bytes-gt-LONGEST_PROGRAM-via-then-bytes-gt-LONGEST_PROGRAM+else-not-starts_with}
use Rattle.std.proofs.Common.{codes, drop, inl, inr, length, sym, take, ◌-◌, ◌∙◌}
use Rattle.std.proofs.lemmas.Bool.Decides.{Decides-eqb}
use Rattle.std.proofs.lemmas.Bool.{false≢true}
use Rattle.std.proofs.lemmas.Slice.Eq.{starts_is}

pub returns-then-is_separator : goal.returns-then-is_separator
returns-then-is_separator c =
    parted_there c.args.bytes.now c.loop-n.line c.loop-n.from c.in-Some.n c.loop-n.invariant c.in-Some.ensures
    (c.is_separator.ensures.0 c.if-is_separator.true)

pub returns-then-line : goal.returns-then-line
returns-then-line c =
    too_long_there c.args.bytes.now c.loop-n.line c.loop-n.from c.in-Some.n c.loop-n.invariant c.in-Some.ensures
    (λ is. false≢true (sym c.if-is_separator.false ∙ c.is_separator.ensures.1 is)) c.if-line.true

pub loop-n-preserved : goal.loop-n-preserved
loop-n-preserved c =
    next_there c.args.bytes.now c.loop-n.line c.loop-n.from c.in-Some.n c.loop-n.invariant c.in-Some.ensures
    (λ is. false≢true (sym c.if-is_separator.false ∙ c.is_separator.ensures.1 is)) c.if-line.false

pub returns-then-not-starts_with : goal.returns-then-not-starts_with
returns-then-not-starts_with c =
    let bytes = c.args.bytes.now in
    let tail = take (length bytes - c.loop-n.line) (drop c.loop-n.line bytes) in
    let tells = starts_is Decides-eqb (codes "---\r") tail c.starts_with.result c.starts_with.ensures.value in
    too_long_last bytes tail c.loop-n.line c.loop-n.from c.loop-n.invariant c.in_default.ensures (rest_is bytes c.loop-n.line)
    (λ e. false≢true (sym c.if-not-starts_with.true ∙ tells.1 e.0 e.1)) c.if-bytes-gt-LONGEST_PROGRAM.true

pub returns : goal.returns
returns c =
    let bytes = c.args.bytes.now in
    let tail = take (length bytes - c.loop-n.line) (drop c.loop-n.line bytes) in
    let undecided = undecided_last bytes tail c.loop-n.line c.loop-n.from c.loop-n.invariant c.in_default.ensures (rest_is bytes c.loop-n.line) in
    elim c.else-bytes-gt-LONGEST_PROGRAM.branch [
      | else-bytes-gt-LONGEST_PROGRAM-via-then-bytes-gt-LONGEST_PROGRAM+else-not-starts_with w ↦
          undecided (inr (drop (length tail) (codes "---\r"), (starts_is Decides-eqb (codes "---\r") tail w.starts_with.result w.starts_with.ensures.value).0 w.if-not-starts_with.false))
      | else-bytes-gt-LONGEST_PROGRAM-via-else-bytes-gt-LONGEST_PROGRAM w ↦ undecided (inl w.if-bytes-gt-LONGEST_PROGRAM.false)
    ]
