use Rattle.snesl_run.proofs.OfConsole.Splits.{call_failed, cut_off, ended_there, goes_on, input_broken, input_read, passed_on}
use Rattle.snesl_run.proofs.OfConsole.Streaming.{rest_is}
use Rattle.snesl_run.proofs.console.job.split_by_pieces.Goals as goal
use Rattle.snesl_run.specs.console.Beginnings.{IsParted, IsScanned, IsUndecided}
use Rattle.snesl_run.specs.console.Parts.{AreParts}
use Rattle.snesl_run.specs.console.Streams.{read_effect}
use Rattle.std.proofs.Common.{[], ap, arith, drop, length, subst, take, ◌+◌, ◌++◌, ◌≡◌, ◌∙◌}

pub returns-in_err-read_input-in-Parted : goal.returns-in_err-read_input-in-Parted
returns-in_err-read_input-in-Parted g c =
    let remaining = g.R.Read.remaining in
    let held = c.loop-program.invariant in
    let parted = subst (λ l. IsParted l c.in-Parted.program c.in-Parted.input) c.deref.ensures.value c.in-Parted.ensures in
    passed_on (read_effect remaining c.args.job.now c.read_input.new.job) c.from_residual-in_err-read_input-in-Parted.result c.in_err-read_input-in-Parted.field-0.0
    c.from_residual-in_err-read_input-in-Parted.ensures.1
    (input_broken remaining c.args.job.now c.loop-program.job c.loop-program.bytes.items held.taken held.count c.read_input.new.job
    c.in-Parted.program c.in-Parted.input parted held.few (Unit {0}) c.in_ok-text-in-Parted.text.items c.read_input.new.text.items c.in_err-read_input-in-Parted.field-0.0
    (c.in_ok-text-in-Parted.ensures.items ∙ rest_is c.deref-in-Parted.result.now c.in-Parted.input ∙ ap (drop c.in-Parted.input) c.deref-in-Parted.ensures.value)
    c.in_err-read_input-in-Parted.ensures)

pub returns-in-Parted : goal.returns-in-Parted
returns-in-Parted g c =
    let held = c.loop-program.invariant in
    let parted = subst (λ l. IsParted l c.in-Parted.program c.in-Parted.input) c.deref.ensures.value c.in-Parted.ensures in
    input_read g.R.Read.remaining c.args.job.now c.loop-program.job c.loop-program.bytes.items held.taken held.count c.read_input.new.job
    c.in-Parted.program c.in-Parted.input parted held.few _ c.in_ok-text-in-Parted.text.items (c.truncate.new.self, c.read_input.new.text) c.in_ok-read_input-in-Parted.field-0
    (c.in_ok-text-in-Parted.ensures.items ∙ rest_is c.deref-in-Parted.result.now c.in-Parted.input ∙ ap (drop c.in-Parted.input) c.deref-in-Parted.ensures.value)
    c.truncate.ensures.items c.in_ok-read_input-in-Parted.ensures

pub returns-in-TooLong : goal.returns-in-TooLong
returns-in-TooLong g c =
    let held = c.loop-program.invariant in
    cut_off g.R.Read.remaining c.args.job.now c.loop-program.job c.loop-program.bytes.items held.taken held.count
    (c.truncate-in-TooLong.new.self, c.new.result) held.needed c.truncate-in-TooLong.ensures.items c.new.ensures.items
    (λ rest. subst (λ l. AreParts (l ++ rest) (take 65537 l) []) c.deref.ensures.value (c.in-TooLong.ensures rest))

pub returns-in_err-read_more : goal.returns-in_err-read_more
returns-in_err-read_more g c =
    let remaining = g.R.Read.remaining in
    let held = c.loop-program.invariant in
    let open_so_far = subst (λ l. IsUndecided l c.in-Open.last) c.deref.ensures.value c.in-Open.ensures in
    passed_on (read_effect remaining c.args.job.now c.read_more.new.job) c.from_residual-in_err-read_more.result c.in_err-read_more.field-0.0
    c.from_residual-in_err-read_more.ensures.1
    (call_failed remaining c.args.job.now c.loop-program.job c.loop-program.bytes.items held.taken held.count c.read_more.new.job
    c.in-Open.last (c.saturating_sub-room.result + 1) open_so_far (omega (arith, c.saturating_sub-room.ensures, c.len-seen.ensures))
    c.read_more.new.bytes.items c.in_err-read_more.field-0.0 c.in_err-read_more.ensures)

pub returns-then-branch-eq0 : goal.returns-then-branch-eq0
returns-then-branch-eq0 g c =
    let held = c.loop-program.invariant in
    let open_so_far = subst (λ l. IsUndecided l c.in-Open.last) c.deref.ensures.value c.in-Open.ensures in
    ended_there g.R.Read.remaining c.args.job.now c.loop-program.job c.loop-program.bytes.items held.taken held.count c.read_more.new.job
    c.in-Open.last (c.saturating_sub-room.result + 1) open_so_far (omega (arith, c.saturating_sub-room.ensures, c.len-seen.ensures))
    c.read_more.new.bytes.items c.in_ok-read_more.field-0 c.parts_at_end.result held.needed c.if-branch-eq0.true c.in_ok-read_more.ensures
    (λ same. c.parts_at_end.ensures)

pub loop-program-preserved : goal.loop-program-preserved
loop-program-preserved g c =
    let held = c.loop-program.invariant in
    let open_so_far = subst (λ l. IsUndecided l c.in-Open.last) c.deref.ensures.value c.in-Open.ensures in
    let on = goes_on g.R.Read.remaining c.args.job.now c.loop-program.job c.loop-program.bytes.items held.taken held.count c.read_more.new.job
    c.in-Open.last (c.saturating_sub-room.result + 1) open_so_far (omega (arith, c.saturating_sub-room.ensures, c.len-seen.ensures))
    c.read_more.new.bytes.items c.in_ok-read_more.field-0 c.in_ok-read_more.ensures in
    let seen : length c.loop-program.bytes.items ≡ c.len-seen.result = omega (arith, c.len-seen.ensures) in
    record { taken = on.0; count = on.1; few = on.2; needed = on.4; scanned = subst (λ k. IsScanned c.read_more.new.bytes.items c.in-Open.last k) seen on.5 }
