use Rattle.std.proofs.Common.{refl, subst}
use Rattle.snesl_run.specs.console.Streams.{read_effect, write_effect}
use Rattle.snesl_run.proofs.CutParts.{printed_jobs}
use Rattle.snesl_run.proofs.Printing.{job_refused_so}
use Rattle.snesl_run.proofs.answers.answer_job.Goals as goal
use Rattle.snesl_run.specs.Prints.{PrintedFor, answered}

pub returns-in-Ok : goal.returns-in-Ok
returns-in-Ok g c =
    let out = write_effect g.W.Write.contents c.args.out.now c.print_answer.new.out in
    let err = write_effect g.E.Write.contents c.args.err.now c.print_answer.new.err in
    let reader = read_effect g.R.Read.remaining c.args.job.now c.split_job.new.job in
    let split = c.in-Ok.ensures in
    answered split.0 split.1
    (printed_jobs c.one_answer.ensures.one c.one_input_meaning.ensures.one c.args.config.now out err reader split.0
    c.in-Ok.program.items c.in-Ok.input.items c.print_answer.result
    (subst (λ l. PrintedFor c.args.config.now l c.in-Ok.input.items out err c.print_answer.result) c.deref.ensures.value
    (subst (λ l. PrintedFor c.args.config.now c.deref.result.now l out err c.print_answer.result) c.deref-in-Ok.ensures.value c.print_answer.ensures))
    split.2)

pub returns-in-Err : goal.returns-in-Err
returns-in-Err g c =
    job_refused_so c.in-Err.error c.from.result c.complain.result c.from.ensures c.in-Err.ensures refl c.complain.ensures.told c.complain.ensures.status
