use Rattle.std.proofs.Common.{subst}
use Rattle.snesl_grammar.specs.View.{program_of}
use Rattle.snesl_layout.specs.Laid.{IsParsed, KeepsWords}
use Rattle.snesl_layout.proofs.OneProgram.{are_one}
use Rattle.snesl_layout.proofs.laid.laid_out.Goals as goal

pub returns-then-branch-clause-same : goal.returns-then-branch-clause-same
returns-then-branch-clause-same c =
    let parsed : IsParsed c.args.text.now = (program_of c.in_default.field-0, c.in_default.ensures.right) in
    let its_parsed : IsParsed c.in_ok-out.out.items = subst IsParsed c.deref-2.ensures.value c.in_ok-is_program.ensures.parsed in
    let kept : KeepsWords c.args.text.now c.in-Ok.tokens.items c.in_ok-out.out.items =
    subst (λ tokens. KeepsWords c.args.text.now tokens c.in_ok-out.out.items) c.deref-3.ensures.value
    (subst (KeepsWords c.args.text.now c.deref-3.result.now) c.deref-4.ensures.value (c.in_ok-is_kept.ensures.kept c.if-branch.true)) in
    are_one c.one_answer.ensures.one c.args.text.now c.in_ok-out.out.items c.in-Ok.tokens.items parsed its_parsed c.in-Ok.ensures.found kept
