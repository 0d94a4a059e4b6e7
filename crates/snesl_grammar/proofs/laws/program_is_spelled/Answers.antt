use Rattle.snesl_grammar.proofs.laws.program_is_spelled.Goals as goal

pub returns : goal.returns
returns c = c.args.program.now.spelled
