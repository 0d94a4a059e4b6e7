use Rattle.std.proofs.Common.{subst, Ok}
use Rattle.std.specs.declared.alloc.AllocError.{AllocError}
use Rattle.snesl_grammar.specs.View.{program_of}
use Rattle.snesl_types.specs.Clashes.{ProgramClashes, IsFound}
use Rattle.snesl_advice.proofs.refusals.mismatch_advice.Goals as goal

pub clash_advice-requires : goal.clash_advice-requires
clash_advice-requires c =
    subst (λ found. IsFound {E = AllocError} (ProgramClashes c.in-Ok.parsed.text.items (program_of c.in-Ok.parsed) c.args.at) (Ok found)) c.in-Some.is c.in_ok-clash-in-Ok.ensures
