use Rattle.std.proofs.Common.{◌≡◌, ◌<◌, ℕ, false, length, option_map, sym, ap, ◌∙◌, arith}
use Rattle.std.proofs.lemmas.Bool.{eqb-true}
use Rattle.std.proofs.lemmas.Bool.Decides.{nat_tests}
use Rattle.std.specs.Prelude.{◌==◌}
use Rattle.snesl_data.specs.Values.{value_of}
use Rattle.snesl_values.specs.Places.{read_value}
use Rattle.snesl_values.specs.Pendings.{frames_of}
use Rattle.snesl_values.proofs.Pendings.{read_full, read_empty}
use Rattle.snesl_values.proofs.builder.whole.Goals as goal

some : (n : ℕ) → false ≡ (n == 0) → 0 < n
some n e = grind (arith, nat_tests)

pub returns-then-not-is_empty : goal.returns-then-not-is_empty
returns-then-not-is_empty c = sym (read_full c.args.pending.now (option_map value_of c.args.last) (some (length c.args.pending.now) c.if-not-is_empty.ensures))

pub returns-in-Some : goal.returns-in-Some
returns-in-Some c =
    sym (ap (λ o. read_value (frames_of c.args.pending.now) (option_map value_of o)) c.in-Some.is
    ∙ read_empty c.args.pending.now (value_of c.in-Some.datum) (eqb-true (length c.args.pending.now) 0 (sym c.if-not-is_empty.ensures)))
