use Rattle.std.proofs.Common.{IsTrue, subst, sym}
use Rattle.std.specs.List.{AllByRecursion}
use Rattle.std.specs.Char.{is_ascii_digit}
use Rattle.std.proofs.Common.{drop}
use Rattle.snesl_values.proofs.InputScan.{cut_digits, prefix_passes}
use Rattle.snesl_values.proofs.scan.number_at.Goals as goal

pub signed_number-requires : goal.signed_number-requires
signed_number-requires c =
    let cut = cut_digits c.args.text.now c.args.from c.digits_len-len.result c.digits_len-len.ensures.count in
    subst (AllByRecursion (λ x. IsTrue (is_ascii_digit x))) (sym cut.0) (prefix_passes is_ascii_digit (drop c.args.from c.args.text.now))
