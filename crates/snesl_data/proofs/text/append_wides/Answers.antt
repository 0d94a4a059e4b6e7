use Rattle.std.proofs.Common.{◌++◌, get_or, pos, ap, ◌∙◌, arith, rules}
use Rattle.std.specs.Fmt.{signed_decimal}
use Rattle.std.proofs.lemmas.Int.{to_z-of_z}
use Rattle.std.proofs.lemmas.List.{get_or_default}
use mir.Val.{SFits}
use mir.Syntax.{w128}
use Rattle.snesl_data.specs.Values.{an_int}
use Rattle.snesl_data.proofs.Texts.{one_turn}
use Rattle.snesl_data.proofs.text.append_wides.Goals as goal

pub loop-i-preserved : goal.loop-i-preserved
loop-i-preserved c =
    let i = c.loop-i.i in
    let n = get_or c.args.wides.now i (pos 0) in
    let fits : SFits w128 n = search rules in
    one_turn an_int c.args.wides.now i n (omega arith) (get_or_default c.args.wides.now i (pos 0) n (omega arith))
    c.args.out.now.items c.loop-i.out.items c.append_comma.new.out.items c.append_integer.new.out.items
    c.loop-i.invariant c.in_ok-append_comma.ensures
    (c.in_ok-append_integer.ensures ∙ ap (λ m. c.append_comma.new.out.items ++ signed_decimal m) (to_z-of_z w128 n fits))
