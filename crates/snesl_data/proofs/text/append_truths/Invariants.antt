use Rattle.std.proofs.Common.{◌≡◌, ◌++◌, map, take}
use Rattle.snesl_data.specs.Values.{a_bool, values_of}
use Rattle.snesl_data.specs.Text.{items_text}
use Rattle.snesl_data.proofs.text.append_truths.Given as goal

abbrev pub invariant-loop-i : goal.invariant-loop-i
invariant-loop-i l =
    l.out.items ≡ l.fn.out.items ++ items_text (values_of (map a_bool (take l.i l.truths)))
