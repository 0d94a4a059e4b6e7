use Rattle.std.proofs.Common.{◌≡◌, ◌++◌, map, take}
use Rattle.snesl_data.specs.Values.{an_int, values_of}
use Rattle.snesl_data.specs.Text.{items_text}
use Rattle.snesl_data.proofs.text.append_wides.Given as goal

abbrev pub invariant-loop-i : goal.invariant-loop-i
invariant-loop-i l =
    l.out.items ≡ l.fn.out.items ++ items_text (values_of (map an_int (take l.i l.wides)))
