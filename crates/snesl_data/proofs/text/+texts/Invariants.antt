use Rattle.std.proofs.Common.{◌≡◌, ◌++◌, map, take}
use Rattle.snesl_data.specs.Values.{value_of, values_of}
use Rattle.snesl_data.specs.Text.{items_text}
use Rattle.snesl_data.proofs.text.+texts.Given as goal

abbrev pub invariant-append_items-loop-i : goal.invariant-append_items-loop-i
invariant-append_items-loop-i l =
    l.out.items ≡ l.fn.out.items ++ items_text (values_of (map value_of (take l.i l.items)))
