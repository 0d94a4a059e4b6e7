use Rattle.std.proofs.Common.{◌+◌, ◌*◌, ◌-◌, ◌≤◌, List, [], ◌∷◌, length}
use Rattle.snesl_data.specs.Types.{ty_of}
use Rattle.snesl_data.specs.Values.{Value, values_of, AllHaveType}
use Rattle.snesl_values.specs.InputTokens.{HasTokens}
use Rattle.snesl_values.specs.Wants.{a_value, items, further_items}
use Rattle.snesl_values.proofs.InputWants.{Leaves}
use Rattle.snesl_values.proofs.InputItems.{size, leading_tokens}
use Rattle.snesl_values.proofs.checker.+values.Given as goal

abbrev pub decreases-check_value : goal.decreases-check_value
decreases-check_value l = 2 * size (ty_of l.ty.now)

abbrev pub decreases-check_items : goal.decreases-check_items
decreases-check_items l = 2 * size (ty_of l.item.now) + 1

abbrev pub decreases-check_pair : goal.decreases-check_pair
decreases-check_pair l = 2 * (size (ty_of l.first.now) + size (ty_of l.second.now)) + 1

abbrev pub invariant-check_items-each : goal.invariant-check_items-each
invariant-check_items-each l = record {
  within : l.from ≤ length l.text;
  begun : l.at ≤ l.from;
  before : List Value;
  have_type : AllHaveType l.dialect (values_of before) (ty_of l.item);
  reads : HasTokens l.text l.at (leading_tokens before) l.from;
  leaves : Leaves l.dialect l.text (items (ty_of l.item) l.close ∷ []) l.at (a_value (ty_of l.item) ∷ further_items (ty_of l.item) l.close ∷ []) l.from;
}

abbrev pub decreases-check_items-each : goal.decreases-check_items-each
decreases-check_items-each l = length l.text - l.from
