use Rattle.std.proofs.Common.{refl, sym, ap, ◌∙◌}
use Rattle.std.proofs.lemmas.List.{drop-replicate, drop-map}
use Rattle.flow_messages.specs.declared.message.Msg.TheVariants.{Item as ItemMsg}
use Rattle.flow_messages.specs.declared.message.Item.TheVariants.{Unit as UnitItem, Bool as BoolItem, Int as IntItem}
use Rattle.flow_messages.specs.Contents.{flag_messages, int_messages}
use Rattle.flow_messages.specs.IntRuns.{integers_in}
use Rattle.flow_messages.specs.Runs.{run_items}
use Rattle.flow_messages.proofs.column.Column.skip.Goals as goal

pub returns-in-Units : goal.returns-in-Units
returns-in-Units c = rw c.in-Units.is record {
  messages = sym (drop-replicate c.args.count c.in-Units.units (ItemMsg UnitItem));
  kind = refl;
  reserved = refl;
}

pub returns-in-Flags : goal.returns-in-Flags
returns-in-Flags c = rw c.in-Flags.is record {
  messages = ap flag_messages c.skip.ensures.items ∙ sym (drop-map (λ b. ItemMsg (BoolItem b)) c.args.count (run_items c.in-Flags.flags));
  kind = refl;
  reserved = c.skip.ensures.most;
}

pub returns-in-Ints : goal.returns-in-Ints
returns-in-Ints c = rw c.in-Ints.is record {
  messages = ap int_messages c.skip-in-Ints.ensures.items ∙ sym (drop-map (λ n. ItemMsg (IntItem n)) c.args.count (integers_in c.in-Ints.ints));
  kind = refl;
  reserved = c.skip-in-Ints.ensures.most;
}
