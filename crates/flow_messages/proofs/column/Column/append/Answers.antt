use Rattle.std.proofs.Common.{refl, sym}
use Rattle.std.proofs.lemmas.List.{replicate-append-replicate}
use Rattle.flow_messages.specs.declared.message.Msg.TheVariants.{Item as ItemMsg}
use Rattle.flow_messages.specs.declared.message.Item.TheVariants.{Unit as UnitItem}
use Rattle.flow_messages.proofs.column.Column.append.Goals as goal

pub returns-in-Units-other-clause-moved : goal.returns-in-Units-other-clause-moved
returns-in-Units-other-clause-moved c = rw (c.in-Units.is, c.in-Units-other.is) record {
  messages = sym (replicate-append-replicate c.in-Units.count c.in-Units-other.more (ItemMsg UnitItem));
  kind = refl;
  reserved = refl;
}
