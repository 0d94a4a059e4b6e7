use Rattle.std.proofs.Common.{refl, sym, subst}
use Rattle.std.specs.Prelude.{Some}
use Rattle.std.proofs.lemmas.List.{replicate-append-replicate}
use Rattle.flow_messages.specs.declared.message.Kind.TheVariants.{Unit as UnitKind, Bool as BoolKind, Int as IntKind}
use Rattle.flow_messages.specs.declared.message.Msg.TheVariants.{Item as ItemMsg}
use Rattle.flow_messages.specs.declared.message.Item.TheVariants.{Unit as UnitItem}
use Rattle.flow_messages.specs.Columns.{column_kind}
use Rattle.flow_messages.specs.Kinds.{TakesItems}
use Rattle.flow_messages.proofs.Columns.{own_kind, of_units, of_flags, of_ints}
use Rattle.flow_messages.proofs.column.Column.put_all.Goals as goal

pub unreachable-requires : goal.unreachable-requires
unreachable-requires c =
    let column = c.args.self.now in
    of_units column (own_kind column UnitKind (subst (TakesItems (Some (column_kind column))) c.in-Units.is c.requires.kind)) c.in_default.not-Units

pub unreachable-requires-in_default-self : goal.unreachable-requires-in_default-self
unreachable-requires-in_default-self c =
    let column = c.args.self.now in
    of_flags column (own_kind column BoolKind (subst (TakesItems (Some (column_kind column))) c.in-Flags.is c.requires.kind)) c.in_default-self.not-Flags

pub unreachable-requires-in_default-self-2 : goal.unreachable-requires-in_default-self-2
unreachable-requires-in_default-self-2 c =
    let column = c.args.self.now in
    of_ints column (own_kind column IntKind (subst (TakesItems (Some (column_kind column))) c.in-Ints.is c.requires.kind)) c.in_default-self-2.not-Ints

pub returns-in-Units-self : goal.returns-in-Units-self
returns-in-Units-self c = rw (c.in-Units-self.is, c.in-Units.is) record {
  messages = sym (replicate-append-replicate c.in-Units-self.count c.in-Units.more (ItemMsg UnitItem));
  kind = refl;
  reserved = refl;
}
