use Rattle.std.proofs.Common.{length, refl, sym, ap, ◌∙◌, arith}
use Rattle.flow_messages.specs.Signals.{has_end}
use Rattle.flow_messages.proofs.Contents.{content-open}
use Rattle.flow_messages.proofs.Signals.{ended-nil}
use Rattle.flow_messages.proofs.store.Store.new.Goals as goal

pub invariant_of-result : goal.invariant_of-result
invariant_of-result c =
    let new = c.in_ok-column.ensures in
    record {
      counts = sym (ap length (content-open c.in_ok-column.column ∙ new.empty));
      bound = omega arith;
      of_kind = new.kind;
      items = ap has_end new.empty ∙ ended-nil;
      reserved = new.reserved;
    }

pub returns : goal.returns
returns c = record { empty = content-open c.in_ok-column.column ∙ c.in_ok-column.ensures.empty; kind = refl; capacity = refl }
