use Rattle.std.proofs.Common.{subst}
use Rattle.std.specs.Prelude.{Some}
use Rattle.flow_messages.specs.Contents.{item_messages}
use Rattle.flow_messages.specs.Kinds.{TakesItems}
use Rattle.flow_messages.proofs.Contents.{begins}
use Rattle.flow_messages.proofs.store.Store.shown.Goals as goal

pub returns : goal.returns
returns c =
    let s = c.args.self.now in
    record {
      first = begins s.column s.ends (item_messages c.shown.result) c.shown.ensures.first;
      kind = subst (λ k. TakesItems (Some k) c.shown.result) s.of_kind c.shown.ensures.kind;
    }
