use Rattle.std.proofs.Common.{◌≡◌, sym, subst, rules}
use Rattle.flow_drive.specs.Dealings.{network_under}
use Rattle.flow_drive.specs.ShareEpochs.{AreOfOneGraph}
use Rattle.flow_drive.specs.SharedNetworks.{AreFed}
use Rattle.callers.proofs.strangers.drive.after_epochs_in.Goals as goal

pub epoch-requires : goal.epoch-requires
epoch-requires g c κs within =
    let made = c.in_ok-shares.ensures in
    let same : g.network ≡ network_under c.args.graph c.args.config.now = search rules in
    let graph = subst (λ s. AreOfOneGraph s c.in_ok-shares.shares.items) (sym same) made.graph in
    (search rules, (search rules, (search rules, (search rules, (search rules, (search rules, (search rules, (search rules, (made.dealt.lawful, (graph, made.fed))))))))))

pub epoch_with-requires : goal.epoch_with-requires
epoch_with-requires g c κs within =
    let fed = subst (λ l. AreFed l) c.deref.ensures.value (c.are_fed.ensures.0 c.if-not-are_fed.false) in (
      search rules,
      (
        search rules,
        (
          search rules,
          (
            search rules,
            (
              search rules,
              (
                search rules,
                (search rules, (search rules, (search rules, (c.in_ok-shares.ensures.dealt.lawful, (c.in_ok-once.ensures.epoch.graph, fed))))),
              ),
            ),
          ),
        ),
      ),
    )
