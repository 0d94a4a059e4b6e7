use Rattle.std.proofs.Common.{sym, subst}
use Rattle.flow_shares.specs.meetings.Open.{AreOwners}
use Rattle.flow_drives.proofs.epochs.epoch_with.Goals as goal

pub epoch-requires : goal.epoch-requires
epoch-requires g c κs within =
    let bounds = c.requires.1.1.1.1 in
    let clauses = bounds.1.1.1.1.1 in
    let lawful = clauses.0 in
    let owners = subst (λ w. AreOwners g.network.share g.network.edges w) (sym c.deref-2.ensures.value) c.in_ok-owners.ensures in (
      within.0,
      (
        within.1.0,
        (
          within.1.1.0,
          (
            within.1.1.1,
            (
              bounds.0,
              (
                bounds.1.0,
                (bounds.1.1.0, (bounds.1.1.1.0, (bounds.1.1.1.1.0, (lawful.chunk.some, (lawful.idle.some, (owners, (clauses.1.0, clauses.1.1))))))),
              ),
            ),
          ),
        ),
      ),
    )
