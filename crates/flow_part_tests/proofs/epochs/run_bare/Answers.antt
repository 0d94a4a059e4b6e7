use Rattle.std.proofs.Common.{◌≡◌, length, rules}
use Rattle.std.specs.List.{All}
use Rattle.flow_edges.specs.lanes.Rings.{ends_of}
use Rattle.flow_part_tests.specs.NoEnds.{HasNoEnds}
use Rattle.flow_part_tests.proofs.Bare.{no_owners, bare_graph}
use Rattle.flow_part_tests.proofs.epochs.run_bare.Goals as goal

pub run_epochs-requires : goal.run_epochs-requires
run_epochs-requires g c κs within =
    let shares = c.args.shares.items in
    let bare : All (λ share. length share.nodes.items ≡ 0) shares = search rules in
    let none : All (λ share. HasNoEnds (ends_of share.ends)) shares = search rules in (
      search rules,
      (
        search rules,
        (
          search rules,
          (
            search rules,
            (
              search rules,
              (
                search rules,
                (search rules, (search rules, (search rules, (search rules, (search rules, (no_owners, (bare_graph shares bare none, search rules))))))),
              ),
            ),
          ),
        ),
      ),
    )
