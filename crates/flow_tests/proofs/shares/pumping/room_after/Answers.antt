use Rattle.std.proofs.Common.{◌≡◌, false, sym, subst, arith}
use Rattle.std.proofs.lemmas.List.Elements.{All-get_or}
use Rattle.flow_tests.proofs.shares.pumping.room_after.Goals as goal

pub pump-share-requires-clause-fed : goal.pump-share-requires-clause-fed
pump-share-requires-clause-fed g c =
    let shares = c.args.shares.items in
    let share = c.swap_remove-share.result in
    let fed = All-get_or (λ s. s.starved ≡ false) shares 0 share (omega arith) c.requires.fed in
    subst (λ s. s.starved ≡ false) (sym c.swap_remove-share.ensures.value) fed
