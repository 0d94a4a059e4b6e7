use Rattle.std.proofs.Common.{length, sym, subst, arith, rules}
use Rattle.flow_shares.specs.declared.error.WorkError.TheVariants.{NoThread}
use Rattle.flow_shares.proofs.Asked.{each_none, each_next}
use Rattle.flow_shares.proofs.Refused.{none_refused}
use Rattle.flow_shares.specs.meetings.SharedNetworks.{AreFed, NoneCanStep}
use Rattle.flow_drives.specs.loops.Epochs.{AreOfOneGraph}
use Rattle.flow_drives.proofs.OfLoops.Whole.{stands_sound, stands_at_rest, left_falls}
use Rattle.flow_drives.proofs.OfLoops.Following.{some_steps}
use Rattle.flow_drives.proofs.OfLoops.EpochsFollow.{went_on, none_went, looked_back}
use Rattle.flow_drives.proofs.loops.epochs.run_epochs.Goals as goal

pub epochs-init : goal.epochs-init
epochs-init g c =
    let given = c.args.shares.items in
    let graph : AreOfOneGraph g.network given = search rules in
    let fed : AreFed given = search rules in
    record {
      asked = λ refused. refused;
      asked_each = each_none (length given) (g.S.Start.asked c.args.start.now);
      went = none_went g.network given c.in_ok-shares.shares.items graph fed c.in_ok-shares.ensures;
    }

pub epoch-requires : goal.epoch-requires
epoch-requires g c κs within =
    let bounds = c.requires.1.1.1.1 in
    let clauses = bounds.1.1.1.1.1 in
    let look = looked_back g.network (λ a b same. same) c.args.shares.items c.epochs.shares.items _ c.are_stuck.new.shares c.epochs.count c.epochs.shares.len
    (omega (arith, c.epochs.shares.ok.0)) c.deref_mut.ensures.value c.are_stuck.ensures.looked c.epochs.invariant.went in
    let sends = bounds.1.1 in
    let went = look.went in
    (within.0, (within.1.0, (within.1.1.0, (within.1.1.1, (bounds.0, (bounds.1.0, (sends.0, (sends.1.0, (sends.1.1.0, (clauses.0, (clauses.1.0, (clauses.1.1.0, (went.graph, went.fed)))))))))))))

pub returns-then-are_stuck-clause-went : goal.returns-then-are_stuck-clause-went
returns-then-are_stuck-clause-went g c =
    let look = looked_back g.network (λ a b same. same) c.args.shares.items c.epochs.shares.items _ c.are_stuck.new.shares c.epochs.count c.epochs.shares.len
    (omega (arith, c.epochs.shares.ok.0)) c.deref_mut.ensures.value c.are_stuck.ensures.looked c.epochs.invariant.went in
    look.went

pub returns-then-are_stuck-clause-sound : goal.returns-then-are_stuck-clause-sound
returns-then-are_stuck-clause-sound g c =
    let look = looked_back g.network (λ a b same. same) c.args.shares.items c.epochs.shares.items _ c.are_stuck.new.shares c.epochs.count c.epochs.shares.len
    (omega (arith, c.epochs.shares.ok.0)) c.deref_mut.ensures.value c.are_stuck.ensures.looked c.epochs.invariant.went in
    stands_sound g.network _ look.went.met look.went.fed

pub returns-then-are_stuck-clause-rest : goal.returns-then-are_stuck-clause-rest
returns-then-are_stuck-clause-rest g c =
    let look = looked_back g.network (λ a b same. same) c.args.shares.items c.epochs.shares.items _ c.are_stuck.new.shares c.epochs.count c.epochs.shares.len
    (omega (arith, c.epochs.shares.ok.0)) c.deref_mut.ensures.value c.are_stuck.ensures.looked c.epochs.invariant.went in
    stands_at_rest g.network _ look.went.met (subst (λ l. NoneCanStep l) (sym look.is) (c.are_stuck.ensures.stuck.0 c.if-are_stuck.true))

pub epochs-smaller : goal.epochs-smaller
epochs-smaller g c =
    let look = looked_back g.network (λ a b same. same) c.args.shares.items c.epochs.shares.items _ c.are_stuck.new.shares c.epochs.count c.epochs.shares.len
    (omega (arith, c.epochs.shares.ok.0)) c.deref_mut.ensures.value c.are_stuck.ensures.looked c.epochs.invariant.went in
    let fed = subst (λ l. AreFed l) c.deref.ensures.value (c.are_fed.ensures.0 c.if-not-are_fed.false) in
    let steps = some_steps _ c.are_stuck.new.shares c.are_stuck.result look.is c.are_stuck.ensures.stuck c.if-are_stuck.false in
    let laws = (g.met.T.Transducer g.world.𝓛 g.world.𝓜 g.world.𝓡 ((λ s x. x), (λ x. x), (λ x. x), λ x. x)).laws in
    let falls = left_falls laws g.network _ c.in_ok-back.back.items c.in_ok-back.ensures.epoch fed steps in
    omega (arith, look.same, falls)

pub epochs-preserved : goal.epochs-preserved
epochs-preserved g c =
    let was = c.epochs.invariant in
    let look = looked_back g.network (λ a b same. same) c.args.shares.items c.epochs.shares.items _ c.are_stuck.new.shares c.epochs.count c.epochs.shares.len
    (omega (arith, c.epochs.shares.ok.0)) c.deref_mut.ensures.value c.are_stuck.ensures.looked c.epochs.invariant.went in
    let fed = subst (λ l. AreFed l) c.deref.ensures.value (c.are_fed.ensures.0 c.if-not-are_fed.false) in
    let steps = some_steps _ c.are_stuck.new.shares c.are_stuck.result look.is c.are_stuck.ensures.stuck c.if-are_stuck.false in
    let counted = c.saturating_add-count.ensures in
    let asked = g.S.Start.asked in
    record {
      asked = λ refused. was.asked (none_refused c.in_ok-back.back NoThread c.in_ok-back.ensures.refused refused);
      asked_each = each_next c.epochs.count c.saturating_add-count.result (length c.args.shares.items) _ (asked c.args.start.now) (asked c.epochs.start) (asked c.epoch.new.start)
          was.asked_each c.in_ok-back.ensures.asked look.went.later.count counted;
      went = went_on g.network c.args.shares.items _ c.in_ok-back.back.items c.epochs.count _ look.went steps c.in_ok-back.ensures.epoch fed (omega (arith, counted));
    }
