use Rattle.std.proofs.Common.{length, refl, sym, subst, arith, rules}
use Rattle.flow_shares.specs.declared.error.WorkError.TheVariants.{NoThread}
use Rattle.flow_shares.proofs.Asked.{each_none, each_next}
use Rattle.flow_shares.proofs.Refused.{none_refused}
use Rattle.flow_shares.specs.meetings.SharedNetworks.{NoneCanStep}
use Rattle.flow_drives.specs.loops.Standing.{StandBetweenRounds}
use Rattle.flow_drives.proofs.OfLoops.Rounds.{rests, left_falls}
use Rattle.flow_drives.proofs.OfLoops.Shares.{all_stuck}
use Rattle.flow_drives.proofs.OfLoops.Following.{some_steps}
use Rattle.flow_drives.proofs.OfLoops.RoundsFollow.{went_on, none_went, looked_back}
use Rattle.flow_drives.proofs.loops.round.run_rounds.Goals as goal

pub rounds-init : goal.rounds-init
rounds-init g c =
    let stand : StandBetweenRounds g.network c.args.shares.items = search rules in
    record {
      asked = λ refused. refused;
      asked_each = each_none (length c.args.shares.items) (g.S.Start.asked c.args.start.now);
      stand = stand;
      went = none_went g.network c.args.shares.items stand;
    }

pub round-requires : goal.round-requires
round-requires g c κs within =
    let bounds = c.requires.1.1.1.1 in
    let clauses = bounds.1.1.1.1.1 in
    let laws = (g.met.T.Transducer g.world.𝓛 g.world.𝓜 g.world.𝓡 ((λ s x. x), (λ x. x), (λ x. x), λ x. x)).laws in
    let look = looked_back g.network refl (λ a b keeps. keeps) laws c.args.shares.items c.rounds.shares.items _ c.are_stuck.new.shares c.rounds.count c.rounds.shares.len
    (omega (arith, c.rounds.shares.ok.0)) c.deref_mut.ensures.value c.are_stuck.ensures.looked c.rounds.invariant.stand c.rounds.invariant.went in
    (within.0, (within.1.0, (within.1.1.0, (within.1.1.1, (bounds.0, (bounds.1.0, (bounds.1.1.0, (bounds.1.1.1.0, (bounds.1.1.1.1.0, (clauses.0, (clauses.1.0, (clauses.1.1.0, look.stand))))))))))))

pub returns-then-are_stuck-clause-rest : goal.returns-then-are_stuck-clause-rest
returns-then-are_stuck-clause-rest g c =
    let laws = (g.met.T.Transducer g.world.𝓛 g.world.𝓜 g.world.𝓡 ((λ s x. x), (λ x. x), (λ x. x), λ x. x)).laws in
    let look = looked_back g.network refl (λ a b keeps. keeps) laws c.args.shares.items c.rounds.shares.items _ c.are_stuck.new.shares c.rounds.count c.rounds.shares.len
    (omega (arith, c.rounds.shares.ok.0)) c.deref_mut.ensures.value c.are_stuck.ensures.looked c.rounds.invariant.stand c.rounds.invariant.went in
    rests laws g.network _ look.stand (all_stuck refl _ (subst (λ l. NoneCanStep l) (sym look.is) (c.are_stuck.ensures.stuck.0 c.if-are_stuck.true)))

pub returns-then-are_stuck-clause-went : goal.returns-then-are_stuck-clause-went
returns-then-are_stuck-clause-went g c =
    let laws = (g.met.T.Transducer g.world.𝓛 g.world.𝓜 g.world.𝓡 ((λ s x. x), (λ x. x), (λ x. x), λ x. x)).laws in
    let look = looked_back g.network refl (λ a b keeps. keeps) laws c.args.shares.items c.rounds.shares.items _ c.are_stuck.new.shares c.rounds.count c.rounds.shares.len
    (omega (arith, c.rounds.shares.ok.0)) c.deref_mut.ensures.value c.are_stuck.ensures.looked c.rounds.invariant.stand c.rounds.invariant.went in
    look.went

pub rounds-smaller : goal.rounds-smaller
rounds-smaller g c =
    let laws = (g.met.T.Transducer g.world.𝓛 g.world.𝓜 g.world.𝓡 ((λ s x. x), (λ x. x), (λ x. x), λ x. x)).laws in
    let look = looked_back g.network refl (λ a b keeps. keeps) laws c.args.shares.items c.rounds.shares.items _ c.are_stuck.new.shares c.rounds.count c.rounds.shares.len
    (omega (arith, c.rounds.shares.ok.0)) c.deref_mut.ensures.value c.are_stuck.ensures.looked c.rounds.invariant.stand c.rounds.invariant.went in
    let steps = some_steps _ c.are_stuck.new.shares c.are_stuck.result look.is c.are_stuck.ensures.stuck c.if-are_stuck.false in
    let round = c.in_ok-shares.ensures.round in
    left_falls laws g.network c.rounds.shares.items c.in_ok-shares.shares.items round.stand (omega (arith, look.same, round.moves steps))

pub rounds-preserved : goal.rounds-preserved
rounds-preserved g c =
    let was = c.rounds.invariant in
    let laws = (g.met.T.Transducer g.world.𝓛 g.world.𝓜 g.world.𝓡 ((λ s x. x), (λ x. x), (λ x. x), λ x. x)).laws in
    let look = looked_back g.network refl (λ a b keeps. keeps) laws c.args.shares.items c.rounds.shares.items _ c.are_stuck.new.shares c.rounds.count c.rounds.shares.len
    (omega (arith, c.rounds.shares.ok.0)) c.deref_mut.ensures.value c.are_stuck.ensures.looked c.rounds.invariant.stand c.rounds.invariant.went in
    let steps = some_steps _ c.are_stuck.new.shares c.are_stuck.result look.is c.are_stuck.ensures.stuck c.if-are_stuck.false in
    let made = c.in_ok-shares.ensures in
    let counted = c.saturating_add-count.ensures in
    let asked = g.S.Start.asked in
    record {
      asked = λ refused. was.asked (none_refused c.in_ok-shares.shares NoThread made.refused refused);
      asked_each = each_next c.rounds.count c.saturating_add-count.result (length c.args.shares.items) _ (asked c.args.start.now) (asked c.rounds.start) (asked c.round.new.start)
          was.asked_each made.asked look.went.count counted;
      stand = made.round.stand;
      went = went_on g.network c.args.shares.items _ c.in_ok-shares.shares.items c.rounds.count _ look.went steps made.round made.count (omega (arith, counted));
    }
