use Rattle.std.proofs.Common.{◌<◌, length, refl, sym, ◌∙◌, subst, arith}
use Rattle.std.proofs.lemmas.Bool.{false≢true}
use Rattle.flow_shares.specs.Looks.{IsLookedAt}
use Rattle.flow_shares.proofs.OfMeetings.Looked.{stuck_none, looked_next, stuck_next, stuck_there}
use Rattle.flow_shares.proofs.meetings.standing.are_stuck.Goals as goal

pub loop-k-init : goal.loop-k-init
loop-k-init g c = stuck_none g.met.E.Ends.same_refl c.args.shares.now

pub returns-then-not-is_stuck-clause-looked : goal.returns-then-not-is_stuck-clause-looked
returns-then-not-is_stuck-clause-looked g c =
    let inside : c.loop-k.k < length c.loop-k.shares = omega (arith, c.loop-k-test.true, c.loop-k.auto.shares) in
    let one = subst (λ x. IsLookedAt x c.is_stuck.new.self) (sym c.index-shares-k.is) c.is_stuck.ensures.looked in
    looked_next g.met.E.Ends.same_trans c.args.shares.now c.loop-k.shares c.loop-k.k c.index-shares-k.result c.is_stuck.new.self inside c.index-shares-k.is one c.loop-k.invariant

pub returns-then-not-is_stuck-clause-stuck : goal.returns-then-not-is_stuck-clause-stuck
returns-then-not-is_stuck-clause-stuck g c =
    let inside : c.loop-k.k < length c.loop-k.shares = omega (arith, c.loop-k-test.true, c.loop-k.auto.shares) in
    (λ h. absurd (false≢true h), λ none. sym c.if-not-is_stuck.true ∙ c.is_stuck.ensures.stuck.1 (stuck_there c.loop-k.shares c.loop-k.k c.is_stuck.new.self inside none))

pub loop-k-preserved : goal.loop-k-preserved
loop-k-preserved g c =
    let inside : c.loop-k.k < length c.loop-k.shares = omega (arith, c.loop-k-test.true, c.loop-k.auto.shares) in
    let one = subst (λ x. IsLookedAt x c.is_stuck.new.self) (sym c.index-shares-k.is) c.is_stuck.ensures.looked in
    stuck_next g.met.E.Ends.same_trans c.args.shares.now c.loop-k.shares c.loop-k.k c.index-shares-k.result c.is_stuck.new.self inside c.index-shares-k.is one c.loop-k.invariant
    (c.is_stuck.ensures.stuck.0 c.if-not-is_stuck.false)

pub returns-clause-looked : goal.returns-clause-looked
returns-clause-looked g c = c.loop-k.invariant.looked

pub returns-clause-stuck : goal.returns-clause-stuck
returns-clause-stuck g c = (λ h j d l. c.loop-k.invariant.stuck j d (omega (arith, c.loop-k-test.false, c.loop-k.auto.shares, l)) l, λ none. refl)
