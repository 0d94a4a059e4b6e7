use Rattle.std.proofs.Common.{arith}
use Rattle.rtrb.specs.Ring as port
use Rattle.flow_words.proofs.Lists.{said_snoc}
use Rattle.flow_words.proofs.Quarters.{none_less}
use Rattle.flow_words.proofs.sending.push_single.Goals as goal

pub returns-in-Ok-clause-done : goal.returns-in-Ok-clause-done
returns-in-Ok-clause-done g c = λ _. said_snoc g.W.Single.said (port.sent c.args.ring.now)
    (port.sent c.push.new.self) c.of.result c.args.message.now c.in-Ok.ensures.ok.0 c.of.ensures

pub returns-in-Err-clause-room : goal.returns-in-Err-clause-room
returns-in-Err-clause-room g c =
    let kept = none_less (port.known_free c.args.ring.now) (port.known_free c.push.new.self) (λ h. let no = c.in-Err.ensures.succeeds h in cc) in
    (c.in-Err.ensures.ring, omega (arith, kept))

pub returns-in-Err-clause-none : goal.returns-in-Err-clause-none
returns-in-Err-clause-none g c = λ _. c.in-Err.ensures.full.1

pub returns-in-Err-clause-kept : goal.returns-in-Err-clause-kept
returns-in-Err-clause-kept g c = λ _. none_less _ _ (λ h. let no = c.in-Err.ensures.succeeds h in cc)

pub returns-in-Err-clause-full : goal.returns-in-Err-clause-full
returns-in-Err-clause-full g c = λ _. c.in-Err.ensures.full.2
