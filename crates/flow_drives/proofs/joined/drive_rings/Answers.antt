use Rattle.std.proofs.Common.{◌≡◌, subst}
use Rattle.std.specs.Prelude.{IfOk}
use Rattle.flow_shares.specs.meetings.RingMeetings.{RingsJoin, ring_slots}
use Rattle.flow_drives.proofs.OfLoops.Begins.{dealt_fed, dealt_none}
use Rattle.flow_drives.proofs.OfLoops.EpochBegins.{dealt_graph}
use Rattle.flow_shares.specs.Starts.{AskedAtEach}
use Rattle.flow_drives.specs.Resteds.{rested_epochs, rested_share, rested_shares}
use Rattle.flow_drives.proofs.Led.{made_so, led_in_epochs}
use Rattle.flow_drives.proofs.joined.drive_rings.Goals as goal

pub run_dealt-requires : goal.run_dealt-requires
run_dealt-requires g c κs within =
    let bounds = c.type_bounds in
    let lawful = c.requires.lawful in
    let origin = c.in_ok-origin.origin in
    let dealt = c.in_ok-origin.dealt in
    let made = c.in_ok-origin.ensures in
    let threads = c.args.config.now.threads in
    let graph = dealt_graph origin.graph.value threads origin.share.items origin.capacity dealt made.dealt in
    let fed = dealt_fed RingsJoin ring_slots origin.graph.value threads origin.share.items origin.capacity dealt made.dealt in
    let none = dealt_none RingsJoin ring_slots origin.graph.value threads origin.share.items origin.capacity dealt made.dealt in (
      within.0,
      (
        within.1.0,
        (
          within.1.1.0,
          (
            within.1.1.1,
            (
              bounds.static-T,
              (
                bounds.static-G,
                (
                  bounds.send-T,
                  (
                    bounds.send-G,
                    (bounds.sync-G, (lawful, (made.origin, (made.dealt.owners, (made.dealt.skeleton, (graph, (fed, none))))))),
                  ),
                ),
              ),
            ),
          ),
        ),
      ),
    )

pub returns-clause-led : goal.returns-clause-led
returns-clause-led g c =
    let origin = c.in_ok-origin.origin in
    let made = c.in_ok-origin.ensures in
    made_so c.run_dealt.result
    (λ rested. led_in_epochs c.args.graph origin.graph.value c.args.config.now origin.share.items origin.capacity c.requires.lawful rested made.graph
    made.share made.capacity c.in_ok-origin.dealt made.dealt)
    c.run_dealt.ensures.led

pub returns-clause-share : goal.returns-clause-share
returns-clause-share g c = subst (λ share. IfOk c.run_dealt.result (λ rested. rested_share rested ≡ share)) c.in_ok-origin.ensures.share c.run_dealt.ensures.share

pub returns-clause-shares : goal.returns-clause-shares
returns-clause-shares g c = subst (λ n. IfOk c.run_dealt.result (λ rested. rested_shares rested ≡ n)) c.in_ok-origin.ensures.dealt.count c.run_dealt.ensures.shares

pub returns-clause-asked : goal.returns-clause-asked
returns-clause-asked g c =
    let asked = g.S.Start.asked in
    subst (λ n. IfOk c.run_dealt.result (λ rested. AskedAtEach (rested_epochs rested) n (asked c.args.start.now) (asked c.run_dealt.new.start)))
    c.in_ok-origin.ensures.dealt.count c.run_dealt.ensures.asked
