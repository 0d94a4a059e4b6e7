use Rattle.std.proofs.Common.{◌≡◌, refl, sym, subst}
use Rattle.std.specs.Prelude.{IfOk}
use Rattle.flow_networks.specs.Graphs.{states_of, edges_of}
use Rattle.flow_networks.specs.Networks.{AreOpened}
use Rattle.flow_drives.proofs.OfLoops.RoundBegins.{dealt_stand, dealt_none}
use Rattle.flow_drives.specs.Drives.{EndsMaximalRun}
use Rattle.flow_shares.specs.Starts.{AskedAtEach}
use Rattle.flow_drives.specs.Resteds.{rested_rounds, rested_states, rested_share, rested_shares, traffic_of}
use Rattle.flow_drives.proofs.Led.{made_so, led_in_rounds}
use Rattle.flow_drives.proofs.rounds.drive_rounds.Goals as goal

pub run_dealt-requires : goal.run_dealt-requires
run_dealt-requires g c κs within =
    let bounds = c.type_bounds in
    let lawful = c.requires.lawful in
    let origin = c.in_ok-origin.origin in
    let made = c.in_ok-origin.ensures in
    let opened = subst (λ graph. AreOpened g.T.Transducer.behaviour (states_of graph)) (sym made.graph) c.requires.opened in
    let stand = dealt_stand refl origin.graph.value c.args.config.now.threads origin.share.items origin.capacity c.in_ok-origin.dealt made.dealt opened in
    let none = dealt_none refl origin.graph.value c.args.config.now.threads origin.share.items origin.capacity c.in_ok-origin.dealt made.dealt in (
      within.0,
      (
        within.1.0,
        (
          within.1.1.0,
          (
            within.1.1.1,
            (
              bounds.static-T,
              (
                bounds.static-G,
                (bounds.send-T, (bounds.send-G, (bounds.sync-G, (lawful, (made.origin, (made.dealt.owners, (made.dealt.skeleton, (stand, none)))))))),
              ),
            ),
          ),
        ),
      ),
    )

pub returns-clause-run : goal.returns-clause-run
returns-clause-run g c =
    let b = g.T.Transducer.behaviour in
    let made = c.in_ok-origin.ensures in
    subst (λ n. IfOk c.run_dealt.result (λ rested. EndsMaximalRun b n (states_of c.args.graph) (edges_of c.args.graph) (rested_states rested) (traffic_of rested))) made.capacity
    (subst (λ graph. IfOk c.run_dealt.result
    (λ rested. EndsMaximalRun b c.in_ok-origin.origin.capacity (states_of graph) (edges_of graph) (rested_states rested) (traffic_of rested)))
    made.graph c.run_dealt.ensures.run)

pub returns-clause-led : goal.returns-clause-led
returns-clause-led g c =
    let origin = c.in_ok-origin.origin in
    let made = c.in_ok-origin.ensures in
    made_so c.run_dealt.result
    (λ rested. led_in_rounds c.args.graph origin.graph.value c.args.config.now origin.share.items origin.capacity c.requires.lawful rested made.graph
    made.share made.capacity c.in_ok-origin.dealt made.dealt)
    c.run_dealt.ensures.led

pub returns-clause-share : goal.returns-clause-share
returns-clause-share g c = subst (λ share. IfOk c.run_dealt.result (λ rested. rested_share rested ≡ share)) c.in_ok-origin.ensures.share c.run_dealt.ensures.share

pub returns-clause-shares : goal.returns-clause-shares
returns-clause-shares g c = subst (λ n. IfOk c.run_dealt.result (λ rested. rested_shares rested ≡ n)) c.in_ok-origin.ensures.dealt.count c.run_dealt.ensures.shares

pub returns-clause-asked : goal.returns-clause-asked
returns-clause-asked g c =
    let asked = g.S.Start.asked in
    subst (λ n. IfOk c.run_dealt.result (λ rested. AskedAtEach (rested_rounds rested) n (asked c.args.start.now) (asked c.run_dealt.new.start)))
    c.in_ok-origin.ensures.dealt.count c.run_dealt.ensures.asked
