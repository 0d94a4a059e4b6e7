use Rattle.std.proofs.Common.{◌≡◌, ℕ, ◌<◌, ◌+◌, List, length, take, arith, sym, ◌∙◌, ap}
use Rattle.std.proofs.Math.Seq.{take-length}
use Rattle.std.specs.Option.{unwrap_or, option_map}
use Rattle.flow_networks.specs.Networks.{state_at}
use Rattle.flow_drives.specs.Resteds.{rested_states}
use Rattle.flow_drives.specs.Texts.{last_text}
use Rattle.flow_drives.proofs.Texts.{next_text}
use Rattle.flow_drives.proofs.rested.Rested.text.Goals as goal
use Rattle.flow_drives.proofs.rested.Rested.text.Goals.{in-Some, in_default}

pub loop-node-preserved : goal.loop-node-preserved
loop-node-preserved g c text_in told =
    let states = rested_states c.args.self.now in
    let k = c.loop-node.node in
    let b = g.T.Transducer.behaviour in
    let inside : k < length states = omega (arith, c.loop-node-test.true, c.nodes-node-end.ensures) in
    let before : List ℕ = last_text text_in (take k states) in
    let here : text_in (state_at b states k) ≡ option_map (λ text. text.now) c.printed.result =
    sym (c.printed.ensures ∙ told c.node.result.now ∙ ap text_in c.node.ensures) in
    let next : last_text text_in (take (k + 1) states) ≡ unwrap_or (option_map (λ text. text.now) c.printed.result) c.loop-node.last.now =
    next_text text_in states k b.sample inside
    ∙ ap (λ text. unwrap_or text before) here
    ∙ ap (λ text. unwrap_or (option_map (λ t. t.now) c.printed.result) text) (sym (c.loop-node.invariant text_in told)) in
    elim c.match-printed.branch [
      | in-Some w ↦ ap (λ last. last.now) w.last-is ∙ sym (rw w.in-Some.is at next)
      | in_default w ↦ ap (λ last. last.now) w.last-is ∙ sym (rw w.in_default.is at next)
    ]

pub returns : goal.returns
returns g c text_in told =
    let states = rested_states c.args.self.now in
    let all : c.loop-node.node ≡ length states = omega (arith, c.loop-node-test.false, c.nodes-node-end.ensures, c.loop-node.auto.node-end) in
    c.loop-node.invariant text_in told ∙ ap (λ n. last_text text_in (take n states)) all ∙ ap (λ l. last_text text_in l) (take-length states)
