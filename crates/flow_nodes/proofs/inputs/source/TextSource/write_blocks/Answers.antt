use Rattle.std.proofs.Common.{◌≡◌, ◌<◌, ◌≤◌, false, take, length, refl, sym, ◌∙◌, ap, arith}
use Rattle.std.proofs.lemmas.List.{length-take-le}
use Rattle.flow_messages.specs.Blocks.{item_signals}
use Rattle.flow_messages.proofs.SideBySide.{items-open, length-items}
use Rattle.flow_base.proofs.Batches.{length_flags, length_ints}
use Rattle.flow_base.proofs.Carried.{same_ends_refl, same_ends_then}
use Rattle.flow_base.proofs.Kernels.{went_none}
use Rattle.flow_scalar.specs.SourceBehaviour.{source_behaviour}
use Rattle.flow_nodes.specs.inputs.Sends.{Sends}
use Rattle.flow_nodes.specs.inputs.TextSources.{text_source_state}
use Rattle.flow_nodes.proofs.OfInputs.Blocks.{sends_items, sends_none, went_nowhere, went_block}
use Rattle.flow_nodes.proofs.inputs.source.TextSource.write_blocks.Goals.{in-Ints, in-Flags, in-Vectors}
use Rattle.flow_nodes.proofs.inputs.source.TextSource.write_blocks.Goals as goal

-- it made no step
pub returns-then-self-clause-went : goal.returns-then-self-clause-went
returns-then-self-clause-went g c = λ ins. went_none source_behaviour ins c.args.outputs.now (text_source_state c.args.self.now) (g.E.Ends.view c.args.ends.now)

pub loop-made-init : goal.loop-made-init
loop-made-init g c =
    let a = g.E.Ends.view c.args.ends.now in
    record {
      same = g.met.E.Ends.same_refl c.args.ends.now;
      ends = same_ends_refl a;
      within = omega arith;
      ints = omega arith;
      flags = omega arith;
      sending = c.if-self.false;
      went = λ ins. went_none source_behaviour ins c.args.outputs.now (text_source_state c.args.self.now) a;
    }

-- one block more
pub loop-made-preserved : goal.loop-made-preserved
loop-made-preserved g c =
    let view = g.E.Ends.view in
    let E = g.met.E.Ends in
    let outs = c.args.outputs.now in
    let a = view c.args.ends.now in
    let v = view c.loop-made.ends in
    let u = view c.space.new.self in
    let z = view c.put_all.new.self in
    let inv = c.loop-made.invariant in
    let m = c.match-leaf in
    let said = item_signals m.items in
    let s = text_source_state c.loop-made.self in
    let there : 0 < length outs = omega (arith, c.requires.one) in
    let long : length said ≡ c.len-count.result = sym (length-items m.items) ∙ sym c.len-count.ensures in
    let found : Sends s said (text_source_state m.self) × (length said ≤ c.min-room.result) × (length m.ints ≡ 16) × (length m.flags ≡ 16) × (m.self.ended ≡ false) =
    elim m.branch [
      | in-Ints w ↦
          let scan = w.scan_ints-count in
          let block = take scan.result scan.new.ints in
          let is = ap item_signals w.items-is in
          let low : scan.result ≤ length scan.new.ints = omega (arith, scan.ensures.most, scan.ensures.long, c.min-room.ensures) in (
            sends_items s m.items _ scan.new.self m.self is w.self-is scan.ensures.sends,
            omega (arith, ap length is, length_ints block, length-take-le scan.result scan.new.ints low, scan.ensures.most),
            ap length w.ints-is ∙ scan.ensures.long,
            ap length w.flags-is ∙ inv.flags,
            ap (λ n. n.ended) w.self-is ∙ scan.ensures.sending,
          )
      | in-Flags w ↦
          let scan = w.scan_flags-count in
          let block = take scan.result scan.new.flags in
          let is = ap item_signals w.items-is in
          let low : scan.result ≤ length scan.new.flags = omega (arith, scan.ensures.most, scan.ensures.long, c.min-room.ensures) in (
            sends_items s m.items _ scan.new.self m.self is w.self-is scan.ensures.sends,
            omega (arith, ap length is, length_flags block, length-take-le scan.result scan.new.flags low, scan.ensures.most),
            ap length w.ints-is ∙ inv.ints,
            ap length w.flags-is ∙ scan.ensures.long,
            ap (λ n. n.ended) w.self-is ∙ scan.ensures.sending,
          )
      | in-Vectors w ↦ let is = ap item_signals w.items-is in (
        sends_items s m.items _ c.loop-made.self m.self is w.self-is refl,
        omega (arith, ap length is),
        ap length w.ints-is ∙ inv.ints,
        ap length w.flags-is ∙ inv.flags,
        ap (λ n. n.ended) w.self-is ∙ inv.sending,
      )
    ] in
    record {
      same = E.same_trans c.args.ends.now c.space.new.self c.put_all.new.self (E.same_trans c.args.ends.now c.loop-made.ends c.space.new.self inv.same c.space.ensures.same) c.put_all.ensures.same;
      ends = same_ends_then a u z (same_ends_then a v u inv.ends c.space.ensures.looked.ends) c.put_all.ensures.put.ends;
      within = omega (arith, long, found.1, c.min.ensures, c.min-room.ensures, inv.within);
      ints = found.2;
      flags = found.3;
      sending = found.4;
      went = λ ins. went_block ins outs (inv.went ins) there c.space.ensures.looked said (text_source_state m.self) z c.len-count.result (items-open m.items) found.0 long
          (omega (arith, c.if-count-eq0.false)) c.put_all.ensures.put;
    }

-- it only looked for room at last
pub returns-then-count-eq0-clause-went : goal.returns-then-count-eq0-clause-went
returns-then-count-eq0-clause-went g c = λ ins.
    let outs = c.args.outputs.now in
    let m = c.match-leaf in
    let s = text_source_state c.loop-made.self in
    let there : 0 < length outs = omega (arith, c.requires.one) in
    let none : length (item_signals m.items) ≡ 0 = sym (length-items m.items) ∙ sym c.len-count.ensures ∙ c.if-count-eq0.true in
    let sends : Sends s (item_signals m.items) (text_source_state m.self) = elim m.branch [
      | in-Ints w ↦ sends_items s m.items _ w.scan_ints-count.new.self m.self (ap item_signals w.items-is) w.self-is w.scan_ints-count.ensures.sends
      | in-Flags w ↦ sends_items s m.items _ w.scan_flags-count.new.self m.self (ap item_signals w.items-is) w.self-is w.scan_flags-count.ensures.sends
      | in-Vectors w ↦ sends_items s m.items _ c.loop-made.self m.self (ap item_signals w.items-is) w.self-is refl
    ] in
    went_nowhere ins outs (c.loop-made.invariant.went ins) there c.space.ensures.looked (text_source_state m.self) (sends_none s (text_source_state m.self) (item_signals m.items) none sends)
