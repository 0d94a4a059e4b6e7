use Rattle.std.proofs.Common.{ℕ, ◌++◌, ◌∷◌, [], sym, ap, ◌∙◌, arith, append_assoc}
use Rattle.std.proofs.lemmas.List.FromFn.{map-range_with_len_more}
use Rattle.flow_assembly.specs.declared.network.Port.{Port}
use Rattle.flow_assembly.specs.Ready.{ports_of}
use Rattle.flow_assembly.proofs.network.Network.add_streams.Goals as goal

pub loop-port-preserved : goal.loop-port-preserved
loop-port-preserved c =
    let port : ℕ → Port = λ q. record { node = c.args.node; port = q } in
    let more = map-range_with_len_more port 0 c.loop-port.port c.loop-port.port (omega arith) in
    record {
      supply = c.in_ok-push.ensures.items ∙ ap (λ l. l ++ port c.loop-port.port ∷ []) c.loop-port.invariant.supply
          ∙ append_assoc c.args.self.now.supply.items (ports_of c.args.node c.loop-port.port) (port c.loop-port.port ∷ [])
          ∙ ap (λ l. c.args.self.now.supply.items ++ l) (sym more);
      builder = c.loop-port.invariant.builder;
      places = c.loop-port.invariant.places;
    }
