use Rattle.std.proofs.Common.{refl, ap, subst, sym}
use Rattle.flow_scalar.specs.Streams.{items_of}
use Rattle.flow_scalar.specs.SourceBehaviour.{source_state}
use Rattle.flow_scalar.specs.declared.source.Stream.TheVariants.{Units}
use Rattle.flow_nodes.specs.StreamNodes.{a_source}
use Rattle.flow_nodes.specs.plans.Views.{operation_of}
use Rattle.flow_assembly.specs.Openings.{IsOpening}
use Rattle.flow_assembly.proofs.nodes.node_of.Goals as goal

pub returns-in-Control : goal.returns-in-Control
returns-in-Control c =
    subst (λ o. IsOpening c.args.at (operation_of c.args.dialect o) (a_source, source_state c.new.result.stream c.new.result.written c.new.result.ended)) (sym c.in-Control.is)
    (items_of (Units 1), ap (λ s. (a_source, s)) c.new.ensures.state, refl, refl)

pub returns-in-Input : goal.returns-in-Input
returns-in-Input c =
    subst (λ o. IsOpening c.args.at (operation_of c.args.dialect o) (a_source, source_state c.new-in-Input.result.stream c.new-in-Input.result.written c.new-in-Input.result.ended))
    (sym c.in-Input.is)
    (items_of c.empty.result, ap (λ s. (a_source, s)) c.new-in-Input.ensures.state, c.empty.ensures.kind, c.empty.ensures.cells)
