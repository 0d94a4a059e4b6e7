-- The ports of the transducer of an operation: the kinds of the streams that it reads, and of those that it writes.
use Rattle.std.specs.Prelude.{◌≡◌, List, [], ◌∷◌, ◌++◌, Some}
use Rattle.std.specs.List.{slice_get}
use Rattle.flow_messages.specs.declared.message.Kind.{Kind}
use Rattle.flow_nodes.specs.functions.Lists.{each}
use Rattle.flow_nodes.specs.plans.Plans.{Operation, Step, port_kinds}

abbrev pub kinds_read : Operation → List Kind
kinds_read operation = (port_kinds operation).reads

abbrev pub kinds_written : Operation → List Kind
kinds_written operation = (port_kinds operation).writes

-- each step reads streams that there are, one at each port and of the port's kind, where those before it are of these kinds
abbrev pub AreWired : List Kind → List Step → Type 0
AreWired kinds [] = Unit {0}
AreWired kinds (step ∷ steps) =
    (each (slice_get kinds) step.reads ≡ Some (kinds_read step.operation)) × AreWired (kinds ++ kinds_written step.operation) steps

-- the kinds of the streams that there are once these steps are made
abbrev pub kinds_after : List Kind → List Step → List Kind
kinds_after kinds [] = kinds
kinds_after kinds (step ∷ steps) = kinds_after (kinds ++ kinds_written step.operation) steps
