use Rattle.kahn.specs.Configurations.{NoneFaulted}
use Rattle.flow_networks.specs.Networks.{network_of, configuration_of}
use Rattle.flow_networks.proofs.Nets.{lawful_net}
use Rattle.flow_drives.specs.Parts.{states_at, edges_at, traffic_at, capacity_at}
use Rattle.flow_drives.proofs.AtRest.{are_sound, are_at_rest, are_wired}
use Rattle.flow_drives.proofs.Rests.{first_stalls, none_ends}
use Rattle.flow_drives.proofs.rested.Rested.outcome.Goals as goal

pub returns-in-Some-first_to_write : goal.returns-in-Some-first_to_write
returns-in-Some-first_to_write g c =
    let b = g.T.Transducer.behaviour in
    let parts = c.args.self.now.parts in
    let states = states_at parts in
    let edges = edges_at parts in
    let view = traffic_at parts in
    let fine : NoneFaulted b.process (network_of b states edges) (configuration_of b states view) = rw c.in_default.is at c.standing_fault.ensures view in
    (fine, first_stalls b states edges (capacity_at parts) view (are_at_rest parts) fine c.in-Some-first_to_write.edge (rw c.in-Some-first_to_write.is at c.first_to_write.ensures))

pub returns-in-None : goal.returns-in-None
returns-in-None g c =
    let b = g.T.Transducer.behaviour in
    let parts = c.args.self.now.parts in
    let states = states_at parts in
    let edges = edges_at parts in
    let view = traffic_at parts in
    let fine : NoneFaulted b.process (network_of b states edges) (configuration_of b states view) = rw c.in_default.is at c.standing_fault.ensures view in
    none_ends b states edges (capacity_at parts) view (are_at_rest parts) fine
    (are_wired parts)
    (lawful_net b states edges g.met.T.Transducer.laws)
    (are_sound parts) (rw c.in-None.is at c.first_to_write.ensures)
