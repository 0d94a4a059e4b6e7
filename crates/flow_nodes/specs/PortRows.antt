-- The rows of workers, of a source and of Print speak of the bodies at their ports alone.
use Rattle.std.proofs.Common.{◌≡◌, ◌∙◌, sym, subst, arith}
use Rattle.flow_base.specs.Columns.{columns, columns_same}
use Rattle.flow_base.specs.Machines.{Machine, MachineLaws, Runs}
use Rattle.flow_base.specs.Nodes.{behaviour_of}
use Rattle.flow_base.specs.RowPorts.{RowsOnPorts}
use Rattle.flow_scalar.specs.SourceBehaviour.{source_behaviour}
use Rattle.flow_values.specs.PrintMachine.{print_behaviour}

-- the row of a worker says what its runs read and write, which are the columns of its ports
pub worker_rows : {P S : Type 0} {m : Machine P S} → MachineLaws m → RowsOnPorts (behaviour_of m)
worker_rows {m = m} laws s ins outs same others ins_are outs_are row =
    let p = s.worker.0 in
    let read : columns (m.inputs p) ins ≡ columns (m.inputs p) same = columns_same (m.inputs p) ins same ins_are in
    let written : columns (m.outputs p) outs ≡ columns (m.outputs p) others = columns_same (m.outputs p) outs others outs_are in
    (laws.rows p same others).1
    (subst (λ i. Runs m p m.start i (columns (m.outputs p) others)) read
    (subst (λ o. Runs m p m.start (columns (m.inputs p) ins) o) written ((laws.rows p ins outs).0 row)))

pub source_rows : RowsOnPorts source_behaviour
source_rows s ins outs same others ins_are outs_are row = sym (outs_are 0 (omega arith)) ∙ row

pub print_rows : RowsOnPorts print_behaviour
print_rows s ins outs same others ins_are outs_are row = record { value = row.value; is_one = row.is_one; edges_are = λ p lt. sym (ins_are p lt) ∙ row.edges_are p lt }
