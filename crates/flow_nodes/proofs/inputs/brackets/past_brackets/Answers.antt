use Rattle.std.proofs.Common.{◌∙◌, arith}
use Rattle.flow_nodes.proofs.OfInputs.Skips.{byte_past, after_deeper}
use Rattle.flow_nodes.proofs.inputs.brackets.past_brackets.Goals as goal

pub bytes-preserved : goal.bytes-preserved
bytes-preserved c =
    let deeper = after_deeper _ c.bytes.depth c.in-Some.behind c.args.passes_commas c.in-Some.ensures in
    record {
      same = λ way leaf level mode passes parts.
          c.bytes.invariant.same way leaf level mode passes parts
          ∙ byte_past c.args.text.now c.args.passes_commas c.bytes.at c.bytes.depth c.in-Some.behind (omega arith) c.in-Some.ensures way leaf level mode passes parts;
      from = omega arith;
      within = omega arith;
      shallow = omega (arith, deeper);
    }
