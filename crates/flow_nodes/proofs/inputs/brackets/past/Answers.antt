use Rattle.std.proofs.Common.{IsTrue, false, refl, ap, ◌∙◌}
use Rattle.flow_nodes.specs.inputs.Turns.{state}
use Rattle.flow_nodes.specs.inputs.Left.{left}
use Rattle.flow_nodes.specs.declared.inputs.turns.Mode.TheVariants.{Passing, Counting, Within}
use Rattle.flow_nodes.proofs.OfInputs.Law.{passing_passes, counting_passes, within_passes}
use Rattle.flow_nodes.proofs.inputs.brackets.past.Goals as goal

-- what is false does not hold
impossible : {A : Type 0} → IsTrue false → A
impossible h = absurd (cc)

pub returns-in-Passing-clause-same : goal.returns-in-Passing-clause-same
returns-in-Passing-clause-same c = λ way leaf level.
    ap (λ mode. left c.args.text.now way leaf c.args.at (state level mode)) c.in-Passing.is
    ∙ c.past_brackets-end.ensures.same way leaf level Passing (passing_passes way leaf level) (λ h. impossible h)

pub returns-in-Counting-clause-same : goal.returns-in-Counting-clause-same
returns-in-Counting-clause-same c = λ way leaf level.
    ap (λ mode. left c.args.text.now way leaf c.args.at (state level mode)) c.in-Counting.is
    ∙ c.past_brackets-end-in-Counting.ensures.same way leaf level Counting (counting_passes way leaf level) (λ h. impossible h)

pub returns-in-Within-clause-same : goal.returns-in-Within-clause-same
returns-in-Within-clause-same c = λ way leaf level.
    ap (λ mode. left c.args.text.now way leaf c.args.at (state level mode)) c.in-Within.is
    ∙ c.past_brackets-end-in-Within.ensures.same way leaf level Within (within_passes way leaf level) (λ h place. refl)
