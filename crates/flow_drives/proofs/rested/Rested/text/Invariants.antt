use Rattle.std.proofs.Common.{◌≡◌, ℕ, List, Option, take}
use Rattle.flow_drives.specs.Resteds.{rested_states}
use Rattle.flow_drives.specs.Texts.{last_text, IsTold}
use Rattle.flow_drives.proofs.rested.Rested.text.Given as goal

-- the text of the last that has one of the nodes so far
abbrev pub invariant-loop-node : goal.invariant-loop-node
invariant-loop-node g l =
    (text_in : g.T.Transducer.State → Option (List ℕ))
    → IsTold g.T.Transducer.state g.T.Printing.printed text_in
    → l.last ≡ last_text text_in (take l.node (rested_states l.self))
