use Rattle.std.proofs.Common.{rules, ◌≡◌, ◌≢◌, ◌<◌, ◌≤◌, ◌+◌, ◌∷◌, ◌++◌, [], ℕ, suc, true, false, map, drop, length, get_or, slice_get, Err, Vec, Global, drop-cons, sym, ap, ◌∙◌, subst, arith}
use Rattle.std.proofs.lemmas.List.{length-map}
use Rattle.snesl_data.specs.declared.datum.Datum.{Datum}
use Rattle.snesl_data.specs.declared.fault.FaultKind.TheVariants.{Part}
use Rattle.snesl_data.specs.Values.{value_of}
use Rattle.snesl_evaluation.specs.Answer.{go, gives, or_fault}
use Rattle.snesl_evaluation.specs.Builtins.{parts_answer, sequence}
use Rattle.snesl_evaluation.specs.Results.{Answers}
use Rattle.snesl_evaluation.proofs.Begun.{behind, part_ends, part_stops, part_grows, part_leaves, part_left, at_same, drop_all}
use Rattle.snesl_evaluation.proofs.Passed.{halt_passes}
use Rattle.snesl_evaluation.proofs.sequences.parts.Goals as goal
use Rattle.snesl_evaluation.proofs.sequences.parts.Goals.{then-flag+in_ok-end_part, else-flag+in_ok-taken}

pub returns-in_err-taken : goal.returns-in_err-taken
returns-in_err-taken c =
    let at = c.args.at in
    let vs = map value_of c.args.items.now in
    let flags = c.args.flags.now in
    let i = c.loop-flag.flag-index in
    let done = map value_of c.loop-flag.parts.items in
    let part = map value_of c.loop-flag.part.items in
    let taken = c.loop-flag.taken in
    let here : get_or flags i false ≡ false = search rules in
    let next = drop-cons flags i false (omega arith) ∙ ap (λ b. b ∷ drop (suc i) flags) here in
    halt_passes (λ (n : ℕ). map value_of c.take_item.new.part.items) (λ (values : Vec Datum Global). map value_of values.items) c.from_residual-in_err-taken.result c.in_err-taken.field-0.0
    (go (or_fault Part at (slice_get vs taken)) (λ v. gives (part ++ v ∷ []))) (go (parts_answer at vs flags) (λ parts. gives (map sequence parts)))
    c.from_residual-in_err-taken.ensures.1 c.in_err-taken.ensures.taken
    (λ kind place e.
    c.loop-flag.invariant
    ∙ ap (λ l. go (parts_answer at (drop taken vs) l) (behind at done part)) next
    ∙ part_stops at done part vs taken (drop (suc i) flags) kind place e)

pub loop-flag-preserved : goal.loop-flag-preserved
loop-flag-preserved c =
    let at = c.args.at in
    let vs = map value_of c.args.items.now in
    let flags = c.args.flags.now in
    let i = c.loop-flag.flag-index in
    let done = map value_of c.loop-flag.parts.items in
    let part = map value_of c.loop-flag.part.items in
    let taken = c.loop-flag.taken in
    let n : suc i ≡ i + 1 = omega arith in
    let below : i < length flags = omega arith in
    elim c.if-flag.branch [
      | then-flag+in_ok-end_part w ↦
          let here : get_or flags i false ≡ true = search rules in
          let next = drop-cons flags i false below ∙ ap (λ b. b ∷ drop (suc i) flags) here in
          c.loop-flag.invariant
          ∙ ap (λ l. go (parts_answer at (drop taken vs) l) (behind at done part)) next
          ∙ part_ends at done part (drop taken vs) (drop (suc i) flags)
          ∙ at_same at vs flags taken c.if-flag.taken (suc i) (i + 1) (done ++ sequence part ∷ []) (map value_of c.if-flag.parts.items) [] (map value_of c.if-flag.part.items)
          (sym w.taken-is) n (sym (ap (λ (v : Vec Datum Global). map value_of v.items) w.parts-is ∙ w.in_ok-end_part.ensures.done))
          (sym (ap (λ (v : Vec Datum Global). map value_of v.items) w.part-is ∙ ap (map value_of) w.in_ok-end_part.ensures.begun))
      | else-flag+in_ok-taken w ↦
          let here : get_or flags i false ≡ false = search rules in
          let next = drop-cons flags i false below ∙ ap (λ b. b ∷ drop (suc i) flags) here in
          let grown = map value_of w.take_item.new.part.items in
          let more : suc taken ≡ taken + 1 = omega arith in
          c.loop-flag.invariant
          ∙ ap (λ l. go (parts_answer at (drop taken vs) l) (behind at done part)) next
          ∙ part_grows at done part grown vs taken (drop (suc i) flags) w.in_ok-taken.ensures.taken
          ∙ at_same at vs flags (suc taken) c.if-flag.taken (suc i) (i + 1) done (map value_of c.if-flag.parts.items) grown (map value_of c.if-flag.part.items)
          (more ∙ sym (w.taken-is ∙ w.in_ok-taken.ensures.next)) n (sym (ap (λ (v : Vec Datum Global). map value_of v.items) w.parts-is))
          (sym (ap (λ (v : Vec Datum Global). map value_of v.items) w.part-is))
    ]

pub returns-then-taken-items : goal.returns-then-taken-items
returns-then-taken-items c =
    let at = c.args.at in
    let vs = map value_of c.args.items.now in
    let flags = c.args.flags.now in
    let rest = behind at (map value_of c.loop-flag.parts.items) (map value_of c.loop-flag.part.items) in
    let taken = c.loop-flag.taken in
    let size = length-map c.args.items.now value_of in
    let some : taken < length vs = omega (arith, size, c.if-taken-items.true) in
    subst (λ halt. Answers (λ (values : Vec Datum Global). map value_of values.items) (Err halt) (go (parts_answer at vs flags) (λ parts. gives (map sequence parts)))) (sym c.fault.ensures)
    (c.loop-flag.invariant
    ∙ ap (λ l. go (parts_answer at (drop taken vs) l) rest) (drop_all flags c.loop-flag.flag-index (omega arith))
    ∙ ap (λ answer. go answer rest) (part_leaves at vs taken some))

pub returns-then-not-is_empty : goal.returns-then-not-is_empty
returns-then-not-is_empty c =
    let at = c.args.at in
    let vs = map value_of c.args.items.now in
    let flags = c.args.flags.now in
    let done = map value_of c.loop-flag.parts.items in
    let part = map value_of c.loop-flag.part.items in
    let taken = c.loop-flag.taken in
    let size = length-map c.args.items.now value_of in
    let none : length vs ≤ taken = omega (arith, size, c.if-taken-items.false) in
    let begun = length-map c.loop-flag.part.items value_of in
    let whole = c.loop-flag.part.ok.0 in
    let full : length part ≢ 0 = grind (arith, begun, whole) in
    subst (λ halt. Answers (λ (values : Vec Datum Global). map value_of values.items) (Err halt)
    (go (parts_answer at vs flags) (λ parts. gives (map sequence parts)))) (sym c.fault-then-not-is_empty.ensures)
    (c.loop-flag.invariant
    ∙ ap (λ l. go (parts_answer at (drop taken vs) l) (behind at done part)) (drop_all flags c.loop-flag.flag-index (omega arith))
    ∙ ap (λ l. go (parts_answer at l []) (behind at done part)) (drop_all vs taken none)
    ∙ part_left at done part full)
