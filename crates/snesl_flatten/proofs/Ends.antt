-- The Print at the end of the network of a program.
use Rattle.std.proofs.Common.{◌≡◌, ◌≢◌, ℕ, zero, suc, ◌+◌, List, [], ◌∷◌, ◌++◌, length, set, Some, refl, sym, ap, ◌∙◌, arith, append_assoc, length-append, get_or-set_other}
use Rattle.std.proofs.lemmas.List.{get_or-map}
use Rattle.std.proofs.Math.ListN.{length-set}
use Rattle.std.specs.List.{slice_get}
use Rattle.snesl_data.specs.Types.{Ty}
use Rattle.snesl_values.specs.Inputs.{InputDeclaration}
use Rattle.snesl_grammar.specs.tree.Tree.{ProgramTree}
use Rattle.flow_messages.specs.Cells.{Cell}
use Rattle.flow_scalar.specs.Streams.{Items}
use Rattle.flow_scalar.specs.SourceBehaviour.{source_opening}
use Rattle.flow_values.specs.PrintMachine.{print_opening}
use Rattle.flow_nodes.specs.StreamNodes.{a_source, a_print, node_behaviour}
use Rattle.flow_networks.specs.Networks.{state_at}
use Rattle.flow_networks.specs.Replacements.{MayReplace}
use Rattle.flow_nodes.specs.plans.Plans.{Step, print}
use Rattle.flow_nodes.specs.plans.Ports.{kinds_written}
use Rattle.flow_nodes.specs.plans.Layouts.{Placed, all_after, layout_from, layout, numbered}
use Rattle.flow_nodes.proofs.OfPlans.Places.{get_right}
use Rattle.flow_assembly.specs.Openings.{AllOpen}
use Rattle.snesl_translation.specs.Wires.{Wires, type_of_wires, numbers_of}
use Rattle.snesl_translation.specs.Programs.{first_offset, program_plan, unset_cells}
use Rattle.snesl_flatten.specs.texts.PrintedTexts.{PrintsAtTheEnd}
use Rattle.snesl_flatten.specs.Networks.{StreamNodeState, program_steps}
use Rattle.snesl_flatten.proofs.Sources.{value, front_steps, front_and_print, given_is}

-- a Print that reads these streams
abbrev pub print_placed : ℕ → Ty → List ℕ → Placed
print_placed at ty reads = record { at = at; operation = print ty; reads = reads; writes = [] }

last_from : (plan : List Step) (s : ℕ) (steps : List Step) (at : ℕ) (ty : Ty) (reads : List ℕ) →
    (front : List Placed) × (layout_from plan s (steps ++ record { at = at; operation = print ty; reads = reads } ∷ []) ≡ front ++ print_placed at ty reads ∷ [])
last_from plan s [] at ty reads = ([], refl)
last_from plan s (step ∷ steps) at ty reads =
    let kinds = kinds_written step.operation in
    let first : Placed = record { at = step.at; operation = step.operation; reads = step.reads; writes = numbered s kinds } in
    let behind = all_after plan step.at s kinds in
    let g = last_from plan (s + length kinds) steps at ty reads in
    (first ∷ (behind ++ g.0), ap (λ l. first ∷ (behind ++ l)) g.1 ∙ ap (λ l. first ∷ l) (sym (append_assoc behind g.0 (print_placed at ty reads ∷ []))))

module _ (text : List ℕ) (program : ProgramTree) (inputs : List InputDeclaration) (cells : ℕ → List Cell) where
  abbrev at : ℕ
  at = first_offset program.expression

  abbrev w : Wires
  w = (value text program inputs).given

  abbrev nodes : List Placed
  nodes = layout (program_steps text program inputs cells)

  print_last : (front : List Placed) × (nodes ≡ front ++ print_placed at (type_of_wires w) (numbers_of w) ∷ [])
  print_last =
      let plan = program_steps text program inputs cells in
      let g = last_from plan 0 (front_steps text program inputs cells) at (type_of_wires w) (numbers_of w) in
      (g.0, ap (layout_from plan 0) (front_and_print text program inputs cells) ∙ g.1)

  -- the last node is the Print of the program's value
  pub print_there : (k : ℕ) → suc k ≡ length nodes → slice_get nodes k ≡ Some (print_placed at (type_of_wires w) (numbers_of w))
  print_there k is =
      let front = print_last.0 in
      let last = print_placed at (type_of_wires w) (numbers_of w) ∷ [] in
      let on : k ≡ length front + zero = omega (arith, is, ap length print_last.1, length-append front last) in
      ap (λ l. slice_get l k) print_last.1 ∙ get_right front last k zero on

  pub print_opens : (states : List StreamNodeState) → length states ≡ length nodes → AllOpen nodes states
      → PrintsAtTheEnd (type_of_wires (program_plan text program inputs unset_cells).given) at states
  print_opens states same opens =
      let front = print_last.0 in
      let last = print_placed at (type_of_wires w) (numbers_of w) in
      let k = length front in
      let is : suc k ≡ length nodes = omega (arith, ap length print_last.1, length-append front (last ∷ [])) in
      (k, is ∙ sym same, opens k last (print_there k is) ∙ ap (λ v. (a_print, print_opening (type_of_wires v) at)) (sym (given_is text program inputs unset_cells)))

-- it stays where a source is put in place of a node
pub print_stays : (ty : Ty) (offset : ℕ) (states : List StreamNodeState) (k : ℕ) (items : Items) → MayReplace node_behaviour states k (a_source, source_opening items)
    → PrintsAtTheEnd ty offset states
    → PrintsAtTheEnd ty offset (set states k (a_source, source_opening items))
print_stays ty offset states k items may last =
    let s : StreamNodeState = (a_source, source_opening items) in
    let other : last.0 ≢ k = λ same.
    let ports : 1 ≡ 0 = may.outputs ∙ get_or-map node_behaviour.outputs states k node_behaviour.sample 0 may.node
    ∙ ap (λ j. node_behaviour.outputs (state_at node_behaviour states j)) (sym same) ∙ ap node_behaviour.outputs last.2 in
    absurd (omega (arith, ports)) in
    (last.0, last.1 ∙ sym (length-set states k s), get_or-set_other states k last.0 s node_behaviour.sample other ∙ last.2)
