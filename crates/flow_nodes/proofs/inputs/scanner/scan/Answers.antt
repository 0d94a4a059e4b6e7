use Rattle.std.proofs.Common.{◌≡◌, ◌++◌, [], Option, Some, None, ap, sym, ◌∙◌, arith, false, refl}
use Rattle.std.specs.Prelude.{option_to_list, is_some}
use Rattle.flow_nodes.specs.declared.inputs.turns.Piece.{Piece}
use Rattle.flow_nodes.specs.inputs.Turns.{Transition, turn, state, depth_of}
use Rattle.flow_nodes.specs.inputs.Left.{left}
use Rattle.flow_nodes.proofs.OfInputs.Lefts.{after_turn, left_done, left_found, left_unfound, turn_deeper}
use Rattle.flow_nodes.proofs.inputs.scanner.scan.Goals as goal

-- where nothing was written, what is left is left after
unwritten : (o : Option Piece) → is_some o ≡ false → option_to_list o ≡ []
unwritten None e = refl
unwritten (Some x) e = absurd (cc)

pub returns-then-is_done-clause-none : goal.returns-then-is_done-clause-none
returns-then-is_done-clause-none c =
    left_done c.args.text.now c.args.way.now c.args.leaf c.tokens.at c.tokens.state (sym c.if-is_done.ensures)

pub returns-then-is_some-clause-first : goal.returns-then-is_some-clause-first
returns-then-is_some-clause-first c =
    let text = c.args.text.now in
    let way = c.args.way.now in
    let leaf = c.args.leaf in
    let s = state c.tokens.state.level c.past-from.result.1 in
    let f = c.in-Some.found in
    sym c.tokens.invariant.same
    ∙ c.past-from.ensures.same way leaf c.tokens.state.level
    ∙ left_found text way leaf c.past-from.result.0 s f c.past-from.ensures.within c.in-Some.ensures.next
    ∙ ap (λ (u : Transition). after_turn text way leaf u f.end) (sym c.turn-piece.ensures)

pub returns-then-is_some-clause-shallow : goal.returns-then-is_some-clause-shallow
returns-then-is_some-clause-shallow c =
    let s = state c.tokens.state.level c.past-from.result.1 in
    let f = c.in-Some.found in
    let deeper = turn_deeper c.args.way.now c.args.leaf s f.mark c.past-from.result.0 in
    let is : depth_of c.turn-piece.result.1.mode ≡ depth_of (turn c.args.way.now c.args.leaf s f.mark c.past-from.result.0).1.mode =
    ap (λ (u : Transition). depth_of u.1.mode) c.turn-piece.ensures in
    omega (arith, is, deeper, c.past-from.ensures.shallow, c.in-Some.ensures.moves)

pub tokens-preserved : goal.tokens-preserved
tokens-preserved c =
    let text = c.args.text.now in
    let way = c.args.way.now in
    let leaf = c.args.leaf in
    let s = state c.tokens.state.level c.past-from.result.1 in
    let f = c.in-Some.found in
    let deeper = turn_deeper way leaf s f.mark c.past-from.result.0 in
    let is : depth_of c.turn-piece.result.1.mode ≡ depth_of (turn way leaf s f.mark c.past-from.result.0).1.mode =
    ap (λ (u : Transition). depth_of u.1.mode) c.turn-piece.ensures in
    record {
      same = sym (sym c.tokens.invariant.same
          ∙ c.past-from.ensures.same way leaf c.tokens.state.level
          ∙ left_found text way leaf c.past-from.result.0 s f c.past-from.ensures.within c.in-Some.ensures.next
          ∙ ap (λ (u : Transition). after_turn text way leaf u f.end) (sym c.turn-piece.ensures)
          ∙ ap (λ l. l ++ left text way leaf f.end c.turn-piece.result.1) (unwritten c.turn-piece.result.0 (sym c.if-is_some.ensures)));
      within = c.in-Some.ensures.within;
      shallow = omega (arith, is, deeper, c.past-from.ensures.shallow, c.in-Some.ensures.moves);
    }

pub returns-in-None-clause-none : goal.returns-in-None-clause-none
returns-in-None-clause-none c =
    left_unfound c.args.text.now c.args.way.now c.args.leaf c.past-from.result.0 (state c.tokens.state.level c.past-from.result.1) c.in-None.ensures.next
