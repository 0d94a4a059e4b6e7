use Rattle.std.proofs.Common.{◌≡◌, ◌≤◌, [], ◌∷◌, ◌++◌, ℕ, List, Option, Some, None, IfNone, true, false, length, ap, ◌∙◌, subst}
use Rattle.std.specs.Prelude.{option_to_list}
use Rattle.std.specs.Arc.{arc_value}
use Rattle.flow_messages.specs.Cells.{is_of}
use Rattle.flow_messages.specs.declared.message.Kind.TheVariants.{Vec as VecKind}
use Rattle.flow_nodes.specs.declared.inputs.turns.Component.{Component}
use Rattle.flow_nodes.specs.declared.inputs.turns.Leaf.{Leaf}
use Rattle.flow_nodes.specs.declared.inputs.turns.State.{State}
use Rattle.flow_nodes.specs.declared.inputs.turns.Piece.{Piece}
use Rattle.flow_nodes.specs.inputs.Left.{left, cell}
use Rattle.snesl_values.specs.Places.{value_at}
use Rattle.flow_nodes.specs.inputs.Items.{opening_state}
use Rattle.flow_nodes.proofs.OfInputs.Sending.{nexts, sends_piece, sends_end, takes}
use Rattle.flow_nodes.proofs.inputs.source.TextSourceTransducer.emit.Goals as goal

-- the scan of the same text on the same way found this piece, and leaves the others
found : (text same : List ℕ) (way alike : List Component) (leaf : Leaf) (at end : ℕ) (s u : State) (o : Option Piece) (x : Piece) → same ≡ text → alike ≡ way
    → left same alike leaf at s ≡ option_to_list o ++ left same alike leaf end u → o ≡ Some x → left text way leaf at s ≡ x ∷ left text way leaf end u
found text same way alike leaf at end s u o x e f first is =
    subst (λ t. left t way leaf at s ≡ x ∷ left t way leaf end u) e
    (subst (λ w. left same w leaf at s ≡ x ∷ left same w leaf end u) f
    (first ∙ ap (λ o. option_to_list o ++ left same alike leaf end u) is))

-- or nothing
unfound : (text same : List ℕ) (way alike : List Component) (leaf : Leaf) (at end : ℕ) (s u : State) (o : Option Piece) → same ≡ text → alike ≡ way
    → left same alike leaf at s ≡ option_to_list o ++ left same alike leaf end u → o ≡ None → left same alike leaf end u ≡ [] → left text way leaf at s ≡ []
unfound text same way alike leaf at end s u o e f first is none =
    subst (λ t. left t way leaf at s ≡ []) e
    (subst (λ w. left same w leaf at s ≡ []) f
    (first ∙ ap (λ o. option_to_list o ++ left same alike leaf end u) is ∙ none))

pub returns-in_err-item-in-Some-clause-sure : goal.returns-in_err-item-in-Some-clause-sure
returns-in_err-item-in-Some-clause-sure c = λ h.
    let n = c.args.self.now in
    let text = (arc_value n.text).items in
    let text_is : c.deref-2.result.now ≡ text = c.deref-2.ensures.value ∙ ap (λ v. v.items) c.deref.ensures in
    let here_is : c.deref-in-Some-2.result.now ≡ text = c.deref-in-Some-2.ensures.value ∙ ap (λ v. v.items) c.deref-in-Some.ensures in
    let f = c.scan-found.result in
    let next = nexts (left text n.way.items n.leaf n.place opening_state) (left text n.way.items n.leaf n.at n.state) c.in-Some.piece (left text n.way.items n.leaf f.at f.state) n.rest
    (found text _ n.way.items _ n.leaf n.at f.at n.state f.state f.piece c.in-Some.piece text_is c.deref-3.ensures.value c.scan-found.ensures.first c.in-Some.is) in
    let scalar = takes text n.way.items n.leaf n.place n.at n.state n.ended c.in-Some.piece (left text n.way.items n.leaf f.at f.state) c.requires next h in
    let no : false ≡ true = c.in_err-item-in-Some.ensures.scalar (ap (λ t. is_of VecKind (cell (value_at t) c.in-Some.piece)) here_is ∙ scalar) in
    cc

pub invariant_of-self-in-Some : goal.invariant_of-self-in-Some
invariant_of-self-in-Some c =
    let n = c.args.self.now in
    let text = (arc_value n.text).items in
    let text_is : c.deref-2.result.now ≡ text = c.deref-2.ensures.value ∙ ap (λ v. v.items) c.deref.ensures in
    let f = c.scan-found.result in
    let next = nexts (left text n.way.items n.leaf n.place opening_state) (left text n.way.items n.leaf n.at n.state) c.in-Some.piece (left text n.way.items n.leaf f.at f.state) n.rest
    (found text _ n.way.items _ n.leaf n.at f.at n.state f.state f.piece c.in-Some.piece text_is c.deref-3.ensures.value c.scan-found.ensures.first c.in-Some.is) in
    record {
      inside = subst (λ t. f.at ≤ length t) text_is c.scan-found.ensures.within;
      shallow = c.scan-found.ensures.shallow;
      rest = next.left;
    }

pub returns-in_ok-item-in-Some-clause-ok : goal.returns-in_ok-item-in-Some-clause-ok
returns-in_ok-item-in-Some-clause-ok c =
    let n = c.args.self.now in
    let text = (arc_value n.text).items in
    let text_is : c.deref-2.result.now ≡ text = c.deref-2.ensures.value ∙ ap (λ v. v.items) c.deref.ensures in
    let here_is : c.deref-in-Some-2.result.now ≡ text = c.deref-in-Some-2.ensures.value ∙ ap (λ v. v.items) c.deref-in-Some.ensures in
    let f = c.scan-found.result in
    let next = nexts (left text n.way.items n.leaf n.place opening_state) (left text n.way.items n.leaf n.at n.state) c.in-Some.piece (left text n.way.items n.leaf f.at f.state) n.rest
    (found text _ n.way.items _ n.leaf n.at f.at n.state f.state f.piece c.in-Some.piece text_is c.deref-3.ensures.value c.scan-found.ensures.first c.in-Some.is) in
    sends_piece text n.way.items n.leaf n.place n.at f.at n.state f.state n.ended c.in-Some.piece _ c.requires next
    (c.in_ok-item-in-Some.ensures.ok ∙ ap (λ t. cell (value_at t) c.in-Some.piece) here_is)

pub returns-in-None-clause-ok : goal.returns-in-None-clause-ok
returns-in-None-clause-ok c =
    let n = c.args.self.now in
    let text = (arc_value n.text).items in
    let text_is : c.deref-2.result.now ≡ text = c.deref-2.ensures.value ∙ ap (λ v. v.items) c.deref.ensures in
    let f = c.scan-found.result in
    sends_end text n.way.items n.leaf n.place n.at n.state n.ended c.requires
    (unfound text _ n.way.items _ n.leaf n.at f.at n.state f.state f.piece text_is c.deref-3.ensures.value c.scan-found.ensures.first c.in-None.is
    (subst (λ o. IfNone o (left c.deref-2.result.now c.deref-3.result.now n.leaf f.at f.state ≡ [])) c.in-None.is c.scan-found.ensures.none))
