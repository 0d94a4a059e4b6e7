use Rattle.std.proofs.Common.{◌≡◌, ◌<◌, ◌≤◌, nat_lt, Bool, true, false, ℕ, List, refl, subst, arith}
use Rattle.std.proofs.lemmas.Bool.Decides.{nat_tests}
use Rattle.std.proofs.lemmas.Result.{IfOk-weaker, on_err_weaker}
use Rattle.flow_messages.specs.Kinds.{TakesKind}
use Rattle.flow_base.specs.Visits.{edge_of}
use Rattle.flow_base.proofs.Visits.{placed_on, visited, visited_on, broke_on}
use Rattle.flow_base.proofs.Kernels.{made_went}
use Rattle.flow_scalar.specs.laws.Source.{source_laws}
use Rattle.flow_scalar.specs.SourceBehaviour.{source_items}
use Rattle.flow_nodes.specs.declared.inputs.turns.Component.{Component}
use Rattle.flow_nodes.specs.declared.inputs.turns.Leaf.{Leaf}
use Rattle.flow_nodes.specs.declared.inputs.turns.State.{State}
use Rattle.flow_nodes.specs.inputs.Items.{leaf_kind, text_state}
use Rattle.flow_nodes.proofs.inputs.source.TextSourceTransducer.run.Goals as goal

-- all its items are of the kind of its edge
of_leaf : (text : List ℕ) (way : List Component) (leaf : Leaf) (place at : ℕ) (s : State) (ended : Bool) → (source_items (text_state text way leaf place at s ended)).kind ≡ leaf_kind leaf
of_leaf text way leaf place at s true = refl
of_leaf text way leaf place at s false = refl

pub write_blocks-requires-clause-kind : goal.write_blocks-requires-clause-kind
write_blocks-requires-clause-kind g c =
    let n = c.args.self.now in
    let edge = (g.E.Ends.view c.args.ends.now).kind (edge_of c.args.outputs.now 0) in
    subst (TakesKind edge) (of_leaf _ n.way.items n.leaf n.place n.at n.state n.ended) (c.requires.placed.kinds 0 (omega (arith, c.requires.placed.each_output)))

pub returns-then-write_blocks-gt0-clause-visited : goal.returns-then-write_blocks-gt0-clause-visited
returns-then-write_blocks-gt0-clause-visited g c =
    let blocks = c.write_blocks in
    let placed = c.requires.placed in
    let some : nat_lt 0 blocks.result ≡ true = let steps : 0 < blocks.result = c.if-write_blocks-gt0.true in grind (arith, nat_tests) in
    let made = made_went (blocks.result, blocks.ensures.went c.args.inputs.now, some) source_laws placed blocks.ensures.ends in
    visited source_laws placed made (λ h. cc)

-- it wrote no blocks
pub write_singly-requires-clause-placed : goal.write_singly-requires-clause-placed
write_singly-requires-clause-placed g c =
    let blocks = c.write_blocks in
    let placed = c.requires.placed in
    let none : nat_lt 0 blocks.result ≡ false = let still : blocks.result ≤ 0 = c.if-write_blocks-gt0.false in grind (arith, nat_tests) in
    placed_on source_laws placed (made_went (blocks.result, blocks.ensures.went c.args.inputs.now, none) source_laws placed blocks.ensures.ends)

pub returns-clause-visited : goal.returns-clause-visited
returns-clause-visited g c =
    let blocks = c.write_blocks in
    let placed = c.requires.placed in
    let none : nat_lt 0 blocks.result ≡ false = let still : blocks.result ≤ 0 = c.if-write_blocks-gt0.false in grind (arith, nat_tests) in
    let made = made_went (blocks.result, blocks.ensures.went c.args.inputs.now, none) source_laws placed blocks.ensures.ends in
    IfOk-weaker c.write_singly.result _ _ (λ any next. visited_on source_laws placed made c.write_singly.ensures.ends next) c.write_singly.ensures.visited

pub returns-clause-broke : goal.returns-clause-broke
returns-clause-broke g c =
    let blocks = c.write_blocks in
    let placed = c.requires.placed in
    let none : nat_lt 0 blocks.result ≡ false = let still : blocks.result ≤ 0 = c.if-write_blocks-gt0.false in grind (arith, nat_tests) in
    let made = made_went (blocks.result, blocks.ensures.went c.args.inputs.now, none) source_laws placed blocks.ensures.ends in
    on_err_weaker c.write_singly.result (λ next. broke_on source_laws placed made next) c.write_singly.ensures.broke
