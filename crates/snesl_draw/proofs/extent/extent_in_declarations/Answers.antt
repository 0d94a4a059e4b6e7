use Rattle.std.proofs.Common.{◌≡◌, ◌∙◌, true, false}
use Rattle.std.specs.Option.{is_some}
use Rattle.snesl_grammar.specs.tree.View.{declaration_of}
use Rattle.snesl_draw.specs.Forms.{extent_in_declaration}
use Rattle.snesl_draw.proofs.Extents.{at_this, declared_all, declared_end, declared_items, past_item}
use Rattle.snesl_draw.proofs.extent.extent_in_declarations.Goals as goal

pub returns-then-is_some : goal.returns-then-is_some
returns-then-is_some c =
    let at = c.args.at in
    let some : is_some c.extent_in_declaration-seen.result ≡ true = cc in
    at_this (λ x. extent_in_declaration at (declaration_of x)) (declared_all at) c.args.declarations.now c.loop-declaration.declaration-index c.declaration-item.result
    c.extent_in_declaration-seen.result (declared_items at) c.loop-declaration-test.true c.declaration-item.is c.extent_in_declaration-seen.ensures some
    ∙ c.loop-declaration.invariant

pub loop-declaration-preserved : goal.loop-declaration-preserved
loop-declaration-preserved c =
    let at = c.args.at in
    let no : is_some c.extent_in_declaration-seen.result ≡ false = cc in
    past_item (λ x. extent_in_declaration at (declaration_of x)) (declared_all at) c.args.declarations.now c.loop-declaration.declaration-index c.declaration-item.result
    c.extent_in_declaration-seen.result (declared_items at) c.loop-declaration-test.true c.declaration-item.is c.extent_in_declaration-seen.ensures no
    ∙ c.loop-declaration.invariant

pub returns : goal.returns
returns c =
    declared_end c.args.at c.args.declarations.now c.loop-declaration.declaration-index c.loop-declaration-test.false ∙ c.loop-declaration.invariant
