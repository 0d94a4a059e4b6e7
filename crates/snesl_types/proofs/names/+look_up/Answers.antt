use Rattle.std.proofs.Common.{sym, ap, ◌∙◌}
use Rattle.snesl_data.specs.Types.{ty_of}
use Rattle.snesl_values.specs.Inputs.{declared}
use Rattle.snesl_grammar.specs.tree.Spelling.{spelling}
use Rattle.snesl_types.specs.Contexts.{found, inside, type_in}
use Rattle.snesl_types.specs.Names.{context_of, seen}
use Rattle.snesl_types.proofs.Seen.{seen-inside, found-opened, unfound-opened, found-before, found-behind}
use Rattle.snesl_types.proofs.names.+look_up.Goals as goal

pub returns-in-Some : goal.returns-in-Some
returns-in-Some t c =
    let text = c.args.text.now in
    let bytes = spelling text c.args.name in
    let all = declared c.in-Declared.all.now in
    let there = c.in-Some.ensures ∙ ap (λ b. type_in b all) c.spelled.ensures in
    c.meaning_across.ensures
    ∙ ap (seen c.args.crossed)
    (sym (ap (λ names. found bytes (context_of text names)) c.in-Declared.is ∙ found-opened bytes all (ty_of c.in-Some.ty.now) there))

pub returns-in-None : goal.returns-in-None
returns-in-None t c =
    let text = c.args.text.now in
    let bytes = spelling text c.args.name in
    let all = declared c.in-Declared.all.now in
    let there = c.in-None.ensures ∙ ap (λ b. type_in b all) c.spelled.ensures in
    ap (seen c.args.crossed)
    (sym (ap (λ names. found bytes (context_of text names)) c.in-Declared.is ∙ unfound-opened bytes all there))

pub returns-in-Some-type_in : goal.returns-in-Some-type_in
returns-in-Some-type_in t c =
    let text = c.args.text.now in
    let bytes = spelling text c.args.name in
    let binders = declared c.in-Inside.binders.now in
    let outer = inside (context_of text c.in-Inside.outer.now) in
    let there = c.in-Some-type_in.ensures ∙ ap (λ b. type_in b binders) c.spelled-in-Inside.ensures in
    c.meaning_across-in-Some-type_in.ensures
    ∙ ap (seen c.args.crossed)
    (sym (ap (λ names. found bytes (context_of text names)) c.in-Inside.is ∙ found-before bytes binders outer (ty_of c.in-Some-type_in.ty.now) there))

pub returns-in-None-type_in : goal.returns-in-None-type_in
returns-in-None-type_in t c =
    let text = c.args.text.now in
    let bytes = spelling text c.args.name in
    let binders = declared c.in-Inside.binders.now in
    let outer = context_of text c.in-Inside.outer.now in
    let there = c.in-None-type_in.ensures ∙ ap (λ b. type_in b binders) c.spelled-in-Inside.ensures in
    c.look_up-in-None-type_in.ensures
    ∙ sym (seen-inside c.args.crossed bytes outer)
    ∙ ap (seen c.args.crossed)
    (sym (ap (λ names. found bytes (context_of text names)) c.in-Inside.is ∙ found-behind bytes binders (inside outer) there))
