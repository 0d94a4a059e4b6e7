use Rattle.std.proofs.Common.{◌≡◌, [], ◌∷◌, length, sym, ap, ◌∙◌, subst, arith}
use Rattle.std.specs.Prelude.{IfSome, IfNone}
use Rattle.std.specs.Int.{w64}
use Rattle.flow_messages.specs.declared.message.Kind.TheVariants.{Int as IntKind}
use Rattle.flow_messages.specs.Stores.{content_of}
use Rattle.flow_words.specs.Words.{ints_said, group_after}
use Rattle.flow_words.proofs.Digits.{kept, word_kept}
use Rattle.flow_words.proofs.Coming.{come_none, come_as}
use Rattle.flow_words.proofs.InTurn.{of_kind, open_now}
use Rattle.flow_words.proofs.OfKind.{first_is_int}
use Rattle.flow_words.proofs.receiving.hold_word.Goals as goal

pub push-requires : goal.push-requires
push-requires c =
    let g = c.args.group in
    let w = c.args.word in
    let said = ap (λ x. ints_said g (x ∷ [])) (sym (word_kept w c.ranges.word)) ∙ subst (λ o. IfSome o (λ m. ints_said g (kept w64 w ∷ []) ≡ m ∷ [])) c.in-Some.is c.step-next.ensures.some in
    let one : length (ints_said g (w ∷ [])) ≡ 1 = ap length said in
    let i = c.args.inbox.now in
    let m = c.in-Some.message in
    record {
      room = omega (arith, one, c.requires.room);
      kind = of_kind IntKind i.store m c.requires.kind (first_is_int g w m [] said);
      «open» = open_now (content_of i.store) (ints_said g (w ∷ [])) (omega (arith, one)) c.requires.turn;
    }

pub returns-in_default-clause-come : goal.returns-in_default-clause-come
returns-in_default-clause-come c =
    let g = c.args.group in
    let w = c.args.word in
    let none = ap (λ x. ints_said g (x ∷ [])) (sym (word_kept w c.ranges.word)) ∙ subst (λ o. IfNone o (ints_said g (kept w64 w ∷ []) ≡ [])) c.in_default.is c.step-next.ensures.none in
    come_as [] (ints_said g (w ∷ [])) c.args.inbox.now c.args.inbox.now (sym none) (come_none c.args.inbox.now)

pub returns-in_default-clause-group : goal.returns-in_default-clause-group
returns-in_default-clause-group c =
    let is : c.step-next.result.0 ≡ group_after c.args.group (kept w64 c.args.word ∷ []) = c.step-next.ensures.group in
    is ∙ ap (λ x. group_after c.args.group (x ∷ [])) (word_kept c.args.word c.ranges.word)

pub returns-clause-come : goal.returns-clause-come
returns-clause-come c =
    let g = c.args.group in
    let w = c.args.word in
    let put = c.push.ensures in
    let said = ap (λ x. ints_said g (x ∷ [])) (sym (word_kept w c.ranges.word)) ∙ subst (λ o. IfSome o (λ m. ints_said g (kept w64 w ∷ []) ≡ m ∷ [])) c.in-Some.is c.step-next.ensures.some in
    come_as (c.in-Some.message ∷ []) (ints_said g (w ∷ [])) c.args.inbox.now c.push.new.self (sym said)
    put

pub returns-clause-group : goal.returns-clause-group
returns-clause-group c =
    let is : c.step-next.result.0 ≡ group_after c.args.group (kept w64 c.args.word ∷ []) = c.step-next.ensures.group in
    is ∙ ap (λ x. group_after c.args.group (x ∷ [])) (word_kept c.args.word c.ranges.word)
