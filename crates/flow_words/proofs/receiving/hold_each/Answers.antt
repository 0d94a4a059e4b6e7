use Rattle.std.proofs.Common.{rules, ◌≡◌, ◌+◌, List, append_assoc, pos, [], ◌∷◌, ◌++◌, get_or, take, ap, sym, ◌∙◌, subst}
use Rattle.std.proofs.lemmas.List.{take_all}
use Rattle.flow_messages.specs.declared.message.Msg.{Msg}
use Rattle.flow_messages.specs.Signals.{signals, orderly}
use Rattle.flow_messages.specs.Stores.{content_of}
use Rattle.flow_boxes.specs.Coming.{HasCome}
use Rattle.flow_words.specs.Words.{ints_said, group_after}
use Rattle.flow_words.proofs.Said.{said-nil, after-nil}
use Rattle.std.specs.Prelude.{FitsSigned}
use Rattle.std.specs.Int.{w64}
use Rattle.flow_words.proofs.Digits.{kept, word_kept}
use Rattle.flow_words.proofs.Coming.{come_none, come_as}
use Rattle.flow_words.proofs.Holding.{part_next, said_more, group_next, come_next, room_for_word}
use Rattle.flow_words.proofs.InTurn.{turn_part}
use Rattle.flow_words.proofs.receiving.hold_each.Goals as goal

pub loop-word-init : goal.loop-word-init
loop-word-init c = record {
  come = come_as [] (ints_said c.args.group []) c.args.inbox.now c.args.inbox.now (sym (said-nil c.args.group))
      (come_none c.args.inbox.now);
  group = sym (after-nil c.args.group);
}

pub hold_word-now-requires : goal.hold_word-now-requires
hold_word-now-requires c =
    let inv = c.loop-word.invariant in
    let g = c.args.group in
    let now = c.loop-word.now in
    let ws = c.args.words.now in
    let i = c.loop-word.word-index in
    let held = content_of c.args.inbox.now.store in
    let w = get_or ws i (pos 0) in
    let f : FitsSigned w64 w = search rules in
    let x = kept w64 w in
    let part = part_next ws i (pos 0) c.loop-word-test.true ∙ ap (λ y. take i ws ++ y ∷ []) (sym (word_kept w f)) in
    record {
      room = room_for_word g now ws i x c.args.inbox.now c.loop-word.inbox c.loop-word-test.true inv.come c.requires.room;
      kind = inv.come.kind ∙ c.requires.kind;
      turn = ap (λ (l : List Msg). orderly (signals l)) (ap (λ l. l ++ ints_said now (x ∷ [])) inv.come.held ∙ append_assoc held (ints_said g (take i ws)) (ints_said now (x ∷ []))
          ∙ ap (λ l. held ++ l) (sym (said_more g now now ws i x part inv.group))) ∙ turn_part held g ws (i + 1) c.requires.turn;
    }

pub loop-word-preserved : goal.loop-word-preserved
loop-word-preserved c =
    let inv = c.loop-word.invariant in
    let g = c.args.group in
    let now = c.loop-word.now in
    let next = c.hold_word-now.result in
    let ws = c.args.words.now in
    let i = c.loop-word.word-index in
    let w = get_or ws i (pos 0) in
    let f : FitsSigned w64 w = search rules in
    let x = kept w64 w in
    let part = part_next ws i (pos 0) c.loop-word-test.true ∙ ap (λ y. take i ws ++ y ∷ []) (sym (word_kept w f)) in
    let is : next ≡ group_after now (x ∷ []) = c.hold_word-now.ensures.group in
    record {
      come = come_next g now next ws i x part inv.group c.args.inbox.now c.loop-word.inbox c.hold_word-now.new.inbox inv.come c.hold_word-now.ensures.come;
      group = group_next g now next ws i x part inv.group is;
    }

pub returns-clause-come : goal.returns-clause-come
returns-clause-come c = subst (λ xs. HasCome (ints_said c.args.group xs) c.args.inbox.now c.loop-word.inbox) (take_all c.loop-word.word-index _ c.loop-word-test.false) c.loop-word.invariant.come

pub returns-clause-group : goal.returns-clause-group
returns-clause-group c = c.loop-word.invariant.group ∙ ap (group_after c.args.group) (take_all c.loop-word.word-index _ c.loop-word-test.false)
