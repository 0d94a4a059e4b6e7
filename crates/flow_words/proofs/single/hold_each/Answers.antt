use Rattle.std.proofs.Common.{List, ◌∷◌, [], ◌++◌, take, ap, sym, ◌∙◌, subst, arith}
use Rattle.std.proofs.lemmas.List.{length-map, length-take, take_all}
use Rattle.flow_messages.specs.declared.message.Msg.{Msg}
use Rattle.flow_messages.specs.Signals.{has_end}
use Rattle.flow_messages.specs.Stores.{content_of}
use Rattle.flow_boxes.specs.Coming.{HasCome}
use Rattle.flow_words.specs.Words.{each_said}
use Rattle.flow_words.proofs.Lists.{said_next}
use Rattle.flow_words.proofs.Coming.{come_none, come_as, come_more, come_length}
use Rattle.flow_words.proofs.InTurn.{of_kind, open_at}
use Rattle.flow_words.proofs.single.hold_each.Goals as goal

pub loop-word-init : goal.loop-word-init
loop-word-init g c = come_none c.args.inbox.now

pub push-requires : goal.push-requires
push-requires g c =
    let i = c.loop-word.word-index in
    let xs = c.args.words.now in
    let said = g.W.Single.said in
    let inv = c.loop-word.invariant in
    record {
      room = omega (
        arith,
        c.requires.room,
        c.loop-word-test.true,
        inv.capacity,
        come_length (each_said said (take i xs)) c.args.inbox.now c.loop-word.inbox inv,
        length-map (take i xs) said,
        length-take i xs,
      );
      kind = of_kind g.W.Single.kind c.loop-word.inbox.store c.message.result (inv.kind ∙ c.requires.kind) c.message.ensures.fits;
      «open» = ap (λ (ms : List Msg). has_end ms) inv.held ∙ open_at said (content_of c.args.inbox.now.store) xs i c.word-item.result c.loop-word-test.true c.requires.turn;
    }

pub loop-word-preserved : goal.loop-word-preserved
loop-word-preserved g c =
    let i = c.loop-word.word-index in
    let xs = c.args.words.now in
    let said = g.W.Single.said in
    let put = c.push.ensures in
    let more = ap (λ m. each_said said (take i xs) ++ m ∷ []) (c.message.ensures.said ∙ ap said c.word-item.is) ∙ sym (said_next said xs i _ c.loop-word-test.true) in
    come_as _ _ _ _ more (come_more _ _ _ _ _ c.loop-word.invariant put)

pub returns : goal.returns
returns g c = subst (λ xs. HasCome (each_said g.W.Single.said xs) c.args.inbox.now c.loop-word.inbox) (take_all c.loop-word.word-index _ c.loop-word-test.false) c.loop-word.invariant
