use Rattle.std.proofs.Common.{◌≡◌, ◌<◌, false, List, [], ◌∷◌, ◌++◌, length, take, drop, refl, sym, ap, ◌∙◌, subst, arith, add-one, append_assoc, append-nil}
use Rattle.std.proofs.lemmas.List.{length-map, length-take, length-drop, take_all, map-append}
use Rattle.rtrb.specs.Ring as port
use Rattle.rtrb.specs.Fifo.{Allowed}
use Rattle.flow_messages.specs.declared.message.Msg.{Msg}
use Rattle.flow_messages.specs.Signals.{has_end}
use Rattle.flow_messages.specs.Stores.{content_of}
use Rattle.flow_boxes.specs.Coming.{HasCome}
use Rattle.flow_words.specs.Words.{each_said}
use Rattle.flow_words.proofs.Lists.{popped}
use Rattle.flow_words.proofs.Coming.{come_none, come_as, come_more, come_length}
use Rattle.flow_words.proofs.Holding.{same_consumer, no_length}
use Rattle.flow_words.proofs.InTurn.{of_kind, open_after}
use Rattle.flow_words.proofs.Taking.{allowed_snoc}
use Rattle.flow_words.proofs.receiving.drain_singles.Goals as goal

pub loop-init : goal.loop-init
loop-init g c = record {
  ring = ((refl, refl, refl, refl), refl);
  taken = sym (append-nil (port.received c.args.ring.now));
  known = refl;
  allowed = tt;
  come = come_none c.args.inbox.now;
}

pub pop_known-requires : goal.pop_known-requires
pop_known-requires g c = omega (arith, ap length c.loop.invariant.known, length-drop c.loop.counter (port.known_items c.args.ring.now), c.loop-test.true, c.cached_slots-end.ensures)

pub push-requires : goal.push-requires
push-requires g c =
    let inv = c.loop.invariant in
    let k = port.known_items c.args.ring.now in
    let i = c.loop.counter in
    let said = g.W.Single.said in
    let r = port.received c.args.ring.now in
    let room : length (content_of c.loop.inbox.store) < c.loop.inbox.store.capacity = omega (
      arith,
      c.requires.room,
      c.loop-test.true,
      c.cached_slots-end.ensures,
      come_length (each_said said (take i k)) c.args.inbox.now c.loop.inbox inv.come,
      inv.come.capacity,
      length-map (take i k) said,
      length-take i k,
    ) in
    let free = subst (λ l. has_end (each_said said l) ≡ false) inv.taken (c.requires.closes (port.received c.loop.ring) c.pop_known.result c.pop_known.ensures.allowed) in
    record {
      room = room;
      kind = of_kind g.W.Single.kind c.loop.inbox.store c.message.result (inv.come.kind ∙ c.requires.kind) c.message.ensures.fits;
      «open» = ap (λ (ms : List Msg). has_end ms) inv.come.held ∙ open_after (content_of c.args.inbox.now.store) (each_said said r) (each_said said (take i k)) c.requires.ended
          (ap (λ (ms : List Msg). has_end ms) (sym (map-append said r (take i k))) ∙ free);
    }

pub loop-preserved : goal.loop-preserved
loop-preserved g c =
    let inv = c.loop.invariant in
    let r = port.received c.args.ring.now in
    let k = port.known_items c.args.ring.now in
    let i = c.loop.counter in
    let x = c.pop_known.result in
    let pop = c.pop_known.ensures in
    let put = c.push.ensures in
    let said = g.W.Single.said in
    let allows = g.P.Protocol.allows in
    let two = popped k i x _ (sym inv.known ∙ pop.received.1) in
    let next = ap (λ n. take n k) (add-one i) ∙ two.0 in
    let more = ap (λ m. each_said said (take i k) ++ m ∷ []) c.message.ensures.said ∙ sym (ap (each_said said) next ∙ map-append said (take i k) (x ∷ [])) in
    record {
      ring = same_consumer c.args.ring.now c.loop.ring c.pop_known.new.self inv.ring pop.ring;
      taken = pop.received.0 ∙ ap (λ l. l ++ x ∷ []) inv.taken ∙ append_assoc r (take i k) (x ∷ []) ∙ ap (λ l. r ++ l) (sym next);
      known = sym (ap (λ n. drop n k) (add-one i) ∙ two.1);
      allowed = subst (Allowed allows r) (sym next) (allowed_snoc allows r (take i k) x inv.allowed (subst (λ l. allows l x) inv.taken pop.allowed));
      come = come_as _ _ _ _ more (come_more _ _ _ _ _ inv.come put);
    }

pub returns-clause-taken : goal.returns-clause-taken
returns-clause-taken g c =
    let k = port.known_items c.args.ring.now in
    let all = take_all c.loop.counter k (omega (arith, c.loop-test.false, c.cached_slots-end.ensures)) in
    subst (λ l. port.received c.loop.ring ≡ port.received c.args.ring.now ++ l) all c.loop.invariant.taken

pub returns-clause-none : goal.returns-clause-none
returns-clause-none g c = no_length _ (omega (arith, ap length c.loop.invariant.known, length-drop c.loop.counter (port.known_items c.args.ring.now), c.loop-test.false, c.cached_slots-end.ensures))

pub returns-clause-allowed : goal.returns-clause-allowed
returns-clause-allowed g c =
    let k = port.known_items c.args.ring.now in
    let all = take_all c.loop.counter k (omega (arith, c.loop-test.false, c.cached_slots-end.ensures)) in
    subst (Allowed g.P.Protocol.allows (port.received c.args.ring.now)) all c.loop.invariant.allowed

pub returns-clause-come : goal.returns-clause-come
returns-clause-come g c =
    let k = port.known_items c.args.ring.now in
    let all = take_all c.loop.counter k (omega (arith, c.loop-test.false, c.cached_slots-end.ensures)) in
    subst (λ l. HasCome (each_said g.W.Single.said l) c.args.inbox.now c.loop.inbox) all c.loop.invariant.come
