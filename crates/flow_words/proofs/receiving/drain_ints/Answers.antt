use Rattle.std.proofs.Common.{rules, ◌≡◌, ◌+◌, ◌≤◌, false, List, ℤ, [], ◌∷◌, ◌++◌, length, take, drop, refl, sym, ap, ◌∙◌, subst, arith, add-one, append_assoc, append-nil}
use Rattle.std.proofs.lemmas.List.{length-drop, take_all}
use Rattle.rtrb.specs.Ring as port
use Rattle.rtrb.specs.Fifo.{Allowed}
use Rattle.flow_messages.specs.declared.message.Msg.{Msg}
use Rattle.flow_messages.specs.Signals.{signals, ended, has_end}
use Rattle.flow_boxes.specs.Coming.{HasCome}
use Rattle.flow_words.specs.declared.ring.ReaderWords.TheVariants.{Ints as IntsFrom}
use Rattle.flow_words.specs.Ring.{TakesOver}
use Rattle.flow_words.specs.Words.{ints_said, ints_sent, group_after}
use Rattle.std.specs.Prelude.{FitsSigned}
use Rattle.std.specs.Int.{w64}
use Rattle.flow_messages.specs.Stores.{content_of}
use Rattle.flow_words.proofs.Digits.{kept, word_kept}
use Rattle.flow_words.proofs.Said.{said-nil, after-nil}
use Rattle.flow_words.proofs.Lists.{popped}
use Rattle.flow_words.proofs.Coming.{come_none, come_as, come_length}
use Rattle.flow_words.proofs.Holding.{group_next, come_next, room_left, same_consumer}
use Rattle.flow_words.proofs.InTurn.{open_after, word_in_turn}
use Rattle.flow_words.proofs.Taking.{allowed_snoc, ints_took, half_grown, said_further, none_known}
use Rattle.flow_words.proofs.receiving.drain_ints.Goals as goal

pub loop-init : goal.loop-init
loop-init c = record {
  ring = ((refl, refl, refl, refl), refl);
  taken = sym (append-nil (port.received c.args.ring.now));
  known = refl;
  allowed = tt;
  group = sym (after-nil c.args.group);
  come = come_as [] (ints_said c.args.group []) c.args.inbox.now c.args.inbox.now (sym (said-nil c.args.group)) (come_none c.args.inbox.now);
}

pub pop_known-requires : goal.pop_known-requires
pop_known-requires c = omega (arith, ap length c.loop.invariant.known, length-drop c.loop.counter (port.known_items c.args.ring.now), c.loop-test.true, c.cached_slots-end.ensures)

pub hold_word-now-requires : goal.hold_word-now-requires
hold_word-now-requires c =
    let inv = c.loop.invariant in
    let k = port.known_items c.args.ring.now in
    let i = c.loop.counter in
    let x = c.pop_known.result in
    let next = ap (λ n. take n k) (add-one i) ∙ (popped k i x _ (sym inv.known ∙ c.pop_known.ensures.received.1)).0 in
    let f : FitsSigned w64 x = search rules in
    let held = content_of c.args.inbox.now.store in
    let r = port.received c.args.ring.now in
    let free = subst (λ (ms : List Msg). has_end ms ≡ false) (said_further r (port.received c.loop.ring) (take i k) c.args.group inv.taken c.requires.half) c.pop_known.ensures.allowed in
    let clear = ap (λ (ms : List Msg). has_end ms) inv.come.held ∙ open_after held (ints_sent r) (ints_said c.args.group (take i k)) c.requires.ended free in
    record {
      room = subst (λ y. length (content_of c.loop.inbox.store) + length (ints_said c.loop.now (y ∷ [])) ≤ c.loop.inbox.store.capacity) (sym (word_kept x f)) (omega (
        arith,
        c.requires.room,
        ap (λ h. length (ints_said h k)) c.requires.half,
        room_left c.args.group c.loop.now c.loop.now k i x next inv.group,
        come_length (ints_said c.args.group (take i k)) c.args.inbox.now c.loop.inbox inv.come,
        inv.come.capacity,
      ));
      kind = inv.come.kind ∙ c.requires.kind;
      turn = word_in_turn (content_of c.loop.inbox.store) c.loop.now (kept w64 x) clear;
    }

pub loop-preserved : goal.loop-preserved
loop-preserved c =
    let inv = c.loop.invariant in
    let r = port.received c.args.ring.now in
    let k = port.known_items c.args.ring.now in
    let i = c.loop.counter in
    let x = c.pop_known.result in
    let pop = c.pop_known.ensures in
    let two = popped k i x _ (sym inv.known ∙ pop.received.1) in
    let next = ap (λ n. take n k) (add-one i) ∙ two.0 in
    let f : FitsSigned w64 x = search rules in
    let is : c.hold_word-now.result ≡ group_after c.loop.now (kept w64 x ∷ []) = c.hold_word-now.ensures.group in
    let one = subst (λ y. HasCome (ints_said c.loop.now (y ∷ [])) c.loop.inbox c.hold_word-now.new.inbox) (word_kept x f) c.hold_word-now.ensures.come in
    let allows = λ (xs : List ℤ) (_ : ℤ). ended (signals (ints_sent xs)) ≡ false in
    record {
      ring = same_consumer c.args.ring.now c.loop.ring c.pop_known.new.self inv.ring pop.ring;
      taken = pop.received.0 ∙ ap (λ l. l ++ x ∷ []) inv.taken ∙ append_assoc r (take i k) (x ∷ []) ∙ ap (λ l. r ++ l) (sym next);
      known = sym (ap (λ n. drop n k) (add-one i) ∙ two.1);
      allowed = subst (Allowed allows r) (sym next) (allowed_snoc allows r (take i k) x inv.allowed (subst (λ l. ended (signals (ints_sent l)) ≡ false) inv.taken pop.allowed));
      group = group_next c.args.group c.loop.now c.hold_word-now.result k i x next inv.group (is ∙ ap (λ y. group_after c.loop.now (y ∷ [])) (word_kept x f));
      come = come_next c.args.group c.loop.now c.loop.now k i x next inv.group c.args.inbox.now c.loop.inbox c.hold_word-now.new.inbox inv.come one;
    }

pub returns-clause-half : goal.returns-clause-half
returns-clause-half c = c.loop.invariant.group ∙ half_grown _ _ _ c.args.group c.loop.invariant.taken c.requires.half

pub returns-clause-came : goal.returns-clause-came
returns-clause-came c =
    let inv = c.loop.invariant in
    let a = c.args.ring.now in
    let b = c.loop.ring in
    let k = port.known_items a in
    let g = c.args.group in
    let all = take_all c.loop.counter k (omega (arith, c.loop-test.false, c.cached_slots-end.ensures)) in
    let taken = subst (λ l. port.received b ≡ port.received a ++ l) all inv.taken in
    let allowed = subst (Allowed (λ xs _. ended (signals (ints_sent xs)) ≡ false) (port.received a)) all inv.allowed in
    let come = subst (λ l. HasCome (ints_said g l) c.args.inbox.now c.loop.inbox) all inv.come in
    subst (λ h. TakesOver (ints_said h k) (IntsFrom a) (IntsFrom b) c.args.inbox.now c.loop.inbox) c.requires.half
    (ints_took a b k g c.args.inbox.now c.loop.inbox c.requires.half inv.ring taken (port.known_items b, refl) allowed come)

pub returns-clause-none : goal.returns-clause-none
returns-clause-none c = none_known _ _ (omega (arith, ap length c.loop.invariant.known, length-drop c.loop.counter (port.known_items c.args.ring.now), c.loop-test.false, c.cached_slots-end.ensures))
