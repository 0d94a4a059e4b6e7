use Rattle.std.proofs.Common.{rules, ◌≡◌, List, [], ◌∷◌, length, sym, ap, ◌∙◌, subst, arith}
use Rattle.rtrb.specs.Ring as port
use Rattle.flow_messages.specs.declared.message.Msg.{Msg}
use Rattle.flow_messages.specs.Signals.{has_end}
use Rattle.flow_messages.specs.Stores.{content_of}
use Rattle.flow_messages.proofs.Signals.{ended-nil}
use Rattle.flow_words.specs.declared.words.Group.TheVariants.{None as NoGroup}
use Rattle.flow_words.specs.declared.ring.ReaderWords.TheVariants.{Ints as IntsFrom}
use Rattle.flow_words.specs.Ring.{TakesOver}
use Rattle.flow_words.specs.Words.{ints_said, group_after}
use Rattle.std.specs.Prelude.{FitsSigned}
use Rattle.std.specs.Int.{w64}
use Rattle.flow_boxes.specs.Coming.{HasCome}
use Rattle.flow_words.proofs.Digits.{kept, word_kept}
use Rattle.flow_words.proofs.Said.{said-nil}
use Rattle.flow_words.proofs.Groups.{words_left, most_left, some_left, fewer_left}
use Rattle.flow_words.proofs.Lists.{none_there}
use Rattle.flow_words.proofs.Coming.{none_came}
use Rattle.flow_words.proofs.Holding.{no_length, room_for_one}
use Rattle.flow_words.proofs.Taking.{takes_none, takes_more, ints_took, ints_none, half_grown}
use Rattle.flow_words.proofs.InTurn.{word_in_turn}
use Rattle.flow_words.proofs.receiving.take_whole.Goals as goal

pub loop-init : goal.loop-init
loop-init c = record { half = c.requires.half; came = takes_none (IntsFrom c.args.ring.now) c.args.inbox.now; none = c.requires.none; left = omega (arith, most_left c.args.group) }

pub returns-in-Err-clause-half : goal.returns-in-Err-clause-half
returns-in-Err-clause-half c = c.loop.invariant.half ∙ ap (group_after NoGroup) (sym c.in-Err.ensures.empty.0)

pub returns-in-Err-clause-came : goal.returns-in-Err-clause-came
returns-in-Err-clause-came c =
    let pop = c.in-Err.ensures in
    let none = none_there (port.known_items c.loop.ring) (λ h. let no = pop.succeeds h in cc) in (
      [],
      takes_more [] [] (IntsFrom c.args.ring.now) (IntsFrom c.loop.ring) (IntsFrom c.pop.new.self) c.args.inbox.now c.loop.inbox c.loop.inbox c.loop.invariant.came
          (ints_none c.loop.ring c.pop.new.self c.loop.inbox pop.ring pop.empty.0 none),
    )

pub returns-in-Err-clause-found : goal.returns-in-Err-clause-found
returns-in-Err-clause-found c = λ _. ap (ints_said (group_after NoGroup (port.received c.pop.new.self))) c.in-Err.ensures.empty.1 ∙ said-nil _

pub hold_word-now-requires : goal.hold_word-now-requires
hold_word-now-requires c =
    let inv = c.loop.invariant in
    let w = kept w64 c.in-Ok.word in
    record {
      room = room_for_one c.loop.now w c.loop.inbox inv.none (omega (arith, inv.came.come.capacity, c.requires.room));
      kind = inv.came.come.kind ∙ c.requires.kind;
      turn = word_in_turn (content_of c.loop.inbox.store) c.loop.now w (ap (λ (ms : List Msg). has_end ms) inv.none ∙ ended-nil);
    }

pub returns-then-len-gt0-clause-half : goal.returns-then-len-gt0-clause-half
returns-then-len-gt0-clause-half c =
    let w = c.in-Ok.word in
    let now = c.loop.now in
    let f : FitsSigned w64 w = search rules in
    let is : c.hold_word-now.result ≡ group_after now (kept w64 w ∷ []) = c.hold_word-now.ensures.group in
    is ∙ ap (λ x. group_after now (x ∷ [])) (word_kept w f) ∙ half_grown (port.received c.loop.ring) (port.received c.pop.new.self) (w ∷ []) now c.in-Ok.ensures.ok.0 c.loop.invariant.half

pub returns-then-len-gt0-clause-came : goal.returns-then-len-gt0-clause-came
returns-then-len-gt0-clause-came c =
    let inv = c.loop.invariant in
    let pop = c.in-Ok.ensures in
    let w = c.in-Ok.word in
    let now = c.loop.now in
    let f : FitsSigned w64 w = search rules in
    let come = subst (λ x. HasCome (ints_said now (x ∷ [])) c.loop.inbox c.hold_word-now.new.inbox) (word_kept w f) c.hold_word-now.ensures.come in
    let took = ints_took c.loop.ring c.pop.new.self (w ∷ []) now c.loop.inbox c.hold_word-now.new.inbox inv.half pop.ring pop.ok.0 pop.ok.1 (pop.ok.2, tt) come in
    (_, takes_more [] _ (IntsFrom c.args.ring.now) (IntsFrom c.loop.ring) (IntsFrom c.pop.new.self) c.args.inbox.now c.loop.inbox c.hold_word-now.new.inbox inv.came took)

pub returns-then-len-gt0-clause-found : goal.returns-then-len-gt0-clause-found
returns-then-len-gt0-clause-found c = λ none. absurd (omega (arith, ap length none, c.len.ensures, c.if-len-gt0.true))

pub loop-preserved : goal.loop-preserved
loop-preserved c =
    let inv = c.loop.invariant in
    let pop = c.in-Ok.ensures in
    let w = c.in-Ok.word in
    let now = c.loop.now in
    let f : FitsSigned w64 w = search rules in
    let come = subst (λ x. HasCome (ints_said now (x ∷ [])) c.loop.inbox c.hold_word-now.new.inbox) (word_kept w f) c.hold_word-now.ensures.come in
    let took = ints_took c.loop.ring c.pop.new.self (w ∷ []) now c.loop.inbox c.hold_word-now.new.inbox inv.half pop.ring pop.ok.0 pop.ok.1 (pop.ok.2, tt) come in
    let is : c.hold_word-now.result ≡ group_after now (kept w64 w ∷ []) = c.hold_word-now.ensures.group in
    let group = is ∙ ap (λ x. group_after now (x ∷ [])) (word_kept w f) in
    let said = ints_said now (w ∷ []) in
    let all = takes_more [] said (IntsFrom c.args.ring.now) (IntsFrom c.loop.ring) (IntsFrom c.pop.new.self) c.args.inbox.now c.loop.inbox c.hold_word-now.new.inbox inv.came took in
    let empty = no_length (content_of c.hold_word-now.new.inbox.store) (omega (arith, c.len.ensures, c.if-len-gt0.false)) in
    let none : said ≡ [] = no_length said (none_came said c.loop.inbox c.hold_word-now.new.inbox come empty) in
    record {
      half = group ∙ half_grown (port.received c.loop.ring) (port.received c.pop.new.self) (w ∷ []) now pop.ok.0 inv.half;
      came = subst (λ ms. TakesOver ms (IntsFrom c.args.ring.now) (IntsFrom c.pop.new.self) c.args.inbox.now c.hold_word-now.new.inbox) none all;
      none = empty;
      left = omega (arith, inv.left, fewer_left now w none, ap words_left group);
    }

pub returns-clause-half : goal.returns-clause-half
returns-clause-half c = c.loop.invariant.half

pub returns-clause-came : goal.returns-clause-came
returns-clause-came c = ([], c.loop.invariant.came)

pub returns-clause-found : goal.returns-clause-found
returns-clause-found c = λ _. absurd (omega (arith, c.loop.invariant.left, some_left c.loop.now, c.loop-test.false))
