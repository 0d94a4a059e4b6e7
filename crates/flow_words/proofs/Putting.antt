-- Which words may be put after others.
use Rattle.std.proofs.Common.{◌≡◌, ◌/◌, Bool, true, false, ℤ, List, [], ◌∷◌, ◌++◌, take, refl, ap, ◌∙◌}
use Rattle.std.specs.Prelude.{Some}
use Rattle.std.proofs.lemmas.List.{map-append}
use Rattle.std.proofs.lemmas.List.Elements.{All-take}
use Rattle.std.specs.declared.alloc.Global.{Global}
use Rattle.rtrb.specs.Ring as port
use Rattle.rtrb.specs.declared.producer.Producer.{Producer}
use Rattle.rtrb.specs.Fifo.{EachAllowed}
use Rattle.flow_messages.specs.declared.message.Msg.{Msg}
use Rattle.flow_messages.specs.declared.message.Item.TheVariants.{Int as IntItem}
use Rattle.flow_messages.specs.Contents.{int_messages}
use Rattle.flow_messages.specs.Signals.{signals, ended}
use Rattle.flow_messages.proofs.Signals.{ended-more, ended-nil, block-ended}
use Rattle.flow_messages.specs.declared.message.Kind.TheVariants.{Unit as UnitKind, Bool as BoolKind, Int as IntKind}
use Rattle.flow_messages.specs.Kinds.{TakesKind}
use Rattle.flow_messages.proofs.Fitting.{takes_own}
use Rattle.flow_words.specs.declared.ring.ClosingUnits.{ClosingUnits}
use Rattle.flow_words.specs.declared.ring.ClosingFlags.{ClosingFlags}
use Rattle.flow_words.specs.declared.ring.ClosingInts.{ClosingInts}
use Rattle.flow_words.specs.declared.ring.WriterWords.{WriterWords}
use Rattle.flow_words.specs.declared.ring.WriterWords.TheVariants.{Units as UnitsTo, Flags as FlagsTo, Ints as IntsTo}
use Rattle.flow_words.specs.declared.words.UnitWord.{UnitWord}
use Rattle.flow_words.specs.declared.words.FlagWord.{FlagWord}
use Rattle.flow_words.specs.declared.words.Group.{Group}
use Rattle.flow_words.specs.declared.words.Group.TheVariants.{None as NoGroup}
use Rattle.flow_words.specs.Words.{is_escape, each_said, ints_said, ints_sent, group_after, Spells, ArePlain}
use Rattle.flow_words.proofs.Said.{said-append, after-append, plain_said, plain_after}
use Rattle.flow_words.specs.Ring.{SameProducer, places_of_a_message, writer_kind}
use Rattle.flow_words.proofs.Lists.{ended_take}
use Rattle.flow_words.proofs.Taking.{which_same}

-- words without an end may follow words without an end
pub singles_follow : {W : Type 0} (word : W → Msg) (before ws : List W) → ended (signals (each_said word before)) ≡ false → ended (signals (each_said word ws)) ≡ false
    → EachAllowed (λ xs _. ended (signals (each_said word xs)) ≡ false) before ws
singles_follow word before ws free no_end i d low = ap (λ (ms : List Msg). ended (signals ms)) (map-append word before (take i ws))
    ∙ ended-more (each_said word before) (each_said word (take i ws)) free ∙ ended_take word ws i no_end

-- what words say after whole groups
pub said_whole : (before ws : List ℤ) → group_after NoGroup before ≡ NoGroup → ints_sent (before ++ ws) ≡ ints_sent before ++ ints_sent ws
said_whole before ws whole = said-append NoGroup before ws ∙ ap (λ (g : Group). ints_sent before ++ ints_said g ws) whole

pub after_whole : (before ws all : List ℤ) → all ≡ before ++ ws → group_after NoGroup before ≡ NoGroup → group_after NoGroup ws ≡ NoGroup → group_after NoGroup all ≡ NoGroup
after_whole before ws all is whole more = ap (group_after NoGroup) is ∙ after-append NoGroup before ws ∙ ap (λ (g : Group). group_after g ws) whole ∙ more

open_whole : (before ws : List ℤ) → group_after NoGroup before ≡ NoGroup → ended (signals (ints_sent before)) ≡ false → ended (signals (ints_sent ws)) ≡ false
    → ended (signals (ints_sent (before ++ ws))) ≡ false
open_whole before ws whole free no_end = ap (λ (ms : List Msg). ended (signals ms)) (said_whole before ws whole) ∙ ended-more (ints_sent before) (ints_sent ws) free ∙ no_end

-- the words of one message may follow, each after those before it
pub spelled_follows : (before ws : List ℤ) (m : Msg) → group_after NoGroup before ≡ NoGroup → ended (signals (ints_sent before)) ≡ false → Spells ws m
    → EachAllowed (λ xs _. ended (signals (ints_sent xs)) ≡ false) before ws
spelled_follows before ws m whole free spells i d low = open_whole before (take i ws) whole free (ap (λ (ms : List Msg). ended (signals ms)) (spells.2 i low) ∙ ended-nil)

-- and so may plain words
pub plain_follows : (before ws : List ℤ) → group_after NoGroup before ≡ NoGroup → ended (signals (ints_sent before)) ≡ false → ArePlain ws
    → EachAllowed (λ xs _. ended (signals (ints_sent xs)) ≡ false) before ws
plain_follows before ws whole free plain i d low =
    let part = take i ws in
    open_whole before part whole free (ap (λ (ms : List Msg). ended (signals ms)) (plain_said part (All-take (λ w. is_escape w ≡ false) i ws plain)) ∙ block-ended (λ n. IntItem n) part)

pub put_plain : (before ws all : List ℤ) → all ≡ before ++ ws → group_after NoGroup before ≡ NoGroup → ArePlain ws
    → (ints_sent all ≡ ints_sent before ++ int_messages ws) × (group_after NoGroup all ≡ NoGroup)
put_plain before ws all is whole plain = (
  ap ints_sent is ∙ said_whole before ws whole ∙ ap (λ (ms : List Msg). ints_sent before ++ ms) (plain_said ws plain),
  after_whole before ws all is whole (plain_after ws plain),
)

pub put_spelled : (before ws all : List ℤ) (m : Msg) → all ≡ before ++ ws → group_after NoGroup before ≡ NoGroup → Spells ws m
    → (ints_sent all ≡ ints_sent before ++ m ∷ []) × (group_after NoGroup all ≡ NoGroup)
put_spelled before ws all m is whole spells = (
  ap ints_sent is ∙ said_whole before ws whole ∙ ap (λ (ms : List Msg). ints_sent before ++ ms) spells.0,
  after_whole before ws all is whole spells.1,
)

-- the same ring, over two calls
pub same_producer : {T P : Type 0} (a b c : Producer T Global P) → port.SameProducer a b → port.SameProducer b c → port.SameProducer a c
same_producer a b c p q = ((q.0.0 ∙ p.0.0, q.0.1 ∙ p.0.1, q.0.2 ∙ p.0.2, q.0.3 ∙ p.0.3), q.1 ∙ p.1)

-- the same ring of integers, as one of words
pub same_ints : (a b : Producer ℤ Global ClosingInts) → port.SameProducer a b → SameProducer (IntsTo a) (IntsTo b)
same_ints a b s = (which_same IntKind a.end b.end s.0, ap (λ n. n / places_of_a_message) s.1)

-- the words of a message were put, or none
pub spelled_whole : (r : Bool) (before ws all : List ℤ) (m : Msg) → (r ≡ true → all ≡ before ++ ws) → (r ≡ false → all ≡ before) → group_after NoGroup before ≡ NoGroup
    → Spells ws m → group_after NoGroup all ≡ NoGroup
spelled_whole true before ws all m done full whole spells = (put_spelled before ws all m (done refl) whole spells).1
spelled_whole false before ws all m done full whole spells = ap (group_after NoGroup) (full refl) ∙ whole

-- a ring that takes items of a kind is one of that kind
pub not_units : (r : WriterWords) → TakesKind (Some (writer_kind r)) UnitKind → ((p : Producer UnitWord Global ClosingUnits) → r ≡ UnitsTo p → ⊥) → ⊥
not_units (UnitsTo p) takes other = other p refl
not_units (FlagsTo p) takes other = let is = (takes_own BoolKind UnitKind).0 takes in cc
not_units (IntsTo p) takes other = let is = (takes_own IntKind UnitKind).0 takes in cc

pub not_flags : (r : WriterWords) → TakesKind (Some (writer_kind r)) BoolKind → ((p : Producer FlagWord Global ClosingFlags) → r ≡ FlagsTo p → ⊥) → ⊥
not_flags (UnitsTo p) takes other = let is = (takes_own UnitKind BoolKind).0 takes in cc
not_flags (FlagsTo p) takes other = other p refl
not_flags (IntsTo p) takes other = let is = (takes_own IntKind BoolKind).0 takes in cc

pub not_ints : (r : WriterWords) → TakesKind (Some (writer_kind r)) IntKind → ((p : Producer ℤ Global ClosingInts) → r ≡ IntsTo p → ⊥) → ⊥
not_ints (UnitsTo p) takes other = let is = (takes_own UnitKind IntKind).0 takes in cc
not_ints (FlagsTo p) takes other = let is = (takes_own BoolKind IntKind).0 takes in cc
not_ints (IntsTo p) takes other = other p refl
