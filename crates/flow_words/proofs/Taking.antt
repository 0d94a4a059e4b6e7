-- What came over a ring.
use Rattle.std.proofs.Common.{◌≡◌, false, ℤ, List, [], ◌∷◌, ◌++◌, length, refl, sym, ap, ◌∙◌, subst, arith, append_assoc, append-nil}
use Rattle.std.specs.declared.alloc.Global.{Global}
use mathlib.Core.List.{IsPrefix}
use Rattle.rtrb.specs.Ring as port
use Rattle.rtrb.specs.Fifo.{Allowed}
use Rattle.rtrb.specs.Ends.{SameRing}
use Rattle.rtrb.specs.declared.end.End.{End}
use Rattle.rtrb.specs.declared.consumer.Consumer.{Consumer}
use Rattle.flow_messages.specs.declared.message.Kind.{Kind}
use Rattle.flow_messages.specs.declared.message.Kind.TheVariants.{Unit as UnitKind, Bool as BoolKind, Int as IntKind}
use Rattle.flow_messages.specs.declared.message.Msg.{Msg}
use Rattle.flow_messages.specs.Signals.{signals, ended, orderly}
use Rattle.flow_messages.proofs.Blocks.{prefix_then}
use Rattle.flow_boxes.specs.declared.inbox.Inbox.{Inbox}
use Rattle.flow_boxes.specs.Coming.{HasCome}
use Rattle.flow_words.specs.declared.words.UnitWord.{UnitWord}
use Rattle.flow_words.specs.declared.words.FlagWord.{FlagWord}
use Rattle.flow_words.specs.declared.words.Group.{Group}
use Rattle.flow_words.specs.declared.words.Group.TheVariants.{None as NoGroup}
use Rattle.flow_words.specs.declared.ring.ClosingUnits.{ClosingUnits}
use Rattle.flow_words.specs.declared.ring.ClosingFlags.{ClosingFlags}
use Rattle.flow_words.specs.declared.ring.ClosingInts.{ClosingInts}
use Rattle.flow_words.specs.declared.ring.ReaderWords.{ReaderWords}
use Rattle.flow_words.specs.declared.ring.ReaderWords.TheVariants.{Units as UnitsFrom, Flags as FlagsFrom, Ints as IntsFrom}
use Rattle.flow_words.specs.Words.{unit_word, flag_word, each_said, ints_said, ints_sent, group_after}
use Rattle.flow_words.specs.Ring.{Which, place, TakesOver, received, known_items, half_taken}
use Rattle.flow_words.proofs.Said.{said-append, after-append, said-nil}
use Rattle.flow_words.proofs.Groups.{nothing_left}
use Rattle.flow_words.proofs.Lists.{said_grown, prefix_said}
use Rattle.flow_words.proofs.Coming.{come_none, come_as, come_more}
use Rattle.flow_words.proofs.InTurn.{singles_orderly, ints_orderly}

-- the same ring, seen from an end of it
pub which_same : {T P : Type 0} (k : Kind) (a b : End T Global P) → SameRing a b → ◌≡◌ {A = Which} (k, place b) (k, place a)
which_same k a b s = λ i. (k, ((s.0 i, s.1 i), (s.2 i, s.3 i)))

pub units_took : (a b : Consumer UnitWord Global ClosingUnits) (ws : List UnitWord) (i j : Inbox) → port.SameConsumer a b → port.received b ≡ port.received a ++ ws
    → IsPrefix (port.known_items a) (ws ++ port.known_items b) → Allowed (λ xs _. ended (signals (each_said unit_word xs)) ≡ false) (port.received a) ws
    → HasCome (each_said unit_word ws) i j → TakesOver (each_said unit_word ws) (UnitsFrom a) (UnitsFrom b) i j
units_took a b ws i j same taken known all come = record {
  same = which_same UnitKind a.end b.end same.0;
  come = come;
  taken = said_grown unit_word (port.received a) ws (port.received b) taken;
  known = prefix_said unit_word (port.known_items a) ws (port.known_items b) known;
  orderly = λ was. ap (λ (l : List UnitWord). orderly (signals (each_said unit_word l))) taken ∙ singles_orderly unit_word (port.received a) ws all was;
}

pub flags_took : (a b : Consumer FlagWord Global ClosingFlags) (ws : List FlagWord) (i j : Inbox) → port.SameConsumer a b → port.received b ≡ port.received a ++ ws
    → IsPrefix (port.known_items a) (ws ++ port.known_items b) → Allowed (λ xs _. ended (signals (each_said flag_word xs)) ≡ false) (port.received a) ws
    → HasCome (each_said flag_word ws) i j → TakesOver (each_said flag_word ws) (FlagsFrom a) (FlagsFrom b) i j
flags_took a b ws i j same taken known all come = record {
  same = which_same BoolKind a.end b.end same.0;
  come = come;
  taken = said_grown flag_word (port.received a) ws (port.received b) taken;
  known = prefix_said flag_word (port.known_items a) ws (port.known_items b) known;
  orderly = λ was. ap (λ (l : List FlagWord). orderly (signals (each_said flag_word l))) taken ∙ singles_orderly flag_word (port.received a) ws all was;
}

-- how much of a group has come after more words
pub half_grown : (r s ws : List ℤ) (g : Group) → s ≡ r ++ ws → g ≡ group_after NoGroup r → group_after g ws ≡ group_after NoGroup s
half_grown r s ws g is half = ap (λ h. group_after h ws) half ∙ sym (after-append NoGroup r ws) ∙ ap (group_after NoGroup) (sym is)

pub said_further : (r s ws : List ℤ) (g : Group) → s ≡ r ++ ws → g ≡ group_after NoGroup r → ints_sent s ≡ ints_sent r ++ ints_said g ws
said_further r s ws g is half = ap ints_sent is ∙ said-append NoGroup r ws ∙ ap (λ h. ints_sent r ++ ints_said h ws) (sym half)

known_further : (r s ws k l : List ℤ) (g : Group) → s ≡ r ++ ws → g ≡ group_after NoGroup r → IsPrefix k (ws ++ l)
    → IsPrefix (ints_said (group_after NoGroup r) k) (ints_said g ws ++ ints_said (group_after NoGroup s) l)
known_further r s ws k l g is half p = (
  ints_said (group_after (group_after NoGroup r) k) p.0,
  sym (said-append (group_after NoGroup r) k p.0) ∙ ap (λ (xs : List ℤ). ints_said (group_after NoGroup r) xs) p.1
      ∙ ap (λ h. ints_said h (ws ++ l)) (sym half) ∙ said-append g ws l ∙ ap (λ h. ints_said g ws ++ ints_said h l) (half_grown r s ws g is half),
)

pub ints_took : (a b : Consumer ℤ Global ClosingInts) (ws : List ℤ) (g : Group) (i j : Inbox) → g ≡ half_taken (IntsFrom a) → port.SameConsumer a b
    → port.received b ≡ port.received a ++ ws → IsPrefix (port.known_items a) (ws ++ port.known_items b)
    → Allowed (λ xs _. ended (signals (ints_sent xs)) ≡ false) (port.received a) ws → HasCome (ints_said g ws) i j → TakesOver (ints_said g ws) (IntsFrom a) (IntsFrom b) i j
ints_took a b ws g i j half same taken known all come = record {
  same = which_same IntKind a.end b.end same.0;
  come = come;
  taken = said_further (port.received a) (port.received b) ws g taken half;
  known = known_further (port.received a) (port.received b) ws (port.known_items a) (port.known_items b) g taken half known;
  orderly = λ was. ap (λ (l : List ℤ). orderly (signals (ints_sent l))) taken ∙ ints_orderly (port.received a) ws all was;
}

pub takes_none : (a : ReaderWords) (i : Inbox) → TakesOver [] a a i i
takes_none a i = record { same = refl; come = come_none i; taken = sym (append-nil (received a)); known = ([], append-nil (known_items a)); orderly = λ was. was }

pub takes_more : (ms ns : List Msg) (a b c : ReaderWords) (i j k : Inbox) → TakesOver ms a b i j → TakesOver ns b c j k → TakesOver (ms ++ ns) a c i k
takes_more ms ns a b c i j k p q = record {
  same = q.same ∙ p.same;
  come = come_more ms ns i j k p.come q.come;
  taken = q.taken ∙ ap (λ l. l ++ ns) p.taken ∙ append_assoc (received a) ms ns;
  known = (
    p.known.0 ++ q.known.0,
    sym (append_assoc (known_items a) p.known.0 q.known.0) ∙ ap (λ l. l ++ q.known.0) p.known.1 ∙ append_assoc ms (known_items b) q.known.0
        ∙ ap (λ l. ms ++ l) q.known.1 ∙ sym (append_assoc ms ns (known_items c)),
  );
  orderly = λ was. q.orderly (p.orderly was);
}

-- one more was allowed after those before it
pub allowed_snoc : {X : Type 0} (allows : List X → X → Type 0) (before xs : List X) (x : X) → Allowed allows before xs → allows (before ++ xs) x → Allowed allows before (xs ++ x ∷ [])
allowed_snoc allows before [] x all one = (subst (λ l. allows l x) (append-nil before) one, tt)
allowed_snoc allows before (y ∷ xs) x all one = (all.0, allowed_snoc allows (before ++ y ∷ []) xs x all.1 (subst (λ l. allows l x) (sym (append_assoc before (y ∷ []) xs)) one))

-- where none is known, none is
pub none_known : (g : Group) (k : List ℤ) → length k ≡ 0 → ints_said g k ≡ []
none_known g [] none = said-nil g
none_known g (w ∷ k) none = absurd (omega (arith, none))

-- nothing was taken, since there was none
pub ints_none : (a b : Consumer ℤ Global ClosingInts) (i : Inbox) → port.SameConsumer a b → port.received b ≡ port.received a → port.known_items a ≡ [] → TakesOver [] (IntsFrom a) (IntsFrom b) i i
ints_none a b i same taken none =
    let g = group_after NoGroup (port.received a) in
    let known : IsPrefix (port.known_items a) ([] ++ port.known_items b) = (port.known_items b, ap (λ l. l ++ port.known_items b) none) in
    subst (λ ms. TakesOver ms (IntsFrom a) (IntsFrom b) i i) (said-nil g)
    (ints_took a b [] g i i refl same (taken ∙ sym (append-nil (port.received a))) known tt (come_as [] (ints_said g []) i i (sym (said-nil g)) (come_none i)))

-- what was known still is
pub ints_looked : (r s k l : List ℤ) → s ≡ r → IsPrefix k l → IsPrefix (ints_said (group_after NoGroup r) k) (ints_said (group_after NoGroup s) l)
ints_looked r s k l same p = (
  ints_said (group_after (group_after NoGroup r) k) p.0,
  sym (said-append (group_after NoGroup r) k p.0) ∙ ap (ints_said (group_after NoGroup r)) p.1 ∙ ap (λ xs. ints_said (group_after NoGroup xs) l) (sym same),
)

-- a ring of whole groups that holds no message holds no word
pub ints_empty : (r k s : List ℤ) → r ++ k ≡ s → group_after NoGroup s ≡ NoGroup → ints_said (group_after NoGroup r) k ≡ [] → length k ≡ 0
ints_empty r k s fifo whole none = ap length (nothing_left (group_after NoGroup r) k none (sym (after-append NoGroup r k) ∙ ap (group_after NoGroup) fifo ∙ whole)).1

-- the same ring after a look
pub same_after_look : {W P : Type 0} (a b c : Consumer W Global P) → port.ConsumerLooked a b → port.SameConsumer b c → port.SameConsumer a c
same_after_look a b c looked same = (
  (same.0.0 ∙ looked.0.0.0, same.0.1 ∙ looked.0.0.1, same.0.2 ∙ looked.0.0.2, same.0.3 ∙ looked.0.0.3),
  same.1 ∙ looked.0.1,
)

-- a look that found nothing brings nothing
pub no_unit_came : (a b : Consumer UnitWord Global ClosingUnits) (i : Inbox) → port.ConsumerLooked a b → TakesOver [] (UnitsFrom a) (UnitsFrom b) i i
no_unit_came a b i looked = units_took a b [] i i looked.0 (looked.1 ∙ sym (append-nil (port.received a))) looked.2 tt (come_none i)

pub no_flag_came : (a b : Consumer FlagWord Global ClosingFlags) (i : Inbox) → port.ConsumerLooked a b → TakesOver [] (FlagsFrom a) (FlagsFrom b) i i
no_flag_came a b i looked = flags_took a b [] i i looked.0 (looked.1 ∙ sym (append-nil (port.received a))) looked.2 tt (come_none i)

-- what came after a look
pub units_took_later : (a b c : Consumer UnitWord Global ClosingUnits) (ws : List UnitWord) (i j : Inbox) → port.ConsumerLooked a b → port.SameConsumer b c
    → port.received c ≡ port.received b ++ ws → IsPrefix (port.known_items b) (ws ++ port.known_items c)
    → Allowed (λ xs _. ended (signals (each_said unit_word xs)) ≡ false) (port.received b) ws → HasCome (each_said unit_word ws) i j
    → TakesOver (each_said unit_word ws) (UnitsFrom a) (UnitsFrom c) i j
units_took_later a b c ws i j looked same taken known all come =
    units_took a c ws i j (same_after_look a b c looked same) (taken ∙ ap (λ l. l ++ ws) looked.1)
    (prefix_then (port.known_items a) (port.known_items b) (ws ++ port.known_items c) looked.2 known)
    (subst (λ l. Allowed (λ xs _. ended (signals (each_said unit_word xs)) ≡ false) l ws) looked.1 all) come

pub flags_took_later : (a b c : Consumer FlagWord Global ClosingFlags) (ws : List FlagWord) (i j : Inbox) → port.ConsumerLooked a b → port.SameConsumer b c
    → port.received c ≡ port.received b ++ ws → IsPrefix (port.known_items b) (ws ++ port.known_items c)
    → Allowed (λ xs _. ended (signals (each_said flag_word xs)) ≡ false) (port.received b) ws → HasCome (each_said flag_word ws) i j
    → TakesOver (each_said flag_word ws) (FlagsFrom a) (FlagsFrom c) i j
flags_took_later a b c ws i j looked same taken known all come =
    flags_took a c ws i j (same_after_look a b c looked same) (taken ∙ ap (λ l. l ++ ws) looked.1)
    (prefix_then (port.known_items a) (port.known_items b) (ws ++ port.known_items c) looked.2 known)
    (subst (λ l. Allowed (λ xs _. ended (signals (each_said flag_word xs)) ≡ false) l ws) looked.1 all) come
