-- What may come into an inbox, where nothing in it follows the end of the stream.
use Rattle.std.proofs.Common.{◌≡◌, ℕ, suc, ◌<◌, ◌≤◌, Bool, true, false, ℤ, List, [], ◌∷◌, ◌++◌, length, take, drop, get_or, refl, sym, ap, ◌∙◌, arith, append_assoc, append-nil, drop-cons}
use Rattle.std.proofs.lemmas.List.{map-append, take-append-drop}
use Rattle.rtrb.specs.Fifo.{Allowed}
use Rattle.flow_messages.specs.declared.message.Msg.{Msg}
use Rattle.flow_messages.specs.declared.message.Msg.TheVariants.{Item as ItemMsg, End as EndMsg}
use Rattle.flow_messages.specs.declared.message.Kind.{Kind}
use Rattle.flow_messages.specs.declared.store.Store.{Store}
use Rattle.flow_messages.specs.Columns.{column_messages, content, ending}
use Rattle.flow_messages.specs.Kinds.{fits}
use Rattle.flow_messages.specs.Signals.{signals, signal_of, ended, has_end, orderly}
use Rattle.flow_messages.specs.Stores.{content_of, StoreTakes}
use Rattle.flow_messages.proofs.Signals.{ended-more, ended-rest, orderly-more, orderly-nil, orderly-snoc}
use Rattle.flow_words.specs.declared.words.Group.{Group}
use Rattle.flow_words.specs.declared.words.Group.TheVariants.{None as NoGroup}
use Rattle.flow_words.specs.Words.{each_said, ints_said, ints_sent, group_after}
use Rattle.flow_words.specs.Ring.{ClosesAtEnd}
use Rattle.flow_words.proofs.Said.{said-append, said-nil}
use Rattle.flow_words.proofs.Groups.{said_short}
use Rattle.flow_words.proofs.Lists.{ended_part}

-- Lists.

-- the first is false where it brings the second, which is
false_too : (b c : Bool) → (b ≡ true → c ≡ true) → c ≡ false → b ≡ false
false_too false c brings free = refl
false_too true c brings free = absurd (let yes = brings refl in cc)

-- a list without an end is orderly
pub open_orderly : (ms : List Msg) → has_end ms ≡ false → orderly (signals ms) ≡ true
open_orderly ms free = ap (λ (l : List Msg). orderly (signals l)) (sym (append-nil ms)) ∙ orderly-more ms [] free ∙ orderly-nil

-- before the last of an orderly list there is no end
pub open_before : (before : List Msg) (m : Msg) (after : List Msg) → orderly (signals (before ++ m ∷ after)) ≡ true → has_end before ≡ false
unfolding signals ended orderly
open_before [] m after h = refl
open_before (ItemMsg x ∷ before) m after h = open_before before m after h
open_before (EndMsg ∷ []) m after h = cc
open_before (EndMsg ∷ n ∷ before) m after h = cc

-- an end stays among all
ended_among : (before held : List Msg) → has_end held ≡ true → has_end (before ++ held) ≡ true
unfolding signals ended
ended_among [] held ends = ends
ended_among (ItemMsg x ∷ before) held ends = ended_among before held ends
ended_among (EndMsg ∷ before) held ends = refl

pub ended_later : (before held all : List Msg) → before ++ held ≡ all → has_end held ≡ true → has_end all ≡ true
ended_later before held all is ends = ap (λ (l : List Msg). has_end l) (sym is) ∙ ended_among before held ends

-- what comes first of an orderly list is orderly
orderly_part : (ms ns : List Msg) → orderly (signals (ms ++ ns)) ≡ true → orderly (signals ms) ≡ true
unfolding signals orderly
orderly_part [] ns h = refl
orderly_part (ItemMsg x ∷ ms) ns h = orderly_part ms ns h
orderly_part (EndMsg ∷ []) ns h = refl
orderly_part (EndMsg ∷ m ∷ ms) ns h = cc

-- a list without an end stays orderly with one message more, or none
orderly_short : (ms ns : List Msg) → length ns ≤ 1 → has_end ms ≡ false → orderly (signals (ms ++ ns)) ≡ true
orderly_short ms [] short free = ap (λ (l : List Msg). orderly (signals l)) (append-nil ms) ∙ open_orderly ms free
orderly_short ms (n ∷ []) short free = orderly-snoc ms n free
orderly_short ms (n ∷ m ∷ ns) short free = absurd (let no : suc (suc (length ns)) ≤ 1 = short in omega arith)

-- The same messages after two lists, where the first has an end only if the second has.
module _ (held came ms : List Msg) (brings : has_end held ≡ true → has_end came ≡ true) where
  -- where the second has none after them, the first has none
  pub open_after : has_end (came ++ ms) ≡ false → has_end (held ++ ms) ≡ false
  open_after free = ended-more held ms (false_too (has_end held) (has_end came) brings (ended_part came ms free)) ∙ ended-rest came ms free

  -- where they come in turn after the second, they do after the first
  pub orderly_after : has_end came ≡ false → orderly (signals (came ++ ms)) ≡ true → orderly (signals (held ++ ms)) ≡ true
  orderly_after free was = orderly-more held ms (false_too (has_end held) (has_end came) brings free) ∙ sym (orderly-more came ms free) ∙ was

-- what a store holds is orderly
ending_orderly : (ends : Bool) → orderly (signals (ending ends)) ≡ true
unfolding signals orderly
ending_orderly true = refl
ending_orderly false = refl

store_orderly : (s : Store) → orderly (signals (content_of s)) ≡ true
unfolding content
store_orderly s = orderly-more (column_messages s.column) (ending s.ends) s.items ∙ ending_orderly s.ends

none_more : (s : Store) (ms : List Msg) → ms ≡ [] → orderly (signals (content_of s ++ ms)) ≡ true
none_more s ms none = ap (λ (l : List Msg). orderly (signals (content_of s ++ l))) none ∙ ap (λ (l : List Msg). orderly (signals l)) (append-nil (content_of s)) ∙ store_orderly s

-- a store of a kind takes what fits it
pub of_kind : (k : Kind) (s : Store) (m : Msg) → s.kind ≡ k → fits k (signal_of m) ≡ true → StoreTakes s m
of_kind k s m is fit = ap (λ x. fits x (signal_of m)) is ∙ fit

-- before some that come in turn nothing ended
pub open_now : (held ms : List Msg) → 0 < length ms → orderly (signals (held ++ ms)) ≡ true → has_end held ≡ false
open_now held [] some was = absurd (omega (arith, some))
open_now held (m ∷ ms) some was = open_before held m ms was

-- Words that say a message each.
module _ {W : Type 0} (word : W → Msg) where
  -- what came where only what was free went on is orderly
  pub singles_orderly : (before ws : List W) → Allowed (λ xs _. has_end (each_said word xs) ≡ false) before ws → orderly (signals (each_said word before)) ≡ true
      → orderly (signals (each_said word (before ++ ws))) ≡ true
  singles_orderly before [] all was = ap (λ (l : List W). orderly (signals (each_said word l))) (append-nil before) ∙ was
  singles_orderly before (w ∷ ws) all was =
      let next = ap (λ (ms : List Msg). orderly (signals ms)) (map-append word before (w ∷ [])) ∙ orderly-snoc (each_said word before) (word w) all.0 in
      ap (λ (l : List W). orderly (signals (each_said word l))) (sym (append_assoc before (w ∷ []) ws)) ∙ singles_orderly (before ++ w ∷ []) ws all.1 next

  -- before the word at i of some that come in turn nothing ended
  pub open_at : (held : List Msg) (ws : List W) (i : ℕ) (d : W) → i < length ws → orderly (signals (held ++ each_said word ws)) ≡ true → has_end (held ++ each_said word (take i ws)) ≡ false
  open_at held ws i d low was =
      let first = each_said word (take i ws) in
      let rest = each_said word (drop (suc i) ws) in
      let parts : each_said word ws ≡ first ++ word (get_or ws i d) ∷ rest = ap (each_said word) (sym (take-append-drop i ws))
      ∙ map-append word (take i ws) (drop i ws) ∙ ap (λ (l : List W). first ++ each_said word l) (drop-cons ws i d low) in
      open_before (held ++ first) (word (get_or ws i d)) rest (ap (λ (l : List Msg). orderly (signals l)) (append_assoc held first (word (get_or ws i d) ∷ rest)
      ∙ ap (λ (l : List Msg). held ++ l) (sym parts)) ∙ was)

  module _ (allows : List W → W → Type 0) (closes : ClosesAtEnd word allows) where
    allowed_free : (before ws : List W) → Allowed allows before ws → Allowed (λ xs _. has_end (each_said word xs) ≡ false) before ws
    allowed_free before [] all = tt
    allowed_free before (w ∷ ws) all = (closes before w all.0, allowed_free (before ++ w ∷ []) ws all.1)

    -- what came where a rule lets nothing follow the end comes in turn into a store
    pub singles_in_turn : (s : Store) (before ws : List W) → (has_end (content_of s) ≡ true → has_end (each_said word before) ≡ true) → Allowed allows before ws
        → orderly (signals (content_of s ++ each_said word ws)) ≡ true
    singles_in_turn s before [] brings all = none_more s [] refl
    singles_in_turn s before (w ∷ ws) brings all =
        let free = closes before w all.0 in
        orderly_after (content_of s) (each_said word before) (each_said word (w ∷ ws)) brings free (ap (λ (ms : List Msg). orderly (signals ms)) (sym (map-append word before (w ∷ ws)))
        ∙ singles_orderly before (w ∷ ws) (allowed_free before (w ∷ ws) all) (open_orderly (each_said word before) free))

-- Words of integers.

-- what one word more says comes in turn where nothing ended
pub word_in_turn : (held : List Msg) (g : Group) (w : ℤ) → has_end held ≡ false → orderly (signals (held ++ ints_said g (w ∷ []))) ≡ true
word_in_turn held g w free = orderly_short held (ints_said g (w ∷ [])) (said_short g (w ∷ [])) free

pub ints_orderly : (before ws : List ℤ) → Allowed (λ xs _. has_end (ints_sent xs) ≡ false) before ws → orderly (signals (ints_sent before)) ≡ true
    → orderly (signals (ints_sent (before ++ ws))) ≡ true
ints_orderly before [] all was = ap (λ (l : List ℤ). orderly (signals (ints_sent l))) (append-nil before) ∙ was
ints_orderly before (w ∷ ws) all was =
    let next = ap (λ (ms : List Msg). orderly (signals ms)) (said-append NoGroup before (w ∷ [])) ∙ word_in_turn (ints_sent before) (group_after NoGroup before) w all.0 in
    ap (λ (l : List ℤ). orderly (signals (ints_sent l))) (sym (append_assoc before (w ∷ []) ws)) ∙ ints_orderly (before ++ w ∷ []) ws all.1 next

-- what came where nothing followed the end comes in turn into a store
pub ints_in_turn : (s : Store) (before ws : List ℤ) (g : Group) → g ≡ group_after NoGroup before → (has_end (content_of s) ≡ true → has_end (ints_sent before) ≡ true)
    → Allowed (λ xs _. has_end (ints_sent xs) ≡ false) before ws → orderly (signals (content_of s ++ ints_said g ws)) ≡ true
ints_in_turn s before [] g half brings all = none_more s (ints_said g []) (said-nil g)
ints_in_turn s before (w ∷ ws) g half brings all =
    let said = said-append NoGroup before (w ∷ ws) ∙ ap (λ h. ints_sent before ++ ints_said h (w ∷ ws)) (sym half) in
    orderly_after (content_of s) (ints_sent before) (ints_said g (w ∷ ws)) brings all.0 (ap (λ (ms : List Msg). orderly (signals ms)) (sym said)
    ∙ ints_orderly before (w ∷ ws) all (open_orderly (ints_sent before) all.0))

-- what some of the words say comes in turn, where what all say does
pub turn_part : (held : List Msg) (g : Group) (ws : List ℤ) (i : ℕ) → orderly (signals (held ++ ints_said g ws)) ≡ true → orderly (signals (held ++ ints_said g (take i ws))) ≡ true
turn_part held g ws i was =
    let first = ints_said g (take i ws) in
    let rest = ints_said (group_after g (take i ws)) (drop i ws) in
    let parts : ints_said g ws ≡ first ++ rest = ap (ints_said g) (sym (take-append-drop i ws)) ∙ said-append g (take i ws) (drop i ws) in
    orderly_part (held ++ first) rest (ap (λ (l : List Msg). orderly (signals l)) (append_assoc held first rest ∙ ap (λ (l : List Msg). held ++ l) (sym parts)) ∙ was)
