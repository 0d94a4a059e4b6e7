-- What one word more says and leaves.
use Rattle.std.proofs.Common.{◌≡◌, ◌==◌, ℕ, ◌+◌, ◌<◌, ◌≤◌, ℤ, Bool, true, false, List, [], ◌∷◌, ◌++◌, length, take, drop, get_or, refl, sym, ap, ◌∙◌, arith, add-one, length-append}
use Rattle.std.proofs.lemmas.Bool.{eqb-true}
use Rattle.std.proofs.lemmas.List.{take-append-drop, length-take}
use Rattle.std.proofs.Math.Seq.{take-suc}
use Rattle.std.specs.declared.alloc.Global.{Global}
use Rattle.rtrb.specs.Ring as port
use Rattle.rtrb.specs.declared.consumer.Consumer.{Consumer}
use Rattle.flow_messages.specs.Stores.{content_of}
use Rattle.flow_boxes.specs.declared.inbox.Inbox.{Inbox}
use Rattle.flow_boxes.specs.Coming.{HasCome}
use Rattle.flow_words.specs.declared.words.Group.{Group}
use Rattle.flow_words.specs.Words.{ints_said, group_after}
use Rattle.flow_words.proofs.Said.{said-append, after-append}
use Rattle.flow_words.proofs.Groups.{said_short}
use Rattle.flow_words.proofs.Coming.{come_as, come_more, come_length}

-- the part that ends with the word at i
pub part_next : (ws : List ℤ) (i : ℕ) (d : ℤ) → i < length ws → take (i + 1) ws ≡ take i ws ++ get_or ws i d ∷ []
part_next ws i d low = ap (λ k. take k ws) (add-one i) ∙ take-suc ws i d low

module _ (g now next : Group) (ws : List ℤ) (i : ℕ) (x : ℤ) (part : take (i + 1) ws ≡ take i ws ++ x ∷ []) (so_far : now ≡ group_after g (take i ws)) where
  pub said_more : ints_said g (take (i + 1) ws) ≡ ints_said g (take i ws) ++ ints_said now (x ∷ [])
  said_more = ap (ints_said g) part ∙ said-append g (take i ws) (x ∷ []) ∙ ap (λ h. ints_said g (take i ws) ++ ints_said h (x ∷ [])) (sym so_far)

  pub group_next : next ≡ group_after now (x ∷ []) → next ≡ group_after g (take (i + 1) ws)
  group_next is = is ∙ ap (λ h. group_after h (x ∷ [])) so_far ∙ sym (after-append g (take i ws) (x ∷ [])) ∙ ap (group_after g) (sym part)

  pub come_next : (a b c : Inbox) → HasCome (ints_said g (take i ws)) a b → HasCome (ints_said now (x ∷ [])) b c → HasCome (ints_said g (take (i + 1) ws)) a c
  come_next a b c before one = come_as _ _ a c (sym said_more) (come_more _ _ a b c before one)

  -- it says no more than all words do
  pub room_left : length (ints_said g (take i ws)) + length (ints_said now (x ∷ [])) ≤ length (ints_said g ws)
  room_left =
      let first = ints_said g (take (i + 1) ws) in
      let last = ints_said (group_after g (take (i + 1) ws)) (drop (i + 1) ws) in
      let whole : ints_said g ws ≡ first ++ last = ap (ints_said g) (sym (take-append-drop (i + 1) ws)) ∙ said-append g (take (i + 1) ws) (drop (i + 1) ws) in
      omega (arith, ap length whole, length-append first last, ap length said_more, length-append (ints_said g (take i ws)) (ints_said now (x ∷ [])))

-- the same ring, over two calls
pub same_consumer : {T P : Type 0} (a b c : Consumer T Global P) → port.SameConsumer a b → port.SameConsumer b c → port.SameConsumer a c
same_consumer a b c p q = ((q.0.0 ∙ p.0.0, q.0.1 ∙ p.0.1, q.0.2 ∙ p.0.2, q.0.3 ∙ p.0.3), q.1 ∙ p.1)

-- a list of none is empty
pub no_length : {X : Type 0} (xs : List X) → length xs ≡ 0 → xs ≡ []
no_length [] none = refl
no_length (x ∷ xs) none = absurd (omega (arith, none))

-- what a test for an empty slice tells
pub some_there : {X : Type 0} (xs : List X) (b : Bool) → b ≡ (length xs == 0) → b ≡ false → 0 < length xs
some_there [] b is free = absurd (let no : true ≡ false = sym is ∙ free in cc)
some_there (x ∷ xs) b is free = omega arith

pub none_is : {X : Type 0} (xs : List X) (b : Bool) → b ≡ (length xs == 0) → b ≡ true → xs ≡ []
none_is xs b is none = no_length xs (eqb-true (length xs) 0 (sym is ∙ none))

-- a word more has a place
pub room_for_word : (g now : Group) (ws : List ℤ) (i : ℕ) (x : ℤ) (a b : Inbox) → i < length ws → HasCome (ints_said g (take i ws)) a b
    → length (content_of a.store) + length ws ≤ a.store.capacity → length (content_of b.store) + length (ints_said now (x ∷ [])) ≤ b.store.capacity
room_for_word g now ws i x a b low come room =
    let one : length (ints_said now (x ∷ [])) ≤ 1 = said_short now (x ∷ []) in
    omega (arith, one, low, room, come_length (ints_said g (take i ws)) a b come, come.capacity, said_short g (take i ws), length-take i ws)

-- where none is held, there is a place
pub room_for_one : (now : Group) (x : ℤ) (b : Inbox) → content_of b.store ≡ [] → 0 < b.store.capacity → length (content_of b.store) + length (ints_said now (x ∷ [])) ≤ b.store.capacity
room_for_one now x b none some =
    let one : length (ints_said now (x ∷ [])) ≤ 1 = said_short now (x ∷ []) in
    let held : length (content_of b.store) ≡ 0 = ap length none in
    omega (arith, one, held, some)
