-- What words say, one or more later.
use Rattle.std.proofs.Common.{◌≡◌, ℕ, zero, suc, ◌+◌, ◌-◌, ◌<◌, ◌≤◌, false, Bool, List, [], ◌∷◌, ◌++◌, length, take, drop, set, get_or, replicate, refl, sym, ap, ◌∙◌}
use Rattle.std.proofs.Common.{arith, add-one, cond, true}
use Rattle.std.proofs.Math.Seq.{take-suc, take-add}
use Rattle.std.proofs.lemmas.List.{map-append, take-append-drop, take_more_set, replicate-append-replicate}
use Rattle.std.specs.List.{slice_range}
use mathlib.Core.List.{IsPrefix}
use Rattle.flow_messages.specs.declared.message.Msg.{Msg}
use Rattle.flow_messages.specs.declared.message.Msg.TheVariants.{Item as ItemMsg, End as EndMsg}
use Rattle.flow_messages.specs.declared.message.Item.TheVariants.{Unit as UnitItem, Bool as BoolItem}
use Rattle.flow_messages.specs.Contents.{unit_messages, flag_messages}
use Rattle.flow_messages.specs.Signals.{signals, ended}
use Rattle.flow_words.specs.declared.words.UnitWord.{UnitWord}
use Rattle.flow_words.specs.declared.words.UnitWord.TheVariants.{Unit as AUnit}
use Rattle.flow_words.specs.declared.words.FlagWord.{FlagWord}
use Rattle.flow_words.specs.Words.{unit_word, flag_word, each_said}
use Rattle.flow_words.specs.Edge.{followed_unless_ended}

module _ {W : Type 0} (word : W → Msg) where
  pub said_grown : (xs ys zs : List W) → zs ≡ xs ++ ys → each_said word zs ≡ each_said word xs ++ each_said word ys
  said_grown xs ys zs is = ap (each_said word) is ∙ map-append word xs ys

  -- one word more
  pub said_snoc : (xs zs : List W) (w : W) (m : Msg) → zs ≡ xs ++ w ∷ [] → word w ≡ m → each_said word zs ≡ each_said word xs ++ m ∷ []
  said_snoc xs zs w m is said = said_grown xs (w ∷ []) zs is ∙ ap (λ n. each_said word xs ++ n ∷ []) said

  pub said_next : (ws : List W) (i : ℕ) (d : W) → i < length ws → each_said word (take (i + 1) ws) ≡ each_said word (take i ws) ++ word (get_or ws i d) ∷ []
  said_next ws i d low = ap (λ k. each_said word (take k ws)) (add-one i) ∙ ap (each_said word) (take-suc ws i d low) ∙ map-append word (take i ws) (get_or ws i d ∷ [])

  pub prefix_said : (k ws l : List W) → IsPrefix k (ws ++ l) → IsPrefix (each_said word k) (each_said word ws ++ each_said word l)
  prefix_said k ws l p = (each_said word p.0, sym (map-append word k p.0) ∙ ap (each_said word) p.1 ∙ map-append word ws l)

-- a part of a list without an end has none
pub ended_part : (ms ns : List Msg) → ended (signals (ms ++ ns)) ≡ false → ended (signals ms) ≡ false
unfolding signals ended
ended_part [] ns free = refl
ended_part (ItemMsg x ∷ ms) ns free = ended_part ms ns free
ended_part (EndMsg ∷ ms) ns free = cc

pub open_first : (ms : List Msg) (i : ℕ) → ended (signals ms) ≡ false → ended (signals (take i ms)) ≡ false
open_first ms i free = ended_part (take i ms) (drop i ms) (ap (λ (l : List Msg). ended (signals l)) (take-append-drop i ms) ∙ free)

pub ended_take : {W : Type 0} (word : W → Msg) (ws : List W) (i : ℕ) → ended (signals (each_said word ws)) ≡ false → ended (signals (each_said word (take i ws))) ≡ false
ended_take word ws i free = ended_part (each_said word (take i ws)) (each_said word (drop i ws)) (ap (λ (ms : List Msg). ended (signals ms)) (sym (map-append word (take i ws)
    (drop i ws)) ∙ ap (each_said word) (take-append-drop i ws)) ∙ free)

-- the first of some units
pub units_said : (n k : ℕ) → n ≤ k → each_said unit_word (take n (replicate k AUnit)) ≡ unit_messages n
units_said zero k low = refl
units_said (suc n) zero low = absurd (omega (arith, low))
units_said (suc n) (suc k) low = ap (λ l. ItemMsg UnitItem ∷ l) (units_said n k (omega (arith, low)))

-- a truth value more
pub flags_next : (bs : List Bool) (i : ℕ) (d : Bool) → i < length bs → flag_messages (take (i + 1) bs) ≡ flag_messages (take i bs) ++ ItemMsg (BoolItem (get_or bs i d)) ∷ []
flags_next bs i d low = ap (λ k. flag_messages (take k bs)) (add-one i) ∙ ap flag_messages (take-suc bs i d low) ∙ map-append (λ b. ItemMsg (BoolItem b)) (take i bs) (get_or bs i d ∷ [])

-- a place of a block more
pub laid_next : (words : List FlagWord) (bs : List Bool) (i : ℕ) (w : FlagWord) (d : Bool) → i < length words → i < length bs
    → each_said flag_word (take i words) ≡ flag_messages (take i bs) → flag_word w ≡ ItemMsg (BoolItem (get_or bs i d))
    → each_said flag_word (take (i + 1) (set words i w)) ≡ flag_messages (take (i + 1) bs)
laid_next words bs i w d place there is said =
    ap (each_said flag_word) (take_more_set words i w place) ∙ map-append flag_word (take i words) (w ∷ []) ∙ ap (λ l. l ++ flag_word w ∷ []) is
    ∙ ap (λ m. flag_messages (take i bs) ++ m ∷ []) said ∙ sym (flags_next bs i d there)

pub read_next : (words : List FlagWord) (bs : List Bool) (i : ℕ) (b : Bool) (d : FlagWord) → i < length words → i < length bs
    → each_said flag_word (take i words) ≡ flag_messages (take i bs) → flag_word (get_or words i d) ≡ ItemMsg (BoolItem b)
    → each_said flag_word (take (i + 1) words) ≡ flag_messages (take (i + 1) (set bs i b))
read_next words bs i b d low place is said =
    said_next flag_word words i d low ∙ ap (λ l. l ++ flag_word (get_or words i d) ∷ []) is ∙ ap (λ m. flag_messages (take i bs) ++ m ∷ []) said
    ∙ sym (ap flag_messages (take_more_set bs i b place) ∙ map-append (λ x. ItemMsg (BoolItem x)) (take i bs) (b ∷ []))

pub units_next : (ws : List UnitWord) (i : ℕ) (d : UnitWord) → i < length ws → each_said unit_word (take i ws) ≡ unit_messages i → unit_word (get_or ws i d) ≡ ItemMsg UnitItem
    → each_said unit_word (take (i + 1) ws) ≡ unit_messages (i + 1)
units_next ws i d low is one = said_next unit_word ws i d low ∙ ap (λ l. l ++ unit_word (get_or ws i d) ∷ []) is ∙ ap (λ m. unit_messages i ++ m ∷ []) one
    ∙ replicate-append-replicate i 1 (ItemMsg UnitItem)

-- truth values further
pub flags_further : (bs : List Bool) (i n : ℕ) → flag_messages (take i bs) ++ flag_messages (slice_range bs i (i + n)) ≡ flag_messages (take (i + n) bs)
flags_further bs i n =
    let so_many : (i + n) - i ≡ n = omega arith in
    ap (λ k. flag_messages (take i bs) ++ flag_messages (take k (drop i bs))) so_many ∙ sym (map-append (λ b. ItemMsg (BoolItem b)) (take i bs) (take n (drop i bs)))
    ∙ ap flag_messages (sym (take-add i n bs))

-- what a put leaves where an end was put, and where none was
pub followed_shut : (before ms : List Msg) → ended (signals before) ≡ true → followed_unless_ended before ms ≡ before
followed_shut before ms shut = ap (λ b. cond b before (before ++ ms)) shut

pub followed_free : (before ms : List Msg) → ended (signals before) ≡ false → followed_unless_ended before ms ≡ before ++ ms
followed_free before ms free = ap (λ b. cond b before (before ++ ms)) free

-- the first of what is left is the next
pub popped : {X : Type 0} (xs : List X) (i : ℕ) (x : X) (rest : List X) → drop i xs ≡ x ∷ rest → (take (suc i) xs ≡ take i xs ++ x ∷ []) × (drop (suc i) xs ≡ rest)
popped [] zero x rest is = absurd (let no : 0 ≡ suc (length rest) = ap length is in omega arith)
popped [] (suc i) x rest is = absurd (let no : 0 ≡ suc (length rest) = ap length is in omega arith)
popped (y ∷ xs) zero x rest is = (ap (λ l. get_or l 0 x ∷ []) is, ap (drop 1) is)
popped (y ∷ xs) (suc i) x rest is = let more = popped xs i x rest is in (ap (λ l. y ∷ l) more.0, more.1)

-- where some would be no, none is there
pub none_there : {X : Type 0} (xs : List X) → (0 < length xs → ⊥) → xs ≡ []
none_there [] never = refl
none_there (x ∷ xs) never = absurd (never (omega arith))
