-- Lists of scalar messages.
use Rattle.std.proofs.Common.{◌≡◌, ℕ, zero, suc, ◌+◌, ◌<◌, true, false, List, [], ◌∷◌, ◌++◌, length, take, get_or, refl, sym, ap, ◌∙◌, arith}
use Rattle.std.proofs.lemmas.List.{map-append, length-map}
use Rattle.std.specs.List.{All}
use mathlib.Core.List.{IsPrefix}
use Rattle.rtrb.specs.Fifo.{Allowed, EachAllowed}
use Rattle.rtrb.specs.Ends.{SameRing}
use Rattle.rtrb.specs.declared.end.End.{End}
use Rattle.std.specs.declared.alloc.Global.{Global}
use Rattle.std.specs.Prelude.{◌-◌, Option, None, Result, Ok, Err, IfOk, slice_get}
use Rattle.flow_messages.specs.declared.message.Kind.{Kind}
use Rattle.flow_messages.specs.declared.message.Msg.{Msg}
use Rattle.flow_messages.specs.Signals.{signals, signal_of, is_stop, ended, orderly}
use Rattle.flow_messages.proofs.Signals.{ended-more, ended-snoc}
use Rattle.flow_messages.specs.declared.flat.Flat.{Flat}
use Rattle.flow_messages.specs.declared.flat.Flat.TheVariants.{Unit as UnitFlat, Bool as BoolFlat, Int as IntFlat, End as EndFlat}
use Rattle.flow_rings.specs.Ring.{Which, place}
use Rattle.flow_messages.specs.Kinds.{fits}
use Rattle.flow_messages.specs.Flats.{message_of, messages_of, MayBePut, is_scalar, scalar_first}

-- what stands for a message that fits may follow an unended list
pub may_follow : (k : Kind) (before : List Flat) (m : Msg) → ended (signals (messages_of before)) ≡ false → fits k (signal_of m) ≡ true → (x : Flat) → message_of x ≡ m → MayBePut k before x
may_follow k before m unended fit x is = (unended, ap (λ (n : Msg). fits k (signal_of n)) is ∙ fit)

-- in an orderly list no message but the last is an end
open_take : (xs : List Flat) (i : ℕ) → i < length xs → orderly (signals (messages_of xs)) ≡ true → ended (signals (messages_of (take i xs))) ≡ false
unfolding signals ended orderly
open_take [] i low h = absurd (omega (arith, low))
open_take (x ∷ xs) zero low h = refl
open_take (EndFlat ∷ []) (suc i) low h = let no : suc i < 1 = low in absurd (omega arith)
open_take (EndFlat ∷ y ∷ xs) (suc i) low h = cc
open_take (UnitFlat ∷ xs) (suc i) low h = let up : suc i < suc (length xs) = low in open_take xs i (omega arith) h
open_take (BoolFlat b ∷ xs) (suc i) low h = let up : suc i < suc (length xs) = low in open_take xs i (omega arith) h
open_take (IntFlat n ∷ xs) (suc i) low h = let up : suc i < suc (length xs) = low in open_take xs i (omega arith) h

-- each message of an orderly block that fits may follow
pub each_follows : (k : Kind) (before xs : List Flat) → ended (signals (messages_of before)) ≡ false →
    All (λ x. fits k (signal_of (message_of x)) ≡ true) xs → orderly (signals (messages_of xs)) ≡ true → EachAllowed (MayBePut k) before xs
each_follows k before xs unended fit last i d low = (
  ap (λ (ms : List Msg). ended (signals ms)) (map-append message_of before (take i xs)) ∙ ended-more (messages_of before) (messages_of (take i xs)) unended ∙ open_take xs i low last,
  fit i d low,
)

-- what followed fits
pub followed_fit : (k : Kind) (before xs : List Flat) → Allowed (MayBePut k) before xs → All (λ x. fits k (signal_of (message_of x)) ≡ true) xs
followed_fit k before [] all i d low = absurd (omega (arith, low))
followed_fit k before (x ∷ xs) all zero d low = all.0.1
followed_fit k before (x ∷ xs) all (suc i) d low = let up : suc i < suc (length xs) = low in followed_fit k (before ++ x ∷ []) xs all.1 i d (omega arith)

not_after : (before : List Flat) → ended (signals (messages_of before)) ≡ false → ended (signals (messages_of (before ++ EndFlat ∷ []))) ≡ true
not_after before unended = ap (λ (ms : List Msg). ended (signals ms)) (map-append message_of before (EndFlat ∷ [])) ∙ ended-snoc (messages_of before) (message_of EndFlat) unended

-- what followed has its end last
pub followed_last : (k : Kind) (before xs : List Flat) → Allowed (MayBePut k) before xs → orderly (signals (messages_of xs)) ≡ true
unfolding signals orderly
followed_last k before [] all = refl
followed_last k before (EndFlat ∷ []) all = refl
followed_last k before (EndFlat ∷ y ∷ xs) all = let was = not_after before all.0.0 in let is = all.1.0.0 in cc
followed_last k before (UnitFlat ∷ xs) all = followed_last k (before ++ UnitFlat ∷ []) xs all.1
followed_last k before (BoolFlat b ∷ xs) all = followed_last k (before ++ BoolFlat b ∷ []) xs all.1
followed_last k before (IntFlat n ∷ xs) all = followed_last k (before ++ IntFlat n ∷ []) xs all.1

-- where something followed, the list was unended
pub followed_open : (k : Kind) (before xs : List Flat) → Allowed (MayBePut k) before xs → 0 < length xs → ended (signals (messages_of before)) ≡ false
followed_open k before [] all some = absurd (omega (arith, some))
followed_open k before (x ∷ xs) all some = all.0.0

-- what is certain stays so
pub prefix_of_messages : (xs ys : List Flat) → IsPrefix xs ys → IsPrefix (messages_of xs) (messages_of ys)
prefix_of_messages xs ys p = (messages_of p.0, sym (map-append message_of xs p.0) ∙ ap messages_of p.1)

pub prefix_of_more : (xs zs ys : List Flat) → IsPrefix xs (zs ++ ys) → IsPrefix (messages_of xs) (messages_of zs ++ messages_of ys)
prefix_of_more xs zs ys p =
    let said = prefix_of_messages xs (zs ++ ys) p in
    (said.0, said.1 ∙ map-append message_of zs ys)

pub grown : (xs ys zs : List Flat) → zs ≡ xs ++ ys → messages_of zs ≡ messages_of xs ++ messages_of ys
grown xs ys zs is = ap messages_of is ∙ map-append message_of xs ys

pub many : (xs : List Flat) → length (messages_of xs) ≡ length xs
many xs = length-map xs message_of

pub looked_on : (r s k l : List Flat) → s ≡ r → IsPrefix k l → (messages_of s ≡ messages_of r) × IsPrefix (messages_of k) (messages_of l)
looked_on r s k l same more = (ap messages_of same, prefix_of_messages k l more)

-- one message less is certain, and one more was taken
pub taken_one : (r s k l : List Flat) (x : Flat) (m : Msg) → message_of x ≡ m → s ≡ r ++ x ∷ [] → IsPrefix k (x ∷ l) →
    (messages_of s ≡ messages_of r ++ m ∷ []) × IsPrefix (messages_of k) (m ∷ messages_of l)
taken_one r s k l x m is same more =
    let said = prefix_of_messages k (x ∷ l) more in
    (grown r (x ∷ []) s same ∙ ap (λ (n : Msg). messages_of r ++ n ∷ []) is, (said.0, said.1 ∙ ap (λ (n : Msg). n ∷ messages_of l) is))

-- in an orderly list the last message tells whether it has an end
pub last_ends : (xs : List Flat) (n : ℕ) (d : Flat) → n + 1 ≡ length xs → orderly (signals (messages_of xs)) ≡ true →
    is_stop (signal_of (message_of (get_or xs n d))) ≡ ended (signals (messages_of xs))
unfolding signals ended orderly
last_ends [] n d is h = absurd (omega (arith, is))
last_ends (UnitFlat ∷ []) zero d is h = refl
last_ends (BoolFlat b ∷ []) zero d is h = refl
last_ends (IntFlat n ∷ []) zero d is h = refl
last_ends (EndFlat ∷ []) zero d is h = refl
last_ends (x ∷ []) (suc n) d is h = let no : suc n + 1 ≡ 1 = is in absurd (omega arith)
last_ends (x ∷ y ∷ xs) zero d is h = let no : 0 + 1 ≡ suc (suc (length xs)) = is in absurd (omega arith)
last_ends (EndFlat ∷ y ∷ xs) (suc n) d is h = cc
last_ends (UnitFlat ∷ y ∷ xs) (suc n) d is h = let up : suc n + 1 ≡ suc (length (y ∷ xs)) = is in last_ends (y ∷ xs) n d (omega arith) h
last_ends (BoolFlat b ∷ y ∷ xs) (suc n) d is h = let up : suc n + 1 ≡ suc (length (y ∷ xs)) = is in last_ends (y ∷ xs) n d (omega arith) h
last_ends (IntFlat m ∷ y ∷ xs) (suc n) d is h = let up : suc n + 1 ≡ suc (length (y ∷ xs)) = is in last_ends (y ∷ xs) n d (omega arith) h

-- a list with no last message has no end
pub none_ends : (xs : List Flat) → slice_get xs (length xs - 1) ≡ None → false ≡ ended (signals (messages_of xs))
unfolding signals ended
none_ends [] none = refl
none_ends (x ∷ xs) none = absurd (there (x ∷ xs) (length (x ∷ xs) - 1) (omega arith) none) where
  there : (ys : List Flat) (n : ℕ) → n < length ys → slice_get ys n ≡ None → ⊥
  there [] n low none = omega (arith, low)
  there (y ∷ ys) zero low none = cc
  there (y ∷ ys) (suc n) low none = let up : suc n < suc (length ys) = low in there ys n (omega arith) none

-- the same ring, seen from an end of it
pub which_same : {T P : Type 0} (k : Option Kind) (a b : End T Global P) → SameRing a b → ◌≡◌ {A = Which} (k, place b) (k, place a)
which_same k a b s = λ i. (k, ((s.0 i, s.1 i), (s.2 i, s.3 i)))

pub if_ok : {X E : Type 0} (P Q : X → Type 0) (r : Result X E) → ((x : X) → P x → Q x) → IfOk r P → IfOk r Q
if_ok P Q (Ok x) f p = f x p
if_ok P Q (Err e) f p = tt

-- the oldest message that is known is a scalar or not
pub shows_scalar : (k : List Msg) (m : Msg) → IsPrefix (m ∷ []) k → is_scalar (signal_of m) ≡ scalar_first (signals k)
unfolding signals
shows_scalar [] m (more, is) = absurd (cc)
shows_scalar (n ∷ k) m (more, is) = ap (λ (x : Msg). is_scalar (signal_of x)) (first_of m n more k is) where
  first_of : (m n : Msg) (more k : List Msg) → m ∷ more ≡ n ∷ k → m ≡ n
  first_of m n more k is = cc

-- where none is known there is no scalar
pub shows_none : (k : List Msg) → length k ≡ 0 → false ≡ scalar_first (signals k)
unfolding signals
shows_none [] h = refl
shows_none (n ∷ k) h = absurd (omega (arith, h))

-- where some are known, a scalar is
pub flats_show : (k : List Flat) → 0 < length k → true ≡ scalar_first (signals (messages_of k))
unfolding signals
flats_show [] some = absurd (omega (arith, some))
flats_show (UnitFlat ∷ k) some = refl
flats_show (BoolFlat b ∷ k) some = refl
flats_show (IntFlat n ∷ k) some = refl
flats_show (EndFlat ∷ k) some = refl

pub no_flats : (k : List Flat) → length k ≡ 0 → false ≡ scalar_first (signals (messages_of k))
unfolding signals
no_flats [] none = refl
no_flats (x ∷ k) none = absurd (omega (arith, none))
