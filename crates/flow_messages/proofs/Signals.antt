-- Lists of messages, one message later.
use Rattle.std.proofs.Common.{◌≡◌, ℕ, zero, suc, true, false, List, [], ◌∷◌, ◌++◌, map, replicate, take, refl, ap}
use Rattle.flow_messages.specs.declared.message.Item.{Item as ItemType}
use Rattle.flow_messages.specs.declared.message.Msg.{Msg}
use Rattle.flow_messages.specs.declared.message.Msg.TheVariants.{Item, End}
use Rattle.flow_messages.specs.Cells.{cell_of}
use Rattle.flow_messages.specs.Signals.{signals, signal_of, carry, is_stop, ended, orderly}

-- the message put last decides, where the list had no stop
pub ended-snoc : (ms : List Msg) (m : Msg) → ended (signals ms) ≡ false → ended (signals (ms ++ m ∷ [])) ≡ is_stop (signal_of m)
unfolding ended signals
ended-snoc [] (Item x) h = refl
ended-snoc [] End h = refl
ended-snoc (Item x ∷ ms) m h = ended-snoc ms m h
ended-snoc (End ∷ ms) m h = cc

-- a list without a stop stays orderly with one message more
pub orderly-snoc : (ms : List Msg) (m : Msg) → ended (signals ms) ≡ false → orderly (signals (ms ++ m ∷ [])) ≡ true
unfolding ended orderly signals
orderly-snoc [] (Item x) h = refl
orderly-snoc [] End h = refl
orderly-snoc (Item x ∷ ms) m h = orderly-snoc ms m h
orderly-snoc (End ∷ ms) m h = cc

pub ended-nil : ended (signals []) ≡ false
unfolding ended signals
ended-nil = refl

pub orderly-nil : orderly (signals []) ≡ true
unfolding orderly signals
orderly-nil = refl

pub signals-nil : signals [] ≡ []
unfolding signals
signals-nil = refl

pub signals-cons : (m : Msg) (ms : List Msg) → signals (m ∷ ms) ≡ signal_of m ∷ signals ms
unfolding signals
signals-cons m ms = refl

pub signals-snoc : (ms : List Msg) (m : Msg) → signals (ms ++ m ∷ []) ≡ signals ms ++ signal_of m ∷ []
unfolding signals
signals-snoc [] m = refl
signals-snoc (n ∷ ms) m = ap (λ l. signal_of n ∷ l) (signals-snoc ms m)

pub ruleset signal_steps = (ended-snoc, orderly-snoc, ended-nil, orderly-nil)

-- a list without a stop goes on with another
pub ended-more : (ms ns : List Msg) → ended (signals ms) ≡ false → ended (signals (ms ++ ns)) ≡ ended (signals ns)
unfolding ended signals
ended-more [] ns h = refl
ended-more (Item x ∷ ms) ns h = ended-more ms ns h
ended-more (End ∷ ms) ns h = cc

-- what comes after others has no stop where all have none
pub ended-rest : (ms ns : List Msg) → ended (signals (ms ++ ns)) ≡ false → ended (signals ns) ≡ false
unfolding ended signals
ended-rest [] ns h = h
ended-rest (Item x ∷ ms) ns h = ended-rest ms ns h
ended-rest (End ∷ ms) ns h = absurd (cc)

pub orderly-more : (ms ns : List Msg) → ended (signals ms) ≡ false → orderly (signals (ms ++ ns)) ≡ orderly (signals ns)
unfolding ended orderly signals
orderly-more [] ns h = refl
orderly-more (Item x ∷ ms) ns h = orderly-more ms ns h
orderly-more (End ∷ ms) ns h = cc

-- no stop stands in a block
module _ {X : Type 0} (f : X → ItemType) where
  pub block-ended : (xs : List X) → ended (signals (map (λ x. Item (f x)) xs)) ≡ false
  unfolding ended signals
  block-ended [] = refl
  block-ended (x ∷ xs) = block-ended xs

  pub block-orderly : (xs : List X) → orderly (signals (map (λ x. Item (f x)) xs)) ≡ true
  unfolding orderly signals
  block-orderly [] = refl
  block-orderly (x ∷ xs) = block-orderly xs

pub units-ended : (x : ItemType) (n : ℕ) → ended (signals (replicate n (Item x))) ≡ false
unfolding ended signals
units-ended x zero = refl
units-ended x (suc n) = units-ended x n

pub units-orderly : (x : ItemType) (n : ℕ) → orderly (signals (replicate n (Item x))) ≡ true
unfolding orderly signals
units-orderly x zero = refl
units-orderly x (suc n) = units-orderly x n

-- what a block of messages says
pub signals-block : {X : Type 0} (f : X → ItemType) (xs : List X) → signals (map (λ x. Item (f x)) xs) ≡ map (λ x. carry (cell_of (f x))) xs
unfolding signals
signals-block f [] = refl
signals-block f (x ∷ xs) = ap (λ l. carry (cell_of (f x)) ∷ l) (signals-block f xs)

pub signals-units : (x : ItemType) (n : ℕ) → signals (replicate n (Item x)) ≡ replicate n (carry (cell_of x))
unfolding signals
signals-units x zero = refl
signals-units x (suc n) = ap (λ l. carry (cell_of x) ∷ l) (signals-units x n)

-- the first of some messages say the first of what they say
pub signals-take : (n : ℕ) (ms : List Msg) → signals (take n ms) ≡ take n (signals ms)
unfolding signals
signals-take zero ms = refl
signals-take (suc n) [] = refl
signals-take (suc n) (m ∷ ms) = ap (λ l. signal_of m ∷ l) (signals-take n ms)
