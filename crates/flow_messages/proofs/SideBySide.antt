-- Items of one kind, side by side: one after another, what they say, and which edges take them.
use Rattle.std.proofs.Common.{◌≡◌, ℕ, zero, suc, ◌+◌, true, false, Option, Some, List, [], ◌∷◌, ◌++◌, length, map, take, slice_get}
use Rattle.std.proofs.Common.{refl, sym, ap, subst, ◌∙◌, add-one, append_assoc}
use Rattle.flow_messages.specs.declared.message.Kind.{Kind}
use Rattle.flow_messages.specs.declared.message.Kind.TheVariants.{Unit as UnitKind, Bool as BoolKind, Int as IntKind}
use Rattle.flow_messages.specs.declared.message.Msg.{Msg}
use Rattle.flow_messages.specs.declared.message.Msg.TheVariants.{Item as ItemMsg}
use Rattle.flow_messages.specs.declared.message.Item.{Item as ItemType}
use Rattle.flow_messages.specs.declared.message.Item.TheVariants.{Unit as UnitItem, Bool as BoolItem, Int as IntItem}
use Rattle.flow_messages.specs.declared.items.Items.{Items}
use Rattle.flow_messages.specs.declared.items.Items.TheVariants.{Nothing, Units, Flags, Ints}
use Rattle.flow_messages.specs.Cells.{cell_of}
use Rattle.flow_messages.specs.Signals.{Signal, carry, stop, signal_of, signals, ended, orderly}
use Rattle.flow_messages.specs.Kinds.{fits, FitsEdge, TakesKind, TakesItems}
use Rattle.flow_messages.specs.Contents.{item_messages, unit_messages}
use Rattle.flow_messages.specs.Blocks.{item_signals}
use Rattle.flow_messages.proofs.Signals.{signals-nil, signals-block, signals-units, block-ended, block-orderly, units-ended, units-orderly, ended-nil, orderly-nil}
use Rattle.flow_messages.proofs.Fitting.{kind_fits}

-- one element more
taken_suc : {X : Type 0} (xs : List X) (k : ℕ) (x : X) → slice_get xs k ≡ Some x → take (suc k) xs ≡ take k xs ++ x ∷ []
taken_suc [] k x is = absurd (cc)
taken_suc (y ∷ xs) zero x is = cc
taken_suc (y ∷ xs) (suc k) x is = ap (λ l. y ∷ l) (taken_suc xs k x is)

pub taken_one : {X : Type 0} (xs : List X) (k : ℕ) (x : X) → slice_get xs k ≡ Some x → take (k + 1) xs ≡ take k xs ++ x ∷ []
taken_one xs k x is = ap (λ n. take n xs) (add-one k) ∙ taken_suc xs k x is

-- where one element more was appended, one more of them stands there
pub one_more : {X : Type 0} (before now next xs : List X) (k : ℕ) (x : X) → slice_get xs k ≡ Some x → now ≡ before ++ take k xs → next ≡ now ++ x ∷ []
    → next ≡ before ++ take (k + 1) xs
one_more before now next xs k x is so_far put =
    put ∙ ap (λ l. l ++ x ∷ []) so_far ∙ append_assoc before (take k xs) (x ∷ []) ∙ ap (λ l. before ++ l) (sym (taken_one xs k x is))

-- what they say, one after another

pub signals-items : (x : Items) → signals (item_messages x) ≡ item_signals x
signals-items Nothing = signals-nil
signals-items (Units n) = signals-units UnitItem n
signals-items (Flags bs) = signals-block BoolItem bs.now
signals-items (Ints ns) = signals-block IntItem ns.now

pub length-signals : (ms : List Msg) → length (signals ms) ≡ length ms
unfolding signals
length-signals [] = refl
length-signals (m ∷ ms) = ap suc (length-signals ms)

pub length-items : (x : Items) → length (item_messages x) ≡ length (item_signals x)
length-items x = sym (length-signals (item_messages x)) ∙ ap length (signals-items x)

signal_at : (ms : List Msg) (k : ℕ) (m : Msg) → slice_get ms k ≡ Some m → slice_get (signals ms) k ≡ Some (signal_of m)
unfolding signals
signal_at [] k m is = absurd (cc)
signal_at (n ∷ ms) zero m is = cc
signal_at (n ∷ ms) (suc k) m is = signal_at ms k m is

pub item_signal_at : (x : Items) (k : ℕ) (m : Msg) → slice_get (item_messages x) k ≡ Some m → slice_get (item_signals x) k ≡ Some (signal_of m)
item_signal_at x k m is = ap (λ l. slice_get l k) (sym (signals-items x)) ∙ signal_at (item_messages x) k m is

-- they say no end

pub messages-open : (x : Items) → ended (signals (item_messages x)) ≡ false
messages-open Nothing = ended-nil
messages-open (Units n) = units-ended UnitItem n
messages-open (Flags bs) = block-ended BoolItem bs.now
messages-open (Ints ns) = block-ended IntItem ns.now

pub messages-orderly : (x : Items) → orderly (signals (item_messages x)) ≡ true
messages-orderly Nothing = orderly-nil
messages-orderly (Units n) = units-orderly UnitItem n
messages-orderly (Flags bs) = block-orderly BoolItem bs.now
messages-orderly (Ints ns) = block-orderly IntItem ns.now

pub items-open : (x : Items) → ended (item_signals x) ≡ false
items-open x = ap ended (sym (signals-items x)) ∙ messages-open x

pub open-take : (ms : List Signal) (k : ℕ) → ended ms ≡ false → ended (take k ms) ≡ false
unfolding ended
open-take [] zero free = refl
open-take [] (suc k) free = refl
open-take (m ∷ ms) zero free = refl
open-take (carry c ∷ ms) (suc k) free = open-take ms k free
open-take (stop ∷ ms) (suc k) free = absurd (cc)

-- an edge that takes them takes each

units_fit : (of : Option Kind) → TakesKind of UnitKind → (n k : ℕ) (m : Msg) → slice_get (unit_messages n) k ≡ Some m → FitsEdge of (signal_of m)
units_fit of takes zero k m is = absurd (cc)
units_fit of takes (suc n) zero m is = let it : ItemMsg UnitItem ≡ m = cc in subst (λ z. FitsEdge of (signal_of z)) it (kind_fits of UnitKind _ takes refl)
units_fit of takes (suc n) (suc k) m is = units_fit of takes n k m is

module _ {X : Type 0} (f : X → ItemType) (kind : Kind) (of : Option Kind) (its : (x : X) → fits kind (carry (cell_of (f x))) ≡ true) (takes : TakesKind of kind) where
  each_fits : (xs : List X) (k : ℕ) (m : Msg) → slice_get (map (λ x. ItemMsg (f x)) xs) k ≡ Some m → FitsEdge of (signal_of m)
  each_fits [] k m is = absurd (cc)
  each_fits (x ∷ xs) zero m is = let it : ItemMsg (f x) ≡ m = cc in subst (λ z. FitsEdge of (signal_of z)) it (kind_fits of kind _ takes (its x))
  each_fits (x ∷ xs) (suc k) m is = each_fits xs k m is

pub item_fits : (of : Option Kind) (x : Items) → TakesItems of x → (k : ℕ) (m : Msg) → slice_get (item_messages x) k ≡ Some m → FitsEdge of (signal_of m)
item_fits of Nothing takes k m is = absurd (cc)
item_fits of (Units n) takes k m is = units_fit of takes n k m is
item_fits of (Flags bs) takes k m is = each_fits BoolItem BoolKind of (λ b. refl) takes bs.now k m is
item_fits of (Ints ns) takes k m is = each_fits IntItem IntKind of (λ n. refl) takes ns.now k m is

-- an edge of the same kind takes them too
pub items_still : (of of' : Option Kind) (x : Items) → of' ≡ of → TakesItems of x → TakesItems of' x
items_still of of' x is takes = subst (λ k. TakesItems k x) (sym is) takes
