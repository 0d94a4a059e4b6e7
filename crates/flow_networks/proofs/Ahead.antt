-- Blocks of what an edge is certain to give next.
use Rattle.std.proofs.Common.{◌≡◌, ℕ, ◌+◌, true, false, List, [], ◌∷◌, ◌++◌, take, drop, slice_get, Some, refl, sym, ◌∙◌, ap, subst, take-append-drop}
use Rattle.std.specs.List.{All}
use Rattle.std.proofs.lemmas.List.{map-append}
use Rattle.std.proofs.lemmas.List.Elements.{All-nil, All-cons}
use mathlib.Core.List.{IsPrefix}
use Rattle.flow_messages.specs.declared.flat.Flat.{Flat}
use Rattle.flow_messages.specs.declared.flat.Flat.TheVariants.{End as EndFlat}
use Rattle.flow_messages.specs.declared.items.Items.{Items}
use Rattle.flow_messages.specs.declared.message.Item.{Item}
use Rattle.flow_messages.specs.declared.message.Kind.{Kind}
use Rattle.flow_messages.specs.declared.message.Msg.{Msg}
use Rattle.flow_messages.specs.declared.message.Msg.TheVariants.{Item as ItemMsg}
use Rattle.flow_messages.specs.Cells.{cell_of, is_of}
use Rattle.flow_messages.specs.Signals.{Signal, signals, signal_of, is_stop, stop, ended, orderly}
use Rattle.flow_messages.specs.Contents.{item_messages}
use Rattle.flow_messages.specs.Flats.{message_of, messages_of, flat_signals}
use Rattle.flow_messages.specs.Kinds.{fits}
use Rattle.flow_messages.specs.Blocks.{item_signals}
use Rattle.flow_messages.proofs.Blocks.{prefix_then}
use Rattle.flow_messages.proofs.Scalars.{said_next}
use Rattle.flow_messages.proofs.SideBySide.{taken_one, item_signal_at}
use Rattle.flow_messages.proofs.Signals.{ended-snoc, orderly-snoc}
use Rattle.flow_messages.proofs.Tables.{all-snoc}
use Rattle.flow_base.specs.Passing.{MayCome}
use Rattle.flow_networks.specs.Blocks.{ComeNext}

-- one item more
module _ (xs ys : List Flat) (x : Flat) (m : Msg) (is : message_of x ≡ m) (more : ys ≡ xs ++ x ∷ []) where
  says_more : flat_signals ys ≡ flat_signals xs ++ signal_of m ∷ []
  says_more = ap flat_signals more ∙ said_next xs x m is

  pub item_more : (items : Items) (i : ℕ) → slice_get (item_messages items) i ≡ Some m → flat_signals xs ≡ take i (item_signals items) →
      flat_signals ys ≡ take (i + 1) (item_signals items)
  item_more items i at said = says_more ∙ ap (λ l. l ++ signal_of m ∷ []) said ∙ sym (taken_one (item_signals items) i (signal_of m) (item_signal_at items i m at))

  module _ (item : Item) (of : m ≡ ItemMsg item) (free : ended (flat_signals xs) ≡ false) where
    messages_are : messages_of ys ≡ messages_of xs ++ m ∷ []
    messages_are = ap messages_of more ∙ map-append message_of xs (x ∷ []) ∙ ap (λ n. messages_of xs ++ n ∷ []) is

    pub still_free : ended (flat_signals ys) ≡ false
    still_free = ap (λ l. ended (signals l)) messages_are ∙ ended-snoc (messages_of xs) m free ∙ ap (λ n. is_stop (signal_of n)) of

    pub may_come_more : (k : Kind) → is_of k (cell_of item) ≡ true → MayCome k (flat_signals xs) → MayCome k (flat_signals ys)
    may_come_more k fit so_far = record {
      fit = subst (All (λ s. fits k s ≡ true)) (sym says_more)
          (all-snoc (λ s. fits k s ≡ true) (flat_signals xs) (signal_of m) so_far.fit (ap (λ n. fits k (signal_of n)) of ∙ fit));
      last = ap (λ l. orderly (signals l)) messages_are ∙ orderly-snoc (messages_of xs) m free;
    }

-- the first of what the ends show
pub come_items : (k : Kind) (items : Items) (n : ℕ) (c ms : List Signal) → IsPrefix (item_signals items) c → ms ≡ take n (item_signals items) → MayCome k ms → ComeNext k c ms
come_items k items n c ms shown is may_come =
    let all = item_signals items in
    record { first = subst (λ l. IsPrefix l c) (sym is) (prefix_then (take n all) all c (drop n all, take-append-drop n all) shown); may_come = may_come }

pub come_none : (k : Kind) (c : List Signal) (xs : List Flat) → xs ≡ [] → ComeNext k c (flat_signals xs)
unfolding orderly signals
come_none k c xs none = subst (λ l. ComeNext k c (flat_signals l)) (sym none) (record { first = (c, refl); may_come = record { fit = All-nil (λ m. fits k m ≡ true); last = refl } })

pub come_end : (k : Kind) (c : List Signal) (xs : List Flat) → IsPrefix (stop ∷ []) c → xs ≡ EndFlat ∷ [] → ComeNext k c (flat_signals xs)
unfolding orderly signals
come_end k c xs first is =
    subst (λ l. ComeNext k c (flat_signals l)) (sym is)
    (record { first = first; may_come = record { fit = All-cons (λ m. fits k m ≡ true) stop [] refl (All-nil (λ m. fits k m ≡ true)); last = refl } })
