-- Blocks of items of one kind.
use Rattle.std.proofs.Common.{◌≡◌, zero, suc, ◌<◌, true, false, List, [], ◌∷◌, ◌++◌, refl, ap, ◌∙◌, arith}
use Rattle.std.proofs.lemmas.List.{map-append}
use Rattle.std.proofs.lemmas.List.Elements.{All-nil, All-cons, All-append, All-map}
use Rattle.std.specs.List.{All}
use Rattle.flow_messages.specs.declared.message.Kind.{Kind}
use Rattle.flow_messages.specs.declared.message.Msg.{Msg}
use Rattle.flow_messages.specs.Signals.{signals, signal_of, is_stop, ended, orderly}
use Rattle.flow_messages.proofs.Signals.{ended-snoc, orderly-snoc}
use Rattle.flow_messages.specs.declared.flat.Flat.{Flat}
use Rattle.flow_messages.specs.Kinds.{fits}
use Rattle.flow_messages.specs.Flats.{message_of, messages_of, flat_signals}
use Rattle.flow_base.specs.Passing.{MayCome}

-- items of the kind, and none of them an end
pub record HasItems (kind : Kind) (xs : List Flat) : Type 0 where
  pub fit : All (λ x. fits kind (signal_of (message_of x)) ≡ true) xs
  pub unended : ended (signals (messages_of xs)) ≡ false
  pub last : orderly (signals (messages_of xs)) ≡ true

pub no_items : (kind : Kind) (xs : List Flat) → xs ≡ [] → HasItems kind xs
unfolding signals ended orderly
no_items kind [] is = record { fit = λ k d low. absurd (omega (arith, low)); unended = refl; last = refl }
no_items kind (x ∷ xs) is = cc

one_fits : (kind : Kind) (x : Flat) → fits kind (signal_of (message_of x)) ≡ true → All (λ x. fits kind (signal_of (message_of x)) ≡ true) (x ∷ [])
one_fits kind x fit zero d low = fit
one_fits kind x fit (suc k) d low = let no : suc k < 1 = low in absurd (omega arith)

module _ (kind : Kind) (xs ys : List Flat) (x : Flat) (has : HasItems kind xs) (is : ys ≡ xs ++ x ∷ []) (fit : fits kind (signal_of (message_of x)) ≡ true) where
  longer : messages_of ys ≡ messages_of xs ++ message_of x ∷ []
  longer = ap messages_of is ∙ map-append message_of xs (x ∷ [])

  pub more_fit : All (λ x. fits kind (signal_of (message_of x)) ≡ true) ys
  more_fit = rw is (All-append (λ x. fits kind (signal_of (message_of x)) ≡ true) xs (x ∷ []) has.fit (one_fits kind x fit))

  pub more_last : orderly (signals (messages_of ys)) ≡ true
  more_last = ap (λ (ms : List Msg). orderly (signals ms)) longer ∙ orderly-snoc (messages_of xs) (message_of x) has.unended

  pub more_items : is_stop (signal_of (message_of x)) ≡ false → HasItems kind ys
  more_items open_still = record { fit = more_fit; last = more_last; unended = ap (λ (ms : List Msg). ended (signals ms)) longer ∙ ended-snoc (messages_of xs) (message_of x) has.unended ∙ open_still }

said_fit : (k : Kind) (ms : List Msg) → All (λ m. fits k (signal_of m) ≡ true) ms → All (λ s. fits k s ≡ true) (signals ms)
unfolding signals
said_fit k [] fit = All-nil (λ s. fits k s ≡ true)
said_fit k (m ∷ ms) fit = All-cons (λ s. fits k s ≡ true) (signal_of m) (signals ms) (fit 0 m (omega arith)) (said_fit k ms (λ i d low. fit (suc i) d (omega (arith, low))))

-- a block of one kind may come where items of that kind are read
pub may_come : (k kind : Kind) (xs : List Flat) → k ≡ kind → All (λ x. fits kind (signal_of (message_of x)) ≡ true) xs → orderly (flat_signals xs) ≡ true → MayCome k (flat_signals xs)
may_come k kind xs is fit last = rw is (record { fit = said_fit kind (messages_of xs) (All-map (λ m. fits kind (signal_of m) ≡ true) message_of xs fit); last = last })
