-- A source keeps the laws of transducers.
use Rattle.std.specs.Prelude.{◌≡◌, ℕ, zero, suc, ◌+◌, ◌<◌, Bool, true, false, List, [], ◌∷◌, drop, length, Option, Some, None, ◌↔◌, refl}
use Rattle.std.specs.List.{slice_get}
use Rattle.std.proofs.Common.{arith, sym, ◌∙◌, ap}
use Rattle.std.proofs.Math.Path.{ap₂}
use Rattle.std.proofs.lemmas.Option.{slice_get_within}
use Rattle.snesl_data.specs.declared.dialect.Dialect.{Dialect}
use Rattle.flow_messages.specs.Cells.{Cell, is_of}
use Rattle.flow_messages.specs.Signals.{Signal, carry, stop}
use Rattle.flow_messages.specs.declared.message.Kind.{Kind}
use Rattle.flow_base.specs.Lists.{Lists, First}
use Rattle.flow_base.specs.Ports.{first_of_list, First-from}
use Rattle.flow_base.specs.Ranges.{CellInRange, SignalsInRange, AllOf}
use Rattle.flow_base.specs.Transducers.{BehaviourLaws, IsLawfulTraffic, closed}
use Rattle.flow_base.specs.Promises.{Promise, KeepsWrite, Keeps, PromiseLaws}
use Rattle.flow_base.specs.Promised.{promised_laws}
use Rattle.flow_scalar.specs.Streams.{Items}
use Rattle.flow_scalar.specs.SourceBehaviour.{SourceState, sending, finished, source_want, source_opening, source_items, source_behaviour}

-- what is still to be written: the items that are left and then the end, or nothing
abbrev owes : SourceState → Lists Signal → Type 0
owes (sending items written) o = o 0 ≡ closed (drop written items.cells)
owes (finished items) o = o 0 ≡ []

-- whether the end is written
abbrev over : SourceState → Bool
over (sending items written) = false
over (finished items) = true

abbrev promise : Promise SourceState
promise = record {
  owes = λ s i o. owes s o;
  over_in = λ s p. false;
  over_out = λ s q. over s;
}

-- a list is one with this item first exactly where its first item and the others are those
split : {A : Type 0} (xs : List A) (x : A) (rest : List A) → (xs ≡ x ∷ rest) ↔ First xs (λ y r. (y ≡ x) × (r ≡ rest))
split xs x rest = (
  λ e. First-from xs x rest (λ y r. (y ≡ x) × (r ≡ rest)) e (refl, refl),
  λ h. let first = first_of_list xs (λ y r. (y ≡ x) × (r ≡ rest)) h in first.2 ∙ ap₂ (λ y r. y ∷ r) first.3.0 first.3.1,
)

-- where there is an item, it is the first that is left
one_more : {A : Type 0} (xs : List A) (n : ℕ) (x : A) → slice_get xs n ≡ Some x → drop n xs ≡ x ∷ drop (n + 1) xs
one_more [] n x e = absurd (cc)
one_more (y ∷ xs) zero x e = let same : y ≡ x = cc in ap (λ z. z ∷ xs) same
one_more (y ∷ xs) (suc n) x e = let next : suc n + 1 ≡ suc (n + 1) = omega arith in one_more xs n x e ∙ ap (λ k. x ∷ drop k (y ∷ xs)) (sym next)

-- where there is none, none is left
none_more : {A : Type 0} (xs : List A) (n : ℕ) → slice_get xs n ≡ None → drop n xs ≡ []
none_more [] zero e = refl
none_more [] (suc n) e = refl
none_more (x ∷ xs) zero e = absurd (cc)
none_more (x ∷ xs) (suc n) e = none_more xs n e

-- an item is of the kind that all are of
of_kind_at : (kind : Kind) (xs : List Cell) (n : ℕ) (x : Cell) → AllOf kind xs → slice_get xs n ≡ Some x → is_of kind x ≡ true
of_kind_at kind [] n x h e = absurd (cc)
of_kind_at kind (y ∷ xs) zero x h e = let same : y ≡ x = cc in ap (is_of kind) (sym same) ∙ h.0
of_kind_at kind (y ∷ xs) (suc n) x h e = of_kind_at kind xs n x h.1 e

-- an item lies in the range where all do
in_range_at : (dialect : Dialect) (xs : List Cell) (n : ℕ) (x : Cell) → SignalsInRange dialect (closed xs) → slice_get xs n ≡ Some x → CellInRange dialect x
in_range_at dialect [] n x h e = absurd (cc)
in_range_at dialect (y ∷ xs) zero x h e = let same : y ≡ x = cc in rw (sym same) h.0
in_range_at dialect (y ∷ xs) (suc n) x h e = in_range_at dialect xs n x h.1 e

-- the next write: of the item at this place, or of the end
writes : (items : Items) (n : ℕ) (next : Option Cell) → slice_get items.cells n ≡ next → KeepsWrite source_behaviour promise (sending items n) 0
writes items n None e = record {
  port = omega arith;
  steps = λ i o. rw (e, none_more items.cells n e) (split (o 0) stop []);
  falls = rw e (omega arith);
  stays = rw e refl;
  open_yet = refl;
  ends = λ _. rw e refl;
  still_in = λ k h. h;
  still_out = λ k h. rw e refl;
  of_kind = λ h. rw e (tt, tt);
  in_range = λ dialect h range. rw e (tt, range);
}
writes items n (Some x) e = record {
  port = omega arith;
  steps = λ i o. rw (e, one_more items.cells n x e) (split (o 0) (carry x) (closed (drop (n + 1) items.cells)));
  falls = let within : n < length items.cells = slice_get_within items.cells n x e in rw e (omega arith);
  stays = rw e refl;
  open_yet = refl;
  ends = rw e (λ is. absurd (cc));
  still_in = λ k h. h;
  still_out = λ k h. absurd (cc);
  of_kind = λ h. rw e (of_kind_at items.kind items.cells n x items.all_of e, tt);
  in_range = λ dialect h range. rw e (in_range_at dialect items.cells n x range e, range);
}

each : (s : SourceState) → Keeps source_behaviour promise s (source_want s)
each (sending items n) = writes items n (slice_get items.cells n) refl
each (finished items) = record {
  nothing = refl;
  ins = λ i o h p lt. absurd (omega arith);
  outs = λ i o h q lt. let only : q ≡ 0 = omega arith in ap o only ∙ h;
}

-- a source that has written nothing owes lawful traffic
traffic : (items : Items) (i o : Lists Signal) → (o 0 ≡ closed items.cells) ↔ IsLawfulTraffic source_behaviour (source_opening items) i o
traffic items i o = (
  λ h. record {
    ins = λ _. [];
    outs = λ _. items.cells;
    row = refl;
    closed_ins = λ p lt. absurd (omega arith);
    closed_outs = λ q lt. let only : q ≡ 0 = omega arith in ap o only ∙ h;
  },
  λ h. h.closed_outs 0 (omega arith) ∙ ap closed h.row,
)

opens : (s : SourceState) → source_opening (source_items s) ≡ s → (i o : Lists Signal) → owes s o ↔ IsLawfulTraffic source_behaviour s i o
opens (sending items n) e i o = let none : n ≡ 0 = cc in rw none (traffic items i o)
opens (finished items) e i o = absurd (let never : source_opening items ≡ finished items = e in cc)

promise_laws : PromiseLaws source_behaviour promise
promise_laws = record {
  end = refl;
  each = each;
  opens = opens;
  same_opening = λ s. refl;
  same_inputs = λ s. refl;
  same_outputs = λ s. refl;
  same_kinds_in = λ s p. refl;
  same_kinds_out = λ s q. refl;
  starts_of_kind = λ s e. tt;
}

pub source_laws : BehaviourLaws source_behaviour
source_laws = promised_laws source_behaviour promise promise_laws
