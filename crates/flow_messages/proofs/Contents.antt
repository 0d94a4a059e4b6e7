-- The messages of a column, and the end of the stream after them.
use mir.Val.{bool_byte}
use Rattle.std.proofs.Common.{◌≡◌, ℕ, zero, suc, ◌+◌, ◌-◌, ◌≤◌, ◌<◌, ◌&&◌, Bool, true, false, List, [], ◌∷◌, ◌++◌, length, drop, take, get_or, ℤ}
use Rattle.std.proofs.Common.{refl, sym, ap, ◌∙◌, ◌⊎◌, inl, inr, arith, append_assoc, append-nil, length-append, length-drop}
use Rattle.std.proofs.lemmas.List.{drop-append-le, map-append, take-append-drop}
use Rattle.std.proofs.lemmas.Bool.{cases_Bool}
use Rattle.std.proofs.lemmas.Bool.Decides.{nat_tests}
use Rattle.std.specs.Prelude.{nat_eq}
use mathlib.Core.List.{IsPrefix}
use Rattle.flow_messages.specs.declared.column.Column.{Column}
use Rattle.flow_messages.specs.declared.message.Msg.{Msg}
use Rattle.flow_messages.specs.declared.message.Msg.TheVariants.{Item as ItemMsg, End as EndMsg}
use Rattle.flow_messages.specs.declared.message.Item.TheVariants.{Int as IntItem}
use Rattle.flow_messages.specs.Contents.{int_messages}
use Rattle.flow_messages.specs.Signals.{signals, ended, has_end}
use Rattle.flow_messages.specs.Columns.{column_messages, content, ending}
use Rattle.flow_messages.proofs.Signals.{ended-more, ended-rest}

-- a list of length 0
pub empty_of : {X : Type 0} (xs : List X) → length xs ≡ 0 → xs ≡ []
empty_of [] h = refl
empty_of (x ∷ xs) h = absurd (omega arith)

-- what is left of two lists where the first is dropped
pub drop_past : {X : Type 0} (xs ys : List X) (n : ℕ) → length xs ≤ n → drop n (xs ++ ys) ≡ drop (n - length xs) ys
drop_past [] ys n low = ap (λ k. drop k ys) (omega arith)
drop_past (x ∷ xs) ys zero low = absurd (omega (arith, low))
drop_past (x ∷ xs) ys (suc n) low = drop_past xs ys n (omega (arith, low)) ∙ ap (λ k. drop k ys) (omega arith)

-- both together are as long as they were
pub both_long : {X : Type 0} (xs ys xs' ys' : List X) → xs ++ ys ≡ xs' ++ ys' → length xs + length ys ≡ length xs' + length ys'
both_long xs ys xs' ys' is = sym (length-append xs ys) ∙ ap length is ∙ length-append xs' ys'

-- the first of a list
pub first_is : (ms : List Msg) (m : Msg) → 0 < length ms → m ≡ get_or ms 0 m → IsPrefix (m ∷ []) ms
first_is [] m some is = absurd (omega arith)
first_is (n ∷ ms) m some is = (ms, ap (λ x. x ∷ ms) is)

-- integers that come first
pub ints_begin : (xs ys : List ℤ) → IsPrefix xs ys → IsPrefix (int_messages xs) (int_messages ys)
ints_begin xs ys (more, all) = (int_messages more, sym (map-append (λ n. ItemMsg (IntItem n)) xs more) ∙ ap int_messages all)

pub content-is : (c : Column) (ends : Bool) → content c ends ≡ column_messages c ++ ending ends
unfolding content
content-is c ends = refl

pub content-open : (c : Column) → content c false ≡ column_messages c
content-open c = content-is c false ∙ append-nil (column_messages c)

-- the end alone
ends_alone : ended (signals (EndMsg ∷ [])) ≡ true
unfolding ended signals
ends_alone = refl

-- where the end is not among what is held, it does not come last
pub ends_not : (c : Column) (ends : Bool) → has_end (content c ends) ≡ false → ends ≡ false
ends_not c false free = refl
ends_not c true free =
    let none : ended (signals (EndMsg ∷ [])) ≡ false = ended-rest (column_messages c) (EndMsg ∷ []) (ap has_end (sym (content-is c true)) ∙ free) in
    let both : true ≡ false = sym ends_alone ∙ none in
    absurd (cc)

-- what comes first of the items comes first of all
pub begins : (c : Column) (ends : Bool) (ms : List Msg) → IsPrefix ms (column_messages c) → IsPrefix ms (content c ends)
begins c ends ms (more, all) =
    (more ++ ending ends, sym (append_assoc ms more (ending ends)) ∙ ap (λ l. l ++ ending ends) all ∙ sym (content-is c ends))

pub length-content : (c : Column) (ends : Bool) → length (content c ends) ≡ length (column_messages c) + length (ending ends)
length-content c ends = ap length (content-is c ends) ∙ length-append (column_messages c) (ending ends)

-- the end was put
pub put_end : (a : Column) (ends : Bool) → ends ≡ false → content a true ≡ content a ends ++ EndMsg ∷ []
put_end a ends free = content-is a true ∙ ap (λ l. l ++ EndMsg ∷ []) (sym (ap (content a) free ∙ content-open a))

module _ (a b : Column) (ends : Bool) (free : ends ≡ false) where
  -- items were put
  pub put_items : (ms : List Msg) → column_messages b ≡ column_messages a ++ ms → content b ends ≡ content a ends ++ ms
  put_items ms is = ap (content b) free ∙ content-open b ∙ is ∙ ap (λ l. l ++ ms) (sym (ap (content a) free ∙ content-open a))

-- nothing is held where no item is, and no end
pub nothing_in : (a : Column) (ends : Bool) → ends ≡ false → column_messages a ≡ [] → content a ends ≡ []
nothing_in a ends free none = ap (content a) free ∙ content-open a ∙ none

module _ (a b : Column) where
  pub same_content : (ends : Bool) → column_messages a ≡ column_messages b → content a ends ≡ content b ends
  same_content ends is = content-is a ends ∙ ap (λ l. l ++ ending ends) is ∙ sym (content-is b ends)

  -- an item was taken
  pub take_item : (ends : Bool) (m : Msg) → column_messages a ≡ m ∷ column_messages b → content a ends ≡ m ∷ content b ends
  take_item ends m is = content-is a ends ∙ ap (λ l. l ++ ending ends) is ∙ ap (λ l. m ∷ l) (sym (content-is b ends))

  -- no item was there
  pub take_end : column_messages a ≡ [] → column_messages b ≡ [] → content a true ≡ EndMsg ∷ content b false
  take_end is is' = content-is a true ∙ ap (λ l. l ++ EndMsg ∷ []) is ∙ ap (λ l. EndMsg ∷ l) (sym (content-open b ∙ is'))

  -- some items were skipped
  pub skip_items : (ends : Bool) (n : ℕ) → n ≤ length (column_messages a) → column_messages b ≡ drop n (column_messages a) → content b ends ≡ drop n (content a ends)
  skip_items ends n low is =
      content-is b ends ∙ ap (λ l. l ++ ending ends) is ∙ sym (ap (drop n) (content-is a ends) ∙ drop-append-le n (column_messages a) (ending ends) low)

  -- all were skipped
  pub skip_whole : (ends : Bool) (n : ℕ) → length (content a ends) ≤ n → length (column_messages b) ≡ 0 → content b false ≡ drop n (content a ends)
  skip_whole ends n long none = content-open b ∙ empty_of (column_messages b) none ∙ sym (empty_of (drop n (content a ends)) (omega (arith, length-drop n (content a ends))))

-- all items of one were moved behind those of another, and then the end
pub moved_behind : (a b now : Column) (ends last : Bool) → ends ≡ false → column_messages now ≡ column_messages a ++ column_messages b →
    content now last ≡ content a ends ++ content b last
moved_behind a b now ends last free is =
    content-is now last ∙ ap (λ l. l ++ ending last) is ∙ append_assoc (column_messages a) (column_messages b) (ending last)
    ∙ ap (λ l. column_messages a ++ l) (sym (content-is b last)) ∙ ap (λ l. l ++ content b last) (sym (ap (content a) free ∙ content-open a))

-- where more may follow the end did not come
pub may_follow : (a : Column) (ends : Bool) (ms : List Msg) → (has_end (content a ends) ≡ true → ms ≡ []) → 0 < length ms → ends ≡ false
may_follow a ends ms last some = by_end (cases_Bool (has_end (content a ends))) where
  by_end : (has_end (content a ends) ≡ true) ⊎ (has_end (content a ends) ≡ false) → ends ≡ false
  by_end (inl ended) = absurd (omega (arith, some, ap length (last ended)))
  by_end (inr free) = ends_not a ends free

-- how many messages come after the items
pub count_ending : (ends : Bool) (n : ℕ) → n ≡ bool_byte ends → n ≡ length (ending ends)
count_ending true n is = is
count_ending false n is = is

-- how many messages are left after a skip tells whether the end is gone
pub all_gone : (ends : Bool) (left : ℕ) → (ends && nat_eq left 0) ≡ true → (length (ending ends) ≡ 1) × (left ≡ 0)
all_gone true left is = (refl, grind (arith, nat_tests))
all_gone false left is = absurd (cc)

pub some_left : (ends : Bool) (held n long : ℕ) → (ends && nat_eq (held - n) 0) ≡ false → held ≡ long + length (ending ends) → n ≤ held → n ≤ long
some_left true held n long is counts there = grind (arith, nat_tests)
some_left false held n long is counts there = omega (arith, counts, there)

-- the end is shown where nothing else is held
pub end_alone : (c : Column) (ends : Bool) → ends ≡ true → length (content c ends) ≡ 1 → ending true ++ [] ≡ content c ends
end_alone c true is one = sym (content-is c true ∙ ap (λ l. l ++ ending true) (empty_of (column_messages c) (omega (arith, one, length-content c true))))
end_alone c false is one = absurd (cc)

-- no end stands among the items

pub open_put : (xs ms : List Msg) → has_end xs ≡ false → has_end ms ≡ false → has_end (xs ++ ms) ≡ false
open_put xs ms free free' = ended-more xs ms free ∙ free'

pub open_drop : (n : ℕ) (xs : List Msg) → has_end xs ≡ false → has_end (drop n xs) ≡ false
open_drop n xs free = ended-rest (take n xs) (drop n xs) (ap has_end (take-append-drop n xs) ∙ free)

pub open_tail : (m : Msg) (xs ys : List Msg) → ys ≡ m ∷ xs → has_end ys ≡ false → has_end xs ≡ false
open_tail m xs ys is free = ended-rest (m ∷ []) xs (ap has_end (sym is) ∙ free)
