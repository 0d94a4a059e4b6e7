-- One end in the front and one in the back of a list that was split.
use Rattle.std.proofs.Common.{◌≡◌, ◌≢◌, ◌==◌, ℕ, ◌-◌, ◌<◌, Bool, true, false, List, length, ◌++◌, get_or, set, refl, sym, ap, ◌∙◌, subst, arith}
use Rattle.std.proofs.Common.{length-set, get_or-set_same, get_or-set_other, ◌⊎◌, inl, inr}
use Rattle.std.specs.Prelude.{Result, Ok, Err, OnOk}
use Rattle.std.proofs.lemmas.Bool.{cases_eq, eq-eqb, ne_eqb}
use Rattle.std.proofs.lemmas.List.{get_or_default, get_or_append_left, get_or-append-add, set-append_left, set-append_right, length-append}
use Rattle.flow_messages.specs.declared.message.Kind.{Kind}
use Rattle.flow_messages.specs.Ends.{View}
use Rattle.flow_boxes.proofs.Changed.{everywhere}
use Rattle.flow_shares.specs.declared.meetings.owners.EdgeOwners.{EdgeOwners}
use Rattle.flow_shares.specs.meetings.Opens.{OpensAt, OpensEdge}

-- where no end was opened
none_opened : (e : ℕ) (kind : Kind) (capacity : ℕ) (w r : Bool) (a : View) → w ≡ false → r ≡ false → OpensAt e kind capacity w r a a
none_opened e kind capacity w r a no_writer no_reader =
    subst (λ w. OpensAt e kind capacity w r a a) (sym no_writer) (subst (λ r. OpensAt e kind capacity false r a a) (sym no_reader) (record {
      elsewhere = record { writes = λ k ne. refl; reads = λ k ne. refl; sent = λ k ne. refl; received = λ k ne. refl; coming = λ k ne. refl; room = λ k ne. refl; kind = λ k ne. refl };
      takes = λ h. absurd (cc);
      same_kind = λ h. refl;
      writes = refl;
      sent = refl;
      room = refl;
      reads = refl;
      received = refl;
      coming = refl;
    }))

-- and where the names of the shares say which
opened_as : (e : ℕ) (kind : Kind) (capacity : ℕ) (w r w' r' : Bool) (a b : View) → w ≡ w' → r ≡ r' → OpensAt e kind capacity w' r' a b → OpensAt e kind capacity w r a b
opened_as e kind capacity w r w' r' a b p q opens = subst (λ w. OpensAt e kind capacity w r a b) (sym p) (subst (λ r. OpensAt e kind capacity w' r a b) (sym q) opens)

-- the list is split at m; x is at i in the front, and y at m, and a and b come there
module _ {X : Type 0} (old front back : List X) (m i : ℕ) (is : old ≡ front ++ back) (count : length front ≡ m) (li : i < m) (some : m < length old)
    (x y a b : X) (x_is : x ≡ get_or front i x) (y_is : y ≡ get_or back 0 y) where
  abbrev now : List X
  now = set front i a ++ set back 0 b

  some_back : 0 < length back
  some_back = omega (arith, ap length is, length-append front back, count, some)

  now_is : now ≡ set (set old i a) m b
  now_is =
      ap (λ j. set front i a ++ set back j b) (zero_is (omega arith))
      ∙ sym (set-append_right (set front i a) back m m b (length-set front i a ∙ count) (omega arith))
      ∙ ap (λ l. set l m b) (sym (set-append_left front back i a (omega (arith, li, count))) ∙ ap (λ l. set l i a) (sym is))
    where
      zero_is : m - m ≡ 0 → 0 ≡ m - m
      zero_is h = sym h

  front_was : (d : X) → get_or old i d ≡ x
  front_was d =
      ap (λ l. get_or l i d) is ∙ get_or_append_left front back d i (omega (arith, li, count))
      ∙ get_or_default front i d x (omega (arith, li, count)) ∙ sym x_is

  back_was : (d : X) → get_or old m d ≡ y
  back_was d =
      ap (λ l. get_or l m d) is ∙ ap (λ k. get_or (front ++ back) k d) (omega (arith, count)) ∙ get_or-append-add front back 0 d
      ∙ get_or_default back 0 d y some_back ∙ sym y_is

  back_now : (d : X) → get_or now m d ≡ b
  back_now d = ap (λ l. get_or l m d) now_is ∙ get_or-set_same (set old i a) m b d (omega (arith, some, length-set old i a))

  front_now : (d : X) → get_or now i d ≡ a
  front_now d = ap (λ l. get_or l i d) now_is ∙ get_or-set_other (set old i a) m i b d (λ h. omega (arith, h, li)) ∙ get_or-set_same old i a d (omega (arith, li, some))

  others_now : (k : ℕ) (d : X) → k ≢ i → k ≢ m → get_or now k d ≡ get_or old k d
  others_now k d ne nm = ap (λ l. get_or l k d) now_is ∙ get_or-set_other (set old i a) m k b d nm ∙ get_or-set_other old i k a d ne

  -- what holds at both, and at the others, holds at all
  each_place : (P : ℕ → X → X → Type 0) → P i x a → P m y b → ((k : ℕ) (z : X) → k ≢ i → k ≢ m → P k z z) → (k : ℕ) (d : X) → P k (get_or old k d) (get_or now k d)
  each_place P at_front at_back others k d =
      everywhere (λ k. P k (get_or old k d) (get_or now k d)) i
      (rw (front_was d) (rw (front_now d) at_front))
      (λ k ne. (
      everywhere (λ k. k ≢ i → P k (get_or old k d) (get_or now k d)) m
      (λ ne. rw (back_was d) (rw (back_now d) at_back))
      (λ k nm ne. rw (others_now k d ne nm) (others k (get_or old k d) ne nm)) k ne
      )) k

pub on_all : {X E : Type 0} {P Q R S T : Type 0} (r : Result X E) → (P → Q → R → S → T) → OnOk r P → OnOk r Q → OnOk r R → OnOk r S → OnOk r T
on_all (Ok x) f p q joined room = f p q joined room
on_all (Err e) f p q joined room = tt

pub on_three : {X E : Type 0} {P Q R S : Type 0} (r : Result X E) → (P → Q → R → S) → OnOk r P → OnOk r Q → OnOk r R → OnOk r S
on_three (Ok x) f p q s = f p q s
on_three (Err e) f p q s = tt

-- Edge e is opened, and its owner names these shares.
module _ {X : Type 0} (view : X → View) (joins : X → X → ℕ → Type 0) (slots_of : X → ℕ → ℕ) (opens_at : ℕ → X → X → Type 0)
    (opens_refl : (e : ℕ) (a : X) → opens_at e a a) (owner : EdgeOwners) (e : ℕ) (kind : Kind) (capacity : ℕ) where
  abbrev w : ℕ
  w = owner.writer

  abbrev r : ℕ
  r = owner.reader

  -- one share, before and after
  abbrev OpensHere : Bool → Bool → X → X → Type 0
  OpensHere writer reader x a = opens_at e x a × OpensAt e kind capacity writer reader (view x) (view a)

  -- share s, before and after
  abbrev Each : ℕ → X → X → Type 0
  Each s x a = OpensHere (w == s) (r == s) x a

  abbrev Whole : List X → List X → Type 0
  Whole = OpensEdge view joins slots_of opens_at owner e kind capacity

  other : (s : ℕ) (z : X) → s ≢ w → s ≢ r → Each s z z
  other s z nw nr = (opens_refl e z, none_opened e kind capacity (w == s) (r == s) (view z) (ne_eqb w s (λ h. nw (sym h))) (ne_eqb r s (λ h. nr (sym h))))

  here : (s : ℕ) (p q : Bool) (x a : X) → (w == s) ≡ p → (r == s) ≡ q → OpensHere p q x a → Each s x a
  here s p q x a at_w at_r step = (step.0, opened_as e kind capacity (w == s) (r == s) p q (view x) (view a) at_w at_r step.1)

  whole : (old new : List X) (a b : X) → ((s : ℕ) (d : X) → Each s (get_or old s d) (get_or new s d)) → ((d : X) → get_or new w d ≡ a) →
      ((d : X) → get_or new r d ≡ b) → joins a b e → slots_of a e ≡ capacity → Whole old new
  whole old new a b each at_w at_r joined room = record {
    opens = λ s d l. (each s d).0;
    fresh = λ s d l. (each s d).1;
    joined = λ d. rw (at_w d) (rw (at_r d) joined);
    places = λ d. rw (at_w d) room;
  }

  -- both ends come to one share
  pub opened_own : (old : List X) (x a : X) → w ≡ r → w < length old → OpensHere true true (get_or old w x) a → joins a a e → slots_of a e ≡ capacity → Whole old (set old w a)
  opened_own old x a same inside step joined room = whole old (set old w a) a a (λ s d. each s d (cases_eq s w)) at_w (λ d. ap (λ k. get_or (set old w a) k d) (sym same) ∙ at_w d) joined room
    where
      at_w : (d : X) → get_or (set old w a) w d ≡ a
      at_w d = get_or-set_same old w a d inside

      was : (d : X) → get_or old w x ≡ get_or old w d
      was d = get_or_default old w x d inside

      each : (s : ℕ) (d : X) → (s ≡ w) ⊎ (s ≡ w → ⊥) → Each s (get_or old s d) (get_or (set old w a) s d)
      each s d (inl at) =
          subst (λ k. Each k (get_or old k d) (get_or (set old w a) k d)) (sym at)
          (subst (λ z. Each w (get_or old w d) z) (sym (at_w d)) (subst (λ z. Each w z a) (was d) (here w true true (get_or old w x) a (eq-eqb w w refl) (eq-eqb r w (sym same)) step)))
      each s d (inr ne) = subst (λ z. Each s (get_or old s d) z) (sym (get_or-set_other old w s a d ne)) (other s (get_or old s d) ne (λ h. ne (h ∙ sym same)))

  module _ (old front back : List X) (is : old ≡ front ++ back) (x y a b : X) where
    -- the writer's end comes to the front, and the reader's to the back
    pub opened_before : length front ≡ r → w < r → r < length old → x ≡ get_or front w x → y ≡ get_or back 0 y →
        OpensHere true false (get_or front w x) a → OpensHere false true (get_or back 0 y) b → joins a b e → slots_of a e ≡ capacity →
        Whole old (set front w a ++ set back 0 b)
    opened_before count less inside x_is y_is at_w at_r joined room =
        whole old (set front w a ++ set back 0 b) a b
        (each_place old front back r w is count less inside x y a b x_is y_is Each
        (here w true false x a (eq-eqb w w refl) (ne_eqb r w (λ h. omega (arith, h, less))) (subst (λ z. OpensHere true false z a) (sym x_is) at_w))
        (here r false true y b (ne_eqb w r (λ h. omega (arith, h, less))) (eq-eqb r r refl) (subst (λ z. OpensHere false true z b) (sym y_is) at_r))
        (λ s z nw nr. other s z nw nr))
        (front_now old front back r w is count less inside x y a b x_is y_is) (back_now old front back r w is count less inside x y a b x_is y_is) joined room

    -- the reader's end comes to the front, and the writer's to the back
    pub opened_after : length front ≡ w → r < w → w < length old → x ≡ get_or front r x → y ≡ get_or back 0 y →
        OpensHere false true (get_or front r x) a → OpensHere true false (get_or back 0 y) b → joins b a e → slots_of b e ≡ capacity →
        Whole old (set front r a ++ set back 0 b)
    opened_after count less inside x_is y_is at_r at_w joined room =
        whole old (set front r a ++ set back 0 b) b a
        (each_place old front back w r is count less inside x y a b x_is y_is Each
        (here r false true x a (ne_eqb w r (λ h. omega (arith, h, less))) (eq-eqb r r refl) (subst (λ z. OpensHere false true z a) (sym x_is) at_r))
        (here w true false y b (eq-eqb w w refl) (ne_eqb r w (λ h. omega (arith, h, less))) (subst (λ z. OpensHere true false z b) (sym y_is) at_w))
        (λ s z nr nw. other s z nw nr))
        (back_now old front back w r is count less inside x y a b x_is y_is) (front_now old front back w r is count less inside x y a b x_is y_is) joined room
