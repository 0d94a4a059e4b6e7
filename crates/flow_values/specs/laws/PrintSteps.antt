-- What is still to be read of a value, and what an item in front of it leaves.
use Rattle.std.specs.Prelude.{◌≡◌, ℕ, suc, ◌+◌, Bool, true, false, List, [], ◌∷◌, ◌++◌, Option, Some, None, cond, codes, length, refl, ◌↔◌}
use Rattle.std.proofs.Common.{arith, sym, ◌∙◌, ap, subst, append_assoc, append-nil}
use Rattle.snesl_data.specs.Types.{Ty, int, bool, pair, vec, seq}
use Rattle.snesl_data.specs.Values.{Value, Values, an_int, a_bool, a_pair, a_vec, a_seq, no_values, more_values, list_of}
use Rattle.snesl_data.specs.Text.{text, further_text}
use Rattle.flow_messages.specs.Cells.{Cell, flag, int as int_cell, datum}
use Rattle.flow_base.specs.Lists.{Lists, push}
use Rattle.flow_base.specs.Flags.{F, T, elements}
use Rattle.flow_values.specs.Shapes.{is_a, all_are, cell_for}
use Rattle.flow_values.specs.Flats.{no_cells, only_at, ◌⊕◌, width, spread, spread_all}
use Rattle.flow_values.specs.laws.Sides.{sides_assoc, nothing_more, push_is, push_same, first_only, only_moves, spread_below}
use Rattle.flow_values.specs.laws.Kinds.{both_true, and_true}
use Rattle.flow_values.specs.PrintMachine.{closing_brackets, comma_if, Pending, whole, further, port_of, PrintReading, print_reading, entered_value, continued, next}

-- what further elements put on the edges, and their flags
abbrev pub segment : Ty → ℕ → Values → Lists Cell
segment item p vs = only_at p (elements (length (list_of vs)) (T ∷ [])) ⊕ spread_all item (p + 1) (list_of vs)

-- a value of the type comes first, and P holds of its text and of what comes then
abbrev pub ValueFirst : Ty → ℕ → (List ℕ → Lists Cell → Type 0) → Lists Cell → Type 0
ValueFirst ty p P i = (v : Value) × (rest : Lists Cell) × (is_a ty v ≡ true) × (i ≡ spread ty p v ⊕ rest) × P (text v) rest

-- flags and their elements come first, and P holds of these and of what comes then
abbrev pub SegmentFirst : Ty → ℕ → (Values → Lists Cell → Type 0) → Lists Cell → Type 0
SegmentFirst item p P i = (vs : Values) × (rest : Lists Cell) × (all_are item vs ≡ true) × (i ≡ segment item p vs ⊕ rest) × P vs rest

-- what is to be read is just this, and the text comes to be that
abbrev pub PrintsRest : List Pending → List ℕ → Lists Cell → List ℕ → Type 0
PrintsRest [] before i t = (i ≡ no_cells) × (t ≡ before)
PrintsRest (whole behind ty p c ∷ after) before i t = ValueFirst ty p (λ said rest. PrintsRest after ((before ++ comma_if behind) ++ (said ++ closing_brackets c)) rest t) i
PrintsRest (further item p c ∷ after) before i t = SegmentFirst item p (λ vs rest. PrintsRest after (before ++ (further_text vs ++ (codes "}" ++ closing_brackets c))) rest t) i

abbrev pub PrintsRestAfter : Option PrintReading → Lists Cell → List ℕ → Type 0
PrintsRestAfter None i t = ⊥
PrintsRestAfter (Some r) i t = PrintsRest r.pending r.text i t

-- the item that is in front is that of the value
one_forth : (p : ℕ) (y x : Cell) (i rest : Lists Cell) → push p x i ≡ only_at p (y ∷ []) ⊕ rest → (x ≡ y) × (i ≡ rest)
one_forth p y x i rest e = push_same p x y i rest (e ∙ push_is p y rest)

one_back : (p : ℕ) (x : Cell) (i : Lists Cell) → push p x i ≡ only_at p (x ∷ []) ⊕ i
one_back p x i = sym (push_is p x i)

module _ (p c : ℕ) (after : List Pending) (before t : List ℕ) (i : Lists Cell) where
  abbrev Then : List ℕ → Lists Cell → Type 0
  Then said rest = PrintsRest after (before ++ (said ++ closing_brackets c)) rest t

  int_law : (x : Cell) → ValueFirst int p Then (push p x i) ↔ PrintsRestAfter (entered_value int p c x after before) i t
  int_law x = (λ h. forth x h.0 h.1 h.2 h.3 h.4, back x)
    where
      forth : (x : Cell) (v : Value) (rest : Lists Cell) → is_a int v ≡ true → push p x i ≡ spread int p v ⊕ rest → Then (text v) rest → PrintsRestAfter (entered_value int p c x after before) i t
      forth x (an_int n) rest is e h =
          let same = one_forth p (cell_for (an_int n)) x i rest e in
          subst (λ y. PrintsRestAfter (entered_value int p c y after before) i t) (sym same.0) (subst (λ l. Then (text (an_int n)) l) (sym same.1) h)
      forth x _ rest is e h = absurd (cc)

      back : (x : Cell) → PrintsRestAfter (entered_value int p c x after before) i t → ValueFirst int p Then (push p x i)
      back (int_cell n) h = (an_int n, i, refl, one_back p (int_cell n) i, h)
      back _ h = absurd h

  bool_law : (x : Cell) → ValueFirst bool p Then (push p x i) ↔ PrintsRestAfter (entered_value bool p c x after before) i t
  bool_law x = (λ h. forth x h.0 h.1 h.2 h.3 h.4, back x)
    where
      said : (b : Bool) → Then (text (a_bool b)) i → PrintsRestAfter (entered_value bool p c (flag b) after before) i t
      said true h = h
      said false h = h

      forth : (x : Cell) (v : Value) (rest : Lists Cell) → is_a bool v ≡ true → push p x i ≡ spread bool p v ⊕ rest → Then (text v) rest → PrintsRestAfter (entered_value bool p c x after before) i t
      forth x (a_bool b) rest is e h =
          let same = one_forth p (cell_for (a_bool b)) x i rest e in
          subst (λ y. PrintsRestAfter (entered_value bool p c y after before) i t) (sym same.0) (said b (subst (λ l. Then (text (a_bool b)) l) (sym same.1) h))
      forth x _ rest is e h = absurd (cc)

      back : (x : Cell) → PrintsRestAfter (entered_value bool p c x after before) i t → ValueFirst bool p Then (push p x i)
      back (flag true) h = (a_bool true, i, refl, one_back p (flag true) i, h)
      back (flag false) h = (a_bool false, i, refl, one_back p (flag false) i, h)
      back _ h = absurd h

  vec_law : (item : Ty) (x : Cell) → ValueFirst (vec item) p Then (push p x i) ↔ PrintsRestAfter (entered_value (vec item) p c x after before) i t
  vec_law item x = (λ h. forth x h.0 h.1 h.2 h.3 h.4, back x)
    where
      forth : (x : Cell) (v : Value) (rest : Lists Cell) → is_a (vec item) v ≡ true → push p x i ≡ spread (vec item) p v ⊕ rest → Then (text v) rest →
          PrintsRestAfter (entered_value (vec item) p c x after before) i t
      forth x (a_vec vs) rest is e h =
          let same = one_forth p (cell_for (a_vec vs)) x i rest e in
          let there : PrintsRestAfter (entered_value (vec item) p c (datum (a_vec vs)) after before) i t = rw is (subst (λ l. Then (text (a_vec vs)) l) (sym same.1) h) in
          subst (λ y. PrintsRestAfter (entered_value (vec item) p c y after before) i t) (sym same.0) there
      forth x _ rest is e h = absurd (cc)

      of_datum : (v : Value) (b : Bool) → is_a (vec item) v ≡ b →
          PrintsRestAfter (cond b (Some (print_reading after (before ++ (text v ++ closing_brackets c)))) None) i t →
          ValueFirst (vec item) p Then (push p (datum v) i)
      of_datum (a_vec vs) true e h = (a_vec vs, i, e, one_back p (datum (a_vec vs)) i, h)
      of_datum _ true e h = absurd (cc)
      of_datum _ false e h = absurd h

      back : (x : Cell) → PrintsRestAfter (entered_value (vec item) p c x after before) i t → ValueFirst (vec item) p Then (push p x i)
      back (datum v) h = of_datum v (is_a (vec item) v) refl h
      back _ h = absurd h

-- no elements, and their flag
pub none_is : (item : Ty) (p : ℕ) (rest : Lists Cell) → segment item p no_values ⊕ rest ≡ push p T rest
none_is item p rest = ap (λ l. l ⊕ rest) (nothing_more (only_at p (T ∷ []))) ∙ push_is p T rest

-- a first element, after its flag
pub more_is : (item : Ty) (p : ℕ) (e : Value) (es : Values) (rest : Lists Cell) → segment item p (more_values e es) ⊕ rest ≡ push p F (spread item (p + 1) e ⊕ (segment item p es ⊕ rest))
more_is item p e es rest =
    let one = spread item (p + 1) e in
    let others = spread_all item (p + 1) (list_of es) in
    let flags = only_at p (elements (length (list_of es)) (T ∷ [])) in
    sides_assoc (only_at p (F ∷ elements (length (list_of es)) (T ∷ []))) (one ⊕ others) rest
    ∙ first_only p F (elements (length (list_of es)) (T ∷ [])) ((one ⊕ others) ⊕ rest)
    ∙ ap (push p F) (
    ap (λ l. flags ⊕ l) (sides_assoc one others rest)
    ∙ sym (sides_assoc flags one (others ⊕ rest))
    ∙ ap (λ l. l ⊕ (others ⊕ rest)) (only_moves p (elements (length (list_of es)) (T ∷ [])) one (spread_below item (p + 1) e p (omega arith)))
    ∙ sides_assoc one flags (others ⊕ rest)
    ∙ ap (λ l. one ⊕ l) (sym (sides_assoc flags others rest))
    )

module _ (item : Ty) (p : ℕ) (P : Values → Lists Cell → Type 0) (i : Lists Cell) where
  -- at the last flag there are no elements
  last_flag : SegmentFirst item p P (push p T i) ↔ P no_values i
  last_flag = (λ h. forth h.0 h.1 h.3 h.4, λ h. (no_values, i, refl, sym (none_is item p i), h))
    where
      forth : (vs : Values) (rest : Lists Cell) → push p T i ≡ segment item p vs ⊕ rest → P vs rest → P no_values i
      forth no_values rest e h = let same = push_same p T T i rest (e ∙ none_is item p rest) in subst (λ l. P no_values l) (sym same.1) h
      forth (more_values v vs) rest e h = let same = push_same p T F i (spread item (p + 1) v ⊕ (segment item p vs ⊕ rest)) (e ∙ more_is item p v vs rest) in let never = same.0 in absurd (cc)

  -- at another flag there is an element, and then further ones
  abbrev ElementFirst : Type 0
  ElementFirst = (v : Value) × (r : Lists Cell) × (is_a item v ≡ true) × (i ≡ spread item (p + 1) v ⊕ r) × SegmentFirst item p (λ vs rest. P (more_values v vs) rest) r

  element_flag : SegmentFirst item p P (push p F i) ↔ ElementFirst
  element_flag = (λ h. forth h.0 h.1 h.2 h.3 h.4, back)
    where
      forth : (vs : Values) (rest : Lists Cell) → all_are item vs ≡ true → push p F i ≡ segment item p vs ⊕ rest → P vs rest → ElementFirst
      forth no_values rest is e h = let same = push_same p F T i rest (e ∙ none_is item p rest) in let never = same.0 in absurd (cc)
      forth (more_values v vs) rest is e h =
          let same = push_same p F F i (spread item (p + 1) v ⊕ (segment item p vs ⊕ rest)) (e ∙ more_is item p v vs rest) in
          let are = both_true (is_a item v) (all_are item vs) is in
          (v, segment item p vs ⊕ rest, are.0, same.1, (vs, rest, are.1, refl, h))

      back : ElementFirst → SegmentFirst item p P (push p F i)
      back h =
          let g = h.4 in (
            more_values h.0 g.0,
            g.1,
            and_true (is_a item h.0) (all_are item g.0) h.2 g.2,
            ap (push p F) (h.3 ∙ ap (λ l. spread item (p + 1) h.0 ⊕ l) g.3) ∙ sym (more_is item p h.0 g.0 g.1),
            g.4,
          )

  -- no other item comes first
  other_item : (x : Cell) → (x ≡ F → ⊥) → (x ≡ T → ⊥) → SegmentFirst item p P (push p x i) → ⊥
  other_item x nf nt h = go h.0 h.1 h.3
    where
      go : (vs : Values) (rest : Lists Cell) → push p x i ≡ segment item p vs ⊕ rest → ⊥
      go no_values rest e = nt (push_same p x T i rest (e ∙ none_is item p rest)).0
      go (more_values v vs) rest e = nf (push_same p x F i (spread item (p + 1) v ⊕ (segment item p vs ⊕ rest)) (e ∙ more_is item p v vs rest)).0

-- texts, however they are put together
pair_text : (s a b l : List ℕ) → s ++ ((codes "(" ++ a ++ codes "," ++ b ++ codes ")") ++ l) ≡ (((s ++ codes "(") ++ (a ++ [])) ++ codes ",") ++ (b ++ (codes ")" ++ l))
pair_text s a b l = simp (append_assoc, append-nil) refl

seq_text : (s a b l : List ℕ) → s ++ ((codes "{" ++ (a ++ b) ++ codes "}") ++ l) ≡ (((s ++ codes "{") ++ []) ++ (a ++ [])) ++ (b ++ (codes "}" ++ l))
seq_text s a b l = simp (append_assoc, append-nil) refl

further_is : (s a b l : List ℕ) → s ++ ((codes "," ++ a ++ b) ++ (codes "}" ++ l)) ≡ (((s ++ codes ",") ++ []) ++ (a ++ [])) ++ (b ++ (codes "}" ++ l))
further_is s a b l = simp (append_assoc, append-nil) refl

-- the first of a pair comes first
module _ (first second : Ty) (p c : ℕ) (after : List Pending) (before t : List ℕ) (i : Lists Cell) where
  abbrev second_next : List Pending
  second_next = whole true second (p + width first) (suc c) ∷ after

  abbrev Pair : List ℕ → Lists Cell → Type 0
  Pair said rest = PrintsRest after (before ++ (said ++ closing_brackets c)) rest t

  abbrev Half : List ℕ → Lists Cell → Type 0
  Half said rest = PrintsRest second_next ((before ++ codes "(") ++ (said ++ closing_brackets 0)) rest t

  pair_first : ValueFirst (pair first second) p Pair i ↔ ValueFirst first p Half i
  pair_first = (λ h. forth h.0 h.1 h.2 h.3 h.4, λ h. back h.0 h.1 h.2 h.3 h.4)
    where
      forth : (v : Value) (rest : Lists Cell) → is_a (pair first second) v ≡ true → i ≡ spread (pair first second) p v ⊕ rest → Pair (text v) rest → ValueFirst first p Half i
      forth (a_pair a b) rest is e h =
          let are = both_true (is_a first a) (is_a second b) is in
          let left = spread first p a in
          let right = spread second (p + width first) b in
          (a, right ⊕ rest, are.0, e ∙ sides_assoc left right rest, (b, rest, are.1, refl, subst (λ s. PrintsRest after s rest t) (pair_text before (text a) (text b) (closing_brackets c)) h))
      forth _ rest is e h = absurd (cc)

      back : (v : Value) (rest : Lists Cell) → is_a first v ≡ true → i ≡ spread first p v ⊕ rest → Half (text v) rest → ValueFirst (pair first second) p Pair i
      back a more is e g =
          let b = g.0 in
          let rest = g.1 in
          let left = spread first p a in
          let right = spread second (p + width first) b in (
            a_pair a b,
            rest,
            and_true (is_a first a) (is_a second b) is g.2,
            e ∙ ap (λ l. left ⊕ l) g.3 ∙ sym (sides_assoc left right rest),
            subst (λ s. PrintsRest after s rest t) (sym (pair_text before (text a) (text b) (closing_brackets c))) g.4,
          )

module _ (item : Ty) (p c : ℕ) (after : List Pending) (before t : List ℕ) (i : Lists Cell) where
  abbrev Seq : List ℕ → Lists Cell → Type 0
  Seq said rest = PrintsRest after (before ++ (said ++ closing_brackets c)) rest t

  abbrev All : Values → Lists Cell → Type 0
  All vs rest = Seq (text (a_seq vs)) rest

  abbrev Further : Values → Lists Cell → Type 0
  Further vs rest = PrintsRest after (before ++ (further_text vs ++ (codes "}" ++ closing_brackets c))) rest t

  abbrev elements_next : List Pending
  elements_next = whole false item (p + 1) 0 ∷ further item p c ∷ after

  as_segment : (j : Lists Cell) → ValueFirst (seq item) p Seq j ↔ SegmentFirst item p All j
  as_segment j = (λ h. forth h.0 h.1 h.2 h.3 h.4, λ h. (a_seq h.0, h.1, h.2, h.3, h.4))
    where
      forth : (v : Value) (rest : Lists Cell) → is_a (seq item) v ≡ true → j ≡ spread (seq item) p v ⊕ rest → Seq (text v) rest → SegmentFirst item p All j
      forth (a_seq vs) rest is e h = (vs, rest, is, e, h)
      forth _ rest is e h = absurd (cc)

  -- an element, and then further ones, whose texts are put together so
  element_next : (P : Values → Lists Cell → Type 0) (said : List ℕ) →
      ((v : Value) (vs : Values) (rest : Lists Cell) →
      P (more_values v vs) rest ↔ PrintsRest after
      ((((before ++ said) ++ []) ++ (text v ++ [])) ++ (further_text vs ++ (codes "}" ++ closing_brackets c))) rest t) →
      ElementFirst item p P i ↔ PrintsRest elements_next (before ++ said) i t
  element_next P said same = (
    λ h. let g = h.4 in (h.0, h.1, h.2, h.3, (g.0, g.1, g.2, g.3, (same h.0 g.0 g.1).0 g.4)),
    λ h. let g = h.4 in (h.0, h.1, h.2, h.3, (g.0, g.1, g.2, g.3, (same h.0 g.0 g.1).1 g.4)),
  )

  by_text : (s u : List ℕ) (rest : Lists Cell) → s ≡ u → PrintsRest after s rest t ↔ PrintsRest after u rest t
  by_text s u rest e = (λ h. subst (λ l. PrintsRest after l rest t) e h, λ h. subst (λ l. PrintsRest after l rest t) (sym e) h)

  seq_law : (x : Cell) → ValueFirst (seq item) p Seq (push p x i) ↔ PrintsRestAfter (entered_value (seq item) p c x after before) i t
  seq_law (flag true) =
      let a = as_segment (push p T i) in
      let b = last_flag item p All i in
      (λ h. b.0 (a.0 h), λ h. a.1 (b.1 h))
  seq_law (flag false) =
      let a = as_segment (push p F i) in
      let b = element_flag item p All i in
      let d = element_next All (codes "{") (λ v vs rest. by_text _ _ rest (seq_text before (text v) (further_text vs) (closing_brackets c))) in
      (λ h. d.0 (b.0 (a.0 h)), λ h. a.1 (b.1 (d.1 h)))
  seq_law x = (λ h. other_item item p All i x (λ e. absurd (cc)) (λ e. absurd (cc)) ((as_segment (push p x i)).0 h), λ h. absurd h)

  pub further_law : (x : Cell) → SegmentFirst item p Further (push p x i) ↔ PrintsRestAfter (continued item p c x after before) i t
  further_law (flag true) = last_flag item p Further i
  further_law (flag false) =
      let b = element_flag item p Further i in
      let d = element_next Further (codes ",") (λ v vs rest. by_text _ _ rest (further_is before (text v) (further_text vs) (closing_brackets c))) in
      (λ h. d.0 (b.0 h), λ h. b.1 (d.1 h))
  further_law x = (λ h. other_item item p Further i x (λ e. absurd (cc)) (λ e. absurd (cc)) h, λ h. absurd h)

-- an item in front of a value
pub entered_law : (ty : Ty) (p c : ℕ) (after : List Pending) (before t : List ℕ) (i : Lists Cell) (x : Cell) →
    ValueFirst ty p (λ said rest. PrintsRest after (before ++ (said ++ closing_brackets c)) rest t) (push p x i) ↔ PrintsRestAfter (entered_value ty p c x after before) i t
entered_law int p c after before t i x = int_law p c after before t i x
entered_law bool p c after before t i x = bool_law p c after before t i x
entered_law (vec item) p c after before t i x = vec_law p c after before t i item x
entered_law (pair first second) p c after before t i x =
    let a = pair_first first second p c after before t (push p x i) in
    let b = entered_law first p 0 (whole true second (p + width first) (suc c) ∷ after) (before ++ codes "(") t i x in
    (λ h. b.0 (a.0 h), λ h. a.1 (b.1 h))
entered_law (seq item) p c after before t i x = seq_law item p c after before t i x

-- an item in front of what is still to be read
pub next_law : (pending : Pending) (after : List Pending) (before t : List ℕ) (i : Lists Cell) (x : Cell) →
    PrintsRest (pending ∷ after) before (push (port_of pending) x i) t ↔ PrintsRestAfter (next pending x after before) i t
next_law (whole behind ty p c) after before t i x = entered_law ty p c after (before ++ comma_if behind) t i x
next_law (further item p c) after before t i x = further_law item p c after before t i x
