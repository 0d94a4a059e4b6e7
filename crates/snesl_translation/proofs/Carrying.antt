-- Streams that are there stay there, and what they carry.
use Rattle.std.specs.Prelude.{◌≡◌, ℕ, zero, suc, ◌+◌, true, List, [], ◌∷◌, ◌++◌, map, length, Option, Some, None, option_map, refl}
use Rattle.std.specs.List.{slice_get}
use Rattle.std.proofs.Common.{arith, sym, ap, ◌∙◌, subst, length-append, append_assoc, append-nil}
use Rattle.std.proofs.Math.Path.{ap₂}
use Rattle.std.proofs.lemmas.Bool.{and_parts}
use Rattle.snesl_data.specs.Types.{Ty, int, bool, pair, vec, seq}
use Rattle.snesl_data.specs.Values.{Value, a_pair, a_seq, list_of, values_of}
use Rattle.flow_messages.specs.Cells.{Cell}
use Rattle.flow_base.specs.Columns.{Columns}
use Rattle.flow_base.specs.Flags.{flags, concatenation, lengths}
use Rattle.flow_values.specs.Shapes.{is_a, kinds_of, cell_for, first_of, second_of, elements_of, all_are}
use Rattle.flow_values.specs.Flats.{width}
use Rattle.flow_nodes.specs.functions.Lists.{bind}
use Rattle.flow_nodes.specs.functions.Made.{columns_of_values}
use Rattle.flow_nodes.proofs.OfFunctions.Edges.{laid_pair, laid_seq, laid_length}
use Rattle.flow_nodes.proofs.OfFunctions.ValueDecoding.{AllAre, all_split, all_cons, all_joined, values_list}
use Rattle.flow_nodes.specs.plans.Plans.{Operation, made_by, streams_at, run}
use Rattle.snesl_translation.specs.Wires.{Wires, wire, two, segments, type_of_wires, AreWhole, IsSingle, numbers_of, wires_from, stream_of, first_wires, second_wires, item_wires}
use Rattle.snesl_translation.specs.Makings.{Making, and_then, stepped, tested}
use Rattle.snesl_translation.specs.Carrying.{Carries, Makes}
use Rattle.snesl_translation.proofs.Running.{in_turn}

-- streams at numbers

get_grown : (streams more : Columns) (n : ℕ) (c : List Cell) → slice_get streams n ≡ Some c → slice_get (streams ++ more) n ≡ Some c
get_grown [] more n c e = absurd (cc)
get_grown (s ∷ streams) more zero c e = e
get_grown (s ∷ streams) more (suc n) c e = get_grown streams more n c e

-- both parts of a list of numbers
one_there : (n : ℕ) (ns : List ℕ) (streams cs : Columns) → streams_at (n ∷ ns) streams ≡ Some cs
    → (c : List Cell) × (ds : Columns) × (slice_get streams n ≡ Some c) × (streams_at ns streams ≡ Some ds) × (cs ≡ c ∷ ds)
one_there n ns streams cs e = go (slice_get streams n) (streams_at ns streams) refl refl e
  where
    go : (o : Option (List Cell)) (p : Option Columns) → slice_get streams n ≡ o → streams_at ns streams ≡ p
        → bind o (λ c. option_map (λ ds. c ∷ ds) p) ≡ Some cs
        → (c : List Cell) × (ds : Columns) × (slice_get streams n ≡ Some c) × (streams_at ns streams ≡ Some ds) × (cs ≡ c ∷ ds)
    go None p e f g = absurd (cc)
    go (Some c) None e f g = absurd (cc)
    go (Some c) (Some ds) e f g = (c, ds, e, f, let same : c ∷ ds ≡ cs = cc in sym same)

both_there : (n : ℕ) (ns : List ℕ) (streams : Columns) (c : List Cell) (ds : Columns) → slice_get streams n ≡ Some c → streams_at ns streams ≡ Some ds
    → streams_at (n ∷ ns) streams ≡ Some (c ∷ ds)
both_there n ns streams c ds e f = ap₂ (λ o p. bind o (λ c. option_map (λ ds. c ∷ ds) p)) e f

pub grown : (ns : List ℕ) (streams more cs : Columns) → streams_at ns streams ≡ Some cs → streams_at ns (streams ++ more) ≡ Some cs
grown [] streams more cs e = e
grown (n ∷ ns) streams more cs e =
    let p = one_there n ns streams cs e in
    both_there n ns (streams ++ more) p.0 p.1 (get_grown streams more n p.0 p.2) (grown ns streams more p.1 p.3) ∙ ap Some (sym p.4)

pub streams_joined : (ns ms : List ℕ) (streams cs ds : Columns) → streams_at ns streams ≡ Some cs → streams_at ms streams ≡ Some ds
    → streams_at (ns ++ ms) streams ≡ Some (cs ++ ds)
streams_joined [] ms streams cs ds e f = let same : [] ≡ cs = cc in subst (λ l. streams_at ms streams ≡ Some (l ++ ds)) same f
streams_joined (n ∷ ns) ms streams cs ds e f =
    let p = one_there n ns streams cs e in
    both_there n (ns ++ ms) streams p.0 (p.1 ++ ds) p.2 (streams_joined ns ms streams p.1 ds p.3 f) ∙ ap (λ l. Some (l ++ ds)) (sym p.4)

-- new streams

get_after : (front more : Columns) (c : List Cell) → slice_get (front ++ (c ∷ more)) (length front) ≡ Some c
get_after [] more c = refl
get_after (s ∷ front) more c = get_after front more c

-- a list of so many and so many is two
split : {A : Type 0} (m n : ℕ) (cs : List A) → length cs ≡ m + n → (front : List A) × (rest : List A) × (cs ≡ front ++ rest) × (length front ≡ m) × (length rest ≡ n)
split zero n cs e = ([], cs, refl, refl, omega (arith))
split (suc m) n [] e = absurd (omega (arith))
split (suc m) n (c ∷ cs) e =
    let s = split m n cs (omega (arith)) in
    (c ∷ s.0, s.1, ap (λ l. c ∷ l) s.2, omega (arith, s.3), s.4)

one_column : (k : ℕ) (front more cs : Columns) → k ≡ length front → length cs ≡ 1 → streams_at (k ∷ []) (front ++ (cs ++ more)) ≡ Some cs
one_column k front more [] e one = absurd (omega (arith))
one_column k front more (c ∷ []) e one = both_there k [] (front ++ (c ∷ more)) c [] (ap (slice_get (front ++ (c ∷ more))) e ∙ get_after front more c) refl
one_column k front more (c ∷ d ∷ cs) e one = absurd (omega (arith))

-- streams that are added after others are those of the wires from there on
from_there : (t : Ty) (k : ℕ) (front more cs : Columns) → k ≡ length front → length cs ≡ width t → streams_at (numbers_of (wires_from t k)) (front ++ (cs ++ more)) ≡ Some cs
from_there int k front more cs e w = one_column k front more cs e w
from_there bool k front more cs e w = one_column k front more cs e w
from_there (vec item) k front more cs e w = one_column k front more cs e w
from_there (pair s t) k front more cs e w =
    let p = split (width s) (width t) cs (w ∙ length-append (kinds_of s) (kinds_of t)) in
    let first : streams_at (numbers_of (wires_from s k)) (front ++ (p.0 ++ (p.1 ++ more))) ≡ Some p.0 = from_there s k front (p.1 ++ more) p.0 e p.3 in
    let behind : k + width s ≡ length (front ++ p.0) = omega (arith, e, p.3, length-append front p.0) in
    let second : streams_at (numbers_of (wires_from t (k + width s))) ((front ++ p.0) ++ (p.1 ++ more)) ≡ Some p.1 = from_there t (k + width s) (front ++ p.0) more p.1 behind p.4 in
    let same : (front ++ p.0) ++ (p.1 ++ more) ≡ front ++ (cs ++ more) = append_assoc front p.0 (p.1 ++ more)
    ∙ ap (λ l. front ++ l) (sym (append_assoc p.0 p.1 more) ∙ ap (λ l. l ++ more) (sym p.2)) in
    let one : streams_at (numbers_of (wires_from s k)) (front ++ (cs ++ more)) ≡ Some p.0 =
    subst (λ l. streams_at (numbers_of (wires_from s k)) l ≡ Some p.0) (sym (append_assoc front p.0 (p.1 ++ more)) ∙ same) first in
    let other : streams_at (numbers_of (wires_from t (k + width s))) (front ++ (cs ++ more)) ≡ Some p.1 = subst (λ l. streams_at (numbers_of (wires_from t (k + width s))) l ≡ Some p.1) same second in
    streams_joined (numbers_of (wires_from s k)) (numbers_of (wires_from t (k + width s))) (front ++ (cs ++ more)) p.0 p.1 one other ∙ ap Some (sym p.2)
from_there (seq item) k front more [] e w = absurd (omega (arith))
from_there (seq item) k front more (c ∷ cs) e w =
    let behind : suc k ≡ length (front ++ (c ∷ [])) = omega (arith, e, length-append front (c ∷ [])) in
    let items : streams_at (numbers_of (wires_from item (suc k))) ((front ++ (c ∷ [])) ++ (cs ++ more)) ≡ Some cs = from_there item (suc k) (front ++ (c ∷ [])) more cs behind (omega (arith)) in
    both_there k (numbers_of (wires_from item (suc k))) (front ++ (c ∷ (cs ++ more))) c cs (ap (slice_get (front ++ (c ∷ (cs ++ more)))) e ∙ get_after front (cs ++ more) c)
    (subst (λ l. streams_at (numbers_of (wires_from item (suc k))) l ≡ Some cs) (append_assoc front (c ∷ []) (cs ++ more)) items)

pub fresh : (t : Ty) (streams cs : Columns) → length cs ≡ width t → streams_at (numbers_of (wires_from t (length streams))) (streams ++ cs) ≡ Some cs
fresh t streams cs w = subst (λ l. streams_at (numbers_of (wires_from t (length streams))) (streams ++ l) ≡ Some cs) (append-nil cs) (from_there t (length streams) streams [] cs refl w)

pub wires_type : (t : Ty) (k : ℕ) → type_of_wires (wires_from t k) ≡ t
wires_type int k = refl
wires_type bool k = refl
wires_type (vec item) k = refl
wires_type (pair s t) k = ap₂ pair (wires_type s k) (wires_type t (k + width s))
wires_type (seq item) k = ap seq (wires_type item (suc k))

pub wires_whole : (t : Ty) (k : ℕ) → AreWhole (wires_from t k)
wires_whole int k = tt
wires_whole bool k = tt
wires_whole (vec item) k = tt
wires_whole (pair s t) k = (wires_whole s k, wires_whole t (k + width s))
wires_whole (seq item) k = wires_whole item (suc k)

-- as many streams as the type has edges
pub numbers_width : (w : Wires) → AreWhole w → length (numbers_of w) ≡ width (type_of_wires w)
numbers_width (wire int k) h = refl
numbers_width (wire bool k) h = refl
numbers_width (wire (vec item) k) h = refl
numbers_width (wire (pair s t) k) h = absurd h
numbers_width (wire (seq item) k) h = absurd h
numbers_width (two u v) h =
    length-append (numbers_of u) (numbers_of v) ∙ ap₂ (λ a b. a + b) (numbers_width u h.0) (numbers_width v h.1)
    ∙ sym (length-append (kinds_of (type_of_wires u)) (kinds_of (type_of_wires v)))
numbers_width (segments f items) h = ap suc (numbers_width items h)

-- what is carried

pub carried_on : (streams more : Columns) (w : Wires) (t : Ty) (vs : List Value) → Carries streams w t vs → Carries (streams ++ more) w t vs
carried_on streams more w t vs c = record { of_type = c.of_type; whole = c.whole; are = c.are; there = grown (numbers_of w) streams more (columns_of_values t vs) c.there }

-- a step that writes what values put on the edges of a type makes these
pub stepped_makes : (streams : Columns) (at : ℕ) (operation : Operation) (reads : List ℕ) (t : Ty) (read : Columns) (vs : List Value) → streams_at reads streams ≡ Some read
    → made_by operation read ≡ Some (columns_of_values t vs) → all_are t (values_of vs) ≡ true → Makes streams t (stepped at operation reads t (length streams)) vs
stepped_makes streams at operation reads t read vs there made are = (
  columns_of_values t vs,
  ap (λ o. bind o (λ read. bind (made_by operation read) (λ written. Some (streams ++ written)))) there
      ∙ ap (λ o. bind o (λ written. Some (streams ++ written))) made,
  omega (arith, length-append streams (columns_of_values t vs), laid_length t vs),
  record { of_type = wires_type t (length streams); whole = wires_whole t (length streams); are = are; there = fresh t streams (columns_of_values t vs) (laid_length t vs) },
)

pub stepped_stops : (streams : Columns) (at : ℕ) (operation : Operation) (reads : List ℕ) (t : Ty) (next : ℕ) (read : Columns) → streams_at reads streams ≡ Some read
    → made_by operation read ≡ None → run (stepped at operation reads t next).steps streams ≡ None
stepped_stops streams at operation reads t next read there made =
    ap (λ o. bind o (λ read. bind (made_by operation read) (λ written. Some (streams ++ written)))) there
    ∙ ap (λ o. bind o (λ written. Some (streams ++ written))) made

-- a step that writes nothing
pub tested_runs : {A : Type 0} (streams : Columns) (at : ℕ) (operation : Operation) (reads : List ℕ) (given : A) (next : ℕ) (read : Columns) → streams_at reads streams ≡ Some read
    → made_by operation read ≡ Some [] → run (tested at operation reads given next).steps streams ≡ Some (streams ++ [])
tested_runs streams at operation reads given next read there made =
    ap (λ o. bind o (λ read. bind (made_by operation read) (λ written. Some (streams ++ written)))) there
    ∙ ap (λ o. bind o (λ written. Some (streams ++ written))) made

pub tested_stops : {A : Type 0} (streams : Columns) (at : ℕ) (operation : Operation) (reads : List ℕ) (given : A) (next : ℕ) (read : Columns) → streams_at reads streams ≡ Some read
    → made_by operation read ≡ None → run (tested at operation reads given next).steps streams ≡ None
tested_stops streams at operation reads given next read there made =
    ap (λ o. bind o (λ read. bind (made_by operation read) (λ written. Some (streams ++ written)))) there
    ∙ ap (λ o. bind o (λ written. Some (streams ++ written))) made

-- makings one after the other

module _ {A : Type 0} (first : Making A) (streams more : Columns) (ran : run first.steps streams ≡ Some (streams ++ more)) (next : first.next ≡ length (streams ++ more)) where
  pub then_makes : (rest : A → ℕ → Making Wires) (t : Ty) (vs : List Value) → Makes (streams ++ more) t (rest first.given (length (streams ++ more))) vs → Makes streams t (and_then first rest) vs
  unfolding and_then
  then_makes rest t vs makes =
      let later : Makes (streams ++ more) t (rest first.given first.next) vs = subst (λ k. Makes (streams ++ more) t (rest first.given k) vs) (sym next) makes in
      let grow : (streams ++ more) ++ later.0 ≡ streams ++ (more ++ later.0) = append_assoc streams more later.0 in
      let steps = (rest first.given first.next).steps in (
        more ++ later.0,
        in_turn first.steps steps streams ∙ ap (λ o. bind o (run steps)) ran ∙ later.1 ∙ ap Some grow,
        later.2 ∙ ap length grow,
        subst (λ l. Carries l (rest first.given first.next).given t vs) grow later.3,
      )

  pub rest_stops : {B : Type 0} (rest : A → ℕ → Making B) → run (rest first.given (length (streams ++ more))).steps (streams ++ more) ≡ None → run (and_then first rest).steps streams ≡ None
  unfolding and_then
  rest_stops rest stops =
      let steps = (rest first.given first.next).steps in
      let later : run steps (streams ++ more) ≡ None = subst (λ k. run (rest first.given k).steps (streams ++ more) ≡ None) (sym next) stops in
      in_turn first.steps steps streams ∙ ap (λ o. bind o (run steps)) ran ∙ later

pub first_stops : {A B : Type 0} (first : Making A) (rest : A → ℕ → Making B) (streams : Columns) → run first.steps streams ≡ None → run (and_then first rest).steps streams ≡ None
unfolding and_then
first_stops first rest streams stops =
    let steps = (rest first.given first.next).steps in
    in_turn first.steps steps streams ∙ ap (λ o. bind o (run steps)) stops

-- the parts of what is carried

-- as many streams as numbers
streams_length : (ns : List ℕ) (streams cs : Columns) → streams_at ns streams ≡ Some cs → length cs ≡ length ns
streams_length [] streams cs e = let same : [] ≡ cs = cc in ap length (sym same)
streams_length (n ∷ ns) streams cs e = let p = one_there n ns streams cs e in ap length p.4 ∙ ap suc (streams_length ns streams p.1 p.3)

-- equal lists that begin with as many items are equal part by part
parts_same : {A : Type 0} (xs ys us vs : List A) → length xs ≡ length us → xs ++ ys ≡ us ++ vs → (xs ≡ us) × (ys ≡ vs)
parts_same [] ys [] vs e same = (refl, same)
parts_same [] ys (u ∷ us) vs e same = absurd (omega (arith))
parts_same (x ∷ xs) ys [] vs e same = absurd (omega (arith))
parts_same (x ∷ xs) ys (u ∷ us) vs e same =
    let heads : x ≡ u = cc in
    let tails : xs ++ ys ≡ us ++ vs = cc in
    let others = parts_same xs ys us vs (omega (arith)) tails in
    (ap₂ (λ x l. x ∷ l) heads others.0, others.1)

-- the streams of two lists of numbers
streams_apart : (ns ms : List ℕ) (streams cs : Columns) → streams_at (ns ++ ms) streams ≡ Some cs
    → (us : Columns) × (vs : Columns) × (cs ≡ us ++ vs) × (streams_at ns streams ≡ Some us) × (streams_at ms streams ≡ Some vs)
streams_apart [] ms streams cs e = ([], cs, refl, refl, e)
streams_apart (n ∷ ns) ms streams cs e =
    let p = one_there n (ns ++ ms) streams cs e in
    let q = streams_apart ns ms streams p.1 p.3 in
    (p.0 ∷ q.0, q.1, p.4 ∙ ap (λ l. p.0 ∷ l) q.2, both_there n ns streams p.0 q.0 p.2 q.3, q.4)

streams_parted : (ns ms : List ℕ) (streams us vs : Columns) → streams_at (ns ++ ms) streams ≡ Some (us ++ vs) → length us ≡ length ns
    → (streams_at ns streams ≡ Some us) × (streams_at ms streams ≡ Some vs)
streams_parted ns ms streams us vs e n =
    let q = streams_apart ns ms streams (us ++ vs) e in
    let same = parts_same q.0 q.1 us vs (streams_length ns streams q.0 q.3 ∙ sym n) (sym q.2) in
    (q.3 ∙ ap Some same.0, q.4 ∙ ap Some same.1)

pub two_carry : (streams : Columns) (u v : Wires) (s t : Ty) (vs : List Value) → Carries streams u s (map first_of vs) → Carries streams v t (map second_of vs)
    → all_are (pair s t) (values_of vs) ≡ true → Carries streams (two u v) (pair s t) vs
two_carry streams u v s t vs cu cv are = record {
  of_type = ap₂ pair cu.of_type cv.of_type;
  whole = (cu.whole, cv.whole);
  are = are;
  there = streams_joined (numbers_of u) (numbers_of v) streams (columns_of_values s (map first_of vs)) (columns_of_values t (map second_of vs)) cu.there cv.there ∙ ap Some (sym (laid_pair s t vs));
}

-- the first parts and the second parts of pairs are of their types
parts_are : (s t : Ty) (vs : List Value) → AllAre (pair s t) vs → AllAre s (map first_of vs) × AllAre t (map second_of vs)
parts_are s t [] are = (refl, refl)
parts_are s t (a_pair a b ∷ vs) are =
    let p = all_split (pair s t) (a_pair a b) vs are in
    let q = and_parts (is_a s a) (is_a t b) p.0 in
    let others = parts_are s t vs p.1 in
    (all_cons s a (map first_of vs) q.0 others.0, all_cons t b (map second_of vs) q.1 others.1)
parts_are s t (_ ∷ vs) are = absurd (cc)

both_carry : (streams : Columns) (w : Wires) (s t : Ty) (vs : List Value) → Carries streams w (pair s t) vs
    → Carries streams (first_wires w) s (map first_of vs) × Carries streams (second_wires w) t (map second_of vs)
both_carry streams (wire int k) s t vs c = absurd (let e = c.of_type in cc)
both_carry streams (wire bool k) s t vs c = absurd (let e = c.of_type in cc)
both_carry streams (wire (vec item) k) s t vs c = absurd (let e = c.of_type in cc)
both_carry streams (wire (pair a b) k) s t vs c = absurd c.whole
both_carry streams (wire (seq item) k) s t vs c = absurd c.whole
both_carry streams (segments f items) s t vs c = absurd (let e = c.of_type in cc)
both_carry streams (two u v) s t vs c =
    let e = c.of_type in
    let su : type_of_wires u ≡ s = cc in
    let tv : type_of_wires v ≡ t = cc in
    let are = parts_are s t vs c.are in
    let long : length (columns_of_values s (map first_of vs)) ≡ length (numbers_of u) = laid_length s (map first_of vs) ∙ ap width (sym su) ∙ sym (numbers_width u c.whole.0) in
    let p = streams_parted (numbers_of u) (numbers_of v) streams (columns_of_values s (map first_of vs)) (columns_of_values t (map second_of vs)) (c.there ∙ ap Some (laid_pair s t vs)) long in
    (record { of_type = su; whole = c.whole.0; are = are.0; there = p.0 }, record { of_type = tv; whole = c.whole.1; are = are.1; there = p.1 })

pub first_carries : (streams : Columns) (w : Wires) (s t : Ty) (vs : List Value) → Carries streams w (pair s t) vs → Carries streams (first_wires w) s (map first_of vs)
first_carries streams w s t vs c = (both_carry streams w s t vs c).0

pub second_carries : (streams : Columns) (w : Wires) (s t : Ty) (vs : List Value) → Carries streams w (pair s t) vs → Carries streams (second_wires w) t (map second_of vs)
second_carries streams w s t vs c = (both_carry streams w s t vs c).1

-- sequences

pub segments_carry : (streams : Columns) (f : ℕ) (items : Wires) (t : Ty) (vs : List Value) → streams_at (f ∷ []) streams ≡ Some (flags (lengths (map elements_of vs)) ∷ [])
    → Carries streams items t (concatenation (map elements_of vs)) → all_are (seq t) (values_of vs) ≡ true → Carries streams (segments f items) (seq t) vs
segments_carry streams f items t vs there c are = record {
  of_type = ap seq c.of_type;
  whole = c.whole;
  are = are;
  there = streams_joined (f ∷ []) (numbers_of items) streams (flags (lengths (map elements_of vs)) ∷ [])
      (columns_of_values t (concatenation (map elements_of vs))) there c.there ∙ ap Some (sym (laid_seq t vs));
}

-- all elements are of their type
elements_are : (t : Ty) (vs : List Value) → AllAre (seq t) vs → AllAre t (concatenation (map elements_of vs))
elements_are t [] are = refl
elements_are t (a_seq all ∷ vs) are =
    let p = all_split (seq t) (a_seq all) vs are in
    all_joined t (list_of all) (concatenation (map elements_of vs)) (ap (all_are t) (values_list all) ∙ p.0) (elements_are t vs p.1)
elements_are t (_ ∷ vs) are = absurd (cc)

segments_parts : (streams : Columns) (w : Wires) (t : Ty) (vs : List Value) → Carries streams w (seq t) vs
    → (streams_at (stream_of w ∷ []) streams ≡ Some (flags (lengths (map elements_of vs)) ∷ [])) × Carries streams (item_wires w) t (concatenation (map elements_of vs))
segments_parts streams (wire int k) t vs c = absurd (let e = c.of_type in cc)
segments_parts streams (wire bool k) t vs c = absurd (let e = c.of_type in cc)
segments_parts streams (wire (vec item) k) t vs c = absurd (let e = c.of_type in cc)
segments_parts streams (wire (pair a b) k) t vs c = absurd c.whole
segments_parts streams (wire (seq item) k) t vs c = absurd c.whole
segments_parts streams (two u v) t vs c = absurd (let e = c.of_type in cc)
segments_parts streams (segments f items) t vs c =
    let e = c.of_type in
    let same : type_of_wires items ≡ t = cc in
    let p = streams_parted (f ∷ []) (numbers_of items) streams (flags (lengths (map elements_of vs)) ∷ [])
    (columns_of_values t (concatenation (map elements_of vs))) (c.there ∙ ap Some (laid_seq t vs)) refl in
    (p.0, record { of_type = same; whole = c.whole; are = elements_are t vs c.are; there = p.1 })

pub flags_carry : (streams : Columns) (w : Wires) (t : Ty) (vs : List Value) → Carries streams w (seq t) vs
    → streams_at (stream_of w ∷ []) streams ≡ Some (flags (lengths (map elements_of vs)) ∷ [])
flags_carry streams w t vs c = (segments_parts streams w t vs c).0

pub items_carry : (streams : Columns) (w : Wires) (t : Ty) (vs : List Value) → Carries streams w (seq t) vs → Carries streams (item_wires w) t (concatenation (map elements_of vs))
items_carry streams w t vs c = (segments_parts streams w t vs c).1

-- single streams

-- of a type of one edge the column is that of the values' cells
pub single_laid : (t : Ty) → IsSingle t → (vs : List Value) → columns_of_values t vs ≡ map cell_for vs ∷ []
single_laid int h vs = refl
single_laid bool h vs = refl
single_laid (vec item) h vs = refl
single_laid (pair s t) h vs = absurd h
single_laid (seq item) h vs = absurd h

pub stream_carries : (streams : Columns) (w : Wires) (t : Ty) (vs : List Value) → IsSingle t → Carries streams w t vs → streams_at (stream_of w ∷ []) streams ≡ Some (map cell_for vs ∷ [])
stream_carries streams (wire u k) t vs h c = c.there ∙ ap Some (single_laid t h vs)
stream_carries streams (two u v) t vs h c = absurd (subst IsSingle (sym c.of_type) h)
stream_carries streams (segments f items) t vs h c = absurd (subst IsSingle (sym c.of_type) h)
