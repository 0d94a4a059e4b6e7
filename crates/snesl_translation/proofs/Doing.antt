-- What makings do, whatever they give, and what moving a value has in common with moving others.
use Rattle.std.specs.Prelude.{◌≡◌, ℕ, true, List, [], ◌∷◌, ◌++◌, map, length, Some, refl}
use Rattle.std.proofs.Common.{arith, sym, ap, ◌∙◌, subst, length-append, append_assoc, append-nil}
use Rattle.snesl_data.specs.Types.{Ty, int, bool, pair, vec, seq}
use Rattle.snesl_data.specs.Values.{Value, an_int, a_bool, a_vec}
use Rattle.flow_messages.specs.Cells.{Cell, is_of}
use Rattle.flow_base.specs.Columns.{Columns}
use Rattle.flow_base.specs.Flags.{flags, concatenation, lengths}
use Rattle.flow_base.specs.Ranges.{AllOf}
use Rattle.flow_values.specs.Shapes.{is_a, cell_for, first_of, second_of, elements_of}
use Rattle.flow_nodes.specs.functions.Lists.{bind}
use Rattle.flow_nodes.proofs.OfFunctions.ValueDecoding.{AllAre, all_split}
use Rattle.flow_nodes.specs.plans.Plans.{Operation, made_by, streams_at, run}
use Rattle.snesl_translation.specs.Wires.{Wires, two, segments, kind_of_type, IsSingle, stream_of}
use Rattle.snesl_translation.specs.Makings.{Making, done, and_then}
use Rattle.snesl_translation.specs.Moving.{flags_stepped}
use Rattle.snesl_translation.specs.Carrying.{Carries, Makes}
use Rattle.snesl_translation.proofs.Running.{in_turn}
use Rattle.snesl_translation.proofs.Carrying.{fresh, carried_on, two_carry, segments_carry, grown}

-- the steps run, add as many streams as they have numbers for, and then this holds of what is given
abbrev pub Does : {A : Type 0} → Columns → Making A → (Columns → A → Type 0) → Type 0
Does streams making Holds =
    (more : Columns) × (run making.steps streams ≡ Some (streams ++ more)) × (making.next ≡ length (streams ++ more)) × Holds (streams ++ more) making.given

pub done_does : {A : Type 0} (x : A) (streams : Columns) (Holds : Columns → A → Type 0) → Holds streams x → Does streams (done x (length streams)) Holds
done_does x streams Holds h = (
  [],
  ap Some (sym (append-nil streams)),
  ap length (sym (append-nil streams)),
  subst (λ l. Holds l x) (sym (append-nil streams)) h,
)

pub then_does : {A B : Type 0} (first : Making A) (rest : A → ℕ → Making B) (streams : Columns) (First : Columns → A → Type 0) (Holds : Columns → B → Type 0)
    → (d : Does streams first First) → Does (streams ++ d.0) (rest first.given (length (streams ++ d.0))) Holds → Does streams (and_then first rest) Holds
unfolding and_then
then_does first rest streams First Holds d does =
    let later : Does (streams ++ d.0) (rest first.given first.next) Holds = subst (λ k. Does (streams ++ d.0) (rest first.given k) Holds) (sym d.2) does in
    let grow : (streams ++ d.0) ++ later.0 ≡ streams ++ (d.0 ++ later.0) = append_assoc streams d.0 later.0 in
    let steps = (rest first.given first.next).steps in (
      d.0 ++ later.0,
      in_turn first.steps steps streams ∙ ap (λ o. bind o (run steps)) d.1 ∙ later.1 ∙ ap Some grow,
      later.2 ∙ ap length grow,
      subst (λ l. Holds l (rest first.given first.next).given) grow later.3,
    )

-- the single stream that is given is this column
abbrev pub Writes : Columns → Making Wires → List Cell → Type 0
Writes streams making column = Does streams making (λ l w. streams_at (stream_of w ∷ []) l ≡ Some (column ∷ []))

pub flags_written : (streams : Columns) (at : ℕ) (operation : Operation) (reads : List ℕ) (read : Columns) (column : List Cell) → streams_at reads streams ≡ Some read
    → made_by operation read ≡ Some (column ∷ []) → Writes streams (flags_stepped at operation reads (length streams)) column
flags_written streams at operation reads read column there made = (
  column ∷ [],
  ap (λ o. bind o (λ read. bind (made_by operation read) (λ written. Some (streams ++ written)))) there
      ∙ ap (λ o. bind o (λ written. Some (streams ++ written))) made,
  omega (arith, length-append streams (column ∷ [])),
  fresh bool streams (column ∷ []) refl,
)

-- first the one part of pairs and then the other
pub pair_makes : (streams : Columns) (first second : ℕ → Making Wires) (s t : Ty) (ws : List Value) → Makes streams s (first (length streams)) (map first_of ws)
    → ((more : Columns) → Makes (streams ++ more) t (second (length (streams ++ more))) (map second_of ws)) → AllAre (pair s t) ws
    → Makes streams (pair s t) (and_then (first (length streams)) (λ u k. and_then (second k) (λ v k. done (two u v) k))) ws
pair_makes streams first second s t ws one other are =
    let Paired : Columns → Wires → Type 0 = λ l w. Carries l w (pair s t) ws in
    let on = streams ++ one.0 in
    let u = (first (length streams)).given in
    let others = other one.0 in
    let v = (second (length on)).given in
    let carried = two_carry (on ++ others.0) u v s t ws (carried_on on others.0 u s (map first_of ws) one.3) others.3 are in
    then_does (first (length streams)) (λ u k. and_then (second k) (λ v k. done (two u v) k)) streams (λ l w. Carries l w s (map first_of ws)) Paired one
    (then_does (second (length on)) (λ v k. done (two u v) k) on (λ l w. Carries l w t (map second_of ws)) Paired others
    (done_does (two u v) (on ++ others.0) Paired carried))

-- the elements, beside flags that are there
pub segments_makes : (streams : Columns) (f : ℕ) (making : Making Wires) (t : Ty) (ws : List Value) → streams_at (f ∷ []) streams ≡ Some (flags (lengths (map elements_of ws)) ∷ [])
    → Makes streams t making (concatenation (map elements_of ws)) → AllAre (seq t) ws → Makes streams (seq t) (and_then making (λ u k. done (segments f u) k)) ws
segments_makes streams f making t ws there items are =
    let Segments : Columns → Wires → Type 0 = λ l w. Carries l w (seq t) ws in
    let on = streams ++ items.0 in
    let carried = segments_carry on f making.given t ws (grown (f ∷ []) streams items.0 (flags (lengths (map elements_of ws)) ∷ []) there) items.3 are in
    then_does making (λ u k. done (segments f u) k) streams (λ l w. Carries l w t (concatenation (map elements_of ws))) Segments items
    (done_does (segments f making.given) on Segments carried)

-- the cells of values of a type of one edge are of its kind

cell_is : (t : Ty) → IsSingle t → (v : Value) → is_a t v ≡ true → is_of (kind_of_type t) (cell_for v) ≡ true
cell_is int h (an_int n) is = refl
cell_is bool h (a_bool b) is = refl
cell_is (vec item) h (a_vec vs) is = refl
cell_is (pair s t) h v is = absurd h
cell_is (seq item) h v is = absurd h
cell_is _ h _ is = absurd (cc)

pub cells_are : (t : Ty) → IsSingle t → (vs : List Value) → AllAre t vs → AllOf (kind_of_type t) (map cell_for vs)
cells_are t h [] are = tt
cells_are t h (v ∷ vs) are = let s = all_split t v vs are in (cell_is t h v s.0, cells_are t h vs s.1)
