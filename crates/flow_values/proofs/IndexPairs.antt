-- A vector and an index that are shown, and the element.
use Rattle.std.proofs.Common.{◌≡◌, ℕ, ℤ, ◌<◌, Bool, true, false, [], ◌∷◌, ◌++◌, List, length, pos, slice_index_or, Ok, Err, refl, sym, ◌∙◌, ap, subst, arith, cond, nat_lt, inl, inr}
use Rattle.std.proofs.lemmas.Bool.{cases_eq}
use mathlib.Core.List.{IsPrefix}
use Rattle.snesl_data.specs.declared.fault.FaultKind.TheVariants.{Shape}
use Rattle.snesl_data.specs.Types.{Ty, ty_of, int, bool, pair, vec, seq}
use Rattle.snesl_data.specs.Values.{Value, an_int, a_bool, a_pair, a_vec, a_seq}
use Rattle.flow_messages.specs.Cells.{Cell, int as int_cell, datum, is_of}
use Rattle.flow_messages.specs.Blocks.{int_signals}
use Rattle.flow_messages.specs.Ends.{View, LookedForRoom, Taken}
use Rattle.flow_messages.specs.Signals.{Signal, carry}
use Rattle.flow_messages.specs.declared.message.Kind.TheVariants.{Vec as VecKind}
use Rattle.flow_base.specs.Machines.{Leads, on_int, on_kind, ask_of}
use Rattle.flow_base.specs.declared.worker.Ask.TheVariants.{Begin}
use Rattle.flow_base.specs.Nodes.{NodeState, behaviour_of, node_state}
use Rattle.flow_base.specs.Visits.{edge_of, Went, Wrote}
use Rattle.flow_base.specs.declared.node.Phase.TheVariants.{Working}
use Rattle.flow_base.proofs.Kernels.{went_none, went_looked, went_read, went_write, leads_on}
use Rattle.flow_values.specs.Shapes.{is_a, kinds_of, kind_at, cell_for}
use Rattle.flow_values.specs.Flats.{width}
use Rattle.flow_values.specs.Dues.{due, dues_of, output_of}
use Rattle.flow_values.specs.Rows.{Picked, element_at}
use Rattle.flow_values.specs.laws.DueFits.{value_of_kind}
use Rattle.flow_values.specs.laws.Index.{element_is}
use Rattle.flow_values.specs.declared.index.Index.{Index}
use Rattle.flow_values.specs.IndexMachine.{IndexState, index_state, writing, held, vector_given, element_given, index_move, index_machine, index_of_kind}
use Rattle.flow_values.specs.IndexPairs.{is_scalar, PairShown}

-- what the machine sees of a worker
abbrev pub index_view : Index → Ty × IndexState
index_view n = (ty_of n.element, index_state n.held n.dues.items)

-- the first output is the first, however many there are
first_output : (n : ℕ) → output_of n 0 ≡ 0
first_output n = go (nat_lt 0 n) 0
  where
    go : (b : Bool) (k : ℕ) → cond b k k ≡ k
    go true k = refl
    go false k = refl

-- an instance begins where nothing is held or due, and nowhere else
pub begins_idle : (item : Ty) (s : IndexState) → ask_of (index_move item s) ≡ Begin → s ≡ writing []
begins_idle item (writing []) begins = refl
begins_idle item (writing (d ∷ ds)) begins = absurd (cc)
begins_idle item (held vs) begins = absurd (cc)

-- of a scalar its item alone is due
pub scalar_dues : (item : Ty) (e : Value) → is_a item e ≡ true → is_scalar e ≡ true → dues_of item 0 e ≡ due 0 (cell_for e) ∷ []
scalar_dues int e of_type scalar = refl
scalar_dues bool e of_type scalar = refl
scalar_dues (vec item) e of_type scalar = refl
scalar_dues (pair first second) (a_pair a b) of_type scalar = absurd (cc)
scalar_dues (pair first second) (an_int n) of_type scalar = absurd (cc)
scalar_dues (pair first second) (a_bool b) of_type scalar = absurd (cc)
scalar_dues (pair first second) (a_vec vs) of_type scalar = absurd (cc)
scalar_dues (pair first second) (a_seq vs) of_type scalar = absurd (cc)
scalar_dues (seq item) (a_seq vs) of_type scalar = absurd (cc)
scalar_dues (seq item) (an_int n) of_type scalar = absurd (cc)
scalar_dues (seq item) (a_bool b) of_type scalar = absurd (cc)
scalar_dues (seq item) (a_vec vs) of_type scalar = absurd (cc)
scalar_dues (seq item) (a_pair a b) of_type scalar = absurd (cc)

-- the first of the integers that are shown
pub first_index : (ns : List ℤ) (c : List Signal) → IsPrefix (int_signals ns) c → 0 < length ns → IsPrefix (carry (int_cell (slice_index_or ns 0 (pos 0))) ∷ []) c
first_index [] c seen some = absurd (omega (arith, some))
first_index (n ∷ ns) c (more, is) some = (int_signals ns ++ more, is)

-- the first of what is certain is one message
one_first : (c : List Signal) (x y : Signal) → IsPrefix (x ∷ []) c → IsPrefix (y ∷ []) c → x ≡ y
one_first [] x y (more, is) h = absurd (cc)
one_first (z ∷ c) x y (more, is) (rest, all) = cc

module _ {item : Ty} {vectors indices : List Signal} {x : Cell} (shown : PairShown item vectors indices x) where
  abbrev picked : Picked item
  picked = shown.picked

  pub of_type : is_a item picked.element ≡ true
  of_type = element_is item picked.vector picked.index picked.element picked.found picked.of_type

  pub pair_dues : dues_of item 0 picked.element ≡ due 0 x ∷ []
  pair_dues = scalar_dues item picked.element of_type shown.scalar ∙ ap (λ y. due 0 y ∷ []) (sym shown.carries)

  -- it is of the kind of the first edge of the type
  pub pair_kind : is_of (kind_at (kinds_of item) 0) x ≡ true
  pair_kind =
      let dues = subst (λ s. index_of_kind item (writing s)) pair_dues (value_of_kind item picked.element of_type) in
      subst (λ q. is_of (kind_at (kinds_of item) q) x ≡ true) (first_output (length (kinds_of item))) dues.0

-- a message that comes next on one edge still does when another was taken from another
still_next : (v w : View) (e f : ℕ) (m y : Signal) → (m ≡ y → ⊥) → Taken v e m w → IsPrefix (m ∷ []) (v.coming e) → IsPrefix (y ∷ []) (v.coming f) → IsPrefix (y ∷ []) (w.coming f)
still_next v w e f m y apart taken first next = elim (cases_eq f e) [
  | inl at ↦ absurd (apart (one_first (v.coming e) m y first (subst (λ k. IsPrefix (y ∷ []) (v.coming k)) at next)))
  | inr ne ↦ subst (λ c. IsPrefix (y ∷ []) c) (sym (taken.coming f ne)) next
]

-- the edge of the indices is another than that of the vectors
index_still : {item : Ty} {x : Cell} (v w : View) (e f : ℕ) (shown : PairShown item (v.coming e) (v.coming f) x) →
    Taken v e (carry (datum (a_vec shown.picked.vector))) w → IsPrefix (carry (int_cell shown.picked.index) ∷ []) (w.coming f)
index_still v w e f shown taken = still_next v w e f (carry (datum (a_vec shown.picked.vector))) (carry (int_cell shown.picked.index)) (λ same. cc) taken shown.vector_next shown.index_next

-- who takes what comes first on both edges takes the vector and the index
pub pair_taken : {item : Ty} {x : Cell} (v u t : View) (e f : ℕ) (shown : PairShown item (v.coming e) (v.coming f) x) →
    ((m : Signal) → IsPrefix (m ∷ []) (v.coming e) → Taken v e m u) → ((m : Signal) → IsPrefix (m ∷ []) (u.coming f) → Taken u f m t) →
    Taken v e (carry (datum (a_vec shown.picked.vector))) u × Taken u f (carry (int_cell shown.picked.index)) t
pair_taken v u t e f shown takes_vector takes_index =
    let vector = takes_vector (carry (datum (a_vec shown.picked.vector))) shown.vector_next in
    (vector, takes_index (carry (int_cell shown.picked.index)) (index_still v u e f shown vector))

module _ (inputs outputs : List ℕ) (item : Ty) (at : ℕ) where
  abbrev pub on : IndexState → NodeState (Ty × IndexState)
  on s = node_state (item, s) Working at

  -- its vector and its index are read, and the element is written
  pub pair_went : {x : Cell} (a v u t w : View) → 1 < length inputs → 0 < length outputs → LookedForRoom a (edge_of outputs 0) v →
      (shown : PairShown item (v.coming (edge_of inputs 0)) (v.coming (edge_of inputs 1)) x) →
      Taken v (edge_of inputs 0) (carry (datum (a_vec shown.picked.vector))) u → Taken u (edge_of inputs 1) (carry (int_cell shown.picked.index)) t → Wrote t (edge_of outputs 0) (carry x) w →
      Went inputs outputs (behaviour_of index_machine) (on (writing [])) a (on (writing [])) w 3
  pair_went {x} a v u t w reads writes looked shown vector index wrote =
      let b = behaviour_of index_machine in
      let p = shown.picked in
      let dues = dues_of item 0 p.element in
      let leads : Leads (on_kind VecKind (vector_given item)) (carry (datum (a_vec p.vector))) (held p.vector) = ap (λ c. cond c (Ok (held p.vector)) (Err Shape)) p.of_type in
      let then : Leads (on_int (λ n. element_given item (element_at p.vector n))) (carry (int_cell p.index)) (writing (due 0 x ∷ [])) =
      ap (element_given item) p.found ∙ ap (λ ds. Ok (writing ds)) (pair_dues shown) in
      let began = went_looked b inputs outputs (went_none b inputs outputs (on (writing [])) a) 0 v writes looked in
      let holds = went_read b inputs outputs began 0 (carry (datum (a_vec p.vector))) (on (held p.vector)) u (omega (arith, reads)) refl vector
      (leads_on index_machine item (writing []) (held p.vector) at (on_kind VecKind (vector_given item)) (carry (datum (a_vec p.vector)))
      (λ y. refl) leads) in
      let owes = went_read b inputs outputs holds 1 (carry (int_cell p.index)) (on (writing (due 0 x ∷ []))) t reads refl index
      (leads_on index_machine item (held p.vector) (writing (due 0 x ∷ [])) at (on_int (λ n. element_given item (element_at p.vector n)))
      (carry (int_cell p.index)) (λ y. refl) then) in
      let out = output_of (width item) 0 in
      let first = first_output (width item) in
      went_write b inputs outputs owes out (carry x) (on (writing [])) w (subst (λ q. q < length outputs) (sym first) writes) refl refl
      (subst (λ q. Wrote t (edge_of outputs q) (carry x) w) (sym first) wrote) refl
