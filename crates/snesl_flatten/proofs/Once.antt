-- The states of nodes are a set, so facts about them have one proof.
use Rattle.std.specs.Prelude.{◌≡◌, ℕ, pos, negsuc, true, false, List, [], ◌∷◌, refl}
use Rattle.std.proofs.Common.{sym, ap, subst, ◌∙◌}
use Rattle.std.proofs.Math.Path.{ap₂}
use Rattle.std.proofs.Props.{props}
use native.Mathlib.Nat.{ℕ_set}
use mathlib.Core.HLevel.{collapsible→set, Σ_prop_path}
use Rattle.snesl_data.specs.Types.{Ty, int, bool, pair, vec, seq}
use Rattle.snesl_data.specs.Values.{Value, Values, an_int, a_bool, a_pair, a_vec, a_seq, no_values, more_values}
use Rattle.flow_messages.specs.Cells.{Cell}
use Rattle.flow_base.specs.Ranges.{AllOf}
use Rattle.flow_messages.specs.declared.message.Kind.{Kind}
use Rattle.flow_scalar.specs.Streams.{Items}
use Rattle.flow_scalar.specs.SourceBehaviour.{source_opening}
use Rattle.flow_networks.specs.declared.edge.Edge.{Edge}
use Rattle.flow_networks.specs.Networks.{AreOpened}
use Rattle.flow_nodes.specs.plans.Plans.{Operation, source, fork}
use Rattle.flow_assembly.specs.Openings.{IsOpening, IsUsable}
use Rattle.flow_nodes.specs.StreamNodes.{NodeKind, member, node_behaviour, a_source}

-- a type that maps into a set and back is a set
retract_set : {A B : Type 0} (to : A → B) (from : B → A) → ((x : A) → from (to x) ≡ x) → IsSet B → IsSet A
retract_set to from back set = collapsible→set (λ x y p. sym (back x) ∙ ap from (ap to p) ∙ back y)
    (λ x y p q. ap (λ z. sym (back x) ∙ ap from z ∙ back y) (set (to x) (to y) (ap to p) (ap to q)))

-- copies of types and of values
data TyCopy : Type 0 where
  c_int : TyCopy
  c_bool : TyCopy
  c_pair : TyCopy → TyCopy → TyCopy
  c_vec : TyCopy → TyCopy
  c_seq : TyCopy → TyCopy
  deriving IsSet as TyCopy-set

data ValueCopy : Type 0 where
  v_pos : ℕ → ValueCopy
  v_neg : ℕ → ValueCopy
  v_true : ValueCopy
  v_false : ValueCopy
  v_pair : ValueCopy → ValueCopy → ValueCopy
  v_vec : ValueCopy → ValueCopy
  v_seq : ValueCopy → ValueCopy
  v_none : ValueCopy
  v_more : ValueCopy → ValueCopy → ValueCopy
  deriving IsSet as ValueCopy-set

abbrev ty_copy : Ty → TyCopy
ty_copy int = c_int
ty_copy bool = c_bool
ty_copy (pair a b) = c_pair (ty_copy a) (ty_copy b)
ty_copy (vec a) = c_vec (ty_copy a)
ty_copy (seq a) = c_seq (ty_copy a)

abbrev ty_back : TyCopy → Ty
ty_back c_int = int
ty_back c_bool = bool
ty_back (c_pair a b) = pair (ty_back a) (ty_back b)
ty_back (c_vec a) = vec (ty_back a)
ty_back (c_seq a) = seq (ty_back a)

ty_same : (t : Ty) → ty_back (ty_copy t) ≡ t
ty_same int = refl
ty_same bool = refl
ty_same (pair a b) = ap₂ pair (ty_same a) (ty_same b)
ty_same (vec a) = ap vec (ty_same a)
ty_same (seq a) = ap seq (ty_same a)

Ty-set : IsSet Ty
Ty-set = retract_set ty_copy ty_back ty_same TyCopy-set

abbrev mutual
  value_copy : Value → ValueCopy
  value_copy (an_int (pos n)) = v_pos n
  value_copy (an_int (negsuc n)) = v_neg n
  value_copy (a_bool true) = v_true
  value_copy (a_bool false) = v_false
  value_copy (a_pair a b) = v_pair (value_copy a) (value_copy b)
  value_copy (a_vec vs) = v_vec (values_copy vs)
  value_copy (a_seq vs) = v_seq (values_copy vs)

  values_copy : Values → ValueCopy
  values_copy no_values = v_none
  values_copy (more_values v vs) = v_more (value_copy v) (values_copy vs)

abbrev mutual
  value_back : ValueCopy → Value
  value_back (v_pos n) = an_int (pos n)
  value_back (v_neg n) = an_int (negsuc n)
  value_back v_true = a_bool true
  value_back v_false = a_bool false
  value_back (v_pair a b) = a_pair (value_back a) (value_back b)
  value_back (v_vec vs) = a_vec (values_back vs)
  value_back (v_seq vs) = a_seq (values_back vs)
  value_back _ = a_vec no_values

  values_back : ValueCopy → Values
  values_back (v_more v vs) = more_values (value_back v) (values_back vs)
  values_back _ = no_values

abbrev mutual
  value_same : (v : Value) → value_back (value_copy v) ≡ v
  value_same (an_int (pos n)) = refl
  value_same (an_int (negsuc n)) = refl
  value_same (a_bool true) = refl
  value_same (a_bool false) = refl
  value_same (a_pair a b) = ap₂ a_pair (value_same a) (value_same b)
  value_same (a_vec vs) = ap a_vec (values_same vs)
  value_same (a_seq vs) = ap a_seq (values_same vs)

  values_same : (vs : Values) → values_back (values_copy vs) ≡ vs
  values_same no_values = refl
  values_same (more_values v vs) = ap₂ more_values (value_same v) (values_same vs)

Value-set : IsSet Value
Value-set = retract_set value_copy value_back value_same (ValueCopy-set ℕ_set)

Values-set : IsSet Values
Values-set = retract_set values_copy values_back values_same (ValueCopy-set ℕ_set)

Cell-set : IsSet Cell
Cell-set = hlevel (props, Value-set)

AllOf-prop : (kind : Kind) (cells : List Cell) → IsProp (AllOf kind cells)
AllOf-prop kind [] = hlevel
AllOf-prop kind (x ∷ cells) = hlevel (props, AllOf-prop kind cells)

ruleset sets = (props, Ty-set, Value-set, Values-set, Cell-set, AllOf-prop)

-- here and below, the last clause stands for each of the other kinds
member-set : (t : NodeKind) → IsSet (member t).State
member-set a_source = hlevel sets
member-set _ = hlevel sets

NodeKind-set : IsSet NodeKind
NodeKind-set = hlevel props

State-set : IsSet ((t : NodeKind) × (member t).State)
State-set = hlevel (props, NodeKind-set, member-set)

pub edges_are_a_set : IsSet Edge
edges_are_a_set = hlevel props

pub AreOpened-prop : (states : List ((t : NodeKind) × (member t).State)) → IsProp (AreOpened node_behaviour states)
AreOpened-prop states = hlevel (props, State-set)

pub IsUsable-prop : (operation : Operation) → IsProp (IsUsable operation)
IsUsable-prop (fork kind outputs) = hlevel props
IsUsable-prop _ = hlevel props

-- items of one kind that carry the same are the same
items_same : (a b : Items) → a.kind ≡ b.kind → a.cells ≡ b.cells → a ≡ b
items_same a b kind cells =
    subst (λ k. (q : AllOf k b.cells) → a ≡ (record { kind = k; cells = b.cells; all_of = q })) kind
    (subst (λ l. (q : AllOf a.kind l) → a ≡ (record { kind = a.kind; cells = l; all_of = q })) cells
    (λ q. ap (λ p. (let items : Items = record { kind = a.kind; cells = a.cells; all_of = p } in items)) (AllOf-prop a.kind a.cells a.all_of q))) b.all_of

-- a source is in its opening state for items in one way at most
module _ (kind : Kind) (cells : List Cell) (s : (t : NodeKind) × (member t).State) where
  abbrev With : Items → Type 0
  With items = (s ≡ (a_source, source_opening items)) × (items.kind ≡ kind) × (items.cells ≡ cells)

  abbrev flat : (items : Items) × (With items) → (items : Items) × (s ≡ (a_source, source_opening items)) × (items.kind ≡ kind) × (items.cells ≡ cells)
  flat (items, is) = (items, is.0, is.1, is.2)

  source_opens-prop : IsProp ((items : Items) × (s ≡ (a_source, source_opening items)) × (items.kind ≡ kind) × (items.cells ≡ cells))
  source_opens-prop u v =
      ap flat (Σ_prop_path {B = With} (λ items. hlevel (sets, State-set)) {u = (u.0, (u.1, u.2, u.3))} {v = (v.0, (v.1, v.2, v.3))}
      (items_same u.0 v.0 (u.2 ∙ sym v.2) (u.3 ∙ sym v.3)))

pub IsOpening-prop : (at : ℕ) (operation : Operation) (s : (t : NodeKind) × (member t).State) → IsProp (IsOpening at operation s)
IsOpening-prop at (source kind cells) s = source_opens-prop kind cells s
IsOpening-prop at _ s = hlevel (props, State-set)
