-- Nodes one step further: what a graph keeps.
use Rattle.std.proofs.Common.{◌≡◌, ℕ, ◌<◌, List, [], ◌∷◌, ◌++◌, length, get_or, set, map, Result, Ok, Err, OnOk, OnErr, IfOk, ◌⊎◌, inl, inr, refl}
use Rattle.std.proofs.Common.{sym, ◌∙◌, ap, subst, arith, get_or-set_other, get_or-set_same}
use Rattle.std.proofs.lemmas.List.{get_or-map, map-set, set-get_or, length-map}
use mathlib.Core.Logic.{∥∥₁_elim, ∥∥₁_map}
use native.Mathlib.Bridge.{le_prop}
use Rattle.kahn.specs.declared.want.Want.{Want}
use Rattle.kahn.specs.declared.want.Want.TheVariants.{Read, Write, Ended, Faulted}
use Rattle.kahn.specs.Processes.{Event, Does, Reads, Writes, IsLawfulProcess}
use Rattle.kahn.specs.Networks.{IsWired}
use Rattle.kahn.proofs.History.{does_then}
use Rattle.flow_messages.specs.Signals.{Signal}
use Rattle.flow_messages.specs.declared.message.Kind.{Kind}
use Rattle.flow_messages.specs.declared.message.Kind.TheVariants.{Unit as UnitKind}
use Rattle.flow_base.specs.Transducers.{Behaviour, BehaviourLaws, IsWrite}
use Rattle.flow_networks.specs.declared.edge.Edge.{Edge}
use Rattle.flow_networks.specs.Edges.{edge_at}
use Rattle.flow_networks.specs.Networks.{state_at, SameBut, IsJoined, network_of}
use Rattle.flow_base.specs.Visits.{IsReached}
use Rattle.flow_networks.specs.Kept.{IsBuilt}

-- the state of one node, and the states of all
pub state_read : {S T : Type 0} (state : T → S) (nodes : List T) (k : ℕ) (x : T) (d : S) → k < length nodes → x ≡ get_or nodes k x → state x ≡ get_or (map state nodes) k d
state_read state nodes k x d l is = ap state is ∙ sym (get_or-map state nodes k x d l)

-- the states after one node changed
pub states_set : {S T : Type 0} (state : T → S) (nodes : List T) (k : ℕ) (y : T) (s : S) → state y ≡ s → map state (set nodes k y) ≡ set (map state nodes) k s
states_set state nodes k y s is = map-set state nodes k y ∙ ap (set (map state nodes) k) is

pub states_kept : {S T : Type 0} (state : T → S) (nodes : List T) (k : ℕ) (x y : T) → k < length nodes → x ≡ get_or nodes k x → state y ≡ state x → map state (set nodes k y) ≡ map state nodes
states_kept state nodes k x y l is same =
    map-set state nodes k y ∙ ap (set (map state nodes) k) (same ∙ state_read state nodes k x (state x) l is) ∙ set-get_or (map state nodes) k (state x)

pub state_written : {S : Type 0} (b : Behaviour S) (states states' : List S) (k : ℕ) (s : S) → k < length states → states' ≡ set states k s → state_at b states' k ≡ s
state_written {S = S} b states states' k s l is = ap (λ (xs : List S). get_or xs k b.sample) is ∙ get_or-set_same states k s b.sample l

map_through : {X Y : Type 0} (f : X → Y) (h : X → X) (xs : List X) → ((x : X) → f (h x) ≡ f x) → map f (map h xs) ≡ map f xs
map_through f h [] same = refl
map_through f h (x ∷ xs) same = ap (λ y. y ∷ map f (map h xs)) (same x) ∙ ap (λ l. f x ∷ l) (map_through f h xs same)

module _ {S : Type 0} (b : Behaviour S) (laws : BehaviourLaws b) where
  pub opening_read : (s s' : S) (p : ℕ) (m : Signal) → b.process.want s ≡ Read p → s' ≡ b.process.read s m → b.opening s' ≡ b.opening s
  opening_read s s' p m wants is = ap b.opening is ∙ laws.read_opening s p m wants

  pub opening_wrote : (s s' : S) (q : ℕ) → b.process.want s ≡ Write q → s' ≡ b.process.wrote s → b.opening s' ≡ b.opening s
  opening_wrote s s' q wants is = ap b.opening is ∙ laws.wrote_opening s q wants

  pub reached_read : (s s' : S) (p : ℕ) (m : Signal) → b.process.want s ≡ Read p → s' ≡ b.process.read s m → IsReached b s → IsReached b s'
  reached_read s s' p m wants is reached = ∥∥₁_map reached (λ (h, does). (
    h ++ Reads p m ∷ [],
    subst (λ o. Does b.process o (h ++ Reads p m ∷ []) s') (sym (opening_read s s' p m wants is)) (does_then b.process (b.opening s) s s' h (Reads p m ∷ []) does (wants, sym is)),
  ))

  pub reached_wrote : (s s' : S) (q : ℕ) → b.process.want s ≡ Write q → s' ≡ b.process.wrote s → IsReached b s → IsReached b s'
  reached_wrote s s' q wants is reached = ∥∥₁_map reached (λ (h, does). (
    h ++ Writes q (b.process.written s) ∷ [],
    subst (λ o. Does b.process o (h ++ Writes q (b.process.written s) ∷ []) s') (sym (opening_wrote s s' q wants is))
        (does_then b.process (b.opening s) s s' h (Writes q (b.process.written s) ∷ []) does (wants, refl, sym is)),
  ))

  lawful_at : (s : S) → IsLawfulProcess b.process (b.opening s) (b.inputs (b.opening s)) (b.outputs (b.opening s))
  lawful_at s = (laws.opened (b.opening s) (laws.same_opening s)).lawful

  -- a node wants only ports that it has
  pub wants_input : (s : S) (p : ℕ) → b.process.want s ≡ Read p → IsReached b s → p < b.inputs s
  wants_input s p wants reached = subst (λ n. p < n) (laws.same_inputs s) (∥∥₁_elim reached (λ x y. le_prop x y) (λ (h, does). (lawful_at s).in_port h s p does wants))

  pub wants_output : (s : S) (q : ℕ) → b.process.want s ≡ Write q → IsReached b s → q < b.outputs s
  wants_output s q wants reached = subst (λ n. q < n) (laws.same_outputs s) (∥∥₁_elim reached (λ x y. le_prop x y) (λ (h, does). (lawful_at s).out_port h s q does wants))

  module _ (states states' : List S) (same : map b.opening states' ≡ map b.opening states) where
    -- what depends on the opening states alone stays
    stays : {Y : Type 0} (f : S → Y) → ((s : S) → f (b.opening s) ≡ f s) → map f states' ≡ map f states
    stays f through = sym (map_through f b.opening states' through) ∙ ap (map f) same ∙ map_through f b.opening states through

    pub same_length : length states' ≡ length states
    same_length = sym (length-map states' b.opening) ∙ ap length same ∙ length-map states b.opening

    pub joined_openings : (edges : List Edge) → IsJoined b states edges → IsJoined b states' edges
    joined_openings edges joined = record {
      inputs = λ k p h. joined.inputs k p (subst (λ (l : List ℕ). p < get_or l k 0) (stays b.inputs laws.same_inputs) h);
      outputs = λ k q h. joined.outputs k q (subst (λ (l : List ℕ). q < get_or l k 0) (stays b.outputs laws.same_outputs) h);
    }

    -- the other nodes are as they were
    pub same_but : (k : ℕ) (s : S) → states' ≡ set states k s → SameBut b k states states'
    same_but k s is = record { nodes = same_length; others = λ j ne. ap (λ (l : List S). get_or l j b.sample) is ∙ get_or-set_other states k j s b.sample ne }

    -- the network is the same
    pub same_network : (edges edges' : List Edge) → edges' ≡ edges → network_of b states' edges' ≡ network_of b states edges
    same_network edges edges' is = ap (network_of b states') is ∙ (λ i. record {
      nodes = same_length i;
      edges = length edges;
      opening = state_at b (same i);
      inputs = λ k. get_or (stays b.inputs laws.same_inputs i) k 0;
      outputs = λ k. get_or (stays b.outputs laws.same_outputs i) k 0;
      writer = (network_of b states edges).writer;
      writer_port = (network_of b states edges).writer_port;
      reader = (network_of b states edges).reader;
      reader_port = (network_of b states edges).reader_port;
      in_edge = (network_of b states edges).in_edge;
      out_edge = (network_of b states edges).out_edge;
    })

    pub built_openings : (edges : List Edge) → IsBuilt b states edges → IsBuilt b states' edges
    built_openings edges built = record {
      wired = subst IsWired (sym (same_network edges edges refl)) built.wired;
      joined = joined_openings edges built.joined;
      limits = record {
        kinds = λ e l.
            ap (λ (ks : List Kind). get_or ks (edge_at edges e).writer UnitKind) (stays (λ s. b.kind_out s (edge_at edges e).writer_port) (λ s. laws.same_kinds_out s (edge_at edges e).writer_port))
            ∙ built.limits.kinds e l
            ∙ sym (ap (λ (ks : List Kind). get_or ks (edge_at edges e).reader UnitKind)
            (stays (λ s. b.kind_in s (edge_at edges e).reader_port) (λ s. laws.same_kinds_in s (edge_at edges e).reader_port)));
        few_nodes = omega (arith, same_length, built.limits.few_nodes);
        few_edges = built.limits.few_edges;
      };
    }

  -- The state s' opened as s did, and is reached where s is.
  pub record Follows (s s' : S) : Type 0 where
    pub opening : b.opening s' ≡ b.opening s
    pub reached : IsReached b s → IsReached b s'

  pub follows_same : (s s' : S) → s' ≡ s → Follows s s'
  follows_same s s' is = record { opening = ap b.opening is; reached = λ h. subst (IsReached b) (sym is) h }

  pub follows_read : (s s' : S) (p : ℕ) (m : Signal) → b.process.want s ≡ Read p → (s' ≡ b.process.read s m) ⊎ (s' ≡ s) → Follows s s'
  follows_read s s' p m wants (inl is) = record { opening = opening_read s s' p m wants is; reached = reached_read s s' p m wants is }
  follows_read s s' p m wants (inr is) = follows_same s s' is

  pub follows_wrote : (s s' : S) (q : ℕ) → b.process.want s ≡ Write q → (s' ≡ b.process.wrote s) ⊎ (s' ≡ s) → Follows s s'
  follows_wrote s s' q wants (inl is) = record { opening = opening_wrote s s' q wants is; reached = reached_wrote s s' q wants is }
  follows_wrote s s' q wants (inr is) = follows_same s s' is

  -- so is one that made some steps
  pub follows_does : (s s' : S) (h : List (Event Signal)) → Does b.process s h s' → Follows s s'
  follows_does s s' [] same = follows_same s s' (sym same)
  follows_does s s' (Reads p m ∷ h) (wants, rest) =
      let one : Follows s (b.process.read s m) = follows_read s (b.process.read s m) p m wants (inl refl) in
      let more : Follows (b.process.read s m) s' = follows_does (b.process.read s m) s' h rest in
      record { opening = more.opening ∙ one.opening; reached = λ r. more.reached (one.reached r) }
  follows_does s s' (Writes q m ∷ h) (wants, is, rest) =
      let one : Follows s (b.process.wrote s) = follows_wrote s (b.process.wrote s) q wants (inl refl) in
      let more : Follows (b.process.wrote s) s' = follows_does (b.process.wrote s) s' h rest in
      record { opening = more.opening ∙ one.opening; reached = λ r. more.reached (one.reached r) }

  module _ (s s' : S) (follows : Follows s s') where
    pub follows_inputs : (n : ℕ) → n ≡ b.inputs s → n ≡ b.inputs s'
    follows_inputs n is = is ∙ sym (laws.same_inputs s) ∙ ap b.inputs (sym follows.opening) ∙ laws.same_inputs s'

    pub follows_outputs : (n : ℕ) → n ≡ b.outputs s → n ≡ b.outputs s'
    follows_outputs n is = is ∙ sym (laws.same_outputs s) ∙ ap b.outputs (sym follows.opening) ∙ laws.same_outputs s'

-- a node that writes wants some port
pub writes_port : (w : Want) → IsWrite w → (q : ℕ) × (w ≡ Write q)
writes_port (Read p) h = absurd h
writes_port (Write q) h = (q, refl)
writes_port Ended h = absurd h
writes_port (Faulted fault) h = absurd h

-- an answer is one or the other
pub either : {X E P Q : Type 0} (r : Result X E) → OnOk r P → OnErr r Q → P ⊎ Q
either (Ok x) p q = inl p
either (Err e) p q = inr q

pub on_err : {X E P Q : Type 0} (r : Result X E) → (P → Q) → OnErr r P → OnErr r Q
on_err (Ok x) f p = tt
on_err (Err e) f p = f p

pub if_ok : {X E Q : Type 0} (P : X → Type 0) (r : Result X E) → ((x : X) → P x → Q) → IfOk r P → OnOk r Q
if_ok P (Ok x) f p = f x p
if_ok P (Err e) f p = tt

pub if_ok_if : {X E : Type 0} (P Q : X → Type 0) (r : Result X E) → ((x : X) → P x → Q x) → IfOk r P → IfOk r Q
if_ok_if P Q (Ok x) f p = f x p
if_ok_if P Q (Err e) f p = tt
