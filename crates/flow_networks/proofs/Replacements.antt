-- Another node in place of one of a graph: what a graph keeps.
use Rattle.std.proofs.Common.{◌≡◌, ℕ, ◌<◌, List, length, get_or, set, map, inl, inr, sym, ◌∙◌, ap, subst, arith, get_or-set_other}
use Rattle.std.proofs.lemmas.Bool.{cases_eq}
use Rattle.std.proofs.lemmas.List.{map-set, set-get_or, length-set}
use Rattle.std.proofs.lemmas.List.Elements.{All-set}
use Rattle.flow_messages.specs.declared.message.Kind.{Kind}
use Rattle.flow_messages.specs.declared.message.Kind.TheVariants.{Unit as UnitKind}
use Rattle.flow_base.specs.Transducers.{Behaviour}
use Rattle.flow_networks.specs.declared.edge.Edge.{Edge}
use Rattle.flow_networks.specs.Edges.{edge_at}
use Rattle.flow_networks.specs.Networks.{inputs_at, outputs_at, kind_to, kind_from, AreOpened, network_of}
use Rattle.kahn.specs.Networks.{IsWired}
use Rattle.flow_networks.specs.Kept.{IsBuilt}
use Rattle.flow_networks.specs.Replacements.{MayReplace}

module _ {S : Type 0} (b : Behaviour S) (states : List S) (k : ℕ) (s : S) (may : MayReplace b states k s) where
  abbrev pub replaced : List S
  replaced = set states k s

  -- what is the same of both nodes is the same of all
  same_all : {X : Type 0} (f : S → X) (d : X) → f s ≡ get_or (map f states) k d → map f replaced ≡ map f states
  same_all f d is = map-set f states k s ∙ ap (set (map f states) k) is ∙ set-get_or (map f states) k d

  other_kind : (f : S → Kind) (j : ℕ) → (j ≡ k → ⊥) → get_or (map f replaced) j UnitKind ≡ get_or (map f states) j UnitKind
  other_kind f j ne = ap (λ (ks : List Kind). get_or ks j UnitKind) (map-set f states k s) ∙ get_or-set_other (map f states) k j (f s) UnitKind ne

  same_inputs : map b.inputs replaced ≡ map b.inputs states
  same_inputs = same_all b.inputs 0 may.inputs

  same_outputs : map b.outputs replaced ≡ map b.outputs states
  same_outputs = same_all b.outputs 0 may.outputs

  -- the kinds at the ports that are there stay
  same_from : (j q : ℕ) → q < outputs_at b states j → kind_from b replaced j q ≡ kind_from b states j q
  same_from j q port = elim (cases_eq j k) [
    | inl e ↦ ap (λ (ks : List Kind). get_or ks j UnitKind) (same_all (λ x. b.kind_out x q) UnitKind (may.kinds_out q (subst (λ i. q < outputs_at b states i) e port)))
    | inr ne ↦ other_kind (λ x. b.kind_out x q) j ne
  ]

  same_to : (j p : ℕ) → p < inputs_at b states j → kind_to b replaced j p ≡ kind_to b states j p
  same_to j p port = elim (cases_eq j k) [
    | inl e ↦ ap (λ (ks : List Kind). get_or ks j UnitKind) (same_all (λ x. b.kind_in x p) UnitKind (may.kinds_in p (subst (λ i. p < inputs_at b states i) e port)))
    | inr ne ↦ other_kind (λ x. b.kind_in x p) j ne
  ]

  pub built_replaced : (edges : List Edge) → IsBuilt b states edges → IsBuilt b replaced edges
  built_replaced edges built = record {
    wired = record {
      forward = wired.forward;
      inside = λ e l. omega (arith, wired.inside e l, count);
      one_in = wired.one_in;
      one_out = wired.one_out;
      reader_in = λ e l. port_in (edge_at edges e).reader (wired.reader_in e l);
      writer_out = λ e l. port_out (edge_at edges e).writer (wired.writer_out e l);
      in_edge = λ j p l port. wired.in_edge j p (omega (arith, l, count)) (subst (λ (l : List ℕ). p < get_or l j 0) same_inputs port);
      out_edge = λ j q l port. wired.out_edge j q (omega (arith, l, count)) (subst (λ (l : List ℕ). q < get_or l j 0) same_outputs port);
    };
    joined = record {
      inputs = λ j p h. built.joined.inputs j p (subst (λ (l : List ℕ). p < get_or l j 0) same_inputs h);
      outputs = λ j q h. built.joined.outputs j q (subst (λ (l : List ℕ). q < get_or l j 0) same_outputs h);
    };
    limits = record {
      kinds = λ e l. same_from (edge_at edges e).writer (edge_at edges e).writer_port (wired.writer_out e l) ∙ built.limits.kinds e l
          ∙ sym (same_to (edge_at edges e).reader (edge_at edges e).reader_port (wired.reader_in e l));
      few_nodes = omega (arith, count, built.limits.few_nodes);
      few_edges = built.limits.few_edges;
    };
  }
    where
      wired : IsWired (network_of b states edges)
      wired = built.wired

      count : length replaced ≡ length states
      count = length-set states k s

      port_in : (j : ℕ) {p : ℕ} → p < inputs_at b states j → p < inputs_at b replaced j
      port_in j {p} port = subst (λ (l : List ℕ). p < get_or l j 0) (sym same_inputs) port

      port_out : (j : ℕ) {q : ℕ} → q < outputs_at b states j → q < outputs_at b replaced j
      port_out j {q} port = subst (λ (l : List ℕ). q < get_or l j 0) (sym same_outputs) port

  pub opened_replaced : AreOpened b states → AreOpened b replaced
  opened_replaced all = All-set (λ x. b.opening x ≡ x) states k s may.opened all
