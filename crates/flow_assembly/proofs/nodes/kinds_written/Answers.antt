use Rattle.std.proofs.Common.{◌≡◌, ℕ, ◌+◌, ◌<◌, List, [], ◌∷◌, ◌++◌, Some, ◌∙◌, sym, ap, subst, arith, length}
use Rattle.std.specs.List.{slice_get}
use Rattle.std.proofs.lemmas.List.{length_push}
use borrow.Author.Count.{below_more}
use Rattle.flow_nodes.specs.StreamNodes.{node_behaviour, state_of}
use Rattle.flow_assembly.proofs.Laying.{get_front, get_back}
use Rattle.flow_assembly.proofs.Refused.{none_given}
use Rattle.flow_assembly.proofs.nodes.kinds_written.Goals as goal

-- a list of what stands at each place, and one more after it
one_more : {A : Type 0} (xs ys : List A) (y : A) (p : ℕ) (f : ℕ → A) → ys ≡ xs ++ y ∷ [] → length xs ≡ p → y ≡ f p → ((q : ℕ) → q < p → slice_get xs q ≡ Some (f q))
    → (q : ℕ) → q < p + 1 → slice_get ys q ≡ Some (f q)
one_more xs ys y p f pushed count is all q lt =
    let at : length xs + 0 ≡ p = omega (arith, count) in
    let last : slice_get (xs ++ y ∷ []) p ≡ Some (f p) = subst (λ j. slice_get (xs ++ y ∷ []) j ≡ Some (f p)) at (get_back xs (y ∷ []) 0 (f p) (ap Some is)) in
    subst (λ l. slice_get l q ≡ Some (f q)) (sym pushed) (below_more (λ k. slice_get (xs ++ y ∷ []) k ≡ Some (f k)) p (λ k l. get_front xs (y ∷ []) k (f k) (all k l)) last q (omega (arith, lt)))

pub loop-port-preserved : goal.loop-port-preserved
loop-port-preserved c =
    let pushed = c.in_ok-push.ensures.items in
    record {
      count = omega (arith, ap length pushed, length_push c.loop-port.kinds.items c.kind_out.result, c.loop-port.invariant.count);
      kinds = one_more c.loop-port.kinds.items c.push.new.self.items c.kind_out.result c.loop-port.port
          (node_behaviour.kind_out (state_of c.args.node.now)) pushed c.loop-port.invariant.count c.kind_out.ensures c.loop-port.invariant.kinds;
    }

pub returns : goal.returns
returns c =
    let all : c.loop-port.port ≡ node_behaviour.outputs (state_of c.args.node.now) = omega (arith, c.loop-port-test.false, c.loop-port.auto.port-end, c.outputs-port-end.ensures) in
    record { outputs = c.loop-port.invariant.count ∙ all; kinds_out = λ q lt. c.loop-port.invariant.kinds q (omega (arith, lt, all)) }

pub returns-in_err-push : goal.returns-in_err-push
returns-in_err-push c = none_given _ c.from_residual.result c.from_residual.ensures.0
