-- Where a visit ends, and what is made so far.
use Rattle.std.proofs.Common.{◌≡◌, ◌+◌, ◌<◌, ◌↔◌, ℕ, Bool, true, false, List, Result, Ok, IsTrue, refl, sym, ◌∙◌, ap, subst, arith}
use Rattle.std.proofs.lemmas.Bool.Decides.{nat_tests}
use Rattle.std.specs.Prelude.{IsErr, nat_lt}
use Rattle.std.specs.declared.alloc.AllocError.{AllocError}
use Rattle.kahn.specs.declared.want.Want.{Want}
use Rattle.kahn.specs.declared.want.Want.TheVariants.{Read, Write}
use Rattle.flow_messages.specs.Ends.{FoundNone, LookedForRoom, SameEnds, Taken, View}
use Rattle.flow_messages.specs.Signals.{Signal}
use Rattle.flow_messages.specs.declared.ends.Ends.{Ghosts as EndsGhosts}
use Rattle.flow_base.specs.Machines.{MachineLaws, ask_of, move_of}
use Rattle.flow_base.specs.NodeLaws.{behaviour_laws}
use Rattle.flow_base.specs.Nodes.{behaviour_of, want_for, want_in}
use Rattle.flow_base.specs.Standing.{WalksOn, standing}
use Rattle.flow_base.specs.Transducers.{Behaviour, BehaviourLaws}
use Rattle.flow_base.specs.Visits.{BrokeOff, IsPlaced, IsStuck, WentOn, edge_of}
use Rattle.flow_base.specs.Walks.{Visit, Walk}
use Rattle.flow_base.specs.declared.node.Node.{Node}
use Rattle.flow_base.specs.declared.node.NodeEdges.{NodeEdges}
use Rattle.flow_base.specs.declared.node.Phase.TheVariants.{Working}
use Rattle.flow_base.specs.declared.worker.Worker.{Ghosts}
use Rattle.flow_base.proofs.Kernels.{made_went, went_made}
use Rattle.flow_base.proofs.Visits.{Made, broke_off, broke_reading, made_looked, made_read, made_room, no_ok, no_room, on_err, placed_on, visited}

module _ {E : Type 0} (e : EndsGhosts E) {S : Type 0} {b : Behaviour S} (laws : BehaviourLaws b) {ins outs : List ℕ} {s : S} (a : E) (placed : IsPlaced b ins outs s (e.view a))
    {t : S} {v : View} {any : Bool} (made : Made b ins outs s (e.view a) t v any) (u : E) (same : e.same a u) where
  -- no message was there that it wants
  pub found_nothing : (p : ℕ) → b.process.want t ≡ Read p → FoundNone v (edge_of ins p) (e.view u) → Visit e.view e.same ins outs b s a t u (Ok any)
  found_nothing p wants none =
      let looked = made_looked laws placed made p (e.view u) wants none.0 in
      record {
        same = same;
        ends = looked.ends;
        visited = visited laws placed looked (λ h. subst (IsStuck ins outs (e.view u)) (sym wants) none.1);
        broke = tt;
      }

  -- no room was there where it wants to write
  pub found_no_room : (q : ℕ) (r : Bool) → b.process.want t ≡ Write q → LookedForRoom v (edge_of outs q) (e.view u) → IsTrue r ↔ (0 < (e.view u).room (edge_of outs q)) → r ≡ false →
      Visit e.view e.same ins outs b s a t u (Ok any)
  found_no_room q r wants looked tells none =
      let seen = made_room laws placed made q (e.view u) wants looked in
      record {
        same = same;
        ends = seen.ends;
        visited = visited laws placed seen (λ h. subst (IsStuck ins outs (e.view u)) (sym wants) (no_room r ((e.view u).room (edge_of outs q)) tells none));
        broke = tt;
      }

  -- it read a message, and made no step after it
  pub read_last : (p : ℕ) (m : Signal) (t' : S) → b.process.want t ≡ Read p → Taken v (edge_of ins p) m (e.view u) → t' ≡ b.process.read t m → (some : Bool) → true ≡ some →
      Visit e.view e.same ins outs b s a t' u (Ok some)
  read_last p m t' wants taken is some told =
      let after = made_read laws placed made p m t' (e.view u) wants taken is in
      subst (λ any. Visit e.view e.same ins outs b s a t' u (Ok any)) told (record {
        same = same;
        ends = after.ends;
        visited = visited laws placed after (λ h. cc);
        broke = tt;
      })

  module _ (t' : S) (still : t' ≡ t) (starves : b.takes_memory t ≡ true) (r : Result Bool AllocError) (refused : IsErr r) where
    -- memory was refused to what it read
    pub refused_read : (p : ℕ) (m : Signal) → b.process.want t ≡ Read p → Taken v (edge_of ins p) m (e.view u) → Visit e.view e.same ins outs b s a t' u r
    refused_read p m wants taken = record {
      same = same;
      ends = (made_read laws placed made p m (b.process.read t m) (e.view u) wants taken refl).ends;
      visited = no_ok _ r refused;
      broke = on_err r (broke_reading laws placed made p m t' (e.view u) wants taken still starves);
    }

    -- memory was refused to what it was to write
    pub refused_write : (q : ℕ) → b.process.want t ≡ Write q → LookedForRoom v (edge_of outs q) (e.view u) → Visit e.view e.same ins outs b s a t' u r
    refused_write q wants looked =
        let seen = made_room laws placed made q (e.view u) wants looked in
        record {
          same = same;
          ends = seen.ends;
          visited = no_ok _ r refused;
          broke = on_err r (broke_off laws placed seen t' still starves);
        }

-- memory was refused, where it broke off
pub broken : {E : Type 0} (e : EndsGhosts E) {S : Type 0} {b : Behaviour S} {ins outs : List ℕ} {s t : S} (a u : E) → e.same a u → SameEnds (e.view a) (e.view u) →
    BrokeOff ins outs b s (e.view a) t (e.view u) → (r : Result Bool AllocError) → IsErr r → Visit e.view e.same ins outs b s a t u r
broken e a u same ends broke r is = record { same = same; ends = ends; visited = no_ok _ r is; broke = on_err r broke }

-- what a node wants that works
pub wants_so : {W : Type 0} (w : Ghosts W) (t : Node W) (x y : Want) → t.phase ≡ Working → y ≡ want_for (ask_of (move_of w.machine (w.state t.worker))) → y ≡ x
    → (behaviour_of w.machine).process.want (standing w t) ≡ x
wants_so w t x y works asks is = ap (λ p. want_in w.machine p (standing w t)) works ∙ sym asks ∙ is

-- of so many steps and one more there are some
pub stepped : (n : ℕ) → true ≡ nat_lt 0 (n + 1)
stepped n = grind (arith, nat_tests)

-- what was tried got so far
pub tried : {W E : Type 0} (w : Ghosts W) (e : EndsGhosts E) (edges : NodeEdges) (n : Node W) (a : E) (t : Node W) (v : E) (k : ℕ) → e.same a v →
    Made (behaviour_of w.machine) edges.inputs.now edges.outputs.now (standing w n) (e.view a) (standing w t) (e.view v) (nat_lt 0 k) → WalksOn w e edges n a t v (Ok k)
tried w e edges n a t v k same made = record { same = same; ends = made.ends; went = went_made made; broke = tt }

module _ {W E : Type 0} (w : Ghosts W) (e : EndsGhosts E) (laws : MachineLaws w.machine) {ins outs : List ℕ} (n : Node W) (a : E)
    (placed : IsPlaced (behaviour_of w.machine) ins outs (standing w n) (e.view a)) where
  -- where some steps were made, its edges are still there
  pub still_placed : (t : Node W) (v : E) (any : Bool) → SameEnds (e.view a) (e.view v) → WentOn ins outs (behaviour_of w.machine) (standing w n) (e.view a) (standing w t) (e.view v) any
      → IsPlaced (behaviour_of w.machine) ins outs (standing w t) (e.view v)
  still_placed t v any ends went = placed_on (behaviour_laws _ laws) placed (made_went went (behaviour_laws _ laws) placed ends)

  pub still_there : (t : Node W) (v : E) (k : ℕ) → Walk e.view e.same ins outs (behaviour_of w.machine) (standing w n) a (standing w t) v k
      → IsPlaced (behaviour_of w.machine) ins outs (standing w t) (e.view v)
  still_there t v k got = still_placed t v (nat_lt 0 k) got.ends (k, got.went, refl)
