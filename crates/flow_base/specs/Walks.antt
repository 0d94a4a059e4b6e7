-- What a visit did, and what a part of it.
use Rattle.std.specs.Prelude.{ℕ, Bool, List, Result, IfOk, OnErr}
use Rattle.std.specs.declared.alloc.AllocError.{AllocError}
use Rattle.flow_messages.specs.Ends.{View, SameEnds}
use Rattle.flow_base.specs.Transducers.{Behaviour}
use Rattle.flow_base.specs.Visits.{BrokeOff, Visited, Went}

module _ {E S : Type 0} (view : E → View) (alike : E → E → Type 0) (inputs outputs : List ℕ) (b : Behaviour S) where
  -- From s to t, over the same ends, it made so many steps.
  pub record Walk (s : S) (a : E) (t : S) (v : E) (steps : ℕ) : Type 0 where
    pub same : alike a v
    pub ends : SameEnds (view a) (view v)
    pub went : Went inputs outputs b s (view a) t (view v) steps

  -- From s to t, over the same ends, it made some steps, or none, or steps until memory was refused.
  pub record Visit (s : S) (a : E) (t : S) (v : E) (result : Result Bool AllocError) : Type 0 where
    pub same : alike a v
    pub ends : SameEnds (view a) (view v)
    pub visited : IfOk result (λ any. Visited inputs outputs b s (view a) t (view v) any)
    pub broke : OnErr result (BrokeOff inputs outputs b s (view a) t (view v))
