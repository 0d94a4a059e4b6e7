-- Steps that run one after the other.
use Rattle.std.specs.Prelude.{◌≡◌, List, [], ◌∷◌, ◌++◌, Option, Some, None, refl}
use Rattle.std.proofs.Common.{sym, ◌∙◌}
use Rattle.flow_base.specs.Columns.{Columns}
use Rattle.flow_nodes.specs.functions.Lists.{bind}
use Rattle.flow_nodes.specs.plans.Plans.{Step, streams_at, made_by, run}

-- where both go on with the same, so does what goes on with them
pub bind_bind : {A B C : Type 0} (o : Option A) (f : A → Option B) (g : B → Option C) → bind (bind o f) g ≡ bind o (λ x. bind (f x) g)
bind_bind None f g = refl
bind_bind (Some x) f g = refl

pub bind_same : {A B : Type 0} (o : Option A) (f g : A → Option B) → ((x : A) → f x ≡ g x) → bind o f ≡ bind o g
bind_same None f g same = refl
bind_same (Some x) f g same = same x

-- steps after others run on the streams of those
pub in_turn : (first second : List Step) (streams : Columns) → run (first ++ second) streams ≡ bind (run first streams) (run second)
in_turn [] second streams = refl
in_turn (step ∷ first) second streams =
    bind_same (streams_at step.reads streams)
    (λ read. bind (made_by step.operation read) (λ written. run (first ++ second) (streams ++ written)))
    (λ read. bind (bind (made_by step.operation read) (λ written. run first (streams ++ written))) (run second))
    (λ read. bind_same (made_by step.operation read) (λ written. run (first ++ second) (streams ++ written))
    (λ written. bind (run first (streams ++ written)) (run second)) (λ written. in_turn first second (streams ++ written))
    ∙ sym (bind_bind (made_by step.operation read) (λ written. run first (streams ++ written)) (run second)))
    ∙ sym (bind_bind (streams_at step.reads streams) (λ read. bind (made_by step.operation read) (λ written. run first (streams ++ written))) (run second))
