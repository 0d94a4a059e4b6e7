-- Answers to whole lists, beside partial functions: a node's function tells what its step makes.
use Rattle.std.specs.Prelude.{◌≡◌, ℕ, true, List, [], ◌∷◌, map, length, Option, Some, None, option_map, Result, Ok, Err, IfOk, refl}
use Rattle.std.specs.Result.{result_ok}
use Rattle.std.proofs.Common.{sym, ap, subst}
use Rattle.std.proofs.Math.Path.{ap₂}
use Rattle.snesl_data.specs.declared.fault.FaultKind.{FaultKind}
use Rattle.snesl_data.specs.Types.{Ty}
use Rattle.snesl_data.specs.Values.{Value}
use Rattle.flow_base.specs.Columns.{Columns}
use Rattle.flow_values.specs.Shapes.{is_a}
use Rattle.flow_nodes.specs.functions.Lists.{bind, each}
use Rattle.flow_nodes.specs.functions.Made.{columns_of_values}
use Rattle.flow_nodes.proofs.OfFunctions.Options.{bind_gives, map_gives, some_same}
use Rattle.flow_nodes.proofs.OfFunctions.ValueDecoding.{AllAre, all_cons}
use Rattle.snesl_evaluation.specs.Answer.{Answer, gives, faults, go, go_all, answer_at}
use Rattle.flow_nodes.specs.plans.Plans.{Operation, made_by, streams_at}
use Rattle.snesl_translation.specs.Wires.{Wires}
use Rattle.snesl_translation.specs.Makings.{Making, stepped}
use Rattle.snesl_translation.specs.Carrying.{Makes, Goes}
use Rattle.snesl_translation.proofs.Carrying.{stepped_makes, stepped_stops}
use Rattle.snesl_translation.proofs.Instances.{map_each}

-- there is the same on both sides, or a fault and nothing
abbrev pub Agrees : {A : Type 0} → Answer A → Option A → Type 0
Agrees (gives x) o = o ≡ Some x
Agrees (faults kind at) o = o ≡ None

pub agree_map : {A B : Type 0} (f : A → B) (a : Answer A) (o : Option A) → Agrees a o → Agrees (go a (λ x. gives (f x))) (option_map f o)
agree_map f (gives x) o h = ap (option_map f) h
agree_map f (faults kind at) o h = ap (option_map f) h

-- a result, or its fault
pub agree_value : {A B : Type 0} (value : A → B) (at : ℕ) (r : Result A FaultKind) → Agrees (go (answer_at at r) (λ x. gives (value x))) (option_map value (result_ok r))
agree_value value at (Ok x) = refl
agree_value value at (Err kind) = refl

agree_both : {B : Type 0} (a : Answer B) (o : Option B) (b : Answer (List B)) (p : Option (List B)) → Agrees a o → Agrees b p
    → Agrees (go a (λ y. go b (λ ys. gives (y ∷ ys)))) (bind o (λ y. option_map (λ ys. y ∷ ys) p))
agree_both (gives y) o (gives ys) p h g = ap₂ (λ o p. bind o (λ y. option_map (λ ys. y ∷ ys) p)) h g
agree_both (gives y) o (faults kind at) p h g = ap₂ (λ o p. bind o (λ y. option_map (λ ys. y ∷ ys) p)) h g
agree_both (faults kind at) o b p h g = ap (λ o. bind o (λ y. option_map (λ ys. y ∷ ys) p)) h

-- Where a function and its twin agree at each item, they do so at a list.
pub all_agree : {Z A B : Type 0} (make : Z → A) (f : A → Answer B) (g : Z → Option B) → ((z : Z) → Agrees (f (make z)) (g z)) → (zs : List Z) → Agrees (go_all f (map make zs)) (each g zs)
all_agree make f g h [] = refl
all_agree make f g h (z ∷ zs) = agree_both (f (make z)) (g z) (go_all f (map make zs)) (each g zs) (h z) (all_agree make f g h zs)

pub go_all_same : {Z A B : Type 0} (make : Z → A) (f g : A → Answer B) → ((z : Z) → f (make z) ≡ g (make z)) → (zs : List Z) → go_all f (map make zs) ≡ go_all g (map make zs)
go_all_same make f g h [] = refl
go_all_same make f g h (z ∷ zs) = ap₂ (λ a b. go a (λ y. go b (λ ys. gives (y ∷ ys)))) (h z) (go_all_same make f g h zs)

-- where there is a value at each, so at the list
pub go_all_gives : {Z A B : Type 0} (make : Z → A) (f : A → Answer B) (value : Z → B) → ((z : Z) → f (make z) ≡ gives (value z)) → (zs : List Z) → go_all f (map make zs) ≡ gives (map value zs)
go_all_gives make f value h [] = refl
go_all_gives make f value h (z ∷ zs) = ap₂ (λ a b. go a (λ y. go b (λ ys. gives (y ∷ ys)))) (h z) (go_all_gives make f value h zs)

-- for each

-- values that come of what is given for each are of a type, where that is so for each
pub each_are : {Z B : Type 0} (t : Ty) (value : B → Value) (g : Z → Option B) → ((z : Z) (b : B) → g z ≡ Some b → is_a t (value b) ≡ true)
    → (zs : List Z) (bs : List B) → each g zs ≡ Some bs → AllAre t (map value bs)
each_are t value g h [] bs e = let same : [] ≡ bs = some_same [] bs e in subst (λ bs. AllAre t (map value bs)) same refl
each_are t value g h (z ∷ zs) bs e =
    let one = bind_gives (g z) (λ y. option_map (λ ys. y ∷ ys) (each g zs)) e in
    let others = map_gives (λ ys. one.0 ∷ ys) (each g zs) one.2 in
    subst (λ bs. AllAre t (map value bs)) (sym others.2) (all_cons t (value one.0) (map value others.0) (h z one.0 one.1) (each_are t value g h zs others.0 others.1))

-- what holds of a result, where there is one
pub if_ok : {A E : Type 0} (P : A → Type 0) (r : Result A E) (x : A) → IfOk r P → result_ok r ≡ Some x → P x
if_ok P (Ok y) x h e = subst P (some_same y x e) h
if_ok P (Err kind) x h e = absurd (cc)

-- steps

step_either : {B : Type 0} (streams : Columns) (at : ℕ) (operation : Operation) (reads : List ℕ) (t : Ty) (read : Columns) (value : B → Value) (a : Answer (List Value)) (o : Option (List B))
    → streams_at reads streams ≡ Some read → made_by operation read ≡ option_map (λ bs. columns_of_values t (map value bs)) o → Agrees a (option_map (map value) o)
    → ((bs : List B) → o ≡ Some bs → AllAre t (map value bs)) → Goes streams t (stepped at operation reads t (length streams)) a
step_either streams at operation reads t read value (gives vs) (Some bs) there made h are =
    subst (λ vs. Makes streams t (stepped at operation reads t (length streams)) vs) (some_same (map value bs) vs h)
    (stepped_makes streams at operation reads t read (map value bs) there made (are bs refl))
step_either streams at operation reads t read value (gives vs) None there made h are = absurd (cc)
step_either streams at operation reads t read value (faults kind place) (Some bs) there made h are = absurd (cc)
step_either streams at operation reads t read value (faults kind place) None there made h are = stepped_stops streams at operation reads t (length streams) read there made

-- A step goes as the answers do, where its node makes what the answers' twin gives, each as a value.
pub step_goes : {Z A B : Type 0} (streams : Columns) (at : ℕ) (operation : Operation) (reads : List ℕ) (t : Ty) (read : Columns)
    (make : Z → A) (answer : A → Answer Value) (value : B → Value) (g : Z → Option B) (zs : List Z) (vs : List A) → vs ≡ map make zs → streams_at reads streams ≡ Some read
    → made_by operation read ≡ option_map (λ bs. columns_of_values t (map value bs)) (each g zs) → ((z : Z) → Agrees (answer (make z)) (option_map value (g z)))
    → ((bs : List B) → each g zs ≡ Some bs → AllAre t (map value bs)) → Goes streams t (stepped at operation reads t (length streams)) (go_all answer vs)
step_goes streams at operation reads t read make answer value g zs vs view there made agrees are =
    step_either streams at operation reads t read value (go_all answer vs) (each g zs) there made
    (subst (λ vs. Agrees (go_all answer vs) (option_map (map value) (each g zs))) (sym view)
    (subst (λ o. Agrees (go_all answer (map make zs)) o) (map_each g value zs) (all_agree make answer (λ z. option_map value (g z)) agrees zs))) are

-- the type of what is made, where there is one
pub goes_typed : (streams : Columns) (s t : Ty) (making : Making Wires) (a : Answer (List Value)) → Some s ≡ Some t → Goes streams s making a → Goes streams t making a
goes_typed streams s t making a e h = subst (λ t. Goes streams t making a) (some_same s t e) h
