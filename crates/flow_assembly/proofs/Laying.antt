-- The transducers of the network of a wired plan read and write streams of their kinds.
use Rattle.std.specs.Prelude.{◌≡◌, ℕ, zero, suc, ◌+◌, List, [], ◌∷◌, ◌++◌, length, replicate, Option, Some, option_map, refl}
use Rattle.std.specs.List.{slice_get}
use Rattle.std.proofs.Common.{◌∙◌, ap, subst, arith, length-append}
use Rattle.snesl_data.specs.declared.dialect.Dialect.{Dialect}
use Rattle.flow_messages.specs.declared.message.Kind.{Kind}
use Rattle.flow_nodes.specs.functions.Lists.{bind, each}
use Rattle.flow_nodes.specs.declared.plans.operation.Operation.{Operation as OperationData}
use Rattle.flow_nodes.specs.declared.plans.operation.Operation.TheVariants as held
use Rattle.flow_nodes.specs.declared.plans.operation.Step.{Step as StepData}
use Rattle.flow_nodes.specs.plans.Plans.{Step}
use Rattle.flow_nodes.specs.plans.Ports.{kinds_read, kinds_written, AreWired, kinds_after}
use Rattle.flow_nodes.specs.plans.Views.{operation_of, steps_of}
use Rattle.flow_nodes.specs.plans.Layouts.{Placed, uses, places_after, numbered, all_after, layout_from}
use Rattle.flow_assembly.specs.Openings.{IsUsable}
use Rattle.flow_assembly.proofs.Fitting.{FitsKinds, bound, changed, some_same}

-- no step of a program's plan is a fork
usable_of : (dialect : Dialect) (operation : OperationData) → IsUsable (operation_of dialect operation)
usable_of dialect held.Control = tt
usable_of dialect _ = tt

abbrev pub AllUsable : List Step → Type 0
AllUsable [] = Unit {0}
AllUsable (step ∷ steps) = IsUsable step.operation × AllUsable steps

pub steps_usable : (dialect : Dialect) (steps : List StepData) → AllUsable (steps_of dialect steps)
steps_usable dialect [] = tt
steps_usable dialect (step ∷ steps) = (usable_of dialect step.operation, steps_usable dialect steps)

-- Places of lists

pub get_front : {A : Type 0} (xs ys : List A) (k : ℕ) (x : A) → slice_get xs k ≡ Some x → slice_get (xs ++ ys) k ≡ Some x
get_front [] ys k x at = absurd (cc)
get_front (y ∷ xs) ys zero x at = at
get_front (y ∷ xs) ys (suc k) x at = get_front xs ys k x at

pub get_back : {A : Type 0} (xs ys : List A) (k : ℕ) (y : A) → slice_get ys k ≡ Some y → slice_get (xs ++ ys) (length xs + k) ≡ Some y
get_back [] ys k y at = let e : k ≡ zero + k = omega arith in subst (λ j. slice_get ys j ≡ Some y) e at
get_back (x ∷ xs) ys k y at =
    let here : slice_get (x ∷ (xs ++ ys)) (suc (length xs + k)) ≡ Some y = get_back xs ys k y at in
    let e : suc (length xs + k) ≡ suc (length xs) + k = omega arith in
    subst (λ j. slice_get (x ∷ (xs ++ ys)) j ≡ Some y) e here

all_append : {A : Type 0} (P : A → Type 0) (xs ys : List A) → ((k : ℕ) (x : A) → slice_get xs k ≡ Some x → P x) →
    ((k : ℕ) (x : A) → slice_get ys k ≡ Some x → P x) → (k : ℕ) (x : A) → slice_get (xs ++ ys) k ≡ Some x → P x
all_append P [] ys front back k x at = back k x at
all_append P (y ∷ xs) ys front back zero x at = front zero x at
all_append P (y ∷ xs) ys front back (suc k) x at = all_append P xs ys (λ j z. front (suc j) z) back k x at

first_or : {A : Type 0} (P : A → Type 0) (x : A) → P x → (xs : List A) → ((k : ℕ) (y : A) → slice_get xs k ≡ Some y → P y) → (k : ℕ) (y : A) → slice_get (x ∷ xs) k ≡ Some y → P y
first_or P x is xs others zero y at = subst P (some_same at) is
first_or P x is xs others (suc k) y at = others k y at

-- What is found in a list is found in a longer one

each_more : {A B : Type 0} (f g : A → Option B) → ((x : A) (y : B) → f x ≡ Some y → g x ≡ Some y) → (xs : List A) (ys : List B) → each f xs ≡ Some ys → each g xs ≡ Some ys
each_more f g up [] ys e = e
each_more f g up (x ∷ xs) ys e =
    let s0 = bound (f x) (λ z. option_map (λ zs. z ∷ zs) (each f xs)) ys e in
    let s1 = changed (each f xs) (λ zs. s0.0 ∷ zs) ys s0.2 in
    ap (λ o. bind o (λ y. option_map (λ zs. y ∷ zs) (each g xs))) (up x s0.0 s0.1) ∙ ap (option_map (λ zs. s0.0 ∷ zs)) (each_more f g up xs s1.0 s1.1) ∙ ap Some s1.2

pub kinds_more : (ks : List Kind) (steps : List Step) (t : ℕ) (k : Kind) → slice_get ks t ≡ Some k → slice_get (kinds_after ks steps) t ≡ Some k
kinds_more ks [] t k at = at
kinds_more ks (step ∷ steps) t k at = kinds_more (ks ++ kinds_written step.operation) steps t k (get_front ks (kinds_written step.operation) t k at)

numbered_each : (f : ℕ → Option Kind) (s : ℕ) (kinds : List Kind) → ((q : ℕ) (k : Kind) → slice_get kinds q ≡ Some k → f (s + q) ≡ Some k) → each f (numbered s kinds) ≡ Some kinds
numbered_each f s [] at = refl
numbered_each f s (k ∷ kinds) at =
    let e : s + zero ≡ s = omega arith in
    let first : f s ≡ Some k = subst (λ t. f t ≡ Some k) e (at zero k refl) in
    let others = numbered_each f (suc s) kinds (λ q j is. let e : s + suc q ≡ suc s + q = omega arith in subst (λ t. f t ≡ Some j) e (at (suc q) j is)) in
    ap (λ o. bind o (λ y. option_map (λ zs. y ∷ zs) (each f (numbered (suc s) kinds)))) first ∙ ap (option_map (λ zs. k ∷ zs)) others

replicate_each : (f : ℕ → Option Kind) (s : ℕ) (k : Kind) (n : ℕ) → f s ≡ Some k → each f (replicate n s) ≡ Some (replicate n k)
replicate_each f s k zero at = refl
replicate_each f s k (suc n) at = ap (λ o. bind o (λ y. option_map (λ zs. y ∷ zs) (each f (replicate n s)))) at ∙ ap (option_map (λ zs. k ∷ zs)) (replicate_each f s k n at)

-- The transducers

after_fits : (kinds : List Kind) (at s : ℕ) (kind : Kind) (n : ℕ) → slice_get kinds s ≡ Some kind → (k : ℕ) (placed : Placed) →
    slice_get (places_after at s kind n) k ≡ Some placed → FitsKinds kinds placed
after_fits kinds at s kind zero is zero placed there = subst (FitsKinds kinds) (some_same there) (record {
  usable = tt;
  reads = ap (λ o. bind o (λ y. Some (y ∷ []))) is;
  writes = refl;
})
after_fits kinds at s kind zero is (suc k) placed there = absurd (cc)
after_fits kinds at s kind (suc zero) is k placed there = absurd (cc)
after_fits kinds at s kind (suc (suc n)) is zero placed there = subst (FitsKinds kinds) (some_same there) (record {
  usable = omega arith;
  reads = ap (λ o. bind o (λ y. Some (y ∷ []))) is;
  writes = replicate_each (slice_get kinds) s kind (suc (suc n)) is;
})
after_fits kinds at s kind (suc (suc n)) is (suc k) placed there = absurd (cc)

module _ (plan : List Step) where
  all_after_fits : (kinds : List Kind) (at s : ℕ) (written : List Kind) → ((q : ℕ) (k : Kind) → slice_get written q ≡ Some k → slice_get kinds (s + q) ≡ Some k)
      → (k : ℕ) (placed : Placed) → slice_get (all_after plan at s written) k ≡ Some placed → FitsKinds kinds placed
  all_after_fits kinds at s [] is k placed there = absurd (cc)
  all_after_fits kinds at s (kind ∷ written) is k placed there =
      let e : s + zero ≡ s = omega arith in
      all_append (FitsKinds kinds) (places_after at s kind (uses s plan)) (all_after plan at (suc s) written)
      (after_fits kinds at s kind (uses s plan) (subst (λ t. slice_get kinds t ≡ Some kind) e (is zero kind refl)))
      (all_after_fits kinds at (suc s) written (λ q j there. let e : s + suc q ≡ suc s + q = omega arith in subst (λ t. slice_get kinds t ≡ Some j) e (is (suc q) j there)))
      k placed there

  pub layout_fits : (ks : List Kind) (steps : List Step) → AllUsable steps → AreWired ks steps → (k : ℕ) (placed : Placed) →
      slice_get (layout_from plan (length ks) steps) k ≡ Some placed → FitsKinds (kinds_after ks steps) placed
  layout_fits ks [] usable wired k placed there = absurd (cc)
  layout_fits ks (step ∷ steps) usable wired k placed there =
      let written = kinds_written step.operation in
      let all = kinds_after (ks ++ written) steps in
      let new : (q : ℕ) (k : Kind) → slice_get written q ≡ Some k → slice_get all (length ks + q) ≡ Some k =
      λ q k is. kinds_more (ks ++ written) steps (length ks + q) k (get_back ks written q k is) in
      let old : (t : ℕ) (k : Kind) → slice_get ks t ≡ Some k → slice_get all t ≡ Some k = λ t k is. kinds_more (ks ++ written) steps t k (get_front ks written t k is) in
      let this : FitsKinds all (record { at = step.at; operation = step.operation; reads = step.reads; writes = numbered (length ks) written }) = record {
        usable = usable.0;
        reads = each_more (slice_get ks) (slice_get all) old step.reads (kinds_read step.operation) wired.0;
        writes = numbered_each (slice_get all) (length ks) written new;
      } in
      let later = subst (λ s. (k : ℕ) (placed : Placed) → slice_get (layout_from plan s steps) k ≡ Some placed → FitsKinds all placed)
      (length-append ks written) (layout_fits (ks ++ written) steps usable.1 wired.1) in
      all_append (FitsKinds all)
      ((record { at = step.at; operation = step.operation; reads = step.reads; writes = numbered (length ks) written })
      ∷ all_after plan step.at (length ks) written) (layout_from plan (length ks + length written) steps)
      (first_or (FitsKinds all) (record { at = step.at; operation = step.operation; reads = step.reads; writes = numbered (length ks) written }) this
      (all_after plan step.at (length ks) written) (all_after_fits all step.at (length ks) written new)) later k placed there
