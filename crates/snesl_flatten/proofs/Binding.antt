-- The beginnings of the streams of some inputs, and then of further ones.
use Rattle.std.proofs.Common.{◌≡◌, ℕ, ◌+◌, ◌<◌, List, [], ◌∷◌, ◌++◌, length, take, drop, get_or, Vec, Result, Ok, Err, refl, sym, ap, subst, ◌∙◌, append_assoc, append-nil}
use Rattle.std.proofs.lemmas.List.{map-append, take_more, drop_more, take-append-drop}
use Rattle.std.specs.Global.{Global}
use Rattle.std.specs.Result.{IsErr, IsErrAnd}
use Rattle.snesl_data.specs.declared.refusal.Refusal.{Refusal}
use Rattle.snesl_data.specs.declared.ty.Ty.{Ty as TyTree}
use Rattle.snesl_values.specs.Inputs.{InputDeclaration, declared, declaration_of}
use Rattle.flow_messages.specs.Cells.{Cell}
use Rattle.snesl_translation.specs.Wires.{Wires, Bound}
use Rattle.snesl_translation.specs.Makings.{Making, done, and_then}
use Rattle.snesl_translation.specs.Programs.{sourced, inputs_sourced, unset_cells}
use Rattle.snesl_translator.specs.declared.steps.steps.Steps.{Steps}
use Rattle.snesl_translator.specs.declared.steps.wires.Binding.{Binding}
use Rattle.snesl_translator.specs.steps.Views.{next_in, wires_of, binding_of, bindings_of}
use Rattle.snesl_translator.specs.steps.Added.{HasMade, Adds}
use Rattle.snesl_translator.proofs.OfSteps.Adding.{done_made, made_then, then_done, refused_first, exits_first}

same_making : {A : Type 0} (one other : Making A) → one.steps ≡ other.steps → one.given ≡ other.given → one.next ≡ other.next → one ≡ other
same_making one other steps given next = λ i. record { steps = steps i; given = given i; next = next i }

pub inputs_append : (at : ℕ) (cells : ℕ → List Cell) (xs ys : List InputDeclaration) (next : ℕ) →
    inputs_sourced at cells (xs ++ ys) next ≡ and_then (inputs_sourced at cells xs next) (λ b k. and_then (inputs_sourced at cells ys k) (λ c k. done (b ++ c) k))
unfolding and_then
inputs_append at cells [] ys next = same_making _ _ (sym (append-nil (inputs_sourced at cells ys next).steps)) refl refl
inputs_append at cells (x ∷ xs) ys next =
    let first = sourced at cells x.1 next in
    let k = first.next in
    let front = inputs_sourced at cells xs k in
    let later = inputs_sourced at cells ys front.next in
    let ih = inputs_append at cells xs ys k in
    same_making _ _
    (ap (λ (m : Making Bound). first.steps ++ (m.steps ++ [])) ih
    ∙ ap (λ l. first.steps ++ l)
    (append_assoc front.steps (later.steps ++ []) [] ∙ ap (λ l. front.steps ++ l) (append-nil (later.steps ++ []))
    ∙ sym (ap (λ l. l ++ (later.steps ++ [])) (append-nil front.steps)))
    ∙ sym (append_assoc first.steps (front.steps ++ []) (later.steps ++ [])))
    (ap (λ (m : Making Bound). (x.0, first.given) ∷ m.given) ih)
    (ap (λ (m : Making Bound). m.next) ih)

-- one input
one_bound : (old new : Steps) (at : ℕ) (d : InputDeclaration) (w : Wires) → HasMade old new (sourced at unset_cells d.1 (next_in old)) w →
    HasMade old new (inputs_sourced at unset_cells (d ∷ []) (next_in old)) ((d.0, w) ∷ [])
one_bound old new at d w made =
    made_then (λ b. b) old new new (sourced at unset_cells d.1 (next_in old)) (λ u k. and_then (inputs_sourced at unset_cells [] k) (λ bound k. done ((d.0, u) ∷ bound) k)) w (Ok ((d.0, w) ∷ [])) made
    (then_done new new (inputs_sourced at unset_cells [] (next_in new)) (λ bound. (d.0, w) ∷ bound) [] (done_made new []))

-- some inputs and then one more
pub one_more_bound : (old middle new : Steps) (at : ℕ) (xs : List InputDeclaration) (d : InputDeclaration) (bound : Bound) (w : Wires) →
    HasMade old middle (inputs_sourced at unset_cells xs (next_in old)) bound
    → HasMade middle new (sourced at unset_cells d.1 (next_in middle)) w → HasMade old new (inputs_sourced at unset_cells (xs ++ d ∷ []) (next_in old)) (bound ++ (d.0, w) ∷ [])
one_more_bound old middle new at xs d bound w made one =
    subst (λ m. HasMade old new m (bound ++ (d.0, w) ∷ [])) (sym (inputs_append at unset_cells xs (d ∷ []) (next_in old)))
    (made_then (λ b. b) old middle new (inputs_sourced at unset_cells xs (next_in old))
    (λ b k. and_then (inputs_sourced at unset_cells (d ∷ []) k) (λ c k. done (b ++ c) k)) bound (Ok (bound ++ (d.0, w) ∷ [])) made
    (then_done middle new (inputs_sourced at unset_cells (d ∷ []) (next_in middle)) (λ c. bound ++ c) ((d.0, w) ∷ []) (one_bound middle new at d w one)))

-- one that is refused
pub one_refused : {C : Type 0} (view : C → Bound) (old middle new : Steps) (at : ℕ) (xs : List InputDeclaration) (d : InputDeclaration)
    (others : List InputDeclaration) (bound : Bound) (e : Refusal) (r : Result C Refusal)
    → IsErr r × IsErrAnd r (λ g. g ≡ e) → HasMade old middle (inputs_sourced at unset_cells xs (next_in old)) bound
    → Adds wires_of middle new (sourced at unset_cells d.1 (next_in middle)) (Err e) → Adds view old new (inputs_sourced at unset_cells (xs ++ d ∷ others) (next_in old)) r
one_refused view old middle new at xs d others bound e r exit made adds =
    subst (λ m. Adds view old new m r) (sym (inputs_append at unset_cells xs (d ∷ others) (next_in old)))
    (made_then view old middle new (inputs_sourced at unset_cells xs (next_in old)) (λ b k. and_then (inputs_sourced at unset_cells (d ∷ others) k) (λ c k. done (b ++ c) k)) bound r made
    (exits_first (λ (b : Bound). b) view middle new new (inputs_sourced at unset_cells (d ∷ others) (next_in middle)) (λ c k. done (bound ++ c) k) e r exit
    (refused_first wires_of (λ (b : Bound). b) middle new new (sourced at unset_cells d.1 (next_in middle))
    (λ u k. and_then (inputs_sourced at unset_cells others k) (λ bound k. done ((d.0, u) ∷ bound) k)) e adds)))

-- the declarations up to one of them, and that one
pub declared_more : (ds : List (Vec ℕ Global × TyTree)) (i : ℕ) (d : Vec ℕ Global × TyTree) → i < length ds → d ≡ get_or ds i d →
    declared (take (i + 1) ds) ≡ declared (take i ds) ++ declaration_of d ∷ []
declared_more ds i d lt is =
    ap declared (take_more ds i d lt) ∙ map-append declaration_of (take i ds) (get_or ds i d ∷ []) ∙ ap (λ x. declared (take i ds) ++ declaration_of x ∷ []) (sym is)

-- all of them
pub declared_split : (ds : List (Vec ℕ Global × TyTree)) (i : ℕ) (d : Vec ℕ Global × TyTree) → i < length ds → d ≡ get_or ds i d → declared ds
    ≡ declared (take i ds) ++ declaration_of d ∷ declared (drop (i + 1) ds)
declared_split ds i d lt is =
    ap declared (sym (take-append-drop i ds) ∙ ap (λ l. take i ds ++ l) (drop_more ds i d lt)) ∙ map-append declaration_of (take i ds) (get_or ds i d ∷ drop (i + 1) ds)
    ∙ ap (λ x. declared (take i ds) ++ declaration_of x ∷ declared (drop (i + 1) ds)) (sym is)

-- one binding more
pub bindings_more : (bindings : List Binding) (name : List ℕ) (binding : Binding) → binding.name.now ≡ name → bindings_of (bindings ++ binding ∷ [])
    ≡ bindings_of bindings ++ (name, wires_of binding.wires) ∷ []
bindings_more bindings name binding is = map-append binding_of bindings (binding ∷ []) ∙ ap (λ n. bindings_of bindings ++ (n, wires_of binding.wires) ∷ []) is
