-- The same nodes later fit in the same skeleton.
use Rattle.std.proofs.Common.{◌≡◌, ℕ, suc, ◌<◌, List, [], ◌∷◌, length, get_or, map, refl, sym, ◌∙◌, ap, arith}
use Rattle.flow_base.specs.Transducers.{BehaviourLaws}
use Rattle.flow_base.specs.declared.transducer.Transducer.{Ghosts}
use Rattle.flow_networks.specs.declared.edge.Edge.{Edge}
use Rattle.flow_networks.specs.declared.placed.Placed.{Placed}
use Rattle.flow_networks.specs.Places.{number_at, placed_state, states_in}
use Rattle.flow_networks.specs.Skeletons.{FitTogether, AreSamePlaces}
use Rattle.flow_networks.proofs.Reached.{built_openings}

-- lists that f does not tell apart
map_same : {X Y : Type 0} (f : X → Y) (xs ys : List X) → length ys ≡ length xs → ((k : ℕ) (d : X) → k < length xs → f (get_or ys k d) ≡ f (get_or xs k d)) → map f ys ≡ map f xs
map_same f [] [] even same = refl
map_same f [] (y ∷ ys) even same = absurd (omega (arith, even))
map_same f (x ∷ xs) [] even same = absurd (omega (arith, even))
map_same f (x ∷ xs) (y ∷ ys) even same =
    ap (λ z. z ∷ map f ys) (same 0 x (omega arith))
    ∙ ap (λ zs. f x ∷ zs) (map_same f xs ys (omega (arith, even)) (λ k d l. same (suc k) d (omega (arith, l))))

map_both : {X Y Z : Type 0} (f : X → Y) (g : Y → Z) (xs : List X) → map g (map f xs) ≡ map (λ x. g (f x)) xs
map_both f g [] = refl
map_both f g (x ∷ xs) = ap (λ zs. g (f x) ∷ zs) (map_both f g xs)

-- what fits together still does later
abbrev pub LaterFit : {X : Type 0} → Ghosts X → Type 0
LaterFit {X} t = (nodes later : List (Placed X t)) (edges : List Edge) → FitTogether nodes edges → AreSamePlaces nodes later → FitTogether later edges

pub later_fit : {X : Type 0} {t : Ghosts X} → BehaviourLaws t.behaviour → LaterFit t
later_fit {X} {t} laws nodes later edges fit same = record {
  built = built_openings t.behaviour laws (states_in nodes) (states_in later) openings edges fit.built;
  seated = record {
    numbers = λ k l. ap (λ (ns : List ℕ). get_or ns k 0)
        (map_same (λ (n : Placed X t). n.number) nodes later same.count (λ j d inside. (same.each j d inside).number))
        ∙ fit.seated.numbers k (omega (arith, l, same.count));
    inputs = λ k p taken. ap (λ table. number_at table k p)
        (map_same (λ (n : Placed X t). n.inputs.items) nodes later same.count (λ j d inside. (same.each j d inside).inputs))
        ∙ fit.seated.inputs k p taken;
    outputs = λ k q taken. ap (λ table. number_at table k q)
        (map_same (λ (n : Placed X t). n.outputs.items) nodes later same.count (λ j d inside. (same.each j d inside).outputs))
        ∙ fit.seated.outputs k q taken;
  };
}
  where
    openings : map t.behaviour.opening (states_in later) ≡ map t.behaviour.opening (states_in nodes)
    openings =
        map_both placed_state t.behaviour.opening later
        ∙ map_same (λ (n : Placed X t). t.behaviour.opening (placed_state n)) nodes later same.count (λ j d inside. (same.each j d inside).opening)
        ∙ sym (map_both placed_state t.behaviour.opening nodes)
