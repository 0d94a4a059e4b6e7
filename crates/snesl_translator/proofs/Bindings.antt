-- The names of parameters and of binders, item by item.
use Rattle.std.proofs.Common.{◌≡◌, ℕ, suc, ◌<◌, ◌+◌, List, [], ◌∷◌, ◌++◌, map, length, drop, get_or, refl, sym, ap, ◌∙◌, arith, zero, min, drop-cons, add-one, append_assoc}
use Rattle.std.proofs.lemmas.List.{map-append}
use Rattle.snesl_grammar.specs.declared.tree.declaration.Typing.{Typing}
use Rattle.snesl_grammar.specs.tree.Spelling.{spelling}
use Rattle.snesl_grammar.specs.tree.View.{typed_of}
use Rattle.snesl_translation.specs.Wires.{Wires as WiresOf, Bound, item_wires}
use Rattle.snesl_translation.specs.Functions.{parameters_bound}
use Rattle.snesl_translation.specs.Translation.{items_bound}
use Rattle.snesl_translator.specs.steps.Views.{binding_of, bindings_of, wires_of}
use Rattle.snesl_translator.specs.declared.steps.wires.Wires.{Wires}
use Rattle.snesl_translator.specs.declared.steps.wires.Binding.{Binding}

pub items_mapped : (sources : List Binding) → map (λ source. (source.name.now, item_wires (wires_of source.wires))) sources ≡ items_bound (bindings_of sources)
items_mapped [] = refl
items_mapped (source ∷ sources) = ap (λ bound. (source.name.now, item_wires (wires_of source.wires)) ∷ bound) (items_mapped sources)

-- one more parameter
pub parameter_bound : (text : List ℕ) (parameters : List Typing) (arguments : List Wires) (i : ℕ) (parameter : Typing) (wires : Wires) → i < length parameters → i < length arguments
    → parameter ≡ get_or parameters i parameter → wires ≡ get_or arguments i wires
    → parameters_bound text (map typed_of (drop i parameters)) (map wires_of (drop i arguments))
    ≡ (spelling text parameter.name, wires_of wires) ∷ parameters_bound text (map typed_of (drop (i + 1) parameters)) (map wires_of (drop (i + 1) arguments))
parameter_bound text parameters arguments i parameter wires l m p q =
    ap (λ ps. parameters_bound text (map typed_of ps) (map wires_of (drop i arguments))) (drop-cons parameters i parameter l ∙ ap (λ x. x ∷ drop (suc i) parameters) (sym p))
    ∙ ap (λ us. parameters_bound text (map typed_of (parameter ∷ drop (suc i) parameters)) (map wires_of us)) (drop-cons arguments i wires m ∙ ap (λ x. x ∷ drop (suc i) arguments) (sym q))
    ∙ ap (λ j. (spelling text parameter.name, wires_of wires) ∷ parameters_bound text (map typed_of (drop j parameters)) (map wires_of (drop j arguments))) (sym (add-one i))

-- after as many as there are of both
pub parameters_end : (text : List ℕ) (parameters : List Typing) (arguments : List Wires) (i : ℕ) → i ≡ min (length parameters) (length arguments)
    → parameters_bound text (map typed_of (drop i parameters)) (map wires_of (drop i arguments)) ≡ []
parameters_end text [] arguments zero e = refl
parameters_end text [] arguments (suc i) e = refl
parameters_end text (p ∷ ps) [] zero e = refl
parameters_end text (p ∷ ps) [] (suc i) e = absurd (omega (arith, e))
parameters_end text (p ∷ ps) (u ∷ us) zero e = absurd (omega (arith, e))
parameters_end text (p ∷ ps) (u ∷ us) (suc i) e = parameters_end text ps us i (omega (arith, e))

-- one more binding
pub bound_more : (bindings more : List Binding) (binding : Binding) (entry : List ℕ × WiresOf) (others : Bound) → more ≡ bindings ++ binding ∷ [] → entry ≡ binding_of binding
    → bindings_of bindings ++ (entry ∷ others) ≡ bindings_of more ++ others
bound_more bindings more binding entry others e same =
    ap (λ x. bindings_of bindings ++ (x ∷ others)) same
    ∙ sym (append_assoc (bindings_of bindings) (binding_of binding ∷ []) others)
    ∙ ap (λ l. l ++ others) (sym (map-append binding_of bindings (binding ∷ [])))
    ∙ ap (λ l. bindings_of l ++ others) (sym e)

-- what a body sees, as the slices of its frames and as its rows hold it
pub bound_seen : {items outside : List Binding} (items' outside' : List Binding) → items ≡ items' → outside ≡ outside'
    → bindings_of items ++ (bindings_of outside ++ []) ≡ bindings_of items' ++ (bindings_of outside' ++ [])
bound_seen {outside = outside} items' outside' e h =
    ap (λ (l : List Binding). bindings_of l ++ (bindings_of outside ++ [])) e ∙ ap (λ (l : List Binding). bindings_of items' ++ (bindings_of l ++ [])) h
