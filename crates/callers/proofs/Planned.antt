-- Networks of plans are networks of the texts of their programs.
use Rattle.std.proofs.Common.{◌≡◌, ℕ, ◌+◌, ◌<◌, List, [], ◌∷◌, ◌++◌, Ok, length, take, get_or, refl, sym, ap, ◌∙◌, subst, arith}
use Rattle.std.proofs.lemmas.List.{take_more, length-take-le}
use Rattle.std.proofs.lemmas.List.Elements.{All-push}
use Rattle.std.specs.List.{All, zip}
use Rattle.snesl_values.specs.Inputs.{InputMeans, spells}
use Rattle.snesl_syntax.specs.Parse.{Parses}
use Rattle.snesl_types.specs.Program.{Program}
use Rattle.snesl_types.specs.GrammarView.{program_of as tree_of}
use Rattle.snesl_types.specs.Programs.{HasTyping}
use Rattle.snesl_types.specs.Typed.{program_of, typed_inputs, typed_ty}
use Rattle.snesl_types.specs.declared.typed.TypedProgram.{TypedProgram}
use Rattle.flow_graph.specs.Edge.{Edge}
use Rattle.snesl_flatten.specs.Networks.{NetworkMeans, StreamNodeState}
use Rattle.callers.specs.Flatten.{IsNetworkOf, IsNetworkOfTyped}
use Rattle.callers.proofs.Checked.{of_text, of_program}

module _ (text : List ℕ) (parsed : Program) (typed : TypedProgram) (kept : parsed.text.items ≡ text) (same : program_of typed ≡ parsed) where
  -- a network of the typed program is one of the text
  pub of_network : (input : List ℕ) (states : List StreamNodeState) (edges : List Edge) → Parses text (Ok (tree_of parsed))
      → HasTyping parsed.text.items (tree_of parsed) (typed_inputs typed) (typed_ty typed) → IsNetworkOfTyped typed input states edges → IsNetworkOf text input states edges
  of_network input states edges parses typing made = record {
    program = tree_of parsed;
    inputs = typed_inputs typed;
    ty = typed_ty typed;
    environment = made.environment;
    parses = parses;
    types = of_text text parsed typed kept same typing;
    reads = subst (λ (p : Program). InputMeans p.dialect (typed_inputs typed) input (spells made.environment)) same made.reads;
    opened = made.opened;
    means = of_program text parsed typed kept same (λ text program. NetworkMeans text program made.environment states edges) made.means;
  }

module _ {A B : Type 0} where
  -- one pair more, of one element more of each
  zip-push : (xs : List A) (ys : List B) (x : A) (y : B) → length xs ≡ length ys → zip (xs ++ x ∷ []) (ys ++ y ∷ []) ≡ zip xs ys ++ (x, y) ∷ []
  zip-push [] [] x y n = refl
  zip-push [] (w ∷ ys) x y n = absurd (omega arith)
  zip-push (v ∷ xs) [] x y n = absurd (omega arith)
  zip-push (v ∷ xs) (w ∷ ys) x y n = ap (λ (l : List (A × B)). (v, w) ∷ l) (zip-push xs ys x y (omega arith))

  -- so it is of each pair that is so of the earlier ones, and of the one that is added
  pub pairs_more : (P : A × B → Type 0) (xs : List A) (ys : List B) (i : ℕ) (x : A) (y : B) → i < length xs → x ≡ get_or xs i x → length ys ≡ i
      → All P (zip (take i xs) ys) → P (x, y) → All P (zip (take (i + 1) xs) (ys ++ y ∷ []))
  pairs_more P xs ys i x y lt is count before this =
      let more : take (i + 1) xs ≡ take i xs ++ x ∷ [] = take_more xs i x lt ∙ ap (λ z. take i xs ++ z ∷ []) (sym is) in
      let long : length (take i xs) ≡ length ys = length-take-le i xs (omega arith) ∙ sym count in
      subst (All P) (sym (ap (λ l. zip l (ys ++ y ∷ [])) more ∙ zip-push (take i xs) ys x y long)) (All-push P (zip (take i xs) ys) (x, y) before this)
