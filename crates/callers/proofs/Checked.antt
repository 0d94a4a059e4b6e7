-- What was found of a typed program is so of the text that it was parsed from.
use Rattle.std.proofs.Common.{◌≡◌, ℕ, List, ap, ◌∙◌, subst}
use Rattle.snesl_values.specs.Dialect.{Dialect}
use Rattle.snesl_values.specs.Inputs.{InputDeclaration, InputAnswer, InputMeans}
use Rattle.snesl_types.specs.Program.{Program}
use Rattle.snesl_types.specs.GrammarView.{program_of as tree_of}
use Rattle.snesl_types.specs.Programs.{HasTyping}
use Rattle.snesl_types.specs.Tree.{ProgramTree}
use Rattle.snesl_types.specs.Typed.{program_of, typed_dialect, typed_inputs, typed_text, typed_tree, typed_ty}
use Rattle.snesl_types.specs.declared.typed.TypedProgram.{TypedProgram}

module _ (text : List ℕ) (parsed : Program) (typed : TypedProgram) (kept : parsed.text.items ≡ text) (same : program_of typed ≡ parsed) where
  -- its typing
  pub of_text : HasTyping parsed.text.items (tree_of parsed) (typed_inputs typed) (typed_ty typed) → HasTyping text (tree_of parsed) (typed_inputs typed) (typed_ty typed)
  of_text typing = subst (λ bytes. HasTyping bytes (tree_of parsed) (typed_inputs typed) (typed_ty typed)) kept typing

  -- what holds of its text and its tree
  pub of_program : (P : List ℕ → ProgramTree → Type 0) → P (typed_text typed) (typed_tree typed) → P text (tree_of parsed)
  of_program P h =
      subst (λ bytes. P bytes (tree_of parsed)) kept (subst (λ (p : Program). P p.text.items (tree_of p)) same h)

  -- what an input text means for its declarations
  pub of_inputs : (input : List ℕ) (dialect : Dialect) (inputs : List InputDeclaration) (answer : InputAnswer) → dialect ≡ typed_dialect typed → inputs ≡ typed_inputs typed
      → InputMeans dialect inputs input answer → InputMeans (tree_of parsed).dialect (typed_inputs typed) input answer
  of_inputs input dialect inputs answer in_dialect declares means =
      subst (λ all. InputMeans (tree_of parsed).dialect all input answer) declares
      (subst (λ d. InputMeans d inputs input answer) (in_dialect ∙ ap (λ (p : Program). p.dialect) same) means)
