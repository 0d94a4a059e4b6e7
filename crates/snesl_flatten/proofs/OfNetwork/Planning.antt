-- The network that was made of a typed program is that of the program text with its input.
use Rattle.std.proofs.Common.{◌≡◌, ℕ, List, Ok, ◌⊎◌, inl, inr, sym, ap, ◌∙◌, subst}
use Rattle.snesl_data.specs.declared.dialect.Dialect.{Dialect}
use Rattle.snesl_values.specs.declared.inputs.InputError.{InputError}
use Rattle.snesl_values.specs.declared.inputs.InputError.TheVariants.{Bad, NoMemory as NoInputMemory}
use Rattle.snesl_data.specs.declared.refusal.Refusal.{Refusal}
use Rattle.snesl_data.specs.declared.refusal.Refusal.TheVariants.{TooBig, NoMemory}
use Rattle.snesl_values.specs.Inputs.{InputDeclaration, Environment, InputAnswer, InputMeans, spells, refused_at, refusal_of}
use Rattle.snesl_grammar.specs.tree.Tree.{ProgramTree}
use Rattle.snesl_grammar.specs.declared.program.Program.{Program}
use Rattle.snesl_grammar.specs.View.{program_of as tree_of_program}
use Rattle.snesl_syntax.specs.Parse.{Parses}
use Rattle.snesl_types.specs.Programs.{HasTyping}
use Rattle.snesl_types.specs.Verdicts.{program_verdict}
use Rattle.snesl_types.proofs.ProgramAnswers.{capped_all, program_complete}
use Rattle.snesl_types.specs.Typed.{program_of, typed_dialect, typed_inputs, typed_text, typed_tree, typed_ty}
use Rattle.snesl_types.specs.declared.typed.TypedProgram.{TypedProgram}
use Rattle.snesl_meaning.specs.Meaning.{bad_input}
use Rattle.flow_nodes.specs.StreamNodes.{node_behaviour}
use Rattle.flow_networks.specs.declared.edge.Edge.{Edge}
use Rattle.flow_networks.specs.Laws.{IsNetwork}
use Rattle.flow_networks.specs.Networks.{AreOpened}
use Rattle.flow_nodes.specs.plans.Layouts.{layout, IsNetworkOfPlan}
use Rattle.flow_assembly.specs.Openings.{AllOpen}
use Rattle.snesl_translation.specs.Programs.{cells_of}
use Rattle.snesl_flatten.specs.Networks.{program_steps, NetworkMeans, StreamNodeState}
use Rattle.snesl_flatten.specs.network.Driven.{ExceedsGraph, FitsInGraph, IsAccepted}
use Rattle.snesl_flatten.specs.network.Meant.{IsMeantFor, HasNoNetwork}

-- these nodes and edges are the network of this program with these inputs
abbrev pub IsItsNetwork : Environment → List StreamNodeState → List Edge → List ℕ → ProgramTree → List InputDeclaration → Type 0
IsItsNetwork environment states edges text program inputs =
    IsNetworkOfPlan node_behaviour (program_steps text program inputs (cells_of inputs environment)) states edges

-- each of these nodes opens as this program says with these inputs
abbrev pub AllOpenFor : Environment → List StreamNodeState → List ℕ → ProgramTree → List InputDeclaration → Type 0
AllOpenFor environment states text program inputs = AllOpen (layout (program_steps text program inputs (cells_of inputs environment))) states

module _ (text input : List ℕ) (parsed : Program) (typed : TypedProgram) (parses : Parses text (Ok (tree_of_program parsed))) (kept : parsed.text.items ≡ text)
    (same : program_of typed ≡ parsed) (typing : HasTyping parsed.text.items (tree_of_program parsed) (typed_inputs typed) (typed_ty typed)) where
  abbrev program : ProgramTree
  program = tree_of_program parsed

  -- the typing of the text, of which the program keeps a copy
  of_text : HasTyping text program (typed_inputs typed) (typed_ty typed)
  of_text = subst (λ bytes. HasTyping bytes program (typed_inputs typed) (typed_ty typed)) kept typing

  -- and by the rules as functions
  by_rules : program_verdict text program ≡ Ok (capped_all of_text.0, typed_ty typed)
  by_rules = program_complete text program of_text.0 (typed_ty typed) of_text.1

  -- what holds of the typed program holds of the text, its program and what this declares
  of_program : (P : List ℕ → ProgramTree → List InputDeclaration → Type 0) → P (typed_text typed) (typed_tree typed) (typed_inputs typed) → P text program of_text.0.inputs
  of_program P h =
      subst (λ inputs. P text program inputs) (sym of_text.2)
      (subst (λ bytes. P bytes program (typed_inputs typed)) kept
      (subst (λ (p : Program). P p.text.items (tree_of_program p) (typed_inputs typed)) same h))

  module _ (dialect : Dialect) (inputs : List InputDeclaration) (in_dialect : dialect ≡ typed_dialect typed) (declares : inputs ≡ typed_inputs typed) where
    -- what the input text means for the declared inputs
    for_declared : (answer : InputAnswer) → InputMeans dialect inputs input answer → InputMeans program.dialect of_text.0.inputs input answer
    for_declared answer means =
        subst (λ d. InputMeans program.dialect d input answer) (declares ∙ sym of_text.2)
        (subst (λ d. InputMeans d inputs input answer) (in_dialect ∙ ap (λ (p : Program). p.dialect) same) means)

    -- an input text that is not lawful
    pub inputs_refused : (error : InputError) → (error ≡ NoInputMemory) ⊎ ((at : ℕ) × (error ≡ Bad at) × InputMeans dialect inputs input (refused_at at))
        → HasNoNetwork text input (refusal_of error)
    inputs_refused error (inl is) = subst (λ e. HasNoNetwork text input (refusal_of e)) (sym is) (λ config. tt)
    inputs_refused error (inr (at, is, means)) =
        subst (λ e. HasNoNetwork text input (refusal_of e)) (sym is) (λ config. bad_input parses by_rules (for_declared (refused_at at) means))

    module _ (environment : Environment) (spelled : InputMeans dialect inputs input (spells environment)) where
      -- a program with values for its inputs
      abbrev accepted : IsAccepted text input
      accepted =
          record {
            program = program;
            declared = capped_all of_text.0;
            ty = typed_ty typed;
            environment = environment;
            parses = parses;
            types = by_rules;
            inputs = for_declared (spells environment) spelled;
          }

      -- whose network is too great
      pub plan_refused : (refusal : Refusal) → (refusal ≡ TooBig → ExceedsGraph (typed_text typed) (typed_tree typed) (typed_inputs typed))
          → (refusal ≡ TooBig) ⊎ (refusal ≡ NoMemory) → HasNoNetwork text input refusal
      plan_refused refusal big (inl is) =
          subst (HasNoNetwork text input) (sym is) (λ config. inl (record { accepted = accepted; greater = of_program ExceedsGraph (big is) }))
      plan_refused refusal big (inr is) = subst (HasNoNetwork text input) (sym is) (λ config. tt)

    -- the network that was made is that of the text and its input, and means it
    pub is_meant : (environment : Environment) (states : List StreamNodeState) (edges : List Edge) → InputMeans dialect inputs input (spells environment)
        → IsItsNetwork environment states edges (typed_text typed) (typed_tree typed) (typed_inputs typed)
        → AllOpenFor environment states (typed_text typed) (typed_tree typed) (typed_inputs typed)
        → AreOpened node_behaviour states → IsNetwork node_behaviour states edges
        → FitsInGraph (typed_text typed) (typed_tree typed) (typed_inputs typed)
        → NetworkMeans (typed_text typed) (typed_tree typed) environment states edges
        → IsMeantFor text input states edges
    is_meant environment states edges spelled network opens opened joined few means =
        record {
          start = record {
            program = program;
            declared = capped_all of_text.0;
            ty = typed_ty typed;
            environment = environment;
            parses = parses;
            types = by_rules;
            inputs = for_declared (spells environment) spelled;
            network = (of_program (IsItsNetwork environment states edges) network).laid;
            opens = of_program (AllOpenFor environment states) opens;
            opened = opened;
            joined = joined;
          };
          few = of_program FitsInGraph few;
          means = of_program (λ bytes tree declared. NetworkMeans bytes tree environment states edges) means;
        }
