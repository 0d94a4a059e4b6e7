-- Why there is no network of a program with its input.
use Rattle.std.proofs.Common.{◌≡◌, ℕ, List, Result, Ok, Err, inr, sym, subst}
use Rattle.std.specs.Result.{IsErrAnd}
use Rattle.std.specs.Prelude.{IfErr}
use Rattle.snesl_data.specs.declared.refusal.Refusal.{Refusal}
use Rattle.snesl_data.specs.declared.refusal.Refusal.TheVariants.{TooBig, BadConfig, NoMemory, NoThread, Output, Short}
use Rattle.snesl_grammar.specs.tree.Tree.{ProgramTree}
use Rattle.snesl_syntax.specs.Parse.{Parses, IsOfText, IsRight}
use Rattle.snesl_types.specs.Programs.{IsFirstViolation}
use Rattle.snesl_types.proofs.TypingRefusals.{program_of_typing}
use Rattle.snesl_meaning.specs.Meaning.{no_program, ill_typed}
use Rattle.flow_networks.specs.declared.edge.Edge.{Edge}
use Rattle.flow_drives.specs.declared.config.Config.{Config}
use Rattle.snesl_flatten.specs.Networks.{StreamNodeState}
use Rattle.snesl_flatten.specs.network.Driven.{HasNetwork, WasRefused}
use Rattle.snesl_flatten.specs.network.Meant.{IsMeantFor, HasNoNetwork}
use Rattle.snesl_types.proofs.ProgramAnswers.{violation_complete}

module _ (text input : List ℕ) where
  pub parse_refused : (refusal : Refusal) → IsOfText refusal → IsRight (Parses text) (Err refusal) → HasNoNetwork text input refusal
  parse_refused NoMemory of_text right config = tt
  parse_refused Output of_text right config = of_text
  parse_refused Short of_text right config = of_text
  parse_refused NoThread of_text right config = absurd of_text
  parse_refused BadConfig of_text right config = absurd of_text
  parse_refused TooBig of_text right config = absurd of_text
  parse_refused refusal of_text right config = no_program right

  pub check_refused : (program : ProgramTree) (refusal : Refusal) → Parses text (Ok program) → IsFirstViolation text program refusal
      → HasNoNetwork text input refusal
  check_refused program NoMemory parsed first config = tt
  check_refused program Output parsed first config = program_of_typing first
  check_refused program Short parsed first config = program_of_typing first
  check_refused program NoThread parsed first config = absurd (program_of_typing first)
  check_refused program BadConfig parsed first config = absurd (program_of_typing first)
  check_refused program TooBig parsed first config = inr (ill_typed parsed (violation_complete text program TooBig first))
  check_refused program refusal parsed first config = ill_typed parsed (violation_complete text program refusal first)

  -- what has the meaning of a program with its input is a network of it
  pub has_network : (states : List StreamNodeState) (edges : List Edge) → IsMeantFor text input states edges → HasNetwork text input
  has_network states edges meant =
      let start = meant.start in
      record {
        accepted = record {
          program = start.program;
          declared = start.declared;
          ty = start.ty;
          environment = start.environment;
          parses = start.parses;
          types = start.types;
          inputs = start.inputs;
        };
        few = meant.few;
      }

  -- what is answered after a `?`
  pub passed_on : {A : Type 0} (r : Result A Refusal) (e : Refusal) → IsErrAnd r (λ x. x ≡ e) → HasNoNetwork text input e → IfErr r (HasNoNetwork text input)
  passed_on (Ok x) e is none = absurd is
  passed_on (Err x) e is none = subst (HasNoNetwork text input) (sym is) none

  -- and by the drive
  pub not_driven : {A : Type 0} (config : Config) (r : Result A Refusal) (e : Refusal) → IsErrAnd r (λ x. x ≡ e) → HasNoNetwork text input e
      → IfErr r (WasRefused text input config)
  not_driven config (Ok x) e is none = absurd is
  not_driven config (Err x) e is none = subst (HasNoNetwork text input) (sym is) none config
