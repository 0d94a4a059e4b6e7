-- The translation means what evaluation says.
use Rattle.std.specs.Prelude.{◌≡◌, ℕ, List, length, Some}
use Rattle.snesl_data.specs.declared.dialect.Dialect.{Dialect}
use Rattle.snesl_data.specs.Types.{Ty}
use Rattle.snesl_data.specs.Values.{Value}
use Rattle.snesl_grammar.specs.tree.Tree.{Tree, DeclarationTree}
use Rattle.snesl_evaluation.specs.Eval.{Calls, eval, calls_after}
use Rattle.snesl_types.specs.Contexts.{Context, Signature, Signatures, function_named}
use Rattle.snesl_types.specs.Typing.{Types}
use Rattle.snesl_types.specs.Programs.{Declared, DeclarationsType}
use Rattle.flow_base.specs.Columns.{Columns}
use Rattle.flow_nodes.specs.functions.Lists.{each}
use Rattle.snesl_translation.specs.Wires.{Wires}
use Rattle.snesl_translation.specs.FreeNames.{free}
use Rattle.snesl_translation.specs.Translation.{Bodies, tr}
use Rattle.snesl_translation.specs.Functions.{bodies_after}
use Rattle.snesl_translation.specs.Carrying.{Controls, given_by, GoesTo}
use Rattle.snesl_translation.specs.Meaning.{IsTranslation, AllCarry}

-- the bodies of these functions mean what their calls do
abbrev pub CallsMean : Signatures → Calls → Bodies → Type 0
CallsMean functions calls bodies =
    (streams : Columns) (at : ℕ) (bytes : List ℕ) (signature : Signature) (arguments : List Wires) (control : ℕ) (rows : List (List Value))
    → function_named bytes functions ≡ Some signature → AllCarry streams arguments signature.parameters rows → Controls streams control (length rows)
    → GoesTo streams signature.result (bodies at bytes arguments control (length streams)) (each (λ row. given_by (calls at bytes row)) rows)

-- a typed expression means its value: at any instances at once, its steps run where it has a value at each, and make just these
abbrev pub TypedExpressionsMean : Type 0
TypedExpressionsMean =
    (dialect : Dialect) (text : List ℕ) (functions : Signatures) (calls : Calls) (bodies : Bodies) (context : Context) (tree : Tree) (t : Ty)
    → CallsMean functions calls bodies → Types dialect text functions context tree t
    → IsTranslation (tr dialect text bodies tree) (λ environment. given_by (eval dialect tree text calls environment)) (free text tree) context t

-- and so do typed functions, after others that do
abbrev pub TypedFunctionsMean : Type 0
TypedFunctionsMean =
    (dialect : Dialect) (text : List ℕ) (earlier all : Declared) (calls : Calls) (bodies : Bodies) (declarations : List DeclarationTree)
    → CallsMean earlier.functions calls bodies → DeclarationsType dialect text earlier declarations all
    → CallsMean all.functions (calls_after dialect text calls declarations) (bodies_after dialect text bodies declarations)
