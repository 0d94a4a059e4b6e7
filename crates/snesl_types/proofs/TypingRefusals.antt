-- Which refusals typing has.
use Rattle.std.proofs.Common.{◌≡◌, ℕ, Bool, true, false, List, Result, Ok, Err}
use Rattle.std.specs.Prelude.{if◌then◌else◌}
use Rattle.snesl_data.specs.declared.dialect.Dialect.{Dialect}
use Rattle.snesl_data.specs.declared.refusal.Refusal.{Refusal}
use Rattle.snesl_data.specs.declared.refusal.Refusal.TheVariants.{Name, Mismatch, Streamed, TooBig}
use Rattle.snesl_values.specs.Inputs.{InputDeclaration}
use Rattle.snesl_data.specs.Types.{Ty, vec, pair, seq, is_concrete}
use Rattle.snesl_grammar.specs.declared.tree.span.Span.{Span}
use Rattle.snesl_grammar.specs.tree.Tree.{Tree, Trees, Binders, TypeTree, int_type, bool_type, pair_type, vector_type, sequence_type, TypedName, DeclarationTree, ProgramTree}
use Rattle.snesl_types.specs.Contexts.{Context, Signatures}
use Rattle.snesl_types.specs.Sizes.{is_small}
use Rattle.snesl_types.specs.Programs.{Declared, small_type, and_then, written_type, NamesViolate, FunctionViolates, DeclarationsViolate}
use Rattle.snesl_types.specs.Programs.{ProgramViolates, named_twice, type_refused, later_names_violate, function_twice, parameter_violates}
use Rattle.snesl_types.specs.Programs.{result_refused, function_body_violates, function_mismatch, input_violates, function_violates}
use Rattle.snesl_types.specs.Programs.{after_input_violates, after_function_violates, many_declarations, declaration_violates, expression_violates}
use Rattle.snesl_types.specs.Programs.{big_expression}
use Rattle.snesl_types.specs.Violations.{Violates, AnyViolates, BindersViolate, big_type, unbound, streamed, left_violates, right_violates}
use Rattle.snesl_types.specs.Violations.{operands_mismatch, operand_violates, operand_mismatch, argument_violates, arguments_mismatch, tab_streamed}
use Rattle.snesl_types.specs.Violations.{call_violates, call_unbound, call_mismatch, inner_violates, first_part_violates, second_part_violates}
use Rattle.snesl_types.specs.Violations.{value_violates, binding_violates, choice_violates, positive_violates, negative_violates, choice_mismatch}
use Rattle.snesl_types.specs.Violations.{item_violates, items_mismatch, filtered_violates, filter_violates, filter_mismatch, binder_violates}
use Rattle.snesl_types.specs.Violations.{condition_violates, body_violates, condition_mismatch, binder_missing, first_violates, later_violates}
use Rattle.snesl_types.specs.Violations.{source_violates, bound_twice, binder_mismatch, later_binder_violates}

-- a name, a mismatch, a streamed type, or a size
abbrev pub IsOfTyping : Refusal → Type 0
IsOfTyping (Name at) = Unit {0}
IsOfTyping (Mismatch at) = Unit {0}
IsOfTyping (Streamed at) = Unit {0}
IsOfTyping TooBig = Unit {0}
IsOfTyping refusal = ⊥

-- where a type is refused, it is for one of these
abbrev OfTyping : Result Ty Refusal → Type 0
OfTyping (Ok t) = Unit {0}
OfTyping (Err refusal) = IsOfTyping refusal

small_of_typing : (t : Ty) → OfTyping (small_type t)
small_of_typing t = by_test (is_small t)
  where
    by_test : (b : Bool) → OfTyping (if b then Ok t else Err TooBig)
    by_test true = tt
    by_test false = tt

then_of_typing : (r : Result Ty Refusal) (next : Ty → Result Ty Refusal) → OfTyping r → ((t : Ty) → OfTyping (next t)) → OfTyping (and_then r next)
then_of_typing (Ok t) next h k = k t
then_of_typing (Err refusal) next h k = h

type_of_typing : (written : TypeTree) → OfTyping (written_type written)
type_of_typing (int_type at) = tt
type_of_typing (bool_type at) = tt
type_of_typing (pair_type at first second) =
    then_of_typing (written_type first) _ (type_of_typing first) (λ t. then_of_typing (written_type second) _ (type_of_typing second) (λ u. small_of_typing (pair t u)))
type_of_typing (vector_type at item) = then_of_typing (written_type item) _ (type_of_typing item) (λ t. by_test t (is_concrete t))
  where
    by_test : (t : Ty) (b : Bool) → OfTyping (if b then small_type (vec t) else Err (Streamed at))
    by_test t true = small_of_typing (vec t)
    by_test t false = tt
type_of_typing (sequence_type at item) = then_of_typing (written_type item) _ (type_of_typing item) (λ t. small_of_typing (seq t))

written_of_typing : (written : TypeTree) (refusal : Refusal) → written_type written ≡ Err refusal → IsOfTyping refusal
written_of_typing written refusal e = let h = type_of_typing written in by_result (written_type written) h e
  where
    by_result : (r : Result Ty Refusal) → OfTyping r → r ≡ Err refusal → IsOfTyping refusal
    by_result (Ok t) h e' = cc
    by_result (Err other) h e' = let same : other ≡ refusal = cc in rw same at h

mutual
  of_typing : {dialect : Dialect} {text : List ℕ} {functions : Signatures} {context : Context} {tree : Tree} {refusal : Refusal} →
      Violates dialect text functions context tree refusal → IsOfTyping refusal
  of_typing (big_type _ _) = tt
  of_typing (unbound _) = tt
  of_typing (streamed _) = tt
  of_typing (left_violates v) = of_typing v
  of_typing (right_violates _ v) = of_typing v
  of_typing (operands_mismatch _ _ _) = tt
  of_typing (operand_violates v) = of_typing v
  of_typing (operand_mismatch _ _) = tt
  of_typing (argument_violates v) = any_of_typing v
  of_typing (arguments_mismatch _ _ _) = tt
  of_typing (tab_streamed _ _) = tt
  of_typing (call_violates v) = any_of_typing v
  of_typing (call_unbound _ _) = tt
  of_typing (call_mismatch _ _ _) = tt
  of_typing (inner_violates v) = of_typing v
  of_typing (first_part_violates v) = of_typing v
  of_typing (second_part_violates _ v) = of_typing v
  of_typing (value_violates v) = of_typing v
  of_typing (binding_violates _ v) = of_typing v
  of_typing (choice_violates v) = of_typing v
  of_typing (positive_violates _ v) = of_typing v
  of_typing (negative_violates _ _ v) = of_typing v
  of_typing (choice_mismatch _ _ _ _) = tt
  of_typing (item_violates v) = any_of_typing v
  of_typing (items_mismatch _ _) = tt
  of_typing (filtered_violates v) = of_typing v
  of_typing (filter_violates _ v) = of_typing v
  of_typing (filter_mismatch _ _ _) = tt
  of_typing (binder_violates v) = binders_of_typing v
  of_typing (condition_violates _ v) = of_typing v
  of_typing (body_violates _ _ v) = of_typing v
  of_typing (condition_mismatch _ _ _ _) = tt
  of_typing (binder_missing _ _ _) = tt

  any_of_typing : {dialect : Dialect} {text : List ℕ} {functions : Signatures} {context : Context} {trees : Trees} {refusal : Refusal} →
      AnyViolates dialect text functions context trees refusal → IsOfTyping refusal
  any_of_typing (first_violates v) = of_typing v
  any_of_typing (later_violates _ v) = any_of_typing v

  binders_of_typing : {dialect : Dialect} {text : List ℕ} {functions : Signatures} {context : Context} {earlier : List InputDeclaration}
      {binders : Binders} {refusal : Refusal} → BindersViolate dialect text functions context earlier binders refusal → IsOfTyping refusal
  binders_of_typing (source_violates v) = of_typing v
  binders_of_typing (bound_twice _ _) = tt
  binders_of_typing (binder_mismatch _ _ _) = tt
  binders_of_typing (later_binder_violates _ _ v) = binders_of_typing v

names_of_typing : {text : List ℕ} {earlier : List InputDeclaration} {written : List TypedName} {refusal : Refusal} → NamesViolate text earlier written refusal → IsOfTyping refusal
names_of_typing (named_twice _) = tt
names_of_typing (type_refused {first = first} {refusal = refusal} _ e) = written_of_typing first.written refusal e
names_of_typing (later_names_violate _ _ v) = names_of_typing v

function_of_typing : {dialect : Dialect} {text : List ℕ} {functions : Signatures} {place : Span} {written : List TypedName} {result : TypeTree}
    {body : Tree} {refusal : Refusal} → FunctionViolates dialect text functions place written result body refusal → IsOfTyping refusal
function_of_typing (function_twice _) = tt
function_of_typing (parameter_violates _ v) = names_of_typing v
function_of_typing (result_refused {result = result} {refusal = refusal} _ _ e) = written_of_typing result refusal e
function_of_typing (function_body_violates _ _ _ v) = of_typing v
function_of_typing (function_mismatch _ _ _ _ _) = tt

declarations_of_typing : {dialect : Dialect} {text : List ℕ} {earlier : Declared} {declarations : List DeclarationTree} {refusal : Refusal} →
    DeclarationsViolate dialect text earlier declarations refusal → IsOfTyping refusal
declarations_of_typing (input_violates v) = names_of_typing v
declarations_of_typing (function_violates v) = function_of_typing v
declarations_of_typing (after_input_violates _ v) = declarations_of_typing v
declarations_of_typing (after_function_violates _ v) = declarations_of_typing v

pub program_of_typing : {text : List ℕ} {program : ProgramTree} {refusal : Refusal} → ProgramViolates text program refusal → IsOfTyping refusal
program_of_typing (many_declarations _) = tt
program_of_typing (declaration_violates _ v) = declarations_of_typing v
program_of_typing (expression_violates _ _ v) = of_typing v
program_of_typing (big_expression _ _ _ _) = tt
