use Rattle.std.proofs.Common.{◌≡◌, ◌+◌, drop, map}
use Rattle.snesl_grammar.specs.tree.View.{declaration_of}
use Rattle.snesl_types.specs.Programs.{input_count, function_count}
use Rattle.snesl_types.proofs.declarations.few.Given as goal

abbrev pub invariant-loop-declaration : goal.invariant-loop-declaration
invariant-loop-declaration l = record {
  inputs : input_count (map declaration_of l.declarations) + l.inputs ≡ 64 + input_count (map declaration_of (drop l.declaration-index l.declarations));
  functions : function_count (map declaration_of l.declarations) + l.functions ≡ 64 + function_count (map declaration_of (drop l.declaration-index l.declarations));
}
