use Rattle.std.proofs.Common.{◌≡◌, List, ◌++◌, drop}
use Rattle.snesl_values.specs.Declarations.{InputDeclaration}
use Rattle.snesl_values.specs.Inputs.{declared}
use Rattle.snesl_values.proofs.InputEntries.{SoFar}
use Rattle.snesl_values.specs.Entries.{environment_at, AreSpelledAt}
use Rattle.snesl_values.proofs.places.read_places.Given as goal

abbrev pub invariant-loop-declaration : goal.invariant-loop-declaration
invariant-loop-declaration l = record {
  so_far : SoFar l.dialect l.text (declared l.decls) (declared (drop l.declaration-index l.declaration-items)) (environment_at l.text l.all.items) l.at;
  front : List InputDeclaration;
  whole : declared l.decls ≡ front ++ declared (drop l.declaration-index l.declaration-items);
  placed : AreSpelledAt l.dialect l.text front l.all.items;
}
