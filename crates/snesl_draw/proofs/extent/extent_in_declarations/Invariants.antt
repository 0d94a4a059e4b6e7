use Rattle.std.proofs.Common.{◌≡◌, drop}
use Rattle.snesl_draw.proofs.Extents.{declared_all}
use Rattle.snesl_draw.proofs.extent.extent_in_declarations.Given as goal

-- what is first from here on is first in all
abbrev pub invariant-loop-declaration : goal.invariant-loop-declaration
invariant-loop-declaration l = declared_all l.at (drop l.declaration-index l.declarations) ≡ declared_all l.at l.declarations
