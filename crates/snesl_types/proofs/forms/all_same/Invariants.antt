use Rattle.std.proofs.Common.{◌≡◌, drop, map}
use Rattle.snesl_data.specs.Types.{ty_of}
use Rattle.snesl_types.specs.Verdicts.{all_same}
use Rattle.snesl_types.proofs.forms.all_same.Given as goal

abbrev pub invariant-loop-other : goal.invariant-loop-other
invariant-loop-other l = all_same (ty_of l.ty) (map ty_of l.others) ≡ all_same (ty_of l.ty) (map ty_of (drop l.other-index l.others))
