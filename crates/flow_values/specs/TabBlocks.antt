-- Elements that Tab adds along slices: scalars, each behind its flag.
use Rattle.std.specs.Prelude.{◌≡◌, Bool, true, false, List, [], ◌++◌, map}
use Rattle.std.specs.List.{All}
use Rattle.snesl_data.specs.Types.{Ty, int, bool}
use Rattle.snesl_data.specs.Values.{Value, an_int, a_bool}
use Rattle.flow_messages.specs.Signals.{Signal, carry}
use Rattle.flow_values.specs.Shapes.{cell_for}
use Rattle.flow_values.specs.TabMachine.{TabState, start, at_flag}

-- whether the value is a scalar of this type
abbrev pub is_scalar : Ty → Value → Bool
is_scalar int (an_int n) = true
is_scalar bool (a_bool b) = true
is_scalar _ _ = false

-- each of these values is
abbrev pub AreScalars : Ty → List Value → Type 0
AreScalars ty vs = All (λ v. is_scalar ty v ≡ true) vs

-- what the items say that carry these scalars
abbrev pub scalar_signals : List Value → List Signal
scalar_signals vs = map (λ v. carry (cell_for v)) vs

-- the messages carry scalars of the type, which come behind the elements
pub record AddsScalars (ty : Ty) (messages : List Signal) (old new : List Value) : Type 0 where
  pub scalars : List Value
  pub are : AreScalars ty scalars
  pub carried : messages ≡ scalar_signals scalars
  pub behind : new ≡ old ++ scalars

-- a flag is due after these elements
abbrev pub AwaitsFlag : TabState → List Value → Type 0
AwaitsFlag start es = es ≡ []
AwaitsFlag (at_flag got) es = es ≡ got
AwaitsFlag _ es = ⊥
