-- Where items lead that carry operands, and where values lead.
use Rattle.std.specs.Prelude.{◌≡◌, Result, Ok, Err, IfOk, refl}
use Rattle.std.proofs.Common.{sym, subst}
use Rattle.snesl_data.specs.declared.dialect.Dialect.{Dialect}
use Rattle.snesl_data.specs.declared.fault.FaultKind.{FaultKind}
use Rattle.snesl_data.specs.operators.Operators.{type_of, ScalarInRange}
use Rattle.snesl_data.specs.operators.Reductions.{and_then}
use Rattle.snesl_data.specs.declared.operators.scalar.Scalar.{Scalar}
use Rattle.snesl_data.specs.declared.operators.scalar.Scalar.TheVariants.{Int, Bool as Truth}
use Rattle.snesl_data.specs.declared.operators.scalar.ScalarType.{ScalarType}
use Rattle.snesl_data.specs.declared.operators.scalar.ScalarType.TheVariants.{Int as IntType, Bool as BoolType}
use Rattle.flow_messages.specs.Cells.{Cell, int, flag}
use Rattle.flow_base.specs.Machines.{state_after_item, OnNext, OfNext, OfKind, OfRange}
use Rattle.flow_folds.specs.Scalars.{cell_of_scalar}
use Rattle.flow_scalar.specs.Operands.{on_operand}

-- an item that carries an operand leads where the operand does
pub operand_leads : {S : Type 0} (type : ScalarType) (next : Scalar → Result S FaultKind) (k : Scalar) (P : S → Type 0) → type_of k ≡ type →
    OnNext (next k) P → OnNext (state_after_item (on_operand type next) (cell_of_scalar k)) P
operand_leads IntType next (Int n) P e h = h
operand_leads BoolType next (Truth b) P e h = h
operand_leads IntType next (Truth b) P e h = absurd (cc)
operand_leads BoolType next (Int n) P e h = absurd (cc)

-- and no other leads on
pub operand_led : {S : Type 0} (type : ScalarType) (next : Scalar → Result S FaultKind) (x : Cell) (P : S → Type 0) →
    OnNext (state_after_item (on_operand type next) x) P → (k : Scalar) × (x ≡ cell_of_scalar k) × OnNext (next k) P
operand_led IntType next (int n) P h = (Int n, refl, h)
operand_led BoolType next (flag b) P h = (Truth b, refl, h)
operand_led IntType next _ P h = absurd h
operand_led BoolType next _ P h = absurd h

-- what holds wherever an operand of the type leads, holds wherever an item of its kind does
pub operand_of_kind : {S : Type 0} (type : ScalarType) (next : Scalar → Result S FaultKind) (P : S → Type 0) → ((k : Scalar) → type_of k ≡ type → OfNext (next k) P) → OfKind P (on_operand type next)
operand_of_kind IntType next P h (int n) e = h (Int n) refl
operand_of_kind BoolType next P h (flag b) e = h (Truth b) refl
operand_of_kind IntType next P h _ e = tt
operand_of_kind BoolType next P h _ e = tt

-- so too with the range
pub operand_of_range : (dialect : Dialect) {S : Type 0} (type : ScalarType) (next : Scalar → Result S FaultKind) (P : S → Type 0) →
    ((k : Scalar) → ScalarInRange dialect k → OfNext (next k) P) → OfRange dialect P (on_operand type next)
operand_of_range dialect IntType next P h (int n) e range = h (Int n) range
operand_of_range dialect BoolType next P h (flag b) e range = h (Truth b) tt
operand_of_range dialect IntType next P h _ e range = tt
operand_of_range dialect BoolType next P h _ e range = tt

-- a value leads on
pub value_leads : {S : Type 0} (r : Result Scalar FaultKind) (state : Scalar → S) (v : Scalar) (P : S → Type 0) → r ≡ Ok v → P (state v) → OnNext (and_then r (λ v. Ok (state v))) P
value_leads r state v P e h = subst (λ r. OnNext (and_then r (λ v. Ok (state v))) P) (sym e) h

-- and from a value alone
pub value_led : {S : Type 0} (r : Result Scalar FaultKind) (state : Scalar → S) (P : S → Type 0) → OnNext (and_then r (λ v. Ok (state v))) P → (v : Scalar) × (r ≡ Ok v) × P (state v)
value_led (Ok v) state P h = (v, refl, h)
value_led (Err kind) state P h = absurd h

-- what holds of the state with each value, holds wherever a value leads
pub value_of : {S : Type 0} (r : Result Scalar FaultKind) (state : Scalar → S) (P : S → Type 0) → IfOk r (λ v. P (state v)) → OfNext (and_then r (λ v. Ok (state v))) P
value_of (Ok v) state P h = h
value_of (Err kind) state P h = tt
