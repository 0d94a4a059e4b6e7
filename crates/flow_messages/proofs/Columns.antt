-- Columns of one kind.
use Rattle.std.proofs.Common.{◌≡◌, ℕ, zero, suc, ℤ, ◌<◌, Bool, true, false, List, [], ◌∷◌, ◌++◌, length, get_or, refl, ap, subst, ◌⊎◌, inl, inr, arith}
use Rattle.std.specs.Prelude.{Option, Some, None, IsSome, nat_lt}
use Rattle.std.proofs.lemmas.Bool.Decides.{nat_tests}
use Rattle.flow_messages.specs.declared.column.Column.{Column}
use Rattle.flow_messages.specs.declared.column.Column.TheVariants.{Units as UnitColumn, Flags as FlagColumn, Ints as IntColumn, Vectors as VectorColumn}
use Rattle.flow_messages.specs.declared.message.Kind.{Kind}
use Rattle.flow_messages.specs.declared.message.Kind.TheVariants.{Unit as UnitKind, Bool as BoolKind, Int as IntKind}
use Rattle.flow_messages.specs.declared.message.Msg.{Msg}
use Rattle.flow_messages.specs.declared.message.Msg.TheVariants.{Item as ItemMsg, End as EndMsg}
use Rattle.flow_messages.specs.Kinds.{TakesKind}
use Rattle.flow_messages.specs.Signals.{signals, signal_of, is_stop, ended, has_end}
use Rattle.flow_messages.specs.Columns.{column_kind, content, ending}
use Rattle.flow_messages.specs.Contents.{unit_messages, flag_messages, int_messages}
use Rattle.flow_messages.specs.IntRuns.{integers_in}
use Rattle.flow_messages.specs.Runs.{run_items}
use Rattle.flow_messages.specs.Flats.{is_scalar, scalar_first}
use Rattle.flow_messages.proofs.Fitting.{takes_own}

-- an edge for the items of a column takes those of its kind alone
pub own_kind : (c : Column) (k : Kind) → TakesKind (Some (column_kind c)) k → column_kind c ≡ k
own_kind c k takes = (takes_own (column_kind c) k).0 takes

pub of_units : (c : Column) → column_kind c ≡ UnitKind → ((n : ℕ) → c ≡ UnitColumn n → ⊥) → ⊥
of_units (UnitColumn n) is none = none n refl
of_units (FlagColumn r) is none = cc
of_units (IntColumn r) is none = cc
of_units (VectorColumn q) is none = cc

pub of_flags : (c : Column) → column_kind c ≡ BoolKind → ((r : _) → c ≡ FlagColumn r → ⊥) → ⊥
of_flags (UnitColumn n) is none = cc
of_flags (FlagColumn r) is none = none r refl
of_flags (IntColumn r) is none = cc
of_flags (VectorColumn q) is none = cc

pub of_ints : (c : Column) → column_kind c ≡ IntKind → ((r : _) → c ≡ IntColumn r → ⊥) → ⊥
of_ints (UnitColumn n) is none = cc
of_ints (FlagColumn r) is none = cc
of_ints (IntColumn r) is none = none r refl
of_ints (VectorColumn q) is none = cc

-- what says no end
pub not_end : (m : Msg) → is_stop (signal_of m) ≡ false → has_end (m ∷ []) ≡ false
unfolding ended signals
not_end (ItemMsg x) is = refl
not_end EndMsg is = absurd (cc)

pub end_is : (m : Msg) → is_stop (signal_of m) ≡ true → m ≡ EndMsg
end_is (ItemMsg x) is = absurd (cc)
end_is EndMsg is = refl

-- which comes first

some_held : (n : ℕ) → 0 < n → nat_lt 0 n ≡ true
some_held n some = grind (arith, nat_tests)

first_flag : (bs : List Bool) (ends : Bool) → nat_lt 0 (length (flag_messages bs ++ ending ends)) ≡ scalar_first (signals (flag_messages bs ++ ending ends))
unfolding signals
first_flag [] true = refl
first_flag [] false = refl
first_flag (b ∷ bs) ends = some_held (length (flag_messages (b ∷ bs) ++ ending ends)) (omega arith)

first_int : (ns : List ℤ) (ends : Bool) → nat_lt 0 (length (int_messages ns ++ ending ends)) ≡ scalar_first (signals (int_messages ns ++ ending ends))
unfolding signals
first_int [] true = refl
first_int [] false = refl
first_int (n ∷ ns) ends = some_held (length (int_messages (n ∷ ns) ++ ending ends)) (omega arith)

-- what comes first is no vector where no vectors are held
pub scalars_tell : (c : Column) (ends : Bool) → ((q : _) → c ≡ VectorColumn q → ⊥) → nat_lt 0 (length (content c ends)) ≡ scalar_first (signals (content c ends))
unfolding content signals
scalars_tell (UnitColumn zero) true none = refl
scalars_tell (UnitColumn zero) false none = refl
scalars_tell (UnitColumn (suc n)) ends none = some_held (length (unit_messages (suc n) ++ ending ends)) (omega arith)
scalars_tell (FlagColumn r) ends none = first_flag (run_items r) ends
scalars_tell (IntColumn r) ends none = first_int (integers_in r) ends
scalars_tell (VectorColumn q) ends none = absurd (none q refl)

-- the first vector
pub vectors_tell : (q ys : List Msg) (m : Msg) → 0 < length q → m ≡ get_or q 0 m → is_scalar (signal_of m) ≡ scalar_first (signals (q ++ ys))
unfolding signals
vectors_tell [] ys m some is = absurd (omega (arith, some))
vectors_tell (n ∷ q) ys m some is = ap (λ x. is_scalar (signal_of x)) is

-- the end alone
pub end_tells : (ends : Bool) → ends ≡ scalar_first (signals (ending ends))
unfolding signals
end_tells true = refl
end_tells false = refl

-- where no first is shown there are none
pub no_first : {X : Type 0} (n : ℕ) (r : Option X) → ((0 < n) → IsSome r) → r ≡ None → n ≡ 0
no_first n r iff is = by_size (cases_zero n) where
  by_size : (n ≡ 0) ⊎ (0 < n) → n ≡ 0
  by_size (inl none) = none
  by_size (inr some) = let there = subst IsSome is (iff some) in absurd (cc)

  cases_zero : (k : ℕ) → (k ≡ 0) ⊎ (0 < k)
  cases_zero zero = inl refl
  cases_zero (suc k) = inr (omega arith)
