-- The translation of expressions: the steps that they become under a control stream, which has one Unit for each instance.
use Rattle.std.specs.Prelude.{ℕ, Bool, true, false, List, [], ◌∷◌, ◌++◌, if◌then◌else◌}
use Rattle.std.specs.Str.{bytes_eq}
use Rattle.snesl_data.specs.declared.dialect.Dialect.{Dialect}
use Rattle.snesl_data.specs.Types.{Ty, int, bool, pair as pair_of, vec, seq}
use Rattle.snesl_data.specs.declared.operators.scalar.Scalar.TheVariants.{Int, Bool as Truth}
use Rattle.snesl_data.specs.declared.operators.operator.UnaryOperator.TheVariants as unaries
use Rattle.snesl_data.specs.declared.operators.operator.BinaryOperator.{BinaryOperator}
use Rattle.snesl_data.specs.declared.operators.operator.BinaryOperator.TheVariants as binaries
use Rattle.snesl_data.specs.declared.operators.operator.Reduction.{Reduction}
use Rattle.snesl_data.specs.declared.operators.operator.Reduction.TheVariants.{Sum, Max, All, Any}
use Rattle.snesl_grammar.specs.declared.tree.operator.Builtin.{Builtin}
use Rattle.snesl_grammar.specs.declared.tree.operator.Builtin.TheVariants.{Iota, ScanAdd, ReduceAdd, ReduceMax, ReduceAnd, ReduceOr, Length, Concat, Part, The, Tab, Seq, Fst, Snd}
use Rattle.snesl_grammar.specs.declared.tree.operator.Operator.{Operator}
use Rattle.snesl_grammar.specs.declared.tree.operator.Operator.TheVariants.{Or, And, Equal, Less, AtMost, Greater, AtLeast, Append, Add, Subtract, Multiply, Divide, Remainder, Index}
use Rattle.snesl_grammar.specs.declared.tree.operator.Prefix.{Prefix}
use Rattle.snesl_grammar.specs.declared.tree.operator.Prefix.TheVariants.{Negate, Not}
use Rattle.snesl_grammar.specs.tree.Spelling.{spelling}
use Rattle.snesl_grammar.specs.tree.Tree.{Tree, Trees, Binders, integer, truth, name, binary, prefix, call, apply, group, pair, binding, choice, literal}
use Rattle.snesl_grammar.specs.tree.Tree.{filter, each, none, both, none_bound, binder, always, only_where}
use Rattle.flow_nodes.specs.plans.Plans.{const, unary, binary as binary_step, iota, units_of, scan_add, reduce, length_of, flag_of_bool, same_flags}
use Rattle.flow_nodes.specs.plans.Plans.{concat_flags, part_flags, the_check, append_flags, tab, seq_of, index}
use Rattle.snesl_translation.specs.Wires.{Wires, wire, two, segments, type_of_wires, numbers_of, stream_of, first_wires, second_wires, item_wires, item_type, Bound}
use Rattle.snesl_translation.specs.Makings.{Making, done, and_then, stepped, tested}
use Rattle.snesl_translation.specs.FreeNames.{Names, free, without_binders}
use Rattle.snesl_translation.specs.Moving.{flags_stepped, distributed, kept, mixed, all_moved}

-- the streams of calls: by the offset, the name that is called, the streams of the arguments, and the control stream
abbrev pub Bodies : Type 0
Bodies = ℕ → List ℕ → List Wires → (control next : ℕ) → Making Wires

-- what stands where nothing can: no typed program has such
abbrev pub nowhere : Wires
nowhere = wire int 0

-- the streams of a name
abbrev pub wires_named : List ℕ → Bound → Wires
wires_named bytes [] = nowhere
wires_named bytes (entry ∷ bound) = if bytes_eq bytes entry.0 then entry.1 else wires_named bytes bound

-- whether a name stands for something
abbrev pub is_bound : List ℕ → Bound → Bool
is_bound bytes [] = false
is_bound bytes (entry ∷ bound) = if bytes_eq bytes entry.0 then true else is_bound bytes bound

-- operators

abbrev pub scalars_step : Dialect → ℕ → BinaryOperator → Ty → Wires → Wires → ℕ → Making Wires
scalars_step dialect at operator t u v next = stepped at (binary_step dialect operator) (stream_of u ∷ stream_of v ∷ []) t next

-- `==` of two truth values, or of two integers
abbrev pub equality : Ty → BinaryOperator
equality bool = binaries.EqualTruths
equality t = binaries.EqualIntegers

-- one sequence followed by another
abbrev pub appended : ℕ → Wires → Wires → ℕ → Making Wires
appended at u v next =
    and_then (flags_stepped at append_flags (stream_of u ∷ stream_of v ∷ []) next) (λ h k.
    and_then (mixed at (stream_of u) (stream_of v) (item_wires u) (item_wires v) k) (λ w k. done (segments (stream_of h) w) k))

abbrev pub binary_streams : Dialect → ℕ → Operator → Wires → Wires → ℕ → Making Wires
binary_streams dialect at Or u v next = scalars_step dialect at binaries.Or bool u v next
binary_streams dialect at And u v next = scalars_step dialect at binaries.And bool u v next
binary_streams dialect at Equal u v next = scalars_step dialect at (equality (type_of_wires u)) bool u v next
binary_streams dialect at Less u v next = scalars_step dialect at binaries.Less bool u v next
binary_streams dialect at AtMost u v next = scalars_step dialect at binaries.AtMost bool u v next
binary_streams dialect at Greater u v next = scalars_step dialect at binaries.Greater bool u v next
binary_streams dialect at AtLeast u v next = scalars_step dialect at binaries.AtLeast bool u v next
binary_streams dialect at Append u v next = appended at u v next
binary_streams dialect at Add u v next = scalars_step dialect at binaries.Add int u v next
binary_streams dialect at Subtract u v next = scalars_step dialect at binaries.Subtract int u v next
binary_streams dialect at Multiply u v next = scalars_step dialect at binaries.Multiply int u v next
binary_streams dialect at Divide u v next = scalars_step dialect at binaries.Divide int u v next
binary_streams dialect at Remainder u v next = scalars_step dialect at binaries.Remainder int u v next
binary_streams dialect at Index u v next =
    let item = item_type (type_of_wires u) in stepped at (index item) (stream_of u ∷ stream_of v ∷ []) item next

abbrev pub prefix_streams : Dialect → ℕ → Prefix → Wires → ℕ → Making Wires
prefix_streams dialect at Negate u next = stepped at (unary dialect unaries.Negate) (stream_of u ∷ []) int next
prefix_streams dialect at Not u next = stepped at (unary dialect unaries.Not) (stream_of u ∷ []) bool next

-- built-in functions

abbrev pub reduction : Dialect → ℕ → Reduction → Ty → Wires → ℕ → Making Wires
reduction dialect at r t u next = stepped at (reduce dialect r) (stream_of u ∷ stream_of (item_wires u) ∷ []) t next

-- the inner segments of a sequence of sequences as one sequence
abbrev pub concatenated : ℕ → Wires → ℕ → Making Wires
concatenated at u next =
    and_then (flags_stepped at concat_flags (stream_of u ∷ stream_of (item_wires u) ∷ []) next) (λ h k.
    done (segments (stream_of h) (item_wires (item_wires u))) k)

-- two streams of flags, of the parts and of their elements
abbrev pub parted : ℕ → Wires → Wires → ℕ → Making Wires
parted at u v next =
    and_then (stepped at part_flags (stream_of v ∷ stream_of (item_wires v) ∷ stream_of u ∷ []) (pair_of bool bool) next) (λ h k.
    done (segments (stream_of (first_wires h)) (segments (stream_of (second_wires h)) (item_wires u))) k)

abbrev pub call_streams : Dialect → ℕ → Builtin → List Wires → ℕ → Making Wires
call_streams dialect at Iota (u ∷ []) next = stepped at iota (stream_of u ∷ []) (seq int) next
call_streams dialect at ScanAdd (u ∷ []) next =
    and_then (stepped at (scan_add dialect) (stream_of u ∷ stream_of (item_wires u) ∷ []) int next) (λ sums k.
    done (segments (stream_of u) sums) k)
call_streams dialect at ReduceAdd (u ∷ []) next = reduction dialect at Sum int u next
call_streams dialect at ReduceMax (u ∷ []) next = reduction dialect at Max int u next
call_streams dialect at ReduceAnd (u ∷ []) next = reduction dialect at All bool u next
call_streams dialect at ReduceOr (u ∷ []) next = reduction dialect at Any bool u next
call_streams dialect at Length (u ∷ []) next = stepped at (length_of dialect) (stream_of u ∷ []) int next
call_streams dialect at Concat (u ∷ []) next = concatenated at u next
call_streams dialect at Part (u ∷ v ∷ []) next = parted at u v next
call_streams dialect at The (u ∷ []) next = tested at the_check (stream_of u ∷ []) (item_wires u) next
call_streams dialect at Tab (u ∷ []) next =
    let item = type_of_wires (item_wires u) in stepped at (tab item) (numbers_of u) (vec item) next
call_streams dialect at Seq (u ∷ []) next =
    let item = item_type (type_of_wires u) in stepped at (seq_of item) (stream_of u ∷ []) (seq item) next
call_streams dialect at Fst (u ∷ []) next = done (first_wires u) next
call_streams dialect at Snd (u ∷ []) next = done (second_wires u) next
call_streams dialect at _ _ next = done nowhere next

-- what runs for some instances only

-- a Unit for each element of the segments f
abbrev pub units_step : ℕ → ℕ → ℕ → Making Wires
units_step at f next = flags_stepped at units_of (f ∷ []) next

-- an item where the truth values d are true, and else nothing: the item sees the names that are free in it
abbrev pub filtered : ℕ → Names → (Bound → (control next : ℕ) → Making Wires) → Bound → (d next : ℕ) → Making Wires
filtered at names item bound d next =
    and_then (flags_stepped at flag_of_bool (d ∷ []) next) (λ f k.
    and_then (all_moved (kept at d) names bound k) (λ inner k.
    and_then (units_step at (stream_of f) k) (λ control k.
    and_then (item inner (stream_of control) k) (λ w k. done (segments (stream_of f) w) k))))

-- an item where true stands
abbrev pub single : ℕ → Names → (Bound → (control next : ℕ) → Making Wires) → Bound → (control next : ℕ) → Making Wires
single at names item bound control next =
    and_then (stepped at (const (Truth true)) (control ∷ []) bool next) (λ d k. filtered at names item bound (stream_of d) k)

-- a sequence with one item after it
abbrev pub followed : ℕ → (Bound → (control next : ℕ) → Making Wires) → Names → (Bound → (control next : ℕ) → Making Wires) → Bound → (control next : ℕ) → Making Wires
followed at sequence names item bound control next =
    and_then (sequence bound control next) (λ u k. and_then (single at names item bound control k) (λ v k. appended at u v k))

-- the columns of a comprehension: names, each with the streams of its sequence
abbrev pub Sources : Type 0
Sources = List (List ℕ × Wires)

-- the flags of the first sequence
abbrev pub first_flags : Sources → ℕ
first_flags [] = 0
first_flags (source ∷ others) = stream_of source.1

-- that further sequences have segments of the same lengths
abbrev pub same_lengths : (at f : ℕ) → Sources → ℕ → Making (Unit {0})
same_lengths at f [] next = done (tt {0}) next
same_lengths at f (source ∷ others) next =
    and_then (tested at same_flags (f ∷ stream_of source.1 ∷ []) (tt {0}) next) (λ _ k. same_lengths at f others k)

-- as many sequences as the first one: it is not compared with itself
abbrev pub in_step : ℕ → Sources → ℕ → Making (Unit {0})
in_step at [] next = done (tt {0}) next
in_step at (source ∷ others) next = same_lengths at (stream_of source.1) others next

-- the names beside the streams of elements
abbrev pub items_bound : Sources → Bound
items_bound [] = []
items_bound (source ∷ others) = (source.0, item_wires source.1) ∷ items_bound others

-- the streams of a program's expressions: the names of expressions are spelled as the text has them
module _ (dialect : Dialect) (text : List ℕ) (calls : Bodies) where
  abbrev mutual
    pub tr : Tree → Bound → (control next : ℕ) → Making Wires
    tr (integer at value) bound control next = stepped at (const (Int value)) (control ∷ []) int next
    tr (truth at value) bound control next = stepped at (const (Truth value)) (control ∷ []) bool next
    tr (name place) bound control next = done (wires_named (spelling text place) bound) next
    tr (binary at operator left right) bound control next =
        and_then (tr left bound control next) (λ u k. and_then (tr right bound control k) (λ v k. binary_streams dialect at operator u v k))
    tr (prefix at operator operand) bound control next = and_then (tr operand bound control next) (λ u k. prefix_streams dialect at operator u k)
    tr (call at function arguments) bound control next = and_then (tr_all arguments bound control next) (λ us k. call_streams dialect at function us k)
    tr (apply function arguments) bound control next =
        and_then (tr_all arguments bound control next) (λ us k. calls function.at (spelling text function) us control k)
    tr (group at inner) bound control next = tr inner bound control next
    tr (pair at first second) bound control next =
        and_then (tr first bound control next) (λ u k. and_then (tr second bound control k) (λ v k. done (two u v) k))
    tr (binding at place value body) bound control next =
        and_then (tr value bound control next) (λ u k. tr body ((spelling text place, u) ∷ bound) control k)
    -- the one of both branches that runs
    tr (choice at condition positive negative) bound control next =
        and_then (tr condition bound control next) (λ d k.
        and_then (filtered at (free text positive) (λ inner c n. tr positive inner c n) bound (stream_of d) k) (λ u k.
        and_then (prefix_streams dialect at Not d k) (λ e k.
        and_then (filtered at (free text negative) (λ inner c n. tr negative inner c n) bound (stream_of e) k) (λ v k.
        and_then (appended at u v k) (λ w k. tested at the_check (stream_of w ∷ []) (item_wires w) k)))))
    tr (literal at items) bound control next = tr_items at items bound control next
    tr (filter at item condition) bound control next =
        and_then (tr condition bound control next) (λ d k. filtered at (free text item) (λ inner c n. tr item inner c n) bound (stream_of d) k)
    tr (each at body binders always) bound control next =
        and_then (tr_binders binders bound control next) (λ sources k.
        and_then (in_step at sources k) (λ _ k.
        and_then (all_moved (distributed at (first_flags sources)) (without_binders text binders (free text body)) bound k) (λ inner k.
        and_then (units_step at (first_flags sources) k) (λ c k.
        and_then (tr body (items_bound sources ++ inner) (stream_of c) k) (λ w k. done (segments (first_flags sources) w) k)))))
    tr (each at body binders (only_where condition)) bound control next =
        and_then (tr_binders binders bound control next) (λ sources k.
        and_then (in_step at sources k) (λ _ k.
        and_then (all_moved (distributed at (first_flags sources)) (without_binders text binders (free text condition ++ free text body)) bound k) (λ inner k.
        and_then (units_step at (first_flags sources) k) (λ c k.
        and_then (tr condition (items_bound sources ++ inner) (stream_of c) k) (λ d k.
        and_then (filtered at (free text body) (λ b c n. tr body b c n) (items_bound sources ++ inner) (stream_of d) k) (λ w k.
        concatenated at (segments (first_flags sources) w) k))))))

    -- the streams of arguments, from left to right
    pub tr_all : Trees → Bound → (control next : ℕ) → Making (List Wires)
    tr_all none bound control next = done [] next
    tr_all (both first others) bound control next =
        and_then (tr first bound control next) (λ u k. and_then (tr_all others bound control k) (λ us k. done (u ∷ us) k))

    -- the items of a literal: the first one, and the others after it
    pub tr_items : ℕ → Trees → Bound → (control next : ℕ) → Making Wires
    tr_items at none bound control next = done nowhere next
    tr_items at (both first others) bound control next =
        tr_further at (λ b c n. single at (free text first) (λ b c n. tr first b c n) b c n) others bound control next

    -- a sequence with further items after it: it is followed by the first of them, and so by the others
    pub tr_further : ℕ → (Bound → (control next : ℕ) → Making Wires) → Trees → Bound → (control next : ℕ) → Making Wires
    tr_further at sequence none bound control next = sequence bound control next
    tr_further at sequence (both item others) bound control next =
        tr_further at (λ b c n. followed at sequence (free text item) (λ b c n. tr item b c n) b c n) others bound control next

    -- the sequences of binders; none sees another's name
    pub tr_binders : Binders → Bound → (control next : ℕ) → Making Sources
    tr_binders none_bound bound control next = done [] next
    tr_binders (binder place source others) bound control next =
        and_then (tr source bound control next) (λ u k. and_then (tr_binders others bound control k) (λ sources k. done ((spelling text place, u) ∷ sources) k))
