-- Operators at whole lists of instances.
use Rattle.std.specs.Prelude.{◌≡◌, ◌≢◌, ℕ, List, [], ◌∷◌, map, length, Some, option_map, refl}
use Rattle.std.specs.Result.{result_ok}
use Rattle.std.proofs.Common.{sym, ap, ◌∙◌, subst}
use Rattle.snesl_data.specs.declared.dialect.Dialect.{Dialect}
use Rattle.snesl_data.specs.Types.{Ty, int, bool, vec}
use Rattle.snesl_data.specs.Values.{Value, an_int, a_bool, a_pair, a_vec, a_seq}
use Rattle.snesl_data.specs.operators.Operators.{type_of, unary_value, binary_value, unary_operand, binary_operand, binary_result}
use Rattle.snesl_data.specs.declared.operators.scalar.Scalar.{Scalar}
use Rattle.snesl_data.specs.declared.operators.scalar.Scalar.TheVariants.{Int, Bool as Truth}
use Rattle.snesl_data.specs.declared.operators.operator.UnaryOperator.{UnaryOperator}
use Rattle.snesl_data.specs.declared.operators.operator.UnaryOperator.TheVariants as unaries
use Rattle.snesl_data.specs.declared.operators.operator.BinaryOperator.{BinaryOperator}
use Rattle.snesl_data.specs.declared.operators.operator.BinaryOperator.TheVariants as binaries
use Rattle.snesl_data.proofs.OfOperators.OperatorLaws.{unary_type, binary_type}
use Rattle.snesl_grammar.specs.declared.tree.operator.Operator.{Operator}
use Rattle.snesl_grammar.specs.declared.tree.operator.Operator.TheVariants.{Or, And, Equal, Less, AtMost, Greater, AtLeast, Append, Add, Subtract, Multiply, Divide, Remainder, Index}
use Rattle.snesl_grammar.specs.declared.tree.operator.Prefix.{Prefix}
use Rattle.snesl_grammar.specs.declared.tree.operator.Prefix.TheVariants.{Negate, Not}
use Rattle.snesl_types.specs.Forms.{operator_result, prefix_result}
use Rattle.flow_base.specs.Columns.{Columns}
use Rattle.flow_values.specs.Shapes.{cell_for}
use Rattle.flow_nodes.specs.functions.Lists.{bind, each}
use Rattle.flow_nodes.specs.functions.Made.{one, scalar_cells, binary_made}
use Rattle.flow_nodes.proofs.OfFunctions.Options.{map_map, paired_forth}
use Rattle.flow_nodes.proofs.OfFunctions.Encoded.{unary_makes, binary_makes}
use Rattle.flow_nodes.proofs.OfFunctions.ValueDecoding.{AllAre, all_split}
use Rattle.snesl_evaluation.specs.Answer.{gives, go, go_all}
use Rattle.snesl_evaluation.specs.Builtins.{scalar_value, unary_answer, scalars_answer, equal_answer, prefix_answer, binary_answer}
use Rattle.flow_nodes.specs.plans.Plans.{unary, binary, streams_at}
use Rattle.snesl_translation.specs.Wires.{Wires, stream_of}
use Rattle.snesl_translation.specs.Makings.{stepped}
use Rattle.snesl_translation.specs.Translation.{scalars_step, equality, prefix_streams, binary_streams}
use Rattle.snesl_translation.specs.Carrying.{Carries, Goes}
use Rattle.snesl_translation.proofs.Carrying.{streams_joined, stream_carries}
use Rattle.snesl_translation.proofs.Twins.{Agrees, agree_value, step_goes, each_are, if_ok, goes_typed}
use Rattle.snesl_translation.proofs.Views.{all_from, both_from, type_as, single_as, scalar_from, scalar_as, cells_of_scalars, one_scalars}
use Rattle.snesl_translation.proofs.Indexing.{index_goes}

-- both as values
abbrev both_values : Scalar × Scalar → Value × Value
both_values q = (scalar_value q.0, scalar_value q.1)

module _ (dialect : Dialect) (at : ℕ) where
  unary_agrees : (op : UnaryOperator) (k : Scalar) → Agrees (unary_answer dialect at op (scalar_value k)) (option_map scalar_value (result_ok (unary_value dialect op k)))
  unary_agrees op (Int n) = agree_value scalar_value at (unary_value dialect op (Int n))
  unary_agrees op (Truth b) = agree_value scalar_value at (unary_value dialect op (Truth b))

  scalars_agree : (op : BinaryOperator) (q : Scalar × Scalar) →
      Agrees (scalars_answer dialect at op (scalar_value q.0) (scalar_value q.1))
      (option_map scalar_value (result_ok (binary_value dialect op q.0 q.1)))
  scalars_agree op (Int m, Int n) = agree_value scalar_value at (binary_value dialect op (Int m) (Int n))
  scalars_agree op (Int m, Truth b) = agree_value scalar_value at (binary_value dialect op (Int m) (Truth b))
  scalars_agree op (Truth a, Int n) = agree_value scalar_value at (binary_value dialect op (Truth a) (Int n))
  scalars_agree op (Truth a, Truth b) = agree_value scalar_value at (binary_value dialect op (Truth a) (Truth b))

  -- `==` of integers, and of truth values
  equal_integers : (ps : List (Value × Value)) → AllAre int (map (λ p. p.0) ps) → go_all (λ p. equal_answer dialect at p.0 p.1) ps
      ≡ go_all (λ p. scalars_answer dialect at binaries.EqualIntegers p.0 p.1) ps
  equal_integers [] are = refl
  equal_integers ((an_int n, w) ∷ ps) are =
      ap (λ b. go (scalars_answer dialect at binaries.EqualIntegers (an_int n) w) (λ y. go b (λ ys. gives (y ∷ ys)))) (equal_integers ps (all_split int (an_int n) (map (λ p. p.0) ps) are).1)
  equal_integers ((a_bool b, w) ∷ ps) are = absurd (cc)
  equal_integers ((a_pair a b, w) ∷ ps) are = absurd (cc)
  equal_integers ((a_vec vs, w) ∷ ps) are = absurd (cc)
  equal_integers ((a_seq vs, w) ∷ ps) are = absurd (cc)

  equal_truths : (ps : List (Value × Value)) → AllAre bool (map (λ p. p.0) ps) → go_all (λ p. equal_answer dialect at p.0 p.1) ps
      ≡ go_all (λ p. scalars_answer dialect at binaries.EqualTruths p.0 p.1) ps
  equal_truths [] are = refl
  equal_truths ((a_bool b, w) ∷ ps) are =
      ap (λ o. go (scalars_answer dialect at binaries.EqualTruths (a_bool b) w) (λ y. go o (λ ys. gives (y ∷ ys)))) (equal_truths ps (all_split bool (a_bool b) (map (λ p. p.0) ps) are).1)
  equal_truths ((an_int n, w) ∷ ps) are = absurd (cc)
  equal_truths ((a_pair a b, w) ∷ ps) are = absurd (cc)
  equal_truths ((a_vec vs, w) ∷ ps) are = absurd (cc)
  equal_truths ((a_seq vs, w) ∷ ps) are = absurd (cc)

  module _ (streams : Columns) where
    unary_goes : (op : UnaryOperator) (u : Wires) (vs : List Value) → Carries streams u (type_as (unary_operand op)) vs
        → Goes streams (type_as (unary_operand op)) (stepped at (unary dialect op) (stream_of u ∷ []) (type_as (unary_operand op)) (length streams)) (go_all (unary_answer dialect at op) vs)
    unary_goes op u vs c =
        let s = unary_operand op in
        let view = all_from (type_as s) scalar_value (scalar_from s) vs c.are in
        let ks = view.0 in
        let there : streams_at (stream_of u ∷ []) streams ≡ Some (scalar_cells ks ∷ []) =
        stream_carries streams u (type_as s) vs (single_as s) c ∙ ap (λ cs. Some (cs ∷ [])) (ap (map cell_for) view.1 ∙ cells_of_scalars ks) in
        let g = λ (k : Scalar). result_ok (unary_value dialect op k) in
        step_goes streams at (unary dialect op) (stream_of u ∷ []) (type_as s) (scalar_cells ks ∷ []) scalar_value (unary_answer dialect at op) scalar_value g ks vs view.1 there
        (unary_makes dialect op ks ∙ one_scalars s (each g ks)) (unary_agrees op)
        (each_are (type_as s) scalar_value g (λ k b e. scalar_as s b (if_ok (λ v. type_of v ≡ s) (unary_value dialect op k) b (unary_type dialect op k) e)) ks)

    -- both operands are of the operator's type
    scalars_go : (op : BinaryOperator) (u v : Wires) (ps : List (Value × Value)) → Carries streams u (type_as (binary_operand op)) (map (λ p. p.0) ps)
        → Carries streams v (type_as (binary_operand op)) (map (λ p. p.1) ps)
        → Goes streams (type_as (binary_result op)) (scalars_step dialect at op (type_as (binary_result op)) u v (length streams)) (go_all (λ p. scalars_answer dialect at op p.0 p.1) ps)
    scalars_go op u v ps cu cv =
        let s = binary_operand op in
        let t = binary_result op in
        let view = both_from (type_as s) (type_as s) scalar_value scalar_value (scalar_from s) (scalar_from s) ps cu.are cv.are in
        let qs = view.0 in
        let xs = map (λ q. q.0) qs in
        let ys = map (λ q. q.1) qs in
        let left : map (λ p. p.0) ps ≡ map scalar_value xs = ap (map (λ p. p.0)) view.1 ∙ map_map (λ p. p.0) both_values qs ∙ sym (map_map scalar_value (λ q. q.0) qs) in
        let right : map (λ p. p.1) ps ≡ map scalar_value ys = ap (map (λ p. p.1)) view.1 ∙ map_map (λ p. p.1) both_values qs ∙ sym (map_map scalar_value (λ q. q.1) qs) in
        let there_left : streams_at (stream_of u ∷ []) streams ≡ Some (scalar_cells xs ∷ []) =
        stream_carries streams u (type_as s) (map (λ p. p.0) ps) (single_as s) cu ∙ ap (λ cs. Some (cs ∷ [])) (ap (map cell_for) left ∙ cells_of_scalars xs) in
        let there_right : streams_at (stream_of v ∷ []) streams ≡ Some (scalar_cells ys ∷ []) =
        stream_carries streams v (type_as s) (map (λ p. p.1) ps) (single_as s) cv ∙ ap (λ cs. Some (cs ∷ [])) (ap (map cell_for) right ∙ cells_of_scalars ys) in
        let there = streams_joined (stream_of u ∷ []) (stream_of v ∷ []) streams (scalar_cells xs ∷ []) (scalar_cells ys ∷ []) there_left there_right in
        let g = λ (q : Scalar × Scalar). result_ok (binary_value dialect op q.0 q.1) in
        let made : binary_made dialect op (scalar_cells xs ∷ scalar_cells ys ∷ []) ≡ one scalar_cells (each g qs) = binary_makes dialect op xs ys
        ∙ ap (λ o. one scalar_cells (bind o (each g))) (paired_forth qs) in
        step_goes streams at (binary dialect op) (stream_of u ∷ stream_of v ∷ []) (type_as t) (scalar_cells xs ∷ scalar_cells ys ∷ []) both_values
        (λ p. scalars_answer dialect at op p.0 p.1) scalar_value g qs ps view.1 there
        (made ∙ one_scalars t (each g qs)) (scalars_agree op)
        (each_are (type_as t) scalar_value g (λ q b e. scalar_as t b (if_ok (λ v. type_of v ≡ t) (binary_value dialect op q.0 q.1) b (binary_type dialect op q.0 q.1) e)) qs)

    -- An operator before its operand, over all instances.
    pub prefix_goes : (operator : Prefix) (u : Wires) (s t : Ty) (vs : List Value) → prefix_result operator s ≡ Some t → Carries streams u s vs
        → Goes streams t (prefix_streams dialect at operator u (length streams)) (go_all (prefix_answer dialect at operator) vs)
    prefix_goes Negate u int t vs e c =
        goes_typed streams int t (prefix_streams dialect at Negate u (length streams)) (go_all (prefix_answer dialect at Negate) vs) e
        (unary_goes unaries.Negate u vs c)
    prefix_goes Not u bool t vs e c = goes_typed streams bool t (prefix_streams dialect at Not u (length streams)) (go_all (prefix_answer dialect at Not) vs) e (unary_goes unaries.Not u vs c)
    prefix_goes _ u _ t vs e c = absurd (cc)

    equal_goes : (s : Ty) (op : BinaryOperator) (u v : Wires) (ps : List (Value × Value)) → equality s ≡ op → Carries streams u s (map (λ p. p.0) ps)
        → go_all (λ p. equal_answer dialect at p.0 p.1) ps ≡ go_all (λ p. scalars_answer dialect at op p.0 p.1) ps
        → Goes streams bool (scalars_step dialect at op bool u v (length streams)) (go_all (λ p. scalars_answer dialect at op p.0 p.1) ps)
        → Goes streams bool (binary_streams dialect at Equal u v (length streams)) (go_all (λ p. equal_answer dialect at p.0 p.1) ps)
    equal_goes s op u v ps is c same goes =
        subst (λ op. Goes streams bool (scalars_step dialect at op bool u v (length streams)) (go_all (λ p. equal_answer dialect at p.0 p.1) ps)) (sym (ap equality c.of_type ∙ is))
        (subst (λ a. Goes streams bool (scalars_step dialect at op bool u v (length streams)) a) (sym same) goes)

    -- An operator between its operands, over all instances; `++` is told elsewhere.
    pub binary_goes : (operator : Operator) (u v : Wires) (s r t : Ty) (ps : List (Value × Value)) → operator_result operator s r ≡ Some t → operator ≢ Append
        → Carries streams u s (map (λ p. p.0) ps) → Carries streams v r (map (λ p. p.1) ps)
        → Goes streams t (binary_streams dialect at operator u v (length streams)) (go_all (λ p. binary_answer dialect at operator p.0 p.1) ps)
    binary_goes Or u v bool bool t ps e n cu cv =
        goes_typed streams bool t (binary_streams dialect at Or u v (length streams)) (go_all (λ p. binary_answer dialect at Or p.0 p.1) ps) e
        (scalars_go binaries.Or u v ps cu cv)
    binary_goes And u v bool bool t ps e n cu cv =
        goes_typed streams bool t (binary_streams dialect at And u v (length streams)) (go_all (λ p. binary_answer dialect at And p.0 p.1) ps) e
        (scalars_go binaries.And u v ps cu cv)
    binary_goes Equal u v int int t ps e n cu cv =
        goes_typed streams bool t (binary_streams dialect at Equal u v (length streams)) (go_all (λ p. binary_answer dialect at Equal p.0 p.1) ps) e
        (equal_goes int binaries.EqualIntegers u v ps refl cu (equal_integers ps cu.are) (scalars_go binaries.EqualIntegers u v ps cu cv))
    binary_goes Equal u v bool bool t ps e n cu cv =
        goes_typed streams bool t (binary_streams dialect at Equal u v (length streams)) (go_all (λ p. binary_answer dialect at Equal p.0 p.1) ps) e
        (equal_goes bool binaries.EqualTruths u v ps refl cu (equal_truths ps cu.are) (scalars_go binaries.EqualTruths u v ps cu cv))
    binary_goes Less u v int int t ps e n cu cv =
        goes_typed streams bool t (binary_streams dialect at Less u v (length streams)) (go_all (λ p. binary_answer dialect at Less p.0 p.1) ps) e
        (scalars_go binaries.Less u v ps cu cv)
    binary_goes AtMost u v int int t ps e n cu cv =
        goes_typed streams bool t (binary_streams dialect at AtMost u v (length streams)) (go_all (λ p. binary_answer dialect at AtMost p.0 p.1) ps) e
        (scalars_go binaries.AtMost u v ps cu cv)
    binary_goes Greater u v int int t ps e n cu cv =
        goes_typed streams bool t (binary_streams dialect at Greater u v (length streams)) (go_all (λ p. binary_answer dialect at Greater p.0 p.1) ps) e
        (scalars_go binaries.Greater u v ps cu cv)
    binary_goes AtLeast u v int int t ps e n cu cv =
        goes_typed streams bool t (binary_streams dialect at AtLeast u v (length streams)) (go_all (λ p. binary_answer dialect at AtLeast p.0 p.1) ps) e
        (scalars_go binaries.AtLeast u v ps cu cv)
    binary_goes Add u v int int t ps e n cu cv =
        goes_typed streams int t (binary_streams dialect at Add u v (length streams)) (go_all (λ p. binary_answer dialect at Add p.0 p.1) ps) e
        (scalars_go binaries.Add u v ps cu cv)
    binary_goes Subtract u v int int t ps e n cu cv =
        goes_typed streams int t (binary_streams dialect at Subtract u v (length streams)) (go_all (λ p. binary_answer dialect at Subtract p.0 p.1) ps)
        e (scalars_go binaries.Subtract u v ps cu cv)
    binary_goes Multiply u v int int t ps e n cu cv =
        goes_typed streams int t (binary_streams dialect at Multiply u v (length streams)) (go_all (λ p. binary_answer dialect at Multiply p.0 p.1) ps)
        e (scalars_go binaries.Multiply u v ps cu cv)
    binary_goes Divide u v int int t ps e n cu cv =
        goes_typed streams int t (binary_streams dialect at Divide u v (length streams)) (go_all (λ p. binary_answer dialect at Divide p.0 p.1) ps) e
        (scalars_go binaries.Divide u v ps cu cv)
    binary_goes Remainder u v int int t ps e n cu cv =
        goes_typed streams int t (binary_streams dialect at Remainder u v (length streams))
        (go_all (λ p. binary_answer dialect at Remainder p.0 p.1) ps) e (scalars_go binaries.Remainder u v ps cu cv)
    binary_goes Index u v (vec item) int t ps e n cu cv =
        goes_typed streams item t (binary_streams dialect at Index u v (length streams)) (go_all (λ p. binary_answer dialect at Index p.0 p.1) ps) e (index_goes dialect at streams u v item ps cu cv)
    binary_goes Append u v s r t ps e n cu cv = absurd (n refl)
    binary_goes _ u v _ _ t ps e n cu cv = absurd (cc)
