-- How many columns each operation writes.
use Rattle.std.specs.Prelude.{◌≡◌, ◌==◌, List, [], ◌∷◌, map, sum, length, replicate, Option, Some}
use Rattle.std.proofs.Common.{sym, ◌∙◌, ap, arith}
use Rattle.std.proofs.lemmas.List.{length-replicate}
use Rattle.snesl_data.specs.Types.{seq}
use Rattle.snesl_data.specs.Values.{Value}
use Rattle.snesl_data.specs.operators.Operators.{same_truth}
use Rattle.flow_messages.specs.Cells.{Cell}
use Rattle.flow_base.specs.Flags.{flags, concatenation, lengths}
use Rattle.flow_base.specs.Columns.{Columns}
use Rattle.flow_nodes.specs.functions.Lists.{each, same_lists, cut}
use Rattle.flow_nodes.specs.functions.Decoded.{numbers, truths, items_of_kind, values}
use Rattle.flow_nodes.specs.functions.Made.{one, columns_of_values, of_one}
use Rattle.flow_nodes.proofs.OfFunctions.Options.{bind_gives, map_gives, only_if_gives, some_same}
use Rattle.flow_nodes.proofs.OfFunctions.Edges.{laid_length}
use Rattle.flow_nodes.specs.plans.Plans.{Operation, source, iota, part_flags, same_flags, the_check, print, seq_of, index, fork, sink, made_by}
use Rattle.flow_nodes.specs.plans.Ports.{kinds_written}

one_column : {A : Type 0} (column : A → List Cell) (o : Option A) (written : Columns) → one column o ≡ Some written → length written ≡ 1
one_column column o written e = let g = map_gives (λ x. column x ∷ []) o e in ap length g.2

nothing_of_one : (vs : List Value) (written : Columns) → of_one vs ≡ Some written → length written ≡ 0
nothing_of_one (v ∷ []) written e = ap length (sym (some_same [] written e))
nothing_of_one [] written e = absurd (cc)
nothing_of_one (v ∷ w ∷ vs) written e = absurd (cc)

-- the last two clauses stand for each of the other operations, which write one column, and for columns of another number
pub written_length : (operation : Operation) (read written : Columns) → made_by operation read ≡ Some written → length written ≡ length (kinds_written operation)
written_length (source kind cells) [] written e = ap length (sym (some_same (cells ∷ []) written e))
written_length iota (a ∷ []) written e = let g = map_gives _ _ e in ap length g.2
written_length same_flags (f ∷ g ∷ []) written e =
    let s1 = bind_gives (truths f) _ e in
    let s2 = bind_gives (truths g) _ s1.2 in
    ap length (only_if_gives (same_lists same_truth s1.0 s2.0) [] s2.2).1
written_length part_flags (g ∷ c ∷ f ∷ []) written e =
    let s1 = bind_gives (numbers g) _ e in
    let s2 = bind_gives (cut s1.0 c) _ s1.2 in
    let s3 = bind_gives (each numbers s2.0) _ s2.2 in
    let s4 = bind_gives (numbers f) _ s3.2 in
    ap length (only_if_gives (same_lists ◌==◌ (map sum s3.0) s4.0) (flags (lengths s3.0) ∷ flags (concatenation s3.0) ∷ []) s4.2).1
written_length the_check (f ∷ []) written e =
    let s = bind_gives (numbers f) _ e in
    ap length (only_if_gives (same_lists ◌==◌ s.0 (replicate (length s.0) 1)) [] s.2).1
written_length (print ty) all written e = let s = bind_gives (values ty all) of_one e in nothing_of_one s.0 written s.2
written_length (seq_of ty) (v ∷ []) written e = let g = map_gives (columns_of_values (seq ty)) _ e in ap length g.2 ∙ laid_length (seq ty) g.0
written_length (index ty) (v ∷ i ∷ []) written e = let g = map_gives (columns_of_values ty) _ e in ap length g.2 ∙ laid_length ty g.0
written_length (fork kind outputs) (a ∷ []) written e = let g = map_gives _ (items_of_kind kind a) e in ap length g.2 ∙ length-replicate outputs g.0 ∙ sym (length-replicate outputs kind)
written_length (sink kind) (a ∷ []) written e = let g = map_gives _ (items_of_kind kind a) e in ap length g.2
written_length _ (f ∷ g ∷ p ∷ q ∷ []) written e = grind (arith, one_column)
written_length _ _ written e = grind (arith, one_column)
