-- Elements of vectors, at whole lists of instances.
use Rattle.std.specs.Prelude.{◌≡◌, ℕ, ℤ, pos, negsuc, List, [], ◌∷◌, map, length, Option, Some, None, option_map, refl}
use Rattle.std.proofs.Common.{sym, ap, ◌∙◌, subst, map-id}
use Rattle.snesl_data.specs.declared.dialect.Dialect.{Dialect}
use Rattle.snesl_data.specs.declared.fault.FaultKind.{FaultKind}
use Rattle.snesl_data.specs.Types.{Ty, int, vec}
use Rattle.snesl_data.specs.Values.{Value, an_int, values_of}
use Rattle.snesl_grammar.specs.declared.tree.operator.Operator.TheVariants.{Index}
use Rattle.flow_messages.specs.Cells.{datum}
use Rattle.flow_base.specs.Columns.{Columns}
use Rattle.flow_values.specs.Shapes.{cell_for}
use Rattle.flow_values.specs.Rows.{element_at}
use Rattle.flow_values.specs.laws.Index.{element_is}
use Rattle.flow_nodes.specs.functions.Lists.{bind, each, paired}
use Rattle.flow_nodes.specs.functions.Made.{integer_cells, columns_of_values, picked, index_made}
use Rattle.flow_nodes.proofs.OfFunctions.Options.{bind_gives, map_gives, some_same, map_map, paired_map}
use Rattle.flow_nodes.proofs.OfFunctions.Mapped.{map_some_same}
use Rattle.flow_nodes.proofs.OfFunctions.Encoded.{index_makes}
use Rattle.flow_nodes.proofs.OfFunctions.ValueDecoding.{AllAre, all_split, all_cons}
use Rattle.snesl_evaluation.specs.Answer.{go_all, or_fault}
use Rattle.snesl_evaluation.specs.Builtins.{binary_answer}
use Rattle.flow_nodes.specs.plans.Plans.{index, streams_at}
use Rattle.snesl_translation.specs.Wires.{Wires, stream_of, item_type}
use Rattle.snesl_translation.specs.Makings.{stepped}
use Rattle.snesl_translation.specs.Translation.{binary_streams}
use Rattle.snesl_translation.specs.Carrying.{Carries, Goes}
use Rattle.snesl_translation.proofs.Carrying.{streams_joined, stream_carries}
use Rattle.snesl_translation.proofs.Instances.{each_map}
use Rattle.snesl_translation.proofs.Twins.{Agrees, step_goes}
use Rattle.snesl_translation.proofs.Views.{both_from, a_vec_of, vec_from, int_from, cells_of_integers, cells_of_vectors}

-- the vector and the index
abbrev vector_and_index : List Value × ℤ → Value × Value
vector_and_index q = (a_vec_of q.0, an_int q.1)

abbrev beside : List Value × ℤ → Value × ℤ
beside q = (a_vec_of q.0, q.1)

abbrev element_of : List Value × ℤ → Option Value
element_of q = element_at (values_of q.0) q.1

fault_agrees : (kind : FaultKind) (at : ℕ) (o : Option Value) → Agrees (or_fault kind at o) (option_map (λ v. v) o)
fault_agrees kind at (Some v) = refl
fault_agrees kind at None = refl

-- elements of vectors of a type are of the type of their items
elements_typed : (item : Ty) (qs : List (List Value × ℤ)) → AllAre (vec item) (map a_vec_of (map (λ q. q.0) qs)) → (bs : List Value) → each element_of qs ≡ Some bs → AllAre item (map (λ v. v) bs)
elements_typed item [] are bs e = let same : [] ≡ bs = some_same [] bs e in subst (λ bs. AllAre item (map (λ v. v) bs)) same refl
elements_typed item (q ∷ qs) are bs e =
    let s = all_split (vec item) (a_vec_of q.0) (map a_vec_of (map (λ q. q.0) qs)) are in
    let one = bind_gives (element_of q) (λ y. option_map (λ ys. y ∷ ys) (each element_of qs)) e in
    let others = map_gives (λ ys. one.0 ∷ ys) (each element_of qs) one.2 in
    subst (λ bs. AllAre item (map (λ v. v) bs)) (sym others.2)
    (all_cons item one.0 (map (λ v. v) others.0) (element_is item (values_of q.0) q.1 one.0 one.1 s.0) (elements_typed item qs s.1 others.0 others.1))

module _ (dialect : Dialect) (at : ℕ) (streams : Columns) where
  element_agrees : (q : List Value × ℤ) → Agrees (binary_answer dialect at Index (a_vec_of q.0) (an_int q.1)) (option_map (λ v. v) (element_of q))
  element_agrees (vs, pos n) = fault_agrees _ at (element_of (vs, pos n))
  element_agrees (vs, negsuc n) = refl

  pub index_goes : (u v : Wires) (item : Ty) (ps : List (Value × Value)) → Carries streams u (vec item) (map (λ p. p.0) ps) → Carries streams v int (map (λ p. p.1) ps)
      → Goes streams item (binary_streams dialect at Index u v (length streams)) (go_all (λ p. binary_answer dialect at Index p.0 p.1) ps)
  index_goes u v item ps cu cv =
      let view = both_from (vec item) int a_vec_of an_int (vec_from item) int_from ps cu.are cv.are in
      let qs = view.0 in
      let xs = map (λ q. q.0) qs in
      let ns = map (λ q. q.1) qs in
      let left : map (λ p. p.0) ps ≡ map a_vec_of xs = ap (map (λ p. p.0)) view.1 ∙ map_map (λ p. p.0) vector_and_index qs ∙ sym (map_map a_vec_of (λ q. q.0) qs) in
      let right : map (λ p. p.1) ps ≡ map an_int ns = ap (map (λ p. p.1)) view.1 ∙ map_map (λ p. p.1) vector_and_index qs ∙ sym (map_map an_int (λ q. q.1) qs) in
      let vectors = map a_vec_of xs in
      let are : AllAre (vec item) vectors = subst (AllAre (vec item)) left cu.are in
      let there_left : streams_at (stream_of u ∷ []) streams ≡ Some (map datum vectors ∷ []) =
      stream_carries streams u (vec item) (map (λ p. p.0) ps) tt cu ∙ ap (λ cs. Some (cs ∷ [])) (ap (map cell_for) left ∙ cells_of_vectors xs) in
      let there_right : streams_at (stream_of v ∷ []) streams ≡ Some (integer_cells ns ∷ []) =
      stream_carries streams v int (map (λ p. p.1) ps) tt cv ∙ ap (λ cs. Some (cs ∷ [])) (ap (map cell_for) right ∙ cells_of_integers ns) in
      let there = streams_joined (stream_of u ∷ []) (stream_of v ∷ []) streams (map datum vectors ∷ []) (integer_cells ns ∷ []) there_left there_right in
      let in_pairs : paired vectors ns ≡ Some (map beside qs) = ap (λ l. paired l ns) (map_map a_vec_of (λ q. q.0) qs) ∙ paired_map (λ q. a_vec_of q.0) (λ q. q.1) qs in
      let made : index_made item (map datum vectors ∷ integer_cells ns ∷ []) ≡ option_map (λ bs. columns_of_values item (map (λ v. v) bs)) (each element_of qs) =
      index_makes item vectors ns are ∙ ap (λ o. option_map (columns_of_values item) (bind o (each picked))) in_pairs
      ∙ ap (option_map (columns_of_values item)) (each_map picked beside qs)
      ∙ map_some_same (columns_of_values item) (λ bs. columns_of_values item (map (λ v. v) bs)) (each element_of qs) (λ bs. ap (columns_of_values item) (sym (map-id bs))) in
      let goes : Goes streams item (stepped at (index item) (stream_of u ∷ stream_of v ∷ []) item (length streams)) (go_all (λ p. binary_answer dialect at Index p.0 p.1) ps) =
      step_goes streams at (index item) (stream_of u ∷ stream_of v ∷ []) item (map datum vectors ∷ integer_cells ns ∷ []) vector_and_index
      (λ p. binary_answer dialect at Index p.0 p.1) (λ v. v) element_of qs ps
      view.1 there made element_agrees (elements_typed item qs are) in
      subst (λ item'. Goes streams item (stepped at (index item') (stream_of u ∷ stream_of v ∷ []) item' (length streams)) (go_all (λ p. binary_answer dialect at Index p.0 p.1) ps))
      (sym (ap item_type cu.of_type)) goes
