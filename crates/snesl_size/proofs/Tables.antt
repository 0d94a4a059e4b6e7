-- What a table holds once its lines were added.
use Rattle.std.proofs.Common.{◌≡◌, ◌∙◌, List, [], ◌++◌, Option, ap, append_assoc, codes, length, sym, ℕ}
use Rattle.std.proofs.lemmas.List.{append-nil}
use Rattle.snesl_flatten.specs.Networks.{StreamNodeState}
use Rattle.snesl_flatten.specs.network.NodesAtRest.{FinalView}
use Rattle.snesl_size.specs.Tables.{AddsBusiest, AddsSizes, IsBusiest, IsSizeTable, busiest_part, count_over, full_part, name_and_number, sizes_part, with_edges, without_edges}

module _ (rest : FinalView StreamNodeState) (before : List ℕ) where
  -- the lines of the busiest edge
  pub with_busiest : (e count : ℕ) (line table : List ℕ) → IsBusiest rest e → count ≡ count_over rest e
      → line ≡ before ++ name_and_number (codes "busiest edge: ") e → table ≡ line ++ name_and_number (codes "messages on it: ") count
      → AddsBusiest rest before table
  with_busiest e count line table is counted first second = (
    busiest_part e (count_over rest e),
    with_edges e is,
    second ∙ ap (λ l. l ++ name_and_number (codes "messages on it: ") count) first
        ∙ append_assoc before (name_and_number (codes "busiest edge: ") e) (name_and_number (codes "messages on it: ") count)
        ∙ ap (λ n. before ++ busiest_part e n) counted,
  )

  -- or none
  pub without_busiest : length rest.edges ≡ 0 → AddsBusiest rest before before
  without_busiest none = ([], without_edges none, sym (append-nil before))

-- all lines together
pub whole_table : (least : ℕ) (full : Option ℕ) (rest : FinalView StreamNodeState) (empty sizes most table : List ℕ) → empty ≡ []
    → AddsSizes least rest empty sizes → AddsBusiest rest sizes most → table ≡ most ++ full_part full
    → IsSizeTable least full rest table
whole_table least full rest empty sizes most table new first (lines, are, second) third = record {
  busiest = lines;
  lines = are;
  is = third ∙ ap (λ l. l ++ full_part full) (second ∙ ap (λ l. l ++ lines) (first ∙ ap (λ l. l ++ sizes_part least rest) new));
}
