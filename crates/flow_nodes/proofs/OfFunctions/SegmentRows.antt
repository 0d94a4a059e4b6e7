-- The rows of the nodes over items of segments as functions.
use Rattle.std.specs.Prelude.{◌≡◌, ℕ, true, false, List, [], ◌∷◌, ◌++◌, map, length, replicate, Option, Some, None, option_map, refl}
use Rattle.std.proofs.Common.{arith, sym, ◌∙◌, ap, subst}
use Rattle.std.proofs.Math.Path.{ap₂}
use Rattle.std.proofs.lemmas.List.{length-map}
use Rattle.flow_messages.specs.Cells.{Cell, flag}
use Rattle.flow_messages.specs.declared.message.Kind.{Kind}
use Rattle.flow_base.specs.Flags.{flags, concatenation, lengths}
use Rattle.flow_base.specs.Ranges.{AllOf}
use Rattle.flow_base.specs.Columns.{Columns}
use Rattle.flow_segment.specs.Rows.{repeated, DistRow, Pairs, pair_items, pack_reads, items_kept, PackRow, Sides, lefts, rights, alternated, AllOfSides, interleave_reads, InterleaveRow}
use Rattle.flow_nodes.specs.functions.Lists.{paired, copied, dist, kept}
use Rattle.flow_nodes.specs.functions.Decoded.{numbers, truth_in, truths, items_of_kind}
use Rattle.flow_nodes.specs.functions.Made.{dist_made, pack_made, interleave_made}
use Rattle.flow_nodes.specs.functions.RowsAreFunctions.{IsFunction}
use Rattle.flow_nodes.proofs.OfFunctions.Options.{bind_gives, map_gives, each_forth, paired_forth, paired_back, interleave_forth, interleave_back, map_map}
use Rattle.flow_nodes.proofs.OfFunctions.Decoding.{numbers_forth, numbers_back, truths_back, items_forth, items_back}
use Rattle.flow_nodes.proofs.OfFunctions.FlagRows.{function_of, four}

pub one_column : (l r : List Cell) → Some (l ∷ []) ≡ Some (r ∷ []) → l ≡ r
one_column l r e = cc

pub same_column : (l r : List Cell) → l ∷ [] ≡ r ∷ [] → l ≡ r
same_column l r e = cc

-- Dist

one_more_copied : (n : ℕ) (x : Cell) (o : Option (List (ℕ × Cell))) (r : List Cell) → option_map copied o ≡ Some r → option_map copied (option_map (λ ps. (n, x) ∷ ps) o) ≡ Some (replicate n x ++ r)
one_more_copied n x None r e = absurd (cc)
one_more_copied n x (Some ps) r e = let same : copied ps ≡ r = cc in ap (λ r. Some (replicate n x ++ r)) same

dist_forth : (ns : List ℕ) (a : List Cell) → length ns ≡ length a → dist ns a ≡ Some (repeated ns a)
dist_forth [] [] e = refl
dist_forth (n ∷ ns) (x ∷ a) e = one_more_copied n x (paired ns a) (repeated ns a) (dist_forth ns a (omega arith))
dist_forth [] (x ∷ a) e = absurd (omega arith)
dist_forth (n ∷ ns) [] e = absurd (omega arith)

copied_is : (ps : List (ℕ × Cell)) → copied ps ≡ repeated (map (λ p. p.0) ps) (map (λ p. p.1) ps)
copied_is [] = refl
copied_is (p ∷ ps) = ap (λ l. replicate p.0 p.1 ++ l) (copied_is ps)

dist_back : (ns : List ℕ) (a r : List Cell) → dist ns a ≡ Some r → (length ns ≡ length a) × (r ≡ repeated ns a)
dist_back ns a r e =
    let g = map_gives copied (paired ns a) e in
    let p = paired_back ns a g.0 g.1 in
    (ap length p.0 ∙ length-map g.0 (λ p. p.0) ∙ sym (length-map g.0 (λ p. p.1)) ∙ ap length (sym p.1), g.2 ∙ copied_is g.0 ∙ ap₂ repeated (sym p.0) (sym p.1))

dist_from : (kind : Kind) (a f r : List Cell) → DistRow kind a f r → dist_made kind (a ∷ f ∷ []) ≡ Some (r ∷ [])
dist_from kind a f r row =
    ap (λ f. dist_made kind (a ∷ f ∷ [])) row.segments_are
    ∙ rw (items_forth kind a row.of_kind, numbers_forth row.ns, dist_forth row.ns a row.as_many) (ap (λ r. Some (r ∷ [])) (sym row.written))

dist_to : (kind : Kind) (a f r : List Cell) → dist_made kind (a ∷ f ∷ []) ≡ Some (r ∷ []) → DistRow kind a f r
dist_to kind a f r e =
    let s0 = map_gives _ _ e in
    let s1 = bind_gives (items_of_kind kind a) _ s0.1 in
    let s2 = bind_gives (numbers f) _ s1.2 in
    let g = dist_back s2.0 s1.0 s0.0 s2.2 in
    let k = items_back kind a s1.0 s1.1 in
    record {
      ns = s2.0;
      as_many = g.0 ∙ ap length (sym k.0);
      of_kind = subst (AllOf kind) (sym k.0) k.1;
      segments_are = numbers_back f s2.0 s2.1;
      written = same_column r s0.0 s0.2 ∙ g.1 ∙ ap (repeated s2.0) (sym k.0);
    }

pub dist_row : (kind : Kind) → IsFunction (λ i o. DistRow kind (i 0) (i 1) (o 0)) (dist_made kind) 2 1
dist_row kind i o = (dist_from kind (i 0) (i 1) (o 0), dist_to kind (i 0) (i 1) (o 0))

-- Pack

kept_is : (xs : Pairs) → kept xs ≡ items_kept xs
kept_is [] = refl
kept_is ((true, x) ∷ xs) = ap (λ l. x ∷ l) (kept_is xs)
kept_is ((false, x) ∷ xs) = kept_is xs

abbrev PackCase : Kind → Type 0
PackCase kind = (xs : Pairs) × AllOf kind (pair_items xs)

pack_forth : (kind : Kind) (x : PackCase kind) → pack_made kind (pack_reads x.0) ≡ Some (items_kept x.0 ∷ [])
pack_forth kind x = rw (each_forth truth_in (λ p. flag p.0) (λ p. p.0) (λ p. refl) x.0, items_forth kind (pair_items x.0) x.1, paired_forth x.0) (ap (λ l. Some (l ∷ [])) (kept_is x.0))

pack_back : (kind : Kind) (b a : List Cell) (o : Columns) → pack_made kind (b ∷ a ∷ []) ≡ Some o → (x : PackCase kind) × (b ∷ a ∷ [] ≡ pack_reads x.0) × (o ≡ items_kept x.0 ∷ [])
pack_back kind b a o e =
    let s0 = map_gives _ _ e in
    let s1 = bind_gives (truths b) _ s0.1 in
    let s2 = bind_gives (items_of_kind kind a) _ s1.2 in
    let s3 = map_gives kept (paired s1.0 s2.0) s2.2 in
    let p = paired_back s1.0 s2.0 s3.0 s3.1 in
    let k = items_back kind a s2.0 s2.1 in (
      (s3.0, subst (AllOf kind) p.1 k.1),
      ap₂ (λ b a. b ∷ a ∷ []) (truths_back b s1.0 s1.1 ∙ ap (map flag) p.0 ∙ map_map flag (λ x. x.0) s3.0) (k.0 ∙ p.1),
      s0.2
          ∙ ap (λ l. l ∷ []) (s3.2 ∙ kept_is s3.0),
    )

pub pack_row : (kind : Kind) → IsFunction (PackRow kind) (pack_made kind) 2 1
pack_row kind = function_of {X = PackCase kind} (λ x. pack_reads x.0) (λ x. items_kept x.0 ∷ []) (pack_made kind) 2 1 (pack_forth kind) (λ i. pack_back kind (i 0) (i 1))

-- Interleave

all_parts : (kind : Kind) (xs ys : List Cell) → AllOf kind (xs ++ ys) → AllOf kind xs × AllOf kind ys
all_parts kind [] ys h = (tt, h)
all_parts kind (x ∷ xs) ys h = let g = all_parts kind xs ys h.1 in ((h.0, g.0), g.1)

all_append : (kind : Kind) (xs ys : List Cell) → AllOf kind xs → AllOf kind ys → AllOf kind (xs ++ ys)
all_append kind [] ys h g = g
all_append kind (x ∷ xs) ys h g = (h.0, all_append kind xs ys h.1 g)

all_left : (kind : Kind) (xs : Sides Cell) → AllOfSides kind xs → AllOf kind (concatenation (lefts xs))
all_left kind [] h = tt
all_left kind ((u, v) ∷ xs) h = all_append kind u (concatenation (lefts xs)) h.0 (all_left kind xs h.2)

all_right : (kind : Kind) (xs : Sides Cell) → AllOfSides kind xs → AllOf kind (concatenation (rights xs))
all_right kind [] h = tt
all_right kind ((u, v) ∷ xs) h = all_append kind v (concatenation (rights xs)) h.1 (all_right kind xs h.2)

all_sides : (kind : Kind) (xs : Sides Cell) → AllOf kind (concatenation (lefts xs)) → AllOf kind (concatenation (rights xs)) → AllOfSides kind xs
all_sides kind [] h g = tt
all_sides kind ((u, v) ∷ xs) h g =
    let l = all_parts kind u (concatenation (lefts xs)) h in
    let r = all_parts kind v (concatenation (rights xs)) g in
    (l.0, r.0, all_sides kind xs l.1 r.1)

abbrev InterleaveCase : Kind → Type 0
InterleaveCase kind = (xs : Sides Cell) × AllOfSides kind xs

interleave_row_forth : (kind : Kind) (x : InterleaveCase kind) → interleave_made kind (interleave_reads x.0) ≡ Some (alternated x.0 ∷ [])
interleave_row_forth kind x =
    let xs = x.0 in
    rw (
      numbers_forth (lengths (lefts xs)),
      numbers_forth (lengths (rights xs)),
      items_forth kind (concatenation (lefts xs)) (all_left kind xs x.1),
      items_forth kind (concatenation (rights xs)) (all_right kind xs x.1),
      interleave_forth xs,
    ) refl

interleave_row_back : (kind : Kind) (f g a b : List Cell) (o : Columns) → interleave_made kind (f ∷ g ∷ a ∷ b ∷ []) ≡ Some o →
    (x : InterleaveCase kind) × (f ∷ g ∷ a ∷ b ∷ [] ≡ interleave_reads x.0) × (o ≡ alternated x.0 ∷ [])
interleave_row_back kind f g a b o e =
    let s0 = map_gives _ _ e in
    let s1 = bind_gives (numbers f) _ s0.1 in
    let s2 = bind_gives (numbers g) _ s1.2 in
    let s3 = bind_gives (items_of_kind kind a) _ s2.2 in
    let s4 = bind_gives (items_of_kind kind b) _ s3.2 in
    let h = interleave_back s1.0 s2.0 s3.0 s4.0 s0.0 s4.2 in
    let k = items_back kind a s3.0 s3.1 in
    let l = items_back kind b s4.0 s4.1 in
    let f_is = numbers_back f s1.0 s1.1 ∙ ap flags h.ns_are in
    let g_is = numbers_back g s2.0 s2.1 ∙ ap flags h.ms_are in
    ((h.sides, all_sides kind h.sides (subst (AllOf kind) h.us_are k.1) (subst (AllOf kind) h.vs_are l.1)), four f_is g_is (k.0 ∙ h.us_are) (l.0 ∙ h.vs_are), s0.2 ∙ ap (λ l. l ∷ []) h.r_is)

pub interleave_row : (kind : Kind) → IsFunction (InterleaveRow kind) (interleave_made kind) 4 1
interleave_row kind =
    function_of {X = InterleaveCase kind} (λ x. interleave_reads x.0) (λ x. alternated x.0 ∷ []) (interleave_made kind) 4 1
    (interleave_row_forth kind) (λ i. interleave_row_back kind (i 0) (i 1) (i 2) (i 3))
