-- What Reduce makes of blocks: flags and the elements that they stand for, and the ends of segments.
use Rattle.std.proofs.Common.{◌≡◌, ℕ, zero, suc, ◌+◌, ◌-◌, ◌<◌, ◌≤◌, ◌*◌, ℤ, pos, negsuc, ◌+ℤ◌, ◌≤ℤ◌, Bool, true, false, cond, List, []}
use Rattle.std.proofs.Common.{◌∷◌, ◌++◌, length, take, drop, set, get_or, Option, Some, Result, Ok, Err, refl, sym, ◌∙◌, ap, subst, arith, append-nil, length-append}
use Rattle.std.specs.Prelude.{if◌then◌else◌}
use Rattle.std.proofs.Math.Seq.{take-add}
use Rattle.std.proofs.lemmas.Bool.Decides.{nat_tests}
use Rattle.std.proofs.lemmas.Int.{ints}
use Rattle.std.proofs.lemmas.List.{length-drop, length-take-le, map-append, take_more, take_more_set, take_rest}
use Rattle.kahn.specs.declared.want.Want.TheVariants.{Read}
use Rattle.snesl_data.specs.declared.dialect.Dialect.{Dialect}
use Rattle.snesl_data.specs.declared.fault.FaultKind.{FaultKind}
use Rattle.snesl_data.specs.declared.dialect.Dialect.TheVariants.{One, Two}
use Rattle.snesl_data.specs.declared.fault.FaultKind.TheVariants.{Overflow}
use Rattle.snesl_data.specs.Integers.{is_integer}
use Rattle.snesl_data.specs.operators.Operators.{ranged, an_integer}
use Rattle.snesl_data.specs.operators.Reductions.{some_of, and_then, reduced_more}
use Rattle.snesl_data.specs.declared.operators.operator.Reduction.{Reduction}
use Rattle.snesl_data.specs.declared.operators.operator.Reduction.TheVariants.{Sum}
use Rattle.snesl_data.specs.declared.operators.scalar.Scalar.{Scalar}
use Rattle.snesl_data.specs.declared.operators.scalar.Scalar.TheVariants.{Int}
use Rattle.flow_messages.specs.Cells.{Cell, flag, int}
use Rattle.flow_messages.specs.Blocks.{flag_signals, int_signals}
use Rattle.flow_messages.specs.Signals.{carry}
use Rattle.flow_base.specs.Machines.{ask_of, on_kind, state_after_item, state_after_read}
use Rattle.flow_base.specs.Nodes.{want_for}
use Rattle.flow_base.proofs.Along.{only, ran_as, single_none, single_first, single_second, single_write, single_then}
use Rattle.flow_folds.specs.Scalars.{scalar_in}
use Rattle.flow_folds.specs.ReduceMachine.{at_flag, at_element, reduced_kind, reduce_machine}
use Rattle.flow_folds.specs.ReduceBlocks.{reduction_of_ints, stage_of_sum, AwaitsFlag, Reduces, SumsOfSegments}
use Rattle.flow_folds.specs.declared.reduce.Stage.{Stage}
use Rattle.flow_folds.specs.declared.reduce.Stage.TheVariants.{Start, Flag, Element, Value}
use Rattle.flow_folds.specs.laws.Reduce.{element_is}
use Rattle.flow_folds.proofs.SegmentBlocks.{elements_block}

-- one element more
pub ints_more : (dialect : Dialect) (reduction : Reduction) (so_far : Option Scalar) (xs : List ℤ) (x : ℤ) →
    reduction_of_ints dialect reduction so_far (xs ++ x ∷ [])
    ≡ and_then (reduction_of_ints dialect reduction so_far xs) (λ more. reduced_more dialect reduction more (Int x))
ints_more dialect reduction so_far [] x = go (reduced_more dialect reduction so_far (Int x))
  where
    go : (r : Result (Option Scalar) FaultKind) → and_then r (λ more. Ok more) ≡ r
    go (Ok more) = refl
    go (Err kind) = refl
ints_more dialect reduction so_far (y ∷ xs) x = go (reduced_more dialect reduction so_far (Int y)) (λ more. ints_more dialect reduction more xs x)
  where
    go : (r : Result (Option Scalar) FaultKind) →
        ((more : Option Scalar) → reduction_of_ints dialect reduction more (xs ++ x ∷ [])
        ≡ and_then (reduction_of_ints dialect reduction more xs) (λ held. reduced_more dialect reduction held (Int x))) →
        and_then r (λ more. reduction_of_ints dialect reduction more (xs ++ x ∷ []))
        ≡ and_then (and_then r (λ more. reduction_of_ints dialect reduction more xs)) (λ more. reduced_more dialect reduction more (Int x))
    go (Ok more) rest = rest more
    go (Err kind) rest = refl

pub one_int_more : (dialect : Dialect) (reduction : Reduction) (so_far held more : Option Scalar) (xs : List ℤ) (x : ℤ) →
    reduction_of_ints dialect reduction so_far xs ≡ Ok held → reduced_more dialect reduction held (Int x) ≡ Ok more →
    reduction_of_ints dialect reduction so_far (xs ++ x ∷ []) ≡ Ok more
one_int_more dialect reduction so_far held more xs x before is = ints_more dialect reduction so_far xs x ∙ ap (λ r. and_then r (λ m. reduced_more dialect reduction m (Int x))) before ∙ is

-- the first flags are those of elements
pub first_elements : (n : ℕ) (bs : List Bool) → n ≤ length bs → ((k : ℕ) → k < n → get_or bs k true ≡ false) → take n bs ≡ elements_block n
first_elements zero bs within ahead = refl
first_elements (suc n) [] within ahead = absurd (omega arith)
first_elements (suc n) (b ∷ bs) within ahead =
    let first : b ≡ false = ahead 0 (omega arith) in
    let rest : take n bs ≡ elements_block n = first_elements n bs (omega arith) (λ k h. ahead (suc k) (omega arith)) in
    cc

-- what comes from a place on
abbrev pub rest_of : {X : Type 0} → List X → ℕ → List X
rest_of xs i = take (length xs - i) (drop i xs)

pub length_rest : {X : Type 0} (xs : List X) (i : ℕ) → length (rest_of xs i) ≡ length xs - i
length_rest xs i = ap length (take_rest xs i) ∙ length-drop i xs

-- the first flag is this
pub some_flag : (bs : List Bool) → get_or bs 0 false ≡ true → 0 < length bs
some_flag [] is = absurd (cc)
some_flag (b ∷ bs) is = omega arith

first_flag : (bs : List Bool) → get_or bs 0 false ≡ true → take 1 bs ≡ true ∷ []
first_flag [] is = absurd (cc)
first_flag (b ∷ bs) is = ap (λ t. t ∷ []) is

-- where a flag comes, one is read, and leads as it does after what is so far
awaits_wants : (p : Dialect × Reduction) (s : Stage) (so_far : Option Scalar) → AwaitsFlag p.1 s so_far → want_for (ask_of (reduce_machine.move p s)) ≡ Read 0
awaits_wants p Start so_far awaits = refl
awaits_wants p (Flag held) so_far awaits = refl
awaits_wants p (Element held) so_far awaits = absurd awaits
awaits_wants p (Value value) so_far awaits = absurd awaits

awaits_takes : (p : Dialect × Reduction) (s : Stage) (so_far : Option Scalar) → AwaitsFlag p.1 s so_far → (y : Cell) →
    state_after_read (reduce_machine.move p s) y ≡ state_after_item (at_flag so_far) y
awaits_takes p Start so_far awaits y = ap (λ held. state_after_item (at_flag held) y) awaits
awaits_takes p (Flag held) so_far awaits y = ap (λ held. state_after_item (at_flag held) y) awaits
awaits_takes p (Element held) so_far awaits y = absurd awaits
awaits_takes p (Value value) so_far awaits y = absurd awaits

module _ (p : Dialect × Reduction) where
  pub reduces_none : (s : Stage) → Reduces p s [] [] [] s
  reduces_none s = single_none reduce_machine p s

  -- an element, after its flag
  one_element : (s : Stage) (so_far more : Option Scalar) (x : ℤ) → AwaitsFlag p.1 s so_far → reduced_more p.0 p.1 so_far (Int x) ≡ Ok more → Reduces p s (false ∷ []) (x ∷ []) [] (Flag more)
  one_element s so_far more x awaits is =
      let m = reduce_machine in
      let one = single_first m p s (Element so_far) (flag false) (awaits_wants p s so_far awaits) (awaits_takes p s so_far awaits (flag false)) in
      let leads : state_after_item (on_kind (reduced_kind p.1) (λ k. at_element p.0 p.1 so_far (scalar_in k))) (int x) ≡ Ok (Flag more) =
      element_is p.0 p.1 so_far (int x) ∙ ap (λ r. and_then r (λ held. Ok (Flag held))) is in
      let two = single_second m p (Element so_far) (Flag more) (int x) refl leads in
      single_then m p (flag_signals (false ∷ [])) [] [] [] (int_signals (x ∷ [])) [] one two

  -- the end of a segment, with its value
  end_step : (s : Stage) (n : ℤ) → AwaitsFlag p.1 s (Some (Int n)) → Reduces p s (true ∷ []) [] (n ∷ []) Start
  end_step s n awaits =
      let m = reduce_machine in
      let one = single_first m p s (Value (Int n)) (flag true) (awaits_wants p s (Some (Int n)) awaits) (awaits_takes p s (Some (Int n)) awaits (flag true)) in
      let two = single_write m p (Value (Int n)) Start (int n) refl refl refl in
      single_then m p (flag_signals (true ∷ [])) [] [] [] [] (int_signals (n ∷ [])) one two

  -- steps, and then others
  joined : (s t u : Stage) (bs cs : List Bool) (xs ys vs ws : List ℤ) → Reduces p s bs xs vs t → Reduces p t cs ys ws u → Reduces p s (bs ++ cs) (xs ++ ys) (vs ++ ws) u
  joined s t u bs cs xs ys vs ws before after =
      let m = reduce_machine in
      let both = single_then m p (flag_signals bs) (int_signals xs) (int_signals vs) (flag_signals cs) (int_signals ys) (int_signals ws) before after in
      let counts : 2 * length bs + 2 * length cs ≡ 2 * length (bs ++ cs) = omega (arith, length-append bs cs) in
      ran_as m p both (flag_signals (bs ++ cs)) (int_signals (xs ++ ys)) (only (int_signals (vs ++ ws))) (2 * length (bs ++ cs))
      (sym (map-append (λ b. carry (flag b)) bs cs)) (sym (map-append (λ n. carry (int n)) xs ys))
      (λ q. ap (λ l. only l q) (sym (map-append (λ n. carry (int n)) vs ws))) counts

  -- elements, each after its flag
  elements_steps : (more : Option Scalar) (s : Stage) (so_far : Option Scalar) (x : ℤ) (xs : List ℤ) → AwaitsFlag p.1 s so_far →
      reduction_of_ints p.0 p.1 so_far (x ∷ xs) ≡ Ok more → Reduces p s (elements_block (length (x ∷ xs))) (x ∷ xs) [] (Flag more)
  elements_steps more s so_far x [] awaits is = go (reduced_more p.0 p.1 so_far (Int x)) refl is
    where
      go : (r : Result (Option Scalar) FaultKind) → reduced_more p.0 p.1 so_far (Int x) ≡ r → and_then r (λ held. Ok held) ≡ Ok more → Reduces p s (false ∷ []) (x ∷ []) [] (Flag more)
      go (Err kind) first is = absurd (cc)
      go (Ok held) first is = one_element s so_far more x awaits (first ∙ is)
  elements_steps more s so_far x (y ∷ ys) awaits is = go (reduced_more p.0 p.1 so_far (Int x)) refl (λ held. elements_steps more (Flag held) held y ys refl) is
    where
      go : (r : Result (Option Scalar) FaultKind) → reduced_more p.0 p.1 so_far (Int x) ≡ r →
          ((held : Option Scalar) → reduction_of_ints p.0 p.1 held (y ∷ ys) ≡ Ok more →
          Reduces p (Flag held) (elements_block (length (y ∷ ys))) (y ∷ ys) [] (Flag more)) →
          and_then r (λ held. reduction_of_ints p.0 p.1 held (y ∷ ys)) ≡ Ok more →
          Reduces p s (elements_block (length (x ∷ y ∷ ys))) (x ∷ y ∷ ys) [] (Flag more)
      go (Err kind) first rest is = absurd (cc)
      go (Ok held) first rest is = joined s (Flag held) (Flag more) (false ∷ []) (elements_block (length (y ∷ ys))) (x ∷ []) (y ∷ ys) [] [] (one_element s so_far held x awaits first) (rest held is)

  some_elements : (more : Option Scalar) (s : Stage) (so_far : Option Scalar) (xs : List ℤ) → 0 < length xs → AwaitsFlag p.1 s so_far →
      reduction_of_ints p.0 p.1 so_far xs ≡ Ok more → Reduces p s (elements_block (length xs)) xs [] (Flag more)
  some_elements more s so_far [] some awaits is = absurd (omega arith)
  some_elements more s so_far (x ∷ xs) some awaits is = elements_steps more s so_far x xs awaits is

  -- the first flags are those of elements
  pub first_reduced : (more : Option Scalar) (s : Stage) (so_far : Option Scalar) (bs : List Bool) (xs : List ℤ) (n : ℕ) → 0 < n → n ≤ length bs →
      n ≤ length xs → ((k : ℕ) → k < n → get_or bs k true ≡ false) → AwaitsFlag p.1 s so_far → reduction_of_ints p.0 p.1 so_far (take n xs) ≡ Ok more →
      Reduces p s (take n bs) (take n xs) [] (Flag more)
  first_reduced more s so_far bs xs n some in_bs in_xs ahead awaits is =
      let long : length (take n xs) ≡ n = length-take-le n xs in_xs in
      let flags : elements_block (length (take n xs)) ≡ take n bs = ap elements_block long ∙ sym (first_elements n bs in_bs ahead) in
      subst (λ l. Reduces p s l (take n xs) [] (Flag more)) flags (some_elements more s so_far (take n xs) (omega (arith, long, some)) awaits is)

  -- elements more
  pub elements_more : (s t u : Stage) (bs : List Bool) (xs vs : List ℤ) (i j k n : ℕ) → Reduces p s (take i bs) (take j xs) (take n vs) t →
      Reduces p t (take k (rest_of bs i)) (take k (rest_of xs j)) [] u → Reduces p s (take (i + k) bs) (take (j + k) xs) (take n vs) u
  elements_more s t u bs xs vs i j k n before after =
      let of_flags = subst (λ l. Reduces p t (take k l) (take k (rest_of xs j)) [] u) (take_rest bs i) after in
      let of_both = subst (λ l. Reduces p t (take k (drop i bs)) (take k l) [] u) (take_rest xs j) of_flags in
      let both = joined s t u (take i bs) (take k (drop i bs)) (take j xs) (take k (drop j xs)) (take n vs) [] before of_both in
      let in_flags = subst (λ l. Reduces p s l (take j xs ++ take k (drop j xs)) (take n vs ++ []) u) (sym (take-add i k bs)) both in
      let in_elements = subst (λ l. Reduces p s (take (i + k) bs) l (take n vs ++ []) u) (sym (take-add j k xs)) in_flags in
      subst (λ l. Reduces p s (take (i + k) bs) (take (j + k) xs) l u) (append-nil (take n vs)) in_elements

  -- and the end of a segment more
  pub end_more : (s t : Stage) (bs : List Bool) (xs vs : List ℤ) (i j n : ℕ) (v : ℤ) → Reduces p s (take i bs) (take j xs) (take n vs) t →
      get_or (rest_of bs i) 0 false ≡ true → AwaitsFlag p.1 t (Some (Int v)) → n < length vs →
      Reduces p s (take (i + 1) bs) (take j xs) (take (n + 1) (set vs n v)) Start
  end_more s t bs xs vs i j n v before is awaits within =
      let both = joined s t Start (take i bs) (true ∷ []) (take j xs) [] (take n vs) (v ∷ []) before (end_step t v awaits) in
      let flags : take i bs ++ true ∷ [] ≡ take (i + 1) bs = sym (take-add i 1 bs ∙ ap (λ l. take i bs ++ l) (first_flag (drop i bs) (ap (λ l. get_or l 0 false) (sym (take_rest bs i)) ∙ is))) in
      let in_flags = subst (λ l. Reduces p s l (take j xs ++ []) (take n vs ++ v ∷ []) Start) flags both in
      let in_elements = subst (λ l. Reduces p s (take (i + 1) bs) l (take n vs ++ v ∷ []) Start) (append-nil (take j xs)) in_flags in
      subst (λ l. Reduces p s (take (i + 1) bs) (take j xs) l Start) (sym (take_more_set vs n v within)) in_elements

-- an integer of 64 bits lies in the range of each dialect
pub small_ranged : (dialect : Dialect) (z : ℤ) → negsuc 9223372036854775807 ≤ℤ z → z ≤ℤ pos 9223372036854775807 → ranged dialect z ≡ Ok z
small_ranged dialect z low high = ap (λ b. if b then Ok z else Err Overflow) (small_is dialect z low high)
  where
    small_is : (dialect : Dialect) (z : ℤ) → negsuc 9223372036854775807 ≤ℤ z → z ≤ℤ pos 9223372036854775807 → is_integer dialect z ≡ true
    small_is One (pos n) low high = let le : n ≤ 9223372036854775807 = omega (arith, ints) in grind (arith, nat_tests)
    small_is One (negsuc n) low high = let le : n ≤ 9223372036854775807 = omega (arith, ints) in grind (arith, nat_tests)
    small_is Two (pos n) low high = let le : n ≤ 170141183460469231731687303715884105727 = omega (arith, ints) in grind (arith, nat_tests)
    small_is Two (negsuc n) low high = let le : n ≤ 170141183460469231731687303715884105727 = omega (arith, ints) in grind (arith, nat_tests)

-- a sum of 64 bits is one element more of a sum
pub small_sum_more : (dialect : Dialect) (m x k : ℤ) → k ≡ m +ℤ x → negsuc 9223372036854775807 ≤ℤ k → k ≤ℤ pos 9223372036854775807 → reduced_more dialect Sum (Some (Int m)) (Int x) ≡ Ok (Some (Int k))
small_sum_more dialect m x k is low high = ap (λ z. some_of (an_integer (ranged dialect z))) (sym is) ∙ ap (λ r. some_of (an_integer r)) (small_ranged dialect k low high)

-- where one flag more leads
after_flag : (s : Stage) (total : ℤ) (bs : List Bool) (b : Bool) → stage_of_sum s total (bs ++ b ∷ []) ≡ cond b Start (Flag (Some (Int total)))
after_flag s total [] true = refl
after_flag s total [] false = refl
after_flag s total (true ∷ bs) b = after_flag Start total bs b
after_flag s total (false ∷ bs) b = after_flag (Flag (Some (Int total))) total bs b

pub last_flag : (s : Stage) (total : ℤ) (bs : List Bool) (n : ℕ) (b : Bool) → 0 < n → n ≤ length bs → get_or bs (n - 1) false ≡ b →
    stage_of_sum s total (take n bs) ≡ cond b Start (Flag (Some (Int total)))
last_flag s total bs n b some within is =
    let before : (n - 1) + 1 ≡ n = omega (arith, some) in
    let flags : take n bs ≡ take (n - 1) bs ++ b ∷ [] = ap (λ k. take k bs) (sym before) ∙ take_more bs (n - 1) false (omega (arith, some, within)) ∙ ap (λ c. take (n - 1) bs ++ c ∷ []) is in
    ap (stage_of_sum s total) flags ∙ after_flag s total (take (n - 1) bs) b

pub sums_none : (total : ℤ) → SumsOfSegments total [] [] [] total
sums_none total dialect s awaits = (reduces_none (dialect, Sum) s, awaits)

-- an element more
pub sums_element : (total reached more x : ℤ) (bs : List Bool) (xs vs : List ℤ) → more ≡ reached +ℤ x → negsuc 9223372036854775807 ≤ℤ more →
    more ≤ℤ pos 9223372036854775807 → SumsOfSegments total bs xs vs reached → SumsOfSegments total (bs ++ false ∷ []) (xs ++ x ∷ []) vs more
sums_element total reached more x bs xs vs is low high along dialect s awaits =
    let p : Dialect × Reduction = (dialect, Sum) in
    let before = along dialect s awaits in
    let t = stage_of_sum s reached bs in
    let next = Flag (Some (Int more)) in
    let leads : next ≡ stage_of_sum s more (bs ++ false ∷ []) = sym (after_flag s more bs false) in
    let one = one_element p t (Some (Int reached)) (Some (Int more)) x before.1 (small_sum_more dialect reached x more is low high) in
    let both = subst (λ l. Reduces p s (bs ++ false ∷ []) (xs ++ x ∷ []) l next) (append-nil vs) (joined p s t next bs (false ∷ []) xs (x ∷ []) vs [] before.0 one) in
    (subst (Reduces p s (bs ++ false ∷ []) (xs ++ x ∷ []) vs) leads both, subst (λ u. AwaitsFlag Sum u (Some (Int more))) leads refl)

-- and the end of a segment more
pub sums_end : (total reached : ℤ) (bs : List Bool) (xs vs : List ℤ) → SumsOfSegments total bs xs vs reached → SumsOfSegments total (bs ++ true ∷ []) xs (vs ++ reached ∷ []) (pos 0)
sums_end total reached bs xs vs along dialect s awaits =
    let p : Dialect × Reduction = (dialect, Sum) in
    let before = along dialect s awaits in
    let t = stage_of_sum s reached bs in
    let leads : Start ≡ stage_of_sum s (pos 0) (bs ++ true ∷ []) = sym (after_flag s (pos 0) bs true) in
    let both = subst (λ l. Reduces p s (bs ++ true ∷ []) l (vs ++ reached ∷ []) Start) (append-nil xs)
    (joined p s t Start bs (true ∷ []) xs [] vs (reached ∷ []) before.0 (end_step p t reached before.1)) in
    (subst (Reduces p s (bs ++ true ∷ []) xs (vs ++ reached ∷ [])) leads both, subst (λ u. AwaitsFlag Sum u (Some (Int (pos 0)))) leads refl)
