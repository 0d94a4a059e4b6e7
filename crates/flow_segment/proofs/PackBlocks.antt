-- What Pack makes of truth values and items.
use Rattle.std.proofs.Common.{◌≡◌, ℕ, zero, suc, ◌+◌, ◌*◌, ◌<◌, ◌≤◌, Bool, true, false, cond, List, [], ◌∷◌, ◌++◌, length, take, map, get_or, Ok, refl, sym, ◌∙◌, ap, subst, arith, append-nil, set}
use Rattle.std.proofs.lemmas.List.{take-set, take_more_set, length-take-le}
use Rattle.flow_messages.specs.Cells.{Cell, is_of, flag, unit}
use Rattle.flow_messages.specs.Blocks.{unit_signals, flag_signals}
use Rattle.flow_messages.specs.Signals.{Signal, carry}
use Rattle.flow_messages.specs.declared.message.Kind.{Kind}
use Rattle.flow_base.proofs.Along.{Single, single_none, single_first, single_second, single_write, single_then}
use Rattle.flow_segment.specs.PackMachine.{at_start, at_item, at_copy, kept, trues, pack_machine}
use Rattle.flow_segment.proofs.Leading.{item_leads}

-- one truth value and one item more
kept_more : {A : Type 0} (bs : List Bool) (xs : List A) (n : ℕ) (d : A) → n < length bs → n < length xs → kept (take (suc n) bs) (take (suc n) xs)
    ≡ kept (take n bs) (take n xs) ++ cond (get_or bs n false) (get_or xs n d ∷ []) []
kept_more [] xs n d in_bs in_xs = absurd (omega arith)
kept_more (b ∷ bs) [] n d in_bs in_xs = absurd (omega arith)
kept_more (true ∷ bs) (x ∷ xs) zero d in_bs in_xs = refl
kept_more (false ∷ bs) (x ∷ xs) zero d in_bs in_xs = refl
kept_more (true ∷ bs) (x ∷ xs) (suc n) d in_bs in_xs = ap (λ l. x ∷ l) (kept_more bs xs n d (omega arith) (omega arith))
kept_more (false ∷ bs) (x ∷ xs) (suc n) d in_bs in_xs = kept_more bs xs n d (omega arith) (omega arith)

kept_counted : {A : Type 0} (block : List A) (count : ℕ) (x : A) (before : List A) → take count block ≡ before → count < length block → (b : Bool) →
    take (count + cond b 1 0) (set block count x) ≡ before ++ cond b (x ∷ []) []
kept_counted block count x before so_far in_block true = take_more_set block count x in_block ∙ ap (λ l. l ++ x ∷ []) so_far
kept_counted block count x before so_far in_block false =
    let still : count + 0 ≡ count = omega arith in
    let whole : before ++ [] ≡ before = append-nil before in
    ap (λ k. take k (set block count x)) still ∙ take-set block count x ∙ so_far ∙ sym whole

-- a step of the loop that puts those that are kept side by side: one that is dropped is put too, but not counted
pub kept_put : {A : Type 0} (bs : List Bool) (xs block : List A) (n count : ℕ) (x : A) → n < length bs → n < length xs → count < length block → x
    ≡ get_or xs n x → take count block ≡ kept (take n bs) (take n xs) → (b : Bool) → get_or bs n false ≡ b →
    take (count + cond b 1 0) (set block count x) ≡ kept (take (n + 1) bs) (take (n + 1) xs)
kept_put bs xs block n count x in_bs in_xs in_block is so_far b keeps =
    let next : n + 1 ≡ suc n = omega arith in
    let before = kept (take n bs) (take n xs) in
    let more : before ++ cond b (x ∷ []) [] ≡ kept (take (n + 1) bs) (take (n + 1) xs) = ap (λ y. before ++ cond b (y ∷ []) []) is
    ∙ ap (λ k. before ++ cond k (get_or xs n x ∷ []) []) (sym keeps) ∙ sym (kept_more bs xs n x in_bs in_xs)
    ∙ ap (λ k. kept (take k bs) (take k xs)) (sym next) in
    kept_counted block count x before so_far in_block b ∙ more

-- one truth value more
trues_next : (bs : List Bool) (n : ℕ) → n < length bs → trues (take (suc n) bs) ≡ trues (take n bs) + cond (get_or bs n false) 1 0
trues_next [] n within = absurd (omega arith)
trues_next (true ∷ bs) zero within = refl
trues_next (false ∷ bs) zero within = refl
trues_next (true ∷ bs) (suc n) within = let rest = trues_next bs n (omega arith) in omega (arith, rest)
trues_next (false ∷ bs) (suc n) within = trues_next bs n (omega arith)

pub trues_more : (bs : List Bool) (n : ℕ) → n < length bs → trues (take (n + 1) bs) ≡ trues (take n bs) + cond (get_or bs n false) 1 0
trues_more bs n within = let next : n + 1 ≡ suc n = omega arith in ap (λ k. trues (take k bs)) next ∙ trues_next bs n within

pub trues_kept : {A : Type 0} (bs : List Bool) (xs : List A) → length xs ≡ length bs → length (kept bs xs) ≡ trues bs
trues_kept [] xs long = refl
trues_kept (b ∷ bs) [] long = absurd (omega arith)
trues_kept (true ∷ bs) (x ∷ xs) long = let rest = trues_kept bs xs (omega arith) in omega (arith, rest)
trues_kept (false ∷ bs) (x ∷ xs) long = trues_kept bs xs (omega arith)

pub fewer_kept : {A : Type 0} (bs : List Bool) (xs : List A) → length (kept bs xs) ≤ length bs
fewer_kept [] xs = omega arith
fewer_kept (true ∷ bs) [] = omega arith
fewer_kept (false ∷ bs) [] = omega arith
fewer_kept (true ∷ bs) (x ∷ xs) = let rest = fewer_kept bs xs in omega (arith, rest)
fewer_kept (false ∷ bs) (x ∷ xs) = let rest = fewer_kept bs xs in omega (arith, rest)

-- units, one by one
pub units_one_by_one : (zs : List (Unit {0})) → map (λ _. carry unit) zs ≡ unit_signals (length zs)
units_one_by_one [] = refl
units_one_by_one (z ∷ zs) = ap (λ l. carry unit ∷ l) (units_one_by_one zs)

module _ (kind : Kind) {A : Type 0} (said : A → Cell) (fits : (x : A) → is_of kind (said x) ≡ true) where
  -- what the items say
  abbrev pub items_said : List A → List Signal
  items_said xs = map (λ x. carry (said x)) xs

  -- steps that read these truth values and items and write these items
  abbrev pub Pairs : List Bool → List A → List A → ℕ → Type 0
  Pairs bs xs zs n = Single pack_machine kind at_start at_start (flag_signals bs) (items_said xs) (items_said zs) n

  pair_kept : (x : A) → Pairs (true ∷ []) (x ∷ []) (x ∷ []) 3
  pair_kept x =
      let m = pack_machine in
      let y = said x in
      let leads = item_leads kind (λ i. Ok (at_copy i)) (at_copy y) y (fits x) refl in
      let one = single_first m kind at_start (at_item true) (flag true) refl refl in
      let two = single_second m kind (at_item true) (at_copy y) y refl leads in
      let three = single_write m kind (at_copy y) at_start y refl refl refl in
      single_then m kind (flag_signals (true ∷ [])) (carry y ∷ []) [] [] [] (carry y ∷ []) (single_then m kind (flag_signals (true ∷ [])) [] [] [] (carry y ∷ []) [] one two) three

  pair_dropped : (x : A) → Pairs (false ∷ []) (x ∷ []) [] 2
  pair_dropped x =
      let m = pack_machine in
      let y = said x in
      let leads = item_leads kind (λ i. Ok at_start) at_start y (fits x) refl in
      let one = single_first m kind at_start (at_item false) (flag false) refl refl in
      let two = single_second m kind (at_item false) at_start y refl leads in
      single_then m kind (flag_signals (false ∷ [])) [] [] [] (carry y ∷ []) [] one two

  pairs : (bs : List Bool) (xs : List A) → length xs ≡ length bs → Pairs bs xs (kept bs xs) (2 * length bs + length (kept bs xs))
  pairs [] [] long = single_none pack_machine kind at_start
  pairs [] (x ∷ xs) long = absurd (omega arith)
  pairs (b ∷ bs) [] long = absurd (omega arith)
  pairs (true ∷ bs) (x ∷ xs) long =
      let n = 2 * length bs + length (kept bs xs) in
      let steps : 3 + n ≡ 2 * suc (length bs) + suc (length (kept bs xs)) = omega arith in
      subst (Pairs (true ∷ bs) (x ∷ xs) (x ∷ kept bs xs)) steps
      (single_then pack_machine kind (flag_signals (true ∷ [])) (items_said (x ∷ [])) (items_said (x ∷ [])) (flag_signals bs) (items_said xs)
      (items_said (kept bs xs)) (pair_kept x) (pairs bs xs (omega arith)))
  pairs (false ∷ bs) (x ∷ xs) long =
      let n = 2 * length bs + length (kept bs xs) in
      let steps : 2 + n ≡ 2 * suc (length bs) + length (kept bs xs) = omega arith in
      subst (Pairs (false ∷ bs) (x ∷ xs) (kept bs xs)) steps
      (single_then pack_machine kind (flag_signals (false ∷ [])) (items_said (x ∷ [])) [] (flag_signals bs) (items_said xs)
      (items_said (kept bs xs)) (pair_dropped x) (pairs bs xs (omega arith)))

  -- the first of the truth values and of the items are pairs
  pub first_pairs : (bs : List Bool) (xs : List A) (n : ℕ) → n ≤ length bs → n ≤ length xs →
      Pairs (take n bs) (take n xs) (kept (take n bs) (take n xs)) (2 * n + length (kept (take n bs) (take n xs)))
  first_pairs bs xs n in_bs in_xs =
      let truths = take n bs in
      let items = take n xs in
      let long : length truths ≡ n = length-take-le n bs in_bs in
      let as_long : length items ≡ length truths = length-take-le n xs in_xs ∙ sym long in
      subst (λ k. Pairs truths items (kept truths items) (2 * k + length (kept truths items))) long (pairs truths items as_long)
