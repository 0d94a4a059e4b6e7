-- Steps of Iota along integers: a flag and a number for each of many numbers.
use Rattle.std.proofs.Common.{◌≡◌, ℕ, zero, suc, ◌+◌, ◌-◌, ◌*◌, ◌<◌, ◌≤◌, ℤ, pos, negsuc, ◌+ℤ◌, ◌≤ℤ◌, Bool, true, false, cond, not, eqb, nat_lt, List}
use Rattle.std.proofs.Common.{[], ◌∷◌, ◌++◌, length, take, set, get_or, refl, sym, ◌∙◌, ap, subst, arith, append-nil, append_assoc, ne_eqb}
use Rattle.std.specs.Prelude.{Ok, int_lt, replicate}
use Rattle.std.proofs.lemmas.Bool.Decides.{nat_tests}
use Rattle.std.proofs.lemmas.Int.{ints}
use Rattle.std.proofs.lemmas.List.{map-append, take_more, take_more_set}
use mathlib.Core.List.{IsPrefix}
use Rattle.flow_messages.specs.Blocks.{flag_signals, int_signals, item_signals}
use Rattle.flow_messages.specs.Cells.{flag, int}
use Rattle.flow_messages.specs.Signals.{Signal, carry}
use Rattle.flow_base.specs.Along.{MovesAlong, written_signals, written_at}
use Rattle.flow_base.specs.declared.slices.Moved.{Moved}
use Rattle.flow_messages.specs.declared.items.Items.{Items}
use Rattle.flow_base.specs.declared.slices.Written.{Written}
use Rattle.flow_base.proofs.Along.{Along, no_messages, ints_shown, ints_within, ran_as, ran_first, ran_none, ran_then, ran_write}
use Rattle.flow_scalar.specs.declared.iota.Iota.{Iota}
use Rattle.flow_scalar.specs.declared.iota.Iota.TheVariants.{Between, Flag, Number}
use Rattle.flow_scalar.specs.IotaMachine.{first_flag, iota_kind_out, iota_machine, numbers_from}

-- places behind the first ones that are filled one after another
pub fill_none : {X : Type 0} (xs : List X) (from : ℕ) → take (from + 0) xs ≡ take from xs ++ []
fill_none xs from =
    let same : from + 0 ≡ from = omega arith in
    ap (λ n. take n xs) same ∙ sym (append-nil (take from xs))

pub fill_more : {X : Type 0} (xs before ys : List X) (from n : ℕ) (y : X) → from + n < length xs → take (from + n) xs ≡ before ++ ys →
    take (from + (n + 1)) (set xs (from + n) y) ≡ before ++ (ys ++ y ∷ [])
fill_more xs before ys from n y there filled =
    let same : from + (n + 1) ≡ (from + n) + 1 = omega arith in
    ap (λ k. take k (set xs (from + n) y)) same ∙ take_more_set xs (from + n) y there ∙ ap (λ l. l ++ y ∷ []) filled ∙ append_assoc before ys (y ∷ [])

pub numbers_more : (next : ℤ) (n : ℕ) → numbers_from next n ++ (next +ℤ pos n) ∷ [] ≡ numbers_from next (n + 1)
numbers_more next zero =
    let same : next +ℤ pos 0 ≡ next = omega (arith, ints) in
    ap (λ (k : ℤ). k ∷ []) same
numbers_more next (suc n) =
    let same : next +ℤ pos (suc n) ≡ (next +ℤ pos 1) +ℤ pos n = omega (arith, ints) in
    let count : suc (n + 1) ≡ suc n + 1 = omega arith in
    ap (λ k. next ∷ (numbers_from (next +ℤ pos 1) n ++ k ∷ [])) same ∙ ap (λ l. next ∷ l) (numbers_more (next +ℤ pos 1) n) ∙ ap (numbers_from next) count

-- an integer from 0 on starts a segment
starts : (n : ℤ) → pos 0 ≤ℤ n → first_flag n ≡ Ok (Flag (pos 0) n)
starts (pos n) h = refl
starts (negsuc n) h = absurd (omega (arith, ints))

-- what each output gets: flags and numbers
abbrev written : List Signal → List Signal → ℕ → List Signal
written fs ns q = cond (eqb q 0) fs (cond (eqb q 1) ns [])

both_none : (b c : Bool) → no_messages ≡ cond b no_messages (cond c no_messages no_messages)
both_none true c = refl
both_none false true = refl
both_none false false = refl

one_put : (b c : Bool) (fs : List Signal) → cond b fs no_messages ≡ cond b fs (cond c no_messages no_messages)
one_put true c fs = refl
one_put false true fs = refl
one_put false false fs = refl

int_put : (ns : List Signal) (q : ℕ) → cond (eqb q 1) ns no_messages ≡ written no_messages ns q
int_put ns zero = refl
int_put ns (suc q) = ap (λ b. cond b no_messages (cond (eqb (suc q) 1) ns no_messages)) (sym (ne_eqb (suc q) 0 (λ e. omega (arith, e))))

both_then : (b c : Bool) (fs ns fs' ns' : List Signal) → cond b fs (cond c ns []) ++ cond b fs' (cond c ns' []) ≡ cond b (fs ++ fs') (cond c (ns ++ ns') [])
both_then true c fs ns fs' ns' = refl
both_then false true fs ns fs' ns' = refl
both_then false false fs ns fs' ns' = refl

-- steps that read these integers and write these flags and numbers
abbrev Numbered : Iota → Iota → List Signal → List Signal → List Signal → ℕ → Type 0
Numbered s t xs fs ns n = Along iota_machine tt s t xs [] (written fs ns) n

numbered_none : (s : Iota) → Numbered s s [] [] [] 0
numbered_none s = ran_as iota_machine tt (ran_none iota_machine tt s) [] [] (written [] []) 0 refl refl (λ q. both_none (eqb q 0) (eqb q 1)) refl

numbered_then : {s t u : Iota} {n k : ℕ} (xs fs ns xs' fs' ns' : List Signal) → Numbered s t xs fs ns n → Numbered t u xs' fs' ns' k → Numbered s u (xs ++ xs') (fs ++ fs') (ns ++ ns') (n + k)
numbered_then {n = n} {k = k} xs fs ns xs' fs' ns' before after =
    ran_as iota_machine tt (ran_then iota_machine tt before after) (xs ++ xs') [] (written (fs ++ fs') (ns ++ ns')) (n + k) refl refl
    (λ q. both_then (eqb q 0) (eqb q 1) fs ns fs' ns') refl

-- it writes a flag
flagged : (next end : ℤ) (below : Bool) (t : Iota) → int_lt next end ≡ below → cond below (Number next end) Between ≡ t → Numbered (Flag next end) t [] (carry (flag (not below)) ∷ []) [] 1
flagged next end below t test leads =
    let m = iota_machine in
    let fs : List Signal = carry (flag (not below)) ∷ [] in
    let told = ap (λ b. flag (not b)) test in
    let after = ap (λ b. cond b (Number next end) Between) test ∙ leads in
    ran_as m tt (ran_write m tt 0 (Flag next end) t (flag (not below)) refl told after) [] [] (written fs []) 1 refl refl (λ q. one_put (eqb q 0) (eqb q 1) fs) refl

-- a flag and a number for each number that is left
one_number : (next end : ℤ) → int_lt next end ≡ true → Numbered (Flag next end) (Flag (next +ℤ pos 1) end) [] (carry (flag false) ∷ []) (carry (int next) ∷ []) 2
one_number next end test =
    let m = iota_machine in
    let fs : List Signal = carry (flag false) ∷ [] in
    let ns : List Signal = carry (int next) ∷ [] in
    let after = ap (λ b. Flag (cond b (next +ℤ pos 1) end) end) test in
    let wrote = ran_as m tt (ran_write m tt 1 (Number next end) (Flag (next +ℤ pos 1) end) (int next) refl refl after) [] [] (written [] ns) 1 refl refl (int_put ns) refl in
    numbered_then [] fs [] [] [] ns (flagged next end true (Number next end) test refl) wrote

numbers : (end : ℤ) (n : ℕ) (next : ℤ) → (next +ℤ pos n) ≤ℤ end → Numbered (Flag next end) (Flag (next +ℤ pos n) end) [] (flag_signals (replicate n false)) (int_signals (numbers_from next n)) (2 * n)
numbers end zero next below =
    let same : next ≡ next +ℤ pos 0 = omega (arith, ints) in
    subst (λ k. Numbered (Flag next end) (Flag k end) [] [] [] 0) same (numbered_none (Flag next end))
numbers end (suc n) next below =
    let test : int_lt next end ≡ true = grind (arith, ints) in
    let fs = flag_signals (replicate (suc n) false) in
    let ns = int_signals (numbers_from next (suc n)) in
    let rest = numbers end n (next +ℤ pos 1) (omega (arith, ints)) in
    let all = numbered_then [] (carry (flag false) ∷ []) (carry (int next) ∷ []) [] (flag_signals (replicate n false)) (int_signals (numbers_from (next +ℤ pos 1) n)) (one_number next end test) rest in
    let count : 2 + 2 * n ≡ 2 * suc n = omega arith in
    let same : (next +ℤ pos 1) +ℤ pos n ≡ next +ℤ pos (suc n) = omega (arith, ints) in
    subst (λ k. Numbered (Flag next end) (Flag k end) [] fs ns (2 * suc n)) same (subst (Numbered (Flag next end) (Flag ((next +ℤ pos 1) +ℤ pos n) end) [] fs ns) count all)

-- the flag that ends a segment, and the integer of the next
one_segment : (next end count : ℤ) → int_lt next end ≡ false → pos 0 ≤ℤ count → Numbered (Flag next end) (Flag (pos 0) count) (carry (int count) ∷ []) (carry (flag true) ∷ []) [] 2
one_segment next end count test natural =
    let m = iota_machine in
    let xs : List Signal = carry (int count) ∷ [] in
    let read = ran_as m tt (ran_first m tt Between (Flag (pos 0) count) (int count) refl (starts count natural)) xs [] (written [] []) 1 refl refl (λ q. both_none (eqb q 0) (eqb q 1)) refl in
    numbered_then [] (carry (flag true) ∷ []) [] xs [] [] (flagged next end false Between test refl) read

-- so many rounds, each a flag and its number, or a flag and the integer of the next segment
abbrev pub Rounds : Iota → ℤ → ℤ → List ℤ → List Bool → List ℤ → ℕ → ℕ → Type 0
Rounds s next end counts flags numbered read made = Numbered s (Flag next end) (int_signals (take read counts)) (flag_signals (take made flags)) (int_signals (take (made - read) numbered)) (2 * made)

pub no_rounds : (next end : ℤ) (counts : List ℤ) (flags : List Bool) (numbered : List ℤ) → Rounds (Flag next end) next end counts flags numbered 0 0
no_rounds next end counts flags numbered = numbered_none (Flag next end)

pub more_numbers : {s : Iota} (next end : ℤ) (counts : List ℤ) (flags flags' : List Bool) (numbered numbered' : List ℤ) (read made n : ℕ) →
    read ≤ made → (next +ℤ pos n) ≤ℤ end → take (made + n) flags' ≡ take made flags ++ replicate n false → take ((made - read) + n) numbered'
    ≡ take (made - read) numbered ++ numbers_from next n →
    Rounds s next end counts flags numbered read made → Rounds s (next +ℤ pos n) end counts flags' numbered' read (made + n)
more_numbers {s} next end counts flags flags' numbered numbered' read made n before below put_flags put_numbers rounds =
    let xs = int_signals (take read counts) in
    let fs = take made flags in
    let ns = take (made - read) numbered in
    let more = numbered_then xs (flag_signals fs) (int_signals ns) [] (flag_signals (replicate n false)) (int_signals (numbers_from next n)) rounds (numbers end n next below) in
    let same_flags : flag_signals fs ++ flag_signals (replicate n false) ≡ flag_signals (take (made + n) flags') =
    sym (ap flag_signals put_flags ∙ map-append (λ b. carry (flag b)) fs (replicate n false)) in
    let at : (made + n) - read ≡ (made - read) + n = omega arith in
    let same_numbers : int_signals ns ++ int_signals (numbers_from next n) ≡ int_signals (take ((made + n) - read) numbered') =
    sym (ap (λ k. int_signals (take k numbered')) at ∙ ap int_signals put_numbers ∙ map-append (λ k. carry (int k)) ns (numbers_from next n)) in
    let count : 2 * made + 2 * n ≡ 2 * (made + n) = omega arith in
    ran_as iota_machine tt more xs [] (written (flag_signals (take (made + n) flags')) (int_signals (take ((made + n) - read) numbered')))
    (2 * (made + n)) (append-nil xs) refl
    (λ q. ap (λ l. written l (int_signals ns ++ int_signals (numbers_from next n)) q) same_flags
    ∙ ap (λ l. written (flag_signals (take (made + n) flags')) l q) same_numbers) count

-- none were left
pub no_more_numbers : {s : Iota} (next end : ℤ) (counts : List ℤ) (flags flags' : List Bool) (numbered numbered' : List ℤ) (read made n : ℕ) → n ≡ 0 →
    take (made + n) flags' ≡ take made flags ++ replicate n false → take ((made - read) + n) numbered' ≡ take (made - read) numbered
    ++ numbers_from next n →
    Rounds s next end counts flags numbered read made → Rounds s next end counts flags' numbered' read made
no_more_numbers {s} next end counts flags flags' numbered numbered' read made n none put_flags put_numbers rounds =
    let xs = int_signals (take read counts) in
    let fs = take made flags in
    let ns = take (made - read) numbered in
    let at_flags : made ≡ made + n = omega (arith, none) in
    let at_numbers : made - read ≡ (made - read) + n = omega (arith, none) in
    let same_flags : fs ≡ take made flags' = sym (ap (λ k. take k flags') at_flags ∙ put_flags ∙ ap (λ k. fs ++ replicate k false) none ∙ append-nil fs) in
    let same_numbers : ns ≡ take (made - read) numbered' = sym (ap (λ k. take k numbered') at_numbers ∙ put_numbers ∙ ap (λ k. ns ++ numbers_from next k) none ∙ append-nil ns) in
    ran_as iota_machine tt rounds xs [] (written (flag_signals (take made flags')) (int_signals (take (made - read) numbered'))) (2 * made) refl refl
    (λ q. ap (λ l. written (flag_signals l) (int_signals ns) q) same_flags
    ∙ ap (λ l. written (flag_signals (take made flags')) (int_signals l) q) same_numbers) refl

pub next_segment : {s : Iota} (next end count : ℤ) (counts : List ℤ) (flags : List Bool) (numbered : List ℤ) (read made : ℕ) → read < length counts →
    made < length flags → int_lt next end ≡ false → pos 0 ≤ℤ count → count ≡ get_or counts read (pos 0) →
    Rounds s next end counts flags numbered read made → Rounds s (pos 0) count counts (set flags made true) numbered (read + 1) (made + 1)
next_segment {s} next end count counts flags numbered read made in_counts in_flags test natural seen rounds =
    let xs = take read counts in
    let fs = take made flags in
    let ns = int_signals (take (made - read) numbered) in
    let more = numbered_then (int_signals xs) (flag_signals fs) ns (carry (int count) ∷ []) (carry (flag true) ∷ []) [] rounds (one_segment next end count test natural) in
    let same_counts : int_signals xs ++ carry (int count) ∷ [] ≡ int_signals (take (read + 1) counts) =
    ap (λ k. int_signals xs ++ carry (int k) ∷ []) seen
    ∙ sym (ap int_signals (take_more counts read (pos 0) in_counts) ∙ map-append (λ k. carry (int k)) xs (get_or counts read (pos 0) ∷ [])) in
    let same_flags : flag_signals fs ++ carry (flag true) ∷ [] ≡ flag_signals (take (made + 1) (set flags made true)) =
    sym (ap flag_signals (take_more_set flags made true in_flags) ∙ map-append (λ b. carry (flag b)) fs (true ∷ [])) in
    let at : made - read ≡ (made + 1) - (read + 1) = omega arith in
    let same_numbers : ns ++ [] ≡ int_signals (take ((made + 1) - (read + 1)) numbered) = append-nil ns ∙ ap (λ k. int_signals (take k numbered)) at in
    let count : 2 * made + 2 ≡ 2 * (made + 1) = omega arith in
    ran_as iota_machine tt more (int_signals (take (read + 1) counts)) []
    (written (flag_signals (take (made + 1) (set flags made true))) (int_signals (take ((made + 1) - (read + 1)) numbered))) (2 * (made + 1))
    same_counts refl (λ q. ap (λ l. written l (ns ++ []) q) same_flags
    ∙ ap (λ l. written (flag_signals (take (made + 1) (set flags made true))) l q) same_numbers) count

-- what the two outputs get of a block
written_to : (block : Written) (made : Moved) (q : ℕ) → written (flag_signals (take made.flags block.flags)) (int_signals (take made.ints block.ints)) q ≡ written_at iota_machine tt block made q
written_to block made zero = refl
written_to block made (suc zero) = refl
written_to block made (suc (suc q)) =
    let over : nat_lt (suc (suc q)) 2 ≡ false = grind (arith, nat_tests) in
    let fs = flag_signals (take made.flags block.flags) in
    let ns = int_signals (take made.ints block.ints) in
    let not_flags = ne_eqb (suc (suc q)) 0 (λ e. omega (arith, e)) in
    let not_numbers = ne_eqb (suc (suc q)) 1 (λ e. omega (arith, e)) in
    ap (λ b. cond b fs (cond (eqb (suc (suc q)) 1) ns [])) not_flags ∙ ap (λ b. cond b ns no_messages) not_numbers
    ∙ ap (λ b. cond b (written_signals block made (iota_kind_out (suc (suc q)))) no_messages) (sym over)

-- rounds are what it made of what was shown
pub iota_moves : (s : Iota) (next end : ℤ) (first second : Items) (space most : ℕ) (block : Written) (counts : List ℤ) (read made : ℕ) →
    IsPrefix (int_signals counts) (item_signals first) → read ≤ length counts → read ≤ made → made ≤ space → 2 * made ≤ most →
    Rounds s next end counts block.flags block.ints read made →
    MovesAlong iota_machine (tt, s) (tt, Flag next end) first second space most block
    (record { first = read; second = 0; units = 0; flags = made; ints = made - read; steps = 2 * made })
iota_moves s next end first second space most block counts read made seen in_counts before room may rounds =
    let moved : Moved = record { first = read; second = 0; units = 0; flags = made; ints = made - read; steps = 2 * made } in
    record {
      within = record {
        first = omega (arith, in_counts, ints_within first counts seen);
        second = omega arith;
        units = omega arith;
        flags = room;
        ints = omega (arith, room);
        steps = may;
      };
      ran = ran_as iota_machine tt rounds (take read (item_signals first)) [] (written_at iota_machine tt block moved) (2 * made)
          (ints_shown first counts read seen in_counts) refl (written_to block moved) refl;
    }
