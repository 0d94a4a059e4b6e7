-- Where a job is split.
use Rattle.std.proofs.Common.{◌≡◌, ◌≢◌, ℕ, ◌+◌, ◌-◌, ◌<◌, ◌≤◌, ◌⊎◌, suc, Bool, true, false, ◌==◌, List, [], ◌∷◌, ◌++◌, Some, None, length, take, drop}
use Rattle.std.proofs.Common.{get_or, nat_lt, codes, refl, sym, ap, ◌∙◌, subst, append_assoc, arith, inl, inr, ⊎_elim, cond}
use Rattle.std.specs.List.{position, position_or_len}
use Rattle.std.proofs.lemmas.List.{get_or-drop, get_or_past, length-drop, length_push, take-append-drop, length-take-le}
use Rattle.std.proofs.lemmas.List.Quantifiers.{position-Some}
use Rattle.std.proofs.lemmas.List.Sums.{fails_before_first}
use Rattle.std.proofs.lemmas.Bool.{cases_lt, cases_order}
use Rattle.std.proofs.Math.Seq.{drop-append_seam, get_or-append_seam, take-append_seam, take-suc}
use borrow.Author.Tests.{ltb-false, eqb-true}
use Rattle.snesl_run.specs.console.Job.{BeginsWithSeparator, at_the_end, before_line_feed, before_carriage_return, EndsLine, NoSeparatorBefore, IsJob, parted, program_alone, HaveOneJob}

-- a line is the separator
abbrev pub IsSeparator : List ℕ → Type 0
IsSeparator line = (line ≡ codes "---") ⊎ (line ≡ codes "---\r")

-- it ends bytes, or a line feed ends it
abbrev pub HasForm : List ℕ → List ℕ → Type 0
HasForm bytes input = ((bytes ≡ codes "---") × (input ≡ [])) ⊎ ((line : List ℕ) × IsSeparator line × (bytes ≡ line ++ 10 ∷ input))

pub form : (bytes input : List ℕ) → BeginsWithSeparator bytes input → HasForm bytes input
form bytes input at_the_end = inl (refl, refl)
form bytes input (before_line_feed rest) = inr (codes "---", inl refl, refl)
form bytes input (before_carriage_return rest) = inr (codes "---\r", inr refl, refl)

pub separator_begins : (line input : List ℕ) → IsSeparator line → BeginsWithSeparator (line ++ 10 ∷ input) input
separator_begins line input (inl e) = subst (λ l. BeginsWithSeparator (l ++ 10 ∷ input) input) (sym e) (before_line_feed input)
separator_begins line input (inr e) = subst (λ l. BeginsWithSeparator (l ++ 10 ∷ input) input) (sym e) (before_carriage_return input)

-- what follows the line, by what stands behind its dashes
abbrev behind_dashes : List ℕ → List ℕ
behind_dashes [] = []
behind_dashes (b ∷ bytes) = cond (b == 10) bytes (drop 1 bytes)

follows : (bytes input : List ℕ) → BeginsWithSeparator bytes input → behind_dashes (drop 3 bytes) ≡ input
follows bytes input at_the_end = refl
follows bytes input (before_line_feed rest) = refl
follows bytes input (before_carriage_return rest) = refl

-- the line is followed by one text
pub one_input : (bytes input input' : List ℕ) → BeginsWithSeparator bytes input → BeginsWithSeparator bytes input' → input ≡ input'
one_input bytes input input' p q = sym (follows bytes input p) ∙ follows bytes input' q

-- a line that ends at a line feed ends there
ends_at : (front : List ℕ) (at : ℕ) → EndsLine front → at < length front
    → (k : ℕ) × (at ≤ k) × (suc k ≡ length front) × ((back : List ℕ) → get_or (front ++ back) k 0 ≡ 10)
ends_at front at (inl e) h = absurd (omega (arith, ap length e))
ends_at front at (inr (others, e)) h =
    let size : length front ≡ suc (length others) = omega (arith, ap length e, length_push others 10) in
    let end = length others in
    (end, omega arith, sym size, λ back. ap (λ l. get_or l end 0) (ap (λ l. l ++ back) e ∙ append_assoc others (10 ∷ []) back) ∙ get_or-append_seam others 10 back 0)

-- no line feed stands from here up to there
abbrev pub NoLineFeed : List ℕ → ℕ → ℕ → Type 0
NoLineFeed job at end = (k : ℕ) → at ≤ k → k < end → get_or job k 0 ≢ 10

at_seam : (job front back : List ℕ) (at : ℕ) → job ≡ front ++ back → length front ≡ at → drop at job ≡ back
at_seam job front back at e h = ap (λ n. drop n job) (sym h) ∙ ap (drop (length front)) e ∙ drop-append_seam front back

-- so the next line begins after that place
pub passed_line : (job : List ℕ) (at end : ℕ) → NoLineFeed job at end → ((input : List ℕ) → ¬ BeginsWithSeparator (drop at job) input)
    → NoSeparatorBefore at job → NoSeparatorBefore (suc end) job
passed_line job at end none not_here before front back input e inside ends found =
    ⊎_elim
    (λ h. not_here input (subst (λ l. BeginsWithSeparator l input) (sym (at_seam job front back at e h)) found))
    (⊎_elim
    (λ h. before front back input e h ends found)
    (λ h. let last = ends_at front at ends h in
    none last.0 last.1 (omega (arith, last.2, inside)) (ap (λ l. get_or l last.0 0) e ∙ last.3 back)))
    (cases_order (length front) at)

is_ten : (b : ℕ) → b ≡ 10 → (b == 10) ≡ false → ⊥
is_ten b e f = let t : (b == 10) ≡ true = ap (λ x. x == 10) e in cc

moved : (job : List ℕ) (at k : ℕ) → at ≤ k → get_or (drop at job) (k - at) 0 ≡ get_or job k 0
moved job at k h = get_or-drop at job (k - at) 0 ∙ ap (λ i. get_or job i 0) (omega arith)

pub none_inside : (job : List ℕ) (at n : ℕ) → position (λ b. b == 10) (drop at job) ≡ Some n → NoLineFeed job at (at + n)
none_inside job at n found k low high e =
    let first = position-Some (λ b. b == 10) (drop at job) n 0 found in
    is_ten (get_or (drop at job) (k - at) 0) (moved job at k low ∙ e) (first.2 (k - at) (omega arith))

none-cond : (t : Bool) (n : ℕ) → cond t (Some n) None ≡ None → t ≡ false
none-cond true n e = cc
none-cond false n e = refl

pub none_after : (job : List ℕ) (at end : ℕ) → position (λ b. b == 10) (drop at job) ≡ None → NoLineFeed job at end
none_after job at end missing k low high e =
    let first = position_or_len (λ b. b == 10) (drop at job) in
    let past : length (drop at job) ≤ first = ltb-false first (length (drop at job)) (none-cond (nat_lt first (length (drop at job))) first missing) in
    ⊎_elim
    (λ h. is_ten (get_or (drop at job) (k - at) 0) (moved job at k low ∙ e)
    (fails_before_first (λ b. b == 10) (drop at job) (k - at) 0 (omega arith)))
    (λ h. let zero : get_or (drop at job) (k - at) 0 ≡ 0 = get_or_past (drop at job) (k - at) 0 h in
    absurd (let t : 0 ≡ 10 = sym zero ∙ moved job at k low ∙ e in omega arith))
    (cases_lt (k - at) (length (drop at job)))

-- the line feed that ends a line
pub line_feed : (job : List ℕ) (at n : ℕ) → position (λ b. b == 10) (drop at job) ≡ Some n → get_or job (at + n) 0 ≡ 10
line_feed job at n found =
    let first = position-Some (λ b. b == 10) (drop at job) n 0 found in
    sym (get_or-drop at job n 0) ∙ eqb-true (get_or (drop at job) n 0) 10 first.1

-- the end of a line
pub line_ends : (job : List ℕ) (at n : ℕ) → position (λ b. b == 10) (drop at job) ≡ Some n
    → (suc (at + n) ≤ length job) × EndsLine (take (suc (at + n)) job)
line_ends job at n found =
    let first = position-Some (λ b. b == 10) (drop at job) n 0 found in
    let inside : at + n < length job = omega (arith, first.0, length-drop at job) in
    let here : get_or job (at + n) 0 ≡ 10 = line_feed job at n found in
    (omega arith, inr (take (at + n) job, take-suc job (at + n) 0 inside ∙ ap (λ b. take (at + n) job ++ b ∷ []) here))

-- the split that was found
pub split_here : (job input : List ℕ) (at : ℕ) → at ≤ length job → EndsLine (take at job) → NoSeparatorBefore at job
    → BeginsWithSeparator (drop at job) input → IsJob job (take at job) input
split_here job input at within ends before found =
    subst (λ l. IsJob l (take at job) input) (take-append-drop at job)
    (parted (take at job) (drop at job) input ends found
    (subst (λ l. NoSeparatorBefore (length (take at job)) l) (sym (take-append-drop at job))
    (subst (λ n. NoSeparatorBefore n job) (sym (length-take-le at job within)) before)))

-- no line is the separator
pub split_nowhere : (job : List ℕ) (at : ℕ) → position (λ b. b == 10) (drop at job) ≡ None
    → ((input : List ℕ) → ¬ BeginsWithSeparator (drop at job) input) → NoSeparatorBefore at job → IsJob job job []
split_nowhere job at missing not_here before =
    program_alone job (λ n front back input e h ends found.
    passed_line job at n (none_after job at n missing) not_here before front back input e (omega arith) ends found)

-- how a job can be split
abbrev pub IsParted : List ℕ → List ℕ → List ℕ → Type 0
IsParted job program input = (back : List ℕ) × (job ≡ program ++ back) × EndsLine program × BeginsWithSeparator back input × NoSeparatorBefore (length program) job

abbrev pub IsAlone : List ℕ → List ℕ → List ℕ → Type 0
IsAlone job program input = (job ≡ program) × (input ≡ []) × ((n : ℕ) → NoSeparatorBefore n job)

pub ways : (job program input : List ℕ) → IsJob job program input → IsParted job program input ⊎ IsAlone job program input
ways job program input (parted p back i ends found before) = inl (back, refl, ends, found, before)
ways job program input (program_alone j none) = inr (refl, refl, none)

same_parts : (job program input program' input' : List ℕ) → IsParted job program input → IsParted job program' input'
    → (program ≡ program') × (input ≡ input')
same_parts job program input program' input' p q =
    ⊎_elim
    (λ h.
    let e : program ++ p.0 ≡ program' ++ q.0 = sym p.1 ∙ q.1 in
    let same : program ≡ program' = sym (take-append_seam program p.0) ∙ ap (take (length program)) e ∙ ap (λ n. take n (program' ++ q.0)) h ∙ take-append_seam program' q.0 in
    let rest : p.0 ≡ q.0 = sym (drop-append_seam program p.0) ∙ ap (drop (length program)) e ∙ ap (λ n. drop n (program' ++ q.0)) h ∙ drop-append_seam program' q.0 in
    (same, one_input q.0 input input' (subst (λ l. BeginsWithSeparator l input) rest p.3) q.3))
    (⊎_elim
    (λ h. absurd (q.4 program p.0 input p.1 h p.2 p.3))
    (λ h. absurd (p.4 program' q.0 input' q.1 h q.2 q.3)))
    (cases_order (length program) (length program'))

not_both : {A : Type 0} → (job program input program' input' : List ℕ) → IsParted job program input → IsAlone job program' input' → A
not_both job program input program' input' p q = absurd (q.2 (suc (length program)) program p.0 input p.1 (omega arith) p.2 p.3)

one_way : (job program input program' input' : List ℕ) → IsParted job program input ⊎ IsAlone job program input
    → IsParted job program' input' ⊎ IsAlone job program' input' → (program ≡ program') × (input ≡ input')
one_way job program input program' input' (inl p) (inl q) = same_parts job program input program' input' p q
one_way job program input program' input' (inl p) (inr q) = not_both job program input program' input' p q
one_way job program input program' input' (inr p) (inl q) = not_both job program' input' program input q p
one_way job program input program' input' (inr p) (inr q) = (sym p.0 ∙ q.0, p.1 ∙ sym q.1)

-- a job is split in one way
pub one_job : HaveOneJob
one_job job program input program' input' p q =
    one_way job program input program' input' (ways job program input p) (ways job program' input' q)
