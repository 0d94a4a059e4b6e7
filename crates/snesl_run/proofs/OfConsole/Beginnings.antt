-- What the lines of a beginning say of the parts of a job.
use Rattle.std.proofs.Common.{◌≡◌, ◌≢◌, ℕ, zero, suc, not, true, ◌+◌, ◌-◌, ◌<◌, ◌≤◌, ◌⊎◌, ◌==◌, List, [], ◌∷◌, ◌++◌, Some, None, length, take, drop, get_or}
use Rattle.std.proofs.Common.{codes, refl, sym, ap, ◌∙◌, subst, arith, inl, inr, ⊎_elim, append_assoc, append-nil, length-append}
use Rattle.std.specs.List.{list_all, position}
use Rattle.std.proofs.lemmas.Bool.{cases_lt}
use Rattle.std.proofs.Math.Seq.{get_or-append_seam, take-suc}
use Rattle.std.proofs.lemmas.List.Elements.{All-get_or}
use Rattle.std.proofs.lemmas.List.Sums.{AllPass-from_list_all}
use Rattle.std.proofs.lemmas.List.{get_or_append_left, get_or-drop, get_or_past, length-drop, length-take-le, take_all, take-append-drop, take-append-le, drop-append-le, drop-drop, drop_more}
use Rattle.snesl_run.specs.console.Job.{BeginsWithSeparator, at_the_end, before_carriage_return, NoSeparatorBefore, IsJob, parted, program_alone}
use Rattle.snesl_run.specs.console.Parts.{AreParts, fitting, most_of_program, too_long}
use Rattle.snesl_run.specs.console.Beginnings.{IsScanned, IsParted, IsUndecided}
use Rattle.snesl_run.proofs.OfConsole.Jobs.{HasForm, IsSeparator, form, separator_begins, NoLineFeed, passed_line, none_after, none_inside, line_feed, line_ends, ways, split_here}
use Rattle.snesl_run.proofs.OfConsole.SomeJob.{some_job}
use Rattle.snesl_run.proofs.OfConsole.Parts.{few_are_open, halves, open_parted}
use Rattle.snesl_run.proofs.OfConsole.Streaming.{rest_is}

-- bytes without a line feed
abbrev HasNoFeed : List ℕ → Type 0
HasNoFeed bytes = (k : ℕ) → k < length bytes → get_or bytes k 0 ≢ 10

-- the separator has none
none_in : (line : List ℕ) → list_all (λ b. not (b == 10)) line ≡ true → HasNoFeed line
none_in line all k h e =
    let other = All-get_or (λ b. not (b == 10) ≡ true) line k 0 h (AllPass-from_list_all (λ b. not (b == 10)) line all) in
    let same : not (10 == 10) ≡ true = ap (λ b. not (b == 10)) (sym e) ∙ other in
    cc

no_feed : (line : List ℕ) → IsSeparator line → HasNoFeed line
no_feed line (inl e) = subst HasNoFeed (sym e) (none_in (codes "---") refl)
no_feed line (inr e) = subst HasNoFeed (sym e) (none_in (codes "---\r") refl)

-- the first line feed behind bytes that have none ends them
feed_of : (line rest : List ℕ) (n : ℕ) → HasNoFeed line → get_or (line ++ 10 ∷ rest) n 0 ≡ 10
    → ((k : ℕ) → k < n → get_or (line ++ 10 ∷ rest) k 0 ≢ 10) → take n (line ++ 10 ∷ rest) ≡ line
feed_of [] rest zero none feed before = refl
feed_of [] rest (suc n) none feed before = absurd (before 0 (omega arith) refl)
feed_of (b ∷ line) rest zero none feed before = absurd (none 0 (omega arith) feed)
feed_of (b ∷ line) rest (suc n) none feed before = ap (λ l. b ∷ l) (feed_of line rest n (λ k h. none (suc k) (omega arith)) feed (λ k h. before (suc k) (omega arith)))

-- where a line feed ends the line of the separator, that line is it
first_feed : (n : ℕ) (bytes input : List ℕ) → HasForm bytes input → get_or bytes n 0 ≡ 10 → ((k : ℕ) → k < n → get_or bytes k 0 ≢ 10) → IsSeparator (take n bytes)
first_feed n bytes input (inl p) feed before =
    let here : get_or (codes "---") n 0 ≡ 10 = ap (λ l. get_or l n 0) (sym p.0) ∙ feed in
    absurd (⊎_elim
    (λ h. no_feed (codes "---") (inl refl) n h here)
    (λ h. let past : get_or (codes "---") n 0 ≡ 0 = get_or_past (codes "---") n 0 h in omega (arith, here, past))
    (cases_lt n 3))
first_feed n bytes input (inr (line, is, p)) feed before =
    subst IsSeparator
    (sym (ap (take n) p ∙ feed_of line input n (no_feed line is) (ap (λ l. get_or l n 0) (sym p) ∙ feed) (λ k h. subst (λ l. get_or l k 0 ≢ 10) p (before k h))))
    is

-- a separator that begins in bytes without a line feed begins as the longest form does
begun_separator : (bytes rest input : List ℕ) → HasNoFeed bytes → HasForm (bytes ++ rest) input → (more : List ℕ) × (codes "---\r" ≡ bytes ++ more)
begun_separator bytes rest input none (inl p) =
    (rest ++ codes "\r", ap (λ l. l ++ codes "\r") (sym p.0) ∙ append_assoc bytes rest (codes "\r"))
begun_separator bytes rest input none (inr (line, is, p)) =
    let end = length line in
    let few : length bytes ≤ end = ⊎_elim
    (λ h. absurd (none end h (sym (get_or_append_left bytes rest 0 end h) ∙ ap (λ l. get_or l end 0) p ∙ get_or-append_seam line 10 input 0)))
    (λ h. h)
    (cases_lt end (length bytes)) in
    let r = halves line (10 ∷ input) bytes rest (sym p) few in
    ⊎_elim
    (λ e. (r.0 ++ codes "\r", ap (λ l. l ++ codes "\r") (sym e ∙ r.1) ∙ append_assoc bytes r.0 (codes "\r")))
    (λ e. (r.0, sym e ∙ r.1))
    is

-- and one that ends there is the line at the end
whole_separator : (bytes input : List ℕ) → HasNoFeed bytes → HasForm bytes input → bytes ≡ codes "---"
whole_separator bytes input none (inl p) = p.0
whole_separator bytes input none (inr (line, is, p)) =
    absurd (none (length line) (omega (arith, ap length p, length-append line (10 ∷ input))) (ap (λ l. get_or l (length line) 0) p ∙ get_or-append_seam line 10 input 0))

-- what holds of no line feed in bytes holds where more follows
no_feed_on : (bytes rest : List ℕ) (at end : ℕ) → end ≤ length bytes → NoLineFeed bytes at end → NoLineFeed (bytes ++ rest) at end
no_feed_on bytes rest at end within none k low high e = none k low high (sym (get_or_append_left bytes rest 0 k (omega arith)) ∙ e)

no_feed_in : (bytes : List ℕ) (at : ℕ) → at ≤ length bytes → NoLineFeed bytes at (length bytes) → HasNoFeed (drop at bytes)
no_feed_in bytes at within none k h e = none (at + k) (omega arith) (omega (arith, length-drop at bytes)) (sym (get_or-drop at bytes k 0) ∙ e)

-- where the line feed that was found stands
pub feed_found : (bytes : List ℕ) (line from n : ℕ) → IsScanned bytes line from → position (λ b. b == 10) (drop from bytes) ≡ Some n
    → (from + n < length bytes) × NoLineFeed bytes line (from + n) × (get_or bytes (from + n) 0 ≡ 10)
feed_found bytes line from n scanned found = (
  omega (arith, (line_ends bytes from n found).0),
  λ k low high e. ⊎_elim
      (λ h. scanned.unended k low h e)
      (λ h. none_inside bytes from n found k h high e)
      (cases_lt k from),
  line_feed bytes from n found,
)

-- and there is none after `from`
pub none_found : (bytes : List ℕ) (line from : ℕ) → IsScanned bytes line from → position (λ b. b == 10) (drop from bytes) ≡ None
    → IsScanned bytes line (length bytes)
none_found bytes line from scanned missing =
    record {
      within = omega (arith, scanned.within, scanned.inside);
      inside = omega arith;
      early = scanned.early;
      begins = scanned.begins;
      passed = scanned.passed;
      unended = λ k low high e. ⊎_elim
          (λ h. scanned.unended k low h e)
          (λ h. none_after bytes from (length bytes) missing k h high e)
          (cases_lt k from);
    }

-- where no separator ends a program in its limit, it is too long
pub program_too_long : (bytes : List ℕ) (n : ℕ) → most_of_program < n → most_of_program ≤ length bytes
    → ((rest : List ℕ) → NoSeparatorBefore n (bytes ++ rest)) → (rest : List ℕ) → AreParts (bytes ++ rest) (take 65537 bytes) []
program_too_long bytes n behind many none rest =
    let job = some_job (bytes ++ rest) in
    ⊎_elim
    (λ p. ⊎_elim
    (λ h. too_long job.0 job.1 job.2 h (sym start ∙ ap (take 65537) p.1 ∙ take-append-le 65537 job.0 p.0 (omega arith)) refl)
    (λ h. absurd (none rest job.0 p.0 job.1 p.1 (omega arith) p.2 p.3))
    (cases_lt most_of_program (length job.0)))
    (λ p. alone_there job.0 job.1 job.2 p.0 p.1)
    (ways (bytes ++ rest) job.0 job.1 job.2)
  where
    start : take 65537 (bytes ++ rest) ≡ take 65537 bytes
    start = take-append-le 65537 bytes rest (omega arith)

    alone_there : (program input : List ℕ) → IsJob (bytes ++ rest) program input → bytes ++ rest ≡ program → input ≡ []
        → AreParts (bytes ++ rest) (take 65537 bytes) []
    alone_there program input is e f =
        ⊎_elim
        (λ h. too_long program input is h (sym start ∙ ap (take 65537) e) refl)
        (λ h.
        let whole : program ≡ take 65537 bytes = sym (take_all 65537 program h) ∙ ap (take 65537) (sym e) ∙ start in
        subst (λ l. AreParts (bytes ++ rest) l []) whole (fitting [] (subst (IsJob (bytes ++ rest) program) f is) h refl))
        (cases_lt most_of_program (length program))

-- a line that a line feed ends, which was found from a place on
module _ (bytes : List ℕ) (line from n : ℕ) (scanned : IsScanned bytes line from)
    (found : Some n ≡ position (λ b. b == 10) (take (length bytes - from) (drop from bytes))) where
  abbrev end : ℕ
  end = from + n

  -- its bytes
  abbrev own : List ℕ
  own = take (end - line) (drop line bytes)

  here : (end < length bytes) × NoLineFeed bytes line end × (get_or bytes end 0 ≡ 10)
  here = feed_found bytes line from n scanned (ap (position (λ b. b == 10)) (sym (rest_is bytes from)) ∙ sym found)

  there : line + (end - line) ≡ end
  there = omega (arith, scanned.within)

  line_inside : line ≤ length bytes
  line_inside = omega (arith, scanned.within, scanned.inside)

  -- they stand there where more follows
  same_line : (rest : List ℕ) → take (end - line) (drop line (bytes ++ rest)) ≡ own
  same_line rest =
      let short : end - line ≤ length (drop line bytes) = omega (arith, here.0, length-drop line bytes) in
      ap (take (end - line)) (drop-append-le line bytes rest line_inside) ∙ take-append-le (end - line) (drop line bytes) rest short

  -- it is no separator, if its bytes are none
  other_line : ¬ IsSeparator own → (rest input : List ℕ) → ¬ BeginsWithSeparator (drop line (bytes ++ rest)) input
  other_line not rest input begins =
      let job = bytes ++ rest in
      let at_feed : get_or (drop line job) (end - line) 0 ≡ 10 =
      get_or-drop line job (end - line) 0 ∙ ap (λ k. get_or job k 0) there ∙ get_or_append_left bytes rest 0 end here.0 ∙ here.2 in
      not (subst IsSeparator (same_line rest)
      (first_feed (end - line) (drop line job) input (form (drop line job) input begins) at_feed
      (λ k h e. no_feed_on bytes rest line end (omega (arith, here.0)) here.1 (line + k) (omega arith) (omega (arith, there, h))
      (sym (get_or-drop line job k 0) ∙ e))))

  -- so the next line begins after it
  passed_by : ¬ IsSeparator own → (rest : List ℕ) → NoSeparatorBefore (suc end) (bytes ++ rest)
  passed_by not rest =
      passed_line (bytes ++ rest) line end (no_feed_on bytes rest line end (omega (arith, here.0)) here.1) (other_line not rest) (scanned.passed rest)

  behind : suc end ≡ end + 1
  behind = omega arith

  pub next_there : ¬ IsSeparator own → end + 1 ≤ 65537 → IsScanned bytes (end + 1) (end + 1)
  next_there not early =
      subst (λ k. IsScanned bytes k k) behind
      (record {
        within = omega arith;
        inside = omega (arith, here.0);
        early = omega (arith, early);
        begins = inr (take end bytes, take-suc bytes end 0 here.0 ∙ ap (λ b. take end bytes ++ b ∷ []) here.2);
        passed = passed_by not;
        unended = λ k low high e. absurd (omega arith);
      })

  pub too_long_there : ¬ IsSeparator own → 65537 < end + 1 → (rest : List ℕ) → AreParts (bytes ++ rest) (take 65537 bytes) []
  too_long_there not late = program_too_long bytes (suc end) (omega (arith, late)) (omega (arith, here.0, late)) (passed_by not)

  -- the line and what follows it
  line_parts : drop line bytes ≡ own ++ 10 ∷ drop (suc end) bytes
  line_parts =
      let short : end - line < length (drop line bytes) = omega (arith, here.0, there, length-drop line bytes) in
      let after : line + (end - line + 1) ≡ suc end = omega (arith, there) in
      sym (take-append-drop (end - line) (drop line bytes))
      ∙ ap (λ l. own ++ l)
      (drop_more (drop line bytes) (end - line) 0 short
      ∙ ap (λ b. b ∷ drop (end - line + 1) (drop line bytes)) (get_or-drop line bytes (end - line) 0 ∙ ap (λ k. get_or bytes k 0) there ∙ here.2)
      ∙ ap (λ l. 10 ∷ l) (drop-drop (end - line + 1) line bytes ∙ ap (λ k. drop k bytes) after))

  begins_so : IsSeparator own → (rest : List ℕ) → BeginsWithSeparator (drop line bytes ++ rest) (drop (suc end) bytes ++ rest)
  begins_so is rest =
      subst (λ l. BeginsWithSeparator l (drop (suc end) bytes ++ rest))
      (sym (ap (λ l. l ++ rest) line_parts ∙ append_assoc own (10 ∷ drop (suc end) bytes) rest))
      (separator_begins own (drop (suc end) bytes ++ rest) is)

  -- it is the separator
  pub parted_there : IsSeparator own → IsParted bytes line (end + 1)
  parted_there is =
      subst (IsParted bytes line) behind (record { early = scanned.early; within = line_inside; behind = omega (arith, here.0); job = job_of })
    where
      job_of : (rest : List ℕ) → IsJob (bytes ++ rest) (take line bytes) (drop (suc end) bytes ++ rest)
      job_of rest =
          let whole : bytes ++ rest ≡ take line bytes ++ (drop line bytes ++ rest) =
          ap (λ l. l ++ rest) (sym (take-append-drop line bytes)) ∙ append_assoc (take line bytes) (drop line bytes) rest in
          subst (λ l. IsJob l (take line bytes) (drop (suc end) bytes ++ rest)) (sym whole)
          (parted (take line bytes) (drop line bytes ++ rest) (drop (suc end) bytes ++ rest) scanned.begins (begins_so is rest)
          (subst (λ k. NoSeparatorBefore k (take line bytes ++ (drop line bytes ++ rest))) (sym (length-take-le line bytes line_inside))
          (subst (NoSeparatorBefore line) whole (scanned.passed rest))))

-- the last line, which no line feed ends
module _ (bytes : List ℕ) (line : ℕ) (last : IsScanned bytes line (length bytes)) where
  abbrev tail : List ℕ
  tail = drop line bytes

  tail_has_no_feed : HasNoFeed tail
  tail_has_no_feed = no_feed_in bytes line last.within last.unended

  -- it begins no separator
  none_follows : ¬ ((more : List ℕ) × (codes "---\r" ≡ tail ++ more)) → (rest : List ℕ) → NoSeparatorBefore (suc (length bytes)) (bytes ++ rest)
  none_follows not rest =
      passed_line (bytes ++ rest) line (length bytes) (no_feed_on bytes rest line (length bytes) (omega arith) last.unended)
      (λ input begins.
      not (begun_separator tail rest input tail_has_no_feed
      (form (tail ++ rest) input (subst (λ l. BeginsWithSeparator l input) (drop-append-le line bytes rest last.within) begins))))
      (last.passed rest)

  pub tail_too_long : ¬ ((more : List ℕ) × (codes "---\r" ≡ tail ++ more)) → most_of_program ≤ length bytes
      → (rest : List ℕ) → AreParts (bytes ++ rest) (take 65537 bytes) []
  tail_too_long not many = program_too_long bytes (suc (length bytes)) (omega arith) many (none_follows not)

  -- it may still become one, or the program may still end within its limit
  pub undecided : (length bytes ≤ 65536) ⊎ ((more : List ℕ) × (codes "---\r" ≡ tail ++ more)) → IsUndecided bytes line
  undecided (inl few) = record { last = last; undecided = few_are_open bytes few; few = omega arith }
  undecided (inr (more, e)) =
      record {
        last = last;
        undecided = open_parted bytes (more ++ codes "\n") (take line bytes) [] job (omega (arith, length-take-le line bytes last.within, last.early)) (omega arith);
        few = omega (arith, ap length e, length-append tail more, length-drop line bytes, last.early, last.within);
      }
    where
      whole : (rest : List ℕ) → bytes ++ ((more ++ codes "\n") ++ rest) ≡ take line bytes ++ (codes "---\r\n" ++ rest)
      whole rest =
          ap (λ l. l ++ ((more ++ codes "\n") ++ rest)) (sym (take-append-drop line bytes)) ∙ append_assoc (take line bytes) tail ((more ++ codes "\n") ++ rest)
          ∙ ap (λ l. take line bytes ++ l)
          (sym (append_assoc tail (more ++ codes "\n") rest)
          ∙ ap (λ l. l ++ rest) (sym (append_assoc tail more (codes "\n")) ∙ ap (λ l. l ++ codes "\n") (sym e)))

      job : (rest : List ℕ) → IsJob (bytes ++ ((more ++ codes "\n") ++ rest)) (take line bytes) ([] ++ rest)
      job rest =
          subst (λ l. IsJob l (take line bytes) rest) (sym (whole rest))
          (parted (take line bytes) (codes "---\r\n" ++ rest) rest last.begins (before_carriage_return rest)
          (subst (λ k. NoSeparatorBefore k (take line bytes ++ (codes "---\r\n" ++ rest))) (sym (length-take-le line bytes last.within))
          (subst (NoSeparatorBefore line) (whole rest) (last.passed ((more ++ codes "\n") ++ rest)))))

  -- the job ends there, with the separator
  pub ends_with_separator : tail ≡ codes "---" → AreParts bytes (take line bytes) []
  ends_with_separator e =
      fitting []
      (split_here bytes [] line last.within last.begins
      (subst (NoSeparatorBefore line) (append-nil bytes) (last.passed []))
      (subst (λ l. BeginsWithSeparator l []) (sym e) at_the_end))
      (omega (arith, length-take-le line bytes last.within, last.early))
      refl

  -- or without one
  no_feed_at_all : (end : ℕ) → NoLineFeed bytes line end
  no_feed_at_all end k low high e =
      ⊎_elim
      (λ h. last.unended k low h e)
      (λ h. absurd (omega (arith, e, get_or_past bytes k 0 h)))
      (cases_lt k (length bytes))

  alone : tail ≢ codes "---" → IsJob bytes bytes []
  alone not =
      program_alone bytes (λ n front back input e h ends found.
      passed_line bytes line n (no_feed_at_all n)
      (λ input begins. not (whole_separator tail input tail_has_no_feed (form tail input begins)))
      (subst (NoSeparatorBefore line) (append-nil bytes) (last.passed [])) front back input e (omega arith) ends found)

  pub ends_alone : tail ≢ codes "---" → AreParts bytes (take 65537 bytes) []
  ends_alone not =
      ⊎_elim
      (λ h. too_long bytes [] (alone not) h refl refl)
      (λ h. subst (λ l. AreParts bytes l []) (sym (take_all 65537 bytes (omega arith))) (fitting [] (alone not) h refl))
      (cases_lt most_of_program (length bytes))

-- where the parts of a job end that ends there itself
pub parts_there : (bytes slice kept none : List ℕ) (line program : ℕ) → IsScanned bytes line (length bytes) → slice ≡ drop line bytes
    → ((program ≡ line) × (slice ≡ codes "---")) ⊎ ((program ≡ 65537) × (slice ≢ codes "---")) → kept ≡ take program bytes → none ≡ []
    → AreParts bytes kept none
parts_there bytes slice kept none line program last same ends cut empty =
    subst (λ l. AreParts bytes l none) (sym cut) (subst (AreParts bytes (take program bytes)) (sym empty) (by_end ends))
  where
    by_end : ((program ≡ line) × (slice ≡ codes "---")) ⊎ ((program ≡ 65537) × (slice ≢ codes "---")) → AreParts bytes (take program bytes) []
    by_end (inl p) = subst (λ k. AreParts bytes (take k bytes) []) (sym p.0) (ends_with_separator bytes line last (sym same ∙ p.1))
    by_end (inr p) = subst (λ k. AreParts bytes (take k bytes) []) (sym p.0) (ends_alone bytes line last (λ e. p.1 (same ∙ e)))

-- and where there was none
module _ (bytes slice : List ℕ) (line from : ℕ) (scanned : IsScanned bytes line from)
    (missing : None ≡ position (λ b. b == 10) (take (length bytes - from) (drop from bytes))) (same : slice ≡ drop line bytes) where
  last : IsScanned bytes line (length bytes)
  last = none_found bytes line from scanned (ap (position (λ b. b == 10)) (sym (rest_is bytes from)) ∙ sym missing)

  pub too_long_last : ¬ ((more : List ℕ) × (codes "---\r" ≡ slice ++ more)) → 65536 < length bytes → (rest : List ℕ) → AreParts (bytes ++ rest) (take 65537 bytes) []
  too_long_last not = tail_too_long bytes line last (λ e. not (e.0, e.1 ∙ ap (λ l. l ++ e.0) (sym same)))

  pub undecided_last : (length bytes ≤ 65536) ⊎ ((more : List ℕ) × (codes "---\r" ≡ slice ++ more)) → IsUndecided bytes line
  undecided_last (inl few) = undecided bytes line last (inl few)
  undecided_last (inr e) = undecided bytes line last (inr (e.0, e.1 ∙ ap (λ l. l ++ e.0) same))
