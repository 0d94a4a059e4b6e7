-- Each job is split in some way.
use Rattle.std.proofs.Common.{◌≡◌, ◌≢◌, ℕ, zero, suc, ◌+◌, ◌<◌, ◌≤◌, ◌⊎◌, ◌==◌, eqb, true, false, List, [], ◌∷◌, ◌++◌, Option, Some, None, length, take, drop}
use Rattle.std.proofs.Common.{codes, refl, subst, sym, ap, ◌∙◌, arith, inl, inr, ⊎_elim}
use Rattle.std.specs.List.{position, starts_with}
use Rattle.std.specs.Str.{bytes_eq}
use Rattle.std.proofs.lemmas.Bool.{cases_Bool, false≢true}
use Rattle.std.proofs.lemmas.Bool.Decides.{Decides-eqb}
use Rattle.std.proofs.lemmas.Slice.Eq.{bytes_eq-Decides, starts_is}
use Rattle.snesl_run.specs.console.Job.{BeginsWithSeparator, at_the_end, before_line_feed, before_carriage_return, EndsLine, NoSeparatorBefore, IsJob, HaveSomeJob}
use Rattle.snesl_run.proofs.OfConsole.Jobs.{form, line_ends, none_inside, passed_line, split_here, split_nowhere}

-- bytes begin with these, or they do not
abbrev BeginOrNot : (front bytes : List ℕ) → Type 0
BeginOrNot front bytes = ((rest : List ℕ) × (bytes ≡ front ++ rest)) ⊎ ((rest : List ℕ) → bytes ≢ front ++ rest)

begin_or_not : (front bytes : List ℕ) → BeginOrNot front bytes
begin_or_not front bytes =
    let tells = starts_is Decides-eqb bytes front (starts_with eqb bytes front) refl in
    ⊎_elim
    (λ e. inl (drop (length front) bytes, tells.0 e))
    (λ e. inr (λ rest f. false≢true (sym e ∙ tells.1 rest f)))
    (cases_Bool (starts_with eqb bytes front))

-- bytes begin with the separator's line, or they do not
abbrev SeparatorOrNot : List ℕ → Type 0
SeparatorOrNot bytes = ((input : List ℕ) × BeginsWithSeparator bytes input) ⊎ ((input : List ℕ) → ¬ BeginsWithSeparator bytes input)

separator_or_not : (bytes : List ℕ) → SeparatorOrNot bytes
separator_or_not bytes = by_forms (begin_or_not (codes "---\n") bytes) (begin_or_not (codes "---\r\n") bytes) (cases_Bool (bytes_eq bytes (codes "---")))
  where
    there : (line input : List ℕ) → bytes ≡ line → BeginsWithSeparator line input → SeparatorOrNot bytes
    there line input e found = inl (input, subst (λ l. BeginsWithSeparator l input) (sym e) found)

    by_forms : BeginOrNot (codes "---\n") bytes → BeginOrNot (codes "---\r\n") bytes
        → (bytes_eq bytes (codes "---") ≡ true) ⊎ (bytes_eq bytes (codes "---") ≡ false) → SeparatorOrNot bytes
    by_forms (inl (input, e)) return alone = there (codes "---\n" ++ input) input e (before_line_feed input)
    by_forms (inr no_feed) (inl (input, e)) alone = there (codes "---\r\n" ++ input) input e (before_carriage_return input)
    by_forms (inr no_feed) (inr no_return) (inl e) = there (codes "---") [] ((bytes_eq-Decides bytes (codes "---")).0 e) at_the_end
    by_forms (inr no_feed) (inr no_return) (inr e) = inr (λ input found.
        ⊎_elim
        (λ p. false≢true (sym e ∙ (bytes_eq-Decides bytes (codes "---")).1 p.0))
        (λ p. ⊎_elim
        (λ f. no_feed input (p.2 ∙ ap (λ l. l ++ 10 ∷ input) f))
        (λ f. no_return input (p.2 ∙ ap (λ l. l ++ 10 ∷ input) f))
        p.1)
        (form bytes input found))

-- from the begin of a line on, with the number of bytes that are left
abbrev SplitsFrom : ℕ → Type 0
SplitsFrom left =
    (at : ℕ) (job : List ℕ) → length job < at + left → at ≤ length job → EndsLine (take at job) → NoSeparatorBefore at job
    → (program : List ℕ) × (input : List ℕ) × IsJob job program input

split_from : (left : ℕ) → SplitsFrom left
split_from zero at job enough within ends before = absurd (omega arith)
split_from (suc left) at job enough within ends before =
    by_line (separator_or_not (drop at job)) (position (λ b. b == 10) (drop at job)) refl (split_from left)
  where
    by_line : SeparatorOrNot (drop at job) → (found : Option ℕ) → position (λ b. b == 10) (drop at job) ≡ found → SplitsFrom left
        → (program : List ℕ) × (input : List ℕ) × IsJob job program input
    by_line (inl (input, here)) found e further = (take at job, input, split_here job input at within ends before here)
    by_line (inr not_here) (Some n) e further =
        let next = line_ends job at n e in
        further (suc (at + n)) job (omega arith) next.0 next.1 (passed_line job at (at + n) (none_inside job at n e) not_here before)
    by_line (inr not_here) None e further = (job, [], split_nowhere job at e not_here before)

pub some_job : HaveSomeJob
some_job job = split_from (suc (length job)) 0 job (omega arith) (omega arith) (inl refl) (λ front back input e inside. absurd (omega arith))
