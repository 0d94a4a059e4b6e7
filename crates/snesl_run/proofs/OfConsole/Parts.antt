-- Which beginning of a job decides its parts.
use Rattle.std.proofs.Common.{◌≡◌, ℕ, ◌+◌, ◌-◌, ◌<◌, ◌≤◌, ◌⊎◌, List, [], ◌∷◌, ◌++◌, length, min, take, refl, sym, ap, ◌∙◌, subst, arith, inl, inr, ⊎_elim, append_assoc, append-nil, length-append}
use Rattle.std.proofs.lemmas.Bool.{cases_lt}
use Rattle.std.proofs.lemmas.List.{length-take, length-take-le, take_all, take-append-le}
use Rattle.snesl_run.specs.console.Job.{BeginsWithSeparator, at_the_end, before_line_feed, before_carriage_return, IsJob}
use Rattle.snesl_run.specs.console.Parts.{most_of_program, AreParts, fitting, too_long, IsOpen, AreNeeded}
use Rattle.snesl_run.proofs.OfConsole.Jobs.{ways, one_job}
use Rattle.snesl_run.proofs.OfConsole.SomeJob.{some_job}

-- a beginning of two lists that are equally joined is split off both
pub halves : (cut behind program back : List ℕ) → cut ++ behind ≡ program ++ back → length program ≤ length cut
    → (mid : List ℕ) × (cut ≡ program ++ mid) × (mid ++ behind ≡ back)
halves cut behind [] back e h = (cut, refl, e)
halves [] behind (p ∷ program) back e h = absurd (omega arith)
halves (c ∷ cut) behind (p ∷ program) back e h =
    let heads : c ≡ p = cc in
    let tails : cut ++ behind ≡ program ++ back = cc in
    let r = halves cut behind program back tails (omega arith) in
    let rest = r.1 in
    (r.0, cc, r.2)

-- the separator's line has at most 5 bytes
separator_size : (bytes input : List ℕ) → BeginsWithSeparator bytes input → (length input ≤ length bytes) × (length bytes ≤ length input + 5)
separator_size bytes input at_the_end = (omega arith, omega arith)
separator_size bytes input (before_line_feed rest) = (omega arith, omega arith)
separator_size bytes input (before_carriage_return rest) = (omega arith, omega arith)

-- and a job no more bytes than its parts and that line
job_size : (job program input : List ℕ) → IsJob job program input
    → (length program + length input ≤ length job) × (length job ≤ length program + length input + 5)
job_size job program input is =
    ⊎_elim
    (λ p. let size = separator_size p.0 input p.3 in (
      omega (arith, size.0, ap length p.1, length-append program p.0),
      omega (arith, size.1, ap length p.1, length-append program p.0),
    ))
    (λ p. (omega (arith, ap length p.0, ap length p.1), omega (arith, ap length p.0)))
    (ways job program input is)

-- which parts they are
abbrev pub AreFitting : (program input all behind : List ℕ) → Type 0
AreFitting program input all behind = (length all ≤ most_of_program) × (program ≡ all) × (input ≡ take 16777217 behind)

abbrev pub AreTooLong : (program input all : List ℕ) → Type 0
AreTooLong program input all = (most_of_program < length all) × (program ≡ take 65537 all) × (input ≡ [])

pub kinds : (job program input : List ℕ) → AreParts job program input
    → (all : List ℕ) × (behind : List ℕ) × IsJob job all behind × (AreFitting program input all behind ⊎ AreTooLong program input all)
kinds job program input (fitting behind is few e) = (program, behind, is, inl (few, refl, e))
kinds job program input (too_long all behind is many e f) = (all, behind, is, inr (many, e, f))

-- parts that were cut are too long, and other parts are those of the job
long_program : (program all : List ℕ) → most_of_program < length all → program ≡ take 65537 all → length program ≡ 65537
long_program program all many e = omega (arith, ap length e, length-take-le 65537 all (omega arith))

short_input : (input behind : List ℕ) → input ≡ take 16777217 behind → length input ≤ 16777216 → length behind ≡ length input
short_input input behind e few = omega (arith, ap length e, length-take 16777217 behind)

few_bytes : (input behind : List ℕ) → input ≡ take 16777217 behind → length input ≤ length behind
few_bytes input behind e = omega (arith, ap length e, length-take 16777217 behind)

abbrev six : List ℕ
six = 0 ∷ 0 ∷ 0 ∷ 0 ∷ 0 ∷ 0 ∷ []

-- parts that are not cut are not those of a job that is longer by six bytes
other_parts : (job program input : List ℕ) → length program ≤ 65536 → length input ≤ 16777216 → length program + length input ≤ length job
    → ¬ AreParts (job ++ six) program input
other_parts job program input few short fits parts =
    let k = kinds (job ++ six) program input parts in
    let size = job_size (job ++ six) k.0 k.1 k.2 in
    ⊎_elim
    (λ f. omega (arith, size.1, length-append job six, ap length f.1, short_input input k.1 f.2 short))
    (λ f. omega (arith, long_program program k.0 f.0 f.1))
    k.3

-- what goes on to a job whose parts are not cut decides no parts
pub open_before : (front more program input : List ℕ) → IsJob (front ++ more) program input → length program ≤ 65536 → length input ≤ 16777216
    → IsOpen front
open_before front more program input is few short p i all =
    let k = kinds (front ++ more) p i (all more) in
    let same = one_job (front ++ more) k.0 k.1 program input k.2 is in
    let size = job_size (front ++ more) k.0 k.1 k.2 in
    ⊎_elim
    (λ f.
    let whole : length p ≡ length program = ap length (f.1 ∙ same.0) in
    let part : length i ≤ length k.1 = few_bytes i k.1 f.2 in
    other_parts (front ++ more) p i (omega (arith, whole)) (omega (arith, part, ap length same.1)) (omega (arith, size.0, part, ap length f.1))
    (subst (λ l. AreParts l p i) (sym (append_assoc front more six)) (all (more ++ six))))
    (λ f. omega (arith, f.0, ap length same.0))
    k.3

-- a beginning that a program may have decides nothing
pub few_are_open : (front : List ℕ) → length front ≤ 65536 → IsOpen front
few_are_open front few =
    let job = some_job front in
    let size = job_size front job.0 job.1 job.2 in
    open_before front [] job.0 job.1 (subst (λ l. IsJob l job.0 job.1) (sym (append-nil front)) job.2) (omega (arith, size.0)) (omega (arith, size.0))

-- nor does what goes on to a separator after which the input text may go on
pub open_parted : (front more program input : List ℕ) → ((rest : List ℕ) → IsJob (front ++ (more ++ rest)) program (input ++ rest))
    → length program ≤ 65537 → length input ≤ 16777216 → IsOpen front
open_parted front more program input job few short p i all =
    let one = size_of [] (all (more ++ [])) in
    let two = size_of (0 ∷ []) (all (more ++ 0 ∷ [])) in
    omega (arith, one, two, length-append input [], length-append input (0 ∷ []))
  where
    size_of : (rest : List ℕ) → AreParts (front ++ (more ++ rest)) p i → length i ≡ min 16777217 (length (input ++ rest))
    size_of rest parts =
        let k = kinds (front ++ (more ++ rest)) p i parts in
        let same = one_job (front ++ (more ++ rest)) k.0 k.1 program (input ++ rest) k.2 (job rest) in
        ⊎_elim
        (λ f. ap length f.2 ∙ length-take 16777217 k.1 ∙ ap (λ l. min 16777217 (length l)) same.1)
        (λ f. absurd (omega (arith, f.0, ap length same.0)))
        k.3

-- where bytes decide nothing, a beginning of them decides nothing
pub open_begin : (front behind : List ℕ) → IsOpen (front ++ behind) → IsOpen front
open_begin front behind open_on p i all =
    open_on p i (λ rest. subst (λ l. AreParts l p i) (sym (append_assoc front behind rest)) (all (behind ++ rest)))

-- what was read is needed, since its beginning decided nothing
pub open_is_needed : (read : List ℕ) → IsOpen read → AreNeeded read
open_is_needed read open_all front behind e some = open_begin front behind (subst IsOpen e open_all)

pub nothing_is_needed : AreNeeded []
nothing_is_needed front behind e some = absurd (omega (arith, ap length e, length-append front behind))

-- a read of no more bytes than a program needs, or of one
pub read_is_needed : (read more : List ℕ) (room : ℕ) → IsOpen read → room ≡ (65536 - length read) + 1 → length more ≤ room → AreNeeded (read ++ more)
read_is_needed read more room open_so_far size few front behind e some =
    let both : length read + length more ≡ length front + length behind = sym (length-append read more) ∙ ap length e ∙ length-append front behind in
    ⊎_elim
    (λ h. few_are_open front (omega arith))
    (λ h. let r = halves read more front behind e (omega arith) in open_begin front r.0 (subst IsOpen r.1 open_so_far))
    (cases_lt (length read) 65537)

-- a job whose separator was read, so that what follows goes on with its input text
module _ (head more program text : List ℕ) (job : (rest : List ℕ) → IsJob (head ++ rest) program (text ++ rest)) (few : length program ≤ 65537) where
  job_on : (some rest : List ℕ) → IsJob ((head ++ some) ++ rest) program ((text ++ some) ++ rest)
  job_on some rest =
      subst (λ l. IsJob l program ((text ++ some) ++ rest)) (sym (append_assoc head some rest))
      (subst (IsJob (head ++ (some ++ rest)) program) (sym (append_assoc text some rest)) (job (some ++ rest)))

  -- a read of no more bytes than an input text needs
  pub input_is_needed : length text ≤ 16777216 → length (text ++ more) ≤ 16777217 → AreNeeded (head ++ more)
  input_is_needed short fits front behind e some =
      ⊎_elim
      (λ h.
      let r = halves front behind head more (sym e) (omega arith) in
      let size : length r.0 + length behind ≡ length more = sym (length-append r.0 behind) ∙ ap length r.2 in
      open_parted front [] program (text ++ r.0)
      (λ rest. subst (λ l. IsJob (l ++ rest) program ((text ++ r.0) ++ rest)) (sym r.1) (job_on r.0 rest)) few
      (omega (arith, size, length-append text r.0, length-append text more)))
      (λ h.
      let r = halves head more front behind e h in
      open_parted front r.0 program text
      (λ rest. subst (λ l. IsJob l program (text ++ rest)) (ap (λ l. l ++ rest) r.1 ∙ append_assoc front r.0 rest) (job rest)) few short)
      (cases_lt (length head) (length front))

  -- an input text that may go on decides nothing
  pub input_is_open : length (text ++ more) ≤ 16777216 → IsOpen (head ++ more)
  input_is_open short = open_parted (head ++ more) [] program (text ++ more) (job_on more) few short

  -- the parts of a job whose input text was read as far as it counts
  pub input_parts : length (text ++ more) ≤ 16777217 → AreParts (head ++ more) program (text ++ more)
  input_parts fits = fitting (text ++ more) (job more) few (sym (take_all 16777217 (text ++ more) fits))

  -- and so where it goes on
  pub input_parts_on : length (text ++ more) ≡ 16777217 → (rest : List ℕ) → AreParts ((head ++ more) ++ rest) program (text ++ more)
  input_parts_on full rest =
      fitting ((text ++ more) ++ rest) (job_on more rest) few
      (sym (take-append-le 16777217 (text ++ more) rest (omega arith) ∙ take_all 16777217 (text ++ more) (omega arith)))
