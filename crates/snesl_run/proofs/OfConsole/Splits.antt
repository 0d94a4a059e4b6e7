-- What becomes of a job that is read piece by piece.
use Rattle.std.proofs.Common.{◌≡◌, ℕ, ◌+◌, ◌-◌, ◌<◌, ◌≤◌, ◌⊎◌, List, [], ◌++◌, Option, Result, Ok, Err, Vec, length, take, drop, sym, ap, ◌∙◌, subst}
use Rattle.std.proofs.Common.{arith, inl, inr, append_assoc, append-nil, length-append}
use Rattle.std.specs.Global.{Global}
use Rattle.std.specs.Io.KnownBytes.{Consumes}
use Rattle.std.specs.Result.{IsErrAnd}
use Rattle.std.proofs.lemmas.List.{get_or_append_left, length-take-le, length-drop, take-append-le, nil_from_length}
use Rattle.snesl_data.specs.declared.counted.Counted.{Counted}
use Rattle.snesl_data.specs.Counted.{counted_inner, failures_of}
use Rattle.snesl_run.specs.declared.console.job.JobError.{JobError}
use Rattle.snesl_run.specs.declared.console.job.JobError.TheVariants.{Read, NoMemory}
use Rattle.snesl_run.specs.console.Job.{EndsLine, NoSeparatorBefore}
use Rattle.snesl_run.specs.console.Parts.{AreParts, AreNeeded}
use Rattle.snesl_run.specs.console.Beginnings.{IsParted, IsScanned, IsUndecided}
use Rattle.snesl_run.specs.console.Streams.{ReadEffect, read_effect}
use Rattle.snesl_run.specs.console.Reads.{IsRead, HasSplit, HasReadMore, HasReadInput}
use Rattle.snesl_run.proofs.OfConsole.Streaming.{consumes_more, failed_once}
use Rattle.snesl_run.proofs.OfConsole.Parts.{read_is_needed, input_is_needed, input_is_open, input_parts, input_parts_on}

-- both parts of a job
abbrev pub Parts : Type 0
Parts = Vec ℕ Global × Vec ℕ Global

-- an error that is passed on
pub passed_on : (reader : ReadEffect) (result : Result Parts JobError) (error : JobError) → IsErrAnd result (λ e. e ≡ error) → HasSplit reader (Err error)
    → HasSplit reader result
passed_on reader (Ok parts) error is h = absurd is
passed_on reader (Err e) error is h = subst (λ other. HasSplit reader (Err other)) (sym is) h

-- a line that was scanned is still so where more was read
pub scanned_on : (bytes more : List ℕ) (line : ℕ) → IsScanned bytes line (length bytes) → IsScanned (bytes ++ more) line (length bytes)
scanned_on bytes more line scanned =
    record {
      within = scanned.within;
      inside = omega (arith, length-append bytes more);
      early = scanned.early;
      begins = subst EndsLine (sym (take-append-le line bytes more scanned.within)) scanned.begins;
      passed = λ rest. subst (NoSeparatorBefore line) (sym (append_assoc bytes more rest)) (scanned.passed (more ++ rest));
      unended = λ k low high e. scanned.unended k low high (sym (get_or_append_left bytes more 0 k high) ∙ e);
    }

-- after the bytes that were read so far
module _ {R : Type 0} (remaining : R → Option (List ℕ)) (first now : Counted R) (bytes : List ℕ)
    (taken : Consumes (remaining (counted_inner first)) (remaining (counted_inner now)) bytes) (worked : failures_of now ≡ failures_of first) where
  these_on : (last : Counted R) (more : List ℕ) → (read_effect remaining now last).these more → (read_effect remaining first last).these (bytes ++ more)
  these_on last more p =
      consumes_more (remaining (counted_inner first)) (remaining (counted_inner now)) (remaining (counted_inner last)) bytes more taken p

  these_none : (last : Counted R) → (read_effect remaining now last).these [] → (read_effect remaining first last).these bytes
  these_none last p = subst (read_effect remaining first last).these (append-nil bytes) (these_on last [] p)

  worked_on : (last : Counted R) → (read_effect remaining now last).worked → (read_effect remaining first last).worked
  worked_on last e = e ∙ worked

  failed_on : (last : Counted R) → (read_effect remaining now last).failed → (read_effect remaining first last).failed
  failed_on last e = failed_once (failures_of first) (failures_of now) (failures_of last) worked e

  -- the input text of a job whose separator was read
  module _ (last : Counted R) (program input : ℕ) (parted : IsParted bytes program input) (few : length bytes ≤ 65542) where
    abbrev text : List ℕ
    text = drop input bytes

    program_size : length (take program bytes) ≤ 65537
    program_size = omega (arith, length-take-le program bytes parted.within, parted.early)

    text_size : length text ≤ 16777216
    text_size = omega (arith, length-drop input bytes, few)

    input_lost : (more : List ℕ) → (read_effect remaining now last).these more → (read_effect remaining now last).worked → length (text ++ more) ≤ 16777217
        → IsRead (read_effect remaining first last) (bytes ++ more)
    input_lost more these works fits = (
      these_on last more these,
      input_is_needed bytes more (take program bytes) text parted.job program_size text_size fits,
      worked_on last works,
    )

    pub input_broken : (T : Type 0) (old new : List ℕ) (error : JobError) → old ≡ text → HasReadInput {T = T} (read_effect remaining now last) old new (Err error)
        → HasSplit (read_effect remaining first last) (Err error)
    input_broken T old new Read same (more, these, failed, short) = (
      bytes ++ more,
      (
        these_on last more these,
        input_is_open bytes more (take program bytes) text parted.job program_size (omega (arith, subst (λ l. length (l ++ more) < 16777217) same short)),
        failed_on last failed,
      ),
    )
    input_broken T old new NoMemory same (more, these, works, fits) =
        (bytes ++ more, input_lost more these works (subst (λ l. length (l ++ more) ≤ 16777217) same fits))

    pub input_read : (T : Type 0) (old : List ℕ) (parts : Parts) (done : T) → old ≡ text → parts.0.items ≡ take program bytes
        → HasReadInput {T = T} (read_effect remaining now last) old parts.1.items (Ok done) → HasSplit (read_effect remaining first last) (Ok parts)
    input_read T old parts done same cut (more, these, works, is, read) =
        let whole : parts.1.items ≡ text ++ more = is ∙ ap (λ l. l ++ more) same in
        let fits : length (text ++ more) ≤ 16777217 = subst (λ l. length l ≤ 16777217) whole read.0 in (
          bytes ++ more,
          input_lost more these works fits,
          by_end whole fits read.1,
        )
      where
        as_parts : parts.1.items ≡ text ++ more → (job : List ℕ) → AreParts job (take program bytes) (text ++ more) → AreParts job parts.0.items parts.1.items
        as_parts whole job p = subst (λ l. AreParts job l parts.1.items) (sym cut) (subst (AreParts job (take program bytes)) (sym whole) p)

        by_end : (whole : parts.1.items ≡ text ++ more) → length (text ++ more) ≤ 16777217
            → (read_effect remaining now last).ended ⊎ (length parts.1.items ≡ 16777217)
            → ((read_effect remaining first last).ended × AreParts (bytes ++ more) parts.0.items parts.1.items)
            ⊎ ((rest : List ℕ) → AreParts ((bytes ++ more) ++ rest) parts.0.items parts.1.items)
        by_end whole fits (inl ended) = inl (
          ended,
          as_parts whole (bytes ++ more) (input_parts bytes more (take program bytes) text parted.job program_size fits),
        )
        by_end whole fits (inr full) =
            inr (λ rest. as_parts whole ((bytes ++ more) ++ rest)
            (input_parts_on bytes more (take program bytes) text parted.job program_size (ap length (sym whole) ∙ full) rest))

  -- a job whose program is too long
  pub cut_off : (parts : Parts) → AreNeeded bytes → parts.0.items ≡ take 65537 bytes → parts.1.items ≡ []
      → ((rest : List ℕ) → AreParts (bytes ++ rest) (take 65537 bytes) []) → HasSplit (read_effect remaining first now) (Ok parts)
  cut_off parts needed cut none long = (
    bytes,
    (taken, needed, worked),
    inr (λ rest.
        subst (λ l. AreParts (bytes ++ rest) l parts.1.items) (sym cut) (subst (AreParts (bytes ++ rest) (take 65537 bytes)) (sym none) (long rest))),
  )

  -- one more call of the reader
  module _ (last : Counted R) (line room : ℕ) (open_so_far : IsUndecided bytes line) (size : room ≡ (65536 - length bytes) + 1) where
    pub call_failed : (new : List ℕ) (error : JobError) → HasReadMore (read_effect remaining now last) room bytes new (Err error)
        → HasSplit (read_effect remaining first last) (Err error)
    call_failed new Read (these, failed) = (bytes, (these_none last these, open_so_far.undecided, failed_on last failed))
    call_failed new NoMemory (more, gives) = (
      bytes ++ more,
      (these_on last more gives.0, read_is_needed bytes more room open_so_far.undecided size gives.1, worked_on last gives.2),
    )

    pub ended_there : (new : List ℕ) (n : ℕ) (parts : Parts) → AreNeeded bytes → n ≡ 0 → HasReadMore (read_effect remaining now last) room bytes new (Ok n)
        → (new ≡ bytes → AreParts new parts.0.items parts.1.items) → HasSplit (read_effect remaining first last) (Ok parts)
    ended_there new n parts needed zero (more, gives, is, count, at_end) split =
        let none : more ≡ [] = nil_from_length more (count ∙ zero) in
        let same : new ≡ bytes = is ∙ ap (λ l. bytes ++ l) none ∙ append-nil bytes in (
          bytes,
          (these_none last (subst (read_effect remaining now last).these none gives.0), needed, worked_on last gives.2),
          inl (at_end zero, subst (λ l. AreParts l parts.0.items parts.1.items) same (split same)),
        )

    -- where it gave something, all holds as before
    pub goes_on : (new : List ℕ) (n : ℕ) → HasReadMore (read_effect remaining now last) room bytes new (Ok n)
        → (read_effect remaining first last).these new × (failures_of last ≡ failures_of first) × (length new ≤ 65542) × (length new ≡ length bytes + n)
        × AreNeeded new × IsScanned new line (length bytes)
    goes_on new n (more, gives, is, count, at_end) = (
      subst (read_effect remaining first last).these (sym is) (these_on last more gives.0),
      worked_on last gives.2,
      omega (arith, ap length is, length-append bytes more, gives.1, size, open_so_far.few),
      omega (arith, ap length is, length-append bytes more, count),
      subst AreNeeded (sym is) (read_is_needed bytes more room open_so_far.undecided size gives.1),
      subst (λ l. IsScanned l line (length bytes)) (sym is) (scanned_on bytes more line open_so_far.last),
    )

-- reading on in an input text stopped
pub input_stopped : {R T : Type 0} (remaining : R → Option (List ℕ)) (first now last : Counted R) (old text new : List ℕ)
    → (more : List ℕ) × Consumes (remaining (counted_inner first)) (remaining (counted_inner now)) more × (text ≡ old ++ more)
    → failures_of now ≡ failures_of first → length text ≤ 16777216 → (room : ℕ) → length text + room ≤ 16777217
    → (result : Result T JobError) (error : JobError) → IsErrAnd result (λ e. e ≡ error) → HasReadMore (read_effect remaining now last) room text new (Err error)
    → HasReadInput (read_effect remaining first last) old new result
input_stopped remaining first now last old text new so_far worked short room fits (Ok done) error is stopped = absurd is
input_stopped {T = T} remaining first now last old text new (more, taken, whole) worked short room fits (Err other) error is stopped =
    subst (λ e. HasReadInput {T = T} (read_effect remaining first last) old new (Err e)) (sym is) (by_error error stopped)
  where
    by_error : (error : JobError) → HasReadMore (read_effect remaining now last) room text new (Err error)
        → HasReadInput {T = T} (read_effect remaining first last) old new (Err error)
    by_error Read (these, failed) = (
      more,
      these_none remaining first now more taken worked last these,
      failed_on remaining first now more taken worked last failed,
      omega (arith, ap length whole),
    )
    by_error NoMemory (some, gives) = (
      more ++ some,
      these_on remaining first now more taken worked last some gives.0,
      worked_on remaining first now more taken worked last gives.2,
      omega (arith, gives.1, ap length whole, length-append text some, ap length (append_assoc old more some), length-append old (more ++ some), length-append (old ++ more) some),
    )
