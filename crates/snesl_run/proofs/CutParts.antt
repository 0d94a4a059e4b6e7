-- What is cut off a job changes neither its meaning nor its answer.
use Rattle.std.proofs.Common.{Err, List, Ok, arith, inl, inr, length, subst, sym, take, ◌<◌, ◌≡◌, ◌∙◌, ◌++◌, ◌⊎◌, ℕ, ⊎_elim}
use Rattle.std.proofs.lemmas.Bool.{cases_lt}
use Rattle.std.proofs.lemmas.List.{length-take-le, take_all}
use Rattle.flow_drives.specs.declared.config.Config.{Config}
use Rattle.snesl_run.specs.console.Job.{IsJob}
use Rattle.snesl_run.specs.console.Parts.{AreParts, most_of_program}
use Rattle.snesl_run.specs.console.Reads.{HoldsOfJob}
use Rattle.snesl_run.specs.console.Streams.{ReadEffect, WriteEffect}
use Rattle.snesl_run.proofs.OfConsole.Jobs.{one_job}
use Rattle.snesl_run.proofs.OfConsole.Parts.{AreFitting, AreTooLong, kinds}
use Rattle.snesl_grammar.specs.Limits.{greatest_length}
use Rattle.snesl_meaning.specs.Meaning.{Meaning, Means, bad_input, evaluated, ill_typed, is_refused, no_program}
use Rattle.snesl_flatten.specs.network.Driven.{IsAccepted, WasRefused}
use Rattle.snesl_run.specs.Cuts.{CutsChangeNothing}
use Rattle.snesl_run.specs.Prints.{Printed, PrintedFor, came_out, refused}
use Rattle.snesl_syntax.specs.Parse.{HaveOneAnswer, Parses, too_long}
use Rattle.snesl_grammar.specs.tree.Tree.{ProgramTree}
use Rattle.snesl_values.specs.Inputs.{Environment, InputMeans, OneInputMeaning, greatest_input_length, refused_at, spells, too_long as input_too_long}
use Rattle.snesl_data.specs.declared.refusal.Refusal.TheVariants.{BadConfig, NoMemory, NoThread, Output, Short, TooBig, TooLong}
use Rattle.snesl_data.specs.declared.refusal.Refusal.{Refusal}

no_tree : {A : Type 0} → HaveOneAnswer → (program : List ℕ) (t : ProgramTree) → Parses program (Ok t) → greatest_length < length program → A
no_tree answers program t p h = absurd (let e = answers program (Ok t) (Err TooLong) p (too_long h) in cc)

-- two programs over the limit mean the same
both_too_long : HaveOneAnswer → (program input program' input' : List ℕ) (m : Meaning) → greatest_length < length program
    → greatest_length < length program' → Means program input m → Means program' input' m
both_too_long answers program input program' input' m h k (no_program {refusal = r} p) =
    let e = answers program (Err r) (Err TooLong) p (too_long h) in
    let same : TooLong ≡ r = cc in
    subst (λ x. Means program' input' (is_refused x)) same (no_program (too_long k))
both_too_long answers program input program' input' m h k (ill_typed {program = t} p v) = no_tree answers program t p h
both_too_long answers program input program' input' m h k (bad_input {program = t} p d i) = no_tree answers program t p h
both_too_long answers program input program' input' m h k (evaluated {program = t} p d i) = no_tree answers program t p h

-- no verdict stands among what these are proved from, so that `cc` does not compute one
same_place : (at other : ℕ) → refused_at at ≡ refused_at other → other ≡ at
same_place at other e = cc

not_spelled : (environment : Environment) (at : ℕ) → ¬ (spells environment ≡ refused_at at)
not_spelled environment at = λ e. cc

-- with two input texts over the limit a program means the same
inputs_too_long : OneInputMeaning → (program input input' : List ℕ) (m : Meaning) → greatest_input_length < length input
    → greatest_input_length < length input' → Means program input m → Means program input' m
inputs_too_long inputs program input input' m h k (no_program p) = no_program p
inputs_too_long inputs program input input' m h k (ill_typed p v) = ill_typed p v
inputs_too_long inputs program input input' m h k (bad_input {program = t} {declared = all} {at = at} p d i) =
    let e = inputs t.dialect all.inputs input (refused_at at) (refused_at greatest_input_length) i (input_too_long h) in
    let same : greatest_input_length ≡ at = same_place at greatest_input_length e in
    bad_input p d (subst (λ n. InputMeans t.dialect all.inputs input' (refused_at n)) same (input_too_long k))
inputs_too_long inputs program input input' m h k (evaluated {program = t} {declared = all} {environment = f} p d i) =
    absurd (not_spelled f greatest_input_length (inputs t.dialect all.inputs input (spells f) (refused_at greatest_input_length) i (input_too_long h)))

cut_length : (program : List ℕ) → most_of_program < length program → greatest_length < length (take 65537 program)
cut_length program h = omega (arith, length-take-le 65537 program (omega arith))

cut_input_length : (input : List ℕ) → greatest_input_length < length input → greatest_input_length < length (take 16777217 input)
cut_input_length input h = omega (arith, length-take-le 16777217 input (omega arith))

-- the parts of a job are its own, or both programs are too long, or both input texts are
abbrev AreOwn : (program input part rest : List ℕ) → Type 0
AreOwn program input part rest = (part ≡ program) × (rest ≡ input)

abbrev AreBothLong : (program part : List ℕ) → Type 0
AreBothLong program part = (greatest_length < length program) × (greatest_length < length part)

abbrev HaveLongInputs : (program input part rest : List ℕ) → Type 0
HaveLongInputs program input part rest = (part ≡ program) × (greatest_input_length < length input) × (greatest_input_length < length rest)

abbrev AreCut : (program input part rest : List ℕ) → Type 0
AreCut program input part rest = AreOwn program input part rest ⊎ AreBothLong program part ⊎ HaveLongInputs program input part rest

cut_so : (part rest all behind : List ℕ) → AreFitting part rest all behind ⊎ AreTooLong part rest all → AreCut all behind part rest
cut_so part rest all behind (inr f) = inr (inl (omega (arith, f.0), subst (λ l. greatest_length < length l) (sym f.1) (cut_length all f.0)))
cut_so part rest all behind (inl f) =
    ⊎_elim
    (λ h. inr (inr (f.1, h, subst (λ l. greatest_input_length < length l) (sym f.2) (cut_input_length behind h))))
    (λ h. inl (f.1, f.2 ∙ take_all 16777217 behind (omega arith)))
    (cases_lt greatest_input_length (length behind))

-- what is cut off changes no meaning
same_meaning : HaveOneAnswer → OneInputMeaning → (program input part rest : List ℕ) (m : Meaning) → AreCut program input part rest
    → (Means program input m → Means part rest m) × (Means part rest m → Means program input m)
same_meaning answers inputs program input part rest m (inl own) = (
  λ h. subst (λ l. Means l rest m) (sym own.0) (subst (λ l. Means program l m) (sym own.1) h),
  λ h. subst (λ l. Means program l m) own.1 (subst (λ l. Means l rest m) own.0 h),
)
same_meaning answers inputs program input part rest m (inr (inl long)) = (
  both_too_long answers program input part rest m long.0 long.1,
  both_too_long answers part rest program input m long.1 long.0,
)
same_meaning answers inputs program input part rest m (inr (inr long)) = (
  λ h. subst (λ l. Means l rest m) (sym long.0) (inputs_too_long inputs program input rest m long.1 long.2 h),
  λ h. inputs_too_long inputs program rest input m long.2 long.1 (subst (λ l. Means l rest m) long.0 h),
)

-- the program and the input text of a job are those of which its parts are cut
cut_parts : (job program input part rest : List ℕ) → IsJob job program input → AreParts job part rest → AreCut program input part rest
cut_parts job program input part rest is parts =
    let k = kinds job part rest parts in
    let same = one_job job k.0 k.1 program input k.2 is in
    subst (λ l. AreCut l input part rest) same.0 (subst (λ l. AreCut k.0 l part rest) same.1 (cut_so part rest k.0 k.1 k.3))

pub cuts_change_nothing : HaveOneAnswer → OneInputMeaning → CutsChangeNothing
cuts_change_nothing answers inputs job program input part rest m is parts =
    same_meaning answers inputs program input part rest m (cut_parts job program input part rest is parts)

-- parts that were cut are not accepted
not_accepted : HaveOneAnswer → OneInputMeaning → (program input part rest : List ℕ) → AreBothLong program part ⊎ HaveLongInputs program input part rest
    → ¬ IsAccepted part rest
not_accepted answers inputs program input part rest (inl long) accepted = no_tree answers part accepted.program accepted.parses long.1
not_accepted answers inputs program input part rest (inr long) accepted =
    let e = inputs accepted.program.dialect accepted.declared.inputs rest (spells accepted.environment) (refused_at greatest_input_length)
    accepted.inputs (input_too_long long.2) in
    cc

module _ (answers : HaveOneAnswer) (inputs : OneInputMeaning) (config : Config) (out err : WriteEffect) where
  -- so a refusal of the parts is one of the job
  refused_whole : (program input part rest : List ℕ) → ¬ IsAccepted part rest → ((m : Meaning) → Means part rest m → Means program input m)
      → (refusal : Refusal) → WasRefused part rest config refusal → WasRefused program input config refusal
  refused_whole program input part rest not whole BadConfig h = h
  refused_whole program input part rest not whole NoMemory h = h
  refused_whole program input part rest not whole NoThread h = absurd (not h.1.accepted)
  refused_whole program input part rest not whole TooBig (inl h) = absurd (not h.accepted)
  refused_whole program input part rest not whole TooBig (inr h) = inr (whole (is_refused TooBig) h)
  refused_whole program input part rest not whole Output h = h
  refused_whole program input part rest not whole Short h = h
  refused_whole program input part rest not whole refusal h = whole (is_refused refusal) h

  -- what is printed for the parts is printed for the job
  printed_cut : (program input part rest : List ℕ) (status : ℕ) → ¬ IsAccepted part rest → ((m : Meaning) → Means part rest m → Means program input m)
      → PrintedFor config part rest out err status → PrintedFor config program input out err status
  printed_cut program input part rest status not whole (came_out report reported printed) =
      let start = reported.came.start in
      absurd (not (record {
        program = start.program;
        declared = start.declared;
        ty = start.ty;
        environment = start.environment;
        parses = start.parses;
        types = start.types;
        inputs = start.inputs;
      }))
  printed_cut program input part rest status not whole (refused refusal was printed) =
      refused refusal (refused_whole program input part rest not whole refusal was) printed

  printed_whole : (program input part rest : List ℕ) (status : ℕ) → AreCut program input part rest → PrintedFor config part rest out err status
      → PrintedFor config program input out err status
  printed_whole program input part rest status (inl own) h =
      subst (λ l. PrintedFor config program l out err status) own.1 (subst (λ l. PrintedFor config l rest out err status) own.0 h)
  printed_whole program input part rest status (inr long) h =
      printed_cut program input part rest status (not_accepted answers inputs program input part rest long)
      (λ m. (same_meaning answers inputs program input part rest m (inr long)).1) h

  printed_job : (job part rest : List ℕ) (status : ℕ) → PrintedFor config part rest out err status → AreParts job part rest → Printed config job out err status
  printed_job job part rest status h parts =
      let k = kinds job part rest parts in
      (k.0, k.1, k.2, printed_whole k.0 k.1 part rest status (cut_so part rest k.0 k.1 k.3) h)

  -- so it is the answer of each job that begins with what was read
  pub printed_jobs : (reader : ReadEffect) (read part rest : List ℕ) (status : ℕ) → PrintedFor config part rest out err status
      → HoldsOfJob reader read (λ job. AreParts job part rest) → HoldsOfJob reader read (λ job. Printed config job out err status)
  printed_jobs reader read part rest status h (inl at_end) = inl (at_end.0, printed_job read part rest status h at_end.1)
  printed_jobs reader read part rest status h (inr begins) = inr (λ more. printed_job (read ++ more) part rest status h (begins more))
