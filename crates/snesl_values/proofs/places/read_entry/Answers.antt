use Rattle.std.proofs.Common.{◌∷◌, [], sym, ◌∙◌, subst, arith}
use Rattle.snesl_values.specs.InputTokens.{word, IsNextToken}
use Rattle.snesl_values.specs.Inputs.{declaration_of, value_tokens}
use Rattle.snesl_values.specs.Wants.{one, entry_wants, IsStop}
use Rattle.snesl_values.proofs.InputReads.{reads-append}
use Rattle.snesl_values.proofs.InputWants.{leaves_all, past_one, stop_passed}
use Rattle.snesl_values.specs.Places.{value_at}
use Rattle.snesl_values.proofs.Entries.{told, comes_of}
use Rattle.snesl_values.proofs.places.read_entry.Goals as goal

pub returns-in_err-after_name-clause-stops : goal.returns-in_err-after_name-clause-stops
returns-in_err-after_name-clause-stops c =
    stop_passed (leaves_all {whole = entry_wants (declaration_of c.args.declaration.now) []}) c.from_residual.result c.in_err-after_name.field-0.0 c.from_residual.ensures.1
    (subst (λ w. IsStop c.args.dialect (one (word w) ∷ []) c.args.text.now c.args.at c.in_err-after_name.field-0.0) c.deref.ensures.value c.in_err-after_name.ensures.stops)

pub returns-in_err-start-clause-stops : goal.returns-in_err-start-clause-stops
returns-in_err-start-clause-stops c =
    let name = subst (λ w. IsNextToken c.args.text.now c.args.at (word w) c.in_ok-after_name.after_name) c.deref.ensures.value c.in_ok-after_name.ensures.taken in
    stop_passed (past_one (leaves_all {whole = entry_wants (declaration_of c.args.declaration.now) []}) name)
    c.from_residual-in_err-start.result c.in_err-start.field-0.0 c.from_residual-in_err-start.ensures.1 c.in_err-start.ensures.stops

pub returns-in_err-end-clause-stops : goal.returns-in_err-end-clause-stops
returns-in_err-end-clause-stops c =
    let name = subst (λ w. IsNextToken c.args.text.now c.args.at (word w) c.in_ok-after_name.after_name) c.deref.ensures.value c.in_ok-after_name.ensures.taken in
    stop_passed (past_one (past_one (leaves_all {whole = entry_wants (declaration_of c.args.declaration.now) []}) name) c.in_ok-start.ensures.taken)
    c.from_residual-in_err-end.result c.in_err-end.field-0.0 c.from_residual-in_err-end.ensures.1 c.in_err-end.ensures.stops

pub returns-clause-read : goal.returns-clause-read
returns-clause-read c =
    let text = c.args.text.now in
    let copied = c.in_ok-name.ensures.items in
    let named = copied ∙ c.deref-2.ensures.value in
    let same = c.deref.ensures.value ∙ sym named in
    let name = subst (λ w. IsNextToken text c.args.at (word w) c.in_ok-after_name.after_name) same c.in_ok-after_name.ensures.taken in
    let sign = c.in_ok-start.ensures.taken in
    let read = told c.args.dialect text c.in_ok-start.start (declaration_of c.args.declaration.now).1 c.in_ok-end.end sign.within c.in_ok-end.ensures.read in
    record {
      named = named;
      has_type = read.has_type;
      reads = reads-append name.reads (reads-append sign.reads read.reads);
      moves = omega (arith, name.moves, sign.moves, read.moves);
      within = read.within;
    }

pub returns-clause-placed : goal.returns-clause-placed
returns-clause-placed c =
    let sign = c.in_ok-start.ensures.taken in
    let read = told c.args.dialect c.args.text.now c.in_ok-start.start (declaration_of c.args.declaration.now).1 c.in_ok-end.end sign.within c.in_ok-end.ensures.read in
    (sign.within, read.has_type, comes_of (value_tokens (value_at c.args.text.now c.in_ok-start.start)) read.reads)
