use Rattle.std.proofs.Common.{◌≡◌, ◌<◌, ◌+◌, ◌-◌, ℕ, List, ◌∷◌, ◌++◌, [], length, take, drop, append_assoc, append-nil, sym, ap, ◌∙◌, subst, arith}
use Rattle.std.proofs.lemmas.Bool.{eqb-true, eqb-false}
use Rattle.snesl_values.specs.Inputs.{declared, declaration_of, semicolon, StopsAt}
use Rattle.snesl_values.specs.Wants.{one, AllRead, Fills, IsStopOf, entry_wants, further_wants, wants_of}
use Rattle.snesl_values.proofs.InputWants.{passed_on, after_one}
use Rattle.snesl_values.proofs.InputEntries.{SoFar, first_so_far, next_so_far, all_read_closed, all_read_open, none_read, first_declared, next_declared, none_declared, none_left, stop_whole}
use Rattle.snesl_data.specs.declared.dialect.Dialect.{Dialect}
use Rattle.snesl_values.specs.Declarations.{InputDeclaration}
use Rattle.snesl_values.specs.declared.places.InputPlace.{InputPlace}
use Rattle.snesl_values.specs.Entries.{entry_from, environment_at, AreSpelledAt}
use Rattle.snesl_values.proofs.Entries.{entries-push, placed-push}
use Rattle.snesl_values.proofs.places.read_places.Goals as goal

pub returns-then-is_empty-clause-read : goal.returns-then-is_empty-clause-read
returns-then-is_empty-clause-read c =
    subst (λ l. AllRead c.args.dialect c.args.text.now (declared c.args.decls.now) (environment_at c.args.text.now l) 0) (sym c.new-all.ensures.items)
    (subst (λ ds. AllRead c.args.dialect c.args.text.now ds [] 0) (sym (none_declared c.args.decls.now (eqb-true _ _ (sym c.if-is_empty.ensures)))) (none_read c.args.dialect c.args.text.now))

pub returns-in_err-input-clause-stops : goal.returns-in_err-input-clause-stops
returns-in_err-input-clause-stops c =
    let text = c.args.text.now in
    let decls = c.args.decls.now in
    let e = c.in_err-input.field-0.0 in
    let some : 0 < length decls = omega (arith, eqb-false (length decls) 0 (sym c.if-is_empty.ensures)) in
    let first = first_declared decls c.index-decls-0.result c.index-decls-0.is some in
    passed_on (IsStopOf c.args.dialect (declared decls) text) c.from_residual.result e c.from_residual.ensures.1
    (stop_whole c.args.dialect text (entry_wants (declaration_of c.index-decls-0.result) []) (declared decls) 0 e
    (λ n h. subst (λ ds. StopsAt (Fills c.args.dialect (wants_of ds)) text 0 n) (sym first) (h (further_wants (declared (take (length decls - 1) (drop 1 decls))))))
    c.in_err-input.ensures.stops)

pub loop-declaration-init : goal.loop-declaration-init
loop-declaration-init c =
    let text = c.args.text.now in
    let decls = c.args.decls.now in
    let left = declared (take (length decls - 1) (drop 1 decls)) in
    let some : 0 < length decls = omega (arith, eqb-false (length decls) 0 (sym c.if-is_empty.ensures)) in
    let first = first_declared decls c.index-decls-0.result c.index-decls-0.is some in
    let pushed = c.in_ok-push.ensures.items ∙ ap (λ l. l ++ c.in_ok-input.input ∷ []) c.new-all.ensures.items in
    record {
      so_far =
          subst (λ l. SoFar c.args.dialect text (declared decls) left (environment_at text l) c.in_ok-input.at) (sym pushed)
          (subst (λ ds. SoFar c.args.dialect text ds left (entry_from text c.in_ok-input.input ∷ []) c.in_ok-input.at) (sym first)
          (first_so_far c.args.dialect text (declaration_of c.index-decls-0.result) left (entry_from text c.in_ok-input.input) c.in_ok-input.at c.in_ok-input.ensures.read));
      front = declaration_of c.index-decls-0.result ∷ [];
      whole = first;
      placed = subst (AreSpelledAt c.args.dialect text (declaration_of c.index-decls-0.result ∷ [])) (sym pushed) (c.in_ok-input.ensures.placed, tt);
    }

pub expect_sign-requires-clause-within : goal.expect_sign-requires-clause-within
expect_sign-requires-clause-within c = c.loop-declaration.invariant.so_far.within

pub after_sign-requires-clause-within : goal.after_sign-requires-clause-within
after_sign-requires-clause-within c = c.loop-declaration.invariant.so_far.within

pub returns-in_err-start-clause-stops : goal.returns-in_err-start-clause-stops
returns-in_err-start-clause-stops c =
    let text = c.args.text.now in
    let decls = c.args.decls.now in
    let items = take (length decls - 1) (drop 1 decls) in
    let k = c.loop-declaration.declaration-index in
    let d = declaration_of c.declaration-item.result in
    let e = c.in_err-start.field-0.0 in
    let next = next_declared items k c.declaration-item.result c.loop-declaration-test.true c.declaration-item.is in
    passed_on (IsStopOf c.args.dialect (declared decls) text) c.from_residual-in_err-start.result e c.from_residual-in_err-start.ensures.1
    (stop_whole c.args.dialect text (one semicolon ∷ []) (declared decls) c.loop-declaration.at e
    (λ n h. c.loop-declaration.invariant.so_far.stops n
    (subst (λ ds. StopsAt (Fills c.args.dialect (further_wants ds)) text c.loop-declaration.at n) (sym next)
    (h (entry_wants d (further_wants (declared (drop (k + 1) items)))))))
    c.in_err-start.ensures.stops)

pub returns-in_err-input-2-clause-stops : goal.returns-in_err-input-2-clause-stops
returns-in_err-input-2-clause-stops c =
    let text = c.args.text.now in
    let decls = c.args.decls.now in
    let items = take (length decls - 1) (drop 1 decls) in
    let k = c.loop-declaration.declaration-index in
    let d = declaration_of c.declaration-item.result in
    let e = c.in_err-input-2.field-0.0 in
    let next = next_declared items k c.declaration-item.result c.loop-declaration-test.true c.declaration-item.is in
    let left = further_wants (declared (drop (k + 1) items)) in
    passed_on (IsStopOf c.args.dialect (declared decls) text) c.from_residual-in_err-input-2.result e c.from_residual-in_err-input-2.ensures.1
    (stop_whole c.args.dialect text (entry_wants d []) (declared decls) c.in_ok-start.start e
    (λ n h. c.loop-declaration.invariant.so_far.stops n
    (subst (λ ds. StopsAt (Fills c.args.dialect (further_wants ds)) text c.loop-declaration.at n) (sym next)
    (after_one c.args.dialect text semicolon (entry_wants d left) c.loop-declaration.at c.in_ok-start.start n c.in_ok-start.ensures.taken.reads (h left))))
    c.in_err-input-2.ensures.stops)

pub loop-declaration-preserved : goal.loop-declaration-preserved
loop-declaration-preserved c =
    let text = c.args.text.now in
    let decls = c.args.decls.now in
    let items = take (length decls - 1) (drop 1 decls) in
    let k = c.loop-declaration.declaration-index in
    let d = declaration_of c.declaration-item.result in
    let next = next_declared items k c.declaration-item.result c.loop-declaration-test.true c.declaration-item.is in
    let es = environment_at text c.loop-declaration.all.items in
    let left = declared (drop (k + 1) items) in
    let entry = entry_from text c.in_ok-input-2.input in
    let pushed = ap (environment_at text) c.in_ok-push-2.ensures.items ∙ entries-push text c.loop-declaration.all.items c.in_ok-input-2.input in
    let front = c.loop-declaration.invariant.front in
    record {
      so_far =
          subst (λ l. SoFar c.args.dialect text (declared decls) left l c.in_ok-input-2.end) (sym pushed)
          (next_so_far c.args.dialect text (declared decls) d left es entry c.loop-declaration.at c.in_ok-start.start c.in_ok-input-2.end
          (subst (λ ds. SoFar c.args.dialect text (declared decls) ds es c.loop-declaration.at) next c.loop-declaration.invariant.so_far)
          c.in_ok-start.ensures.taken c.in_ok-input-2.ensures.read);
      front = front ++ d ∷ [];
      whole = c.loop-declaration.invariant.whole ∙ ap (λ l. front ++ l) next ∙ sym (append_assoc front (d ∷ []) left);
      placed = subst (AreSpelledAt c.args.dialect text (front ++ d ∷ [])) (sym c.in_ok-push-2.ensures.items)
          (placed-push c.args.dialect text front c.loop-declaration.all.items d c.in_ok-input-2.input c.loop-declaration.invariant.placed c.in_ok-input-2.ensures.placed);
    }

pub returns-in-Some-clause-read : goal.returns-in-Some-clause-read
returns-in-Some-clause-read c =
    let text = c.args.text.now in
    let decls = c.args.decls.now in
    let items = take (length decls - 1) (drop 1 decls) in
    let k = c.loop-declaration.declaration-index in
    let es = environment_at text c.loop-declaration.all.items in
    all_read_closed c.args.dialect text (declared decls) es c.loop-declaration.at c.in-Some.end
    (subst (λ ds. SoFar c.args.dialect text (declared decls) ds es c.loop-declaration.at) (none_left items k (omega arith)) c.loop-declaration.invariant.so_far)
    c.in-Some.ensures.taken

pub returns-in-None-clause-read : goal.returns-in-None-clause-read
returns-in-None-clause-read c =
    let text = c.args.text.now in
    let decls = c.args.decls.now in
    let items = take (length decls - 1) (drop 1 decls) in
    let k = c.loop-declaration.declaration-index in
    let es = environment_at text c.loop-declaration.all.items in
    all_read_open c.args.dialect text (declared decls) es c.loop-declaration.at
    (subst (λ ds. SoFar c.args.dialect text (declared decls) ds es c.loop-declaration.at) (none_left items k (omega arith)) c.loop-declaration.invariant.so_far)
    c.in-None.ensures.another

-- where no declaration is left, all are placed
pub all_placed : (dialect : Dialect) (text : List ℕ) (ds front left : List InputDeclaration) (all : List InputPlace) → ds ≡ front ++ left → left ≡ []
    → AreSpelledAt dialect text front all → AreSpelledAt dialect text ds all
all_placed dialect text ds front left all whole none placed = subst (λ l. AreSpelledAt dialect text l all) (sym (whole ∙ ap (λ l. front ++ l) none ∙ append-nil front)) placed

pub returns-then-is_empty-clause-placed : goal.returns-then-is_empty-clause-placed
returns-then-is_empty-clause-placed c =
    subst (AreSpelledAt c.args.dialect c.args.text.now (declared c.args.decls.now)) (sym c.new-all.ensures.items)
    (subst (λ ds. AreSpelledAt c.args.dialect c.args.text.now ds []) (sym (none_declared c.args.decls.now (eqb-true _ _ (sym c.if-is_empty.ensures)))) tt)

pub returns-in-Some-clause-placed : goal.returns-in-Some-clause-placed
returns-in-Some-clause-placed c =
    let items = take (length c.args.decls.now - 1) (drop 1 c.args.decls.now) in
    let i = c.loop-declaration.invariant in
    all_placed c.args.dialect c.args.text.now (declared c.args.decls.now) i.front _ c.loop-declaration.all.items i.whole (none_left items c.loop-declaration.declaration-index (omega arith)) i.placed

pub returns-in-None-clause-placed : goal.returns-in-None-clause-placed
returns-in-None-clause-placed c =
    let items = take (length c.args.decls.now - 1) (drop 1 c.args.decls.now) in
    let i = c.loop-declaration.invariant in
    all_placed c.args.dialect c.args.text.now (declared c.args.decls.now) i.front _ c.loop-declaration.all.items i.whole (none_left items c.loop-declaration.declaration-index (omega arith)) i.placed
