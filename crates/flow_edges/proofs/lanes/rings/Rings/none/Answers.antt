use Rattle.std.proofs.Common.{◌≡◌, ℕ, zero, suc, List, [], ◌∷◌, ◌++◌, get_or, Option, None, Result, Ok, Err, IfOk, IsErrAnd, refl, ap, ◌∙◌, arith}
use Rattle.flow_edges.proofs.lanes.rings.Rings.none.Goals as goal

-- a refusal promises nothing of what is made
nothing_made : {A E : Type 0} (r : Result A E) (Is : E → Type 0) (P : A → Type 0) → IsErrAnd r Is → IfOk r P
nothing_made (Ok x) Is P h = absurd h
nothing_made (Err e) Is P h = tt

none_more : {A : Type 0} (xs : List (Option A)) → ((e : ℕ) → get_or xs e None ≡ None) → (e : ℕ) → get_or (xs ++ None ∷ []) e None ≡ None
none_more [] all zero = refl
none_more [] all (suc e) = refl
none_more (x ∷ xs) all zero = all zero
none_more (x ∷ xs) all (suc e) = none_more xs (λ n. all (suc n)) e

pub loop-preserved : goal.loop-preserved
loop-preserved c =
    let loop = c.loop.invariant in
    record {
      writer_count = omega (arith, c.in_ok-push.ensures.len, loop.writer_count);
      reader_count = omega (arith, c.in_ok-push-2.ensures.len, loop.reader_count);
      no_writer = λ e. ap (λ xs. get_or xs e None) c.in_ok-push.ensures.items ∙ none_more c.loop.writers.items loop.no_writer e;
      no_reader = λ e. ap (λ xs. get_or xs e None) c.in_ok-push-2.ensures.items ∙ none_more c.loop.readers.items loop.no_reader e;
    }

pub returns-in_err-writers : goal.returns-in_err-writers
returns-in_err-writers c =
    let h = c.from_residual.ensures.1 in
    record { count = nothing_made c.from_residual.result _ _ h; free = nothing_made c.from_residual.result _ _ h }

pub returns-in_err-readers : goal.returns-in_err-readers
returns-in_err-readers c =
    let h = c.from_residual-in_err-readers.ensures.1 in
    record { count = nothing_made c.from_residual-in_err-readers.result _ _ h; free = nothing_made c.from_residual-in_err-readers.result _ _ h }

pub returns-in_err-push : goal.returns-in_err-push
returns-in_err-push c =
    let h = c.from_residual-in_err-push.ensures.1 in
    record { count = nothing_made c.from_residual-in_err-push.result _ _ h; free = nothing_made c.from_residual-in_err-push.result _ _ h }

pub returns-in_err-push-2 : goal.returns-in_err-push-2
returns-in_err-push-2 c =
    let h = c.from_residual-in_err-push-2.ensures.1 in
    record { count = nothing_made c.from_residual-in_err-push-2.result _ _ h; free = nothing_made c.from_residual-in_err-push-2.result _ _ h }
