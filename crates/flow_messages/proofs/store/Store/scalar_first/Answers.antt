use Rattle.std.proofs.Common.{◌≡◌, ◌<◌, [], length, refl, sym, ap, ◌∙◌, arith}
use Rattle.std.specs.Prelude.{nat_lt}
use Rattle.flow_messages.specs.Flats.{scalar_first}
use Rattle.flow_messages.specs.Columns.{column_messages, ending}
use Rattle.flow_messages.specs.Signals.{signals}
use Rattle.flow_messages.proofs.Columns.{end_tells, no_first, scalars_tell, vectors_tell}
use Rattle.flow_messages.proofs.Contents.{content-is, empty_of}
use Rattle.flow_messages.proofs.store.Store.scalar_first.Goals as goal
use Rattle.std.proofs.Common.{◌++◌}

pub returns-in-Some : goal.returns-in-Some
returns-in-Some c =
    let s = c.args.self.now in
    let q = c.in-Vectors.queue.items in
    let some : 0 < length q = omega (arith, c.front.ensures.variant.0 (rw c.in-Some.is refl)) in
    c.is_scalar.ensures ∙ vectors_tell q (ending s.ends) _ some c.in-Some.ensures.lookup
    ∙ sym (ap (λ l. scalar_first (signals l)) (content-is s.column s.ends ∙ ap (λ k. column_messages k ++ ending s.ends) c.in-Vectors.is))

pub returns-in-None : goal.returns-in-None
returns-in-None c =
    let s = c.args.self.now in
    let q = c.in-Vectors.queue.items in
    let none : q ≡ [] = empty_of q (no_first (length q) c.front.result (λ some. c.front.ensures.variant.1 (omega (arith, some))) c.in-None.is) in
    end_tells s.ends
    ∙ sym (ap (λ l. scalar_first (signals l)) (content-is s.column s.ends ∙ ap (λ k. column_messages k ++ ending s.ends) c.in-Vectors.is ∙ ap (λ l. l ++ ending s.ends) none))

pub returns-in_default : goal.returns-in_default
returns-in_default c =
    let s = c.args.self.now in
    ap (nat_lt 0) s.counts ∙ scalars_tell s.column s.ends c.in_default.not-Vectors
