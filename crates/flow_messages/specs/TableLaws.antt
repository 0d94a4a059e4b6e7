-- What every table keeps.
use Rattle.std.proofs.Common.{◌≡◌, ℕ, zero, suc, ◌+◌, ◌<◌, ◌≤◌, true, List, [], ◌∷◌, ◌++◌, length, drop, refl, sym, ap, ◌∙◌, arith}
use Rattle.std.proofs.Math.Seq.{drop-append_seam}
use Rattle.std.specs.List.{All}
use Rattle.flow_messages.specs.declared.line.Line.{Line}
use Rattle.flow_messages.specs.declared.table.Table.{Table}
use borrow.Author.Tests.{ltb-true}
use Rattle.flow_messages.specs.declared.message.Msg.{Msg}
use Rattle.flow_messages.specs.Signals.{signals, signal_of, orderly}
use Rattle.flow_messages.specs.Tables.{view_of_lines, ends_of, capacity_of}
use Rattle.flow_messages.specs.Stores.{content_of}
use Rattle.flow_messages.specs.Lines.{gone}
use Rattle.flow_messages.specs.Ends.{held}
use Rattle.flow_messages.specs.Whole.{IsWhole, waiting}

pub same_capacity_refl : (a : Table) → capacity_of a ≡ capacity_of a
same_capacity_refl a = refl

pub same_capacity_trans : (a b c : Table) → capacity_of b ≡ capacity_of a → capacity_of c ≡ capacity_of b → capacity_of c ≡ capacity_of a
same_capacity_trans a b c p q = q ∙ p

pub signals-append : (ms ns : List Msg) → signals (ms ++ ns) ≡ signals ms ++ signals ns
unfolding signals
signals-append [] ns = refl
signals-append (m ∷ ms) ns = ap (λ l. signal_of m ∷ l) (signals-append ms ns)

pub signals-length : (ms : List Msg) → length (signals ms) ≡ length ms
unfolding signals
signals-length [] = refl
signals-length (m ∷ ms) = ap suc (signals-length ms)

abbrev received_of : Line → List Msg
received_of l = gone l.sent.items (content_of l.store)

-- what waits on a line is what it holds
line_waits : (l : Line) → drop (length (signals (received_of l))) (signals l.sent.items) ≡ signals (content_of l.store)
line_waits l =
    let r = signals (received_of l) in
    ap (λ (s : List Msg). drop (length r) (signals s)) (sym l.fifo)
    ∙ ap (drop (length r)) (signals-append (received_of l) (content_of l.store))
    ∙ drop-append_seam r (signals (content_of l.store))

lines_in_order : (ls : List Line) (e : ℕ) → (view_of_lines ls).received e ++ waiting (view_of_lines ls) e ≡ (view_of_lines ls).sent e
lines_in_order [] e = refl
lines_in_order (l ∷ ls) zero =
    ap (λ x. signals (received_of l) ++ x) (line_waits l)
    ∙ sym (signals-append (received_of l) (content_of l.store))
    ∙ ap signals l.fifo
lines_in_order (l ∷ ls) (suc e) = lines_in_order ls e

lines_coming : (ls : List Line) (e : ℕ) → (view_of_lines ls).coming e ≡ waiting (view_of_lines ls) e
lines_coming [] e = refl
lines_coming (l ∷ ls) zero = sym (line_waits l)
lines_coming (l ∷ ls) (suc e) = lines_coming ls e

lines_room : (capacity : ℕ) (ls : List Line) → All (λ l. l.store.capacity ≡ capacity) ls → (e : ℕ) → e < length ls → (view_of_lines ls).room e + held (view_of_lines ls) e ≡ capacity
lines_room capacity [] even e there = absurd (omega arith)
lines_room capacity (l ∷ ls) even zero there = omega (arith, l.store.bound, l.store.counts, even 0 l (omega arith), signals-length (content_of l.store))
lines_room capacity (l ∷ ls) even (suc e) there = lines_room capacity ls (λ k d low. even (suc k) d (omega arith)) e (omega arith)

lines_hold : (capacity : ℕ) (ls : List Line) → All (λ l. l.store.capacity ≡ capacity) ls → (e : ℕ) → held (view_of_lines ls) e ≤ capacity
lines_hold capacity [] even e = omega arith
lines_hold capacity (l ∷ ls) even zero = omega (arith, l.store.bound, l.store.counts, even 0 l (omega arith), signals-length (content_of l.store))
lines_hold capacity (l ∷ ls) even (suc e) = lines_hold capacity ls (λ k d low. even (suc k) d (omega arith)) e

-- no edge of a table holds more than its capacity
pub table_holds : (t : Table) (e : ℕ) → held (ends_of t) e ≤ capacity_of t
table_holds t e = lines_hold t.capacity t.lines.items t.even e

lines_orderly : (ls : List Line) (e : ℕ) → orderly ((view_of_lines ls).sent e) ≡ true
unfolding orderly
lines_orderly [] e = refl
lines_orderly (l ∷ ls) zero = l.orderly
lines_orderly (l ∷ ls) (suc e) = lines_orderly ls e

pub whole_table : (t : Table) → IsWhole (capacity_of t) (ends_of t)
whole_table t = record {
  both = λ e. refl;
  in_order = lines_in_order t.lines.items;
  coming = lines_coming t.lines.items;
  room = λ e there. lines_room t.capacity t.lines.items t.even e (omega (arith, ltb-true));
  orderly = lines_orderly t.lines.items;
}
