-- Counts of messages.
use Rattle.std.proofs.Common.{◌≡◌, ℕ, ◌+◌, List, [], ◌∷◌, ◌++◌, length, ap, arith, length-append}
use Rattle.std.specs.Io.Iter.{u64_saturate}
use Rattle.flow_messages.specs.declared.message.Msg.{Msg}
use Rattle.flow_messages.specs.Signals.{Signal, signals}
use Rattle.flow_messages.specs.TableLaws.{signals-length}

-- what counts a list counts it with one element more, one later
pub count-next : {X : Type 0} {count next : ℕ} {ys : List X} (xs : List X) (x : X) → count ≡ u64_saturate (length xs) → ys ≡ xs ++ x ∷ [] → next
    ≡ u64_saturate (count + 1) → next ≡ u64_saturate (length ys)
count-next {X} {count} {next} {ys} xs x counts longer is = omega (arith, ap length longer, length-append xs (x ∷ []))

-- what counts messages counts what they say
pub count-said : {count : ℕ} {said : List Signal} (ms : List Msg) → said ≡ signals ms → count ≡ u64_saturate (length ms) → count ≡ u64_saturate (length said)
count-said {count} {said} ms is counts = omega (arith, ap length is, signals-length ms)
