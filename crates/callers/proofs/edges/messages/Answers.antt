use Rattle.std.proofs.Common.{◌+◌, [], ◌∷◌, arith}
use Rattle.flow_edges.specs.Msg.TheVariants.{Item as ItemMsg}
use Rattle.callers.proofs.Passing.{open_at_first, open_after_one, open_after_two, HasPut, may_put, has_put}
use Rattle.callers.proofs.edges.messages.Goals as goal

pub unwrap-requires : goal.unwrap-requires
unwrap-requires c =
    let w0 = c.in_ok-writer.writer in
    let made = c.in_ok-writer.ensures.writer in
    let none : HasPut w0 [] (2 + 1) = record { sent_is = made.0; room_is = omega (arith, made.1) } in
    may_put w0 [] 2 c.put.result none open_at_first c.put.ensures.succeeds

pub unwrap-requires-2 : goal.unwrap-requires-2
unwrap-requires-2 c =
    let first = ItemMsg c.args.first in
    let w0 = c.in_ok-writer.writer in
    let w1 = c.put.new.self in
    let made = c.in_ok-writer.ensures.writer in
    let none : HasPut w0 [] (2 + 1) = record { sent_is = made.0; room_is = omega (arith, made.1) } in
    let one : HasPut w1 (first ∷ []) (1 + 1) = has_put w0 w1 [] first 2 c.put.result none c.unwrap.ensures c.put.ensures.ok in
    may_put w1 (first ∷ []) 1 c.put-2.result one (open_after_one c.args.first) c.put-2.ensures.succeeds

pub unwrap-requires-3 : goal.unwrap-requires-3
unwrap-requires-3 c =
    let first = ItemMsg c.args.first in
    let second = ItemMsg c.args.second in
    let w0 = c.in_ok-writer.writer in
    let w1 = c.put.new.self in
    let w2 = c.put-2.new.self in
    let made = c.in_ok-writer.ensures.writer in
    let none : HasPut w0 [] (2 + 1) = record { sent_is = made.0; room_is = omega (arith, made.1) } in
    let one : HasPut w1 (first ∷ []) (1 + 1) = has_put w0 w1 [] first 2 c.put.result none c.unwrap.ensures c.put.ensures.ok in
    let two : HasPut w2 (first ∷ second ∷ []) (0 + 1) = has_put w1 w2 (first ∷ []) second 1 c.put-2.result one c.unwrap-2.ensures c.put-2.ensures.ok in
    may_put w2 (first ∷ second ∷ []) 0 c.put-3.result two (open_after_two c.args.first c.args.second) c.put-3.ensures.succeeds
