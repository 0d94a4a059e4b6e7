use Rattle.std.proofs.Common.{◌≡◌, ◌≤◌, ◌+◌, length, not, take}
use Rattle.std.specs.List.{suffix_len}
use Rattle.snesl_look.specs.Places.{is_line_feed}
use Rattle.snesl_look.proofs.places.last_line_len.Given as goal

-- from `start` on there is no line feed
abbrev pub invariant-loop-start : goal.invariant-loop-start
invariant-loop-start l =
    (l.start ≤ length l.text) × (l.start + suffix_len (λ b. not (is_line_feed b)) l.text
    ≡ length l.text + suffix_len (λ b. not (is_line_feed b)) (take l.start l.text))

abbrev pub decreases-loop-start : goal.decreases-loop-start
decreases-loop-start l = l.start
