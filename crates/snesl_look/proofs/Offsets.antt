-- Lines around offsets.
use Rattle.std.proofs.Common.{◌≡◌, ◌∙◌, ℕ, ◌+◌, ◌-◌, ◌≤◌, List, ◌++◌, arith, drop, length, length-drop, min, not, refl, take}
use Rattle.std.proofs.lemmas.List.{drop-append-le, drop_all, length-take-le, take-append-drop, take_all, take_min}
use Rattle.std.proofs.lemmas.List.Sums.{suffix_len-le-length}
use Rattle.std.proofs.Math.Seq.{take-append-add}
use Rattle.std.specs.List.{after_last, position_or_len, suffix_len}
use Rattle.snesl_look.specs.Places.{is_line_feed, line_text}

-- a part of two lists one after the other, from before the seam to after it
part_over_seam : (a b : List ℕ) (before behind : ℕ) → before ≤ length a
    → take (length a + behind - (length a - before)) (drop (length a - before) (a ++ b)) ≡ drop (length a - before) a ++ take behind b
part_over_seam a b before behind within =
    let tail = drop (length a - before) a in
    let long : length tail ≡ before = omega (arith, length-drop (length a - before) a) in
    let many : length a + behind - (length a - before) ≡ length tail + behind = omega (arith, long) in
    rw (drop-append-le (length a - before) a b (omega arith), many) (take-append-add tail b behind)

-- a part of a text, from before a place to after it
part_around : (text : List ℕ) (place before behind : ℕ) → place ≤ length text → before ≤ place
    → take (place + behind - (place - before)) (drop (place - before) text) ≡ drop (place - before) (take place text) ++ take behind (drop place text)
part_around text place before behind within few =
    let long : length (take place text) ≡ place = length-take-le place text within in
    let whole : take place text ++ drop place text ≡ text = take-append-drop place text in
    let part = part_over_seam (take place text) (drop place text) before behind (omega (arith, long, few)) in
    rw (long, whole) at part

-- after an offset that counts as the end stands what stands after the end
drop_min : (n : ℕ) (xs : List ℕ) → drop (min n (length xs)) xs ≡ drop n xs
drop_min n xs = grind (arith, drop_all)

-- an offset after the text's end counts as that end
pub line_text-min : (text : List ℕ) (offset : ℕ) → line_text text (min offset (length text)) ≡ line_text text offset
line_text-min text offset = rw (take_min offset text, drop_min offset text) refl

-- where the last line of a text begins, by its length
start_of_last : (xs : List ℕ) (n : ℕ) → n ≡ length (after_last is_line_feed xs) → length xs - n ≡ length xs - suffix_len (λ b. not (is_line_feed b)) xs
start_of_last xs n e =
    omega (arith, e, length-drop (length xs - suffix_len (λ b. not (is_line_feed b)) xs) xs, suffix_len-le-length (λ b. not (is_line_feed b)) xs)

-- the part of a text from the start of a place's line to its end is that line
pub line_around : (text : List ℕ) (place before behind : ℕ) → place ≤ length text
    → before ≡ length (after_last is_line_feed (take place text)) → before ≤ length (take place text) → behind ≡ position_or_len is_line_feed (drop place text)
    → take (place + behind - (place - before)) (drop (place - before) text) ≡ line_text text place
line_around text place before behind within begins few ends =
    let long : length (take place text) ≡ place = length-take-le place text within in
    let start = start_of_last (take place text) before begins in
    part_around text place before behind within (omega (arith, long, few)) ∙ rw (← ends, ← start, long) refl

-- what stands from a place on is as long as it is
pub rest_is : (xs : List ℕ) (n : ℕ) → take (length xs - n) (drop n xs) ≡ drop n xs
rest_is xs n = take_all (length xs - n) (drop n xs) (omega (arith, length-drop n xs))

-- a part of a line that begins where the line ends, if it would begin after that, and has at most 120 bytes
pub part_is : (line : List ℕ) (from start shown : ℕ) → start ≡ min from (length line)
    → shown ≡ min 120 (length (take (length line - start) (drop start line)))
    → take shown (take (length line - start) (drop start line)) ≡ take 120 (drop from line)
part_is line from start shown begins ends =
    rw (ends, take_min 120 (take (length line - start) (drop start line)), rest_is line start, begins, drop_min from line) refl
