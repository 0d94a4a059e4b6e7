-- What is ahead of a value that is printed, as it grows.
use Rattle.std.proofs.Common.{◌≡◌, ℕ, zero, suc, ◌+◌, ◌-◌, ◌<◌, ◌≤◌, ◌^◌, List, [], ◌∷◌, ◌++◌, length, take, codes, refl, sym, ap, ◌∙◌, subst, arith}
use Rattle.std.proofs.Common.{Result, Ok, Err, OnOk, Bool, true, false, cond, nat_lt, Option, Some, None, append_assoc, length-append}
use Rattle.std.proofs.Math.Path.{ap₂}
use Rattle.snesl_data.specs.Types.{Ty, int, bool, pair, vec, seq}
use Rattle.std.specs.List.{slice_get}
use Rattle.std.proofs.lemmas.Bool.Decides.{nat_tests}
use Rattle.snesl_data.specs.declared.fault.FaultKind.TheVariants.{Shape}
use Rattle.kahn.specs.declared.want.Want.TheVariants.{Read, Ended, Faulted}
use Rattle.flow_messages.specs.Signals.{stop}
use Rattle.flow_messages.specs.Cells.{Cell, flag, int as int_cell, datum, is_of}
use Rattle.flow_base.specs.declared.worker.Stop.{Stop}
use Rattle.flow_base.specs.declared.worker.Stop.TheVariants.{Faulted as Stopped, OutOfMemory}
use Rattle.flow_values.specs.Shapes.{kinds_of, is_a, kind_at}
use Rattle.flow_values.specs.Flats.{width}
use Rattle.flow_values.specs.Places.{PortsFit}
use Rattle.flow_values.specs.PrintMachine.{closing_brackets, Pending, whole, PrintReading, print_reading, entered_value, next, checked, port_of}
use Rattle.flow_values.specs.PrintMachine.{print_stage, print_state, want_at, read_at, memory_at, print_behaviour}
use Rattle.flow_values.specs.Aheads.{pending_of, stack, LeadsAhead, Finds, LooksAhead, where_led, stage_in, state_in}
use Rattle.flow_values.specs.declared.pending.Pending.{Pending as PendingInMemory}
use Rattle.flow_values.specs.declared.ahead.Ahead.{Ahead}

pub closes-more : (c : ℕ) → closing_brackets (c + 1) ≡ closing_brackets c ++ codes ")"
closes-more zero = refl
closes-more (suc c) = let e : suc c + 1 ≡ suc (c + 1) = omega arith in ap closing_brackets e ∙ ap (λ l. codes ")" ++ l) (closes-more c)

pub stack-append : (xs ys : List PendingInMemory) (after : List Pending) → stack (xs ++ ys) after ≡ stack ys (stack xs after)
stack-append [] ys after = refl
stack-append (x ∷ xs) ys after = stack-append xs ys (pending_of x ∷ after)

-- one more is the next
pub one_next : (old new : List PendingInMemory) (x : PendingInMemory) (a : Pending) (after : List Pending) → new ≡ old ++ x ∷ [] → pending_of x ≡ a → stack new after ≡ a ∷ stack old after
one_next old new x a after is same = ap (λ l. stack l after) is ∙ stack-append old (x ∷ []) after ∙ ap (λ t. t ∷ stack old after) same

-- an element is the next, and then further ones
pub two_next : {E : Type 0} (r : Result (Unit {0}) E) (old start one two : List PendingInMemory) (x y : PendingInMemory) (a b : Pending) → start ≡ old
    → one ≡ start ++ x ∷ [] → OnOk r (two ≡ one ++ y ∷ []) → pending_of x ≡ a → pending_of y ≡ b →
    OnOk r ((after : List Pending) → stack two after ≡ b ∷ a ∷ stack old after)
two_next (Ok u) old start one two x y a b same first second of_x of_y = λ after. one_next one two y b after second of_y
    ∙ ap (λ l. b ∷ l) (one_next start one x a after first of_x ∙ ap (λ l. a ∷ stack l after) same)
two_next (Err e) old start one two x y a b same first second of_x of_y = tt

some_edge : (ty : Ty) → 1 ≤ width ty
some_edge int = omega arith
some_edge bool = omega arith
some_edge (vec item) = omega arith
some_edge (pair first second) = let size = length-append (kinds_of first) (kinds_of second) in let some = some_edge first in omega (arith, size, some)
some_edge (seq item) = omega arith

-- where the edges of a pair are, those of its parts are
pub second_fits : (first second : Ty) (p c : ℕ) → PortsFit (pair first second) p c → PortsFit second (p + width first) (c + 1)
second_fits first second p c h =
    let size = length-append (kinds_of first) (kinds_of second) in
    let some = some_edge first in
    let a = h.0 in
    let b = h.1 in
    (omega (arith, size, a), omega (arith, size, some, b))

pub bracket_fits : (ty : Ty) (p c : ℕ) → PortsFit ty p c → c + 1 < 2 ^ 64
bracket_fits ty p c h = let some = some_edge ty in let b = h.1 in omega (arith, some, b)

-- an item that goes to the first of a pair
module _ (first second : Ty) (p c : ℕ) (x : Cell) (old between new : Ahead) (start : List PendingInMemory) (y : PendingInMemory)
    (said : between.text.items ≡ old.text.items ++ codes "(") (same : start ≡ old.pending.items) (there : between.pending.items ≡ start ++ y ∷ [])
    (is : pending_of y ≡ whole true second (p + width first) (suc c)) where
  pub leads_pair : (r : Result (Unit {0}) Stop) → LeadsAhead (entered_value first p 0 x) r between new → LeadsAhead (entered_value (pair first second) p c x) r old new
  leads_pair (Ok u) h =
      λ after. ap₂ (λ a b. entered_value first p 0 x a b)
      (sym (one_next start between.pending.items y (whole true second (p + width first) (suc c)) after there is ∙ ap (λ l. whole true second (p + width first) (suc c) ∷ stack l after) same))
      (sym said)
      ∙ h after
  leads_pair (Err (Stopped kind)) h = (h.0, λ after before. h.1 (whole true second (p + width first) (suc c) ∷ after) (before ++ codes "("))
  leads_pair (Err OutOfMemory) h = tt

-- the same after another text
abbrev in_front : List ℕ → Option PrintReading → Option PrintReading
in_front u None = None
in_front u (Some r) = Some (print_reading r.pending (u ++ r.text))

front-cond : (u : List ℕ) (b : Bool) (r : PrintReading) → cond b (Some (print_reading r.pending (u ++ r.text))) None ≡ in_front u (cond b (Some r) None)
front-cond u true r = refl
front-cond u false r = refl

said_after : (u v w : List ℕ) (after : List Pending) → Some (print_reading after ((u ++ v) ++ w)) ≡ Some (print_reading after (u ++ (v ++ w)))
said_after u v w after = ap (λ l. Some (print_reading after l)) (append_assoc u v w)

entered_after : (ty : Ty) (p c : ℕ) (x : Cell) (after : List Pending) (u v : List ℕ) → entered_value ty p c x after (u ++ v) ≡ in_front u (entered_value ty p c x after v)
entered_after int p c (int_cell n) after u v = said_after u v _ after
entered_after int p c _ after u v = refl
entered_after bool p c (flag true) after u v = said_after u v _ after
entered_after bool p c (flag false) after u v = said_after u v _ after
entered_after bool p c _ after u v = refl
entered_after (vec item) p c (datum a) after u v = ap (λ l. cond (is_a (vec item) a) (Some (print_reading after l)) None) (append_assoc u v _)
    ∙ front-cond u (is_a (vec item) a) (print_reading after _)
entered_after (vec item) p c _ after u v = refl
entered_after (pair first second) p c x after u v = ap (entered_value first p 0 x _) (append_assoc u v (codes "(")) ∙ entered_after first p 0 x _ u (v ++ codes "(")
entered_after (seq item) p c (flag false) after u v = said_after u v _ _
entered_after (seq item) p c (flag true) after u v = said_after u v _ _
entered_after (seq item) p c _ after u v = refl

-- what leads from no text leads from any
pub finds_entered : (ty : Ty) (p c : ℕ) (x : Cell) (said : List ℕ) (old new : Ahead) → old.pending.items ≡ [] → old.text.items ≡ said →
    ((after : List Pending) → entered_value ty p c x (stack old.pending.items after) old.text.items
    ≡ Some (print_reading (stack new.pending.items after) new.text.items)) →
    (after : List Pending) (before : List ℕ) → entered_value ty p c x after (before ++ said) ≡ Some (print_reading (stack new.pending.items after) (before ++ new.text.items))
finds_entered ty p c x said old new none is leads after before =
    entered_after ty p c x after before said
    ∙ ap (in_front before) (ap₂ (λ l u. entered_value ty p c x (stack l after) u) (sym none) (sym is) ∙ leads after)

-- the last of a list that has one
last_at : {A : Type 0} (n : ℕ) (xs : List A) (x : A) → length xs ≡ suc n → slice_get xs n ≡ Some x → (rest : List A) × (xs ≡ rest ++ x ∷ [])
last_at n [] x size e = absurd (omega arith)
last_at zero (y ∷ []) x size e = let same : y ≡ x = cc in ([], ap (λ z. z ∷ []) same)
last_at zero (y ∷ z ∷ ys) x size e = absurd (omega arith)
last_at (suc n) (y ∷ ys) x size e = let h = last_at n ys x (omega arith) e in (y ∷ h.0, ap (λ l. y ∷ l) h.1)

pub last_of : {A : Type 0} (xs : List A) (x : A) → slice_get xs (length xs - 1) ≡ Some x → (rest : List A) × (xs ≡ rest ++ x ∷ [])
last_of [] x e = absurd (cc)
last_of (y ∷ ys) x e =
    let n : suc (length ys) - 1 ≡ length ys = omega arith in
    last_at (length ys) (y ∷ ys) x refl (sym (ap (slice_get (y ∷ ys)) n) ∙ e)

get_inside : {A : Type 0} (xs : List A) (n : ℕ) → n < length xs → slice_get xs n ≡ None → ⊥
get_inside [] n lt e = absurd (omega arith)
get_inside (x ∷ xs) zero lt e = absurd (cc)
get_inside (x ∷ xs) (suc n) lt e = get_inside xs n (omega arith) e

pub none_last : {A : Type 0} (xs : List A) → slice_get xs (length xs - 1) ≡ None → xs ≡ []
none_last [] e = refl
none_last (y ∷ ys) e = absurd (get_inside (y ∷ ys) (length (y ∷ ys) - 1) (omega arith) e)

-- the last is the next to be read
pub stack_last : (xs : List PendingInMemory) (x : PendingInMemory) (e : slice_get xs (length xs - 1) ≡ Some x) → stack xs [] ≡ pending_of x ∷ stack (last_of xs x e).0 []
stack_last xs x e = let h = last_of xs x e in ap (λ l. stack l []) h.1 ∙ stack-append h.0 (x ∷ []) []

take-front : {A : Type 0} (xs : List A) (x : A) → take (length xs) (xs ++ x ∷ []) ≡ xs
take-front [] x = refl
take-front (y ∷ xs) x = ap (λ l. y ∷ l) (take-front xs x)

pub all_but_last : {A : Type 0} (all rest : List A) (x : A) → all ≡ rest ++ x ∷ [] → take (length all - 1) all ≡ rest
all_but_last all rest x e =
    let size : length all ≡ length rest + 1 = ap length e ∙ length-append rest (x ∷ []) in
    let n : length all - 1 ≡ length rest = omega (arith, size) in
    ap₂ (λ k l. take k l) n e ∙ take-front rest x

step_free : (l : List Pending) → stage_in false 0 l ≡ print_stage l
step_free [] = refl
step_free (x ∷ xs) = refl

-- the state where the last was taken and this was put in its place
pub advanced : (ty : Ty) (text said new_text : List ℕ) (at : ℕ) (stuck : Bool) (old popped new more : List PendingInMemory) → stuck ≡ false → popped
    ≡ take (length old - 1) old → new ≡ popped ++ more → new_text ≡ text ++ said →
    (rest : List PendingInMemory) (first : PendingInMemory) → old ≡ rest ++ first ∷ [] → state_in ty new new_text 0 stuck at
    ≡ print_state ty (print_stage (stack more (stack rest []))) (text ++ said) at
advanced ty text said new_text at stuck old popped new more free pop put is rest first e =
    let there : stack new [] ≡ stack more (stack rest []) = ap (λ l. stack l []) (put ∙ ap (λ l. l ++ more) (pop ∙ all_but_last old rest first e)) ∙ stack-append rest more [] in
    ap₂ (λ s t. print_state ty s t at) (ap₂ (λ b l. stage_in b 0 l) free there ∙ step_free (stack more (stack rest []))) is

-- what the state wants where something is still to be read, and where nothing is
pub wants_last : (ty : Ty) (pending : List PendingInMemory) (text : List ℕ) (port : ℕ) (stuck : Bool) (at : ℕ) (x : PendingInMemory) → stuck ≡ false → slice_get pending (length pending - 1) ≡ Some x →
    print_behaviour.process.want (state_in ty pending text port stuck at)
    ≡ cond (nat_lt (port_of (pending_of x)) (width ty)) (Read (port_of (pending_of x))) (Faulted (record { kind = Shape; at = at }))
wants_last ty pending text port stuck at x free e =
    ap₂ (λ b l. want_at (stage_in b port l) (print_state ty (stage_in b port l) text at)) free (stack_last pending x e)

pub wants_read : (ty : Ty) (pending : List PendingInMemory) (text : List ℕ) (port : ℕ) (stuck : Bool) (at : ℕ) (x : PendingInMemory) (n p : ℕ) → stuck
    ≡ false → slice_get pending (length pending - 1) ≡ Some x → n ≡ width ty → p ≡ port_of (pending_of x) → p < n →
    Read p ≡ print_behaviour.process.want (state_in ty pending text port stuck at)
wants_read ty pending text port stuck at x n p free e size is lt =
    let inside : nat_lt (port_of (pending_of x)) (width ty) ≡ true = grind (arith, nat_tests) in
    ap Read is ∙ sym (wants_last ty pending text port stuck at x free e ∙ ap (λ b. cond b (Read (port_of (pending_of x))) (Faulted (record { kind = Shape; at = at }))) inside)

pub wants_fault : (ty : Ty) (pending : List PendingInMemory) (text : List ℕ) (port : ℕ) (stuck : Bool) (at : ℕ) (x : PendingInMemory) (n p : ℕ) →
    stuck ≡ false → slice_get pending (length pending - 1) ≡ Some x → n ≡ width ty → p ≡ port_of (pending_of x) → n ≤ p →
    Faulted (record { kind = Shape; at = at }) ≡ print_behaviour.process.want (state_in ty pending text port stuck at)
wants_fault ty pending text port stuck at x n p free e size is le =
    let outside : nat_lt (port_of (pending_of x)) (width ty) ≡ false = grind (arith, nat_tests) in
    sym (wants_last ty pending text port stuck at x free e ∙ ap (λ b. cond b (Read (port_of (pending_of x))) (Faulted (record { kind = Shape; at = at }))) outside)

-- where an item leads that is given to the last
pub found_last : (ty : Ty) (pending : List PendingInMemory) (text : List ℕ) (port : ℕ) (stuck : Bool) (at : ℕ) (x : PendingInMemory)
    (free : stuck ≡ false) (e : slice_get pending (length pending - 1) ≡ Some x) (c : Cell) →
    where_led (stage_in stuck port (stack pending [])) (state_in ty pending text port stuck at) c
    ≡ checked (is_of (kind_at (kinds_of ty) (port_of (pending_of x))) c) (next (pending_of x) c (stack (last_of pending x e).0 []) text)
found_last ty pending text port stuck at x free e c =
    ap₂ (λ b l. where_led (stage_in b port l) (print_state ty (stage_in b port l) text at) c) free (stack_last pending x e)

-- an item of another kind than the port's leads nowhere
pub found_none : (ty : Ty) (pending : List PendingInMemory) (text : List ℕ) (port : ℕ) (stuck : Bool) (at : ℕ) (x : PendingInMemory) → stuck ≡ false →
    slice_get pending (length pending - 1) ≡ Some x → (c : Cell) →
    is_of (kind_at (kinds_of ty) (port_of (pending_of x))) c ≡ false → where_led (stage_in stuck port (stack pending [])) (state_in ty pending text port stuck at) c ≡ None
found_none ty pending text port stuck at x free e c other = found_last ty pending text port stuck at x free e c
    ∙ ap (λ b. checked b (next (pending_of x) c (stack (last_of pending x e).0 []) text)) other

not_empty : {A : Type 0} (xs rest : List A) (x : A) → xs ≡ rest ++ x ∷ [] → xs ≡ [] → ⊥
not_empty xs rest x e none = go rest (sym none ∙ e)
  where
    go : (rest : List _) → [] ≡ rest ++ x ∷ [] → ⊥
    go [] e = absurd (cc)
    go (y ∷ rest) e = absurd (cc)

-- what was found ahead of the last is where the item leads
pub found_ahead : (ty : Ty) (pending : List PendingInMemory) (text : List ℕ) (port : ℕ) (stuck : Bool) (at : ℕ) (x : PendingInMemory) → stuck ≡ false
    → slice_get pending (length pending - 1) ≡ Some x → (c : Cell) →
    is_of (kind_at (kinds_of ty) (port_of (pending_of x))) c ≡ true → (result : Result Ahead Stop) → Finds (next (pending_of x) c) result →
    LooksAhead (where_led (stage_in stuck port (stack pending [])) (state_in ty pending text port stuck at) c) pending text result
found_ahead ty pending text port stuck at x free e c fits result finds = go result finds
  where
    rest : List PendingInMemory
    rest = (last_of pending x e).0

    there : where_led (stage_in stuck port (stack pending [])) (state_in ty pending text port stuck at) c ≡ next (pending_of x) c (stack (last_of pending x e).0 []) text
    there = found_last ty pending text port stuck at x free e c ∙ ap (λ b. checked b (next (pending_of x) c (stack (last_of pending x e).0 []) text)) fits

    go : (result : Result Ahead Stop) → Finds (next (pending_of x) c) result →
        LooksAhead (where_led (stage_in stuck port (stack pending [])) (state_in ty pending text port stuck at) c) pending text result
    go (Ok ahead) h = ((last_of pending x e).0, x, (last_of pending x e).1, there ∙ h (stack (last_of pending x e).0 []) text)
    go (Err (Stopped kind)) h = there ∙ h.1 (stack (last_of pending x e).0 []) text
    go (Err OutOfMemory) h = not_empty pending (last_of pending x e).0 x (last_of pending x e).1

-- what wants to read is not stuck
pub not_stuck : (ty : Ty) (pending : List PendingInMemory) (text : List ℕ) (port : ℕ) (stuck : Bool) (at p : ℕ) →
    print_behaviour.process.want (state_in ty pending text port stuck at) ≡ Read p → stuck ≡ false
not_stuck ty pending text port false at p e = refl
not_stuck ty pending text port true at p e = absurd (cc)

stack_full : (xs : List PendingInMemory) (a : Pending) (after : List Pending) → (b : Pending) × (l : List Pending) × (stack xs (a ∷ after) ≡ b ∷ l)
stack_full [] a after = (a, after, refl)
stack_full (x ∷ xs) a after = stack_full xs (pending_of x) (a ∷ after)

-- an end inside the value
pub end_inside : (ty : Ty) (pending : List PendingInMemory) (text : List ℕ) (port : ℕ) (stuck : Bool) (at : ℕ) → (pending ≡ [] → ⊥) →
    state_in ty pending text port true at ≡ read_at (stage_in stuck port (stack pending [])) (state_in ty pending text port stuck at) stop
end_inside ty [] text port stuck at some = absurd (some refl)
end_inside ty (x ∷ pending) text port true at some = refl
end_inside ty (x ∷ pending) text port false at some =
    let s = stack_full pending (pending_of x) [] in
    sym (ap (λ l. read_at (stage_in false port l) (print_state ty (stage_in false port l) text at) stop) s.2)

-- where memory is not needed, nothing is still to be read
pub none_ahead : (pending : List PendingInMemory) (port : ℕ) (stuck : Bool) → stuck ≡ false → memory_at (stage_in stuck port (stack pending [])) ≡ false → pending ≡ []
none_ahead [] port stuck free e = refl
none_ahead (x ∷ pending) port stuck free e =
    let s = stack_full pending (pending_of x) [] in
    let never : true ≡ false = sym (ap₂ (λ b l. memory_at (stage_in b port l)) free s.2) ∙ e in
    absurd (cc)

-- where all inputs have ended, nothing is read
pub no_more_ends : (ty : Ty) (pending : List PendingInMemory) (text : List ℕ) (port : ℕ) (stuck : Bool) (at n p : ℕ) → pending ≡ [] → n ≡ width ty →
    n ≤ port → print_behaviour.process.want (state_in ty pending text port stuck at) ≡ Read p → ⊥
no_more_ends ty pending text port stuck at n p none size le e =
    let outside : nat_lt port (width ty) ≡ false = grind (arith, nat_tests) in
    let free = not_stuck ty pending text port stuck at p e in
    let never : Ended ≡ Read p =
    sym (ap₂ (λ b l. want_at (stage_in b port (stack l [])) (print_state ty (stage_in b port (stack l [])) text at)) free none
    ∙ ap (λ b. cond b (Read port) Ended) outside) ∙ e in
    absurd (cc)

-- memory is refused only where something is still to be read
pub refused : (there : Option PrintReading) (pending : List PendingInMemory) (text : List ℕ) (e : Stop) → e ≡ OutOfMemory → LooksAhead there pending text (Err e) → pending ≡ [] → ⊥
refused there pending text e is h = subst (λ e. LooksAhead there pending text (Err e)) is h
