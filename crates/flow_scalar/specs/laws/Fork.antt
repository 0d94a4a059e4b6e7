-- The runs of Fork are its row.
use Rattle.std.specs.Prelude.{◌≡◌, ℕ, zero, suc, ◌+◌, ◌-◌, ◌<◌, ◌≤◌, true, List, [], ◌∷◌, Ok, refl}
use Rattle.std.proofs.Common.{arith, sym, ◌∙◌, ap, subst}
use Rattle.flow_messages.specs.Cells.{Cell, is_of}
use Rattle.flow_base.specs.Lists.{Lists}
use Rattle.flow_base.specs.Ranges.{AllOf}
use Rattle.flow_base.specs.Ports.{each_port}
use Rattle.flow_base.specs.Columns.{Columns, columns, push_column, nothing, At, column_is, columns_same}
use Rattle.flow_base.specs.Machines.{MachineLaws, SoundAt, Run, Runs}
use Rattle.flow_base.specs.MachineRuns.{Then, reading, writing, run_is, leads_on, led_on}
use Rattle.flow_scalar.specs.ForkMachine.{ForkPorts, ForkState, idle, holding, fork_move, fork_machine}

-- the table keeps to its laws
sound : (p : ForkPorts) (s : ForkState) → SoundAt fork_machine p s (fork_move p s)
sound p idle = (refl, (omega arith, refl, λ _ x e. e, λ _ _ _ x e h. h))
sound p (holding x zero) = (omega arith, omega arith, λ h. (h, tt), λ _ _ h. (h, tt))
sound p (holding x (suc left)) = (omega arith, omega arith, λ h. (h, h), λ _ _ h. (h, h))

-- so many outputs have the item, and the next and so many after it are to get it
abbrev fan : Cell → List Cell → ℕ → ℕ → Columns
fan x r zero zero = (x ∷ r) ∷ []
fan x r zero (suc left) = (x ∷ r) ∷ fan x r zero left
fan x r (suc done) left = r ∷ fan x r done left

-- each output
abbrev same : ℕ → List Cell → Columns
same zero r = r ∷ []
same (suc n) r = r ∷ same n r

-- what holds of the item and the others, holds where the last output has it first
at_last : (x : Cell) (r : List Cell) (done : ℕ) (P : Cell → Columns → Type 0) → P x (same done r) → At done (fan x r done zero) P
at_last x r zero P h = h
at_last x r (suc done) P h = at_last x r done (λ y c. P y (r ∷ c)) h

-- or one that others follow
at_next : (x : Cell) (r : List Cell) (done left : ℕ) (P : Cell → Columns → Type 0) → P x (fan x r (suc done) left) → At done (fan x r done (suc left)) P
at_next x r zero left P h = h
at_next x r (suc done) left P h = at_next x r done left (λ y c. P y (r ∷ c)) h

-- one item more at the last output
pushed_last : (x : Cell) (r : List Cell) (done : ℕ) → push_column done x (same done r) ≡ fan x r done zero
pushed_last x r zero = refl
pushed_last x r (suc done) = ap (λ c. r ∷ c) (pushed_last x r done)

-- and at one that others follow
pushed_next : (x : Cell) (r : List Cell) (done left : ℕ) → push_column done x (fan x r (suc done) left) ≡ fan x r done (suc left)
pushed_next x r zero left = refl
pushed_next x r (suc done) left = ap (λ c. r ∷ c) (pushed_next x r done left)

-- where all outputs are to get the item, each has it in front
fan_all : (x : Cell) (r : List Cell) (n : ℕ) → fan x r zero n ≡ same n (x ∷ r)
fan_all x r zero = refl
fan_all x r (suc n) = ap (λ c. (x ∷ r) ∷ c) (fan_all x r n)

-- each output with no items
same_nothing : (n : ℕ) → same n [] ≡ nothing (suc n)
same_nothing zero = refl
same_nothing (suc n) = ap (λ c. [] ∷ c) (same_nothing n)

-- the writes that are left, and then a run, are a run
copies : (p : ForkPorts) (x : Cell) (left done : ℕ) → done + left ≡ p.others → (a r : List Cell) → Runs fork_machine p idle (a ∷ []) (same p.others r)
    → Runs fork_machine p (holding x left) (a ∷ []) (fan x r done left)
copies p x zero done e a r run =
    let here : done ≡ p.others = omega arith in
    let port : done ≡ p.others - 0 = omega arith in
    let back : Run fork_machine p run.0 idle (a ∷ []) (same done r) = subst (λ n. Run fork_machine p run.0 idle (a ∷ []) (same n r)) (sym here) run.1 in (
      suc run.0,
      subst (λ q. At q (fan x r done zero) (λ y c. (y ≡ x) × Run fork_machine p run.0 idle (a ∷ []) c)) port
          (at_last x r done (λ y c. (y ≡ x) × Run fork_machine p run.0 idle (a ∷ []) c) (refl, back)),
    )
copies p x (suc left) done e a r run =
    let k = copies p x left (suc done) (omega arith) a r run in
    let port : done ≡ p.others - suc left = omega arith in (
      suc k.0,
      subst (λ q. At q (fan x r done (suc left)) (λ y c. (y ≡ x) × Run fork_machine p k.0 (holding x left) (a ∷ []) c)) port
          (at_next x r done left (λ y c. (y ≡ x) × Run fork_machine p k.0 (holding x left) (a ∷ []) c) (refl, k.1)),
    )

-- the row is a run
runs : (p : ForkPorts) (a : List Cell) → AllOf p.kind a → Runs fork_machine p idle (a ∷ []) (same p.others a)
runs p [] h = (zero, (refl, same_nothing p.others))
runs p (x ∷ a) h =
    let k = copies p x p.others zero (omega arith) a a (runs p a h.1) in (
      suc k.0,
      leads_on p.kind (λ x. Ok (holding x p.others)) x (λ s. Run fork_machine p k.0 s (a ∷ []) (same p.others (x ∷ a))) h.0
          (subst (λ c. Run fork_machine p k.0 (holding x p.others) (a ∷ []) c) (fan_all x a p.others) k.1),
    )

-- what a run reads and writes, where no more outputs are left than there are
data Owes (p : ForkPorts) : ForkState → Columns → Columns → Type 0 where
  start : (a : List Cell) → AllOf p.kind a → Owes p idle (a ∷ []) (same p.others a)
  held : (x : Cell) (left done : ℕ) (a : List Cell) → done + left ≡ p.others → AllOf p.kind a → Owes p (holding x left) (a ∷ []) (fan x a done left)

-- no more outputs are left than there are
abbrev Within : ForkPorts → ForkState → Type 0
Within p idle = Unit {0}
Within p (holding x left) = left ≤ p.others

-- an item in front of what is read
begun : (p : ForkPorts) (x : Cell) (i o : Columns) → is_of p.kind x ≡ true → Owes p (holding x p.others) i o → Owes p idle (push_column 0 x i) o
begun p x _ _ is (held _ _ done a e h) =
    let none : zero ≡ done = omega arith in
    subst (λ c. Owes p idle ((x ∷ a) ∷ []) c) (sym (fan_all x a p.others) ∙ ap (λ d. fan x a d p.others) none) (start (x ∷ a) (is, h))

-- the write to the last output
last_left : (p : ForkPorts) (x : Cell) (i o : Columns) → Owes p idle i o → Owes p (holding x zero) i (push_column (p.others - 0) x o)
last_left p x _ _ (start a h) =
    let port : p.others ≡ p.others - 0 = omega arith in
    subst (λ q. Owes p (holding x zero) (a ∷ []) (push_column q x (same p.others a))) port
    (subst (λ c. Owes p (holding x zero) (a ∷ []) c) (sym (pushed_last x a p.others)) (held x zero p.others a (omega arith) h))

-- a write that others follow
next_left : (p : ForkPorts) (x : Cell) (left : ℕ) (i o : Columns) → suc left ≤ p.others → Owes p (holding x left) i o → Owes p (holding x (suc left)) i (push_column (p.others - suc left) x o)
next_left p x left _ _ le (held _ _ zero a e h) = absurd (omega arith)
next_left p x left _ _ le (held _ _ (suc done) a e h) =
    let port : done ≡ p.others - suc left = omega arith in
    subst (λ q. Owes p (holding x (suc left)) (a ∷ []) (push_column q x (fan x a (suc done) left))) port
    (subst (λ c. Owes p (holding x (suc left)) (a ∷ []) c) (sym (pushed_next x a done left)) (held x (suc left) done a (omega arith) h))

-- what the next state owes, and the step before it
earlier : (p : ForkPorts) (s : ForkState) (x : Cell) (i o : Columns) → Then (λ next. Within p next → Owes p next i o) (fork_move p s) x → Within p s →
    Owes p s (reading (fork_move p s) x i) (writing (fork_move p s) o)
earlier p idle x i o h w = let g = led_on p.kind (λ x. Ok (holding x p.others)) x (λ next. Within p next → Owes p next i o) h in begun p x i o g.0 (g.1 (omega arith))
earlier p (holding y zero) x i o h w = last_left p y i o (h tt)
earlier p (holding y (suc left)) x i o h w = next_left p y left i o w (h (omega arith))

-- the columns of the outputs are the same list exactly where each output is that list
same_ports : (n : ℕ) (o : Lists Cell) (a : List Cell) → columns (suc n) o ≡ same n a → (q : ℕ) → q < suc n → o q ≡ a
same_ports n o a e q lt = sym (column_is (suc n) o q lt) ∙ ap (λ c. each_port c q) e ∙ go n q lt
  where
    go : (n q : ℕ) → q < suc n → each_port (same n a) q ≡ a
    go zero zero lt = refl
    go zero (suc q) lt = absurd (omega arith)
    go (suc n) zero lt = refl
    go (suc n) (suc q) lt = go n q (omega arith)

ports_same : (n : ℕ) (o : Lists Cell) (a : List Cell) → ((q : ℕ) → q < suc n → o q ≡ a) → columns (suc n) o ≡ same n a
ports_same n o a h = columns_same (suc n) o (λ _. a) h ∙ go n
  where
    go : (n : ℕ) → columns (suc n) (λ _. a) ≡ same n a
    go zero = refl
    go (suc n) = ap (λ c. a ∷ c) (go n)

-- what is owed between two items is the row
whole : {p : ForkPorts} {a : List Cell} {c : Columns} → Owes p idle (a ∷ []) c → AllOf p.kind a × (c ≡ same p.others a)
whole (start a h) = (h, refl)

pub fork_laws : MachineLaws fork_machine
fork_laws = record {
  sound = sound;
  begins_at_start = λ _. refl;
  starts_of_kind = λ _. tt;
  rows = λ p i o. (
    λ row. subst (λ c. Runs fork_machine p idle (i 0 ∷ []) c) (sym (ports_same p.others o (i 0) row.1)) (runs p (i 0) row.0),
    λ r.
        let none : Owes p idle ([] ∷ []) (nothing (suc p.others)) = subst (λ c. Owes p idle ([] ∷ []) c) (same_nothing p.others) (start [] tt) in
        let g = whole (run_is fork_machine p (λ s i o. Within p s → Owes p s i o) (sound p) (λ _. none) (earlier p) idle (columns 1 i) (columns (suc p.others) o) r tt) in
        (g.0, same_ports p.others o (i 0) g.1),
  );
}
