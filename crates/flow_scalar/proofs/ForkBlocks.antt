-- Copies of items, to each output.
use Rattle.std.proofs.Common.{◌≡◌, ℕ, ℤ, slice_get, Some, zero, suc, ◌+◌, ◌-◌, ◌*◌, ◌<◌, ◌≤◌, Bool, true, false, cond, eqb, nat_lt, List, [], ◌∷◌}
use Rattle.std.proofs.Common.{◌++◌, length, take, Ok, Err, refl, sym, ◌∙◌, ap, subst, arith, append-nil, eq-eqb, ne_eqb, inl, inr}
use Rattle.std.proofs.lemmas.Bool.{cases_eq, cases_lt}
use Rattle.std.proofs.lemmas.Bool.Decides.{nat_tests}
use Rattle.std.proofs.Math.Seq.{take-length}
use Rattle.std.proofs.lemmas.List.{length-take-le, take-append-le}
use mathlib.Core.List.{IsPrefix}
use Rattle.kahn.specs.declared.want.Want.TheVariants.{Write}
use Rattle.snesl_data.specs.declared.fault.FaultKind.TheVariants.{Shape}
use Rattle.flow_messages.specs.Blocks.{unit_signals, flag_signals, int_signals, item_signals}
use Rattle.flow_messages.specs.Cells.{Cell, is_of}
use Rattle.flow_messages.specs.Contents.{item_messages}
use Rattle.flow_messages.specs.Ends.{View, LookedForRoom, PutAll}
use Rattle.flow_messages.specs.Signals.{Signal, carry, stop, ended, signal_of}
use Rattle.flow_messages.specs.declared.message.Kind.{Kind}
use Rattle.flow_messages.specs.declared.message.Msg.{Msg}
use Rattle.flow_messages.specs.declared.message.Kind.TheVariants.{Unit as UnitKind, Bool as BoolKind, Int as IntKind}
use Rattle.flow_base.specs.Along.{MovesAlong, written_at}
use Rattle.flow_base.specs.Machines.{Move, gives, ask_of, written_cell, state_after_write}
use Rattle.flow_base.specs.Nodes.{NodeState, behaviour_of, node_state, want_for}
use Rattle.flow_base.specs.Visits.{edge_of, Went, Wrote}
use Rattle.flow_base.specs.declared.node.Phase.TheVariants.{Working}
use Rattle.flow_messages.specs.declared.items.Items.{Items}
use Rattle.flow_base.specs.declared.slices.Written.{Written}
use Rattle.flow_base.proofs.Along.{Along, no_messages, nothing_said, units_shown, flags_shown, ints_shown, units_within, flags_within, ints_within, ran_as, ran_first, ran_none, ran_then, ran_write}
use Rattle.flow_messages.proofs.Blocks.{prefix_then}
use Rattle.flow_messages.proofs.SideBySide.{item_signal_at}
use Rattle.flow_base.proofs.Batches.{block_then}
use Rattle.flow_base.proofs.Carried.{prefix_same}
use Rattle.flow_base.proofs.Kernels.{went_write, went_looked}
use Rattle.flow_scalar.specs.ForkCopies.{Copied, copies_of}
use Rattle.flow_scalar.specs.ForkMachine.{ForkPorts, ForkState, fork_ports, fork_state, idle, holding, fork_move, fork_machine}
use Rattle.flow_scalar.specs.SinkShown.{EachFits}
use Rattle.flow_scalar.specs.declared.fork.Fork.{Fork}
use Rattle.flow_scalar.proofs.SinkBlocks.{fit_units, fit_flags, fit_ints}

-- what the machine sees of a fork
abbrev pub fork_view : Fork → ForkPorts × ForkState
fork_view n = (fork_ports n.kind n.outputs, fork_state n.outputs n.next n.held)

-- what a buffer starts with is what was copied there
pub filled : {X : Type 0} (count : ℕ) (shown old new : List X) → count ≤ length shown → new ≡ take count shown → take count (new ++ old) ≡ take count shown
filled count shown old new within is =
    let long : length new ≡ count = ap length is ∙ length-take-le count shown within in
    take-append-le count new old (omega arith) ∙ ap (λ n. take n new) (sym long) ∙ take-length new ∙ is

-- so many outputs are to get the item
abbrev pub owing : Cell → ℕ → ForkState
owing x zero = idle
owing x (suc left) = holding x left

gives_next : (p : ForkPorts) (x : Cell) (left : ℕ) → fork_move p (holding x left) ≡ gives (p.others - left) x (owing x left)
gives_next p x zero = refl
gives_next p x (suc left) = refl

-- what the first so many outputs get
abbrev to_first : ℕ → List Signal → ℕ → List Signal
to_first n block q = cond (nat_lt q n) block []

to_none : (block : List Signal) (q : ℕ) → no_messages ≡ to_first 0 block q
to_none block q =
    let over : nat_lt q 0 ≡ false = grind (arith, nat_tests) in
    sym (ap (λ b. cond b block no_messages) over)

to_one_more : (n : ℕ) (block : List Signal) (q : ℕ) → to_first n block q ++ cond (eqb q n) block [] ≡ to_first (suc n) block q
to_one_more n block q = elim (cases_eq q n) [
  | inl at ↦
      let before : nat_lt q n ≡ false = grind (arith, nat_tests) in
      let after : nat_lt q (suc n) ≡ true = grind (arith, nat_tests) in
      ap (λ b. cond b block [] ++ cond (eqb q n) block []) before ∙ ap (λ b. cond b block no_messages) (eq-eqb q n at) ∙ sym (ap (λ b. cond b block no_messages) after)
  | inr ne ↦
      let same : nat_lt q n ≡ nat_lt q (suc n) = elim (cases_lt q n) [
        | inl below ↦ grind (arith, nat_tests)
        | inr above ↦ (let over : suc n ≤ q = omega (arith, above, ne) in grind (arith, nat_tests))
      ] in
      ap (λ b. to_first n block q ++ cond b block []) (ne_eqb q n ne) ∙ append-nil (to_first n block q) ∙ ap (λ b. cond b block no_messages) same
]

kind_fits : {S : Type 0} (b : Bool) (s : S) → cond b (Ok s) (Err Shape) ≡ Ok s → b ≡ true
kind_fits true s e = refl
kind_fits false s e = absurd (cc)

module _ (p : ForkPorts) where
  -- the item is written to so many outputs
  abbrev Part : Cell → ℕ → Type 0
  Part x q = Along fork_machine p idle (owing x (suc p.others - q)) (carry x ∷ []) [] (to_first q (carry x ∷ [])) (1 + q)

  part : (x : Cell) → is_of p.kind x ≡ true → (q : ℕ) → q ≤ suc p.others → Part x q
  part x fits zero within =
      let m = fork_machine in
      let item : List Signal = carry x ∷ [] in
      let all : suc p.others ≡ suc p.others - 0 = omega arith in
      let read = ran_first m p idle (holding x p.others) x refl (ap (λ t. cond t (Ok (holding x p.others)) (Err Shape)) fits) in
      subst (λ n. Along m p idle (owing x n) item [] (to_first 0 item) 1) all (ran_as m p read item [] (to_first 0 item) 1 refl refl (to_none item) refl)
  part x fits (suc q) within =
      let m = fork_machine in
      let item : List Signal = carry x ∷ [] in
      let left = suc p.others - suc q in
      let now : suc p.others - q ≡ suc left = omega (arith, within) in
      let is : p.others - left ≡ q = omega (arith, within) in
      let move = gives_next p x left in
      let state : Move ForkState → ForkState = state_after_write (holding x left) in
      let so_far = subst (λ n. Along m p idle (owing x n) item [] (to_first q item) (1 + q)) now (part x fits q (omega (arith, within))) in
      let wrote = ran_write m p q (holding x left) (owing x left) x (ap (λ k. want_for (ask_of k)) move ∙ ap Write is) (ap written_cell move) (ap state move) in
      let steps : (1 + q) + 1 ≡ 1 + suc q = omega arith in
      ran_as m p (ran_then m p so_far wrote) item [] (to_first (suc q) item) (1 + suc q) refl refl (to_one_more q item) steps

  abbrev Copies : List Signal → ℕ → Type 0
  Copies block n = Along fork_machine p idle idle block [] (to_first (suc p.others) block) n

  one : (x : Cell) → is_of p.kind x ≡ true → Copies (carry x ∷ []) (1 + suc p.others)
  one x fits =
      let none : suc p.others - suc p.others ≡ 0 = omega arith in
      subst (λ n. Along fork_machine p idle (owing x n) (carry x ∷ []) [] (to_first (suc p.others) (carry x ∷ [])) (1 + suc p.others)) none (part x fits (suc p.others) (omega arith))

  -- an item is a step, and so is each of its copies
  copies : (block : List Signal) → EachFits p.kind block → Copies block (length block + suc p.others * length block)
  copies [] fits =
      let none : 0 ≡ 0 + suc p.others * 0 = omega arith in
      ran_as fork_machine p (ran_none fork_machine p idle) [] [] (to_first (suc p.others) []) (0 + suc p.others * 0) refl refl (λ q. sym (nothing_said (nat_lt q (suc p.others)))) none
  copies (carry x ∷ block) (fits, more) =
      let m = fork_machine in
      let n = length block in
      let all : List Signal = carry x ∷ block in
      let first = one x (kind_fits (is_of p.kind x) tt fits) in
      let steps : (1 + suc p.others) + (n + suc p.others * n) ≡ suc n + suc p.others * suc n = grind arith in
      ran_as m p (ran_then m p first (copies block more)) all [] (to_first (suc p.others) all) (suc n + suc p.others * suc n) refl refl
      (λ q. block_then (nat_lt q (suc p.others)) (carry x ∷ []) block) steps
  copies (stop ∷ block) (fits, more) = absurd fits

  -- copies of what was shown
  pub fork_moves : (first second : Items) (space most n : ℕ) (block : Written) → Copied p.kind n (item_signals first) block → n ≤ space → n + suc p.others * n ≤ most →
      MovesAlong fork_machine (p, idle) (p, idle) first second space most block (copies_of n (n + suc p.others * n))
  fork_moves first second space most n block copied room may =
      let m = fork_machine in
      let made = copies_of n (n + suc p.others * n) in
      let items = take n (item_signals first) in
      let long : length items ≡ n = length-take-le n (item_signals first) copied.within in
      let steps : length items + suc p.others * length items ≡ n + suc p.others * n = ap (λ k. k + suc p.others * k) long in
      record {
        within = record {
          first = copied.within;
          second = omega arith;
          units = room;
          flags = room;
          ints = room;
          steps = may;
        };
        ran = ran_as m p (copies items copied.fits) items [] (written_at m p block made) (n + suc p.others * n) refl refl
            (λ q. ap (λ l. to_first (suc p.others) l q) (copied.lie (n + suc p.others * n))) steps;
      }

-- what is shown of the kind, and lies in the block
pub copied_units : (kind : Kind) (s : Items) (block : Written) (count n : ℕ) → kind ≡ UnitKind → IsPrefix (unit_signals count) (item_signals s) → n ≤ count → Copied kind n (item_signals s) block
copied_units kind s block count n of_kind seen within =
    let is : unit_signals n ≡ take n (item_signals s) = units_shown s count n seen within in
    subst (λ k. Copied k n (item_signals s) block) (sym of_kind) (record {
      within = omega (arith, within, units_within s count seen);
      fits = subst (EachFits UnitKind) is (fit_units n);
      lie = λ steps. sym is;
    })

pub copied_flags : (kind : Kind) (s : Items) (block : Written) (flags : List Bool) (n : ℕ) → kind ≡ BoolKind →
    IsPrefix (flag_signals flags) (item_signals s) → n ≤ length flags → take n block.flags ≡ take n flags → Copied kind n (item_signals s) block
copied_flags kind s block flags n of_kind seen within same =
    let is : flag_signals (take n flags) ≡ take n (item_signals s) = flags_shown s flags n seen within in
    subst (λ k. Copied k n (item_signals s) block) (sym of_kind) (record {
      within = omega (arith, within, flags_within s flags seen);
      fits = subst (EachFits BoolKind) is (fit_flags (take n flags));
      lie = λ steps. sym is ∙ ap flag_signals (sym same);
    })

pub copied_ints : (kind : Kind) (s : Items) (block : Written) (numbers : List ℤ) (n : ℕ) → kind ≡ IntKind →
    IsPrefix (int_signals numbers) (item_signals s) → n ≤ length numbers → take n block.ints ≡ take n numbers → Copied kind n (item_signals s) block
copied_ints kind s block numbers n of_kind seen within same =
    let is : int_signals (take n numbers) ≡ take n (item_signals s) = ints_shown s numbers n seen within in
    subst (λ k. Copied k n (item_signals s) block) (sym of_kind) (record {
      within = omega (arith, within, ints_within s numbers seen);
      fits = subst (EachFits IntKind) is (fit_ints (take n numbers));
      lie = λ steps. sym is ∙ ap int_signals (sym same);
    })

first_of : (ms : List Signal) (m : Signal) → slice_get ms 0 ≡ Some m → IsPrefix (m ∷ []) ms
first_of [] m is = absurd (cc)
first_of (n ∷ ms) m is = (ms, cc)

-- what is shown begins with its first item
pub first_shown : (x : Items) (m : Msg) (c : List Signal) → slice_get (item_messages x) 0 ≡ Some m → IsPrefix (item_signals x) c → IsPrefix (signal_of m ∷ []) c
first_shown x m c is seen = prefix_then (signal_of m ∷ []) (item_signals x) c (first_of (item_signals x) (signal_of m) (item_signal_at x 0 m is)) seen

-- a block of one item is that item
pub one_put : (v w : View) (f : ℕ) (x : Cell) → PutAll v f (carry x ∷ []) w → Wrote v f (carry x) w
one_put v w f x put =
    let grown : Bool → List Signal → List Signal = λ b sent. cond b (cond (ended sent) sent (sent ++ carry x ∷ [])) sent in
    record {
      ends = put.ends;
      sent = λ e. elim (cases_eq e f) [
        | inl at ↦ ap w.sent at ∙ put.sent ∙ ap (λ k. grown true (v.sent k)) (sym at) ∙ ap (λ b. grown b (v.sent e)) (sym (eq-eqb e f at))
        | inr ne ↦ put.others e ne ∙ ap (λ b. grown b (v.sent e)) (sym (ne_eqb e f ne))
      ];
      received = put.received;
      coming = λ e. elim (cases_eq e f) [
        | inl at ↦ subst (λ k. IsPrefix (v.coming k) (w.coming k)) (sym at) put.coming_here
        | inr ne ↦ prefix_same (v.coming e) (w.coming e) (put.coming e ne)
      ];
      room = put.room;
    }

-- a fork writes the item to its next output
pub one_copy_more : (inputs outputs : List ℕ) (p : ForkPorts) (x : Cell) (left q at : ℕ) {s : NodeState (ForkPorts × ForkState)} {a v w : View} {n : ℕ} → q < length outputs → q ≡ p.others - left →
    Went inputs outputs (behaviour_of fork_machine) s a (node_state (p, holding x left) Working at) v n → Wrote v (edge_of outputs q) (carry x) w →
    Went inputs outputs (behaviour_of fork_machine) s a (node_state (p, owing x left) Working at) w (n + 1)
one_copy_more inputs outputs p x left q at {s} {a} {v} {w} {n} there is went wrote =
    let move = gives_next p x left in
    let state : Move ForkState → NodeState (ForkPorts × ForkState) = λ m. node_state (p, state_after_write (holding x left) m) Working at in
    went_write (behaviour_of fork_machine) inputs outputs went q (carry x) (node_state (p, owing x left) Working at) w there
    (ap (λ m. want_for (ask_of m)) move ∙ ap Write (sym is)) (sym (ap (λ m. carry (written_cell m)) move)) wrote (sym (ap state move))

-- it looks for room at its next output, and gives the item there
pub gave : (inputs outputs : List ℕ) (kind : Kind) (n next : ℕ) (x : Cell) (at : ℕ) {s : NodeState (ForkPorts × ForkState)} {a v u w : View} {k : ℕ} → n ≡ length outputs → next < n →
    Went inputs outputs (behaviour_of fork_machine) s a (node_state (fork_ports kind n, holding x (n - (next + 1))) Working at) v k →
    LookedForRoom v (edge_of outputs next) u → Wrote u (edge_of outputs next) (carry x) w →
    Went inputs outputs (behaviour_of fork_machine) s a (node_state (fork_ports kind n, owing x (n - (next + 1))) Working at) w (k + 1)
gave inputs outputs kind n next x at counts below went looked wrote =
    let there : next < length outputs = omega (arith, counts, below) in
    let is : next ≡ (n - 1) - (n - (next + 1)) = omega (arith, below) in
    one_copy_more inputs outputs (fork_ports kind n) x (n - (next + 1)) next at there is (went_looked (behaviour_of fork_machine) inputs outputs went next _ there looked) wrote

-- the last output got the item, or the next one is to get it
pub owing_none : (x : Cell) (n next : ℕ) → next + 1 ≡ n → owing x (n - (next + 1)) ≡ idle
owing_none x n next last = ap (owing x) (let is : n - (next + 1) ≡ 0 = omega (arith, last) in is)

pub owing_more : (x : Cell) (n next : ℕ) → next + 1 < n → owing x (n - (next + 1)) ≡ holding x (n - ((next + 1) + 1))
owing_more x n next more = ap (owing x) (let is : n - (next + 1) ≡ suc (n - ((next + 1) + 1)) = omega (arith, more) in is)
