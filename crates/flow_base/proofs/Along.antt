-- What a worker makes of slices: the steps of its machine, one after another, at the level of its ports.
use Rattle.std.proofs.Common.{◌≡◌, ℕ, ℤ, zero, suc, ◌+◌, ◌≤◌, Bool, true, false, cond, eqb, nat_lt, List, [], ◌∷◌, ◌++◌, length, take, Ok, refl, sym, ◌∙◌, ap, subst, arith, length-append, ne_eqb}
use Rattle.std.proofs.lemmas.Bool.Decides.{nat_tests}
use mathlib.Core.List.{IsPrefix}
use Rattle.kahn.specs.declared.want.Want.TheVariants.{Read, Write}
use Rattle.kahn.specs.Processes.{Reads, Writes, reads, writes}
use Rattle.kahn.proofs.History.{does_then, reads_append, writes_append}
use Rattle.flow_messages.specs.Blocks.{unit_signals, flag_signals, int_signals, item_signals}
use Rattle.flow_messages.specs.Cells.{Cell}
use Rattle.flow_messages.specs.Signals.{Signal, carry}
use Rattle.flow_messages.specs.declared.message.Kind.{Kind}
use Rattle.flow_messages.specs.declared.message.Kind.TheVariants.{Unit as UnitKind, Bool as BoolKind, Int as IntKind, Vec as VecKind}
use Rattle.flow_base.specs.Machines.{Machine, ask_of, state_after_read, written_cell, state_after_write}
use Rattle.flow_base.specs.Nodes.{behaviour_of, node_state, want_for, went_on}
use Rattle.flow_base.specs.Along.{MovesAlong, RunsAlong, written_signals, written_at}
use Rattle.flow_base.specs.declared.node.Phase.TheVariants.{Working}
use Rattle.flow_base.specs.declared.slices.Moved.{Moved}
use Rattle.flow_messages.specs.declared.items.Items.{Items}
use Rattle.flow_base.specs.declared.slices.Written.{Written}
use Rattle.flow_base.proofs.Batches.{block_then, length_flags, length_ints, length_units, shown, take_flags, take_ints, take_units}

-- no message
abbrev pub no_messages : List Signal
no_messages = []

pub nothing_said : (b : Bool) → cond b no_messages no_messages ≡ no_messages
nothing_said true = refl
nothing_said false = refl

-- it moved nothing
abbrev pub still : Moved
still = record { first = 0; second = 0; units = 0; flags = 0; ints = 0; steps = 0 }

pub nothing_written : (block : Written) (kind : Kind) → written_signals block still kind ≡ no_messages
nothing_written block UnitKind = refl
nothing_written block BoolKind = refl
nothing_written block IntKind = refl
nothing_written block VecKind = refl

-- where nothing was written of any kind
none_written : (block : Written) (made : Moved) (kind : Kind) → made.units ≡ 0 → made.flags ≡ 0 → made.ints ≡ 0 → written_signals block made kind ≡ no_messages
none_written block made UnitKind units flags ints = ap unit_signals units
none_written block made BoolKind units flags ints = ap (λ n. flag_signals (take n block.flags)) flags
none_written block made IntKind units flags ints = ap (λ n. int_signals (take n block.ints)) ints
none_written block made VecKind units flags ints = refl

-- the first of what is shown, where it is of one kind
pub units_shown : (s : Items) (n k : ℕ) → IsPrefix (unit_signals n) (item_signals s) → k ≤ n → unit_signals k ≡ take k (item_signals s)
units_shown s n k seen within = sym (take_units k n within) ∙ sym (shown (unit_signals n) (item_signals s) k seen (omega (arith, within, length_units n)))

pub flags_shown : (s : Items) (bs : List Bool) (k : ℕ) → IsPrefix (flag_signals bs) (item_signals s) → k ≤ length bs → flag_signals (take k bs) ≡ take k (item_signals s)
flags_shown s bs k seen within = sym (take_flags k bs) ∙ sym (shown (flag_signals bs) (item_signals s) k seen (omega (arith, within, length_flags bs)))

pub ints_shown : (s : Items) (ns : List ℤ) (k : ℕ) → IsPrefix (int_signals ns) (item_signals s) → k ≤ length ns → int_signals (take k ns) ≡ take k (item_signals s)
ints_shown s ns k seen within = sym (take_ints k ns) ∙ sym (shown (int_signals ns) (item_signals s) k seen (omega (arith, within, length_ints ns)))

prefix_longer : (ms c : List Signal) → IsPrefix ms c → length ms ≤ length c
prefix_longer ms c (more, is) = omega (arith, length-append ms more, ap length is)

pub units_within : (s : Items) (n : ℕ) → IsPrefix (unit_signals n) (item_signals s) → n ≤ length (item_signals s)
units_within s n seen = omega (arith, prefix_longer (unit_signals n) (item_signals s) seen, length_units n)

pub flags_within : (s : Items) (bs : List Bool) → IsPrefix (flag_signals bs) (item_signals s) → length bs ≤ length (item_signals s)
flags_within s bs seen = omega (arith, prefix_longer (flag_signals bs) (item_signals s) seen, length_flags bs)

pub ints_within : (s : Items) (ns : List ℤ) → IsPrefix (int_signals ns) (item_signals s) → length ns ≤ length (item_signals s)
ints_within s ns seen = omega (arith, prefix_longer (int_signals ns) (item_signals s) seen, length_ints ns)

-- what one output gets, and no other
abbrev pub only : List Signal → ℕ → List Signal
only zs q = cond (eqb q 0) zs []

module _ {P S : Type 0} (m : Machine P S) where
  -- nothing was written to any output
  written_nowhere : (p : P) (block : Written) (q : ℕ) → no_messages ≡ written_at m p block still q
  written_nowhere p block q = sym (ap (λ l. cond (nat_lt q (m.outputs p)) l no_messages) (nothing_written block (m.kind_out p q)) ∙ nothing_said (nat_lt q (m.outputs p)))

  pub no_writes : (p : P) (block : Written) (made : Moved) → made.units ≡ 0 → made.flags ≡ 0 → made.ints ≡ 0 → (q : ℕ) → no_messages ≡ written_at m p block made q
  no_writes p block made units flags ints q =
      sym (ap (λ l. cond (nat_lt q (m.outputs p)) l no_messages) (none_written block made (m.kind_out p q) units flags ints)
      ∙ nothing_said (nat_lt q (m.outputs p)))

  pub moved_nothing : (s : P × S) (first second : Items) (space most : ℕ) (block : Written) (made : Moved) → made ≡ still → MovesAlong m s s first second space most block made
  moved_nothing s first second space most block made is = subst (MovesAlong m s s first second space most block) (sym is) (record {
    within = record {
      first = omega arith;
      second = omega arith;
      units = omega arith;
      flags = omega arith;
      ints = omega arith;
      steps = omega arith;
    };
    ran = record {
      history = [];
      does = λ at. refl;
      counts = refl;
      reads_first = refl;
      reads_second = refl;
      no_others = λ q over. refl;
      writes_are = written_nowhere s.0 block;
    };
  })

  module _ (p : P) where
    -- steps from one state to another
    abbrev pub Along : S → S → List Signal → List Signal → (ℕ → List Signal) → ℕ → Type 0
    Along s t xs ys ws n = RunsAlong m (p, s) (p, t) xs ys ws n

    pub ran_none : (s : S) → Along s s [] [] (λ q. []) 0
    ran_none s = record {
      history = [];
      does = λ at. refl;
      counts = refl;
      reads_first = refl;
      reads_second = refl;
      no_others = λ q over. refl;
      writes_are = λ q. refl;
    }

    -- it reads an item of port 0
    pub ran_first : (s t : S) (x : Cell) → want_for (ask_of (m.move p s)) ≡ Read 0 → state_after_read (m.move p s) x ≡ Ok t → Along s t (carry x ∷ []) [] (λ q. []) 1
    ran_first s t x wants leads = record {
      history = Reads 0 (carry x) ∷ [];
      does = λ at. (wants, ap (went_on m (node_state (p, s) Working at)) leads);
      counts = refl;
      reads_first = refl;
      reads_second = refl;
      no_others = λ q over. ap (λ b. cond b (carry x ∷ []) []) (ne_eqb q 0 (λ e. omega (arith, e, over)));
      writes_are = λ q. refl;
    }

    -- it reads an item of port 1
    pub ran_second : (s t : S) (x : Cell) → want_for (ask_of (m.move p s)) ≡ Read 1 → state_after_read (m.move p s) x ≡ Ok t → Along s t [] (carry x ∷ []) (λ q. []) 1
    ran_second s t x wants leads = record {
      history = Reads 1 (carry x) ∷ [];
      does = λ at. (wants, ap (went_on m (node_state (p, s) Working at)) leads);
      counts = refl;
      reads_first = refl;
      reads_second = refl;
      no_others = λ q over. ap (λ b. cond b (carry x ∷ []) []) (ne_eqb q 1 (λ e. omega (arith, e, over)));
      writes_are = λ q. refl;
    }

    -- it writes an item
    pub ran_write : (q : ℕ) (s t : S) (x : Cell) → want_for (ask_of (m.move p s)) ≡ Write q → written_cell (m.move p s) ≡ x →
        state_after_write s (m.move p s) ≡ t → Along s t [] [] (λ k. cond (eqb k q) (carry x ∷ []) []) 1
    ran_write q s t x wants told leads = record {
      history = Writes q (carry x) ∷ [];
      does = λ at. (wants, ap carry told, ap (λ k. node_state (p, k) Working at) leads);
      counts = refl;
      reads_first = refl;
      reads_second = refl;
      no_others = λ k over. refl;
      writes_are = λ k. refl;
    }

    -- and then more steps
    pub ran_then : {s t u : S} {xs ys xs' ys' : List Signal} {ws ws' : ℕ → List Signal} {n k : ℕ} → Along s t xs ys ws n → Along t u xs' ys' ws' k →
        Along s u (xs ++ xs') (ys ++ ys') (λ q. ws q ++ ws' q) (n + k)
    ran_then {s} {t} {u} {xs} {ys} {xs'} {ys'} {ws} {ws'} {n} {k} before after =
        let g = before.history in
        let h = after.history in
        record {
          history = g ++ h;
          does = λ at. does_then (behaviour_of m).process (node_state (p, s) Working at) (node_state (p, t) Working at) (node_state (p, u) Working at) g h (before.does at) (after.does at);
          counts = length-append g h ∙ ap (λ l. l + length h) before.counts ∙ ap (λ l. n + l) after.counts;
          reads_first = sym (reads_append 0 g h) ∙ ap (λ l. l ++ reads 0 h) before.reads_first ∙ ap (λ l. xs ++ l) after.reads_first;
          reads_second = sym (reads_append 1 g h) ∙ ap (λ l. l ++ reads 1 h) before.reads_second ∙ ap (λ l. ys ++ l) after.reads_second;
          no_others = λ q over. sym (reads_append q g h) ∙ ap (λ l. l ++ reads q h) (before.no_others q over) ∙ after.no_others q over;
          writes_are = λ q. sym (writes_append q g h) ∙ ap (λ l. l ++ writes q h) (before.writes_are q) ∙ ap (λ l. ws q ++ l) (after.writes_are q);
        }

    -- the same messages, told otherwise
    pub ran_as : {s t : S} {xs ys : List Signal} {ws : ℕ → List Signal} {n : ℕ} → Along s t xs ys ws n →
        (xs' ys' : List Signal) (ws' : ℕ → List Signal) (k : ℕ) → xs ≡ xs' → ys ≡ ys' → ((q : ℕ) → ws q ≡ ws' q) → n ≡ k → Along s t xs' ys' ws' k
    ran_as made xs' ys' ws' k same_first same_second same_written same_count = record {
      history = made.history;
      does = made.does;
      counts = made.counts ∙ same_count;
      reads_first = made.reads_first ∙ same_first;
      reads_second = made.reads_second ∙ same_second;
      no_others = made.no_others;
      writes_are = λ q. made.writes_are q ∙ same_written q;
    }

    -- of one output
    abbrev pub Single : S → S → List Signal → List Signal → List Signal → ℕ → Type 0
    Single s t xs ys zs n = Along s t xs ys (only zs) n

    nowhere : (q : ℕ) → no_messages ≡ only no_messages q
    nowhere q = sym (nothing_said (eqb q 0))

    pub single_none : (s : S) → Single s s [] [] [] 0
    single_none s = ran_as (ran_none s) [] [] (only []) 0 refl refl nowhere refl

    pub single_first : (s t : S) (x : Cell) → want_for (ask_of (m.move p s)) ≡ Read 0 → state_after_read (m.move p s) x ≡ Ok t → Single s t (carry x ∷ []) [] [] 1
    single_first s t x wants leads = ran_as (ran_first s t x wants leads) (carry x ∷ []) [] (only []) 1 refl refl nowhere refl

    pub single_second : (s t : S) (x : Cell) → want_for (ask_of (m.move p s)) ≡ Read 1 → state_after_read (m.move p s) x ≡ Ok t → Single s t [] (carry x ∷ []) [] 1
    single_second s t x wants leads = ran_as (ran_second s t x wants leads) [] (carry x ∷ []) (only []) 1 refl refl nowhere refl

    pub single_write : (s t : S) (x : Cell) → want_for (ask_of (m.move p s)) ≡ Write 0 → written_cell (m.move p s) ≡ x → state_after_write s (m.move p s) ≡ t → Single s t [] [] (carry x ∷ []) 1
    single_write s t x wants told leads = ran_write 0 s t x wants told leads

    pub single_then : {s t u : S} {n k : ℕ} (xs ys zs xs' ys' zs' : List Signal) → Single s t xs ys zs n → Single t u xs' ys' zs' k → Single s u (xs ++ xs') (ys ++ ys') (zs ++ zs') (n + k)
    single_then {n = n} {k = k} xs ys zs xs' ys' zs' before after = ran_as (ran_then before after) (xs ++ xs') (ys ++ ys') (only (zs ++ zs')) (n + k) refl refl (λ q. block_then (eqb q 0) zs zs') refl

    -- what the only output gets
    pub first_only : (block : Written) (made : Moved) (zs : List Signal) → m.outputs p ≡ 1 → zs ≡ written_signals block made (m.kind_out p 0) → (q : ℕ) → only zs q ≡ written_at m p block made q
    first_only block made zs one is zero = is ∙ ap (λ b. cond b (written_signals block made (m.kind_out p 0)) []) (sym (ap (nat_lt 0) one))
    first_only block made zs one is (suc q) =
        let other : eqb (suc q) 0 ≡ false = ne_eqb (suc q) 0 (λ e. omega (arith, e)) in
        let over : nat_lt (suc q) 1 ≡ false = grind (arith, nat_tests) in
        let none : nat_lt (suc q) (m.outputs p) ≡ false = ap (nat_lt (suc q)) one ∙ over in
        ap (λ b. cond b zs []) other ∙ sym (ap (λ b. cond b (written_signals block made (m.kind_out p (suc q))) []) none)

    -- a worker with one output went along slices
    pub single_ran : {s t : S} {n : ℕ} (xs ys zs : List Signal) → Single s t xs ys zs n → (first second : Items) (block : Written) (made : Moved) → m.outputs p ≡ 1 →
        xs ≡ take made.first (item_signals first) → ys ≡ take made.second (item_signals second) → zs ≡ written_signals block made (m.kind_out p 0) → n ≡ made.steps →
        RunsAlong m (p, s) (p, t) (take made.first (item_signals first)) (take made.second (item_signals second)) (written_at m p block made) made.steps
    single_ran xs ys zs ran first second block made one firsts seconds written steps =
        ran_as ran (take made.first (item_signals first)) (take made.second (item_signals second)) (written_at m p block made) made.steps firsts
        seconds (first_only block made zs one written) steps

    -- of no output
    pub no_output : (block : Written) (made : Moved) → m.outputs p ≡ 0 → (q : ℕ) → no_messages ≡ written_at m p block made q
    no_output block made none q =
        let over : nat_lt q 0 ≡ false = grind (arith, nat_tests) in
        sym (ap (λ b. cond b (written_signals block made (m.kind_out p q)) []) (ap (nat_lt q) none ∙ over))
