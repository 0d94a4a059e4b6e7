-- What Dist makes of blocks: copies of an item for the elements of its segment.
use Rattle.std.proofs.Common.{◌≡◌, ℕ, zero, suc, ◌+◌, ◌*◌, ◌<◌, ◌≤◌, ℤ, Bool, true, false, cond, eqb, List, [], ◌∷◌, ◌++◌, length, take, get_or, slice_get}
use Rattle.std.proofs.Common.{Option, Some, None, Ok, refl, ◌∙◌, ap, subst, arith}
use Rattle.std.specs.Prelude.{replicate}
use mathlib.Core.List.{IsPrefix}
use Rattle.flow_messages.specs.Cells.{Cell, cell_of, is_of, flag, int}
use Rattle.flow_messages.specs.Contents.{item_messages}
use Rattle.flow_messages.specs.Ends.{View, LookedForRoom, TakenAll, PutAll}
use Rattle.flow_messages.specs.Blocks.{flag_signals, int_signals, item_signals}
use Rattle.flow_messages.specs.Signals.{Signal, carry, ended, signal_of}
use Rattle.flow_messages.specs.declared.items.Items.{Items}
use Rattle.flow_messages.specs.declared.message.Item.{Item}
use Rattle.flow_messages.specs.declared.message.Kind.{Kind}
use Rattle.flow_messages.specs.declared.message.Msg.{Msg}
use Rattle.flow_messages.proofs.SideBySide.{item_signal_at, length-items}
use Rattle.flow_base.specs.Machines.{on_kind}
use Rattle.flow_base.specs.Nodes.{NodeState, behaviour_of, node_state}
use Rattle.flow_base.specs.Visits.{edge_of, Went}
use Rattle.flow_base.specs.declared.node.Phase.TheVariants.{Working}
use Rattle.flow_base.proofs.Kernels.{went_none, went_looked, leads_on}
use Rattle.flow_base.proofs.Batches.{Batch, block_then, batch_none, batch_read, batch_write, batch_then, batch_as, shifted_none, shifted_skip, shifted_put, went_batch, shown}
use Rattle.flow_base.proofs.OverSlices.{prefix_long}
use Rattle.flow_segment.specs.DistMachine.{DistState, at_start, at_flag, at_copy, dist_state, dist_machine}
use Rattle.flow_segment.proofs.Leading.{item_leads}
use Rattle.flow_segment.proofs.Blocks.{no_block}

-- how far a worker is that holds nothing, and one that holds this item
pub empty_at : (held : Option Item) (copies : Bool) → held ≡ None → dist_state held copies ≡ at_start
empty_at held copies none = ap (λ o. dist_state o copies) none

pub held_at : (held : Option Item) (copies : Bool) (item : Item) → held ≡ Some item → copies ≡ false → dist_state held copies ≡ at_flag (cell_of item)
held_at held copies item some idle = ap (λ o. dist_state o copies) some ∙ ap (dist_state (Some item)) idle

-- places that all hold one value
pub same_block : {A : Type 0} (x d : A) (n : ℕ) (xs : List A) → n ≤ length xs → ((k : ℕ) → k < n → get_or xs k d ≡ x) → take n xs ≡ replicate n x
same_block x d zero xs within same = refl
same_block x d (suc n) [] within same = absurd (omega arith)
same_block x d (suc n) (y ∷ xs) within same =
    let first : y ≡ x = same 0 (omega arith) in
    let rest : take n xs ≡ replicate n x = same_block x d n xs (omega arith) (λ k h. same (suc k) (omega arith)) in
    ap (λ z. z ∷ take n xs) first ∙ ap (λ l. x ∷ l) rest

-- the flags of elements, and the flag that ends their segment
pub segment_block : (n : ℕ) (xs : List Bool) → n < length xs → ((k : ℕ) → k < n → get_or xs k true ≡ false) → get_or xs n false ≡ true →
    flag_signals (take (suc n) xs) ≡ flag_signals (replicate n false) ++ carry (flag true) ∷ []
segment_block n [] within same last = absurd (omega arith)
segment_block zero (y ∷ xs) within same last = ap (λ z. carry (flag z) ∷ []) last
segment_block (suc n) (y ∷ xs) within same last =
    let first : y ≡ false = same 0 (omega arith) in
    let rest = segment_block n xs (omega arith) (λ k h. same (suc k) (omega arith)) last in
    ap (λ z. carry (flag z) ∷ flag_signals (take (suc n) xs)) first ∙ ap (λ l. carry (flag false) ∷ l) rest

-- blocks of one value
pub flags_same : (n : ℕ) (b : Bool) → flag_signals (replicate n b) ≡ replicate n (carry (flag b))
flags_same zero b = refl
flags_same (suc n) b = ap (λ l. carry (flag b) ∷ l) (flags_same n b)

pub ints_same : (n : ℕ) (v : ℤ) → int_signals (replicate n v) ≡ replicate n (carry (int v))
ints_same zero v = refl
ints_same (suc n) v = ap (λ l. carry (int v) ∷ l) (ints_same n v)

-- copies have not ended
pub ended_copies : (n : ℕ) (x : Cell) → ended (replicate n (carry x)) ≡ false
unfolding ended
ended_copies zero x = refl
ended_copies (suc n) x = ended_copies n x

-- the first flag that is shown comes next
pub flag_next : (xs : List Bool) (c : List Signal) → 0 < length xs → IsPrefix (flag_signals xs) c → IsPrefix (carry (flag (get_or xs 0 false)) ∷ []) c
flag_next [] c some seen = absurd (omega arith)
flag_next (x ∷ xs) c some seen = (flag_signals xs ++ seen.0, seen.1)

first_of : (ms : List Signal) (m : Signal) → slice_get ms 0 ≡ Some m → take 1 ms ≡ m ∷ []
first_of [] m is = absurd (cc)
first_of (n ∷ ms) m is = cc

-- some are shown, and so at least one comes
pub some_comes : (x : Items) (c : List Signal) → (length (item_messages x) ≡ 0 → ⊥) → IsPrefix (item_signals x) c → 1 ≤ length c
some_comes x c some seen = omega (arith, some, length-items x, prefix_long (item_signals x) c seen)

-- the first item that is shown is the next that comes
pub first_shown : (x : Items) (m : Msg) (c : List Signal) → (length (item_messages x) ≡ 0 → ⊥) → slice_get (item_messages x) 0 ≡ Some m → IsPrefix (item_signals x) c →
    take 1 c ≡ signal_of m ∷ []
first_shown x m c some is seen = shown (item_signals x) c 1 seen (omega (arith, some, length-items x)) ∙ first_of (item_signals x) (signal_of m) (item_signal_at x 0 m is)

module _ (ins outs : List ℕ) (kind : Kind) (at : ℕ) where
  abbrev on : DistState → NodeState (Kind × DistState)
  on s = node_state (kind, s) Working at

  -- rounds from a block of flags to a block of copies
  abbrev Copies : DistState → DistState → List Signal → List Signal → ℕ → Type 0
  Copies s t xs zs n = Batch ins outs (behaviour_of dist_machine) (on s) (on t) (λ e. cond (eqb e (edge_of ins 1)) xs []) (λ e. cond (eqb e (edge_of outs 0)) zs []) n

  -- a copy for the flag of each element
  pub copies_rounds : (x : Cell) (n : ℕ) → Copies (at_flag x) (at_flag x) (flag_signals (replicate n false)) (replicate n (carry x)) (2 * n)
  copies_rounds x zero =
      let b = behaviour_of dist_machine in
      batch_as ins outs b (batch_none ins outs b (on (at_flag x))) (λ e. cond (eqb e (edge_of ins 1)) [] [])
      (λ e. cond (eqb e (edge_of outs 0)) [] []) (λ e. no_block (eqb e (edge_of ins 1))) (λ e. no_block (eqb e (edge_of outs 0)))
  copies_rounds x (suc n) =
      let b = behaviour_of dist_machine in
      let reads = λ (e : ℕ). cond (eqb e (edge_of ins 1)) (flag_signals (replicate (suc n) false)) [] in
      let writes = λ (e : ℕ). cond (eqb e (edge_of outs 0)) (replicate (suc n) (carry x)) [] in
      let one = batch_read ins outs b (batch_none ins outs b (on (at_flag x))) 1 (carry (flag false)) (on (at_copy x)) refl refl in
      let two = batch_write ins outs b one 0 x (on (at_flag x)) refl refl refl in
      let all = batch_as ins outs b (batch_then ins outs b two (copies_rounds x n)) reads writes
      (λ e. block_then (eqb e (edge_of ins 1)) (carry (flag false) ∷ []) (flag_signals (replicate n false)))
      (λ e. block_then (eqb e (edge_of outs 0)) (carry x ∷ []) (replicate n (carry x))) in
      let steps : 2 + 2 * n ≡ 2 * suc n = omega arith in
      subst (Batch ins outs b (on (at_flag x)) (on (at_flag x)) reads writes) steps all

  -- and then the flag that ends the segment
  pub segment_rounds : (x : Cell) (n : ℕ) → Copies (at_flag x) at_start (flag_signals (replicate n false) ++ carry (flag true) ∷ []) (replicate n (carry x)) (2 * n + 1)
  segment_rounds x n =
      let b = behaviour_of dist_machine in
      let reads = λ (e : ℕ). cond (eqb e (edge_of ins 1)) (flag_signals (replicate n false) ++ carry (flag true) ∷ []) [] in
      let writes = λ (e : ℕ). cond (eqb e (edge_of outs 0)) (replicate n (carry x)) [] in
      let all = batch_read ins outs b (copies_rounds x n) 1 (carry (flag true)) (on at_start) refl refl in
      batch_as ins outs b all reads writes (λ e. block_then (eqb e (edge_of ins 1)) (flag_signals (replicate n false)) (carry (flag true) ∷ [])) (λ e. refl)

  -- blocks that are taken and put are those rounds
  pub copies_went : {t : DistState} {k : ℕ} (x : Cell) (xs : List Signal) (n : ℕ) → 1 < length ins → 0 < length outs → (a v w z : View) →
      LookedForRoom a (edge_of outs 0) v → Copies (at_flag x) t xs (replicate n (carry x)) k → 0 < k →
      TakenAll v (edge_of ins 1) xs w → PutAll w (edge_of outs 0) (replicate n (carry x)) z → Went ins outs (behaviour_of dist_machine) (on (at_flag x)) a (on t) z k
  copies_went {t} {k} x xs n reads writes a v w z looked rounds some taken put =
      let b = behaviour_of dist_machine in
      let began = went_looked b ins outs (went_none b ins outs (on (at_flag x)) a) 0 v writes looked in
      let one = shifted_skip ins outs (shifted_none ins outs v) 1 xs w reads taken in
      let two = shifted_put ins outs one 0 (replicate n (carry x)) z writes (ended_copies n x) put in
      let steps : 0 + k ≡ k = omega arith in
      subst (Went ins outs b (on (at_flag x)) a (on t) z) steps (went_batch ins outs b began rounds some z two)

  -- an item of the kind is read
  pub item_went : 0 < length ins → (x : Cell) → is_of kind x ≡ true → (a w : View) → TakenAll a (edge_of ins 0) (carry x ∷ []) w →
      Went ins outs (behaviour_of dist_machine) (on at_start) a (on (at_flag x)) w 1
  item_went there x fits a w taken =
      let b = behaviour_of dist_machine in
      let leads = item_leads kind (λ i. Ok (at_flag i)) (at_flag x) x fits refl in
      let one = batch_read ins outs b (batch_none ins outs b (on at_start)) 0 (carry x) (on (at_flag x)) refl
      (leads_on dist_machine kind at_start (at_flag x) at (on_kind kind (λ i. Ok (at_flag i))) (carry x) (λ i. refl) leads) in
      went_batch ins outs b (went_none b ins outs (on at_start) a) one (omega arith) w (shifted_skip ins outs (shifted_none ins outs a) 0 (carry x ∷ []) w there taken)
