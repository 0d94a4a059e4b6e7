-- Blocks that a node draws, and those that it passes on.
use Rattle.std.proofs.Common.{◌≡◌, ◌≢◌, ℕ, ◌+◌, ◌*◌, ◌/◌, ◌<◌, ◌≤◌, true, List, [], ◌∷◌, ◌++◌, length, take, refl, sym, ◌∙◌, ap, subst, arith, length-append}
use mathlib.Core.List.{IsPrefix}
use Rattle.std.proofs.Math.Nat.{mul-le-mul_left, mul-div-le, add-mul}
use Rattle.std.proofs.lemmas.List.{take_all}
use Rattle.kahn.specs.declared.want.Want.TheVariants.{Write}
use Rattle.kahn.specs.Processes.{Event, Writes, Does}
use Rattle.kahn.proofs.History.{does_then, reads_push_write, writes_push}
use Rattle.flow_messages.specs.declared.flat.Flat.{Flat}
use Rattle.flow_messages.specs.declared.message.Msg.{Msg}
use Rattle.flow_messages.specs.declared.message.Kind.{Kind}
use Rattle.flow_messages.specs.declared.message.Kind.TheVariants.{Unit as UnitKind, Bool as BoolKind, Int as IntKind, Vec as VecKind}
use Rattle.flow_messages.specs.Cells.{unit, flag, int, datum}
use Rattle.flow_messages.specs.Signals.{Signal, signal_of, carry, stop, orderly}
use Rattle.flow_messages.specs.Flats.{message_of, flat_signals, is_scalar}
use Rattle.flow_messages.specs.Kinds.{fits}
use Rattle.flow_messages.specs.Ends.{View, SameEnds, LookedForMessages, TakenAll}
use Rattle.flow_messages.proofs.Fitting.{takes_still}
use Rattle.flow_messages.proofs.Scalars.{said_next, said_none, said_length}
use Rattle.flow_base.specs.Ranges.{SignalsOfKind}
use Rattle.flow_base.specs.Transducers.{Behaviour, BehaviourLaws, IsWrite}
use Rattle.flow_base.specs.Passing.{PassedOn}
use Rattle.flow_messages.proofs.Blocks.{taken_none}
use Rattle.flow_base.specs.Visits.{edge_of, LeavesAlone, Went, IsReached, IsPlaced}
use Rattle.flow_base.proofs.Batches.{skipped}
use Rattle.flow_base.proofs.Kernels.{alone_looked}
use Rattle.flow_base.proofs.Visits.{left_alone, not_at}
use Rattle.flow_base.proofs.Reached.{opening_does, reached_does, written_fits, wants_output}
use Rattle.flow_networks.specs.Blocks.{AreApart, MayTake, PutOnFirst, InBlock}
use Rattle.flow_networks.proofs.BlockEdges.{went_block, went_looked}
use Rattle.flow_networks.proofs.Blocks.{writes_of_kind, writes_in_order, flats_fit}
use Rattle.flow_networks.proofs.Reached.{writes_port}

-- so many steps were let
pub few_steps : (n o k most room : ℕ) → n ≤ room → room ≤ most / (o + 1) → k ≤ n → n + o * k ≤ most
few_steps n o k most room low within few =
    let written : o * k ≤ o * n = mul-le-mul_left o few in
    let all : (o + 1) * n ≤ (o + 1) * (most / (o + 1)) = mul-le-mul_left (o + 1) (omega (arith, low, within)) in
    let whole : (o + 1) * (most / (o + 1)) ≤ most = mul-div-le most (o + 1) in
    let parts : (o + 1) * n ≡ o * n + 1 * n = add-mul o 1 n in
    let single : 1 * n ≡ n = omega arith in
    omega (arith, written, all, whole, parts, single)

-- who looked for room and then for messages at the one input left all else alone
pub alone_both : (inputs outputs : List ℕ) (a u w : View) (e : ℕ) → length inputs ≡ 1 → e ≡ edge_of inputs 0 → LeavesAlone inputs outputs a u → LookedForMessages u e w → LeavesAlone inputs outputs a w
alone_both inputs outputs a u w e one at alone looked = left_alone inputs outputs a u w alone (alone_looked inputs outputs u w 0 (omega (arith, one)) (subst (λ f. LookedForMessages u f w) at looked))

-- what was skipped is the block
pub skipped_block : (xs : List Flat) (n e : ℕ) (w u : View) → n ≡ length xs → IsPrefix (flat_signals xs) (w.coming e) → TakenAll w e (take n (w.coming e)) u → TakenAll w e (flat_signals xs) u
skipped_block xs n e w u count first taken =
    skipped n (flat_signals xs) (flat_signals xs) w e u first (omega (arith, count, said_length xs)) (take_all n (flat_signals xs) (omega (arith, count, said_length xs))) taken

pub block_held : (xs : List Flat) (n : ℕ) (c : List Signal) → n ≡ length xs → IsPrefix (flat_signals xs) c → n ≤ length c
block_held xs n c count (more, is) = omega (arith, count, said_length xs, ap length is, length-append (flat_signals xs) more)

-- what fits a kind of scalars is a scalar
pub scalar_fits : (k : Kind) (m : Signal) → k ≢ VecKind → fits k m ≡ true → is_scalar m ≡ true
scalar_fits k stop scalar fit = refl
scalar_fits k (carry unit) scalar fit = refl
scalar_fits k (carry (flag x)) scalar fit = refl
scalar_fits k (carry (int n)) scalar fit = refl
scalar_fits UnitKind (carry (datum v)) scalar fit = absurd (cc)
scalar_fits BoolKind (carry (datum v)) scalar fit = absurd (cc)
scalar_fits IntKind (carry (datum v)) scalar fit = absurd (cc)
scalar_fits VecKind (carry (datum v)) scalar fit = absurd (scalar refl)

module _ {S : Type 0} (b : Behaviour S) (laws : BehaviourLaws b) (s : S) where
  -- nothing yet
  pub drew_none : (t : S) (xs : List Flat) → xs ≡ [] → t ≡ s → InBlock b s [] t (flat_signals xs) (length xs)
  drew_none t xs none same = subst (λ l. InBlock b s [] t (flat_signals l) (length l)) (sym none) (record {
    history = [];
    does = sym same;
    reads_are = refl;
    no_others = λ p ne. refl;
    writes_are = λ q low. sym said_none;
    counts = refl;
  })

  module _ (reached : IsReached b s) (one : b.outputs s ≡ 1) (t : S) (xs : List Flat) (made : InBlock b s [] t (flat_signals xs) (length xs)) where
    pub now_reached : IsReached b t
    now_reached = reached_does b laws made.history s t made.does reached

    opened_alike : b.opening t ≡ b.opening s
    opened_alike = opening_does b laws made.history s t made.does

    -- the port is its only one
    only_port : (q : ℕ) → b.process.want t ≡ Write q → q ≡ 0
    only_port q wants =
        let same : b.outputs t ≡ b.outputs s = sym (laws.same_outputs t) ∙ ap b.outputs opened_alike ∙ laws.same_outputs s in
        omega (arith, wants_output b laws t q wants now_reached, same, one)

    -- what it writes is a scalar
    pub draws_scalar : b.kind_out s 0 ≢ VecKind → IsWrite (b.process.want t) → is_scalar (b.process.written t) ≡ true
    draws_scalar scalar writing =
        let (q, wants) = writes_port (b.process.want t) writing in
        let kind : b.kind_out t q ≡ b.kind_out s 0 = sym (laws.same_kinds_out t q) ∙ ap (λ o. b.kind_out o q) opened_alike ∙ laws.same_kinds_out s q ∙ ap (b.kind_out s) (only_port q wants) in
        scalar_fits (b.kind_out t q) (b.process.written t) (λ is. scalar (sym kind ∙ is)) (written_fits b laws t q wants now_reached)

    -- one message more
    pub drew_next : IsWrite (b.process.want t) → (message : Msg) (u : S) (x : Flat) (ys : List Flat) → signal_of message ≡ b.process.written t → u
        ≡ b.process.wrote t → message_of x ≡ message → ys ≡ xs ++ x ∷ [] → InBlock b s [] u (flat_signals ys) (length ys)
    drew_next writing message u x ys told is stands all =
        let (q, wants) = writes_port (b.process.want t) writing in
        let m = signal_of message in
        let h = made.history in
        let at : q ≡ 0 = only_port q wants in
        subst (λ l. InBlock b s [] u (flat_signals l) (length l)) (sym all) (record {
          history = h ++ Writes q m ∷ [];
          does = does_then b.process s t u h (Writes q m ∷ []) made.does (wants, sym told, sym is);
          reads_are = reads_push_write 0 q m h ∙ made.reads_are;
          no_others = λ p ne. reads_push_write p q m h ∙ made.no_others p ne;
          writes_are = λ p low. writes_push p q m h (omega (arith, low, one, at)) ∙ ap (λ l. l ++ m ∷ []) (made.writes_are p low) ∙ sym (said_next xs x message stands);
          counts = length-append h (Writes q m ∷ []) ∙ ap (λ n. n + 1) made.counts ∙ sym (length-append xs (x ∷ []));
        })

  -- where it drew nothing it is where it was
  pub drew_nothing : (t : S) (xs : List Flat) → InBlock b s [] t (flat_signals xs) (length xs) → length xs ≡ 0 → t ≡ s
  drew_nothing t xs made none = still made.history made.does made.counts where
    still : (h : List (Event Signal)) → Does b.process s h t → length h ≡ length xs → t ≡ s
    still [] does counts = sym does
    still (a ∷ h) does counts = absurd (omega (arith, counts, none))

  -- the edges may take what was written
  pub may_take : {t : S} {read : List Signal} {steps : ℕ} (inputs outputs : List ℕ) (a u : View) (xs : List Flat) (n : ℕ) →
      IsPlaced b inputs outputs s a → SameEnds a u → InBlock b s read t (flat_signals xs) steps →
      ((q : ℕ) → q < length outputs → n ≤ u.room (edge_of outputs q)) → length xs ≤ n → MayTake outputs xs u
  may_take {t} {read} {steps} inputs outputs a u xs n placed same block room few =
      let low_there : (q : ℕ) → q < length outputs → q < b.outputs s = λ q low. omega (arith, low, placed.each_output) in
      record {
        writes = λ q d low. same.writes _ ∙ placed.writes q d low;
        fit = λ q low. flats_fit (b.kind_out s q) xs (u.kind (edge_of outputs q)) (takes_still a u (edge_of outputs q) (b.kind_out s q) same (placed.kinds q low))
            (subst (SignalsOfKind (b.kind_out s q)) (block.writes_are q (low_there q low)) (writes_of_kind b laws (b.kind_out s q) q block.history s t placed.reached refl block.does));
        last = λ q low. subst (λ l. orderly l ≡ true) (block.writes_are q (low_there q low)) (writes_in_order b laws q block.history s t placed.reached block.does);
        room = λ q low. omega (arith, few, room q low);
      }

  -- what was passed on is a block
  pub passed_block : {t : S} {read written : List Signal} → PassedOn b s read t written → (steps : ℕ) → steps ≡ length read + b.outputs s * length written → InBlock b s read t written steps
  passed_block passed steps is = record {
    history = passed.history;
    does = passed.does;
    reads_are = passed.reads_are;
    no_others = passed.no_others;
    writes_are = passed.writes_are;
    counts = passed.counts ∙ sym is;
  }

module _ {S : Type 0} (b : Behaviour S) (laws : BehaviourLaws b) (inputs outputs : List ℕ) (apart : AreApart outputs) (s : S) (a : View) (placed : IsPlaced b inputs outputs s a) where
  last_of : {t : S} {read written : List Signal} {steps : ℕ} → InBlock b s read t written steps → (q : ℕ) → q < length outputs → orderly written ≡ true
  last_of {t} block q low = subst (λ l. orderly l ≡ true) (block.writes_are q (omega (arith, low, placed.each_output))) (writes_in_order b laws q block.history s t placed.reached block.does)

  -- it looked, and then passed a block on
  pub went_passed : (one : length inputs ≡ 1) (e : ℕ) → e ≡ edge_of inputs 0 → (w u v : View) (t : S) (read written : List Signal) (steps : ℕ) →
      LeavesAlone inputs outputs a w → PassedOn b s read t written → TakenAll w e read u → PutOnFirst outputs (length outputs) written u v →
      0 < length read → steps ≡ length read + length outputs * length written → Went inputs outputs b s a t v steps
  went_passed one e at w u v t read written steps alone passed taken put some is =
      let block : InBlock b s read t written steps = passed_block b laws s passed steps (is ∙ ap (λ n. length read + n * length written) placed.each_output) in
      let here = subst (λ f. TakenAll w f read u) at taken in
      went_looked b laws inputs outputs apart alone (went_block b laws inputs outputs apart s placed.reached placed.each_output t read written steps block (last_of block) w u v here
      (λ f none. here.coming f (not_at inputs f 0 none (omega (arith, one)))) put (omega (arith, is, some)))

  -- it looked, and then drew a block
  pub went_drawn : (w v : View) (t : S) (written : List Signal) (steps : ℕ) → LeavesAlone inputs outputs a w → InBlock b s [] t written steps →
      PutOnFirst outputs (length outputs) written w v → 0 < steps → Went inputs outputs b s a t v steps
  went_drawn w v t written steps alone block put some =
      went_looked b laws inputs outputs apart alone
      (went_block b laws inputs outputs apart s placed.reached placed.each_output t [] written steps block (last_of block) w w v
      (taken_none w (edge_of inputs 0)) (λ f none. refl) put some)
