-- Many items that a source over a text writes at once.
use Rattle.std.proofs.Common.{◌≡◌, ℕ, ℤ, suc, ◌+◌, ◌<◌, Bool, true, false, cond, eqb, List, [], ◌∷◌, ◌++◌, length, map, Some, option_map, refl, sym, ◌∙◌, ap, subst, arith}
use Rattle.std.specs.List.{slice_get}
use Rattle.std.proofs.lemmas.Option.{slice_get-map}
use Rattle.std.specs.Arc.{arc_value}
use Rattle.kahn.specs.declared.want.Want.TheVariants.{Write, Ended}
use Rattle.flow_messages.specs.Cells.{flag, int}
use Rattle.flow_messages.specs.Signals.{Signal, carry, stop, ended}
use Rattle.flow_messages.specs.Ends.{View, LookedForRoom, PutAll}
use Rattle.flow_messages.specs.Blocks.{flag_signals, int_signals, item_signals}
use Rattle.flow_messages.specs.declared.items.Items.{Items}
use Rattle.flow_base.specs.Visits.{edge_of, Went}
use Rattle.flow_base.proofs.Kernels.{went_looked}
use Rattle.flow_base.proofs.Batches.{Batch, batch_none, batch_write, batch_then, batch_as, block_then, shifted_none, shifted_put, went_batch}
use Rattle.snesl_data.specs.Values.{Value}
use Rattle.flow_scalar.specs.SourceBehaviour.{SourceState, sending, next_signal, next_state, source_want, source_after_write, source_behaviour}
use Rattle.flow_nodes.specs.declared.inputs.turns.Component.{Component}
use Rattle.flow_nodes.specs.declared.inputs.turns.Leaf.{Leaf}
use Rattle.flow_nodes.specs.declared.inputs.turns.State.{State}
use Rattle.flow_nodes.specs.declared.inputs.turns.Piece.{Piece}
use Rattle.flow_nodes.specs.declared.inputs.turns.Piece.TheVariants.{Flag, Int}
use Rattle.flow_nodes.specs.inputs.Left.{left, cell}
use Rattle.snesl_values.specs.Places.{value_at}
use Rattle.flow_nodes.specs.inputs.Items.{items_from, opening_state, written_of, IsRest, text_state}
use Rattle.flow_nodes.specs.declared.inputs.source.TextSource.{TextSource}
use Rattle.flow_nodes.specs.inputs.TextSources.{text_source_state}
use Rattle.flow_nodes.specs.inputs.Sends.{Sends}
use Rattle.flow_nodes.proofs.OfInputs.Sending.{nexts}

-- what pieces say
abbrev pub said : (ℕ → Value) → List Piece → List Signal
said vector pieces = map (λ x. carry (cell vector x)) pieces

pub said_ints : (vector : ℕ → Value) (ns : List ℤ) → said vector (map Int ns) ≡ int_signals ns
said_ints vector [] = refl
said_ints vector (n ∷ ns) = ap (λ l. carry (int n) ∷ l) (said_ints vector ns)

pub said_flags : (vector : ℕ → Value) (bs : List Bool) → said vector (map Flag bs) ≡ flag_signals bs
said_flags vector [] = refl
said_flags vector (b ∷ bs) = ap (λ l. carry (flag b) ∷ l) (said_flags vector bs)

-- the scan of the same text on the same way found these pieces, and leaves others
pub left_ahead : (text same : List ℕ) (way alike : List Component) (leaf : Leaf) (at end : ℕ) (s u : State) (pieces : List Piece) → same ≡ text → alike ≡ way
    → left same alike leaf at s ≡ pieces ++ left same alike leaf end u → left text way leaf at s ≡ pieces ++ left text way leaf end u
left_ahead text same way alike leaf at end s u pieces e f first =
    subst (λ t. left t way leaf at s ≡ pieces ++ left t way leaf end u) e
    (subst (λ w. left same w leaf at s ≡ pieces ++ left same w leaf end u) f first)

-- where pieces are left and then others, the others are the last of all
pub rest_after : (all rest pieces others : List Piece) → IsRest all rest → rest ≡ pieces ++ others → IsRest all others
rest_after all rest [] others is e = subst (IsRest all) e is
rest_after all rest (x ∷ pieces) others is e = rest_after all (pieces ++ others) pieces others (nexts all rest x (pieces ++ others) is e).left refl

-- and the pieces are what is written next
sends_pieces : (text : List ℕ) (way : List Component) (leaf : Leaf) (place : ℕ) (rest pieces others : List Piece) → IsRest (left text way leaf place opening_state) rest → rest ≡ pieces ++ others
    → Sends (sending (items_from text way leaf place) (written_of (left text way leaf place opening_state) rest)) (said (value_at text) pieces)
    (sending (items_from text way leaf place) (written_of (left text way leaf place opening_state) others))
sends_pieces text way leaf place rest [] others is e = ap (λ l. sending (items_from text way leaf place) (written_of (left text way leaf place opening_state) l)) e
sends_pieces text way leaf place rest (x ∷ pieces) others is e =
    let items = items_from text way leaf place in
    let all = left text way leaf place opening_state in
    let count = written_of all rest in
    let next = nexts all rest x (pieces ++ others) is e in
    let here : slice_get items.cells count ≡ Some (cell (value_at text) x) = slice_get-map (cell (value_at text)) all count ∙ ap (option_map (cell (value_at text))) next.next in
    let wrote : source_after_write (sending items count) ≡ sending items (written_of all (pieces ++ others)) = ap (next_state items count) here ∙ ap (sending items) (sym next.more) in (
      refl,
      ap next_signal here,
      subst (λ s. Sends s (said (value_at text) pieces) (sending items (written_of all others))) (sym wrote)
          (sends_pieces text way leaf place (pieces ++ others) pieces others next.left refl),
    )

-- so it is of a source that has not written its end
pub sends_ahead : (text : List ℕ) (way : List Component) (leaf : Leaf) (place at end : ℕ) (s u : State) (ended : Bool) (pieces : List Piece) (ms : List Signal) → ended ≡ false
    → IsRest (left text way leaf place opening_state) (left text way leaf at s) → left text way leaf at s ≡ pieces ++ left text way leaf end u → said (value_at text) pieces ≡ ms
    → Sends (text_state text way leaf place at s ended) ms (text_state text way leaf place end u ended)
sends_ahead text way leaf place at end s u true pieces ms off is e same = absurd (cc)
sends_ahead text way leaf place at end s u false pieces ms off is e same =
    subst (λ l. Sends (text_state text way leaf place at s false) l (text_state text way leaf place end u false)) same
    (sends_pieces text way leaf place (left text way leaf at s) pieces (left text way leaf end u) is e)

-- items that it writes, and none
pub sends_items : (s : SourceState) (items : Items) (ms : List Signal) (new now : TextSource) → item_signals items ≡ ms → now ≡ new → Sends s ms (text_source_state new)
    → Sends s (item_signals items) (text_source_state now)
sends_items s items ms new now said same sends =
    subst (λ l. Sends s l (text_source_state now)) (sym said) (subst (λ n. Sends s ms (text_source_state n)) (sym same) sends)

pub sends_none : (s t : SourceState) (ms : List Signal) → length ms ≡ 0 → Sends s ms t → s ≡ t
sends_none s t [] none sends = sends
sends_none s t (m ∷ ms) none sends = absurd (omega (arith, none))

-- what a source wants, by whether it has written its end
pub wants_write : (source : TextSource) → source.ended ≡ false → source_want (text_source_state source) ≡ Write 0
wants_write source e = ap (λ b. source_want (text_state (arc_value source.text).items source.way.items source.leaf source.place source.at source.state b)) e

pub wants_nothing : (source : TextSource) → source.ended ≡ true → source_want (text_source_state source) ≡ Ended
wants_nothing source e = ap (λ b. source_want (text_state (arc_value source.text).items source.way.items source.leaf source.place source.at source.state b)) e

-- no items, to an edge or to another
nothing_there : (b : Bool) → ◌≡◌ {A = List Signal} [] (cond b [] [])
nothing_there true = refl
nothing_there false = refl

module _ (ins outs : List ℕ) where
  -- a step for each item
  sends_batch : (ms : List Signal) (s t : SourceState) → ended ms ≡ false → Sends s ms t → Batch ins outs source_behaviour s t (λ e. []) (λ e. cond (eqb e (edge_of outs 0)) ms []) (length ms)
  unfolding ended
  sends_batch [] s t unended sends =
      let writes = λ (e : ℕ). cond (eqb e (edge_of outs 0)) [] [] in
      subst (λ k. Batch ins outs source_behaviour s k (λ e. []) writes 0) sends
      (batch_as ins outs source_behaviour (batch_none ins outs source_behaviour s) (λ e. []) writes (λ e. refl) (λ e. nothing_there (eqb e (edge_of outs 0))))
  sends_batch (stop ∷ ms) s t unended sends = absurd (cc)
  sends_batch (carry x ∷ ms) s t unended sends =
      let writes = λ (e : ℕ). cond (eqb e (edge_of outs 0)) (carry x ∷ ms) [] in
      let one = batch_write ins outs source_behaviour (batch_none ins outs source_behaviour s) 0 x (source_after_write s) sends.0 (sym sends.1) refl in
      let rest = sends_batch ms (source_after_write s) t unended sends.2 in
      let all = batch_as ins outs source_behaviour (batch_then ins outs source_behaviour one rest) (λ e. []) writes (λ e. refl) (λ e. block_then (eqb e (edge_of outs 0)) (carry x ∷ []) ms) in
      let count : 1 + length ms ≡ suc (length ms) = omega arith in
      subst (Batch ins outs source_behaviour s t (λ e. []) writes) count all

  module _ {s t : SourceState} {a v w : View} {n : ℕ} (went : Went ins outs source_behaviour s a t v n) (there : 0 < length outs) (looked : LookedForRoom v (edge_of outs 0) w) where
    -- where nothing came, it only looked for room
    pub went_nowhere : (u : SourceState) → t ≡ u → Went ins outs source_behaviour s a u w n
    went_nowhere u same = subst (λ k. Went ins outs source_behaviour s a k w n) same (went_looked source_behaviour ins outs went 0 w there looked)

    -- a block that is put is as many steps
    pub went_block : (ms : List Signal) (u : SourceState) (z : View) (k : ℕ) → ended ms ≡ false → Sends t ms u → length ms ≡ k → 0 < k →
        PutAll w (edge_of outs 0) ms z → Went ins outs source_behaviour s a u z (n + k)
    went_block ms u z k unended sends long some put =
        let found = went_looked source_behaviour ins outs went 0 w there looked in
        let batch = subst (Batch ins outs source_behaviour t u (λ e. []) (λ e. cond (eqb e (edge_of outs 0)) ms [])) long (sends_batch ms t u unended sends) in
        went_batch ins outs source_behaviour found batch some z (shifted_put ins outs (shifted_none ins outs w) 0 ms z there unended put)
