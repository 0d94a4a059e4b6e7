-- What a source over a text writes next.
use Rattle.std.proofs.Common.{◌≡◌, ℕ, zero, suc, ◌+◌, ◌-◌, Bool, true, false, List, [], ◌∷◌, length, drop, Some, None, option_map, sym, ap, ◌∙◌, arith, length-drop}
use Rattle.std.specs.List.{slice_get}
use Rattle.std.proofs.lemmas.Option.{slice_get-map, slice_get_past}
use Rattle.flow_messages.specs.Cells.{Cell, is_of}
use Rattle.flow_messages.specs.Signals.{carry, stop}
use Rattle.flow_messages.specs.declared.message.Kind.TheVariants.{Vec as VecKind}
use Rattle.flow_base.specs.Transducers.{IsWrite}
use Rattle.flow_scalar.specs.SourceBehaviour.{finished, sending, is_vector, next_signal, next_state, source_want, source_signal, source_after_write, source_takes_memory}
use Rattle.flow_nodes.specs.declared.inputs.turns.Component.{Component}
use Rattle.flow_nodes.specs.declared.inputs.turns.Leaf.{Leaf}
use Rattle.flow_nodes.specs.declared.inputs.turns.State.{State}
use Rattle.flow_nodes.specs.declared.inputs.turns.Piece.{Piece}
use Rattle.flow_nodes.specs.inputs.Left.{left, cell}
use Rattle.snesl_values.specs.Places.{value_at}
use Rattle.flow_nodes.specs.inputs.Items.{items_from, opening_state, written_of, IsRest, text_state}

get_first : (all rest : List Piece) (n : ℕ) (x : Piece) → drop n all ≡ x ∷ rest → slice_get all n ≡ Some x
get_first [] rest zero x e = absurd (cc)
get_first [] rest (suc n) x e = absurd (cc)
get_first (y ∷ all) rest zero x e = let same : y ≡ x = cc in ap Some same
get_first (y ∷ all) rest (suc n) x e = get_first all rest n x e

drop_first : (all rest : List Piece) (n : ℕ) (x : Piece) → drop n all ≡ x ∷ rest → drop (n + 1) all ≡ rest
drop_first [] rest zero x e = absurd (cc)
drop_first [] rest (suc n) x e = absurd (cc)
drop_first (y ∷ all) rest zero x e = cc
drop_first (y ∷ all) rest (suc n) x e = let next : suc n + 1 ≡ suc (n + 1) = omega arith in ap (λ k. drop k (y ∷ all)) next ∙ drop_first all rest n x e

-- where a piece is left, it is the next one, and after it the others are left
pub record Nexts (all rest : List Piece) (x : Piece) (others : List Piece) : Type 0 where
  pub next : slice_get all (written_of all rest) ≡ Some x
  pub more : written_of all others ≡ written_of all rest + 1
  pub left : IsRest all others

pub nexts : (all rest : List Piece) (x : Piece) (others : List Piece) → IsRest all rest → rest ≡ x ∷ others → Nexts all rest x others
nexts all rest x others is e =
    let n : ℕ = written_of all rest in
    let front : drop n all ≡ x ∷ others = is ∙ e in
    let size : length rest ≡ suc (length others) = ap length e in
    let kept : length rest ≡ length all - n = sym (ap length is) ∙ length-drop n all in
    let more : written_of all others ≡ n + 1 = omega arith in
    record {
      next = get_first all others n x front;
      more = more;
      left = ap (λ k. drop k all) more ∙ drop_first all others n x front;
    }

-- what is written next
next_cell : (text : List ℕ) (way : List Component) (leaf : Leaf) (place at : ℕ) (s : State) (x : Piece) (others : List Piece) →
    Nexts (left text way leaf place opening_state) (left text way leaf at s) x others
    → slice_get (items_from text way leaf place).cells (written_of (left text way leaf place opening_state) (left text way leaf at s)) ≡ Some (cell (value_at text) x)
next_cell text way leaf place at s x others n =
    slice_get-map (cell (value_at text)) (left text way leaf place opening_state) _ ∙ ap (option_map (cell (value_at text))) n.next

pub sends_piece : (text : List ℕ) (way : List Component) (leaf : Leaf) (place at end : ℕ) (s u : State) (ended : Bool) (x : Piece) (c : Cell) →
    IsWrite (source_want (text_state text way leaf place at s ended))
    → Nexts (left text way leaf place opening_state) (left text way leaf at s) x (left text way leaf end u) → c ≡ cell (value_at text) x
    → (carry c ≡ source_signal (text_state text way leaf place at s ended)) × (text_state text way leaf place end u ended ≡ source_after_write (text_state text way leaf place at s ended))
sends_piece text way leaf place at end s u true x c h n e = absurd h
sends_piece text way leaf place at end s u false x c h n e =
    let items = items_from text way leaf place in
    let count = written_of (left text way leaf place opening_state) (left text way leaf at s) in
    let here = next_cell text way leaf place at s x (left text way leaf end u) n in
    (ap carry e ∙ sym (ap next_signal here), ap (sending items) n.more ∙ sym (ap (next_state items count) here))

pub sends_end : (text : List ℕ) (way : List Component) (leaf : Leaf) (place at : ℕ) (s : State) (ended : Bool) →
    IsWrite (source_want (text_state text way leaf place at s ended)) → left text way leaf at s ≡ []
    → (stop ≡ source_signal (text_state text way leaf place at s ended)) × (finished (items_from text way leaf place) ≡ source_after_write (text_state text way leaf place at s ended))
sends_end text way leaf place at s true h e = absurd h
sends_end text way leaf place at s false h e =
    let items = items_from text way leaf place in
    let all = left text way leaf place opening_state in
    let count = written_of all (left text way leaf at s) in
    let size : length (left text way leaf at s) ≡ 0 = ap length e in
    let past : slice_get all count ≡ None = slice_get_past all count (omega arith) in
    let here = slice_get-map (cell (value_at text)) all count ∙ ap (option_map (cell (value_at text))) past in
    (sym (ap next_signal here), sym (ap (next_state items count) here))

-- where the next item is no vector, no memory is taken
pub takes : (text : List ℕ) (way : List Component) (leaf : Leaf) (place at : ℕ) (s : State) (ended : Bool) (x : Piece) (others : List Piece) →
    IsWrite (source_want (text_state text way leaf place at s ended))
    → Nexts (left text way leaf place opening_state) (left text way leaf at s) x others →
    source_takes_memory (text_state text way leaf place at s ended) ≡ false → is_of VecKind (cell (value_at text) x) ≡ false
takes text way leaf place at s true x others h n e = absurd h
takes text way leaf place at s false x others h n e = sym (ap is_vector (next_cell text way leaf place at s x others n)) ∙ e
