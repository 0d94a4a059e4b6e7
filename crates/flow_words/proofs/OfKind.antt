-- What comes over an edge is of its kind.
use Rattle.std.proofs.Common.{◌≡◌, ℤ, Bool, true, false, cond, List, [], ◌∷◌, refl, subst, arith}
use Rattle.std.specs.Prelude.{Some, slice_index_or}
use Rattle.std.specs.List.{All}
use Rattle.std.proofs.lemmas.List.Elements.{All-nil, All-cons, All-map}
use Rattle.flow_messages.specs.declared.message.Kind.TheVariants.{Unit as UnitKind, Bool as BoolKind, Int as IntKind}
use Rattle.flow_messages.specs.declared.message.Msg.{Msg}
use Rattle.flow_messages.specs.declared.message.Msg.TheVariants.{Item as ItemMsg, End as EndMsg}
use Rattle.flow_messages.specs.declared.message.Item.TheVariants.{Int as IntItem}
use Rattle.flow_messages.specs.Kinds.{fits, FitsEdge}
use Rattle.flow_messages.specs.Signals.{signal_of}
use Rattle.flow_words.specs.declared.words.UnitWord.{UnitWord}
use Rattle.flow_words.specs.declared.words.UnitWord.TheVariants.{Unit as AUnit, End as UnitsEnd}
use Rattle.flow_words.specs.declared.words.FlagWord.{FlagWord}
use Rattle.flow_words.specs.declared.words.FlagWord.TheVariants.{False as AFalse, True as ATrue, End as FlagsEnd}
use Rattle.flow_words.specs.declared.words.Group.{Group}
use Rattle.flow_words.specs.declared.words.Group.TheVariants.{None as NoGroup, Begun, Top, Half}
use Rattle.flow_words.specs.declared.ring.ReaderWords.{ReaderWords}
use Rattle.flow_words.specs.declared.ring.ReaderWords.TheVariants.{Units as UnitsFrom, Flags as FlagsFrom, Ints as IntsFrom}
use Rattle.flow_words.specs.Words.{unit_word, flag_word, is_escape, group_number, ints_said}
use Rattle.flow_words.specs.Ring.{received, reader_kind}
use Rattle.rtrb.specs.Ring as port

unit_fits : (w : UnitWord) → fits UnitKind (signal_of (unit_word w)) ≡ true
unit_fits AUnit = refl
unit_fits UnitsEnd = refl

flag_fits : (w : FlagWord) → fits BoolKind (signal_of (flag_word w)) ≡ true
flag_fits AFalse = refl
flag_fits ATrue = refl
flag_fits FlagsEnd = refl

abbrev AreInts : List Msg → Type 0
AreInts ms = All (λ m. fits IntKind (signal_of m) ≡ true) ms

int_more : (n : ℤ) (ms : List Msg) → AreInts ms → AreInts (ItemMsg (IntItem n) ∷ ms)
int_more n ms all = All-cons (λ m. fits IntKind (signal_of m) ≡ true) (ItemMsg (IntItem n)) ms refl all

end_more : (ms : List Msg) → AreInts ms → AreInts (EndMsg ∷ ms)
end_more ms all = All-cons (λ m. fits IntKind (signal_of m) ≡ true) EndMsg ms refl all

fork_ints : (b : Bool) (ms ns : List Msg) → AreInts ms → AreInts ns → AreInts (cond b ms ns)
fork_ints true ms ns all all' = all
fork_ints false ms ns all all' = all'

ints_fit : (g : Group) (ws : List ℤ) → AreInts (ints_said g ws)
unfolding ints_said
ints_fit NoGroup [] = All-nil (λ m. fits IntKind (signal_of m) ≡ true)
ints_fit Begun [] = All-nil (λ m. fits IntKind (signal_of m) ≡ true)
ints_fit (Top t) [] = All-nil (λ m. fits IntKind (signal_of m) ≡ true)
ints_fit (Half t m) [] = All-nil (λ m. fits IntKind (signal_of m) ≡ true)
ints_fit NoGroup (w ∷ ws) = fork_ints (is_escape w) _ _ (ints_fit Begun ws) (int_more w _ (ints_fit NoGroup ws))
ints_fit Begun (w ∷ ws) = fork_ints (is_escape w) _ _ (end_more _ (ints_fit NoGroup ws)) (ints_fit (Top w) ws)
ints_fit (Top t) (w ∷ ws) = ints_fit (Half t w) ws
ints_fit (Half t m) (w ∷ ws) = int_more (group_number t m w) _ (ints_fit NoGroup ws)

-- the first of what words of integers say is one, or the end
pub first_is_int : (g : Group) (w : ℤ) (m : Msg) (ms : List Msg) → ints_said g (w ∷ []) ≡ m ∷ ms → fits IntKind (signal_of m) ≡ true
first_is_int g w m ms said = subst AreInts said (ints_fit g (w ∷ [])) 0 m (omega arith)

pub came_fits : (r : ReaderWords) → All (λ m. FitsEdge (Some (reader_kind r)) (signal_of m)) (received r)
came_fits (UnitsFrom c) = All-map (λ m. fits UnitKind (signal_of m) ≡ true) unit_word (port.received c) (λ k d low. unit_fits (slice_index_or (port.received c) k d))
came_fits (FlagsFrom c) = All-map (λ m. fits BoolKind (signal_of m) ≡ true) flag_word (port.received c) (λ k d low. flag_fits (slice_index_or (port.received c) k d))
came_fits (IntsFrom c) = ints_fit NoGroup (port.received c)
