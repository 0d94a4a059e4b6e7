-- Steps of Seq along integers: a flag and the integer for each element, and the flag behind the last.
use Rattle.std.proofs.Common.{◌≡◌, ℕ, ℤ, zero, suc, ◌+◌, ◌-◌, ◌*◌, ◌<◌, ◌≤◌, Bool, true, false, cond, eqb, nat_lt, List, [], ◌∷◌, ◌++◌, length, take}
use Rattle.std.proofs.Common.{drop, map, set, Option, Some, Global, refl, sym, ◌∙◌, ap, subst, arith, append-nil, ne_eqb}
use Rattle.std.specs.Prelude.{replicate}
use Rattle.std.specs.Arc.{arc_value}
use Rattle.std.specs.declared.sync.Arc.{Arc}
use Rattle.std.specs.declared.vec.Vec.{Vec}
use Rattle.std.proofs.lemmas.Bool.Decides.{nat_tests}
use Rattle.std.proofs.lemmas.List.{drop-drop, drop-map, drop_all, length-take, map-append, take_more_set, take_rest}
use Rattle.snesl_data.specs.declared.datum.Elements.{Elements}
use Rattle.snesl_data.specs.declared.datum.Elements.TheVariants.{Ints}
use Rattle.snesl_data.specs.Types.{Ty, int as int_type, seq}
use Rattle.snesl_data.specs.Values.{an_int, entries}
use Rattle.snesl_data.proofs.Data.{entries-Ints}
use Rattle.flow_messages.specs.Blocks.{flag_signals, int_signals}
use Rattle.flow_messages.specs.Cells.{flag, int}
use Rattle.flow_messages.specs.Signals.{Signal, carry}
use Rattle.flow_base.specs.Along.{MovesAlong, written_signals, written_at}
use Rattle.flow_base.specs.declared.slices.Moved.{Moved}
use Rattle.flow_messages.specs.declared.items.Items.{Items}
use Rattle.flow_base.specs.declared.slices.Written.{Written}
use Rattle.flow_base.proofs.Along.{Along, no_messages, ran_as, ran_none, ran_then, ran_write}
use Rattle.flow_values.specs.Dues.{DueCell, due, due_cell, segment_dues}
use Rattle.flow_values.specs.declared.dues.Due.{Due}
use Rattle.flow_values.specs.SeqMachine.{seq_machine, left_dues}
use Rattle.flow_values.specs.Shapes.{kinds_of, kind_at}
use Rattle.flow_values.proofs.Layings.{paired}

-- what is due for these integers, as the rest of a sequence
abbrev pub ints_due : List ℤ → List DueCell
ints_due ns = segment_dues int_type 0 (map an_int ns)

-- of a vector that is held, from a later place on
pub later_ints : (held : Option Elements) (v : Arc (Vec ℤ Global) Global) (all : List ℤ) (begun n : ℕ) → held ≡ Some (Ints v) → (arc_value v).items ≡ all →
    left_dues int_type held (begun + n) ≡ ints_due (drop n (take (length all - begun) (drop begun all)))
later_ints held v all begun n is items =
    let rest = drop n (take (length all - begun) (drop begun all)) in
    let later : drop (begun + n) (arc_value v).items ≡ rest = ap (drop (begun + n)) items ∙ sym (drop-drop n begun all) ∙ ap (drop n) (sym (take_rest all begun)) in
    let listed : drop (begun + n) (entries (Ints v)) ≡ map an_int rest = ap (drop (begun + n)) (entries-Ints v) ∙ drop-map an_int (begun + n) (arc_value v).items ∙ ap (map an_int) later in
    ap (λ h. left_dues int_type h (begun + n)) is ∙ ap (segment_dues int_type 0) listed

-- the state where nothing else is due
pub ints_held : (item : Ty) (dues : List Due) (held : Option Elements) (begun place n : ℕ) (ns : List ℤ) → dues ≡ [] → item ≡ int_type →
    ((n : ℕ) → left_dues int_type held (begun + n) ≡ ints_due (drop n ns)) → place ≡ begun + n →
    paired item (map due_cell dues ++ left_dues item held place) ≡ paired int_type (ints_due (drop n ns))
ints_held item dues held begun place n ns none is left at =
    ap (λ ds. paired item (map due_cell ds ++ left_dues item held place)) none
    ∙ ap (λ t. paired t (left_dues t held place)) is ∙ ap (λ k. paired int_type (left_dues int_type held k)) at ∙ ap (paired int_type) (left n)

pub none_held : (item : Ty) (dues : List Due) → dues ≡ [] → item ≡ int_type → paired item (map due_cell dues ++ []) ≡ paired int_type []
none_held item dues none is = ap (λ ds. paired item (map due_cell ds ++ [])) none ∙ ap (λ t. paired t []) is

-- what each output gets: flags and integers
abbrev written : List Signal → List Signal → ℕ → List Signal
written fs ns q = cond (eqb q 0) fs (cond (eqb q 1) ns [])

both_none : (b c : Bool) → no_messages ≡ cond b no_messages (cond c no_messages no_messages)
both_none true c = refl
both_none false true = refl
both_none false false = refl

flag_put : (b c : Bool) (fs : List Signal) → cond b fs no_messages ≡ cond b fs (cond c no_messages no_messages)
flag_put true c fs = refl
flag_put false true fs = refl
flag_put false false fs = refl

int_put : (ns : List Signal) (q : ℕ) → cond (eqb q 1) ns no_messages ≡ written no_messages ns q
int_put ns zero = refl
int_put ns (suc q) = ap (λ b. cond b no_messages (cond (eqb (suc q) 1) ns no_messages)) (sym (ne_eqb (suc q) 0 (λ e. omega (arith, e))))

both_then : (b c : Bool) (fs ns fs' ns' : List Signal) → cond b fs (cond c ns []) ++ cond b fs' (cond c ns' []) ≡ cond b (fs ++ fs') (cond c (ns ++ ns') [])
both_then true c fs ns fs' ns' = refl
both_then false true fs ns fs' ns' = refl
both_then false false fs ns fs' ns' = refl

-- steps that write these flags and integers, and read nothing
abbrev pub Wrote : List DueCell → List DueCell → List Signal → List Signal → ℕ → Type 0
Wrote s t fs ns n = Along seq_machine int_type s t [] [] (written fs ns) n

wrote_none : (s : List DueCell) → Wrote s s [] [] 0
wrote_none s = ran_as seq_machine int_type (ran_none seq_machine int_type s) [] [] (written [] []) 0 refl refl (λ q. both_none (eqb q 0) (eqb q 1)) refl

wrote_then : {s t u : List DueCell} {n k : ℕ} (fs ns fs' ns' : List Signal) → Wrote s t fs ns n → Wrote t u fs' ns' k → Wrote s u (fs ++ fs') (ns ++ ns') (n + k)
wrote_then {n = n} {k = k} fs ns fs' ns' before after =
    ran_as seq_machine int_type (ran_then seq_machine int_type before after) [] [] (written (fs ++ fs') (ns ++ ns')) (n + k) refl refl (λ q. both_then (eqb q 0) (eqb q 1) fs ns fs' ns') refl

a_flag : (b : Bool) (rest : List DueCell) → Wrote (due 0 (flag b) ∷ rest) rest (carry (flag b) ∷ []) [] 1
a_flag b rest =
    let fs : List Signal = carry (flag b) ∷ [] in
    ran_as seq_machine int_type (ran_write seq_machine int_type 0 (due 0 (flag b) ∷ rest) rest (flag b) refl refl refl) [] [] (written fs []) 1 refl refl (λ q. flag_put (eqb q 0) (eqb q 1) fs) refl

an_integer : (n : ℤ) (rest : List DueCell) → Wrote (due 1 (int n) ∷ rest) rest [] (carry (int n) ∷ []) 1
an_integer n rest =
    let ns : List Signal = carry (int n) ∷ [] in
    ran_as seq_machine int_type (ran_write seq_machine int_type 1 (due 1 (int n) ∷ rest) rest (int n) refl refl refl) [] [] (written [] ns) 1 refl refl (int_put ns) refl

one_element : (n : ℤ) (ns : List ℤ) → Wrote (ints_due (n ∷ ns)) (ints_due ns) (carry (flag false) ∷ []) (carry (int n) ∷ []) 2
one_element n ns = wrote_then (carry (flag false) ∷ []) [] [] (carry (int n) ∷ []) (a_flag false (due 1 (int n) ∷ ints_due ns)) (an_integer n (ints_due ns))

-- the same messages, told otherwise
wrote_as : {s t : List DueCell} {fs ns fs' ns' : List Signal} {n k : ℕ} → Wrote s t fs ns n → fs ≡ fs' → ns ≡ ns' → n ≡ k → Wrote s t fs' ns' k
wrote_as {s} {t} {fs} {ns} {fs'} {ns'} {n} {k} wrote same_flags same_ints count =
    let counted = subst (Wrote s t fs ns) count wrote in
    subst (λ l. Wrote s t fs' l k) same_ints (subst (λ l. Wrote s t l ns k) same_flags counted)

-- the first so many elements
elements : (ns : List ℤ) (n : ℕ) → n ≤ length ns → Wrote (ints_due ns) (ints_due (drop n ns)) (flag_signals (replicate n false)) (int_signals (take n ns)) (2 * n)
elements ns zero within = wrote_none (ints_due ns)
elements [] (suc n) within = absurd (omega arith)
elements (k ∷ ns) (suc n) within =
    let fs = flag_signals (replicate n false) in
    let is = int_signals (take n ns) in
    let all = wrote_then (carry (flag false) ∷ []) (carry (int k) ∷ []) fs is (one_element k ns) (elements ns n (omega arith)) in
    let count : 2 + 2 * n ≡ 2 * suc n = omega arith in
    subst (Wrote (ints_due (k ∷ ns)) (ints_due (drop n ns)) (carry (flag false) ∷ fs) (carry (int k) ∷ is)) count all

-- all elements, and the last flag
all_elements : (ns : List ℤ) (n : ℕ) → n ≤ length ns → length ns ≤ n → Wrote (ints_due ns) [] (flag_signals (replicate n false) ++ carry (flag true) ∷ []) (int_signals (take n ns) ++ []) (2 * n + 1)
all_elements ns n within past =
    let last : Wrote (ints_due (drop n ns)) [] (carry (flag true) ∷ []) [] 1 = subst (λ l. Wrote (ints_due l) [] (carry (flag true) ∷ []) [] 1) (sym (drop_all n ns past)) (a_flag true []) in
    wrote_then (flag_signals (replicate n false)) (int_signals (take n ns)) (carry (flag true) ∷ []) [] (elements ns n within) last

-- what the two outputs get of a block
written_to : (block : Written) (made : Moved) (q : ℕ) → written (flag_signals (take made.flags block.flags)) (int_signals (take made.ints block.ints)) q ≡ written_at seq_machine int_type block made q
written_to block made zero = refl
written_to block made (suc zero) = refl
written_to block made (suc (suc q)) =
    let over : nat_lt (suc (suc q)) 2 ≡ false = grind (arith, nat_tests) in
    let fs = flag_signals (take made.flags block.flags) in
    let ns = int_signals (take made.ints block.ints) in
    let not_flags = ne_eqb (suc (suc q)) 0 (λ e. omega (arith, e)) in
    let not_ints = ne_eqb (suc (suc q)) 1 (λ e. omega (arith, e)) in
    ap (λ b. cond b fs (cond (eqb (suc (suc q)) 1) ns [])) not_flags ∙ ap (λ b. cond b ns no_messages) not_ints
    ∙ ap (λ b. cond b (written_signals block made (kind_at (kinds_of (seq int_type)) (suc (suc q)))) no_messages) (sym over)

-- so many rounds, and so many flags more
abbrev pub rounds_made : ℕ → ℕ → Moved
rounds_made n ends = record { first = 0; second = 0; units = 0; flags = n + ends; ints = n; steps = 2 * n + ends }

moves : (s t : List DueCell) (first second : Items) (space most : ℕ) (block : Written) (n ends : ℕ) → n + ends ≤ space → 2 * n + ends ≤ most →
    Wrote s t (flag_signals (take (n + ends) block.flags)) (int_signals (take n block.ints)) (2 * n + ends) →
    MovesAlong seq_machine (int_type, s) (int_type, t) first second space most block (rounds_made n ends)
moves s t first second space most block n ends room may wrote = record {
  within = record {
    first = omega arith;
    second = omega arith;
    units = omega arith;
    flags = room;
    ints = omega (arith, room);
    steps = may;
  };
  ran = ran_as seq_machine int_type wrote [] [] (written_at seq_machine int_type block (rounds_made n ends)) (2 * n + ends) refl refl (written_to block (rounds_made n ends)) refl;
}

-- of the states and of how far it went, told otherwise
pub moves_as : {old old' new new' : Ty × List DueCell} {made made' : Moved} (first second : Items) (space most : ℕ) (block : Written) → old ≡ old' → new ≡ new' → made ≡ made' →
    MovesAlong seq_machine old' new' first second space most block made' → MovesAlong seq_machine old new first second space most block made
moves_as {old} {old'} {new} {new'} {made} {made'} first second space most block same_old same_new same_made went =
    let told : Ty × List DueCell → Ty × List DueCell → Moved → Type 0 = λ a b m. MovesAlong seq_machine a b first second space most block m in
    subst (told old new) (sym same_made) (subst (λ b. told old b made') (sym same_new) (subst (λ a. told a new' made') (sym same_old) went))

-- so many integers lie at the front of the block, and a flag for each
pub record Fronts (ns : List ℤ) (n : ℕ) (flags : List Bool) (ints : List ℤ) : Type 0 where
  pub within : n ≤ length ns
  pub flags_are : take n flags ≡ replicate n false
  pub ints_are : take n ints ≡ take n ns

-- told by how many they are
pub fronts : (ns : List ℤ) (n : ℕ) (flags : List Bool) (ints : List ℤ) → n ≤ length ns → take (length (take n ns)) flags
    ≡ replicate (length (take n ns)) false → take (length (take n ns)) ints ≡ take n ns →
    Fronts ns n flags ints
fronts ns n flags ints within put_flags put_ints =
    let size : length (take n ns) ≡ n = omega (arith, within, length-take n ns) in
    record {
      within = within;
      flags_are = subst (λ k. take k flags ≡ replicate k false) size put_flags;
      ints_are = ap (λ k. take k ints) (sym size) ∙ put_ints;
    }

module _ (ns : List ℤ) (n : ℕ) (flags : List Bool) (ints : List ℤ) (put : Fronts ns n flags ints) (first second : Items) (space most : ℕ) where
  -- it wrote the first so many elements
  pub wrote_some : n ≤ space → 2 * n ≤ most →
      MovesAlong seq_machine (int_type, ints_due ns) (int_type, ints_due (drop n ns)) first second space most (record { flags = flags; ints = ints }) (rounds_made n 0)
  wrote_some room may =
      let none_more : n ≡ n + 0 = omega arith in
      let same_flags : flag_signals (replicate n false) ≡ flag_signals (take (n + 0) flags) = ap flag_signals (sym put.flags_are ∙ ap (λ k. take k flags) none_more) in
      let same_ints : int_signals (take n ns) ≡ int_signals (take n ints) = ap int_signals (sym put.ints_are) in
      let count : 2 * n ≡ 2 * n + 0 = omega arith in
      let wrote = wrote_as (elements ns n put.within) same_flags same_ints count in
      moves (ints_due ns) (ints_due (drop n ns)) first second space most (record { flags = flags; ints = ints }) n 0 (omega (arith, room)) (omega (arith, may)) wrote

  -- it wrote all elements, and the last flag
  pub wrote_all : length ns ≤ n → n < length flags → n < space → 2 * n < most →
      MovesAlong seq_machine (int_type, ints_due ns) (int_type, []) first second space most (record { flags = set flags n true; ints = ints }) (rounds_made n 1)
  wrote_all past there room may =
      let block : Written = record { flags = set flags n true; ints = ints } in
      let one_more : take (n + 1) block.flags ≡ replicate n false ++ true ∷ [] = take_more_set flags n true there ∙ ap (λ l. l ++ true ∷ []) put.flags_are in
      let split = map-append (λ b. carry (flag b)) (replicate n false) (true ∷ []) in
      let same_flags : flag_signals (replicate n false) ++ carry (flag true) ∷ [] ≡ flag_signals (take (n + 1) block.flags) = sym (ap flag_signals one_more ∙ split) in
      let same_ints : int_signals (take n ns) ++ [] ≡ int_signals (take n ints) = append-nil (int_signals (take n ns)) ∙ ap int_signals (sym put.ints_are) in
      let wrote = wrote_as (all_elements ns n put.within past) same_flags same_ints refl in
      moves (ints_due ns) [] first second space most block n 1 (omega (arith, room)) (omega (arith, may)) wrote
