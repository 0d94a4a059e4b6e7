-- What an edge of one kind takes.
use Rattle.std.proofs.Common.{◌≡◌, ℕ, Bool, true, refl, sym, ap, ◌∙◌, subst, rules, arith}
use Rattle.std.specs.Prelude.{pos, Option, Some, None, ◌↔◌, IsTrue}
use denote.Enum.Bare.{sameb, same_true}
use Rattle.flow_messages.specs.contracts.message.Kind.{the_type}
use Rattle.flow_messages.specs.declared.message.Kind.{Kind}
use Rattle.flow_messages.specs.declared.message.Kind.TheVariants.{Unit as UnitKind, Bool as BoolKind, Int as IntKind, Vec as VecKind}
use Rattle.snesl_data.specs.Values.{an_int}
use Rattle.flow_messages.specs.Cells.{Cell, unit, flag, int, datum, is_of}
use Rattle.flow_messages.specs.Signals.{Signal, carry}
use Rattle.flow_messages.specs.Ends.{View, SameEnds}
use Rattle.flow_messages.specs.Kinds.{fits, FitsEdge, TakesKind}

-- an edge that takes items of the kind takes what is of it
pub kind_fits : (of : Option Kind) (k : Kind) (s : Signal) → TakesKind of k → fits k s ≡ true → FitsEdge of s
kind_fits None k s takes is = tt
kind_fits (Some j) k s takes is = takes s is

-- the same edge takes what it took
pub fits_still : (a b : View) (e : ℕ) (s : Signal) → SameEnds a b → FitsEdge (a.kind e) s → FitsEdge (b.kind e) s
fits_still a b e s same is = subst (λ of. FitsEdge of s) (sym (same.kinds e)) is

pub takes_still : (a b : View) (e : ℕ) (k : Kind) → SameEnds a b → TakesKind (a.kind e) k → TakesKind (b.kind e) k
takes_still a b e k same is = subst (λ of. TakesKind of k) (sym (same.kinds e)) is

-- an item is of one kind
one_kind : (j k : Kind) (x : Cell) → is_of j x ≡ true → is_of k x ≡ true → j ≡ k
one_kind j k x as_j as_k = grind (arith)

-- an edge that takes an item takes all of its kind
pub fits_takes : (of : Option Kind) (k : Kind) (x : Cell) → is_of k x ≡ true → FitsEdge of (carry x) → TakesKind of k
fits_takes None k x is fits_x = λ s h. refl
fits_takes (Some j) k x is fits_x = λ s h. subst (λ i. fits i s ≡ true) (one_kind k j x is fits_x) h

-- what an item of each kind may say
sample : Kind → Cell
sample UnitKind = unit
sample BoolKind = flag true
sample IntKind = int (pos 0)
sample VecKind = datum (an_int (pos 0))

sample_is : (k : Kind) → is_of k (sample k) ≡ true
unfolding sample
sample_is UnitKind = refl
sample_is BoolKind = refl
sample_is IntKind = refl
sample_is VecKind = refl

-- an edge of kind j takes the items of kind j alone
pub takes_own : (j k : Kind) → TakesKind (Some j) k ↔ (j ≡ k)
takes_own j k = (
  λ takes. one_kind j k (sample k) (takes (carry (sample k)) (sample_is k)) (sample_is k),
  λ is s of_k. subst (λ i. fits i s ≡ true) (sym is) of_k,
)

-- and so those of kind k exactly where an item of kind j is of kind k
pub takes_where : (j k : Kind) (x : Cell) (r : Bool) → is_of j x ≡ true → r ≡ is_of k x → IsTrue r ↔ TakesKind (Some j) k
takes_where j k x r of_j is = (
  λ t. (takes_own j k).1 (one_kind j k x of_j (sym is ∙ t)),
  λ takes. is ∙ subst (λ i. is_of i x ≡ true) ((takes_own j k).0 takes) of_j,
)

same_itself : (a : Kind) → sameb the_type a a ≡ true
same_itself UnitKind = refl
same_itself BoolKind = refl
same_itself IntKind = refl
same_itself VecKind = refl

-- what a comparison of two kinds tells
pub same_takes : (j k : Kind) (r : Bool) → r ≡ sameb the_type j k → IsTrue r ↔ TakesKind (Some j) k
same_takes j k r is = (
  λ t. (takes_own j k).1 (same_true the_type (search rules) j k (sym is ∙ t)),
  λ takes. is ∙ ap (λ x. sameb the_type x k) ((takes_own j k).0 takes) ∙ same_itself k,
)

-- an edge of no kind takes all items
pub takes_all : (k : Kind) → TakesKind None k
takes_all k s of_k = refl
