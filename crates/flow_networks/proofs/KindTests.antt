-- What the test of two kinds says.
use Rattle.std.proofs.Common.{rules, ◌≡◌, Bool, true, refl, sym, ◌∙◌, ap}
use denote.Enum.Bare.{sameb, same_true}
use Rattle.flow_messages.specs.declared.message.Kind.{Kind}
use Rattle.flow_messages.specs.declared.message.Kind.TheVariants.{Unit as UnitKind, Bool as BoolKind, Int as IntKind, Vec as VecKind}
use Rattle.flow_messages.specs.contracts.message.Kind.{the_type}

same_itself : (a : Kind) → sameb the_type a a ≡ true
same_itself UnitKind = refl
same_itself BoolKind = refl
same_itself IntKind = refl
same_itself VecKind = refl

pub same_kind : (a b : Kind) (r : Bool) → r ≡ sameb the_type a b → (r ≡ true → a ≡ b) × (a ≡ b → r ≡ true)
same_kind a b r e = (λ t. same_true the_type (search rules) a b (sym e ∙ t), λ s. e ∙ ap (λ x. sameb the_type x b) s ∙ same_itself b)
