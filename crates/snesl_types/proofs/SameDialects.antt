-- The test for one dialect.
use Rattle.std.proofs.Common.{rules, ◌≡◌, Bool, true, refl, sym, ap, ◌∙◌}
use denote.Enum.Bare.{sameb, same_true}
use Rattle.snesl_data.specs.contracts.dialect.Dialect.{the_type}
use Rattle.snesl_data.specs.declared.dialect.Dialect.{Dialect}
use Rattle.snesl_data.specs.declared.dialect.Dialect.TheVariants.{One, Two}

same_itself : (a : Dialect) → sameb the_type a a ≡ true
same_itself One = refl
same_itself Two = refl

pub same_dialect : (a b : Dialect) (r : Bool) → r ≡ sameb the_type a b → (r ≡ true → a ≡ b) × (a ≡ b → r ≡ true)
same_dialect a b r e = (λ t. same_true the_type (search rules) a b (sym e ∙ t), λ s. e ∙ ap (λ x. sameb the_type x b) s ∙ same_itself b)
