use Rattle.std.proofs.Common.{◌≤◌, ℕ, List, [], ◌∷◌, length, Result, arith}
use Rattle.snesl_data.specs.declared.refusal.Refusal.{Refusal}
use Rattle.snesl_data.specs.declared.ty.Ty.{Ty as TyTree}
use Rattle.snesl_data.specs.Types.{Ty, ty_of}
use Rattle.snesl_grammar.specs.declared.tree.expr.Binder.{Binder}
use Rattle.snesl_grammar.specs.tree.View.{binders_of}
use Rattle.snesl_types.specs.Verdicts.{IsVerdict, of_filter, of_each}
use Rattle.snesl_types.proofs.forms.each_type.Goals as goal

-- where there is a binder, the body and the condition decide
of_some : (at : ℕ) (binders : List Binder) (t u : Ty) (r : Result TyTree Refusal) → 1 ≤ length binders
    → IsVerdict ty_of (of_filter at t u) r → IsVerdict ty_of (of_each at (binders_of binders) t u) r
of_some at [] t u r h a = absurd (omega arith)
of_some at (first ∷ others) t u r h a = a

pub returns-in_default : goal.returns-in_default
returns-in_default c =
    of_some c.args.at c.args.binders.now (ty_of c.args.body) (ty_of c.args.condition.now) c.filter_type.result (omega arith) c.filter_type.ensures
