use Rattle.std.proofs.Common.{◌≡◌, arith, ap, sym, ◌∙◌, vec_len}
use Rattle.std.proofs.lemmas.Bool.{eqb-false}
use Rattle.snesl_grammar.specs.tree.View.{type_tree}
use Rattle.snesl_syntax.specs.Types.{finished_type}
use Rattle.snesl_syntax.specs.TypeMachine.{frames_of, state_at}
use Rattle.snesl_syntax.proofs.Piles.{not_whole}
use Rattle.snesl_syntax.proofs.types.TypeMachine.into_whole.Goals as goal

pub returns-else-is_empty : goal.returns-else-is_empty
returns-else-is_empty c =
    let some : vec_len c.args.self.forms ≡ 0 → ⊥ = eqb-false (vec_len c.args.self.forms) 0 (sym c.if-is_empty.ensures) in (
      sym (ap (state_at (frames_of c.args.self.forms.items)) c.in-Ended.is),
      ap (λ p. finished_type (state_at (frames_of c.args.self.forms.items) p)) c.in-Ended.is
          ∙ not_whole c.args.self.forms.items (type_tree c.in-Ended.last) (omega (arith, c.args.self.forms.ok.0, some)),
    )
