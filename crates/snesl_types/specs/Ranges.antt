-- Programs whose integers are integers of their dialect.
use Rattle.std.specs.Prelude.{List, [], ◌∷◌}
use Rattle.snesl_data.specs.declared.dialect.Dialect.{Dialect}
use Rattle.snesl_data.specs.Integers.{IsInteger}
use Rattle.snesl_grammar.specs.tree.Tree.{Tree, Trees, Binders, Condition, integer, truth, name, binary, prefix, call, apply, group, pair as pair_tree}
use Rattle.snesl_grammar.specs.tree.Tree.{binding, choice, literal, filter, each, none, both, none_bound, binder, always, only_where, DeclarationTree}
use Rattle.snesl_grammar.specs.tree.Tree.{declares_input, declares_function, ProgramTree}

abbrev mutual
  pub IsInRange : Dialect → Tree → Type 0
  IsInRange dialect (integer at value) = IsInteger dialect value
  IsInRange dialect (truth at value) = Unit {0}
  IsInRange dialect (name place) = Unit {0}
  IsInRange dialect (binary at operator left right) = IsInRange dialect left × IsInRange dialect right
  IsInRange dialect (prefix at operator operand) = IsInRange dialect operand
  IsInRange dialect (call at function arguments) = AreInRange dialect arguments
  IsInRange dialect (apply place arguments) = AreInRange dialect arguments
  IsInRange dialect (group at inner) = IsInRange dialect inner
  IsInRange dialect (pair_tree at first second) = IsInRange dialect first × IsInRange dialect second
  IsInRange dialect (binding at place value body) = IsInRange dialect value × IsInRange dialect body
  IsInRange dialect (choice at condition positive negative) = IsInRange dialect condition × IsInRange dialect positive × IsInRange dialect negative
  IsInRange dialect (literal at items) = AreInRange dialect items
  IsInRange dialect (filter at item condition) = IsInRange dialect item × IsInRange dialect condition
  IsInRange dialect (each at body binders condition) = BindersInRange dialect binders × ConditionInRange dialect condition × IsInRange dialect body

  pub AreInRange : Dialect → Trees → Type 0
  AreInRange dialect none = Unit {0}
  AreInRange dialect (both first others) = IsInRange dialect first × AreInRange dialect others

  pub BindersInRange : Dialect → Binders → Type 0
  BindersInRange dialect none_bound = Unit {0}
  BindersInRange dialect (binder place source others) = IsInRange dialect source × BindersInRange dialect others

  pub ConditionInRange : Dialect → Condition → Type 0
  ConditionInRange dialect always = Unit {0}
  ConditionInRange dialect (only_where condition) = IsInRange dialect condition

abbrev pub DeclarationInRange : Dialect → DeclarationTree → Type 0
DeclarationInRange dialect (declares_input declared) = Unit {0}
DeclarationInRange dialect (declares_function place parameters result body) = IsInRange dialect body

abbrev pub DeclarationsInRange : Dialect → List DeclarationTree → Type 0
DeclarationsInRange dialect [] = Unit {0}
DeclarationsInRange dialect (first ∷ others) = DeclarationInRange dialect first × DeclarationsInRange dialect others

pub record ProgramInRange (program : ProgramTree) : Type 0 where
  pub declarations : DeclarationsInRange program.dialect program.declarations
  pub expression : IsInRange program.dialect program.expression
