-- What the checker's answers say of the types that do not fit.
use Rattle.std.proofs.Common.{◌≡◌, ℕ, zero, suc, ◌<◌, inl, inr, Bool, true, false, ◌&&◌, cond, List, [], ◌∷◌, ◌++◌, map, take, drop, length, get_or}
use Rattle.std.proofs.Common.{Option, Some, None, Result, Ok, Err, refl, sym, ap, subst, ◌∙◌, arith}
use Rattle.std.specs.Prelude.{IfOk, IsSome}
use Rattle.std.specs.declared.alloc.AllocError.{AllocError}
use Rattle.snesl_data.specs.declared.dialect.Dialect.{Dialect}
use Rattle.snesl_data.specs.declared.refusal.Refusal.{Refusal}
use Rattle.snesl_data.specs.declared.refusal.Refusal.TheVariants.{Mismatch, Streamed}
use Rattle.snesl_data.specs.declared.ty.Ty.{Ty as TyTree}
use Rattle.snesl_data.specs.Types.{Ty, bool, seq, ty_of, is_same}
use Rattle.snesl_data.proofs.SameTypes.{and_true, same_of}
use Rattle.snesl_values.specs.Inputs.{InputDeclaration}
use Rattle.snesl_grammar.specs.declared.tree.operator.Builtin.{Builtin}
use Rattle.snesl_grammar.specs.declared.tree.operator.Operator.{Operator}
use Rattle.snesl_grammar.specs.declared.tree.operator.Prefix.{Prefix}
use Rattle.snesl_grammar.specs.declared.tree.span.Span.{Span}
use Rattle.snesl_grammar.specs.declared.tree.expr.Expr.{Expr}
use Rattle.snesl_grammar.specs.declared.tree.expr.Binder.{Binder}
use Rattle.snesl_grammar.specs.tree.View.{tree_of, trees_of, binders_of, declaration_of}
use Rattle.snesl_grammar.specs.declared.tree.declaration.Declaration.{Declaration as Written}
use Rattle.snesl_grammar.specs.tree.Spelling.{spelling}
use Rattle.snesl_grammar.specs.tree.Tree.{Tree, Trees, Binders, Condition, binary, prefix, call, apply, choice, literal, filter, binding, each, always}
use Rattle.snesl_grammar.specs.tree.Tree.{only_where, both, none, TypeTree, TypedName, DeclarationTree, declares_function, offset}
use Rattle.snesl_types.specs.declared.clashes.Clash.{Clash as Told}
use Rattle.snesl_types.specs.declared.names.Scope.{Scope}
use Rattle.snesl_types.specs.Contexts.{Context, bound, names_context, inside, Signature, Signatures, function_named}
use Rattle.snesl_types.specs.Forms.{operator_result, prefix_result, result_of, tabs_streamed}
use Rattle.snesl_types.specs.Names.{context_of, signatures_in, typed_in, all_typed_in, binders_typed_in}
use Rattle.snesl_types.specs.Typing.{Types}
use Rattle.snesl_types.specs.Violations.{AreOneType}
use Rattle.snesl_types.specs.Programs.{Declared, written_type, nothing_declared, DeclarationsType, NamesType}
use Rattle.snesl_types.specs.Verdicts.{IsVerdict, or_refused, of_builtin, of_items, are_same, declarations_verdict, names_verdict}
use Rattle.snesl_types.specs.Clashes.{Clash, clash_of, operands, operand, arguments, parameters, branches, items, condition, source, operands_misfit}
use Rattle.snesl_types.specs.Clashes.{operand_misfits, arguments_misfit, call_misfits, branches_misfit, items_misfit, filter_misfits}
use Rattle.snesl_types.specs.Clashes.{condition_misfits, this_source, later_source, Clashes, first_clashes, later_clashes, in_condition, in_body}
use Rattle.snesl_types.specs.Clashes.{in_bound, in_part, in_binder, itself, body, seen_parts, within_body, body_misfits, FunctionClashes}
use Rattle.snesl_types.specs.Clashes.{ProgramClashes, in_expression, in_function, IsFound, sources}
use Rattle.snesl_types.specs.Misfitting.{IsMismatch, functions_in, context_names, TypesIn, AllTypeIn, BindersTypeIn, MisfitsIn, ConditionMisfitsIn}
use Rattle.snesl_types.specs.Misfitting.{SourceMisfitsIn, IsNoSequence, ClashesIn, AnyClashesIn, ConditionClashesIn, BoundClashesIn}
use Rattle.snesl_types.specs.Misfitting.{ExpressionClashes, DeclarationClashes, IsOfAnotherType, BodyMisfits, is_sequence}
use Rattle.snesl_types.proofs.Outcomes.{Outcome, given}
use Rattle.snesl_types.proofs.Sound.{tree_sound, all_sound, binders_sound}
use Rattle.snesl_types.proofs.ProgramAnswers.{capped_all}
use Rattle.snesl_types.proofs.ProgramSound.{names_sound, declarations_sound}
use Rattle.snesl_types.proofs.Same.{are_same_self, all_same_of}
use Rattle.snesl_types.proofs.Scopes.{Within}

-- what was found

pub found_as : {E : Type 0} (P Q : Clash → Type 0) (r : Result (Option Told) E) → ((clash : Clash) → P clash → Q clash) → IsFound P r → IsFound Q r
found_as P Q (Ok (Some clash)) f h = f (clash_of clash) h
found_as P Q (Ok None) f h = tt
found_as P Q (Err e) f h = tt

pub found_kept : (P : Clash → Type 0) (a : Result (Option Told) Refusal) (b : Result (Option Told) AllocError)
    → IfOk b (λ clash. IsSome clash → a ≡ Ok clash) → IsFound P a → IsFound P b
found_kept P a (Ok (Some clash)) h f = subst (IsFound P) (h refl) f
found_kept P a (Ok None) h f = tt
found_kept P a (Err e) h f = tt

-- what the verdicts give

given_of : {A : Type 0} {G : A → Type 0} {V : Refusal → Type 0} {R : Type 0} (r : Result A Refusal) (x : A) → r ≡ Ok x → Outcome G V R r → G x
given_of {G = G} (Ok y) x e (given g) = let same : y ≡ x = cc in subst G same g
given_of (Err f) x e h = cc

pub types_of_tree : (scope : Scope) (tree : Tree) (t : Ty) → typed_in scope tree ≡ Ok t → TypesIn scope tree t
types_of_tree scope tree t e = given_of _ t e (tree_sound scope.dialect scope.text.now (functions_in scope) (context_names scope) tree)

pub types_of_all : (scope : Scope) (trees : Trees) (ts : List Ty) → all_typed_in scope [] trees ≡ Ok ts → AllTypeIn scope trees ts
types_of_all scope trees ts e =
    let all = given_of _ ts e (all_sound scope.dialect scope.text.now (functions_in scope) (context_names scope) [] trees) in
    subst (AllTypeIn scope trees) (sym all.2) all.1

pub types_of_binders : (scope : Scope) (binders : Binders) (all : List InputDeclaration) → binders_typed_in scope [] binders ≡ Ok all → BindersTypeIn scope binders all
types_of_binders scope binders all e = given_of _ all e (binders_sound scope.dialect scope.text.now (functions_in scope) (context_names scope) [] binders)

-- a rule that gives no type

mismatch : (v : Result Ty Refusal) (r : Result TyTree Refusal) → IsVerdict ty_of v r → IsMismatch r → (p : ℕ) × (v ≡ Err (Mismatch p))
mismatch v (Err (Mismatch p)) (inl e) m = cc
mismatch v (Err (Mismatch p)) (inr e) m = (p, e)
mismatch v _ a m = absurd m

no_type : (at : ℕ) (o : Option Ty) (r : Result TyTree Refusal) → IsVerdict ty_of (or_refused (Mismatch at) o) r → IsMismatch r → o ≡ None
no_type at o r a m = of_option o (mismatch (or_refused (Mismatch at) o) r a m)
  where
    of_option : (o : Option Ty) → (p : ℕ) × (or_refused (Mismatch at) o ≡ Err (Mismatch p)) → o ≡ None
    of_option None h = refl
    of_option (Some t) h = let e = h.1 in cc

builtin_none : (at p : ℕ) (b : Bool) (o : Option Ty) → or_refused (cond b (Streamed at) (Mismatch at)) o ≡ Err (Mismatch p) → (o ≡ None) × (b ≡ false)
builtin_none at p true None e = cc
builtin_none at p false None e = (refl, refl)
builtin_none at p b (Some t) e = cc

not_alike : (at p : ℕ) (ts : List Ty) → of_items at ts ≡ Err (Mismatch p) → ¬ AreOneType ts
not_alike at p [] e = λ h. h
not_alike at p (t ∷ ts) e = λ h. let ok : of_items at (t ∷ ts) ≡ Ok (seq t) = ap (λ b. cond b (Ok (seq t)) (Err (Mismatch at))) (all_same_of t ts h) in cc

module _ (scope : Scope) where
  pub operands_in : (at : ℕ) (operator : Operator) (left right : Tree) (t u : Ty) (r : Result TyTree Refusal)
      → typed_in scope left ≡ Ok t → typed_in scope right ≡ Ok u → IsVerdict ty_of (or_refused (Mismatch at) (operator_result operator t u)) r → IsMismatch r
      → MisfitsIn scope (binary at operator left right) (operands t u)
  operands_in at operator left right t u r a b answer m =
      operands_misfit (types_of_tree scope left t a) (types_of_tree scope right u b) (no_type at (operator_result operator t u) r answer m)

  pub operand_in : (at : ℕ) (operator : Prefix) (one : Tree) (t : Ty) (r : Result TyTree Refusal)
      → typed_in scope one ≡ Ok t → IsVerdict ty_of (or_refused (Mismatch at) (prefix_result operator t)) r → IsMismatch r
      → MisfitsIn scope (prefix at operator one) (operand t)
  operand_in at operator one t r a answer m = operand_misfits (types_of_tree scope one t a) (no_type at (prefix_result operator t) r answer m)

  pub arguments_in : (at : ℕ) (function : Builtin) (all : Trees) (ts us : List Ty) (r : Result TyTree Refusal)
      → all_typed_in scope [] all ≡ Ok ts → us ≡ ts → IsVerdict ty_of (of_builtin at function us) r → IsMismatch r
      → MisfitsIn scope (call at function all) (arguments ts)
  arguments_in at function all ts us r a same answer m =
      let h = mismatch (of_builtin at function us) r answer m in
      let e : of_builtin at function ts ≡ Err (Mismatch h.0) = ap (of_builtin at function) (sym same) ∙ h.1 in
      let n = builtin_none at h.0 (tabs_streamed function ts) (result_of function ts) e in
      arguments_misfit (types_of_all scope all ts a) n.0 n.1

  pub parameters_in : (place : Span) (all : Trees) (ts us wanted : List Ty) (signature : Signature) (b : Bool)
      → all_typed_in scope [] all ≡ Ok ts → us ≡ ts → Some signature ≡ function_named (spelling scope.text.now place) (functions_in scope)
      → b ≡ are_same us signature.parameters → b ≡ false → wanted ≡ signature.parameters
      → MisfitsIn scope (apply place all) (parameters ts wanted)
  parameters_in place all ts us wanted signature b a given_by is fit fails same =
      subst (λ w. MisfitsIn scope (apply place all) (parameters ts w)) (sym same)
      (call_misfits (types_of_all scope all ts a) (sym is)
      (λ e. let g : are_same us signature.parameters ≡ true = ap (are_same us) (sym (given_by ∙ e)) ∙ are_same_self us in cc))

  pub branches_in : (at : ℕ) (one positive negative : Tree) (t u v : Ty) (b : Bool)
      → typed_in scope one ≡ Ok t → typed_in scope positive ≡ Ok u → typed_in scope negative ≡ Ok v
      → b ≡ (is_same t bool && is_same u v) → b ≡ false → MisfitsIn scope (choice at one positive negative) (branches t u v)
  branches_in at one positive negative t u v b x y z fit fails =
      branches_misfit (types_of_tree scope one t x) (types_of_tree scope positive u y) (types_of_tree scope negative v z)
      (λ same. let g = and_true (same_of same.0) (same_of same.1) in cc)

  pub items_in : (at : ℕ) (all : Trees) (ts us : List Ty) (r : Result TyTree Refusal)
      → all_typed_in scope [] all ≡ Ok ts → us ≡ ts → IsVerdict ty_of (of_items at us) r → IsMismatch r → MisfitsIn scope (literal at all) (items ts)
  items_in at all ts us r a same answer m =
      let h = mismatch (of_items at us) r answer m in
      items_misfit (types_of_all scope all ts a) (not_alike at h.0 ts (ap (of_items at) (sym same) ∙ h.1))

  pub filter_in : (at : ℕ) (item one : Tree) (t u : Ty) (b : Bool)
      → typed_in scope item ≡ Ok t → typed_in scope one ≡ Ok u → b ≡ is_same u bool → b ≡ false → MisfitsIn scope (filter at item one) (condition u)
  filter_in at item one t u b x y fit fails =
      filter_misfits (types_of_tree scope item t x) (types_of_tree scope one u y) (λ same. let g = same_of same in cc)

-- in another scope

module _ (inner scope : Scope) (context : Context) (w : Within inner scope context) where
  pub types_within : (tree : Tree) (t : Ty) → TypesIn inner tree t → Types scope.dialect scope.text.now (functions_in scope) context tree t
  types_within tree t h =
      subst (λ c. Types scope.dialect scope.text.now (functions_in scope) c tree t) w.names
      (subst (λ fs. Types scope.dialect scope.text.now (signatures_in scope.text.now fs) (context_of inner.text.now inner.names.now) tree t) w.functions
      (subst (λ text. Types scope.dialect text (signatures_in text inner.functions.now) (context_of inner.text.now inner.names.now) tree t) w.text
      (subst (λ d. Types d inner.text.now (signatures_in inner.text.now inner.functions.now) (context_of inner.text.now inner.names.now) tree t) w.dialect h)))

  pub clashes_within : (at : ℕ) (tree : Tree) (clash : Clash) → ClashesIn inner at tree clash
      → Clashes scope.dialect scope.text.now (functions_in scope) at clash context tree
  clashes_within at tree clash h =
      subst (λ c. Clashes scope.dialect scope.text.now (functions_in scope) at clash c tree) w.names
      (subst (λ fs. Clashes scope.dialect scope.text.now (signatures_in scope.text.now fs) at clash (context_of inner.text.now inner.names.now) tree) w.functions
      (subst (λ text. Clashes scope.dialect text (signatures_in text inner.functions.now) at clash (context_of inner.text.now inner.names.now) tree) w.text
      (subst (λ d. Clashes d inner.text.now (signatures_in inner.text.now inner.functions.now) at clash (context_of inner.text.now inner.names.now) tree) w.dialect h)))

pub condition_in_scope : (inner scope : Scope) (binders : Binders) (all : List InputDeclaration) (one : Tree) (t : Ty) (b : Bool)
    → Within inner scope (names_context all ++ inside (context_names scope)) → binders_typed_in scope [] binders ≡ Ok all → typed_in inner one ≡ Ok t
    → b ≡ is_same t bool → b ≡ false → ConditionMisfitsIn scope binders (only_where one) (condition t)
condition_in_scope inner scope binders all one t b w bs e fit fails =
    λ at within. condition_misfits (types_of_binders scope binders all bs)
    (types_within inner scope (names_context all ++ inside (context_names scope)) w one t (types_of_tree inner one t e))
    (λ same. let g = same_of same in cc)

-- at a place in a list

pub source_at : (scope : Scope) (at : ℕ) (binders : List Binder) (i : ℕ) (one : Binder) (clash : Clash) → i < length binders → one ≡ get_or binders i one
    → one.name.at ≡ at → IsNoSequence scope (tree_of one.source) clash → SourceMisfitsIn scope at (binders_of binders) clash
source_at scope at [] i one clash l is e h = absurd (omega arith)
source_at scope at (x ∷ binders) zero one clash l is e h =
    let P : Binder → Type 0 = λ y. SourceMisfitsIn scope at (binders_of (y ∷ binders)) clash in
    subst P is (subst (SourceMisfitsIn scope at (binders_of (one ∷ binders))) (sym h.1) (this_source e h.2 h.3))
source_at scope at (x ∷ binders) (suc i) one clash l is e h = later_source (source_at scope at binders i one clash (omega arith) is e h)

pub any_at : (scope : Scope) (at : ℕ) (all : List Expr) (i : ℕ) (one : Expr) (clash : Clash) → i < length all → one ≡ get_or all i one
    → ClashesIn scope at (tree_of one) clash → AnyClashesIn scope at (trees_of all) clash
any_at scope at [] i one clash l is h = absurd (omega arith)
any_at scope at (x ∷ all) zero one clash l is h = first_clashes (subst (λ y. ClashesIn scope at (tree_of y) clash) is h)
any_at scope at (x ∷ all) (suc i) one clash l is h = later_clashes (any_at scope at all i one clash (omega arith) is h)

pub any_source_at : (scope : Scope) (at : ℕ) (binders : List Binder) (i : ℕ) (one : Binder) (clash : Clash) → i < length binders → one ≡ get_or binders i one
    → ClashesIn scope at (tree_of one.source) clash → AnyClashesIn scope at (sources (binders_of binders)) clash
any_source_at scope at [] i one clash l is h = absurd (omega arith)
any_source_at scope at (x ∷ binders) zero one clash l is h = first_clashes (let P : Binder → Type 0 = λ y. ClashesIn scope at (tree_of y.source) clash in subst P is h)
any_source_at scope at (x ∷ binders) (suc i) one clash l is h = later_clashes (any_source_at scope at binders i one clash (omega arith) is h)

-- in a comprehension and in a `let`

module _ (inner scope : Scope) (at : ℕ) (r : Result (Option Told) AllocError) where
  pub in_each_condition : (place : ℕ) (within : Tree) (binders : Binders) (cond : Condition) (all : List InputDeclaration)
      → Within inner scope (names_context all ++ inside (context_names scope)) → binders_typed_in scope [] binders ≡ Ok all
      → IsFound (ConditionClashesIn inner at cond) r → IsFound (ClashesIn scope at (each place within binders cond)) r
  in_each_condition place within binders cond all w bs h = found_as (ConditionClashesIn inner at cond) (ClashesIn scope at (each place within binders cond)) r (λ clash. by_case cond clash) h
    where
      by_case : (cond : Condition) (clash : Clash) → ConditionClashesIn inner at cond clash → ClashesIn scope at (each place within binders cond) clash
      by_case always clash h = absurd h
      by_case (only_where tree) clash h =
          in_condition (types_of_binders scope binders all bs) (clashes_within inner scope (names_context all ++ inside (context_names scope)) w at tree clash h)

  pub in_each_body : (place : ℕ) (within : Tree) (binders : Binders) (cond : Condition) (all : List InputDeclaration)
      → Within inner scope (names_context all ++ inside (context_names scope)) → binders_typed_in scope [] binders ≡ Ok all
      → IsFound (ClashesIn inner at within) r → IsFound (ClashesIn scope at (each place within binders cond)) r
  in_each_body place within binders cond all w bs h =
      found_as (ClashesIn inner at within) (ClashesIn scope at (each place within binders cond)) r
      (λ clash k. in_body {place = place} {cond = cond} (types_of_binders scope binders all bs)
      (clashes_within inner scope (names_context all ++ inside (context_names scope)) w at within clash k)) h

  pub in_let : (name : Span) (value within : Tree) (t : Ty)
      → Within inner scope (bound (spelling scope.text.now name) t ∷ context_names scope) → typed_in scope value ≡ Ok t
      → IsFound (ClashesIn inner at within) r → IsFound (BoundClashesIn scope at name value within) r
  in_let name value within t w e h =
      found_as (ClashesIn inner at within) (BoundClashesIn scope at name value within) r
      (λ clash k. λ start. in_bound {start = start} (types_of_tree scope value t e)
      (clashes_within inner scope (bound (spelling scope.text.now name) t ∷ context_names scope) w at within clash k)) h

pub in_one : (scope : Scope) (at : ℕ) (all : Trees) (part : Tree) (r : Result (Option Told) AllocError) → all ≡ both part none
    → IsFound (ClashesIn scope at part) r → IsFound (AnyClashesIn scope at all) r
in_one scope at all part r e h = subst (λ x. IsFound (AnyClashesIn scope at x) r) (sym e) (found_as (ClashesIn scope at part) (AnyClashesIn scope at (both part none)) r (λ clash k. first_clashes k) h)

-- in a program

declared_by : (dialect : Dialect) (text : List ℕ) (declarations : List DeclarationTree) (found : Declared)
    → declarations_verdict dialect text nothing_declared declarations ≡ Ok found
    → (all : Declared) × DeclarationsType dialect text nothing_declared declarations all × (found ≡ capped_all all)
declared_by dialect text declarations found e = given_of _ found e (declarations_sound dialect text nothing_declared declarations)

pub final_in : (dialect : Dialect) (text : List ℕ) (declarations : List DeclarationTree) (tree : Tree) (found : Declared) (at : ℕ) (r : Result (Option Told) AllocError)
    → declarations_verdict dialect text nothing_declared declarations ≡ Ok found
    → IsFound (ExpressionClashes dialect text found at tree) r
    → IsFound (ProgramClashes text (record { dialect = dialect; declarations = declarations; expression = tree }) at) r
final_in dialect text declarations tree found at r e h =
    let all = declared_by dialect text declarations found e in
    found_as (ExpressionClashes dialect text found at tree)
    (ProgramClashes text (record { dialect = dialect; declarations = declarations; expression = tree }) at) r
    (λ clash k. in_expression all.1 (subst (λ d. ExpressionClashes dialect text d at tree clash) all.2 k)) h

pub function_in : (dialect : Dialect) (text : List ℕ) (before after all : List DeclarationTree) (found : Declared) (place : Span) (written : List TypedName) (result : TypeTree) (within : Tree)
    (at : ℕ) (r : Result (Option Told) AllocError)
    → all ≡ before ++ (declares_function place written result within ∷ after)
    → declarations_verdict dialect text nothing_declared before ≡ Ok found
    → IsFound (FunctionClashes dialect text found.functions at place written result within) r
    → IsFound (DeclarationClashes dialect text all at) r
function_in dialect text before after all found place written result within at r parted e h =
    let declared = declared_by dialect text before found e in
    found_as (FunctionClashes dialect text found.functions at place written result within) (DeclarationClashes dialect text all at) r (λ clash k. λ tree. in_function before after parted declared.1
    (subst (λ (d : Declared). FunctionClashes dialect text d.functions at place written result within clash) declared.2 k)) h

pub parted_at : (declarations : List Written) (i : ℕ) (one : Written) → i < length declarations → one ≡ get_or declarations i one
    → map declaration_of declarations ≡ map declaration_of (take i declarations) ++ (declaration_of one ∷ map declaration_of (drop (suc i) declarations))
parted_at [] i one l is = absurd (omega arith)
parted_at (x ∷ declarations) zero one l is = ap (λ y. declaration_of y ∷ map declaration_of declarations) (sym is)
parted_at (x ∷ declarations) (suc i) one l is = ap (λ ys. declaration_of x ∷ ys) (parted_at declarations i one (omega arith) is)

pub names_given_by : (dialect : Dialect) (text : List ℕ) (written : List TypedName) (names : List InputDeclaration) → names_verdict text [] written ≡ Ok names → NamesType text [] written names
names_given_by dialect text written names e = given_of _ names e (names_sound dialect text [] written)

pub two_first : (scope : Scope) (at : ℕ) (first : Tree) (others : Trees) (r : Result (Option Told) AllocError)
    → IsFound (ClashesIn scope at first) r → IsFound (AnyClashesIn scope at (both first others)) r
two_first scope at first others r h = found_as (ClashesIn scope at first) (AnyClashesIn scope at (both first others)) r (λ clash k. first_clashes k) h

pub later : (scope : Scope) (at : ℕ) (first : Tree) (others : Trees) (r : Result (Option Told) AllocError)
    → IsFound (AnyClashesIn scope at others) r → IsFound (AnyClashesIn scope at (both first others)) r
later scope at first others r h = found_as (AnyClashesIn scope at others) (AnyClashesIn scope at (both first others)) r (λ clash k. later_clashes k) h

pub any_found : (scope : Scope) (at : ℕ) (all : List Expr) (i : ℕ) (one : Expr) (r : Result (Option Told) AllocError) → i < length all → one ≡ get_or all i one
    → IsFound (ClashesIn scope at (tree_of one)) r → IsFound (AnyClashesIn scope at (trees_of all)) r
any_found scope at all i one r l is h =
    found_as (ClashesIn scope at (tree_of one)) (AnyClashesIn scope at (trees_of all)) r (λ clash k. any_at scope at all i one clash l is k) h

pub source_found : (scope : Scope) (at : ℕ) (binders : List Binder) (i : ℕ) (one : Binder) (r : Result (Option Told) AllocError) → i < length binders → one ≡ get_or binders i one
    → IsFound (ClashesIn scope at (tree_of one.source)) r → IsFound (AnyClashesIn scope at (sources (binders_of binders))) r
source_found scope at binders i one r l is h =
    found_as (ClashesIn scope at (tree_of one.source)) (AnyClashesIn scope at (sources (binders_of binders))) r (λ clash k. any_source_at scope at binders i one clash l is k) h

pub own_found : (scope : Scope) (at : ℕ) (tree : Tree) (a : Result (Option Told) Refusal) (b : Result (Option Told) AllocError) → offset tree ≡ at
    → IfOk b (λ clash. IsSome clash → a ≡ Ok clash) → IsFound (MisfitsIn scope tree) a → IsFound (ClashesIn scope at tree) b
own_found scope at tree a b e kept h =
    found_as (MisfitsIn scope tree) (ClashesIn scope at tree) b (λ clash k. itself e k) (found_kept (MisfitsIn scope tree) a b kept h)

pub binder_found : (scope : Scope) (at place : ℕ) (within : Tree) (binders : Binders) (cond : Condition) (a : Result (Option Told) Refusal) (b : Result (Option Told) AllocError)
    → IfOk b (λ clash. IsSome clash → a ≡ Ok clash) → IsFound (SourceMisfitsIn scope at binders) a → IsFound (ClashesIn scope at (each place within binders cond)) b
binder_found scope at place within binders cond a b kept h =
    found_as (SourceMisfitsIn scope at binders) (ClashesIn scope at (each place within binders cond)) b (λ clash k. in_binder {place = place} {within = within} {cond = cond} k)
    (found_kept (SourceMisfitsIn scope at binders) a b kept h)

pub part_found : (scope : Scope) (at : ℕ) (tree : Tree) (r : Result (Option Told) AllocError) → IsFound (AnyClashesIn scope at (seen_parts tree)) r → IsFound (ClashesIn scope at tree) r
part_found scope at tree r h = found_as (AnyClashesIn scope at (seen_parts tree)) (ClashesIn scope at tree) r (λ clash k. in_part {tree = tree} k) h

pub no_sequence : (scope : Scope) (tree : Tree) (t : Ty) (b : Bool) → typed_in scope tree ≡ Ok t → b ≡ is_sequence t → b ≡ false → IsNoSequence scope tree (source t)
no_sequence scope tree t b e fit fails = (t, refl, types_of_tree scope tree t e, (λ item same. let g : is_sequence t ≡ true = ap is_sequence same in cc))

pub another_type : (scope : Scope) (tree : Tree) (written : TypeTree) (t u : Ty) (b : Bool) → written_type written ≡ Ok t → typed_in scope tree ≡ Ok u → b ≡ is_same u t → b ≡ false
    → IsOfAnotherType scope tree written (body u t)
another_type scope tree written t u b w e fit fails = (t, u, refl, w, types_of_tree scope tree u e, (λ same. let g = same_of same in cc))

pub let_found : (scope : Scope) (at place : ℕ) (name : Span) (value within : Tree) (r : Result (Option Told) AllocError)
    → IsFound (BoundClashesIn scope at name value within) r → IsFound (ClashesIn scope at (binding place name value within)) r
let_found scope at place name value within r h =
    found_as (BoundClashesIn scope at name value within) (ClashesIn scope at (binding place name value within)) r (λ clash k. k place) h

module _ (dialect : Dialect) (text : List ℕ) (functions : Signatures) (at : ℕ) (place : Span) (written : List TypedName) (result : TypeTree) (within : Tree) (names : List InputDeclaration) where
  pub function_found : (r : Result (Option Told) AllocError) → names_verdict text [] written ≡ Ok names
      → IsFound (λ clash. Clashes dialect text functions at clash (names_context names) within) r → IsFound (FunctionClashes dialect text functions at place written result within) r
  function_found r e h =
      found_as (λ clash. Clashes dialect text functions at clash (names_context names) within) (FunctionClashes dialect text functions at place written result within) r
      (λ clash k. within_body (names_given_by dialect text written names e) k) h

  pub body_found : (a : Result (Option Told) Refusal) (b : Result (Option Told) AllocError) → place.at ≡ at → names_verdict text [] written ≡ Ok names
      → IfOk b (λ clash. IsSome clash → a ≡ Ok clash) → IsFound (BodyMisfits dialect text functions (names_context names) within result) a
      → IsFound (FunctionClashes dialect text functions at place written result within) b
  body_found a b here e kept h =
      found_as (BodyMisfits dialect text functions (names_context names) within result) (FunctionClashes dialect text functions at place written result within) b
      (λ clash k. subst (FunctionClashes dialect text functions at place written result within) (sym k.2)
      (body_misfits here (names_given_by dialect text written names e) k.3 k.4 k.5))
      (found_kept (BodyMisfits dialect text functions (names_context names) within result) a b kept h)

pub declaration_found : (dialect : Dialect) (text : List ℕ) (declarations : List DeclarationTree) (at : ℕ) (tree : Tree) (r : Result (Option Told) AllocError)
    → IsFound (DeclarationClashes dialect text declarations at) r → IsFound (ProgramClashes text (record { dialect = dialect; declarations = declarations; expression = tree }) at) r
declaration_found dialect text declarations at tree r h =
    found_as (DeclarationClashes dialect text declarations at) (ProgramClashes text (record { dialect = dialect; declarations = declarations; expression = tree }) at) r (λ clash k. k tree) h
