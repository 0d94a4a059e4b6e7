-- What checking answers for a program is what the rules say of it, and there is one answer.
use Rattle.std.proofs.Common.{◌≡◌, ◌⊎◌, inl, inr, ℕ, ◌<◌, ◌≤◌, Bool, true, false, cond, List, [], ◌∷◌, ◌++◌, Option, Some, None, Result, Ok, Err, refl, sym, ap, subst, ◌∙◌, arith}
use Rattle.std.specs.Prelude.{nat_le}
use Rattle.std.proofs.lemmas.Bool.{leb-true, leb-false}
use Rattle.snesl_data.specs.declared.dialect.Dialect.{Dialect}
use Rattle.snesl_data.specs.declared.refusal.Refusal.{Refusal}
use Rattle.snesl_data.specs.declared.refusal.Refusal.TheVariants.{Name, Mismatch, TooBig, NoMemory}
use Rattle.snesl_values.specs.Inputs.{InputDeclaration}
use Rattle.snesl_data.specs.Types.{Ty, is_same}
use Rattle.snesl_grammar.specs.declared.tree.span.Span.{Span}
use Rattle.snesl_grammar.specs.tree.Spelling.{spelling}
use Rattle.snesl_grammar.specs.tree.Tree.{Tree, TypeTree, TypedName, DeclarationTree, declares_input, declares_function, ProgramTree}
use Rattle.snesl_types.specs.Contexts.{names_context, type_in, Signature, Signatures, function_named}
use Rattle.snesl_types.specs.Sizes.{size, greatest_size}
use Rattle.snesl_types.specs.Ranges.{IsInRange, DeclarationsInRange, ProgramInRange}
use Rattle.snesl_types.specs.Typing.{Types}
use Rattle.snesl_types.specs.Programs.{and_then, written_type, Declared, with_inputs, with_function, typed_name, NamesType, no_names, more_names}
use Rattle.snesl_types.specs.Programs.{NamesViolate, named_twice, type_refused, later_names_violate, signature_of, FunctionTypes, function_type}
use Rattle.snesl_types.specs.Programs.{FunctionViolates, function_twice, parameter_violates, result_refused, function_body_violates}
use Rattle.snesl_types.specs.Programs.{function_mismatch, DeclarationsType, no_declarations, input_declared, function_declared, DeclarationsViolate}
use Rattle.snesl_types.specs.Programs.{input_violates, function_violates, after_input_violates, after_function_violates, are_few, nothing_declared}
use Rattle.snesl_types.specs.Programs.{ProgramTypes, ProgramViolates, many_declarations, declaration_violates, expression_violates, big_expression}
use Rattle.snesl_types.specs.Programs.{HasTyping, HaveOneTyping, HaveSomeTyping, IsFirstViolation, IsMemoryIfTyped}
use Rattle.snesl_types.specs.Verdicts.{verdict, new_name, name_verdict, names_verdict, of_body, function_verdict, capped, with_capped_function}
use Rattle.snesl_types.specs.Verdicts.{declarations_verdict, expression_verdict, program_verdict}
use Rattle.snesl_data.proofs.SameTypes.{same_eq, same_of}
use Rattle.snesl_types.proofs.Outcomes.{Outcome, given, violated, out_of_range, then_outcome}
use Rattle.snesl_types.proofs.Sound.{tree_sound}
use Rattle.snesl_types.proofs.ProgramAnswers.{capped_all, size_capped, with_capped, names_complete, function_complete, program_complete, violation_complete}

module _ (dialect : Dialect) (text : List ℕ) where
  abbrev pub OfNames : List InputDeclaration → List TypedName → Result (List InputDeclaration) Refusal → Type 0
  OfNames earlier written r = Outcome (NamesType text earlier written) (NamesViolate text earlier written) (Unit {0}) r

  -- one name, and what others after it give
  name_outcome : (earlier : List InputDeclaration) (first : TypedName) (others : List TypedName) {B : Type 0} {G : B → Type 0} {V : Refusal → Type 0}
      {R : Type 0} (next : InputDeclaration → Result B Refusal)
      → ((r : Refusal) → NamesViolate text earlier (first ∷ []) r → V r)
      → ((t : Ty) → type_in (spelling text first.place) earlier ≡ None → written_type first.written ≡ Ok t → Outcome G V R (next (typed_name text first t)))
      → Outcome G V R (and_then (name_verdict text earlier first) next)
  name_outcome earlier first others {B = B} {G = G} {V = V} {R = R} next fails goes = of_name (type_in (spelling text first.place) earlier) refl
    where
      of_type : type_in (spelling text first.place) earlier ≡ None → (w : Result Ty Refusal) → written_type first.written ≡ w
          → Outcome G V R (and_then (and_then w (λ t. Ok (spelling text first.place, t))) next)
      of_type e (Ok t) f = goes t e f
      of_type e (Err r) f = violated (fails r (type_refused e f))

      of_name : (o : Option Ty) → type_in (spelling text first.place) earlier ≡ o
          → Outcome G V R (and_then (and_then (new_name text first.place o) (λ bytes. and_then (written_type first.written) (λ t. Ok (bytes, t)))) next)
      of_name (Some t) e = violated (fails (Name first.place.at) (named_twice e))
      of_name None e = of_type e (written_type first.written) refl

  one_violates : {earlier : List InputDeclaration} {first : TypedName} (others : List TypedName) (r : Refusal) → NamesViolate text earlier (first ∷ []) r → NamesViolate text earlier (first ∷ others) r
  one_violates others r (named_twice e) = named_twice e
  one_violates others r (type_refused e w) = type_refused e w
  one_violates others r (later_names_violate e w v) = elim v [ ]

  pub names_sound : (earlier : List InputDeclaration) (written : List TypedName) → OfNames earlier written (names_verdict text earlier written)
  names_sound earlier [] = given no_names
  names_sound earlier (first ∷ others) =
      name_outcome earlier first others (λ declaration. names_verdict text (earlier ++ (declaration ∷ [])) others) (one_violates others)
      (λ t e w. of_others t e w (names_sound (earlier ++ (typed_name text first t ∷ [])) others))
    where
      of_others : (t : Ty) → type_in (spelling text first.place) earlier ≡ None → written_type first.written ≡ Ok t
          → {r : Result (List InputDeclaration) Refusal} → OfNames (earlier ++ (typed_name text first t ∷ [])) others r → OfNames earlier (first ∷ others) r
      of_others t e w (given n) = given (more_names e w n)
      of_others t e w (violated v) = violated (later_names_violate e w v)
      of_others t e w (out_of_range n) = absurd (n tt)

  module _ (functions : Signatures) (place : Span) (written : List TypedName) (result : TypeTree) (body : Tree) where
    abbrev OfFunction : Result Signature Refusal → Type 0
    OfFunction r = Outcome (FunctionTypes dialect text functions place written result body) (FunctionViolates dialect text functions place written result body) (IsInRange dialect body) r

    of_declared : (parameters : List InputDeclaration) (t u : Ty) → function_named (spelling text place) functions ≡ None → NamesType text [] written parameters
        → written_type result ≡ Ok t → Types dialect text functions (names_context parameters) body u
        → (b : Bool) → is_same u t ≡ b → OfFunction (cond b (Ok (signature_of text place parameters t)) (Err (Mismatch place.at)))
    of_declared parameters t u e n w d true f = given (function_type e n w (subst (Types dialect text functions (names_context parameters) body) (same_eq u t f) d))
    of_declared parameters t u e n w d false f = violated (function_mismatch e n w d (λ same. let g = same_of same in cc))

    of_result : (parameters : List InputDeclaration) → function_named (spelling text place) functions ≡ None → NamesType text [] written parameters
        → (w : Result Ty Refusal) → written_type result ≡ w
        → OfFunction (and_then w (λ t. and_then (verdict dialect text functions (names_context parameters) body) (of_body place (signature_of text place parameters t))))
    of_result parameters e n (Err r) w = violated (result_refused e n w)
    of_result parameters e n (Ok t) w =
        then_outcome _ (tree_sound dialect text functions (names_context parameters) body) (λ r v. function_body_violates e n w v) (λ h. h)
        (λ u d. of_declared parameters t u e n w d (is_same u t) refl)

    of_new : (o : Option Signature) → function_named (spelling text place) functions ≡ o
        → OfFunction (and_then (new_name text place o) (λ bytes. and_then (names_verdict text [] written) (λ declarations. and_then (written_type result) (λ t.
        and_then (verdict dialect text functions (names_context declarations) body) (of_body place (signature_of text place declarations t))))))
    of_new (Some signature) e = violated (function_twice e)
    of_new None e =
        then_outcome _ (names_sound [] written) (λ r v. parameter_violates e v) (λ h. tt)
        (λ parameters n. of_result parameters e n (written_type result) refl)

    function_sound : OfFunction (function_verdict dialect text functions place written result body)
    function_sound = of_new (function_named (spelling text place) functions) refl

  abbrev pub OfDeclarations : Declared → List DeclarationTree → Result Declared Refusal → Type 0
  OfDeclarations earlier declarations r =
      Outcome (λ found. (all : Declared) × DeclarationsType dialect text earlier declarations all × (found ≡ capped_all all))
      (DeclarationsViolate dialect text earlier declarations) (DeclarationsInRange dialect declarations) r

  pub declarations_sound : (earlier : Declared) (declarations : List DeclarationTree) → OfDeclarations earlier declarations (declarations_verdict dialect text (capped_all earlier) declarations)
  declarations_sound earlier [] = given (earlier, no_declarations, refl)
  declarations_sound earlier (declares_input first ∷ others) =
      of_input (λ t. declarations_sound (with_inputs earlier (earlier.inputs ++ (typed_name text first t ∷ []))) others)
      (type_in (spelling text first.place) earlier.inputs) refl
    where
      go_on : (t : Ty) → type_in (spelling text first.place) earlier.inputs ≡ None → written_type first.written ≡ Ok t → {r : Result Declared Refusal}
          → OfDeclarations (with_inputs earlier (earlier.inputs ++ (typed_name text first t ∷ []))) others r → OfDeclarations earlier (declares_input first ∷ others) r
      go_on t e w (given found) = given (found.0, input_declared (more_names e w no_names) found.1, found.2)
      go_on t e w (violated v) = violated (after_input_violates (more_names e w no_names) v)
      go_on t e w (out_of_range n) = out_of_range (λ h. n h.1)

      Behind : Type 0
      Behind = (t : Ty) → OfDeclarations (with_inputs earlier (earlier.inputs ++ (typed_name text first t ∷ []))) others
          (declarations_verdict dialect text (capped_all (with_inputs earlier (earlier.inputs ++ (typed_name text first t ∷ [])))) others)

      of_type : Behind → type_in (spelling text first.place) earlier.inputs ≡ None → (w : Result Ty Refusal) → written_type first.written ≡ w
          → OfDeclarations earlier (declares_input first ∷ others)
          (and_then (and_then (and_then w (λ t. Ok (spelling text first.place, t))) (λ input. Ok (with_inputs (capped_all earlier) (earlier.inputs ++ (input ∷ [])))))
          (λ declared. declarations_verdict dialect text declared others))
      of_type behind e (Ok t) f = go_on t e f (behind t)
      of_type behind e (Err r) f = violated (input_violates (type_refused e f))

      of_input : Behind → (o : Option Ty) → type_in (spelling text first.place) earlier.inputs ≡ o
          → OfDeclarations earlier (declares_input first ∷ others)
          (and_then (and_then (and_then (new_name text first.place o) (λ bytes. and_then (written_type first.written) (λ t. Ok (bytes, t))))
          (λ input. Ok (with_inputs (capped_all earlier) (earlier.inputs ++ (input ∷ [])))))
          (λ declared. declarations_verdict dialect text declared others))
      of_input behind (Some t) e = violated (input_violates (named_twice e))
      of_input behind None e = of_type behind e (written_type first.written) refl
  declarations_sound earlier (declares_function place written result body ∷ others) =
      of_function (λ signature. declarations_sound (with_function text earlier signature body) others) (function_sound earlier.functions place written result body)
    where
      go_on : (signature : Signature) → FunctionTypes dialect text earlier.functions place written result body signature → {r : Result Declared Refusal}
          → OfDeclarations (with_function text earlier signature body) others r → OfDeclarations earlier (declares_function place written result body ∷ others) r
      go_on signature f (given found) = given (found.0, function_declared f found.1, found.2)
      go_on signature f (violated v) = violated (after_function_violates f v)
      go_on signature f (out_of_range n) = out_of_range (λ h. n h.1)

      of_function : ((signature : Signature) → OfDeclarations (with_function text earlier signature body) others
          (declarations_verdict dialect text (capped_all (with_function text earlier signature body)) others)) → {r : Result Signature Refusal} →
          OfFunction earlier.functions place written result body r
          → OfDeclarations earlier (declares_function place written result body ∷ others)
          (and_then (and_then r (λ signature. Ok (with_capped_function text (capped_all earlier) signature body))) (λ declared. declarations_verdict dialect text declared others))
      of_function behind (given {x = signature} f) =
          subst (λ d. OfDeclarations earlier (declares_function place written result body ∷ others) (declarations_verdict dialect text d others))
          (sym (with_capped text earlier signature body))
          (go_on signature f (behind signature))
      of_function behind (violated v) = violated (function_violates v)
      of_function behind (out_of_range n) = out_of_range (λ h. n h.0)

module _ (text : List ℕ) (program : ProgramTree) where
  abbrev OfProgram : Result (Declared × Ty) Refusal → Type 0
  OfProgram r =
      Outcome (λ found. (declared : Declared) × ProgramTypes text program declared found.1 × (found.0 ≡ capped_all declared))
      (ProgramViolates text program) (ProgramInRange program) r

  of_size : (declared : Declared) (t : Ty) → are_few program.declarations ≡ true → DeclarationsType program.dialect text nothing_declared program.declarations declared
      → Types program.dialect text declared.functions (names_context declared.inputs) program.expression t
      → (n : ℕ) → capped n ≡ capped (size text declared.sizes program.expression) → (b : Bool) → nat_le (capped n) greatest_size ≡ b
      → OfProgram (cond b (Ok (capped_all declared, t)) (Err TooBig))
  of_size declared t few d e n same true le =
      given (declared, record { few = few; declarations = d; expression = e; size = let below : capped n ≤ 65536 = leb-true (capped n) 65536 le in omega arith }, refl)
  of_size declared t few d e n same false le =
      violated (big_expression few d e (let above : 65536 < capped n = leb-false (capped n) 65536 le in omega arith))

  of_few : (b : Bool) → are_few program.declarations ≡ b
      → OfProgram (cond b (and_then (declarations_verdict program.dialect text nothing_declared program.declarations)
      (λ declared. expression_verdict program.dialect text declared program.expression)) (Err TooBig))
  of_few false few = violated (many_declarations few)
  of_few true few =
      then_outcome _ (declarations_sound program.dialect text nothing_declared program.declarations) (λ r v. declaration_violates few v) (λ h. h.declarations)
      (λ found all. subst (λ d. OfProgram (expression_verdict program.dialect text d program.expression)) (sym all.2)
      (then_outcome _ (tree_sound program.dialect text all.0.functions (names_context all.0.inputs) program.expression) (λ r v. expression_violates few all.1 v) (λ h. h.expression)
      (λ t e. of_size all.0 t few all.1 e (size text (capped_all all.0).sizes program.expression) (size_capped text all.0.sizes program.expression)
      (nat_le (capped (size text (capped_all all.0).sizes program.expression)) greatest_size) refl)))

  pub program_sound : OfProgram (program_verdict text program)
  program_sound = of_few (are_few program.declarations) refl

-- one answer

one_ok : {A : Type 0} {r : Result A Refusal} {x y : A} → r ≡ Ok x → r ≡ Ok y → x ≡ y
one_ok e f = cc

one_err : {A : Type 0} {r : Result A Refusal} {x y : Refusal} → r ≡ Err x → r ≡ Err y → x ≡ y
one_err e f = cc

declared_one : {dialect : Dialect} {text : List ℕ} {earlier a b : Declared} {declarations : List DeclarationTree}
    → DeclarationsType dialect text earlier declarations a → DeclarationsType dialect text earlier declarations b → a ≡ b
declared_one no_declarations no_declarations = refl
declared_one {dialect = dialect} {text = text} (input_declared {earlier = earlier} {all = a} {others = others} n rest) (input_declared m rest') =
    declared_one (subst (λ inputs. DeclarationsType dialect text (with_inputs earlier inputs) others a) (one_ok (names_complete n) (names_complete m)) rest) rest'
declared_one {dialect = dialect} {text = text} (function_declared {earlier = earlier} {all = a} {body = body} {others = others} f rest) (function_declared g rest') =
    declared_one (subst (λ signature. DeclarationsType dialect text (with_function text earlier signature body) others a) (one_ok (function_complete f) (function_complete g)) rest) rest'

one_pair : {A B : Type 0} {x y : A × B} → x ≡ y → x.1 ≡ y.1
one_pair e = ap (λ p. p.1) e

pub one_typing : HaveOneTyping
one_typing text program = (
  λ d e t u x y. (declared_one x.declarations y.declarations, one_pair (one_ok (program_complete text program d t x) (program_complete text program e u y))),
  λ r s v w. one_err (violation_complete text program r v) (violation_complete text program s w),
  λ d t r x v. let a = program_complete text program d t x in let b = violation_complete text program r v in cc,
)

pub some_typing : HaveSomeTyping
some_typing text program range = of_outcome (program_sound text program)
  where
    of_outcome : {r : Result (Declared × Ty) Refusal} → OfProgram text program r
        → ((d : Declared) × (t : Ty) × ProgramTypes text program d t) ⊎ ((refusal : Refusal) × ProgramViolates text program refusal)
    of_outcome (given {x = found} h) = inl (h.0, found.1, h.1)
    of_outcome (violated {refusal = r} v) = inr (r, v)
    of_outcome (out_of_range n) = absurd (n range)

-- what `check` tells

pub refused_first : (text : List ℕ) (program : ProgramTree) (e : Refusal) → (e ≡ NoMemory) ⊎ (program_verdict text program ≡ Err e) → IsFirstViolation text program e
refused_first text program e (inl same) = subst (IsFirstViolation text program) (sym same) tt
refused_first text program e (inr is) = of_outcome e (program_verdict text program) is (program_sound text program)
  where
    first : (e : Refusal) → ProgramViolates text program e → IsFirstViolation text program e
    first NoMemory v = tt
    first e v = v

    of_outcome : (e : Refusal) (r : Result (Declared × Ty) Refusal) → r ≡ Err e → OfProgram text program r → IsFirstViolation text program e
    of_outcome e (Ok x) is h = cc
    of_outcome e (Err f) is (violated v) = subst (IsFirstViolation text program) (one_err refl is) (first f v)
    of_outcome e (Err f) is (out_of_range n) = subst (IsFirstViolation text program) (one_err refl is) tt

pub memory_if_typed : (text : List ℕ) (program : ProgramTree) (e : Refusal) → (e ≡ NoMemory) ⊎ (program_verdict text program ≡ Err e) → IsMemoryIfTyped text program e
memory_if_typed text program e (inl same) d t h = same
memory_if_typed text program e (inr is) d t h = let a = program_complete text program d t h in cc

pub has_typing : (text : List ℕ) (program : ProgramTree) (found : Declared) (t : Ty) → program_verdict text program ≡ Ok (found, t) → HasTyping text program found.inputs t
has_typing text program found t is = of_outcome (program_verdict text program) is (program_sound text program)
  where
    of_outcome : (r : Result (Declared × Ty) Refusal) → r ≡ Ok (found, t) → OfProgram text program r → HasTyping text program found.inputs t
    of_outcome (Ok x) is (given h) =
        let same : x ≡ (found, t) = one_ok refl is in
        (h.0, subst (ProgramTypes text program h.0) (ap (λ p. p.1) same) h.1, ap (λ d. d.inputs) (sym h.2 ∙ ap (λ p. p.0) same))
    of_outcome (Err e) is h = cc
