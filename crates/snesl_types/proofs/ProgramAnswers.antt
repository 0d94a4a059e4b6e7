-- Programs: what checking answers is what the rules say, and the other way round.
use Rattle.std.proofs.Common.{◌≡◌, ℕ, suc, ◌+◌, ◌<◌, ◌≤◌, Bool, true, false, cond, List, [], ◌∷◌, ◌++◌, map, Some, None, Result, Ok, Err, refl, sym, ap, ◌∙◌, arith}
use Rattle.std.specs.Prelude.{bytes_eq}
use Rattle.std.proofs.lemmas.List.{map-append}
use Rattle.std.proofs.lemmas.Bool.{le-leb, lt-leb}
use Rattle.snesl_data.specs.declared.dialect.Dialect.{Dialect}
use Rattle.snesl_data.specs.declared.refusal.Refusal.{Refusal}
use Rattle.snesl_data.specs.declared.refusal.Refusal.TheVariants.{Name, Mismatch, TooBig}
use Rattle.snesl_values.specs.Inputs.{InputDeclaration}
use Rattle.snesl_data.specs.Types.{Ty}
use Rattle.snesl_grammar.specs.declared.tree.span.Span.{Span}
use Rattle.snesl_grammar.specs.tree.Spelling.{spelling}
use Rattle.snesl_grammar.specs.tree.Tree.{Tree, Trees, Binders, Condition, integer, truth, name, binary, prefix, call, apply, group, pair as pair_tree}
use Rattle.snesl_grammar.specs.tree.Tree.{binding, choice, literal, filter, each, none, both, none_bound, binder, always, only_where, TypeTree, TypedName}
use Rattle.snesl_grammar.specs.tree.Tree.{DeclarationTree, ProgramTree}
use Rattle.snesl_types.specs.Contexts.{type_in, Signature, Signatures}
use Rattle.snesl_types.specs.Sizes.{BodySizes, body_size, size, size_of_all, size_of_binders, size_of_condition, greatest_size}
use Rattle.snesl_types.specs.Programs.{and_then, written_type, Declared, with_function, typed_name, NamesType, no_names, more_names, NamesViolate}
use Rattle.snesl_types.specs.Programs.{named_twice, type_refused, later_names_violate, signature_of, FunctionTypes, function_type, FunctionViolates}
use Rattle.snesl_types.specs.Programs.{function_twice, parameter_violates, result_refused, function_body_violates, function_mismatch}
use Rattle.snesl_types.specs.Programs.{DeclarationsType, no_declarations, input_declared, function_declared, DeclarationsViolate, input_violates}
use Rattle.snesl_types.specs.Programs.{function_violates, after_input_violates, after_function_violates, nothing_declared, ProgramTypes}
use Rattle.snesl_types.specs.Programs.{ProgramViolates, many_declarations, declaration_violates, expression_violates, big_expression}
use Rattle.snesl_types.specs.Verdicts.{new_name, name_verdict, names_verdict, of_body, function_verdict, capped, with_capped_function}
use Rattle.snesl_types.specs.Verdicts.{declarations_verdict, of_expression, expression_verdict, program_verdict}
use Rattle.snesl_data.proofs.SameTypes.{same_eq, same_of}
use Rattle.snesl_types.proofs.Same.{not_true}
use Rattle.snesl_types.proofs.Outcomes.{then_ok, then_err}
use Rattle.snesl_types.proofs.Complete.{type_complete, violates_complete}

-- sizes

abbrev capped_sizes : BodySizes → BodySizes
capped_sizes = map (λ entry. (entry.0, capped entry.1))

abbrev pub capped_all : Declared → Declared
capped_all declared = record { inputs = declared.inputs; functions = declared.functions; sizes = capped_sizes declared.sizes }

capped_one : (a b : ℕ) → capped a ≡ capped b → capped (suc a) ≡ capped (suc b)
capped_one a b e = omega arith

capped_sum : (a b c d : ℕ) → capped a ≡ capped b → capped c ≡ capped d → capped (a + c) ≡ capped (b + d)
capped_sum a b c d e f = omega arith

capped_two : (a b c d : ℕ) → capped a ≡ capped b → capped c ≡ capped d → capped (suc (a + c)) ≡ capped (suc (b + d))
capped_two a b c d e f = omega arith

capped_self : (n : ℕ) → capped (capped n) ≡ capped n
capped_self n = omega arith

body_size_capped : (bytes : List ℕ) (sizes : BodySizes) → capped (body_size bytes (capped_sizes sizes)) ≡ capped (body_size bytes sizes)
body_size_capped bytes [] = refl
body_size_capped bytes (entry ∷ sizes) = by_test (bytes_eq bytes entry.0) (body_size_capped bytes sizes)
  where
    by_test : (b : Bool) → capped (body_size bytes (capped_sizes sizes)) ≡ capped (body_size bytes sizes)
        → capped (cond b (capped entry.1) (body_size bytes (capped_sizes sizes))) ≡ capped (cond b entry.1 (body_size bytes sizes))
    by_test true e = capped_self entry.1
    by_test false e = e

module _ (text : List ℕ) (sizes : BodySizes) where
  mutual
    pub size_capped : (tree : Tree) → capped (size text (capped_sizes sizes) tree) ≡ capped (size text sizes tree)
    size_capped (integer at value) = refl
    size_capped (truth at value) = refl
    size_capped (name place) = refl
    size_capped (binary at operator left right) = capped_two _ _ _ _ (size_capped left) (size_capped right)
    size_capped (prefix at operator operand) = capped_one _ _ (size_capped operand)
    size_capped (call at function arguments) = capped_one _ _ (all_capped arguments)
    size_capped (apply place arguments) = capped_two _ _ _ _ (all_capped arguments) (body_size_capped (spelling text place) sizes)
    size_capped (group at inner) = capped_one _ _ (size_capped inner)
    size_capped (pair_tree at first second) = capped_two _ _ _ _ (size_capped first) (size_capped second)
    size_capped (binding at place value body) = capped_two _ _ _ _ (size_capped value) (size_capped body)
    size_capped (choice at condition positive negative) =
        capped_two _ _ _ _ (size_capped condition) (capped_sum _ _ _ _ (size_capped positive) (size_capped negative))
    size_capped (literal at items) = capped_one _ _ (all_capped items)
    size_capped (filter at item condition) = capped_two _ _ _ _ (size_capped item) (size_capped condition)
    size_capped (each at body binders condition) =
        capped_two _ _ _ _ (binders_capped binders) (capped_sum _ _ _ _ (condition_capped condition) (size_capped body))

    all_capped : (trees : Trees) → capped (size_of_all text (capped_sizes sizes) trees) ≡ capped (size_of_all text sizes trees)
    all_capped none = refl
    all_capped (both first others) = capped_sum _ _ _ _ (size_capped first) (all_capped others)

    binders_capped : (binders : Binders) → capped (size_of_binders text (capped_sizes sizes) binders) ≡ capped (size_of_binders text sizes binders)
    binders_capped none_bound = refl
    binders_capped (binder place source others) = capped_sum _ _ _ _ (size_capped source) (binders_capped others)

    condition_capped : (condition : Condition) → capped (size_of_condition text (capped_sizes sizes) condition) ≡ capped (size_of_condition text sizes condition)
    condition_capped always = refl
    condition_capped (only_where condition) = size_capped condition

pub with_capped : (text : List ℕ) (declared : Declared) (signature : Signature) (body : Tree)
    → with_capped_function text (capped_all declared) signature body ≡ capped_all (with_function text declared signature body)
with_capped text declared signature body =
    ap (λ sizes. record { inputs = declared.inputs; functions = declared.functions ++ (signature ∷ []); sizes = sizes })
    (ap (λ n. capped_sizes declared.sizes ++ ((signature.bytes, n) ∷ [])) (size_capped text declared.sizes body)
    ∙ sym (map-append (λ entry. (entry.0, capped entry.1)) declared.sizes ((signature.bytes, size text declared.sizes body) ∷ [])))

-- the rules are what checking answers

name_ok : (text : List ℕ) (earlier : List InputDeclaration) (first : TypedName) {t : Ty} → type_in (spelling text first.place) earlier ≡ None → written_type first.written ≡ Ok t
    → name_verdict text earlier first ≡ Ok (typed_name text first t)
name_ok text earlier first e w = then_ok _ (ap (new_name text first.place) e) (then_ok _ w refl)

name_twice : (text : List ℕ) (earlier : List InputDeclaration) (first : TypedName) {t : Ty} → type_in (spelling text first.place) earlier ≡ Some t
    → name_verdict text earlier first ≡ Err (Name first.place.at)
name_twice text earlier first e = then_err _ (ap (new_name text first.place) e)

name_refused : (text : List ℕ) (earlier : List InputDeclaration) (first : TypedName) {r : Refusal} → type_in (spelling text first.place) earlier ≡ None → written_type first.written ≡ Err r
    → name_verdict text earlier first ≡ Err r
name_refused text earlier first e w = then_ok _ (ap (new_name text first.place) e) (then_err _ w)

pub names_complete : {text : List ℕ} {earlier all : List InputDeclaration} {written : List TypedName} → NamesType text earlier written all → names_verdict text earlier written ≡ Ok all
names_complete no_names = refl
names_complete {text = text} {earlier = earlier} (more_names {first = first} e w rest) = then_ok _ (name_ok text earlier first e w) (names_complete rest)

names_violate_complete : {text : List ℕ} {earlier : List InputDeclaration} {written : List TypedName} {r : Refusal} → NamesViolate text earlier written r → names_verdict text earlier written ≡ Err r
names_violate_complete {text = text} {earlier = earlier} (named_twice {first = first} e) = then_err _ (name_twice text earlier first e)
names_violate_complete {text = text} {earlier = earlier} (type_refused {first = first} e w) = then_err _ (name_refused text earlier first e w)
names_violate_complete {text = text} {earlier = earlier} (later_names_violate {first = first} e w v) = then_ok _ (name_ok text earlier first e w) (names_violate_complete v)

body_ok : (place : Span) (signature : Signature) (t : Ty) → t ≡ signature.result → of_body place signature t ≡ Ok signature
body_ok place signature t e = ap (λ b. cond b (Ok signature) (Err (Mismatch place.at))) (same_of e)

body_err : (place : Span) (signature : Signature) (t : Ty) → ¬ (t ≡ signature.result) → of_body place signature t ≡ Err (Mismatch place.at)
body_err place signature t n = ap (λ b. cond b (Ok signature) (Err (Mismatch place.at))) (not_true (λ e. n (same_eq t signature.result e)))

pub function_complete : {dialect : Dialect} {text : List ℕ} {functions : Signatures} {place : Span} {written : List TypedName} {result : TypeTree} {body : Tree} {signature : Signature}
    → FunctionTypes dialect text functions place written result body signature → function_verdict dialect text functions place written result body ≡ Ok signature
function_complete {text = text} {place = place} (function_type {parameters = parameters} {t = t} e n w d) =
    then_ok _ (ap (new_name text place) e) (then_ok _ (names_complete n) (then_ok _ w (then_ok _ (type_complete d)
    (body_ok place (signature_of text place parameters t) t refl))))

function_violates_complete : {dialect : Dialect} {text : List ℕ} {functions : Signatures} {place : Span} {written : List TypedName} {result : TypeTree} {body : Tree} {r : Refusal}
    → FunctionViolates dialect text functions place written result body r → function_verdict dialect text functions place written result body ≡ Err r
function_violates_complete {text = text} {place = place} (function_twice e) = then_err _ (ap (new_name text place) e)
function_violates_complete {text = text} {place = place} (parameter_violates e v) = then_ok _ (ap (new_name text place) e) (then_err _ (names_violate_complete v))
function_violates_complete {text = text} {place = place} (result_refused e n w) = then_ok _ (ap (new_name text place) e) (then_ok _ (names_complete n) (then_err _ w))
function_violates_complete {text = text} {place = place} (function_body_violates e n w v) =
    then_ok _ (ap (new_name text place) e) (then_ok _ (names_complete n) (then_ok _ w (then_err _ (violates_complete v))))
function_violates_complete {text = text} {place = place} (function_mismatch {parameters = parameters} {t = t} {u = u} e n w d differ) =
    then_ok _ (ap (new_name text place) e) (then_ok _ (names_complete n) (then_ok _ w (then_ok _ (type_complete d)
    (body_err place (signature_of text place parameters t) u differ))))

declarations_complete : {dialect : Dialect} {text : List ℕ} {earlier all : Declared} {declarations : List DeclarationTree} → DeclarationsType dialect text earlier declarations all
    → declarations_verdict dialect text (capped_all earlier) declarations ≡ Ok (capped_all all)
declarations_complete no_declarations = refl
declarations_complete {text = text} {earlier = earlier} (input_declared {declared = declared} (more_names e w no_names) rest) =
    then_ok _ (then_ok _ (name_ok text earlier.inputs declared e w) refl) (declarations_complete rest)
declarations_complete {dialect = dialect} {text = text} (function_declared {earlier = earlier} {body = body} {signature = signature} {others = others} f rest) =
    then_ok _ (then_ok _ (function_complete f) refl)
    (ap (λ d. declarations_verdict dialect text d others) (with_capped text earlier signature body) ∙ declarations_complete rest)

declarations_violate_complete : {dialect : Dialect} {text : List ℕ} {earlier : Declared} {declarations : List DeclarationTree} {r : Refusal} → DeclarationsViolate dialect text earlier declarations r
    → declarations_verdict dialect text (capped_all earlier) declarations ≡ Err r
declarations_violate_complete {text = text} {earlier = earlier} (input_violates {declared = declared} (named_twice e)) = then_err _ (then_err _ (name_twice text earlier.inputs declared e))
declarations_violate_complete {text = text} {earlier = earlier} (input_violates {declared = declared} (type_refused e w)) = then_err _ (then_err _ (name_refused text earlier.inputs declared e w))
declarations_violate_complete (input_violates (later_names_violate e w v)) = absurd (none_left v)
  where
    none_left : {text : List ℕ} {earlier : List InputDeclaration} {r : Refusal} → NamesViolate text earlier [] r → ⊥
    none_left v = elim v [ ]
declarations_violate_complete (function_violates v) = then_err _ (then_err _ (function_violates_complete v))
declarations_violate_complete {text = text} {earlier = earlier} (after_input_violates {declared = declared} (more_names e w no_names) v) =
    then_ok _ (then_ok _ (name_ok text earlier.inputs declared e w) refl) (declarations_violate_complete v)
declarations_violate_complete {dialect = dialect} {text = text} (after_function_violates {earlier = earlier} {body = body} {signature = signature} {others = others} f v) =
    then_ok _ (then_ok _ (function_complete f) refl)
    (ap (λ d. declarations_verdict dialect text d others) (with_capped text earlier signature body) ∙ declarations_violate_complete v)

size_ok : (n m : ℕ) (declared : Declared) (t : Ty) → capped n ≡ capped m → m ≤ greatest_size → of_expression (capped n) declared t ≡ Ok (declared, t)
size_ok n m declared t e h = ap (λ b. cond b (Ok (declared, t)) (Err TooBig)) (le-leb (capped n) 65536 (omega arith))

size_err : (n m : ℕ) (declared : Declared) (t : Ty) → capped n ≡ capped m → greatest_size < m → of_expression (capped n) declared t ≡ Err TooBig
size_err n m declared t e h = ap (λ b. cond b (Ok (declared, t)) (Err TooBig)) (lt-leb (capped n) 65536 (omega arith))

abbrev after_few : List ℕ → ProgramTree → Bool → Result (Declared × Ty) Refusal
after_few text program b =
    cond b (and_then (declarations_verdict program.dialect text nothing_declared program.declarations) (λ declared. expression_verdict program.dialect text declared program.expression)) (Err TooBig)

pub program_complete : (text : List ℕ) (program : ProgramTree) (declared : Declared) (t : Ty) → ProgramTypes text program declared t
    → program_verdict text program ≡ Ok (capped_all declared, t)
program_complete text program declared t h =
    ap (after_few text program) h.few
    ∙ then_ok _ (declarations_complete h.declarations) (then_ok _ (type_complete h.expression)
    (size_ok _ _ (capped_all declared) t (size_capped text declared.sizes program.expression) h.size))

pub violation_complete : (text : List ℕ) (program : ProgramTree) (r : Refusal) → ProgramViolates text program r → program_verdict text program ≡ Err r
violation_complete text program r (many_declarations e) = ap (after_few text program) e
violation_complete text program r (declaration_violates few v) = ap (after_few text program) few ∙ then_err _ (declarations_violate_complete v)
violation_complete text program r (expression_violates few d v) =
    ap (after_few text program) few ∙ then_ok _ (declarations_complete d) (then_err _ (violates_complete v))
violation_complete text program r (big_expression {declared = declared} {t = t} few d e big) =
    ap (after_few text program) few
    ∙ then_ok _ (declarations_complete d) (then_ok _ (type_complete e) (size_err _ _ (capped_all declared) t (size_capped text declared.sizes program.expression) big))
