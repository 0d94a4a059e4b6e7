-- Names past the edge of a comprehension's body.
use Rattle.std.proofs.Common.{◌≡◌, ℕ, Bool, true, false, cond, List, [], ◌∷◌, ◌++◌, Option, Some, None, refl, ap, ◌∙◌}
use Rattle.std.specs.Str.{bytes_eq}
use Rattle.snesl_data.specs.Types.{is_concrete}
use Rattle.snesl_data.specs.Types.{Ty}
use Rattle.snesl_values.specs.Inputs.{InputDeclaration}
use Rattle.snesl_types.specs.Contexts.{Binding, open_to, shut, Context, names_context, inside, shut_if_streamed, found, type_in}
use Rattle.snesl_types.specs.Names.{seen}

-- what is shut once is not changed by a second edge
shut_twice : (binding : Binding) → shut_if_streamed (shut_if_streamed binding) ≡ shut_if_streamed binding
shut_twice shut = refl
shut_twice (open_to t) = by_test (is_concrete t) refl
  where
    by_test : (b : Bool) → is_concrete t ≡ b → shut_if_streamed (cond b (open_to t) shut) ≡ cond b (open_to t) shut
    by_test true e = ap (λ c. cond c (open_to t) shut) e
    by_test false e = refl

seen_again : (crossed : Bool) (o : Option Binding) → seen crossed (seen true o) ≡ seen true o
seen_again crossed None = refl
seen_again true (Some binding) = ap Some (shut_twice binding)
seen_again false (Some binding) = refl

found-inside : (bytes : List ℕ) (context : Context) → found bytes (inside context) ≡ seen true (found bytes context)
found-inside bytes [] = refl
found-inside bytes (entry ∷ context) = by_test (bytes_eq bytes entry.bytes) (found-inside bytes context)
  where
    by_test : (b : Bool) → found bytes (inside context) ≡ seen true (found bytes context)
        → cond b (Some (shut_if_streamed entry.binding)) (found bytes (inside context)) ≡ seen true (cond b (Some entry.binding) (found bytes context))
    by_test true e = refl
    by_test false e = e

pub seen-inside : (crossed : Bool) (bytes : List ℕ) (context : Context) → seen crossed (found bytes (inside context)) ≡ seen true (found bytes context)
seen-inside crossed bytes context = ap (seen crossed) (found-inside bytes context) ∙ seen_again crossed (found bytes context)

-- what is seen before any edge
pub seen_here : (o : Option Binding) → seen false o ≡ o
seen_here None = refl
seen_here (Some binding) = refl

-- what is seen of declared names, and after them
pub found-opened : (bytes : List ℕ) (declarations : List InputDeclaration) (t : Ty) → Some t ≡ type_in bytes declarations → found bytes (names_context declarations) ≡ Some (open_to t)
found-opened bytes [] t e = cc
found-opened bytes (declaration ∷ declarations) t e = by_test (bytes_eq bytes declaration.0) e (found-opened bytes declarations t)
  where
    by_test : (b : Bool) → Some t ≡ cond b (Some declaration.1) (type_in bytes declarations)
        → (Some t ≡ type_in bytes declarations → found bytes (names_context declarations) ≡ Some (open_to t))
        → cond b (Some (open_to declaration.1)) (found bytes (names_context declarations)) ≡ Some (open_to t)
    by_test true e f = cc
    by_test false e f = f e

pub unfound-opened : (bytes : List ℕ) (declarations : List InputDeclaration) → None ≡ type_in bytes declarations → found bytes (names_context declarations) ≡ None
unfound-opened bytes [] e = refl
unfound-opened bytes (declaration ∷ declarations) e = by_test (bytes_eq bytes declaration.0) e (unfound-opened bytes declarations)
  where
    by_test : (b : Bool) → None ≡ cond b (Some declaration.1) (type_in bytes declarations)
        → (None ≡ type_in bytes declarations → found bytes (names_context declarations) ≡ None)
        → cond b (Some (open_to declaration.1)) (found bytes (names_context declarations)) ≡ None
    by_test true e f = cc
    by_test false e f = f e

pub found-before : (bytes : List ℕ) (declarations : List InputDeclaration) (context : Context) (t : Ty) → Some t ≡ type_in bytes declarations
    → found bytes (names_context declarations ++ context) ≡ Some (open_to t)
found-before bytes [] context t e = cc
found-before bytes (declaration ∷ declarations) context t e = by_test (bytes_eq bytes declaration.0) e (found-before bytes declarations context t)
  where
    by_test : (b : Bool) → Some t ≡ cond b (Some declaration.1) (type_in bytes declarations)
        → (Some t ≡ type_in bytes declarations → found bytes (names_context declarations ++ context) ≡ Some (open_to t))
        → cond b (Some (open_to declaration.1)) (found bytes (names_context declarations ++ context)) ≡ Some (open_to t)
    by_test true e f = cc
    by_test false e f = f e

pub found-behind : (bytes : List ℕ) (declarations : List InputDeclaration) (context : Context) → None ≡ type_in bytes declarations
    → found bytes (names_context declarations ++ context) ≡ found bytes context
found-behind bytes [] context e = refl
found-behind bytes (declaration ∷ declarations) context e = by_test (bytes_eq bytes declaration.0) e (found-behind bytes declarations context)
  where
    by_test : (b : Bool) → None ≡ cond b (Some declaration.1) (type_in bytes declarations)
        → (None ≡ type_in bytes declarations → found bytes (names_context declarations ++ context) ≡ found bytes context)
        → cond b (Some (open_to declaration.1)) (found bytes (names_context declarations ++ context)) ≡ found bytes context
    by_test true e f = cc
    by_test false e f = f e
