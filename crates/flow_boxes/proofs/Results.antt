-- A fact that holds in both cases of an answer.
use Rattle.std.specs.Prelude.{Result, Ok, Err, Option, Some, None, OnOk, OnErr, IfSome, IfNone}

pub by_result : {X E : Type 0} {A B C : Type 0} (r : Result X E) → (A → C) → (B → C) → OnOk r A → OnErr r B → C
by_result (Ok x) f g a b = f a
by_result (Err x) f g a b = g b

pub by_option : {X : Type 0} {B C : Type 0} {A : X → Type 0} (r : Option X) → ((x : X) → A x → C) → (B → C) → IfSome r A → IfNone r B → C
by_option (Some x) f g a b = f x a
by_option None f g a b = g b

-- two facts of one answer, together
pub some_both : {X : Type 0} (A B : X → Type 0) (r : Option X) → IfSome r A → IfSome r B → IfSome r (λ x. A x × B x)
some_both A B (Some x) a b = (a, b)
some_both A B None a b = tt

pub none_both : {X : Type 0} (A B : Type 0) (r : Option X) → IfNone r A → IfNone r B → IfNone r (A × B)
none_both A B (Some x) a b = tt
none_both A B None a b = (a, b)
