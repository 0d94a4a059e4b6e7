-- Makings whose steps are wired: each step by itself, and one making after another.
use Rattle.std.specs.Prelude.{◌≡◌, ℕ, ◌+◌, List, [], ◌∷◌, ◌++◌, length, Some, refl}
use Rattle.std.specs.List.{slice_get}
use Rattle.std.proofs.Common.{sym, ap, ◌∙◌, subst, length-append, append-nil}
use Rattle.snesl_data.specs.Types.{Ty, bool}
use Rattle.flow_messages.specs.declared.message.Kind.{Kind}
use Rattle.flow_values.specs.Shapes.{kinds_of}
use Rattle.flow_nodes.specs.plans.Plans.{Operation, Step}
use Rattle.flow_nodes.specs.plans.Ports.{kinds_read, kinds_written, AreWired, kinds_after}
use Rattle.snesl_translation.specs.Wires.{Wires, wires_from, stream_of}
use Rattle.snesl_translation.specs.Makings.{Making, done, and_then, stepped, tested}
use Rattle.snesl_translation.proofs.OfWiring.Fitting.{Stream, Extends, extends_append, Reads, reads_each, Fits, new_fit, new_stream}

-- after streams of these kinds the steps are wired, the next stream has the next number, and this holds of what is given
pub record IsMade {A : Type 0} (kinds : List Kind) (making : Making A) (Holds : List Kind → A → Type 0) : Type 0 where
  pub wired : AreWired kinds making.steps
  pub counted : making.next ≡ length (kinds_after kinds making.steps)
  pub holds : Holds (kinds_after kinds making.steps) making.given

-- the streams that are given are those of a value of the type
abbrev pub Makes : List Kind → Ty → Making Wires → Type 0
Makes kinds t making = IsMade kinds making (λ on w. Fits on t w)

-- steps after others

stays_after : (kinds : List Kind) (steps : List Step) (number : ℕ) (kind : Kind) → slice_get kinds number ≡ Some kind → slice_get (kinds_after kinds steps) number ≡ Some kind
stays_after kinds [] number kind there = there
stays_after kinds (step ∷ steps) number kind there =
    let written = kinds_written step.operation in
    stays_after (kinds ++ written) steps number kind ((extends_append kinds written).stays number kind there)

extends_after : (kinds : List Kind) (steps : List Step) → Extends kinds (kinds_after kinds steps)
extends_after kinds steps = record { stays = stays_after kinds steps }

after_append : (kinds : List Kind) (steps others : List Step) → kinds_after kinds (steps ++ others) ≡ kinds_after (kinds_after kinds steps) others
after_append kinds [] others = refl
after_append kinds (step ∷ steps) others = after_append (kinds ++ kinds_written step.operation) steps others

wired_append : (kinds : List Kind) (steps others : List Step) → AreWired kinds steps → AreWired (kinds_after kinds steps) others → AreWired kinds (steps ++ others)
wired_append kinds [] others h g = g
wired_append kinds (step ∷ steps) others h g = (h.0, wired_append (kinds ++ kinds_written step.operation) steps others h.1 g)

-- makings one after the other

pub done_made : {A : Type 0} {kinds : List Kind} {x : A} {Holds : List Kind → A → Type 0} → Holds kinds x → IsMade kinds (done x (length kinds)) Holds
done_made h = record { wired = tt; counted = refl; holds = h }

pub then_made : {A B : Type 0} {kinds : List Kind} {First : List Kind → A → Type 0} {Holds : List Kind → B → Type 0} {first : Making A} (rest : A → ℕ → Making B) → IsMade kinds first First
    → ((on : List Kind) → Extends kinds on → (x : A) → First on x → IsMade on (rest x (length on)) Holds) → IsMade kinds (and_then first rest) Holds
unfolding and_then
then_made {kinds = kinds} {Holds = Holds} {first = first} rest h next =
    let on = kinds_after kinds first.steps in
    let later : IsMade on (rest first.given first.next) Holds =
    subst (λ k. IsMade on (rest first.given k) Holds) (sym h.counted) (next on (extends_after kinds first.steps) first.given h.holds) in
    let steps = (rest first.given first.next).steps in
    let same = sym (after_append kinds first.steps steps) in
    record {
      wired = wired_append kinds first.steps steps h.wired later.wired;
      counted = later.counted ∙ ap length same;
      holds = subst (λ l. Holds l (rest first.given first.next).given) same later.holds;
    }

-- single steps

-- a step that writes the streams of a type
pub stepped_made : {kinds : List Kind} {at : ℕ} {operation : Operation} {reads : List ℕ} (t : Ty) → Reads kinds reads (kinds_read operation) → kinds_written operation ≡ kinds_of t
    → Makes kinds t (stepped at operation reads t (length kinds))
stepped_made {kinds = kinds} {operation = operation} t read written = record {
  wired = (reads_each read, tt);
  counted = sym (length-append kinds (kinds_written operation) ∙ ap (λ l. length kinds + length l) written);
  holds = subst (λ l. Fits (kinds ++ l) t (wires_from t (length kinds))) (sym written) (new_fit kinds t);
}

-- a step that writes one stream
pub one_written : {kinds : List Kind} {at : ℕ} {operation : Operation} {reads : List ℕ} (kind : Kind) → Reads kinds reads (kinds_read operation) → kinds_written operation ≡ kind ∷ []
    → IsMade kinds (stepped at operation reads bool (length kinds)) (λ on w. Stream on (stream_of w) kind)
one_written {kinds = kinds} {operation = operation} kind read written = record {
  wired = (reads_each read, tt);
  counted = sym (length-append kinds (kinds_written operation) ∙ ap (λ l. length kinds + length l) written);
  holds = subst (λ l. Stream (kinds ++ l) (length kinds) kind) (sym written) (new_stream kinds kind);
}

-- a step that writes nothing
pub tested_made : {A : Type 0} {kinds : List Kind} {at : ℕ} {operation : Operation} {reads : List ℕ} {x : A} {Holds : List Kind → A → Type 0} → Reads kinds reads (kinds_read operation)
    → kinds_written operation ≡ [] → Holds kinds x → IsMade kinds (tested at operation reads x (length kinds)) Holds
tested_made {kinds = kinds} {operation = operation} {x = x} {Holds = Holds} read written h =
    let same : kinds ≡ kinds ++ kinds_written operation = sym (ap (λ l. kinds ++ l) written ∙ append-nil kinds) in
    record { wired = (reads_each read, tt); counted = ap length same; holds = subst (λ l. Holds l x) same h }
