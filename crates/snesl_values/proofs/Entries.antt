-- Inputs by their places.
use Rattle.std.proofs.Common.{◌≡◌, ℕ, ◌≤◌, List, [], ◌∷◌, ◌++◌, length, ◌+◌, Option, Some, None, refl, sym, ap, ◌∙◌, subst}
use Rattle.snesl_data.specs.declared.dialect.Dialect.{Dialect}
use Rattle.snesl_data.specs.Types.{Ty}
use Rattle.snesl_data.specs.Values.{Value}
use Rattle.std.proofs.Props.{props}
use Rattle.snesl_values.specs.InputTokens.{Token, SizedToken, next_at, next_lexeme, HasTokens, none, more}
use Rattle.snesl_values.specs.Inputs.{value_tokens}
use Rattle.snesl_values.proofs.Once.{HasType-prop}
use Rattle.snesl_values.proofs.Spots.{uncons}
use Rattle.snesl_values.specs.Wants.{IsValueRead}
use Rattle.snesl_values.specs.Places.{value_at}
use Rattle.snesl_values.proofs.Tells.{value_at-tells}
use Rattle.snesl_values.specs.declared.places.InputPlace.{InputPlace}
use Rattle.snesl_values.specs.Declarations.{InputDeclaration}
use Rattle.snesl_values.specs.Entries.{entry_from, environment_at, ComesBy, Comes, IsSpelledAt, AreSpelledAt}

-- the value that was read from a place on is the one that the text tells there
pub told : (dialect : Dialect) (text : List ℕ) (place : ℕ) (t : Ty) (end : ℕ) → place ≤ length text → (v : Value)
    × IsValueRead dialect text place t v end → IsValueRead dialect text place t (value_at text place) end
told dialect text place t end inside w =
    subst (λ v. IsValueRead dialect text place t v end) (sym (value_at-tells dialect text t place end w.0 w.1.has_type inside w.1.reads)) w.1

pub entries-push : (text : List ℕ) (all : List InputPlace) (placed : InputPlace) → environment_at text (all ++ placed ∷ []) ≡ environment_at text all ++ entry_from text placed ∷ []
entries-push text [] placed = refl
entries-push text (x ∷ all) placed = ap (λ l. entry_from text x ∷ l) (entries-push text all placed)

pub placed-push : (dialect : Dialect) (text : List ℕ) (ds : List InputDeclaration) (all : List InputPlace) (d : InputDeclaration)
    (placed : InputPlace) → AreSpelledAt dialect text ds all → IsSpelledAt dialect text d.1 placed.place
    → AreSpelledAt dialect text (ds ++ d ∷ []) (all ++ placed ∷ [])
placed-push dialect text [] [] d placed h k = (k, tt)
placed-push dialect text (e ∷ ds) (x ∷ all) d placed h k = (h.0, placed-push dialect text ds all d placed h.1 k)
placed-push dialect text [] (x ∷ all) d placed h k = absurd h
placed-push dialect text (e ∷ ds) [] d placed h k = absurd h

-- tokens that were read come next
pub comes_of : {text : List ℕ} (tokens : List Token) {at end : ℕ} → HasTokens text at tokens end → Comes text at tokens
comes_of [] r = tt
comes_of {text = text} (t ∷ tokens) {at = at} r =
    let w = uncons r in subst (ComesBy (λ behind. Comes text behind tokens) t (next_at text at)) (sym w.1) (refl, comes_of tokens w.2)

-- and can be read
pub reads_of : {text : List ℕ} (tokens : List Token) (at : ℕ) → Comes text at tokens → (end : ℕ) × HasTokens text at tokens end
reads_of [] at h = (at, none)
reads_of {text = text} (t ∷ tokens) at h = by_next (next_lexeme text at) refl h (λ behind k. reads_of tokens behind k)
  where
    by_next : (o : Option SizedToken) → next_lexeme text at ≡ o → ComesBy (λ behind. Comes text behind tokens) t (next_at text at) o →
        ((behind : ℕ) → Comes text behind tokens → (end : ℕ) × HasTokens text behind tokens end) → (end : ℕ) × HasTokens text at (t ∷ tokens) end
    by_next None e h rest = absurd h
    by_next (Some l) e h rest =
        let r = rest (next_at text at + l.1) h.1 in
        (r.0, more t l.1 (e ∙ ap (λ x. Some (x, l.1)) h.0) r.1)

Comes-prop : (text : List ℕ) (tokens : List Token) (at : ℕ) → IsProp (Comes text at tokens)
Comes-prop text [] at = hlevel
Comes-prop text (t ∷ tokens) at = by_next (next_lexeme text at) (λ behind. Comes-prop text tokens behind)
  where
    by_next : (o : Option SizedToken) → ((behind : ℕ) → IsProp (Comes text behind tokens)) → IsProp (ComesBy (λ behind. Comes text behind tokens) t (next_at text at) o)
    by_next None rest = hlevel
    by_next (Some l) rest = hlevel (props, rest (next_at text at + l.1))

pub AreSpelledAt-prop : (dialect : Dialect) (text : List ℕ) (ds : List InputDeclaration) (all : List InputPlace) → IsProp (AreSpelledAt dialect text ds all)
AreSpelledAt-prop dialect text [] [] = hlevel
AreSpelledAt-prop dialect text (d ∷ ds) (x ∷ all) =
    hlevel (props, HasType-prop dialect (value_at text x.place) d.1, Comes-prop text (value_tokens (value_at text x.place)) x.place, AreSpelledAt-prop dialect text ds all)
AreSpelledAt-prop dialect text [] (x ∷ all) = hlevel
AreSpelledAt-prop dialect text (d ∷ ds) [] = hlevel
