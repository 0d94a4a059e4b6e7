-- Names that stand for streams of their types.
use Rattle.std.specs.Prelude.{◌≡◌, ℕ, Bool, true, false, ◌||◌, cond, List, [], ◌∷◌, ◌++◌, length, Some, refl}
use Rattle.std.specs.Str.{bytes_eq}
use Rattle.std.proofs.Common.{sym, ap, ◌∙◌, subst}
use Rattle.std.proofs.lemmas.List.Folds.{list_any-append}
use Rattle.std.proofs.lemmas.Slice.Eq.{bytes_eq-Decides}
use Rattle.snesl_data.specs.Types.{Ty}
use Rattle.snesl_types.specs.Contexts.{open_to, Context, bound as bound_to, found, inside}
use Rattle.flow_messages.specs.declared.message.Kind.{Kind}
use Rattle.flow_messages.specs.declared.message.Kind.TheVariants.{Unit as UnitKind, Bool as BoolKind}
use Rattle.snesl_translation.specs.Wires.{Wires, Bound}
use Rattle.snesl_translation.specs.Makings.{Making, done, and_then}
use Rattle.snesl_translation.specs.FreeNames.{Names, is_among, without}
use Rattle.snesl_translation.specs.Moving.{all_moved}
use Rattle.snesl_translation.specs.Translation.{wires_named}
use Rattle.snesl_translation.proofs.BoundMoved.{others_stay, stay_among, stay_other, wires_here, wires_after}
use Rattle.snesl_translation.proofs.Borne.{AreOpen, found_outside}
use Rattle.snesl_translation.proofs.OfWiring.Fitting.{Stream, stream_on, Extends, Fits, fits_on}
use Rattle.snesl_translation.proofs.OfWiring.Making.{IsMade, Makes, done_made, then_made}

-- each of these names that the context gives a type stands for streams that fit it
pub record Bears (kinds : List Kind) (bound : Bound) (names : Names) (context : Context) : Type 0 where
  pub fits : (bytes : List ℕ) (t : Ty) → is_among bytes names ≡ true → found bytes context ≡ Some (open_to t) → Fits kinds t (wires_named bytes bound)

-- wherever names stand for streams of their types, and there is a control stream, the steps give streams of the type
abbrev pub AlwaysMakes : (Bound → (control next : ℕ) → Making Wires) → Names → Context → Ty → Type 0
AlwaysMakes translated names context t =
    (kinds : List Kind) (bound : Bound) (control : ℕ) → Bears kinds bound names context → Stream kinds control UnitKind → Makes kinds t (translated bound control (length kinds))

pub bears_on : {kinds on : List Kind} {bound : Bound} {names : Names} {context : Context} → Extends kinds on → Bears kinds bound names context → Bears on bound names context
bears_on more h = record { fits = λ bytes t among is. fits_on more (h.fits bytes t among is) }

-- fewer names

either : (a b : Bool) → b ≡ true → a || b ≡ true
either true b h = refl
either false b h = h

pub bears_left : {kinds : List Kind} {bound : Bound} {context : Context} (names others : Names) → Bears kinds bound (names ++ others) context → Bears kinds bound names context
bears_left names others h = record {
  fits = λ bytes t among is. h.fits bytes t (list_any-append (bytes_eq bytes) names others ∙ ap (λ b. b || is_among bytes others) among) is;
}

pub bears_right : {kinds : List Kind} {bound : Bound} {context : Context} (names others : Names) → Bears kinds bound (names ++ others) context → Bears kinds bound others context
bears_right names others h = record {
  fits = λ bytes t among is. h.fits bytes t (list_any-append (bytes_eq bytes) names others ∙ either (is_among bytes names) (is_among bytes others) among) is;
}

-- those that may be used inside a comprehension
pub bears_inside : {kinds : List Kind} {bound : Bound} {names : Names} {context : Context} → Bears kinds bound names context → Bears kinds bound names (inside context)
bears_inside {context = context} h = record { fits = λ bytes t among is. h.fits bytes t among (found_outside bytes context t is).0 }

-- one name more
pub bears_with : {kinds : List Kind} {bound : Bound} {context : Context} (names : Names) (name : List ℕ) (w : Wires) (s : Ty) → Fits kinds s w → Bears kinds bound (without name names) context
    → Bears kinds ((name, w) ∷ bound) names (bound_to name s ∷ context)
bears_with {kinds = kinds} {bound = bound} {context = context} names name w s fit h = record { fits = λ bytes t among is. by_test bytes t among (bytes_eq bytes name) refl is }
  where
    by_test : (bytes : List ℕ) (t : Ty) → is_among bytes names ≡ true → (b : Bool) → bytes_eq bytes name ≡ b → cond b (Some (open_to s)) (found bytes context) ≡ Some (open_to t)
        → Fits kinds t (cond b w (wires_named bytes bound))
    by_test bytes t among true e is = let same : s ≡ t = cc in subst (λ t. Fits kinds t w) same fit
    by_test bytes t among false e is = h.fits bytes t (others_stay bytes name names e among) is

-- moved names

-- of the names after an entry
behind : {kinds : List Kind} {bound : Bound} {names : Names} {context : Context} (entry : List ℕ × Wires) → Bears kinds (entry ∷ bound) names context
    → Bears kinds bound (without entry.0 names) context
behind {kinds = kinds} {bound = bound} {names = names} entry h = record {
  fits = λ bytes t among is.
      subst (Fits kinds t) (wires_after bytes entry bound (stay_other bytes entry.0 names among)) (h.fits bytes t (stay_among bytes entry.0 names among) is);
}

-- an entry of the type that its name has in the context, before others
joined : {kinds : List Kind} {bound : Bound} {context : Context} (names : Names) (name : List ℕ) (w : Wires) (s : Ty) → found name context ≡ Some (open_to s) → Fits kinds s w
    → Bears kinds bound (without name names) context → Bears kinds ((name, w) ∷ bound) names context
joined {kinds = kinds} {bound = bound} {context = context} names name w s here fit h = record { fits = λ bytes t among is. by_test bytes t among is (bytes_eq bytes name) refl }
  where
    by_test : (bytes : List ℕ) (t : Ty) → is_among bytes names ≡ true → found bytes context ≡ Some (open_to t) → (b : Bool) → bytes_eq bytes name ≡ b
        → Fits kinds t (cond b w (wires_named bytes bound))
    by_test bytes t among is true e =
        let types : Some (open_to s) ≡ Some (open_to t) = sym here ∙ ap (λ n. found n context) (sym ((bytes_eq-Decides bytes name).0 e)) ∙ is in
        let same : s ≡ t = cc in
        subst (λ t. Fits kinds t w) same fit
    by_test bytes t among is false e = h.fits bytes t (others_stay bytes name names e among) is

module _ (flag : ℕ) (move : Wires → ℕ → Making Wires) (context : Context)
    (moves : (kinds : List Kind) (w : Wires) (bytes : List ℕ) (t : Ty) → Stream kinds flag BoolKind → found bytes context ≡ Some (open_to t) →
    Fits kinds t w → Makes kinds t (move w (length kinds))) where
  -- where wires of the types of names are moved so, the names stand for streams of these types
  pub all_moved_made : (names : Names) (bound : Bound) (kinds : List Kind) → AreOpen names context → Stream kinds flag BoolKind → Bears kinds bound names context
      → IsMade kinds (all_moved move names bound (length kinds)) (λ on given. Bears on given names context)
  all_moved_made names [] kinds usable flagged h = done_made h
  all_moved_made names (entry ∷ bound) kinds usable flagged h =
      by_test (is_among entry.0 names) refl (λ on. all_moved_made (without entry.0 names) bound on) (all_moved_made names bound kinds usable flagged)
    where
      -- an entry whose name is not among them
      left : is_among entry.0 names ≡ false → Bears kinds bound names context
      left not = record { fits = λ bytes t among is. subst (Fits kinds t) (wires_after bytes entry bound (other bytes among (bytes_eq bytes entry.0) refl)) (h.fits bytes t among is) }
        where
          other : (bytes : List ℕ) → is_among bytes names ≡ true → (b : Bool) → bytes_eq bytes entry.0 ≡ b → bytes_eq bytes entry.0 ≡ false
          other bytes among false e = e
          other bytes among true e =
              let there : true ≡ false = sym among ∙ ap (λ n. is_among n names) ((bytes_eq-Decides bytes entry.0).0 e) ∙ not in absurd (cc)

      by_test : (b : Bool) → is_among entry.0 names ≡ b
          → ((on : List Kind) → AreOpen (without entry.0 names) context → Stream on flag BoolKind → Bears on bound (without entry.0 names) context
          → IsMade on (all_moved move (without entry.0 names) bound (length on)) (λ last given. Bears last given (without entry.0 names) context))
          → (Bears kinds bound names context → IsMade kinds (all_moved move names bound (length kinds)) (λ on given. Bears on given names context))
          → IsMade kinds (
          cond b (and_then (move entry.1 (length kinds)) (λ u k. and_then (all_moved move (without entry.0 names) bound k) (λ others k. done ((entry.0, u) ∷ others) k)))
          (all_moved move names bound (length kinds))) (λ on given. Bears on given names context)
      by_test false e moved others = others (left e)
      by_test true e moved others =
          let o = usable entry.0 e in
          let fit : Fits kinds o.0 entry.1 = subst (Fits kinds o.0) (wires_here entry.0 entry bound ((bytes_eq-Decides entry.0 entry.0).1 refl)) (h.fits entry.0 o.0 e o.1) in
          let usable' : AreOpen (without entry.0 names) context = λ bytes among. usable bytes (stay_among bytes entry.0 names among) in
          then_made _ (moves kinds entry.1 entry.0 o.0 flagged o.1 fit) (λ on more u fu.
          then_made _ (moved on usable' (stream_on more flagged) (bears_on more (behind entry h))) (λ last more' given g.
          done_made (joined names entry.0 u o.0 o.1 (fits_on more' fu) g)))
