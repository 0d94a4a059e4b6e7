-- What the events of one process add up to.
use Rattle.std.proofs.Common.{◌≡◌, ℕ, List, [], ◌∷◌, ◌++◌, Bool, true, false, cond, eqb, refl, sym, ◌∙◌, ap, subst, append-nil, eq-eqb, ne_eqb}
use Rattle.kahn.specs.Processes.{Process, Event, Reads, Writes, Does, reads, writes}

module _ {Message : Type 0} where
  cond_append : (b : Bool) (m : Message) (x y z : List Message) → x ++ y ≡ z → cond b (m ∷ x) x ++ y ≡ cond b (m ∷ z) z
  cond_append true m x y z e = ap (λ l. m ∷ l) e
  cond_append false m x y z e = e

  pub reads_append : (p : ℕ) (h g : List (Event Message)) → reads p h ++ reads p g ≡ reads p (h ++ g)
  reads_append p [] g = refl
  reads_append p (Reads q m ∷ h) g = cond_append (eqb p q) m (reads p h) (reads p g) (reads p (h ++ g)) (reads_append p h g)
  reads_append p (Writes q m ∷ h) g = reads_append p h g

  pub writes_append : (p : ℕ) (h g : List (Event Message)) → writes p h ++ writes p g ≡ writes p (h ++ g)
  writes_append p [] g = refl
  writes_append p (Reads q m ∷ h) g = writes_append p h g
  writes_append p (Writes q m ∷ h) g = cond_append (eqb p q) m (writes p h) (writes p g) (writes p (h ++ g)) (writes_append p h g)

  pub reads_push : (p q : ℕ) (m : Message) (h : List (Event Message)) → p ≡ q → reads p (h ++ Reads q m ∷ []) ≡ reads p h ++ m ∷ []
  reads_push p q m h e = sym (reads_append p h (Reads q m ∷ [])) ∙ rw (eq-eqb p q e)

  pub reads_push_other : (p q : ℕ) (m : Message) (h : List (Event Message)) → (p ≡ q → ⊥) → reads p (h ++ Reads q m ∷ []) ≡ reads p h
  reads_push_other p q m h ne = sym (reads_append p h (Reads q m ∷ [])) ∙ rw (ne_eqb p q ne) (append-nil (reads p h))

  pub reads_push_write : (p q : ℕ) (m : Message) (h : List (Event Message)) → reads p (h ++ Writes q m ∷ []) ≡ reads p h
  reads_push_write p q m h = sym (reads_append p h (Writes q m ∷ [])) ∙ append-nil (reads p h)

  pub writes_push : (p q : ℕ) (m : Message) (h : List (Event Message)) → p ≡ q → writes p (h ++ Writes q m ∷ []) ≡ writes p h ++ m ∷ []
  writes_push p q m h e = sym (writes_append p h (Writes q m ∷ [])) ∙ rw (eq-eqb p q e)

  pub writes_push_other : (p q : ℕ) (m : Message) (h : List (Event Message)) → (p ≡ q → ⊥) → writes p (h ++ Writes q m ∷ []) ≡ writes p h
  writes_push_other p q m h ne = sym (writes_append p h (Writes q m ∷ [])) ∙ rw (ne_eqb p q ne) (append-nil (writes p h))

  pub writes_push_read : (p q : ℕ) (m : Message) (h : List (Event Message)) → writes p (h ++ Reads q m ∷ []) ≡ writes p h
  writes_push_read p q m h = sym (writes_append p h (Reads q m ∷ [])) ∙ append-nil (writes p h)

module _ {State Message : Type 0} (P : Process State Message) where
  pub does_then : (s t u : State) (h g : List (Event Message)) → Does P s h t → Does P t g u → Does P s (h ++ g) u
  does_then s t u [] g same after = subst (λ x. Does P x g u) (sym same) after
  does_then s t u (Reads p m ∷ h) g (wants, does) after = (wants, does_then (P.read s m) t u h g does after)
  does_then s t u (Writes p m ∷ h) g (wants, is, does) after = (wants, is, does_then (P.wrote s) t u h g does after)
