-- Nothing follows the end on an edge.
use Rattle.std.proofs.Common.{◌≡◌, ℕ, ◌<◌, List, [], ◌∷◌, ◌++◌, length, ◌⊎◌, refl, sym, ◌∙◌, ap, subst, inl, inr, arith, append-nil, append_assoc, length-append}
use Rattle.std.proofs.lemmas.Bool.{cases_eq}
use Rattle.kahn.specs.declared.want.Want.TheVariants.{Write, Ended}
use Rattle.kahn.specs.Processes.{Process, Event, Reads, Writes, Does, writes, HasEnd, IsLawfulProcess}
use Rattle.kahn.specs.Networks.{Network, IsWired, AllLawful}
use Rattle.kahn.specs.Configurations.{Configuration, IsReached, IsSound}
use Rattle.kahn.proofs.History.{writes_push, writes_push_other, writes_push_read, does_then}
use Rattle.kahn.proofs.Prefix.{writes_first, writes_later}

module _ {State Message : Type 0} (P : Process State Message) (opening : State) (inputs outputs : ℕ) (lawful : IsLawfulProcess P opening inputs outputs) (p : ℕ) where
  end_more : (a b : List Message) → HasEnd P a → HasEnd P (a ++ b)
  end_more a b (before, after, e) = (before, after ++ b, sym (append_assoc before (P.end ∷ after) b) ∙ ap (λ l. l ++ b) e)

  -- after the end went out at the port nothing else does
  closed_out : (g h : List (Event Message)) (s t : State) → Does P opening g s → HasEnd P (writes p g) → Does P s h t → writes p h ≡ []
  closed_out g [] s t did has does = refl
  closed_out g (Reads q m ∷ h) s t did has (wants, does) =
      closed_out (g ++ Reads q m ∷ []) h (P.read s m) t (does_then P opening s (P.read s m) g (Reads q m ∷ []) did (wants, refl)) (subst (λ l. HasEnd P l) (sym (writes_push_read p q m g)) has) does
  closed_out g (Writes q m ∷ h) s t did has (wants, is, does) =
      go (cases_eq p q) (closed_out (g ++ Writes q m ∷ []) h (P.wrote s) t
      (does_then P opening s (P.wrote s) g (Writes q m ∷ []) did (wants, is, refl)))
    where
      go : ((p ≡ q) ⊎ (p ≡ q → ⊥)) → (HasEnd P (writes p (g ++ Writes q m ∷ [])) → Does P (P.wrote s) h t → writes p h ≡ []) → writes p (Writes q m ∷ h) ≡ []
      go (inl pq) later = absurd (lawful.open_out g s p did (wants ∙ ap Write (sym pq)) has)
      go (inr ne) later = writes_later p q m h ne ∙ later (subst (λ l. HasEnd P l) (sym (writes_push_other p q m g ne)) has) does

  end_last : (g h : List (Event Message)) (s t : State) (a b : List Message) → Does P opening g s → Does P s h t → writes p h ≡ a ++ P.end ∷ b → b ≡ []
  end_last g [] s t a b did same e = absurd (omega (arith, ap length e, length-append a (P.end ∷ b)))
  end_last g (Reads q m ∷ h) s t a b did (wants, does) e = end_last (g ++ Reads q m ∷ []) h (P.read s m) t a b (does_then P opening s (P.read s m) g (Reads q m ∷ []) did (wants, refl)) does e
  end_last g (Writes q m ∷ h) s t a b did (wants, is, does) e = go (cases_eq p q) a e (λ x. end_last (g ++ Writes q m ∷ []) h (P.wrote s) t x b now does)
    where
      now : Does P opening (g ++ Writes q m ∷ []) (P.wrote s)
      now = does_then P opening s (P.wrote s) g (Writes q m ∷ []) did (wants, is, refl)

      go : ((p ≡ q) ⊎ (p ≡ q → ⊥)) → (a : List Message) → writes p (Writes q m ∷ h) ≡ a ++ P.end ∷ b → ((x : List Message) → writes p h ≡ x ++ P.end ∷ b → b ≡ []) → b ≡ []
      go (inr ne) a e later = later a (sym (writes_later p q m h ne) ∙ e)
      go (inl pq) [] e later =
          let f : m ∷ writes p h ≡ P.end ∷ b = sym (writes_first p q m h pq) ∙ e in
          let is_end : m ≡ P.end = cc in
          let rest : writes p h ≡ b = cc in
          sym rest ∙ closed_out (g ++ Writes q m ∷ []) h (P.wrote s) t now (writes p g, [], ap (λ x. writes p g ++ x ∷ []) (sym is_end) ∙ sym (writes_push p q m g pq)) does
      go (inl pq) (x ∷ a) e later =
          let f : m ∷ writes p h ≡ x ∷ (a ++ P.end ∷ b) = sym (writes_first p q m h pq) ∙ e in
          later a cc

module _ {State Message : Type 0} (P : Process State Message) (net : Network State) (wired : IsWired net) (lawful : AllLawful P net) (c : Configuration State Message) (sound : IsSound P net c) where
  inside_writer : (e : ℕ) → e < net.edges → net.writer e < net.nodes
  inside_writer e inside_e = let a : net.writer e < net.reader e = wired.forward e inside_e in let b : net.reader e < net.nodes = wired.inside e inside_e in omega arith

  pub sent_end_last : (e : ℕ) → e < net.edges → (a b : List Message) → c.sent e ≡ a ++ P.end ∷ b → b ≡ []
  sent_end_last e inside a b is =
      let w : IsReached P net c (net.writer e) = sound.reached (net.writer e) (inside_writer e inside) in
      end_last P (net.opening (net.writer e)) (net.inputs (net.writer e)) (net.outputs (net.writer e)) (lawful (net.writer e) (inside_writer e inside)) (net.writer_port e)
      [] w.history (net.opening (net.writer e)) (c.state (net.writer e)) a b refl w.does (sym (w.sent e inside refl) ∙ is)

  -- a reader that has ended received all that was sent
  pub received_all : (e : ℕ) → e < net.edges → P.want (c.state (net.reader e)) ≡ Ended → c.received e ≡ c.sent e
  received_all e inside ended =
      let r : IsReached P net c (net.reader e) = sound.reached (net.reader e) (wired.inside e inside) in
      let (a, b, is) = (lawful (net.reader e) (wired.inside e inside)).all_in r.history (c.state (net.reader e)) (net.reader_port e) r.does ended (wired.reader_in e inside) in
      let (rest, all) = sound.flows e inside in
      go a b rest (is ∙ sym (r.received e inside refl)) all
    where
      go : (a b rest : List Message) → a ++ P.end ∷ b ≡ c.received e → c.received e ++ rest ≡ c.sent e → c.received e ≡ c.sent e
      go a b [] is all = sym (append-nil (c.received e)) ∙ all
      go a b (m ∷ rest) is all =
          let none : b ++ m ∷ rest ≡ [] = sent_end_last e inside a (b ++ m ∷ rest) (sym all ∙ ap (λ l. l ++ m ∷ rest) (sym is) ∙ append_assoc a (P.end ∷ b) (m ∷ rest)) in
          absurd (omega (arith, ap length none, length-append b (m ∷ rest)))
