-- Visits of nodes, one after another, and what follows where all nodes that are not over were visited.
use Rattle.std.proofs.Common.{◌≡◌, ℕ, ◌-◌, ◌<◌, Option, Bool, true, false, List, [], ◌∷◌, ◌++◌, ◌⊎◌, ◌||◌, refl, sym, ◌∙◌, ap, subst, inl, inr, arith}
use Rattle.std.proofs.lemmas.List.Elements.{Contains-push_cases, Contains-append_left, Contains-append_right, All-nil, All-append, All-weaker}
use Rattle.std.specs.List.{All, Contains}
use Rattle.kahn.specs.declared.want.Want.{Want}
use Rattle.kahn.specs.declared.want.Want.TheVariants.{Read, Write}
use Rattle.kahn.specs.Processes.{Process, Event, Reads, Writes, Settles}
use Rattle.kahn.specs.Networks.{Network, IsWired, actor}
use Rattle.kahn.specs.Configurations.{Configuration, moved, start}
use Rattle.kahn.specs.Runs.{Can, next, Run, Reaches, AtRest}
use Rattle.kahn.specs.Turns.{IsSwept}
use Rattle.kahn.proofs.Basics.{updated_other}
use Rattle.kahn.proofs.Finite.{most_events, run_then}
use Rattle.kahn.proofs.Traffic.{moved_run}
use Rattle.kahn.proofs.Turns.{swept_falls}
use Rattle.flow_networks.specs.Visits.{IsVisited}
use Rattle.flow_networks.specs.Over.{is_over}

-- a want that is over is none of the others
over_no_read : (w : Want) (p : ℕ) → is_over w ≡ true → w ≡ Read p → ⊥
over_no_read w p over is = let x : is_over (Read p) ≡ true = ap is_over (sym is) ∙ over in cc

over_no_write : (w : Want) (q : ℕ) → is_over w ≡ true → w ≡ Write q → ⊥
over_no_write w q over is = let x : is_over (Write q) ≡ true = ap is_over (sym is) ∙ over in cc

module _ {State Message : Type 0} (P : Process State Message) (net : Network State) (limit : Option ℕ) where
  pub visited_none : (c : Configuration State Message) → IsVisited P net limit [] c c false
  visited_none c = record { reaches = ([], refl); own = All-nil (λ a. Contains [] (actor net a)); calm = λ h. (refl, λ a has can. absurd (omega (arith, has.1))); busy = λ h. cc }

  -- one node more
  pub visited_push : (nodes : List ℕ) (k : ℕ) (c d e : Configuration State Message) (any one : Bool) → IsVisited P net limit nodes c d any →
      IsVisited P net limit (k ∷ []) d e one → IsVisited P net limit (nodes ++ k ∷ []) c e (any || one)
  visited_push nodes k c d e any one s t =
      record { reaches = all; own = own; calm = calm any one s t; busy = busy any one s t }
    where
      all : Reaches P net limit c e
      all = (s.reaches.0 ++ t.reaches.0, run_then P net limit s.reaches.0 t.reaches.0 c d e s.reaches.1 t.reaches.1)

      Among : Event Message → Type 0
      Among a = Contains (nodes ++ k ∷ []) (actor net a)

      own : All (λ a. Contains (nodes ++ k ∷ []) (actor net a)) all.0
      own =
          All-append Among s.reaches.0 t.reaches.0
          (All-weaker (λ a. Contains nodes (actor net a)) Among (λ a has. Contains-append_left nodes (k ∷ []) (actor net a) has) s.reaches.0 s.own)
          (All-weaker (λ a. Contains (k ∷ []) (actor net a)) Among (λ a has. Contains-append_right nodes (k ∷ []) (actor net a) has) t.reaches.0 t.own)

      calm : (any one : Bool) → IsVisited P net limit nodes c d any → IsVisited P net limit (k ∷ []) d e one → (any || one) ≡ false → (e ≡ c)
          × ((a : Event Message) → Contains (nodes ++ k ∷ []) (actor net a) → Can P net limit e a → ⊥)
      calm true one s t h = absurd (cc)
      calm false true s t h = absurd (cc)
      calm false false s t h = ((t.calm refl).0 ∙ (s.calm refl).0, λ a has can. go a can (Contains-push_cases nodes k (actor net a) has))
        where
          go : (a : Event Message) → Can P net limit e a → Contains nodes (actor net a) ⊎ (k ≡ actor net a) → ⊥
          go a can (inl has) = (s.calm refl).1 a has (subst (λ x. Can P net limit x a) (t.calm refl).0 can)
          go a can (inr same) = (t.calm refl).1 a (0, omega arith, same) can

      busy : (any one : Bool) → IsVisited P net limit nodes c d any → IsVisited P net limit (k ∷ []) d e one → (any || one) ≡ true → moved net c < moved net e
      busy true one s t h = omega (arith, s.busy refl, moved_run P net limit t.reaches.0 d e t.reaches.1)
      busy false true s t h = omega (arith, t.busy refl, moved_run P net limit s.reaches.0 c d s.reaches.1)
      busy false false s t h = absurd (cc)

  -- a node that is over makes no step
  pub over_idle : (c : Configuration State Message) (k : ℕ) → is_over (P.want (c.state k)) ≡ true → (a : Event Message) → actor net a ≡ k → Can P net limit c a → ⊥
  over_idle c k over (Reads e m) at can = over_no_read (P.want (c.state k)) (net.reader_port e) over (ap (λ j. P.want (c.state j)) (sym at) ∙ can.1)
  over_idle c k over (Writes e m) at can = over_no_write (P.want (c.state k)) (net.writer_port e) over (ap (λ j. P.want (c.state j)) (sym at) ∙ can.1)

  next_state : (c : Configuration State Message) (k : ℕ) (a : Event Message) → (actor net a ≡ k → ⊥) → (next P net c a).state k ≡ c.state k
  next_state c k (Reads e m) other = updated_other c.state (net.reader e) k (P.read (c.state (net.reader e)) m) (λ h. other (sym h))
  next_state c k (Writes e m) other = updated_other c.state (net.writer e) k (P.wrote (c.state (net.writer e))) (λ h. other (sym h))

  -- so its state stays
  pub over_stays : (events : List (Event Message)) (c d : Configuration State Message) → Run P net limit events c d → (k : ℕ) → is_over (P.want (c.state k)) ≡ true → d.state k ≡ c.state k
  over_stays [] c d same k over = ap (λ x. x.state k) (sym same)
  over_stays (a ∷ more) c d (can, run) k over =
      let one : (next P net c a).state k ≡ c.state k = next_state c k a (λ at. over_idle c k over a at can) in
      over_stays more (next P net c a) d run k (ap (λ s. is_over (P.want s)) one ∙ over) ∙ one

  -- no node can step where those that are not over were visited and made no step
  pub visited_rest : IsWired net → (nodes : List ℕ) (c d : Configuration State Message) → IsVisited P net limit nodes c d false →
      ((k : ℕ) → k < net.nodes → Contains nodes k ⊎ (is_over (P.want (c.state k)) ≡ true)) → AtRest P net limit d
  visited_rest wired nodes c d s all a can = go (all (actor net a) (inside a can))
    where
      inside : (a : Event Message) → Can P net limit d a → actor net a < net.nodes
      inside (Reads e m) can = wired.inside e can.0
      inside (Writes e m) can = let before = wired.forward e can.0 in let after = wired.inside e can.0 in omega arith

      go : Contains nodes (actor net a) ⊎ (is_over (P.want (c.state (actor net a))) ≡ true) → ⊥
      go (inl has) = (s.calm refl).1 a has can
      go (inr over) = over_idle c (actor net a) over a refl (subst (λ x. Can P net limit x a) (s.calm refl).0 can)

  -- what is left of the whole traffic falls where one made a step
  pub visited_falls : (wired : IsWired net) (settles : Settles P) (nodes : List ℕ) (c d : Configuration State Message) →
      Reaches P net limit (start net) c → IsVisited P net limit nodes c d true →
      most_events P net wired settles (start net) (λ e inside. ([], refl)) - moved net d < most_events P net wired settles (start net)
      (λ e inside. ([], refl)) - moved net c
  visited_falls wired settles nodes c d from s =
      let swept : IsSwept P net limit 0 c d true = record { reaches = s.reaches; calm = λ h. cc; busy = s.busy } in
      swept_falls P net limit wired settles 0 c d from swept
