-- Two shares that step side by side, each from what stood at the meeting: together they are one run.
use Rattle.std.proofs.Common.{◌≡◌, ℕ, Bool, true, false, Option, List, [], ◌∷◌, ◌++◌, refl, sym, ◌∙◌, ap, subst}
use Rattle.kahn.specs.Processes.{Process, Event, Reads, Writes}
use Rattle.kahn.specs.Networks.{Network, actor, AllBy}
use Rattle.kahn.specs.Configurations.{Configuration}
use Rattle.kahn.specs.Runs.{Can, next, Run}
use Rattle.kahn.specs.ShareTheorems.{SharesAreOneRun, OthersAreUntouched}
use Rattle.kahn.proofs.Basics.{updated_other}
use Rattle.kahn.proofs.Confluence.{stays, commute}

module _ {State Message : Type 0} (P : Process State Message) (net : Network State) (limit : Option ℕ) (Mine : ℕ → Type 0) where
  -- a step of another node leaves a run as it is
  run_after : (events : List (Event Message)) (c d : Configuration State Message) (a : Event Message) → AllBy net Mine events →
      (Mine (actor net a) → ⊥) → Run P net limit events c d → Run P net limit events (next P net c a) (next P net d a)
  run_after [] c d a mine other same = ap (λ x. next P net x a) same
  run_after (b ∷ more) c d a (mine_b, mine) other (can, run) = (
    stays P net c limit a b can (λ e. other (subst Mine (sym e) mine_b)),
    subst (λ x. Run P net limit more x (next P net d a)) (sym (commute P net c a b (λ e. other (subst Mine (sym e) mine_b)))) (run_after more (next P net c b) d a mine other run),
  )

  -- the events of nodes of mine, and those of other nodes, in either order
  pub together : (mine others : List (Event Message)) (c d e : Configuration State Message) → AllBy net Mine mine → AllBy net (λ k. Mine k → ⊥) others
      → Run P net limit mine c d → Run P net limit others c e → (r : Configuration State Message) × Run P net limit others d r
      × Run P net limit mine e r
  together mine [] c d e all_m all_o run_m same = (d, refl, subst (λ x. Run P net limit mine x d) same run_m)
  together mine (a ∷ others) c d e all_m (other, all_o) run_m (can, run_o) =
      let (r, run_r, run_e) = together mine others (next P net c a) (next P net d a) e all_m all_o (run_after mine c d a all_m other run_m) run_o in
      (r, (after mine c d a all_m other run_m can, run_r), run_e)
    where
      after : (events : List (Event Message)) (c d : Configuration State Message) (a : Event Message) → AllBy net Mine events →
          (Mine (actor net a) → ⊥) → Run P net limit events c d → Can P net limit c a → Can P net limit d a
      after [] c d a mine other same can = subst (λ x. Can P net limit x a) same can
      after (b ∷ more) c d a (mine_b, mine) other (can_b, run) can =
          after more (next P net c b) d a mine other run (stays P net c limit b a can (λ e. other (subst Mine e mine_b)))

  -- a run changes the states of its own nodes, and what they received and sent, alone
  pub untouched : (events : List (Event Message)) (c d : Configuration State Message) → AllBy net Mine events → Run P net limit events c d → (k : ℕ) →
      (Mine k → ⊥) → (d.state k ≡ c.state k) × ((e : ℕ) → net.reader e ≡ k → d.received e ≡ c.received e)
      × ((e : ℕ) → net.writer e ≡ k → d.sent e ≡ c.sent e)
  untouched [] c d mine same k other = (ap (λ x. x.state k) (sym same), (λ e at. ap (λ x. x.received e) (sym same)), (λ e at. ap (λ x. x.sent e) (sym same)))
  untouched (a ∷ more) c d (mine_a, mine) (can, run) k other =
      let (state, received, sent) = untouched more (next P net c a) d mine run k other in
      let (state_a, received_a, sent_a) = one a mine_a in
      (state ∙ state_a, (λ e at. received e at ∙ received_a e at), (λ e at. sent e at ∙ sent_a e at))
    where
      one : (a : Event Message) → Mine (actor net a) → ((next P net c a).state k ≡ c.state k)
          × ((e : ℕ) → net.reader e ≡ k → (next P net c a).received e ≡ c.received e)
          × ((e : ℕ) → net.writer e ≡ k → (next P net c a).sent e ≡ c.sent e)
      one (Reads f m) mine_f = (
        updated_other c.state (net.reader f) k (P.read (c.state (net.reader f)) m) (λ h. other (subst Mine (sym h) mine_f)),
        (λ e at. updated_other c.received f e (c.received f ++ m ∷ []) (λ h. other (subst Mine (sym (ap net.reader h) ∙ at) mine_f))),
        (λ e at. refl),
      )
      one (Writes f m) mine_f = (
        updated_other c.state (net.writer f) k (P.wrote (c.state (net.writer f))) (λ h. other (subst Mine (sym h) mine_f)),
        (λ e at. refl),
        (λ e at. updated_other c.sent f e (c.sent f ++ m ∷ []) (λ h. other (subst Mine (sym (ap net.writer h) ∙ at) mine_f))),
      )

-- where another test tells mine from others
pub all_by_more : {State Message : Type 0} (net : Network State) (Mine Yours : ℕ → Type 0) → ((k : ℕ) → Mine k → Yours k) →
    (events : List (Event Message)) → AllBy net Mine events → AllBy net Yours events
all_by_more net Mine Yours more [] mine = tt
all_by_more net Mine Yours more (a ∷ events) (mine_a, mine) = (more (actor net a) mine_a, all_by_more net Mine Yours more events mine)

false_not_true : (b : Bool) → b ≡ false → b ≡ true → ⊥
false_not_true b f t = let a : true ≡ false = sym t ∙ f in cc

module _ {State Message : Type 0} (P : Process State Message) (net : Network State) where
  pub shares_are_one_run : SharesAreOneRun P net
  shares_are_one_run limit mine of_mine of_others c d e all_mine all_others run_mine run_others =
      together P net limit (λ k. mine k ≡ true) of_mine of_others c d e all_mine
      (all_by_more net (λ k. mine k ≡ false) (λ k. mine k ≡ true → ⊥) (λ k. false_not_true (mine k)) of_others all_others) run_mine run_others

  pub others_are_untouched : OthersAreUntouched P net
  others_are_untouched limit mine events c d all_mine run k other = untouched P net limit (λ j. mine j ≡ true) events c d all_mine run k (false_not_true (mine k) other)
