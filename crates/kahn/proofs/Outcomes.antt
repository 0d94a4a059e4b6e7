-- A sound configuration at rest has exactly one outcome.
use Rattle.std.proofs.Common.{[], ◌∷◌, ◌≡◌, ℕ, zero, suc, ◌<◌, ◌≤◌, Some, ◌⊎◌, refl, sym, ◌∙◌, ap, inl, inr, arith, List, subst}
use Rattle.std.proofs.lemmas.Bool.{cases_eq, cases_lt}
use Rattle.std.proofs.lemmas.List.Elements.{All-contains}
use Rattle.snesl_data.specs.declared.fault.Fault.{Fault}
use Rattle.kahn.specs.declared.want.Want.{Want}
use Rattle.kahn.specs.declared.want.Want.TheVariants.{Read, Write, Ended, Faulted}
use Rattle.kahn.specs.declared.outcome.Outcome.{Outcome}
use Rattle.kahn.specs.declared.outcome.Outcome.TheVariants.{Value, Fault as Failed, Stalled}
use Rattle.kahn.specs.Processes.{Process}
use Rattle.kahn.specs.Networks.{Network, IsWired, AllLawful}
use Rattle.kahn.specs.Configurations.{Configuration, IsSound, NoneFaulted, AllEnded, IsLeastBlocked}
use Rattle.kahn.specs.Runs.{AtRest}
use Rattle.kahn.specs.Faults.{IsNamedBefore, IsNamedOf}
use Rattle.kahn.specs.Outcomes.{HasFault, AreItsFaults, NamesFault, HasOutcome}
use Rattle.kahn.proofs.NamedFaults.{named_before_one, named_before_then, named_before_itself, named_one_of_two, named_before_first, named_before_second, named_of_two}
use Rattle.kahn.proofs.Rest.{stalled_or_ended}

-- f is the fault that is named of those to which the numbers below n have come
pub record NamesBelow (want : ℕ → Want) (n : ℕ) (f : Fault) : Type 0 where
  pub node : ℕ
  pub inside : node < n
  pub is : want node ≡ Faulted f
  pub first : (k : ℕ) (g : Fault) → k < n → want k ≡ Faulted g → IsNamedBefore f g

-- no number below n has come to a fault
abbrev pub NoneBelow : (ℕ → Want) → ℕ → Type 0
NoneBelow want n = (k : ℕ) (g : Fault) → k < n → want k ≡ Faulted g → ⊥

-- One number more, of which all is known: what a loop over the nodes keeps.
module _ (want : ℕ → Want) (n : ℕ) where
  -- what the faults below n and the one at n have, all have
  each_below : (Q : Fault → Type 0) → ((k : ℕ) (g : Fault) → k < n → want k ≡ Faulted g → Q g) → ((g : Fault) → want n ≡ Faulted g → Q g) → (k : ℕ) (g : Fault) → k < suc n → want k ≡ Faulted g → Q g
  each_below Q below here k g inside is = go (cases_eq k n)
    where
      go : ((k ≡ n) ⊎ (k ≡ n → ⊥)) → Q g
      go (inl e) = here g (ap want (sym e) ∙ is)
      go (inr ne) = below k g (omega arith) is

  -- what holds of the one fault at n
  of_this : (Q : Fault → Type 0) (h : Fault) → want n ≡ Faulted h → Q h → (g : Fault) → want n ≡ Faulted g → Q g
  of_this Q h is holds g is_g = let same : h ≡ g = let a : Faulted h ≡ Faulted g = sym is ∙ is_g in cc in subst Q same holds

  pub none_still : ((g : Fault) → want n ≡ Faulted g → ⊥) → NoneBelow want n → NoneBelow want (suc n)
  none_still none below = each_below (λ g. ⊥) below none

  pub named_still : (f : Fault) → ((g : Fault) → want n ≡ Faulted g → ⊥) → NamesBelow want n f → NamesBelow want (suc n) f
  named_still f none below =
      let node : below.node < n = below.inside in
      record { node = below.node; inside = omega arith; is = below.is; first = each_below (λ g. IsNamedBefore f g) below.first (λ g is. absurd (none g is)) }

  pub named_newly : (f : Fault) → want n ≡ Faulted f → NoneBelow want n → NamesBelow want (suc n) f
  named_newly f is none =
      record {
        node = n;
        inside = omega arith;
        is = is;
        first =
            each_below (λ g. IsNamedBefore f g) (λ k g inside is_g. absurd (none k g inside is_g))
            (of_this (λ g. IsNamedBefore f g) f is (named_before_itself f));
      }

  pub named_next : (f h r : Fault) → want n ≡ Faulted h → NamesBelow want n f → IsNamedOf (f ∷ h ∷ []) r → NamesBelow want (suc n) r
  named_next f h r is below of_two = go (named_one_of_two f h r of_two)
    where
      all : (k : ℕ) (g : Fault) → k < suc n → want k ≡ Faulted g → IsNamedBefore r g
      all =
          each_below (λ g. IsNamedBefore r g) (λ k g inside is_g. named_before_then r f g (named_before_first f h r of_two) (below.first k g inside is_g))
          (of_this (λ g. IsNamedBefore r g) h is (named_before_second f h r of_two))

      go : (f ≡ r) ⊎ (h ≡ r) → NamesBelow want (suc n) r
      go (inl same) = let node : below.node < n = below.inside in record { node = below.node; inside = omega arith; is = below.is ∙ ap Faulted same; first = all }
      go (inr same) = record { node = n; inside = omega arith; is = is ∙ ap Faulted same; first = all }

-- whether this is a fault
abbrev IsFaultOrNot : Want → Type 0
IsFaultOrNot w = ((f : Fault) × (w ≡ Faulted f)) ⊎ ((f : Fault) → w ≡ Faulted f → ⊥)

is_fault : (w : Want) → IsFaultOrNot w
is_fault (Faulted f) = inl (f, refl)
is_fault (Read p) = inr (λ f h. cc)
is_fault (Write p) = inr (λ f h. cc)
is_fault Ended = inr (λ f h. cc)

pub named_below : (want : ℕ → Want) (n : ℕ) → ((f : Fault) × NamesBelow want n f) ⊎ NoneBelow want n
named_below want zero = inr (λ k g l is. absurd (omega arith))
named_below want (suc n) = go (named_below want n) (is_fault (want n))
  where
    go : ((f : Fault) × NamesBelow want n f) ⊎ NoneBelow want n → IsFaultOrNot (want n) → ((f : Fault) × NamesBelow want (suc n) f) ⊎ NoneBelow want (suc n)
    go (inl (f, below)) (inl (h, is)) = let (r, of_two) = named_of_two f h in inl (r, named_next want n f h r is below of_two)
    go (inl (f, below)) (inr none) = inl (f, named_still want n f none below)
    go (inr below) (inl (h, is)) = inl (h, named_newly want n h is below)
    go (inr below) (inr none) = inr (none_still want n none below)

module _ {State Message : Type 0} (P : Process State Message) (net : Network State) (capacity : ℕ) (c : Configuration State Message) where
  -- what a loop over all nodes found
  pub names_from : (f : Fault) → NamesBelow (λ k. P.want (c.state k)) net.nodes f → NamesFault P net c f
  names_from f below = record { stands = (below.node, below.inside, below.is); first = λ g (k, inside, is). below.first k g inside is }

  pub some_outcome : IsWired net → AllLawful P net → IsSound P net c → AtRest P net (Some capacity) c → (o : Outcome) × HasOutcome P net capacity c o
  some_outcome wired lawful sound rest = go (named_below (λ k. P.want (c.state k)) net.nodes)
    where
      quiet : NoneFaulted P net c → AllEnded P net c ⊎ ((e : ℕ) × IsLeastBlocked P net capacity c e) → (o : Outcome) × HasOutcome P net capacity c o
      quiet fine (inl ended) = (Value, ended)
      quiet fine (inr (e, least)) = (Stalled e, (fine, least))

      go : ((f : Fault) × NamesBelow (λ k. P.want (c.state k)) net.nodes f) ⊎ NoneBelow (λ k. P.want (c.state k)) net.nodes → (o : Outcome) × HasOutcome P net capacity c o
      go (inl (f, below)) = (Failed f, names_from f below)
      go (inr none) =
          let fine : NoneFaulted P net c = λ k inside f is. none k f inside is in
          quiet fine (stalled_or_ended P net capacity c wired lawful sound rest fine)

  ended_not_faulted : AllEnded P net c → (f : Fault) → HasFault P net c f → ⊥
  ended_not_faulted ended f (k, inside, is) = let a : Ended ≡ Faulted f = sym (ended k inside) ∙ is in cc

  none_not_faulted : NoneFaulted P net c → (f : Fault) → HasFault P net c f → ⊥
  none_not_faulted fine f (k, inside, is) = fine k inside f is

  ended_not_blocked : IsWired net → AllEnded P net c → (e : ℕ) → IsLeastBlocked P net capacity c e → ⊥
  ended_not_blocked wired ended e (inside, (wants, full), least) =
      let before : net.writer e < net.reader e = wired.forward e inside in
      let after : net.reader e < net.nodes = wired.inside e inside in
      let a : Ended ≡ Write (net.writer_port e) = sym (ended (net.writer e) (omega arith)) ∙ wants in
      cc

  one_least : (e f : ℕ) → IsLeastBlocked P net capacity c e → IsLeastBlocked P net capacity c f → e ≡ f
  one_least e f (inside_e, blocked_e, least_e) (inside_f, blocked_f, least_f) = go (cases_lt e f) (cases_lt f e)
    where
      go : (e < f) ⊎ (f ≤ e) → (f < e) ⊎ (e ≤ f) → e ≡ f
      go (inl less) back = absurd (least_f e less blocked_e)
      go (inr no_less) (inl more) = absurd (least_e f more blocked_f)
      go (inr no_less) (inr no_more) = omega arith

  pub same_outcome : IsWired net → (o q : Outcome) → HasOutcome P net capacity c o → HasOutcome P net capacity c q → o ≡ q
  same_outcome wired Value Value ended again = refl
  same_outcome wired Value (Failed f) ended names = absurd (ended_not_faulted ended f names.stands)
  same_outcome wired Value (Stalled e) ended (fine, least) = absurd (ended_not_blocked wired ended e least)
  same_outcome wired (Failed f) Value names ended = absurd (ended_not_faulted ended f names.stands)
  same_outcome wired (Failed f) (Failed g) names again = ap Failed (named_before_one f g (names.first g again.stands) (again.first f names.stands))
  same_outcome wired (Failed f) (Stalled e) names (fine, least) = absurd (none_not_faulted fine f names.stands)
  same_outcome wired (Stalled e) Value (fine, least) ended = absurd (ended_not_blocked wired ended e least)
  same_outcome wired (Stalled e) (Failed f) (fine, least) names = absurd (none_not_faulted fine f names.stands)
  same_outcome wired (Stalled e) (Stalled f) (fine, least) (again, other) = ap Stalled (one_least e f least other)

  pub listed_fault_is_outcome : (faults : List Fault) (f : Fault) → AreItsFaults P net c faults → IsNamedOf faults f → NamesFault P net c f
  listed_fault_is_outcome faults f are named =
      record {
        stands = (are f).0 named.stands;
        first = λ g has. All-contains (λ x. IsNamedBefore f x) faults g named.first ((are g).1 has);
      }
