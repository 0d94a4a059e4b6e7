-- Rounds or epochs that follow each other, one by one.
use Rattle.std.proofs.Common.{◌≡◌, ℕ, suc, ◌+◌, ◌<◌, List, [], ◌∷◌, ◌++◌, length, refl, sym, ◌∙◌, ap, subst, arith, length-append}
use Rattle.std.specs.Prelude.{◌↔◌, Bool, false, IsTrue}
use Rattle.std.specs.Io.Iter.{u64_saturate}
use Rattle.flow_messages.specs.declared.ends.Ends.{Ghosts as EndsGhosts}
use Rattle.flow_base.specs.declared.transducer.Transducer.{Ghosts}
use Rattle.flow_shares.specs.declared.share.Share.{Share}
use Rattle.flow_shares.specs.meetings.SharedNetworks.{NoneCanStep}
use Rattle.flow_drives.specs.loops.Follow.{last_back, Follow, Lead, MovedAtEach}

module _ {A : Type 0} where
  -- this in place of what the last one gave
  abbrev in_place : A → List A → List A
  in_place after [] = []
  in_place after (back ∷ []) = after ∷ []
  in_place after (back ∷ next ∷ more) = back ∷ in_place after (next ∷ more)

  in_place_count : (after : A) (backs : List A) → length (in_place after backs) ≡ length backs
  in_place_count after [] = refl
  in_place_count after (back ∷ []) = refl
  in_place_count after (back ∷ next ∷ more) = ap suc (in_place_count after (next ∷ more))

  in_place_last : (first after back : A) (more : List A) → last_back first (in_place after (back ∷ more)) ≡ after
  in_place_last first after back [] = refl
  in_place_last first after back (next ∷ more) = in_place_last back after next more

  gives_on : (first back : A) (backs : List A) → last_back first (backs ++ back ∷ []) ≡ back
  gives_on first back [] = refl
  gives_on first back (next ∷ more) = gives_on next back more

module _ {X Y : Type 0} {t : Ghosts X} {u : EndsGhosts Y} where
  module _ (Is Met : List (Share X Y t u) → List (Share X Y t u) → Type 0) where
    module _ (last after : List (Share X Y t u)) (is_since : (shares : List (Share X Y t u)) → Is shares last → Is shares after)
        (met_since : (shares : List (Share X Y t u)) → Met shares last → Met shares after) where
      in_place_follow : (first back : List (Share X Y t u)) (more : List (List (Share X Y t u))) → Follow Is first (back ∷ more) →
          last_back back more ≡ last → Follow Is first (in_place after (back ∷ more))
      in_place_follow first back [] (steps, is, none) gives = (steps, is_since first (subst (λ l. Is first l) gives is), tt)
      in_place_follow first back (next ∷ more) (steps, is, follow) gives = (steps, is, in_place_follow back next more follow gives)

      met_again : (shares first : List (Share X Y t u)) (backs : List (List (Share X Y t u))) (count : ℕ) → Met shares first → Follow Is first backs
          → last_back first backs ≡ last → count ≡ u64_saturate (length backs) → Lead Is Met shares after count
      met_again shares first [] count met follow gives counted = record {
        first = after;
        met = met_since shares (subst (λ l. Met shares l) gives met);
        backs = [];
        follow = tt;
        gives = refl;
        count_is = counted;
      }
      met_again shares first (back ∷ more) count met follow gives counted = record {
        first = first;
        met = met;
        backs = in_place after (back ∷ more);
        follow = in_place_follow first back more follow gives;
        gives = in_place_last first after back more;
        count_is = counted ∙ ap u64_saturate (sym (in_place_count after (back ∷ more)));
      }

      -- where the edges have met once more, as many led there
      pub lead_since : (shares : List (Share X Y t u)) (count : ℕ) → Lead Is Met shares last count → Lead Is Met shares after count
      lead_since shares count lead = met_again shares lead.first lead.backs count lead.met lead.follow lead.gives lead.count_is

    follow_on : (first last back : List (Share X Y t u)) (backs : List (List (Share X Y t u))) → Follow Is first backs → last_back first backs ≡ last
        → (NoneCanStep last → ⊥) → Is last back → Follow Is first (backs ++ back ∷ [])
    follow_on first last back [] follow gives steps is = (λ none. steps (subst (λ l. NoneCanStep l) gives none), subst (λ l. Is l back) (sym gives) is, tt)
    follow_on first last back (next ∷ more) (could, was, follow) gives steps is = (could, was, follow_on next last back more follow gives steps is)

    -- one more leads further
    pub lead_on : (shares last back : List (Share X Y t u)) (count more : ℕ) → Lead Is Met shares last count → (NoneCanStep last → ⊥) → Is last back
        → more ≡ u64_saturate (count + 1) → Lead Is Met shares back more
    lead_on shares last back count more lead steps is counted = record {
      first = lead.first;
      met = lead.met;
      backs = lead.backs ++ back ∷ [];
      follow = follow_on lead.first last back lead.backs lead.follow lead.gives steps is;
      gives = gives_on lead.first back lead.backs;
      count_is = omega (arith, counted, lead.count_is, length-append lead.backs (back ∷ []));
    }

    -- where the edges have met, none led
    pub none_lead : (shares met : List (Share X Y t u)) → Met shares met → Lead Is Met shares met 0
    none_lead shares met since = record { first = met; met = since; backs = []; follow = tt; gives = refl; count_is = omega arith }

  -- as many moved a message each where nothing moved since, where one more did, and where none was made
  module _ (moved : List (Share X Y t u) → ℕ) (shares last after : List (Share X Y t u)) where
    pub moved_since : (count : ℕ) → moved after ≡ moved last → MovedAtEach moved shares last count → MovedAtEach moved shares after count
    moved_since count same was = record { least = λ some. was.least (omega (arith, some, same)); most = omega (arith, same, was.most) }

    pub moved_on : (count more : ℕ) → moved last < moved after → more ≡ u64_saturate (count + 1) → MovedAtEach moved shares last count → MovedAtEach moved shares after more
    moved_on count more some counted was = record { least = λ any. omega (arith, counted); most = omega (arith, some, was.most, counted) }

  pub none_moved_yet : (moved : List (Share X Y t u) → ℕ) (shares met : List (Share X Y t u)) → moved met ≡ moved shares → MovedAtEach moved shares met 0
  none_moved_yet moved shares met same = record { least = λ some. absurd (omega (arith, some, same)); most = omega (arith, same) }

-- where they are found not to be stuck, a node can step
pub some_steps : {X Y : Type 0} {t : Ghosts X} {u : EndsGhosts Y} (back now : List (Share X Y t u)) (stuck : Bool) → back ≡ now → (IsTrue stuck ↔ NoneCanStep now) → stuck ≡ false
    → NoneCanStep back → ⊥
some_steps back now stuck is found not none = let no = sym (found.1 (subst (λ l. NoneCanStep l) is none)) ∙ not in cc
