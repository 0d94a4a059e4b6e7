-- Lists of shares, and of what each share has.
use Rattle.std.proofs.Common.{◌≡◌, ℕ, zero, suc, ◌<◌, ◌≤◌, ◌⊎◌, inl, inr, List, [], length, map, get_or, sym, ◌∙◌, ap, subst, arith}
use Rattle.std.proofs.lemmas.Bool.{cases_eq}
use Rattle.std.proofs.lemmas.List.{get_or-map, length-map, same_lists}
use Rattle.std.specs.Prelude.{Result, Ok, Err, IfOk}
use Rattle.kahn.specs.Basics.{total}
use Rattle.kahn.proofs.Search.{total_less}
use Rattle.flow_messages.specs.declared.ends.Ends.{Ghosts as EndsGhosts}
use Rattle.flow_base.specs.declared.transducer.Transducer.{Ghosts}
use Rattle.flow_edges.specs.lanes.Rings.{Kept}
use Rattle.flow_shares.specs.declared.share.Share.{Share}
use Rattle.flow_shares.specs.Lending.{ShareNodes, share_nodes}
use Rattle.flow_shares.specs.Shares.{AreStuck}
use Rattle.flow_shares.specs.meetings.Joints.{no_ends, nodes_at}
use Rattle.flow_shares.specs.meetings.EndTheorems.{AllAreStuck}
use Rattle.flow_shares.proofs.OfMeetings.Parts.{any_of}
use Rattle.flow_shares.specs.meetings.Deals.{nodes_in, ends_in}
use Rattle.flow_shares.specs.meetings.SharedNetworks.{view_at, AreFed, NoneCanStep, AreLookedAt}
use Rattle.flow_shares.proofs.OfMeetings.Lists.{mapped_twice}

-- parts that are no less, and not more in all, are the same
pub parts_same : (f g : ℕ → ℕ) (n : ℕ) → ((e : ℕ) → e < n → f e ≤ g e) → total g n ≤ total f n → (e : ℕ) → e < n → g e ≤ f e
parts_same f g zero each most e l = absurd (omega (arith, l))
parts_same f g (suc n) each most e l = at (cases_eq e n) (λ before. parts_same f g n (λ i low. each i (omega (arith, low))) (omega (arith, each n (omega arith), most)) e (omega (arith, l, before)))
  where
    less : total f n ≤ total g n
    less = total_less f g n (λ i low. each i (omega (arith, low)))

    at : ((e ≡ n) ⊎ (e ≡ n → ⊥)) → ((e ≡ n → ⊥) → g e ≤ f e) → g e ≤ f e
    at (inl last) rest = subst (λ i. g i ≤ f i) (sym last) (omega (arith, less, most))
    at (inr before) rest = rest before

-- what two facts of a result say together
pub two_of_ok : {A E : Type 0} (r : Result A E) {P Q Z : A → Type 0} → IfOk r P → IfOk r Q → ((a : A) → P a → Q a → Z a) → IfOk r Z
two_of_ok (Ok a) p q all = all a p q
two_of_ok (Err e) p q all = tt

module _ {X Y : Type 0} {t : Ghosts X} {u : EndsGhosts Y} (shares : List (Share X Y t u)) where
  pub count_dealt : length (nodes_in shares) ≡ length shares
  count_dealt = length-map shares (λ (share : Share X Y t u). share.nodes.items)

  pub count_ends : length (ends_in shares) ≡ length shares
  count_ends = length-map shares (λ (share : Share X Y t u). share.ends)

  module _ (s : ℕ) (d : Share X Y t u) (l : s < length shares) where
    pub nodes_are : nodes_at (nodes_in shares) s ≡ (get_or shares s d).nodes.items
    nodes_are = get_or-map (λ (share : Share X Y t u). share.nodes.items) shares s d [] l

    pub view_is : view_at shares s ≡ u.view (get_or shares s d).ends
    view_is = get_or-map (λ (share : Share X Y t u). u.view share.ends) shares s d no_ends l

    pub ends_are : (b : Y) → get_or (ends_in shares) s b ≡ (get_or shares s d).ends
    ends_are b = get_or-map (λ (share : Share X Y t u). share.ends) shares s d b l

  -- where no node can step by the ends of its share, none can by what the shares see
  pub all_are_stuck : NoneCanStep shares → AllAreStuck (nodes_in shares) (view_at shares)
  all_are_stuck none s h =
      let l : s < length shares = omega (arith, h, count_dealt) in
      let d = any_of shares s l in
      subst (λ n. AreStuck (view_at shares s) n) (sym (nodes_are s d l)) (subst (λ v. AreStuck v (get_or shares s d).nodes.items) (sym (view_is s d l)) (none s d l))

  -- what share s sees is what is seen of its ends
  pub view_of_ends : (s : ℕ) (b : Y) → s < length shares → view_at shares s ≡ u.view (get_or (ends_in shares) s b)
  view_of_ends s b l =
      ap (λ vs. get_or vs s no_ends) (sym (mapped_twice u.view (λ (share : Share X Y t u). share.ends) shares))
      ∙ get_or-map u.view (ends_in shares) s b no_ends (omega (arith, l, count_ends))

  -- shares with the same bodies have the same nodes, and as many starved and moved
  module _ (others : List (Share X Y t u)) (bodies : map share_nodes others ≡ map share_nodes shares) where
    pub same_count : length others ≡ length shares
    same_count = sym (length-map others (λ (share : Share X Y t u). share_nodes share)) ∙ ap length bodies ∙ length-map shares (λ (share : Share X Y t u). share_nodes share)

    pub same_of_bodies : {C : Type 0} (f : ShareNodes t → C) → map (λ share. f (share_nodes share)) others ≡ map (λ share. f (share_nodes share)) shares
    same_of_bodies f =
        sym (mapped_twice f (λ (share : Share X Y t u). share_nodes share) others) ∙ ap (map f) bodies ∙ mapped_twice f (λ (share : Share X Y t u). share_nodes share) shares

    pub same_nodes : nodes_in others ≡ nodes_in shares
    same_nodes = same_of_bodies (λ (b : ShareNodes t). b.nodes)

    pub same_body : (s : ℕ) (d : Share X Y t u) → s < length shares → share_nodes (get_or others s d) ≡ share_nodes (get_or shares s d)
    same_body s d l =
        sym (get_or-map (λ (share : Share X Y t u). share_nodes share) others s d (share_nodes d) (omega (arith, l, same_count)))
        ∙ ap (λ bs. get_or bs s (share_nodes d)) bodies
        ∙ get_or-map (λ (share : Share X Y t u). share_nodes share) shares s d (share_nodes d) l

    -- memory was refused to none of them where it was to none of those
    pub fed_stay : AreFed shares → AreFed others
    fed_stay fed s d l =
        let h : s < length shares = omega (arith, l, same_count) in
        ap (λ (b : ShareNodes t). b.starved) (same_body s d h) ∙ fed s d h

-- shares that were looked at have the bodies that they had, and see no less than they saw
module _ {X Y : Type 0} {t : Ghosts X} {u : EndsGhosts Y} (shares after : List (Share X Y t u)) (looked : AreLookedAt shares after) where
  pub still_there : (s : ℕ) → s < length shares → s < length after
  still_there s l = omega (arith, l, looked.count)

  pub looked_bodies : map share_nodes after ≡ map share_nodes shares
  looked_bodies = same_lists (map share_nodes after) (map share_nodes shares) even each
    where
      even : length (map share_nodes after) ≡ length (map share_nodes shares)
      even = length-map after (λ (share : Share X Y t u). share_nodes share) ∙ looked.count ∙ sym (length-map shares (λ (share : Share X Y t u). share_nodes share))

      each : (k : ℕ) (b : ShareNodes t) → k < length (map share_nodes after) → get_or (map share_nodes after) k b ≡ get_or (map share_nodes shares) k b
      each k b l =
          let h : k < length shares = omega (arith, l, even, length-map shares (λ (share : Share X Y t u). share_nodes share)) in
          let d = any_of shares k h in
          get_or-map (λ (share : Share X Y t u). share_nodes share) after k d b (still_there k h)
          ∙ (looked.each k d h).body
          ∙ sym (get_or-map (λ (share : Share X Y t u). share_nodes share) shares k d b h)

  pub looked_kept : (s : ℕ) → s < length shares → Kept (view_at shares s) (view_at after s)
  looked_kept s l =
      let d = any_of shares s l in
      let around = (looked.each s d l).looked in
      subst (λ a. Kept a (view_at after s)) (sym (view_is shares s d l))
      (subst (λ b. Kept (u.view (get_or shares s d).ends) b) (sym (view_is after s d (still_there s l)))
      (record { ends = around.ends; traffic = around.traffic; coming = around.coming; room = around.room }))
