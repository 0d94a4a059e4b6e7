-- The last of the nodes that are left is gathered, and all of them are.
use Rattle.std.proofs.Common.{◌≡◌, ℕ, ◌+◌, ◌-◌, ◌<◌, ◌≤◌, List, [], ◌∷◌, ◌++◌, length, get_or, set, take, drop, reverse, ◌⊎◌, inl, inr, sym, ◌∙◌, ap}
use Rattle.std.proofs.Common.{subst, arith, get_or-set_same, get_or-set_other, get_or-take}
use Rattle.std.proofs.lemmas.Bool.{cases_eq, cases_lt}
use Rattle.std.specs.declared.vec.Vec.{Vec}
use Rattle.std.proofs.lemmas.List.{length-set, length-map, length-take-le, map-set, get_or-map, take_all, drop_all, drop_more, reverse-append, same_lists}
use Rattle.flow_base.specs.declared.transducer.Transducer.{Ghosts}
use Rattle.flow_networks.specs.declared.placed.Placed.{Placed}
use Rattle.flow_networks.specs.Places.{IsSamePlace}
use Rattle.flow_shares.specs.Deals.{share_of, lists_in, node_at, AreJustDealt, AreSomeDealt, AreSameAsDealt, AreJustAsDealt}
use Rattle.flow_shares.proofs.Places.{found, length-found, found_are, gathered, equally_many}

module _ {X : Type 0} {t : Ghosts X} (share : List ℕ) (nodes : List (Placed X t)) (left : List (List (Placed X t))) (k : ℕ)
    (in_list : k < length nodes) (are : AreJustDealt share (take (k + 1) nodes) left) where
  -- its share, before and then
  abbrev s : ℕ
  s = share_of share k

  abbrev old : List (Placed X t)
  old = get_or left s []

  abbrev end : ℕ
  end = length old - 1

  abbrev then : List (List (Placed X t))
  then = set left s (take end old)

  few : length (take (k + 1) nodes) ≡ k + 1
  few = length-take-le (k + 1) nodes (omega (arith, in_list))

  fewer : length (take k nodes) ≡ k
  fewer = length-take-le k nodes (omega (arith, in_list))

  pub inside : (j : ℕ) → j ≤ k → (share_of share j < length left) × (are.place j < length (get_or left (share_of share j) []))
  inside j l = are.inside j (omega (arith, l, few))

  pub some : 0 < length old
  some = omega (arith, (inside k (omega arith)).1)

  -- it is the last of its share
  at_end : (d : Placed X t) → are.place k ≡ end
  at_end d = go (cases_lt (node_at left s end d).number k) (are.back s end d (inside k (omega arith)).0 (omega (arith, some)))
    where
      go : {j : ℕ} → (j < k) ⊎ (k ≤ j) → (j < length (take (k + 1) nodes)) × (share_of share j ≡ s) × (are.place j ≡ end) → are.place k ≡ end
      go {j} (inl less) b = absurd (omega (arith, are.order j k less (omega (arith, few)) b.1, b.2, (inside k (omega arith)).1))
      go {j} (inr more) b = let same : k ≡ j = omega (arith, more, b.0, few) in ap are.place same ∙ b.2

  pub last_is : (d : Placed X t) → get_or old end d ≡ get_or nodes k d
  last_is d =
      ap (λ i. node_at left s i d) (sym (at_end d))
      ∙ sym (are.here k d (omega (arith, few)))
      ∙ get_or-take (k + 1) nodes k d (omega arith)

  at_share : get_or then s [] ≡ take end old
  at_share = get_or-set_same left s (take end old) [] (inside k (omega arith)).0

  long : length (get_or then s []) ≡ end
  long = ap length at_share ∙ length-take-le end old (omega arith)

  -- what lies there then
  kept : (r i : ℕ) (d : Placed X t) → i < length (get_or then r []) → (i < length (get_or left r [])) × (node_at then r i d ≡ node_at left r i d) × (r ≡ s → i < end)
  kept r i d l = go (cases_eq r s)
    where
      go : (r ≡ s) ⊎ (r ≡ s → ⊥) → (i < length (get_or left r [])) × (node_at then r i d ≡ node_at left r i d) × (r ≡ s → i < end)
      go (inl e) =
          let less : i < end = omega (arith, l, ap (λ q. length (get_or then q [])) e, long) in (
            omega (arith, less, ap (λ q. length (get_or left q [])) e),
            subst (λ q. node_at then q i d ≡ node_at left q i d) (sym e) (ap (λ (ns : List (Placed X t)). get_or ns i d) at_share ∙ get_or-take end old i d less),
            λ _. less,
          )
      go (inr other) =
          let same : get_or then r [] ≡ get_or left r [] = get_or-set_other left s r (take end old) [] other in
          (omega (arith, l, ap length same), ap (λ (ns : List (Placed X t)). get_or ns i d) same, λ e. absurd (other e))

  less_inside : (d : Placed X t) (j : ℕ) → j < k → (share_of share j < length then) × (are.place j < length (get_or then (share_of share j) []))
  less_inside d j l = (omega (arith, (inside j (omega (arith, l))).0, length-set left s (take end old)), go (cases_eq (share_of share j) s))
    where
      go : (share_of share j ≡ s) ⊎ (share_of share j ≡ s → ⊥) → are.place j < length (get_or then (share_of share j) [])
      go (inl e) = omega (arith, are.order j k l (omega (arith, few)) e, at_end d, ap (λ q. length (get_or then q [])) e, long)
      go (inr other) = omega (arith, (inside j (omega (arith, l))).1, ap length (get_or-set_other left s (share_of share j) (take end old) [] other))

  less_here : (j : ℕ) (d : Placed X t) → j < k → get_or (take k nodes) j d ≡ node_at then (share_of share j) (are.place j) d
  less_here j d l =
      get_or-take k nodes j d l
      ∙ sym (get_or-take (k + 1) nodes j d (omega (arith, l)))
      ∙ are.here j d (omega (arith, l, few))
      ∙ sym (kept (share_of share j) (are.place j) d (less_inside d j l).1).1

  less_back : (r i : ℕ) (d : Placed X t) → r < length then → i < length (get_or then r []) → let j = (node_at then r i d).number in
      (j < length (take k nodes)) × (share_of share j ≡ r) × (are.place j ≡ i)
  less_back r i d lr li =
      let h = kept r i d li in
      let j : ℕ = (node_at left r i d).number in
      let b = are.back r i d (omega (arith, lr, length-set left s (take end old))) h.0 in
      subst (λ (e : Placed X t). (e.number < length (take k nodes)) × (share_of share e.number ≡ r) × (are.place e.number ≡ i)) (sym h.1)
      (go h.2 b.1 b.2 (cases_eq j k) b.0, b.1, b.2)
    where
      go : {j : ℕ} → (r ≡ s → i < end) → share_of share j ≡ r → are.place j ≡ i → (j ≡ k) ⊎ (j ≡ k → ⊥) → j < length (take (k + 1) nodes) → j < length (take k nodes)
      go {j} least shares places (inl e) l = absurd (omega (arith, least (sym shares ∙ ap (share_of share) e), places, ap are.place e, at_end d))
      go {j} least shares places (inr other) l = omega (arith, other, l, few, fewer)

  pub one_less : (d : Placed X t) → AreJustDealt share (take k nodes) then
  one_less d = record {
    place = are.place;
    inside = λ j l. less_inside d j (omega (arith, l, fewer));
    order = λ i j less l. are.order i j less (omega (arith, l, few, fewer));
    here = λ j e l. less_here j e (omega (arith, l, fewer));
    back = less_back;
  }

-- So many nodes were gathered, from the last to node k: those before it are left.
pub record IsGathering {X : Type 0} {t : Ghosts X} (share : List ℕ) (count : ℕ) (dealt : List (List (Placed X t))) (k : ℕ) (left : List (List (Placed X t))) (taken : List (Placed X t)) : Type 0 where
  pub nodes : List (Placed X t)
  pub so_many : length nodes ≡ count
  pub just : AreJustDealt share nodes dealt
  pub rest : AreJustDealt share (take k nodes) left
  pub back : reverse taken ≡ drop k nodes

module _ {X : Type 0} {t : Ghosts X} {share : List ℕ} {count : ℕ} {dealt : List (List (Placed X t))} where
  -- no node was gathered yet
  pub starts : AreSomeDealt share count dealt → IsGathering share count dealt count dealt []
  starts some =
      let nodes = found IsSamePlace share some.nodes dealt some.so_dealt in
      let just = found_are IsSamePlace share some.nodes dealt some.so_dealt in
      let so_many : length nodes ≡ count = length-found IsSamePlace share some.nodes dealt some.so_dealt ∙ some.so_many in
      record {
        nodes = nodes;
        so_many = so_many;
        just = just;
        rest = subst (λ ns. AreJustDealt share ns dealt) (sym (take_all count nodes (omega (arith, so_many)))) just;
        back = sym (drop_all count nodes (omega (arith, so_many)));
      }

  module _ {k : ℕ} {left : List (List (Placed X t))} {taken : List (Placed X t)} (is : IsGathering share count dealt k left taken) where
    module _ (more : 0 < k) (most : k ≤ count) where
      abbrev last : ℕ
      last = k - 1

      in_list : last < length is.nodes
      in_list = omega (arith, is.so_many, more, most)

      rest : AreJustDealt share (take (last + 1) is.nodes) left
      rest = let same : k ≡ last + 1 = omega (arith, more) in subst (λ n. AreJustDealt share (take n is.nodes) left) same is.rest

      -- its share is there, and is not empty
      pub share_there : share_of share last < length left
      share_there = (inside share is.nodes left last in_list rest last (omega arith)).0

      pub share_some : 0 < length (get_or left (share_of share last) [])
      share_some = some share is.nodes left last in_list rest

      -- one turn of the loop that gathers nodes
      gathers : (node : Placed X t) → let old = get_or left (share_of share last) [] in node ≡ get_or old (length old - 1) node →
          IsGathering share count dealt last (set left (share_of share last) (take (length old - 1) old)) (taken ++ node ∷ [])
      gathers node is_last =
          let same : node ≡ get_or is.nodes last node = is_last ∙ last_is share is.nodes left last in_list rest node in
          let next : last + 1 ≡ k = omega (arith, more) in
          record {
            nodes = is.nodes;
            so_many = is.so_many;
            just = is.just;
            rest = one_less share is.nodes left last in_list rest node;
            back =
                reverse-append taken (node ∷ [])
                ∙ ap (λ ns. node ∷ ns) is.back
                ∙ ap (λ e. e ∷ drop k is.nodes) same
                ∙ ap (λ n. get_or is.nodes last node ∷ drop n is.nodes) (sym next)
                ∙ sym (drop_more is.nodes last node in_list);
          }

    -- all are gathered
    pub all_gathered : (result : List (Placed X t)) → k ≡ 0 → result ≡ reverse taken → (length result ≡ count) × AreJustDealt share result dealt
    all_gathered result none is_back =
        let same : result ≡ is.nodes = is_back ∙ is.back ∙ ap (λ n. drop n is.nodes) none in
        (ap length same ∙ is.so_many, subst (λ ns. AreJustDealt share ns dealt) (sym same) is.just)

  module _ {Z : Type 0} {k : ℕ} (lists : List (Vec (Placed X t) Z)) {taken : List (Placed X t)}
      (is : IsGathering share count dealt k (lists_in lists) taken) (more : 0 < k) (most : k ≤ count) {r : ℕ} (r_is : r ≡ share_of share (k - 1)) where
    pub list_there : r < length lists
    list_there = omega (arith, share_there is more most, r_is, length-map lists (λ (v : Vec (Placed X t) Z). v.items))

    module _ {list : Vec (Placed X t) Z} (list_is : list ≡ get_or lists r list) where
      items_are : list.items ≡ get_or (lists_in lists) (share_of share (k - 1)) []
      items_are =
          ap (λ (v : Vec (Placed X t) Z). v.items) list_is
          ∙ sym (get_or-map (λ (v : Vec (Placed X t) Z). v.items) lists r list [] list_there)
          ∙ ap (λ q. get_or (lists_in lists) q []) r_is

      pub list_some : 0 < list.len
      list_some = omega (arith, share_some is more most, ap length items_are, list.ok.0)

      pub one_gathered : (new : Vec (Placed X t) Z) (node : Placed X t) (gained : List (Placed X t)) → node ≡ get_or list.items (list.len - 1) node →
          new.items ≡ take (list.len - 1) list.items → gained ≡ taken ++ node ∷ [] →
          IsGathering share count dealt (k - 1) (lists_in (set lists r new)) gained
      one_gathered new node gained is_last new_is gained_is =
          let lists_are : lists_in (set lists r new) ≡ set (lists_in lists) (share_of share (k - 1)) (take (length list.items - 1) list.items) =
          map-set (λ (v : Vec (Placed X t) Z). v.items) lists r new
          ∙ ap (set (lists_in lists) r) (new_is ∙ ap (λ n. take (n - 1) list.items) list.ok.0)
          ∙ ap (λ q. set (lists_in lists) q (take (length list.items - 1) list.items)) r_is in
          let old_is : node ≡ get_or list.items (length list.items - 1) node = is_last ∙ ap (λ n. get_or list.items (n - 1) node) list.ok.0 in
          subst (IsGathering share count dealt (k - 1) (lists_in (set lists r new))) (sym gained_is)
          (subst (λ ls. IsGathering share count dealt (k - 1) ls (taken ++ node ∷ []))
          (sym (lists_are ∙ ap (λ (ns : List (Placed X t)). set (lists_in lists) (share_of share (k - 1)) (take (length ns - 1) ns)) items_are))
          (gathers is more most node (old_is ∙ ap (λ (ns : List (Placed X t)). get_or ns (length ns - 1) node) items_are)))

-- what was gathered is what was dealt out, perhaps later
module _ {X : Type 0} {t : Ghosts X} {share : List ℕ} {dealt : List (List (Placed X t))} {result : List (Placed X t)} (just : AreJustDealt share result dealt) where
  pub same_as_dealt : AreSameAsDealt share dealt result
  same_as_dealt nodes are = record {
    count = equally_many share dealt IsSamePlace ◌≡◌ nodes result are just;
    each = gathered IsSamePlace share nodes dealt are result just;
  }

  pub just_as_dealt : AreJustAsDealt share dealt result
  just_as_dealt nodes are = sym (same_lists nodes result (sym (equally_many share dealt ◌≡◌ ◌≡◌ nodes result are just)) (λ k d l. gathered ◌≡◌ share nodes dealt are result just k d l))
