-- The places of nodes in their shares, noted one share after another, and one node after another.
use Rattle.std.proofs.Common.{◌≡◌, ℕ, ◌+◌, ◌<◌, ◌≤◌, ◌⊎◌, inl, inr, List, length, get_or, set, sym, ◌∙◌, ap, subst, arith, length-set, get_or-set_same, get_or-set_other}
use Rattle.std.proofs.lemmas.Bool.{cases_eq}
use Rattle.flow_messages.specs.declared.ends.Ends.{Ghosts as EndsGhosts}
use Rattle.flow_base.specs.declared.transducer.Transducer.{Ghosts}
use Rattle.flow_networks.specs.declared.edge.Edge.{Edge}
use Rattle.flow_networks.specs.declared.placed.Placed.{Placed}
use Rattle.flow_networks.specs.Skeletons.{FitTogether}
use Rattle.flow_shares.specs.Deals.{share_of, AreDealt}
use Rattle.flow_shares.specs.declared.share.Share.{Share}
use Rattle.flow_shares.specs.meetings.Joints.{nodes_at}
use Rattle.flow_shares.proofs.OfMeetings.Seats.{number_is}
use Rattle.flow_shares.specs.meetings.Deals.{nodes_in}
use Rattle.flow_shares.specs.meetings.SharedNetworks.{SharedNetwork}
use Rattle.flow_drives.proofs.OfLoops.ShareLists.{count_dealt, nodes_are}
use Rattle.flow_drives.specs.Apart.{AreItsPlaces}

-- the nodes of a share that was found
pub nodes_found : {X Y : Type 0} {t : Ghosts X} {u : EndsGhosts Y} (shares : List (Share X Y t u)) (s : ℕ) (share : Share X Y t u)
    (nodes : List (Placed X t)) → s < length shares → share ≡ get_or shares s share → nodes ≡ share.nodes.items
    → nodes ≡ nodes_at (nodes_in shares) s
nodes_found {X} {Y} {t} {u} shares s share nodes l found are = are ∙ ap (λ (one : Share X Y t u). one.nodes.items) found ∙ sym (nodes_are shares s share l)

module _ {X : Type 0} {t : Ghosts X} (share : List ℕ) (nodes : List (Placed X t)) (dealt : List (List (Placed X t))) (deals : AreDealt share nodes dealt) where
  -- The places of all nodes in the shares before s are noted, and in share s those of the first i.
  pub record AreNoted (s i : ℕ) (places : List ℕ) : Type 0 where
    pub count : length places ≡ length nodes
    pub before : (k : ℕ) → k < length nodes → share_of share k < s → get_or places k 0 ≡ deals.place k
    pub here : (k : ℕ) → k < length nodes → share_of share k ≡ s → deals.place k < i → get_or places k 0 ≡ deals.place k

  pub noted_none : (places : List ℕ) → length places ≡ length nodes → AreNoted 0 0 places
  noted_none places count = record { count = count; before = λ k l low. absurd (omega (arith, low)); here = λ k l is low. absurd (omega (arith, low)) }

  -- all nodes of a share were noted
  pub noted_share : (s : ℕ) (places : List ℕ) → AreNoted s (length (nodes_at dealt s)) places → AreNoted (s + 1) 0 places
  noted_share s places noted = record { count = noted.count; before = λ k l low. at k l low (cases_eq (share_of share k) s); here = λ k l is low. absurd (omega (arith, low)) }
    where
      at : (k : ℕ) → k < length nodes → share_of share k < s + 1 → ((share_of share k ≡ s) ⊎ (share_of share k ≡ s → ⊥)) → get_or places k 0 ≡ deals.place k
      at k l low (inl is) = noted.here k l is (subst (λ r. deals.place k < length (nodes_at dealt r)) is (deals.inside k l).1)
      at k l low (inr other) = noted.before k l (omega (arith, low, other))

  -- one node more of share s was noted
  module _ (edges : List Edge) (fit : FitTogether nodes edges) (s i : ℕ) (l : s < length dealt) (inside : i < length (nodes_at dealt s)) (x : Placed X t) (is : x ≡ get_or (nodes_at dealt s) i x) where
    there : (x.number < length nodes) × (share_of share x.number ≡ s) × (deals.place x.number ≡ i)
    there = subst (λ (y : Placed X t). (y.number < length nodes) × (share_of share y.number ≡ s) × (deals.place y.number ≡ i)) (sym is) (deals.back s i x l inside)

    pub number_below : x.number < length nodes
    number_below = there.0

    -- a node at this place is that one
    same_number : (k : ℕ) → k < length nodes → share_of share k ≡ s → deals.place k ≡ i → k ≡ x.number
    same_number k low same place =
        sym (number_is edges nodes fit k x low) ∙ sym (deals.here k x low).number
        ∙ ap (λ r. (get_or (nodes_at dealt r) (deals.place k) x).number) same
        ∙ ap (λ j. (get_or (nodes_at dealt s) j x).number) place
        ∙ ap (λ (y : Placed X t). y.number) (sym is)

    pub noted_next : (places : List ℕ) → AreNoted s i places → AreNoted s (i + 1) (set places x.number i)
    noted_next places noted = record {
      count = length-set places x.number i ∙ noted.count;
      before = λ k low less.
          get_or-set_other places x.number k i 0 (λ same. absurd (omega (arith, less, ap (share_of share) same, there.1)))
          ∙ noted.before k low less;
      here = λ k low same less. at k low same less (cases_eq (deals.place k) i);
    }
      where
        at : (k : ℕ) → k < length nodes → share_of share k ≡ s → deals.place k < i + 1 → ((deals.place k ≡ i) ⊎ (deals.place k ≡ i → ⊥)) → get_or (set places x.number i) k 0 ≡ deals.place k
        at k low same less (inl place) =
            let k_is = same_number k low same place in
            ap (λ j. get_or (set places x.number i) j 0) k_is ∙ get_or-set_same places x.number i 0 (omega (arith, there.0, noted.count)) ∙ sym place
        at k low same less (inr other) =
            get_or-set_other places x.number k i 0 (λ is_x. other (ap deals.place is_x ∙ there.2))
            ∙ noted.here k low same (omega (arith, less, other))

  -- all shares were noted
  pub noted_all : (places : List ℕ) → AreNoted (length dealt) 0 places → AreItsPlaces share nodes dealt deals places
  noted_all places noted = record { count = noted.count; each = λ k l. noted.before k l (deals.inside k l).0 }

both : (a b : ℕ) → a ≤ b → b ≤ a → a ≡ b
both a b less more = omega arith

module _ {X Y : Type 0} {t : Ghosts X} {u : EndsGhosts Y} (network : SharedNetwork t) (shares : List (Share X Y t u)) (deals : AreDealt network.share network.nodes (nodes_in shares)) where
  abbrev NotedTo : ℕ → ℕ → List ℕ → Type 0
  NotedTo = AreNoted network.share network.nodes (nodes_in shares) deals

  -- share s, with these nodes
  module _ (s : ℕ) (l : s < length shares) (own : Share X Y t u) (found : own ≡ get_or shares s own) (nodes : List (Placed X t)) (of : nodes ≡ own.nodes.items) where
    are : nodes ≡ nodes_at (nodes_in shares) s
    are = nodes_found shares s own nodes l found of

    low : s < length (nodes_in shares)
    low = subst (λ n. s < n) (sym (count_dealt shares)) l

    -- one of its nodes was found, with this number
    module _ (i : ℕ) (below : i < length nodes) (x : Placed X t) (is : x ≡ get_or nodes i x) (number : ℕ) (named : number ≡ x.number) where
      inside : i < length (nodes_at (nodes_in shares) s)
      inside = subst (λ (ns : List (Placed X t)). i < length ns) are below

      it : x ≡ get_or (nodes_at (nodes_in shares) s) i x
      it = is ∙ ap (λ ns. get_or ns i x) are

      pub note_below : number < length network.nodes
      note_below = subst (λ n. n < length network.nodes) (sym named) (number_below network.share network.nodes (nodes_in shares) deals network.edges network.fit s i low inside x it)

      pub note_next : (places : List ℕ) → NotedTo s i places → NotedTo s (i + 1) (set places number i)
      note_next places noted =
          subst (λ n. NotedTo s (i + 1) (set places n i)) (sym named)
          (noted_next network.share network.nodes (nodes_in shares) deals network.edges network.fit s i low inside x it places noted)

    pub note_share : (i : ℕ) → i ≤ length nodes → length nodes ≤ i → (places : List ℕ) → NotedTo s i places → NotedTo (s + 1) 0 places
    note_share i most least places noted =
        noted_share network.share network.nodes (nodes_in shares) deals s places
        (subst (λ n. NotedTo s n places) (both i (length nodes) most least ∙ ap (λ (ns : List (Placed X t)). length ns) are) noted)

  pub note_all : (s : ℕ) → s ≤ length shares → length shares ≤ s → (places : List ℕ) → NotedTo s 0 places → AreItsPlaces network.share network.nodes (nodes_in shares) deals places
  note_all s most least places noted =
      noted_all network.share network.nodes (nodes_in shares) deals places
      (subst (λ n. NotedTo n 0 places) (both s (length shares) most least ∙ sym (count_dealt shares)) noted)
