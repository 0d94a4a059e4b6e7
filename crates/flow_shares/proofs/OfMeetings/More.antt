-- One edge more is opened.
use Rattle.std.proofs.Common.{◌≡◌, ◌≢◌, ◌==◌, ℕ, zero, suc, ◌+◌, ◌<◌, Bool, true, false, cond, List, [], ◌∷◌, ◌++◌, length, get_or, refl, sym, ap, ◌∙◌, subst, arith}
use Rattle.std.specs.List.{All}
use Rattle.std.proofs.lemmas.Bool.{eq-eqb}
use Rattle.std.proofs.lemmas.List.{get_or-map, get_or_push, get_or_append_left, length_push}
use Rattle.flow_messages.specs.Signals.{Signal}
use Rattle.flow_messages.specs.declared.message.Kind.{Kind}
use Rattle.flow_messages.specs.Kinds.{TakesKind}
use Rattle.flow_messages.specs.Ends.{View}
use Rattle.flow_messages.specs.Tables.{at_line}
use Rattle.flow_boxes.proofs.Changed.{everywhere}
use Rattle.flow_shares.specs.declared.meetings.owners.EdgeOwners.{EdgeOwners}
use Rattle.flow_shares.specs.meetings.Met.{Met}
use Rattle.flow_shares.specs.meetings.Opens.{OpensAt}
use Rattle.flow_networks.specs.EdgeKinds.{kind_at}
use Rattle.flow_shares.specs.meetings.Open.{HasFreshEnds, AreFreshEnds}

-- one owner more, as f reads it
more_other : (f : EdgeOwners → Bool) (owners : List EdgeOwners) (owner : EdgeOwners) (k : ℕ) → k ≢ length owners → at_line f (owners ++ owner ∷ []) k false ≡ at_line f owners k false
more_other f [] owner zero ne = absurd (ne refl)
more_other f [] owner (suc k) ne = refl
more_other f (w ∷ owners) owner zero ne = refl
more_other f (w ∷ owners) owner (suc k) ne = more_other f owners owner k (λ h. ne (ap suc h))

more_here : (f : EdgeOwners → Bool) (owners : List EdgeOwners) (owner : EdgeOwners) → at_line f (owners ++ owner ∷ []) (length owners) false ≡ f owner
more_here f [] owner = refl
more_here f (w ∷ owners) owner = more_here f owners owner

none_here : (f : EdgeOwners → Bool) (owners : List EdgeOwners) → at_line f owners (length owners) false ≡ false
none_here f [] = refl
none_here f (w ∷ owners) = none_here f owners

or_none : (x : Bool) → cond x true false ≡ x
or_none true = refl
or_none false = refl

-- an end is there where it is named
named : (f : EdgeOwners → ℕ) (owners : List EdgeOwners) (s e : ℕ) (w : EdgeOwners) (there : ℕ → Bool) →
    ((k : ℕ) → there k ≡ at_line (λ owner. f owner == s) owners k false) → e < length owners → f (get_or owners e w) ≡ s → there e ≡ true
named f owners s e w there is inside at = is e ∙ get_or-map (λ owner. f owner == s) owners e w false inside ∙ eq-eqb (f (get_or owners e w)) s at

module _ (owners : List EdgeOwners) (kinds : List Kind) (capacity s e : ℕ) (w : EdgeOwners) (v : View) (fresh : HasFreshEnds owners kinds capacity s v) (inside : e < length owners) where
  pub writes_there : (get_or owners e w).writer ≡ s → v.writes e ≡ true
  writes_there = named (λ (owner : EdgeOwners). owner.writer) owners s e w v.writes fresh.writes inside

  pub reads_there : (get_or owners e w).reader ≡ s → v.reads e ≡ true
  reads_there = named (λ (owner : EdgeOwners). owner.reader) owners s e w v.reads fresh.reads inside

-- the two ends of an edge, both fresh
fresh_met : (a b : View) (capacity e : ℕ) → a.sent e ≡ [] → a.room e ≡ capacity → b.received e ≡ [] → b.coming e ≡ [] → Met a b capacity e
fresh_met a b capacity e sent room received coming = record {
  begins = (a.sent e, ap (λ (x : List Signal). x ++ a.sent e) received);
  arrives = ([], ap (λ (x : List Signal). x ++ []) sent ∙ sym coming ∙ ap (λ (x : List Signal). x ++ b.coming e) (sym received));
  room = omega (arith, room, ap length received);
  fits = omega (arith, ap length sent);
}

-- The edge n is opened, of which the writer's end comes where x.
module _ (n : ℕ) (x : Bool) (wa wb : ℕ → Bool) (elsewhere : (k : ℕ) → k ≢ n → wb k ≡ wa k) where
  now_there : (f : EdgeOwners → Bool) (owners : List EdgeOwners) (owner : EdgeOwners) → length owners ≡ n → f owner ≡ x → wb n ≡ cond x true (wa n) →
      ((k : ℕ) → wa k ≡ at_line f owners k false) → (k : ℕ) → wb k ≡ at_line f (owners ++ owner ∷ []) k false
  now_there f owners owner count is here was =
      everywhere (λ k. wb k ≡ at_line f (owners ++ owner ∷ []) k false) n
      (here ∙ ap (cond x true) (was n ∙ ap (λ m. at_line f owners m false) (sym count) ∙ none_here f owners) ∙ or_none x ∙ sym is
      ∙ sym (more_here f owners owner) ∙ ap (λ m. at_line f (owners ++ owner ∷ []) m false) count)
      (λ k ne. elsewhere k ne ∙ was k ∙ sym (more_other f owners owner k (λ h. ne (h ∙ count))))

  now_fresh : {Y : Type 0} (z : Y) (fa fb : ℕ → Y) → wb n ≡ x → fb n ≡ cond x z (fa n) → ((k : ℕ) → k ≢ n → fb k ≡ fa k) → ((k : ℕ) → wa k ≡ true → fa k ≡ z) → (k : ℕ) → wb k ≡ true → fb k ≡ z
  now_fresh {Y} z fa fb at here others was =
      everywhere (λ k. wb k ≡ true → fb k ≡ z) n
      (λ h. here ∙ ap (λ y. cond y z (fa n)) (sym at ∙ h))
      (λ k ne h. others k ne ∙ was k (sym (elsewhere k ne) ∙ h))

fresh_more : (owners : List EdgeOwners) (owner : EdgeOwners) (kinds : List Kind) (capacity s : ℕ) (a b : View) →
    HasFreshEnds owners kinds capacity s a →
    OpensAt (length owners) (kind_at kinds (length owners)) capacity (owner.writer == s) (owner.reader == s) a b →
    HasFreshEnds (owners ++ owner ∷ []) kinds capacity s b
fresh_more owners owner kinds capacity s a b was opens =
    let n = length owners in
    let w = owner.writer == s in
    let r = owner.reader == s in
    let elsewhere = opens.elsewhere in
    let writes = now_there n w a.writes b.writes elsewhere.writes (λ i. i.writer == s) owners owner refl refl opens.writes was.writes in
    let reads = now_there n r a.reads b.reads elsewhere.reads (λ i. i.reader == s) owners owner refl refl opens.reads was.reads in
    let w_at : b.writes n ≡ w = writes n ∙ more_here (λ i. i.writer == s) owners owner in
    let r_at : b.reads n ≡ r = reads n ∙ more_here (λ i. i.reader == s) owners owner in
    record {
      writes = writes;
      reads = reads;
      sent = now_fresh n w a.writes b.writes elsewhere.writes [] a.sent b.sent w_at opens.sent elsewhere.sent was.sent;
      room = now_fresh n w a.writes b.writes elsewhere.writes capacity a.room b.room w_at opens.room elsewhere.room was.room;
      kind = everywhere (λ k. b.writes k ≡ true → TakesKind (b.kind k) (kind_at kinds k)) n
          (λ h. opens.takes (sym w_at ∙ h))
          (λ k ne h. subst (λ of. TakesKind of (kind_at kinds k)) (sym (elsewhere.kind k ne)) (was.kind k (sym (elsewhere.writes k ne) ∙ h)));
      received = now_fresh n r a.reads b.reads elsewhere.reads [] a.received b.received r_at opens.received elsewhere.received was.received;
      coming = now_fresh n r a.reads b.reads elsewhere.reads [] a.coming b.coming r_at opens.coming elsewhere.coming was.coming;
    }

-- what f reads of each owner so far, and of the next
pub owner_more : (f : EdgeOwners → ℕ) (of : ℕ → ℕ) (owners later : List EdgeOwners) (owner : EdgeOwners) (n : ℕ) → later ≡ owners ++ owner ∷ [] →
    length owners ≡ n → ((e : ℕ) (w : EdgeOwners) → e < n → f (get_or owners e w) ≡ of e) → f owner ≡ of n → (e : ℕ) (w : EdgeOwners) → e < n + 1 →
    f (get_or later e w) ≡ of e
owner_more f of owners later owner n is count was here e w low =
    ap (λ l. f (get_or l e w)) is
    ∙ everywhere (λ k. k < n + 1 → f (get_or (owners ++ owner ∷ []) k w) ≡ of k) n
    (λ h. ap f (get_or_push owners owner w n count) ∙ here)
    (λ k ne h. let l : k < n = omega (arith, h, ne) in ap f (get_or_append_left owners (owner ∷ []) w k (omega (arith, l, count))) ∙ was k w l) e low

-- no end is there, and there is no owner
fresh_none : (kinds : List Kind) (capacity s : ℕ) (v : View) → ((e : ℕ) → (v.writes e ≡ false) × (v.reads e ≡ false)) → HasFreshEnds [] kinds capacity s v
fresh_none kinds capacity s v none = record {
  writes = λ e. (none e).0;
  reads = λ e. (none e).1;
  sent = λ e h. let l = (none e).0 in cc;
  room = λ e h. let l = (none e).0 in cc;
  kind = λ e h. let l = (none e).0 in absurd (cc);
  received = λ e h. let l = (none e).1 in cc;
  coming = λ e h. let l = (none e).1 in cc;
}

module _ {X : Type 0} (view : X → View) (joins : X → X → ℕ → Type 0) (places : X → ℕ → ℕ) (kinds : List Kind) (capacity : ℕ) where
  abbrev Open : List EdgeOwners → List X → Type 0
  Open owners ends = AreFreshEnds view joins places owners kinds capacity ends

  pub open_none : (ends : List X) → All (λ a. (e : ℕ) → ((view a).writes e ≡ false) × ((view a).reads e ≡ false)) ends → Open [] ends
  open_none ends none = record {
    fresh = λ s d l. fresh_none kinds capacity s (view (get_or ends s d)) (none s d l);
    joined = λ e w d l. absurd (omega (arith, l));
    places = λ e w d l. absurd (omega (arith, l));
    met = λ e w d l. absurd (omega (arith, l));
  }

  module _ (opens : ℕ → X → X → Type 0)
      (opens_places : (e : ℕ) (a b : X) → opens e a b → (k : ℕ) → k ≢ e → places b k ≡ places a k)
      (join_writer : (a a' b : X) (e k : ℕ) → joins a b k → k ≢ e → opens e a a' → joins a' b k)
      (join_reader : (a b b' : X) (e k : ℕ) → joins a b k → k ≢ e → opens e b b' → joins a b' k)
      (owners : List EdgeOwners) (owner : EdgeOwners) (old new : List X) (count : length new ≡ length old)
      (writers : All (λ w. w.writer < length old) (owners ++ owner ∷ [])) (readers : All (λ w. w.reader < length old) (owners ++ owner ∷ []))
      (opened : (s : ℕ) (d : X) → s < length old → opens (length owners) (get_or old s d) (get_or new s d))
      (fresh : (s : ℕ) (d : X) → s < length old →
      OpensAt (length owners) (kind_at kinds (length owners)) capacity (owner.writer == s) (owner.reader == s) (view (get_or old s d))
      (view (get_or new s d)))
      (joined : (d : X) → joins (get_or new owner.writer d) (get_or new owner.reader d) (length owners))
      (room : (d : X) → places (get_or new owner.writer d) (length owners) ≡ capacity) (was : Open owners old) where
    abbrev n : ℕ
    n = length owners

    abbrev all : List EdgeOwners
    all = owners ++ owner ∷ []

    -- what holds of the new owner, and of the old ones by their numbers, holds of all
    each : (P : EdgeOwners → ℕ → Type 0) → P owner n → ((k : ℕ) (w : EdgeOwners) → k < n → k ≢ n → P (get_or owners k w) k) → (k : ℕ) (w : EdgeOwners) → k < length all → P (get_or all k w) k
    each P here old k w l =
        everywhere (λ i. i < length all → P (get_or all i w) i) n
        (λ h. rw (get_or_push owners owner w n refl) here)
        (λ i ne h. let low : i < n = omega (arith, h, ne, length_push owners owner) in rw (get_or_append_left owners (owner ∷ []) w i low) (old i w low ne))
        k l

    is_fresh : (s : ℕ) (d : X) → s < length new → HasFreshEnds all kinds capacity s (view (get_or new s d))
    is_fresh s d l =
        let low : s < length old = omega (arith, l, count) in
        fresh_more owners owner kinds capacity s (view (get_or old s d)) (view (get_or new s d)) (was.fresh s d low) (fresh s d low)

    writer_low : (k : ℕ) (w : EdgeOwners) → k < n → (get_or owners k w).writer < length old
    writer_low k w l = omega (arith, ap (λ (i : EdgeOwners). i.writer) (get_or_append_left owners (owner ∷ []) w k l), writers k w (omega (arith, l, length_push owners owner)))

    reader_low : (k : ℕ) (w : EdgeOwners) → k < n → (get_or owners k w).reader < length old
    reader_low k w l = omega (arith, ap (λ (i : EdgeOwners). i.reader) (get_or_append_left owners (owner ∷ []) w k l), readers k w (omega (arith, l, length_push owners owner)))

    pub open_more : Open all new
    open_more = record {
      fresh = is_fresh;
      joined = λ e w d l. each (λ i k. joins (get_or new i.writer d) (get_or new i.reader d) k) (joined d) (λ k v low ne. (
          let i = get_or owners k v in
          join_reader (get_or new i.writer d) (get_or old i.reader d) (get_or new i.reader d) n k
          (join_writer (get_or old i.writer d) (get_or new i.writer d) (get_or old i.reader d) n k (was.joined k v d low) ne (opened i.writer d (writer_low k v low)))
          ne (opened i.reader d (reader_low k v low))
          )) e w l;
      places = λ e w d l. each (λ i k. places (get_or new i.writer d) k ≡ capacity) (room d) (λ k v low ne. (
          let i = get_or owners k v in
          opens_places n (get_or old i.writer d) (get_or new i.writer d) (opened i.writer d (writer_low k v low)) k ne ∙ was.places k v d low
          )) e w l;
      met = λ e w d l.
          let i = get_or all e w in
          let a = is_fresh i.writer d (omega (arith, count, writers e w l)) in
          let b = is_fresh i.reader d (omega (arith, count, readers e w l)) in
          let there = writes_there all kinds capacity i.writer e w (view (get_or new i.writer d)) a l refl in
          let here = reads_there all kinds capacity i.reader e w (view (get_or new i.reader d)) b l refl in
          fresh_met (view (get_or new i.writer d)) (view (get_or new i.reader d)) capacity e (a.sent e there) (a.room e there) (b.received e here) (b.coming e here);
    }

-- fresh ends, where the lists are named otherwise
pub fresh_as : {X : Type 0} (view : X → View) (joins : X → X → ℕ → Type 0) (places : X → ℕ → ℕ) (capacity : ℕ) {ws ws' : List EdgeOwners}
    {ks ks' : List Kind} {es es' : List X} → ws ≡ ws' → ks ≡ ks' → es ≡ es' → AreFreshEnds view joins places ws ks capacity es →
    AreFreshEnds view joins places ws' ks' capacity es'
fresh_as view joins places capacity {ws} {ws'} {ks} {ks'} {es} {es'} p q r all =
    subst (λ ws. AreFreshEnds view joins places ws ks' capacity es') p
    (subst (λ ks. AreFreshEnds view joins places ws ks capacity es') q
    (subst (λ es. AreFreshEnds view joins places ws ks capacity es) r all))
