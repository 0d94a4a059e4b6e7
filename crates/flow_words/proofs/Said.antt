-- What words of an edge of integers say.
use Rattle.std.proofs.Common.{◌≡◌, ℕ, zero, suc, ◌<◌, ℤ, Bool, true, false, cond, List, [], ◌∷◌, ◌++◌, take, refl, ap, ◌∙◌, arith}
use Rattle.flow_messages.specs.declared.message.Msg.{Msg}
use Rattle.flow_messages.specs.declared.message.Msg.TheVariants.{Item as ItemMsg, End as EndMsg}
use Rattle.flow_messages.specs.declared.message.Item.TheVariants.{Int as IntItem}
use Rattle.flow_messages.specs.Contents.{int_messages}
use Rattle.flow_words.specs.declared.words.Group.{Group}
use Rattle.flow_words.specs.declared.words.Group.TheVariants.{None as NoGroup, Begun, Top, Half}
use Rattle.flow_words.specs.Words.{is_escape, group_number, ints_said, ints_sent, group_after, Spells, ArePlain}

-- either way, what is said first and then the rest
fork_said : (b : Bool) (whole whole' part part' : List Msg) (g g' : Group) (ys : List ℤ) → whole ≡ part ++ ints_said g ys → whole' ≡ part' ++ ints_said g' ys
    → cond b whole whole' ≡ cond b part part' ++ ints_said (cond b g g') ys
fork_said true whole whole' part part' g g' ys p q = p
fork_said false whole whole' part part' g g' ys p q = q

-- what words and more words say
pub said-append : (g : Group) (xs ys : List ℤ) → ints_said g (xs ++ ys) ≡ ints_said g xs ++ ints_said (group_after g xs) ys
unfolding ints_said group_after
said-append NoGroup [] ys = refl
said-append Begun [] ys = refl
said-append (Top t) [] ys = refl
said-append (Half t m) [] ys = refl
said-append NoGroup (x ∷ xs) ys = fork_said (is_escape x) _ _ _ _ _ _ ys (said-append Begun xs ys) (ap (λ l. ItemMsg (IntItem x) ∷ l) (said-append NoGroup xs ys))
said-append Begun (x ∷ xs) ys = fork_said (is_escape x) _ _ _ _ _ _ ys (ap (λ l. EndMsg ∷ l) (said-append NoGroup xs ys)) (said-append (Top x) xs ys)
said-append (Top t) (x ∷ xs) ys = said-append (Half t x) xs ys
said-append (Half t m) (x ∷ xs) ys = ap (λ l. ItemMsg (IntItem (group_number t m x)) ∷ l) (said-append NoGroup xs ys)

fork_after : (b : Bool) (whole whole' part part' : Group) (ys : List ℤ) → whole ≡ group_after part ys → whole' ≡ group_after part' ys → cond b whole whole' ≡ group_after (cond b part part') ys
fork_after true whole whole' part part' ys p q = p
fork_after false whole whole' part part' ys p q = q

-- how much of a group has come after words and more words
pub after-append : (g : Group) (xs ys : List ℤ) → group_after g (xs ++ ys) ≡ group_after (group_after g xs) ys
unfolding group_after
after-append NoGroup [] ys = refl
after-append Begun [] ys = refl
after-append (Top t) [] ys = refl
after-append (Half t m) [] ys = refl
after-append NoGroup (x ∷ xs) ys = fork_after (is_escape x) _ _ _ _ ys (after-append Begun xs ys) (after-append NoGroup xs ys)
after-append Begun (x ∷ xs) ys = fork_after (is_escape x) _ _ _ _ ys (after-append NoGroup xs ys) (after-append (Top x) xs ys)
after-append (Top t) (x ∷ xs) ys = after-append (Half t x) xs ys
after-append (Half t m) (x ∷ xs) ys = after-append NoGroup xs ys

-- no words say nothing
pub said-nil : (g : Group) → ints_said g [] ≡ []
unfolding ints_said
said-nil NoGroup = refl
said-nil Begun = refl
said-nil (Top t) = refl
said-nil (Half t m) = refl

pub after-nil : (g : Group) → group_after g [] ≡ g
unfolding group_after
after-nil NoGroup = refl
after-nil Begun = refl
after-nil (Top t) = refl
after-nil (Half t m) = refl

rest_plain : (w : ℤ) (ws : List ℤ) → ArePlain (w ∷ ws) → ArePlain ws
rest_plain w ws plain i d low = plain (suc i) d (omega (arith, low))

first_plain : (w : ℤ) (ws : List ℤ) → ArePlain (w ∷ ws) → is_escape w ≡ false
first_plain w ws plain = plain 0 w (omega arith)

-- they say themselves
pub plain_said : (ws : List ℤ) → ArePlain ws → ints_said NoGroup ws ≡ int_messages ws
unfolding ints_said
plain_said [] plain = refl
plain_said (w ∷ ws) plain = ap (λ b. cond b (ints_said Begun ws) (ItemMsg (IntItem w) ∷ ints_said NoGroup ws)) (first_plain w ws plain)
    ∙ ap (λ l. ItemMsg (IntItem w) ∷ l) (plain_said ws (rest_plain w ws plain))

pub plain_after : (ws : List ℤ) → ArePlain ws → group_after NoGroup ws ≡ NoGroup
unfolding group_after
plain_after [] plain = refl
plain_after (w ∷ ws) plain = ap (λ b. cond b (group_after Begun ws) (group_after NoGroup ws)) (first_plain w ws plain) ∙ plain_after ws (rest_plain w ws plain)

-- one word more
pub plain_one : (w : ℤ) → is_escape w ≡ false → (ints_said NoGroup (w ∷ []) ≡ ItemMsg (IntItem w) ∷ []) × (group_after NoGroup (w ∷ []) ≡ NoGroup)
unfolding ints_said group_after
plain_one w plain = (ap (λ b. cond b [] (ItemMsg (IntItem w) ∷ [])) plain, ap (λ b. cond b Begun NoGroup) plain)

-- an integer that says itself
pub spells_plain : (w : ℤ) → is_escape w ≡ false → Spells (w ∷ []) (ItemMsg (IntItem w))
unfolding ints_said
spells_plain w plain = let one = plain_one w plain in (one.0, one.1, λ i low. none i low) where
  none : (i : ℕ) → i < 1 → ints_sent (take i (w ∷ [])) ≡ []
  none zero low = refl
  none (suc i) low = absurd (let no : suc i < 1 = low in omega arith)

-- two escapes
pub spells_end : (e : ℤ) → is_escape e ≡ true → Spells (e ∷ e ∷ []) EndMsg
unfolding ints_said group_after
spells_end e escape = (
  ap (λ b. cond b (cond b (EndMsg ∷ []) []) (ItemMsg (IntItem e) ∷ cond b [] (ItemMsg (IntItem e) ∷ []))) escape,
  ap (λ b. cond b (cond b NoGroup (Top e)) (cond b Begun NoGroup)) escape,
  none,
) where
  none : (i : ℕ) → i < 2 → ints_sent (take i (e ∷ e ∷ [])) ≡ []
  none zero low = refl
  none (suc zero) low = ap (λ b. cond b [] (ItemMsg (IntItem e) ∷ [])) escape
  none (suc (suc i)) low = absurd (let no : suc (suc i) < 2 = low in omega arith)

-- an escape and three digits
after_escape : (e : ℤ) (ws : List ℤ) → is_escape e ≡ true → ints_sent (e ∷ ws) ≡ ints_said Begun ws
unfolding ints_said
after_escape e ws escape = ap (λ b. cond b (ints_said Begun ws) (ItemMsg (IntItem e) ∷ ints_said NoGroup ws)) escape

after_top : (t : ℤ) (ws : List ℤ) → is_escape t ≡ false → ints_said Begun (t ∷ ws) ≡ ints_said (Top t) ws
unfolding ints_said
after_top t ws plain = ap (λ b. cond b (EndMsg ∷ ints_said NoGroup ws) (ints_said (Top t) ws)) plain

pub spells_group : (e t m l n : ℤ) → is_escape e ≡ true → is_escape t ≡ false → group_number t m l ≡ n → Spells (e ∷ t ∷ m ∷ l ∷ []) (ItemMsg (IntItem n))
unfolding ints_said group_after
spells_group e t m l n escape plain is = (
  after_escape e (t ∷ m ∷ l ∷ []) escape ∙ after_top t (m ∷ l ∷ []) plain ∙ ap (λ k. ItemMsg (IntItem k) ∷ []) is,
  ap (λ b. cond b (group_after Begun (t ∷ m ∷ l ∷ [])) (group_after NoGroup (t ∷ m ∷ l ∷ []))) escape ∙ ap (λ b. cond b (group_after NoGroup (m ∷ l ∷ [])) NoGroup) plain,
  none,
) where
  none : (i : ℕ) → i < 4 → ints_sent (take i (e ∷ t ∷ m ∷ l ∷ [])) ≡ []
  none zero low = refl
  none (suc zero) low = after_escape e [] escape
  none (suc (suc zero)) low = after_escape e (t ∷ []) escape ∙ after_top t [] plain
  none (suc (suc (suc zero))) low = after_escape e (t ∷ m ∷ []) escape ∙ after_top t (m ∷ []) plain
  none (suc (suc (suc (suc i)))) low = absurd (let no : suc (suc (suc (suc i))) < 4 = low in omega arith)

-- what one word says after so much of a group
pub begun_after : (w : ℤ) → is_escape w ≡ true → (group_after NoGroup (w ∷ []) ≡ Begun) × (ints_sent (w ∷ []) ≡ [])
unfolding ints_said group_after
begun_after w escape = (ap (λ b. cond b Begun NoGroup) escape, after_escape w [] escape)

pub end_after : (w : ℤ) → is_escape w ≡ true → (group_after Begun (w ∷ []) ≡ NoGroup) × (ints_said Begun (w ∷ []) ≡ EndMsg ∷ [])
unfolding ints_said group_after
end_after w escape = (ap (λ b. cond b NoGroup (Top w)) escape, ap (λ b. cond b (EndMsg ∷ []) []) escape)

pub top_after : (w : ℤ) → is_escape w ≡ false → (group_after Begun (w ∷ []) ≡ Top w) × (ints_said Begun (w ∷ []) ≡ [])
unfolding ints_said group_after
top_after w plain = (ap (λ b. cond b NoGroup (Top w)) plain, after_top w [] plain)

pub half_after : (t w : ℤ) → (group_after (Top t) (w ∷ []) ≡ Half t w) × (ints_said (Top t) (w ∷ []) ≡ [])
unfolding ints_said group_after
half_after t w = (refl, refl)

pub whole_after : (t m w : ℤ) → (group_after (Half t m) (w ∷ []) ≡ NoGroup) × (ints_said (Half t m) (w ∷ []) ≡ ItemMsg (IntItem (group_number t m w)) ∷ [])
unfolding ints_said group_after
whole_after t m w = (refl, refl)
