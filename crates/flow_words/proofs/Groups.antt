-- How many messages words say, and how many words are left of a group.
use Rattle.std.proofs.Common.{◌≡◌, ℕ, suc, ◌+◌, ◌≤◌, ℤ, Bool, true, false, cond, List, [], ◌∷◌, length, refl, arith}
use Rattle.flow_messages.specs.declared.message.Msg.{Msg}
use Rattle.flow_messages.specs.declared.message.Msg.TheVariants.{Item as ItemMsg, End as EndMsg}
use Rattle.flow_messages.specs.declared.message.Item.TheVariants.{Int as IntItem}
use Rattle.flow_words.specs.declared.words.Group.{Group}
use Rattle.flow_words.specs.declared.words.Group.TheVariants.{None as NoGroup, Begun, Top, Half}
use Rattle.flow_words.specs.Words.{is_escape, ints_said, group_after}

up : (n k : ℕ) → n ≤ k → suc n ≤ suc k
up n k low = omega (arith, low)

later : (n k : ℕ) → n ≤ k → n ≤ suc k
later n k low = omega (arith, low)

fork_short : (b : Bool) (p q : List Msg) (n : ℕ) → length p ≤ n → length q ≤ n → length (cond b p q) ≤ n
fork_short true p q n low low' = low
fork_short false p q n low low' = low'

-- each word says one message at most
pub said_short : (g : Group) (ws : List ℤ) → length (ints_said g ws) ≤ length ws
unfolding ints_said
said_short NoGroup [] = omega arith
said_short Begun [] = omega arith
said_short (Top t) [] = omega arith
said_short (Half t m) [] = omega arith
said_short NoGroup (w ∷ ws) = fork_short (is_escape w) _ _ (suc (length ws)) (later _ _ (said_short Begun ws)) (up _ _ (said_short NoGroup ws))
said_short Begun (w ∷ ws) = fork_short (is_escape w) _ _ (suc (length ws)) (up _ _ (said_short NoGroup ws)) (later _ _ (said_short (Top w) ws))
said_short (Top t) (w ∷ ws) = later _ _ (said_short (Half t w) ws)
said_short (Half t m) (w ∷ ws) = up _ _ (said_short NoGroup ws)

-- after how many words a message is whole at the latest
abbrev pub words_left : Group → ℕ
words_left NoGroup = 4
words_left Begun = 3
words_left (Top t) = 2
words_left (Half t m) = 1

some_not : (m : Msg) (ms : List Msg) → m ∷ ms ≡ [] → ⊥
some_not m ms is = cc

none_fewer : (w : ℤ) (b : Bool) → cond b [] (ItemMsg (IntItem w) ∷ []) ≡ [] → words_left (cond b Begun NoGroup) + 1 ≡ 4
none_fewer w true none = refl
none_fewer w false none = absurd (some_not _ _ none)

begun_fewer : (w : ℤ) (b : Bool) → cond b (EndMsg ∷ []) [] ≡ [] → words_left (cond b NoGroup (Top w)) + 1 ≡ 3
begun_fewer w true none = absurd (some_not _ _ none)
begun_fewer w false none = refl

-- a word that says none is one fewer
pub fewer_left : (g : Group) (w : ℤ) → ints_said g (w ∷ []) ≡ [] → words_left (group_after g (w ∷ [])) + 1 ≡ words_left g
unfolding ints_said group_after
fewer_left NoGroup w none = none_fewer w (is_escape w) none
fewer_left Begun w none = begun_fewer w (is_escape w) none
fewer_left (Top t) w none = refl
fewer_left (Half t m) w none = absurd (some_not _ _ none)

pub some_left : (g : Group) → 1 ≤ words_left g
some_left NoGroup = omega arith
some_left Begun = omega arith
some_left (Top t) = omega arith
some_left (Half t m) = omega arith

pub most_left : (g : Group) → words_left g ≤ 4
most_left NoGroup = omega arith
most_left Begun = omega arith
most_left (Top t) = omega arith
most_left (Half t m) = omega arith

fork_nothing : (b : Bool) (p q : List Msg) (g h : Group) → (p ≡ [] → g ≡ NoGroup → ⊥) → (q ≡ [] → h ≡ NoGroup → ⊥) → cond b p q ≡ [] → cond b g h ≡ NoGroup → ⊥
fork_nothing true p q g h f k none whole = f none whole
fork_nothing false p q g h f k none whole = k none whole

not_begun : Begun ≡ NoGroup → ⊥
not_begun is = cc

not_top : (t : ℤ) → Top t ≡ NoGroup → ⊥
not_top t is = cc

not_half : (t m : ℤ) → Half t m ≡ NoGroup → ⊥
not_half t m is = cc

-- words that say nothing and leave no group begun are none
pub nothing_left : (g : Group) (ws : List ℤ) → ints_said g ws ≡ [] → group_after g ws ≡ NoGroup → (g ≡ NoGroup) × (ws ≡ [])
unfolding ints_said group_after
nothing_left NoGroup [] none whole = (refl, refl)
nothing_left Begun [] none whole = absurd (not_begun whole)
nothing_left (Top t) [] none whole = absurd (not_top t whole)
nothing_left (Half t m) [] none whole = absurd (not_half t m whole)
nothing_left NoGroup (w ∷ ws) none whole = absurd (fork_nothing (is_escape w) _ _ _ _ (λ n h. not_begun (nothing_left Begun ws n h).0) (λ n h. some_not _ _ n) none whole)
nothing_left Begun (w ∷ ws) none whole = absurd (fork_nothing (is_escape w) _ _ _ _ (λ n h. some_not _ _ n) (λ n h. not_top w (nothing_left (Top w) ws n h).0) none whole)
nothing_left (Top t) (w ∷ ws) none whole = absurd (not_half t w (nothing_left (Half t w) ws none whole).0)
nothing_left (Half t m) (w ∷ ws) none whole = absurd (some_not _ _ none)
