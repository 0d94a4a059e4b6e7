-- Each text means something: what the reader of an input text does, with no memory to be refused.
use Rattle.std.proofs.Common.{◌≡◌, ℕ, zero, suc, ℤ, ◌+◌, ◌≤◌, ◌<◌, Bool, true, false, List, [], ◌∷◌, ◌++◌, length, codes, Some, None, ◌⊎◌, inl, inr, refl, sym, ap, ◌∙◌, subst, arith, eqb}
use Rattle.std.proofs.lemmas.Bool.{eqb-true, eqb-false, cases_lt}
use Rattle.std.proofs.lemmas.Slice.Eq.{bytes_eq-Decides}
use Rattle.std.specs.Str.{bytes_eq}
use Rattle.snesl_data.specs.declared.dialect.Dialect.{Dialect}
use Rattle.snesl_data.specs.Integers.{is_integer, IsInteger}
use Rattle.snesl_data.specs.Types.{Ty, int, bool, pair, vec, seq}
use Rattle.snesl_data.specs.Values.{Value, an_int, a_bool, a_pair, a_vec, a_seq, Values, values_of, AllHaveType}
use Rattle.snesl_values.specs.InputTokens.{Token, word, integer, sign, bad, next_at, next_token, HasTokens, none, IsNextToken}
use Rattle.snesl_values.specs.Inputs.{greatest_input_length, InputDeclaration, Environment, equals, semicolon, comma, left_paren, right_paren}
use Rattle.snesl_values.specs.Inputs.{StopsAt, SpellsEnvironment, InputAnswer, spells, refused_at, InputMeans, too_long}
use Rattle.snesl_values.specs.Inputs.{lawful, unlawful}
use Rattle.snesl_values.specs.Wants.{ToCome, one, a_value, items, further_items, Fills, entry_wants, further_wants, IsValueRead, AreRead, IsEntry, AllRead}
use Rattle.snesl_values.proofs.InputScan.{Coming, nothing_comes, comes, coming}
use Rattle.snesl_values.proofs.InputReads.{reads-append, first_next}
use Rattle.snesl_values.proofs.InputWants.{after_one, another_one, no_integer, no_truth, Leaves, leaves_all, leaves_pair, leaves_vec, leaves_seq}
use Rattle.snesl_values.proofs.InputWants.{past_one, past_value, at_first_item, at_later_item, stops_part}
use Rattle.snesl_values.proofs.InputItems.{leading_tokens, have_type-push, items_read, item_read, vec_read, seq_read, pair_read}
use Rattle.snesl_values.proofs.InputEntries.{stops_lawful, SoFar, first_so_far, next_so_far, all_read_closed, all_read_open, none_read}

-- what was wanted is read and ends at this offset, or the reader stops
data Reading (dialect : Dialect) (text : List ℕ) (from : ℕ) (wants : List ToCome) (IsDone : ℕ → Type 0) : Type 0 where
  done : (end : ℕ) → IsDone end → Reading dialect text from wants IsDone
  stopped : (n : ℕ) → ((further : List ToCome) → StopsAt (Fills dialect (wants ++ further)) text from n) → Reading dialect text from wants IsDone

abbrev ReadingOf : Dialect → List ℕ → Ty → ℕ → Type 0
ReadingOf dialect text t from = Reading dialect text from (a_value t ∷ []) (λ end. (v : Value) × IsValueRead dialect text from t v end)

-- what is read of a value of this type wherever it begins
abbrev Readable : Dialect → List ℕ → Ty → Type 0
Readable dialect text t = (from : ℕ) → from ≤ length text → ReadingOf dialect text t from

-- the next token is this one, or another
data Whether (text : List ℕ) (from : ℕ) (token : Token) : Type 0 where
  taken : (end : ℕ) → IsNextToken text from token end → Whether text from token
  another : (next_token text from ≡ Some token → ⊥) → Whether text from token

whether : (text : List ℕ) (from : ℕ) (token : Token) → ((other : Token) → (other ≡ token) ⊎ (other ≡ token → ⊥)) → from ≤ length text → Whether text from token
whether text from token same within = by_next (coming text from within)
  where
    by_test : (other : Token) (end : ℕ) → IsNextToken text from other end → (other ≡ token) ⊎ (other ≡ token → ⊥) → Whether text from token
    by_test other end t (inl e) = taken end (subst (λ x. IsNextToken text from x end) e t)
    by_test other end t (inr n) = another (λ e. let f : Some other ≡ Some token = sym (first_next t.reads) ∙ e in n (cc))

    by_next : Coming text from → Whether text from token
    by_next (nothing_comes e) = another (λ f. cc)
    by_next (comes other end t) = by_test other end t (same other)

same_sign : (c : ℕ) (other : Token) → (other ≡ sign c) ⊎ (other ≡ sign c → ⊥)
same_sign c (sign d) = by_test (eqb d c) refl
  where
    by_test : (b : Bool) → eqb d c ≡ b → (sign d ≡ sign c) ⊎ (sign d ≡ sign c → ⊥)
    by_test true e = inl (ap sign (eqb-true d c e))
    by_test false e = inr (λ f. eqb-false d c e (cc))
same_sign c (word w) = inr (λ e. cc)
same_sign c (integer n) = inr (λ e. cc)
same_sign c bad = inr (λ e. cc)

same_word : (w : List ℕ) (other : Token) → (other ≡ word w) ⊎ (other ≡ word w → ⊥)
same_word w (word u) = by_test (bytes_eq u w) refl
  where
    by_test : (b : Bool) → bytes_eq u w ≡ b → (word u ≡ word w) ⊎ (word u ≡ word w → ⊥)
    by_test true e = inl (ap word ((bytes_eq-Decides u w).0 e))
    by_test false e = inr (λ f. let same : u ≡ w = cc in let is = (bytes_eq-Decides u w).1 same in cc)
same_word w (sign d) = inr (λ e. cc)
same_word w (integer n) = inr (λ e. cc)
same_word w bad = inr (λ e. cc)

one_token : (dialect : Dialect) → (text : List ℕ) (from : ℕ) (token : Token) → Whether text from token → Reading dialect text from (one token ∷ []) (IsNextToken text from token)
one_token dialect text from token (taken end t) = done end t
one_token dialect text from token (another n) = stopped (next_at text from) (λ further. another_one dialect text token further from n)

one_sign : (dialect : Dialect) → (text : List ℕ) (from c : ℕ) → from ≤ length text → Reading dialect text from (one (sign c) ∷ []) (IsNextToken text from (sign c))
one_sign dialect text from c within = one_token dialect text from (sign c) (whether text from (sign c) (same_sign c) within)

one_word : (dialect : Dialect) → (text : List ℕ) (from : ℕ) (w : List ℕ) → from ≤ length text → Reading dialect text from (one (word w) ∷ []) (IsNextToken text from (word w))
one_word dialect text from w within = one_token dialect text from (word w) (whether text from (word w) (same_word w) within)

-- integers and truth values
an_integer : (dialect : Dialect) → (text : List ℕ) → Readable dialect text int
an_integer dialect text from within = by_next (coming text from within)
  where
    no_other : (t : Token) (end : ℕ) → IsNextToken text from t end → ((n : ℤ) → IsInteger dialect n → t ≡ integer n → ⊥) → ReadingOf dialect text int from
    no_other t end takes n =
        stopped (next_at text from)
        (λ further. no_integer dialect text further from (λ i ranged e. let f : Some t ≡ Some (integer i) = sym (first_next takes.reads) ∙ e in n i ranged (cc)))

    by_range : (n : ℤ) (b : Bool) → is_integer dialect n ≡ b → (end : ℕ) → IsNextToken text from (integer n) end → ReadingOf dialect text int from
    by_range n true range end t = done end (an_int n, record { has_type = range; reads = t.reads; moves = t.moves; within = t.within })
    by_range n false range end t =
        no_other (integer n) end t (λ m ranged e. let same : n ≡ m = cc in absurd (let f : false ≡ true = sym range ∙ ap (is_integer dialect) same ∙ ranged in cc))

    by_next : Coming text from → ReadingOf dialect text int from
    by_next (nothing_comes e) = stopped (next_at text from) (λ further. no_integer dialect text further from (λ n ranged f. cc))
    by_next (comes (integer n) end t) = by_range n (is_integer dialect n) refl end t
    by_next (comes (word w) end t) = no_other (word w) end t (λ n ranged e. cc)
    by_next (comes (sign c) end t) = no_other (sign c) end t (λ n ranged e. cc)
    by_next (comes bad end t) = no_other bad end t (λ n ranged e. cc)

a_truth : (dialect : Dialect) → (text : List ℕ) → Readable dialect text bool
a_truth dialect text from within =
    by_true (whether text from (word (codes "true")) (same_word (codes "true")) within)
    (whether text from (word (codes "false")) (same_word (codes "false")) within)
  where
    by_true : Whether text from (word (codes "true")) → Whether text from (word (codes "false")) → ReadingOf dialect text bool from
    by_true (taken end t) other = done end (a_bool true, record { has_type = tt; reads = t.reads; moves = t.moves; within = t.within })
    by_true (another n) (taken end t) = done end (a_bool false, record { has_type = tt; reads = t.reads; moves = t.moves; within = t.within })
    by_true (another n) (another m) = stopped (next_at text from) (λ further. no_truth dialect text further from n m)

-- pairs
a_pair_of : (dialect : Dialect) → (text : List ℕ) (a b : Ty) → Readable dialect text a → Readable dialect text b → Readable dialect text (pair a b)
a_pair_of dialect text a b first second from within = by_open (one_sign dialect text from 40 within)
  where
    by_close : (place behind start last : ℕ) (v w : Value) → IsNextToken text from left_paren place → IsValueRead dialect text place a v behind
        → IsNextToken text behind comma start → IsValueRead dialect text start b w last
        → Reading dialect text last (one right_paren ∷ []) (IsNextToken text last right_paren) → ReadingOf dialect text (pair a b) from
    by_close place behind start last v w opening one_read parting other_read (done end closing) =
        done end (a_pair v w, pair_read dialect text from place behind start last end a b v w opening one_read parting other_read closing)
    by_close place behind start last v w opening one_read parting other_read (stopped n s) =
        stopped n (stops_part (past_value (past_one (past_value (past_one leaves_pair opening) one_read) parting) other_read) n s)

    by_second : (place behind start : ℕ) (v : Value) → IsNextToken text from left_paren place → IsValueRead dialect text place a v behind
        → IsNextToken text behind comma start → ReadingOf dialect text b start → ReadingOf dialect text (pair a b) from
    by_second place behind start v opening one_read parting (done last (w, other_read)) =
        by_close place behind start last v w opening one_read parting other_read (one_sign dialect text last 41 other_read.within)
    by_second place behind start v opening one_read parting (stopped n s) =
        stopped n (stops_part (past_one (past_value (past_one leaves_pair opening) one_read) parting) n s)

    by_comma : (place behind : ℕ) (v : Value) → IsNextToken text from left_paren place → IsValueRead dialect text place a v behind
        → Reading dialect text behind (one comma ∷ []) (IsNextToken text behind comma) → ReadingOf dialect text (pair a b) from
    by_comma place behind v opening one_read (done start parting) = by_second place behind start v opening one_read parting (second start parting.within)
    by_comma place behind v opening one_read (stopped n s) = stopped n (stops_part (past_value (past_one leaves_pair opening) one_read) n s)

    by_first : (place : ℕ) → IsNextToken text from left_paren place → ReadingOf dialect text a place → ReadingOf dialect text (pair a b) from
    by_first place opening (done behind (v, one_read)) = by_comma place behind v opening one_read (one_sign dialect text behind 44 one_read.within)
    by_first place opening (stopped n s) = stopped n (stops_part (past_one leaves_pair opening) n s)

    by_open : Reading dialect text from (one left_paren ∷ []) (IsNextToken text from left_paren) → ReadingOf dialect text (pair a b) from
    by_open (done place opening) = by_first place opening (first place opening.within)
    by_open (stopped n s) = stopped n (stops_part leaves_pair n s)

-- some items were read from an offset on, each with a comma after it
record ItemsSoFar (dialect : Dialect) (text : List ℕ) (from place : ℕ) (t : Ty) (close : ℕ) (vs : List Value) : Type 0 where
  within : place ≤ length text
  begun : from ≤ place
  have_type : AllHaveType dialect (values_of vs) t
  reads : HasTokens text from (leading_tokens vs) place
  leaves : Leaves dialect text (items t close ∷ []) from (a_value t ∷ further_items t close ∷ []) place

abbrev ReadingOfItems : Dialect → List ℕ → Ty → ℕ → ℕ → Type 0
ReadingOfItems dialect text t close from = Reading dialect text from (items t close ∷ []) (λ end. (vs : Values) × AreRead dialect text from t close vs end)

-- one item more, where each further one can be read
next_items : (dialect : Dialect) → (text : List ℕ) (t : Ty) (close from : ℕ) → Readable dialect text t → (place : ℕ) (vs : List Value) → ItemsSoFar dialect text from place t close vs
    → ((start : ℕ) (news : List Value) → ItemsSoFar dialect text from start t close news → place < start → ReadingOfItems dialect text t close from)
    → ReadingOfItems dialect text t close from
next_items dialect text t close from readable place vs sofar later = by_item (readable place sofar.within)
  where
    grown : (behind start : ℕ) (v : Value) → IsValueRead dialect text place t v behind → (next_token text behind ≡ Some (sign close) → ⊥)
        → IsNextToken text behind comma start → ItemsSoFar dialect text from start t close (vs ++ v ∷ [])
    grown behind start v read unclosed parting = record {
      within = parting.within;
      begun = omega (arith, sofar.begun, read.moves, parting.moves);
      have_type = have_type-push dialect vs v t sofar.have_type read.has_type;
      reads = item_read dialect text from place behind start t vs (vs ++ v ∷ []) v refl sofar.reads read parting;
      leaves = past_one (at_later_item (past_value sofar.leaves read) unclosed) parting;
    }

    by_comma : (behind : ℕ) (v : Value) → IsValueRead dialect text place t v behind → (next_token text behind ≡ Some (sign close) → ⊥)
        → Reading dialect text behind (one comma ∷ []) (IsNextToken text behind comma) → ReadingOfItems dialect text t close from
    by_comma behind v read unclosed (done start parting) =
        later start (vs ++ v ∷ []) (grown behind start v read unclosed parting) (omega (arith, read.moves, parting.moves))
    by_comma behind v read unclosed (stopped n s) = stopped n (stops_part (at_later_item (past_value sofar.leaves read) unclosed) n s)

    by_close : (behind : ℕ) (v : Value) → IsValueRead dialect text place t v behind → Whether text behind (sign close) → ReadingOfItems dialect text t close from
    by_close behind v read (taken end closing) =
        done end (values_of (vs ++ v ∷ []), items_read dialect text from place behind end t close vs (vs ++ v ∷ []) v refl sofar.begun sofar.have_type sofar.reads read closing)
    by_close behind v read (another unclosed) = by_comma behind v read unclosed (one_sign dialect text behind 44 read.within)

    by_item : ReadingOf dialect text t place → ReadingOfItems dialect text t close from
    by_item (done behind (v, read)) = by_close behind v read (whether text behind (sign close) (same_sign close) read.within)
    by_item (stopped n s) = stopped n (stops_part sofar.leaves n s)

-- further items; of the bytes that are left fewer than the bound
more_items : (dialect : Dialect) → (bound : ℕ) (text : List ℕ) (t : Ty) (close from : ℕ) → Readable dialect text t → (place : ℕ) (vs : List Value) → ItemsSoFar dialect text from place t close vs
    → length text < place + bound → ReadingOfItems dialect text t close from
more_items dialect zero text t close from readable place vs sofar few = absurd (let h = sofar.within in omega arith)
more_items dialect (suc bound) text t close from readable place vs sofar few =
    next_items dialect text t close from readable place vs sofar
    (λ start news further moved. more_items dialect bound text t close from readable start news further (omega arith))

all_items : (dialect : Dialect) → (text : List ℕ) (t : Ty) (close : ℕ) → Readable dialect text t → (from : ℕ) → from ≤ length text → ReadingOfItems dialect text t close from
all_items dialect text t close readable from within = by_close (whether text from (sign close) (same_sign close) within)
  where
    by_close : Whether text from (sign close) → ReadingOfItems dialect text t close from
    by_close (taken end closing) =
        done end (values_of [], record { have_type = tt; reads = closing.reads; moves = closing.moves; within = closing.within })
    by_close (another unclosed) =
        more_items dialect (suc (length text)) text t close from readable from []
        (record { within = within; begun = omega arith; have_type = tt; reads = none; leaves = at_first_item leaves_all unclosed })
        (omega arith)

-- items between two signs
a_row_of : (dialect : Dialect) → (text : List ℕ) (a t : Ty) (begin close : ℕ) (make : Values → Value)
    → ((from : ℕ) → Leaves dialect text (a_value t ∷ []) from (one (sign begin) ∷ items a close ∷ []) from)
    → ((from place end : ℕ) (vs : Values) → IsNextToken text from (sign begin) place → AreRead dialect text place a close vs end → IsValueRead dialect text from t (make vs) end)
    → Readable dialect text a → Readable dialect text t
a_row_of dialect text a t begin close make leaves row_read readable from within = by_open (one_sign dialect text from begin within)
  where
    by_items : (place : ℕ) → IsNextToken text from (sign begin) place → ReadingOfItems dialect text a close place → ReadingOf dialect text t from
    by_items place opening (done end (vs, all)) = done end (make vs, row_read from place end vs opening all)
    by_items place opening (stopped n s) = stopped n (stops_part (past_one (leaves from) opening) n s)

    by_open : Reading dialect text from (one (sign begin) ∷ []) (IsNextToken text from (sign begin)) → ReadingOf dialect text t from
    by_open (done place opening) = by_items place opening (all_items dialect text a close readable place opening.within)
    by_open (stopped n s) = stopped n (stops_part (leaves from) n s)

-- values of each type can be read
readable : (dialect : Dialect) → (text : List ℕ) (t : Ty) → Readable dialect text t
readable dialect text int = an_integer dialect text
readable dialect text bool = a_truth dialect text
readable dialect text (pair a b) = a_pair_of dialect text a b (readable dialect text a) (readable dialect text b)
readable dialect text (vec a) =
    a_row_of dialect text a (vec a) 91 93 a_vec (λ from. leaves_vec refl) (λ from place end vs. vec_read dialect text from place end a vs) (readable dialect text a)
readable dialect text (seq a) =
    a_row_of dialect text a (seq a) 123 125 a_seq (λ from. leaves_seq refl) (λ from place end vs. seq_read dialect text from place end a vs) (readable dialect text a)

-- a declared input
abbrev ReadingOfEntry : Dialect → List ℕ → InputDeclaration → ℕ → Type 0
ReadingOfEntry dialect text d from = Reading dialect text from (entry_wants d []) (λ end. (entry : List ℕ × Value) × IsEntry dialect text from d entry end)

an_entry : (dialect : Dialect) → (text : List ℕ) (d : InputDeclaration) (from : ℕ) → from ≤ length text → ReadingOfEntry dialect text d from
an_entry dialect text d from within = by_name (one_word dialect text from d.0 within)
  where
    by_value : (behind start : ℕ) → IsNextToken text from (word d.0) behind → IsNextToken text behind equals start → ReadingOf dialect text d.1 start → ReadingOfEntry dialect text d from
    by_value behind start name is (done end (v, read)) = done end (
      (d.0, v),
      record {
        named = refl;
        has_type = read.has_type;
        reads = reads-append name.reads (reads-append is.reads read.reads);
        moves = omega (arith, name.moves, is.moves, read.moves);
        within = read.within;
      },
    )
    by_value behind start name is (stopped n s) = stopped n (stops_part (past_one (past_one (leaves_all {whole = entry_wants d []}) name) is) n s)

    by_equals : (behind : ℕ) → IsNextToken text from (word d.0) behind → Reading dialect text behind (one equals ∷ []) (IsNextToken text behind equals) → ReadingOfEntry dialect text d from
    by_equals behind name (done start is) = by_value behind start name is (readable dialect text d.1 start is.within)
    by_equals behind name (stopped n s) = stopped n (stops_part (past_one (leaves_all {whole = entry_wants d []}) name) n s)

    by_name : Reading dialect text from (one (word d.0) ∷ []) (IsNextToken text from (word d.0)) → ReadingOfEntry dialect text d from
    by_name (done behind name) = by_equals behind name (one_sign dialect text behind 61 name.within)
    by_name (stopped n s) = stopped n (stops_part (leaves_all {whole = entry_wants d []}) n s)

-- all declared inputs were read, or the reader stops
data WholeReading (dialect : Dialect) (text : List ℕ) (ds : List InputDeclaration) : Type 0 where
  all_read : (es : Environment) (end : ℕ) → AllRead dialect text ds es end → WholeReading dialect text ds
  stopped_at : (n : ℕ) → StopsAt (SpellsEnvironment dialect ds) text 0 n → WholeReading dialect text ds

-- no input is left
no_entries : (dialect : Dialect) → (text : List ℕ) (ds : List InputDeclaration) (es : Environment) (at : ℕ) → SoFar dialect text ds [] es at → WholeReading dialect text ds
no_entries dialect text ds es at sofar = by_end (whether text at semicolon (same_sign 59) sofar.within)
  where
    by_end : Whether text at semicolon → WholeReading dialect text ds
    by_end (taken end closing) = all_read es end (all_read_closed dialect text ds es at end sofar closing)
    by_end (another n) = all_read es at (all_read_open dialect text ds es at sofar n)

-- one input more, where the further ones can be read
next_entry : (dialect : Dialect) → (text : List ℕ) (ds : List InputDeclaration) (d : InputDeclaration) (left : List InputDeclaration) (es : Environment) (at : ℕ)
    → SoFar dialect text ds (d ∷ left) es at → ((news : Environment) (end : ℕ) → SoFar dialect text ds left news end → WholeReading dialect text ds) → WholeReading dialect text ds
next_entry dialect text ds d left es at sofar later = by_semicolon (one_sign dialect text at 59 sofar.within)
  where
    by_entry : (start : ℕ) → IsNextToken text at semicolon start → ReadingOfEntry dialect text d start → WholeReading dialect text ds
    by_entry start parting (done end (entry, read)) =
        later (es ++ entry ∷ []) end (next_so_far dialect text ds d left es entry at start end sofar parting read)
    by_entry start parting (stopped n s) = stopped_at n (stops_lawful dialect text ds n (sofar.stops n
        (after_one dialect text semicolon (entry_wants d (further_wants left)) at start n parting.reads (s (further_wants left)))))

    by_semicolon : Reading dialect text at (one semicolon ∷ []) (IsNextToken text at semicolon) → WholeReading dialect text ds
    by_semicolon (done start parting) = by_entry start parting (an_entry dialect text d start parting.within)
    by_semicolon (stopped n s) = stopped_at n (stops_lawful dialect text ds n (sofar.stops n (s (entry_wants d (further_wants left)))))

-- the inputs that are left
more_entries : (dialect : Dialect) → (left : List InputDeclaration) (text : List ℕ) (ds : List InputDeclaration) (es : Environment) (at : ℕ) →
    SoFar dialect text ds left es at → WholeReading dialect text ds
more_entries dialect [] text ds es at sofar = no_entries dialect text ds es at sofar
more_entries dialect (d ∷ left) text ds es at sofar = next_entry dialect text ds d left es at sofar (λ news end further. more_entries dialect left text ds news end further)

whole : (dialect : Dialect) → (text : List ℕ) (ds : List InputDeclaration) → WholeReading dialect text ds
whole dialect text [] = all_read [] 0 (none_read dialect text)
whole dialect text (d ∷ ds) = by_entry (an_entry dialect text d 0 (omega arith))
  where
    by_entry : ReadingOfEntry dialect text d 0 → WholeReading dialect text (d ∷ ds)
    by_entry (done end (entry, read)) = more_entries dialect ds text (d ∷ ds) (entry ∷ []) end (first_so_far dialect text d ds entry end read)
    by_entry (stopped n s) = stopped_at n (stops_lawful dialect text (d ∷ ds) n (s (further_wants ds)))

pub some_meaning : (dialect : Dialect) → (ds : List InputDeclaration) (text : List ℕ) → (answer : InputAnswer) × InputMeans dialect ds text answer
some_meaning dialect ds text = by_length (cases_lt greatest_input_length (length text))
  where
    by_next : length text ≤ greatest_input_length → (es : Environment) (end : ℕ) → AllRead dialect text ds es end → Coming text end
        → (answer : InputAnswer) × InputMeans dialect ds text answer
    by_next fits es end all (nothing_comes e) = (spells es, lawful fits all.reads e all.spells)
    by_next fits es end all (comes t behind takes) =
        (refused_at (next_at text end), unlawful fits (all.no_more (λ e. let f : Some t ≡ None = sym (first_next takes.reads) ∙ e in cc)))

    by_reading : length text ≤ greatest_input_length → WholeReading dialect text ds → (answer : InputAnswer) × InputMeans dialect ds text answer
    by_reading fits (all_read es end all) = by_next fits es end all (coming text end all.within)
    by_reading fits (stopped_at n s) = (refused_at n, unlawful fits s)

    by_length : (greatest_input_length < length text) ⊎ (length text ≤ greatest_input_length) → (answer : InputAnswer) × InputMeans dialect ds text answer
    by_length (inl over) = (refused_at greatest_input_length, too_long over)
    by_length (inr fits) = by_reading fits (whole dialect text ds)
