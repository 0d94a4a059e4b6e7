-- Items that were read, and the size of types.
use Rattle.std.proofs.Common.{◌≡◌, ℕ, suc, ◌+◌, List, [], ◌∷◌, ◌++◌, refl, sym, ap, ◌∙◌, append_assoc, append-nil, map, subst, arith, ◌≤◌}
use Rattle.snesl_data.specs.declared.dialect.Dialect.{Dialect}
use Rattle.snesl_data.specs.Types.{Ty, int, bool, pair, vec, seq}
use Rattle.snesl_data.specs.Values.{Value, a_vec, a_seq, a_pair, value_of, Values, values_of, HasType, AllHaveType}
use Rattle.snesl_values.specs.InputTokens.{Token, sign, HasTokens, IsNextToken}
use Rattle.snesl_values.specs.Inputs.{value_tokens, items_tokens, further_tokens, comma, left_paren, right_paren, left_bracket, left_brace}
use Rattle.snesl_values.specs.Wants.{IsValueRead, AreRead}
use Rattle.snesl_data.specs.declared.datum.Datum.{Datum}
use Rattle.snesl_values.proofs.InputReads.{reads-append}

-- how many parts a type has
abbrev pub size : Ty → ℕ
size int = 1
size bool = 1
size (pair a b) = suc (size a + size b)
size (vec a) = suc (size a)
size (seq a) = suc (size a)

-- the items, with a comma after each
abbrev pub leading_tokens : List Value → List Token
leading_tokens [] = []
leading_tokens (v ∷ vs) = value_tokens v ++ (comma ∷ leading_tokens vs)

further-last : (vs : List Value) (v : Value) → comma ∷ (leading_tokens vs ++ value_tokens v) ≡ further_tokens (values_of (vs ++ v ∷ []))
further-last [] v = ap (λ l. comma ∷ l) (sym (append-nil (value_tokens v)))
further-last (x ∷ vs) v =
    ap (λ l. comma ∷ l) (append_assoc (value_tokens x) (comma ∷ leading_tokens vs) (value_tokens v) ∙ ap (λ l. value_tokens x ++ l) (further-last vs v))

-- all items, where this one is the last
pub items-last : (vs : List Value) (v : Value) → leading_tokens vs ++ value_tokens v ≡ items_tokens (values_of (vs ++ v ∷ []))
items-last [] v = sym (append-nil (value_tokens v))
items-last (x ∷ vs) v = append_assoc (value_tokens x) (comma ∷ leading_tokens vs) (value_tokens v) ∙ ap (λ l. value_tokens x ++ l) (further-last vs v)

-- one item more
pub leading-push : (vs : List Value) (v : Value) → leading_tokens (vs ++ v ∷ []) ≡ leading_tokens vs ++ (value_tokens v ++ (comma ∷ []))
leading-push [] v = refl
leading-push (x ∷ vs) v =
    ap (λ l. value_tokens x ++ (comma ∷ l)) (leading-push vs v)
    ∙ sym (append_assoc (value_tokens x) (comma ∷ leading_tokens vs) (value_tokens v ++ (comma ∷ [])))

pub have_type-push : (dialect : Dialect) → (vs : List Value) (v : Value) (t : Ty) → AllHaveType dialect (values_of vs) t → HasType dialect v t → AllHaveType dialect (values_of (vs ++ v ∷ [])) t
have_type-push dialect [] v t h k = (k, tt)
have_type-push dialect (x ∷ vs) v t h k = (h.0, have_type-push dialect vs v t h.1 k)

pub mapped-push : (ds : List Datum) (d : Datum) → map value_of (ds ++ d ∷ []) ≡ map value_of ds ++ value_of d ∷ []
mapped-push [] d = refl
mapped-push (x ∷ ds) d = ap (λ l. value_of x ∷ l) (mapped-push ds d)

-- the last item was read, and the sign that closes all
pub items_read : (dialect : Dialect) → (text : List ℕ) (from place behind end : ℕ) (t : Ty) (close : ℕ) (vs news : List Value) (v : Value) → news ≡ vs ++ v ∷ []
    → from ≤ place → AllHaveType dialect (values_of vs) t → HasTokens text from (leading_tokens vs) place → IsValueRead dialect text place t v behind
    → IsNextToken text behind (sign close) end → AreRead dialect text from t close (values_of news) end
items_read dialect text from place behind end t close vs news v e begun types leading item closing = record {
  have_type = subst (λ l. AllHaveType dialect (values_of l) t) (sym e) (have_type-push dialect vs v t types item.has_type);
  reads = subst (λ l. HasTokens text from l end)
      (sym (append_assoc (leading_tokens vs) (value_tokens v) (sign close ∷ []))
      ∙ ap (λ l. l ++ (sign close ∷ [])) (items-last vs v) ∙ ap (λ l. items_tokens (values_of l) ++ (sign close ∷ [])) (sym e))
      (reads-append leading (reads-append item.reads closing.reads));
  moves = omega (arith, item.moves, closing.moves);
  within = closing.within;
}

-- an item was read, and a comma after it
pub item_read : (dialect : Dialect) → (text : List ℕ) (from place behind end : ℕ) (t : Ty) (vs news : List Value) (v : Value) → news ≡ vs ++ v ∷ []
    → HasTokens text from (leading_tokens vs) place → IsValueRead dialect text place t v behind → IsNextToken text behind comma end → HasTokens text from (leading_tokens news) end
item_read dialect text from place behind end t vs news v e leading item parting =
    subst (λ l. HasTokens text from l end) (sym (ap leading_tokens e ∙ leading-push vs v)) (reads-append leading (reads-append item.reads parting.reads))

-- a vector, a sequence and a pair were read
pub vec_read : (dialect : Dialect) → (text : List ℕ) (from place end : ℕ) (a : Ty) (vs : Values) → IsNextToken text from left_bracket place → AreRead dialect text place a 93 vs end
    → IsValueRead dialect text from (vec a) (a_vec vs) end
vec_read dialect text from place end a vs opening all = record {
  has_type = all.have_type;
  reads = reads-append opening.reads all.reads;
  moves = omega (arith, opening.moves, all.moves);
  within = all.within;
}

pub seq_read : (dialect : Dialect) → (text : List ℕ) (from place end : ℕ) (a : Ty) (vs : Values) → IsNextToken text from left_brace place → AreRead dialect text place a 125 vs end
    → IsValueRead dialect text from (seq a) (a_seq vs) end
seq_read dialect text from place end a vs opening all = record {
  has_type = all.have_type;
  reads = reads-append opening.reads all.reads;
  moves = omega (arith, opening.moves, all.moves);
  within = all.within;
}

pub pair_read : (dialect : Dialect) → (text : List ℕ) (from place behind further last end : ℕ) (a b : Ty) (v w : Value) → IsNextToken text from left_paren place
    → IsValueRead dialect text place a v behind → IsNextToken text behind comma further → IsValueRead dialect text further b w last → IsNextToken text last right_paren end
    → IsValueRead dialect text from (pair a b) (a_pair v w) end
pair_read dialect text from place behind further last end a b v w opening one parting two closing = record {
  has_type = (one.has_type, two.has_type);
  reads = reads-append opening.reads (reads-append one.reads (reads-append parting.reads (reads-append two.reads closing.reads)));
  moves = omega (arith, opening.moves, one.moves, parting.moves, two.moves, closing.moves);
  within = closing.within;
}
