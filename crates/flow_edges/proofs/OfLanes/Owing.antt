-- What is owed, before and after it was told.
use Rattle.std.proofs.Common.{◌≡◌, ℕ, ◌+◌, ◌-◌, ◌<◌, ◌≤◌, ◌^◌, pos, [], ◌∷◌, ◌++◌, sym, ap, ◌∙◌, subst, arith}
use Rattle.std.specs.Io.Iter.{u64_saturate}
use Rattle.std.specs.Prelude.{Some, Result, Ok, Err, IsOk, OnOk}
use Rattle.flow_messages.specs.declared.message.Kind.TheVariants.{Int as IntKind}
use Rattle.flow_messages.specs.declared.message.Msg.TheVariants.{Item as ItemMsg}
use Rattle.flow_messages.specs.declared.message.Item.TheVariants.{Int as IntItem}
use Rattle.flow_messages.specs.Signals.{signals, ended}
use Rattle.flow_messages.proofs.Signals.{ended-snoc, ended-nil}
use Rattle.flow_rings.specs.declared.ring.EdgeWriter.{EdgeWriter}
use Rattle.flow_rings.specs.Edge.{sent, edge_capacity, kind_of, SameWriter}
use Rattle.flow_edges.specs.lanes.Credits.{credit, Owes}
use Rattle.flow_edges.proofs.OfLanes.Lists.{credit-append}

pub same_kind : (a b : EdgeWriter) → SameWriter a b → kind_of b ≡ kind_of a
same_kind a b same = ap (λ of. of.0) same.0

-- nothing was told
pub owes_still : (taken owed : ℕ) (a b : EdgeWriter) → SameWriter a b → sent b ≡ sent a → Owes taken owed a → Owes taken owed b
owes_still taken owed a b same still o = record {
  told = subst (λ ms. credit ms ≤ taken) (sym still) o.told;
  rest = o.rest ∙ ap (λ ms. u64_saturate (taken - credit ms)) (sym still);
  unclosed = ap (λ ms. ended (signals ms)) still ∙ o.unclosed;
  kind = same_kind a b same ∙ o.kind;
  places = subst (λ n. 0 < n) (sym same.1) o.places;
}

told_all : (taken owed before after : ℕ) → owed < 2 ^ 64 - 1 → before ≤ taken → owed ≡ u64_saturate (taken - before) → after ≡ before + owed → after ≡ taken
told_all taken owed before after few told rest grown = omega (arith, few, told, rest, grown)

-- all was told
pub owes_none : (taken owed : ℕ) (a b : EdgeWriter) → owed < 2 ^ 64 - 1 → SameWriter a b → sent b ≡ sent a ++ ItemMsg (IntItem (pos owed)) ∷ [] → Owes taken owed a → Owes taken 0 b
owes_none taken owed a b few same grown o =
    let sum : credit (sent b) ≡ credit (sent a) + owed = ap credit grown ∙ credit-append (sent a) (ItemMsg (IntItem (pos owed)) ∷ []) ∙ omega arith in
    let all : credit (sent b) ≡ taken = told_all taken owed (credit (sent a)) (credit (sent b)) few o.told o.rest sum in
    record {
      told = omega (arith, all);
      rest = omega (arith, all);
      unclosed = ap (λ ms. ended (signals ms)) grown ∙ ended-snoc (sent a) (ItemMsg (IntItem (pos owed))) o.unclosed;
      kind = same_kind a b same ∙ o.kind;
      places = subst (λ n. 0 < n) (sym same.1) o.places;
    }

-- so many more were taken
pub owes_more : (taken owed more sum : ℕ) (a : EdgeWriter) → sum ≡ u64_saturate (owed + more) → Owes taken owed a → Owes (taken + more) sum a
owes_more taken owed more sum a is o = record {
  told = omega (arith, o.told);
  rest = omega (arith, is, o.rest, o.told);
  unclosed = o.unclosed;
  kind = o.kind;
  places = o.places;
}

-- none was taken, and none was told
pub owes_fresh : (taken : ℕ) (a : EdgeWriter) → taken ≡ 0 → sent a ≡ [] → kind_of a ≡ Some IntKind → 0 < edge_capacity a → Owes taken 0 a
owes_fresh taken a none fresh kind places =
    let nothing : credit (sent a) ≡ 0 = ap credit fresh in
    record {
      told = omega (arith, nothing);
      rest = omega (arith, nothing, none);
      unclosed = ap (λ ms. ended (signals ms)) fresh ∙ ended-nil;
      kind = kind;
      places = places;
    }

-- where none is owed all was told
pub all_told : (taken : ℕ) (a : EdgeWriter) → Owes taken 0 a → credit (sent a) ≡ taken
all_told taken a o = omega (arith, o.told, o.rest)

pub ok_holds : {X E P : Type 0} (r : Result X E) → IsOk r → OnOk r P → P
ok_holds (Ok x) is p = p
ok_holds (Err e) is p = cc
