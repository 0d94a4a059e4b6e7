use Rattle.std.proofs.Common.{◌≡◌, ℕ, zero, suc, ◌+◌, ◌≤◌, ◌<◌, ◌++◌, List, [], ◌∷◌, length, map, take, slice_get, get_or, sym, ap, ◌∙◌, arith, subst, length-append}
use Rattle.std.proofs.Math.Seq.{take-nil}
use Rattle.std.proofs.lemmas.Grind.{take_at_read}
use Rattle.std.proofs.lemmas.List.{map-append}
use Rattle.std.specs.List.{All}
use Rattle.flow_messages.specs.declared.message.Kind.{Kind}
use Rattle.flow_messages.specs.declared.message.Kind.TheVariants.{Unit as UnitKind}
use Rattle.flow_messages.specs.Signals.{Signal, signals}
use Rattle.flow_messages.specs.Tables.{at_line}
use Rattle.flow_messages.specs.Stores.{content_of}
use Rattle.flow_messages.specs.Lines.{gone}
use Rattle.flow_messages.specs.declared.line.Line.{Line}
use Rattle.flow_messages.proofs.Signals.{signals-nil}
use Rattle.flow_messages.proofs.Tables.{at_line-snoc, all-snoc, kinds_at}
use Rattle.flow_messages.proofs.table.Table.new.Goals as goal

-- the lines of the invariant, with one line more
even_with : (capacity : ℕ) (before after : List Line) (line : Line) → after ≡ before ++ line ∷ [] → All (λ l. l.store.capacity ≡ capacity) before →
    line.store.capacity ≡ capacity → All (λ l. l.store.capacity ≡ capacity) after
even_with capacity before after line is all here =
    subst (All (λ (l : Line). l.store.capacity ≡ capacity)) (sym is) (all-snoc (λ (l : Line). l.store.capacity ≡ capacity) before line all here)

nothing_with : (f : Line → List Signal) (before after : List Line) (line : Line) → after ≡ before ++ line ∷ [] →
    ((e : ℕ) → at_line f before e [] ≡ []) → f line ≡ [] → (e : ℕ) → at_line f after e [] ≡ []
nothing_with f before after line is all here e =
    ap (λ (ls : List Line). at_line f ls e []) is ∙ at_line-snoc f before line [] all here e

take_all : {X : Type 0} (n : ℕ) (xs : List X) → length xs ≤ n → take n xs ≡ xs
take_all n [] long = take-nil n
take_all zero (x ∷ xs) long = absurd (omega (arith, long))
take_all (suc n) (x ∷ xs) long = ap (λ l. x ∷ l) (take_all n xs (omega (arith, long)))

one_kind_more : (before after : List Line) (line : Line) (kinds : List Kind) (k : ℕ) → map (λ l. l.store.kind) before ≡ take k kinds → after ≡ before ++ line ∷ [] →
    line.store.kind ≡ get_or kinds k UnitKind → k < length kinds → map (λ (l : Line). l.store.kind) after ≡ take (k + 1) kinds
one_kind_more before after line kinds k so_far is here low =
    ap (map (λ l. l.store.kind)) is ∙ map-append (λ l. l.store.kind) before (line ∷ []) ∙ ap (λ ks. ks ++ line.store.kind ∷ []) so_far
    ∙ ap (λ kind. take k kinds ++ kind ∷ []) here ∙ sym (take_at_read kinds k UnitKind low).1

pub loop-kind-preserved : goal.loop-kind-preserved
loop-kind-preserved c =
    let line = c.in_ok-new.field-0 in
    let fresh = c.in_ok-new.ensures in
    let is = c.in_ok-push.ensures.items in
    record {
      count = omega (arith, ap length is, length-append c.loop-kind.lines.items (line ∷ []));
      kinds = one_kind_more c.loop-kind.lines.items _ line c.args.kinds.now c.loop-kind.kind-index c.loop-kind.invariant.kinds is fresh.kind (omega arith);
      sent = nothing_with (λ l. signals l.sent.items) _ _ line is c.loop-kind.invariant.sent (ap signals fresh.sent ∙ signals-nil);
      received = nothing_with (λ l. signals (gone l.sent.items (content_of l.store))) _ _ line is c.loop-kind.invariant.received
          (ap (λ s. signals (gone s (content_of line.store))) fresh.sent ∙ ap (λ h. signals (gone [] h)) fresh.held ∙ signals-nil);
      even = even_with c.args.capacity _ _ line is c.loop-kind.invariant.even fresh.capacity;
    }

pub returns-clause-kinds : goal.returns-clause-kinds
returns-clause-kinds c e =
    let ls = c.loop-kind.lines.items in
    let kinds = c.args.kinds.now in
    kinds_at ls e ∙ ap (λ ks. slice_get ks e) (c.loop-kind.invariant.kinds ∙ take_all c.loop-kind.kind-index kinds (omega arith))
