use Rattle.std.proofs.Common.{rules, ◌≡◌, ◌<◌, List, [], ◌∷◌, ◌++◌, length, refl, sym, ap, ◌∙◌, arith}
use Rattle.flow_messages.specs.Stores.{content_of}
use Rattle.flow_words.specs.Edge.{certain_held}
use Rattle.flow_edges.proofs.OfLanes.InTurn.{holds_its_end}
use Rattle.flow_edges.proofs.OfLanes.Lists.{filled}
use Rattle.flow_edges.proofs.lanes.pocket.Pocket.take_some.Goals as goal

-- where the first part holds none the second does not, so if any is there the first holds one
some_first : {A : Type 0} (c k : List A) → (c ≡ [] → k ≡ []) → 0 < length (c ++ k) → 0 < length c
some_first [] k none some = absurd (omega (arith, some, ap length (none refl)))
some_first (x ∷ c) k none some = omega arith

pub take_into-more-requires-clause-ended : goal.take_into-more-requires-clause-ended
take_into-more-requires-clause-ended c = let p = c.args.self.now in holds_its_end p p.edge refl refl

pub returns-clause-came : goal.returns-clause-came
returns-clause-came c =
    let p = c.args.self.now in
    let came = c.take_into-more.ensures.came in
    record {
      edge = search rules;
      back = (refl, refl);
      places = search rules;
      taken = search rules;
      more = filled (content_of p.inbox.store) (content_of c.take_into-more.new.inbox.store) came.0 (certain_held p.edge) (certain_held c.take_into-more.new.self) came.1.known
          came.1.come.held;
      some = some_first (content_of c.take_into-more.new.inbox.store) (certain_held c.take_into-more.new.self) c.take_into-more.ensures.found;
    }

pub invariant_of-self-2-clause-kind : goal.invariant_of-self-2-clause-kind
invariant_of-self-2-clause-kind c =
    let came = c.take_into-more.ensures.came.1 in
    came.come.kind ∙ c.args.self.now.kind ∙ sym (ap (λ w. w.0) came.same)

pub invariant_of-self-2-clause-all : goal.invariant_of-self-2-clause-all
invariant_of-self-2-clause-all c =
    let p = c.args.self.now in
    let came = c.take_into-more.ensures.came in
    let i = c.take_into-more.new.inbox in
    c.followed_by-self.ensures ∙ ap (λ l. l ++ i.arrived.items) c.new.ensures ∙ came.1.come.arrived ∙ ap (λ l. l ++ came.0) (sym p.arrived ∙ p.all) ∙ sym came.1.taken
