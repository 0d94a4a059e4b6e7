use Rattle.std.proofs.Common.{◌<◌, ◌≤◌, length, ◌∙◌, sym, ap, subst, arith, inl, rules}
use Rattle.std.proofs.lemmas.List.{length-map}
use Rattle.flow_boxes.specs.Contents.{view_of}
use Rattle.flow_networks.specs.Graphs.{states_of, edges_of}
use Rattle.flow_shares.specs.declared.error.WorkError.TheVariants.{NoThread}
use Rattle.flow_shares.proofs.Refused.{none_refused}
use Rattle.flow_shares.specs.meetings.Open.{AreOwners}
use Rattle.flow_shares.specs.meetings.Joints.{views_of}
use Rattle.flow_shares.specs.meetings.SharedNetworks.{moves_by}
use Rattle.flow_drives.proofs.OfLoops.RoundMeets.{seen_is}
use Rattle.flow_drives.proofs.OfLoops.RoundGathers.{come_to_rest}
use Rattle.flow_drives.specs.Edges.{traffic_by}
use Rattle.flow_networks.proofs.Refused.{nothing_made}
use Rattle.flow_drives.proofs.Led.{have_states}
use Rattle.flow_drives.proofs.Gathered.{are_there, run, boxes_moved, sound, rests}
use Rattle.flow_drives.proofs.rounds.run_dealt.Goals as goal

pub run_rounds-requires : goal.run_rounds-requires
run_rounds-requires g c κs within =
    let bounds = c.requires.1.1.1.1 in
    let clauses = bounds.1.1.1.1.1 in
    let lawful = clauses.0 in
    let owners = subst (λ w. AreOwners g.network.share g.network.edges w) (sym c.deref.ensures.value) clauses.1.1.0 in (
      within.0,
      (
        within.1.0,
        (
          within.1.1.0,
          (
            within.1.1.1,
            (
              bounds.0,
              (
                bounds.1.0,
                (bounds.1.1.0, (bounds.1.1.1.0, (bounds.1.1.1.1.0, (lawful.chunk.some, (lawful.idle.some, (owners, clauses.1.1.1.1.0)))))),
              ),
            ),
          ),
        ),
      ),
    )

pub invariant_of-gathered : goal.invariant_of-gathered
invariant_of-gathered g c =
    let origin = c.requires.1.1.1.1.1.1.1.1.1.1.0 in
    let graph = c.in_ok-graph.graph in
    let shared = c.new-shared.result in
    let network = c.in_ok-graph.ensures.network in
    let taken = ap (λ ends. ends.items) c.new-shared.ensures.ends ∙ c.in_ok-graph.ensures.ends in
    let rest = come_to_rest g.network c.in_ok-shares.shares.items c.in_ok-shares.ensures.rest (states_of graph) c.in_ok-graph.ensures.states shared.ends.items taken in
    let share = ap (λ share. share.items) c.new-shared.ensures.share ∙ origin.share in
    let capacity = c.new-shared.ensures.capacity ∙ origin.capacity in
    record {
      there = are_there g.network graph shared network rest share capacity;
      sound = sound g.network graph shared network rest share capacity;
      rest = rests g.network graph shared network rest share capacity;
    }

pub returns-clause-run : goal.returns-clause-run
returns-clause-run g c =
    let origin = c.requires.1.1.1.1.1.1.1.1.1.1.0 in
    let graph = c.in_ok-graph.graph in
    let shared = c.new-shared.result in
    let taken = ap (λ ends. ends.items) c.new-shared.ensures.ends ∙ c.in_ok-graph.ensures.ends in
    let rest = come_to_rest g.network c.in_ok-shares.shares.items c.in_ok-shares.ensures.rest (states_of graph) c.in_ok-graph.ensures.states shared.ends.items taken in
    run g.network graph shared c.in_ok-graph.ensures.network rest (ap (λ share. share.items) c.new-shared.ensures.share ∙ origin.share) (c.new-shared.ensures.capacity ∙ origin.capacity)

pub returns-clause-least : goal.returns-clause-least
returns-clause-least g c =
    let origin = c.requires.1.1.1.1.1.1.1.1.1.1.0 in
    let none = c.requires.1.1.1.1.1.1.1.1.1.1.1.1.1.1 in
    let graph = c.in_ok-graph.graph in
    let shared = c.new-shared.result in
    let shares = c.in_ok-shares.shares.items in
    let count = c.in_ok-shares.count in
    let taken = ap (λ ends. ends.items) c.new-shared.ensures.ends ∙ c.in_ok-graph.ensures.ends in
    let rest = come_to_rest g.network shares c.in_ok-shares.ensures.rest (states_of graph) c.in_ok-graph.ensures.states shared.ends.items taken in
    boxes_moved g.network graph shared c.in_ok-graph.ensures.network rest (ap (λ share. share.items) c.new-shared.ensures.share ∙ origin.share)
    (c.new-shared.ensures.capacity ∙ origin.capacity) (λ n. 0 < n → 0 < count)
    (subst (λ v. 0 < moves_by g.network (views_of v) → 0 < count) (sym (seen_is shares shared.ends.items taken)) (λ some. c.in_ok-shares.ensures.went.moves.least (omega (arith, none, some))))

pub returns-clause-most : goal.returns-clause-most
returns-clause-most g c =
    let origin = c.requires.1.1.1.1.1.1.1.1.1.1.0 in
    let graph = c.in_ok-graph.graph in
    let shared = c.new-shared.result in
    let shares = c.in_ok-shares.shares.items in
    let count = c.in_ok-shares.count in
    let taken = ap (λ ends. ends.items) c.new-shared.ensures.ends ∙ c.in_ok-graph.ensures.ends in
    let rest = come_to_rest g.network shares c.in_ok-shares.ensures.rest (states_of graph) c.in_ok-graph.ensures.states shared.ends.items taken in
    boxes_moved g.network graph shared c.in_ok-graph.ensures.network rest (ap (λ share. share.items) c.new-shared.ensures.share ∙ origin.share)
    (c.new-shared.ensures.capacity ∙ origin.capacity) (λ n. count ≤ n)
    (subst (λ v. count ≤ moves_by g.network (views_of v)) (sym (seen_is shares shared.ends.items taken)) (omega (arith, c.in_ok-shares.ensures.went.moves.most)))

pub returns-clause-led : goal.returns-clause-led
returns-clause-led g c =
    let origin = c.requires.1.1.1.1.1.1.1.1.1.1.0 in
    let graph = c.in_ok-graph.graph in
    let shared = c.new-shared.result in
    let shares = c.in_ok-shares.shares.items in
    let taken = ap (λ ends. ends.items) c.new-shared.ensures.ends ∙ c.in_ok-graph.ensures.ends in
    let deals = c.in_ok-shares.ensures.rest.stand.deals in
    record {
      last = shares;
      lead = c.in_ok-shares.ensures.went.lead;
      nodes = have_states g.network graph shared c.in_ok-graph.ensures.network (ap (λ share. share.items) c.new-shared.ensures.share ∙ origin.share)
          (c.new-shared.ensures.capacity ∙ origin.capacity) shares deals (c.in_ok-graph.ensures.states deals);
      traffic = ap (λ ends. traffic_by view_of shared.share.items (edges_of graph) ends) taken;
    }

pub returns-clause-share : goal.returns-clause-share
returns-clause-share g c =
    let origin = c.requires.1.1.1.1.1.1.1.1.1.1.0 in
    ap (λ share. share.items) c.new-shared.ensures.share ∙ origin.share

pub returns-clause-shares : goal.returns-clause-shares
returns-clause-shares g c =
    let taken = ap (λ ends. ends.items) c.new-shared.ensures.ends ∙ c.in_ok-graph.ensures.ends in
    ap length taken ∙ length-map c.in_ok-shares.shares.items (λ share. share.ends) ∙ c.in_ok-shares.ensures.went.count

pub returns-clause-refused : goal.returns-clause-refused
returns-clause-refused g c now = inl (none_refused _ NoThread c.in_ok-shares.ensures.refused now)

pub returns-in_err-shares : goal.returns-in_err-shares
returns-in_err-shares g c =
    let r = c.from_residual.result in
    let h = c.from_residual.ensures.1 in
    record {
      network = nothing_made r _ _ h;
      capacity = nothing_made r _ _ h;
      run = nothing_made r _ _ h;
      least = nothing_made r _ _ h;
      most = nothing_made r _ _ h;
      epochs = nothing_made r _ _ h;
      led = nothing_made r _ _ h;
      rings = nothing_made r _ _ h;
      share = nothing_made r _ _ h;
      shares = nothing_made r _ _ h;
      asked = nothing_made r _ _ h;
      refused = search rules;
    }

pub returns-in_err-graph : goal.returns-in_err-graph
returns-in_err-graph g c =
    let r = c.from_residual-in_err-graph.result in
    let h = c.from_residual-in_err-graph.ensures.1 in
    record {
      network = nothing_made r _ _ h;
      capacity = nothing_made r _ _ h;
      run = nothing_made r _ _ h;
      least = nothing_made r _ _ h;
      most = nothing_made r _ _ h;
      epochs = nothing_made r _ _ h;
      led = nothing_made r _ _ h;
      rings = nothing_made r _ _ h;
      share = nothing_made r _ _ h;
      shares = nothing_made r _ _ h;
      asked = nothing_made r _ _ h;
      refused = λ now. inl (none_refused _ NoThread c.in_ok-shares.ensures.refused now);
    }
