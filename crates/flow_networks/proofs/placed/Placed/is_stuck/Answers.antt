use Rattle.std.proofs.Common.{◌≡◌, ℕ, ◌<◌, ◌↔◌, Bool, get_or, not, IsTrue, sym, ◌∙◌, ap, subst, arith}
use Rattle.std.proofs.lemmas.List.{get_or_read}
use Rattle.kahn.specs.declared.want.Want.{Want}
use Rattle.kahn.specs.declared.want.Want.TheVariants.{Read, Write}
use Rattle.flow_messages.specs.Ends.{View, LookedForMessages, LookedForRoom, held}
use Rattle.flow_base.specs.Transducers.{BehaviourLaws}
use Rattle.flow_base.specs.declared.transducer.Transducer.{Ghosts}
use Rattle.flow_base.specs.Visits.{edge_of, IsStuck}
use Rattle.flow_base.proofs.Kernels.{alone_looked, alone_room}
use Rattle.flow_networks.specs.declared.placed.Placed.{Placed}
use Rattle.flow_networks.specs.InPlace.{PlaceIsStuck, PlaceLeavesAlone}
use Rattle.flow_networks.specs.Places.{placed_state}
use Rattle.flow_networks.proofs.Looks.{not_there}
use Rattle.flow_networks.proofs.Seats.{input_inside, output_inside}
use Rattle.flow_networks.proofs.placed.Placed.is_stuck.Goals as goal

-- it looks at the end of the edge, e, at the port that it wants
module _ {X : Type 0} {t : Ghosts X} (laws : BehaviourLaws t.behaviour) (x : Placed X t) (before after : View) (p e : ℕ) {w : Want} (told : w ≡ t.behaviour.process.want (placed_state x)) where
  module _ (wants : w ≡ Read p) (read : e ≡ get_or x.inputs.items p e) where
    input_edge : e ≡ edge_of x.inputs.items p
    input_edge = get_or_read x.inputs.items p e (input_inside laws x p told wants) read 0

    looked_reading : LookedForMessages before e after → PlaceLeavesAlone x before after
    looked_reading looked = alone_looked x.inputs.items x.outputs.items before after p (input_inside laws x p told wants) (subst (λ f. LookedForMessages before f after) input_edge looked)

    stuck_reading : (ready : Bool) → IsTrue ready ↔ (0 < held after e) → IsTrue (not ready) ↔ PlaceIsStuck x after
    stuck_reading ready value =
        subst (λ want. IsTrue (not ready) ↔ IsStuck x.inputs.items x.outputs.items after want) (sym wants ∙ told)
        (not_there ready _ (subst (λ f. IsTrue ready ↔ (0 < held after f)) input_edge value))

  module _ (wants : w ≡ Write p) (read : e ≡ get_or x.outputs.items p e) where
    output_edge : e ≡ edge_of x.outputs.items p
    output_edge = get_or_read x.outputs.items p e (output_inside laws x p told wants) read 0

    looked_writing : LookedForRoom before e after → PlaceLeavesAlone x before after
    looked_writing looked = alone_room x.inputs.items x.outputs.items before after p (output_inside laws x p told wants) (subst (λ f. LookedForRoom before f after) output_edge looked)

    stuck_writing : (room : Bool) → IsTrue room ↔ (0 < after.room e) → IsTrue (not room) ↔ PlaceIsStuck x after
    stuck_writing room value =
        subst (λ want. IsTrue (not room) ↔ IsStuck x.inputs.items x.outputs.items after want) (sym wants ∙ told)
        (not_there room _ (subst (λ f. IsTrue room ↔ (0 < after.room f)) output_edge value))

pub index-requires : goal.index-requires
index-requires g c =
    let x = c.args.self.now in
    omega (arith, input_inside g.met.T.Transducer.laws x c.in-Read.port c.want.ensures c.in-Read.is, x.inputs.ok.0)

pub ready-requires : goal.ready-requires
ready-requires g c =
    let inside = input_inside g.met.T.Transducer.laws c.args.self.now c.in-Read.port c.want.ensures c.in-Read.is in
    ap (g.E.Ends.view c.args.ends.now).reads c.index.ensures ∙ c.requires.reads c.in-Read.port c.index.result.now inside

pub returns-in-Read-clause-looked : goal.returns-in-Read-clause-looked
returns-in-Read-clause-looked g c =
    let view = g.E.Ends.view in
    looked_reading g.met.T.Transducer.laws c.args.self.now (view c.args.ends.now) (view c.ready.new.self) c.in-Read.port c.index.result.now
    c.want.ensures c.in-Read.is c.index.ensures c.ready.ensures.looked

pub returns-in-Read-clause-stuck : goal.returns-in-Read-clause-stuck
returns-in-Read-clause-stuck g c =
    let view = g.E.Ends.view in
    stuck_reading g.met.T.Transducer.laws c.args.self.now (view c.args.ends.now) (view c.ready.new.self) c.in-Read.port c.index.result.now
    c.want.ensures c.in-Read.is c.index.ensures c.ready.result c.ready.ensures.value

pub index-requires-in-Write : goal.index-requires-in-Write
index-requires-in-Write g c =
    let x = c.args.self.now in
    omega (arith, output_inside g.met.T.Transducer.laws x c.in-Write.port c.want.ensures c.in-Write.is, x.outputs.ok.0)

pub room-requires : goal.room-requires
room-requires g c =
    let inside = output_inside g.met.T.Transducer.laws c.args.self.now c.in-Write.port c.want.ensures c.in-Write.is in
    ap (g.E.Ends.view c.args.ends.now).writes c.index-in-Write.ensures ∙ c.requires.writes c.in-Write.port c.index-in-Write.result.now inside

pub returns-in-Write-clause-looked : goal.returns-in-Write-clause-looked
returns-in-Write-clause-looked g c =
    let view = g.E.Ends.view in
    looked_writing g.met.T.Transducer.laws c.args.self.now (view c.args.ends.now) (view c.room.new.self) c.in-Write.port c.index-in-Write.result.now
    c.want.ensures c.in-Write.is c.index-in-Write.ensures c.room.ensures.looked

pub returns-in-Write-clause-stuck : goal.returns-in-Write-clause-stuck
returns-in-Write-clause-stuck g c =
    let view = g.E.Ends.view in
    stuck_writing g.met.T.Transducer.laws c.args.self.now (view c.args.ends.now) (view c.room.new.self) c.in-Write.port c.index-in-Write.result.now
    c.want.ensures c.in-Write.is c.index-in-Write.ensures c.room.result c.room.ensures.value
