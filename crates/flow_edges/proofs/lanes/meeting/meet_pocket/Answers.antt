use Rattle.std.proofs.Common.{◌++◌, length, sym, ap, ◌∙◌, subst, arith, append-nil, length-append}
use Rattle.flow_messages.specs.Stores.{content_of}
use Rattle.flow_boxes.specs.Received.{received_of}
use Rattle.flow_rings.specs.Edge.{SameReader}
use Rattle.flow_words.specs.Edge.{sent, certain_held}
use Rattle.flow_words.proofs.Coming.{come_length}
use Rattle.flow_edges.specs.lanes.Credits.{Owes}
use Rattle.flow_edges.proofs.OfLanes.InTurn.{holds_kind, holds_its_end}
use Rattle.flow_edges.proofs.OfLanes.Lists.{filled, prefix-more}
use Rattle.flow_edges.proofs.OfLanes.Settled.{bound, within, gathered}
use Rattle.flow_edges.proofs.lanes.meeting.meet_pocket.Goals as goal

pub meet-requires : goal.meet-requires
meet-requires c = c.requires.0 ∙ sym c.put_out.ensures.edge.0

pub gather-requires : goal.gather-requires
gather-requires c =
    let w = c.put_out.new.self in
    let p = c.args.reader.now in
    let met = c.meet.ensures in
    let b = c.settle-reader.ensures in
    record {
      edge = met.pair;
      fifo = met.fifo;
      room = omega (
        arith,
        bound w p c.meet.new.writer c.meet.new.reader met.writer.1 met.reader.1 met.fifo c.settle-reader.new.back b.begins
            (b.told (length (received_of p.inbox)) p.owes),
        w.places,
        c.put_out.ensures.edge.1,
        c.requires.2,
      );
      kind = holds_kind p c.meet.new.reader met.reader.0 met.reader.1;
      ended = holds_its_end p c.meet.new.reader met.reader.0 met.reader.1;
    }

pub overflow_sub-writer : goal.overflow_sub-writer
overflow_sub-writer c =
    let w = c.put_out.new.self in
    let p = c.args.reader.now in
    let met = c.meet.ensures in
    let b = c.settle-reader.ensures in
    let count = come_length (certain_held c.meet.new.reader) p.inbox c.gather.new.inbox c.gather.ensures.come in
    omega (
      arith,
      c.len-count.ensures,
      count,
      bound w p c.meet.new.writer c.meet.new.reader met.writer.1 met.reader.1 met.fifo c.settle-reader.new.back b.begins
          (b.told (length (received_of p.inbox)) p.owes),
    )

pub invariant_of-writer : goal.invariant_of-writer
invariant_of-writer c =
    let w = c.put_out.new.self in
    let p = c.args.reader.now in
    let met = c.meet.ensures in
    let b = c.settle-reader.ensures in
    let count = come_length (certain_held c.meet.new.reader) p.inbox c.gather.new.inbox c.gather.ensures.come in
    let none = ap length c.put_out.ensures.out in
    record {
      kind = w.kind ∙ sym (ap (λ of. of.0) (c.gather.ensures.writer.0 ∙ met.writer.0.0));
      sure = omega (arith, none, w.places, met.writer.0.1, c.gather.ensures.writer.1, c.gather.ensures.room);
      closed = λ _. none;
      places = c.gather.ensures.writer.1 ∙ met.writer.0.1 ∙ w.places;
      limit = w.limit;
      within = omega (
        arith,
        none,
        c.len-count.ensures,
        count,
        ap length c.gather.ensures.sent,
        within w p c.meet.new.writer c.meet.new.reader met.writer.1 met.reader.1 met.fifo c.settle-reader.new.back b.begins
            (b.told (length (received_of p.inbox)) p.owes),
      );
    }

pub invariant_of-reader-2 : goal.invariant_of-reader-2
invariant_of-reader-2 c =
    let p = c.args.reader.now in
    let met = c.meet.ensures in
    let come = c.gather.ensures.come in
    let i = c.gather.new.inbox in
    let came = c.followed_by-reader.ensures ∙ ap (λ l. l ++ i.arrived.items) c.new.ensures in
    record {
      reserved = omega (arith, p.reserved, come.capacity);
      kind = come.kind ∙ p.kind ∙ sym (ap (λ w. w.0) (c.gather.ensures.reader ∙ met.reader.0));
      arrived = came;
      all = came ∙ gathered c.put_out.new.self p c.meet.new.writer c.meet.new.reader met.writer.1 met.reader.1 met.fifo i come ∙ sym c.gather.ensures.received;
      owes = subst (λ n. Owes n c.settle-reader.result c.settle-reader.new.teller) (sym (ap length come.received)) (c.settle-reader.ensures.owes (length (received_of p.inbox)) p.owes);
    }

pub returns-clause-room : goal.returns-clause-room
returns-clause-room c =
    let w = c.put_out.new.self in
    let p = c.args.reader.now in
    let met = c.meet.ensures in
    let b = c.settle-reader.ensures in
    let count = come_length (certain_held c.meet.new.reader) p.inbox c.gather.new.inbox c.gather.ensures.come in
    omega (
      arith,
      c.put_out.ensures.room.0,
      c.put_out.ensures.room.1,
      c.len-count.ensures,
      count,
      bound w p c.meet.new.writer c.meet.new.reader met.writer.1 met.reader.1 met.fifo c.settle-reader.new.back b.begins
          (b.told (length (received_of p.inbox)) p.owes),
    )

pub returns-clause-writer : goal.returns-clause-writer
returns-clause-writer c =
    let now = c.gather.ensures.writer in
    let met = c.meet.ensures.writer.0 in
    let out = c.put_out.ensures in
    ((now.0 ∙ met.0 ∙ out.edge.0, now.1 ∙ met.1 ∙ out.edge.1), subst (λ b. SameReader b c.settle-reader.new.back) out.back c.settle-reader.ensures.back)

pub returns-clause-reader : goal.returns-clause-reader
returns-clause-reader c = (c.gather.ensures.reader ∙ c.meet.ensures.reader.0, c.settle-reader.ensures.teller, c.gather.ensures.come.capacity)

pub returns-clause-sent : goal.returns-clause-sent
returns-clause-sent c =
    let on_edge = sent c.gather.new.writer in
    ap (λ l. on_edge ++ l) c.put_out.ensures.out ∙ append-nil on_edge ∙ c.gather.ensures.sent ∙ c.meet.ensures.writer.1 ∙ c.put_out.ensures.put

pub returns-clause-received : goal.returns-clause-received
returns-clause-received c = c.gather.ensures.come.received

pub returns-clause-held : goal.returns-clause-held
returns-clause-held c =
    let p = c.args.reader.now in
    let known = certain_held c.meet.new.reader in
    let rest = certain_held c.gather.new.reader in
    filled (content_of p.inbox.store) (content_of c.gather.new.inbox.store) known (certain_held p.edge) rest
    (prefix-more (certain_held p.edge) known rest c.meet.ensures.looked.1) c.gather.ensures.come.held

pub returns-clause-fifo : goal.returns-clause-fifo
returns-clause-fifo c =
    let p = c.args.reader.now in
    let met = c.meet.ensures in
    let now = c.gather.ensures in
    let i = c.gather.new.inbox in
    ap (λ l. received_of i ++ (content_of i.store ++ l)) now.none ∙ ap (λ l. received_of i ++ l) (append-nil (content_of i.store)) ∙ i.fifo
    ∙ gathered c.put_out.new.self p c.meet.new.writer c.meet.new.reader met.writer.1 met.reader.1 met.fifo i now.come ∙ sym now.sent
    ∙ sym (append-nil (sent c.gather.new.writer)) ∙ ap (λ l. sent c.gather.new.writer ++ l) (sym c.put_out.ensures.out)

pub returns-clause-count : goal.returns-clause-count
returns-clause-count c =
    let i = c.gather.new.inbox in
    omega (arith, c.len-count.ensures, length-append (content_of i.store) (certain_held c.gather.new.reader), ap length c.gather.ensures.none)

pub returns-clause-out : goal.returns-clause-out
returns-clause-out c = c.put_out.ensures.out

pub returns-clause-whole : goal.returns-clause-whole
returns-clause-whole c =
    let w = c.put_out.new.self in
    let p = c.args.reader.now in
    let met = c.meet.ensures in
    let b = c.settle-reader.ensures in
    let count = come_length (certain_held c.meet.new.reader) p.inbox c.gather.new.inbox c.gather.ensures.come in
    omega (
      arith,
      c.len-count.ensures,
      count,
      w.places,
      met.writer.0.1,
      c.gather.ensures.writer.1,
      bound w p c.meet.new.writer c.meet.new.reader met.writer.1 met.reader.1 met.fifo c.settle-reader.new.back b.begins
          (b.told (length (received_of p.inbox)) p.owes),
    )
