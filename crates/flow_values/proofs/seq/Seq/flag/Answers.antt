use Rattle.std.proofs.Common.{◌≡◌, ◌<◌, true, false, length, map, option_map, pos, sym, ap, ◌∙◌, arith}
use Rattle.snesl_data.specs.Types.{ty_of}
use Rattle.snesl_data.specs.Values.{value_of, elements_of, entries}
use Rattle.flow_values.specs.Dues.{due_cell}
use Rattle.flow_values.specs.SeqMachine.{writes_such}
use Rattle.flow_values.proofs.Layings.{no_gap, on_ok, flag_before, may_be_refused}
use Rattle.flow_values.proofs.VectorSteps.{held_element}
use Rattle.flow_values.proofs.seq.Seq.flag.Goals as goal

pub returns-in_err-datum-clause-sure : goal.returns-in_err-datum-clause-sure
returns-in_err-datum-clause-sure c spared =
    let self = c.args.self.now in
    let within : self.begun < length (entries c.in-Some.elements) = omega (arith, c.len.ensures, c.if-self-len.false) in
    let never : true ≡ false =
    may_be_refused (ty_of self.element) (map due_cell self.dues.items) self.vector c.in-Some.elements self.begun (ap (map due_cell) c.requires.none)
    c.in-Some.is within ∙ spared in
    absurd (cc)

pub returns-then-is_err-clause-sure : goal.returns-then-is_err-clause-sure
returns-then-is_err-clause-sure c spared =
    let self = c.args.self.now in
    let within : self.begun < length (entries c.in-Some.elements) = omega (arith, c.len.ensures, c.if-self-len.false) in
    let never : true ≡ false =
    may_be_refused (ty_of self.element) (map due_cell self.dues.items) self.vector c.in-Some.elements self.begun (ap (map due_cell) c.requires.none)
    c.in-Some.is within ∙ spared in
    sym never

pub unreachable-requires-in_default-2 : goal.unreachable-requires-in_default-2
unreachable-requires-in_default-2 c =
    let self = c.args.self.now in
    let within : self.begun < length (entries c.in-Some.elements) = omega (arith, c.len.ensures, c.if-self-len.false) in
    no_gap (entries c.in-Some.elements) self.begun within (ap (option_map value_of) (sym c.in_default-2.is) ∙ c.in_ok-datum.ensures.ok)

pub add_value-requires-clause-of_type : goal.add_value-requires-clause-of_type
add_value-requires-clause-of_type c =
    let self = c.args.self.now in
    let item = ty_of self.element in
    let found = ap (option_map value_of) (sym c.in-Some-2.is) ∙ c.in_ok-datum.ensures.ok in
    held_element item (elements_of c.in-Some.elements) (pos self.begun) (value_of c.in-Some-2.datum) found (sym (ap (writes_such item) c.in-Some.is) ∙ self.writes)

pub returns-clause-ok : goal.returns-clause-ok
returns-clause-ok c =
    let self = c.args.self.now in
    let found = ap (option_map value_of) (sym c.in-Some-2.is) ∙ c.in_ok-datum.ensures.ok in
    let added = on_ok c.add_value.result c.if-is_err.ensures.negation c.add_value.ensures in
    flag_before (ty_of self.element) (map due_cell self.dues.items) self.vector c.in-Some.elements self.begun (ap (map due_cell) c.requires.none) c.in-Some.is
    (value_of c.in-Some-2.datum) (map due_cell c.add_value.new.dues.items) found added
