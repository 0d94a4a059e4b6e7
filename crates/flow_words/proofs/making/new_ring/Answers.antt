use Rattle.std.proofs.Common.{ap, ◌∙◌, ◌/◌}
use Rattle.flow_words.specs.declared.words.Group.TheVariants.{None as NoGroup}
use Rattle.flow_words.specs.Words.{ints_said, ints_sent, group_after}
use Rattle.flow_words.proofs.Quarters.{quarter_of_four}
use Rattle.flow_words.proofs.Said.{said-nil, after-nil}
use Rattle.flow_words.proofs.making.new_ring.Goals as goal

pub returns-in_ok-to-in-Int-clause-writer : goal.returns-in_ok-to-in-Int-clause-writer
returns-in_ok-to-in-Int-clause-writer c =
    let p = c.in_ok-to-in-Int.ensures.producer in
    let n = c.args.capacity in
    (ap ints_sent p.0 ∙ said-nil NoGroup, ap (λ k. k / 4) p.1 ∙ quarter_of_four n, ap (λ k. k / 4) p.2 ∙ quarter_of_four n)

pub returns-in_ok-to-in-Int-clause-whole : goal.returns-in_ok-to-in-Int-clause-whole
returns-in_ok-to-in-Int-clause-whole c = ap (group_after NoGroup) c.in_ok-to-in-Int.ensures.producer.0 ∙ after-nil NoGroup

pub returns-in_ok-to-in-Int-clause-reader : goal.returns-in_ok-to-in-Int-clause-reader
returns-in_ok-to-in-Int-clause-reader c =
    let r = c.in_ok-to-in-Int.ensures.consumer in
    (ap ints_sent r.0 ∙ said-nil NoGroup, (λ i. ints_said (group_after NoGroup (r.0 i)) (r.1 i)) ∙ said-nil _)

pub returns-in_ok-to-in-Int-clause-half : goal.returns-in_ok-to-in-Int-clause-half
returns-in_ok-to-in-Int-clause-half c = ap (group_after NoGroup) c.in_ok-to-in-Int.ensures.consumer.0 ∙ after-nil NoGroup
