use Rattle.std.proofs.Common.{rules, ◌≡◌, ◌∷◌, [], sym, ap, ◌∙◌}
use Rattle.std.specs.Prelude.{FitsSigned}
use Rattle.std.specs.Int.{w64}
use Rattle.flow_messages.specs.declared.message.Msg.TheVariants.{Item as ItemMsg}
use Rattle.flow_messages.specs.declared.message.Item.TheVariants.{Int as IntItem}
use Rattle.flow_words.specs.declared.words.Group.TheVariants.{Top, Half}
use Rattle.flow_words.specs.Words.{is_escape, group_number}
use Rattle.flow_words.proofs.Digits.{kept, widened, word_kept, number_kept}
use Rattle.flow_words.proofs.Said.{plain_one, begun_after, end_after, top_after, half_after, whole_after}
use Rattle.flow_words.proofs.words.Group.step.Goals as goal

pub returns-in-None-clause-group : goal.returns-in-None-clause-group
returns-in-None-clause-group c = rw c.in-None.is (sym (begun_after c.args.word (ap is_escape (sym (word_kept c.args.word c.ranges.word)) ∙ sym c.escapes-escape.ensures ∙ c.if-escape.true)).0)

pub returns-in-None-clause-none : goal.returns-in-None-clause-none
returns-in-None-clause-none c = rw c.in-None.is (begun_after c.args.word (ap is_escape (sym (word_kept c.args.word c.ranges.word)) ∙ sym c.escapes-escape.ensures ∙ c.if-escape.true)).1

pub returns-in-None-2-clause-group : goal.returns-in-None-2-clause-group
returns-in-None-2-clause-group c = rw c.in-None-2.is (sym (plain_one c.args.word (ap is_escape (sym (word_kept c.args.word c.ranges.word)) ∙ sym c.escapes-escape.ensures ∙ c.if-escape.false)).1)

pub returns-in-None-2-clause-some : goal.returns-in-None-2-clause-some
returns-in-None-2-clause-some c =
    let is : c.from.result ≡ c.args.word = search rules in
    rw c.in-None-2.is ((plain_one c.args.word (ap is_escape (sym (word_kept c.args.word c.ranges.word)) ∙ sym c.escapes-escape.ensures ∙ c.if-escape.false)).0
    ∙ ap (λ n. ItemMsg (IntItem n) ∷ []) (sym (widened c.from.result c.args.word is c.ranges.word)))

pub returns-in-Begun-clause-group : goal.returns-in-Begun-clause-group
returns-in-Begun-clause-group c = rw c.in-Begun.is (sym (end_after c.args.word (ap is_escape (sym (word_kept c.args.word c.ranges.word)) ∙ sym c.escapes-escape.ensures ∙ c.if-escape-2.true)).0)

pub returns-in-Begun-clause-some : goal.returns-in-Begun-clause-some
returns-in-Begun-clause-some c = rw c.in-Begun.is (end_after c.args.word (ap is_escape (sym (word_kept c.args.word c.ranges.word)) ∙ sym c.escapes-escape.ensures ∙ c.if-escape-2.true)).1

pub returns-in-Begun-2-clause-group : goal.returns-in-Begun-2-clause-group
returns-in-Begun-2-clause-group c = rw c.in-Begun-2.is (ap Top (word_kept c.args.word c.ranges.word)
    ∙ sym (top_after c.args.word (ap is_escape (sym (word_kept c.args.word c.ranges.word)) ∙ sym c.escapes-escape.ensures ∙ c.if-escape-2.false)).0)

pub returns-in-Begun-2-clause-none : goal.returns-in-Begun-2-clause-none
returns-in-Begun-2-clause-none c = rw c.in-Begun-2.is (top_after c.args.word (ap is_escape (sym (word_kept c.args.word c.ranges.word)) ∙ sym c.escapes-escape.ensures ∙ c.if-escape-2.false)).1

pub returns-in-Top-clause-group : goal.returns-in-Top-clause-group
returns-in-Top-clause-group c =
    let f : FitsSigned w64 c.in-Top.top = search rules in
    rw c.in-Top.is ((λ i. Half (word_kept c.in-Top.top f i) (word_kept c.args.word c.ranges.word i)) ∙ sym (half_after c.in-Top.top c.args.word).0)

pub returns-in-Top-clause-none : goal.returns-in-Top-clause-none
returns-in-Top-clause-none c = rw c.in-Top.is (half_after c.in-Top.top c.args.word).1

pub returns-in-Half-clause-group : goal.returns-in-Half-clause-group
returns-in-Half-clause-group c = rw c.in-Half.is (sym (whole_after c.in-Half.top c.in-Half.middle c.args.word).0)

pub returns-in-Half-clause-some : goal.returns-in-Half-clause-some
returns-in-Half-clause-some c =
    let ft : FitsSigned w64 c.in-Half.top = search rules in
    let fm : FitsSigned w64 c.in-Half.middle = search rules in
    let same : group_number (kept w64 c.in-Half.top) (kept w64 c.in-Half.middle)
    (kept w64 c.args.word) ≡ group_number c.in-Half.top c.in-Half.middle c.args.word = λ i. group_number (word_kept c.in-Half.top ft i) (word_kept c.in-Half.middle fm i)
    (word_kept c.args.word c.ranges.word i) in
    let is = number_kept c.number_of-number.result c.in-Half.top c.in-Half.middle c.args.word (c.number_of-number.ensures ∙ same) in
    rw c.in-Half.is ((whole_after c.in-Half.top c.in-Half.middle c.args.word).1 ∙ ap (λ n. ItemMsg (IntItem n) ∷ []) (sym is))
