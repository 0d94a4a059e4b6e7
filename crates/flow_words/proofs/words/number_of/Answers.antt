use Rattle.std.proofs.Common.{rules, ◌≡◌, ◌∙◌}
use Rattle.flow_words.specs.Words.{group_number}
use Rattle.flow_words.proofs.Digits.{number_is}
use Rattle.flow_words.proofs.words.number_of.Goals as goal

pub returns : goal.returns
returns c =
    let top : c.from-high.result ≡ c.args.top = search rules in
    let middle : c.from.result ≡ c.args.middle = search rules in
    let low : c.from-2.result ≡ c.args.low = search rules in
    number_is c.from-high.result c.from.result c.from-2.result ∙ (λ i. group_number (top i) (middle i) (low i))
