use Rattle.std.proofs.Common.{length, ap, sym, ◌∙◌, arith}
use Rattle.std.proofs.lemmas.Option.{slice_get_within, unwrap_or-slice_get}
use Rattle.std.specs.Prelude.{unwrap_or, ◌-◌}
use Rattle.flow_messages.specs.Signals.{is_stop, signal_of}
use Rattle.flow_messages.specs.Flats.{message_of}
use Rattle.flow_rings.proofs.Flats.{last_ends, none_ends}
use Rattle.flow_rings.proofs.writer.ends.Goals as goal

pub returns-in-Some : goal.returns-in-Some
returns-in-Some c =
    let xs = c.args.block.now in
    let x = c.in-Some.flat.now in
    let there = c.in-Some.ensures.value in
    let low = slice_get_within xs (length xs - 1) x (sym there) in
    let is = ap (λ o. unwrap_or o x) there ∙ unwrap_or-slice_get xs (length xs - 1) x in
    c.is_end.ensures ∙ ap (λ y. is_stop (signal_of (message_of y))) is ∙ last_ends xs (length xs - 1) x (omega (arith, low)) c.requires

pub returns-in-None : goal.returns-in-None
returns-in-None c = none_ends c.args.block.now (sym c.in-None.ensures.value)
