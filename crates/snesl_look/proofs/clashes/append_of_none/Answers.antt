use Rattle.std.proofs.Common.{codes}
use Rattle.snesl_look.proofs.Appended.{two_appended}
use Rattle.snesl_look.proofs.clashes.append_of_none.Goals as goal

pub returns : goal.returns
returns c =
    two_appended c.extend_from_slice-2.result c.args.note.now.items c.extend_from_slice.new.self.items
    c.extend_from_slice-2.new.self.items (codes "there is no ") c.args.word.now c.in_ok-extend_from_slice.ensures.items
    c.extend_from_slice-2.ensures.items
