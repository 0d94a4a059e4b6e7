use Rattle.std.proofs.Common.{◌≡◌, ◌≤◌, ◌+◌, drop}
use Rattle.snesl_draw.specs.Forms.{closed_len}
use Rattle.snesl_draw.proofs.forms.closed_len.Given as goal

abbrev pub invariant-loop-byte : goal.invariant-loop-byte
invariant-loop-byte l = record {
  counted : l.len ≡ l.byte-index;
  shallow : l.depth ≤ l.byte-index;
  others : closed_len 0 l.least l.text ≡ l.byte-index + closed_len l.depth l.left (drop l.byte-index l.text);
}
