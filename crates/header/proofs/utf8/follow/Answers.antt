-- `header::utf8::follow` meets its contract.
use Rattle.numbers.proofs.Prelude.{◌-◌, sym, ap, ◌∙◌}
use Rattle.header.proofs.utf8.{Octets.{first_byte, too_low, too_high, right, tails}}
use Rattle.header.specs.Utf8.{told_step}
use Rattle.header.proofs.utf8.follow.Goals.{then-byte-pending-via-then-byte-pending, then-byte-pending-via-else-byte-pending+then-pending-byte}
use Rattle.header.proofs.utf8.follow.Goals as goal

pub returns-then-pending-eq0 : goal.returns-then-pending-eq0
returns-then-pending-eq0 c =
    c.begin.ensures ∙ first_byte _ _ c.if-pending-eq0.true

pub returns-then-byte-pending : goal.returns-then-byte-pending
returns-then-byte-pending c =
    elim c.then-byte-pending.branch [
      | then-byte-pending-via-then-byte-pending w ↦ too_low c.args.pending c.args.byte c.if-pending-eq0.false w.if-byte-pending.true
      | then-byte-pending-via-else-byte-pending+then-pending-byte w ↦ too_high c.args.pending c.args.byte c.if-pending-eq0.false w.if-byte-pending.false w.if-pending-byte.true
    ]

pub returns : goal.returns
returns c =
    ap told_step c.wants.ensures ∙ sym (tails (c.args.pending.left - 1)) ∙ right c.args.pending c.args.byte c.if-pending-eq0.false c.if-byte-pending.false
    c.if-pending-byte.false
