-- `header::utf8::begin` meets its contract.
use Rattle.numbers.proofs.Prelude.{refl, ap, ◌∙◌, arith}
use Rattle.header.proofs.utf8.{Octets.{inside, above, below}}
use Rattle.header.specs.Utf8.{told_step, characters, started_by, begun_by}
use Rattle.header.proofs.utf8.begin.Goals as goal

pub returns-in-224 : goal.returns-in-224
unfolding begun_by characters started_by
returns-in-224 c =
    ap told_step c.wants.ensures ∙ rw c.in-224.is refl

pub returns-in-237 : goal.returns-in-237
unfolding begun_by characters started_by
returns-in-237 c =
    ap told_step c.wants-in-237.ensures ∙ rw c.in-237.is refl

pub returns-in-240 : goal.returns-in-240
unfolding begun_by characters started_by
returns-in-240 c =
    ap told_step c.wants-in-240.ensures ∙ rw c.in-240.is refl

pub returns-in-244 : goal.returns-in-244
unfolding begun_by characters started_by
returns-in-244 c =
    ap told_step c.wants-in-244.ensures ∙ rw c.in-244.is refl

pub returns-in-0-to-127 : goal.returns-in-0-to-127
unfolding begun_by characters started_by
returns-in-0-to-127 c =
    simp (inside c.args.first 0x00 0x7F (omega arith) (omega arith)) (ap told_step c.wants-in-0-to-127.ensures)

pub returns-in-194-to-223 : goal.returns-in-194-to-223
unfolding begun_by characters started_by
returns-in-194-to-223 c =
    simp (above c.args.first 0x00 0x7F (omega arith) (omega arith), inside c.args.first 0xC2 0xDF (omega arith) (omega arith)) (ap told_step
    c.wants-in-194-to-223.ensures)

pub returns-in-225-to-236 : goal.returns-in-225-to-236
unfolding begun_by characters started_by
returns-in-225-to-236 c =
    simp (
      above c.args.first 0x00 0x7F (omega arith) (omega arith),
      above c.args.first 0xC2 0xDF (omega arith) (omega arith),
      above c.args.first 0xE0 0xE0 (omega
          arith) (omega arith),
      inside c.args.first 0xE1 0xEC (omega arith) (omega arith),
    ) (ap told_step c.wants-in-225-to-236.ensures)

pub returns-in-238-to-239 : goal.returns-in-238-to-239
unfolding begun_by characters started_by
returns-in-238-to-239 c =
    simp (
      above c.args.first 0x00 0x7F (omega arith) (omega arith),
      above c.args.first 0xC2 0xDF (omega arith) (omega arith),
      above c.args.first 0xE0 0xE0 (omega
          arith) (omega arith),
      above c.args.first 0xE1 0xEC (omega arith) (omega arith),
      above c.args.first 0xED 0xED (omega arith) (omega arith),
      inside c.args.first
          0xEE 0xEF (omega arith) (omega arith),
    ) (ap told_step c.wants-in-238-to-239.ensures)

pub returns-in-241-to-243 : goal.returns-in-241-to-243
unfolding begun_by characters started_by
returns-in-241-to-243 c =
    simp (
      above c.args.first 0x00 0x7F (omega arith) (omega arith),
      above c.args.first 0xC2 0xDF (omega arith) (omega arith),
      above c.args.first 0xE0 0xE0 (omega
          arith) (omega arith),
      above c.args.first 0xE1 0xEC (omega arith) (omega arith),
      above c.args.first 0xED 0xED (omega arith) (omega arith),
      above c.args.first
          0xEE 0xEF (omega arith) (omega arith),
      above c.args.first 0xF0 0xF0 (omega arith) (omega arith),
      inside c.args.first 0xF1 0xF3 (omega arith) (omega arith),
    )
    (ap told_step c.wants-in-241-to-243.ensures)

pub returns-in_default : goal.returns-in_default
unfolding begun_by characters started_by
returns-in_default c =
    simp (
      above c.args.first 0x00 0x7F (omega arith) (omega arith),
      below c.args.first 0xC2 0xDF (omega arith),
      below c.args.first 0xE0 0xE0 (omega arith),
      below
          c.args.first 0xE1 0xEC (omega arith),
      below c.args.first 0xED 0xED (omega arith),
      below c.args.first 0xEE 0xEF (omega arith),
      below c.args.first 0xF0 0xF0
          (omega arith),
      below c.args.first 0xF1 0xF3 (omega arith),
      below c.args.first 0xF4 0xF4 (omega arith),
    )

pub returns-in_default-2 : goal.returns-in_default-2
unfolding begun_by characters started_by
returns-in_default-2 c =
    simp (
      above c.args.first 0x00 0x7F (omega arith) (omega arith),
      above c.args.first 0xC2 0xDF (omega arith) (omega arith),
      above c.args.first 0xE0 0xE0 (omega
          arith) (omega arith),
      above c.args.first 0xE1 0xEC (omega arith) (omega arith),
      above c.args.first 0xED 0xED (omega arith) (omega arith),
      above c.args.first
          0xEE 0xEF (omega arith) (omega arith),
      above c.args.first 0xF0 0xF0 (omega arith) (omega arith),
      above c.args.first 0xF1 0xF3 (omega arith) (omega arith),
      above c.args.first 0xF4 0xF4 (omega arith) (omega arith),
    )
