-- `numbers::write::write_varint` meets its contract. The loop keeps `Writing`: what is left of the number, and of its bytes.
use Rattle.numbers.proofs.{Prelude.{rules, ◌∙◌, arith}, write.{Putting.{put_length, Writing, begun, ended, onward, tenth_small, ended_tenth}}}
use Rattle.numbers.proofs.write.write_varint.Given as goal

abbrev pub invariant-loop-left : goal.invariant-loop-left
invariant-loop-left l = Writing l.initial.out l.place l.value l.out l.next l.rest l.left

abbrev pub decreases-loop-left : goal.decreases-loop-left
decreases-loop-left l = l.left
