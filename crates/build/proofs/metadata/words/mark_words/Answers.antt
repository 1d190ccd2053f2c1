-- `build::metadata::words::mark_words` meets its contract.
use Rattle.numbers.proofs.Prelude.{arith}
use Rattle.build.proofs.metadata.{Worded.{words_start, size_room, remote_room, words_inside, sums_room, words_go, words_end}}
use Rattle.build.proofs.metadata.words.mark_words.Goals as goal

pub loop-i-init : goal.loop-i-init
loop-i-init c =
    words_start _ _ c.requires.0.whole _ c.requires.0.bound

pub inlined_size-requires : goal.inlined_size-requires
inlined_size-requires c =
    size_room _ _ c.requires.0.whole _ _ _ _ _ c.loop-i.invariant c.requires.1 c.loop-i-test.true

pub with_field-sums-requires : goal.with_field-sums-requires
with_field-sums-requires c = (
  sums_room _ _ c.requires.0.whole _ _ _ _ _ c.loop-i.invariant c.requires.1 c.loop-i-test.true _ c.inlined_size.ensures,
  remote_room _ _ c.requires.0.whole _ _
      _ _ _ c.loop-i.invariant c.requires.1 c.loop-i-test.true,
)

pub loop-i-preserved : goal.loop-i-preserved
loop-i-preserved c =
    words_go _ _ c.requires.0.whole _ _ _ _ _ c.loop-i.invariant c.requires.1 c.loop-i-test.true _ _ _ _ c.word_of-word.ensures c.inlined_size.ensures
    c.with_field-sums.ensures

pub returns : goal.returns
returns c =
    words_end _ _ c.requires.0.whole _ _ _ _ _ c.loop-i.invariant c.loop-i-test.false
