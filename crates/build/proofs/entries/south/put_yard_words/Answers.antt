-- `build::entries::south::put_yard_words` meets its contract.
use Rattle.numbers.proofs.Prelude.{◌*◌, pos, get_or, ap, ◌∙◌, w32, SFits, arith}
use Rattle.build.proofs.entries.{Southern.{yard_word, word_fits}}
use Rattle.builder.{proofs.grouping.Listed.{list_starts, list_goes, list_ends}, specs.Entries.{from_south}}
use mir.Facts.{to_z-of_z}
use Rattle.build.proofs.entries.south.put_yard_words.Goals as goal

pub overflow_mul-keys : goal.overflow_mul-keys
overflow_mul-keys c =
    let z = get_or c.args.boxes.now (4 * c.loop-yard.yard) (pos 0) in
    let h : SFits w32 z = record { sfits = c.from_south-arg-1.given } in
    omega (arith, word_fits z h c.from_south-up.result (c.from_south-up.ensures ∙ ap from_south (to_z-of_z h)))

pub overflow_add-keys : goal.overflow_add-keys
overflow_add-keys c =
    let z = get_or c.args.boxes.now (4 * c.loop-yard.yard) (pos 0) in
    let h : SFits w32 z = record { sfits = c.from_south-arg-1.given } in
    omega (
      arith,
      c.loop-yard-test.true,
      c.loop-yard.invariant.left.size,
      c.requires.1,
      word_fits z h c.from_south-up.result (c.from_south-up.ensures
          ∙ ap from_south (to_z-of_z h)),
    )

pub loop-yard-preserved : goal.loop-yard-preserved
loop-yard-preserved c =
    let z = get_or c.args.boxes.now (4 * c.loop-yard.yard) (pos 0) in
    let h : SFits w32 z = record { sfits = c.from_south-arg-1.given } in
    list_goes _ _ _ _ c.loop-yard.invariant (omega (arith, c.loop-yard-test.true, c.loop-yard.invariant.left.size)) _ (yard_word c.args.boxes.now _ _ (omega (
      arith,
      c.loop-yard-test.true,
      c.loop-yard.invariant.left.size,
      c.requires.1,
    )) (c.from_south-up.ensures ∙ ap from_south (to_z-of_z h)))

pub returns : goal.returns
returns c =
    list_ends _ _ _ _ c.loop-yard.invariant (omega (arith, c.loop-yard-test.false, c.loop-yard.invariant.left.size))
