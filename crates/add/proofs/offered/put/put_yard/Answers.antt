-- `add::offered::put::put_yard` meets its contract.
use Rattle.numbers.proofs.Prelude.{◌*◌, refl, arith}
use Rattle.add.proofs.offered.{Placing.{corners_put, put_back}}
use Rattle.builder.proofs.Counting.{lengths_room}
use Rattle.add.proofs.offered.put.put_yard.Goals as goal

pub overflow_mul-names : goal.overflow_mul-names
overflow_mul-names c =
    omega (arith, lengths_room c.args.builder.names c.args.builder.yards c.requires.few_names (omega (arith, c.requires.few_yards)))

pub overflow_add-names-2 : goal.overflow_add-names-2
overflow_add-names-2 c =
    omega (arith, lengths_room c.args.builder.names c.args.builder.yards c.requires.few_names (omega (arith, c.requires.few_yards)), c.requires.few_names)

pub put_words-requires : goal.put_words-requires
put_words-requires c =
    omega (
      arith,
      lengths_room c.args.builder.names c.args.builder.yards c.requires.few_names (omega (arith, c.requires.few_yards)),
      c.requires.few_names,
      c.requires.few_sizes,
    )

pub returns : goal.returns
returns c =
    record {
      boxes_are = corners_put _ c.args.yard.lats.now c.args.yard.lons.now c.box_of-bounds.ensures c.args.boxes.now _ (4 * c.args.builder.yards) c.put_corners.ensures;
      borders_are = refl;
      lengths_are = c.put_words.ensures.stored;
      texts_are = put_back c.args.texts.now _ c.args.yard.values.now c.args.builder.strings
          c.requires.texts_room c.put_bytes.ensures.stored;
      bytes_are = c.put_bytes-2.ensures.stored;
    }
