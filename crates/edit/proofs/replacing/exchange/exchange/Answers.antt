-- `edit::replacing::exchange::exchange` meets its contract.
use Rattle.numbers.proofs.Prelude.{◌-◌, rules, length-take-le, sym, arith}
use Rattle.edit.proofs.replacing.{Exchanges.{tail_short, exchanged_longer, exchanged_shorter}}
use Rattle.edit.proofs.replacing.exchange.exchange.Goals as goal

pub put_bytes-requires : goal.put_bytes-requires
put_bytes-requires c =
    tail_short c.args.place c.args.from c.args.strings c.args.text.now c.args.texts.now c.args.out.now c.requires

pub put_bytes-next-requires : goal.put_bytes-next-requires
put_bytes-next-requires c =
    omega (arith, c.requires.few, c.requires.short, c.requires.inside, c.requires.ordered)

pub slice_bounds-put_bytes-end-3 : goal.slice_bounds-put_bytes-end-3
slice_bounds-put_bytes-end-3 c =
    sym (length-take-le _ _ ((search rules)))

pub put_bytes-end-requires : goal.put_bytes-end-requires
put_bytes-end-requires c =
    omega (
      arith,
      length-take-le (c.args.strings - c.args.from) c.put_bytes.new.out (search rules),
      c.put_bytes-next.ensures.place_after,
      c.requires.few,
      c.requires.short,
      c.requires.inside,
      c.requires.ordered,
    )

pub returns-then-strings-end : goal.returns-then-strings-end
returns-then-strings-end c =
    exchanged_longer _ _ _ _ _ _ c.requires _ _ _ _ _ _ c.put_bytes.ensures c.put_bytes-next.ensures c.put_bytes-end.ensures c.if-strings-end.true

pub returns : goal.returns
returns c =
    exchanged_shorter _ _ _ _ _ _ c.requires _ _ _ _ _ _ c.put_bytes.ensures c.put_bytes-next.ensures c.put_bytes-end.ensures c.if-strings-end.false _ c.zero.ensures
