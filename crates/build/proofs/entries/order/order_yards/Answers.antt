-- `build::entries::order::order_yards` meets its contract.
use Rattle.build.proofs.entries.{Ordering.{words_there, words_room, in_order}}
use Rattle.build.proofs.entries.order.order_yards.Goals as goal

pub returns : goal.returns
returns c =
    in_order _ _ _ _ _ _ c.requires.0 _ c.box_yards.ensures c.requires.1 c.requires.2 c.requires.3 _ c.put_yard_words.ensures _ _ _ c.sort.ensures
