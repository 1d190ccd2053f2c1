-- `tzif::local::by_table` meets its contract.
use Rattle.numbers.proofs.Prelude.{refl, ap}
use Rattle.tzif.proofs.{Goods.{type_below, behind_within}, Widths.{transitions_inside}}
use Rattle.tzif.specs.Local.{by_table}
use Rattle.std.specs.Prelude.{Some}
use Rattle.tzif.proofs.local.by_table.Goals as goal

pub returns-then-is_after_last : goal.returns-then-is_after_last
unfolding by_table
returns-then-is_after_last c =
    rw (← c.is_after_last.ensures, c.if-is_after_last.true) refl

pub last_not_after-behind-requires : goal.last_not_after-behind-requires
unfolding by_table
last_not_after-behind-requires c =
    rw c.transitions_of.ensures (record { inside = transitions_inside c.requires.within; rises = c.requires.rising })

pub type_behind-requires : goal.type_behind-requires
type_behind-requires c =
    record { good = c.requires; n_le_timecnt = rw (c.last_not_after-behind.ensures, c.transitions_of.ensures) (behind_within c.requires c.args.instant) }

pub type_in-requires : goal.type_in-requires
type_in-requires c =
    record {
      good = c.requires;
      index_lt_typecnt = rw (c.type_behind.ensures, c.last_not_after-behind.ensures, c.transitions_of.ensures) (type_below c.requires _
          (behind_within c.requires c.args.instant));
    }

pub returns : goal.returns
unfolding by_table
returns c =
    rw (← c.is_after_last.ensures, c.if-is_after_last.false, ← c.transitions_of.ensures, ← c.last_not_after-behind.ensures, ← c.type_behind.ensures) (ap Some
    c.type_in.ensures)
