-- `localtime::rule::agrees` meets its contract.
use Rattle.numbers.proofs.Prelude.{arith}
use Rattle.localtime.proofs.rule.{Ways.{last_is, type_is, type_few, type_within, holds_clock, clock_short, clock_found, no_transitions, not_asked, compared}}
use Rattle.tzif.proofs.Widths.{transitions_inside}
use Rattle.localtime.proofs.rule.agrees.Goals as goal

pub returns-then-count-eq0 : goal.returns-then-count-eq0
returns-then-count-eq0 c =
    no_transitions _ _ _ c.if-count-eq0.true

pub time_in-last-requires : goal.time_in-last-requires
time_in-last-requires c =
    rw c.transitions_of.ensures (record { inside = transitions_inside c.requires.0.good.within; i_lt_count = omega (arith, c.if-count-eq0.false) })

pub type_behind-requires : goal.type_behind-requires
type_behind-requires c =
    record { good = c.requires.0.good; n_le_timecnt = omega arith }

pub type_in-found-requires : goal.type_in-found-requires
type_in-found-requires c =
    record { good = c.requires.0.good; index_lt_typecnt = type_few _ _ _ c.type_behind.ensures c.requires.0.good (omega arith) }

pub found_of-requires : goal.found_of-requires
found_of-requires c =
    clock_short _ (holds_clock _ c.in-Some.is c.ask_in.ensures.1)

pub same_found-requires : goal.same_found-requires
same_found-requires c = (
  type_within _ _ _ c.type_behind.ensures c.requires.0.good (omega arith) c.type_in-found.ensures,
  clock_found _ _ (holds_clock _ c.in-Some.is
      c.ask_in.ensures.1) c.found_of.ensures,
)

pub returns : goal.returns
returns c =
    compared _ _ _ c.if-count-eq0.false (last_is _ c.args.block _ c.transitions_of.ensures c.time_in-last.ensures) c.ask_in.ensures.0 c.in-Some.is (type_is _
    _ _ c.type_behind.ensures c.type_in-found.ensures) c.found_of.ensures c.same_found.ensures

pub returns-in_default : goal.returns-in_default
returns-in_default c =
    not_asked _ _ _ c.if-count-eq0.false (last_is _ c.args.block _ c.transitions_of.ensures c.time_in-last.ensures) c.ask_in.ensures.0 c.in_default.is
