-- `slip::slip::stamp` meets its contract.
use Rattle.numbers.{proofs.Prelude.{ℕ, rules, not-false, not-true, take, refl, sym, ap, w32, to_z-of_z, arith}}
use Rattle.slip.proofs.{Locals.{as_passed}, Stamps.{Says, no_match, no_hours, not_agreed, no_room, stamped_so}, Zones.{first_at}}
use Rattle.slip.specs.{Hour.{hours_from}, Told.{Seen}}
use Rattle.table.{proofs.{Agreeing.{Gave, gave, refused_so}, Words.{count_slots, slot_is}}, specs.Hits.{slots}}
use Rattle.slip.proofs.slip.stamp.Goals as goal

pub returns-then-count-eq0 : goal.returns-then-count-eq0
returns-then-count-eq0 c =
    no_match c.args.fix _ _ _ _ _ _ (ap (λ (k : ℕ). take k (slots c.args.hits.now)) c.if-count-eq0.true) c.alone.ensures

pub returns-in_err-all : goal.returns-in_err-all
returns-in_err-all c =
    as_passed (Says c.args.fix _ _ _ _ _ _) _ c.from_residual.ensures.1 (no_hours c.args.fix _ _ _ _ _ _ (refused_so _ _ c.hours_of.ensures c.in_err-all.was))

pub returns-then-not-all : goal.returns-then-not-all
returns-then-not-all c =
    let seen : Gave (Seen c.args.map.now c.args.zones.now) (hours_from c.args.map.now c.args.head c.args.zones.now c.args.fix.instant 1 (take c.args.count (slots
    c.args.hits.now))) c.in_ok-all.all = gave _ _ c.hours_of.ensures c.in_ok-all.was in
    let said = seen in
    not_agreed c.args.fix _ _ _ _ _ said.is said.fits _ (not-true _ c.if-not-all.true) c.alone-then-not-all.ensures

pub put_line-length-requires : goal.put_line-length-requires
put_line-length-requires c =
    let seen : Gave (Seen c.args.map.now c.args.zones.now) (hours_from c.args.map.now c.args.head c.args.zones.now c.args.fix.instant 1 (take c.args.count (slots
    c.args.hits.now))) c.in_ok-all.all = gave _ _ c.hours_of.ensures c.in_ok-all.was in
    let said = seen in (
      c.requires.0,
      first_at _ _ _ _ (take c.args.count (slots c.args.hits.now)) said.is said.fits (slot_is c.args.hits.now c.args.count c.requires.0 _ 0 (omega
          (arith, c.if-count-eq0.false)) refl),
    )

pub returns-then-out-length : goal.returns-then-out-length
returns-then-out-length c =
    let seen : Gave (Seen c.args.map.now c.args.zones.now) (hours_from c.args.map.now c.args.head c.args.zones.now c.args.fix.instant 1 (take c.args.count (slots
    c.args.hits.now))) c.in_ok-all.all = gave _ _ c.hours_of.ensures c.in_ok-all.was in
    let said = seen in
    no_room c.args.fix _ _ _ _ _ said.is said.fits (not-false _ c.if-not-all.false) c.put_line-length.ensures refl (omega (arith, c.well_formed.1.1.1.1.1.1.0.1)) _ (omega (
      arith,
      c.if-out-length.true,
      c.put_line-length.ensures.kept,
    )) c.at.ensures

pub returns : goal.returns
returns c =
    let seen : Gave (Seen c.args.map.now c.args.zones.now) (hours_from c.args.map.now c.args.head c.args.zones.now c.args.fix.instant 1 (take c.args.count (slots
    c.args.hits.now))) c.in_ok-all.all = gave _ _ c.hours_of.ensures c.in_ok-all.was in
    let said = seen in
    stamped_so c.args.fix _ _ _ _ _ said.is said.fits (not-false _ c.if-not-all.false) c.put_line-length.ensures refl (omega (arith, c.well_formed.1.1.1.1.1.1.0.1)) c.requires.1
    (omega (arith, c.if-out-length.false, c.put_line-length.ensures.kept)) (sym (count_slots c.args.hits.now c.args.count c.requires.0)) (to_z-of_z w32 _ (let
    told = c.struct_told-1.given in search rules))
