-- What a step makes of a builder's numbers. Assumes nothing.
use Rattle.numbers.{proofs.Prelude.{ℕ, ◌+◌, ◌-◌, ◌*◌, ◌<◌, ℤ, length, take, length-take-le, List, ◌≡◌, refl, sym, ap, subst, ◌∙◌, arith}, specs.declared.refusal.Refusal.{Refusal}}
use Rattle.builder.specs.{Borders.{Drawn}, Yards.{Yard}}
use Rattle.add.specs.inner.{Growing.Joins.{measured_as, totals_with}, Surely.Sure.{Growths, SureRoom, Weighing, totals_by}}
use Rattle.draft.specs.declared.held.state.Held.{Held}
use Rattle.notes.specs.{declared.quick.step.Stepped.{Stepped}, inner.Quick.Steps.{Room, Stepping, Steps}}
use Rattle.numbers.specs.Reply.{Reply, given, refused}
use Rattle.std.specs.Prelude.{Option, Some}

-- ---- the marks that are lent
pub ends_in : (yards names : ℕ) (marks : List ℕ) → (yards + 1) * names < length marks → length (take ((yards + 1) * names + 1) marks) ≡ (yards + 1) * names + 1
ends_in yards names marks h = length-take-le ((yards + 1) * names + 1) marks (omega arith)

pub step_room : (held : Held) (boxes borders : ℕ) (marks : List ℕ) (chains groups begins : ℕ) → SureRoom held boxes borders (length marks) chains groups begins
    → Room held.names held.yards boxes borders (length (take ((held.yards + 1) * held.names + 1) marks)) chains groups begins
step_room held boxes borders marks chains groups begins r = let n = r.noted in record {
  few_names = r.few_names;
  few_yards = r.few_yards;
  boxed = r.boxed;
  bordered = r.bordered;
  started = ends_in held.yards held.names marks n.marked;
  chained = n.chained;
  grouped = omega (arith, n.grouped);
  begun = omega (arith, n.begun);
}

-- the greatest lower latitude is passed on as a signed number
pub weighs : (held : Held) (noted : ℕ) (boxes : List ℤ) (borders texts marks chains groups begins : List ℕ) (r : Option Stepped) (greatest : ℤ) → greatest ≡ held.greatest
    → ((yards : List Yard) (y : Yard) (drawn drawn' : Drawn) (lengths : List ℕ) → Stepping yards y drawn drawn' held.names held.yards
    (record { records = noted - 1; metadata = held.metadata; table = held.table; greatest = greatest }) boxes borders lengths (take ((held.yards + 1) * held.names + 1) marks)
    texts chains groups begins → Steps yards y drawn' r) → Weighing held noted boxes borders texts marks chains groups begins r
weighs held noted boxes borders texts marks chains groups begins r greatest e told = λ yards y drawn drawn' lengths s.
    told yards y drawn drawn' lengths
    (subst (λ (z : ℤ). Stepping yards y drawn drawn' held.names held.yards (record { records = noted - 1; metadata = held.metadata; table = held.table; greatest = z }) boxes borders
    lengths (take ((held.yards + 1) * held.names + 1) marks) texts chains groups begins) (sym e) s)

-- ---- the builder's numbers
module _ (held : Held) (strings size : ℕ) (weighed : Option Stepped) (s : Stepped) (sure : weighed ≡ Some s) (greatest : ℤ) (same : greatest ≡ s.greatest) (records : ℕ) (r : Reply Held)
    (e : r ≡ measured_as held strings (totals_with held size (record { table = s.table; metadata = s.metadata; greatest = greatest; records = records }))) where
  by_step : r ≡ measured_as held strings (totals_by held size s)
  by_step = e ∙ ap (λ (z : ℤ). measured_as held strings (record { table = s.table; metadata = s.metadata; bytes = held.bytes + size; yards = held.yards + 1; greatest = z })) same

  pub grows_into : (next : Held) → r ≡ given next → Growths held strings size weighed (given (Some (record { held = next; noted = s.records + 1; begin = s.begin })))
  unfolding Growths
  grows_into next is = (s, (sure, (sym is ∙ by_step, (omega arith, refl))))

  pub grows_not : (why : Refusal) → r ≡ refused why → Growths held strings size weighed (refused why)
  unfolding Growths
  grows_not why is = (s, (sure, sym is ∙ by_step))
