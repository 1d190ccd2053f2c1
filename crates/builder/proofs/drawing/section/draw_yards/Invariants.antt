-- `builder::drawing::section::draw_yards` meets its contract.
use Rattle.numbers.proofs.Prelude.{length, ◌≡◌}
use Rattle.builder.proofs.drawing.{Sections.{Section}}
use Rattle.builder.proofs.drawing.section.draw_yards.Given as goal

abbrev pub invariant-loop-count : goal.invariant-loop-count
invariant-loop-count l =
    Section l.version l.room l.yards l.lats l.lons l.pieces l.initial.places (length l.initial.bytes) l.places l.bytes l.size l.lat l.lon l.piece l.count-iterator.iter.rest.now l.count-iterator.iter.size l.count-iterator.count × (length l.out ≡ length l.initial.out)
