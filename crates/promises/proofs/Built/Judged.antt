-- A border of a built file is judged as it is alone, and outside its box says `NotInZone`. Assumes nothing.
use Rattle.numbers.proofs.Prelude.{ℕ, ◌+◌, ◌%◌, ◌^◌, pos, length, length-append, Bool, false, List, ◌++◌, ◌≡◌, sym, ap, subst, ◌∙◌, arith}
use Rattle.verdict.{proofs.OutsideBox.{outside_box}, specs.{Verdict.{reached, none, judge, judged_at}, declared.step.Verdict.TheVariants.{NotInZone}}}
use Rattle.writer.{proofs.WrittenTrace.{written_trace}, specs.{Moves.{points_of}, WrittenAt.{WrittenAt}}}
use Rattle.border.specs.{Encoding.{encoding_of}, Trace.{trace_of, border_at}, Written.{round_trip}, declared.place.Point.{Point}}
use Rattle.builder.specs.{Borders.{Drawn}, File.{Room}, Yards.{Plan}}
use Rattle.promises.proofs.Built.{Boxes.{boxes_same}, Drawn.{accepted_checked}, Parts.{Built, front, data_behind, front_length}, Seating.{Sits}}
use Rattle.promises.specs.Built.{Finds.{judged_alone}, Seats.{Entered, bounds_in, table_in, metadata_in, table_place, head_in}}
use Rattle.table.specs.{Ordered.{bounds_around}, Search.{judge_in}, Table.{holds}}
use Rattle.border.specs.Box as B

module _ (plan : Plan) (room : Room) (file : List ℕ) (b : Built plan room file) (e : Entered) (s : Sits plan b.drawn e) where
  abbrev drawn : Drawn
  drawn = b.drawn

  abbrev base : ℕ
  base = table_place plan drawn + (length (table_in plan drawn) + length (metadata_in plan))

  -- the border stands at its place, behind the data so far
  pub written_there : WrittenAt plan.version e.yard.lats e.yard.lons file base ((base + e.entry.border) % 2 ^ 32)
  written_there = let lies = s.lies in let before = front_length plan drawn file b.is in
      let layout : file ≡ front plan drawn file b.is ++ (lies.earlier ++ (lies.bytes ++ lies.rest)) = data_behind plan drawn file b.is
      ∙ ap (λ (l : List ℕ). front plan drawn file b.is ++ l) lies.whole in
      let size = ap length layout ∙ (length-append (front plan drawn file b.is) (lies.earlier ++ (lies.bytes ++ lies.rest))) in
      let more = length-append lies.earlier (lies.bytes ++ lies.rest) in
      let begins : e.entry.border ≡ length lies.earlier = ap (λ entry. entry.border) s.is ∙ lies.begins in record {
        pieces = e.yard.pieces;
        earlier = lies.earlier;
        bytes = lies.bytes;
        accepted = lies.accepted;
        placed = record {
          header = front plan drawn file b.is;
          rest = lies.rest;
          layout = layout;
          data_section = sym before;
          border_place = omega (arith, before, begins, size, more, b.small);
          size = b.small;
        };
      }

  -- its trace there is the yard's border: its points, then the first again, closed
  pub trace_there : trace_of file (encoding_of plan.version base) (border_at ((base + e.entry.border) % 2 ^ 32)) ≡ round_trip (points_of e.yard.lats e.yard.lons)
  trace_there = written_trace written_there

  -- judged at its place it is judged as alone
  pub judged_alone_lem : (fix : Point) (asked : Bool) (least : ℕ) → judge_in file (head_in false plan drawn) fix asked e.entry.border least ≡ judged_alone e.yard fix asked least
  unfolding head_in judged_at judged_alone
  judged_alone_lem fix asked least = ap (judge fix asked none (record { winding = pos 0; least = least })) trace_there

  -- outside its box it says `NotInZone`
  pub outside_alone : (fix : Point) (least : ℕ) → holds (bounds_in e.entry.bounds) fix ≡ false → judged_alone e.yard fix false least ≡ reached NotInZone least
  unfolding judged_alone
  outside_alone fix least out =
      let good = accepted_checked plan.version e.yard.lats e.yard.lons e.yard.pieces s.lies.earlier s.lies.bytes s.lies.accepted in
      let box : bounds_in e.entry.bounds ≡ bounds_around (B.box_of (points_of e.yard.lats e.yard.lons)) = ap (λ entry. bounds_in entry.bounds) s.is
      ∙ boxes_same e.yard.lats e.yard.lons good.sizes in
      outside_box (points_of e.yard.lats e.yard.lons) fix least (subst (λ bounds. holds bounds fix ≡ false) box out)
