-- What holds of a builder that calls have made: nothing that it holds is refused, but for the length of the whole file.
use Rattle.std.specs.Prelude.{◌≤◌, ◌≡◌}
use Rattle.numbers.specs.{Prelude.{ℕ, eqb, leb, length, true}, Reply.{given}}
use Rattle.builder.specs.{Borders.{Drawn, drawn_of}, File.{Room, borders_good, known, readable, up_to}, Yards.{Plan}}
use Rattle.writer.specs.Writer.{every}
use Rattle.draft.specs.Held.Space.{Space}

pub record Sound (plan : Plan) (room : ℕ) : Type 0 where
  pub borders : borders_good plan.yards ≡ given tt
  pub few : length plan.yards ≤ 4096
  pub named : leb (length plan.names) 255 ≡ true
  pub numbered : plan.numbered ≡ true
  pub valued : every (λ y. eqb (length plan.names) (length y.values)) plan.yards ≡ true
  pub texts : readable plan ≡ true
  pub form : known plan ≡ true
  pub drawn : Drawn
  pub draws : drawn_of plan.version (up_to room) plan.yards ≡ given drawn

-- the room of a build that is to answer as the builder does
abbrev pub room_for : ℕ → Space → Room
room_for room space = record { file = room; bytes = space.bytes; work = space.lists }
