-- What the functions that work out the marks of a border say of each other.
use Rattle.std.specs.Prelude.{Option, Some, None}
use Rattle.numbers.specs.{Answer.{Answer, found, failed}, Prelude.{ℕ, List}}
use Rattle.border.specs.{Box.{Box}, declared.reader.{Encoding.{Encoding}, Reader.{Reader}}}
use Rattle.marks.specs.Marks.{Span, spanned, counted, levels_from}
use Rattle.atlas.specs.declared.{course.Course.{Course}, span.{Frame.{Frame}, Reach.{Reach}}}

-- ---- what the structs say
abbrev pub boxed : Frame → Box
boxed frame = record { low = frame.low; high = frame.high }

abbrev pub told_reach : Reach → Span
told_reach reach = spanned (boxed reach.frame) reach.last

-- so many edges of a border that comes round, or none
abbrev pub told_edges : Option ℕ → Answer ℕ
told_edges (Some n) = found n
told_edges None = failed

-- ---- a border's marks, from its first state and how many stretches it has
abbrev pub marks_of : List ℕ → Encoding → Course → List ℕ
marks_of file encoding course = counted course.count (levels_from course.count file encoding course.first)
