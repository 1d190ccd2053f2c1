-- What the cases of the reader's answers say, and what the thin form answers and leaves.
use Rattle.std.specs.Prelude.{if◌then◌else◌, Option, option_map}
use Rattle.numbers.specs.{Answer.{Answer, found, failed, refused, ◌>>=◌}, Prelude.{eqb}, Varint.{Numeral}}
use Rattle.border.specs.{Reader.{Reading}, Trace.{Given, reaches, ended}}
use Rattle.border.specs.declared.{place.Point.{Point}, reader.Reader.{Reader}}

-- version 0: the moves that are left, and where the next pair stands; the count comes first
unfoldable pub counted : Reading → Reader → Answer Numeral
counted read s =
    if s.begun
    then found (record { value = s.moves; place = s.place })
    else (read s.place >>= λ count. if eqb count.value 0 then failed else found count)

-- the thin form answers a point, and leaves its state; the end, a failure and a refusal leave the state as it was
abbrev pub shown_of : Answer Given → Answer (Option Point)
shown_of next = next >>= λ given. found (option_map (λ (s : Reader). s.point) given)

abbrev pub left_by : Reader → Answer Given → Reader
left_by s (found (reaches t)) = t
left_by s (found ended) = s
left_by s failed = s
left_by s (refused n) = s
