-- The names of a TZ string.
use Rattle.std.specs.Prelude.{if◌then◌else◌, ◌+◌, ◌-◌}
use Rattle.numbers.specs.Prelude.{ℕ, zero, suc, eqb, ltb, length, Bool, true, false, List}
use Rattle.tzrule.specs.{Answer.{Answer, read, fault, if_byte}, Text.{byte_at, is_digit}, declared.name.Span.{Span}}

-- A to Z, a to z
unfoldable pub is_letter : ℕ → Bool
is_letter byte = if ltb byte 65 then false else if ltb byte 91 then true else if ltb byte 97 then false else ltb byte 123

-- the bytes of a name; in brackets digits and signs too
unfoldable pub in_name : Bool → ℕ → Bool
in_name quoted byte = if is_letter byte then true else if quoted then (if is_digit byte then true else if eqb byte 43 then true else eqb byte 45) else false

-- the place behind the bytes of a name, which are at most so many
unfoldable pub name_end : ℕ → Bool → List ℕ → ℕ → ℕ
name_end zero quoted text at = at
name_end (suc more) quoted text at = if in_name quoted (byte_at text at) then name_end more quoted text (at + 1) else at

-- the place behind the bytes of a name
unfoldable pub end_of : Bool → List ℕ → ℕ → ℕ
end_of quoted text at = name_end (length text - at) quoted text at

-- three letters or more; a fault where one is wanted
unfoldable pub bare_of : List ℕ → ℕ → Answer Span
bare_of text at =
    if ltb (end_of false text at) (at + 3) then fault (end_of false text at)
    else read (record { start = at; end = end_of false text at }) (end_of false text at)

-- three bytes or more and the closing bracket, behind the opening one; the name is without them
unfoldable pub quoted_of : List ℕ → ℕ → Answer Span
quoted_of text at =
    if ltb (end_of true text at) (at + 3) then fault (end_of true text at)
    else if eqb (byte_at text (end_of true text at)) 62 then read (record { start = at; end = end_of true text at }) (end_of true text at + 1)
    else fault (end_of true text at)

-- a name
unfoldable pub name_of : List ℕ → ℕ → Answer Span
name_of text = if_byte text 60 (quoted_of text) (bare_of text)
