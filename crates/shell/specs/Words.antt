-- The words of the refusals that a slip can meet; docs/FORMAT.md and docs/TZIF.md have the tables.
use Rattle.std.specs.Prelude.{if◌then◌else◌, ◌-◌, ◌≤◌, ◌∷◌, ◌≡◌}
use Rattle.numbers.specs.Prelude.{ℕ, zero, suc, eqb, List, []}
use Prim.Native.String.{String}
use Rattle.shell.specs.Text.{bytes}

unfoldable pub table : List (ℕ × String)
table =
    (1, "file, or the writer's earlier data, over 1,073,741,824 bytes") ∷
    (2, "under 7 bytes") ∷
    (3, "magic") ∷
    (4, "table type") ∷
    (5, "version 2 or more") ∷
    (6, "field name") ∷
    (7, "notice") ∷
    (8, "first size can't be read") ∷
    (9, "second size can't be read") ∷
    (10, "third size can't be read") ∷
    (11, "length mismatch") ∷
    (12, "eleventh varint byte") ∷
    (13, "an integer step leaves its range") ∷
    (14, "string byte past the end") ∷
    (15, "field value") ∷
    (16, "precision 0 or above 32") ∷
    (17, "more hits than slots") ∷
    (18, "text doesn't fit") ∷
    (40, "a header does not begin with TZif") ∷
    (41, "version missing, unknown, or the second header's not the first's") ∷
    (42, "the file ends inside a header") ∷
    (43, "isutcnt is neither 0 nor typecnt") ∷
    (44, "isstdcnt is neither 0 nor typecnt") ∷
    (45, "typecnt is 0") ∷
    (46, "charcnt is 0") ∷
    (47, "the file ends inside the data block") ∷
    (48, "a transition time not above the one before it") ∷
    (49, "a transition type not below typecnt") ∷
    (50, "a utoff of -2^31") ∷
    (51, "an isdst other than 0 and 1") ∷
    (52, "a desigidx not below charcnt") ∷
    (53, "no NUL at or after desigidx") ∷
    (54, "a leap-second occurrence too early") ∷
    (55, "a leap-second correction not 1 away from the one before it") ∷
    (56, "a standard/wall indicator other than 0 and 1") ∷
    (57, "a UT/local indicator that is not allowed") ∷
    (58, "a footer that is not newline, string, newline") ∷
    (59, "bytes behind the end") ∷
    (60, "no TZ string, or one that contradicts the last transition") ∷
    (61, "the rule's instant, or the clock, is outside the years 1 to 9999") ∷
    (80, "not a request") ∷
    (81, "the receiver has no fix") ∷
    (82, "the checksum is wrong") ∷
    (83, "another sentence") ∷
    (84, "out of range") ∷
    (85, "the search was not whole") ∷
    (86, "no zone holds the fix") ∷
    (87, "not a map of time zones") ∷
    (88, "the zone is not in the bundle") ∷
    (89, "the bundle is damaged") ∷
    (90, "the local time is unknown") ∷
    (91, "the zone's file counts leap seconds") ∷
    (92, "the hours differ") ∷
    []

-- the words beside a number; none where it is not in the table
unfoldable pub words_in : List (ℕ × String) → ℕ → String
words_in [] number = ""
words_in ((known, words) ∷ more) number = if eqb number known then words else words_in more number

unfoldable pub words_of : ℕ → String
words_of number = words_in table number

-- ---- as the code keeps them: texts with a line for each number from a first on
-- the line with this number, from 0 on, without its LF
unfoldable pub line_at : ℕ → List ℕ → List ℕ
line_at number [] = []
line_at zero (byte ∷ text) = if eqb byte 10 then [] else (byte ∷ line_at zero text)
line_at (suc number) (byte ∷ text) = if eqb byte 10 then line_at number text else line_at (suc number) text

-- a text, whose first line has this number, has the table's words of another
pub record Says (text : List ℕ) (first number : ℕ) : Type 0 where
  pub starts : first ≤ number
  pub line : line_at (number - first) text ≡ bytes (words_of number)
