-- What a file is built of: document 02, Q-4, "from yards (borders with pieces, field values, names, notice, precision, type, version)".
use Rattle.std.specs.Prelude.{if◌then◌else◌, ◌+◌, ◌-◌, ◌*◌, ◌/◌, ◌&&◌, ◌∷◌}
use Rattle.numbers.specs.Prelude.{ℕ, eqb, ltb, leb, ℤ, length, take, drop, get_or, Bool, List, []}
use Rattle.writer.specs.{Pieces.{pieces_of}, Writer.{every}, declared.write.Piece.{Piece}}

-- a text is its bytes
abbrev pub Text : Type 0
Text = List ℕ

pub record Yard : Type 0 where
  pub lats : List ℤ
  pub lons : List ℤ
  pub pieces : List Piece
  pub values : List Text
  -- the list of pieces ends too early
  pub cut : Bool

pub record Plan : Type 0 where
  pub kind : ℕ
  pub version : ℕ
  pub precision : ℕ
  pub names : List Text
  pub notice : Text
  pub yards : List Yard
  -- every yard has a value for each name, and no other
  pub numbered : Bool
  -- no text is cut by the end of its list
  pub whole : Bool

-- ---- plans as they are lent: flat lists, and how many items of them each yard has
pub record Lent : Type 0 where
  pub kind : ℕ
  pub version : ℕ
  pub precision : ℕ
  pub names : ℕ
  -- four words a yard: how many latitudes, longitudes, pieces and values
  pub yards : List ℕ
  pub lats : List ℤ
  pub lons : List ℤ
  -- five words a piece
  pub pieces : List ℕ
  -- of the names, the notice and the values, yard by yard
  pub lengths : List ℕ
  pub texts : List ℕ

-- one part after the other, each of so many items; the last may be cut by the list's end
unfoldable pub cut_by : {A : Type 0} → List ℕ → List A → List (List A)
cut_by [] xs = []
cut_by (n ∷ ns) xs = take n xs ∷ cut_by ns (drop n xs)

-- so many items of a list that has them, else none: a border without points is refused
unfoldable pub part_of : {A : Type 0} → ℕ → List A → List A
part_of n xs = if leb n (length xs) then take n xs else []

unfoldable pub sum_of : List ℕ → ℕ
sum_of [] = 0
sum_of (n ∷ ns) = n + sum_of ns

-- a remainder of words is no yard
unfoldable pub yards_from : List ℕ → List ℤ → List ℤ → List ℕ → List Text → List Yard
yards_from (lats ∷ lons ∷ pieces ∷ values ∷ rest) ys xs words texts =
    record {
      lats = part_of lats ys;
      lons = part_of lons xs;
      pieces = pieces_of (take (5 * pieces) words);
      values = take values texts;
      cut = ltb (length words) (5 * pieces);
    }
    ∷ yards_from rest (drop lats ys) (drop lons xs) (drop (5 * pieces) words) (drop values texts)
yards_from (lats ∷ lons ∷ pieces ∷ []) ys xs words texts = []
yards_from (lats ∷ lons ∷ []) ys xs words texts = []
yards_from (lats ∷ []) ys xs words texts = []
yards_from [] ys xs words texts = []

-- how many values each yard was given
unfoldable pub values_from : List ℕ → List ℕ
values_from (lats ∷ lons ∷ pieces ∷ values ∷ rest) = values ∷ values_from rest
values_from (lats ∷ lons ∷ pieces ∷ []) = []
values_from (lats ∷ lons ∷ []) = []
values_from (lats ∷ []) = []
values_from [] = []

-- so many lengths count: names, notice, and a value a name for each yard
unfoldable pub counted_lengths : Lent → ℕ
counted_lengths lent = lent.names + 1 + lent.names * length (values_from lent.yards)

unfoldable pub plan_of : Lent → Plan
plan_of lent =
    let texts = cut_by lent.lengths lent.texts in
    record {
      kind = lent.kind;
      version = lent.version;
      precision = lent.precision;
      names = take lent.names texts;
      notice = get_or texts lent.names [];
      yards = yards_from lent.yards lent.lats lent.lons lent.pieces (drop (lent.names + 1) texts);
      numbered = every (eqb lent.names) (values_from lent.yards) && leb (counted_lengths lent) (length lent.lengths);
      whole = leb (sum_of (take (counted_lengths lent) lent.lengths)) (length lent.texts);
    }

-- ---- what the inner functions say of each other
-- in a list of a size, where so many items from a place on end (a part that is not all there is empty), and where the part behind them begins
abbrev pub part_end : ℕ → ℕ → ℕ → ℕ
part_end size at count = if leb count (size - at) then at + count else at

abbrev pub next_part : ℕ → ℕ → ℕ → ℕ
next_part size at count = if leb count (size - at) then at + count else size

-- 25 over what is lent: the names, the words of the yards, and how many lengths there are
unfoldable pub lengths_good : ℕ → ℕ → ℕ → Bool
lengths_good names count lengths = leb (names + 1 + names * count) lengths

unfoldable pub counts_good : ℕ → List ℕ → ℕ → Bool
counts_good names yards lengths =
    let count = length yards / 4 in
    ltb 0 count && (leb count 4096 && (leb names 255 && (every (eqb names) (values_from yards) && lengths_good names count lengths)))
