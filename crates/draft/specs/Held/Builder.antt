-- A builder, and what its calls do: document 02, Q-5. A call that is refused changes nothing: it gives no other builder.
use Rattle.std.specs.Prelude.{◌-◌, ◌&&◌, ◌∷◌, ◌++◌}
use Rattle.numbers.specs.{Prelude.{ℕ, zero, suc, min, eqb, ltb, leb, ℤ, length, take, false, List, []}, Reply.{Reply, given, plain, demand, ◌>>◌}}
use Rattle.writer.specs.{Pieces.{pieces_of}, Writer.{checks}}
use Rattle.builder.specs.{Borders.{with_border}, File.{are_texts, file_of, head_of, is_text, known, readable, up_to}, Yards.{Text, Yard, Plan, cut_by, sum_of}}
use Rattle.draft.specs.Held.{Space.{Space}, Totals.{Totals, data_of, totals_of, file_size}}

-- the held yards, with names, notice, type, version and precision; the room of the file to come; the totals
pub record Builder : Type 0 where
  pub plan : Plan
  pub room : ℕ
  pub totals : Totals

-- the same plan with other yards
abbrev pub holding : Plan → List Yard → Plan
holding plan yards =
    record { kind = plan.kind; version = plan.version; precision = plan.precision; names = plan.names; notice = plan.notice; yards = yards; numbered = plan.numbered; whole = plan.whole }

-- its totals are a fresh sum
unfoldable pub summed : Plan → ℕ → Builder
summed plan room = record { plan = plan; room = room; totals = totals_of plan }

-- 28: "where an add or a replacement no longer fits", asked of the totals alone; or where a list is too short
unfoldable pub fitting : Space → Builder → Reply Builder
fitting space b = demand (space.lists && leb (file_size (length (head_of b.plan)) b.totals) (up_to b.room)) (plain 28) >> given b

-- 25 for over 255 names, 26, 27; no 28 but for a list that is too short
unfoldable pub begin : Plan → ℕ → Space → Reply Builder
begin plan room space = do
  demand (leb (length plan.names) 255 && plan.numbered) (plain 25)
  demand (readable (holding plan [])) (plain 26)
  demand (known plan) (plain 27)
  demand space.lists (plain 28)
  given (summed (holding plan []) room)

-- a yard as it is lent; five words a piece, a length for each value
pub record Offered : Type 0 where
  pub lats : List ℤ
  pub lons : List ℤ
  pub pieces : List ℕ
  pub lengths : List ℕ
  pub texts : List ℕ

abbrev pub yard_of : Offered → Yard
yard_of o = record { lats = o.lats; lons = o.lons; pieces = pieces_of o.pieces; values = cut_by o.lengths o.texts; cut = false }

-- the plan with this yard behind those that it has
unfoldable pub joined : Plan → Offered → Plan
joined plan o =
    record {
      kind = plan.kind;
      version = plan.version;
      precision = plan.precision;
      names = plan.names;
      notice = plan.notice;
      yards = plan.yards ++ (yard_of o ∷ []);
      numbered = plan.numbered && eqb (length plan.names) (length o.lengths);
      whole = plan.whole && leb (sum_of o.lengths) (length o.texts);
    }

-- 19 to 22; 25 for a 4,097th yard or the number of values; 26; 23; 28
unfoldable pub add : Builder → Offered → Space → Reply Builder
add b o space = do
  checks 0 o.lats o.lons []
  demand (ltb (length b.plan.yards) 4096 && eqb (length b.plan.names) (length o.lengths)) (plain 25)
  demand (are_texts o.lengths o.texts) (plain 26)
  with_border b.plan.version (up_to (min b.room space.bytes)) (data_of b.plan).bytes (yard_of o)
  fitting space (summed (joined b.plan o) b.room)

-- 29: "drop from an empty builder, checked alone"; 28 only for a list to work in that is too short
unfoldable pub drop_last : Builder → Space → Reply Builder
drop_last b space = do
  demand (ltb 0 (length b.plan.yards)) (plain 29)
  demand space.lists (plain 28)
  given (summed (holding b.plan (take (length b.plan.yards - 1) b.plan.yards)) b.room)

-- the item at an index changed
unfoldable pub changed_at : {A : Type 0} → ℕ → (A → A) → List A → List A
changed_at n change [] = []
changed_at zero change (x ∷ xs) = change x ∷ xs
changed_at (suc n) change (x ∷ xs) = x ∷ changed_at n change xs

abbrev pub with_value : ℕ → Text → Yard → Yard
with_value field text y = record { lats = y.lats; lons = y.lons; pieces = y.pieces; values = changed_at field (λ old. text) y.values; cut = y.cut }

-- 30: "replace of a yard or field that isn't there, before 26"; 28
unfoldable pub replace : Builder → ℕ → ℕ → Text → Space → Reply Builder
replace b yard field text space = do
  demand (ltb yard (length b.plan.yards) && ltb field (length b.plan.names)) (plain 30)
  demand (is_text text) (plain 26)
  fitting space (summed (holding b.plan (changed_at yard (with_value field text) b.plan.yards)) b.room)

-- as it was begun; refuses nothing
unfoldable pub clear : Builder → Builder
clear b = summed (holding b.plan []) b.room

-- 25 for no yards; 28 against the output lent then; the builder stays as it is
unfoldable pub finish : Builder → ℕ → Space → Reply (List ℕ)
finish b out space = do
  demand (ltb 0 (length b.plan.yards)) (plain 25)
  demand (space.lists && leb (file_size (length (head_of b.plan)) b.totals) (up_to out)) (plain 28)
  given (file_of b.plan (data_of b.plan))
