-- The notes with one yard more. Assumes nothing.
use Rattle.numbers.proofs.Prelude.{ℕ, zero, suc, ◌+◌, ◌*◌, ◌≤◌, ◌<◌, length, Bool, true, false, List, ◌≡◌, sym, ap, subst, ◌∙◌, suc-mul, mul-le-mul, mul-le-mul_right, add-one, arith}
use Rattle.numbers.specs.Lists.{zeros}
use Rattle.builder.{proofs.grouping.{Meant.{starts_inside}, Walks.{fewer_inside}}, specs.{Grouping.Items.{starts_from}, Yards.{sum_of}}}
use Rattle.notes.proofs.{chains.Entering.{chained_out, chained_none}, noted.Sharing.{comes_first, not_first, field_of}}
use Rattle.notes.specs.{Chains.{Chains.{last_with, Chained, meets, ItemsInside}, Entered.{bucket_of, is_first, is_field, Indexed}}, inner.Noted.Noting.{EntersAll, NotesOne, NotesAll}}

-- ---- numbers
pub yard_next : (yard names : ℕ) → yard * names + names ≡ (yard + 1) * names
yard_next yard names = sym (ap (λ (n : ℕ). n * names) (add-one yard) ∙ suc-mul yard names)

pub yards_many : (yard count names : ℕ) → yard < count → (yard + 1) * names ≤ count * names
yards_many yard count names h = mul-le-mul_right names (omega arith)

pub values_few : (yard names : ℕ) → yard < 4096 → names ≤ 255 → (yard + 1) * names ≤ 1044480
values_few yard names h k = mul-le-mul {n₂ = 4096} {m₂ = 255} (omega arith) k

-- ---- the values of a yard, entered one by one
module _ (names yard : ℕ) (starts texts before : List ℕ) where
  pub enters_none : EntersAll names yard starts texts before before 0
  enters_none = λ entered inside c each. let e : yard * names ≡ yard * names + 0 = omega arith in subst (λ (n : ℕ). Chained (bucket_of starts texts 1) entered n before) e c

  pub enters_next : (field : ℕ) (now after : List ℕ) → field < names → EntersAll names yard starts texts before now field
      → ((entered : ℕ → Bool) → ItemsInside starts texts 1 (yard * names + field) → Chained (bucket_of starts texts 1) entered (yard * names + field) now
      → entered (yard * names + field) ≡ true → Chained (bucket_of starts texts 1) entered (yard * names + field + 1) after) → EntersAll names yard starts texts before after (field + 1)
  enters_next field now after h so one =
      λ entered inside c each. let e : yard * names + field + 1 ≡ yard * names + (field + 1) = omega arith in let fewer : ItemsInside starts texts 1
      (yard * names + field) = fewer_inside starts texts ((yard + 1) * names) ((yard * names + field + 1) * 1) (omega (arith, h, yard_next yard names)) inside in
      subst (λ (n : ℕ). Chained (bucket_of starts texts 1) entered n after) e (one entered fewer (so entered inside c each) (each field h))

  pub enters_end : (field : ℕ) (now : List ℕ) → field ≤ names → names ≤ field → EntersAll names yard starts texts before now field → EntersAll names yard starts texts before now names
  enters_end field now h k so = let e : field ≡ names = omega arith in subst (λ (n : ℕ). EntersAll names yard starts texts before now n) e so

-- ---- one yard more
-- what find promises
abbrev pub Finds : List ℕ → List ℕ → ℕ → List ℕ → ℕ → ℕ → Type 0
Finds starts texts width chain item r =
    (entered : ℕ → Bool) (count : ℕ) → ItemsInside starts texts width item → Chained (bucket_of starts texts width) entered count chain → count ≤ item →
    r ≡ last_with (meets starts texts width entered item) count

-- what enter promises
abbrev Enters : List ℕ → List ℕ → ℕ → List ℕ → ℕ → List ℕ → Type 0
Enters starts texts width before item after =
    (entered : ℕ → Bool) → ItemsInside starts texts width item → Chained (bucket_of starts texts width) entered item before → entered item ≡ true →
    Chained (bucket_of starts texts width) entered (item + 1) after

module _ (names yard : ℕ) (lengths texts : List ℕ) (whole : sum_of lengths ≤ length texts) (many : (yard + 1) * names ≤ length lengths) where
  yard_inside : ItemsInside (starts_from 0 lengths) texts names yard
  yard_inside = fewer_inside (starts_from 0 lengths) texts (length lengths) ((yard + 1) * names) many (starts_inside lengths texts whole)

  module _ (chains groups : List ℕ) (c : Indexed names lengths texts yard chains groups) (r : ℕ) (found : Finds (starts_from 0 lengths) texts names groups yard r) where
    last_is : r ≡ last_with (meets (starts_from 0 lengths) texts names (is_first names lengths texts) yard) yard
    last_is = found (is_first names lengths texts) yard yard_inside c.records (omega arith)

    -- the values of a yard that shares its record are left out
    left : is_first names lengths texts yard ≡ false → 4096 + (yard + 1) * names ≤ length chains → (n : ℕ) → n ≤ names →
        Chained (bucket_of (starts_from 0 lengths) texts 1) (is_field names lengths texts) (yard * names + n) chains
    left out room zero h = let e : yard * names ≡ yard * names + 0 = omega arith in
        subst (λ (n : ℕ). Chained (bucket_of (starts_from 0 lengths) texts 1) (is_field names lengths texts) n chains) e c.fields
    left out room (suc n) h = let e : yard * names + n + 1 ≡ yard * names + suc n = omega arith in
        subst (λ (n : ℕ). Chained (bucket_of (starts_from 0 lengths) texts 1) (is_field names lengths texts) n chains) e
        (chained_out (bucket_of (starts_from 0 lengths) texts 1) (is_field names lengths texts) (yard * names + n) chains (left out room n (omega arith))
        (omega (arith, room, h, yard_next yard names)) (field_of names lengths texts yard n (omega arith) ∙ out))

    old_yard : 0 < r → 4096 + (yard + 1) * names ≤ length chains → 4096 + yard < length groups → Indexed names lengths texts (yard + 1) chains groups
    old_yard h room space = let out = not_first names lengths texts yard r last_is h in record {
      fields = subst (λ (n : ℕ). Chained (bucket_of (starts_from 0 lengths) texts 1) (is_field names lengths texts) n chains) (yard_next yard names) (left out room names (omega arith));
      records = chained_out (bucket_of (starts_from 0 lengths) texts names) (is_first names lengths texts) yard groups c.records space out;
    }

    new_yard : r ≤ 0 → (chains' groups' : List ℕ) → Enters (starts_from 0 lengths) texts names groups yard groups' → EntersAll names yard (starts_from 0 lengths) texts chains chains' names →
        Indexed names lengths texts (yard + 1) chains' groups'
    new_yard h chains' groups' one all = let first = comes_first names lengths texts yard r last_is (omega arith) in record {
      fields = subst (λ (n : ℕ). Chained (bucket_of (starts_from 0 lengths) texts 1) (is_field names lengths texts) n chains') (yard_next yard names)
          (all (is_field names lengths texts) yard_inside c.fields (λ field k. field_of names lengths texts yard field k ∙ first));
      records = one (is_first names lengths texts) yard_inside c.records first;
    }

module _ (names yard : ℕ) (starts texts chains groups : List ℕ) (r : ℕ) (found : Finds starts texts names groups yard r) where
  pub notes_old : 0 < r → 4096 + (yard + 1) * names ≤ length chains → 4096 + yard < length groups → NotesOne names yard starts texts chains groups chains groups
  notes_old h room space = λ lengths e whole many c.
      old_yard names yard lengths texts whole many chains groups c r (subst (λ (s : List ℕ). Finds s texts names groups yard r) e found) h room space

  pub notes_new : r ≤ 0 → (chains' groups' : List ℕ) → Enters starts texts names groups yard groups' → EntersAll names yard starts texts chains chains' names →
      NotesOne names yard starts texts chains groups chains' groups'
  notes_new h chains' groups' one all = λ lengths e whole many c.
      new_yard names yard lengths texts whole many chains groups c r (subst (λ (s : List ℕ). Finds s texts names groups yard r) e found) h chains' groups'
      (subst (λ (s : List ℕ). Enters s texts names groups yard groups') e one) (subst (λ (s : List ℕ). EntersAll names yard s texts chains chains' names) e all)

-- ---- all yards
pub notes_none : (names : ℕ) (starts texts chains groups : List ℕ) (fields records : ℕ) → chains ≡ zeros fields → groups ≡ zeros records → 4096 ≤ fields → 4096 ≤ records →
    NotesAll names 0 starts texts chains groups
notes_none names starts texts chains groups fields records e f h k = λ lengths s whole many.
    let none : 0 ≡ 0 * names = omega arith in
    record {
      fields = subst (λ (l : List ℕ). Chained (bucket_of (starts_from 0 lengths) texts 1) (is_field names lengths texts) (0 * names) l) (sym e)
          (subst (λ (n : ℕ). Chained (bucket_of (starts_from 0 lengths) texts 1) (is_field names lengths texts) n (zeros fields)) none
          (chained_none (bucket_of (starts_from 0 lengths) texts 1) (is_field names lengths texts) fields h));
      records = subst (λ (l : List ℕ). Chained (bucket_of (starts_from 0 lengths) texts names) (is_first names lengths texts) 0 l) (sym f)
          (chained_none (bucket_of (starts_from 0 lengths) texts names) (is_first names lengths texts) records k);
    }

pub notes_next : (names yard : ℕ) (starts texts chains groups chains' groups' : List ℕ) → NotesAll names yard starts texts chains groups →
    NotesOne names yard starts texts chains groups chains' groups' → NotesAll names (yard + 1) starts texts chains' groups'
notes_next names yard starts texts chains groups chains' groups' so one = λ lengths s whole many. one lengths s whole many (so lengths s whole (omega (arith, many, yard_next yard names)))

pub notes_end : (names yard count : ℕ) (starts texts chains groups : List ℕ) → yard ≤ count → count ≤ yard → NotesAll names yard starts texts chains groups →
    NotesAll names count starts texts chains groups
notes_end names yard count starts texts chains groups h k so = let e : yard ≡ count = omega arith in subst (λ (n : ℕ). NotesAll names n starts texts chains groups) e so
