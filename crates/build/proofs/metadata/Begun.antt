-- Where the records begin, yard by yard. Assumes nothing.
use Rattle.numbers.proofs.Prelude.{ℕ, zero, suc, ◌+◌, ◌-◌, ◌*◌, ◌≤◌, ◌<◌, ne_eqb, eqb, length, take, drop, get_or, set, length-append, length-set, take-append_seam, get_or-set_other, get_or-set_same}
use Rattle.numbers.proofs.Prelude.{drop-append_seam, Bool, true, false, List, [], ◌∷◌, ◌++◌, map, append_assoc, append-nil, flat_map, ◌≡◌, refl, sym, ap, ◌∙◌, add-one, arith}
use Rattle.numbers.specs.{Answer.{if◌then◌else◌}, Spelling.{varint_of}}
use lib.Seq.{get_or-append_seam}
use Rattle.builder.proofs.grouping.Keyed.{texts_equal}
use Rattle.builder.specs.{Grouping.{Items.{starts_from, item_at}, Keys.{numbers_from}}, Metadata.{inlined, fields_of, is_remote, offset_of, written, joined_from}}
use Rattle.builder.specs.{Metadata.{word_bytes, field_bytes}, Sharing.{same_texts, is_in, firsts_after}, Yards.{Text, cut_by}, inner.Drawing.Section.{spread}}
use Rattle.build.proofs.metadata.Shared.{numbers_more, map_more, fields_more, fields_one, firsts_new, firsts_old}
use Rattle.build.specs.{Metadata.Kept.{values_to, fields_to, joined}, inner.Metadata.Words.{word_in}}

-- ---- texts cut from their own bytes
pub cut_join : (ts : List Text) → cut_by (map length ts) (joined ts) ≡ ts
unfolding cut_by flat_map
cut_join [] = refl
cut_join (t ∷ ts) =
    ap (λ (x : Text). x ∷ cut_by (map length ts) (drop (length t) (t ++ joined ts))) (take-append_seam t (joined ts))
    ∙ (ap (λ (xs : List ℕ). t ∷ cut_by (map length ts) xs) (drop-append_seam t (joined ts)) ∙ ap (λ (xs : List Text). t ∷ xs) (cut_join ts))

-- ---- the bytes of some fields by their words
pub field_written : (fields : List Text) (records : ℕ) (t : Text) → word_bytes records (word_in fields t) t ≡ written fields records t
unfolding word_bytes word_in written
field_written fields records t = go (is_remote fields t) where
  go : (far : Bool) → (if eqb (if far then suc (offset_of fields t) else 0) 0 then inlined t else varint_of (255 + records + (if far then suc (offset_of fields t) else 0))) ≡
      (if far then varint_of (256 + records + offset_of fields t) else inlined t)
  go true = let e : 255 + records + suc (offset_of fields t) ≡ 256 + records + offset_of fields t = omega arith in
      ap (λ (b : Bool). if b then inlined t else varint_of (255 + records + suc (offset_of fields t))) (ne_eqb (suc (offset_of fields t)) 0 (λ z. omega arith)) ∙ ap varint_of e
  go false = refl

joined_written : (fields : List Text) (records : ℕ) (front : List ℕ) (ts : List Text) →
    joined_from (field_bytes records (front ++ map (word_in fields) ts)) (length front) ts ≡ flat_map (written fields records) ts
unfolding joined_from flat_map
joined_written fields records front [] = refl
joined_written fields records front (t ∷ ts) =
    let here : get_or (front ++ word_in fields t ∷ map (word_in fields) ts) (length front) 0 ≡ word_in fields t = get_or-append_seam front (word_in fields t) (map (word_in fields) ts) 0 in
    let shift : front ++ word_in fields t ∷ map (word_in fields) ts ≡ (front ++ (word_in fields t ∷ [])) ++ map (word_in fields) ts = sym (append_assoc front
    (word_in fields t ∷ []) (map (word_in fields) ts)) in
    let next : suc (length front) ≡ length (front ++ (word_in fields t ∷ [])) = sym (length-append front (word_in fields t ∷ []) ∙ add-one (length front)) in
    ap (λ (w : ℕ). word_bytes records w t ++ joined_from (field_bytes records (front ++ word_in fields t ∷ map (word_in fields) ts)) (suc (length front)) ts) here
    ∙ (ap (λ (l : List ℕ). l ++ joined_from (field_bytes records (front ++ word_in fields t ∷ map (word_in fields) ts)) (suc (length front)) ts) (field_written fields records t)
    ∙ ap (λ (l : List ℕ). written fields records t ++ l) (ap (λ (ws : List ℕ). joined_from (field_bytes records ws) (suc (length front)) ts) shift
    ∙ (ap (λ (n : ℕ). joined_from (field_bytes records ((front ++ (word_in fields t ∷ [])) ++ map (word_in fields) ts)) n ts) next
    ∙ joined_written fields records (front ++ (word_in fields t ∷ [])) ts)))

pub record_written : (fields : List Text) (records : ℕ) (ts : List Text) → joined_from (field_bytes records (map (word_in fields) ts)) 0 ts ≡ flat_map (written fields records) ts
record_written fields records ts = joined_written fields records [] ts

-- ---- lists by their numbers
module _ {A : Type 0} (f : ℕ → A) where
  pub numbers_split : (i n m : ℕ) → map f (numbers_from i (n + suc m)) ≡ map f (numbers_from i n) ++ (f (i + n) ∷ map f (numbers_from (suc (i + n)) m))
  unfolding numbers_from
  numbers_split i zero m = let e : 0 + suc m ≡ suc m = omega arith in let z : i ≡ i + 0 = omega arith in
      ap (λ (k : ℕ). map f (numbers_from i k)) e ∙ ap (λ (k : ℕ). f k ∷ map f (numbers_from (suc k) m)) z
  numbers_split i (suc n) m = let e : suc n + suc m ≡ suc (n + suc m) = omega arith in let z : suc i + n ≡ i + suc n = omega arith in
      ap (λ (k : ℕ). map f (numbers_from i k)) e ∙ ap (λ (l : List A). f i ∷ l) (numbers_split (suc i) n m ∙ ap (λ (k : ℕ). map f (numbers_from (suc i) n) ++ (f k ∷ map f (numbers_from (suc k) m))) z)

-- ---- places at every second word
pub spread_behind : (i : ℕ) (ns list : List ℕ) (j : ℕ) → i + 2 * length ns ≤ j → get_or (spread i ns list) j 0 ≡ get_or list j 0
unfolding spread
spread_behind i [] list j h = refl
spread_behind i (n ∷ ns) list j h = spread_behind (i + 2) ns (set list i n) j (omega arith) ∙ get_or-set_other list i j n 0 (λ e. omega (arith, e))

pub spread_at : (i : ℕ) (ns list : List ℕ) (j : ℕ) → j < length ns → i + 2 * j < length list → get_or (spread i ns list) (i + 2 * j) 0 ≡ get_or ns j 0
unfolding spread
spread_at i [] list j h k = absurd (omega arith)
spread_at i (n ∷ ns) list zero h k = let e : i + 2 * 0 ≡ i = omega arith in
    ap (λ (m : ℕ). get_or (spread (i + 2) ns (set list i n)) m 0) e ∙ (before (i + 2) ns (set list i n) i (omega arith) ∙ get_or-set_same list i n 0 (omega arith)) where
      before : (i : ℕ) (ns list : List ℕ) (j : ℕ) → j < i → get_or (spread i ns list) j 0 ≡ get_or list j 0
      before i [] list j h = refl
      before i (n ∷ ns) list j h = before (i + 2) ns (set list i n) j (omega arith) ∙ get_or-set_other list i j n 0 (λ e. omega (arith, e))
spread_at i (n ∷ ns) list (suc j) h k = let e : i + 2 * suc j ≡ i + 2 + 2 * j = omega arith in
    ap (λ (m : ℕ). get_or (spread (i + 2) ns (set list i n)) m 0) e ∙ spread_at (i + 2) ns (set list i n) j (omega arith) (omega (arith, length-set list i n))

-- ---- the records of some yards are the first records of more
module _ (names : ℕ) (lengths texts : List ℕ) where
  abbrev item : ℕ → List Text
  item yard = item_at (starts_from 0 lengths) texts (yard * names) names

  abbrev values : ℕ → List (List Text)
  values = values_to names lengths texts

  abbrev fields : ℕ → List Text
  fields = fields_to names lengths texts

  pub values_on : (yard : ℕ) → values (suc yard) ≡ values yard ++ (item yard ∷ [])
  unfolding values_to
  values_on yard = let e : 0 + yard ≡ yard = omega arith in
      ap (map item) (numbers_more 0 yard) ∙ (map_more item (numbers_from 0 yard) ((0 + yard) ∷ []) ∙ ap (λ (n : ℕ). map item (numbers_from 0 yard) ++ (item n ∷ [])) e)

  pub fields_new : (yard : ℕ) → is_in same_texts (item yard) (values yard) ≡ false → fields (suc yard) ≡ fields yard ++ item yard
  fields_new yard e =
      ap (λ (l : List (List Text)). fields_of (firsts_after same_texts [] l)) (values_on yard) ∙ (ap fields_of (firsts_new same_texts texts_equal (values yard) (item yard) e)
      ∙ (fields_more (firsts_after same_texts [] (values yard)) (item yard ∷ []) ∙ ap (λ (l : List Text). fields yard ++ l) (fields_one (item yard))))

  pub fields_old : (yard : ℕ) → is_in same_texts (item yard) (values yard) ≡ true → fields (suc yard) ≡ fields yard
  fields_old yard e =
      ap (λ (l : List (List Text)). fields_of (firsts_after same_texts [] l)) (values_on yard) ∙ ap fields_of (firsts_old same_texts texts_equal (values yard) (item yard) e)

  pub record Front (yard more : ℕ) : Type 0 where
    pub rest : List Text
    pub is : fields (yard + more) ≡ fields yard ++ rest

  pub front : (yard more : ℕ) → Front yard more
  front yard zero = let e : yard + 0 ≡ yard = omega arith in record { rest = []; is = ap fields e ∙ sym (append-nil (fields yard)) }
  front yard (suc more) = go (is_in same_texts (item (yard + more)) (values (yard + more))) refl (front yard more) where
    e : yard + suc more ≡ suc (yard + more)
    e = omega arith

    go : (b : Bool) → is_in same_texts (item (yard + more)) (values (yard + more)) ≡ b → Front yard more → Front yard (suc more)
    go true k f = record { rest = f.rest; is = ap fields e ∙ (fields_old (yard + more) k ∙ f.is) }
    go false k f = record {
      rest = f.rest ++ item (yard + more);
      is = ap fields e ∙
          (fields_new (yard + more) k ∙ (ap (λ (l : List Text). l ++ item (yard + more)) f.is ∙ append_assoc (fields yard) f.rest (item (yard + more))));
    }

  -- a yard with a record of its own: where its fields stand among all
  module _ (count yard : ℕ) (h : yard < count) (new : is_in same_texts (item yard) (values yard) ≡ false) where
    more : ℕ
    more = count - suc yard

    split : fields count ≡ (fields yard ++ item yard) ++ (front (suc yard) (count - suc yard)).rest
    split = let e : count ≡ suc yard + (count - suc yard) = omega arith in
        ap fields e ∙ ((front (suc yard) (count - suc yard)).is ∙ ap (λ (l : List Text). l ++ (front (suc yard) (count - suc yard)).rest) (fields_new yard new))

    pub fields_there : length (fields yard) + length (item yard) ≤ length (fields count)
    fields_there = let r : List Text = (front (suc yard) (count - suc yard)).rest in
        let l : length (fields count) ≡ length (fields yard ++ item yard) + length r = ap length split ∙ length-append (fields yard ++ item yard) r in
        omega (arith, l, length-append (fields yard) (item yard))

    pub fields_part : take (length (item yard)) (drop (length (fields yard)) (fields count)) ≡ item yard
    fields_part = let r : List Text = (front (suc yard) (count - suc yard)).rest in
        ap (λ (l : List Text). take (length (item yard)) (drop (length (fields yard)) l)) (split ∙ append_assoc (fields yard) (item yard) r)
        ∙ (ap (take (length (item yard))) (drop-append_seam (fields yard) (item yard ++ r)) ∙ take-append_seam (item yard) r)
