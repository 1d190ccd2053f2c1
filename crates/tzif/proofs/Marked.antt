-- A version 4 file without version 4's features is read as the same bytes marked 3. Assumes nothing.
use Rattle.numbers.proofs.Prelude.{ℕ, zero, suc, ◌+◌, ◌-◌, ◌^◌, ◌≤◌, ◌<◌, eq-eqb, ne_eqb, leb-true, ltb-true, eqb-true, ltb-false, eqb-false, eqb, ltb, leb, ℤ, length, drop, set, length-set}
use Rattle.numbers.proofs.Prelude.{List·getD-eq-default, get_or-set_other, get_or-set_same, Bool, true, false, ◌&&◌, ◌||◌, not, List, [], ◌∷◌, ◌≡◌, refl, sym, ap, ◌∙◌, arith}
use Rattle.tzif.proofs.{Alike.{be32_same, each_same, block_checked}, Beyond.{Beyond, footer_same, table_same, table_behind, lent_same, refused_one}, Goods.{width_of}, Rises.{both_given}}
use Rattle.tzif.specs.{Block.{end_of}, Check.{nul_end, correction_of, correction_before, one_apart, is_expiry, check_leap, check_leaps}}
use Rattle.tzif.specs.{Header.{rfc9636, begins, is_fourth, is_version, version_fits, check_header, block_at, check_counts, check_block, read_block}, Local.{by_table, lent, local_time_by, local_time}}
use Rattle.tzif.specs.{Number.{octet, be32, octets, lift}, Part.{check_part}, Reply.{Reply, given, refused, refusal, demand, ◌>>=◌, ◌>>◌}, Zone.{read_footer, read_long, read_zone_by, read_zone}}
use Rattle.tzif.specs.declared.{block.Block.{Block}, local.Found.{Found}, refusal.Refusal.{Refusal}, zone.Zone.{Zone}}
use Rattle.tzif.specs.Part as P
use Rattle.std.specs.Prelude.{Option}

-- ---- what is said
abbrev pub first_block : List ℕ → Block
first_block file = block_at file false 0

-- the second header stands behind the first block
abbrev pub second_block : List ℕ → Block
second_block file = block_at file true (end_of (first_block file))

-- the place of the second header's version, its octet 4
unfoldable pub second_version : List ℕ → ℕ
second_version file = end_of (first_block file) + 4

-- the same bytes marked `3` in both headers: at place 4, and at the second header's version where the file has one
unfoldable pub marked_three : List ℕ → List ℕ
marked_three file = set (set file 4 0x33) (second_version file) 0x33

-- a leap-second table with neither feature: it begins with 1 or -1, and its last two corrections differ
pub record Plain (file : List ℕ) (block : Block) : Type 0 where
  pub begins : 0 < block.leapcnt → one_apart (2 ^ 31) (correction_of file block 0) ≡ true
  pub ends : 1 < block.leapcnt → correction_of file block (block.leapcnt - 1) ≡ correction_of file block (block.leapcnt - 2) → ⊥

-- a version 4 file, in each header that it has, with neither feature in either block
pub record PlainFour (file : List ℕ) : Type 0 where
  pub first : octet file 4 ≡ 0x34
  pub second : second_version file < length file → octet file (second_version file) ≡ 0x34
  pub one : Plain file (first_block file)
  pub two : Plain file (second_block file)

-- ---- a plain table is checked as in version 3
module _ (file : List ℕ) (block : Block) (plain : Plain file block) where
  no_expiry : (i : ℕ) → i < block.leapcnt → is_expiry file block i ≡ false
  unfolding is_expiry
  no_expiry i l = go (eqb i 0) refl (eqb (i + 1) block.leapcnt) refl where
    go : (s : Bool) → eqb i 0 ≡ s → (t : Bool) → eqb (i + 1) block.leapcnt ≡ t → (not s && (t && eqb (correction_of file block i) (correction_of file block (i - 1)))) ≡ false
    go true e t f = refl
    go false e false f = refl
    go false e true f = let some : (i ≡ 0 → ⊥) = eqb-false i 0 e in let all : i + 1 ≡ block.leapcnt = eqb-true (i + 1) block.leapcnt f in
        let last : i ≡ block.leapcnt - 1 = omega arith in let prior : i - 1 ≡ block.leapcnt - 2 = omega arith in
        ne_eqb (correction_of file block i) (correction_of file block (i - 1))
        (λ same. plain.ends (omega (arith, some, all, l)) (sym (ap (correction_of file block) last) ∙ same ∙ ap (correction_of file block) prior))

  begins_plain : (i : ℕ) → i < block.leapcnt → ((eqb i 0 && true) || one_apart (correction_before file block i) (correction_of file block i)) ≡
      ((eqb i 0 && false) || one_apart (correction_before file block i) (correction_of file block i))
  unfolding correction_before
  begins_plain zero l = sym (plain.begins l)
  begins_plain (suc i) l = rw (ne_eqb (suc i) 0 (λ e. omega (arith, e))) refl

  leap_plain : (i : ℕ) → i < block.leapcnt → check_leap file true block i ≡ check_leap file false block i
  unfolding check_leap
  leap_plain i l = rw (no_expiry i l, begins_plain i l) refl

  leaps_plain : check_leaps file true block ≡ check_leaps file false block
  unfolding check_leaps
  leaps_plain = each_same (check_leap file true block) (check_leap file false block) block.leapcnt leap_plain

  pub block_plain : check_block file true block ≡ check_block file false block
  unfolding check_block
  block_plain = λ i. check_part file block P.Times >>
      (check_part file block P.Indices >> (check_part file block (P.Types (nul_end file block)) >> (leaps_plain i >> (check_part file block P.Standards >> check_part file block P.Uts))))

-- ---- the two files
drop_set : (xs : List ℕ) (n p b : ℕ) → n < p → drop p xs ≡ drop p (set xs n b)
drop_set [] n zero b l = absurd (omega arith)
drop_set [] n (suc p) b l = refl
drop_set (x ∷ xs) n zero b l = absurd (omega arith)
drop_set (x ∷ xs) zero (suc p) b l = refl
drop_set (x ∷ xs) (suc n) (suc p) b l = drop_set xs n p b (omega arith)

held : (file : List ℕ) (p : ℕ) → (octet file p ≡ 0 → ⊥) → p < length file
held file p h = go (ltb p (length file)) refl where
  go : (t : Bool) → ltb p (length file) ≡ t → p < length file
  go true e = ltb-true p (length file) e
  go false e = absurd (h (List·getD-eq-default file 0 {n = p} (ltb-false p (length file) e)))

-- a header's counts
block_at_same : (file other : List ℕ) (wide : Bool) (at : ℕ) → ((p : ℕ) → at + 20 ≤ p → p < at + 44 → octet file p ≡ octet other p) → block_at file wide at ≡ block_at other wide at
unfolding block_at
block_at_same file other wide at same = λ i. record {
  width = octets wide;
  isutcnt = count (at + 20) (omega arith) (omega arith) i;
  isstdcnt = count (at + 24) (omega arith) (omega arith) i;
  leapcnt = count (at + 28) (omega arith) (omega arith) i;
  timecnt = count (at + 32) (omega arith) (omega arith) i;
  typecnt = count (at + 36) (omega arith) (omega arith) i;
  charcnt = count (at + 40) (omega arith) (omega arith) i;
  begin = at + 44;
} where
  count : (p : ℕ) → at + 20 ≤ p → p + 4 ≤ at + 44 → be32 file p ≡ be32 other p
  count p a b = be32_same p (record { at = λ q c d. same q (omega arith) (omega arith) })

begin_of : (file : List ℕ) (wide : Bool) (at : ℕ) → (block_at file wide at).begin ≡ at + 44
unfolding block_at
begin_of file wide at = refl

-- what a reading gives is the block at the place
read_is : (file : List ℕ) (wide : Bool) (at : ℕ) {block : Block} → read_block rfc9636 file wide at ≡ given block → block_at file wide at ≡ block
unfolding read_block
read_is file wide at e = cc (both_given _ _ (both_given _ _ (both_given _ _ e).1).1).1

-- the zone of the marked file
abbrev pub renamed : Zone → Zone
renamed zone = record { version = 0x33; block = zone.block; string = zone.string; size = zone.size }

-- a zone of version 4 behind the second header's version
pub record Second (from : ℕ) (zone : Zone) : Type 0 where
  pub version : zone.version ≡ 0x34
  pub block : from ≤ zone.block.begin
  pub string : from ≤ zone.string
  pub wide : 4 ≤ zone.block.width

-- refused alike, or given alike but for the version
pub data ReadAlike (from : ℕ) : Reply Zone → Reply Zone → Type 0 where
  refuses : {why : Refusal} → ReadAlike from (refused why) (refused why)
  gives : {zone : Zone} → Second from zone → ReadAlike from (given zone) (given (renamed zone))

module _ (file : List ℕ) (h : PlainFour file) where
  abbrev other : List ℕ
  other = marked_three file

  abbrev mark : ℕ
  mark = second_version file

  far : 48 ≤ mark
  unfolding second_version block_at
  far = omega arith

  size : length file ≡ length other
  unfolding marked_three
  size = sym (length-set (set file 4 0x33) (second_version file) 0x33 ∙ length-set file 4 0x33)

  elsewhere : (p : ℕ) → (p ≡ 4 → ⊥) → (p ≡ mark → ⊥) → octet file p ≡ octet other p
  unfolding marked_three
  elsewhere p a b = sym (get_or-set_other (set file 4 0x33) (second_version file) p 0x33 0 b ∙ get_or-set_other file 4 p 0x33 0 a)

  long_enough : 4 < length file
  long_enough = held file 4 (λ e. let clash : 0x34 ≡ 0 = sym h.first ∙ e in omega (arith, clash))

  three_first : octet other 4 ≡ 0x33
  unfolding marked_three
  three_first = get_or-set_other (set file 4 0x33) (second_version file) 4 0x33 0 (λ e. omega (arith, far, e)) ∙ get_or-set_same file 4 0x33 0 long_enough

  three_second : mark < length file → octet other mark ≡ 0x33
  unfolding marked_three
  three_second l = get_or-set_same (set file 4 0x33) (second_version file) 0x33 0 (omega (arith, length-set file 4 0x33))

  pub beyond : Beyond file other (mark + 1)
  unfolding marked_three
  beyond = record {
    size = size;
    at = λ p l. elsewhere p (λ e. omega (arith, far)) (λ e. omega arith);
    tail = λ p l. drop_set file 4 p 0x33 (omega (arith, far)) ∙ drop_set (set file 4 0x33) (second_version file) p 0x33 (omega arith);
  }

  -- a header's magic, and where its version fits
  begun : (at : ℕ) → ((p : ℕ) → at ≤ p → p < at + 4 → octet file p ≡ octet other p) → begins file at ≡ begins other at
  unfolding begins
  begun at same = λ i. leb (at + 4) (size i) && eqb (be32_same {file = file} {other = other} at (record { at = same }) i) 0x545A6966

  first_fits : version_fits rfc9636 file false 0 ≡ version_fits rfc9636 other false 0
  unfolding version_fits is_version is_fourth
  first_fits = rw (h.first, three_first, size) refl

  second_fits : version_fits rfc9636 file true (end_of (first_block file)) ≡ version_fits rfc9636 other true (end_of (first_block file))
  unfolding version_fits second_version
  second_fits = go (leb (end_of (first_block file) + 5) (length file)) refl where
    go : (t : Bool) → leb (end_of (first_block file) + 5) (length file) ≡ t → (leb (end_of (first_block file) + 5) (length file) && eqb (octet file (end_of (first_block file) + 4))
        (octet file 4)) ≡ (leb (end_of (first_block file) + 5) (length other) && eqb (octet other (end_of (first_block file) + 4)) (octet other 4))
    go true e = let inside : end_of (first_block file) + 4 < length file = omega (arith, leb-true (end_of (first_block file) + 5) (length file) e) in
        rw (← size, e, h.first, h.second inside, three_first, three_second inside) refl
    go false e = rw (← size, e) refl

  -- a header with its block
  module _ (wide : Bool) (at : ℕ) (magic : begins file at ≡ begins other at) (fits : version_fits rfc9636 file wide at ≡ version_fits rfc9636 other wide at)
      (blocks : block_at file wide at ≡ block_at other wide at) (plain : Plain file (block_at file wide at))
      (same : (p : ℕ) → at + 44 ≤ p → p < end_of (block_at file wide at) → octet file p ≡ octet other p) where
    header : check_header rfc9636 file wide at ≡ check_header rfc9636 other wide at
    unfolding check_header
    header = λ i. demand (magic i) (refusal 40 at) >> (demand (fits i) (refusal 41 (at + 4)) >> demand (leb (at + 44) (size i)) (refusal 42 at))

    counted : check_counts file at (block_at file wide at) ≡ check_counts other at (block_at file wide at)
    unfolding check_counts
    counted = rw size refl

    four : is_fourth rfc9636 (octet file 4) ≡ true
    unfolding is_fourth
    four = eq-eqb (octet file 4) 0x34 h.first

    three : is_fourth rfc9636 (octet other 4) ≡ false
    unfolding is_fourth
    three = rw three_first refl

    checked : check_block file (is_fourth rfc9636 (octet file 4)) (block_at file wide at) ≡ check_block other (is_fourth rfc9636 (octet other 4)) (block_at file wide at)
    checked =
        ap (λ (f : Bool). check_block file f (block_at file wide at)) four ∙ block_plain file (block_at file wide at) plain ∙ block_checked file other
        (block_at file wide at) (width_of file wide at) (λ p a b. same p (omega (arith, begin_of file wide at)) b) false ∙ ap (λ (f : Bool). check_block other f (block_at file wide at)) (sym three)

    block_read : read_block rfc9636 file wide at ≡ read_block rfc9636 other wide at
    unfolding read_block
    block_read =
        (λ i. header i >> (counted i >> (checked i >> given (block_at file wide at))))
        ∙ ap (λ (b : Block). check_header rfc9636 other wide at >> (check_counts other at b >> (check_block other (is_fourth rfc9636 (octet other 4)) b >> given b))) blocks

  first_read : read_block rfc9636 file false 0 ≡ read_block rfc9636 other false 0
  unfolding second_version
  first_read =
      block_read false 0 (begun 0 (λ p a b. elsewhere p (λ e. omega arith) (λ e. omega (arith, far)))) first_fits (block_at_same file other false 0
      (λ p a b. elsewhere p (λ e. omega arith) (λ e. omega (arith, far)))) h.one (λ p a b. elsewhere p (λ e. omega arith) (λ e. omega arith))

  second_read : read_block rfc9636 file true (end_of (first_block file)) ≡ read_block rfc9636 other true (end_of (first_block file))
  unfolding second_version
  second_read =
      block_read true (end_of (first_block file)) (begun (end_of (first_block file)) (λ p a b. elsewhere p (λ e. omega (arith, far)) (λ e. omega arith))) second_fits
      (block_at_same file other true (end_of (first_block file)) (λ p a b. elsewhere p (λ e. omega (arith, far)) (λ e. omega arith))) h.two
      (λ p a b. elsewhere p (λ e. omega (arith, far)) (λ e. omega arith))

  -- ---- the whole file
  long_read : ReadAlike (mark + 1) (read_long rfc9636 file (first_block file)) (read_long rfc9636 other (first_block file))
  unfolding read_long ◌>>=◌ second_version
  long_read = rw (← second_read) (go (read_block rfc9636 file true (end_of (first_block file))) refl) where
    ending : (block : Block) (begin : mark + 1 ≤ block.begin) (wide : 4 ≤ block.width) (footer : Reply ℕ)
        → ReadAlike (mark + 1) (footer >>= λ size. given (record { version = octet file 4; block = block; string = end_of block + 1; size = size }))
        (footer >>= λ size. given (record { version = octet other 4; block = block; string = end_of block + 1; size = size }))
    ending block begin wide (refused why) = refuses
    ending block begin wide (given n) =
        rw three_first (gives {zone = record { version = octet file 4; block = block; string = end_of block + 1; size = n }}
        (record { version = h.first; block = begin; string = omega (arith, begin); wide = wide }))

    go : (reading : Reply Block) → read_block rfc9636 file true (end_of (first_block file)) ≡ reading
        → ReadAlike (mark + 1) (reading >>= λ block. read_footer file (end_of block) >>= λ size. given (record { version = octet file 4; block = block; string = end_of block + 1; size = size }))
        (reading >>= λ block. read_footer other (end_of block) >>= λ size. given (record { version = octet other 4; block = block; string = end_of block + 1; size = size }))
    go (refused why) e = refuses
    go (given block) e = let is = read_is file true (end_of (first_block file)) e in
        let begin : mark + 1 ≤ block.begin = rw (← is) (omega (arith, begin_of file true (end_of (first_block file)))) in
        let wide : 4 ≤ block.width = rw (← is) (width_of file true (end_of (first_block file))) in
        rw (← footer_same file other (mark + 1) beyond (end_of block) (omega (arith, begin))) (ending block begin wide (read_footer file (end_of block)))

  pub zone_read : ReadAlike (mark + 1) (read_zone file) (read_zone other)
  unfolding read_zone_by ◌>>=◌ ◌>>◌ demand
  zone_read = rw (← size, ← first_read, h.first, three_first) (whole (leb (length file) (2 ^ 30))) where
    go : (reading : Reply Block) → read_block rfc9636 file false 0 ≡ reading →
        ReadAlike (mark + 1) (reading >>= λ first. read_long rfc9636 file first) (reading >>= λ first. read_long rfc9636 other first)
    go (refused why) e = refuses
    go (given first) e = rw (← read_is file false 0 e) long_read

    whole : (t : Bool) → ReadAlike (mark + 1) (demand t (refusal 1 0) >> (read_block rfc9636 file false 0 >>= λ first. read_long rfc9636 file first))
        (demand t (refusal 1 0) >> (read_block rfc9636 file false 0 >>= λ first. read_long rfc9636 other first))
    whole true = go (read_block rfc9636 file false 0) refl
    whole false = refuses

  -- ---- the answer by the transitions
  answer : ℤ → List ℕ → Zone → Reply (Option Found)
  answer instant text zone = given (by_table text zone.block (lift instant))

  answered : (instant : ℤ) (room : ℕ) {one two : Reply Zone} → ReadAlike (mark + 1) one two → lent file room (one >>= answer instant file) ≡ lent other room (two >>= answer instant other)
  unfolding ◌>>=◌ answer
  answered instant room refuses = lent_same file other (mark + 1) beyond room refused_one
  answered instant room (gives {zone = zone} second) =
      lent_same file other (mark + 1) beyond room (table_behind file other (mark + 1) beyond zone.block second.block (lift instant))
      ∙ ap (λ (a : Option Found). lent other room (given a)) (table_same file other (mark + 1) beyond zone.block second.block second.wide (lift instant))

  pub v4_as_v3 : (instant : ℤ) (room : ℕ) → local_time file instant room ≡ local_time (marked_three file) instant room
  unfolding local_time_by answer
  v4_as_v3 instant room = answered instant room zone_read
