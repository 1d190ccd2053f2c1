-- Bytes, names and entries of a bundle, as the code meets them. Assumes nothing.
use Rattle.numbers.proofs.Prelude.{ℕ, zero, suc, ◌+◌, ◌-◌, ◌*◌, ◌/◌, ◌%◌, ◌≤◌, ◌<◌, eq-eqb, ne_eqb, le-leb, leb-true, lt-leb, eqb-true, eqb, leb, length, drop, get_or, length-append, length-map}
use Rattle.numbers.proofs.Prelude.{List·getD-append, List·getD-eq-default, drop-drop, get_or-drop, get_or-append-add, Bool, true, false, ◌&&◌, List, [], ◌∷◌, ◌++◌, map, ◌≡◌, refl, sym, ap, subst, ◌∙◌}
use Rattle.numbers.proofs.Prelude.{arith}
use Rattle.numbers.{proofs.{Replies.{demanded}, Tests.{both}}, specs.{Answer.{found, failed, if◌then◌else◌}, Reply.{given, refused, refusal, plain}, declared.refusal.Refusal.{Refusal}}}
use Rattle.std.proofs.Math.Bool.{and-false}
use lib.Bits.{bit_xor}
use Rattle.std.specs.{Prelude.{nat_eq}, List.{starts_with}}
use Rattle.bundle.specs.{Bundle.{xored, word_at, agrees, magic, is_bundle, is_index, is_data, is_end, head_of, is_entry, seek_of, find_of}, declared.{find.File.{File}, head.Head.{Head}}}

-- ---- a name in two parts, under a mask
masked_at : (mask : ℕ) (l : List ℕ) (at : ℕ) → at < length l → bit_xor (get_or l at 0) mask ≡ get_or (map (xored mask) l) at 0
masked_at mask [] at h = absurd (omega arith)
masked_at mask (x ∷ l) zero h = refl
masked_at mask (x ∷ l) (suc at) h = masked_at mask l at (omega arith)

module _ (p q : List ℕ) (at mask : ℕ) where
  masked : {byte : ℕ} → at < length (p ++ q) → byte ≡ get_or (p ++ q) at 0 → bit_xor byte mask ≡ get_or (map (xored mask) (p ++ q)) at 0
  masked h e = ap (xored mask) e ∙ masked_at mask (p ++ q) at h

  pub byte_first : at < length p → bit_xor (get_or p at 0) mask ≡ get_or (map (xored mask) (p ++ q)) at 0
  byte_first h = masked (omega (arith, length-append p q)) (sym (List·getD-append p q 0 at h))

  pub byte_second : length p ≤ at → at - length p < length q → bit_xor (get_or q (at - length p) 0) mask ≡ get_or (map (xored mask) (p ++ q)) at 0
  byte_second h l =
      masked (omega (arith, length-append p q)) (sym (ap (λ (k : ℕ). get_or (p ++ q) k 0) (let e : at ≡ length p + (at - length p) = omega arith in e) ∙ get_or-append-add p q (at - length p) 0))

  pub byte_none : length p ≤ at → length q ≤ at - length p → 0 ≡ get_or (map (xored mask) (p ++ q)) at 0
  byte_none h l = sym (List·getD-eq-default (map (xored mask) (p ++ q)) 0 (omega (arith, length-map (p ++ q) (xored mask), length-append p q)))

-- ---- bytes that agree
first_of : (text : List ℕ) (at : ℕ) → get_or (drop at text) 0 0 ≡ get_or text at 0
first_of text at = get_or-drop at text 0 0 ∙ ap (λ (k : ℕ). get_or text k 0) (let e : at + 0 ≡ at = omega arith in e)

agree_step : (n : ℕ) (bundle name : List ℕ) (from at : ℕ)
    → agrees (suc n) (drop from bundle) (drop at name) ≡ (eqb (get_or bundle from 0) (get_or name at 0) && agrees n (drop (from + 1) bundle) (drop (at + 1) name))
unfolding agrees
agree_step n bundle name from at = simp (first_of bundle from, first_of name at, drop-drop 1 from bundle, drop-drop 1 at name)

module _ (left : ℕ) (bundle name : List ℕ) (from at : ℕ) (some : 0 < left) where
  one_more : left ≡ suc (left - 1)
  one_more = omega arith

  step : agrees left (drop from bundle) (drop at name) ≡ (eqb (get_or bundle from 0) (get_or name at 0) && agrees (left - 1) (drop (from + 1) bundle) (drop (at + 1) name))
  step = ap (λ (k : ℕ). agrees k (drop from bundle) (drop at name)) one_more ∙ agree_step (left - 1) bundle name from at

  pub agree_stop : (get_or bundle from 0 ≡ get_or name at 0 → ⊥) → false ≡ agrees left (drop from bundle) (drop at name)
  agree_stop n = sym (step ∙ simp (ne_eqb (get_or bundle from 0) (get_or name at 0) n))

  pub agree_on : get_or bundle from 0 ≡ get_or name at 0 → agrees (left - 1) (drop (from + 1) bundle) (drop (at + 1) name) ≡ agrees left (drop from bundle) (drop at name)
  agree_on e = sym (step ∙ simp (eq-eqb (get_or bundle from 0) (get_or name at 0) e))

pub agree_end : (left : ℕ) (xs ys : List ℕ) → left ≡ 0 → true ≡ agrees left xs ys
unfolding agrees
agree_end left xs ys e = rw e refl

-- one byte that differs is enough
agree_differ : (n k : ℕ) (xs ys : List ℕ) → k < n → (get_or xs k 0 ≡ get_or ys k 0 → ⊥) → agrees n xs ys ≡ false
unfolding agrees
agree_differ zero k xs ys h d = absurd (omega arith)
agree_differ (suc n) zero xs ys h d = simp (ne_eqb (get_or xs 0 0) (get_or ys 0 0) d)
agree_differ (suc n) (suc k) xs ys h d = let later = agree_differ n k (drop 1 xs) (drop 1 ys) (omega arith) (λ e. d (sym (one_on k xs) ∙ e ∙ one_on k ys)) in
    ap (λ (t : Bool). eqb (get_or xs 0 0) (get_or ys 0 0) && t) later ∙ and-false (eqb (get_or xs 0 0) (get_or ys 0 0)) where
      one_on : (k : ℕ) (text : List ℕ) → get_or (drop 1 text) k 0 ≡ get_or text (suc k) 0
      one_on k text = get_or-drop 1 text k 0 ∙ ap (λ (i : ℕ). get_or text i 0) (let e : 1 + k ≡ suc k = omega arith in e)

pub not_entry : (bundle name : List ℕ) (place probe : ℕ) → probe < 40 → (get_or bundle (place + probe) 0 ≡ get_or name probe 0 → ⊥) → is_entry bundle name place ≡ false
unfolding is_entry
not_entry bundle name place probe h d =
    ap (λ (t : Bool). leb (length name) 40 && t) (agree_differ 40 probe (drop place bundle) name h (λ e. d (sym (get_or-drop place bundle probe 0) ∙ e))) ∙ and-false (leb (length name) 40)

-- places, counted from another
pub from_start : (n : ℕ) (bundle name : List ℕ) (place : ℕ) → agrees n (drop (place + 0) bundle) name ≡ agrees n (drop place bundle) name
from_start n bundle name place = ap (λ (k : ℕ). agrees n (drop k bundle) name) (let e : place + 0 ≡ place = omega arith in e)

pub next_place : (n : ℕ) (bundle name : List ℕ) (place at : ℕ) → agrees n (drop (place + (at + 1)) bundle) (drop (at + 1) name) ≡ agrees n (drop (place + at + 1) bundle) (drop (at + 1) name)
next_place n bundle name place at = ap (λ (k : ℕ). agrees n (drop k bundle) (drop (at + 1) name)) (let e : place + (at + 1) ≡ place + at + 1 = omega arith in e)

-- ---- the head
pub bundle_long : (bundle : List ℕ) → is_bundle bundle ≡ true → 24 ≤ length bundle
bundle_long bundle e = go (leb 24 (length bundle)) (starts_with nat_eq bundle magic) refl e where
  go : (a b : Bool) → leb 24 (length bundle) ≡ a → (a && b) ≡ true → 24 ≤ length bundle
  go true b f e = leb-true 24 (length bundle) f
  go false b f e = absurd (let z : ◌≡◌ {A = ℕ} 0 1 = cc in omega arith)

same_head : {a b c d e f : ℕ} → a ≡ b → c ≡ d → e ≡ f → ◌≡◌ {A = Head} (record { index = a; start = c; end = e }) (record { index = b; start = d; end = f })
same_head p q r = cc

module _ (bundle : List ℕ) where
  pub head_1 : is_bundle bundle ≡ false → refused (refusal 89 0 0) ≡ head_of bundle
  unfolding head_of
  head_1 e = simp e

  module _ (a : is_bundle bundle ≡ true) where
    pub head_2 : (get_or bundle 11 0 ≡ 0 → ⊥) → refused (refusal 89 0 11) ≡ head_of bundle
    unfolding head_of
    head_2 n = simp (a, ne_eqb (get_or bundle 11 0) 0 n)

    module _ (z : get_or bundle 11 0 ≡ 0) {i : ℕ} (wi : i ≡ word_at bundle 12) where
      pub head_3 : is_index i ≡ false → refused (refusal 89 0 12) ≡ head_of bundle
      unfolding head_of
      head_3 e = simp (a, eq-eqb (get_or bundle 11 0) 0 z, rw wi at e)

      module _ (b : is_index i ≡ true) {d : ℕ} (wd : d ≡ word_at bundle 16) where
        pub head_4 : is_data i d ≡ false → refused (refusal 89 0 16) ≡ head_of bundle
        unfolding head_of
        head_4 e = simp (a, eq-eqb (get_or bundle 11 0) 0 z, rw wi at b, rw (wi, wd) at e)

        module _ (s : is_data i d ≡ true) {e : ℕ} (we : e ≡ word_at bundle 20) where
          pub head_5 : is_end d e (length bundle) ≡ false → refused (refusal 89 0 20) ≡ head_of bundle
          unfolding head_of
          head_5 f = simp (a, eq-eqb (get_or bundle 11 0) 0 z, rw wi at b, rw (wi, wd) at s, rw (wd, we) at f)

          pub head_6 : is_end d e (length bundle) ≡ true → given (record { index = i; start = d; end = e }) ≡ head_of bundle
          unfolding head_of
          head_6 f = ap given (same_head wi wd we) ∙ simp (a, eq-eqb (get_or bundle 11 0) 0 z, rw wi at b, rw (wi, wd) at s, rw (wd, we) at f)

-- ---- what a head that was read says
pub record Lies (length index start end : ℕ) : Type 0 where
  pub low : 24 ≤ index
  pub order : index ≤ start
  pub whole : (start - index) % 52 ≡ 0
  pub under : start ≤ end
  pub inside : end ≤ length
  pub small : end ≤ 2147483647

lies : (length i d e : ℕ) → is_index i ≡ true → is_data i d ≡ true → is_end d e length ≡ true → Lies length i d e
lies length i d e x y z = let a = both (leb i 2147483647) (leb 24 i) x in let b = both (leb d 2147483647 && leb i d) (eqb ((d - i) % 52) 0) y in
    let c = both (leb d 2147483647) (leb i d) b.0 in let f = both (leb e 2147483647 && leb d e) (leb e length) z in
    let g = both (leb e 2147483647) (leb d e) f.0 in
    record { low = leb-true _ _ a.1; order = leb-true _ _ c.1; whole = eqb-true _ _ b.1; under = leb-true _ _ g.1; inside = leb-true _ _ f.1; small = leb-true _ _ g.0 }

pub head_good : (bundle : List ℕ) {head : Head} → given head ≡ head_of bundle → Lies (length bundle) head.index head.start head.end
unfolding head_of
head_good bundle {head = head} h = let a = demanded (is_bundle bundle) (refusal 89 0 0) h in
    let b = demanded (eqb (get_or bundle 11 0) 0) (refusal 89 0 11) a.1 in let c = demanded (is_index (word_at bundle 12)) (refusal 89 0 12) b.1 in
    let d = demanded (is_data (word_at bundle 12) (word_at bundle 16)) (refusal 89 0 16) c.1 in
    let e = demanded (is_end (word_at bundle 16) (word_at bundle 20) (length bundle)) (refusal 89 0 20) d.1 in
    let same : head ≡ record { index = word_at bundle 12; start = word_at bundle 16; end = word_at bundle 20 } = (let f = e.1 in cc) in
    subst (λ (x : Head). Lies (length bundle) x.index x.start x.end) (sym same) (lies (length bundle) _ _ _ c.0 d.0 e.0)

-- ---- entries
module _ (bundle p q : List ℕ) (place mask : ℕ) where
  abbrev name : List ℕ
  name = map (xored mask) (p ++ q)

  name_length : length name ≡ length p + length q
  name_length = length-map (p ++ q) (xored mask) ∙ length-append p q

  pub long_prefix : 40 < length p → false ≡ is_entry bundle name place
  unfolding is_entry
  long_prefix h = sym (simp (lt-leb (length name) 40 (omega (arith, name_length))))

  pub long_name : length p ≤ 40 → 40 - length p < length q → false ≡ is_entry bundle name place
  unfolding is_entry
  long_name l h = sym (simp (lt-leb (length name) 40 (omega (arith, name_length))))

  pub entry_is : length p ≤ 40 → length q ≤ 40 - length p → agrees 40 (drop place bundle) name ≡ is_entry bundle name place
  unfolding is_entry
  entry_is l h = sym (simp (le-leb (length name) 40 (omega (arith, name_length))))

entry_first : (n : ℕ) (bundle name : List ℕ) (at : ℕ) → is_entry bundle name at ≡ true → seek_of (suc n) bundle name at ≡ found at
unfolding seek_of
entry_first n bundle name at e = simp e

entry_next : (n : ℕ) (bundle name : List ℕ) (at : ℕ) → is_entry bundle name at ≡ false → seek_of (suc n) bundle name at ≡ seek_of n bundle name (at + 52)
unfolding seek_of
entry_next n bundle name at e = simp e

module _ (left : ℕ) (bundle name : List ℕ) (at : ℕ) where
  module _ (some : 0 < left) where
    pub seek_here : is_entry bundle name at ≡ true → found at ≡ seek_of left bundle name at
    seek_here e = sym (ap (λ (k : ℕ). seek_of k bundle name at) (let s : left ≡ suc (left - 1) = omega arith in s) ∙ entry_first (left - 1) bundle name at e)

    pub seek_on : is_entry bundle name at ≡ false → seek_of (left - 1) bundle name (at + 52) ≡ seek_of left bundle name at
    seek_on e = sym (ap (λ (k : ℕ). seek_of k bundle name at) (let s : left ≡ suc (left - 1) = omega arith in s) ∙ entry_next (left - 1) bundle name at e)

pub seek_end : (left : ℕ) (bundle name : List ℕ) (at : ℕ) → left ≡ 0 → failed ≡ seek_of left bundle name at
unfolding seek_of
seek_end left bundle name at e = rw e refl

-- the entry that is found is one of those
pub seek_inside : (n : ℕ) (bundle name : List ℕ) (at : ℕ) {place : ℕ} → found place ≡ seek_of n bundle name at → (at ≤ place) × (place + 52 ≤ at + 52 * n)
unfolding seek_of
seek_inside zero bundle name at e = absurd (let z : ◌≡◌ {A = ℕ} 0 1 = cc in omega arith)
seek_inside (suc n) bundle name at e = go (is_entry bundle name at) (λ p q. seek_inside n bundle name (at + 52) {place = p} q) e where
  go : (t : Bool) {place : ℕ} → ((p : ℕ) → found p ≡ seek_of n bundle name (at + 52) → (at + 52 ≤ p) × (p + 52 ≤ at + 52 + 52 * n))
      → found place ≡ (if t then found at else seek_of n bundle name (at + 52)) → (at ≤ place) × (place + 52 ≤ at + 52 * suc n)
  go true {place = place} k e = let s : place ≡ at = cc in (omega arith, omega arith)
  go false {place = place} k e = let h = k place e in (omega (arith, h), omega (arith, h))

-- ---- the file
module _ (bundle name : List ℕ) where
  pub find_head : {why : Refusal} → refused why ≡ head_of bundle → refused why ≡ find_of bundle name
  unfolding find_of
  find_head h = rw (← h) refl

  module _ {head : Head} (h : given head ≡ head_of bundle) where
    pub find_none : failed ≡ seek_of ((head.start - head.index) / 52) bundle name head.index → refused (plain 88) ≡ find_of bundle name
    unfolding find_of
    find_none s = rw (← h, ← s) refl

    module _ {place : ℕ} (s : found place ≡ seek_of ((head.start - head.index) / 52) bundle name head.index) where
      pub find_out : head.end < head.start + word_at bundle (place + 40) + word_at bundle (place + 44) → refused (refusal 89 0 place) ≡ find_of bundle name
      unfolding find_of
      find_out l = rw (← h, ← s) (simp (lt-leb (head.start + word_at bundle (place + 40) + word_at bundle (place + 44)) head.end l))

      pub find_in : head.start + word_at bundle (place + 40) + word_at bundle (place + 44) ≤ head.end
          → given (record { start = head.start + word_at bundle (place + 40); length = word_at bundle (place + 44) }) ≡ find_of bundle name
      unfolding find_of
      find_in l = rw (← h, ← s) (simp (le-leb (head.start + word_at bundle (place + 40) + word_at bundle (place + 44)) head.end l))

pub same_file : {a b c d : ℕ} → a ≡ b → c ≡ d → ◌≡◌ {A = File} (record { start = a; length = c }) (record { start = b; length = d })
same_file e f = cc
