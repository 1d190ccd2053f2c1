-- A yard's parts of the lent lists, and its border. Assumes nothing.
use Rattle.numbers.proofs.Prelude.{ℕ, zero, suc, ◌+◌, ◌-◌, ◌/◌, ◌≤◌, ◌<◌, leb-false, ltb, leb, ℤ, length, take, drop, length-append, length-drop, length-take, take_all, take-append-le, Bool, true}
use Rattle.numbers.{proofs.Prelude.{false, List, [], ◌∷◌, ◌++◌, ◌≡◌, refl, sym, ap, subst, ◌∙◌, add-one, arith}, specs.{Answer.{if◌then◌else◌}, Reply.{Reply, given, refused}}}
use Rattle.writer.specs.{Pieces.{piece_at, first_pieces, pieces_of}, Writer.{border_of}}
use Rattle.builder.proofs.Checking.{part_is}
use Rattle.builder.specs.{Borders.{appended, Draws}, Yards.{part_of, part_end, next_part}, inner.Drawing.Section.{yard_appended}}

first_many : (n : ℕ) (words : List ℕ) → length (first_pieces n words) ≡ n
unfolding first_pieces
first_many zero words = refl
first_many (suc n) words = length-append (first_pieces n words) (piece_at words n ∷ []) ∙ (ap (λ (k : ℕ). k + 1) (first_many n words) ∙ add-one n)

pub pieces_many : (words : List ℕ) → length (pieces_of words) ≡ length words / 5
unfolding pieces_of
pieces_many words = first_many (length words / 5) words

-- so many items, or all that are left
pub next_taken : (l : List ℕ) (at count r : ℕ) → at ≤ length l → r ≡ next_part (length l) at count → take (r - at) (drop at l) ≡ take count (drop at l)
next_taken l at count r inside e = go (leb count (length l - at)) refl e where
  go : (t : Bool) → leb count (length l - at) ≡ t → r ≡ (if t then at + count else length l) → take (r - at) (drop at l) ≡ take count (drop at l)
  go true f e = let s : r - at ≡ count = let is : r ≡ at + count = e in omega (arith, is) in ap (λ (n : ℕ). take n (drop at l)) s
  go false f e = let is : r ≡ length l = e in let far : length l - at < count = leb-false count (length l - at) f in
      take_all (r - at) (drop at l) (omega (arith, is, length-drop at l)) ∙ sym (take_all count (drop at l) (omega (arith, far, length-drop at l)))

pub next_after : (size at count r : ℕ) → at ≤ size → r ≡ next_part size at count → at ≤ r
next_after size at count r inside e = go (leb count (size - at)) e where
  go : (t : Bool) → r ≡ (if t then at + count else size) → at ≤ r
  go true e = let is : r ≡ at + count = e in omega (arith, is)
  go false e = let is : r ≡ size = e in omega (arith, is, inside)

-- no more items than are asked for
pub part_few : (l : List ℤ) (size at count r : ℕ) → r ≡ part_end size at count → length (take (r - at) l) ≤ count
part_few l size at count r e = go (leb count (size - at)) e where
  go : (t : Bool) → r ≡ (if t then at + count else at) → length (take (r - at) l) ≤ count
  go true e = let is : r ≡ at + count = e in omega (arith, is, length-take (r - at) l)
  go false e = let is : r ≡ at = e in omega (arith, is, length-take (r - at) l)

-- what stands at the front of a part stands at the front of all
draws_longer : (reply : Reply (List ℕ)) (earlier part rest : List ℕ) (r : Reply ℕ) → Draws reply earlier part r → Draws reply earlier (part ++ rest) r
unfolding Draws
draws_longer reply earlier part rest (given size) d =
    (d.0 ∙ ap (λ (bs : List ℕ). given (earlier ++ bs)) (sym (take-append-le size part rest d.1)), omega (arith, d.1, length-append part rest))
draws_longer reply earlier part rest (refused why) d = d

module _ (version room : ℕ) (earlier : List ℕ) (lats lons : List ℤ) (pieces : List ℕ) (lat tall lon wide piece words : ℕ) (deep : piece ≤ length pieces) where
  pub yard_drawn : (lat' lon' piece' : ℕ) → lat' ≡ part_end (length lats) lat tall → lon' ≡ part_end (length lons) lon wide → piece' ≡ next_part (length pieces) piece words
      → (cut : Bool) → cut ≡ ltb (length pieces - piece) words → (part rest : List ℕ) (r : Reply ℕ)
      → Draws (appended room earlier cut (length (take (piece' - piece) (drop piece pieces)) / 5)
      (border_of version (take (lat' - lat) (drop lat lats)) (take (lon' - lon) (drop lon lons)) (pieces_of (take (piece' - piece) (drop piece pieces))) earlier)) earlier part r
      → Draws (yard_appended version room earlier (drop lat lats) tall (drop lon lons) wide (drop piece pieces) words) earlier (part ++ rest) r
  yard_drawn lat' lon' piece' ea eo ep cut ec part rest r d =
      let p : take (piece' - piece) (drop piece pieces) ≡ take words (drop piece pieces) = next_taken pieces piece words piece' deep ep in
      let a : take (lat' - lat) (drop lat lats) ≡ part_of tall (drop lat lats) = part_is lats lat tall lat' ea in
      let o : take (lon' - lon) (drop lon lons) ≡ part_of wide (drop lon lons) = part_is lons lon wide lon' eo in
      let c : cut ≡ ltb (length (drop piece pieces)) words = ec ∙ ap (λ (n : ℕ). ltb n words) (sym (length-drop piece pieces)) in
      let k : length (take (piece' - piece) (drop piece pieces)) / 5 ≡ length (pieces_of (take words (drop piece pieces))) =
      ap (λ (ws : List ℕ). length ws / 5) p ∙ sym (pieces_many (take words (drop piece pieces))) in
      let same : appended room earlier cut (length (take (piece' - piece) (drop piece pieces)) / 5)
      (border_of version (take (lat' - lat) (drop lat lats)) (take (lon' - lon) (drop lon lons)) (pieces_of (take (piece' - piece) (drop piece pieces))) earlier)
      ≡ yard_appended version room earlier (drop lat lats) tall (drop lon lons) wide (drop piece pieces) words = rw (k, p, a, o, c) in
      draws_longer (yard_appended version room earlier (drop lat lats) tall (drop lon lons) wide (drop piece pieces) words) earlier part rest r
      (subst (λ (x : Reply (List ℕ)). Draws x earlier part r) same d)
