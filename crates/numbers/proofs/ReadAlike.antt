-- Numbers that end inside bytes that two files share are the same in both. Assumes nothing.
use Rattle.numbers.proofs.Prelude.{ℕ, zero, suc, ◌+◌, ◌-◌, ◌*◌, ◌%◌, ◌≤◌, min, ltb, length, take, drop, length-drop, Bool, true, false, List, [], ◌∷◌, ◌≡◌, refl, ap, arith}
use Rattle.numbers.proofs.Answers.{found_one, not_failed, not_refused}
use Rattle.numbers.specs.{Answer.{Answer, found, failed, refused, if◌then◌else◌}, Varint.{Numeral, is_last, value_of, size_of, too_long, forward_at, is_complete, whole_of, reading_of}}

number_alike : (m : ℕ) (bs bs' : List ℕ) → take m bs ≡ take m bs' → size_of bs ≤ m → (size_of bs ≡ size_of bs') × (value_of bs ≡ value_of bs')
unfolding size_of value_of
number_alike zero [] bs' e h = absurd (omega arith)
number_alike zero (b ∷ bs) bs' e h = absurd (omega arith)
number_alike (suc m) [] [] e h = (refl, refl)
number_alike (suc m) [] (b ∷ bs') e h = let z : ◌≡◌ {A = ℕ} 0 1 = cc in absurd (omega arith)
number_alike (suc m) (b ∷ bs) [] e h = let z : ◌≡◌ {A = ℕ} 0 1 = cc in absurd (omega arith)
number_alike (suc m) (b ∷ bs) (b' ∷ bs') e h = rw first (go (is_last b') (rw first at h) (number_alike m bs bs' rest)) where
  first : b ≡ b'
  first = cc

  rest : take m bs ≡ take m bs'
  rest = cc

  go : (last : Bool) → 1 + (if last then 0 else size_of bs) ≤ suc m → (size_of bs ≤ m → (size_of bs ≡ size_of bs') × (value_of bs ≡ value_of bs'))
      → (1 + (if last then 0 else size_of bs) ≡ 1 + (if last then 0 else size_of bs')) × (b' % 128 + 128 * (if last then 0 else value_of bs) ≡ b' % 128 + 128 * (if last then 0 else value_of bs'))
  go true h k = (refl, refl)
  go false h k = let same = k (omega arith) in (rw same.0, rw same.1)

behind : (place end : ℕ) (l l' : List ℕ) → take end l ≡ take end l' → take (end - place) (drop place l) ≡ take (end - place) (drop place l')
behind zero end l l' e = let z : end - 0 ≡ end = omega arith in rw z e
behind (suc place) zero l l' e = let z : 0 - suc place ≡ 0 = omega arith in rw z
behind (suc place) (suc end) [] [] e = refl
behind (suc place) (suc end) [] (y ∷ l') e = let z : ◌≡◌ {A = ℕ} 0 1 = cc in absurd (omega arith)
behind (suc place) (suc end) (x ∷ l) [] e = let z : ◌≡◌ {A = ℕ} 0 1 = cc in absurd (omega arith)
behind (suc place) (suc end) (x ∷ l) (y ∷ l') e = let z : suc end - suc place ≡ end - place = omega arith in let rest : take end l ≡ take end l' = cc in
    rw z (behind place end l l' rest)

complete_one : {number m : Numeral} (test : Bool) → found number ≡ (if test then found m else refused 31) → (test ≡ true) × (number ≡ m)
complete_one true e = (refl, found_one e)
complete_one false e = let z : ◌≡◌ {A = ℕ} 0 1 = cc in absurd (omega arith)

module _ (file file' : List ℕ) (end : ℕ) (long : length file ≡ length file') (bytes : take end file ≡ take end file') where
  forward_alike : (place : ℕ) {number : Numeral} → found number ≡ forward_at file place → number.place ≤ end → found number ≡ forward_at file' place
  unfolding forward_at too_long
  forward_alike place {number} e h = let bs = drop place file in let bs' = drop place file' in let here = not_failed (ltb place (length file)) e in
      let short = not_refused 12 (ltb 10 (min (size_of bs) (length bs))) here.1 in
      let ends : number.place ≡ place + size_of bs = ap (λ (n : Numeral). n.place) (found_one short.1) in
      let same = number_alike (end - place) bs bs' (behind place end file file' bytes) (omega (arith, ends, h)) in
      let size : length bs ≡ length bs' = omega (arith, length-drop place file, length-drop place file', long) in
      rw (← long, ← size, ← same.0, ← same.1) e

  -- read strictly or not
  pub reading_alike : (strict : Bool) (place : ℕ) {number : Numeral} → found number ≡ reading_of strict file place → number.place ≤ end → found number ≡ reading_of strict file' place
  unfolding reading_of whole_of
  reading_alike false place e h = forward_alike place e h
  reading_alike true place {number} e h = go (forward_at file place) refl e where
    go : (answer : Answer Numeral) → answer ≡ forward_at file place → found number ≡ whole_of file answer → found number ≡ whole_of file' (forward_at file' place)
    go (found m) s e = let parts = complete_one (is_complete file m) e in let there = forward_alike place s (rw parts.1 at h) in
        let still : is_complete file' m ≡ true = rw (← long) parts.0 in rw (← there, still, parts.1)
    go failed s e = let z : ◌≡◌ {A = ℕ} 0 1 = cc in absurd (omega arith)
    go (refused n) s e = let z : ◌≡◌ {A = ℕ} 0 1 = cc in absurd (omega arith)
