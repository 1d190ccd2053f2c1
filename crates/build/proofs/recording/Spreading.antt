-- Numbers at every second place, written twice. Assumes nothing.
use Rattle.numbers.proofs.Prelude.{ℕ, zero, suc, ◌+◌, ◌*◌, ◌≤◌, ◌<◌, length, get_or, set, length-map, length-set, List, [], ◌∷◌, map, ◌≡◌, refl, ap, ◌∙◌, arith}
use lib.Seq.{set-set, set_comm}
use Rattle.builder.{proofs.grouping.Listed.{numbers_many}, specs.{Grouping.Keys.{numbers_from}, inner.Drawing.Section.{spread}}}
use Rattle.build.proofs.metadata.Begun.{spread_at}

pub spread_size : (i : ℕ) (ns list : List ℕ) → length (spread i ns list) ≡ length list
unfolding spread
spread_size i [] list = refl
spread_size i (n ∷ ns) list = spread_size (i + 2) ns (set list i n) ∙ length-set list i n

set_before : (i j : ℕ) (ns list : List ℕ) (n : ℕ) → j < i → set (spread i ns list) j n ≡ spread i ns (set list j n)
unfolding spread
set_before i j [] list n h = refl
set_before i j (m ∷ ns) list n h =
    set_before (i + 2) j ns (set list i m) n (omega arith) ∙ ap (spread (i + 2) ns) (set_comm list i j m n (λ e. omega (arith, e)))

-- the second time alone counts
pub spread_again : (i : ℕ) (ns ms list : List ℕ) → length ns ≡ length ms → spread i ns (spread i ms list) ≡ spread i ns list
unfolding spread
spread_again i [] [] list e = refl
spread_again i [] (m ∷ ms) list e = absurd (omega (arith, e))
spread_again i (n ∷ ns) [] list e = absurd (omega (arith, e))
spread_again i (n ∷ ns) (m ∷ ms) list e =
    ap (spread (i + 2) ns) (set_before (i + 2) i ms (set list i m) n (omega arith))
    ∙ (spread_again (i + 2) ns ms (set (set list i m) i n) (omega (arith, e)) ∙ ap (spread (i + 2) ns) (set-set list i m n))

pub numbered_at : (f : ℕ → ℕ) (i n j : ℕ) → j < n → get_or (map f (numbers_from i n)) j 0 ≡ f (i + j)
unfolding numbers_from
numbered_at f i zero j h = absurd (omega arith)
numbered_at f i (suc n) zero h = let e : i ≡ i + 0 = omega arith in ap f e
numbered_at f i (suc n) (suc j) h = let e : suc i + j ≡ i + suc j = omega arith in numbered_at f (suc i) n j (omega arith) ∙ ap f e

pub numbered_many : (f : ℕ → ℕ) (count : ℕ) → length (map f (numbers_from 0 count)) ≡ count
numbered_many f count = length-map (numbers_from 0 count) f ∙ numbers_many 0 count

pub spread_read : (f : ℕ → ℕ) (count : ℕ) (list : List ℕ) (i : ℕ) → i < count → 2 * count ≤ length list → get_or (spread 0 (map f (numbers_from 0 count)) list) (2 * i) 0 ≡ f i
spread_read f count list i h room = let a : 2 * i ≡ 0 + 2 * i = omega arith in let b : 0 + i ≡ i = omega arith in
    ap (λ (n : ℕ). get_or (spread 0 (map f (numbers_from 0 count)) list) n 0) a
    ∙ (spread_at 0 (map f (numbers_from 0 count)) list i (omega (arith, numbered_many f count, h)) (omega (arith, h, room)) ∙ (numbered_at f 0 count i h ∙ ap f b))
