-- `numbers::float::root::positive_root` meets its contract: the code scales the digits as the definition does (proofs/Smallest.antt).
use Rattle.numbers.proofs.Prelude.{ℕ, ◌+◌, ◌-◌, ◌*◌, ◌/◌, ◌^◌, ◌≤◌, ◌<◌, rules, lit<, lit≤, binary32, false, ◌≡◌, sym, ap, subst, ◌∙◌, lt_of_lt_of_le, arith}
use Rattle.numbers.proofs.float.{Smallest.{Even, even, root_by_digits}, Squares.{IsNearest, nearest_root_is, nearest_range}}
use lib.Ieee.{size, units}
use Rattle.numbers.specs.Float.Root.{nearest_root}
-- x's digits and place, and their scaling
use Rattle.numbers.proofs.float.root.positive_root.Goals as goal

-- a root of 24 digits, or 2 ^ 24
in_range : (n r : ℕ) → 70368744177664 ≤ n → n < 281474976710656 → r ≡ nearest_root n → (8388608 ≤ r) × (r ≤ 16777216)
in_range n r lo hi e = nearest_range n r lo hi (subst (λ (x : ℕ). IsNearest n x) (sym e) (nearest_root_is n (lt_of_lt_of_le (lit< tt) lo) hi))

middle : (z p : ℕ) → z ≤ 24 → p < 254 → (z + p + 102) / 2 ≤ 252
middle z p a b = omega arith

pub overflow_add-half : goal.overflow_add-half
overflow_add-half c =
    let scaled : Even c.taken_apart-p.result.digits c.taken_apart-p.result.place = even c.taken_apart-p.result.digits c.taken_apart-p.result.place c.taken_apart-p.ensures.small.0 c.taken_apart-p.ensures.small.1 in
    let short : c.taken_apart-p.result.size ≤ 24 = subst (λ (z : ℕ). z ≤ 24) (sym c.taken_apart-p.ensures.small.3) (scaled).short in
    omega (arith, short, c.taken_apart-p.ensures.small.2)

pub overflow_add-half-2 : goal.overflow_add-half-2
overflow_add-half-2 c =
    let scaled : Even c.taken_apart-p.result.digits c.taken_apart-p.result.place = even c.taken_apart-p.result.digits c.taken_apart-p.result.place c.taken_apart-p.ensures.small.0 c.taken_apart-p.ensures.small.1 in
    let short : c.taken_apart-p.result.size ≤ 24 = subst (λ (z : ℕ). z ≤ 24) (sym c.taken_apart-p.ensures.small.3) (scaled).short in
    omega (arith, short, c.taken_apart-p.ensures.small.2)

pub overflow_mul-half : goal.overflow_mul-half
overflow_mul-half c =
    let scaled : Even c.taken_apart-p.result.digits c.taken_apart-p.result.place = even c.taken_apart-p.result.digits c.taken_apart-p.result.place c.taken_apart-p.ensures.small.0 c.taken_apart-p.ensures.small.1 in
    let short : c.taken_apart-p.result.size ≤ 24 = subst (λ (z : ℕ). z ≤ 24) (sym c.taken_apart-p.ensures.small.3) (scaled).short in
    omega (arith, short, c.taken_apart-p.ensures.small.2)

pub overflow_sub-place : goal.overflow_sub-place
overflow_sub-place c =
    let scaled : Even c.taken_apart-p.result.digits c.taken_apart-p.result.place = even c.taken_apart-p.result.digits c.taken_apart-p.result.place c.taken_apart-p.ensures.small.0 c.taken_apart-p.ensures.small.1 in
    let short : c.taken_apart-p.result.size ≤ 24 = subst (λ (z : ℕ). z ≤ 24) (sym c.taken_apart-p.ensures.small.3) (scaled).short in
    omega (arith, short)

pub power_of_two-requires : goal.power_of_two-requires
power_of_two-requires c =
    let scaled : Even c.taken_apart-p.result.digits c.taken_apart-p.result.place = even c.taken_apart-p.result.digits c.taken_apart-p.result.place c.taken_apart-p.ensures.small.0 c.taken_apart-p.ensures.small.1 in
    let short : c.taken_apart-p.result.size ≤ 24 = subst (λ (z : ℕ). z ≤ 24) (sym c.taken_apart-p.ensures.small.3) (scaled).short in
    omega (arith, short)

pub overflow_mul-square : goal.overflow_mul-square
overflow_mul-square c =
    let half : ℕ = (size c.taken_apart-p.result.digits + c.taken_apart-p.result.place + 102) / 2 in
    let square_is : c.taken_apart-p.result.digits * c.power_of_two.result ≡ c.taken_apart-p.result.digits * 2 ^ (c.taken_apart-p.result.place + 149 - 2 * half) = let d = c.taken_apart-p.result.digits in let p = c.taken_apart-p.result.place in ap (λ (u : ℕ). d * u) c.power_of_two.ensures ∙ ap (λ (z : ℕ). d * 2 ^ (p + 149 - 2 * ((z + p + 102) / 2))) c.taken_apart-p.ensures.small.3 in
    let scaled : Even c.taken_apart-p.result.digits c.taken_apart-p.result.place = even c.taken_apart-p.result.digits c.taken_apart-p.result.place c.taken_apart-p.ensures.small.0 c.taken_apart-p.ensures.small.1 in
    let under : c.taken_apart-p.result.digits * c.power_of_two.result < 281474976710656 = subst (λ (x : ℕ). x < 281474976710656) (sym square_is) (scaled).under in
    record { fits = lt_of_lt_of_le under (lit≤ tt) }

pub nearest_root-requires : goal.nearest_root-requires
nearest_root-requires c =
    let half : ℕ = (size c.taken_apart-p.result.digits + c.taken_apart-p.result.place + 102) / 2 in
    let square_is : c.taken_apart-p.result.digits * c.power_of_two.result ≡ c.taken_apart-p.result.digits * 2 ^ (c.taken_apart-p.result.place + 149 - 2 * half) = let d = c.taken_apart-p.result.digits in let p = c.taken_apart-p.result.place in ap (λ (u : ℕ). d * u) c.power_of_two.ensures ∙ ap (λ (z : ℕ). d * 2 ^ (p + 149 - 2 * ((z + p + 102) / 2))) c.taken_apart-p.ensures.small.3 in
    let scaled : Even c.taken_apart-p.result.digits c.taken_apart-p.result.place = even c.taken_apart-p.result.digits c.taken_apart-p.result.place c.taken_apart-p.ensures.small.0 c.taken_apart-p.ensures.small.1 in
    let least : 70368744177664 ≤ c.taken_apart-p.result.digits * c.power_of_two.result = subst (λ (x : ℕ). 70368744177664 ≤ x) (sym square_is) (scaled).least in
    let under : c.taken_apart-p.result.digits * c.power_of_two.result < 281474976710656 = subst (λ (x : ℕ). x < 281474976710656) (sym square_is) (scaled).under in
    (lt_of_lt_of_le (lit< tt) least, under)

pub assembled-requires : goal.assembled-requires
assembled-requires c =
    let half : ℕ = (size c.taken_apart-p.result.digits + c.taken_apart-p.result.place + 102) / 2 in
    let square_is : c.taken_apart-p.result.digits * c.power_of_two.result ≡ c.taken_apart-p.result.digits * 2 ^ (c.taken_apart-p.result.place + 149 - 2 * half) = let d = c.taken_apart-p.result.digits in let p = c.taken_apart-p.result.place in ap (λ (u : ℕ). d * u) c.power_of_two.ensures ∙ ap (λ (z : ℕ). d * 2 ^ (p + 149 - 2 * ((z + p + 102) / 2))) c.taken_apart-p.ensures.small.3 in
    let scaled : Even c.taken_apart-p.result.digits c.taken_apart-p.result.place = even c.taken_apart-p.result.digits c.taken_apart-p.result.place c.taken_apart-p.ensures.small.0 c.taken_apart-p.ensures.small.1 in
    let least : 70368744177664 ≤ c.taken_apart-p.result.digits * c.power_of_two.result = subst (λ (x : ℕ). 70368744177664 ≤ x) (sym square_is) (scaled).least in
    let under : c.taken_apart-p.result.digits * c.power_of_two.result < 281474976710656 = subst (λ (x : ℕ). x < 281474976710656) (sym square_is) (scaled).under in
    let short : c.taken_apart-p.result.size ≤ 24 = subst (λ (z : ℕ). z ≤ 24) (sym c.taken_apart-p.ensures.small.3) (scaled).short in
    let r = in_range _ c.nearest_root.result least under c.nearest_root.ensures in (r.0, r.1, middle _ _ short c.taken_apart-p.ensures.small.2)

pub returns : goal.returns
returns c =
    let half : ℕ = (size c.taken_apart-p.result.digits + c.taken_apart-p.result.place + 102) / 2 in
    let square_is : c.taken_apart-p.result.digits * c.power_of_two.result ≡ c.taken_apart-p.result.digits * 2 ^ (c.taken_apart-p.result.place + 149 - 2 * half) = let d = c.taken_apart-p.result.digits in let p = c.taken_apart-p.result.place in ap (λ (u : ℕ). d * u) c.power_of_two.ensures ∙ ap (λ (z : ℕ). d * 2 ^ (p + 149 - 2 * ((z + p + 102) / 2))) c.taken_apart-p.ensures.small.3 in
    let d = c.taken_apart-p.result.digits in let p = c.taken_apart-p.result.place in c.assembled.ensures ∙ ap (λ (q : ℕ). units binary32 false q ((c.taken_apart-p.result.size + p + 102) / 2)) (c.nearest_root.ensures ∙ ap nearest_root square_is) ∙ ap (λ (z : ℕ). units binary32 false (nearest_root (d * 2 ^ (p + 149 - 2 * ((size d + p + 102) / 2)))) ((z + p + 102) / 2)) c.taken_apart-p.ensures.small.3 ∙ sym (root_by_digits c.args.x d p c.requires c.taken_apart-p.ensures.small.0 c.taken_apart-p.ensures.small.1 c.taken_apart-p.ensures.whole)
