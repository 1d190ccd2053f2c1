-- `numbers::float::nearest::of_u64` meets its contract, by the law over the width (proofs/float/Rounding.antt, `round_whole`).
use Rattle.numbers.proofs.Prelude.{ℕ, ◌+◌, ◌-◌, ◌*◌, ◌/◌, ◌%◌, ◌^◌, ◌≤◌, ◌<◌, rules, binary32, of_int, pos, false, ◌≡◌, refl, sym, ap, subst, ◌∙◌, le_trans, le_of_lt, arith}
use Rattle.numbers.proofs.float.{Rounding.{round_whole, reaches_size, kept_least, whole_held}}
use Prim.Native.Nat.{compare}
use lib.Ieee.{round, units, size, Digits.{size-le}, Fits.{kept-lt, nearest-le}, Nearest.{closest, nearest-ge}}
-- the 24 digits that are kept of the z of n
use Rattle.numbers.proofs.float.nearest.of_u64.Goals as goal

record Kept (n z : ℕ) : Type 0 where
  longer : 24 < z
  short : z ≤ 64
  least : 8388608 ≤ n / 2 ^ (z - 24)
  under : n / 2 ^ (z - 24) < 16777216
  rounds : round binary32 false n 1 ≡ units binary32 false (closest n (2 ^ (z - 24))) (z - 24 + 149)

kept : (n z : ℕ) → 16777216 ≤ n → n < 2 ^ 64 → z ≡ size n → Kept n z
kept n z lo hi e = let longer = reaches_size 24 n lo in
    subst (Kept n) (sym e)
    (record {
      longer = longer;
      short = size-le n 64 hi;
      least = kept_least n longer;
      under = kept-lt 24 n;
      rounds = round_whole binary32 false n (size n - 24) (kept_least n longer) (kept-lt 24 n);
    })

-- rounded, they are as many, or 2 ^ 24
in_range : (n z q : ℕ) → Kept n z → q ≡ closest n (2 ^ (z - 24)) → (8388608 ≤ q) × (q ≤ 16777216)
in_range n z q k e = let u = 2 ^ (z - 24) in let o = compare (n % u * 2) u in
    rw e (le_trans k.least (nearest-ge (n / u) o), le_trans (nearest-le (n / u) o) k.under)

rounded : (n : ℕ) → of_int binary32 (pos n) ≡ round binary32 false n 1
unfolding of_int
rounded n = refl

pub overflow_sub-dropped : goal.overflow_sub-dropped
overflow_sub-dropped c =
    let at : Kept c.args.n c.digits-dropped.result = kept c.args.n c.digits-dropped.result (le_of_lt c.if-n-le16777216.false) (omega arith) c.digits-dropped.ensures in
    le_of_lt at.longer

pub nearest_shifted-requires : goal.nearest_shifted-requires
nearest_shifted-requires c =
    let at : Kept c.args.n c.digits-dropped.result = kept c.args.n c.digits-dropped.result (le_of_lt c.if-n-le16777216.false) (omega arith) c.digits-dropped.ensures in
    (omega (arith, at.short), at.under)

pub overflow_add-dropped : goal.overflow_add-dropped
overflow_add-dropped c =
    let at : Kept c.args.n c.digits-dropped.result = kept c.args.n c.digits-dropped.result (le_of_lt c.if-n-le16777216.false) (omega arith) c.digits-dropped.ensures in
    omega (arith, at.short)

pub assembled-requires : goal.assembled-requires
assembled-requires c =
    let at : Kept c.args.n c.digits-dropped.result = kept c.args.n c.digits-dropped.result (le_of_lt c.if-n-le16777216.false) (omega arith) c.digits-dropped.ensures in
    let k = at in let r = in_range _ _ _ k c.nearest_shifted.ensures in (r.0, r.1, omega (arith, k.short))

pub returns : goal.returns
returns c =
    let at : Kept c.args.n c.digits-dropped.result = kept c.args.n c.digits-dropped.result (le_of_lt c.if-n-le16777216.false) (omega arith) c.digits-dropped.ensures in
    let n = c.args.n in let z = c.digits-dropped.result in c.assembled.ensures ∙ ap (λ (q : ℕ). units binary32 false q (z - 24 + 149)) c.nearest_shifted.ensures ∙ sym (rounded n ∙ at.rounds)
