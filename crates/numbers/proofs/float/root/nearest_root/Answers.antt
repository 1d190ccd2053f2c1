-- `numbers::float::root::nearest_root` meets its contract: one number is nearest to a root, and a number has one whole root, so what is found is the definition's.
use Rattle.numbers.proofs.Prelude.{ℕ, suc, ◌+◌, ◌*◌, ◌<◌, rules, lt-ltb, le-ltb, ltb, Bool, cond, ◌≡◌, sym, ap, ◌∙◌, add-one}
use Rattle.numbers.proofs.float.{Squares.{IsRoot, one_root, whole_root_is, one_nearest, nearest_root_is}}
use Rattle.numbers.specs.Float.Root.{nearest_root}
use Rattle.numbers.proofs.float.root.nearest_root.Goals as goal

by_root : (n r : ℕ) → n < 281474976710656 → IsRoot n r → nearest_root n ≡ cond (ltb (r * r + r) n) (suc r) r
unfolding nearest_root
by_root n r h k = ap (λ (x : ℕ). cond (ltb (x * x + x) n) (suc x) x) (one_root (whole_root_is 24 n h) k)

pub returns-then-is_nearest : goal.returns-then-is_nearest
returns-then-is_nearest c =
    let near = c.is_nearest.ensures c.if-is_nearest.true in one_nearest (record { low = near.0; high = near.1 }) (nearest_root_is c.args.n c.requires.0 c.requires.1)

pub returns-then-is_nearest-2 : goal.returns-then-is_nearest-2
returns-then-is_nearest-2 c =
    let near = c.is_nearest-2.ensures c.if-is_nearest-2.true in one_nearest (record { low = near.0; high = near.1 }) (nearest_root_is c.args.n c.requires.0 c.requires.1)

pub returns-then-low-n : goal.returns-then-low-n
returns-then-low-n c =
    let halved : nearest_root c.args.n ≡ cond (ltb (c.isqrt-low.result * c.isqrt-low.result + c.isqrt-low.result) c.args.n) (suc c.isqrt-low.result) c.isqrt-low.result = by_root c.args.n c.isqrt-low.result c.requires.1 (c.isqrt-low.ensures.square_le, c.isqrt-low.ensures.next_square_gt) in
    let r = c.isqrt-low.result in add-one r ∙ sym (halved ∙ ap (λ (b : Bool). cond b (suc r) r) (lt-ltb (r * r + r) _ c.if-low-n.true))

pub returns-else-low-n : goal.returns-else-low-n
returns-else-low-n c =
    let halved : nearest_root c.args.n ≡ cond (ltb (c.isqrt-low.result * c.isqrt-low.result + c.isqrt-low.result) c.args.n) (suc c.isqrt-low.result) c.isqrt-low.result = by_root c.args.n c.isqrt-low.result c.requires.1 (c.isqrt-low.ensures.square_le, c.isqrt-low.ensures.next_square_gt) in
    let r = c.isqrt-low.result in sym (halved ∙ ap (λ (b : Bool). cond b (suc r) r) (le-ltb (r * r + r) _ c.if-low-n.false))
