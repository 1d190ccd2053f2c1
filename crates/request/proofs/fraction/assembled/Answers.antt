-- `request::fraction::assembled` meets its contract (numbers, `pattern`).
use Rattle.numbers.proofs.{Prelude.{ℕ, ◌*◌, ◌≤◌, binary32, false, sym, ap, ◌∙◌, le_trans, arith}, float.Rounding.{pattern}}
use Prim.Native.Nat.{compare}
use lib.Ieee.{units, Fits.{nearest-le}, Nearest.{nearest-ge}}
-- rounded, they are as many, or 2 ^ 24
use Rattle.request.proofs.fraction.assembled.Goals as goal

pub returns : goal.returns
returns c =
    let range : (8388608 ≤ c.rounded.result) × (c.rounded.result ≤ 16777216) = let o = compare (c.args.rest * 2) c.args.unit in rw c.rounded.ensures (
      le_trans
          c.requires.0 (nearest-ge c.args.kept o),
      le_trans (nearest-le c.args.kept o) c.requires.1,
    ) in
    let r = range in
    c.of_bits.ensures ∙ sym (pattern c.rounded.result c.args.place r.0 r.1 c.requires.3) ∙ ap (λ (q : ℕ). units binary32 false q c.args.place) c.rounded.ensures
