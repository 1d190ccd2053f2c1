-- `numbers::point::decode_point` meets its contract.
use Rattle.numbers.proofs.{Prelude.{ℕ, ◌/◌, ◌%◌, ◌^◌, rules, sfits_of, ℤ, ap, ◌∙◌, w32, to_z-of_z}, point.{BothBits.{low_of_both, high_of_both}}}
use Rattle.std.proofs.Common.{ap₂}
use Rattle.numbers.specs.Point.{signed_of, point_of}
use Rattle.numbers.proofs.point.decode_point.Goals as goal

pub returns : goal.returns
unfolding point_of
returns c =
    let point = c.args.point in ap₂ (λ (lat lon : ℤ). record { lat = lat; lon = lon }) (to_z-of_z w32 _ (sfits_of c.signed.type_inv) ∙ c.signed.ensures ∙ ap signed_of (ap (λ (n : ℕ). n % 2 ^ 32) c.apart_any-both.ensures ∙ low_of_both point)) (to_z-of_z w32 _ (sfits_of c.signed-2.type_inv) ∙ c.signed-2.ensures ∙ ap signed_of (ap (λ (n : ℕ). n / 2 ^ 32) c.apart_any-both.ensures ∙ high_of_both point))
