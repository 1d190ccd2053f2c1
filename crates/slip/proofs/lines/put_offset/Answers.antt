-- `slip::lines::put_offset` meets its contract.
use Rattle.numbers.proofs.Prelude.{rules, ◌≡◌, ap, ◌∙◌, w32, SFits, of_z, to_z-of_z}
use Rattle.line.proofs.{Puts.{put_as, put_then}}
use Rattle.slip.proofs.{Parts.{below_zero, from_zero}}
-- the offset's bits
use Rattle.slip.proofs.lines.put_offset.Goals as goal

pub returns-then-offset-lt0 : goal.returns-then-offset-lt0
returns-then-offset-lt0 c =
    let range : SFits w32 c.args.spot.offset = let told = c.struct_told-1.given in search rules in
    let bits : c.offset_bits-bits.result ≡ of_z w32 c.args.spot.offset = c.offset_bits-bits.ensures ∙ ap (of_z w32) (to_z-of_z w32 _ range) in
    put_as (below_zero _ range bits c.if-offset-lt0.true) (put_then _ _ c.put-size.ensures c.put_span.ensures)

pub returns : goal.returns
returns c =
    let range : SFits w32 c.args.spot.offset = let told = c.struct_told-1.given in search rules in
    let bits : c.offset_bits-bits.result ≡ of_z w32 c.args.spot.offset = c.offset_bits-bits.ensures ∙ ap (of_z w32) (to_z-of_z w32 _ range) in
    put_as (from_zero _ range bits c.if-offset-lt0.false) (put_then _ _ c.put-size-2.ensures c.put_span-2.ensures)
