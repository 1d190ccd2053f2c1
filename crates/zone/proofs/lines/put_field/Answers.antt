-- `zone::lines::put_field` meets its contract.
use Rattle.numbers.proofs.Prelude.{ℕ, min, ◌∷◌, ◌≡◌, ap, arith}
use Rattle.line.{proofs.Puts.{put_then, put_as}, specs.Put.{decimal}}
use Rattle.zone.proofs.Printing.{lent_bytes}
use Rattle.zone.specs.Lines.{bytes_text, field_line}
use Rattle.zone.proofs.lines.put_field.Goals as goal

pub returns : goal.returns
unfolding field_line
returns c =
    let index = put_as (ap (λ (n : ℕ). 32 ∷ decimal n) c.byte_at-tag.ensures) c.put_number-index.ensures in
    let bytes = put_as (ap bytes_text (lent_bytes c.args.text.now _ _ c.field_end-end.ensures (let e : c.min-start.result ≡ min 3 c.field_end-end.result = omega (arith, c.min-start.ensures) in e))) c.put_bytes-bytes.ensures in
    put_then _ _ c.put_all-name.ensures (put_then _ _ index (put_then _ _ bytes c.put.ensures))
