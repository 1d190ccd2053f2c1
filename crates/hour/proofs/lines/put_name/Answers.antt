-- `hour::lines::put_name` meets its contract.
use Rattle.numbers.proofs.Prelude.{ℕ, take, length-take-le, map, sym, ap, ◌∙◌, arith}
use Rattle.hour.proofs.{Names.{take_least}}
use Rattle.line.{proofs.{Puts.{put_then, put_as}, Shown.{unmasked_so}}, specs.Clock.{shown}}
use Rattle.hour.proofs.lines.put_name.Goals as goal

pub slice_bounds-put_shown-end : goal.slice_bounds-put_shown-end
slice_bounds-put_shown-end c =
    sym (length-take-le _ c.args.text.now (omega (arith, c.min-size.ensures)))

pub returns : goal.returns
returns c =
    let part = take c.min-size.result c.args.text.now in
    put_then _ _ c.put-start.ensures (put_as (unmasked_so part ∙ ap (λ (k : ℕ). map shown (take k c.args.text.now)) c.min-size.ensures
    ∙ ap (map shown) (take_least c.args.most c.args.text.now)) c.put_shown.ensures)
