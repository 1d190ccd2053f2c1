-- `salvage::entry::border_good` meets its contract.
use Rattle.numbers.{proofs.Prelude.{ap, ◌∙◌}, specs.{Reply.{◌or_else◌}, Varint.{told}, declared.refusal.Refusal.{Refusal}}}
use Rattle.salvage.proofs.entry.{Judging.{border_told}}
use Rattle.salvage.proofs.entry.border_good.Goals as goal

pub returns : goal.returns
returns c =
    c.or_refuse.ensures ∙ ap (λ (why : Refusal). told c.border_end.result or_else why) c.alone.ensures
    ∙ border_told c.args.file.now c.args.head c.args.row c.encoding_in.ensures c.section_place-place.ensures c.border_end.ensures
