-- `batch::many::answer_each` meets its contract. The loop's invariant is `Stamping`: the lists hold what the fixes so far came to.
use Rattle.numbers.{proofs.Prelude.{length}}
use Rattle.batch.proofs.{Stamping.{each, Stamping}}
use Rattle.batch.specs.Many.{fixes_of, nothing}
use Rattle.batch.proofs.many.answer_each.Given as goal

abbrev pub invariant-loop-i : goal.invariant-loop-i
invariant-loop-i l =
    Stamping l.file l.head l.words l.asked (length l.initial.hits) (length l.initial.text) (length l.initial.answers) l.lats l.lons (each l.file l.head l.words
    l.asked (length l.initial.hits) (length l.initial.text)
    (length l.initial.answers) l.lats l.lons (fixes_of l.lats l.lons) nothing) l.hits l.text l.answers l.i l.matches l.used
