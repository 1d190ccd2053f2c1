-- A builder with a yard more, by a fresh sum, and its notes. Assumes nothing.
use Rattle.numbers.proofs.Prelude.{ℕ, ◌+◌, ℤ, length, List, ◌≡◌, refl, ap, ◌∙◌, arith}
use Rattle.numbers.specs.Reply.{Reply, given, refused}
use Rattle.std.specs.Prelude.{is_err, false, true}
use Rattle.build.specs.declared.room.Work.{Work}
use Rattle.builder.specs.{Borders.{Drawn}, Yards.{Yard}}
use Rattle.add.specs.{Growing.{Joins.{Renoted}, Notes.{Notes, NotedLists, NotesRoom}}, declared.afresh.measure.Measured.{Measured}}
use Rattle.add.specs.inner.{Afresh.Afresh.{Lying, Measures, Measuring, Notable, Values, gathered}, Growing.Joins.{Grew}}
use Rattle.draft.{proofs.summed.Reached.{reached}, specs.{Held.State.{Stands}, declared.held.state.Held.{Held}}}

-- ---- what can be measured can be noted
pub measured_notable : (held : Held) (size borders lengths texts : ℕ) (work : Work) → Measuring held size borders lengths texts work → (places marks chains groups begins : ℕ) → places ≡ work.places
    → NotesRoom held.names (held.yards + 1) marks chains groups begins → Notable held.names (held.yards + 1) lengths places marks chains groups begins
measured_notable held size borders lengths texts work m places marks chains groups begins same room =
    let reach = reached held.names (held.yards + 1) lengths borders texts work m.summing in
    record { few_names = m.summing.named; few_yards = m.summing.few; all = m.summing.all; gathers = omega (arith, same, reach.places); room = room }

-- ---- what is answered
module _ (held : Held) (strings size : ℕ) (boxes : List ℤ) (borders lengths texts places : List ℕ) (m : Measured)
    (told : Lying held size boxes borders lengths texts (λ yards drawn. Measures yards drawn held strings places m)) where
  pub grew_not : is_err m.changed ≡ true → (noted : ℕ) (notes : Notes)
      → Lying held size boxes borders lengths texts (λ yards drawn. Grew yards drawn held strings noted notes notes (record { changed = m.changed; noted = noted }))
  unfolding Renoted
  grew_not tag noted notes yards drawn bytes stands = record { changed = (told yards drawn bytes stands).changed; notes = as_it_was m.changed tag } where
    as_it_was : (changed : Reply Held) → is_err changed ≡ true → Renoted held.names yards noted notes noted notes changed
    as_it_was (given h) t = let z : ◌≡◌ {A = ℕ} 0 1 = cc in absurd (omega arith)
    as_it_was (refused why) t = (refl, refl)

  values_stand : (yards : List Yard) (drawn : Drawn) → length drawn.bytes ≡ held.bytes + size → Stands yards drawn held.names (held.yards + 1) boxes borders lengths texts
      → Values yards held.names (held.yards + 1) lengths texts places
  values_stand yards drawn bytes stands =
      record {
        many = stands.many;
        lengths_are = stands.lengths_are;
        texts_are = stands.texts_are;
        begins = ap (gathered places) stands.many ∙ (told yards drawn bytes stands).begins;
        short = stands.short;
      }

  pub grew_into : is_err m.changed ≡ false → (noted : ℕ) (before after : Notes)
      → ((yards : List Yard) → Values yards held.names (held.yards + 1) lengths texts places → NotedLists held.names yards after)
      → Lying held size boxes borders lengths texts (λ yards drawn. Grew yards drawn held strings noted before after (record { changed = m.changed; noted = m.records + 1 }))
  unfolding Renoted
  grew_into tag noted before after lists yards drawn bytes stands = record { changed = (told yards drawn bytes stands).changed; notes = anew m.changed tag } where
    anew : (changed : Reply Held) → is_err changed ≡ false → Renoted held.names yards noted before (m.records + 1) after changed
    anew (given h) t = record { number = omega (arith, (told yards drawn bytes stands).records); lists = lists yards (values_stand yards drawn bytes stands) }
    anew (refused why) t = let z : ◌≡◌ {A = ℕ} 0 1 = cc in absurd (omega arith)
