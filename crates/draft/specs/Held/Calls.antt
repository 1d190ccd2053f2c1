-- One call after another.
use Rattle.std.specs.Prelude.{◌∷◌}
use Rattle.numbers.specs.{Prelude.{ℕ, List, []}, Reply.{Reply, given, refused}}
use Rattle.builder.specs.Yards.{Text}
use Rattle.draft.specs.Held.{Builder.{Builder, Offered, add, drop_last, replace, clear}, Space.{Space}}

pub data Call : Type 0 where
  add_yard : Offered → Space → Call
  drop_yard : Space → Call
  replace_value : ℕ → ℕ → Text → Space → Call
  clear_all : Call

unfoldable pub called : Builder → Call → Reply Builder
called b (add_yard o space) = add b o space
called b (drop_yard space) = drop_last b space
called b (replace_value yard field text space) = replace b yard field text space
called b clear_all = given (clear b)

-- the builder after a call: "a refused call changes none of them"
unfoldable pub after : Builder → Reply Builder → Builder
after b (given next) = next
after b (refused why) = b

unfoldable pub ran : Builder → List Call → Builder
ran b [] = b
ran b (call ∷ calls) = ran (after b (called b call)) calls
