-- What opening a built file says.
use Rattle.std.specs.Prelude.{◌∷◌, ◌++◌}
use Rattle.numbers.specs.{Lists.{padded}, Prelude.{ℕ, length, List, [], flat_map}, Reply.{given}}
use Rattle.builder.specs.Yards.{Plan}
use Rattle.header.specs.{Field.{entry}, Opening.{Replied}}

-- names, then notice, as they go out
unfoldable pub texts_out : Plan → List ℕ
texts_out plan = flat_map entry (plan.names ++ (plan.notice ∷ []))

-- the reply of opening, and the whole lent text
abbrev pub opened_as : Plan → ℕ → Replied
opened_as plan room = record {
  reply = given (record { kind = plan.kind; version = plan.version; precision = plan.precision; count = length plan.names; used = length (texts_out plan) });
  text = padded room (texts_out plan);
}
