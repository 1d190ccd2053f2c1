-- What one more yard does, whose record takes so many bytes more and begins there.
use Rattle.std.specs.Prelude.{◌+◌, ◌∷◌, ◌++◌, ◌≡◌}
use Rattle.numbers.specs.Prelude.{ℕ, length, true, List, [], map}
use Rattle.builder.specs.{Metadata.{layout_of, metadata_of, records_of}, Sharing.{same_texts, is_in}, Yards.{Yard}}
use Rattle.notes.specs.Noted.Records.{fields_in, begin_in}

pub record OneMore (yards : List Yard) (y : Yard) (by begin : ℕ) : Type 0 where
  pub metadata_on : length (metadata_of (records_of (yards ++ (y ∷ [])))) ≡ length (metadata_of (records_of yards)) + by
  pub layout_is : layout_of (fields_in (yards ++ (y ∷ []))) ≡ layout_of (fields_in yards) + by
  pub begins_on : (x : Yard) → is_in same_texts x.values (map (λ y. y.values) yards) ≡ true → begin_in (yards ++ (y ∷ [])) x ≡ begin_in yards x
  pub begin_is : begin_in (yards ++ (y ∷ [])) y ≡ begin
