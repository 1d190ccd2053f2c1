-- Where a tile's list stands, by how far the tests came. Assumes nothing.
use Rattle.numbers.{proofs.{Prelude.{ℕ, ◌+◌, true, false, List, ◌≡◌, sym, ap, ◌∙◌}, Replies.{met, unmet}}, specs.Reply.{given, refused, plain}}
use Rattle.border.specs.declared.place.Point.{Point}
use Rattle.table.specs.{Find.{fix_of, is_precision}, declared.location.Location.{Location}}
use Rattle.header.specs.declared.header.Head.{Head}
use Rattle.index.specs.{Through.{start_of, is_inside, place_of}, Tied.{word_at, is_headed}, Tiles.{tile_of}}

-- the tile that was worked out is the location's
pub tile_same : (head : Head) (location : Location) {fix : Point} {t : ℕ} → fix ≡ fix_of location head.preamble.precision → t ≡ tile_of head.preamble.precision fix
    → t ≡ tile_of head.preamble.precision (fix_of location head.preamble.precision)
tile_same head location f e = e ∙ ap (tile_of head.preamble.precision) f

module _ (length : ℕ) (head : Head) (words : List ℕ) (location : Location) where
  abbrev precision : ℕ
  precision = head.preamble.precision

  abbrev tile : ℕ
  tile = tile_of precision (fix_of location precision)

  pub no_precision : is_precision precision ≡ false → refused (plain 16) ≡ place_of length head words location
  unfolding place_of
  no_precision p = unmet p (plain 16) _

  module _ (p : is_precision precision ≡ true) where
    pub no_head : is_headed words head.sections.metadata length ≡ false → refused (plain 36) ≡ place_of length head words location
    unfolding place_of
    no_head h = unmet h (plain 36) _ ∙ met p (plain 16) _

    module _ (h : is_headed words head.sections.metadata length ≡ true) where
      pub placed : is_inside words tile ≡ true → given (record { from = start_of words tile; end = start_of words (tile + 1) }) ≡ place_of length head words location
      unfolding place_of
      placed i = met i (plain 36) _ ∙ met h (plain 36) _ ∙ met p (plain 16) _

      module _ {t : ℕ} (same : t ≡ tile) where
        pub outside : is_inside words t ≡ false → refused (plain 36) ≡ place_of length head words location
        unfolding place_of
        outside i = unmet (ap (is_inside words) (sym same) ∙ i) (plain 36) _ ∙ met h (plain 36) _ ∙ met p (plain 16) _

        pub stands : is_inside words t ≡ true → {from end : ℕ} → from ≡ word_at words (3 + t) → end ≡ word_at words (3 + (t + 1)) →
            given (record { from = from; end = end }) ≡ place_of length head words location
        stands i {from} {end} f e = let first : from ≡ start_of words tile = f ∙ ap (start_of words) same in
            let last : end ≡ start_of words (tile + 1) = e ∙ ap (λ (k : ℕ). start_of words (k + 1)) same in
            (λ i. given (record { from = first i; end = last i })) ∙ placed (ap (is_inside words) (sym same) ∙ i)
