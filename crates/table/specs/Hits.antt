-- Hits in the lent words. A slot with kind 0 holds none.
use Rattle.numbers.specs.Prelude.{ℕ, get_or, set, List, []}
use Rattle.std.specs.Prelude.{◌≢◌, ◌+◌, ◌*◌, ◌∷◌, ◌++◌}
use Rattle.table.specs.declared.hits.Hit.{Hit}

-- a hit takes four words
abbrev pub width : ℕ
width = 4

abbrev pub hit_of : ℕ → ℕ → ℕ → ℕ → Hit
hit_of polygon metadata kind place = record { polygon = polygon; metadata = metadata; kind = kind; place = place }

-- polygon id, metadata id, kind, the file place of its entry
abbrev pub words_of : Hit → List ℕ
words_of hit = hit.polygon ∷ hit.metadata ∷ hit.kind ∷ hit.place ∷ []

unfoldable pub words : List Hit → List ℕ
words [] = []
words (hit ∷ hits) = words_of hit ++ words hits

-- the hits that a list of words has; words left over have none
unfoldable pub slots : List ℕ → List Hit
slots [] = []
slots (a ∷ []) = []
slots (a ∷ b ∷ []) = []
slots (a ∷ b ∷ c ∷ []) = []
slots (a ∷ b ∷ c ∷ d ∷ ws) = hit_of a b c d ∷ slots ws

abbrev pub no_hit : Hit
no_hit = hit_of 0 0 0 0

-- every slot holds a hit
unfoldable pub Real : List Hit → Type 0
Real [] = Unit
Real (hit ∷ hits) = (hit.kind ≢ 0) × Real hits

-- the hit in a slot, and one put there
abbrev pub hit_at : List ℕ → ℕ → Hit
hit_at ws i = hit_of (get_or ws (width * i) 0) (get_or ws (width * i + 1) 0) (get_or ws (width * i + 2) 0) (get_or ws (width * i + 3) 0)

abbrev pub put_hit : List ℕ → ℕ → Hit → List ℕ
put_hit ws i hit = set (set (set (set ws (width * i) hit.polygon) (width * i + 1) hit.metadata) (width * i + 2) hit.kind) (width * i + 3) hit.place
