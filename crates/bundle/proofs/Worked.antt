-- A bundle of two zones, worked by computation: both are found, a third is not, and each fault of the head and of an entry has its place.
use Rattle.numbers.{proofs.Prelude.{ℕ, take, set, List, [], ◌∷◌, ◌++◌, map, ◌≡◌, refl}, specs.{Lists.{padded, zeros}, Reply.{Reply, given, refused}}}
use Rattle.bundle.specs.{Bundle.{word_at, agrees, magic, head_of, is_entry, seek_of, find_of}, declared.find.File.{File}}

-- a number below 256 in four bytes
word : ℕ → List ℕ
word n = 0 ∷ 0 ∷ 0 ∷ n ∷ []

entry : List ℕ → ℕ → ℕ → List ℕ
entry name begin size = padded 40 name ++ word begin ++ word size ++ word 0

-- `tzdata2026a`, the index at 24, the data from 128 to 134: A with two bytes, B/C with four
pub two : List ℕ
two = magic ++ (50 ∷ 48 ∷ 50 ∷ 54 ∷ 97 ∷ 0 ∷ []) ++ word 24 ++ word 128 ++ word 134 ++ entry (65 ∷ []) 0 2 ++ entry (66 ∷ 47 ∷ 67 ∷ []) 2 4 ++ zeros 6

pub data Worked : Type 0 where
  file : ℕ → ℕ → Worked
  not : ℕ → ℕ → Worked

shown_as : Reply File → Worked
shown_as (given f) = file f.start f.length
shown_as (refused why) = not why.number why.detail

pub record Row : Type 0 where
  pub bundle : List ℕ
  pub name : List ℕ
  pub says : Worked

row : List ℕ → List ℕ → Worked → Row
row bundle name says = record { bundle = bundle; name = name; says = says }

pub computed : Row → Row
computed r = record { bundle = r.bundle; name = r.name; says = shown_as (find_of r.bundle r.name) }

pub worked : List Row
worked =
    row two (65 ∷ []) (file 128 2) ∷ row two (66 ∷ 47 ∷ 67 ∷ []) (file 130 4) ∷ row two (66 ∷ []) (not 88 0) ∷ row (take 23 two) (65 ∷ []) (not 89 0) ∷ row
    (set two 11 1) (65 ∷ []) (not 89 11) ∷ row (set two 15 23) (65 ∷ []) (not 89 12) ∷ row (set two 19 127) (65 ∷ []) (not 89 16) ∷ row (take 133 two)
    (65 ∷ []) (not 89 20) ∷ row (set two 71 7) (65 ∷ []) (not 89 24) ∷ row (set two 71 7) (66 ∷ 47 ∷ 67 ∷ []) (file 130 4) ∷ []

pub worked_hold : map computed worked ≡ worked
unfolding worked computed row shown_as two entry word word_at agrees head_of is_entry seek_of find_of
worked_hold = refl
