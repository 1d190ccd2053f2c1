-- What `found_first` says of a bundle: where a zone's file lies.
use Rattle.std.specs.Prelude.{◌+◌, ◌*◌, ◌≤◌, ◌<◌, ◌≡◌}
use Rattle.numbers.specs.{Prelude.{ℕ, length, true, false, List}, Reply.{given}}
use Rattle.bundle.specs.{Bundle.{word_at, head_of, is_entry}, declared.{find.File.{File}, head.Head.{Head}}}

-- an entry of the index has the name, and none before it has
pub record First (bundle name : List ℕ) (index place : ℕ) : Type 0 where
  pub before : ℕ
  pub there : place ≡ index + 52 * before
  pub has : is_entry bundle name place ≡ true
  pub none : (k : ℕ) → k < before → is_entry bundle name (index + 52 * k) ≡ false

-- what is found lies in the bundle, and in its data; it is said by the first entry of the name
pub record FoundAt (bundle name : List ℕ) (file : File) : Type 0 where
  pub head : Head
  pub head_is : given head ≡ head_of bundle
  pub place : ℕ
  pub first : First bundle name head.index place
  pub starts : file.start ≡ head.start + word_at bundle (place + 40)
  pub lasts : file.length ≡ word_at bundle (place + 44)
  pub in_data : file.start + file.length ≤ head.end
  pub inside : file.start + file.length ≤ length bundle
