-- How a salvaged file opens.
use Rattle.std.specs.Prelude.{◌≡◌}
use Rattle.numbers.specs.{Prelude.{ℕ, true, false, List}, Reply.{given}}
use Rattle.header.specs.{Header.{head_by}, declared.header.Head.{Head}}
use Rattle.salvage.specs.{Promises.{KeptAs}, Salvage.{Salvaged}}
use Rattle.table.specs.Rows.{rows_in}

-- a file that opens strictly
pub record OpensStrictly (file : List ℕ) : Type 0 where
  pub head : Head
  pub opens : head_by true file ≡ given head

-- both files read plainly: the new one's entries are the kept ones, in order, as the old one has them
pub record KeptPlainly (file : List ℕ) (s : Salvaged) : Type 0 where
  pub old_head : Head
  pub new_head : Head
  pub old_opens : head_by false file ≡ given old_head
  pub new_opens : head_by false s.file ≡ given new_head
  pub entries : KeptAs file s.file old_head new_head s.kept (rows_in s.file new_head)
